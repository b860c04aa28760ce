-- What is planned stays planned, and no more numbers are than a tally has.
use Rattle.std.proofs.Common.{◌^◌, ◌<◌, arith}
use Rattle.std.specs.BTreeMap.{btree_map_len}
use Rattle.hdfs_mem_faults.proofs.Failing.{few_stay, fails-more, is_kind}
use Rattle.hdfs_mem_faults.proofs.Linking.{kinds_stay}
use Rattle.hdfs_mem_faults.proofs.links.Links.plan.Goals as goal

pub invariant_of-self : goal.invariant_of-self
invariant_of-self c =
    let old = c.args.self.now in
    let below : btree_map_len old.kinds < 2 ^ 60 = omega (arith, c.if-len-ge-MOST.false, c.len.ensures.len) in
    let more = fails-more (is_kind old.kinds) (is_kind c.insert.new.self) old.set_ups
    (λ k is. kinds_stay c.insert.result old.kinds c.insert.new.self c.args.nth k c.args.kind c.insert.ensures.updates c.insert.ensures.err is) in
    record {
      fits = old.fits;
      few = few_stay c.insert.result old.kinds c.insert.new.self (2 ^ 60) c.insert.ensures.len c.insert.ensures.err below;
      counted = λ d. omega (arith, old.counted d, more);
    }
