-- One datanode after another is told.
use Rattle.std.proofs.Common.{◌≡◌, ◌<◌, ◌+◌, ℕ, List, [], ◌∷◌, ◌++◌, length, take, refl, sym, ◌∙◌, ap, subst, arith}
use Rattle.std.proofs.lemmas.List.{map-append, take_all, take_more}
use Rattle.hdfs_mem_faults.specs.Calls.{one_if}
use Rattle.hdfs_mem_faults.specs.Plans.{Counts, fails_at}
use Rattle.hdfs_mem_faults.specs.Series.{acks_of}
use Rattle.hdfs_mem_faults.proofs.Following.{counts_follows}
use Rattle.hdfs_cluster.specs.declared.messages.DatanodeInfo.{DatanodeInfo}
use Rattle.hdfs_cluster.specs.Sending.{uuids}
use Rattle.hdfs_mem_cluster.specs.Telling.{TellsAll}
use Rattle.hdfs_mem_cluster.proofs.Telling.{same_plans_trans, same_links_trans, tells_more, tells_none}
use Rattle.hdfs_mem_cluster.proofs.write_link.tell_all.Goals as goal

pub loop-node-init : goal.loop-node-init
loop-node-init c =
    let plan = c.args.faults.now in
    record {
      tells = subst (λ (ss : List ℕ). TellsAll (fails_at plan) plan [] ss plan) (sym c.requires.empty) (tells_none (fails_at plan) plan);
      goes_on = λ loaded follows. follows;
      plans = record { there = λ d. refl; fails = λ s nth. refl; kinds = λ nth. refl; packets = λ d nth. refl; asks = λ i nth. refl };
      links = record { faults = refl; bad = λ link. refl };
      len = c.requires.none;
      room = refl;
    }

pub push_reserved-requires : goal.push_reserved-requires
push_reserved-requires c =
    let within : c.loop-node.node-index < length c.args.locs.now = omega arith in
    omega (arith, c.loop-node.invariant.len, c.loop-node.invariant.room, c.requires.room, within)

pub loop-node-preserved : goal.loop-node-preserved
loop-node-preserved c =
    let was = c.loop-node.invariant in
    let old = c.args.faults.now in
    let mid = c.loop-node.faults in
    let new = c.ack-failed.new.self in
    let locs = c.args.locs.now in
    let i = c.loop-node.node-index in
    let node = c.node-item.result in
    let within : i < length locs = omega arith in
    let u = node.id.datanode_uuid in
    let failed = c.ack-failed.result in
    let counts = subst (λ (x : List ℕ). Counts mid (acks_of x) failed new) c.as_str.ensures c.ack-failed.ensures in
    let more : take (i + 1) locs ≡ take i locs ++ node ∷ [] = take_more locs i node within ∙ ap (λ (n : DatanodeInfo). take i locs ++ n ∷ []) (sym c.node-item.is) in
    let told : uuids (take (i + 1) locs) ≡ uuids (take i locs) ++ u ∷ [] = ap uuids more ∙ map-append (λ (n : DatanodeInfo). n.id.datanode_uuid) (take i locs) (node ∷ []) in
    let statuses : c.push_reserved.new.self.items ≡ c.loop-node.statuses.items ++ one_if failed ∷ [] =
    c.push_reserved.ensures.items ∙ ap (λ (s : ℕ). c.loop-node.statuses.items ++ s ∷ []) c.status.ensures in
    record {
      tells = subst (λ (us : List (List ℕ)). TellsAll (fails_at old) old us c.push_reserved.new.self.items new) (sym told)
          (subst (λ (ss : List ℕ). TellsAll (fails_at old) old (uuids (take i locs) ++ u ∷ []) ss new) (sym statuses)
          (tells_more old mid new (uuids (take i locs)) c.loop-node.statuses.items u failed was.tells was.plans counts));
      goes_on = λ loaded follows. counts_follows mid new loaded (acks_of u) failed counts (was.goes_on loaded follows);
      plans = same_plans_trans old mid new was.plans counts.call.plans;
      links = same_links_trans old mid new was.links counts.links;
      len = omega (arith, c.push_reserved.ensures.len, was.len);
      room = c.push_reserved.ensures.capacity ∙ was.room;
    }

pub returns-clause-tells : goal.returns-clause-tells
returns-clause-tells c =
    let all : take c.loop-node.node-index c.args.locs.now ≡ c.args.locs.now = take_all c.loop-node.node-index c.args.locs.now c.loop-node-test.false in
    subst (λ (xs : List DatanodeInfo). TellsAll (fails_at c.args.faults.now) c.args.faults.now (uuids xs) c.loop-node.statuses.items c.loop-node.faults) all c.loop-node.invariant.tells
