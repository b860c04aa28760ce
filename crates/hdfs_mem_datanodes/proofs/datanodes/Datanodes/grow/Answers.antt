-- One datanode joins after another.
use Rattle.std.proofs.Common.{◌≡◌, ⊎_elim, ℕ, true, is_some, sym, ◌∙◌, refl, subst, arith}
use Rattle.std.proofs.lemmas.Bool.{cases_eq}
use Rattle.hdfs_mem_faults.specs.Series.{uuid_of}
use Rattle.hdfs_mem_datanodes.specs.Nodes.{node_at}
use Rattle.hdfs_mem_datanodes.proofs.Nodes.{joins_refl, joins_trans}
use Rattle.hdfs_mem_datanodes.proofs.datanodes.Datanodes.grow.Goals as goal

pub loop-number-init : goal.loop-number-init
loop-number-init c = record {
  joins = λ d. joins_refl (node_at c.args.self.now d);
  numbered = λ k below. absurd (omega (arith, below));
  count = refl;
}

pub loop-number-preserved : goal.loop-number-preserved
loop-number-preserved c =
    let was = c.loop-number.invariant in
    let now = c.loop-number.self in
    let new = c.join.new.self in
    record {
      joins = λ d. joins_trans (node_at c.args.self.now d) (node_at now d) (node_at new d) (was.joins d) (c.join.ensures.joins d);
      numbered = λ k below. ⊎_elim
          (λ same. subst (λ (n : ℕ). is_some (node_at new (uuid_of n)) ≡ true) (sym same) c.in_ok-join.ensures.there)
          (λ apart. (c.join.ensures.joins (uuid_of k)).there (was.numbered k (omega (arith, below, apart))))
          (cases_eq k c.loop-number.number);
      count = c.join.ensures.count ∙ was.count;
    }
