-- Each datanode stays, and one more comes.
use Rattle.std.proofs.Common.{⊎_elim, ℕ, ◌<◌, is_some, refl, ap, arith, ◌∙◌}
use Rattle.std.proofs.lemmas.Bool.{cases_eq}
use Rattle.hdfs_mem_faults.specs.Series.{uuid_of}
use Rattle.hdfs_mem_faults.specs.NodePlans.{node_at}
use Rattle.hdfs_mem_faults.proofs.Updating.{adds_only_refl, adds_only_trans}
use Rattle.hdfs_mem_faults.proofs.nodes.Nodes.add.Goals as goal

pub loop-number-init : goal.loop-number-init
loop-number-init c = record { there = λ k below. absurd (omega (arith, below)); others = λ d apart. refl; rest = λ d. adds_only_refl (node_at c.args.self.now d) }

pub loop-number-preserved : goal.loop-number-preserved
loop-number-preserved c =
    let was = c.loop-number.self in
    record {
      there = λ k below. ⊎_elim
          (λ same. ap (λ (n : ℕ). is_some (node_at c.make.new.self (uuid_of n))) same ∙ c.in_ok-make.ensures.there)
          (λ apart. (c.make.ensures.rest (uuid_of k)).there (c.loop-number.invariant.there k (omega (arith, below, apart))))
          (cases_eq k c.loop-number.number);
      others = λ d apart. c.make.ensures.others d (apart c.loop-number.number (omega arith)) ∙ c.loop-number.invariant.others d (λ k below. apart k (omega (arith, below)));
      rest = λ d. adds_only_trans (node_at c.args.self.now d) (node_at was d) (node_at c.make.new.self d) (c.loop-number.invariant.rest d) (c.make.ensures.rest d);
    }

pub returns-in_err-make-clause-rest : goal.returns-in_err-make-clause-rest
returns-in_err-make-clause-rest c = λ d.
    adds_only_trans (node_at c.args.self.now d) (node_at c.loop-number.self d) (node_at c.make.new.self d) (c.loop-number.invariant.rest d) (c.make.ensures.rest d)

pub returns-in_err-make-clause-others : goal.returns-in_err-make-clause-others
returns-in_err-make-clause-others c = λ d apart.
    let below : c.loop-number.number < c.args.count = omega arith in
    c.make.ensures.others d (apart c.loop-number.number below) ∙ c.loop-number.invariant.others d (λ k less. apart k (omega (arith, less, below)))
