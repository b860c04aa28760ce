-- One target is given the bytes after another.
use Rattle.std.proofs.Common.{◌≡◌, inl, inr, ◌<◌, ℕ, Bool, false, ◌&&◌, ◌||◌, eqb, List, length, take, sym, ◌∙◌, ap, subst, rules, arith}
use Rattle.std.specs.Str.{bytes_eq}
use Rattle.hdfs_mem_datanodes.specs.Nodes.{held_in, replica_at, is_named}
use Rattle.hdfs_mem_datanodes.specs.Replicas.{IsGiven, MayBeGiven}
use Rattle.hdfs_mem_datanodes.proofs.Giving.{given_kept, may_be_kept, node_cases, on_parts, same_replica_trans, take_on}
use Rattle.hdfs_mem_datanodes.proofs.Nodes.{here_false}
use Rattle.hdfs_mem_datanodes.proofs.Pipelines.{named_cases, named_more, same_nodes_trans}
use Rattle.hdfs_mem_datanodes.proofs.datanodes.Datanodes.give.Goals as goal

pub loop-node-init : goal.loop-node-init
loop-node-init c = record {
  given = λ d named. absurd (cc);
  some = λ d. inl (c.read.ensures.same d c.args.block);
  others = λ d b apart. c.read.ensures.same d b;
  rest = c.read.ensures.rest;
}

pub loop-node-preserved : goal.loop-node-preserved
loop-node-preserved c =
    let was = c.loop-node.invariant in
    let old = c.args.self.now in
    let now = c.loop-node.self in
    let new = c.give_to.new.self in
    let block = c.args.block in
    let locs = c.args.targets.now in
    let i = c.loop-node.node-index in
    let node = c.node-item.result in
    let uuid = c.as_str.result.now in
    let given = held_in old c.args.source.now block in
    let within : i < length locs = omega arith in
    let shared : c.in_ok-clone.field-0 ≡ c.in_ok-bytes.bytes = search rules in
    let bytes : c.in_ok-clone.field-0 ≡ given = shared ∙ c.in_ok-bytes.ensures.bytes in
    let here : IsGiven given (replica_at new uuid block) = subst (λ (bs : List ℕ). IsGiven bs (replica_at new uuid block)) bytes c.in_ok-give_to.ensures.given in
    let apart_here = λ (d : List ℕ) (apart : d ≡ uuid → ⊥). c.give_to.ensures.others d block (here_false uuid block d block (λ same other. apart same)) in
    record {
      given = λ d. named_cases locs i node c.node-item.is within (IsGiven given (replica_at new d block)) d
          (λ same. subst (λ (u : List ℕ). IsGiven given (replica_at new u block)) (c.as_str.ensures ∙ sym same) here)
          (λ apart before. given_kept given (replica_at now d block) (replica_at new d block) (apart_here d (λ same. apart (same ∙ c.as_str.ensures))) (was.given d before));
      some = λ d. node_cases (MayBeGiven given (replica_at old d block) (replica_at new d block)) d uuid
          (λ same. inr (subst (λ (u : List ℕ). IsGiven given (replica_at new u block)) (sym same) here))
          (λ apart. may_be_kept given (replica_at old d block) (replica_at now d block) (replica_at new d block) (apart_here d apart) (was.some d));
      others = λ d b apart.
          (let on : ((is_named (take i locs) d || bytes_eq d uuid) && eqb block b) ≡ false =
          ap (λ (u : List ℕ). (is_named (take i locs) d || bytes_eq d u) && eqb block b) c.as_str.ensures
          ∙ ap (λ (t : Bool). t && eqb block b) (sym (named_more locs i node c.node-item.is within d)) ∙ apart in
          let parts = on_parts (is_named (take i locs) d) (bytes_eq d uuid) (eqb block b) on in
          same_replica_trans (replica_at old d b) (replica_at now d b) (replica_at new d b) (was.others d b parts.0) (c.give_to.ensures.others d b parts.1));
      rest = same_nodes_trans old now new was.rest c.give_to.ensures.rest;
    }

pub returns-in_err-clone-clause-others : goal.returns-in_err-clone-clause-others
returns-in_err-clone-clause-others c = λ d b apart. c.loop-node.invariant.others d b (take_on c.args.targets.now c.loop-node.node-index c.args.block d b apart)

pub returns-in_err-give_to-clause-others : goal.returns-in_err-give_to-clause-others
returns-in_err-give_to-clause-others c = λ d b apart.
    same_replica_trans (replica_at c.args.self.now d b) (replica_at c.loop-node.self d b) (replica_at c.give_to.new.self d b)
    (c.loop-node.invariant.others d b (take_on c.args.targets.now c.loop-node.node-index c.args.block d b apart)) (c.in_err-give_to.ensures.err d b)
