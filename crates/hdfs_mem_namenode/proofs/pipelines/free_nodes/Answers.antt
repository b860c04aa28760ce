-- One datanode more is put in where it isn't barred; once they are as many, none is any more.
use Rattle.std.proofs.Common.{◌<◌, ℕ, ◌++◌, ◌∷◌, [], List, length, sym, ◌∙◌, ap, subst, arith}
use Rattle.std.specs.BTreeSet.{contains_text}
use Rattle.std.specs.List.{IsDistinct}
use Rattle.std.specs.Str.{bytes_eq}
use Rattle.hdfs_mem_namenode.specs.Adding.{free_nodes}
use Rattle.hdfs_mem_namenode.proofs.Placing.{free_apart, free_barred, free_full, free_next}
use Rattle.hdfs_mem_namenode.proofs.pipelines.free_nodes.Goals.{then-not-contains+in_ok-push, else-not-contains}
use Rattle.hdfs_mem_namenode.proofs.pipelines.free_nodes.Goals as goal

pub returns-then-as_slice-most-clause-free : goal.returns-then-as_slice-most-clause-free
returns-then-as_slice-most-clause-free c =
    let f = contains_text c.args.barred.now in
    let n = c.loop-number.number in
    let is = c.loop-number.invariant in
    is ∙ sym (free_full f c.args.most n c.args.nodes.now.count (omega (arith, c.loop-number-test.true)) (omega (arith, c.if-as_slice-most.true, ap length c.as_slice.ensures, ap length is)))

pub returns-then-as_slice-most-clause-apart : goal.returns-then-as_slice-most-clause-apart
returns-then-as_slice-most-clause-apart c =
    subst (IsDistinct bytes_eq) (sym c.loop-number.invariant) (free_apart (contains_text c.args.barred.now) c.args.most c.loop-number.number (omega (arith, c.loop-number-test.true)))

pub loop-number-preserved : goal.loop-number-preserved
loop-number-preserved c =
    let f = contains_text c.args.barred.now in
    let most = c.args.most in
    let n = c.loop-number.number in
    let is = c.loop-number.invariant in
    let fewer : length (free_nodes f most n) < most = omega (arith, c.if-as_slice-most.false, ap length c.as_slice.ensures, ap length is) in
    let text = c.as_str.ensures.value ∙ c.in_ok-uuid.ensures in
    elim c.if-not-contains.branch [
      | then-not-contains+in_ok-push w ↦
          w.free-is ∙ w.in_ok-push.ensures.ok
          ∙ ap (λ (ns : List (List ℕ)). ns ++ w.from_string.result ∷ []) is
          ∙ ap (λ (u : List ℕ). free_nodes f most n ++ u ∷ []) (w.from_string.ensures ∙ c.in_ok-uuid.ensures)
          ∙ sym (free_next f most n fewer (ap f (sym text) ∙ sym c.contains.ensures ∙ w.if-not-contains.true))
      | else-not-contains w ↦ w.free-is ∙ is ∙ sym (free_barred f most n (ap f (sym text) ∙ sym c.contains.ensures ∙ w.if-not-contains.false))
    ]

pub returns-clause-apart : goal.returns-clause-apart
returns-clause-apart c =
    subst (IsDistinct bytes_eq) (sym c.loop-number.invariant) (free_apart (contains_text c.args.barred.now) c.args.most c.loop-number.number (omega arith))
