-- The first refusal that holds.
use Rattle.std.proofs.Common.{◌≡◌, Bool, true, false, cond, Some, None, refl, sym, ◌∙◌, ap}
use Rattle.hdfs_cluster.specs.Files.{NotDirectory, Missing}
use Rattle.hdfs_cluster.specs.Refusals.{Exists, Lacks}
use Rattle.hdfs_mem_namenode.proofs.namespace.Namespace.refuses.Goals as goal

below : (a b c : Bool) → a ≡ false → b ≡ true → cond a (Some Exists) (cond b (Some (Lacks NotDirectory)) (cond c (Some (Lacks Missing)) None)) ≡ Some (Lacks NotDirectory)
below a b c is is' = ap (λ (x : Bool). cond x (Some Exists) (cond b (Some (Lacks NotDirectory)) (cond c (Some (Lacks Missing)) None))) is ∙ ap (λ (x : Bool). cond x (Some (Lacks NotDirectory)) (cond c (Some (Lacks Missing)) None)) is'

above : (a b c : Bool) → a ≡ false → b ≡ false → cond a (Some Exists) (cond b (Some (Lacks NotDirectory)) (cond c (Some (Lacks Missing)) None)) ≡ cond c (Some (Lacks Missing)) None
above a b c is is' = ap (λ (x : Bool). cond x (Some Exists) (cond b (Some (Lacks NotDirectory)) (cond c (Some (Lacks Missing)) None))) is ∙ ap (λ (x : Bool). cond x (Some (Lacks NotDirectory)) (cond c (Some (Lacks Missing)) None)) is'

pub returns-then-is_below_file : goal.returns-then-is_below_file
returns-then-is_below_file c = (Lacks NotDirectory, below _ _ _ c.in_default.ensures (sym c.is_below_file.ensures ∙ c.if-is_below_file.true), refl)

pub returns-then-lacks_parent : goal.returns-then-lacks_parent
returns-then-lacks_parent c =
    (Lacks Missing, above _ _ _ c.in_default.ensures (sym c.is_below_file.ensures ∙ c.if-is_below_file.false) ∙ ap (λ (x : Bool). cond x (Some (Lacks Missing)) None) (sym c.lacks_parent.ensures ∙ c.if-lacks_parent.true), refl)

pub returns : goal.returns
returns c = above _ _ _ c.in_default.ensures (sym c.is_below_file.ensures ∙ c.if-is_below_file.false) ∙ ap (λ (x : Bool). cond x (Some (Lacks Missing)) None) (sym c.lacks_parent.ensures ∙ c.if-lacks_parent.false)

in_the_way : (a b c : Bool) → a ≡ true → cond a (Some Exists) (cond b (Some (Lacks NotDirectory)) (cond c (Some (Lacks Missing)) None)) ≡ Some Exists
in_the_way a b c is = ap (λ (x : Bool). cond x (Some Exists) (cond b (Some (Lacks NotDirectory)) (cond c (Some (Lacks Missing)) None))) is

pub returns-in-Some : goal.returns-in-Some
returns-in-Some c = (Exists, in_the_way _ _ _ c.in-Some.ensures.0, c.in-Some.ensures.1)
