-- What stands before the first slash, and that there is none.
use Rattle.std.proofs.Common.{◌≡◌, ◌≢◌, ℕ, suc, ◌<◌, Bool, false, ◌||◌, List, [], ◌∷◌, length, get_or, lit<, eqb, refl, ◌∙◌, ap, arith}
use Rattle.std.proofs.lemmas.Bool.Decides.{nat_tests}
use Rattle.std.proofs.lemmas.Str.Pattern.{split_parts}
use Rattle.std.specs.List.{list_any}
use Rattle.hdfs_names.specs.Paths.{is_slash}
use Rattle.hdfs_mem_namenode.proofs.listing.first_part.Goals as goal

other : (c : ℕ) → c ≢ 47 → eqb c 47 ≡ false
other c apart = grind (arith, nat_tests)

no_slash : (text : List ℕ) → ((i : ℕ) → i < length text → get_or text i 0 ≢ 47) → list_any is_slash text ≡ false
no_slash [] none = refl
no_slash (c ∷ text) none = ap (λ (b : Bool). b || list_any is_slash text) (other c (none 0 (omega arith))) ∙ no_slash text (λ i within. none (suc i) (omega (arith, within)))

pub returns-in-None : goal.returns-in-None
returns-in-None c = no_slash c.args.text.now (rw c.in-None.is at (split_parts 47 c.args.text.now c.split_once.result c.split_once.ensures.cases (lit< tt)))

pub returns-in-Some : goal.returns-in-Some
returns-in-Some c = let parts = rw c.in-Some.is at (split_parts 47 c.args.text.now c.split_once.result c.split_once.ensures.cases (lit< tt)) in (_, parts.0)
