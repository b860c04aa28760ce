-- Texts of which each is taken once are some of those that were there, and no two of them are the same.
use Rattle.std.proofs.Common.{◌≡◌, ℕ, Bool, true, false, cond, List, [], ◌∷◌, ◌++◌, refl, ◌∙◌}
use Rattle.std.proofs.lemmas.Bool.{or_parts}
use Rattle.std.proofs.lemmas.List.Elements.{All-append, All-cons, All-head, All-nil, All-tail}
use Rattle.std.proofs.lemmas.Map.Keys.{IsDistinct-cons, IsDistinct-head, IsDistinct-tail}
use Rattle.std.specs.List.{All, AllByRecursion, IsDistinct, fold, list_any}
use Rattle.std.specs.Str.{bytes_eq}
use Rattle.hdfs_mem_namenode.specs.Adding.{each_once, with_text}
use Rattle.hdfs_mem_namenode.proofs.Naming.{bytes_eq_flip}

-- what holds of each of them holds of each that is taken
all_behind : (P : List ℕ → Type 0) (taken texts : List (List ℕ)) → All P taken → All P texts → All P (fold with_text taken texts)
all_behind P taken [] held more = held
all_behind P taken (text ∷ texts) held more =
    all_behind P (with_text taken text) texts (one_more (list_any (bytes_eq text) taken)) (All-tail P text texts more)
  where
    one_more : (b : Bool) → All P (cond b taken (taken ++ text ∷ []))
    one_more true = held
    one_more false = All-append P taken (text ∷ []) held (All-cons P text [] (All-head P text texts more) (All-nil P))

pub all_once : (P : List ℕ → Type 0) (texts : List (List ℕ)) → All P texts → All P (each_once texts)
all_once P texts more = all_behind P [] texts (All-nil P) more

-- one more behind the others
all_push : (P : List ℕ → Type 0) (texts : List (List ℕ)) (text : List ℕ) → AllByRecursion P texts → P text → AllByRecursion P (texts ++ text ∷ [])
all_push P [] text held here = (here, tt)
all_push P (first ∷ texts) text held here = (held.0, all_push P texts text held.1 here)

none_apart : (P : List ℕ → Type 0) → AllByRecursion P []
none_apart P = tt

pub distinct_push : (texts : List (List ℕ)) (text : List ℕ) → list_any (bytes_eq text) texts ≡ false → IsDistinct bytes_eq texts
    → IsDistinct bytes_eq (texts ++ text ∷ [])
distinct_push [] text apart distinct = IsDistinct-cons bytes_eq text [] (none_apart (λ y. bytes_eq text y ≡ false)) distinct
distinct_push (first ∷ texts) text apart distinct =
    let parts = or_parts (bytes_eq text first) (list_any (bytes_eq text) texts) apart in
    IsDistinct-cons bytes_eq first (texts ++ text ∷ [])
    (all_push (λ y. bytes_eq first y ≡ false) texts text (IsDistinct-head bytes_eq first texts distinct) (bytes_eq_flip first text ∙ parts.0))
    (distinct_push texts text parts.1 (IsDistinct-tail bytes_eq first texts distinct))

distinct_behind : (taken texts : List (List ℕ)) → IsDistinct bytes_eq taken → IsDistinct bytes_eq (fold with_text taken texts)
distinct_behind taken [] distinct = distinct
distinct_behind taken (text ∷ texts) distinct =
    distinct_behind (with_text taken text) texts (one_more (list_any (bytes_eq text) taken) refl)
  where
    one_more : (b : Bool) → list_any (bytes_eq text) taken ≡ b → IsDistinct bytes_eq (cond b taken (taken ++ text ∷ []))
    one_more true is = distinct
    one_more false is = distinct_push taken text is distinct

-- no two are the same
pub once_apart : (texts : List (List ℕ)) → IsDistinct bytes_eq (each_once texts)
unfolding IsDistinct
once_apart texts = distinct_behind [] texts tt
