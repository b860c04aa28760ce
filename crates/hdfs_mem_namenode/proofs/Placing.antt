-- The lowest-numbered datanodes that aren't barred, and no more than so many.
use Rattle.std.proofs.Common.{◌≡◌, ⊎_elim, ℕ, zero, suc, ◌+◌, ◌^◌, ◌<◌, ◌≤◌, nat_lt, Bool, true, false, cond, not, ◌&&◌, ◌||◌, List, [], ◌∷◌, ◌++◌, length, Option, Some, None, codes, refl, sym, ◌∙◌, ap, subst, arith, length-append}
use Rattle.std.proofs.lemmas.Bool.{cases_eq, false≢true}
use Rattle.std.proofs.lemmas.Bool.Decides.{nat_tests}
use Rattle.std.proofs.lemmas.Fmt.{decimal_injective}
use Rattle.std.proofs.lemmas.List.{append_cancel_left}
use Rattle.std.proofs.lemmas.List.Elements.{All-head, All-nil, All-push, All-tail}
use Rattle.std.proofs.lemmas.Slice.Eq.{bytes_eq-Decides}
use Rattle.std.specs.Fmt.{decimal}
use Rattle.std.specs.List.{All, IsDistinct, list_any}
use Rattle.std.specs.Prelude.{MatchOption}
use Rattle.std.specs.Str.{bytes_eq}
use Rattle.hdfs_mem_faults.specs.Series.{uuid_of}
use Rattle.hdfs_mem_namenode.specs.Adding.{free_nodes, with_free}
use Rattle.hdfs_mem_namenode.specs.Pipelines.{AreBarred}
use Rattle.hdfs_mem_namenode.proofs.EachOnce.{distinct_push}

-- datanodes of different numbers have different uuids
pub uuid_injective : (d e : ℕ) → d < 2 ^ 64 → e < 2 ^ 64 → uuid_of d ≡ uuid_of e → d ≡ e
uuid_injective d e low below is = decimal_injective d e low below (append_cancel_left (codes "dn") (decimal d) (decimal e) is)

none_any : (test : List ℕ → Bool) (texts : List (List ℕ)) → All (λ text. test text ≡ false) texts → list_any test texts ≡ false
none_any test [] all = refl
none_any test (text ∷ texts) all =
    ap (λ (b : Bool). b || list_any test texts) (All-head (λ text. test text ≡ false) text texts all) ∙ none_any test texts (All-tail (λ text. test text ≡ false) text texts all)

less_test : (a b : ℕ) → a < b → nat_lt a b ≡ true
less_test a b is = grind (arith, nat_tests)

not_less : (a b : ℕ) → b ≤ a → nat_lt a b ≡ false
not_less a b is = grind (arith, nat_tests)

module _ (barred : List ℕ → Bool) (most : ℕ) where
  abbrev free : ℕ → List (List ℕ)
  free n = free_nodes barred most n

  pub free_more : (n : ℕ) → free (n + 1) ≡ with_free barred most (free n) (uuid_of n)
  free_more n = let next : n + 1 ≡ suc n = omega arith in ap free next

  -- one that isn't barred is added while they are fewer
  pub free_next : (n : ℕ) → length (free n) < most → barred (uuid_of n) ≡ false → free (n + 1) ≡ free n ++ uuid_of n ∷ []
  free_next n fewer is =
      free_more n ∙ ap (λ (a : Bool). cond (a && not (barred (uuid_of n))) (free n ++ uuid_of n ∷ []) (free n)) (less_test (length (free n)) most fewer)
      ∙ ap (λ (b : Bool). cond (not b) (free n ++ uuid_of n ∷ []) (free n)) is

  -- and one that is isn't
  pub free_barred : (n : ℕ) → barred (uuid_of n) ≡ true → free (n + 1) ≡ free n
  free_barred n is = free_more n ∙ ap (λ (b : Bool). cond (nat_lt (length (free n)) most && not b) (free n ++ uuid_of n ∷ []) (free n)) is ∙ by_test (nat_lt (length (free n)) most)
    where
      by_test : (a : Bool) → cond (a && false) (free n ++ uuid_of n ∷ []) (free n) ≡ free n
      by_test true = refl
      by_test false = refl

  free_stays : (n : ℕ) → most ≤ length (free n) → free (suc n) ≡ free n
  free_stays n enough = ap (λ (a : Bool). cond (a && not (barred (uuid_of n))) (free n ++ uuid_of n ∷ []) (free n)) (not_less (length (free n)) most enough)

  -- once they are as many none is added any more
  pub free_full : (n m : ℕ) → n ≤ m → most ≤ length (free n) → free m ≡ free n
  free_full n zero le enough = let same : zero ≡ n = omega (arith, le) in ap free same
  free_full n (suc m) le enough = ⊎_elim
      (λ same. ap free same)
      (λ apart. (let before = free_full n m (omega (arith, le, apart)) enough in free_stays m (subst (λ (l : List (List ℕ)). most ≤ length l) (sym before) enough) ∙ before))
      (cases_eq (suc m) n)

  -- they are no more than so many
  pub free_few : (n : ℕ) → length (free n) ≤ most
  free_few zero = omega arith
  free_few (suc n) = by_test (nat_lt (length (free n)) most) (barred (uuid_of n)) refl (free_few n)
    where
      by_test : (a b : Bool) → nat_lt (length (free n)) most ≡ a → length (free n) ≤ most → length (cond (a && not b) (free n ++ uuid_of n ∷ []) (free n)) ≤ most
      by_test true true is few = few
      by_test true false is few = (let fewer : length (free n) < most = grind (arith, nat_tests) in omega (arith, fewer, length-append (free n) (uuid_of n ∷ [])))
      by_test false b is few = few

  -- what holds of each that isn't barred holds of each of them
  pub all_free : (P : List ℕ → Type 0) (n : ℕ) → ((k : ℕ) → k < n → barred (uuid_of k) ≡ false → P (uuid_of k)) → All P (free n)
  all_free P zero each = All-nil P
  all_free P (suc n) each = by_test (nat_lt (length (free n)) most) (barred (uuid_of n)) refl (all_free P n (λ k below. each k (omega (arith, below))))
    where
      by_test : (a b : Bool) → barred (uuid_of n) ≡ b → All P (free n) → All P (cond (a && not b) (free n ++ uuid_of n ∷ []) (free n))
      by_test true true is all = all
      by_test true false is all = All-push P (free n) (uuid_of n) all (each n (omega arith) is)
      by_test false b is all = all

  none_equal : (n : ℕ) → n < 2 ^ 64 → list_any (bytes_eq (uuid_of n)) (free n) ≡ false
  none_equal n low = none_any (bytes_eq (uuid_of n)) (free n) (all_free (λ u. bytes_eq (uuid_of n) u ≡ false) n (λ k below is. differ (bytes_eq (uuid_of n) (uuid_of k)) (λ t. (let same = uuid_injective n k low (omega (arith, below, low)) ((bytes_eq-Decides (uuid_of n) (uuid_of k)).0 t) in omega (arith, same, below)))))
    where
      differ : (b : Bool) → (b ≡ true → ⊥) → b ≡ false
      differ true never = absurd (never refl)
      differ false never = refl

  -- no two of them are the same
  pub free_apart : (n : ℕ) → n < 2 ^ 64 → IsDistinct bytes_eq (free n)
  unfolding IsDistinct
  free_apart zero low = tt
  free_apart (suc n) low = by_test (nat_lt (length (free n)) most && not (barred (uuid_of n))) (free_apart n (omega (arith, low)))
    where
      by_test : (a : Bool) → IsDistinct bytes_eq (free n) → IsDistinct bytes_eq (cond a (free n ++ uuid_of n ∷ []) (free n))
      by_test true distinct = distinct_push (free n) (uuid_of n) (none_equal n (omega (arith, low))) distinct
      by_test false distinct = distinct

  -- where there is none of them, all are barred
  pub none_free : (n : ℕ) → 0 < most → free n ≡ [] → AreBarred barred n
  none_free zero some none k below = absurd (omega (arith, below))
  none_free (suc n) some none k below =
      let h = step (nat_lt (length (free n)) most) (barred (uuid_of n)) refl refl none in
      ⊎_elim (λ same. ap (λ (j : ℕ). barred (uuid_of j)) same ∙ h.1) (λ apart. none_free n some h.0 k (omega (arith, below, apart))) (cases_eq k n)
    where
      step : (a b : Bool) → nat_lt (length (free n)) most ≡ a → barred (uuid_of n) ≡ b → cond (a && not b) (free n ++ uuid_of n ∷ []) (free n) ≡ [] → (free n ≡ []) × (barred (uuid_of n) ≡ true)
      step true true less is none = (none, is)
      step true false less is none = absurd (omega (arith, ap length none, length-append (free n) (uuid_of n ∷ [])))
      step false b less is none = absurd (false≢true (sym less ∙ less_test (length (free n)) most (omega (arith, some, ap length none))))

-- what is found, or that nothing is, in other words
pub match_weaker : {X : Type 0} (found : Option X) (A B : Type 0) (P Q : X → Type 0) → (A → B) → ((x : X) → P x → Q x) → MatchOption found A P → MatchOption found B Q
match_weaker None A B P Q f g h = f h
match_weaker (Some x) A B P Q f g h = g x h
