-- Directories that are made above a path.
use Rattle.std.proofs.Common.{◌≡◌, ℕ, Bool, true, false, cond, ◌||◌, List, [], ◌∷◌, ◌++◌, Option, Some, None, is_none, option_map, unwrap_or, refl, sym, ◌∙◌, ap}
use Rattle.std.proofs.lemmas.Bool.{false≢true}
use Rattle.std.proofs.lemmas.List.Folds.{list_any-append}
use Rattle.std.proofs.lemmas.Slice.Eq.{bytes_eq-Decides}
use Rattle.std.specs.List.{list_any}
use Rattle.std.specs.Str.{bytes_eq}
use Rattle.hdfs_names.specs.Paths.{ancestors}
use Rattle.hdfs_plain.specs.Plain.{with_directories}

pub bytes_eq_flip : (xs ys : List ℕ) → bytes_eq xs ys ≡ bytes_eq ys xs
bytes_eq_flip xs ys = by_tests (bytes_eq xs ys) (bytes_eq ys xs) (λ is. (bytes_eq-Decides ys xs).1 (sym ((bytes_eq-Decides xs ys).0 is))) (λ is. (bytes_eq-Decides xs ys).1 (sym ((bytes_eq-Decides ys xs).0 is)))
  where
    by_tests : (a b : Bool) → (a ≡ true → b ≡ true) → (b ≡ true → a ≡ true) → a ≡ b
    by_tests true b f g = sym (f refl)
    by_tests false true f g = g refl
    by_tests false false f g = refl

or_false : (a b : Bool) → (a || (b || false)) ≡ (a || b)
or_false true b = refl
or_false false true = refl
or_false false false = refl

above_front : (path front q : List ℕ) → ancestors path ≡ ancestors front ++ front ∷ [] → list_any (bytes_eq q) (ancestors path) ≡ (list_any (bytes_eq q) (ancestors front) || bytes_eq front q)
above_front path front q above =
    ap (list_any (bytes_eq q)) above ∙ list_any-append (bytes_eq q) (ancestors front) (front ∷ []) ∙ or_false (list_any (bytes_eq q) (ancestors front)) (bytes_eq q front)
    ∙ ap (λ (b : Bool). list_any (bytes_eq q) (ancestors front) || b) (bytes_eq_flip q front)

pub unmapped_some : {X Y : Type 0} (f : X → Y) (o : Option X) → is_none (option_map f o) ≡ false → (x : X) × (o ≡ Some x)
unmapped_some f None is = absurd (false≢true (sym is))
unmapped_some f (Some x) is = (x, refl)

pub unmapped_none : {X Y : Type 0} (f : X → Y) (o : Option X) → is_none (option_map f o) ≡ true → o ≡ None
unmapped_none f None is = refl
unmapped_none f (Some x) is = absurd (false≢true is)

module _ {X : Type 0} (dir : X) where
  there_at : (a b : Bool) (o : Option X) → (b ≡ true → (x : X) × (o ≡ Some x)) → cond (a || b) (Some (unwrap_or o dir)) o ≡ cond a (Some (unwrap_or o dir)) o
  there_at true b o is = refl
  there_at false true o is = let some = is refl in ap (λ (o : Option X). Some (unwrap_or o dir)) some.1 ∙ sym some.1
  there_at false false o is = refl

  missing_at : (a b : Bool) (o : Option X) → (b ≡ true → o ≡ None) → cond a (Some (unwrap_or (cond b (Some dir) o) dir)) (cond b (Some dir) o) ≡ cond (a || b) (Some (unwrap_or o dir)) o
  missing_at true true o is = ap (λ (o : Option X). Some (unwrap_or o dir)) (sym (is refl))
  missing_at true false o is = refl
  missing_at false true o is = ap (λ (o : Option X). Some (unwrap_or o dir)) (sym (is refl))
  missing_at false false o is = refl

  module _ (map : List ℕ → Option X) (path front : List ℕ) (above : ancestors path ≡ ancestors front ++ front ∷ []) where
    -- where the front is there, what is made above the path is made above the front
    pub made_there : (x : X) → map front ≡ Some x → (q : List ℕ) → with_directories map dir path q ≡ with_directories map dir front q
    made_there x is q =
        ap (λ (b : Bool). cond b (Some (unwrap_or (map q) dir)) (map q)) (above_front path front q above)
        ∙ there_at (list_any (bytes_eq q) (ancestors front)) (bytes_eq front q) (map q) (λ same. (x, ap map (sym ((bytes_eq-Decides front q).0 same)) ∙ is))

    -- where it isn't, it is made first
    pub made_missing : map front ≡ None → (map' : List ℕ → Option X) → ((q : List ℕ) → map' q ≡ cond (bytes_eq front q) (Some dir) (map q)) → (q : List ℕ) → with_directories map' dir front q ≡ with_directories map dir path q
    made_missing none map' now q =
        ap (λ (o : Option X). cond (list_any (bytes_eq q) (ancestors front)) (Some (unwrap_or o dir)) o) (now q)
        ∙ missing_at (list_any (bytes_eq q) (ancestors front)) (bytes_eq front q) (map q) (λ same. ap map (sym ((bytes_eq-Decides front q).0 same)) ∙ none)
        ∙ sym (ap (λ (b : Bool). cond b (Some (unwrap_or (map q) dir)) (map q)) (above_front path front q above))

  pub made_none : (map : List ℕ → Option X) (path : List ℕ) → ancestors path ≡ [] → (q : List ℕ) → with_directories map dir path q ≡ map q
  made_none map path none q = ap (λ (paths : List (List ℕ)). cond (list_any (bytes_eq q) paths) (Some (unwrap_or (map q) dir)) (map q)) none
