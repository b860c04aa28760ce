-- The keys of a map as paths, and what is left of it behind some of them.
use Rattle.std.proofs.Common.{◌≡◌, ℕ, Bool, true, false, cond, ◌&&◌, ◌||◌, List, [], ◌∷◌, ◌++◌, map, Option, Some, None, is_some, String, refl, sym, ◌∙◌, ap}
use Rattle.std.proofs.lemmas.Bool.{false≢true}
use Rattle.std.proofs.lemmas.Map.Text.{is_eq-slice_cmp}
use Rattle.std.proofs.lemmas.Slice.Eq.{bytes_eq-Decides}
use Rattle.std.specs.BTreeMap.{BTreeMap, get_by_text, is_at}
use Rattle.std.specs.BTreeSet.{BTreeSet, contains_text}
use Rattle.std.specs.Cmp.Lexicographic.{slice_cmp}
use Rattle.std.specs.List.{filter, list_any}
use Rattle.std.specs.Map.{lookup}
use Rattle.std.specs.Ordering.{nat_cmp}
use Rattle.std.specs.Str.{bytes_eq}
use Rattle.std.specs.String.{string_bytes}

pub any_map : {A B : Type 0} (p : B → Bool) (f : A → B) (xs : List A) → list_any p (map f xs) ≡ list_any (λ x. p (f x)) xs
any_map p f [] = refl
any_map p f (x ∷ xs) = ap (λ (b : Bool). p (f x) || b) (any_map p f xs)

any_looked : {K X : Type 0} (p : List ℕ → Bool) (t : K → Bool) (f : K → List ℕ) → ((k : K) → p (f k) ≡ t k) → (es : List (K × X)) → list_any p (map (λ e. f e.0) es) ≡ is_some (lookup t es)
any_looked p t f same [] = refl
any_looked p t f same (e ∷ es) = by (p (f e.0)) (t e.0) (same e.0) (any_looked p t f same es)
  where
    by : (b c : Bool) → b ≡ c → list_any p (map (λ e. f e.0) es) ≡ is_some (lookup t es) → (b || list_any p (map (λ e. f e.0) es)) ≡ is_some (cond c (Some e.1) (lookup t es))
    by true true is rest = refl
    by false false is rest = rest
    by true false is rest = absurd (false≢true (sym is))
    by false true is rest = absurd (false≢true is)

-- a path is among the keys where something stands at it
pub key_among : {A X : Type 0} (m : BTreeMap (String A) X) (q : List ℕ) → list_any (bytes_eq q) (map (λ e. string_bytes e.0) m.entries) ≡ is_some (get_by_text m q)
key_among m q = any_looked (bytes_eq q) (is_at (λ k. slice_cmp nat_cmp q (string_bytes k))) (λ k. string_bytes k) (λ k. sym (is_eq-slice_cmp q (string_bytes k))) m.entries

any_alike : {K : Type 0} (p t : K → Bool) → ((k : K) → p k ≡ t k) → (ks : List K) → list_any p ks ≡ list_any t ks
any_alike p t same [] = refl
any_alike p t same (k ∷ ks) = ap (λ (b : Bool). b || list_any p ks) (same k) ∙ ap (λ (b : Bool). t k || b) (any_alike p t same ks)

-- a path is among the keys of a set that has it
pub text_among : {A : Type 0} (s : BTreeSet (String A)) (q : List ℕ) → list_any (bytes_eq q) (map (λ k. string_bytes k) s.keys) ≡ contains_text s q
text_among s q = any_map (bytes_eq q) (λ k. string_bytes k) s.keys
    ∙ any_alike (λ k. bytes_eq q (string_bytes k)) (is_at (λ k. slice_cmp nat_cmp q (string_bytes k))) (λ k. sym (is_eq-slice_cmp q (string_bytes k))) s.keys

any_more : (p : List ℕ → Bool) (xs : List (List ℕ)) (x : List ℕ) → list_any p (xs ++ x ∷ []) ≡ (list_any p xs || p x)
any_more p [] x = by (p x)
  where
    by : (b : Bool) → (b || false) ≡ b
    by true = refl
    by false = refl
any_more p (y ∷ xs) x = ap (λ (b : Bool). p y || b) (any_more p xs x) ∙ by (p y) (list_any p xs) (p x)
  where
    by : (a b c : Bool) → (a || (b || c)) ≡ ((a || b) || c)
    by true b c = refl
    by false b c = refl

pub turned : (a b : List ℕ) → bytes_eq a b ≡ bytes_eq b a
turned a b = by (bytes_eq a b) (bytes_eq b a) (bytes_eq-Decides a b).0 (bytes_eq-Decides a b).1 (bytes_eq-Decides b a).0 (bytes_eq-Decides b a).1
  where
    by : (x y : Bool) → (x ≡ true → a ≡ b) → (a ≡ b → x ≡ true) → (y ≡ true → b ≡ a) → (b ≡ a → y ≡ true) → x ≡ y
    by true true f g h i = refl
    by false false f g h i = refl
    by true false f g h i = sym (i (sym (f refl)))
    by false true f g h i = g (sym (h refl))

-- one path more is let go of
pub gone_push : {X : Type 0} (map : List ℕ → Option X) (paths : List (List ℕ)) (path q : List ℕ)
    → cond (list_any (bytes_eq q) (paths ++ path ∷ [])) None (map q) ≡ cond (bytes_eq path q) None (cond (list_any (bytes_eq q) paths) None (map q))
gone_push map paths path q =
    ap (λ (b : Bool). cond b None (map q)) (any_more (bytes_eq q) paths path ∙ ap (λ (b : Bool). list_any (bytes_eq q) paths || b) (turned q path))
    ∙ by (list_any (bytes_eq q) paths) (bytes_eq path q)
  where
    by : (a b : Bool) → cond (a || b) None (map q) ≡ cond b None (cond a None (map q))
    by true true = refl
    by true false = refl
    by false true = refl
    by false false = refl

-- those that pass a test are among the others where they pass it
pub among_filtered : (p : List ℕ → Bool) (xs : List (List ℕ)) (q : List ℕ) → list_any (bytes_eq q) (filter p xs) ≡ (p q && list_any (bytes_eq q) xs)
among_filtered p [] q = by (p q)
  where
    by : (b : Bool) → false ≡ (b && false)
    by true = refl
    by false = refl
among_filtered p (x ∷ xs) q = by (p x) (p q) (bytes_eq q x) (λ is. ap p (sym ((bytes_eq-Decides q x).0 is))) refl (among_filtered p xs q)
  where
    by : (b c e : Bool) → (e ≡ true → b ≡ c) → bytes_eq q x ≡ e → list_any (bytes_eq q) (filter p xs) ≡ (c && list_any (bytes_eq q) xs)
        → list_any (bytes_eq q) (cond b (x ∷ filter p xs) (filter p xs)) ≡ (c && (e || list_any (bytes_eq q) xs))
    by true true e same is rest = ap (λ (d : Bool). d || list_any (bytes_eq q) (filter p xs)) is ∙ ap (λ (d : Bool). e || d) rest
    by true false true same is rest = absurd (false≢true (sym (same refl)))
    by true false false same is rest = ap (λ (d : Bool). d || list_any (bytes_eq q) (filter p xs)) is ∙ rest
    by false true true same is rest = absurd (false≢true (same refl))
    by false true false same is rest = rest
    by false false e same is rest = rest
