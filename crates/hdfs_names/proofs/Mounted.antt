-- Which link matches a path.
use Rattle.std.proofs.Common.{◌≡◌, ◌≢◌, ℕ, ◌+◌, ◌<◌, suc, get_or, inl, inr, List, [], ◌∷◌, ◌++◌, length, drop, replicate, true, false, refl, sym, ap, ◌∙◌, Some, None, append_assoc, add-one, arith, length-append}
use Rattle.std.specs.Prelude.{nat_eq}
use Rattle.std.specs.List.{starts_with}
use Rattle.std.specs.Str.{bytes_eq}
use Rattle.std.proofs.lemmas.Bool.{false_from_ne_true, cases_Bool}
use Rattle.std.proofs.lemmas.Bool.Decides.{Decides-eqb}
use Rattle.std.proofs.lemmas.Slice.Eq.{bytes_eq-Decides, starts_is}
use Rattle.std.proofs.lemmas.List.{append-nil, append_cancel_left, drop_at, drop_more, drop_all}
use Rattle.hdfs_names.specs.Mounts.{resolved, is_absolute_or_empty, IsWithoutEnd, first_match}
use Rattle.hdfs_names.specs.Paths.{absolute}
use Rattle.hdfs_names.specs.declared.mounts.MountLink.{MountLink}

pub starts : (path front rest : List ℕ) → path ≡ front ++ rest → starts_with nat_eq path front ≡ true
starts path front rest e = (starts_is Decides-eqb path front (starts_with nat_eq path front) refl).1 rest e

pub starts_not : (path front : List ℕ) → ((rest : List ℕ) → path ≢ front ++ rest) → starts_with nat_eq path front ≡ false
starts_not path front apart = false_from_ne_true _ (λ t. apart _ ((starts_is Decides-eqb path front (starts_with nat_eq path front) refl).0 t))

pub equal : (a b : List ℕ) → a ≡ b → bytes_eq a b ≡ true
equal a b e = (bytes_eq-Decides a b).1 e

pub not_equal : (a b : List ℕ) → a ≢ b → bytes_eq a b ≡ false
not_equal a b apart = false_from_ne_true _ (λ t. apart ((bytes_eq-Decides a b).0 t))

longer : (viewfs rest path : List ℕ) (c : ℕ) → path ≡ viewfs ++ c ∷ rest → path ≢ viewfs
longer viewfs rest path c e same =
    let n = ap length (sym e ∙ same) in
    omega (arith, simp length-append at n)

neither : (viewfs hdfs path : List ℕ) → path ≢ viewfs → ((rest : List ℕ) → path ≢ viewfs ++ 47 ∷ rest) → resolved viewfs hdfs path ≡ None
neither viewfs hdfs path apart below =
    rw (not_equal path viewfs apart) (rw (starts_not path (viewfs ++ 47 ∷ []) (λ rest e. below rest (e ∙ append_assoc viewfs (47 ∷ []) rest))) refl)

pub resolved_apart : (viewfs hdfs path : List ℕ) → ((rest : List ℕ) → path ≢ viewfs ++ rest) → resolved viewfs hdfs path ≡ None
resolved_apart viewfs hdfs path apart =
    neither viewfs hdfs path (λ e. apart [] (e ∙ sym (append-nil viewfs))) (λ rest e. apart (47 ∷ rest) e)

pub resolved_beside : (viewfs hdfs path rest : List ℕ) → path ≡ viewfs ++ rest → is_absolute_or_empty rest ≡ false → resolved viewfs hdfs path ≡ None
resolved_beside viewfs hdfs path [] e stays = cc
resolved_beside viewfs hdfs path (c ∷ rest) e stays =
    neither viewfs hdfs path (longer viewfs rest path c e) (λ other same.
    let heads = append_cancel_left viewfs (c ∷ rest) (47 ∷ other) (sym e ∙ same) in
    let head : c ≡ 47 = cc in
    let tested = (Decides-eqb c 47).1 head in
    cc)

pub resolved_behind : (viewfs hdfs path rest : List ℕ) → path ≡ viewfs ++ rest → is_absolute_or_empty rest ≡ true → resolved viewfs hdfs path ≡ Some (hdfs ++ rest)
resolved_behind viewfs hdfs path [] e fits =
    rw (equal path viewfs (e ∙ append-nil viewfs)) (ap (λ (x : List ℕ). Some x) (sym (append-nil hdfs)))
resolved_behind viewfs hdfs path (c ∷ rest) e fits =
    let head : c ≡ 47 = (Decides-eqb c 47).0 fits in
    let at : path ≡ viewfs ++ 47 ∷ rest = e ∙ ap (λ (x : ℕ). viewfs ++ x ∷ rest) head in
    let back : drop (length viewfs) path ≡ c ∷ rest = ap (drop (length viewfs)) e ∙ drop_at viewfs (c ∷ rest) (length viewfs) refl in
    rw (not_equal path viewfs (longer viewfs rest path c e))
    (rw (starts path (viewfs ++ 47 ∷ []) rest (at ∙ sym (append_assoc viewfs (47 ∷ []) rest)))
    (rw back refl))

-- an absolute path begins with a slash
pub absolute_begins : (home text rest : List ℕ) → home ≡ 47 ∷ rest → is_absolute_or_empty (absolute home text) ≡ true
absolute_begins home [] rest e = rw e refl
absolute_begins home (c ∷ text) rest e =
    elim (cases_Bool (nat_eq c 47)) [ inl t ↦ rw t t | inr f ↦ rw f (rw e refl) ]

-- the link at a number is the first of those from there on
at_link : (number : ℕ) (links : List MountLink) (link : MountLink) → number < length links → link ≡ get_or links number link
    → drop number links ≡ link ∷ drop (number + 1) links
at_link number links link lt e = drop_more links number link lt ∙ ap (λ (x : MountLink). x ∷ drop (number + 1) links) (sym e)

pub first_more : (fallback : MountLink) (number : ℕ) (links : List MountLink) (path : List ℕ) (link : MountLink) → number < length links
    → link ≡ get_or links number link → resolved link.viewfs_path link.hdfs_path path ≡ None
    → first_match fallback number (drop number links) path ≡ first_match fallback (number + 1) (drop (number + 1) links) path
unfolding first_match
first_more fallback number links path link lt e none =
    rw (at_link number links link lt e)
    (rw none (ap (λ (k : ℕ). first_match fallback k (drop (number + 1) links) path) (sym (add-one number))))

pub first_found : (fallback : MountLink) (number : ℕ) (links : List MountLink) (path answer : List ℕ) (link : MountLink) → number < length links
    → link ≡ get_or links number link → resolved link.viewfs_path link.hdfs_path path ≡ Some answer
    → first_match fallback number (drop number links) path ≡ Some (record { link = number; service = link.service; path = answer })
unfolding first_match
first_found fallback number links path answer link lt e some = rw (at_link number links link lt e) (rw some refl)

pub first_none : (fallback : MountLink) (number : ℕ) (links : List MountLink) (path answer : List ℕ) → number ≡ length links
    → fallback.viewfs_path ≡ [] → is_absolute_or_empty path ≡ true → answer ≡ fallback.hdfs_path ++ path
    → first_match fallback number (drop number links) path ≡ Some (record { link = length links; service = fallback.service; path = answer })
unfolding first_match
first_none fallback number links path answer all empty begins same =
    let e : path ≡ fallback.viewfs_path ++ path = sym (ap (λ (x : List ℕ). x ++ path) empty) in
    rw (drop_all number links (omega arith)) (rw (resolved_behind fallback.viewfs_path fallback.hdfs_path path path e begins) (rw (all, same) refl))

-- the text is the cut one and slashes
pub record EndsInSlashes (text cut : List ℕ) : Type 0 where
  pub slashes : ℕ
  pub whole : text ≡ cut ++ replicate slashes 47

pub all_slashes : (text : List ℕ) → EndsInSlashes text text
all_slashes text = record { slashes = 0; whole = sym (append-nil text) }

pub one_slash_more : (text cut front : List ℕ) → cut ≡ front ++ 47 ∷ [] → EndsInSlashes text cut → EndsInSlashes text front
one_slash_more text cut front e h = record {
  slashes = suc h.slashes;
  whole = h.whole ∙ ap (λ (x : List ℕ). x ++ replicate h.slashes 47) e ∙ append_assoc front (47 ∷ []) (replicate h.slashes 47);
}

pub no_slash_more : (text cut : List ℕ) → EndsInSlashes text cut → ((front : List ℕ) → cut ≢ front ++ 47 ∷ []) → IsWithoutEnd text cut
no_slash_more text cut h last = record { slashes = h.slashes; whole = h.whole; all = last }
