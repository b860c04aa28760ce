-- Behind a page the names in a directory go on: what comes behind its last name is its rest.
use Rattle.std.proofs.Common.{◌≡◌, ◌⊎◌, inl, inr, ⊎_elim, ℕ, Bool, true, false, List, [], ◌∷◌, ◌++◌, Contains, Option, refl, sym, ◌∙◌, ap, subst}
use Rattle.std.proofs.lemmas.Bool.{false≢true}
use Rattle.std.proofs.lemmas.List.Elements.{All-contains, All-contains_itself, Contains-append_right}
use Rattle.std.specs.List.{All, list_any}
use Rattle.hdfs_cluster.specs.Names.{AreNamesBehind, IsNameIn, Rises, is_before}
use Rattle.hdfs_cluster.specs.declared.picture.Entry.{Entry}
use Rattle.hdfs_names.specs.Paths.{is_slash}
use Rattle.hdfs_model.specs.Walks.{comes_before}
use Rattle.hdfs_model.proofs.Deleted.{all_through}
use Rattle.hdfs_model.proofs.Listed.{IsPlain, contains_from_in}
use Rattle.hdfs_model.proofs.Ordered.{In, IsInOrder, before_itself, before_not, before_trans, behind_all}
use Rattle.hdfs_model.proofs.Walking.{names_before}
use Rattle.hdfs_model.proofs.Within.{in_from_contains}

-- names that rise are in the order of a walk
names_ordered : (from : List ℕ) (xs : List (List ℕ)) → IsPlain from → ((x : List ℕ) → In x xs → IsPlain x) → Rises from xs → IsInOrder from xs
names_ordered from [] plain each rises = tt
names_ordered from (x ∷ xs) plain each rises = (names_before from x plain (each x (inl refl)) ∙ rises.0, names_ordered x xs (each x (inl refl)) (λ y is. each y (inr is)) rises.1)

rest_rises : (from : List ℕ) (front : List (List ℕ)) (last : List ℕ) (rest : List (List ℕ)) → Rises from (front ++ last ∷ rest) → Rises last rest
rest_rises from [] last rest rises = rises.1
rest_rises from (x ∷ front) last rest rises = rest_rises x front last rest rises.1

last_in : (front : List (List ℕ)) (last : List ℕ) (rest : List (List ℕ)) → In last (front ++ last ∷ rest)
last_in [] last rest = inl refl
last_in (z ∷ front) last rest = inr (last_in front last rest)

-- of a list in order the members behind one of them are its rest
rest_in : (from : List ℕ) (front : List (List ℕ)) (last : List ℕ) (rest : List (List ℕ)) (x : List ℕ) → IsInOrder from (front ++ last ∷ rest) → In x (front ++ last ∷ rest) → comes_before last x ≡ true → In x rest
rest_in from [] last rest x rises (inl same) after = absurd (false≢true (sym (before_itself last) ∙ subst (λ (y : List ℕ). comes_before last y ≡ true) (sym same) after))
rest_in from [] last rest x rises (inr later) after = later
rest_in from (y ∷ front) last rest x rises (inl same) after =
    absurd (false≢true (sym (before_not y last (behind_all y (front ++ last ∷ rest) rises.1 last (last_in front last rest))) ∙ subst (λ (z : List ℕ). comes_before last z ≡ true) (sym same) after))
rest_in from (y ∷ front) last rest x rises (inr later) after = rest_in y front last rest x rises.1 later after

-- the names behind the last one of a page are those that remain
pub names_go_on : (names : List ℕ → Option Entry) (front from : List ℕ) (page : List (List ℕ)) (last : List ℕ) (rest : List (List ℕ)) → IsPlain from
    → AreNamesBehind names front from (page ++ last ∷ rest) → AreNamesBehind names front last rest
names_go_on names front from page last rest plain are = record {
  rising = rest_rises from page last rest are.rising;
  there = all_through (Contains rest) (IsNameIn names front) rest
      (λ name is own. each name (in_there name is)) (All-contains_itself rest);
  all = λ name named behind. contains_from_in name rest (rest_in from page last rest name ordered
      (in_from_contains name (page ++ last ∷ rest) (are.all name named (before name named behind)))
      (names_before last name (each last (last_in page last rest)).plain named.plain ∙ behind));
}
  where
    each : (name : List ℕ) → In name (page ++ last ∷ rest) → IsNameIn names front name
    each name is = All-contains (IsNameIn names front) (page ++ last ∷ rest) name are.there (contains_from_in name (page ++ last ∷ rest) is)

    in_there : (name : List ℕ) → Contains rest name → In name (page ++ last ∷ rest)
    in_there name is = in_from_contains name (page ++ last ∷ rest) (Contains-append_right page (last ∷ rest) name (Contains-append_right (last ∷ []) rest name is))

    ordered : IsInOrder from (page ++ last ∷ rest)
    ordered = names_ordered from (page ++ last ∷ rest) plain (λ name is. (each name is).plain) are.rising

    before : (name : List ℕ) → IsNameIn names front name → is_before last name ≡ true → is_before from name ≡ true
    before name named behind =
        let last_plain = (each last (last_in page last rest)).plain in
        sym (names_before from name plain named.plain)
        ∙ before_trans from last name (behind_all from (page ++ last ∷ rest) ordered last (last_in page last rest)) (names_before last name last_plain named.plain ∙ behind)
