-- Names in a directory behind a text are told in one way.
use Rattle.std.proofs.Common.{◌≡◌, inl, inr, ℕ, true, List, [], ◌∷◌, ◌++◌, Option, refl, sym, ◌∙◌}
use Rattle.std.proofs.lemmas.List.Elements.{All-contains}
use Rattle.hdfs_cluster.specs.declared.picture.Entry.{Entry}
use Rattle.hdfs_cluster.specs.Names.{AreNamesBehind, IsNameIn, Rises, front_of, is_before}
use Rattle.hdfs_model.proofs.Listed.{IsPlain, contains_from_in}
use Rattle.hdfs_model.proofs.Ordered.{In, IsInOrder, behind_all, rises_unique}
use Rattle.hdfs_model.proofs.Walking.{names_before}
use Rattle.hdfs_model.proofs.Within.{in_from_contains}
use Rattle.hdfs_model.specs.Listings.{path_in}

-- names that rise are in the order of a walk
names_ordered : (from : List ℕ) (xs : List (List ℕ)) → IsPlain from → ((x : List ℕ) → In x xs → IsPlain x) → Rises from xs → IsInOrder from xs
names_ordered from [] plain each rises = tt
names_ordered from (x ∷ xs) plain each rises = (names_before from x plain (each x (inl refl)) ∙ rises.0, names_ordered x xs (each x (inl refl)) (λ y is. each y (inr is)) rises.1)

module _ (names : List ℕ → Option Entry) (front from : List ℕ) (plain : IsPlain from) where
  each : (found : List (List ℕ)) → AreNamesBehind names front from found → (name : List ℕ) → In name found → IsNameIn names front name
  each found are name is = All-contains (IsNameIn names front) found name are.there (contains_from_in name found is)

  ordered : (found : List (List ℕ)) → AreNamesBehind names front from found → IsInOrder from found
  ordered found are = names_ordered from found plain (λ name is. (each found are name is).plain) are.rising

  over : (a b : List (List ℕ)) → AreNamesBehind names front from a → AreNamesBehind names front from b → (name : List ℕ) → In name a → In name b
  over a b one two name is =
      let named = each a one name is in
      in_from_contains name b (two.all name named (sym (names_before from name plain named.plain) ∙ behind_all from a (ordered a one) name is))

  pub names_unique : (a b : List (List ℕ)) → AreNamesBehind names front from a → AreNamesBehind names front from b → a ≡ b
  names_unique a b one two = rises_unique from a b (ordered a one) (ordered b two) (over a b one two) (over b a two one)

-- a name that stands behind another isn't empty, so its path is in its directory
pub path_behind : (dir before name : List ℕ) → is_before before name ≡ true → path_in dir name ≡ front_of dir ++ name
path_behind dir [] [] is = absurd (cc (is))
path_behind dir (c ∷ before) [] is = absurd (cc (is))
path_behind dir before (c ∷ name) is = refl
