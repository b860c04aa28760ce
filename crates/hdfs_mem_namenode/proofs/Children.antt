-- From where the next name in a directory is sought: no name that is sought stands before it, and it stands behind the last name.
use Rattle.std.proofs.Common.{◌≡◌, ℕ, Bool, true, false, List, [], ◌∷◌, ◌++◌, Option, IsSome, append_assoc, refl, sym, ◌∙◌, ap, subst}
use Rattle.std.proofs.lemmas.Bool.{false≢true}
use Rattle.std.specs.List.{list_any}
use Rattle.hdfs_cluster.specs.declared.picture.Entry.{Entry}
use Rattle.hdfs_cluster.specs.Names.{IsNameIn, is_before}
use Rattle.hdfs_names.specs.Paths.{is_slash}
use Rattle.hdfs_mem_namenode.specs.Listing.{IsNext, NoneBehind, Starts}
use Rattle.hdfs_mem_namenode.proofs.Bytes.{before_from, before_front, before_trans, before_upto, begins_so, between_slash, zero_behind, zero_next}

module _ (names : List ℕ → Option Entry) (front after : List ℕ) where
  pub starts_first : Starts names front after ((front ++ after) ++ 0 ∷ [])
  starts_first = record {
    begins = (after ++ 0 ∷ [], append_assoc front after (0 ∷ []));
    behind = zero_behind (front ++ after);
    first = λ other named behind. ap (is_before (front ++ other)) (append_assoc front after (0 ∷ [])) ∙ before_front front other (after ++ 0 ∷ []) ∙ zero_next after other behind;
  }

  module _ (start : List ℕ) (starts : Starts names front after start) where
    -- all stand before it
    pub starts_none : ((q : List ℕ) → IsSome (names q) → is_before q start ≡ true) → NoneBehind names front after
    starts_none none other named behind = false≢true (sym (starts.first other named behind) ∙ none (front ++ other) named.there)

    module _ (path : List ℕ) (from : is_before path start ≡ false) (least : (q : List ℕ) → IsSome (names q) → is_before q start ≡ false → is_before q path ≡ false) where
      -- the first one is outside of the directory
      pub starts_outside : ((rest : List ℕ) → path ≡ front ++ rest → ⊥) → NoneBehind names front after
      starts_outside outside other named behind =
          let x = starts.begins in
          let in_front = begins_so front x.0 other path (ap (is_before path) (sym x.1) ∙ from) (least (front ++ other) named.there (starts.first other named behind)) in
          outside in_front.0 in_front.1

      module _ (name : List ℕ) (is : path ≡ front ++ name) where
        -- it is in the directory
        pub starts_next : IsSome (names path) → list_any is_slash name ≡ false → IsNext names front after name
        starts_next some plain = record {
          there = record { plain = plain; there = subst (λ (p : List ℕ). IsSome (names p)) is some };
          behind = sym (before_front front after name) ∙ ap (is_before (front ++ after)) (sym is) ∙ before_from (front ++ after) start path starts.behind from;
          first = λ other named behind. sym (before_front front other name) ∙ ap (is_before (front ++ other)) (sym is) ∙ least (front ++ other) named.there (starts.first other named behind);
        }

        module _ (part rest : List ℕ) (parts : name ≡ part ++ 47 ∷ rest) where
          abbrev next : List ℕ
          next = (front ++ part) ++ 48 ∷ []

          -- it lies in a directory of the directory, and stands before what comes behind that
          pub past_behind : is_before path next ≡ true
          past_behind =
              ap (λ (p : List ℕ). is_before p next) (is ∙ ap (λ (n : List ℕ). front ++ n) parts) ∙ ap (is_before (front ++ (part ++ 47 ∷ rest))) (append_assoc front part (48 ∷ []))
              ∙ before_front front (part ++ 47 ∷ rest) (part ++ 48 ∷ []) ∙ before_front part (47 ∷ rest) (48 ∷ [])

          pub starts_past : Starts names front after next
          starts_past = record {
            begins = (part ++ 48 ∷ [], append_assoc front part (48 ∷ []));
            behind = before_trans (front ++ after) start next starts.behind (before_upto start path next from past_behind);
            first = λ other named behind. by other named (least (front ++ other) named.there (starts.first other named behind)) (is_before (front ++ other) next) refl;
          }
            where
              by : (other : List ℕ) → IsNameIn names front other → is_before (front ++ other) path ≡ false → (b : Bool) → is_before (front ++ other) next ≡ b → b ≡ false
              by other named after_path true is_true =
                  let from_part : is_before other (part ++ 47 ∷ rest) ≡ false = sym (before_front front other (part ++ 47 ∷ rest)) ∙ ap (is_before (front ++ other)) (sym (is ∙ ap (λ (n : List ℕ). front ++ n) parts)) ∙ after_path in
                  let to_part : is_before other (part ++ 48 ∷ []) ≡ true = sym (before_front front other (part ++ 48 ∷ [])) ∙ ap (is_before (front ++ other)) (sym (append_assoc front part (48 ∷ []))) ∙ is_true in
                  absurd (false≢true (sym named.plain ∙ between_slash part rest other from_part to_part))
              by other named after_path false is_false = refl
