-- What a namespace keeps where the last block of a file, which is empty, is given up.
use Rattle.std.proofs.Common.{◌≡◌, ℕ, ◌+◌, ◌-◌, Bool, true, false, cond, ◌||◌, eqb, List, [], ◌∷◌, ◌++◌, length, get_or, Option, Some, None, is_none, refl, sym, ◌∙◌, ap, arith, length-append}
use Rattle.std.proofs.lemmas.Bool.{eqb-true}
use Rattle.std.proofs.lemmas.List.{get_or_append_left, get_or-append_right}
use Rattle.hdfs_cluster.specs.declared.picture.BlockEntry.{BlockEntry}
use Rattle.hdfs_cluster.specs.declared.picture.Entry.{Entry}
use Rattle.hdfs_cluster.specs.declared.picture.Entry.TheVariants as entries
use Rattle.hdfs_cluster.specs.declared.picture.FileEntry.{FileEntry}
use Rattle.hdfs_cluster.specs.Effects.{table_without, with_entry}
use Rattle.hdfs_cluster.specs.Listing.{plus_length, total}
use Rattle.hdfs_mem_namenode.specs.Adding.{with_blocks}
use Rattle.hdfs_mem_namenode.specs.Memory.{is_kth, is_kth_at, is_length, is_sized}
use Rattle.hdfs_mem_namenode.specs.Soundness.{kth_parts, kth_test, total_first}
use Rattle.hdfs_mem_namenode.specs.Totals.{is_counted}
use Rattle.hdfs_mem_namenode.proofs.FileChanges.{apart_other, apart_own, sound_changed}
use Rattle.hdfs_mem_namenode.proofs.Naming.{Sound}
use Rattle.hdfs_mem_namenode.proofs.NewFiles.{total_same}
use Rattle.hdfs_mem_namenode.proofs.Sums.{counted_changed, kept_at}

-- without its last block a file has that many bytes less
total_front : (table : ℕ → Option BlockEntry) (front : List ℕ) (id n : ℕ) (entry : BlockEntry) → total table (front ++ id ∷ []) ≡ Some n → table id ≡ Some entry
    → (m : ℕ) × (total table front ≡ Some m) × (n ≡ m + entry.length)
total_front table [] id n entry sums is =
    let first = total_first (table id) (Some 0) n sums in
    let same : first.0 ≡ entry = cc (first.1, is) in
    let zero : 0 ≡ first.2 = cc (first.3) in
    (0, refl, omega (arith, first.4, ap (λ (e : BlockEntry). e.length) same, zero))
total_front table (id' ∷ front) id n entry sums is =
    let first = total_first (table id') (total table (front ++ id ∷ [])) n sums in
    let rest = total_front table front id first.2 entry first.3 is in
    (first.0.length + rest.0, ap (λ (o : Option BlockEntry). plus_length o (total table front)) first.1 ∙ ap (plus_length (Some first.0)) rest.1, omega (arith, first.4, rest.2))

module _ (names : List ℕ → Option Entry) (table table' : ℕ → Option BlockEntry) (path : List ℕ) (file : FileEntry) (sound : Sound names table) (is : names path ≡ Some (entries.File file))
    (front : List ℕ) (id : ℕ) (last : file.blocks ≡ front ++ id ∷ []) (entry : BlockEntry) (listed : table id ≡ Some entry) (empty : entry.length ≡ 0)
    (now : (b : ℕ) → table' b ≡ table_without table (id ∷ []) b) where
  abbrev shorter : FileEntry
  shorter = with_blocks file front

  -- each block that is left is one of the file's
  kth_front : (k b : ℕ) → is_kth front k b ≡ true → is_kth file.blocks k b ≡ true
  kth_front k b here =
      let parts = kth_parts front k b here in
      let long : length file.blocks ≡ length front + 1 = ap length last ∙ length-append front (id ∷ []) in
      kth_test file.blocks k b (omega (arith, parts.0, long)) (ap (λ (l : List ℕ). get_or l k 0) last ∙ get_or_append_left front (id ∷ []) 0 k parts.0 ∙ parts.1)

  own_last : is_kth file.blocks (length front) id ≡ true
  own_last =
      let long : length file.blocks ≡ length front + 1 = ap length last ∙ length-append front (id ∷ []) in
      let at : get_or (front ++ id ∷ []) (length front) 0 ≡ id = get_or-append_right front (id ∷ []) (length front) (length front) 0 refl (omega arith) ∙ first_one (length front) in
      kth_test file.blocks (length front) id (omega (arith, long)) (ap (λ (l : List ℕ). get_or l (length front) 0) last ∙ at)
    where
      first_one : (n : ℕ) → get_or (id ∷ []) (n - n) 0 ≡ id
      first_one n = let zero : n - n ≡ 0 = omega arith in ap (λ (i : ℕ). get_or (id ∷ []) i 0) zero

  -- and none of them is the one that is given up
  not_last : (k b : ℕ) → is_kth front k b ≡ true → id ≡ b → ⊥
  not_last k b here same =
      let parts = kth_parts front k b here in
      let equal : k ≡ length front = apart_own names table table' path file shorter sound is k (length front) b (kth_front k b here) (ap (is_kth file.blocks (length front)) (sym same) ∙ own_last) in
      omega (arith, parts.0, equal)

  stays : (b : ℕ) → (id ≡ b → ⊥) → table' b ≡ table b
  stays b apart = now b ∙ by_test (eqb id b) (eqb-true id b)
    where
      by_test : (c : Bool) → (c ≡ true → id ≡ b) → cond (c || false) None (table b) ≡ table b
      by_test true same = absurd (apart (same refl))
      by_test false same = refl

  -- the blocks of the other files stay
  others : (q : List ℕ) (k b : ℕ) → (path ≡ q → ⊥) → is_kth_at names q k b ≡ true → table' b ≡ table b
  others q k b other there = stays b (λ same. apart_other names table table' path file shorter sound is q (length front) k b other (ap (is_kth file.blocks (length front)) (sym same) ∙ own_last) there)

  module _ (totals : List ℕ → Option ℕ) (counted : (q : List ℕ) → is_counted table (names q) (totals q) ≡ true) where
    -- the file has as many bytes as before
    sums : (n : ℕ) × (total table' front ≡ Some n) × (total table file.blocks ≡ Some n) × (totals path ≡ Some n)
    sums =
        let kept = kept_at names table totals counted path file is in
        let part = total_front table front id kept.0 entry (ap (total table) (sym last) ∙ kept.1) listed in
        let same : part.0 ≡ kept.0 = omega (arith, part.2, empty) in
        (kept.0, total_same table table' front (λ k b here. stays b (not_last k b here)) ∙ part.1 ∙ ap Some same, kept.1, kept.2)

    pub sound_shorter : Sound (with_entry names path shorter) table'
    sound_shorter =
        sound_changed names table table' path file shorter sound is others
        (ap is_length (sums.1 ∙ sym sums.2) ∙ sym (ap (is_sized table) is) ∙ sound.sized path)
        (λ q k n b other here there. apart_other names table table' path file shorter sound is q k n b other (kth_front k b here) there)
        (λ k n b here there. apart_own names table table' path file shorter sound is k n b (kth_front k b here) (kth_front n b there))

    pub counted_shorter : (q : List ℕ) → is_counted table' (with_entry names path shorter q) (totals q) ≡ true
    counted_shorter = counted_changed names table table' totals totals path shorter counted others sums.0 sums.1 sums.3 (λ q apart. refl)

  pub numbered_shorter : (b : ℕ) → is_none (table b) ≡ true → is_none (table' b) ≡ true
  numbered_shorter b none = ap is_none (now b) ∙ by_test (eqb id b || false) (table b) none
    where
      by_test : (c : Bool) (o : Option BlockEntry) → is_none o ≡ true → is_none (cond c None o) ≡ true
      by_test true o none = refl
      by_test false o none = none
