-- What a file with other blocks, or with blocks of another length, keeps of a namespace.
use Rattle.std.proofs.Common.{◌≡◌, ◌⊎◌, inl, inr, ⊎_elim, ℕ, zero, suc, ◌+◌, Bool, true, false, cond, eqb, List, [], ◌∷◌, ◌++◌, length, get_or, Option, Some, None, is_none, refl, sym, ◌∙◌, ap, arith}
use Rattle.std.proofs.lemmas.Bool.{false≢true, eqb-true, eq-eqb}
use Rattle.std.proofs.lemmas.List.{get_or_default}
use Rattle.std.proofs.lemmas.Slice.Eq.{bytes_eq-Decides}
use Rattle.std.specs.List.{Contains}
use Rattle.std.specs.Option.{option_map}
use Rattle.std.specs.Str.{bytes_eq}
use Rattle.hdfs_cluster.specs.declared.messages.Block.{Block}
use Rattle.hdfs_cluster.specs.declared.picture.BlockEntry.{BlockEntry}
use Rattle.hdfs_cluster.specs.declared.picture.Entry.{Entry}
use Rattle.hdfs_cluster.specs.declared.picture.Entry.TheVariants as entries
use Rattle.hdfs_cluster.specs.declared.picture.FileEntry.{FileEntry}
use Rattle.hdfs_cluster.specs.Effects.{HasBlock, blocks_at, of_length, with_block, with_entry, with_length}
use Rattle.hdfs_cluster.specs.Files.{IsTree}
use Rattle.hdfs_cluster.specs.Listing.{plus_length, total}
use Rattle.hdfs_cluster.specs.Picture.{entry_kind, kinds_in}
use Rattle.hdfs_cluster.proofs.Loads.{and_parts}
use Rattle.hdfs_mem_namenode.specs.Adding.{CanTake, with_more}
use Rattle.hdfs_mem_namenode.specs.Memory.{is_kth, is_kth_at, is_length, is_sized, IsBare}
use Rattle.hdfs_mem_namenode.specs.Soundness.{kth_test, kth_parts}
use Rattle.hdfs_mem_namenode.proofs.Apart.{apart_with, kth_absent, kth_one, total-push}
use Rattle.hdfs_mem_namenode.proofs.Naming.{Sound, tree_from_tests, placed_from_tree, rooted_from_tree}
use Rattle.hdfs_mem_namenode.proofs.NewFiles.{tree_over, no_directory, sized_same, total_same, kth_later, more_from}

module _ (names : List ℕ → Option Entry) (table table' : ℕ → Option BlockEntry) (path : List ℕ) (file file' : FileEntry) (sound : Sound names table) (is : names path ≡ Some (entries.File file)) where
  abbrev names' : List ℕ → Option Entry
  names' = with_entry names path file'

  kind_at : (b : Bool) (o : Option Entry) → option_map entry_kind (cond b (Some (entries.File file')) o) ≡ cond b (Some (entry_kind (entries.File file'))) (option_map entry_kind o)
  kind_at true o = refl
  kind_at false o = refl

  blocks_with : (b : Bool) (o : Option Entry) → blocks_at (cond b (Some (entries.File file')) o) ≡ cond b file'.blocks (blocks_at o)
  blocks_with true o = refl
  blocks_with false o = refl

  tree' : IsTree (kinds_in names')
  tree' =
      tree_over names path file (tree_from_tests names sound.rooted sound.placed) (entry_kind (entries.File file)) (ap (option_map entry_kind) is) (no_directory file.is_open) (kinds_in names') (entry_kind (entries.File file'))
      (λ q. kind_at (bytes_eq path q) (names q))

  module _ (others : (q : List ℕ) (k id : ℕ) → (path ≡ q → ⊥) → is_kth_at names q k id ≡ true → table' id ≡ table id) (fits : is_length (total table' file'.blocks) ≡ true)
      (unused : (q : List ℕ) (k n id : ℕ) → (path ≡ q → ⊥) → is_kth file'.blocks k id ≡ true → is_kth_at names q n id ≡ true → ⊥) (distinct : (k n id : ℕ) → is_kth file'.blocks k id ≡ true → is_kth file'.blocks n id ≡ true → k ≡ n) where
    sized_at : (q : List ℕ) (b : Bool) → bytes_eq path q ≡ b → is_sized table' (cond b (Some (entries.File file')) (names q)) ≡ true
    sized_at q true same = fits
    sized_at q false same = sized_same table table' (names q) (λ k id here. others q k id (λ equal. false≢true (sym same ∙ (bytes_eq-Decides path q).1 equal)) here) (sound.sized q)

    pub sound_changed : Sound names' table'
    sound_changed = record {
      rooted = rooted_from_tree names' tree';
      placed = placed_from_tree names' tree';
      sized = λ q. sized_at q (bytes_eq path q) refl;
      apart = apart_with names names' path file'.blocks (λ q. blocks_with (bytes_eq path q) (names q)) sound.apart unused distinct;
    }

  pub more_changed : IsBare names' → ⊥
  more_changed = more_from names' path file' (ap (λ (b : Bool). cond b (Some (entries.File file')) (names path)) ((bytes_eq-Decides path path).1 refl))

  -- blocks of one file are at one place each, and of no other file
  pub apart_own : (k n id : ℕ) → is_kth file.blocks k id ≡ true → is_kth file.blocks n id ≡ true → k ≡ n
  apart_own k n id here there = eqb-true k n (and_parts (bytes_eq path path) (eqb k n) (sound.apart path path k n id (at k here) (at n there))).1
    where
      at : (k : ℕ) → is_kth file.blocks k id ≡ true → is_kth_at names path k id ≡ true
      at k here = ap (λ (o : Option Entry). is_kth (blocks_at o) k id) is ∙ here

  pub apart_other : (q : List ℕ) (k n id : ℕ) → (path ≡ q → ⊥) → is_kth file.blocks k id ≡ true → is_kth_at names q n id ≡ true → ⊥
  apart_other q k n id other here there =
      other ((bytes_eq-Decides path q).0 (and_parts (bytes_eq path q) (eqb k n) (sound.apart path q k n id (ap (λ (o : Option Entry). is_kth (blocks_at o) k id) is ∙ here) there)).0)

  -- another file's blocks keep their length where a block of this one gets its
  pub length_other : (named : Option Block) → HasBlock file.blocks named → (q : List ℕ) (k id : ℕ) → (path ≡ q → ⊥) → is_kth_at names q k id ≡ true → with_length table named id ≡ table id
  length_other None has q k id other there = refl
  length_other (Some block) has q k id other there = by_test (eqb block.block_id id) (eqb-true block.block_id id)
    where
      by_test : (b : Bool) → (b ≡ true → block.block_id ≡ id) → cond b (option_map (of_length block.num_bytes) (table id)) (table id) ≡ table id
      by_test true same =
          absurd (apart_other q has.0 k id other (kth_test file.blocks has.0 id has.1 (own ∙ same refl)) there)
        where
          own : get_or file.blocks has.0 0 ≡ block.block_id
          own = get_or_default file.blocks has.0 0 block.block_id has.1 ∙ has.2
      by_test false same = refl

-- a block that isn't in the table isn't where another gets its length
pub length_none : (table : ℕ → Option BlockEntry) (named : Option Block) (id : ℕ) → is_none (table id) ≡ true → is_none (with_length table named id) ≡ true
length_none table None id none = none
length_none table (Some block) id none = by_test (eqb block.block_id id) (table id) none
  where
    by_test : (b : Bool) (o : Option BlockEntry) → is_none o ≡ true → is_none (cond b (option_map (of_length block.num_bytes) o) o) ≡ true
    by_test true None is = refl
    by_test true (Some entry) is = is
    by_test false o is = is

pub kth_push_cases : (ids : List ℕ) (id k b : ℕ) → is_kth (ids ++ id ∷ []) k b ≡ true → (is_kth ids k b ≡ true) ⊎ ((k ≡ length ids) × (b ≡ id))
kth_push_cases [] id k b is = inr (let one = kth_one id k b is in (one.0, one.1))
kth_push_cases (first ∷ ids) id zero b is = let parts = kth_parts (first ∷ ids ++ id ∷ []) 0 b is in inl (kth_test (first ∷ ids) 0 b (omega arith) parts.1)
kth_push_cases (first ∷ ids) id (suc k) b is =
    let parts = kth_parts (first ∷ ids ++ id ∷ []) (suc k) b is in
    ⊎_elim (λ there. inl (kth_later first ids k b there)) (λ here. inr (omega (arith, here.0), here.1)) (kth_push_cases ids id k b (kth_test (ids ++ id ∷ []) k b (omega (arith, parts.0)) parts.1))

-- a file with a new block behind the others, where the one before it gets its length
module _ (names : List ℕ → Option Entry) (table table' : ℕ → Option BlockEntry) (path : List ℕ) (previous : Option Block) (sum : ℕ) (sound : Sound names table) (can : CanTake names table path previous sum)
    (id : ℕ) (entry : BlockEntry) (absent : table id ≡ None) (empty : entry.length ≡ 0) (now : (b : ℕ) → table' b ≡ with_block (with_length table previous) id entry b) where
  abbrev file : FileEntry
  file = can.file

  at_path : (k b : ℕ) → is_kth file.blocks k b ≡ true → is_kth_at names path k b ≡ true
  at_path k b here = ap (λ (o : Option Entry). is_kth (blocks_at o) k b) can.is ∙ here

  apart_new : (q : List ℕ) (k b : ℕ) → is_kth_at names q k b ≡ true → id ≡ b → ⊥
  apart_new q k b here same = kth_absent table (names q) k b (sound.sized q) (ap table (sym same) ∙ absent) here

  block_at : (c : Bool) (o : Option BlockEntry) → (c ≡ true → ⊥) → cond c (Some entry) o ≡ o
  block_at true o apart = absurd (apart refl)
  block_at false o apart = refl

  other_block : (q : List ℕ) (k b : ℕ) → is_kth_at names q k b ≡ true → table' b ≡ with_length table previous b
  other_block q k b here = now b ∙ block_at (eqb id b) (with_length table previous b) (λ is. apart_new q k b here (eqb-true id b is))

  here_block : table' id ≡ Some entry
  here_block = now id ∙ ap (λ (c : Bool). cond c (Some entry) (with_length table previous id)) (eq-eqb id id refl)

  -- the new block has no bytes
  pub sums_behind : total table' (file.blocks ++ id ∷ []) ≡ Some sum
  sums_behind =
      let so_far = total_same (with_length table previous) table' file.blocks (λ k b here. other_block path k b (at_path k b here)) ∙ can.sums in
      let same : sum + entry.length ≡ sum = omega (arith, empty) in
      total-push table' file.blocks id sum entry so_far here_block ∙ ap Some same

  new_fits : is_length (total table' (file.blocks ++ id ∷ [])) ≡ true
  new_fits = ap is_length (sums_behind ∙ sym can.sums) ∙ can.sized

  -- the blocks of the other files stay
  pub others_behind : (q : List ℕ) (k b : ℕ) → (path ≡ q → ⊥) → is_kth_at names q k b ≡ true → table' b ≡ table b
  others_behind q k b other here = other_block q k b here ∙ length_other names table table' path file file sound can.is previous can.has q k b other here

  unused_new : (q : List ℕ) (k n b : ℕ) → (path ≡ q → ⊥) → is_kth (file.blocks ++ id ∷ []) k b ≡ true → is_kth_at names q n b ≡ true → ⊥
  unused_new q k n b other here there =
      ⊎_elim (λ own. apart_other names table table' path file file sound can.is q k n b other own there) (λ new. apart_new q n b there (sym new.1)) (kth_push_cases file.blocks id k b here)

  distinct_new : (k n b : ℕ) → is_kth (file.blocks ++ id ∷ []) k b ≡ true → is_kth (file.blocks ++ id ∷ []) n b ≡ true → k ≡ n
  distinct_new k n b here there =
      ⊎_elim
      (λ own. ⊎_elim (λ own'. apart_own names table table' path file file sound can.is k n b own own') (λ new. absurd (apart_new path k b (at_path k b own) (sym new.1))) (kth_push_cases file.blocks id n b there))
      (λ new. ⊎_elim (λ own'. absurd (apart_new path n b (at_path n b own') (sym new.1))) (λ new'. new.0 ∙ sym new'.0) (kth_push_cases file.blocks id n b there))
      (kth_push_cases file.blocks id k b here)

  pub sound_behind : Sound (with_entry names path (with_more file id)) table'
  sound_behind =
      sound_changed names table table' path file (with_more file id) sound can.is
      others_behind new_fits unused_new distinct_new

  pub numbered_behind : (b : ℕ) → (id ≡ b → ⊥) → is_none (table b) ≡ true → is_none (table' b) ≡ true
  numbered_behind b apart none = ap is_none (now b ∙ block_at (eqb id b) (with_length table previous b) (λ is. apart (eqb-true id b is))) ∙ length_none table previous b none

-- a new block that is listed before another gets its length
pub length_after : (names : List ℕ → Option Entry) (table table1 : ℕ → Option BlockEntry) (path : List ℕ) (previous : Option Block) (sum : ℕ) (sound : Sound names table) (can : CanTake names table path previous sum)
    (id : ℕ) (entry : BlockEntry) → table id ≡ None → ((b : ℕ) → table1 b ≡ cond (eqb id b) (Some entry) (table b)) → (b : ℕ) → with_length table1 previous b ≡ with_block (with_length table previous) id entry b
length_after names table table1 path None sum sound can id entry absent put b = put b
length_after names table table1 path (Some block) sum sound can id entry absent put b = by_test (eqb block.block_id b) (eqb-true block.block_id b)
  where
    own : is_kth_at names path can.has.0 block.block_id ≡ true
    own = ap (λ (o : Option Entry). is_kth (blocks_at o) can.has.0 block.block_id) can.is ∙ kth_test can.file.blocks can.has.0 block.block_id can.has.1 (get_or_default can.file.blocks can.has.0 0 block.block_id can.has.1 ∙ can.has.2)

    by_new : (c : Bool) → eqb id b ≡ c → (block.block_id ≡ b) → option_map (of_length block.num_bytes) (table1 b) ≡ cond c (Some entry) (option_map (of_length block.num_bytes) (table b))
    by_new true is same = absurd (kth_absent table (names path) can.has.0 block.block_id (sound.sized path) (ap table (same ∙ sym (eqb-true id b is)) ∙ absent) own)
    by_new false is same = ap (option_map (of_length block.num_bytes)) (put b ∙ ap (λ (c : Bool). cond c (Some entry) (table b)) is)

    by_test : (c : Bool) → (c ≡ true → block.block_id ≡ b) → cond c (option_map (of_length block.num_bytes) (table1 b)) (table1 b) ≡ cond (eqb id b) (Some entry) (cond c (option_map (of_length block.num_bytes) (table b)) (table b))
    by_test true same = by_new (eqb id b) refl (same refl)
    by_test false same = put b

-- a block that was listed is taken out again
pub unlisted_again : (table table1 table2 : ℕ → Option BlockEntry) (id : ℕ) (entry : BlockEntry) → table id ≡ None → ((b : ℕ) → table1 b ≡ cond (eqb id b) (Some entry) (table b)) → ((b : ℕ) → table2 b ≡ cond (eqb id b) None (table1 b)) → (b : ℕ) → table2 b ≡ table b
unlisted_again table table1 table2 id entry absent put gone b = gone b ∙ by_test (eqb id b) (eqb-true id b) (put b)
  where
    by_test : (c : Bool) → (c ≡ true → id ≡ b) → table1 b ≡ cond c (Some entry) (table b) → cond c None (table1 b) ≡ table b
    by_test true same was = sym (ap table (sym (same refl)) ∙ absent)
    by_test false same was = was

-- a file in its own place
pub same_file : (names : List ℕ → Option Entry) (path : List ℕ) (file : FileEntry) → names path ≡ Some (entries.File file) → (q : List ℕ) → with_entry names path file q ≡ names q
same_file names path file is q = by_test (bytes_eq path q) (bytes_eq-Decides path q).0
  where
    by_test : (b : Bool) → (b ≡ true → path ≡ q) → cond b (Some (entries.File file)) (names q) ≡ names q
    by_test true same = sym is ∙ ap names (same refl)
    by_test false same = refl

plus_alike : (o o' : Option BlockEntry) (rest : Option ℕ) → option_map (λ e. e.length) o' ≡ option_map (λ e. e.length) o → plus_length o' rest ≡ plus_length o rest
plus_alike None None rest same = refl
plus_alike None (Some e) rest same = absurd (cc)
plus_alike (Some e) None rest same = absurd (cc)
plus_alike (Some e) (Some e') (Some n) same = let is : e'.length ≡ e.length = cc (same) in ap (λ (m : ℕ). Some (m + n)) is
plus_alike (Some e) (Some e') None same = refl

-- tables with the same lengths have the same in total
pub total_alike : (t t' : ℕ → Option BlockEntry) → ((b : ℕ) → option_map (λ e. e.length) (t' b) ≡ option_map (λ e. e.length) (t b)) → (ids : List ℕ) → total t' ids ≡ total t ids
total_alike t t' same [] = refl
total_alike t t' same (id ∷ ids) = plus_alike (t id) (t' id) (total t' ids) (same id) ∙ ap (plus_length (t id)) (total_alike t t' same ids)

-- where all lengths stay, what is sized stays so
pub sized_alike : (t t' : ℕ → Option BlockEntry) → ((b : ℕ) → option_map (λ e. e.length) (t' b) ≡ option_map (λ e. e.length) (t b)) → (o : Option Entry) → is_sized t o ≡ true → is_sized t' o ≡ true
sized_alike t t' same None is = refl
sized_alike t t' same (Some entries.Dir) is = refl
sized_alike t t' same (Some (entries.File file)) is = ap is_length (total_alike t t' same file.blocks) ∙ is

-- a block of the same length with another stamp, or on other datanodes
module _ (table table' : ℕ → Option BlockEntry) (id : ℕ) (entry entry' : BlockEntry) (same_length : entry'.length ≡ entry.length) (is : table id ≡ Some entry)
    (now : (b : ℕ) → table' b ≡ with_block table id entry' b) where
  pub relisted_length : (b : ℕ) → option_map (λ e. e.length) (table' b) ≡ option_map (λ e. e.length) (table b)
  relisted_length b = ap (option_map (λ e. e.length)) (now b) ∙ by_test (eqb id b) (eqb-true id b)
    where
      by_test : (c : Bool) → (c ≡ true → id ≡ b) → option_map (λ e. e.length) (cond c (Some entry') (table b)) ≡ option_map (λ e. e.length) (table b)
      by_test true same = ap Some same_length ∙ ap (option_map (λ e. e.length)) (sym is ∙ ap table (same refl))
      by_test false same = refl

  pub relisted_other : (b : ℕ) → (id ≡ b → ⊥) → table' b ≡ table b
  relisted_other b apart = now b ∙ by_test (eqb id b) (eqb-true id b)
    where
      by_test : (c : Bool) → (c ≡ true → id ≡ b) → cond c (Some entry') (table b) ≡ table b
      by_test true same = absurd (apart (same refl))
      by_test false same = refl

  pub relisted_none : (b : ℕ) → is_none (table b) ≡ true → is_none (table' b) ≡ true
  relisted_none b none = ap is_none (relisted_other b (λ same. false≢true (sym (ap is_none (sym (ap table same) ∙ is)) ∙ none))) ∙ none

-- a block that a list contains is its kth
pub kth_contained : (ids : List ℕ) (id : ℕ) → Contains ids id → (k : ℕ) × (is_kth ids k id ≡ true)
kth_contained ids id has = (has.0, kth_test ids has.0 id has.1 (get_or_default ids has.0 0 id has.1 ∙ has.2))
