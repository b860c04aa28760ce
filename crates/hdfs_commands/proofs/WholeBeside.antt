-- What stays whole and full of a file that a command leaves alone.
use Rattle.std.proofs.Common.{◌≡◌, ◌≢◌, ◌⊎◌, inl, inr, ⊎_elim, ℕ, ◌<◌, Bool, true, false, List, length, Option, Some, None, Ok, Err, refl, sym, ◌∙◌, ap, subst, arith}
use Rattle.std.proofs.lemmas.Bool.{false≢true}
use Rattle.std.proofs.lemmas.List.{get_or_default}
use Rattle.std.proofs.lemmas.Slice.Eq.{bytes_eq-Decides}
use Rattle.std.specs.Prelude.{Contains, slice_index_or}
use Rattle.std.specs.Str.{bytes_eq}
use Rattle.hdfs_model.specs.declared.commands.Command.{Command}
use Rattle.hdfs_model.specs.declared.commands.Command.TheVariants as commands
use Rattle.hdfs_model.specs.declared.commands.Reply.{Reply}
use Rattle.hdfs_model.specs.declared.commands.WriteOptions.{WriteOptions}
use Rattle.hdfs_cluster.specs.declared.errors.HdfsError.{HdfsError}
use Rattle.hdfs_cluster.specs.declared.picture.Entry.{Entry}
use Rattle.hdfs_cluster.specs.declared.picture.Entry.TheVariants as entries
use Rattle.hdfs_cluster.specs.declared.picture.FileEntry.{FileEntry}
use Rattle.hdfs_cluster.specs.Effects.{blocks_at}
use Rattle.hdfs_cluster.specs.Picture.{Picture}
use Rattle.hdfs_cluster.specs.Shown.{Shown}
use Rattle.hdfs_cluster.specs.Sound.{IsSound, IsFileAt}
use Rattle.hdfs_model.specs.Steps.{target_of}
use Rattle.hdfs_file_writer.specs.OnlyFiles.{KeepsBlocks, OnlyFile}
use Rattle.hdfs_cluster.specs.WholeBlocks.{IsWhole, IsOfSize, IsUpTo, AllBehind, AllBetween, LastOne, AreFull}
use Rattle.hdfs_file_writer.specs.Writers.{sizes_of}
use Rattle.hdfs_file_writer.proofs.Others.{others_keep}
use Rattle.hdfs_commands.specs.Acting.{world_at}
use Rattle.hdfs_commands.specs.Session.{writer_of}
use Rattle.hdfs_commands.specs.Whole.{AreWhole, AreFilled, KeepsWhole}
use Rattle.hdfs_commands.specs.declared.session.Session.{Session}

-- The blocks of what stands at a path stay, and what datanodes hold of them. Where a file stands there, it stood there before.
pub record StaysAt (p q : Picture) (path : List ℕ) : Type 0 where
  pub blocks : blocks_at (q.names path) ≡ blocks_at (p.names path)
  pub files : (file : FileEntry) → IsFileAt q path file → IsFileAt p path file
  pub keeps : KeepsBlocks p q (blocks_at (p.names path))

-- so it is where the name stays
pub stays_named : (p q : Picture) (path : List ℕ) → q.names path ≡ p.names path → KeepsBlocks p q (blocks_at (p.names path)) → StaysAt p q path
stays_named p q path same keeps = record { blocks = ap blocks_at same; files = λ file is. sym same ∙ is; keeps = keeps }

-- and where nothing changed but the file at another path
pub stays_elsewhere : (p q : Picture) (path other : List ℕ) → IsSound p → OnlyFile path p q → other ≢ path → StaysAt p q other
stays_elsewhere p q path other sound only apart = stays_named p q other (only.names other apart) (by_entry (p.names other) refl)
  where
    by_entry : (e : Option Entry) → p.names other ≡ e → KeepsBlocks p q (blocks_at e)
    by_entry None named id there = absurd (omega (arith, there.1))
    by_entry (Some entries.Dir) named id there = absurd (omega (arith, there.1))
    by_entry (Some (entries.File file)) named id there = others_keep path p q sound only other file apart named id there

-- what holds of the kth of some blocks holds of one that they contain
pub contains_at : (blocks : List ℕ) (k : ℕ) → k < length blocks → Contains blocks (slice_index_or blocks k 0)
contains_at blocks k below = (k, below, get_or_default blocks k (slice_index_or blocks k 0) 0 below)

-- a block that stays is whole if it was
pub still_whole : (p q : Picture) (id : ℕ) → q.table id ≡ p.table id → ((node : List ℕ) → q.held node id ≡ p.held node id) → IsWhole p id → IsWhole q id
still_whole p q id same held whole = record {
  entry = whole.entry;
  is = same ∙ whole.is;
  whole = λ k d below. ap length (held (slice_index_or whole.entry.nodes k d)) ∙ whole.whole k d below;
}

-- and is as long as it was
pub still_of_size : (p q : Picture) (size id : ℕ) → q.table id ≡ p.table id → IsOfSize p size id → IsOfSize q size id
still_of_size p q size id same of = record { entry = of.entry; is = same ∙ of.is; just = of.just }

pub still_up_to : (p q : Picture) (size id : ℕ) → q.table id ≡ p.table id → IsUpTo p size id → IsUpTo q size id
still_up_to p q size id same of = record { entry = of.entry; is = same ∙ of.is; most = of.most }

-- what stays of each of some blocks stays of those that are named
module _ (P Q : ℕ → Type 0) (blocks : List ℕ) (each : (id : ℕ) → Contains blocks id → P id → Q id) where
  pub behind_still : (from : ℕ) → AllBehind P from blocks → AllBehind Q from blocks
  behind_still from all k least below = each (slice_index_or blocks k 0) (contains_at blocks k below) (all k least below)

  pub between_still : (from : ℕ) → AllBetween P from blocks → AllBetween Q from blocks
  between_still from all k least below = each (slice_index_or blocks k 0) (contains_at blocks k (omega (arith, below))) (all k least below)

  pub last_still : LastOne P blocks → LastOne Q blocks
  last_still one k is = each (slice_index_or blocks k 0) (contains_at blocks k (omega (arith, is))) (one k is)

-- the blocks at a path where they stay
module _ (p q : Picture) (path : List ℕ) (stays : StaysAt p q path) where
  whole_each : (id : ℕ) → Contains (blocks_at (p.names path)) id → IsWhole p id → IsWhole q id
  whole_each id there whole = still_whole p q id (stays.keeps id there).0 (stays.keeps id there).1 whole

  sized_each : (size id : ℕ) → Contains (blocks_at (p.names path)) id → IsOfSize p size id → IsOfSize q size id
  sized_each size id there of = still_of_size p q size id (stays.keeps id there).0 of

  up_to_each : (size id : ℕ) → Contains (blocks_at (p.names path)) id → IsUpTo p size id → IsUpTo q size id
  up_to_each size id there of = still_up_to p q size id (stays.keeps id there).0 of

  -- those behind the first so many are whole still
  pub whole_behind_at : (from : ℕ) → AllBehind (IsWhole p) from (blocks_at (p.names path)) → AllBehind (IsWhole q) from (blocks_at (q.names path))
  whole_behind_at from all = subst (AllBehind (IsWhole q) from) (sym stays.blocks) (behind_still (IsWhole p) (IsWhole q) (blocks_at (p.names path)) whole_each from all)

  -- and so are those but the last
  pub whole_between_at : (from : ℕ) → AllBetween (IsWhole p) from (blocks_at (p.names path)) → AllBetween (IsWhole q) from (blocks_at (q.names path))
  whole_between_at from all = subst (AllBetween (IsWhole q) from) (sym stays.blocks) (between_still (IsWhole p) (IsWhole q) (blocks_at (p.names path)) whole_each from all)

  -- they have the size that they had
  pub sized_between_at : (size : ℕ) → AllBetween (IsOfSize p size) 0 (blocks_at (p.names path)) → AllBetween (IsOfSize q size) 0 (blocks_at (q.names path))
  sized_between_at size all =
      subst (AllBetween (IsOfSize q size) 0) (sym stays.blocks) (between_still (IsOfSize p size) (IsOfSize q size) (blocks_at (p.names path)) (sized_each size) 0 all)

  -- and a file is full still
  pub full_at : (file : FileEntry) → IsFileAt p path file → AreFull p file.attributes.block_size file.blocks → AreFull q file.attributes.block_size file.blocks
  full_at file is full =
      let size = file.attributes.block_size in
      let same : blocks_at (p.names path) ≡ file.blocks = ap blocks_at is in
      record {
        full = between_still (IsOfSize p size) (IsOfSize q size) file.blocks (λ id there of. sized_each size id (subst (λ (l : List ℕ). Contains l id) (sym same) there) of) 0 full.full;
        last = last_still (IsUpTo p size) (IsUpTo q size) file.blocks (λ id there of. up_to_each size id (subst (λ (l : List ℕ). Contains l id) (sym same) there) of) full.last;
      }

-- A path whose blocks and whose writer stay.
module _ (old new : Shown) (session session' : Session) (p q : Picture) (told : old.picture ≡ Some p) (told' : new.picture ≡ Some q) (path : List ℕ)
    (stays : StaysAt p q path) (same : writer_of session' path ≡ writer_of session path) where
  -- its blocks are whole still
  pub whole_beside : (from : ℕ) → AreWhole old session path from → AreWhole new session' path from
  whole_beside from before = record {
    closed = λ none r is.
        (let one : q ≡ r = cc (told', is) in
        subst (λ (x : Picture). AllBehind (IsWhole x) from (blocks_at (x.names path))) one
        (whole_behind_at p q path stays from (before.closed (sym same ∙ none) p told)));
    going = λ writer here r is.
        (let one : q ≡ r = cc (told', is) in
        subst (λ (x : Picture). AllBetween (IsWhole x) from (blocks_at (x.names path))) one
        (whole_between_at p q path stays from (before.going writer (sym same ∙ here) p told)));
  }

  -- and of their size
  pub filled_beside : AreFilled old session path → AreFilled new session' path
  filled_beside before = record {
    closed = λ none r file is at.
        (let one : r ≡ q = cc (told', is) in
        let there : IsFileAt p path file = stays.files file (subst (λ (x : Picture). IsFileAt x path file) one at) in
        subst (λ (x : Picture). AreFull x file.attributes.block_size file.blocks) (sym one)
        (full_at p q path stays file there (before.closed (sym same ∙ none) p file told there)));
    going = λ writer here r is.
        (let one : q ≡ r = cc (told', is) in
        let size = (sizes_of writer).block_size in
        let was = before.going writer (sym same ∙ here) p told in
        (was.0, subst (λ (x : Picture). AllBetween (IsOfSize x size) 0 (blocks_at (x.names path))) one (sized_between_at p q path stays size was.1)));
  }

-- a path is that of the call, or another one
pub path_cases : (path other : List ℕ) → (path ≡ other) ⊎ (other ≢ path)
path_cases path other = by_test (bytes_eq path other) refl
  where
    by_test : (b : Bool) → bytes_eq path other ≡ b → (path ≡ other) ⊎ (other ≢ path)
    by_test true is = inl ((bytes_eq-Decides path other).0 is)
    by_test false is = inr (λ same. false≢true (sym is ∙ (bytes_eq-Decides path other).1 (sym same)))

-- A command at a path that leaves the other paths alone.
module _ (command : Command) (old new : Shown) (session session' : Session) (path : List ℕ) (p q : Picture) (told : old.picture ≡ Some p)
    (told' : new.picture ≡ Some q) (target : target_of (world_at session old) command ≡ path)
    (stays : (other : List ℕ) → other ≢ path → StaysAt p q other)
    (writers : (other : List ℕ) → other ≢ path → writer_of session' other ≡ writer_of session other) where
  -- after an error nothing is said of its own path
  pub keeps_failed : (error : HdfsError) → KeepsWhole command old session new session' (Err error)
  keeps_failed error = record {
    whole = λ other not_it from before.
        (let apart : other ≢ path = λ is. not_it (is ∙ sym target) in
        whole_beside old new session session' p q told told' other (stays other apart) (writers other apart) from before);
    filled = λ other not_it before.
        (let apart : other ≢ path = λ is. not_it (is ∙ sym target) in
        filled_beside old new session session' p q told told' other (stays other apart) (writers other apart) before);
    created = tt;
  }

  -- after a reply it is said of its own path too
  pub keeps_done : (reply : Reply) → ((from : ℕ) → AreWhole old session path from → AreWhole new session' path from) → (AreFilled old session path → AreFilled new session' path)
      → ((name : List ℕ) (options : WriteOptions) → command ≡ commands.Create name options → AreWhole new session' path 0 × AreFilled new session' path)
      → KeepsWhole command old session new session' (Ok reply)
  keeps_done reply whole filled created = record {
    whole = λ other any from before.
        ⊎_elim
        (λ here. subst (λ (x : List ℕ). AreWhole new session' x from) here (whole from (subst (λ (x : List ℕ). AreWhole old session x from) (sym here) before)))
        (λ apart. whole_beside old new session session' p q told told' other (stays other apart) (writers other apart) from before)
        (path_cases path other);
    filled = λ other any before.
        ⊎_elim
        (λ here. subst (λ (x : List ℕ). AreFilled new session' x) here (filled (subst (λ (x : List ℕ). AreFilled old session x) (sym here) before)))
        (λ apart. filled_beside old new session session' p q told told' other (stays other apart) (writers other apart) before)
        (path_cases path other);
    created = λ name options is.
        subst (λ (x : List ℕ). AreWhole new session' x 0 × AreFilled new session' x) (sym target) (created name options is);
  }
