-- What stays whole and full where a command opens a file: of that file, and of the others.
use Rattle.std.proofs.Common.{◌≡◌, ◌≢◌, ⊎_elim, ℕ, ◌+◌, ◌<◌, ◌≤◌, Bool, true, false, cond, List, [], ◌∷◌, ◌++◌, length, Option, Some, None, unwrap_or, refl, sym, ◌∙◌, ap, subst, arith}
use Rattle.std.proofs.lemmas.List.{get_or-append-add, length-append}
use Rattle.std.specs.List.{list_any}
use Rattle.std.specs.Prelude.{Contains, slice_index_or}
use Rattle.std.specs.Str.{bytes_eq}
use Rattle.hdfs_cluster.specs.declared.messages.LocatedBlock.{LocatedBlock}
use Rattle.hdfs_cluster.specs.declared.picture.BlockEntry.{BlockEntry}
use Rattle.hdfs_cluster.specs.declared.picture.Entry.{Entry}
use Rattle.hdfs_cluster.specs.declared.picture.Entry.TheVariants as entries
use Rattle.hdfs_cluster.specs.declared.picture.FileEntry.{FileEntry}
use Rattle.hdfs_cluster.specs.Effects.{Creates, Opens, blocks_at}
use Rattle.hdfs_names.specs.Paths.{ancestors}
use Rattle.hdfs_cluster.specs.Picture.{Picture, SameFiles}
use Rattle.hdfs_cluster.specs.Sound.{IsSound, IsFileAt}
use Rattle.hdfs_file_writer.specs.OnlyFiles.{KeepsBlocks}
use Rattle.hdfs_file_writer.specs.Tails.{tail_length}
use Rattle.hdfs_cluster.specs.WholeBlocks.{IsWhole, IsOfSize, IsUpTo, AllBehind, AllBetween, AreFull}
use Rattle.hdfs_file_writer.specs.Writers.{tail_opened}
use Rattle.hdfs_file_writer.proofs.Creating.{created_keeps}
use Rattle.hdfs_file_writer.proofs.Placing.{at_id, at_path}
use Rattle.hdfs_file_writer.proofs.WholeBlocks.{IsKept, before_last, none_between, size_kept, whole_kept}
use Rattle.hdfs_commands.proofs.Begun.{opened_named}
use Rattle.hdfs_commands.proofs.WholeBeside.{StaysAt, stays_named}

-- what stays over each of two calls stays over both
pub stays_trans : (p q r : Picture) (path : List ℕ) → StaysAt p q path → StaysAt q r path → StaysAt p r path
stays_trans p q r path one two = record {
  blocks = two.blocks ∙ one.blocks;
  files = λ file is. one.files file (two.files file is);
  keeps = λ id there.
      (let first = one.keeps id there in
      let then = two.keeps id (subst (λ (ids : List ℕ). Contains ids id) (sym one.blocks) there) in
      (then.0 ∙ first.0, λ node. then.1 node ∙ first.1 node));
}

-- it stays where the files do
pub stays_files : (p q : Picture) → SameFiles p q → (path : List ℕ) → StaysAt p q path
stays_files p q same path = stays_named p q path (same.names path) (λ id there. (same.table id, λ node. same.held node id))

-- a file that stands above a new one stood there before
pub above_file : (b : Bool) (e : Option Entry) (file : FileEntry) → cond b (Some (unwrap_or e entries.Dir)) e ≡ Some (entries.File file) → e ≡ Some (entries.File file)
above_file true None file is = absurd (cc is)
above_file true (Some entry) file is = is
above_file false e file is = is

-- a directory that is made has no blocks
pub above_blocks : (b : Bool) (e : Option Entry) → blocks_at (cond b (Some (unwrap_or e entries.Dir)) e) ≡ blocks_at e
above_blocks true None = refl
above_blocks true (Some entry) = refl
above_blocks false e = refl

module _ (p q : Picture) (path : List ℕ) (file : FileEntry) (creates : Creates path file p q) where
  -- a new file leaves the others, also where it overwrites one
  module _ (sound : IsSound p) (other : List ℕ) (apart : other ≢ path) where
    abbrev is_above : Bool
    is_above = list_any (bytes_eq other) (ancestors path)

    named_other : q.names other ≡ cond is_above (Some (unwrap_or (p.names other) entries.Dir)) (p.names other)
    named_other =
        creates.changes.names other
        ∙ ⊎_elim
        (λ here. absurd (apart (sym here.0)))
        (λ away. away.1)
        (at_path path other (Some (entries.File file)) (cond is_above (Some (unwrap_or (p.names other) entries.Dir)) (p.names other)))

    keeps_by : (e : Option Entry) → p.names other ≡ e → KeepsBlocks p q (blocks_at e)
    keeps_by None is id there = absurd (omega (arith, there.1))
    keeps_by (Some entries.Dir) is id there = absurd (omega (arith, there.1))
    keeps_by (Some (entries.File old)) is id there = created_keeps p q sound path file creates other apart old is id there

    pub stays_created : StaysAt p q other
    stays_created = record {
      blocks = ap blocks_at named_other ∙ above_blocks is_above (p.names other);
      files = λ old is. above_file is_above (p.names other) old (sym named_other ∙ is);
      keeps = keeps_by (p.names other) refl;
    }

  named_new : IsFileAt q path file
  named_new =
      creates.changes.names path
      ∙ ⊎_elim
      (λ here. here.1)
      (λ away. absurd (away.0 refl))
      (at_path path path (Some (entries.File file)) (cond (list_any (bytes_eq path) (ancestors path)) (Some (unwrap_or (p.names path) entries.Dir)) (p.names path)))

  -- it has no block that could be anything but whole
  pub created_between : (P : ℕ → Type 0) (from : ℕ) → AllBetween P from (blocks_at (q.names path))
  created_between P from =
      let none : length (blocks_at (q.names path)) ≡ 0 = ap (λ (e : Option Entry). length (blocks_at e)) named_new ∙ ap (λ (l : List ℕ). length l) creates.none in
      none_between P (blocks_at (q.names path)) from (omega (arith, none))

-- a closed file that was opened to be gone on with
module _ (p q : Picture) (sound : IsSound p) (path : List ℕ) (file : FileEntry) (at : IsFileAt p path file) where
  -- its blocks but the last stay
  reopened_kept : (block : Option LocatedBlock) → Opens path file block p q → (k : ℕ) → k + 1 < length file.blocks → IsKept p q (slice_index_or file.blocks k 0)
  reopened_kept None opens k lt = (opens.1.table (slice_index_or file.blocks k 0), λ node. opens.1.bytes.held node (slice_index_or file.blocks k 0))
  reopened_kept (Some block) opens k lt = (
    opens.6.table (slice_index_or file.blocks k 0)
        ∙ ⊎_elim
        (λ here. absurd (before_last p sound path file at opens.0 opens.1 opens.4 k lt (sym here.0)))
        (λ away. away.1)
        (at_id opens.1 (slice_index_or file.blocks k 0) (Some opens.3) (p.table (slice_index_or file.blocks k 0))),
    λ node. opens.6.bytes.held node (slice_index_or file.blocks k 0),
  )

  -- the last one is as long as the answer says
  reopened_last : (front : List ℕ) (id : ℕ) (entry : BlockEntry) (n size : ℕ) → file.blocks ≡ front ++ id ∷ [] → p.table id ≡ Some entry → n ≡ entry.length
      → AreFull p size file.blocks → n ≤ size
  reopened_last front id entry n size ends is long full =
      let counted : length front + 1 ≡ length file.blocks = omega (arith, ap length ends, length-append front (id ∷ [])) in
      let here : slice_index_or file.blocks (length front) 0 ≡ id =
      ap (λ (l : List ℕ). slice_index_or l (length front) 0) ends ∙ ap (λ (i : ℕ). slice_index_or (front ++ id ∷ []) i 0) (omega arith)
      ∙ get_or-append-add front (id ∷ []) 0 0 in
      let last : IsUpTo p size id = subst (IsUpTo p size) here (full.last (length front) counted) in
      let same : last.entry ≡ entry = cc (last.is, is) in
      omega (arith, last.most, long, ap (λ (e : BlockEntry). e.length) same)

  module _ (block : Option LocatedBlock) (opens : Opens path file block p q) where
    blocks_now : blocks_at (q.names path) ≡ file.blocks
    blocks_now = ap blocks_at (opened_named p q path file at block opens)

    -- those that were whole are whole, but for the last
    pub reopened_whole : (from : ℕ) → AllBehind (IsWhole p) from (blocks_at (p.names path)) → AllBetween (IsWhole q) from (blocks_at (q.names path))
    reopened_whole from all =
        let before : AllBehind (IsWhole p) from file.blocks = subst (AllBehind (IsWhole p) from) (ap blocks_at at) all in
        subst (AllBetween (IsWhole q) from) (sym blocks_now)
        (λ k least lt. whole_kept p q (slice_index_or file.blocks k 0) (reopened_kept block opens k lt) (before k least (omega (arith, lt))))

    -- those that were full are full
    pub reopened_full : (size : ℕ) → AreFull p size file.blocks → AllBetween (IsOfSize q size) 0 (blocks_at (q.names path))
    reopened_full size full =
        subst (AllBetween (IsOfSize q size) 0) (sym blocks_now)
        (λ k least lt. size_kept p q size (slice_index_or file.blocks k 0) (reopened_kept block opens k lt) (full.full k least lt))

  -- and the last one isn't longer than the others
  pub reopened_short : (block : Option LocatedBlock) → Opens path file block p q → (size : ℕ) → AreFull p size file.blocks → tail_length (tail_opened block None) ≤ size
  reopened_short None opens size full = omega arith
  reopened_short (Some block) opens size full =
      reopened_last opens.0 opens.1 opens.2 block.b.num_bytes size opens.4 opens.5.is opens.5.same_length full
