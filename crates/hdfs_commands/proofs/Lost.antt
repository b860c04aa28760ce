-- A block that a datanode holds whole isn't lost where nothing failed.
use Rattle.std.proofs.Common.{◌≡◌, ⊎_elim, ℕ, ◌+◌, List, [], ◌∷◌, length, take, drop, get_or, Option, Some, None, refl, ◌∙◌, ap, subst}
use Rattle.std.proofs.lemmas.List.{get_or_default}
use Rattle.hdfs_cluster.specs.declared.picture.Entry.{Entry}
use Rattle.hdfs_cluster.specs.declared.picture.Entry.TheVariants as entries
use Rattle.hdfs_cluster.specs.declared.picture.BlockEntry.{BlockEntry}
use Rattle.hdfs_cluster.specs.declared.picture.FileEntry.{FileEntry}
use Rattle.hdfs_cluster.specs.Counts.{FaultCounts, NoneRose}
use Rattle.hdfs_cluster.specs.Files.{State, Node, Dir, File, Writing, Content}
use Rattle.hdfs_cluster.specs.Picture.{Picture}
use Rattle.hdfs_cluster.specs.Shown.{Shown}
use Rattle.hdfs_cluster.specs.Stores.{Agrees, AgreesAt, StoresBlocks, StoresBlock}
use Rattle.hdfs_cluster.specs.Lost.{LiesAt, AllFailed, FileLost}
use Rattle.hdfs_commands.proofs.Agreeing.{agrees_told}

-- the bytes that a block of a stored file stores
block_of : (p : Picture) (from : ℕ) (ids bytes : List ℕ) (id at : ℕ) (entry : BlockEntry) → StoresBlocks p ids bytes → LiesAt p.table from ids id at → p.table id ≡ Some entry → (held : List ℕ) × StoresBlock p id entry held
block_of p from [] bytes id at entry stored lies is = absurd lies
block_of p from (first ∷ ids) bytes id at entry stored lies is =
    ⊎_elim
    (λ here. (let same : stored.0 ≡ entry = cc (stored.1, here.0, is) in
    (take stored.0.length bytes, subst (λ (e : BlockEntry). StoresBlock p id e (take stored.0.length bytes)) same (subst (λ (i : ℕ). StoresBlock p i stored.0 (take stored.0.length bytes)) here.0 stored.3))))
    (λ rest. block_of p (from + rest.0.length) ids (drop stored.0.length bytes) id at entry stored.4 rest.2 is)
    lies

-- some node holds the block whole, so not all of them failed
some_stands : (p : Picture) (id : ℕ) (entry : BlockEntry) (held : List ℕ) (n : ℕ) (old new : FaultCounts) → StoresBlock p id entry held → NoneRose n old new → AllFailed old new p id entry → ⊥
some_stands p id entry held n old new stores none failed =
    let k = stores.whole.0 in
    let node : get_or entry.nodes k [] ≡ stores.whole.1 = get_or_default entry.nodes k [] stores.whole.1 stores.whole.2 ∙ stores.whole.3 in
    let whole : p.held (get_or entry.nodes k []) id ≡ held = ap (λ (d : List ℕ). p.held d id) node ∙ stores.whole.4 in
    none.nodes (get_or entry.nodes k []) (failed k stores.whole.2 (ap length whole ∙ stores.length))

-- what stands at the path of a file that nobody writes
file_at : (p : Picture) (file : FileEntry) (node : Option Node) → ((content : Content) → node ≡ Some (Writing content) → ⊥) → AgreesAt p (Some (entries.File file)) node → (content : Content) × StoresBlocks p file.blocks content.bytes
file_at p file None closed h = absurd h
file_at p file (Some Dir) closed h = absurd h
file_at p file (Some (Writing content)) closed h = absurd (closed content refl)
file_at p file (Some (File content)) closed h = (content, h.2)

-- no byte of such a file is lost
pub not_lost : (state : State) (n : ℕ) (old : FaultCounts) (new : Shown) (path : List ℕ) (from end byte : ℕ) → ((content : Content) → state.files path ≡ Some (Writing content) → ⊥) → Agrees new.picture state.files → NoneRose n old new.counts → FileLost old new path from end byte → ⊥
not_lost state n old new path from end byte closed agrees none lost =
    let here = subst (λ (o : Option Entry). AgreesAt lost.picture o (state.files path)) lost.named (agrees_told new.picture lost.picture state.files agrees lost.told path) in
    let content = file_at lost.picture lost.file (state.files path) closed here in
    let block = block_of lost.picture 0 lost.file.blocks content.0.bytes lost.lost.id lost.lost.at lost.lost.entry content.1 lost.lost.lies lost.lost.is in
    some_stands lost.picture lost.lost.id lost.lost.entry block.0 n old new.counts block.1 none lost.lost.all_failed
