-- Wrong answers of a session, which the definitions of the main theorem refuse.
use Rattle.std.specs.Prelude.{◌≡◌, ◌≢◌, ◌<◌, ℕ, true, List, [], ◌∷◌, length, Some, slice_index_or}
use Rattle.std.proofs.Common.{sym, ◌∙◌, ap, arith}
use Rattle.std.proofs.lemmas.Bool.{false≢true}
use Rattle.hdfs_cluster.specs.declared.picture.BlockEntry.{BlockEntry}
use Rattle.hdfs_cluster.specs.declared.picture.Entry.TheVariants as entries
use Rattle.hdfs_cluster.specs.declared.picture.FileEntry.{FileEntry}
use Rattle.hdfs_cluster.specs.Counts.{FaultCounts, Rose}
use Rattle.hdfs_cluster.specs.Files.{Content, File}
use Rattle.hdfs_cluster.specs.Lost.{AllFailed}
use Rattle.hdfs_cluster.specs.Picture.{Picture}
use Rattle.hdfs_cluster.specs.Reading.{range_of}
use Rattle.hdfs_cluster.specs.Stores.{AgreesAt}

-- A block isn't lost while a listed datanode holds it whole and hasn't failed: no read ends with the first datanode that fails.
pub replica_is_left : (old new : FaultCounts) (p : Picture) (id : ℕ) (entry : BlockEntry) (k : ℕ) → k < length entry.nodes
    → length (p.held (slice_index_or entry.nodes k []) id) ≡ entry.length
    → (Rose (old.nodes (slice_index_or entry.nodes k [])) (new.nodes (slice_index_or entry.nodes k [])) → ⊥) → AllFailed old new p id entry → ⊥
replica_is_left old new p id entry k listed whole fine failed = fine (failed k listed whole)

-- The bytes of a range have no gap: a packet that begins behind the wanted byte doesn't stand for it.
abbrev second : List ℕ → ℕ
second (a ∷ b ∷ rest) = b
second bytes = 0

pub range_has_no_gap : range_of (1 ∷ 2 ∷ 3 ∷ 4 ∷ []) 0 3 ≢ 1 ∷ 3 ∷ 4 ∷ []
range_has_no_gap same = omega (arith, ap second same)

-- A file that no namenode was asked to complete is an open one, and so none that is closed.
pub open_is_not_closed : (p : Picture) (file : FileEntry) (content : Content) → file.is_open ≡ true
    → AgreesAt p (Some (entries.File file)) (Some (File content)) → ⊥
open_is_not_closed p file content being_written agrees = false≢true (sym agrees.0 ∙ being_written)
