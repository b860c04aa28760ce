-- What a note tells of a session that stopped.
use Rattle.std.specs.Prelude.{◌≡◌, ℕ, Option, Some, None}
use Rattle.hdfs_cluster.specs.declared.errors.HdfsError.{HdfsError}
use Rattle.hdfs_top.specs.declared.note.Note.{Note}
use Rattle.hdfs_top.specs.declared.note.Note.TheVariants as notes

-- the number of the command and the error at which a session stopped, where a note tells them
abbrev pub stop_of : Note → Option (ℕ × HdfsError)
stop_of (notes.Stopped stop) = Some (stop.at, stop.error)
stop_of _ = None

-- a note tells that a session stopped at the command of this number, by this error
abbrev pub TellsStop : Note → ℕ → HdfsError → Type 0
TellsStop note number error = stop_of note ≡ Some (number, error)
