-- Files that are opened, written and closed by a client.
use Rattle.std.specs.Prelude.{◌≡◌, ◌⊎◌, ℕ, true, false, List, ◌++◌, Some, None, Result}
use Rattle.hdfs_cluster.specs.declared.asks.Answer.{Answer}
use Rattle.hdfs_cluster.specs.declared.asks.Ask.{Ask}
use Rattle.hdfs_cluster.specs.declared.asks.AskFault.{AskFault}
use Rattle.hdfs_cluster.specs.declared.attributes.Attributes.{Attributes}
use Rattle.hdfs_cluster.specs.declared.errors.ArgFault.TheVariants as args
use Rattle.hdfs_cluster.specs.declared.errors.HdfsError.{HdfsError}
use Rattle.hdfs_cluster.specs.declared.errors.HdfsError.TheVariants as errors
use Rattle.hdfs_cluster.specs.Files.{File}
use Rattle.hdfs_cluster.specs.Picture.{Picture}
use Rattle.hdfs_cluster.specs.Shown.{Shown}
use Rattle.hdfs_cluster.specs.Stores.{AgreesAt}
use Rattle.hdfs_file_writer.specs.Tails.{FileCarries}
use Rattle.hdfs_file_writer.specs.Writers as files
use Rattle.hdfs_file_writer.specs.declared.file_writer.FileWriter as inner
use Rattle.hdfs_model.specs.declared.commands.WriteOptions.{WriteOptions}
use Rattle.hdfs_opening.specs.Opening.{BeginsAgain, BeginsNew}
use Rattle.hdfs_client.specs.Opening.{CreatesBy, FailsToAppend, FailsToCreate, OpensBy}
use Rattle.hdfs_client.specs.Writing.{GoesOn, IsWriterOf, OpensAt, OpensNone, ReachesWhole, WritesWhole, open_of, rebuilding_of}
use Rattle.hdfs_client.specs.declared.client.Client.{Client}
use Rattle.hdfs_client.specs.declared.writing.FileWriter.{FileWriter}

-- the options of a new file about which nothing is said
abbrev pub plain_options : WriteOptions
plain_options = record { block_size = None; replication = None; permission = 420; overwrite = false; create_parent = true }

-- files at a path aren't written for now: its service isn't whole; or there was no memory to tell
abbrev pub IsNotWhole : Client → List ℕ → Shown → HdfsError → Type 0
IsNotWhole client path shown error =
    ((error ≡ errors.InvalidArgument args.Settings) × ¬ (ReachesWhole client path shown)) ⊎ (error ≡ errors.NoMemory)

module _ {C : Type 0} (shown : C → Shown) (may_answer : Ask → Answer → Type 0) (serves : C → ℕ → Ask → Result Answer AskFault → C → Type 0) where
  -- a new file was asked for at a path, and this is its writer
  abbrev pub CreatedAt : Client → List ℕ → C → FileWriter → Client → C → Type 0
  CreatedAt client path old writer client' new =
      OpensAt (λ at before file lease after. CreatesBy may_answer serves at plain_options (rebuilding_of client) before old file lease after new)
      client path writer client'

  -- the file at a path was asked for, to be gone on with, and this is its writer
  abbrev pub AppendedAt : Client → List ℕ → C → FileWriter → Client → C → Type 0
  AppendedAt client path old writer client' new =
      OpensAt (λ at before file lease after. OpensBy may_answer serves at (rebuilding_of client) before old file lease after new) client path writer client'

  -- why no new file is written: its service isn't whole, and nothing was asked; or it couldn't be created
  abbrev pub NotCreated : Client → List ℕ → C → HdfsError → Client → C → Type 0
  NotCreated client path old error client' new =
      (IsNotWhole client path (shown old) error × (client' ≡ client) × (new ≡ old))
      ⊎ OpensNone (λ error at before after. FailsToCreate may_answer serves at plain_options before old error after new) client path old error client' new

  -- the same of one that is to be gone on with
  abbrev pub NotAppended : Client → List ℕ → C → HdfsError → Client → C → Type 0
  NotAppended client path old error client' new =
      (IsNotWhole client path (shown old) error × (client' ≡ client) × (new ≡ old))
      ⊎ OpensNone (λ error at before after. FailsToAppend shown may_answer serves at path before old error after new) client path old error client' new

-- over a told picture the new file has no bytes, and its writer carries it
abbrev pub BegunNew : Client → List ℕ → Shown → FileWriter → Client → Shown → Type 0
BegunNew client path old writer client' new =
    OpensAt (λ at before file lease after. BeginsNew old at plain_options file new) client path writer client'

-- over a told picture the writer of a file that is gone on with carries the bytes that it stores
abbrev pub BegunAgain : Client → List ℕ → Shown → FileWriter → Client → Shown → Type 0
BegunAgain client path old writer client' new =
    OpensAt (λ at before file lease after. BeginsAgain old at file new) client path writer client'

-- a writer of a client that writes a file of a whole service
abbrev pub IsWholeWriter : Client → Shown → FileWriter → Type 0
IsWholeWriter client shown writer = IsWriterOf client shown writer × WritesWhole client shown writer

-- an open writer stands as its last call left it
abbrev pub AreStanding : Shown → FileWriter → Type 0
AreStanding shown writer = (file : inner.FileWriter) → open_of writer ≡ Some file → files.Stands shown file

-- a closed file with just these bytes stands at a path
abbrev pub HasFile : Picture → List ℕ → List ℕ → Type 0
HasFile p path bytes = (attributes : Attributes) × AgreesAt p (p.names path) (Some (File (record { bytes = bytes; attributes = attributes })))

-- Over a told picture in which a writer carries the bytes of its file: that was closed with these bytes behind them.
abbrev pub Finishes : Shown → FileWriter → List ℕ → Shown → Type 0
Finishes old writer bytes new =
    (file : inner.FileWriter) → open_of writer ≡ Some file → (p : Picture) (had : List ℕ) → old.picture ≡ Some p
    → FileCarries p (files.path_of file) (files.tail_of file) had
    → (q : Picture) × (new.picture ≡ Some q) × HasFile q (files.path_of file) (had ++ bytes)

-- a write of an open writer has failed
abbrev pub WriteFails : Shown → FileWriter → HdfsError → Shown → Type 0
WriteFails old writer error new = (file : inner.FileWriter) → open_of writer ≡ Some file → files.has_failed file ≡ false
    → files.AreLimited (files.sizes_of file) → files.Fails old file error new

-- a close of one has
abbrev pub CloseFails : Shown → FileWriter → HdfsError → Shown → Type 0
CloseFails old writer error new =
    (file : inner.FileWriter) → open_of writer ≡ Some file → files.has_failed file ≡ false → files.FailsToClose old file error new

-- why a file wasn't closed with these bytes more: they couldn't be written; or they were, and it couldn't be closed
abbrev pub FailsToFinish : Shown → FileWriter → List ℕ → HdfsError → Shown → Type 0
FailsToFinish old writer bytes error new = WriteFails old writer error new
    ⊎ ((between : Shown) × (writer' : FileWriter) × GoesOn (λ file file'. files.Wrote old file bytes between file') writer writer'
    × CloseFails between writer' error new)
