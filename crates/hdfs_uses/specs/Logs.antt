-- Logs that go on in new files.
use Rattle.std.specs.Prelude.{◌≡◌, ◌⊎◌, ℕ, ◌+◌, ◌-◌, ◌^◌, min, true, false, List, ◌++◌, codes, decimal, Some, Result, OnOk, IfErr}
use Rattle.hdfs_cluster.specs.declared.asks.Answer.{Answer}
use Rattle.hdfs_cluster.specs.declared.asks.Ask.{Ask}
use Rattle.hdfs_cluster.specs.declared.asks.AskFault.{AskFault}
use Rattle.hdfs_cluster.specs.declared.errors.HdfsError.{HdfsError}
use Rattle.hdfs_cluster.specs.declared.picture.FileEntry.{FileEntry}
use Rattle.hdfs_cluster.specs.Picture.{Picture}
use Rattle.hdfs_cluster.specs.Shown.{Shown}
use Rattle.hdfs_cluster.specs.Sound.{IsFileAt}
use Rattle.hdfs_cluster.specs.Stores.{StoresBlocks}
use Rattle.hdfs_names.specs.declared.mounts.Resolved.{Resolved}
use Rattle.hdfs_client.specs.Clients.{leads_to}
use Rattle.hdfs_client.specs.declared.client.Client.{Client}
use Rattle.hdfs_client.specs.declared.writing.FileWriter.{FileWriter}
use Rattle.hdfs_uses.specs.Passing.{asks_again}
use Rattle.hdfs_uses.specs.Writing.{AppendedAt, CreatedAt, FailsToFinish, HasFile, NotAppended, NotCreated}
use Rattle.hdfs_uses.specs.declared.logs.Log.{Log}

-- the path of its last file: the stem, a point and the number
abbrev pub path_of : Log → List ℕ
path_of log = log.stem ++ (codes "." ++ decimal log.number)

-- the log with the next number, if there is one
abbrev pub rolled : Log → Log
rolled log = record log { number = min (log.number + 1) (2 ^ 64 - 1) }

-- Over a told picture, of a file that stores some bytes: it is closed, and has these behind them.
abbrev pub AppendsAt : Client → List ℕ → Shown → List ℕ → Shown → Type 0
AppendsAt client path old bytes new =
    (to : Resolved) → leads_to client path ≡ Some to → (p : Picture) (file : FileEntry) (had : List ℕ) → old.picture ≡ Some p
    → IsFileAt p to.path file → StoresBlocks p file.blocks had
    → (q : Picture) × (new.picture ≡ Some q) × HasFile q to.path (had ++ bytes)

-- over a told picture: a closed file has just these bytes
abbrev pub CreatesAt : Client → List ℕ → Shown → List ℕ → Shown → Type 0
CreatesAt client path old bytes new =
    (to : Resolved) → leads_to client path ≡ Some to → (p : Picture) → old.picture ≡ Some p
    → (q : Picture) × (new.picture ≡ Some q) × HasFile q to.path bytes

-- a file was opened so, and its writer has failed, and was given up
pub record Stops {C : Type 0} (shown : C → Shown) (Opens : FileWriter → Client → C → Type 0) (bytes : List ℕ) (error : HdfsError) : Type 0 where
  pub writer : FileWriter
  pub between : Client
  pub mid : C
  pub opened : Opens writer between mid
  pub last : Shown
  pub fails : FailsToFinish (shown mid) writer bytes error last

module _ {C : Type 0} (shown : C → Shown) (may_answer : Ask → Answer → Type 0) (serves : C → ℕ → Ask → Result Answer AskFault → C → Type 0) where
  -- A record was put behind the file at a path, or why not: that couldn't be opened, or its writer has failed.
  pub record AppendsRecord (client : Client) (path bytes : List ℕ) (old : C) (result : Result (Unit {0}) HdfsError) (client' : Client)
      (new : C) : Type 0 where
    pub ok : OnOk result (AppendsAt client path (shown old) bytes (shown new))
    pub err : IfErr result (λ error. NotAppended shown may_answer serves client path old error client' new
        ⊎ Stops shown (AppendedAt shown may_answer serves client path old) bytes error)

  -- A record was put into a new file, or why not.
  pub record CreatesRecord (client : Client) (path bytes : List ℕ) (old : C) (result : Result (Unit {0}) HdfsError) (client' : Client)
      (new : C) : Type 0 where
    pub ok : OnOk result (CreatesAt client path (shown old) bytes (shown new))
    pub err : IfErr result (λ error. NotCreated shown may_answer serves client path old error client' new
        ⊎ Stops shown (CreatedAt shown may_answer serves client path old) bytes error)

  -- A record was put behind a log: the last file was tried first. Where that didn't come to an error that advises to ask again, this is the
  -- answer, the log is what it was, and nothing more was done; else the log has rolled, and the answer is that of the new file.
  pub record Puts (client : Client) (log : Log) (bytes : List ℕ) (old : C) (result : Result (Unit {0}) HdfsError) (client' : Client)
      (log' : Log) (new : C) : Type 0 where
    pub first : Result (Unit {0}) HdfsError
    pub between : Client
    pub mid : C
    pub appends : AppendsRecord client (path_of log) bytes old first between mid
    pub kept : asks_again first ≡ false → (result ≡ first) × (log' ≡ log) × (client' ≡ between) × (new ≡ mid)
    pub rolls : asks_again first ≡ true → (log' ≡ rolled log) × CreatesRecord between (path_of (rolled log)) bytes mid result client' new
