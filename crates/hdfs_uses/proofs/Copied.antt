-- What was copied, one behind another.
use Rattle.std.proofs.Common.{◌≡◌, ℕ, ◌+◌, ◌-◌, ◌^◌, min, Bool, true, false, List, [], ◌∷◌, ◌++◌, Result, Ok, Err, refl, sym, subst, arith}
use Rattle.std.specs.Prelude.{IfOk}
use Rattle.hdfs_cluster.specs.declared.asks.Answer.{Answer}
use Rattle.hdfs_cluster.specs.declared.asks.Answer.TheVariants as answers
use Rattle.hdfs_cluster.specs.declared.asks.Ask.{Ask}
use Rattle.hdfs_cluster.specs.declared.asks.Ask.TheVariants as asks
use Rattle.hdfs_cluster.specs.declared.asks.AskFault.{AskFault}
use Rattle.hdfs_cluster.specs.declared.errors.HdfsError.{HdfsError}
use Rattle.hdfs_cluster.specs.Shown.{Shown}
use Rattle.hdfs_names.specs.declared.mounts.MountTable.{MountTable}
use Rattle.hdfs_client.specs.Calls.{Gives, done}
use Rattle.hdfs_client.specs.Clients.{mounts_of}
use Rattle.hdfs_client.specs.Readers.{ShowsFile, length_of}
use Rattle.hdfs_client.specs.declared.file_reader.FileReader.{FileReader}
use Rattle.hdfs_uses.specs.Footers.{Looks}
use Rattle.hdfs_client.specs.declared.client.Client.{Client}
use Rattle.hdfs_client.specs.declared.status.FileStatus.{FileStatus}
use Rattle.hdfs_uses.specs.Copying.{AreCopied, Copies, CopiesFile, IsCopied, IsTarget, Makes, WritesFile, more}

made_there : (made : Result Bool HdfsError) → Ok tt ≡ done made → (there : Bool) × (made ≡ Ok there)
made_there (Ok there) is = (there, refl)
made_there (Err error) is = absurd (cc is)

-- a directory whose ask was answered was made
pub makes_by : {C : Type 0} (shown : C → Shown) (may_answer : Ask → Answer → Type 0) (serves : C → ℕ → Ask → Result Answer AskFault → C → Type 0) (client client' : Client) (path : List ℕ) (old new : C)
    → Gives serves true (λ at. asks.Mkdirs at 493 true) answers.Mkdirs client path old client' new (λ made. Ok tt ≡ done made)
    → Makes shown may_answer serves client path old client' new
makes_by shown may_answer serves client client' path old new gives = record { outcome = gives.outcome; asks = gives.asks; has = made_there gives.outcome gives.has }

-- one more was copied
pub copied_more : (IsOne : FileStatus → ℕ → Type 0) (before found : List FileStatus) (status : FileStatus) (copied n copied' : ℕ) → found ≡ before ++ status ∷ []
    → (count : ℕ) × AreCopied IsOne before count × (copied ≡ min count (2 ^ 64 - 1)) → IsOne status n → copied' ≡ min (copied + n) (2 ^ 64 - 1)
    → (count : ℕ) × AreCopied IsOne found count × (copied' ≡ min count (2 ^ 64 - 1))
copied_more IsOne before found status copied n copied' are so one is = (
  so.0 + n,
  subst (λ (all : List FileStatus). AreCopied IsOne all (so.0 + n)) (sym are) (more before so.0 status n so.1 one),
  omega (arith, so.2, is),
)

-- a file was copied whose reader was made
pub copied_by : {C : Type 0} (shown : C → Shown) (may_answer : Ask → Answer → Type 0) (serves : C → ℕ → Ask → Result Answer AskFault → C → Type 0) (client between : Client) (from to : List ℕ) (old mid new : C)
    (reader : FileReader) (result : Result ℕ HdfsError) → Looks shown serves client from old (Ok reader) between mid → ShowsFile client from (shown old) (shown mid) reader
    → IfOk result (λ count. (count ≡ length_of reader) × WritesFile shown may_answer serves between reader to mid new)
    → IfOk result (λ count. CopiesFile shown may_answer serves client from to old count new)
copied_by shown may_answer serves client between from to old mid new reader (Ok count) looks shows had = record {
  reader = reader;
  between = between;
  mid = mid;
  asked = looks;
  shows = shows;
  counts = had.0;
  writes = had.1;
}
copied_by shown may_answer serves client between from to old mid new reader (Err error) looks shows had = tt

-- of what was found
pub is_copied : {C : Type 0} (shown : C → Shown) (may_answer : Ask → Answer → Type 0) (serves : C → ℕ → Ask → Result Answer AskFault → C → Type 0) (client client' : Client) (from to target : List ℕ) (old new : C)
    (status : FileStatus) (result : Result ℕ HdfsError) → status.isdir ≡ false → IsTarget from to status.path target
    → IfOk result (λ count. CopiesFile shown may_answer serves client status.path target old count new)
    → IfOk result (IsCopied shown may_answer serves (mounts_of client) from to status)
is_copied shown may_answer serves client client' from to target old new status (Ok count) file is had = record {
  client = client;
  old = old;
  client' = client';
  new = new;
  by = refl;
  target = target;
  is = is;
  copies = subst (λ (dir : Bool). Copies shown may_answer serves dir client status.path target old count client' new) (sym file) had;
}
is_copied shown may_answer serves client client' from to target old new status (Err error) file is had = tt

-- a client with the same mounts copies by the same
pub copied_same : {C : Type 0} (shown : C → Shown) (may_answer : Ask → Answer → Type 0) (serves : C → ℕ → Ask → Result Answer AskFault → C → Type 0) (client client' : Client) (from to : List ℕ) (status : FileStatus) (count : ℕ)
    → mounts_of client' ≡ mounts_of client → IsCopied shown may_answer serves (mounts_of client') from to status count → IsCopied shown may_answer serves (mounts_of client) from to status count
copied_same shown may_answer serves client client' from to status count same is = subst (λ (m : MountTable). IsCopied shown may_answer serves m from to status count) same is
