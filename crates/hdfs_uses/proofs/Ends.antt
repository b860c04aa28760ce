-- The ends of files, one behind another.
use Rattle.std.proofs.Common.{◌≡◌, ℕ, List, [], ◌∷◌, ◌++◌, Result, Ok, Err, sym, ◌∙◌, subst, inl, inr}
use Rattle.std.specs.Prelude.{IfOk, IfErr}
use Rattle.hdfs_cluster.specs.declared.asks.Answer.{Answer}
use Rattle.hdfs_cluster.specs.declared.asks.Ask.{Ask}
use Rattle.hdfs_cluster.specs.declared.asks.AskFault.{AskFault}
use Rattle.hdfs_cluster.specs.declared.errors.HdfsError.{HdfsError}
use Rattle.hdfs_cluster.specs.Shown.{Shown}
use Rattle.hdfs_client.specs.Clients.{mounts_of}
use Rattle.hdfs_client.specs.Readers.{IsMadeFor, ReadsRange, ShowsFile, length_of}
use Rattle.hdfs_client.specs.Writing.{KeepsFiles}
use Rattle.hdfs_client.specs.declared.client.Client.{Client}
use Rattle.hdfs_client.specs.declared.file_reader.FileReader.{FileReader}
use Rattle.hdfs_client.specs.declared.status.FileStatus.{FileStatus}
use Rattle.hdfs_cluster.specs.Requests.{Request}
use Rattle.hdfs_uses.specs.Footers.{AreEnds, IsEndUnread, Looks, PutsEnd, ReadsEnd, end_from, end_len, passed, read}
use Rattle.hdfs_uses.specs.declared.footers.Footer.{Footer}
use Rattle.hdfs_uses.proofs.Ending.{ends_file}

-- one more was looked at
pub ends_more : (IsEnd : FileStatus → Footer → Type 0) (before found : List FileStatus) (status : FileStatus) (footers footers' : List Footer)
    → found ≡ before ++ status ∷ [] → AreEnds IsEnd before footers → PutsEnd IsEnd status footers footers' → AreEnds IsEnd found footers'
ends_more IsEnd before found status footers footers' are ends (inl dir) =
    subst (λ (all : List FileStatus). AreEnds IsEnd all footers') (sym are)
    (subst (λ (fs : List Footer). AreEnds IsEnd (before ++ status ∷ []) fs) (sym dir.1) (passed before footers status ends dir.0))
ends_more IsEnd before found status footers footers' are ends (inr file) =
    subst (λ (all : List FileStatus). AreEnds IsEnd all footers') (sym are)
    (subst (λ (fs : List Footer). AreEnds IsEnd (before ++ status ∷ []) fs) (sym file.1.2) (read before footers status file.1.0 ends file.0 file.1.1))

module _ {C : Type 0} (shown : C → Shown) (serves : C → ℕ → Ask → Result Answer AskFault → C → Type 0) (client between client' : Client) (path : List ℕ)
    (old mid new : C) (reader : FileReader) (result : Result (List ℕ) HdfsError) (looks : Looks shown serves client path old (Ok reader) between mid)
    (reads : ReadsRange (shown mid) between reader (end_from (length_of reader)) (end_len (length_of reader)) result (shown new) client') where
  pub ended_by : {allows : Request → Type 0} {may_answer : Ask → Answer → Type 0} → ShowsFile client path (shown old) (shown mid) reader
      → IsMadeFor client path between reader → KeepsFiles allows may_answer client (shown old) between (shown mid)
      → IfOk result (λ bytes. ReadsEnd shown serves client path old bytes client' new)
  ended_by shows made files = by result reads
    where
      by : (result : Result (List ℕ) HdfsError)
          → ReadsRange (shown mid) between reader (end_from (length_of reader)) (end_len (length_of reader)) result (shown new) client'
          → IfOk result (λ bytes. ReadsEnd shown serves client path old bytes client' new)
      by (Ok bytes) had = record {
        reader = reader;
        between = between;
        mid = mid;
        asked = looks;
        reads = had;
        ends = ends_file shown serves client between client' path old mid (shown new) reader bytes looks shows made files had;
      }
      by (Err error) had = tt

  pub unended_by : IfErr result (IsEndUnread shown serves client path old)
  unended_by = by result reads
    where
      by : (result : Result (List ℕ) HdfsError)
          → ReadsRange (shown mid) between reader (end_from (length_of reader)) (end_len (length_of reader)) result (shown new) client'
          → IfErr result (IsEndUnread shown serves client path old)
      by (Ok bytes) had = tt
      by (Err error) had = inr (inl (record { reader = reader; between = between; mid = mid; asked = looks; client' = client'; new = new; reads = had }))

  pub mounts_by : mounts_of client' ≡ mounts_of client
  mounts_by = reads.others.mounts ∙ looks.asks.others.mounts
