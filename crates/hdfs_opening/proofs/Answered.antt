-- What a writer was answered, where its file was opened: a new one, or one to be gone on with.
use Rattle.std.proofs.Common.{◌≡◌, ℕ, Bool, List, Option, Some, None, inl, inr, refl, sym, ◌∙◌, ap, subst}
use Rattle.hdfs_cluster.specs.declared.asks.Answer.{Answer}
use Rattle.hdfs_cluster.specs.declared.asks.Answer.TheVariants as answers
use Rattle.hdfs_cluster.specs.declared.asks.Ask.{Ask}
use Rattle.hdfs_cluster.specs.declared.asks.Ask.TheVariants as asks
use Rattle.hdfs_cluster.specs.Asks.{create_ask}
use Rattle.hdfs_cluster.specs.declared.messages.Appended.{Appended}
use Rattle.hdfs_cluster.specs.declared.messages.FileStatusMsg.{FileStatusMsg}
use Rattle.hdfs_cluster.specs.declared.messages.LocatedBlock.{LocatedBlock}
use Rattle.hdfs_cluster.specs.Requests.{IsAnsweredId, IsAnsweredLast, id_in}
use Rattle.hdfs_file_writer.specs.declared.file_writer.FileWriter.{FileWriter}
use Rattle.hdfs_file_writer.specs.declared.tails.Tail.{Tail}
use Rattle.hdfs_file_writer.specs.Tails.{last_of}
use Rattle.hdfs_file_writer.specs.Writers.{IsAnswered, IsAnsweredTail, file_id_of, path_of, tail_of, tail_opened}

-- a new writer has no block that is done
none_done : (block : Option LocatedBlock) → last_of (tail_opened block None) ≡ None
none_done None = refl
none_done (Some located) = refl

-- the writer of a file with a path and an id that were answered, whose last block was, and where none is done
answered_writer : {may_answer : Ask → Answer → Type 0} {client : List ℕ} (writer : FileWriter) (path : List ℕ) (file_id : Option ℕ) (tail : Tail)
    → path_of writer ≡ path → file_id_of writer ≡ file_id → tail_of writer ≡ tail → last_of tail ≡ None → IsAnsweredId may_answer client path file_id
    → IsAnsweredTail may_answer client path file_id tail → IsAnswered may_answer client writer
answered_writer {may_answer} {client} writer path file_id tail at id is none answered block = record {
  id =
      subst (λ (p : List ℕ). IsAnsweredId may_answer client p writer.file_id) (sym at)
      (subst (λ (i : Option ℕ). IsAnsweredId may_answer client path i) (sym id) answered);
  block =
      subst (λ (p : List ℕ). IsAnsweredTail may_answer client p writer.file_id (tail_of writer)) (sym at)
      (subst (λ (i : Option ℕ). IsAnsweredTail may_answer client path i (tail_of writer)) (sym id)
      (subst (IsAnsweredTail may_answer client path file_id) (sym is) block));
  last = λ fine. subst (IsAnsweredLast may_answer client writer.path writer.file_id) (sym (ap last_of is ∙ none)) tt;
}

-- that of a new file
pub answered_created : {may_answer : Ask → Answer → Type 0} {client : List ℕ} (writer : FileWriter) (path : List ℕ)
    (masked flag replication block_size : ℕ) (parents : Bool) (status : Option FileStatusMsg) → path_of writer ≡ path → file_id_of writer ≡ id_in status → tail_of writer ≡ tail_opened None None
    → may_answer (create_ask path masked client flag parents replication block_size) (answers.Create status) → IsAnswered may_answer client writer
answered_created {may_answer} {client} writer path masked flag replication block_size parents status at id is answered =
    answered_writer writer path (id_in status) (tail_opened None None) at id is (none_done None)
    (inl (record {
      masked = masked;
      create_flag = flag;
      create_parent = parents;
      replication = replication;
      block_size = block_size;
      status = status;
      answered = answered;
      is = refl;
    })) tt

-- that of a file that was opened to be gone on with
pub answered_appended : {may_answer : Ask → Answer → Type 0} {client : List ℕ} (writer : FileWriter) (path : List ℕ)
    (appended : Appended) → path_of writer ≡ path → file_id_of writer ≡ id_in appended.stat
    → tail_of writer ≡ tail_opened appended.block None
    → may_answer (asks.Append path client 4) (answers.Append appended) → IsAnswered may_answer client writer
answered_appended {may_answer} {client} writer path appended at id is answered =
    answered_writer writer path (id_in appended.stat) (tail_opened appended.block None) at id is (none_done appended.block)
    (inr (record { appended = appended; answered = answered; is = refl })) (opened appended.block refl)
  where
    opened : (block : Option LocatedBlock) → appended.block ≡ block → IsAnsweredTail may_answer client path (id_in appended.stat) (tail_opened block None)
    opened None is = tt
    opened (Some located) is = record { appended = appended; answered = answered; is = is }
