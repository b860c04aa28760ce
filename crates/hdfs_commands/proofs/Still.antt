-- A session stands and carries its files over a cluster whose write links and files are the same.
use Rattle.std.proofs.Common.{◌≡◌, ℕ, List, Some, IfSome, sym, ◌∙◌, ap, subst}
use Rattle.hdfs_cluster.specs.declared.messages.ServerDefaults.{ServerDefaults}
use Rattle.hdfs_cluster.specs.Files.{State}
use Rattle.hdfs_cluster.specs.Picture.{Picture, SameFiles}
use Rattle.hdfs_model.specs.Sessions.{defaults_of}
use Rattle.hdfs_cluster.specs.Shown.{Shown, SameWrites}
use Rattle.hdfs_file_writer.specs.Tails.{FileCarries}
use Rattle.hdfs_file_writer.specs.declared.tails.Tail.{Tail}
use Rattle.hdfs_file_writer.specs.Writers as files
use Rattle.hdfs_file_writer.specs.declared.file_writer.FileWriter.{FileWriter}
use Rattle.hdfs_file_writer.proofs.Others.{tail_stays}
use Rattle.hdfs_commands.specs.Session.{CarriesFile, Carried, defaults_known}
use Rattle.hdfs_commands.specs.declared.session.Session.{Session}

-- What a writer carries it carries where the files and the write links are the same.
module _ (p q : Picture) (same : SameFiles p q) (writes : SameWrites p q) where
  pub file_stays : (path : List ℕ) (tail : Tail) (bytes : List ℕ) → FileCarries p path tail bytes → FileCarries q path tail bytes
  file_stays path tail bytes c = record {
    file = c.file;
    named = same.names path ∙ c.named;
    being_written = c.being_written;
    carries = tail_stays p q path c.file (same.names path) (λ id there. (same.table id, λ node. same.held node id)) (λ link place is there. writes link ∙ is) tail bytes c.carries;
  }

  pub carries_stays : (state : State) (path : List ℕ) (writer : FileWriter) → CarriesFile p state path writer → CarriesFile q state path writer
  carries_stays state path writer c = record {
    content = c.content;
    named = c.named;
    carries = file_stays path (files.tail_of writer) c.content.bytes c.carries;
    replication = c.replication;
    block_size = c.block_size;
  }

  -- so does the session
  pub session_carries : (a b : Shown) → a.picture ≡ Some p → b.picture ≡ Some q → (s : Session) (state : State) → Carried a s state → Carried b s state
  session_carries a b was is s state h =
      let defaults : defaults_of a.picture ≡ defaults_of b.picture = ap defaults_of was ∙ sym same.defaults ∙ sym (ap defaults_of is) in
      record {
        each = λ q' told path writer has.
            let other : q ≡ q' = cc in
            subst (λ (x : Picture). CarriesFile x state path writer) other (carries_stays state path writer (h.each p was path writer has));
        defaults = subst (λ (d : ServerDefaults). IfSome (defaults_known s) (λ known. known ≡ d)) defaults h.defaults;
      }
