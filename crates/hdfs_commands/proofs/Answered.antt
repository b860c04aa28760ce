-- What a session was answered stays so from call to call: the name in which it asks stays, and of its writers only the one of its command's
-- file is another.
use Rattle.std.proofs.Common.{◌≡◌, ℕ, true, false, Bool, cond, List, Option, Some, sym, ◌∙◌, subst}
use Rattle.std.specs.Prelude.{IfSome}
use Rattle.std.specs.Str.{bytes_eq}
use Rattle.hdfs_cluster.specs.declared.asks.Answer.{Answer}
use Rattle.hdfs_cluster.specs.declared.asks.Ask.{Ask}
use Rattle.hdfs_cluster.specs.declared.messages.ServerDefaults.{ServerDefaults}
use Rattle.hdfs_model.specs.Opening.{AnswersDefaults}
use Rattle.hdfs_namenode.specs.Clients.{KeepsAnswered, SameClient, name_of}
use Rattle.hdfs_namenode.specs.declared.protocol.NamenodeProtocol.{NamenodeProtocol}
use Rattle.hdfs_file_writer.specs.declared.file_writer.FileWriter.{FileWriter}
use Rattle.hdfs_file_writer.specs.Writers.{IsAnswered}
use Rattle.hdfs_commands.specs.Asking.{AreAnswered}
use Rattle.hdfs_commands.specs.Session.{writer_of}
use Rattle.hdfs_commands.specs.declared.session.Session.{Session}

-- a client that knows what it knew
pub keeps_same : (may_answer : Ask → Answer → Type 0) (namenode namenode' : NamenodeProtocol) → SameClient namenode namenode'
    → KeepsAnswered may_answer namenode → KeepsAnswered may_answer namenode'
keeps_same may_answer namenode namenode' same =
    subst (λ (known : Option ServerDefaults). IfSome known (AnswersDefaults may_answer)) (sym same.defaults)

-- with the same writers
pub answered_same : {may_answer : Ask → Answer → Type 0} (session session' : Session) → name_of session'.namenode ≡ name_of session.namenode
    → ((path : List ℕ) → writer_of session' path ≡ writer_of session path) → KeepsAnswered may_answer session'.namenode → AreAnswered may_answer session
    → AreAnswered may_answer session'
answered_same {may_answer} session session' name same keeps answered = record {
  files = λ path writer is.
      subst (λ (client : List ℕ). IsAnswered may_answer client writer) (sym name) (answered.files path writer (sym (same path) ∙ is));
  defaults = keeps;
}

-- with another one at a path, or none
pub answered_put : {may_answer : Ask → Answer → Type 0} (session session' : Session) (path : List ℕ) (put : Option FileWriter)
    → name_of session'.namenode ≡ name_of session.namenode
    → ((other : List ℕ) → writer_of session' other ≡ cond (bytes_eq path other) put (writer_of session other))
    → IfSome put (IsAnswered may_answer (name_of session.namenode)) → KeepsAnswered may_answer session'.namenode → AreAnswered may_answer session
    → AreAnswered may_answer session'
answered_put {may_answer} session session' path put name puts here keeps answered = record {
  files = λ other writer is.
      subst (λ (client : List ℕ). IsAnswered may_answer client writer) (sym name) (by other writer (bytes_eq path other) (sym (puts other) ∙ is));
  defaults = keeps;
}
  where
    by : (other : List ℕ) (writer : FileWriter) (b : Bool) → cond b put (writer_of session other) ≡ Some writer
        → IsAnswered may_answer (name_of session.namenode) writer
    by other writer true at = subst (λ (o : Option FileWriter). IfSome o (IsAnswered may_answer (name_of session.namenode))) at here
    by other writer false at = answered.files other writer at
