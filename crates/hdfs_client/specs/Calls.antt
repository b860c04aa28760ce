-- What a caller has of what a client has asked.
use Rattle.std.specs.Prelude.{◌≡◌, ◌⊎◌, ℕ, ◌==◌, Bool, true, false, List, Some, Result, Ok, Err}
use Rattle.hdfs_cluster.specs.declared.asks.Ask.{Ask}
use Rattle.hdfs_cluster.specs.declared.asks.Ask.TheVariants as asks
use Rattle.hdfs_cluster.specs.declared.asks.Answer.{Answer}
use Rattle.hdfs_cluster.specs.declared.asks.Answer.TheVariants as answers
use Rattle.hdfs_cluster.specs.declared.asks.AskFault.{AskFault}
use Rattle.hdfs_cluster.specs.declared.errors.HdfsError.{HdfsError}
use Rattle.hdfs_cluster.specs.declared.errors.HdfsError.TheVariants as errors
use Rattle.hdfs_cluster.specs.Requests.{Request, AskOf}
use Rattle.hdfs_names.specs.declared.mounts.Resolved.{Resolved}
use Rattle.hdfs_namenode.specs.Asked.{as_answer}
use Rattle.hdfs_client.specs.Clients.{AsksAt, leads_to}
use Rattle.hdfs_client.specs.declared.client.Client.{Client}
use Rattle.hdfs_client.specs.declared.errors.ClientError.{ClientError}
use Rattle.hdfs_client.specs.declared.errors.ClientError.TheVariants as client_errors

-- A client asked at a path, and of what that came to the caller has this.
pub record Gives {C T : Type 0} (serves : C → ℕ → Ask → Result Answer AskFault → C → Type 0) (write : Bool) (ask : List ℕ → Ask) (answer : T → Answer)
    (client : Client) (src : List ℕ) (old : C) (client' : Client) (new : C) (Is : Result T HdfsError → Type 0) : Type 0 where
  pub outcome : Result T HdfsError
  pub asks : AsksAt serves write ask client src old (as_answer answer outcome) client' new
  pub has : Is outcome

-- nothing of what was answered, but that it was
abbrev pub done : {T : Type 0} → Result T HdfsError → Result (Unit {0}) HdfsError
done (Ok value) = Ok tt
done (Err error) = Err error

-- an error of an ask, as an error of the client
abbrev pub as_client : {T : Type 0} → Result T HdfsError → Result T ClientError
as_client (Ok value) = Ok value
as_client (Err error) = Err (client_errors.Hdfs error)

-- two paths are renamed, and both lead through one mount: the service behind it is asked. Else nothing is.
abbrev pub RenamesBetween : {C : Type 0} → (C → ℕ → Ask → Result Answer AskFault → C → Type 0) → (List ℕ → Ask) → Bool → Client → List ℕ → C
    → Result (Unit {0}) ClientError → Client → C → Type 0
RenamesBetween serves ask true client src old result client' new =
    Gives serves true ask (λ _. answers.Rename) client src old client' new (λ outcome. result ≡ as_client outcome)
RenamesBetween serves ask false client src old result client' new =
    ((result ≡ Err client_errors.OtherService) ⊎ (result ≡ Err (client_errors.Hdfs errors.NoMemory))) × (client' ≡ client) × (new ≡ old)

-- A path is to be called by another, in the place of what stands there or not.
abbrev pub Renames : {C : Type 0} → (C → ℕ → Ask → Result Answer AskFault → C → Type 0) → Bool → Client → List ℕ → List ℕ → C
    → Result (Unit {0}) ClientError → Client → C → Type 0
Renames serves overwrite client src dst old result client' new =
    (from to : Resolved) → leads_to client src ≡ Some from → leads_to client dst ≡ Some to
    → RenamesBetween serves (λ at. asks.Rename at to.path overwrite) (from.link == to.link) client src old result client' new

-- leave to rename one path to another, where both lead through one mount
abbrev pub LetsRename : (Request → Type 0) → Bool → Client → List ℕ → List ℕ → Type 0
LetsRename allows overwrite client src dst =
    (from to : Resolved) → leads_to client src ≡ Some from → leads_to client dst ≡ Some to → from.link ≡ to.link
    → allows (AskOf (asks.Rename from.path to.path overwrite))
