-- Files that a client writes: how one is opened, and what a writer is between calls.
use Rattle.std.specs.Prelude.{◌≡◌, ◌⊎◌, ℕ, Bool, List, Option, Some, None, if◌then◌else◌}
use Rattle.hdfs_cluster.specs.declared.asks.Answer.{Answer}
use Rattle.hdfs_cluster.specs.declared.asks.Ask.{Ask}
use Rattle.hdfs_cluster.specs.declared.errors.ArgFault.TheVariants as args
use Rattle.hdfs_cluster.specs.declared.errors.HdfsError.{HdfsError}
use Rattle.hdfs_cluster.specs.declared.errors.HdfsError.TheVariants as errors
use Rattle.hdfs_cluster.specs.Requests.{Request, LetsClose, LetsWrite}
use Rattle.hdfs_cluster.specs.Shown.{Shown}
use Rattle.hdfs_file_writer.specs.Writers as files
use Rattle.hdfs_file_writer.specs.declared.file_writer.FileWriter as inner
use Rattle.hdfs_model.specs.Opening as opening
use Rattle.hdfs_model.specs.declared.commands.WriteOptions.{WriteOptions}
use Rattle.hdfs_names.specs.declared.mounts.Resolved.{Resolved}
use Rattle.hdfs_namenode.specs.Asked.{ReachesAll}
use Rattle.hdfs_namenode.specs.Clients.{leases_of, name_of, proxy_of, through}
use Rattle.hdfs_namenode.specs.Views.{Seen}
use Rattle.hdfs_namenode.specs.declared.protocol.NamenodeProtocol.{NamenodeProtocol}
use Rattle.hdfs_rebuild.specs.declared.block_plan.RebuildSettings.{RebuildSettings}
use Rattle.hdfs_client.specs.Clients.{SameBut, leads_to, replacement_of, service_at}
use Rattle.hdfs_client.specs.Holding.{KeepsLeases}
use Rattle.hdfs_opening.specs.Opening.{IsKnown, KeepsService}
use Rattle.hdfs_client.specs.declared.client.Client.{Client}
use Rattle.hdfs_client.specs.Readers.{ReadsBy}
use Rattle.hdfs_client.specs.declared.file_lease.FileLease.{FileLease}
use Rattle.hdfs_client.specs.declared.file_reader.FileReader.{FileReader}
use Rattle.hdfs_client.specs.declared.writing.FileWriter.{FileWriter}

-- the writer of the file, until it is to be closed
abbrev pub open_of : FileWriter → Option inner.FileWriter
open_of writer = writer.file

-- the link of an open file, if there is one
abbrev pub link_in : Option inner.FileWriter → Option ℕ
link_in None = None
link_in (Some file) = files.link_of file

-- the lease that it holds, until the file was closed
abbrev pub lease_of : FileWriter → Option FileLease
lease_of writer = writer.lease

-- whether the file was closed
abbrev pub is_closed : FileWriter → Bool
is_closed writer = writer.closed

-- the number of the service whose file it writes
abbrev pub service_of : FileWriter → ℕ
service_of writer = writer.service

-- why a writer takes no byte that isn't open any more
abbrev pub why_shut : FileWriter → HdfsError
why_shut writer = if writer.closed then errors.InvalidArgument args.State else errors.Failed

-- how a client goes on where a datanode of a pipeline fails: at most 8 rebuilds of a block, and 100 packets that wait
abbrev pub rebuilding_of : Client → RebuildSettings
rebuilding_of client = record { replace = replacement_of client; rebuild_limit = 8; window = 100 }

-- the service to which a path leads is all namenodes of the cluster, and is asked plainly
abbrev pub ReachesWhole : Client → List ℕ → Shown → Type 0
ReachesWhole client src shown = (to : Resolved) (namenode : NamenodeProtocol) → leads_to client src ≡ Some to
    → service_at client to.service ≡ Some namenode → ReachesAll (proxy_of namenode) shown

-- leave for what is asked in the name of a client at the path where another one leads
abbrev pub LetsThere : (List ℕ → List ℕ → Type 0) → Client → List ℕ → Type 0
LetsThere Lets client src = (to : Resolved) (namenode : NamenodeProtocol) → leads_to client src ≡ Some to
    → service_at client to.service ≡ Some namenode → Lets (name_of namenode) to.path

-- leave to create a file at a path, with defaults that were answered, or that its service knows
abbrev pub LetsCreate : (Request → Type 0) → (Ask → Answer → Type 0) → Client → List ℕ → WriteOptions → Type 0
LetsCreate allows may_answer client src options = (to : Resolved) (namenode : NamenodeProtocol) → leads_to client src ≡ Some to
    → service_at client to.service ≡ Some namenode
    → opening.LetsCreate allows may_answer (IsKnown may_answer namenode) (name_of namenode) to.path options

-- leave to go on with the file at a path
abbrev pub LetsAppend : (Request → Type 0) → (Ask → Answer → Type 0) → Client → List ℕ → Type 0
LetsAppend allows may_answer client src = LetsThere (opening.LetsAppend allows may_answer) client src

-- A client has opened a file by the service to which a path leads, in this way, and this is its writer, with the lease that it holds.
pub record OpensAt (Opens : List ℕ → NamenodeProtocol → inner.FileWriter → FileLease → NamenodeProtocol → Type 0) (client : Client) (src : List ℕ)
    (writer : FileWriter) (client' : Client) : Type 0 where
  pub to : Resolved
  pub leads : leads_to client src ≡ Some to
  pub before : NamenodeProtocol
  pub was : service_at client to.service ≡ Some before
  pub after : NamenodeProtocol
  pub is : service_at client' to.service ≡ Some after
  pub file : inner.FileWriter
  pub opened : open_of writer ≡ Some file
  pub lease : FileLease
  pub holds : lease_of writer ≡ Some lease
  pub service : service_of writer ≡ to.service
  pub opens : Opens to.path before file lease after
  pub others : SameBut to.service client client'

-- A client has opened no file by the service to which a path leads, in this way. That service asks the same namenodes in the same name, and
-- holds the leases that it held.
pub record FailsAt (Fails : List ℕ → NamenodeProtocol → NamenodeProtocol → Type 0) (client : Client) (src : List ℕ) (client' : Client) : Type 0 where
  pub to : Resolved
  pub leads : leads_to client src ≡ Some to
  pub before : NamenodeProtocol
  pub was : service_at client to.service ≡ Some before
  pub after : NamenodeProtocol
  pub is : service_at client' to.service ≡ Some after
  pub fails : Fails to.path before after
  pub same : KeepsService before after
  pub leases : KeepsLeases (leases_of before) (leases_of after)
  pub others : SameBut to.service client client'

-- the same, or there was no memory for finding where the path leads, and nothing was done
abbrev pub OpensNone : {C : Type 0} → (HdfsError → List ℕ → NamenodeProtocol → NamenodeProtocol → Type 0) → Client → List ℕ → C → HdfsError → Client → C
    → Type 0
OpensNone Fails client src old error client' new =
    ((error ≡ errors.NoMemory) × (client' ≡ client) × (new ≡ old)) ⊎ FailsAt (Fails error) client src client'

-- what is so of an open writer and of the service whose file it writes
abbrev pub OfOpen : (NamenodeProtocol → inner.FileWriter → Type 0) → Client → FileWriter → Type 0
OfOpen P client writer = (file : inner.FileWriter) → open_of writer ≡ Some file
    → (namenode : NamenodeProtocol) × (service_at client (service_of writer) ≡ Some namenode) × P namenode file

-- a writer is one of a client over a cluster: while it is open its service is one of the client's, and it stands as its last call left it
abbrev pub IsWriterOf : Client → Shown → FileWriter → Type 0
IsWriterOf client shown writer = OfOpen (λ namenode file. files.Stands shown file) client writer

-- it writes a file of a service that is all namenodes of the cluster, and is asked plainly
abbrev pub WritesWhole : Client → Shown → FileWriter → Type 0
WritesWhole client shown writer = OfOpen (λ namenode file. ReachesAll (proxy_of namenode) shown) client writer

-- from one moment to another this is so, as the service sees it whose file a writer writes
abbrev pub SeenBy : {C : Type 0} → (C → Shown) → Client → FileWriter → C → C → (Shown → Shown → Type 0) → Type 0
SeenBy shown client writer old new IsSo =
    (namenode : NamenodeProtocol) → service_at client (service_of writer) ≡ Some namenode → Seen shown (through namenode old) new IsSo

-- the file's id and the blocks that an open writer writes were answered to its client
abbrev pub IsAnsweredTo : (Ask → Answer → Type 0) → Client → FileWriter → Type 0
IsAnsweredTo may_answer client writer = OfOpen (λ namenode file. files.IsAnswered may_answer (name_of namenode) file) client writer

-- leave to write the file of an open writer
abbrev pub LetsWriteOf : (Request → Type 0) → (Ask → Answer → Type 0) → Client → FileWriter → Type 0
LetsWriteOf allows may_answer client writer =
    OfOpen (λ namenode file. LetsWrite allows may_answer (name_of namenode) (files.path_of file) (files.file_id_of file)) client writer

-- leave to close the file of an open writer
abbrev pub LetsCloseOf : (Request → Type 0) → (Ask → Answer → Type 0) → Client → FileWriter → Type 0
LetsCloseOf allows may_answer client writer =
    OfOpen (λ namenode file. LetsClose allows may_answer (name_of namenode) (files.path_of file) (files.file_id_of file)) client writer

-- What a call of a client leaves of files that are open, or are to be opened: each reader of the client is one still, and so is each writer that
-- was one over the cluster, with what was answered to it, and with the leave that it has; a path that leads to a whole service does so still,
-- and so does a writer write a file of one.
pub record KeepsFiles (allows : Request → Type 0) (may_answer : Ask → Answer → Type 0) (client : Client) (old : Shown) (client' : Client)
    (new : Shown) : Type 0 where
  pub whole : (src : List ℕ) → ReachesWhole client src old → ReachesWhole client' src new
  pub readers : (reader : FileReader) → ReadsBy client reader → ReadsBy client' reader
  pub wholes : (writer : FileWriter) → WritesWhole client old writer → WritesWhole client' new writer
  pub stand : (writer : FileWriter) → IsWriterOf client old writer → IsWriterOf client' new writer
  pub answered : (writer : FileWriter) → IsAnsweredTo may_answer client writer → IsAnsweredTo may_answer client' writer
  pub write : (writer : FileWriter) → LetsWriteOf allows may_answer client writer → LetsWriteOf allows may_answer client' writer
  pub close : (writer : FileWriter) → LetsCloseOf allows may_answer client writer → LetsCloseOf allows may_answer client' writer

-- the link over which a writer writes, while it has one
abbrev pub link_of : FileWriter → Option ℕ
link_of writer = link_in (open_of writer)

-- two writers write over links of their own
abbrev pub AreApart : FileWriter → FileWriter → Type 0
AreApart writer other = (link : ℕ) → link_of writer ≡ Some link → link_of other ≡ Some link → ⊥

-- What a call of a writer leaves of the others and of readers: the same, of each writer that writes over a link of its own, and has that
-- alone still.
pub record KeepsOthers (allows : Request → Type 0) (may_answer : Ask → Answer → Type 0) (client : Client) (old : Shown) (writer : FileWriter)
    (client' : Client) (new : Shown) (writer' : FileWriter) : Type 0 where
  pub whole : (src : List ℕ) → ReachesWhole client src old → ReachesWhole client' src new
  pub readers : (reader : FileReader) → ReadsBy client reader → ReadsBy client' reader
  pub wholes : (other : FileWriter) → WritesWhole client old other → WritesWhole client' new other
  pub stand : (other : FileWriter) → AreApart writer other → IsWriterOf client old other → IsWriterOf client' new other × AreApart writer' other
  pub answered : (other : FileWriter) → IsAnsweredTo may_answer client other → IsAnsweredTo may_answer client' other
  pub write : (other : FileWriter) → LetsWriteOf allows may_answer client other → LetsWriteOf allows may_answer client' other
  pub close : (other : FileWriter) → LetsCloseOf allows may_answer client other → LetsCloseOf allows may_answer client' other

-- it is open still, and of its file this is so before and behind
abbrev pub GoesOn : (inner.FileWriter → inner.FileWriter → Type 0) → FileWriter → FileWriter → Type 0
GoesOn P writer writer' = (file : inner.FileWriter) → open_of writer ≡ Some file
    → (file' : inner.FileWriter) × (open_of writer' ≡ Some file') × P file file'
