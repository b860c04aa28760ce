-- What a call of a client does over a told cluster, in the words of a session's step.
use Rattle.std.specs.Prelude.{◌≡◌, ◌≢◌, ◌⊎◌, ℕ, ◌%◌, Bool, true, false, List, [], ◌∷◌, Some, None, IsSome, Result, Ok, Err, unwrap_or, Vec}
use Rattle.std.specs.declared.alloc.Global.{Global}
use Rattle.hdfs_cluster.specs.declared.errors.ArgFault.TheVariants as args
use Rattle.hdfs_cluster.specs.declared.errors.HdfsError.{HdfsError}
use Rattle.hdfs_cluster.specs.declared.errors.HdfsError.TheVariants as errors
use Rattle.hdfs_cluster.specs.Failures.{CallsRose}
use Rattle.hdfs_cluster.specs.Files.{State}
use Rattle.hdfs_cluster.specs.Fitting.{Fits}
use Rattle.hdfs_cluster.specs.Shown.{Shown}
use Rattle.hdfs_cluster.specs.Picture.{Picture}
use Rattle.hdfs_names.specs.Paths.{is_path}
use Rattle.hdfs_names.specs.declared.mounts.Resolved.{Resolved}
use Rattle.hdfs_model.specs.declared.commands.Command.{Command}
use Rattle.hdfs_model.specs.declared.commands.Command.TheVariants as commands
use Rattle.hdfs_model.specs.declared.commands.PathEntry.{PathEntry}
use Rattle.hdfs_model.specs.declared.commands.Reply.{Reply}
use Rattle.hdfs_model.specs.declared.commands.Reply.TheVariants as replies
use Rattle.hdfs_model.specs.Headline.{Applied}
use Rattle.hdfs_model.specs.Listings.{path_in}
use Rattle.hdfs_model.specs.Owing.{IsMisplaced}
use Rattle.hdfs_model.specs.Scenes.{Ready, Scene}
use Rattle.hdfs_model.specs.Sessions.{SameOpened, defaults_of}
use Rattle.hdfs_model.specs.Steps.{World}
use Rattle.hdfs_client.specs.Clients.{leads_to, mounts_of, replacement_of, service_at}
use Rattle.hdfs_client.specs.Statuses.{IsNamed}
use Rattle.hdfs_client.specs.Writing.{ReachesWhole}
use Rattle.hdfs_client.specs.declared.client.Client.{Client}
use Rattle.hdfs_client.specs.declared.errors.ClientError.{ClientError}
use Rattle.hdfs_client.specs.declared.errors.ClientError.TheVariants.{Hdfs, OtherService, TooMany}
use Rattle.hdfs_client.specs.declared.status.FileStatus.{FileStatus}
use Rattle.hdfs_namenode.specs.Clients.{defaults_of as kept_by}
use Rattle.hdfs_namenode.specs.declared.protocol.NamenodeProtocol.{NamenodeProtocol}
use Rattle.hdfs_file_writer.specs.Tails.{FileCarries}
use Rattle.hdfs_file_writer.specs.declared.tails.Tail.{Tail}
use Rattle.hdfs_commands.specs.Meeting.{KnowsDefaults}

-- a program that has these paths open, over what a cluster shows
abbrev pub holding : (List ℕ → Bool) → Shown → Scene
holding opened shown = record { opened = opened; shown = shown }

-- each service of a client that has kept the defaults of the cluster has kept those that this tells
abbrev pub Knows : Client → Shown → Type 0
Knows client shown =
    (k : ℕ) (namenode : NamenodeProtocol) → service_at client k ≡ Some namenode → KnowsDefaults shown (kept_by namenode)

-- What a program carries from call to call: the cluster fits the state, in which these paths are open, and the client knows no other defaults
-- than the cluster's.
pub record Carries (opened : List ℕ → Bool) (client : Client) (shown : Shown) (state : State) : Type 0 where
  pub fits : Fits shown state
  pub same : SameOpened opened state
  pub knows : Knows client shown

-- This is so at the path that a client's path is called where it leads, whatever paths a program has open, in each world and over each state: where
-- the service there is whole, the path is one by the path rule, the command isn't misplaced there, and such a program is ready to run it.
abbrev pub WhereReadyAt : Client → List ℕ → (List ℕ → Command) → Shown → ((List ℕ → Bool) → List ℕ → World → State → Type 0) → Type 0
WhereReadyAt client src command old IsSo =
    ReachesWhole client src old → (to : Resolved) → leads_to client src ≡ Some to → is_path to.path ≡ true
    → (opened : List ℕ → Bool) → (IsMisplaced opened to.path (command to.path) → ⊥)
    → (world : World) (state : State) → Ready world (holding opened old) state (command to.path ∷ []) → IsSo opened to.path world state

-- What the writers of files carry that stand at these paths, they carry still, but for the one at this path.
abbrev pub KeepsCarried : (List ℕ → Bool) → List ℕ → Shown → Shown → Type 0
KeepsCarried opened path old new = (p q : Picture) → old.picture ≡ Some p → new.picture ≡ Some q
    → (other : List ℕ) → opened other ≡ true → other ≢ path → (tail : Tail) (bytes : List ℕ) → FileCarries p other tail bytes
    → FileCarries q other tail bytes

-- what the writer of the file at a path carries it carries still
abbrev pub KeepsAt : List ℕ → Shown → Shown → Type 0
KeepsAt path old new =
    (p q : Picture) → old.picture ≡ Some p → new.picture ≡ Some q → (tail : Tail) (bytes : List ℕ) → FileCarries p path tail bytes
    → FileCarries q path tail bytes

-- A call did what a command does at a path, in a program that had these paths open, and has those: of its result, and of what it left, the main
-- theorem's words on the command hold; what is carried of other files is carried still; and the cluster has the defaults that it had.
pub record Does (world : World) (state : State) (command : Command) (path : List ℕ) (before : List ℕ → Bool) (old : Shown)
    (after : List ℕ → Bool) (new : Shown) (result : Result Reply HdfsError) : Type 0 where
  pub applied : Applied world state command (holding before old) (holding after new) result
  pub others : KeepsCarried before path old new
  pub defaults : defaults_of new.picture ≡ defaults_of old.picture

-- where a client knew no other defaults than the cluster's, it knows no others behind a call, whatever came of that
abbrev pub KnowsStill : Client → Shown → Client → Shown → Type 0
KnowsStill client old client' new = Knows client old → Knows client' new

-- a client's mounts and its policy stay, so each path leads where it led, and files are written by the same world
abbrev pub KeepsParts : Client → Client → Type 0
KeepsParts client client' = (mounts_of client' ≡ mounts_of client) × (replacement_of client' ≡ replacement_of client)

-- A call of a client at a path did what the command does there, whatever paths a program has open. They are open still.
abbrev pub DoesAs : Client → List ℕ → (List ℕ → Command) → Shown → Client → Shown → Result Reply HdfsError → Type 0
DoesAs client src command old client' new result = WhereReadyAt client src command old (λ opened path world state.
    Does world state (command path) path opened old opened new result × KnowsStill client old client' new)

-- the result of a call, with this reply in the place of what it gives
abbrev pub replied : {T : Type 0} → (T → Reply) → Result T HdfsError → Result Reply HdfsError
replied reply (Ok value) = Ok (reply value)
replied reply (Err error) = Err error

-- What the answer to a deletion says over a state: where something was taken away, something stood there; where nothing was, nothing did, unless a
-- namenode has failed.
abbrev pub SaysGone : Bool → State → List ℕ → Shown → Shown → Type 0
SaysGone true state path old new = IsSome (state.files path)
SaysGone false state path old new = (state.files path ≡ None) ⊎ CallsRose old.counts new

-- The reply says of a directory no more than that it is one, and of a file what its status says, 0 where that says nothing. Of the permission
-- a status has the low sixteen bits.
abbrev pub SaysSame : Bool → FileStatus → Reply → Type 0
SaysSame true status reply = reply ≡ replies.Info true 0 0 0 0
SaysSame false status reply =
    (permission : ℕ) × (status.permission ≡ permission % 65536)
    × (reply ≡ replies.Info false status.length permission (unwrap_or status.replication 0) (unwrap_or status.blocksize 0))

-- a reply that says what a status says, where one is given; else the same error
abbrev pub IsSaid : Result FileStatus HdfsError → Result Reply HdfsError → Type 0
IsSaid (Ok status) said = (reply : Reply) × (said ≡ Ok reply) × SaysSame status.isdir status reply
IsSaid (Err error) said = said ≡ Err error

-- a call that gives a status told it as the command does that tells what stands at the path
abbrev pub TellsAs : Client → List ℕ → Shown → Client → Shown → Result FileStatus HdfsError → Type 0
TellsAs client src old client' new result =
    (said : Result Reply HdfsError) × IsSaid result said × DoesAs client src commands.Info old client' new said

-- ---- a listing

-- An entry says what a status says: where that stands, by one name behind the path as it was given and behind the path where it leads, and
-- whether it is a directory.
pub record SaysEntry (given at : List ℕ) (status : FileStatus) (entry : PathEntry) : Type 0 where
  pub name : List ℕ
  pub named : IsNamed given name status.path
  pub path : entry.path ≡ path_in at name
  pub isdir : entry.isdir ≡ status.isdir

-- each of these entries says what the status at its place says
abbrev pub SayEntries : List ℕ → List ℕ → List FileStatus → List PathEntry → Type 0
SayEntries given at [] [] = Unit {0}
SayEntries given at (status ∷ statuses) (entry ∷ entries) = SaysEntry given at status entry × SayEntries given at statuses entries
SayEntries given at statuses entries = ⊥

-- a reply whose entries say what these statuses say; where there is an error, the same, or that there are too many
abbrev pub SaysListed : List ℕ → List ℕ → Result (Vec FileStatus Global) ClientError → Result Reply HdfsError → Type 0
SaysListed given at (Ok found) said =
    (entries : List PathEntry) × (said ≡ Ok (replies.Listed entries)) × SayEntries given at found.items entries
SaysListed given at (Err (Hdfs error)) said = said ≡ Err error
SaysListed given at (Err (TooMany limit)) said = said ≡ Err (errors.InvalidArgument (args.TooMany limit))
SaysListed given at (Err OtherService) said = ⊥

-- A call that lists what stands at a path, and nothing below that, did what the command does there: its result says what the session says. The
-- path may be open, and then what its writer carries is carried still.
abbrev pub ListsAs : Client → List ℕ → ℕ → Shown → Client → Shown → Result (Vec FileStatus Global) ClientError → Type 0
ListsAs client src limit old client' new result = WhereReadyAt client src (λ at. commands.List at false limit) old (λ opened path world state.
    (said : Result Reply HdfsError) × SaysListed src path result said
    × Does world state (commands.List path false limit) path opened old opened new said × KeepsAt path old new × KnowsStill client old client' new)
