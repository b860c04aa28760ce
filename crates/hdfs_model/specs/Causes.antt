-- Why a command fails: for each error what holds where it is answered.
use Rattle.std.specs.Prelude.{◌≡◌, ◌≢◌, ◌⊎◌, ℕ, ◌+◌, ◌<◌, true, false, List, [], length, Some}
use Rattle.hdfs_model.specs.declared.commands.Command.{Command}
use Rattle.hdfs_model.specs.declared.commands.Command.TheVariants as commands
use Rattle.hdfs_model.specs.declared.commands.Reply.{Reply}
use Rattle.hdfs_cluster.specs.declared.errors.HdfsError.{HdfsError}
use Rattle.hdfs_cluster.specs.declared.errors.HdfsError.TheVariants as errors
use Rattle.hdfs_cluster.specs.declared.errors.IoFault.TheVariants as io_faults
use Rattle.hdfs_cluster.specs.declared.errors.TransferFault.TheVariants as transfer
use Rattle.hdfs_cluster.specs.declared.errors.ArgFault.TheVariants as args
use Rattle.hdfs_cluster.specs.declared.errors.Feature.TheVariants as features
use Rattle.hdfs_cluster.specs.Counts.{FaultCounts, Rose}
use Rattle.hdfs_cluster.specs.Failures.{CallsRose, HasFailed, IsOfAsk, MayReplace, Means, SetupsFailed, failure_of}
use Rattle.hdfs_cluster.specs.Files.{State, Content, NoFile, File, Writing}
use Rattle.hdfs_cluster.specs.Limits.{are_defaults, are_attributes, is_permission}
use Rattle.hdfs_model.specs.Limits.{are_options}
use Rattle.hdfs_model.specs.Steps.{World, Outcome, Refused, Done, Refusal, BadPath, WrongState, Exists, Lacks, BadRange, NotEmpty, TooMany, content_of, step, path_of, target_of}
use Rattle.hdfs_cluster.specs.Namenode.{class_for, not_empty}
use Rattle.hdfs_cluster.specs.Shown.{Shown}
use Rattle.hdfs_cluster.specs.Lost.{FileLost, SomeListedFailed, PipelineFailed}

-- the same of a command's range
abbrev pub CommandLost : FaultCounts → Shown → List ℕ → Command → ℕ → Type 0
CommandLost old new path (commands.Read text offset len) byte = FileLost old new path offset (offset + len) byte
CommandLost old new path command byte = ⊥

-- the step does what the command asks
abbrev pub IsDone : Outcome → Type 0
IsDone outcome = (reply : Reply) × (next : State) × (outcome ≡ Done reply next)

-- there is no file at the path
abbrev pub IsLacking : Outcome → Type 0
IsLacking outcome = (why : NoFile) × (outcome ≡ Refused (Lacks why))

-- the class of the exceptions that stand for a refusal, but for those by which something stands at the path already
abbrev pub IsClassFor : Refusal → List ℕ → Type 0
IsClassFor (Lacks why) class = class ≡ class_for why
IsClassFor NotEmpty class = class ≡ not_empty
IsClassFor why class = ⊥

-- an exception of this class stands for what the step is refused for
abbrev pub StandsForRefused : Outcome → List ℕ → Type 0
StandsForRefused outcome class = (why : Refusal) × (outcome ≡ Refused why) × IsClassFor why class

-- the offset and the length that a command asks for
abbrev pub Asks : Command → ℕ → ℕ → Type 0
Asks (commands.Read path o l) offset len = (offset ≡ o) × (len ≡ l)
Asks command offset len = ⊥

-- the command allows so many entries
abbrev pub Allows : Command → ℕ → Type 0
Allows (commands.List path recursive most) limit = limit ≡ most
Allows command limit = ⊥

-- the command sends bytes to datanodes
abbrev pub Sends : Command → Type 0
Sends (commands.Write path bytes) = Unit {0}
Sends (commands.Close path) = Unit {0}
Sends command = ⊥

-- the command closes a file
abbrev pub IsClose : Command → Type 0
IsClose (commands.Close path) = Unit {0}
IsClose command = ⊥

-- the command neither asks for bytes nor sends any
abbrev pub TouchesNothing : Command → Type 0
TouchesNothing (commands.Create path options) = Unit {0}
TouchesNothing (commands.Append path) = Unit {0}
TouchesNothing (commands.Write path bytes) = bytes ≡ []
TouchesNothing (commands.Close path) = ⊥
TouchesNothing (commands.Read path offset len) = len ≡ 0
TouchesNothing (commands.Mkdirs path permission create_parent) = Unit {0}
TouchesNothing (commands.Delete path recursive) = Unit {0}
TouchesNothing (commands.Info path) = Unit {0}
TouchesNothing (commands.List path recursive limit) = Unit {0}

-- the command asks for bytes, or sends some
abbrev pub MovesBytes : Command → Type 0
MovesBytes (commands.Write path bytes) = bytes ≢ []
MovesBytes (commands.Read path offset len) = 0 < len
MovesBytes command = ⊥

-- the command asks for bytes, or sends some, and the cluster wants data encrypted on its way
abbrev pub MovesEncrypted : World → Command → Type 0
MovesEncrypted world command = MovesBytes command × (world.defaults.encrypt_data_transfer ≡ true)

-- a closed file at the path is encrypted
abbrev pub IsEncryptedAt : State → List ℕ → Type 0
IsEncryptedAt state path = (content : Content) × (state.files path ≡ Some (File content)) × (content.attributes.encrypted ≡ true)

-- the command opens an encrypted file, to read it or to go on with it
abbrev pub OpensEncrypted : State → List ℕ → Command → Type 0
OpensEncrypted state path (commands.Append text) = IsEncryptedAt state path
OpensEncrypted state path (commands.Read text offset len) = IsEncryptedAt state path
OpensEncrypted state path command = ⊥

-- the command can meet encryption: it opens a file, or writes some bytes
abbrev pub CanMeetEncryption : Command → Type 0
CanMeetEncryption (commands.Create path options) = Unit {0}
CanMeetEncryption (commands.Append path) = Unit {0}
CanMeetEncryption (commands.Write path bytes) = bytes ≢ []
CanMeetEncryption (commands.Read path offset len) = Unit {0}
CanMeetEncryption command = ⊥

-- the command wants a file that is there and isn't open, or is to tell what stands at its path
abbrev pub WantsFile : Command → Type 0
WantsFile (commands.Append path) = Unit {0}
WantsFile (commands.Read path offset len) = Unit {0}
WantsFile (commands.Info path) = Unit {0}
WantsFile (commands.List path recursive limit) = Unit {0}
WantsFile command = ⊥

-- the command uses the cluster's defaults
abbrev pub UsesDefaults : Command → Type 0
UsesDefaults (commands.Create path options) = Unit {0}
UsesDefaults (commands.Append path) = Unit {0}
UsesDefaults command = ⊥

-- the command's options or its permission bits are out of their limits, or it writes some bytes to a file, whose attributes may be
abbrev pub OptionsMayBeOut : Command → Type 0
OptionsMayBeOut (commands.Create path options) = are_options options ≡ false
OptionsMayBeOut (commands.Write path bytes) = bytes ≢ []
OptionsMayBeOut (commands.Mkdirs path permission create_parent) = is_permission permission ≡ false
OptionsMayBeOut command = ⊥

-- the length of the file at a path
abbrev pub HasLength : State → List ℕ → ℕ → Type 0
HasLength state path n = (content : Content) × (content_of (state.files path) ≡ Some content) × (n ≡ length content.bytes)

-- an option of the command or its permission bits are out of their limits, or an attribute of the file to which it writes some bytes
abbrev pub OptionsOut : State → List ℕ → Command → Type 0
OptionsOut state path (commands.Create text options) = are_options options ≡ false
OptionsOut state path (commands.Write text bytes) =
    (bytes ≢ []) × (content : Content) × (state.files path ≡ Some (Writing content)) × (are_attributes content.attributes ≡ false)
OptionsOut state path (commands.Mkdirs text permission create_parent) = is_permission permission ≡ false
OptionsOut state path command = ⊥

-- a datanode of a pipeline of the file at a path, which is being written, may have to be replaced
abbrev pub ReplacesAt : World → State → List ℕ → Type 0
ReplacesAt world state path =
    (content : Content) × (state.files path ≡ Some (Writing content)) × MayReplace world.policy content.attributes.replication

-- The command can end with the error, which names what the command names.
abbrev pub CanEnd : Command → HdfsError → Type 0
CanEnd command (errors.IOError io_faults.Link) = Sends command
CanEnd command (errors.DataTransferError (transfer.Read byte)) = (offset : ℕ) × (len : ℕ) × Asks command offset len × (0 < len)
CanEnd command (errors.DataTransferError fault) = Sends command
CanEnd command (errors.InvalidPath text) = text ≡ path_of command
CanEnd command (errors.InvalidArgument args.State) = Unit {0}
CanEnd command (errors.InvalidArgument args.Options) = OptionsMayBeOut command
CanEnd command (errors.InvalidArgument args.Defaults) = UsesDefaults command
CanEnd command (errors.InvalidArgument (args.Range offset len length)) = Asks command offset len × (length < offset + len)
CanEnd command (errors.InvalidArgument (args.TooMany limit)) = Allows command limit
CanEnd command (errors.OperationFailed name) = IsClose command
CanEnd command (errors.UnsupportedFeature features.Encryption) = CanMeetEncryption command
CanEnd command (errors.FileNotFound path) = (path ≡ path_of command) × WantsFile command
CanEnd command error = IsOfAsk error

-- What holds of an error of a command over any cluster, told or not, from what is shown before the command, or before an
-- earlier one, to what is shown once it has ended.
abbrev pub Tells : Command → Shown → Shown → HdfsError → Type 0
Tells command old new error = CanEnd command error × Means old new error

-- the error is a refusal, which comes before any datanode is asked or sent anything
abbrev pub IsEarly : Command → HdfsError → Type 0
IsEarly command (errors.InvalidPath text) = Unit {0}
IsEarly command (errors.InvalidArgument fault) = Unit {0}
IsEarly command (errors.FileNotFound path) = Unit {0}
IsEarly command (errors.UnsupportedFeature feature) = Unit {0}
IsEarly command (errors.AlreadyExists message) = Sends command → ⊥
IsEarly command (errors.RPCError class message) = Sends command → ⊥
IsEarly command (errors.IOError (io_faults.Namenode last)) = Sends command → ⊥
IsEarly command (errors.InvalidRPCResponse fault) = Sends command → ⊥
IsEarly command (errors.FatalRPCError class message) = Sends command → ⊥
IsEarly command error = ⊥

-- Why a command over a state ends with an error, beside what has failed: from what is shown before the command to what is shown once
-- it has ended. Want of memory says nothing, nor does an error of an ask but an exception.
abbrev pub Because : World → State → Command → Shown → Shown → HdfsError → Type 0
Because world state command old new (errors.IOError io_faults.Link) =
    IsDone (step world state command) × SetupsFailed world.setup_limit old.counts new.counts
Because world state command old new (errors.DataTransferError transfer.Setup) =
    IsDone (step world state command) × SetupsFailed world.setup_limit old.counts new.counts
Because world state command old new (errors.DataTransferError (transfer.Read byte)) =
    IsDone (step world state command) × CommandLost old.counts new (target_of world command) command byte
Because world state command old new (errors.DataTransferError transfer.AllNodes) =
    IsDone (step world state command) × PipelineFailed old.counts new (target_of world command)
Because world state command old new (errors.DataTransferError transfer.NoReplacement) =
    IsDone (step world state command) × (world.best_effort ≡ false) × (Rose old.counts.links new.counts.links ⊎ CallsRose old.counts new)
    × SomeListedFailed old.counts new (target_of world command) × ReplacesAt world state (target_of world command)
Because world state command old new (errors.DataTransferError (transfer.RebuildLimit rebuilds)) =
    IsDone (step world state command) × (rebuilds ≡ world.rebuild_limit) × SomeListedFailed old.counts new (target_of world command)
Because world state command old new (errors.DataTransferError fault) = IsDone (step world state command)
Because world state command old new (errors.InvalidPath text) = step world state command ≡ Refused BadPath
Because world state command old new (errors.InvalidArgument args.State) = step world state command ≡ Refused WrongState
Because world state command old new (errors.InvalidArgument args.Options) = OptionsOut state (target_of world command) command
Because world state command old new (errors.InvalidArgument args.Defaults) =
    UsesDefaults command × (are_defaults world.defaults ≡ false)
Because world state command old new (errors.InvalidArgument (args.Range offset len length)) =
    (step world state command ≡ Refused BadRange) × HasLength state (target_of world command) length
Because world state command old new (errors.InvalidArgument (args.TooMany limit)) =
    (step world state command ≡ Refused TooMany) × Allows command limit
Because world state command old new (errors.AlreadyExists message) = (step world state command ≡ Refused Exists) ⊎ CallsRose old.counts new
Because world state command old new (errors.OperationFailed name) =
    IsDone (step world state command) × (name ≡ target_of world command)
Because world state command old new (errors.UnsupportedFeature features.Encryption) =
    (IsDone (step world state command) × MovesEncrypted world command) ⊎ OpensEncrypted state (target_of world command) command
Because world state command old new (errors.FileNotFound name) = IsLacking (step world state command)
Because world state command old new (errors.RPCError class message) =
    StandsForRefused (step world state command) class ⊎ CallsRose old.counts new
Because world state command old new error = IsOfAsk error

-- the cause of an error of a command over a state: that, and what it says has failed
abbrev pub Cause : World → State → Command → Shown → Shown → HdfsError → Type 0
Cause world state command old new error = Because world state command old new error × HasFailed (failure_of error) old new

-- the errors that stand for a refusal
abbrev pub IsKind : Refusal → HdfsError → Type 0
IsKind BadPath (errors.InvalidPath text) = Unit {0}
IsKind WrongState (errors.InvalidArgument args.State) = Unit {0}
IsKind Exists (errors.AlreadyExists message) = Unit {0}
IsKind (Lacks why) (errors.FileNotFound path) = Unit {0}
IsKind (Lacks why) (errors.RPCError class message) = Unit {0}
IsKind BadRange (errors.InvalidArgument (args.Range offset len length)) = Unit {0}
IsKind NotEmpty (errors.RPCError class message) = Unit {0}
IsKind TooMany (errors.InvalidArgument (args.TooMany limit)) = Unit {0}
IsKind why error = ⊥
