-- What an error says has failed, and what a namenode has answered last: over any cluster, whoever answers it.
use Rattle.std.specs.Prelude.{◌≡◌, ◌⊎◌, ℕ, zero, suc, ◌<◌, Bool, true, false, List, All, Any}
use Rattle.hdfs_cluster.specs.declared.errors.ArgFault.TheVariants as args
use Rattle.hdfs_cluster.specs.declared.errors.HdfsError.{HdfsError}
use Rattle.hdfs_cluster.specs.declared.errors.HdfsError.TheVariants as errors
use Rattle.hdfs_cluster.specs.declared.errors.IoFault.TheVariants as io_faults
use Rattle.hdfs_cluster.specs.declared.errors.TransferFault.TheVariants as transfer
use Rattle.hdfs_cluster.specs.declared.picture.LastAnswer.{LastAnswer}
use Rattle.hdfs_cluster.specs.declared.picture.LastAnswer.TheVariants as last_answers
use Rattle.hdfs_cluster.specs.Counts.{CallsRoseTimes, FaultCounts, NodesRoseTimes, Rose, RoseTwice}
use Rattle.hdfs_cluster.specs.Namenode.{is_taken}
use Rattle.hdfs_names.specs.Replacements.{ShouldReplace}
use Rattle.hdfs_names.specs.declared.replacement.Policy.{Policy}
use Rattle.hdfs_cluster.specs.Shown.{Shown, Later}

-- a namenode has failed
abbrev pub CallsRose : FaultCounts → Shown → Type 0
CallsRose old new = (i : ℕ) × (i < new.namenodes) × Rose (old.calls i) (new.counts.calls i)

-- each namenode was asked
abbrev pub EachAsked : FaultCounts → Shown → Type 0
EachAsked old new = (i : ℕ) → i < new.namenodes → Rose (old.asks i) (new.counts.asks i)

-- some datanode has failed
abbrev pub SomeNodeRose : FaultCounts → Shown → Type 0
SomeNodeRose old new = (node : List ℕ) × Rose (old.nodes node) (new.counts.nodes node)

-- datanodes have failed so many times, one time behind another
abbrev pub NodesFailTimes : ℕ → Shown → Shown → Type 0
NodesFailTimes zero old new = Later old new
NodesFailTimes (suc times) old new =
    (between : Shown) × NodesFailTimes times old between × Later between new × SomeNodeRose between.counts new

-- Pipelines couldn't be set up, the further tries among them that are allowed: the links have failed, or datanodes once more than that, one
-- time behind another.
abbrev pub SetupsFailed : ℕ → FaultCounts → FaultCounts → Type 0
SetupsFailed limit old new = Rose old.links new.links ⊎ NodesRoseTimes (suc limit) old new

-- of a pipeline of so many replicas a datanode is to be replaced by this policy, where some number of them are left
abbrev pub MayReplace : Policy → ℕ → Type 0
MayReplace policy replication = (left : ℕ) × (is_append : Bool) × ShouldReplace policy replication left is_append false

-- one of these datanodes has failed
abbrev pub OneRose : FaultCounts → FaultCounts → List (List ℕ) → Type 0
OneRose old new nodes = Any (λ node. Rose (old.nodes node) (new.nodes node)) nodes

-- each of them has
abbrev pub EachRose : FaultCounts → FaultCounts → List (List ℕ) → Type 0
EachRose old new nodes = All (λ node. Rose (old.nodes node) (new.nodes node)) nodes

-- what has failed
pub data Failure : Type 0 where
  -- nothing that it says: it is a refusal, an exception, or want of memory
  Nothing : Failure
  -- a namenode
  ANamenode : Failure
  -- a namenode, and each was asked
  NoAnswer : Failure
  -- this namenode, twice, and each was asked
  Twice : ℕ → Failure
  -- namenodes, so many times
  Times : ℕ → Failure
  -- the links
  TheLinks : Failure
  -- the links or a datanode
  ASetup : Failure
  -- a datanode
  ADatanode : Failure

-- what an error says has failed
abbrev pub failure_of : HdfsError → Failure
failure_of (errors.IOError (io_faults.Namenode last)) = Twice last
failure_of (errors.IOError io_faults.Link) = ASetup
failure_of (errors.DataTransferError transfer.Setup) = ASetup
failure_of (errors.DataTransferError (transfer.BadAck seqno)) = TheLinks
failure_of (errors.DataTransferError transfer.AllNodes) = ADatanode
failure_of (errors.DataTransferError transfer.NoReplacement) = ADatanode
failure_of (errors.DataTransferError (transfer.RebuildLimit rebuilds)) = ADatanode
failure_of (errors.OperationFailed name) = Times 5
failure_of (errors.InvalidRPCResponse fault) = NoAnswer
failure_of (errors.FatalRPCError class message) = NoAnswer
failure_of error = Nothing

-- it has, from one moment to another
abbrev pub HasFailed : Failure → Shown → Shown → Type 0
HasFailed Nothing old new = Unit {0}
HasFailed ANamenode old new = CallsRose old.counts new
HasFailed NoAnswer old new = EachAsked old.counts new × CallsRose old.counts new
HasFailed (Twice i) old new = EachAsked old.counts new × (i < new.namenodes) × RoseTwice (old.counts.calls i) (new.counts.calls i)
HasFailed (Times n) old new = CallsRoseTimes new.namenodes n old.counts new.counts
HasFailed TheLinks old new = Rose old.counts.links new.counts.links
HasFailed ASetup old new = Rose old.counts.links new.counts.links ⊎ SomeNodeRose old.counts new
HasFailed ADatanode old new = SomeNodeRose old.counts new

-- the last answer of a namenode was an exception that says that something stands at the path, with this message
abbrev pub IsTakenBy : List ℕ → LastAnswer → Type 0
IsTakenBy message last = (class : List ℕ) × (is_taken class ≡ true) × (last ≡ last_answers.Exception class message)

-- what an error says of the last answer of a namenode
abbrev pub SaysLast : LastAnswer → HdfsError → Type 0
SaysLast last (errors.IOError (io_faults.Namenode i)) = last ≡ last_answers.Broken
SaysLast last (errors.AlreadyExists message) = IsTakenBy message last
SaysLast last (errors.OperationFailed name) = last ≡ last_answers.Fine
SaysLast last (errors.FileNotFound path) = last ≡ last_answers.Fine
SaysLast last (errors.InvalidArgument (args.TooMany limit)) = last ≡ last_answers.Fine
SaysLast last (errors.RPCError class message) = (is_taken class ≡ false) × (last ≡ last_answers.Exception class message)
SaysLast last (errors.InvalidRPCResponse fault) = last ≡ last_answers.BadReply fault
SaysLast last (errors.FatalRPCError class message) = last ≡ last_answers.Fatal class message
SaysLast last error = Unit {0}

-- what an error means, from one moment to another
abbrev pub Means : Shown → Shown → HdfsError → Type 0
Means old new error = SaysLast new.last error × HasFailed (failure_of error) old new

-- the error is one of an ask of namenodes
abbrev pub IsOfAsk : HdfsError → Type 0
IsOfAsk errors.NoMemory = Unit {0}
IsOfAsk (errors.IOError (io_faults.Namenode last)) = Unit {0}
IsOfAsk (errors.AlreadyExists message) = Unit {0}
IsOfAsk (errors.RPCError class message) = Unit {0}
IsOfAsk (errors.InvalidRPCResponse fault) = Unit {0}
IsOfAsk (errors.FatalRPCError class message) = Unit {0}
IsOfAsk error = ⊥
