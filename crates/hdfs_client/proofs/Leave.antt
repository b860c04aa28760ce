-- A cluster that lets everything be asked lets a client write.
use Rattle.std.proofs.Common.{ℕ, Bool, true, false, List, [], ◌∷◌, Option}
use Rattle.hdfs_cluster.specs.declared.asks.Answer.{Answer}
use Rattle.hdfs_cluster.specs.declared.asks.Ask.{Ask}
use Rattle.hdfs_cluster.specs.declared.messages.LocatedBlock.{LocatedBlock}
use Rattle.hdfs_cluster.specs.declared.messages.ServerDefaults.{ServerDefaults}
use Rattle.hdfs_cluster.specs.Requests.{Request, LetsClose, LetsWrite, LetsWriteBlock}
use Rattle.hdfs_client.specs.Globbing.{LetsBy, LetsStep, LetsText, is_wild}
use Rattle.hdfs_client.specs.declared.status.FileStatus.{FileStatus}
use Rattle.hdfs_globs.specs.Escapes.{components}
use Rattle.hdfs_model.specs.Opening.{LetsAppend, LetsCreate}
use Rattle.hdfs_model.specs.declared.commands.WriteOptions.{WriteOptions}
use Rattle.hdfs_names.specs.declared.mounts.MountTable.{MountTable}

-- any block
lets_block : {allows : Request → Type 0} (may_answer : Ask → Answer → Type 0) (client path : List ℕ) (first : LocatedBlock)
    → ((request : Request) → allows request) → LetsWriteBlock allows may_answer client path first
lets_block may_answer client path first all = record {
  sets_up = λ setup is. all _;
  gives = λ transfer is. all _;
  restamps = λ named is. all _;
  adds = λ named existing excluded types storages is placed same. all _;
  names = λ before now token nodes types storages is same stamped placed long. all _;
}

-- a file
pub lets_write : {allows : Request → Type 0} (may_answer : Ask → Answer → Type 0) (client path : List ℕ) (file_id : Option ℕ)
    → ((request : Request) → allows request) → LetsWrite allows may_answer client path file_id
lets_write may_answer client path file_id all = record {
  adds = λ previous excluded answered first. all _;
  gives_up = λ located added. all _;
  opens = λ located created answered setup is. all _;
  blocks = λ first created answered. lets_block may_answer client path first all;
}

-- the end of one
pub lets_close : {allows : Request → Type 0} (may_answer : Ask → Answer → Type 0) (client path : List ℕ) (file_id : Option ℕ)
    → ((request : Request) → allows request) → LetsClose allows may_answer client path file_id
lets_close may_answer client path file_id all = record {
  completes = λ last answered. all _;
  blocks = λ first created answered. lets_block may_answer client path first all;
}

-- a new one
pub lets_create : {allows : Request → Type 0} (may_answer : Ask → Answer → Type 0) (Knows : ServerDefaults → Type 0) (client path : List ℕ)
    (options : WriteOptions) → ((request : Request) → allows request) → LetsCreate allows may_answer Knows client path options
lets_create may_answer Knows client path options all = record {
  defaults = all _;
  creates = λ defaults known limited. all _;
  deletes = λ replication block_size status answered encrypted. all _;
}

-- one that is gone on with
pub lets_append : {allows : Request → Type 0} (may_answer : Ask → Answer → Type 0) (client path : List ℕ)
    → ((request : Request) → allows request) → LetsAppend allows may_answer client path
lets_append may_answer client path all = record {
  defaults = all _;
  opens = all _;
  closes = λ appended answered encrypted. lets_close may_answer client path _ all;
}

-- a pattern, by its texts
lets_step : {allows : Request → Type 0} (mounts : MountTable) (wild : Bool) (dir component : List ℕ) (rest : List (List ℕ))
    → ((request : Request) → allows request) → LetsStep allows mounts wild dir component rest
lets_step mounts true dir component rest all = λ to start leads. all _
lets_step mounts false dir component [] all = λ to leads. all _
lets_step mounts false dir component (next ∷ rest) all = tt

lets_by : {allows : Request → Type 0} (Has : List ℕ → List FileStatus → Type 0) (mounts : MountTable) (parts : List (List ℕ))
    → ((request : Request) → allows request) → LetsBy allows Has mounts parts
lets_by Has mounts [] all = λ to leads. all _
lets_by Has mounts (part ∷ parts) all = λ dir component rest reached. lets_step mounts (is_wild component) dir component rest all

pub lets_text : {allows : Request → Type 0} (Has : List ℕ → List FileStatus → Type 0) (mounts : MountTable) (text : List ℕ)
    → ((request : Request) → allows request) → LetsText allows Has mounts text
lets_text Has mounts [] all = tt
lets_text Has mounts (c ∷ text) all = lets_by Has mounts (components (c ∷ text)) all
