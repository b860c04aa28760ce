-- A cluster that allows all requests lets any command be run, and one that may answer anything may have answered what a session has open.
use Rattle.std.specs.Prelude.{IfSome}
use Rattle.std.proofs.Common.{ℕ, Bool, true, false, List, [], map, Option, Some, None, inl, inr, refl}
use Rattle.hdfs_cluster.specs.declared.asks.Answer.{Answer}
use Rattle.hdfs_cluster.specs.declared.asks.Answer.TheVariants as answers
use Rattle.hdfs_cluster.specs.declared.asks.Ask.{Ask}
use Rattle.hdfs_cluster.specs.declared.messages.Block.{Block}
use Rattle.hdfs_cluster.specs.declared.messages.FileStatusMsg.{FileStatusMsg}
use Rattle.hdfs_cluster.specs.declared.messages.LocatedBlock.{LocatedBlock}
use Rattle.hdfs_cluster.specs.declared.asks.Ask.TheVariants as asks
use Rattle.hdfs_cluster.specs.Asks.{abandon_block_ask, add_block_ask, additional_datanode_ask, complete_ask, update_pipeline_ask}
use Rattle.hdfs_cluster.specs.Requests.{Request, AskOf, ReadOf, SetupOf, TransferOf, AsFirst, IsAnsweredId, IsAnsweredLast, IsAnsweredLocated, IsReopened, LetsClose, LetsWriteBlocks, id_in}
use Rattle.hdfs_rebuild.specs.declared.block_plan.BlockPlan.{BlockPlan}
use Rattle.hdfs_model.specs.declared.commands.Command.{Command}
use Rattle.hdfs_model.specs.declared.commands.Command.TheVariants as commands
use Rattle.hdfs_cluster.specs.declared.messages.ServerDefaults.{ServerDefaults}
use Rattle.hdfs_namenode.specs.Clients.{defaults_of, name_of}
use Rattle.hdfs_file_writer.specs.Tails.{last_of}
use Rattle.hdfs_file_writer.specs.declared.tails.Tail.{Tail}
use Rattle.hdfs_file_writer.specs.declared.tails.Tail.TheVariants.{Bare, Done, Reopened, Going}
use Rattle.hdfs_file_writer.specs.Writers.{IsAnsweredPlan, IsAnsweredTail, file_id_of, path_of, tail_of}
use Rattle.hdfs_commands.specs.Asking.{AreAnswered, LetsAny, LetsAt}
use Rattle.hdfs_commands.specs.declared.session.Session.{Session}
use Rattle.hdfs_model.specs.Opening.{AnswersDefaults, appending, creating}

module _ {allows : Request → Type 0} (may_answer : Ask → Answer → Type 0) (all : (request : Request) → allows request) where
  lets_blocks : (client path : List ℕ) (file_id : Option ℕ) → LetsWriteBlocks allows may_answer client path file_id
  lets_blocks client path file_id first created answered = record {
    sets_up = λ setup later. all (SetupOf setup);
    gives = λ transfer given. all (TransferOf transfer);
    restamps = λ named is. all (AskOf (asks.UpdateBlockForPipeline named client));
    adds = λ named existing excluded types storages is placed many.
        all (AskOf (additional_datanode_ask path named existing excluded 1 client storages));
    names = λ before now token nodes types storages is same stamped placed many.
        all (AskOf (update_pipeline_ask client before now (map (λ node. node.id) nodes) storages));
  }

  lets_close : (client path : List ℕ) (file_id : Option ℕ) → LetsClose allows may_answer client path file_id
  lets_close client path file_id = record {
    completes = λ last answered. all (AskOf (complete_ask path client last file_id));
    blocks = lets_blocks client path file_id;
  }

  lets_at : (client path : List ℕ) (command : Command) → LetsAt allows may_answer client path command
  lets_at client path (commands.Create name options) = λ fine. record {
    defaults = all (AskOf asks.GetServerDefaults);
    creates = λ defaults known limited. all (AskOf (creating path client options _ _));
    deletes = λ replication block_size status answered encrypted. all (AskOf (asks.Delete path false));
  }
  lets_at client path (commands.Append name) = record {
    defaults = all (AskOf asks.GetServerDefaults);
    opens = all (AskOf (appending path client 4));
    closes = λ appended answered encrypted. lets_close client path (id_in appended.stat);
  }
  lets_at client path (commands.Write name bytes) = λ file_id answered. record {
    adds = λ previous excluded answered first. all (AskOf (add_block_ask path client previous excluded file_id));
    gives_up = λ located added. all (AskOf (abandon_block_ask located.b path client file_id));
    opens = λ located created answered setup first. all (SetupOf setup);
    blocks = lets_blocks client path file_id;
  }
  lets_at client path (commands.Close name) = λ file_id answered. lets_close client path file_id
  lets_at client path (commands.Read name offset len) = record {
    locates = all (AskOf (asks.GetBlockLocations path 0 9223372036854775807));
    defaults = λ some. all (AskOf asks.GetServerDefaults);
    reads = λ block located end k ask is. all (ReadOf ask);
  }
  lets_at client path (commands.Mkdirs name permission parents) = λ fine. all (AskOf (asks.Mkdirs path permission parents))
  lets_at client path (commands.Delete name recursive) = all (AskOf (asks.Delete path recursive))
  lets_at client path (commands.Info name) = all (AskOf (asks.GetFileInfo path))
  lets_at client path (commands.List name recursive limit) = λ dir start below. all (AskOf (asks.GetListing dir start false))

  pub lets_any : LetsAny allows may_answer
  lets_any settings command is = lets_at _ _ command

-- a block of this name on no datanode
abbrev located_at : Block → LocatedBlock
located_at block = record {
  b = block;
  offset = 0;
  locs = [];
  corrupt = false;
  block_token = record { identifier = []; password = []; kind = []; service = [] };
  storage_types = [];
  storage_ids = [];
  block_indices = None;
  block_tokens = [];
}

-- a status with this id
abbrev status_with : ℕ → FileStatusMsg
status_with id = record {
  file_type = 2;
  path = [];
  length = 0;
  permission = 0;
  owner = [];
  group = [];
  modification_time = 0;
  access_time = 0;
  block_replication = None;
  blocksize = None;
  file_id = Some id;
  encryption = None;
  namespace = None;
}

module _ {may_answer : Ask → Answer → Type 0} (all : (ask : Ask) (answer : Answer) → may_answer ask answer) where
  any_id : (client path : List ℕ) (file_id : Option ℕ) → IsAnsweredId may_answer client path file_id
  any_id client path None = inr (record {
    appended = record { block = None; stat = None };
    answered = all (asks.Append path client 4) (answers.Append (record { block = None; stat = None }));
    is = refl;
  })
  any_id client path (Some id) = inr (record {
    appended = record { block = None; stat = Some (status_with id) };
    answered = all (asks.Append path client 4) (answers.Append (record { block = None; stat = Some (status_with id) }));
    is = refl;
  })

  any_reopened : (client path : List ℕ) (located : LocatedBlock) → IsReopened may_answer client path located
  any_reopened client path located = record {
    appended = record { block = Some located; stat = None };
    answered = all (asks.Append path client 4) (answers.Append (record { block = Some located; stat = None }));
    is = refl;
  }

  any_located : (client path : List ℕ) (file_id : Option ℕ) (created : Bool) (located : LocatedBlock)
      → IsAnsweredLocated may_answer client path file_id created located
  any_located client path file_id true located = record {
    previous = None;
    excluded = [];
    answered = all (add_block_ask path client None [] file_id) (answers.AddBlock located);
  }
  any_located client path file_id false located = any_reopened client path located

  any_plan : (client path : List ℕ) (file_id : Option ℕ) (plan : BlockPlan) → IsAnsweredPlan may_answer client path file_id plan
  any_plan client path file_id plan = record {
    first = plan.block;
    answered = any_located client path file_id plan.created plan.block;
    pipeline = record { same = (refl, refl); stamped = inl (refl, refl); placed = AsFirst };
  }

  any_last : (client path : List ℕ) (file_id : Option ℕ) (last : Option Block) → IsAnsweredLast may_answer client path file_id last
  any_last client path file_id None = tt
  any_last client path file_id (Some block) = record {
    created = false;
    first = located_at block;
    answered = any_reopened client path (located_at block);
    named = record { same = (refl, refl); token = (located_at block).block_token; stamped = inl (refl, refl) };
  }

  any_tail : (client path : List ℕ) (file_id : Option ℕ) (tail : Tail) → IsAnsweredTail may_answer client path file_id tail
  any_tail client path file_id Bare = tt
  any_tail client path file_id (Done block) = tt
  any_tail client path file_id (Reopened located) = any_reopened client path located
  any_tail client path file_id (Going block) = λ pipe is. any_plan client path file_id pipe.plan

  any_defaults : (known : Option ServerDefaults) → IfSome known (AnswersDefaults may_answer)
  any_defaults None = tt
  any_defaults (Some defaults) = all asks.GetServerDefaults (answers.GetServerDefaults defaults)

  pub answers_any : (session : Session) → AreAnswered may_answer session
  answers_any session = record {
    files = λ path writer is. record {
      id = any_id (name_of session.namenode) (path_of writer) (file_id_of writer);
      block = any_tail (name_of session.namenode) (path_of writer) (file_id_of writer) (tail_of writer);
      last = λ fine. any_last (name_of session.namenode) (path_of writer) (file_id_of writer) (last_of writer.tail);
    };
    defaults = any_defaults (defaults_of session.namenode);
  }
