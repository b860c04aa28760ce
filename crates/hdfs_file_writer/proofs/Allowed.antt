-- Leave for what a writer asks for. It names the client and the file, which each call keeps, so that it carries on from call to call; and
-- the block that is being written is one that was answered.
use Rattle.std.proofs.Common.{◌≡◌, ℕ, false, Bool, List, Option, Some, None, IsSome, inl, refl, sym, ◌∙◌, ap, subst}
use Rattle.hdfs_cluster.specs.declared.asks.Answer.{Answer}
use Rattle.hdfs_cluster.specs.declared.asks.Ask.{Ask}
use Rattle.hdfs_cluster.specs.declared.messages.Block.{Block}
use Rattle.hdfs_cluster.specs.declared.messages.LocatedBlock.{LocatedBlock}
use Rattle.hdfs_cluster.specs.Requests.{AsFirst, IsFirstSetup, IsAnsweredBlock, IsAnsweredId, IsAnsweredLast, IsAnsweredLocated, IsReopened, LetsGoOn, LetsWriteBlock, LetsWriteBlocks, Request}
use Rattle.hdfs_cluster.specs.Shown.{Shown}
use Rattle.hdfs_block_writer.specs.BlockWriters.{MayGoOn, link_in, link_of}
use Rattle.hdfs_block_writer.specs.OpenPipelines.{KeepsBlock}
use Rattle.hdfs_block_writer.specs.Packing.{setup_of}
use Rattle.hdfs_block_writer.specs.Written.{ClosesAnswered, GoesOnAnswered, IsNew, PipelineStays}
use Rattle.hdfs_block_writer.specs.declared.block_writer.BlockWriter.{BlockWriter}
use Rattle.hdfs_block_writer.proofs.Sent.{pipe_of}
use Rattle.hdfs_block_writer.proofs.Wrote.{pipe_is}
use Rattle.hdfs_rebuild.specs.declared.block_plan.BlockPipeline.{BlockPipeline}
use Rattle.hdfs_rebuild.specs.declared.block_plan.BlockPlan.{BlockPlan}
use Rattle.hdfs_rebuild.specs.declared.block_plan.RebuildSettings.{RebuildSettings}
use Rattle.hdfs_namenode.specs.declared.protocol.NamenodeProtocol.{NamenodeProtocol}
use Rattle.hdfs_file_writer.specs.declared.file_writer.FileWriter.{FileWriter}
use Rattle.hdfs_file_writer.specs.declared.sizes.WriteSizes.{WriteSizes}
use Rattle.hdfs_file_writer.specs.Tails.{last_of}
use Rattle.hdfs_file_writer.specs.declared.tails.Tail.{Tail}
use Rattle.hdfs_file_writer.specs.declared.tails.Tail.TheVariants.{Bare, Going, Reopened}
use Rattle.hdfs_file_writer.specs.Writers.{BlockStands, IsAnswered, IsAnsweredPlan, IsAnsweredTail, Keeps, MayFinish, MayWrite, plan_of, tail_done}

-- the block of a writer of a block was answered
abbrev pub IsAnsweredPipe : (Ask → Answer → Type 0) → List ℕ → List ℕ → Option ℕ → BlockWriter → Type 0
IsAnsweredPipe may_answer client path file_id block =
    (pipe : BlockPipeline) → block.pipe ≡ Some pipe → IsAnsweredPlan may_answer client path file_id pipe.plan

-- what holds of a path and an id holds of those that a call keeps
pub at_file : (P : List ℕ → Option ℕ → Type 0) (w w' : FileWriter) → Keeps w w' → P w.path w.file_id → P w'.path w'.file_id
at_file P w w' keeps holds =
    subst (λ (path : List ℕ). P path w'.file_id) (sym keeps.path) (subst (λ (file_id : Option ℕ). P w.path file_id) (sym keeps.file_id) holds)

-- where a file may be written, its last block may be ended
pub may_finish : {allows : Request → Type 0} {may_answer : Ask → Answer → Type 0} {namenode : NamenodeProtocol} {shown : Shown} {w : FileWriter}
    → MayWrite allows may_answer namenode shown w → MayFinish allows may_answer namenode shown w
may_finish may = record { service = may.service; allowed = may.allowed.blocks; answered = may.answered; stands = may.stands }

-- to go on with the block that is being written
pub may_go_on : {allows : Request → Type 0} (may_answer : Ask → Answer → Type 0) (client client' : List ℕ) {shown : Shown} {sizes : WriteSizes}
    (block : BlockWriter) (w w' : FileWriter) → client' ≡ client → Keeps w w' → BlockStands shown w'.path sizes block
    → IsAnsweredPipe may_answer client w'.path w'.file_id block → LetsWriteBlocks allows may_answer client w.path w.file_id → MayGoOn allows may_answer client' block
may_go_on {allows} may_answer client client' block w w' same keeps stands answered lets pipe is =
    let plan = answered pipe is in
    let at = at_file (λ path file_id. LetsWriteBlocks allows may_answer client path file_id) w w' keeps lets plan.first pipe.plan.created plan.answered in
    subst (λ (name : List ℕ). LetsGoOn allows may_answer name pipe.plan.src pipe.plan.block) (sym same) (record {
      first = plan.first;
      lets = subst (λ (path : List ℕ). LetsWriteBlock allows may_answer client path plan.first) (sym (stands.plan pipe is).src) at;
      answered = plan.pipeline;
    })

-- a writer of a block that has a link has a pipeline
has_pipe : (pipe : Option BlockPipeline) → IsSome (link_in pipe) → IsSome pipe
has_pipe None none = absurd (cc none)
has_pipe (Some pipe) some = refl

-- behind a call of the writer of a block
pub answered_pipe : (may_answer : Ask → Answer → Type 0) (client path : List ℕ) (file_id : Option ℕ) (old new : Shown)
    (block block' : BlockWriter)
    → IsSome (link_of block) → PipelineStays old block new block' → GoesOnAnswered may_answer client block block'
    → IsAnsweredPipe may_answer client path file_id block → IsAnsweredPipe may_answer client path file_id block'
answered_pipe may_answer client path file_id old new block block' some stays goes answered pipe is =
    let before = pipe_of block (has_pipe block.pipe some) in
    let there = stays before.0 before.1 in
    let keeps = subst (λ (p : BlockPipeline). KeepsBlock before.0.plan p.plan) (pipe_is there.0 pipe (sym there.1 ∙ is)) there.2 in
    let plan = answered before.0 before.1 in
    record {
      first = plan.first;
      answered = subst (λ (created : Bool). IsAnsweredLocated may_answer client path file_id created plan.first) (sym keeps.created) plan.answered;
      pipeline = goes before.0 pipe before.1 is plan.first plan.pipeline;
    }

-- the name of a block that is closed
pub answered_closed : {may_answer : Ask → Answer → Type 0} {client path : List ℕ} {file_id : Option ℕ} (writer : BlockWriter) (block : Block)
    → IsSome (link_of writer) → IsAnsweredPipe may_answer client path file_id writer → ClosesAnswered may_answer client writer block
    → IsAnsweredBlock may_answer client path file_id block
answered_closed writer block some answered closes =
    let pipe = pipe_of writer (has_pipe writer.pipe some) in
    let plan = answered pipe.0 pipe.1 in
    record { created = pipe.0.plan.created; first = plan.first; answered = plan.answered; named = closes pipe.0 pipe.1 plan.first plan.pipeline }

-- that of one that was to be gone on with
pub answered_left : {may_answer : Ask → Answer → Type 0} {client path : List ℕ} {file_id : Option ℕ} (located : LocatedBlock)
    → IsReopened may_answer client path located → IsAnsweredBlock may_answer client path file_id located.b
answered_left located reopened = record {
  created = false;
  first = located;
  answered = reopened;
  named = record { same = (refl, refl); token = located.block_token; stamped = inl (refl, refl) };
}

-- a writer that writes such a block
pub answered_with : {may_answer : Ask → Answer → Type 0} {client : List ℕ} (w w' : FileWriter) (block : BlockWriter) → Keeps w w' → w'.tail ≡ Going block
    → IsAnswered may_answer client w → IsAnsweredPipe may_answer client w.path w.file_id block
    → IsAnswered may_answer client w'
answered_with {may_answer} {client} w w' block keeps is before answered = record {
  id = at_file (λ path file_id. IsAnsweredId may_answer client path file_id) w w' keeps before.id;
  block =
      subst (IsAnsweredTail may_answer client w'.path w'.file_id) (sym is)
      (at_file (λ path file_id. IsAnsweredPipe may_answer client path file_id block) w w' keeps answered);
  last = λ fine. subst (λ (t : Tail). IsAnsweredLast may_answer client w'.path w'.file_id (last_of t)) (sym is) tt;
}

-- the pipeline of a new writer of a block is that of its plan, which was answered with the block
pub answered_new : (may_answer : Ask → Answer → Type 0) (client path : List ℕ) (file_id : Option ℕ) {settings : RebuildSettings}
    {size packet : ℕ} (plan : BlockPlan) (block : BlockWriter) → IsNew plan settings size packet block
    → IsAnsweredLocated may_answer client path file_id plan.created plan.block → IsAnsweredPipe may_answer client path file_id block
answered_new may_answer client path file_id plan block new answered pipe is =
    subst (IsAnsweredPlan may_answer client path file_id)
    (sym (ap (λ (p : BlockPipeline). p.plan) (pipe_is pipe new.pipe (sym is ∙ new.is)) ∙ new.plan))
    (record {
      first = plan.block;
      answered = answered;
      pipeline = record { same = (refl, refl); stamped = inl (refl, refl); placed = AsFirst };
    })

-- the block that is being written was answered, where the last one was
pub answered_going : {may_answer : Ask → Answer → Type 0} {client : List ℕ} (w : FileWriter) {block : BlockWriter} → w.tail ≡ Going block
    → IsAnswered may_answer client w → IsAnsweredPipe may_answer client w.path w.file_id block
answered_going {may_answer} {client} w {block} is answered = subst (IsAnsweredTail may_answer client w.path w.file_id) is answered.block

-- so was the one that is to be gone on with
pub answered_reopened : {may_answer : Ask → Answer → Type 0} {client : List ℕ} (w : FileWriter) {located : LocatedBlock} → w.tail ≡ Reopened located → IsAnswered may_answer client w → IsReopened may_answer client w.path located
answered_reopened {may_answer} {client} w {located} is answered = subst (IsAnsweredTail may_answer client w.path w.file_id) is answered.block

-- where a block is done, nothing more is to be answered of it
answered_done : (may_answer : Ask → Answer → Type 0) (client path : List ℕ) (file_id : Option ℕ) (last : Option Block)
    → IsAnsweredTail may_answer client path file_id (tail_done last)
answered_done may_answer client path file_id None = tt
answered_done may_answer client path file_id (Some block) = tt

-- what is last of a tail that is done
last_done : (last : Option Block) → last_of (tail_done last) ≡ last
last_done None = refl
last_done (Some block) = refl

-- a writer that keeps no block, whose last one that is done was answered unless it has failed
pub answered_idle : {may_answer : Ask → Answer → Type 0} {client : List ℕ} (w w' : FileWriter) (last : Option Block) → Keeps w w' → w'.tail ≡ tail_done last
    → IsAnswered may_answer client w → (w'.failed ≡ false → IsAnsweredLast may_answer client w.path w.file_id last)
    → IsAnswered may_answer client w'
answered_idle {may_answer} {client} w w' last keeps done answered before = record {
  id = at_file (λ path file_id. IsAnsweredId may_answer client path file_id) w w' keeps answered.id;
  block = subst (IsAnsweredTail may_answer client w'.path w'.file_id) (sym done) (answered_done may_answer client w'.path w'.file_id last);
  last = λ fine.
      subst (IsAnsweredLast may_answer client w'.path w'.file_id) (sym (ap last_of done ∙ last_done last))
      (at_file (λ path file_id. IsAnsweredLast may_answer client path file_id last) w w' keeps (before fine));
}

-- one that keeps none at all
pub answered_bare : {may_answer : Ask → Answer → Type 0} {client : List ℕ} (w w' : FileWriter) → Keeps w w' → w'.tail ≡ Bare
    → IsAnswered may_answer client w → IsAnswered may_answer client w'
answered_bare w w' keeps bare answered = answered_idle w w' None keeps bare answered (λ fine. tt)

-- the first pipeline of a writer's block is set up as the block was answered
pub first_setup : (w : FileWriter) (located : LocatedBlock) (created : Bool) (client : List ℕ)
    → IsFirstSetup created located client (setup_of (plan_of w located created) client)
first_setup w located created client =
    record { block = refl; stage = refl; nodes = refl; types = refl; ids = refl; stamp = refl; bytes = (refl, refl); token = refl; named = refl }
