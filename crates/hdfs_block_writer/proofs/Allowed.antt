-- Leave to write a block goes on with the writer's pipeline, as it was or rebuilt, and so does what was answered of it.
use Rattle.std.proofs.Common.{◌≡◌, List, ℕ, Some, IsSome, refl, sym, ◌∙◌, subst}
use Rattle.hdfs_cluster.specs.declared.asks.Answer.{Answer}
use Rattle.hdfs_cluster.specs.declared.asks.Ask.{Ask}
use Rattle.hdfs_cluster.specs.declared.messages.Block.{Block}
use Rattle.hdfs_cluster.specs.Requests.{IsNamed, IsPipelineOf, LetsGoOn, Request}
use Rattle.hdfs_cluster.specs.Shown.{Shown}
use Rattle.hdfs_rebuild.specs.declared.block_plan.BlockPipeline.{BlockPipeline}
use Rattle.hdfs_rebuild.specs.declared.block_plan.BlockPlan.{BlockPlan}
use Rattle.hdfs_rebuild.specs.Plans.{StaysAnswered}
use Rattle.hdfs_rebuild.proofs.Allowed.{lets_go_on, named_over, stays_lengthened}
use Rattle.hdfs_block_writer.specs.BlockWriters.{MayGoOn}
use Rattle.hdfs_block_writer.specs.OpenPipelines.{KeepsBlock}
use Rattle.hdfs_block_writer.specs.Written.{ClosesAnswered, GoesOnAnswered, PipelineStays}
use Rattle.hdfs_block_writer.specs.declared.block_writer.BlockWriter.{BlockWriter}
use Rattle.hdfs_block_writer.proofs.Sent.{pipe_of}
use Rattle.hdfs_block_writer.proofs.Wrote.{pipe_is}

-- a plan whose block has another length
abbrev lengthened : BlockPlan → ℕ → BlockPlan
lengthened plan length = record plan { block = record plan.block { b = record plan.block.b { num_bytes = length } } }

-- on another pipeline of the block
pub lets_pipe : {allows : Request → Type 0} {may_answer : Ask → Answer → Type 0} {client client' : List ℕ} (plan plan' : BlockPlan) → client' ≡ client
    → KeepsBlock plan plan' → StaysAnswered may_answer client plan plan' → LetsGoOn allows may_answer client plan.src plan.block
    → LetsGoOn allows may_answer client' plan'.src plan'.block
lets_pipe plan plan' name keeps stays lets = lets_go_on plan plan' name keeps.src stays lets

-- with the block at another length
pub lets_lengthened : {allows : Request → Type 0} {may_answer : Ask → Answer → Type 0} {client : List ℕ} (plan plan' : BlockPlan) (length : ℕ)
    → plan' ≡ lengthened plan length → LetsGoOn allows may_answer client plan.src plan.block
    → LetsGoOn allows may_answer client plan'.src plan'.block
lets_lengthened {allows} {may_answer} {client} plan plan' length is lets =
    subst (λ (p : BlockPlan). LetsGoOn allows may_answer client p.src p.block) (sym is)
    (lets_go_on plan (lengthened plan length) refl refl (stays_lengthened plan length) lets)

-- what was answered, behind one plan and then behind another
pub stays_then : {may_answer : Ask → Answer → Type 0} {client client' : List ℕ} (plan between plan' : BlockPlan) → client' ≡ client
    → StaysAnswered may_answer client plan between → StaysAnswered may_answer client' between plan' → StaysAnswered may_answer client plan plan'
stays_then {may_answer} plan between plan' name one two first answered =
    (subst (λ (n : List ℕ). StaysAnswered may_answer n between plan') name two) first (one first answered)

-- the same, from the block at another length
pub stays_from : {may_answer : Ask → Answer → Type 0} {client : List ℕ} (plan long plan' : BlockPlan) (length : ℕ) → long ≡ lengthened plan length
    → StaysAnswered may_answer client long plan' → StaysAnswered may_answer client plan plan'
stays_from {may_answer} {client} plan long plan' length is stays =
    stays_then plan (lengthened plan length) plan' refl (stays_lengthened plan length)
    (subst (λ (p : BlockPlan). StaysAnswered may_answer client p plan') is stays)

-- a writer whose pipeline is the same
pub goes_same : {may_answer : Ask → Answer → Type 0} {client : List ℕ} (writer writer' : BlockWriter) → writer'.pipe ≡ writer.pipe
    → GoesOnAnswered may_answer client writer writer'
goes_same {may_answer} {client} writer writer' same pipe pipe' is is' =
    subst (λ (p : BlockPipeline). StaysAnswered may_answer client pipe.plan p.plan) (pipe_is pipe pipe' (sym is ∙ sym same ∙ is')) (λ first answered. answered)

-- one whose pipeline was this one, and is that one
pub goes_by : {may_answer : Ask → Answer → Type 0} {client : List ℕ} (writer writer' : BlockWriter) (pipe pipe' : BlockPipeline)
    → writer.pipe ≡ Some pipe → writer'.pipe ≡ Some pipe' → StaysAnswered may_answer client pipe.plan pipe'.plan
    → GoesOnAnswered may_answer client writer writer'
goes_by {may_answer} {client} writer writer' pipe pipe' at at' stays one two is is' =
    subst (λ (p : BlockPipeline). StaysAnswered may_answer client p.plan two.plan) (pipe_is pipe one (sym at ∙ is))
    (subst (λ (p : BlockPipeline). StaysAnswered may_answer client pipe.plan p.plan) (pipe_is pipe' two (sym at' ∙ is')) stays)

-- behind one call and then behind another
pub goes_then : {may_answer : Ask → Answer → Type 0} {client client' : List ℕ} (writer between writer' : BlockWriter) → client' ≡ client
    → IsSome between.pipe → GoesOnAnswered may_answer client writer between → GoesOnAnswered may_answer client' between writer'
    → GoesOnAnswered may_answer client writer writer'
goes_then writer between writer' name some one two pipe pipe' is is' =
    let middle = pipe_of between some in
    stays_then pipe.plan middle.0.plan pipe'.plan name (one pipe middle.0 is middle.1) (two middle.0 pipe' middle.1 is')

-- behind a call of its writer
pub may_go_on : {allows : Request → Type 0} {may_answer : Ask → Answer → Type 0} {client client' : List ℕ} {old new : Shown} (writer writer' : BlockWriter)
    → client' ≡ client → IsSome writer.pipe → PipelineStays old writer new writer' → GoesOnAnswered may_answer client writer writer'
    → MayGoOn allows may_answer client writer → MayGoOn allows may_answer client' writer'
may_go_on writer writer' name some stays goes may pipe is =
    let before = pipe_of writer some in
    let there = stays before.0 before.1 in
    lets_pipe before.0.plan pipe.plan name (subst (λ (p : BlockPipeline). KeepsBlock before.0.plan p.plan) (pipe_is there.0 pipe (sym there.1 ∙ is)) there.2)
    (goes before.0 pipe before.1 is) (may before.0 before.1)

-- the name of a block with its length, over a pipeline that was answered
pub closes_by : {may_answer : Ask → Answer → Type 0} {client : List ℕ} (writer : BlockWriter) (pipe : BlockPipeline) (plan : BlockPlan) (block : Block)
    (length : ℕ) → writer.pipe ≡ Some pipe → block ≡ record plan.block.b { num_bytes = length } → StaysAnswered may_answer client pipe.plan plan
    → ClosesAnswered may_answer client writer block
closes_by {may_answer} {client} writer pipe plan block length at is stays one is_one first answered =
    let over : IsNamed may_answer client first plan.block.b =
    named_over (stays first (subst (λ (p : BlockPipeline). IsPipelineOf may_answer client p.plan.src first p.plan.block) (pipe_is one pipe (sym is_one ∙ at)) answered)) in
    subst (IsNamed may_answer client first) (sym is) (record { same = over.same; token = over.token; stamped = over.stamped })

-- behind a call
pub closes_then : {may_answer : Ask → Answer → Type 0} {client client' : List ℕ} (writer writer' : BlockWriter) (block : Block) → client' ≡ client
    → IsSome writer'.pipe → GoesOnAnswered may_answer client writer writer' → ClosesAnswered may_answer client' writer' block
    → ClosesAnswered may_answer client writer block
closes_then {may_answer} writer writer' block name some goes closes pipe is first answered =
    let last = pipe_of writer' some in
    (subst (λ (n : List ℕ). ClosesAnswered may_answer n writer' block) name closes) last.0 last.1 first (goes pipe last.0 is last.1 first answered)
