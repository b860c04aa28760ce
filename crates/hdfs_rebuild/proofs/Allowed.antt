-- Leave to write a block goes on with the block, whatever its plan becomes, and with the client's name; and what was answered of its pipeline
-- is so of the next one.
use Rattle.std.proofs.Common.{arith, ◌≡◌, ℕ, zero, ◌-◌, ◌==◌, suc, List, length, map, inl, inr, refl, sym, ◌∙◌, ap, subst}
use Rattle.std.specs.Prelude.{◌≢◌}
use Rattle.std.proofs.lemmas.Bool.{cond-false, ne_eqb}
use Rattle.hdfs_cluster.specs.declared.asks.Answer.{Answer}
use Rattle.hdfs_cluster.specs.declared.asks.Ask.{Ask}
use Rattle.hdfs_cluster.specs.Asks.{update_pipeline_ask}
use Rattle.hdfs_cluster.specs.declared.messages.Block.{Block}
use Rattle.hdfs_cluster.specs.declared.messages.DatanodeInfo.{DatanodeInfo}
use Rattle.hdfs_cluster.specs.declared.messages.LocatedBlock.{LocatedBlock}
use Rattle.hdfs_cluster.specs.declared.messages.Token.{Token}
use Rattle.hdfs_cluster.specs.declared.messages.Transfer.{Transfer}
use Rattle.hdfs_cluster.specs.Namenode.{IsToWrite}
use Rattle.hdfs_cluster.specs.Requests.{Request, AskOf, SetupOf, TransferOf, Enlarged, IsEnlarged, IsNamed, IsPipelineOf, IsSameBlock, IsStamped, Left, LetsGoOn, LetsWriteBlock}
use Rattle.hdfs_cluster.specs.Shown.{Shown}
use Rattle.hdfs_rebuild.specs.declared.attempts.Attempt.{Attempt}
use Rattle.hdfs_rebuild.specs.declared.attempts.Attempt.TheVariants as attempts
use Rattle.hdfs_rebuild.specs.declared.block_plan.BlockPlan.{BlockPlan}
use Rattle.hdfs_rebuild.specs.declared.block_plan.RebuildSettings.{RebuildSettings}
use Rattle.hdfs_rebuild.specs.declared.opening.Opening.{Opening}
use Rattle.hdfs_rebuild.specs.Opening.{rebuilt_of, setup_for, with_stamp_of}
use Rattle.hdfs_rebuild.specs.Plans.{KeepsPlan, StaysAnswered}
use Rattle.hdfs_rebuild.specs.Replacing.{Completes, GivesToAdded, GoesOnWith, place_beside, place_of, with_nodes}
use Rattle.hdfs_rebuild.specs.Resuming.{Restamps}
use Rattle.hdfs_rebuild.specs.Trying.{Course, GivesPlan, IsRenewed, LeavesOut, LetsResume, Resumed, plan_of}
use Rattle.hdfs_rebuild.proofs.Trying.{keeps_going_on, keeps_plan_trans, keeps_with_stamp}

-- leave for an ask is leave for the same ask
pub allowed_as : (allows : Request → Type 0) {ask ask' : Ask} → ask' ≡ ask → allows (AskOf ask) → allows (AskOf ask')
allowed_as allows {ask} {ask'} same leave = subst (λ (a : Ask). allows (AskOf a)) (sym same) leave

module _ {may_answer : Ask → Answer → Type 0} {client : List ℕ} where
  -- a generation stamp that was answered for a block is answered for the same block by another name
  pub stamped_as : {block named : Block} {before stamp : ℕ} {token : Token} → IsSameBlock block named
      → IsStamped may_answer client named before stamp token → IsStamped may_answer client block before stamp token
  stamped_as same stamped = record {
    named = stamped.named;
    located = stamped.located;
    answered = stamped.answered;
    same = (stamped.same.0 ∙ same.0, stamped.same.1 ∙ same.1);
    before_is = stamped.before_is;
    stamp_is = stamped.stamp_is;
    token_is = stamped.token_is;
  }

  -- so is an answer where a datanode more was wanted
  pub enlarged_as : {path : List ℕ} {block named : Block} {located : LocatedBlock} → IsSameBlock block named → IsEnlarged may_answer client path named located
      → IsEnlarged may_answer client path block located
  enlarged_as same enlarged = record {
    named = enlarged.named;
    existing = enlarged.existing;
    excluded = enlarged.excluded;
    storages = enlarged.storages;
    answered = enlarged.answered;
    same = (enlarged.same.0 ∙ same.0, enlarged.same.1 ∙ same.1);
  }

  -- the name of a block over a pipeline that was answered
  pub named_over : {path : List ℕ} {first pipeline : LocatedBlock} → IsPipelineOf may_answer client path first pipeline
      → IsNamed may_answer client first pipeline.b
  named_over {path} {first} {pipeline} answered = record { same = answered.same; token = pipeline.block_token; stamped = answered.stamped }

  -- a block of another length
  pub stays_lengthened : (plan : BlockPlan) (length : ℕ)
      → StaysAnswered may_answer client plan (record plan { block = record plan.block { b = record plan.block.b { num_bytes = length } } })
  stays_lengthened plan length first answered = record { same = answered.same; stamped = answered.stamped; placed = answered.placed }

  -- without the datanodes that have failed
  pub stays_left : (plan plan' : BlockPlan) {settings : RebuildSettings} {failed : List ℕ} → LeavesOut plan settings failed plan'
      → StaysAnswered may_answer client plan plan'
  stays_left plan plan' {settings} {failed} leaves first answered =
      subst (λ (p : BlockPlan). IsPipelineOf may_answer client p.src first p.block) (sym leaves.is) (record {
        same = answered.same;
        stamped = answered.stamped;
        placed = Left failed plan.block.locs plan.block.storage_types plan.block.storage_ids answered.placed;
      })

  -- with one more
  pub stays_enlarged : (plan : BlockPlan) (located : LocatedBlock) → IsEnlarged may_answer client plan.src plan.block.b located
      → StaysAnswered may_answer client plan (with_nodes plan located)
  stays_enlarged plan located enlarged first answered = record {
    same = answered.same;
    stamped = answered.stamped;
    placed = Enlarged located (enlarged_as answered.same enlarged);
  }

  -- with another generation stamp
  pub stays_restamped : (plan plan' : BlockPlan) {old new : Shown} → Restamps plan old plan' new
      → IsStamped may_answer client plan'.block.b plan.block.b.generation_stamp plan'.block.b.generation_stamp plan'.block.block_token
      → StaysAnswered may_answer client plan plan'
  stays_restamped plan plan' restamps stamped first answered =
      subst (λ (p : BlockPlan). IsPipelineOf may_answer client p.src first p.block) (sym restamps.is) (record {
        same = answered.same;
        stamped = inr (
          plan.block.b.generation_stamp,
          stamped_as answered.same
              (subst (λ (p : BlockPlan). IsStamped may_answer client p.block.b plan.block.b.generation_stamp p.block.b.generation_stamp p.block.block_token)
              restamps.is stamped),
        );
        placed = answered.placed;
      })

  -- the plan of an attempt is that of its course
  pub stays_attempted : (plan plan' : BlockPlan) (course : Course) (old new : Shown) (attempt : Attempt) → course.plan ≡ plan'
      → Resumed course old attempt new → StaysAnswered may_answer client plan plan' → StaysAnswered may_answer client plan (plan_of attempt)
  stays_attempted plan plan' course old new (attempts.Stands rebuilt) is resumed stays =
      subst (StaysAnswered may_answer client plan) (sym (resumed.plan ∙ is)) stays
  stays_attempted plan plan' course old new (attempts.Fell fallen) is resumed stays =
      subst (StaysAnswered may_answer client plan) (sym (resumed.plan ∙ is)) stays

-- leave goes on, by a client and a path that are the same, with a pipeline that was answered where the one before was
pub lets_go_on : {allows : Request → Type 0} {may_answer : Ask → Answer → Type 0} {client client' : List ℕ} (plan plan' : BlockPlan) → client' ≡ client
    → plan'.src ≡ plan.src → StaysAnswered may_answer client plan plan' → LetsGoOn allows may_answer client plan.src plan.block
    → LetsGoOn allows may_answer client' plan'.src plan'.block
lets_go_on {allows} {may_answer} {client} {client'} plan plan' name at stays lets =
    subst (λ (c : List ℕ). LetsGoOn allows may_answer c plan'.src plan'.block) (sym name) (record {
      first = lets.first;
      lets = subst (λ (path : List ℕ). LetsWriteBlock allows may_answer client path lets.first) (sym at) lets.lets;
      answered = stays lets.first lets.answered;
    })

-- the plan without the datanodes that have failed
pub left_keeps : {plan plan' : BlockPlan} {settings : RebuildSettings} {failed : List ℕ} → LeavesOut plan settings failed plan' → KeepsPlan plan plan'
left_keeps {plan} leaves =
    subst (KeepsPlan plan) (sym leaves.is)
    (record { src = refl; pool = refl; id = refl; length = refl; replication = refl; created = refl; chunk = refl })

-- with one more where that was due
pub completed_keeps : {plan left whole : BlockPlan} {settings : RebuildSettings} {failed : List ℕ} {excluded : List DatanodeInfo} {old new : Shown}
    → LeavesOut plan settings failed left → Completes left settings excluded old whole new → KeepsPlan plan whole
completed_keeps {plan} {left} {whole} {settings} {failed} {excluded} {old} {new} leaves completes =
    keeps_plan_trans plan left whole (left_keeps leaves) (keeps_going_on settings left whole old new completes.how).0

-- and with a greater generation stamp
pub next_keeps : {plan plan' : BlockPlan} {settings : RebuildSettings} {failed : List ℕ} {old new : Shown} → GivesPlan plan settings failed old plan' new
    → KeepsPlan plan plan'
next_keeps {plan} {plan'} gives =
    keeps_plan_trans plan gives.whole plan' (completed_keeps gives.leaves gives.completes)
    (subst (KeepsPlan gives.whole) (sym gives.restamps.is) (keeps_with_stamp gives.whole gives.restamps.stamp gives.restamps.token))

-- the plan to which a datanode was added where that was due names the block as before
whole_names : (settings : RebuildSettings) (plan plan' : BlockPlan) (old new : Shown) → GoesOnWith plan settings old plan' new
    → plan'.block.b ≡ plan.block.b
whole_names settings plan plan' old new (inl none) = ap (λ (p : BlockPlan). p.block.b) none.1
whole_names settings plan plan' old new (inr (inl alone)) = ap (λ (p : BlockPlan). p.block.b) alone.2
whole_names settings plan plan' old new (inr (inr added)) = ap (λ (p : BlockPlan). p.block.b) added.1.2

pub names_on : {plan left whole : BlockPlan} {settings : RebuildSettings} {failed : List ℕ} {excluded : List DatanodeInfo} {old new : Shown}
    → LeavesOut plan settings failed left → Completes left settings excluded old whole new
    → whole.block.b.generation_stamp ≡ plan.block.b.generation_stamp
names_on {plan} {left} {whole} {settings} {failed} {excluded} {old} {new} leaves completes =
    ap (λ (b : Block). b.generation_stamp)
    (whole_names settings left whole old new completes.how ∙ ap (λ (p : BlockPlan). p.block.b) leaves.is)

-- leave to open the next pipeline of a block
pub lets_resume : {allows : Request → Type 0} {may_answer : Ask → Answer → Type 0} {client client' : List ℕ} (plan plan' : BlockPlan) {opening : Opening}
    (least window : ℕ) → client' ≡ client → KeepsPlan plan plan' → IsRenewed may_answer client plan plan'
    → opening ≡ rebuilt_of plan.block.b.generation_stamp least window → LetsGoOn allows may_answer client plan.src plan.block
    → LetsResume allows may_answer client' plan' opening
lets_resume {allows} {may_answer} {client} {client'} plan plan' {opening} least window name keeps renewed is lets =
    subst (λ (c : List ℕ). LetsResume allows may_answer c plan' opening) (sym name)
    (subst (λ (o : Opening). LetsResume allows may_answer client plan' o) (sym is) (record {
      first = lets.first;
      lets = subst (λ (path : List ℕ). LetsWriteBlock allows may_answer client path lets.first) (sym keeps.src) lets.lets;
      answered = renewed.stays lets.first lets.answered;
      stamped = renewed.stamped;
      before = record {
        same = (keeps.pool ∙ lets.answered.same.0, keeps.id ∙ lets.answered.same.1);
        token = plan.block.block_token;
        stamped = lets.answered.stamped;
      };
      stage = refl;
    }))

-- leave to set it up
pub lets_set_up : {allows : Request → Type 0} {may_answer : Ask → Answer → Type 0} {client named : List ℕ} (plan : BlockPlan) (opening : Opening)
    → named ≡ client → LetsResume allows may_answer client plan opening → allows (SetupOf (setup_for plan opening named))
lets_set_up {allows} {may_answer} {client} {named} plan opening name lets = lets.lets.sets_up (setup_for plan opening named) (record {
  block = lets.before;
  stage = lets.stage;
  stamped = stamped_as lets.answered.same lets.stamped;
  placed = lets.answered.placed;
  named = name;
})

-- leave to name the pipeline of a plan
pub lets_name : {allows : Request → Type 0} {may_answer : Ask → Answer → Type 0} {client : List ℕ} (plan : BlockPlan) (opening : Opening)
    → IsToWrite plan.block → LetsResume allows may_answer client plan opening
    → allows (AskOf (update_pipeline_ask client (with_stamp_of plan.block.b opening.stamp) plan.block.b
    (map (λ node. node.id) plan.block.locs) plan.block.storage_ids))
lets_name {allows} {may_answer} {client} plan opening block lets =
    lets.lets.names (with_stamp_of plan.block.b opening.stamp) plan.block.b plan.block.block_token plan.block.locs plan.block.storage_types
    plan.block.storage_ids lets.before lets.answered.same (stamped_as lets.answered.same lets.stamped) lets.answered.placed block.ids

-- a datanode isn't beside itself
beside_apart : (place : ℕ) → place_beside place ≢ place
beside_apart zero same = absurd (omega (arith, same))
beside_apart (suc place) same =
    let before : place_beside (suc place) ≡ suc place - 1 =
    cond-false (suc place == 0) 1 (suc place - 1) (ne_eqb (suc place) 0 (λ none. omega (arith, none))) in
    absurd (omega (arith, before, same))

-- leave to have the datanode that was added given the block
pub lets_give : {allows : Request → Type 0} {may_answer : Ask → Answer → Type 0} {client : List ℕ} (plan : BlockPlan) {located : LocatedBlock} {transfer : Transfer}
    → GivesToAdded plan located client transfer → IsEnlarged may_answer client plan.src plan.block.b located
    → LetsGoOn allows may_answer client plan.src plan.block → allows (TransferOf transfer)
lets_give {allows} {may_answer} {client} plan {located} {transfer} gives enlarged lets = lets.lets.gives transfer (record {
  block = subst (IsNamed may_answer client lets.first) (sym gives.block) (named_over lets.answered);
  located = located;
  enlarged = enlarged_as lets.answered.same enlarged;
  token = gives.token;
  source = place_beside (place_of plan.block.locs located.locs);
  gives = gives.source;
  place = place_of plan.block.locs located.locs;
  target = gives.target;
  takes = gives.added;
  alone = gives.targets;
  apart = beside_apart (place_of plan.block.locs located.locs);
  named = gives.named_so;
})
