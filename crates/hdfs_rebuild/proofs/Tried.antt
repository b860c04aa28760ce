-- What comes of the steps of one attempt to rebuild a pipeline, by what each step says.
use Rattle.std.proofs.Common.{◌≡◌, ℕ, List, subst}
use Rattle.std.specs.Prelude.{Result, Ok, Err, IfOk, IfErr}
use Rattle.hdfs_wire.specs.Outgoing.{Outgoing}
use Rattle.hdfs_cluster.specs.declared.errors.HdfsError.{HdfsError}
use Rattle.hdfs_cluster.specs.declared.messages.DatanodeInfo.{DatanodeInfo}
use Rattle.hdfs_cluster.specs.Namenode.{IsToWrite}
use Rattle.hdfs_cluster.specs.Shown.{Shown}
use Rattle.hdfs_rebuild.specs.declared.attempts.Attempt.{Attempt}
use Rattle.hdfs_rebuild.specs.declared.block_plan.BlockPlan.{BlockPlan}
use Rattle.hdfs_rebuild.specs.declared.block_plan.RebuildSettings.{RebuildSettings}
use Rattle.hdfs_rebuild.specs.Attempts.{Attempted, GaveNone, opening_of, standing, task_of}
use Rattle.hdfs_rebuild.specs.Between.{KeepsLinks}
use Rattle.hdfs_rebuild.specs.Plans.{nodes_at}
use Rattle.hdfs_rebuild.specs.Replacing.{Completes, CompletesNot}
use Rattle.hdfs_rebuild.specs.Resuming.{Restamps, RestampsNot}
use Rattle.hdfs_rebuild.specs.Trying.{GivesPlan, LeavesOut, Resumed, ResumedNot, course_of}
use Rattle.hdfs_rebuild.proofs.Leaving.{left_plan}
use Rattle.hdfs_rebuild.proofs.Trying.{attempted, complete_gave_none, next_to_write, restamp_gave_none, resume_gave_none}

pub ok_by : {T E : Type 0} (P Q : T → Type 0) (r : Result T E) → ((x : T) → P x → Q x) → IfOk r P → IfOk r Q
ok_by P Q (Ok x) h is = h x is
ok_by P Q (Err e) h is = tt

-- by two of them
pub ok_both : {T E : Type 0} {P Q R : T → Type 0} (r : Result T E) → IfOk r P → IfOk r Q → ((x : T) → P x → Q x → R x) → IfOk r R
ok_both (Ok x) is so h = h x is so
ok_both (Err e) is so h = tt

pub err_by : {T E : Type 0} (P Q : E → Type 0) (r : Result T E) → ((e : E) → P e → Q e) → IfErr r P → IfErr r Q
err_by P Q (Ok x) h is = tt
err_by P Q (Err e) h is = h e is

-- A pipeline can be opened by the next plan.
pub to_resume : (plan0 plan3 : BlockPlan) (settings : RebuildSettings) (failed : List ℕ) (a n : Shown)
    → GivesPlan plan0 settings failed a plan3 n → IsToWrite plan3.block
to_resume plan0 plan3 settings failed a n given =
    let completes =
    subst (λ (p : BlockPlan). Completes p settings (nodes_at plan0.block.locs failed) a given.whole given.between) given.leaves.is given.completes in
    next_to_write plan0 given.whole plan3 settings failed a given.between n given.leaves.within given.stays completes given.keeps given.restamps

module _ (plan0 plan1 : BlockPlan) (settings : RebuildSettings) (failed : List ℕ) (client : List ℕ) (replay : List Outgoing) (unsent : ℕ)
    (a m : Shown) (leaves : LeavesOut plan0 settings failed plan1) (stays : KeepsLinks a m) where
  -- the pipeline hasn't the datanodes that are due
  pub incomplete : (fault : HdfsError) → CompletesNot plan1 settings a fault m
      → GaveNone (task_of settings client replay unsent) (standing plan0 failed a) fault m
  incomplete fault not =
      complete_gave_none plan0 settings failed a m client replay unsent fault stays
      (subst (λ (p : BlockPlan). CompletesNot p settings a fault m) leaves.is not)

  module _ (plan2 : BlockPlan) (excluded : List DatanodeInfo) (those : excluded ≡ nodes_at plan0.block.locs failed)
      (completes : Completes plan1 settings excluded a plan2 m) where
    complete_left : Completes (left_plan plan0 failed) settings (nodes_at plan0.block.locs failed) a plan2 m
    complete_left =
        subst (λ (nodes : List DatanodeInfo). Completes (left_plan plan0 failed) settings nodes a plan2 m) those
        (subst (λ (p : BlockPlan). Completes p settings excluded a plan2 m) leaves.is completes)

    module _ (n : Shown) (keeps : KeepsLinks m n) where
      -- the block has no greater stamp
      pub unstamped : (fault : HdfsError) → RestampsNot plan2 m fault n
          → GaveNone (task_of settings client replay unsent) (standing plan0 failed a) fault n
      unstamped fault not = restamp_gave_none plan0 plan2 settings failed a m n client replay unsent fault stays complete_left keeps not

      module _ (plan3 : BlockPlan) (restamps : Restamps plan2 m plan3 n) (z : Shown) where
        -- the pipeline stands, or has fallen
        pub tried : (attempt : Attempt) → Resumed (course_of plan3 (opening_of (task_of settings client replay unsent) plan0) client replay) n attempt z
            → Attempted (task_of settings client replay unsent) (standing plan0 failed a) attempt z
        tried attempt resumed =
            attempted plan0 plan2 plan3 settings failed a m n leaves.within stays complete_left keeps restamps client replay unsent z attempt resumed

        -- or none does
        pub untried : (fault : HdfsError) → ResumedNot plan3 n fault z
            → GaveNone (task_of settings client replay unsent) (standing plan0 failed a) fault z
        untried fault not =
            resume_gave_none plan0 plan2 plan3 settings failed a m n leaves.within stays complete_left keeps restamps client replay unsent z
            fault not
