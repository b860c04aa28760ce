-- A pipeline goes on for a while, and is given up then.
use Rattle.std.proofs.Common.{◌≡◌, ◌⊎◌, inl, inr, ⊎_elim, ℕ, suc, ◌+◌, ◌-◌, ◌≤◌, Bool, false, not, Some, None, refl, ◌∙◌, ap, subst, arith}
use Rattle.std.specs.List.{slice_index_or}
use Rattle.hdfs_cluster.specs.declared.errors.HdfsError.{HdfsError}
use Rattle.hdfs_cluster.specs.declared.errors.HdfsError.TheVariants as errors
use Rattle.hdfs_cluster.specs.declared.errors.IoFault.TheVariants as io_faults
use Rattle.hdfs_cluster.specs.declared.errors.TransferFault.TheVariants as transfer
use Rattle.hdfs_cluster.specs.Failures.{NodesFailTimes}
use Rattle.hdfs_cluster.specs.Counts.{Rose}
use Rattle.hdfs_cluster.specs.Picture.{Picture}
use Rattle.hdfs_cluster.specs.Shown.{Shown, Later}
use Rattle.hdfs_cluster.proofs.Frames.{later_refl, rose_since}
use Rattle.hdfs_names.specs.Replacements.{ShouldReplace}
use Rattle.hdfs_names.specs.Shown.{shown as policy_of}
use Rattle.hdfs_rebuild.specs.declared.block_plan.BlockPipeline.{BlockPipeline}
use Rattle.hdfs_rebuild.specs.declared.block_plan.BlockPlan.{BlockPlan}
use Rattle.hdfs_rebuild.specs.declared.block_plan.RebuildSettings.{RebuildSettings}
use Rattle.hdfs_rebuild.specs.Between.{HasLastError, OnlyBlockOf}
use Rattle.hdfs_block_writer.specs.OpenPipelines.{AllListedFail, GivesUp, HasCause, IsSteady, KeepsBlock, ListedFails, MayBeDue, NamenodeFails, OnlyOwnLink, RebuiltOnFailures, id_of}
use Rattle.hdfs_cluster.proofs.Times.{fails_enough, fails_join, fails_since, fails_until, some_rose_since}
use Rattle.hdfs_block_writer.proofs.OwnLinks.{own_link_refl, own_link_trans}
use Rattle.hdfs_rebuild.proofs.Stepping.{calls_rose_since, only_block_of_refl, only_block_of_trans, tells_since}

pub keeps_block_refl : (plan : BlockPlan) → KeepsBlock plan plan
keeps_block_refl plan = record { src = refl; pool = refl; id = refl; replication = refl; created = refl; chunk = refl }

pub keeps_block_trans : (x y z : BlockPlan) → KeepsBlock x y → KeepsBlock y z → KeepsBlock x z
keeps_block_trans x y z f g = record {
  src = g.src ∙ f.src;
  pool = g.pool ∙ f.pool;
  id = g.id ∙ f.id;
  replication = g.replication ∙ f.replication;
  created = g.created ∙ f.created;
  chunk = g.chunk ∙ f.chunk;
}

-- a pipeline stays, and is rebuilt then
same_rebuilt : (a b c : Shown) (x y z : BlockPlan) → Later a b → y ≡ x → RebuiltOnFailures b y c z → RebuiltOnFailures a x c z
same_rebuilt a b c x y z first same (times, some, more, fails) =
    (times, some, omega (arith, more, ap (λ (p : BlockPlan). p.rebuilds) same), fails_since times a b c first fails)

-- it is rebuilt, and stays then
rebuilt_same : (a b c : Shown) (x y z : BlockPlan) → Later b c → RebuiltOnFailures a x b y → z ≡ y → RebuiltOnFailures a x c z
rebuilt_same a b c x y z then (times, some, more, fails) same =
    (times, some, omega (arith, more, ap (λ (p : BlockPlan). p.rebuilds) same), fails_until times a b c fails then)

-- it is rebuilt, and again then
rebuilt_trans : (a b c : Shown) (x y z : BlockPlan) → RebuiltOnFailures a x b y → RebuiltOnFailures b y c z → RebuiltOnFailures a x c z
rebuilt_trans a b c x y z (m, some, more, fails) (n, some', more', fails') =
    (n + m, omega (arith, some), omega (arith, more, more'), fails_join m n a b c fails fails')

pub steady_trans : (a b c : Shown) (x y z : BlockPipeline) → Later a b → Later b c → IsSteady a x b y → IsSteady b y c z → IsSteady a x c z
steady_trans a b c x y z first then one two = ⊎_elim
    (λ same. ⊎_elim
    (λ still. inl (still.0 ∙ same.0, still.1 ∙ same.1))
    (λ again. inr (same_rebuilt a b c x.plan y.plan z.plan first same.0 again))
    two)
    (λ rebuilt. ⊎_elim
    (λ still. inr (rebuilt_same a b c x.plan y.plan z.plan then rebuilt still.0))
    (λ again. inr (rebuilt_trans a b c x.plan y.plan z.plan rebuilt again))
    two)
    one

-- the same of the plan of a pipeline that was ended then
pub steady_end : (a b c : Shown) (x y : BlockPipeline) (plan : BlockPlan) → Later a b → Later b c → IsSteady a x b y
    → (plan ≡ y.plan) ⊎ RebuiltOnFailures b y.plan c plan → (plan ≡ x.plan) ⊎ RebuiltOnFailures a x.plan c plan
steady_end a b c x y plan first then one two = ⊎_elim
    (λ same. ⊎_elim
    (λ still. inl (still ∙ same.0))
    (λ again. inr (same_rebuilt a b c x.plan y.plan plan first same.0 again))
    two)
    (λ rebuilt. ⊎_elim
    (λ still. inr (rebuilt_same a b c x.plan y.plan plan then rebuilt still))
    (λ again. inr (rebuilt_trans a b c x.plan y.plan plan rebuilt again))
    two)
    one

-- a pipeline was rebuilt so often, and then so often, once for each time that datanodes have failed
abbrev pub RebuiltSince : ℕ → Shown → ℕ → Shown → Type 0
RebuiltSince rebuilt old rebuilt' new = (times : ℕ) × (rebuilt' ≡ rebuilt + times) × NodesFailTimes times old new

pub since_steady : (a b : Shown) (x y : BlockPipeline) → Later a b → IsSteady a x b y → RebuiltSince x.plan.rebuilds a y.plan.rebuilds b
since_steady a b x y later steady = ⊎_elim
    (λ same. (0, omega (arith, ap (λ (p : BlockPlan). p.rebuilds) same.0), later))
    (λ again. (again.0, again.2, again.3))
    steady

-- The block went on from a to b, and was given up then.
module _ (settings : RebuildSettings) (pipe pipe' : BlockPipeline) (W V : Picture → Type 0) (a b c : Shown)
    (often : RebuiltSince pipe.plan.rebuilds a pipe'.plan.rebuilds b) (keeps : KeepsBlock pipe.plan pipe'.plan)
    (own : OnlyOwnLink a (Some pipe.link) b (Some pipe'.link))
    (on : (p : Picture) → a.picture ≡ Some p → W p → (q : Picture) × (b.picture ≡ Some q) × V q × OnlyBlockOf (id_of pipe) p q) where
  rose_here : (x : Shown → ℕ) → x a ≤ x b → Rose (x b) (x c) → Rose (x a) (x c)
  rose_here x before rose = rose_since (x a) (x b) (x c) (x c) before rose (omega arith)

  namenode_since : NamenodeFails V b c → NamenodeFails W a c
  namenode_since fails p told w =
      let x = on p told w in
      calls_rose_since a b c c own.later (later_refl c) (fails x.0 x.1 x.2)

  all_since : AllListedFail V (id_of pipe') b c → AllListedFail W (id_of pipe) a c
  all_since fails p told w =
      let x = on p told w in
      let y = fails x.0 x.1 x.2 in (
        y.0,
        y.1,
        y.2,
        subst (λ (i : ℕ). y.0.table i ≡ Some y.1) keeps.id y.3,
        y.4,
        λ k d lt. (let node = slice_index_or y.1.nodes k d in
            rose_here (λ s. s.counts.nodes node) (own.later.counts.nodes node) (y.5 k d lt)),
      )

  listed_since : ListedFails V (id_of pipe') b c → ListedFails W (id_of pipe) a c
  listed_since fails p told w =
      let x = on p told w in
      let y = fails x.0 x.1 x.2 in
      let node = y.4.1 in (
        y.0,
        y.1,
        y.2,
        subst (λ (i : ℕ). y.0.table i ≡ Some y.1) keeps.id y.3,
        (y.4.0, node, y.4.2, y.4.3, rose_here (λ s. s.counts.nodes node) (own.later.counts.nodes node) y.4.4),
      )

  due_since : MayBeDue settings pipe'.plan → MayBeDue settings pipe.plan
  due_since (left, due) = (
    left,
    subst (λ (n : ℕ). ShouldReplace (policy_of settings.replace).0 n left (not pipe.plan.created) false) keeps.replication
        (subst (λ (new : Bool). ShouldReplace (policy_of settings.replace).0 pipe'.plan.replication left (not new) false) keeps.created due),
  )

  -- the last error is that of before too
  last_since : HasLastError b c → HasLastError a c
  last_since (error, some, tells) = (error, some, tells_since a b c c error own.later (later_refl c) refl tells)

  cause_since : (error : HdfsError) → HasCause settings pipe'.plan V b error c → HasCause settings pipe.plan W a error c
  cause_since errors.NoMemory cause = tt
  cause_since (errors.IOError io_faults.Link) cause =
      (some_rose_since a b c own.later cause.0, rose_here (λ s. s.counts.links) own.later.counts.links cause.1)
  cause_since (errors.DataTransferError transfer.Setup) cause =
      (some_rose_since a b c own.later cause.0, rose_here (λ s. s.counts.links) own.later.counts.links cause.1)
  cause_since (errors.DataTransferError (transfer.BadAck seqno)) cause = rose_here (λ s. s.counts.links) own.later.counts.links cause
  cause_since (errors.DataTransferError transfer.AllNodes) cause = (some_rose_since a b c own.later cause.0, all_since cause.1)
  cause_since (errors.DataTransferError transfer.NoReplacement) cause = (
    cause.0,
    some_rose_since a b c own.later cause.1,
    ⊎_elim
        (λ links. inl (rose_here (λ s. s.counts.links) own.later.counts.links links))
        (λ namenode. inr (namenode_since namenode.0, last_since namenode.1))
        cause.2,
    listed_since cause.3,
    due_since cause.4,
  )
  cause_since (errors.DataTransferError (transfer.RebuildLimit rebuilds)) cause = (
    cause.0,
    fails_enough (suc (settings.rebuild_limit - pipe.plan.rebuilds)) often.0 (suc (settings.rebuild_limit - pipe'.plan.rebuilds)) a b c often.2
        cause.1 (omega (arith, often.1)),
    listed_since cause.2,
  )
  cause_since error cause =
      (tells_since a b c c error own.later (later_refl c) refl cause.0, some_rose_since a b c own.later cause.1, namenode_since cause.2)

  pub gives_up_since : (error : HdfsError) → GivesUp settings pipe' V b error c → GivesUp settings pipe W a error c
  gives_up_since error g = record {
    own = own_link_trans a b c (Some pipe.link) (Some pipe'.link) None own g.own;
    cause = cause_since error g.cause;
    touches = λ p told w.
        let x = on p told w in
        let y = g.touches x.0 x.1 x.2 in
        (y.0, y.1, only_block_of_trans (id_of pipe) p x.0 y.0 x.3 (subst (λ (i : ℕ). OnlyBlockOf i x.0 y.0) keeps.id y.2));
  }

-- what holds of a block that is so, holds of one that is so in another way
pub gives_up_by : (settings : RebuildSettings) (pipe : BlockPipeline) (W V : Picture → Type 0) (a c : Shown) (error : HdfsError)
    → ((p : Picture) → W p → V p) → GivesUp settings pipe V a error c → GivesUp settings pipe W a error c
gives_up_by settings pipe W V a c error by g =
    gives_up_since settings pipe pipe W V a a c (0, omega arith, later_refl a) (keeps_block_refl pipe.plan) (own_link_refl a (Some pipe.link))
    (λ p told w. (p, told, by p w, only_block_of_refl (id_of pipe) p)) error g
