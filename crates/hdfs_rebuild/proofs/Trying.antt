-- One attempt to rebuild a pipeline: what its steps come to together.
use Rattle.std.proofs.Common.{◌≡◌, ◌≢◌, ◌⊎◌, inl, inr, ⊎_elim, ℕ, ◌+◌, ◌<◌, true, List, [], length, Some, refl, sym, ◌∙◌, ap, subst, arith}
use Rattle.std.specs.List.{All, Contains, slice_index_or}
use Rattle.hdfs_wire.specs.Outgoing.{Outgoing}
use Rattle.hdfs_cluster.specs.declared.errors.HdfsError.{HdfsError}
use Rattle.hdfs_cluster.specs.declared.errors.HdfsError.TheVariants as errors
use Rattle.hdfs_cluster.specs.declared.errors.IoFault.TheVariants as io_faults
use Rattle.hdfs_cluster.specs.declared.messages.DatanodeInfo.{DatanodeInfo}
use Rattle.hdfs_cluster.specs.declared.messages.LocatedBlock.{LocatedBlock}
use Rattle.hdfs_cluster.specs.declared.messages.Token.{Token}
use Rattle.hdfs_cluster.specs.declared.picture.BlockEntry.{BlockEntry}
use Rattle.hdfs_cluster.specs.Effects.{HasOneMore}
use Rattle.hdfs_cluster.specs.Namenode.{IsToWrite}
use Rattle.hdfs_cluster.specs.Picture.{Picture}
use Rattle.hdfs_cluster.specs.Sending.{uuids}
use Rattle.hdfs_cluster.specs.Shown.{Shown, Later, SameReads}
use Rattle.hdfs_cluster.proofs.Frames.{later_refl, later_trans, rose_since, same_reads_trans}
use Rattle.hdfs_names.specs.Shown.{shown as policy_of}
use Rattle.hdfs_block_reader.specs.Carrying.{LinkCarries, total}
use Rattle.hdfs_block_reader.specs.Rebuilding.{IsListed}
use Rattle.hdfs_block_reader.proofs.Listed.{contains_cases}
use Rattle.hdfs_rebuild.specs.declared.attempts.Attempt.{Attempt}
use Rattle.hdfs_rebuild.specs.declared.attempts.Attempt.TheVariants as attempts
use Rattle.hdfs_rebuild.specs.declared.attempts.Fallen.{Fallen}
use Rattle.hdfs_rebuild.specs.declared.block_plan.BlockPlan.{BlockPlan}
use Rattle.hdfs_rebuild.specs.declared.block_plan.RebuildSettings.{RebuildSettings}
use Rattle.hdfs_rebuild.specs.declared.block_plan.BlockPipeline.{BlockPipeline}
use Rattle.hdfs_rebuild.specs.Attempts.{Attempted, Begins, GaveNone, HasRebuildCause, Missed, Recovered, Standing, Task, fallen_at, opening_of, standing, task_of}
use Rattle.hdfs_namenode.specs.Relaying.{TellsAsk}
use Rattle.hdfs_rebuild.specs.Between.{HelpFailed, KeepsLinks, NamenodeFailed, OnlyBlockOf, WaitsOn}
use Rattle.hdfs_rebuild.specs.Opening.{setup_for}
use Rattle.hdfs_rebuild.specs.Plans.{CanRebuild, HasLeft, HasStamp, IsDue, IsNextPlan, IsNextPipeline, IsReplay, KeepsPlan, Known, Waits, nodes_at, without}
use Rattle.hdfs_rebuild.specs.Replacing.{Completes, CompletesNot, GoesOnWith, with_nodes}
use Rattle.hdfs_rebuild.specs.Resuming.{Restamps, RestampsNot, with_stamp}
use Rattle.hdfs_rebuild.specs.Trying.{FallsAgain, ResumeCause, Resumed, ResumedNot, StandsAgain, course_of}
use Rattle.hdfs_rebuild.proofs.Adding.{one_more_long}
use Rattle.hdfs_rebuild.proofs.Leaving.{left_or_failed, left_plan, waits_for_left}
use Rattle.hdfs_rebuild.proofs.Stepping.{failed_behind, help_failed_before, keeps_links_trans, only_block_of_trans, tells_since, touches_behind, touches_by, waits_on_trans}

-- an error of an ask is none of the transfer's, and so a rebuild's cause by a namenode
asked_cause : (task : Task) (before : Standing) (new : Shown) (error : HdfsError) → error ≢ errors.NoMemory
    → TellsAsk before.shown new error → NamenodeFailed before.plan before.shown new → HasRebuildCause task before error new
asked_cause task before new errors.NoMemory other tells rose = tt
asked_cause task before new (errors.IOError io_faults.Link) other tells rose = absurd tells.0
asked_cause task before new (errors.DataTransferError fault) other tells rose = absurd tells.0
asked_cause task before new error other tells rose = (tells, rose)

pub keeps_plan_trans : (a b c : BlockPlan) → KeepsPlan a b → KeepsPlan b c → KeepsPlan a c
keeps_plan_trans a b c f g = record {
  src = g.src ∙ f.src;
  pool = g.pool ∙ f.pool;
  id = g.id ∙ f.id;
  length = g.length ∙ f.length;
  replication = g.replication ∙ f.replication;
  created = g.created ∙ f.created;
  chunk = g.chunk ∙ f.chunk;
}

keeps_plan_refl : (a : BlockPlan) → KeepsPlan a a
keeps_plan_refl a = record { src = refl; pool = refl; id = refl; length = refl; replication = refl; created = refl; chunk = refl }

keeps_with_nodes : (a : BlockPlan) (located : LocatedBlock) → KeepsPlan a (with_nodes a located)
keeps_with_nodes a located = record { src = refl; pool = refl; id = refl; length = refl; replication = refl; created = refl; chunk = refl }

pub keeps_with_stamp : (a : BlockPlan) (stamp : ℕ) (token : Token) → KeepsPlan a (with_stamp a stamp token)
keeps_with_stamp a stamp token = record { src = refl; pool = refl; id = refl; length = refl; replication = refl; created = refl; chunk = refl }

to_write_with_stamp : (a : BlockPlan) (stamp : ℕ) (token : Token) → IsToWrite a.block → IsToWrite (with_stamp a stamp token).block
to_write_with_stamp a stamp token w = record { some = w.some; few = w.few; types = w.types; ids = w.ids; below = w.below }

pub keeps_going_on : (settings : RebuildSettings) (a b : BlockPlan) (old new : Shown) → GoesOnWith a settings old b new
    → KeepsPlan a b × (b.rebuilds ≡ a.rebuilds)
keeps_going_on settings a b old new (inl alone) =
    (subst (KeepsPlan a) (sym alone.1) (keeps_plan_refl a), ap (λ (x : BlockPlan). x.rebuilds) alone.1)
keeps_going_on settings a b old new (inr (inl best)) =
    (subst (KeepsPlan a) (sym best.2) (keeps_plan_refl a), ap (λ (x : BlockPlan). x.rebuilds) best.2)
keeps_going_on settings a b old new (inr (inr added)) =
    (subst (KeepsPlan a) (sym added.1.2) (keeps_with_nodes a added.1.0), ap (λ (x : BlockPlan). x.rebuilds) added.1.2)

-- The failed datanodes are left out, the pipeline gets its datanodes, and the block gets a greater stamp.
module _ (plan0 plan2 plan3 : BlockPlan) (settings : RebuildSettings) (failed : List ℕ) (a m n : Shown)
    (within : plan0.rebuilds < settings.rebuild_limit) (stays : KeepsLinks a m)
    (completes : Completes (left_plan plan0 failed) settings (nodes_at plan0.block.locs failed) a plan2 m) (keeps : KeepsLinks m n)
    (restamps : Restamps plan2 m plan3 n) where
  abbrev id : ℕ
  id = plan0.block.b.block_id

  abbrev left : List DatanodeInfo
  left = without 0 failed plan0.block.locs

  went : KeepsPlan (left_plan plan0 failed) plan2 × (plan2.rebuilds ≡ plan0.rebuilds + 1)
  went = keeps_going_on settings (left_plan plan0 failed) plan2 a m completes.how

  to_left : KeepsPlan plan0 (left_plan plan0 failed)
  to_left = record { src = refl; pool = refl; id = refl; length = refl; replication = refl; created = refl; chunk = refl }

  stamped : KeepsPlan plan2 plan3
  stamped = subst (KeepsPlan plan2) (sym restamps.is) (keeps_with_stamp plan2 restamps.stamp restamps.token)

  to_second : KeepsPlan plan0 plan2
  to_second = keeps_plan_trans plan0 (left_plan plan0 failed) plan2 to_left went.0

  to_next : KeepsPlan plan0 plan3
  to_next = keeps_plan_trans plan0 plan2 plan3 to_second stamped

  pub next_to_write : IsToWrite plan3.block
  next_to_write =
      subst (λ (x : BlockPlan). IsToWrite x.block) (sym restamps.is)
      (to_write_with_stamp plan2 restamps.stamp restamps.token completes.block)

  same_nodes : plan3.block.locs ≡ plan2.block.locs
  same_nodes = ap (λ (x : BlockPlan). x.block.locs) restamps.is

  next_nodes : IsNextPipeline plan0 settings failed plan3.block.locs
  next_nodes = subst (IsNextPipeline plan0 settings failed) (sym same_nodes) (⊎_elim
      (λ alone. inl (ap (λ (x : BlockPlan). x.block.locs) alone.1))
      (λ due. ⊎_elim
      (λ best. inl (ap (λ (x : BlockPlan). x.block.locs) best.2))
      (λ added. inr (added.0, subst (HasOneMore left) (sym (ap (λ (x : BlockPlan). x.block.locs) added.1.2)) added.1.1))
      due)
      completes.how)

  left_storages : plan2 ≡ left_plan plan0 failed → HasLeft failed plan0.block plan3.block
  left_storages same = record {
    nodes = same_nodes ∙ ap (λ (x : BlockPlan). x.block.locs) same;
    types = ap (λ (x : BlockPlan). x.block.storage_types) restamps.is ∙ ap (λ (x : BlockPlan). x.block.storage_types) same;
    ids = ap (λ (x : BlockPlan). x.block.storage_ids) restamps.is ∙ ap (λ (x : BlockPlan). x.block.storage_ids) same;
  }

  next_storages : plan3.block.locs ≡ left → HasLeft failed plan0.block plan3.block
  next_storages same = ⊎_elim
      (λ alone. left_storages alone.1)
      (λ due. ⊎_elim
      (λ best. left_storages best.2)
      (λ added.
      absurd (omega (
        arith,
        one_more_long left added.1.0.locs added.1.1,
        ap length (sym (ap (λ (x : BlockPlan). x.block.locs) added.1.2) ∙ sym same_nodes ∙ same),
      )))
      due)
      completes.how

  is_next : IsNextPlan plan0 settings failed plan3
  is_next = record {
    keeps = to_next;
    block = next_to_write;
    nodes = next_nodes;
    storages = next_storages;
    once = ap (λ (x : BlockPlan). x.rebuilds) restamps.is ∙ went.1;
    within = omega (arith, within, ap (λ (x : BlockPlan). x.rebuilds) restamps.is, went.1);
  }

  pub stays_until : KeepsLinks a n
  stays_until = keeps_links_trans a m n stays keeps

  waits_second : WaitsOn plan0 a plan2 m
  waits_second p known told w = completes.waits p known told (waits_for_left p plan0 failed known w)

  pub waits_next : WaitsOn plan0 a plan3 n
  waits_next = waits_on_trans plan0 plan2 a m n to_second.id stays.later waits_second plan3 restamps.waits

  help_failed_first : HelpFailed (left_plan plan0 failed) a m → HelpFailed plan0 a m
  help_failed_first h = ⊎_elim
      (λ links. inl links)
      (λ namenode. inr (λ p known told w. namenode p known told (waits_for_left p plan0 failed known w)))
      h

  apart_next : (p : Picture) (known : Known) → a.picture ≡ Some p → Waits p plan0 known
      → All (λ node. Contains (uuids left) node ⊎ (Contains (uuids plan0.block.locs) node → ⊥)) (uuids plan3.block.locs)
  apart_next p known told w =
      subst (λ (ns : List DatanodeInfo). All (λ node. Contains (uuids left) node ⊎ (Contains (uuids plan0.block.locs) node → ⊥)) (uuids ns))
      (sym same_nodes)
      (λ k d lt. one (slice_index_or (uuids plan2.block.locs) k d) (completes.apart p known told (waits_for_left p plan0 failed known w) k d lt))
    where
      one : (name : List ℕ) → Contains (uuids left) name ⊎ (Contains (uuids (nodes_at plan0.block.locs failed)) name → ⊥)
          → Contains (uuids left) name ⊎ (Contains (uuids plan0.block.locs) name → ⊥)
      one name (inl here) = inl here
      one name (inr none) = ⊎_elim
          (λ there. ⊎_elim (λ here. inl here) (λ out. absurd (none out)) (left_or_failed failed plan0.block.locs name there))
          (λ never. inr never)
          (contains_cases (uuids plan0.block.locs) name)

  alone_next : (z : Shown) → Later m z → IsDue plan0 settings left → plan3.block.locs ≡ left
      → ((policy_of settings.replace).1 ≡ true) × HelpFailed plan0 a z
  alone_next z later due same = ⊎_elim
      (λ alone. absurd (alone.0 due))
      (λ more. ⊎_elim
      (λ best. (best.1, help_failed_before plan0 a m z later (help_failed_first best.3)))
      (λ added.
      absurd (omega (
        arith,
        one_more_long left added.1.0.locs added.1.1,
        ap length (sym (ap (λ (x : BlockPlan). x.block.locs) added.1.2) ∙ sym same_nodes ∙ same),
      )))
      more)
      completes.how

  newer_next : (p : Picture) (known : Known) (entry : BlockEntry) → a.picture ≡ Some p → Waits p plan0 known → p.table id ≡ Some entry
      → entry.stamp < plan3.block.b.generation_stamp
  newer_next p known entry told w is =
      let x = waits_second p known told w in
      let there : x.0.table plan2.block.b.block_id ≡ Some entry = ap x.0.table to_second.id ∙ x.3 ∙ is in
      subst (λ (s : ℕ). entry.stamp < s) (sym (ap (λ (y : BlockPlan). y.block.b.generation_stamp) restamps.is))
      (restamps.newer x.0 entry x.1 there)

  -- and then it comes to a link
  module _ (client : List ℕ) (replay : List Outgoing) (unsent : ℕ) (z : Shown) where
    begins : Later n z × SameReads n z → Begins (task_of settings client replay unsent) (standing plan0 failed a) plan3 z
    begins reads = record {
      next = is_next;
      later = later_trans a n z stays_until.later reads.0;
      reads = same_reads_trans a n z stays_until.reads reads.1;
      apart = apart_next;
      alone = alone_next z (later_trans m n z keeps.later reads.0);
      newer = newer_next;
    }

    -- one that stands
    pub recovers : (rebuilt : BlockPipeline)
        → StandsAgain (course_of plan3 (opening_of (task_of settings client replay unsent) plan0) client replay) n rebuilt z
        → Recovered (task_of settings client replay unsent) (standing plan0 failed a) rebuilt z
    recovers rebuilt stands = record {
      begins =
          subst (λ (x : BlockPlan). Begins (task_of settings client replay unsent) (standing plan0 failed a) x z) (sym stands.plan)
          (begins (stands.later, stands.reads));
      fresh = sym (stays_until.writes rebuilt.link) ∙ stands.fresh;
      others = λ other apart. stands.others other apart ∙ stays_until.writes other;
      opened = (
        stands.opened.0,
        stands.opened.1,
        stands.opened.2 ∙ ap (λ (x : BlockPlan). setup_for x (opening_of (task_of settings client replay unsent) plan0) client) (sym stands.plan),
      );
      going = stands.going;
      window = stands.window;
      pushed = stands.pushed;
      goes_on = stands.goes_on;
      told = λ p known told w slices.
          let x = waits_next p known told w in
          let y = stands.told x.0 known x.1 x.2 slices in (
            y.0,
            y.1,
            subst (λ (b : BlockPlan). LinkCarries y.0 rebuilt.link b.block.b.block_id (uuids b.block.locs) known.safe replay known.bytes)
                (sym stands.plan) y.2,
            subst (λ (b : BlockPlan). IsListed y.0 b.block.b.block_id (uuids b.block.locs) known.bytes) (sym stands.plan) y.3,
            only_block_of_trans id p x.0 y.0 x.4 (subst (λ (i : ℕ). OnlyBlockOf i x.0 y.0) to_next.id y.4),
            subst (λ (b : BlockPlan). HasStamp y.0 b.block.b) (sym stands.plan) y.5,
          );
    }

    -- one that has fallen
    pub misses : (fallen : Fallen)
        → FallsAgain (course_of plan3 (opening_of (task_of settings client replay unsent) plan0) client replay) n fallen z
        → Missed (task_of settings client replay unsent) (standing plan0 failed a) (standing fallen.plan fallen.failed z) × (fallen.replay ≡ replay)
    misses fallen falls = (
      subst (λ (x : BlockPlan). Missed (task_of settings client replay unsent) (standing plan0 failed a) (standing x fallen.failed z)) (sym falls.plan)
          (record {
            begins = begins (falls.links.later, falls.links.reads);
            writes = λ link. falls.links.writes link ∙ stays_until.writes link;
            places = falls.places;
            failed = λ k d lt.
                let node = slice_index_or (uuids plan3.block.locs) (slice_index_or fallen.failed k d) [] in
                rose_since (a.counts.nodes node) (n.counts.nodes node) (z.counts.nodes node) (z.counts.nodes node)
                (stays_until.later.counts.nodes node) (falls.failed k d lt) (omega arith);
            told = λ p known told w slices.
                let x = waits_next p known told w in
                let y = falls.told x.0 known x.1 x.2 slices in (
                  y.0,
                  y.1,
                  y.2,
                  only_block_of_trans id p x.0 y.0 x.4 (subst (λ (i : ℕ). OnlyBlockOf i x.0 y.0) to_next.id y.3),
                  y.4,
                );
          }),
      falls.replay,
    )

    pub attempted : (attempt : Attempt)
        → Resumed (course_of plan3 (opening_of (task_of settings client replay unsent) plan0) client replay) n attempt z
        → Attempted (task_of settings client replay unsent) (standing plan0 failed a) attempt z
    attempted (attempts.Stands rebuilt) stands = recovers rebuilt stands
    attempted (attempts.Fell fallen) falls = misses fallen falls

    -- or none comes of it
    resume_cause : (fault : HdfsError) → KeepsLinks n z → ResumeCause plan3 n fault z
        → HasRebuildCause (task_of settings client replay unsent) (standing plan0 failed a) fault z
    resume_cause fault kept (inl (inl memory)) =
        subst (λ (f : HdfsError). HasRebuildCause (task_of settings client replay unsent) (standing plan0 failed a) f z) (sym memory) tt
    resume_cause fault kept (inl (inr asked)) =
        asked_cause (task_of settings client replay unsent) (standing plan0 failed a) z fault asked.0
        (tells_since a n z z fault stays_until.later (later_refl z) refl asked.1)
        (failed_behind plan0 plan3 a n z to_next.id stays_until.later waits_next asked.2)
    resume_cause fault kept (inr (which, rose)) =
        let since = rose_since a.counts.links n.counts.links z.counts.links z.counts.links stays_until.later.counts.links rose (omega arith) in
        ⊎_elim
        (λ link. subst (λ (f : HdfsError). HasRebuildCause (task_of settings client replay unsent) (standing plan0 failed a) f z) (sym link) since)
        (λ more. ⊎_elim
        (λ refused. subst (λ (f : HdfsError). HasRebuildCause (task_of settings client replay unsent) (standing plan0 failed a) f z) (sym refused) since)
        (λ bad. subst (λ (f : HdfsError). HasRebuildCause (task_of settings client replay unsent) (standing plan0 failed a) f z) (sym bad.1) since)
        more)
        which

    pub resume_gave_none : (fault : HdfsError) → ResumedNot plan3 n fault z
        → GaveNone (task_of settings client replay unsent) (standing plan0 failed a) fault z
    resume_gave_none fault not = record {
      links = keeps_links_trans a n z stays_until not.links;
      cause = resume_cause fault not.links not.cause;
      touches = touches_behind plan0 plan3 a n z to_next.id stays_until.later waits_next not.touches;
    }

-- The block has no greater stamp.
pub restamp_gave_none : (plan0 plan2 : BlockPlan) (settings : RebuildSettings) (failed : List ℕ) (a m n : Shown) (client : List ℕ)
    (replay : List Outgoing) (unsent : ℕ) (fault : HdfsError) → KeepsLinks a m
    → Completes (left_plan plan0 failed) settings (nodes_at plan0.block.locs failed) a plan2 m → KeepsLinks m n
    → RestampsNot plan2 m fault n → GaveNone (task_of settings client replay unsent) (standing plan0 failed a) fault n
restamp_gave_none plan0 plan2 settings failed a m n client replay unsent fault stays completes keeps not =
    let kept = keeps_going_on settings (left_plan plan0 failed) plan2 a m completes.how in
    let waits : WaitsOn plan0 a plan2 m = λ p known told w. completes.waits p known told (waits_for_left p plan0 failed known w) in
    record {
      links = keeps_links_trans a m n stays keeps;
      cause = ⊎_elim
          (λ memory. subst (λ (f : HdfsError). HasRebuildCause (task_of settings client replay unsent) (standing plan0 failed a) f n) (sym memory) tt)
          (λ asked. asked_cause (task_of settings client replay unsent) (standing plan0 failed a) n fault asked.0
          (tells_since a m n n fault stays.later (later_refl n) refl asked.1)
          (failed_behind plan0 plan2 a m n kept.0.id stays.later waits asked.2))
          not.cause;
      touches = touches_behind plan0 plan2 a m n kept.0.id stays.later waits (touches_by plan2 plan2 m n not.waits);
    }

-- The pipeline has not the datanodes that are due.
pub complete_gave_none : (plan0 : BlockPlan) (settings : RebuildSettings) (failed : List ℕ) (a m : Shown) (client : List ℕ)
    (replay : List Outgoing) (unsent : ℕ) (fault : HdfsError) → KeepsLinks a m → CompletesNot (left_plan plan0 failed) settings a fault m
    → GaveNone (task_of settings client replay unsent) (standing plan0 failed a) fault m
complete_gave_none plan0 settings failed a m client replay unsent fault stays not = record {
  links = stays;
  cause = ⊎_elim
      (λ memory. subst (λ (f : HdfsError). HasRebuildCause (task_of settings client replay unsent) (standing plan0 failed a) f m) (sym memory) tt)
      (λ none. subst (λ (f : HdfsError). HasRebuildCause (task_of settings client replay unsent) (standing plan0 failed a) f m) (sym none.0) (
        none.1,
        none.2,
        ⊎_elim
            (λ links. inl links)
            (λ namenode. inr (λ p known told w. namenode.0 p known told (waits_for_left p plan0 failed known w), namenode.1))
            none.3,
        λ p known told w. (let x = not.waits p known told (waits_for_left p plan0 failed known w) in (x.0, x.1, x.3)),
      ))
      not.cause;
  touches = λ p known told w. let x = not.waits p known told (waits_for_left p plan0 failed known w) in (x.0, x.1, x.4);
}

-- A pipeline that has fallen can be rebuilt again.
pub can_rebuild_again : (before : Fallen) (settings : RebuildSettings) (a z : Shown) (client : List ℕ) (unsent : ℕ) (fallen : Fallen)
    → CanRebuild before settings unsent
    → Missed (task_of settings client before.replay unsent) (fallen_at before a) (fallen_at fallen z) × (fallen.replay ≡ before.replay)
    → CanRebuild fallen settings unsent
can_rebuild_again before settings a z client unsent fallen can missed = record {
  block = missed.0.begins.next.block;
  places = missed.0.places;
  rebuilds = missed.0.begins.next.within;
  window = can.window;
  packets = subst (IsReplay settings.window) (sym missed.1) can.packets;
  few = omega (arith, can.few, missed.0.begins.next.keeps.length, ap total missed.1);
}
