-- A pipeline of which datanodes have failed is rebuilt, and its block goes on.
use Rattle.std.proofs.Common.{◌≡◌, inr, ℕ, suc, ◌+◌, ◌^◌, ◌<◌, List, [], ◌∷◌, ◌++◌, length, take, drop, Some, None, refl, sym, ◌∙◌, ap, subst, arith}
use Rattle.std.proofs.lemmas.List.{append-nil, length-map}
use Rattle.std.specs.List.{slice_index_or}
use Rattle.hdfs_wire.specs.Outgoing.{Outgoing}
use Rattle.hdfs_cluster.specs.declared.messages.DatanodeInfo.{DatanodeInfo}
use Rattle.hdfs_cluster.specs.declared.messages.Setup.{Setup}
use Rattle.hdfs_cluster.specs.declared.picture.OpenWrite.{OpenWrite}
use Rattle.hdfs_cluster.specs.Failures.{SomeNodeRose}
use Rattle.hdfs_cluster.specs.Counts.{Rose}
use Rattle.hdfs_cluster.specs.Effects.{IsBeingWritten}
use Rattle.hdfs_cluster.specs.Namenode.{IsToWrite}
use Rattle.hdfs_cluster.specs.Picture.{Picture}
use Rattle.hdfs_cluster.specs.Pipes.{WriteEnded}
use Rattle.hdfs_cluster.specs.Sending.{uuids}
use Rattle.hdfs_cluster.specs.Shown.{Shown, Later}
use Rattle.hdfs_cluster.proofs.Frames.{rose_since}
use Rattle.hdfs_pipeline.specs.Driving.{Drives, Drove, Settles}
use Rattle.hdfs_pipeline.specs.Pipelines.{Failed, Pipeline}
use Rattle.hdfs_pipeline.specs.Places.{ArePlaces}
use Rattle.hdfs_block_reader.specs.Carrying.{AreSlices, FollowFrom, LinkCarries, total}
use Rattle.hdfs_block_reader.specs.Rebuilding.{IsListed}
use Rattle.hdfs_block_reader.proofs.Prefixes.{slices_front}
use Rattle.hdfs_rebuild.specs.declared.block_plan.BlockPipeline.{BlockPipeline}
use Rattle.hdfs_rebuild.specs.declared.block_plan.BlockPlan.{BlockPlan}
use Rattle.hdfs_rebuild.specs.declared.block_plan.RebuildSettings.{RebuildSettings}
use Rattle.hdfs_rebuild.specs.Attempts.{MissedTimes, RebuiltAfter, Recovered, Standing, Task, standing, task_of}
use Rattle.hdfs_rebuild.specs.Between.{OnlyBlockOf}
use Rattle.hdfs_block_writer.specs.OpenPipelines.{Has, IsStanding, KeepsBlock, KeepsStamp, OnlyOwnLink, id_of}
use Rattle.hdfs_rebuild.specs.Plans.{HasStamp, KeepsPlan, Waits}
use Rattle.hdfs_block_writer.specs.Pushing.{IsRebuilt}
use Rattle.hdfs_rebuild.specs.Trying.{HaveFailed}
use Rattle.hdfs_rebuild.proofs.Ending.{LinkOnly}
use Rattle.hdfs_cluster.proofs.Times.{fails_until}
use Rattle.hdfs_block_writer.proofs.LettingGo.{gone_only, gone_picture, gone_slices, gone_told, gone_waits, known_of, long_plan, now_safe, own_fresh, until_gone}
use Rattle.hdfs_block_writer.proofs.Missing.{MissedSince, keeps_plan_trans, none_missed, times_missed}
use Rattle.hdfs_rebuild.proofs.Resuming.{some_is}
use Rattle.hdfs_block_writer.proofs.Standing.{ends_left, follow_left, long_to_write}
use Rattle.hdfs_rebuild.proofs.Stepping.{only_block_of_trans, written_still}

-- Datanodes of a pipeline have failed while it was driven on, and its link is ended.
pub record FallsOff (a : Shown) (pipe : BlockPipeline) (came : List Outgoing) (last : Pipeline) (z m : Shown) (failed : List ℕ) : Type 0 where
  pub drove : Drove pipe.link came pipe.core a last z
  pub gone : WriteEnded z pipe.link m
  pub going : pipe.core.end ≡ None
  pub block : IsToWrite pipe.plan.block
  pub places : ArePlaces (length pipe.plan.block.locs) failed
  pub have : HaveFailed pipe.plan failed a m

-- The failed places of a core are those of datanodes of the plan, which the link was set up with.
pub have_failed : (a : Shown) (pipe : BlockPipeline) (came : List Outgoing) (last : Pipeline) (z m : Shown) (failed : List ℕ)
    → Drove pipe.link came pipe.core a last z → WriteEnded z pipe.link m → pipe.core.end ≡ None → last.end ≡ Some (Failed failed)
    → Drives a pipe.link pipe.core
    → ((write : OpenWrite) → a.writes pipe.link ≡ Some write → write.setup.locs ≡ pipe.plan.block.locs) → HaveFailed pipe.plan failed a m
have_failed a pipe came last z m failed drove gone going is drives set_up k d lt =
    let node = slice_index_or (uuids pipe.plan.block.locs) (slice_index_or failed k d) [] in
    let rose : Rose (a.counts.nodes node) (z.counts.nodes node) =
    subst
    (λ (nodes : List DatanodeInfo). let at = slice_index_or (uuids nodes) (slice_index_or failed k d) [] in Rose (a.counts.nodes at) (z.counts.nodes at))
    (set_up drives.0 drives.1) (drove.cause.failed drives.0 failed drives.1 going is k d lt) in
    rose_since (a.counts.nodes node) (a.counts.nodes node) (z.counts.nodes node) (m.counts.nodes node) (omega arith) rose
    (gone.writes.only.later.counts.nodes node)

-- what stays of a plan, whatever its length was
pub keeps_block_long : (plan : BlockPlan) (bytes : ℕ) (plan' : BlockPlan) → KeepsPlan (long_plan plan bytes) plan' → KeepsBlock plan plan'
keeps_block_long plan bytes plan' k =
    record { src = k.src; pool = k.pool; id = k.id; replication = k.replication; created = k.created; chunk = k.chunk }

-- Attempts to rebuild the pipeline have failed.
module _ (settings : RebuildSettings) (client : List ℕ) (a : Shown) (pipe : BlockPipeline) (came : List Outgoing) (last : Pipeline)
    (z m : Shown) (failed : List ℕ) (fell : FallsOff a pipe came last z m failed) (bytes unsent : ℕ) (below : bytes < 2 ^ 63) where
  abbrev pub task : Task
  task = task_of settings client last.pushed unsent

  abbrev pub before : Standing
  before = standing (long_plan pipe.plan bytes) failed m

  pub until : LinkOnly pipe.link a m
  until = until_gone pipe came last a z m fell.drove fell.gone (inr fell.going)

  pub missed_since : (times : ℕ) (then : Standing) → MissedTimes times task before then → MissedSince a task before then
  missed_since times then missed =
      times_missed times a task before then
      (none_missed a task before until.later (long_to_write pipe.plan bytes below fell.block) fell.places fell.have) missed

  -- some datanode has
  pub some_rose : (new : Shown) → Later m new → SomeNodeRose a.counts new
  some_rose new later =
      let node = slice_index_or (uuids pipe.plan.block.locs) (slice_index_or failed 0 0) [] in (
        node,
        rose_since (a.counts.nodes node) (a.counts.nodes node) (m.counts.nodes node) (new.counts.nodes node) (omega arith)
            (fell.have 0 0 fell.places.some) (later.counts.nodes node),
      )

  -- Over a told picture the block waited with the datanodes of the last of these, and nothing changed but it.
  module _ (then : Standing) (chain : MissedSince a task before then) (more : List Outgoing) (p : Picture) (safe : ℕ) (all : List ℕ)
      (told : a.picture ≡ Some p) (has : Has p pipe (came ++ more) safe all) where
    abbrev pub safe_then : ℕ
    safe_then = now_safe pipe came last a z m fell.drove fell.gone (inr fell.going) safe

    abbrev gone : Picture
    gone = gone_picture pipe came last a z m fell.drove fell.gone (inr fell.going) fell.block.some more p safe all told has

    pub slices_then : AreSlices all safe_then (last.pushed ++ more)
    slices_then = gone_slices pipe came last a z m fell.drove fell.gone (inr fell.going) fell.block.some more p safe all told has

    abbrev x : (q : Picture) × (then.shown.picture ≡ Some q) × Waits q then.plan (known_of then.plan safe_then all)
        × OnlyBlockOf (id_of pipe) gone q
    x =
        chain.told gone safe_then all
        (gone_told pipe came last a z m fell.drove fell.gone (inr fell.going) fell.block.some more p safe all told has)
        (gone_waits pipe came last a z m fell.drove fell.gone (inr fell.going) fell.block.some more p safe all told has bytes)
        (slices_front all last.pushed more safe_then slices_then)

    abbrev pub then_picture : Picture
    then_picture = x.0

    pub then_told : then.shown.picture ≡ Some then_picture
    then_told = x.1

    pub then_waits : Waits then_picture then.plan (known_of then.plan safe_then all)
    then_waits = x.2

    -- so it is behind another step that changes nothing else
    pub only_behind : (q : Picture) → OnlyBlockOf then.plan.block.b.block_id then_picture q → OnlyBlockOf (id_of pipe) p q
    only_behind q only =
        only_block_of_trans (id_of pipe) p gone q
        (gone_only pipe came last a z m fell.drove fell.gone (inr fell.going) fell.block.some more p safe all told has)
        (only_block_of_trans (id_of pipe) gone x.0 q x.3 (subst (λ (i : ℕ). OnlyBlockOf i x.0 q) chain.keeps.id only))

  -- One has succeeded.
  module _ (pipe' : BlockPipeline) (new : Shown) (then : Standing) (chain : MissedSince a task before then) (ok : Recovered task then pipe' new) where
    pushed_now : pipe'.core.pushed ≡ drop fell.drove.acknowledged pipe.core.pushed ++ came
    pushed_now = ok.pushed ∙ fell.drove.goes.pushed

    own : OnlyOwnLink a (Some pipe.link) new (Some pipe'.link)
    own =
        own_fresh pipe.link a m then.shown until fell.gone.ended chain.links pipe'.link new
        (record { later = ok.begins.later; reads = ok.begins.reads; others = ok.others }) ok.fresh

    keeps : KeepsPlan (long_plan pipe.plan bytes) pipe'.plan
    keeps = keeps_plan_trans (long_plan pipe.plan bytes) then.plan pipe'.plan chain.keeps ok.begins.next.keeps

    again : pipe.plan.rebuilds < pipe'.plan.rebuilds
    again = omega (arith, chain.rebuilds, ok.begins.next.once)

    opened_locs : ok.opened.0.setup.locs ≡ pipe'.plan.block.locs
    opened_locs = ap (λ (s : Setup). s.locs) ok.opened.2

    set_up : (write : OpenWrite) → new.writes pipe'.link ≡ Some write → write.setup.locs ≡ pipe'.plan.block.locs
    set_up write at =
        ap (λ (w : OpenWrite). w.setup.locs) (some_is write ok.opened.0 (sym at ∙ ok.opened.1)) ∙ opened_locs

    many : length pipe'.plan.block.locs ≡ pipe'.core.nodes
    many =
        ap length (sym (set_up ok.going.drives.0 ok.going.drives.1)) ∙ (ok.going.drives.2 ok.going.going).nodes

    stands : (more : List Outgoing) → IsStanding settings a pipe (came ++ more) → IsStanding settings new pipe' more
    stands more s = record {
      drives = ok.going.drives;
      is_core = ok.going.is_core;
      block = ok.begins.next.block;
      set_up = set_up;
      many = many;
      rebuilds = ok.begins.next.within;
      window = ok.window;
      first = s.first + total (take fell.drove.acknowledged (pipe.core.pushed ++ (came ++ more)));
      follow =
          follow_left pipe.core.pushed came more pipe'.core.pushed fell.drove.acknowledged fell.drove.goes.few pushed_now s.first s.follow;
      ends = ends_left pipe.core.pushed came more pipe'.core.pushed fell.drove.acknowledged fell.drove.goes.few pushed_now s.ends;
    }

    module _ (more : List Outgoing) (p : Picture) (safe : ℕ) (all : List ℕ) (told : a.picture ≡ Some p)
        (has : Has p pipe (came ++ more) safe all) where
      abbrev s' : ℕ
      s' = safe_then then chain more p safe all told has

      abbrev y : (q : Picture) × (new.picture ≡ Some q)
          × LinkCarries q pipe'.link pipe'.plan.block.b.block_id (uuids pipe'.plan.block.locs) s' last.pushed all
          × IsListed q pipe'.plan.block.b.block_id (uuids pipe'.plan.block.locs) all
          × OnlyBlockOf then.plan.block.b.block_id (then_picture then chain more p safe all told has) q × HasStamp q pipe'.plan.block.b
      y =
          ok.told (then_picture then chain more p safe all told has) (known_of then.plan s' all)
          (then_told then chain more p safe all told has) (then_waits then chain more p safe all told has)
          (slices_front all last.pushed more s' (slices_then then chain more p safe all told has))

      changes : OnlyBlockOf (id_of pipe) p y.0
      changes = only_behind then chain more p safe all told has y.0 y.4

      settles : Settles y.2.on.place pipe'.core y.2.on.settled
      settles = record {
        nodes = ap length y.2.on.same_nodes ∙ length-map pipe'.plan.block.locs (λ node. node.id.datanode_uuid) ∙ many;
        few = y.2.on.few;
        unsent = [];
        behind = ok.pushed ∙ sym y.2.behind ∙ sym (append-nil (drop y.2.on.settled y.2.on.place.sent));
        received = λ i lt. y.2.on.received i (subst (λ (ns : List (List ℕ)). i < length ns) y.2.on.same_nodes lt);
        going = λ going. (refl, sym y.2.all);
      }

      file : IsBeingWritten y.0 pipe'.plan.src pipe'.plan.block.b
      file =
          subst (λ (path : List ℕ). IsBeingWritten y.0 path pipe'.plan.block.b) (sym keeps.src)
          (written_still p y.0 pipe.plan.src pipe.plan.block.b pipe'.plan.block.b changes.names keeps.id has.file)

      pub has_now : (q : Picture) × (new.picture ≡ Some q) × Has q pipe' more s' all × OnlyBlockOf (id_of pipe) p q
          × KeepsStamp p pipe.plan q pipe'.plan
      has_now = (
        y.0,
        y.1,
        record {
          file = file;
          on = y.2.on;
          lists = y.3;
          settles = settles;
          slices = subst (λ (xs : List Outgoing). AreSlices all s' (xs ++ more)) (sym ok.pushed) (slices_then then chain more p safe all told has);
        },
        changes,
        λ s. y.5,
      )

    pub is_rebuilt : IsRebuilt settings a pipe came new pipe'
    is_rebuilt = record {
      going = ok.going.going;
      again = again;
      acknowledged = fell.drove.acknowledged;
      continues = λ more s. record {
        own = own;
        keeps = keeps_block_long pipe.plan bytes pipe'.plan keeps;
        steady =
            inr (
              suc chain.times,
              omega arith,
              omega (arith, chain.rebuilds, ok.begins.next.once),
              fails_until (suc chain.times) a then.shown new chain.fails ok.begins.later,
            );
        few = fell.drove.goes.few;
        pushed = pushed_now;
        standing = stands more s;
        told = has_now more;
      };
      behind = λ packet first follow.
          ok.goes_on packet first (subst (λ (xs : List Outgoing). FollowFrom first (xs ++ packet ∷ [])) ok.pushed follow);
    }

  -- Some have failed, and then one has succeeded.
  pub rebuilt_after : (pipe' : BlockPipeline) (new : Shown) → RebuiltAfter task before pipe' new → IsRebuilt settings a pipe came new pipe'
  rebuilt_after pipe' new after = is_rebuilt pipe' new after.last (missed_since after.times after.last after.missed) after.recovered
