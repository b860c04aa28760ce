-- A pipeline of which datanodes have failed isn't rebuilt, and its block is given up.
use Rattle.std.proofs.Common.{◌≡◌, ◌⊎◌, inl, inr, ⊎_elim, ℕ, ℤ, zero, suc, ◌+◌, ◌-◌, ◌^◌, ◌<◌, Bool, true, false, not, cond, ◌==◌, List, [], ◌∷◌, ◌++◌, length, Some, None, refl, sym, ◌∙◌, ap, subst, arith}
use Rattle.std.proofs.lemmas.Bool.{eqb-true}
use Rattle.std.proofs.lemmas.List.{get_or_default, length-map}
use Rattle.std.proofs.lemmas.List.Folds.{Any-from_list_any}
use Rattle.std.specs.List.{All, Any, list_any, slice_index_or}
use Rattle.hdfs_wire.specs.Outgoing.{Outgoing}
use Rattle.hdfs_cluster.specs.declared.errors.HdfsError.{HdfsError}
use Rattle.hdfs_cluster.specs.declared.errors.HdfsError.TheVariants as errors
use Rattle.hdfs_cluster.specs.declared.errors.IoFault.TheVariants as io_faults
use Rattle.hdfs_cluster.specs.declared.errors.TransferFault.TheVariants as transfer
use Rattle.hdfs_cluster.specs.declared.messages.DatanodeInfo.{DatanodeInfo}
use Rattle.hdfs_cluster.specs.Failures.{SomeNodeRose, NodesFailTimes}
use Rattle.hdfs_cluster.specs.Counts.{Rose}
use Rattle.hdfs_cluster.specs.Pipes.{WriteEnded}
use Rattle.hdfs_cluster.specs.Sending.{uuids}
use Rattle.hdfs_cluster.specs.Shown.{Shown}
use Rattle.hdfs_cluster.proofs.Frames.{later_refl, rose_since}
use Rattle.hdfs_pipeline.specs.Driving.{Drove, StopsShort}
use Rattle.hdfs_pipeline.specs.Pipelines.{Bad, Pipeline}
use Rattle.hdfs_names.specs.Replacements.{ShouldReplace}
use Rattle.hdfs_names.specs.Shown.{shown as policy_of}
use Rattle.hdfs_rebuild.specs.declared.block_plan.BlockPipeline.{BlockPipeline}
use Rattle.hdfs_rebuild.specs.declared.block_plan.RebuildSettings.{RebuildSettings}
use Rattle.hdfs_rebuild.specs.Attempts.{GaveNone, GaveNoneAfter, HasRebuildCause, Standing}
use Rattle.hdfs_rebuild.specs.Between.{HasLastError, KeepsEntry, KeepsLinks, NamenodeFailed}
use Rattle.hdfs_block_writer.specs.OpenPipelines.{AllListedFail, GivesUp, HasCause, IsOver, ListedFails, MayBeDue, NamenodeFails, id_of}
use Rattle.hdfs_rebuild.specs.Plans.{IsDue, without}
use Rattle.hdfs_block_writer.specs.Pushing.{FallsFor}
use Rattle.hdfs_rebuild.specs.Trying.{HaveFailed}
use Rattle.hdfs_cluster.proofs.Times.{fails_until}
use Rattle.hdfs_block_writer.proofs.LettingGo.{gone_only, gone_picture, gone_told, known_of, own_none, stopped_only, until_gone, until_stopped}
use Rattle.hdfs_block_writer.proofs.Missing.{MissedSince}
use Rattle.hdfs_block_writer.proofs.Rebuilt.{FallsOff, before, missed_since, only_behind, safe_then, some_rose, task, then_picture, then_told, then_waits, until}
use Rattle.hdfs_rebuild.proofs.Stepping.{calls_rose_since, keeps_links_refl, keeps_links_trans, tells_since}

-- where nothing is left of some items, the first was left out
first_gone : (b : Bool) (xs ys : List DatanodeInfo) (item : DatanodeInfo) → cond b xs (item ∷ ys) ≡ [] → (b ≡ true) × (xs ≡ [])
first_gone true xs ys item is = (refl, is)
first_gone false xs ys item is = absurd (cc)

-- each place is among those that are left out
none_left : (places : List ℕ) (items : List DatanodeInfo) (at : ℕ) → without at places items ≡ [] → (k : ℕ) → k < length items
    → list_any (λ place. place == at + k) places ≡ true
none_left places [] at none k lt = absurd (omega (arith, lt))
none_left places (item ∷ items) at none zero lt =
    subst (λ (n : ℕ). list_any (λ place. place == n) places ≡ true) (omega arith)
    (first_gone (list_any (λ place. place == at) places) (without (at + 1) places items) (without (at + 1) places items) item none).0
none_left places (item ∷ items) at none (suc k) lt =
    subst (λ (n : ℕ). list_any (λ place. place == n) places ≡ true) (omega arith)
    (none_left places items (at + 1)
    (first_gone (list_any (λ place. place == at) places) (without (at + 1) places items) (without (at + 1) places items) item none).1 k
    (omega (arith, lt)))

-- Where each datanode is at one of the places that have failed, each has failed.
all_have : (P : List ℕ → Type 0) (nodes : List DatanodeInfo) (places : List ℕ) → without 0 places nodes ≡ []
    → All (λ place. P (slice_index_or (uuids nodes) place [])) places → All P (uuids nodes)
all_have P nodes places none each k d lt =
    let within : k < length nodes = omega (arith, lt, length-map nodes (λ node. node.id.datanode_uuid)) in
    let there = Any-from_list_any (λ place. place == k) places
    (subst (λ (n : ℕ). list_any (λ place. place == n) places ≡ true) (omega arith) (none_left places nodes 0 none k within)) in
    let at : slice_index_or places there.0 there.1 ≡ k = there.3 ∙ eqb-true there.1 k there.4 in
    subst P (ap (λ (n : ℕ). slice_index_or (uuids nodes) n []) at ∙ sym (get_or_default (uuids nodes) k d [] lt)) (each there.0 there.1 there.2)

-- Attempts have failed, and one came to no link.
module _ (settings : RebuildSettings) (client : List ℕ) (a : Shown) (pipe : BlockPipeline) (came : List Outgoing) (last : Pipeline)
    (z m : Shown) (failed : List ℕ) (fell : FallsOff a pipe came last z m failed) (bytes unsent : ℕ) (below : bytes < 2 ^ 63) where
  module _ (then : Standing)
      (chain : MissedSince a (task settings client a pipe came last z m failed fell bytes unsent below)
      (before settings client a pipe came last z m failed fell bytes unsent below) then)
      (new : Shown) (more : List Outgoing) where
    module _ (error : HdfsError)
        (none : GaveNone (task settings client a pipe came last z m failed fell bytes unsent below) then error new) where
      links_now : KeepsLinks m new
      links_now = keeps_links_trans m then.shown new chain.links none.links

      node_rose : SomeNodeRose a.counts new
      node_rose = some_rose settings client a pipe came last z m failed fell bytes unsent below new links_now.later

      links_rose : Rose then.shown.counts.links new.counts.links → Rose a.counts.links new.counts.links
      links_rose rose =
          rose_since a.counts.links then.shown.counts.links new.counts.links new.counts.links chain.later.counts.links rose (omega arith)

      namenode_fails : NamenodeFailed then.plan then.shown new → NamenodeFails (IsOver pipe (came ++ more)) a new
      namenode_fails fails p told over =
          calls_rose_since a then.shown new new chain.later (later_refl new)
          (fails (then_picture settings client a pipe came last z m failed fell bytes unsent below then chain more p over.0 over.1 told over.2)
          (known_of then.plan
          (safe_then settings client a pipe came last z m failed fell bytes unsent below then chain more p over.0 over.1 told over.2)
          over.1)
          (then_told settings client a pipe came last z m failed fell bytes unsent below then chain more p over.0 over.1 told over.2)
          (then_waits settings client a pipe came last z m failed fell bytes unsent below then chain more p over.0 over.1 told over.2))

      -- None of the datanodes was left, and nothing was done.
      all_listed : without 0 then.failed then.plan.block.locs ≡ [] → new ≡ then.shown
          → AllListedFail (IsOver pipe (came ++ more)) (id_of pipe) a new
      all_listed gone same p told over =
          let q = then_picture settings client a pipe came last z m failed fell bytes unsent below then chain more p over.0 over.1 told over.2 in
          let w = then_waits settings client a pipe came last z m failed fell bytes unsent below then chain more p over.0 over.1 told over.2 in
          let lists = w.block.lists in (
            q,
            lists.entry,
            ap (λ (s : Shown). s.picture) same
                ∙ then_told settings client a pipe came last z m failed fell bytes unsent below then chain more p over.0 over.1 told over.2,
            subst (λ (i : ℕ). q.table i ≡ Some lists.entry) chain.keeps.id lists.is,
            omega (arith, ap length lists.same_nodes, length-map then.plan.block.locs (λ node. node.id.datanode_uuid), chain.block.some),
            subst (All (λ node. Rose (a.counts.nodes node) (new.counts.nodes node))) (sym lists.same_nodes)
                (all_have (λ node. Rose (a.counts.nodes node) (new.counts.nodes node)) then.plan.block.locs then.failed gone
                (subst (λ (s : Shown). HaveFailed then.plan then.failed a s) (sym same) chain.failed)),
          )

      -- One of the datanodes that have failed is listed, where the block table has the block as before.
      some_listed : KeepsEntry then.plan then.shown new → ListedFails (IsOver pipe (came ++ more)) (id_of pipe) a new
      some_listed keeps p told over =
          let q = then_picture settings client a pipe came last z m failed fell bytes unsent below then chain more p over.0 over.1 told over.2 in
          let w = then_waits settings client a pipe came last z m failed fell bytes unsent below then chain more p over.0 over.1 told over.2 in
          let x = keeps q
          (known_of then.plan
          (safe_then settings client a pipe came last z m failed fell bytes unsent below then chain more p over.0 over.1 told over.2)
          over.1)
          (then_told settings client a pipe came last z m failed fell bytes unsent below then chain more p over.0 over.1 told over.2) w in
          let lists = w.block.lists in
          let nodes = uuids then.plan.block.locs in
          let place = slice_index_or then.failed 0 0 in
          let node = slice_index_or nodes place [] in
          let within : place < length nodes =
          omega (arith, chain.places.within 0 0 chain.places.some, length-map then.plan.block.locs (λ n. n.id.datanode_uuid)) in (
            x.0,
            lists.entry,
            x.1,
            subst (λ (i : ℕ). x.0.table i ≡ Some lists.entry) chain.keeps.id (x.2 ∙ lists.is),
            subst (Any (λ n. Rose (a.counts.nodes n) (new.counts.nodes n))) (sym lists.same_nodes) (
              place,
              node,
              within,
              get_or_default nodes place node [] within,
              rose_since (a.counts.nodes node) (a.counts.nodes node) (then.shown.counts.nodes node) (new.counts.nodes node) (omega arith)
                  (chain.failed 0 0 chain.places.some) (none.links.later.counts.nodes node),
            ),
          )

      same_entry : new ≡ then.shown → KeepsEntry then.plan then.shown new
      same_entry same p known told w = (p, ap (λ (s : Shown). s.picture) same ∙ told, refl)

      -- Datanodes have failed once more than the pipeline could be rebuilt.
      fail_times : then.plan.rebuilds ≡ settings.rebuild_limit → NodesFailTimes (suc (settings.rebuild_limit - pipe.plan.rebuilds)) a new
      fail_times limit =
          subst (λ (n : ℕ). NodesFailTimes (suc n) a new) (omega (arith, limit, chain.rebuilds))
          (fails_until (suc chain.times) a then.shown new chain.fails none.links.later)

      -- where a datanode was due, one may be due of the pipeline that it was first
      due : IsDue then.plan settings (without 0 then.failed then.plan.block.locs) → MayBeDue settings pipe.plan
      due is = (
        length (without 0 then.failed then.plan.block.locs),
        subst
            (λ (n : ℕ). ShouldReplace (policy_of settings.replace).0 n (length (without 0 then.failed then.plan.block.locs))
            (not pipe.plan.created) false)
            chain.keeps.replication
            (subst
            (λ (new : Bool). ShouldReplace (policy_of settings.replace).0 then.plan.replication
            (length (without 0 then.failed then.plan.block.locs)) (not new) false)
            chain.keeps.created is),
      )

      -- the last error is that of before too
      last_error : HasLastError then.shown new → HasLastError a new
      last_error (error, some, tells) = (error, some, tells_since a then.shown new new error chain.later (later_refl new) refl tells)

      cause : (f : HdfsError) → HasRebuildCause (task settings client a pipe came last z m failed fell bytes unsent below) then f new
          → HasCause settings pipe.plan (IsOver pipe (came ++ more)) a f new
      cause errors.NoMemory why = tt
      cause (errors.IOError io_faults.Link) why = (node_rose, links_rose why)
      cause (errors.DataTransferError transfer.Setup) why = (node_rose, links_rose why)
      cause (errors.DataTransferError (transfer.BadAck seqno)) why = links_rose why
      cause (errors.DataTransferError transfer.AllNodes) why = (node_rose, all_listed why.0 why.2)
      cause (errors.DataTransferError transfer.NoReplacement) why = (
        why.1,
        node_rose,
        ⊎_elim (λ links. inl (links_rose links)) (λ namenode. inr (namenode_fails namenode.0, last_error namenode.1)) why.2,
        some_listed why.3,
        due why.0,
      )
      cause (errors.DataTransferError (transfer.RebuildLimit rebuilds)) why = (why.0 ∙ why.1, fail_times why.1, some_listed (same_entry why.2))
      cause error why = (tells_since a then.shown new new error chain.later (later_refl new) refl why.0, node_rose, namenode_fails why.1)

      pub gives_up : GivesUp settings pipe (IsOver pipe (came ++ more)) a error new
      gives_up = record {
        own =
            own_none pipe.link a m new (until settings client a pipe came last z m failed fell bytes unsent below) fell.gone.ended links_now;
        cause = cause error none.cause;
        touches = λ p told over.
            let x = none.touches
            (then_picture settings client a pipe came last z m failed fell bytes unsent below then chain more p over.0 over.1 told over.2)
            (known_of then.plan
            (safe_then settings client a pipe came last z m failed fell bytes unsent below then chain more p over.0 over.1 told over.2)
            over.1)
            (then_told settings client a pipe came last z m failed fell bytes unsent below then chain more p over.0 over.1 told over.2)
            (then_waits settings client a pipe came last z m failed fell bytes unsent below then chain more p over.0 over.1 told over.2) in (
              x.0,
              x.1,
              only_behind settings client a pipe came last z m failed fell bytes unsent below then chain more p over.0 over.1 told over.2 x.0
                  x.2,
            );
      }

  -- The pipeline isn't rebuilt.
  pub given_up_after : (error : HdfsError) (new : Shown)
      → GaveNoneAfter (task settings client a pipe came last z m failed fell bytes unsent below)
      (before settings client a pipe came last z m failed fell bytes unsent below) error new → FallsFor settings a pipe came error new
  given_up_after error new after more =
      gives_up after.last
      (missed_since settings client a pipe came last z m failed fell bytes unsent below after.times after.last after.missed)
      new more error after.gave_none

-- An acknowledgement was none that was due, whatever its seqno is said to be.
pub bad_given_up : (settings : RebuildSettings) (a : Shown) (pipe : BlockPipeline) (came : List Outgoing) (last : Pipeline) (z m : Shown)
    (seqno said : ℤ) → Drove pipe.link came pipe.core a last z → WriteEnded z pipe.link m → pipe.core.end ≡ None → last.end ≡ Some (Bad seqno)
    → 0 < length pipe.plan.block.locs → FallsFor settings a pipe came (errors.DataTransferError (transfer.BadAck said)) m
bad_given_up settings a pipe came last z m seqno said drove gone going is some more = record {
  own = own_none pipe.link a m m (until_gone pipe came last a z m drove gone (inr going)) gone.ended (keeps_links_refl m);
  cause =
      rose_since a.counts.links a.counts.links z.counts.links m.counts.links (omega arith) (drove.cause.bad seqno going is)
      gone.writes.only.later.counts.links;
  touches = λ p told over. (
    gone_picture pipe came last a z m drove gone (inr going) some more p over.0 over.1 told over.2,
    gone_told pipe came last a z m drove gone (inr going) some more p over.0 over.1 told over.2,
    gone_only pipe came last a z m drove gone (inr going) some more p over.0 over.1 told over.2,
  );
}

-- Memory was wanting while a pipeline was driven on to its end.
pub stopped_given_up : (settings : RebuildSettings) (a : Shown) (pipe : BlockPipeline) (came : List Outgoing) (core : Pipeline)
    (z y m : Shown) → Drove pipe.link came pipe.core a core z → StopsShort pipe.link [] core z y → WriteEnded y pipe.link m
    → (came ≡ []) ⊎ (pipe.core.end ≡ None) → FallsFor settings a pipe came errors.NoMemory m
stopped_given_up settings a pipe came core z y m drove stops gone goes more = record {
  own = own_none pipe.link a m m (until_stopped pipe came core a z y m drove stops gone goes) gone.ended (keeps_links_refl m);
  cause = tt;
  touches = λ p told over.
      let x = stopped_only pipe came core a z y m drove stops gone goes more p over.0 over.1 told over.2 in (x.0, x.1, x.2);
}
