-- A pipeline was driven on, and its link is ended: the block waits for another pipeline.
use Rattle.std.proofs.Common.{◌≡◌, ◌≢◌, ◌⊎◌, inl, inr, ⊎_elim, ℕ, ◌+◌, ◌<◌, ◌==◌, List, [], ◌++◌, length, take, Option, Some, None, IsSome, refl, sym, ◌∙◌, ap, subst, arith}
use Rattle.std.proofs.lemmas.Bool.{cases_Bool, eqb-true, eqb-false}
use Rattle.std.proofs.lemmas.List.{get_or_default, length-map}
use Rattle.std.specs.List.{slice_index_or}
use Rattle.hdfs_wire.specs.Outgoing.{Outgoing}
use Rattle.hdfs_cluster.specs.Picture.{Picture}
use Rattle.hdfs_cluster.specs.Pipes.{WriteEnded}
use Rattle.hdfs_cluster.specs.Sending.{uuids}
use Rattle.hdfs_cluster.specs.Shown.{Shown}
use Rattle.hdfs_cluster.specs.Writing.{Releases}
use Rattle.hdfs_cluster.proofs.Frames.{later_trans, same_reads_trans, told_after}
use Rattle.hdfs_pipeline.specs.Driving.{Drove, StopsShort}
use Rattle.hdfs_pipeline.specs.Pipelines.{Pipeline}
use Rattle.hdfs_block_reader.specs.Carrying.{AreSlices, total}
use Rattle.hdfs_block_reader.specs.Rebuilding.{BlockHolds}
use Rattle.hdfs_block_reader.proofs.Rebuilding.{block_waits}
use Rattle.hdfs_rebuild.specs.declared.block_plan.BlockPipeline.{BlockPipeline}
use Rattle.hdfs_rebuild.specs.declared.block_plan.BlockPlan.{BlockPlan}
use Rattle.hdfs_rebuild.specs.Between.{KeepsLinks, OnlyBlockOf}
use Rattle.hdfs_block_writer.specs.OpenPipelines.{Has, OnlyOwnLink, id_of, nodes_of}
use Rattle.hdfs_rebuild.specs.Plans.{Known, Waits}
use Rattle.hdfs_block_writer.proofs.Driven.{has_drove}
use Rattle.hdfs_rebuild.proofs.Ending.{LinkOnly, link_only_of-ended, link_only_of-on, link_only_trans}
use Rattle.hdfs_rebuild.proofs.Resuming.{released_only, some_is}
use Rattle.hdfs_rebuild.proofs.Stepping.{only_block_of-only, only_block_of_trans, written_still}

-- the plan, whose block has so many bytes
abbrev pub long_plan : BlockPlan → ℕ → BlockPlan
long_plan plan length = record plan { block = record plan.block { b = record plan.block.b { num_bytes = length } } }

-- what is known of a block whose last pipeline is listed
abbrev pub known_of : BlockPlan → ℕ → List ℕ → Known
known_of plan safe bytes = record { listed = uuids plan.block.locs; safe = safe; bytes = bytes }

-- A link is another one, or is the same.
pub same_or_apart : (x y : ℕ) → (x ≡ y) ⊎ (x ≢ y)
same_or_apart x y = elim (cases_Bool (x == y)) [
  | inl same ↦ inl (eqb-true x y same)
  | inr apart ↦ inr (eqb-false x y apart)
]

none_is : {X : Type 0} (o : Option X) → o ≡ None → IsSome o → ⊥
none_is None is some = cc some
none_is (Some x) is some = cc is

-- One link was changed and is ended, and no other was changed then.
module _ (link : ℕ) (a m n : Shown) (until : LinkOnly link a m) (ended : m.writes link ≡ None) (links : KeepsLinks m n) where
  apart_stays : (other : ℕ) → other ≢ link → n.writes other ≡ a.writes other
  apart_stays other apart = links.writes other ∙ until.others other apart

  pub own_none : OnlyOwnLink a (Some link) n None
  own_none = record {
    later = later_trans a m n until.later links.later;
    reads = same_reads_trans a m n until.reads links.reads;
    others = λ other some not. apart_stays other (λ same. not (ap Some (sym same)));
    none = λ other unused not. ⊎_elim
        (λ same. ap n.writes same ∙ links.writes link ∙ ended)
        (λ apart. ⊎_elim
        (λ none. apart_stays other apart ∙ none)
        (λ own. absurd (apart (sym (some_is link other own))))
        unused)
        (same_or_apart other link);
    fresh = λ other is. absurd (cc is);
  }

  -- Another was opened.
  module _ (link' : ℕ) (z : Shown) (opened : LinkOnly link' n z) (fresh : n.writes link' ≡ None) where
    was_unused : link' ≢ link → a.writes link' ≡ None
    was_unused apart = sym (apart_stays link' apart) ∙ fresh

    pub own_fresh : OnlyOwnLink a (Some link) z (Some link')
    own_fresh = record {
      later = later_trans a m z until.later (later_trans m n z links.later opened.later);
      reads = same_reads_trans a m z until.reads (same_reads_trans m n z links.reads opened.reads);
      others = λ other some not.
          let apart : other ≢ link = λ same. not (ap Some (sym same)) in
          opened.others other
          (λ same. none_is (a.writes other) (ap a.writes same ∙ was_unused (λ is. apart (same ∙ is))) some)
          ∙ apart_stays other apart;
      none = λ other unused not.
          let apart : other ≢ link' = λ same. not (ap Some (sym same)) in
          opened.others other apart ∙ ⊎_elim
          (λ same. ap n.writes same ∙ links.writes link ∙ ended)
          (λ far. ⊎_elim
          (λ none. apart_stays other far ∙ none)
          (λ own. absurd (far (sym (some_is link other own))))
          unused)
          (same_or_apart other link);
      fresh = λ other is.
          let same : link' ≡ other = some_is link' other is in
          ⊎_elim (λ own. inl (ap Some (sym own ∙ same))) (λ apart. inr (ap a.writes (sym same) ∙ was_unused apart)) (same_or_apart link' link);
    }

-- A pipeline was driven on, and its link was ended.
module _ (pipe : BlockPipeline) (came : List Outgoing) (last : Pipeline) (a z m : Shown) (drove : Drove pipe.link came pipe.core a last z)
    (gone : WriteEnded z pipe.link m) (goes : (came ≡ []) ⊎ (pipe.core.end ≡ None)) where
  pub until_gone : LinkOnly pipe.link a m
  until_gone = link_only_trans pipe.link a z m (link_only_of-on pipe.link a z drove.on) (link_only_of-ended pipe.link z m gone)

  abbrev pub now_safe : ℕ → ℕ
  now_safe safe = safe + total (take drove.acknowledged pipe.core.pushed)

  module _ (some : 0 < length pipe.plan.block.locs) (more : List Outgoing) (p : Picture) (safe : ℕ) (bytes : List ℕ) (told : a.picture ≡ Some p)
      (has : Has p pipe (came ++ more) safe bytes) where
    abbrev driven : (q : Picture) × (z.picture ≡ Some q) × Has q (record pipe { core = last }) more (now_safe safe) bytes
        × OnlyBlockOf (id_of pipe) p q × (q.table (id_of pipe) ≡ p.table (id_of pipe))
    driven = has_drove pipe came more a z last drove goes p safe bytes told has

    abbrev released : (r : Picture) × (m.picture ≡ Some r) × Releases pipe.link driven.0 r
    released = told_after (Releases pipe.link) z.picture m.picture driven.0 gone.released driven.1

    abbrev pub gone_picture : Picture
    gone_picture = released.0

    pub gone_told : m.picture ≡ Some gone_picture
    gone_told = released.1

    pub gone_only : OnlyBlockOf (id_of pipe) p gone_picture
    gone_only =
        only_block_of_trans (id_of pipe) p driven.0 released.0 driven.3
        (released_only (id_of pipe) pipe.link driven.0 released.0 driven.2.on.place driven.2.on.told driven.2.on.block released.2)

    pub gone_table : gone_picture.table (id_of pipe) ≡ p.table (id_of pipe)
    gone_table = released.2.0.records.table (id_of pipe) ∙ driven.4

    pub gone_slices : AreSlices bytes (now_safe safe) (last.pushed ++ more)
    gone_slices = driven.2.slices

    holds : BlockHolds driven.0 (id_of pipe) pipe.link (nodes_of pipe) (nodes_of pipe) (now_safe safe) bytes
    holds = record {
      on = driven.2.on;
      some = omega (arith, some, length-map pipe.plan.block.locs (λ node. node.id.datanode_uuid));
      lists = driven.2.lists;
    }

    -- The block waits, however long its plan says that it is.
    pub gone_waits : (length : ℕ) → Waits gone_picture (long_plan pipe.plan length) (known_of pipe.plan (now_safe safe) bytes)
    gone_waits length = record {
      file =
          written_still p released.0 pipe.plan.src pipe.plan.block.b (long_plan pipe.plan length).block.b gone_only.names refl has.file;
      block =
          block_waits driven.0 released.0 (id_of pipe) pipe.link (nodes_of pipe) (nodes_of pipe) (now_safe safe) bytes holds released.2
          (nodes_of pipe) (λ k node lt. (k, lt, get_or_default (nodes_of pipe) k (slice_index_or (nodes_of pipe) k node) node lt));
    }

-- Memory was wanting for that, and its link was ended: nothing changed but the block.
module _ (pipe : BlockPipeline) (came : List Outgoing) (core : Pipeline) (a z y m : Shown) (drove : Drove pipe.link came pipe.core a core z)
    (stops : StopsShort pipe.link [] core z y) (gone : WriteEnded y pipe.link m) (goes : (came ≡ []) ⊎ (pipe.core.end ≡ None)) where
  pub until_stopped : LinkOnly pipe.link a m
  until_stopped =
      link_only_trans pipe.link a z m (link_only_of-on pipe.link a z drove.on)
      (link_only_trans pipe.link z y m (link_only_of-on pipe.link z y stops.on) (link_only_of-ended pipe.link y m gone))

  pub stopped_only : (more : List Outgoing) (p : Picture) (safe : ℕ) (bytes : List ℕ) → a.picture ≡ Some p
      → Has p pipe (came ++ more) safe bytes
      → (q : Picture) × (m.picture ≡ Some q) × OnlyBlockOf (id_of pipe) p q
  stopped_only more p safe bytes told has =
      let d = has_drove pipe came more a z core drove goes p safe bytes told has in
      let s = stops.told d.0 d.2.on.place d.2.on.settled d.1 d.2.on.told d.2.settles in
      let e = told_after (Releases pipe.link) y.picture m.picture s.0 gone.released s.2 in (
        e.0,
        e.1,
        only_block_of_trans (id_of pipe) p d.0 e.0 d.3
            (only_block_of_trans (id_of pipe) d.0 s.0 e.0
            (subst (λ (i : ℕ). OnlyBlockOf i d.0 s.0) d.2.on.block
            (only_block_of-only d.2.on.place.block d.2.on.place.nodes d.0 s.0 s.4.only))
            (released_only (id_of pipe) pipe.link s.0 e.0 s.1 s.3 (s.4.moves.block ∙ d.2.on.block) e.2)),
      )
