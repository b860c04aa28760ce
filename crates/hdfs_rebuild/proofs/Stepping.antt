-- How steps between two pipelines follow one another.
use Rattle.std.proofs.Common.{◌≡◌, inl, inr, ⊎_elim, ℕ, ◌==◌, List, Some, refl, sym, ◌∙◌, subst, arith}
use Rattle.std.proofs.lemmas.Bool.{cond-false, ne_eqb}
use Rattle.std.specs.List.{Contains}
use Rattle.hdfs_cluster.specs.declared.errors.HdfsError.{HdfsError}
use Rattle.hdfs_cluster.specs.declared.messages.Block.{Block}
use Rattle.hdfs_cluster.specs.declared.messages.DatanodeId.{DatanodeId}
use Rattle.hdfs_cluster.specs.declared.picture.BlockEntry.{BlockEntry}
use Rattle.hdfs_cluster.specs.Failures.{CallsRose, ANamenode}
use Rattle.hdfs_cluster.specs.Effects.{IsBeingWritten, NamesPipeline, names_of}
use Rattle.hdfs_cluster.specs.Picture.{Picture, SameButActive}
use Rattle.hdfs_cluster.specs.Shown.{Shown, Later}
use Rattle.hdfs_cluster.specs.Writing.{OnlyBlock}
use Rattle.hdfs_cluster.proofs.Failures.{failed_on, failed_since, means_on, means_since}
use Rattle.hdfs_cluster.proofs.Frames.{rose_since, later_refl, later_trans, same_reads_refl, same_reads_trans}
use Rattle.hdfs_cluster.specs.Sending.{uuids}
use Rattle.hdfs_block_reader.proofs.Rebuilding.{waits_stays}
use Rattle.hdfs_namenode.specs.Relaying.{TellsAsk}
use Rattle.hdfs_rebuild.specs.declared.block_plan.BlockPlan.{BlockPlan}
use Rattle.hdfs_rebuild.specs.Between.{KeepsLinks, OnlyBlockOf, Touches, WaitsOn, NamenodeFailed, HelpFailed}
use Rattle.hdfs_rebuild.specs.Plans.{Known, Waits}

pub keeps_links_refl : (a : Shown) → KeepsLinks a a
keeps_links_refl a = record { later = later_refl a; reads = same_reads_refl a; writes = λ link. refl }

pub keeps_links_trans : (a b c : Shown) → KeepsLinks a b → KeepsLinks b c → KeepsLinks a c
keeps_links_trans a b c f g = record {
  later = later_trans a b c f.later g.later;
  reads = same_reads_trans a b c f.reads g.reads;
  writes = λ link. g.writes link ∙ f.writes link;
}

pub only_block_of_refl : (id : ℕ) (p : Picture) → OnlyBlockOf id p p
only_block_of_refl id p = record {
  names = λ path. refl;
  table = λ other apart. refl;
  defaults = refl;
  held = λ node other apart. refl;
  reads = λ link. refl;
  writes = λ link place at apart. at;
}

pub only_block_of_trans : (id : ℕ) (p q r : Picture) → OnlyBlockOf id p q → OnlyBlockOf id q r → OnlyBlockOf id p r
only_block_of_trans id p q r f g = record {
  names = λ path. g.names path ∙ f.names path;
  table = λ other apart. g.table other apart ∙ f.table other apart;
  defaults = g.defaults ∙ f.defaults;
  held = λ node other apart. g.held node other apart ∙ f.held node other apart;
  reads = λ link. g.reads link ∙ f.reads link;
  writes = λ link place at apart. g.writes link place (f.writes link place at apart) apart;
}

pub only_block_of-same : (id : ℕ) (p q : Picture) → SameButActive p q → OnlyBlockOf id p q
only_block_of-same id p q same = record {
  names = same.files.names;
  table = λ other apart. same.files.table other;
  defaults = same.files.defaults;
  held = λ node other apart. same.files.held node other;
  reads = same.reads;
  writes = λ link place at apart. same.writes link ∙ at;
}

pub only_block_of-only : (id : ℕ) (nodes : List (List ℕ)) (p q : Picture) → OnlyBlock id nodes p q → OnlyBlockOf id p q
only_block_of-only id nodes p q only = record {
  names = only.records.names;
  table = λ other apart. only.records.table other;
  defaults = only.records.defaults;
  held = λ node other apart. only.held node other (λ same there. apart (sym same));
  reads = only.records.reads;
  writes = only.writes;
}

pub only_block_of-named : (id : ℕ) (block block' : Block) (nodes : List DatanodeId) (p q : Picture) → block.block_id ≡ id
    → NamesPipeline block block' nodes p q → OnlyBlockOf id p q
only_block_of-named id block block' nodes p q same named = record {
  names = named.changes.names;
  table = λ other apart.
      (let entry : BlockEntry = record { length = named.entry.length; stamp = block'.generation_stamp; nodes = names_of nodes } in
      named.changes.table other
      ∙ cond-false (block.block_id == other) (Some entry) (p.table other)
      (ne_eqb block.block_id other (λ is. apart (sym is ∙ same))));
  defaults = named.changes.bytes.defaults;
  held = λ node other apart. named.changes.bytes.held node other;
  reads = named.changes.bytes.reads;
  writes = λ link place at apart. named.changes.bytes.writes link ∙ at;
}

-- A namenode that has failed between two moments has failed from an earlier one to a later one.
pub calls_rose_since : (a b c d : Shown) → Later a b → Later c d → CallsRose b.counts c → CallsRose a.counts d
calls_rose_since a b c d first then rose = failed_on a c d ANamenode then (failed_since a b c ANamenode first.counts rose)

-- An error tells as much of more calls, where the last ask is the same.
pub tells_since : (a b c d : Shown) (error : HdfsError) → Later a b → Later c d → d.last ≡ c.last → TellsAsk b c error → TellsAsk a d error
tells_since a b c d error first then same tells = (tells.0, means_on a c d error then same (means_since a b c error first.counts tells.1))

-- The block is written still where names stay.
pub written_still : (p q : Picture) (path : List ℕ) (block block' : Block) → ((at : List ℕ) → q.names at ≡ p.names at)
    → block'.block_id ≡ block.block_id → IsBeingWritten p path block → IsBeingWritten q path block'
written_still p q path block block' names same is = record {
  file = is.file;
  named = names path ∙ is.named;
  is_open = is.is_open;
  has = subst (Contains is.file.blocks) (sym same) is.has;
}

-- Nothing changed of a picture but which namenode is active: a block waits still.
pub waits_same : (p q : Picture) (plan : BlockPlan) (known : Known) → SameButActive p q → Waits p plan known → Waits q plan known
waits_same p q plan known same w = record {
  file = written_still p q plan.src plan.block.b plan.block.b same.files.names refl w.file;
  block =
      waits_stays p q plan.block.b.block_id known.listed (uuids plan.block.locs) known.safe known.bytes w.block
      (same.files.table plan.block.b.block_id) (λ node. same.files.held node plan.block.b.block_id);
}

pub waits_on_refl : (plan : BlockPlan) (a : Shown) → WaitsOn plan a plan a
waits_on_refl plan a p known is w = (p, is, w, refl, only_block_of_refl plan.block.b.block_id p)

-- One step comes behind another.
module _ (plan plan' : BlockPlan) (a b c : Shown) (same : plan'.block.b.block_id ≡ plan.block.b.block_id) (first : Later a b)
    (f : WaitsOn plan a plan' b) where
  pub waits_on_trans : (plan'' : BlockPlan) → WaitsOn plan' b plan'' c → WaitsOn plan a plan'' c
  waits_on_trans plan'' g p known is w =
      let x = f p known is w in
      let y = g x.0 known x.1 x.2 in (
        y.0,
        y.1,
        y.2,
        subst (λ (id : ℕ). y.0.table id ≡ x.0.table id) same y.3 ∙ x.3,
        only_block_of_trans plan.block.b.block_id p x.0 y.0 x.4 (subst (λ (id : ℕ). OnlyBlockOf id x.0 y.0) same y.4),
      )

  pub touches_behind : Touches plan' b c → Touches plan a c
  touches_behind g p known is w =
      let x = f p known is w in
      let y = g x.0 known x.1 x.2 in (
        y.0,
        y.1,
        only_block_of_trans plan.block.b.block_id p x.0 y.0 x.4 (subst (λ (id : ℕ). OnlyBlockOf id x.0 y.0) same y.2),
      )

  -- A namenode has failed behind the first step.
  pub failed_behind : NamenodeFailed plan' b c → NamenodeFailed plan a c
  failed_behind g p known is w = let x = f p known is w in calls_rose_since a b c c first (later_refl c) (g x.0 known x.1 x.2)

pub touches_by : (plan plan' : BlockPlan) (a b : Shown) → WaitsOn plan a plan' b → Touches plan a b
touches_by plan plan' a b f p known is w = let x = f p known is w in (x.0, x.1, x.4)

-- What has failed before a step has failed behind it.
pub failed_before : (plan : BlockPlan) (a b c : Shown) → Later b c → NamenodeFailed plan a b → NamenodeFailed plan a c
failed_before plan a b c later f p known is w = calls_rose_since a a b c (later_refl a) later (f p known is w)

pub help_failed_before : (plan : BlockPlan) (a b c : Shown) → Later b c → HelpFailed plan a b → HelpFailed plan a c
help_failed_before plan a b c later f = ⊎_elim
    (λ links. inl (rose_since a.counts.links a.counts.links b.counts.links c.counts.links (omega arith) links later.counts.links))
    (λ namenode. inr (failed_before plan a b c later namenode))
    f
