-- What calls on links did is so in each view of a cluster: no view hides links, and where the picture is hidden nothing is told of it.
use Rattle.std.proofs.Common.{◌⊎◌, inl, inr, ℕ, cond, List, [], ◌∷◌, ap}
use Rattle.hdfs_wire.specs.Outgoing.{Outgoing}
use Rattle.hdfs_cluster.specs.declared.errors.HdfsError.{HdfsError}
use Rattle.hdfs_cluster.specs.declared.asks.LinkFault.{LinkFault}
use Rattle.hdfs_cluster.specs.declared.messages.DatanodeInfo.{DatanodeInfo}
use Rattle.hdfs_cluster.specs.declared.messages.LocatedBlock.{LocatedBlock}
use Rattle.hdfs_cluster.specs.declared.messages.Setup.{Setup}
use Rattle.hdfs_cluster.specs.declared.messages.Stage.{Stage}
use Rattle.hdfs_cluster.specs.declared.messages.Stage.TheVariants as stages
use Rattle.hdfs_cluster.specs.declared.messages.Transfer.{Transfer}
use Rattle.hdfs_cluster.specs.Pipes.{OnlyWrites, SetupFailedAt, WriteEnded, WriteNotOpened, WriteOpened, WritesLink}
use Rattle.hdfs_cluster.specs.Shown.{SameReads, Shown}
use Rattle.hdfs_cluster.specs.Transferring.{NotTransferred, Transferred}
use Rattle.hdfs_namenode.specs.Views.{View, Whole, OfService, is_among, see}
use Rattle.hdfs_namenode.proofs.Seeing.{later_seen}
use Rattle.hdfs_pipeline.specs.Driving.{Drove, Happened, IsGoing, OnLink, StopsShort}
use Rattle.hdfs_pipeline.specs.Pipelines.{Pipeline}
use Rattle.hdfs_rebuild.specs.declared.block_plan.BlockPlan.{BlockPlan}
use Rattle.hdfs_rebuild.specs.declared.replay.SentAgain.{SentAgain}
use Rattle.hdfs_rebuild.specs.Between.{KeepsLinks}
use Rattle.hdfs_rebuild.specs.Opening.{OpensNone}
use Rattle.hdfs_rebuild.specs.Replacing.{GivesBlock, GivesNoBlock}
use Rattle.hdfs_rebuild.specs.Resuming.{SendsAgain}
use Rattle.hdfs_rebuild.specs.Trying.{FallsFrom}

pub reads_seen : (view : View) {s t : Shown} → SameReads s t → SameReads (see view s) (see view t)
reads_seen Whole {s} {t} h = h
reads_seen (OfService first count) {s} {t} h = record { links = h.links; places = tt }

pub links_seen : (view : View) {s t : Shown} → KeepsLinks s t → KeepsLinks (see view s) (see view t)
links_seen view {s} {t} h = record { later = later_seen view s t h.later; reads = reads_seen view h.reads; writes = h.writes }

pub only_seen : (view : View) {s t : Shown} → OnlyWrites s t → OnlyWrites (see view s) (see view t)
only_seen Whole {s} {t} h = h
only_seen (OfService first count) {s} {t} h = record {
  later = later_seen (OfService first count) s t h.later;
  last = h.last;
  calls = λ i. ap (λ (n : ℕ). cond (is_among first count i) n 0) (h.calls i);
  reads = h.reads;
  places = tt;
}

pub writes_seen : (view : View) {link : ℕ} {s t : Shown} → WritesLink link s t → WritesLink link (see view s) (see view t)
writes_seen Whole {link} {s} {t} h = h
writes_seen (OfService first count) {link} {s} {t} h = record { only = only_seen (OfService first count) h.only; others = h.others; picture = tt }

pub ended_seen : (view : View) {link : ℕ} {s t : Shown} → WriteEnded s link t → WriteEnded (see view s) link (see view t)
ended_seen Whole {link} {s} {t} h = h
ended_seen (OfService first count) {link} {s} {t} h = record { writes = writes_seen (OfService first count) h.writes; ended = h.ended; released = tt }

pub opened_seen : (view : View) {setup : Setup} {link : ℕ} {s t : Shown} → WriteOpened s setup link t → WriteOpened (see view s) setup link (see view t)
opened_seen Whole {setup} {link} {s} {t} h = h
opened_seen (OfService first count) {setup} {link} {s} {t} h = record {
  only = only_seen (OfService first count) h.only;
  fresh = h.fresh;
  others = h.others;
  opened = h.opened;
  starts = tt;
}

-- what has failed at a stage of a set-up
failed_seen : (view : View) (stage : Stage) (nodes : List DatanodeInfo) (s t : Shown) → SetupFailedAt stage nodes s.counts t.counts
    → SetupFailedAt stage nodes (see view s).counts (see view t).counts
failed_seen view stages.Create [] s t h = h
failed_seen view stages.Create (first ∷ rest) s t h = h
failed_seen view stages.Append nodes s t h = h
failed_seen view stages.Recovery nodes s t h = h

pub not_opened_seen : (view : View) {setup : Setup} {fault : LinkFault} {s t : Shown} → WriteNotOpened s setup fault t
    → WriteNotOpened (see view s) setup fault (see view t)
not_opened_seen Whole {setup} {fault} {s} {t} h = h
not_opened_seen (OfService first count) {setup} {fault} {s} {t} h = record {
  only = only_seen (OfService first count) h.only;
  writes = h.writes;
  picture = tt;
  cause = λ some. failed_seen (OfService first count) setup.stage setup.locs s t (h.cause some);
}

pub opens_none_seen : (view : View) {setup : Setup} {fault : HdfsError} {s t : Shown} → OpensNone s setup fault t → OpensNone (see view s) setup fault (see view t)
opens_none_seen view {setup} {fault} {s} {t} (inl memory) = inl (memory.0, ap (see view) memory.1)
opens_none_seen view {setup} {fault} {s} {t} (inr none) = inr (none.0, none.1, not_opened_seen view none.2)

pub on_seen : (view : View) {link : ℕ} {s t : Shown} → OnLink link s t → OnLink link (see view s) (see view t)
on_seen view {link} {s} {t} h = record { only = only_seen view h.only; others = h.others; still_open = h.still_open }

pub drove_seen : (view : View) {link : ℕ} {more : List Outgoing} {core core' : Pipeline} {s t : Shown} → Drove link more core s core' t
    → Drove link more core (see view s) core' (see view t)
drove_seen Whole {link} {more} {core} {core'} {s} {t} h = h
drove_seen (OfService first count) {link} {more} {core} {core'} {s} {t} h = record {
  on = on_seen (OfService first count) h.on;
  drives = h.drives;
  acknowledged = h.acknowledged;
  goes = h.goes;
  cause = record { failed = h.cause.failed; bad = h.cause.bad };
  told = λ p place settled is. absurd (cc is);
}

pub happened_seen : (view : View) {link : ℕ} {core core' : Pipeline} {s t : Shown} → Happened link core s core' t
    → Happened link core (see view s) core' (see view t)
happened_seen Whole {link} {core} {core'} {s} {t} h = h
happened_seen (OfService first count) {link} {core} {core'} {s} {t} h = record { events = h.events; stands = h.stands; came = λ p place is. absurd (cc is) }

pub stops_seen : (view : View) {link : ℕ} {more : List Outgoing} {core : Pipeline} {s t : Shown} → StopsShort link more core s t
    → StopsShort link more core (see view s) (see view t)
stops_seen Whole {link} {more} {core} {s} {t} h = h
stops_seen (OfService first count) {link} {more} {core} {s} {t} h = record { on = on_seen (OfService first count) h.on; told = λ p place settled is. absurd (cc is) }

-- a pipeline goes on just where it does so in a view
pub going_seen : (view : View) {s : Shown} {link : ℕ} {core : Pipeline} → IsGoing s link core → IsGoing (see view s) link core
going_seen view {s} {link} {core} h = record { drives = h.drives; is_core = h.is_core; going = h.going }

pub going_shown : (view : View) {s : Shown} {link : ℕ} {core : Pipeline} → IsGoing (see view s) link core → IsGoing s link core
going_shown view {s} {link} {core} h = record { drives = h.drives; is_core = h.is_core; going = h.going }

pub sends_seen : (view : View) {link : ℕ} {replay : List Outgoing} {core : Pipeline} {s t : Shown} {sent : SentAgain} → SendsAgain link replay core s sent t
    → SendsAgain link replay core (see view s) sent (see view t)
sends_seen view {link} {replay} {core} {s} {t} {sent} h = record {
  pushed = h.pushed;
  drove = drove_seen view h.drove;
  is_core = h.is_core;
  all = h.all;
  goes_on = h.goes_on;
}

pub falls_seen : (view : View) {C : Type 0} {shown : C → Shown} {Ends : C → Type 0} {link : ℕ} {core : Pipeline} {old : C} → FallsFrom shown Ends link core old
    → FallsFrom (λ (c : C). see view (shown c)) Ends link core old
falls_seen view {C} {shown} {Ends} {link} {core} {old} h = (h.0, h.1, by h.2)
  where
    by : ((last : Pipeline) × Drove link [] core (shown old) last (shown h.0)) ⊎ StopsShort link [] core (shown old) (shown h.0)
        → ((last : Pipeline) × Drove link [] core (see view (shown old)) last (see view (shown h.0))) ⊎ StopsShort link [] core (see view (shown old)) (see view (shown h.0))
    by (inl drove) = inl (drove.0, drove_seen view drove.1)
    by (inr stops) = inr (stops_seen view stops)

transferred_seen : (view : View) {transfer : Transfer} {s t : Shown} → Transferred s transfer t → Transferred (see view s) transfer (see view t)
transferred_seen Whole {transfer} {s} {t} h = h
transferred_seen (OfService first count) {transfer} {s} {t} h = record { only = only_seen (OfService first count) h.only; writes = h.writes; gives = tt }

not_transferred_seen : (view : View) {transfer : Transfer} {fault : LinkFault} {s t : Shown} → NotTransferred s transfer fault t
    → NotTransferred (see view s) transfer fault (see view t)
not_transferred_seen Whole {transfer} {fault} {s} {t} h = h
not_transferred_seen (OfService first count) {transfer} {fault} {s} {t} h = record {
  only = only_seen (OfService first count) h.only;
  writes = h.writes;
  gives = tt;
  cause = h.cause;
}

pub gives_seen : (view : View) {plan : BlockPlan} {located : LocatedBlock} {client : List ℕ} {s t : Shown} → GivesBlock plan located client s t
    → GivesBlock plan located client (see view s) (see view t)
gives_seen view {plan} {located} {client} {s} {t} h = (h.0, h.1, transferred_seen view h.2)

pub gives_none_seen : (view : View) {plan : BlockPlan} {located : LocatedBlock} {client : List ℕ} {fault : HdfsError} {s t : Shown}
    → GivesNoBlock plan located client s fault t → GivesNoBlock plan located client (see view s) fault (see view t)
gives_none_seen view {plan} {located} {client} {fault} {s} {t} (inl memory) = inl (memory.0, ap (see view) memory.1)
gives_none_seen view {plan} {located} {client} {fault} {s} {t} (inr none) = inr (none.0, none.1, none.2, none.3, not_transferred_seen view none.4)
