-- Calls that change one write link, and what is left once it is ended.
use Rattle.std.proofs.Common.{◌≡◌, ◌≢◌, inl, inr, ℕ, ◌==◌, List, [], ◌++◌, Some, None, sym, ◌∙◌, ap}
use Rattle.std.proofs.lemmas.Bool.{cases_Bool, eqb-true, eqb-false}
use Rattle.hdfs_wire.specs.Outgoing.{Outgoing}
use Rattle.hdfs_cluster.specs.Picture.{Picture}
use Rattle.hdfs_cluster.specs.Pipes.{OnlyWrites, WriteEnded, WriteOpened}
use Rattle.hdfs_cluster.specs.declared.messages.Setup.{Setup}
use Rattle.hdfs_cluster.specs.Sending.{WritePlace}
use Rattle.hdfs_cluster.specs.Shown.{Shown, Later, SameReads}
use Rattle.hdfs_cluster.specs.Writing.{GoesFurther}
use Rattle.hdfs_cluster.proofs.Frames.{later_trans, same_reads_trans}
use Rattle.hdfs_pipeline.specs.Driving.{Drove, OnLink, Settles, StopsShort}
use Rattle.hdfs_pipeline.specs.Pipelines.{Pipeline}
use Rattle.hdfs_rebuild.specs.Between.{KeepsLinks}
use Rattle.hdfs_rebuild.specs.Trying.{FallsFrom}
use Rattle.hdfs_rebuild.proofs.Replaying.{nothing_cut}

-- no count fell, and no link was changed but this write link
pub record LinkOnly (link : ℕ) (old new : Shown) : Type 0 where
  pub later : Later old new
  pub reads : SameReads old new
  pub others : (other : ℕ) → other ≢ link → new.writes other ≡ old.writes other

pub link_only_trans : (link : ℕ) (a b c : Shown) → LinkOnly link a b → LinkOnly link b c → LinkOnly link a c
link_only_trans link a b c f g = record {
  later = later_trans a b c f.later g.later;
  reads = same_reads_trans a b c f.reads g.reads;
  others = λ other apart. g.others other apart ∙ f.others other apart;
}

link_only_of-only : (link : ℕ) (a b : Shown) → OnlyWrites a b → ((other : ℕ) → other ≢ link → b.writes other ≡ a.writes other) → LinkOnly link a b
link_only_of-only link a b only others = record {
  later = only.later;
  reads = record { links = only.reads; places = only.places };
  others = others;
}

pub link_only_of-opened : (link : ℕ) (setup : Setup) (a b : Shown) → WriteOpened a setup link b → LinkOnly link a b
link_only_of-opened link setup a b opened = link_only_of-only link a b opened.only opened.others

pub link_only_of-on : (link : ℕ) (a b : Shown) → OnLink link a b → LinkOnly link a b
link_only_of-on link a b on = link_only_of-only link a b on.only on.others

pub link_only_of-ended : (link : ℕ) (a b : Shown) → WriteEnded a link b → LinkOnly link a b
link_only_of-ended link a b ended = link_only_of-only link a b ended.writes.only ended.writes.others

pub link_only_of-keeps : (link : ℕ) (a b : Shown) → KeepsLinks a b → LinkOnly link a b
link_only_of-keeps link a b keeps = record { later = keeps.later; reads = keeps.reads; others = λ other apart. keeps.writes other }

-- Where the link was used for nothing, and is ended, no link was changed.
pub keeps_links_by : (link : ℕ) (a b : Shown) → LinkOnly link a b → a.writes link ≡ None → b.writes link ≡ None → KeepsLinks a b
keeps_links_by link a b only unused ended = record {
  later = only.later;
  reads = only.reads;
  writes = λ other. elim (cases_Bool (other == link)) [
    | inl same ↦
        let is : other ≡ link = eqb-true other link same in
        ap b.writes is ∙ ended ∙ sym (ap a.writes is ∙ unused)
    | inr apart ↦ only.others other (eqb-false other link apart)
  ];
}

-- Nothing was sent on a link, which goes further by responses alone.
pub record Drifts (link : ℕ) (core : Pipeline) (old new : Shown) : Type 0 where
  pub on : OnLink link old new
  pub told : (p : Picture) (place : WritePlace) (settled : ℕ) → old.picture ≡ Some p → p.writes link ≡ Some place → Settles place core settled
      → (q : Picture) × (place' : WritePlace) × (new.picture ≡ Some q) × (q.writes link ≡ Some place') × GoesFurther p place q place'
      × (place'.sent ≡ place.sent ++ [])

drifts_by : (link : ℕ) (core last : Pipeline) (a b : Shown) → Drove link [] core a last b → Drifts link core a b
drifts_by link core last a b drove = record {
  on = drove.on;
  told = λ p place settled is at s.
      let x = drove.told p place settled is at s in
      (x.0, x.1, x.2, x.3, x.4, x.5.behind ∙ ap (λ (xs : List Outgoing). place.sent ++ xs) (nothing_cut x.5.sent x.5.rest x.5.cut));
}

drifts_short : (link : ℕ) (core : Pipeline) (a b : Shown) → StopsShort link [] core a b → Drifts link core a b
drifts_short link core a b stops = record {
  on = stops.on;
  told = λ p place settled is at s.
      let x = stops.told p place settled is at s in
      (x.0, x.1, x.2, x.3, x.4, x.5.behind ∙ ap (λ (xs : List Outgoing). place.sent ++ xs) (nothing_cut x.5.sent x.5.rest x.5.cut));
}

-- A pipeline was driven to its end, or memory was wanting for that, and its link was ended.
pub falls : {C : Type 0} (shown : C → Shown) (ends : C → ℕ → C → Type 0)
    → ((old new : C) (link : ℕ) → ends old link new → WriteEnded (shown old) link (shown new)) → (link : ℕ) (core : Pipeline) (old new : C)
    → FallsFrom shown (λ before. ends before link new) link core old → (before : Shown) × Drifts link core (shown old) before × WriteEnded before link (shown new)
falls shown ends row link core old new (before, ended, inl (last, drove)) =
    (shown before, drifts_by link core last (shown old) (shown before) drove, row before new link ended)
falls shown ends row link core old new (before, ended, inr stops) =
    (shown before, drifts_short link core (shown old) (shown before) stops, row before new link ended)
