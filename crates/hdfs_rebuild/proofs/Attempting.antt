-- What comes of a pipeline that is set up to go on with a block.
use Rattle.std.proofs.Common.{◌≡◌, ◌≢◌, inl, inr, ⊎_elim, ℕ, ℤ, ◌≤◌, List, [], ◌++◌, length, Some, None, refl, sym, ◌∙◌, ap, subst, arith}
use Rattle.std.specs.List.{slice_index_or}
use Rattle.std.proofs.lemmas.List.{append-nil, get_or_default}
use Rattle.hdfs_wire.specs.Outgoing.{Outgoing}
use Rattle.hdfs_cluster.specs.declared.errors.HdfsError.TheVariants as errors
use Rattle.hdfs_cluster.specs.declared.asks.LinkFault.{LinkFault}
use Rattle.hdfs_cluster.specs.declared.asks.LinkFault.TheVariants as link_faults
use Rattle.hdfs_cluster.specs.declared.errors.HdfsError.{HdfsError}
use Rattle.hdfs_cluster.specs.declared.messages.Setup.{Setup}
use Rattle.hdfs_cluster.specs.declared.messages.Stage.{Stage}
use Rattle.hdfs_cluster.specs.declared.messages.Stage.TheVariants as stages
use Rattle.hdfs_cluster.specs.declared.picture.BlockEntry.{BlockEntry}
use Rattle.hdfs_cluster.specs.declared.picture.OpenWrite.{OpenWrite}
use Rattle.hdfs_cluster.specs.Failures.{CallsRose}
use Rattle.hdfs_cluster.specs.Counts.{Rose}
use Rattle.hdfs_cluster.specs.Namenode.{IsToWrite}
use Rattle.hdfs_cluster.specs.Picture.{Picture, SamePicture}
use Rattle.hdfs_cluster.specs.Pipes.{SetupFailed, SetupFailedAt, WriteEnded, WriteOpened}
use Rattle.hdfs_cluster.specs.Sending.{WritePlace, uuids}
use Rattle.hdfs_cluster.specs.Shown.{Shown, Later}
use Rattle.hdfs_cluster.specs.Writing.{Releases}
use Rattle.hdfs_cluster.proofs.Frames.{later_trans, rose_since, told_after}
use Rattle.hdfs_pipeline.specs.Cores.{IsCore}
use Rattle.hdfs_pipeline.specs.Driving.{Settles, StopsShort}
use Rattle.hdfs_pipeline.specs.Places.{ArePlaces}
use Rattle.hdfs_pipeline.specs.Pipelines.{Bad, Failed, Pipeline, empty_pipeline}
use Rattle.hdfs_block_reader.specs.Carrying.{AreSlices, LinkCarries, LinkGoesOn}
use Rattle.hdfs_block_reader.specs.Rebuilding.{BlockHolds, IsListed}
use Rattle.hdfs_block_reader.proofs.Rebuilding.{block_further, block_waits}
use Rattle.hdfs_rebuild.specs.declared.attempts.Collected.{Collected}
use Rattle.hdfs_rebuild.specs.declared.block_plan.BlockPlan.{BlockPlan}
use Rattle.hdfs_rebuild.specs.declared.opening.Opening.{Opening}
use Rattle.hdfs_rebuild.specs.declared.replay.SentAgain.{SentAgain}
use Rattle.hdfs_rebuild.specs.Between.{KeepsLinks, NamenodeFailed, OnlyBlockOf, Touches}
use Rattle.hdfs_rebuild.specs.Opening.{OpensNone, fault_of, setup_for}
use Rattle.hdfs_rebuild.specs.Plans.{HasStamp, Known, Waits}
use Rattle.hdfs_rebuild.specs.Resuming.{NamesIt, NamesNot, NamesSo, SendsAgain}
use Rattle.hdfs_rebuild.specs.Trying.{Collects, CollectsNot, FallsAgain, HaveFailed, ResumeCause, ResumedNot, StandsAgain, course_of}
use Rattle.hdfs_rebuild.proofs.Ending.{Drifts, LinkOnly, keeps_links_by, link_only_trans, link_only_of-ended, link_only_of-keeps, link_only_of-on, link_only_of-opened}
use Rattle.hdfs_rebuild.proofs.Resuming.{opened_goes, opened_empty, opened_window, opened_nodes, opened_picture, opened_told, opened_carries, opened_lists, opened_only, opened_settles, sent_picture, sent_told, sent_only, sent_place, sent_at, sent_block, sent_settled, sent_entry, sent_holds, sent_carries, named_holds, named_carries, named_only, named_stamp, may_be_named_only, may_be_named_writes, released_only, some_is}
use Rattle.hdfs_rebuild.proofs.Stepping.{calls_rose_since, keeps_links_refl, only_block_of_refl, only_block_of-only, only_block_of-same, only_block_of_trans, tells_since, written_still}

-- A link was set up, packets were sent again on it, and the namenode was asked something.
module _ (plan : BlockPlan) (opening : Opening) (client : List ℕ) (replay : List Outgoing) (link : ℕ) (core : Pipeline)
    (a b m n : Shown) (sent : SentAgain) (to_write : IsToWrite plan.block)
    (windows : (1 ≤ opening.window) × (opening.window ≤ 1000)) (empty : core ≡ empty_pipeline opening.window (length plan.block.locs))
    (opened : WriteOpened a (setup_for plan opening client) link b) (sends : SendsAgain link replay core b sent m) (links : KeepsLinks m n) where
  abbrev id : ℕ
  id = plan.block.b.block_id

  abbrev nodes : List (List ℕ)
  nodes = uuids plan.block.locs

  abbrev new_write : OpenWrite
  new_write = record { setup = setup_for plan opening client; end = None; waiting = [] }

  until_sent : LinkOnly link a m
  until_sent =
      link_only_trans link a b m (link_only_of-opened link (setup_for plan opening client) a b opened) (link_only_of-on link b m sends.drove.on)

  pub until_asked : LinkOnly link a n
  until_asked = link_only_trans link a m n until_sent (link_only_of-keeps link m n links)

  pub bad_rose : (seqno : ℤ) → sent.core.end ≡ Some (Bad seqno) → Rose a.counts.links n.counts.links
  bad_rose seqno bad =
      rose_since a.counts.links b.counts.links m.counts.links n.counts.links opened.only.later.counts.links
      (sends.drove.cause.bad seqno
      (opened_goes plan opening client link core a b to_write windows empty opened).going bad)
      links.later.counts.links

  pub have_failed : (places : List ℕ) → sent.core.end ≡ Some (Failed places) → HaveFailed plan places a n
  have_failed places failed k d lt =
      let node = slice_index_or nodes (slice_index_or places k d) [] in
      let rose : Rose (b.counts.nodes node) (m.counts.nodes node) =
      subst
      (λ (ns : List (List ℕ)). let at = slice_index_or ns (slice_index_or places k d) [] in Rose (b.counts.nodes at) (m.counts.nodes at))
      (opened_nodes plan opening client link core a b to_write windows empty opened new_write opened.opened)
      (sends.drove.cause.failed new_write places opened.opened
      (opened_goes plan opening client link core a b to_write windows empty opened).going failed k d lt) in
      rose_since (a.counts.nodes node) (b.counts.nodes node) (m.counts.nodes node) (n.counts.nodes node)
      (opened.only.later.counts.nodes node) rose (links.later.counts.nodes node)

  -- the pipeline has as many datanodes as the plan
  pub sent_nodes : sent.core.nodes ≡ length plan.block.locs
  sent_nodes = sends.drove.goes.nodes ∙ ap (λ (c : Pipeline). c.nodes) empty

  -- Over a told picture in which the block waits.
  module _ (p : Picture) (known : Known) (told : a.picture ≡ Some p) (w : Waits p plan known) where
    abbrev p1 : Picture
    p1 = opened_picture plan opening client link core a b to_write windows empty opened p known told w

    abbrev t1 : b.picture ≡ Some p1
    t1 = opened_told plan opening client link core a b to_write windows empty opened p known told w

    abbrev c1 : LinkCarries p1 link id nodes known.safe [] known.bytes
    c1 = opened_carries plan opening client link core a b to_write windows empty opened p known told w

    abbrev l1 : IsListed p1 id known.listed known.bytes
    l1 = opened_lists plan opening client link core a b to_write windows empty opened p known told w

    abbrev e1 : core.pushed ≡ []
    e1 = opened_empty plan opening client link core a b to_write windows empty opened

    abbrev s1 : Settles c1.on.place core 0
    s1 = opened_settles plan opening client link core a b to_write windows empty opened p known told w

    abbrev p2 : Picture
    p2 = sent_picture plan link replay core b m sent sends e1 p1 known t1 c1 l1 to_write.some s1

    t2 : m.picture ≡ Some p2
    t2 = sent_told plan link replay core b m sent sends e1 p1 known t1 c1 l1 to_write.some s1

    abbrev place2 : WritePlace
    place2 = sent_place plan link replay core b m sent sends e1 p1 known t1 c1 l1 to_write.some s1

    at2 : p2.writes link ≡ Some place2
    at2 = sent_at plan link replay core b m sent sends e1 p1 known t1 c1 l1 to_write.some s1

    block2 : place2.block ≡ id
    block2 = sent_block plan link replay core b m sent sends e1 p1 known t1 c1 l1 to_write.some s1

    settled2 : Settles place2 sent.core 0
    settled2 = sent_settled plan link replay core b m sent sends e1 p1 known t1 c1 l1 to_write.some s1

    o2 : OnlyBlockOf id p p2
    o2 =
        only_block_of_trans id p p1 p2
        (opened_only plan opening client link core a b to_write windows empty opened p known told w)
        (sent_only plan link replay core b m sent sends e1 p1 known t1 c1 l1 to_write.some s1)

    abbrev entry2 : BlockEntry
    entry2 = l1.entry

    is2 : p2.table id ≡ Some entry2
    is2 = sent_entry plan link replay core b m sent sends e1 p1 known t1 c1 l1 to_write.some s1

    h2 : AreSlices known.bytes known.safe replay → BlockHolds p2 id link known.listed nodes known.safe known.bytes
    h2 slices = sent_holds plan link replay core b m sent sends e1 p1 known t1 c1 l1 to_write.some s1 slices

    c2 : AreSlices known.bytes known.safe replay → sent.core.end ≡ None → LinkCarries p2 link id nodes known.safe replay known.bytes
    c2 slices going = sent_carries plan link replay core b m sent sends e1 p1 known t1 c1 l1 to_write.some s1 slices going

    -- what an ask came to, whatever that was, and the end of the link behind responses alone
    module _ (q : Picture) (to_q : OnlyBlockOf id p2 q) (at : q.writes link ≡ Some place2) (x z : Shown) where
      module _ (told_x : (r : Picture) × (place : WritePlace) × (x.picture ≡ Some r) × (r.writes link ≡ Some place) × OnlyBlockOf id q r
          × (place.block ≡ id)) (gone : WriteEnded x link z) where
        pub closed : (r : Picture) × (z.picture ≡ Some r) × OnlyBlockOf id p r
        closed =
            let e = told_after (Releases link) x.picture z.picture told_x.0 gone.released told_x.2 in (
              e.0,
              e.1,
              only_block_of_trans id p p2 e.0 o2
                  (only_block_of_trans id p2 q e.0 to_q
                  (only_block_of_trans id q told_x.0 e.0 told_x.4 (released_only id link told_x.0 e.0 told_x.1 told_x.3 told_x.5 e.2))),
            )

  -- the pipeline was named
  module _ (names : NamesSo (NamesIt opening.stamp plan) plan m n) (is_core : IsCore sent.core) where
    -- It goes on, and stands.
    pub stands_again : sent.core.end ≡ None
        → StandsAgain (course_of plan opening client replay) a (record { plan = plan; core = sent.core; link = link }) n
    stands_again going =
        let still = sends.drove.on.still_open new_write opened.opened in
        record {
          plan = refl;
          later = until_asked.later;
          reads = until_asked.reads;
          fresh = opened.fresh;
          others = until_asked.others;
          opened = (
            still.0,
            links.writes link ∙ still.1,
            still.2,
          );
          going = record {
            drives = (sends.drove.drives.0, links.writes link ∙ sends.drove.drives.1, sends.drove.drives.2);
            is_core = is_core;
            going = going;
          };
          window =
              sends.drove.goes.window
              ∙ opened_window plan opening client link core a b to_write windows empty opened;
          pushed = sym (sends.pushed ∙ ap (λ (xs : List Outgoing). sent.core.pushed ++ xs) (sends.all going) ∙ append-nil sent.core.pushed);
          goes_on = λ packet start follow.
              let f = sends.goes_on going packet start follow in
              (f.0, links.writes link ∙ f.1, f.2);
          told = λ p known told w slices.
              let r = p2 p known told w in
              let q = names r (entry2 p known told w) (t2 p known told w) (is2 p known told w) in (
                q.0,
                q.1,
                named_carries plan opening.stamp link r q.0 known q.2 (h2 p known told w slices) replay (c2 p known told w slices going),
                (named_holds plan opening.stamp link r q.0 known q.2 (h2 p known told w slices)).lists,
                only_block_of_trans id p r q.0 (o2 p known told w)
                    (named_only plan opening.stamp r q.0 q.2),
                named_stamp plan opening.stamp r q.0 q.2,
              );
        }

    -- Its link was ended, once it had ended itself.
    module _ (x z : Shown) (drifts : Drifts link sent.core n x) (gone : WriteEnded x link z) where
      until_ended : LinkOnly link a z
      until_ended =
          link_only_trans link a n z until_asked
          (link_only_trans link n x z (link_only_of-on link n x drifts.on) (link_only_of-ended link x z gone))

      fallen_links : KeepsLinks a z
      fallen_links = keeps_links_by link a z until_ended opened.fresh gone.ended

      later_end : Later n z
      later_end = later_trans n x z drifts.on.only.later gone.writes.only.later

      fallen_touches : Touches plan a z
      fallen_touches p known told w =
          let r = p2 p known told w in
          let q = names r (entry2 p known told w) (t2 p known told w) (is2 p known told w) in
          let at = q.2.changes.bytes.writes link ∙ at2 p known told w in
          let d = drifts.told q.0 (place2 p known told w) 0 q.1 at (settled2 p known told w) in
          closed p known told w q.0
          (named_only plan opening.stamp r q.0 q.2) at x z (
            d.0,
            d.1,
            d.2,
            d.3,
            subst (λ (i : ℕ). OnlyBlockOf i q.0 d.0) (block2 p known told w)
                (only_block_of-only (place2 p known told w).block (place2 p known told w).nodes q.0 d.0 d.4.only),
            d.4.moves.block ∙ block2 p known told w,
          )
          gone

      -- the block waits with the datanodes of the plan, which are listed
      waits_again : (p : Picture) (known : Known) → a.picture ≡ Some p → Waits p plan known → AreSlices known.bytes known.safe replay
          → (q : Picture) × (z.picture ≡ Some q) × Waits q plan (record known { listed = nodes })
          × OnlyBlockOf id p q × HasStamp q plan.block.b
      waits_again p known told w slices =
          let r = p2 p known told w in
          let q = names r (entry2 p known told w) (t2 p known told w) (is2 p known told w) in
          let h3 = named_holds plan opening.stamp link r q.0 known q.2 (h2 p known told w slices) in
          let at = q.2.changes.bytes.writes link ∙ at2 p known told w in
          let s3 : Settles h3.on.place sent.core 0 = subst (λ (place : WritePlace). Settles place sent.core 0)
          (some_is (place2 p known told w) h3.on.place (sym at ∙ h3.on.told)) (settled2 p known told w) in
          let d = drifts.told q.0 h3.on.place 0 q.1 h3.on.told s3 in
          let further : LinkGoesOn q.0 d.0 link h3.on.place = record { later = d.1; at = d.3; moves = d.4.moves; held = d.4.stays; only = d.4.only; more = []; sent = d.5 } in
          let h4 = block_further q.0 d.0 id link nodes nodes known.safe known.bytes h3 further tt in
          let e = told_after (Releases link) x.picture z.picture d.0 gone.released d.2 in
          let t = fallen_touches p known told w in
          let stamp = named_stamp plan opening.stamp r q.0 q.2 in
          let o : OnlyBlockOf id p e.0 = subst (OnlyBlockOf id p) (some_is t.0 e.0 (sym t.1 ∙ e.1)) t.2 in (
            e.0,
            e.1,
            record {
              file = written_still p e.0 plan.src plan.block.b plan.block.b o.names refl w.file;
              block =
                  block_waits d.0 e.0 id link nodes nodes known.safe known.bytes h4 e.2 nodes
                  (λ k node lt. (k, lt, get_or_default nodes k (slice_index_or nodes k node) node lt));
            },
            o,
            (stamp.0, e.2.0.records.table id ∙ d.4.only.records.table id ∙ stamp.1, stamp.2),
          )

      pub falls_again : (collected : Collected) → Collects sent collected → FallsAgain (course_of plan opening client replay) a
          (record { plan = plan; failed = collected.failed; replay = collected.replay }) z
      falls_again collected collects = record {
        plan = refl;
        places = subst (λ (k : ℕ). ArePlaces k collected.failed) sent_nodes (is_core.failed collected.failed collects.failed);
        failed = λ k d lt.
            let node = slice_index_or nodes (slice_index_or collected.failed k d) [] in
            rose_since (a.counts.nodes node) (a.counts.nodes node) (n.counts.nodes node) (z.counts.nodes node) (omega arith)
            (have_failed collected.failed collects.failed k d lt) (later_end.counts.nodes node);
        replay = collects.replay ∙ sym sends.pushed;
        links = fallen_links;
        told = waits_again;
      }

      pub collects_not : (fault : HdfsError) → CollectsNot sent fault → ResumedNot plan a fault z
      collects_not fault none = record {
        links = fallen_links;
        cause = ⊎_elim
            (λ memory. inl (inl memory))
            (λ bad. inr (
              inr (inr (bad.0, bad.1)),
              rose_since a.counts.links a.counts.links n.counts.links z.counts.links (omega arith) (bad_rose bad.0 bad.2) later_end.counts.links,
            ))
            none;
        touches = fallen_touches;
      }

  -- It wasn't, and the link was ended.
  module _ (fault : HdfsError) (z : Shown) (not : NamesNot opening.stamp plan m fault n) (gone : WriteEnded n link z) where
    unnamed_failed : ((p : Picture) (entry : BlockEntry) → m.picture ≡ Some p → p.table id ≡ Some entry → CallsRose m.counts n)
        → NamenodeFailed plan a z
    unnamed_failed rose p known told w =
        calls_rose_since a m n z until_sent.later gone.writes.only.later
        (rose (p2 p known told w) (entry2 p known told w) (t2 p known told w) (is2 p known told w))

    pub names_not : ResumedNot plan a fault z
    names_not = record {
      links =
          keeps_links_by link a z (link_only_trans link a n z until_asked (link_only_of-ended link n z gone)) opened.fresh
          gone.ended;
      cause = inl (⊎_elim
          (λ memory. inl memory)
          (λ asked. inr (
            asked.0,
            tells_since a m n z fault until_sent.later gone.writes.only.later gone.writes.only.last asked.1,
            unnamed_failed asked.2,
          ))
          not.cause);
      touches = λ p known told w.
          let r = p2 p known told w in
          let q = not.may r (entry2 p known told w) (t2 p known told w) (is2 p known told w) in
          let at = may_be_named_writes plan opening.stamp r q.0 link q.2 ∙ at2 p known told w in
          closed p known told w q.0 (may_be_named_only plan opening.stamp r q.0 q.2) at n z
          (q.0, place2 p known told w, q.1, at, only_block_of_refl id q.0, block2 p known told w) gone;
    }

-- Memory was wanting while the packets were sent again, and the link was ended.
module _ (plan : BlockPlan) (opening : Opening) (client : List ℕ) (replay : List Outgoing) (link : ℕ) (core : Pipeline)
    (a b n z : Shown) (to_write : IsToWrite plan.block)
    (windows : (1 ≤ opening.window) × (opening.window ≤ 1000)) (empty : core ≡ empty_pipeline opening.window (length plan.block.locs))
    (opened : WriteOpened a (setup_for plan opening client) link b) (stops : StopsShort link replay core b n) (gone : WriteEnded n link z) where
  pub stops_short : ResumedNot plan a errors.NoMemory z
  stops_short = record {
    links =
        keeps_links_by link a z
        (link_only_trans link a b z (link_only_of-opened link (setup_for plan opening client) a b opened)
        (link_only_trans link b n z (link_only_of-on link b n stops.on) (link_only_of-ended link n z gone)))
        opened.fresh gone.ended;
    cause = inl (inl refl);
    touches = λ p known told w.
        let p1 = opened_picture plan opening client link core a b to_write windows empty opened p known told w in
        let c1 = opened_carries plan opening client link core a b to_write windows empty opened p known told w in
        let d = stops.told p1 c1.on.place 0
        (opened_told plan opening client link core a b to_write windows empty opened p known told w) c1.on.told
        (opened_settles plan opening client link core a b to_write windows empty opened p known told w) in
        let e = told_after (Releases link) n.picture z.picture d.0 gone.released d.2 in
        let id = plan.block.b.block_id in (
          e.0,
          e.1,
          only_block_of_trans id p p1 e.0
              (opened_only plan opening client link core a b to_write windows empty opened p known told w)
              (only_block_of_trans id p1 d.0 e.0
              (subst (λ (i : ℕ). OnlyBlockOf i p1 d.0) c1.on.block (only_block_of-only c1.on.place.block c1.on.place.nodes p1 d.0 d.4.only))
              (released_only id link d.0 e.0 d.1 d.3 (d.4.moves.block ∙ c1.on.block) e.2)),
        );
  }

-- No link was opened to go on with the block.
pub opens_none : (plan : BlockPlan) (setup : Setup) → setup.stage ≡ stages.Recovery → (a : Shown) (fault : HdfsError) (b : Shown)
    → OpensNone a setup fault b → ResumedNot plan a fault b
opens_none plan setup stage a fault b (inl (memory, same)) = subst (λ (x : Shown). ResumedNot plan a fault x) (sym same) (record {
  links = keeps_links_refl a;
  cause = inl (inl memory);
  touches = λ p known told w. (p, told, only_block_of_refl plan.block.b.block_id p);
})
opens_none plan setup stage a fault b (inr (why, is, none)) = record {
  links = record { later = none.only.later; reads = record { links = none.only.reads; places = none.only.places }; writes = none.writes };
  cause = by_why why is (λ some. rose (none.cause some));
  touches = λ p known told w.
      let x = told_after SamePicture a.picture b.picture p none.picture told in
      (x.0, x.1, only_block_of-same plan.block.b.block_id p x.0 x.2.rest);
}
  where
    rose : SetupFailed setup a.counts b.counts → Rose a.counts.links b.counts.links
    rose failed = subst (λ (at : Stage). SetupFailedAt at setup.locs a.counts b.counts) stage failed

    by_why : (w : LinkFault) → fault ≡ fault_of w → (w ≢ link_faults.NoMemory → Rose a.counts.links b.counts.links) → ResumeCause plan a fault b
    by_why link_faults.NoMemory is rose = inl (inl is)
    by_why link_faults.Broken is rose = inr (inl is, rose (λ same. cc))
    by_why link_faults.Refused is rose = inr (inr (inl is), rose (λ same. cc))
