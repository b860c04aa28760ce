-- The datanodes of a block's last pipeline have received its last packet before the link is ended.
use Rattle.std.proofs.Common.{◌≡◌, ℕ, pos, ◌+◌, ◌≤◌, List, [], ◌∷◌, ◌++◌, length, take, drop, Some, None, sym, ◌∙◌, ap, subst, arith, append_assoc, take-append-drop}
use Rattle.std.specs.Prelude.{Result, Ok, Err, OnOk}
use Rattle.std.proofs.lemmas.List.{append-nil, drop-append-le, length-append, length-drop}
use Rattle.hdfs_wire.specs.Outgoing.{Outgoing}
use Rattle.hdfs_cluster.specs.Picture.{Picture}
use Rattle.hdfs_cluster.specs.Shown.{Shown}
use Rattle.hdfs_pipeline.specs.Driving.{Drove}
use Rattle.hdfs_pipeline.specs.Pipelines.{Pipeline}
use Rattle.hdfs_block_reader.specs.Carrying.{total}
use Rattle.hdfs_rebuild.specs.declared.block_plan.BlockPipeline.{BlockPipeline}
use Rattle.hdfs_rebuild.specs.declared.block_plan.RebuildSettings.{RebuildSettings}
use Rattle.hdfs_rebuild.proofs.Replaying.{nothing_cut}
use Rattle.hdfs_block_writer.specs.declared.block_writer.BlockWriter.{BlockWriter}
use Rattle.hdfs_block_writer.specs.BlockWriters.{GoesOver, IsKept}
use Rattle.hdfs_block_writer.specs.OpenPipelines.{EndsReceived, HasReceived, IsOver, id_of}
use Rattle.hdfs_block_writer.specs.Pushing.{Pushes, ReceivesAll}
use Rattle.hdfs_block_writer.specs.Written.{EndsAt, EndsBlock, IsCarrying, WaitsForLast, Wrote}
use Rattle.hdfs_block_writer.proofs.Closed.{at_end, over_now}
use Rattle.hdfs_block_writer.proofs.PushingOn.{WaitsAgain}
use Rattle.hdfs_block_writer.proofs.Wrote.{carries_then, pipe_is}

pub on_ok_by : {T E : Type 0} (P Q : Type 0) (r : Result T E) → (P → Q) → OnOk r P → OnOk r Q
on_ok_by P Q (Ok x) h is = h is
on_ok_by P Q (Err e) h is = tt

-- A pipeline whose last packet was pushed was driven to its end, and none of its packets is left: its datanodes have received them all.
module _ (pipe : BlockPipeline) (a z : Shown) (last : Pipeline) (drove : Drove pipe.link [] pipe.core a last z) (going : pipe.core.end ≡ None)
    (none : last.pushed ≡ []) (front : List Outgoing) (packet : Outgoing) (ends : pipe.core.pushed ≡ front ++ packet ∷ []) where
  pub receives : (p : Picture) → a.picture ≡ Some p → IsOver pipe [] p
      → (q : Picture) × (z.picture ≡ Some q) × HasReceived q pipe.link (id_of pipe) packet
  receives p told over =
      let has = over.2 in
      let place = has.on.place in
      let x = drove.told p place has.on.settled told has.on.told has.settles in
      let g = has.settles.going going in
      let nothing : x.5.sent ≡ [] = nothing_cut x.5.sent x.5.rest x.5.cut in
      let same : x.1.sent ≡ place.sent = x.5.behind ∙ ap (λ (xs : List Outgoing). place.sent ++ xs) nothing ∙ append-nil place.sent in
      let all : pipe.core.pushed ≡ drop has.on.settled place.sent =
      has.settles.behind ∙ ap (λ (xs : List Outgoing). drop has.on.settled place.sent ++ xs) g.0 ∙ append-nil (drop has.on.settled place.sent) in
      let left : drop (has.on.settled + drove.acknowledged) x.1.sent ≡ [] =
      nothing_cut (drop (has.on.settled + drove.acknowledged) x.1.sent) x.6.unsent (sym none ∙ x.6.behind) in (
        x.0,
        x.2,
        record {
          place = x.1;
          at = x.3;
          block = x.4.moves.block ∙ has.on.block;
          entry = has.lists.entry;
          is = x.4.only.records.table (id_of pipe) ∙ has.lists.is;
          listed = has.lists.same_nodes ∙ sym (x.4.moves.nodes ∙ has.on.same_nodes);
          front = take has.on.settled place.sent ++ front;
          sent =
              same ∙ sym (take-append-drop has.on.settled place.sent)
              ∙ ap (λ (xs : List Outgoing). take has.on.settled place.sent ++ xs) (sym all ∙ ends)
              ∙ sym (append_assoc (take has.on.settled place.sent) front (packet ∷ []));
          received = λ i lt.
              omega (arith, (x.6.received i lt).0, ap length left, length-drop (has.on.settled + drove.acknowledged) x.1.sent);
        },
      )

module _ {C : Type 0} (shown : C → Shown) (ends : C → ℕ → C → Type 0) where
  -- what was so then is said of what was before
  pub received_since : (a b new : C) (V W : Picture → Type 0) (id id' : ℕ) (packet : Outgoing) → id' ≡ id
      → ((p : Picture) → (shown a).picture ≡ Some p → W p → (q : Picture) × ((shown b).picture ≡ Some q) × V q)
      → EndsReceived shown (λ before link. ends before link new) b V id' packet
      → EndsReceived shown (λ before link. ends before link new) a W id packet
  received_since a b new V W id id' packet same on e = (
    e.0,
    e.1,
    e.2,
    λ p told w.
        let x = on p told w in
        let y = e.3 x.0 x.1 x.2 in
        (y.0, y.1, subst (λ (i : ℕ). HasReceived y.0 e.1 i packet) same y.2),
  )

  -- The pipeline was rebuilt before.
  pub all_received : (settings : RebuildSettings) (old now new : C) (pipe pipe' : BlockPipeline)
      → WaitsAgain settings (shown old) pipe (shown now) pipe' → ReceivesAll shown ends now pipe' new → ReceivesAll shown ends old pipe new
  all_received settings old now new pipe pipe' w received front packet is =
      let n = w.acknowledged in
      let c = w.continues in
      let left : pipe'.core.pushed ≡ drop n pipe.core.pushed = c.pushed ∙ append-nil (drop n pipe.core.pushed) in
      let last = w.ending.1 in
      let few : n ≤ length front =
      omega (
        arith,
        ap length last.2,
        length-append last.0 (last.1 ∷ []),
        ap length left,
        length-drop n pipe.core.pushed,
        ap length is,
        length-append front (packet ∷ []),
      ) in
      received_since old now new (IsOver pipe' []) (IsOver pipe []) (id_of pipe) (id_of pipe') packet c.keeps.id
      (λ p told over.
      let m = c.told p over.0 over.1 told over.2 in
      (m.0, m.1, (over.0 + total (take n pipe.core.pushed), over.1, m.2)))
      (received (drop n front) packet (left ∙ ap (drop n) is ∙ drop-append-le n front (packet ∷ []) few))

  -- The last packet of a writer was pushed before.
  pub waits_for_last : (w : BlockWriter) (pipe pipe' : BlockPipeline) (packet : Outgoing) (old mid new : C) → w.pipe ≡ Some pipe
      → w.packet ≡ None → IsKept w → GoesOver (shown old) pipe w → EndsBlock w packet
      → Pushes w.settings (shown old) pipe packet (shown mid) pipe' → ReceivesAll shown ends mid pipe' new
      → WaitsForLast shown ends old w new
  waits_for_last w pipe pipe' packet old mid new is none kept over last pushed received =
      let e = received_since old mid new (IsOver pipe' []) (IsCarrying w) (id_of pipe) (id_of pipe') packet pushed.continues.keeps.id
      (λ p told c.
      let m = over_now w pipe packet (shown old) is none kept over last (shown mid) pipe' pushed p told c in
      (m.0, m.1, m.2))
      (received (drop pushed.acknowledged pipe.core.pushed) packet pushed.continues.pushed) in (
        packet,
        record {
          begins = last.begins ∙ ap pos (at_end w pipe packet (shown old) is none kept over last);
          last = last.last;
          empty = last.empty;
        },
        λ other there.
            subst (λ (y : BlockPipeline). EndsReceived shown (λ before link. ends before link new) old (IsCarrying w) (id_of y) packet)
            (pipe_is pipe other (sym is ∙ there)) e,
      )

  -- Some bytes were sent before.
  pub last_after : (a b new : C) (w x : BlockWriter) → Wrote (shown a) w [] (shown b) x → WaitsForLast shown ends b x new
      → WaitsForLast shown ends a w new
  last_after a b new w x f g =
      let len : x.length ≡ w.length = omega (arith, f.length) in (
        g.0,
        subst (λ (n : ℕ). EndsAt n g.0) len g.1,
        λ pipe is.
            let s = f.stays pipe is in
            received_since a b new (IsCarrying x) (IsCarrying w) (id_of pipe) (id_of s.0) g.0 s.2.id
            (λ p told c. let m = carries_then (shown a) (shown b) w x [] f p told pipe is c in (m.0, m.1, m.2))
            (g.2 s.0 s.1),
      )
