-- How a driven pipeline goes on from call to call.
use Rattle.std.proofs.Common.{◌≡◌, ◌⊎◌, inl, inr, ⊎_elim, ℕ, ◌+◌, ◌<◌, ◌≤◌, true, cond, List, [], ◌∷◌, ◌++◌, length, take, drop, Option, Some, None, IsSome, refl, sym, ◌∙◌, ap, subst, arith, append_assoc}
use Rattle.std.specs.Prelude.{Result, Ok, Err, OnErr, is_none, get_or, slice_get, All}
use Rattle.std.proofs.lemmas.Bool.{cases_lt}
use Rattle.std.proofs.lemmas.List.Elements.{All-append, All-drop, All-take}
use Rattle.std.proofs.lemmas.Bool.Decides.{nat_tests}
use Rattle.std.proofs.Math.Seq.{take-add}
use Rattle.std.proofs.lemmas.List.{append-nil, drop-append-le, drop-drop, drop_all, length-append, length-drop, take-append-le, take_all}
use Rattle.hdfs_wire.specs.Outgoing.{Outgoing}
use Rattle.hdfs_cluster.specs.declared.asks.LinkFault.TheVariants as faults
use Rattle.hdfs_cluster.specs.declared.picture.OpenWrite.{OpenWrite}
use Rattle.hdfs_cluster.specs.Counts.{Rose}
use Rattle.hdfs_cluster.specs.Picture.{Picture, SamePicture}
use Rattle.hdfs_cluster.specs.Pipes.{NotAcknowledged, NotSent, nodes_of}
use Rattle.hdfs_cluster.specs.Sending.{uuids, WritePlace}
use Rattle.hdfs_cluster.specs.Shown.{Shown}
use Rattle.hdfs_cluster.specs.Writing.{OnlyBlock, GoesFurther, Sends, MayBeBehind}
use Rattle.hdfs_cluster.proofs.Frames.{told_after, rose_since, same_picture_refl, only_writes_refl, only_writes_trans}
use Rattle.hdfs_pipeline.specs.declared.event.Event.TheVariants.{Push, Take, Wrote, WriteFailed}
use Rattle.hdfs_pipeline.specs.Cores.{Follows, CanTake, next_of}
use Rattle.hdfs_pipeline.proofs.Rows.{pushes, takes, writes, fails_to_write}
use Rattle.hdfs_pipeline.specs.Pipelines.{Done, End, Failed, Pipeline, ended, hand_of, has_hand, has_room}
use Rattle.hdfs_pipeline.specs.Driving.{SentFirst, EndsInLast, IsInStep, Drives, OnLink, GoesOn, HasCause, Settles, SentMore, Drove, StopsShort}
use Rattle.hdfs_pipeline.proofs.Settling.{DroveTold, only_from-WritesAt, same_further, on_link, none_or_some, nothing_sent}
use Rattle.hdfs_pipeline.proofs.Driving.{RoseAt, IsNotLast}

-- calls on a link, one after another
pub on_trans : (link : ℕ) (a b c : Shown) → OnLink link a b → OnLink link b c → OnLink link a c
on_trans link a b c f g = record {
  only = only_writes_trans a b c f.only g.only;
  others = λ other apart. g.others other apart ∙ f.others other apart;
  still_open = λ write is. let first = f.still_open write is in let then = g.still_open first.0 first.1 in (then.0, then.1, then.2 ∙ first.2);
}

only_trans : (id : ℕ) (nodes : List (List ℕ)) (p q r : Picture) → OnlyBlock id nodes p q → OnlyBlock id nodes q r → OnlyBlock id nodes p r
only_trans id nodes p q r f g = record {
  records = record {
    names = λ path. g.records.names path ∙ f.records.names path;
    table = λ block. g.records.table block ∙ f.records.table block;
    active = g.records.active ∙ f.records.active;
    defaults = g.records.defaults ∙ f.records.defaults;
    reads = λ other. g.records.reads other ∙ f.records.reads other;
  };
  held = λ node other away. g.held node other away ∙ f.held node other away;
  writes = λ link place at apart. g.writes link place (f.writes link place at apart) apart;
}

-- a link goes further and further
pub further_trans : (p q r : Picture) (x y z : WritePlace) → GoesFurther p x q y → GoesFurther q y r z → GoesFurther p x r z
further_trans p q r x y z f g =
    let here = λ (i : ℕ) (below : i < length x.nodes). subst (λ (ns : List (List ℕ)). i < length ns) (sym f.moves.nodes) below in
    record {
      moves = record {
        block = g.moves.block ∙ f.moves.block;
        nodes = g.moves.nodes ∙ f.moves.nodes;
        base = λ i below. g.moves.base i (here i below) ∙ f.moves.base i below;
        received = λ i below. (omega (arith, (f.moves.received i below).0, (g.moves.received i (here i below)).0), (g.moves.received i (here i below)).1);
        disturbed = λ i below. g.moves.disturbed i (here i below) ∙ f.moves.disturbed i below;
      };
      stays = λ i below undisturbed holds. g.stays i (here i below) (f.moves.disturbed i below ∙ undisturbed) (f.stays i below undisturbed holds);
      only = only_trans x.block x.nodes p q r f.only (subst (λ (id : ℕ). OnlyBlock id x.nodes q r) f.moves.block (subst (λ (ns : List (List ℕ)). OnlyBlock y.block ns q r) f.moves.nodes g.only));
    }

pub none_or_has : {X : Type 0} (o : Option X) → (o ≡ None) ⊎ IsSome o
none_or_has None = inl refl
none_or_has (Some x) = inr refl

nothing_cut : (xs ys : List Outgoing) → [] ≡ xs ++ ys → xs ≡ []
nothing_cut [] ys is = refl
nothing_cut (x ∷ xs) ys is = absurd (cc)

-- where no packet came in, none was sent
same_sent_by : (x y : WritePlace) (core : Pipeline) → SentMore x [] core y → y.sent ≡ x.sent
same_sent_by x y core none = none.behind ∙ ap (λ (xs : List Outgoing). x.sent ++ xs) (nothing_cut none.sent none.rest none.cut) ∙ append-nil x.sent

-- A pipeline was driven on.
module _ (link : ℕ) (first more : List Outgoing) (c d e : Pipeline) (a b z : Shown) (f : Drove link first c a d b) (g : Drove link more d b e z) where
  lifts : (node : List ℕ) → Rose (a.counts.nodes node) (b.counts.nodes node) → Rose (a.counts.nodes node) (z.counts.nodes node)
  lifts node rose = rose_since (a.counts.nodes node) (a.counts.nodes node) (b.counts.nodes node) (z.counts.nodes node) (omega arith) rose (g.on.only.later.counts.nodes node)

  lowers : (node : List ℕ) → Rose (b.counts.nodes node) (z.counts.nodes node) → Rose (a.counts.nodes node) (z.counts.nodes node)
  lowers node rose = rose_since (a.counts.nodes node) (b.counts.nodes node) (z.counts.nodes node) (z.counts.nodes node) (f.on.only.later.counts.nodes node) rose (omega arith)

  all_weaker : (P Q : ℕ → Type 0) → ((x : ℕ) → P x → Q x) → (xs : List ℕ) → All P xs → All Q xs
  all_weaker P Q h xs all = λ k d below. h (get_or xs k d) (all k d below)

  -- why the pipeline failed, in the one or the other
  pub cause_join : HasCause link c a e z
  cause_join = record {
    failed = λ write places at none is. ⊎_elim
        (λ going.
        let open_then = f.on.still_open write at in
        let same : nodes_of open_then.0 ≡ nodes_of write = ap (λ setup. uuids setup.locs) open_then.2 in
        all_weaker (RoseAt b z open_then.0) (RoseAt a z write)
        (λ place rose. lowers (get_or (nodes_of write) place []) (subst (λ (ns : List (List ℕ)). Rose (b.counts.nodes (get_or ns place [])) (z.counts.nodes (get_or ns place []))) same rose))
        places (g.cause.failed open_then.0 places open_then.1 going is))
        (λ has. all_weaker (RoseAt a b write) (RoseAt a z write) (λ place rose. lifts (get_or (nodes_of write) place []) rose) places (f.cause.failed write places at none (sym (g.goes.ended has).0 ∙ is)))
        (none_or_has d.end);
    bad = λ seqno none is. ⊎_elim
        (λ going. rose_since a.counts.links b.counts.links z.counts.links z.counts.links f.on.only.later.counts.links (g.cause.bad seqno going is) (omega arith))
        (λ has. rose_since a.counts.links a.counts.links b.counts.links z.counts.links (omega arith) (f.cause.bad seqno none (sym (g.goes.ended has).0 ∙ is)) g.on.only.later.counts.links)
        (none_or_has d.end);
  }

-- A pipeline was driven on after acknowledgements alone.
module _ (link : ℕ) (more : List Outgoing) (c d e : Pipeline) (a b z : Shown) (f : Drove link [] c a d b) (g : Drove link more d b e z) where
  left : d.pushed ≡ drop f.acknowledged c.pushed
  left = f.goes.pushed ∙ append-nil (drop f.acknowledged c.pushed)

  goes_trans : GoesOn c (f.acknowledged + g.acknowledged) more e
  goes_trans = record {
    window = g.goes.window ∙ f.goes.window;
    nodes = g.goes.nodes ∙ f.goes.nodes;
    few = omega (arith, f.goes.few, g.goes.few, ap length left, length-drop f.acknowledged c.pushed);
    pushed = g.goes.pushed ∙ ap (λ (xs : List Outgoing). drop g.acknowledged xs ++ more) left ∙ ap (λ (xs : List Outgoing). xs ++ more) (drop-drop g.acknowledged f.acknowledged c.pushed);
    ended = λ has.
        let first = f.goes.ended has in
        let then = g.goes.ended (subst IsSome (sym first.0) has) in
        (then.0 ∙ first.0, omega (arith, first.1, then.1));
    done = λ none done. ⊎_elim
        (λ going.
        let then = g.goes.done going done in (
          take f.acknowledged c.pushed ++ then.0,
          then.1,
          take-add f.acknowledged g.acknowledged c.pushed ∙ ap (λ (xs : List Outgoing). take f.acknowledged c.pushed ++ take g.acknowledged xs) (sym left) ∙ ap (λ (xs : List Outgoing). take f.acknowledged c.pushed ++ xs) then.2 ∙ sym (append_assoc (take f.acknowledged c.pushed) then.0 (then.1 ∷ [])),
          then.3,
        ))
        (λ has.
        let then = g.goes.ended has in
        let first = f.goes.done none (sym then.0 ∙ done) in
        (first.0, first.1, ap (λ (n : ℕ). take n c.pushed) (omega (arith, then.1)) ∙ first.2, first.3))
        (none_or_has d.end);
    going = λ none. ⊎_elim
        (λ going. subst (All IsNotLast) (sym (take-add f.acknowledged g.acknowledged c.pushed ∙ ap (λ (xs : List Outgoing). take f.acknowledged c.pushed ++ take g.acknowledged xs) (sym left)))
        (All-append IsNotLast (take f.acknowledged c.pushed) (take g.acknowledged d.pushed) (f.goes.going going) (g.goes.going none)))
        (λ has. none_or_some d.end has (sym (g.goes.ended has).0 ∙ none))
        (none_or_has d.end);
  }

  cause_trans : HasCause link c a e z
  cause_trans = cause_join link [] more c d e a b z f g

  told_trans : DroveTold link c a.picture (f.acknowledged + g.acknowledged) more e z.picture
  told_trans p place settled is at s =
      let x = f.told p place settled is at s in
      let y = g.told x.0 x.1 (settled + f.acknowledged) x.2 x.3 x.6 in (
        y.0,
        y.1,
        y.2,
        y.3,
        further_trans p x.0 y.0 place x.1 y.1 x.4 y.4,
        record { sent = y.5.sent; rest = y.5.rest; cut = y.5.cut; behind = y.5.behind ∙ ap (λ (xs : List Outgoing). xs ++ y.5.sent) (same_sent_by place x.1 d x.5); all = y.5.all },
        subst (Settles y.1 e) (omega arith) y.6,
      )

  -- as by one drive
  pub drove_behind : Drove link more c a e z
  drove_behind = record { on = on_trans link a b z f.on g.on; drives = g.drives; acknowledged = f.acknowledged + g.acknowledged; goes = goes_trans; cause = cause_trans; told = told_trans }

-- nothing happened
pub drove_refl : (link : ℕ) (core : Pipeline) (a : Shown) → Drives a link core → Drove link [] core a core a
drove_refl link core a drives = record {
  on = record {
    only = only_writes_refl a;
    others = λ other apart. refl;
    still_open = λ write is. (write, is, refl);
  };
  drives = drives;
  acknowledged = 0;
  goes = record { window = refl; nodes = refl; few = omega arith; pushed = sym (append-nil core.pushed); ended = λ has. (refl, refl); done = λ none is. absurd (cc); going = λ none k d below. absurd (omega (arith, below)) };
  cause = record { failed = λ write places at none is. absurd (cc); bad = λ seqno none is. absurd (cc) };
  told = λ p place settled is at s.
      (p, place, is, at, same_further p p place (λ i below. (s.received i below).1) (same_picture_refl p), nothing_sent place place core refl, subst (Settles place core) (omega arith) s);
}

pub some_same : {X : Type 0} (x y : X) → Some x ≡ Some y → x ≡ y
some_same x y is = cc

slice_get_end : {X : Type 0} (xs : List X) (x : X) → slice_get (xs ++ x ∷ []) (length xs) ≡ Some x
slice_get_end [] x = refl
slice_get_end (y ∷ xs) x = slice_get_end xs x

-- a packet is pushed and taken into the hand
module _ (core c1 c2 c3 : Pipeline) (packet : Outgoing) (write : OpenWrite) (none : core.acked ≡ 0) (going : core.end ≡ None) (step : IsInStep write core) (room : has_room core ≡ true) (push : Follows core (Push packet) c1) (take : Follows c1 Take c2) where
  abbrev with_packet : Pipeline
  with_packet = record core { pushed = core.pushed ++ packet ∷ [] }

  abbrev with_hand : Pipeline
  with_hand = record with_packet { taken = core.taken + 1 }

  pushed_is : c1 ≡ with_packet
  pushed_is = push.next ∙ sym (pushes core none packet room).next

  can_take : CanTake with_packet
  can_take = record { going = going; empty = step.sent ∙ sym step.taken; left = omega (arith, step.taken, length-append core.pushed (packet ∷ [])) }

  taken_is : c2 ≡ with_hand
  taken_is = take.next ∙ ap (λ (p : Pipeline). next_of p Take) pushed_is ∙ sym (takes with_packet none can_take).next

  hand_test : has_hand with_hand ≡ true
  hand_test = grind (arith, nat_tests, step.sent, step.taken)

  -- the packet is the one in the hand
  pub in_hand : hand_of c2 ≡ Some packet
  in_hand = ap hand_of taken_is ∙ rw hand_test (ap (slice_get (core.pushed ++ packet ∷ [])) step.sent ∙ slice_get_end core.pushed packet)

  pub wrote_is : Follows c2 Wrote c3 → c3 ≡ record core { pushed = core.pushed ++ packet ∷ []; sent = core.taken + 1; taken = core.taken + 1 }
  wrote_is wrote = wrote.next ∙ ap (λ (p : Pipeline). next_of p Wrote) taken_is ∙ sym (writes with_hand none going (omega (arith, step.sent, step.taken)) (omega (arith, step.sent, step.taken))).next

  pub unsent_is : Follows c2 WriteFailed c3 → c3 ≡ ended (record core { pushed = core.pushed ++ packet ∷ []; taken = core.taken + 1 }) (Failed (0 ∷ []))
  unsent_is failed = failed.next ∙ ap (λ (p : Pipeline). next_of p WriteFailed) taken_is ∙ sym (fails_to_write with_hand none going (omega (arith, step.sent, step.taken))).next

-- nothing was sent
none_sent : (place : WritePlace) (more : List Outgoing) → SentFirst place more place
none_sent place more = record { sent = []; rest = more; cut = refl; behind = sym (append-nil place.sent) }

may_be_first : (place place' : WritePlace) (packet : Outgoing) → MayBeBehind packet place.sent place'.sent → SentFirst place (packet ∷ []) place'
may_be_first place place' packet may = ⊎_elim
    (λ same. record { sent = []; rest = packet ∷ []; cut = refl; behind = same ∙ sym (append-nil place.sent) })
    (λ behind. record { sent = packet ∷ []; rest = []; cut = refl; behind = behind })
    may

-- memory was wanting for an acknowledgement
pub ack_stops : (link : ℕ) (core : Pipeline) (a b : Shown) → NotAcknowledged a link faults.NoMemory b → StopsShort link [] core a b
ack_stops link core a b n = record {
  on = on_link link a b n.writes (λ write is. (write, n.still_open ∙ is, refl));
  told = λ p place settled is at s.
      let t = told_after SamePicture a.picture b.picture p (n.memory refl) is in
      (t.0, place, t.1, t.2.rest.writes link ∙ at, same_further p t.0 place (λ i below. (s.received i below).1) t.2, none_sent place []);
}

-- memory was wanting for a send
pub send_stops : (link : ℕ) (core : Pipeline) (a b : Shown) (packet : Outgoing) → NotSent a link packet faults.NoMemory b → StopsShort link (packet ∷ []) core a b
send_stops link core a b packet n = record {
  on = on_link link a b n.writes n.still_open;
  told = λ p place settled is at s.
      let t = told_after (λ p q. SamePicture p q ⊎ Sends link (MayBeBehind packet) p q) a.picture b.picture p (n.memory refl) is in
      ⊎_elim
      (λ same. (t.0, place, t.1, same.rest.writes link ∙ at, same_further p t.0 place (λ i below. (s.received i below).1) same, none_sent place (packet ∷ [])))
      (λ sends. let r = sends.1 place at in (t.0, r.0, t.1, r.1, record { moves = r.2; stays = r.6; only = only_from-WritesAt link p t.0 place sends.0 at }, may_be_first place r.0 packet r.3))
      t.2;
}

pub get_or_end : {X : Type 0} (xs : List X) (x d : X) → get_or (xs ++ x ∷ []) (length xs) d ≡ x
get_or_end [] x d = refl
get_or_end (y ∷ xs) x d = get_or_end xs x d

-- while the pipeline goes on, the last packet of the block is still behind the others
pub last_left : (core core' : Pipeline) (n : ℕ) → GoesOn core n [] core' → core'.end ≡ None → EndsInLast core.pushed → EndsInLast core'.pushed
last_left core core' n goes none ends =
    let some : n ≤ length ends.0 = elim (cases_lt (length ends.0) n) [
      | inr le ↦ le
      | inl gt ↦
          let all : take n core.pushed ≡ ends.0 ++ ends.1 ∷ [] = take_all n core.pushed (omega (arith, gt, ap length ends.2, length-append ends.0 (ends.1 ∷ []))) ∙ ends.2 in
          let never = subst (All IsNotLast) all (goes.going none) (length ends.0) ends.1 (omega (arith, length-append ends.0 (ends.1 ∷ []))) in
          absurd (cc (never, ends.3, get_or_end ends.0 ends.1 ends.1))
    ] in
    (drop n ends.0, ends.1, goes.pushed ∙ append-nil (drop n core.pushed) ∙ ap (drop n) ends.2 ∙ drop-append-le n ends.0 (ends.1 ∷ []) some, ends.3, All-drop IsNotLast n ends.0 ends.4)

-- how many turns a driver may still take
abbrev pub left_of : Pipeline → ℕ
left_of core = length core.pushed + cond (is_none core.end) 1 0

with_end : (xs : ℕ) (end : Option End) → IsSome end → xs + cond (is_none end) 1 0 ≡ xs
with_end xs None has = absurd (cc has)
with_end xs (Some end) has = omega arith

-- fewer packets wait, or there is an end
pub fewer_left : (core core' : Pipeline) (n : ℕ) → GoesOn core n [] core' → core.end ≡ None → (core'.end ≡ None → length core'.pushed < length core.pushed) → left_of core' < left_of core
fewer_left core core' n goes none fewer =
    let going : length core.pushed + cond (is_none core.end) 1 0 ≡ length core.pushed + 1 = ap (λ (e : Option End). length core.pushed + cond (is_none e) 1 0) none in
    let pushed : length core'.pushed ≤ length core.pushed = omega (arith, ap length (goes.pushed ∙ append-nil (drop n core.pushed)), length-drop n core.pushed) in
    ⊎_elim
    (λ left.
    let still : length core'.pushed + cond (is_none core'.end) 1 0 ≡ length core'.pushed + 1 = ap (λ (e : Option End). length core'.pushed + cond (is_none e) 1 0) left in
    omega (arith, fewer left, going, still))
    (λ has. omega (arith, with_end (length core'.pushed) core'.end has, going, pushed))
    (none_or_has core'.end)

-- memory was wanting behind acknowledgements
pub stops_behind : (link : ℕ) (more : List Outgoing) (c d : Pipeline) (a b z : Shown) → Drove link [] c a d b → StopsShort link more d b z → StopsShort link more c a z
stops_behind link more c d a b z f g = record {
  on = on_trans link a b z f.on g.on;
  told = λ p place settled is at s.
      let x = f.told p place settled is at s in
      let y = g.told x.0 x.1 (settled + f.acknowledged) x.2 x.3 x.6 in (
        y.0,
        y.1,
        y.2,
        y.3,
        further_trans p x.0 y.0 place x.1 y.1 x.4 y.4,
        record { sent = y.5.sent; rest = y.5.rest; cut = y.5.cut; behind = y.5.behind ∙ ap (λ (xs : List Outgoing). xs ++ y.5.sent) (same_sent_by place x.1 d x.5) },
      );
}

pub on_err : {T E : Type 0} (P : Type 0) (r : Result T E) → P → OnErr r P
on_err P (Ok t) h = tt
on_err P (Err e) h = h

-- once the last packet of the block is acknowledged, none is left
pub none_left : (core last : Pipeline) (n : ℕ) → GoesOn core n [] last → EndsInLast core.pushed → core.end ≡ None → last.end ≡ Some Done → last.pushed ≡ []
none_left core last n goes ends going done =
    let count : length core.pushed ≡ length ends.0 + 1 = ap length ends.2 ∙ length-append ends.0 (ends.1 ∷ []) in
    let took = goes.done going done in
    elim (cases_lt (length ends.0) n) [
      | inl all ↦ goes.pushed ∙ append-nil (drop n core.pushed) ∙ drop_all n core.pushed (omega (arith, all, count))
      | inr few ↦
          let some : All IsNotLast (took.0 ++ took.1 ∷ []) = subst (All IsNotLast) (sym (ap (take n) ends.2 ∙ take-append-le n ends.0 (ends.1 ∷ []) few) ∙ took.2) (All-take IsNotLast n ends.0 ends.4) in
          absurd (cc (some (length took.0) took.1 (omega (arith, length-append took.0 (took.1 ∷ []))), took.3, get_or_end took.0 took.1 took.1))
    ]

-- where nothing was to be sent, nothing was
pub stops_more : (link : ℕ) (more : List Outgoing) (core : Pipeline) (a b : Shown) → StopsShort link [] core a b → StopsShort link more core a b
stops_more link more core a b f = record {
  on = f.on;
  told = λ p place settled is at s.
      let x = f.told p place settled is at s in
      (x.0, x.1, x.2, x.3, x.4, record { sent = []; rest = more; cut = refl; behind = x.5.behind ∙ ap (λ (xs : List Outgoing). place.sent ++ xs) (nothing_cut x.5.sent x.5.rest x.5.cut) });
}
