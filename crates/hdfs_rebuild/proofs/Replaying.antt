-- Packets are sent again on a pipeline that was just set up.
use Rattle.std.proofs.Common.{◌≡◌, ⊎_elim, ℕ, ℤ, pos, ◌+◌, ◌-◌, true, List, [], ◌∷◌, ◌++◌, length, take, drop, Option, Some, None, IsSome, map, refl, sym, ◌∙◌, ap, subst, arith, append_assoc}
use Rattle.std.specs.Prelude.{All}
use Rattle.std.specs.List.{AllByRecursion}
use Rattle.std.specs.Iterator.{Yields}
use Rattle.std.specs.Vec.Iter.{into_iter_items, into_iter_len, into_iter_steps}
use Rattle.std.proofs.lemmas.Iterator.{YieldsList}
use Rattle.std.proofs.lemmas.Iterator.Adapters.{YieldsList-from_vec}
use Rattle.std.proofs.lemmas.Iterator.Consumers.{YieldsList-turn, YieldsList-so_far}
use Rattle.std.proofs.lemmas.List.{append-nil, drop_more, length-append, length-drop, take-append-drop}
use Rattle.std.proofs.lemmas.List.Elements.{All-from_recursion}
use Rattle.std.proofs.lemmas.Bool.{lt-ltb}
use Rattle.hdfs_wire.specs.Outgoing.{Outgoing}
use Rattle.hdfs_cluster.specs.declared.picture.OpenWrite.{OpenWrite}
use Rattle.hdfs_cluster.specs.Pipes.{BeginsAt, FollowsOn}
use Rattle.hdfs_cluster.specs.Sending.{WritePlace, end_of, offset_of}
use Rattle.hdfs_cluster.specs.Shown.{Shown}
use Rattle.hdfs_pipeline.specs.Pipelines.{Done, Pipeline, has_room}
use Rattle.hdfs_pipeline.specs.Cores.{IsCore}
use Rattle.hdfs_pipeline.specs.Driving.{GoesOn, Drove, StopsShort, SentMore, Settles, EndsWith, IsGivenBack, IsNotLast, IsNext, taken_in}
use Rattle.hdfs_pipeline.proofs.DrivingOn.{on_trans, further_trans, cause_join, none_or_has}
use Rattle.hdfs_block_reader.specs.Carrying.{FollowFrom, total}
use Rattle.hdfs_rebuild.specs.Plans.{IsReplay, NoneEndsBefore}
use Rattle.hdfs_rebuild.specs.Resuming.{SendsAgain}

none_has : {X : Type 0} {A : Type 0} (o : Option X) → IsSome o → o ≡ None → A
none_has None has is = absurd (cc has)
none_has (Some x) has is = absurd (cc)

nothing_behind : (front : List Outgoing) (packet : Outgoing) → [] ≡ front ++ packet ∷ [] → ⊥
nothing_behind [] packet is = cc
nothing_behind (x ∷ front) packet is = cc

pub nothing_cut : (xs ys : List Outgoing) → [] ≡ xs ++ ys → xs ≡ []
nothing_cut [] ys is = refl
nothing_cut (x ∷ xs) ys is = absurd (cc)

-- A pipeline was driven on, and no acknowledgement was read. Behind an end no packet came in.
module _ (link : ℕ) (first more : List Outgoing) (c d e : Pipeline) (a b z : Shown) (f : Drove link first c a d b) (g : Drove link more d b e z)
    (unread : g.acknowledged ≡ 0) (none : IsSome d.end → more ≡ []) where
  goes_join : GoesOn c f.acknowledged (first ++ more) e
  goes_join = record {
    window = g.goes.window ∙ f.goes.window;
    nodes = g.goes.nodes ∙ f.goes.nodes;
    few = f.goes.few;
    pushed =
        g.goes.pushed ∙ ap (λ n. drop n d.pushed ++ more) unread ∙ ap (λ (xs : List Outgoing). xs ++ more) f.goes.pushed
        ∙ append_assoc (drop f.acknowledged c.pushed) first more;
    ended = λ has.
        let one = f.goes.ended has in
        ((g.goes.ended (subst IsSome (sym one.0) has)).0 ∙ one.0, one.1);
    done = λ going done. ⊎_elim
        (λ still.
        let then = g.goes.done still done in
        absurd (nothing_behind then.0 then.1 (ap (λ n. take n d.pushed) (sym unread) ∙ then.2)))
        (λ has. f.goes.done going (sym (g.goes.ended has).0 ∙ done))
        (none_or_has d.end);
    going = λ going. ⊎_elim
        (λ still. f.goes.going still)
        (λ has. none_has d.end has (sym (g.goes.ended has).0 ∙ going))
        (none_or_has d.end);
  }

  sent_join : (x y z' : WritePlace) → SentMore x first d y → SentMore y more e z' → SentMore x (first ++ more) e z'
  sent_join x y z' s t = ⊎_elim
      (λ still.
      let whole : s.rest ≡ [] = s.all (λ places is. cc) in
      record {
        sent = s.sent ++ t.sent;
        rest = t.rest;
        cut =
            ap (λ (xs : List Outgoing). xs ++ more) (s.cut ∙ ap (λ (xs : List Outgoing). s.sent ++ xs) whole ∙ append-nil s.sent)
            ∙ ap (λ (xs : List Outgoing). s.sent ++ xs) t.cut ∙ sym (append_assoc s.sent t.sent t.rest);
        behind = t.behind ∙ ap (λ (xs : List Outgoing). xs ++ t.sent) s.behind ∙ append_assoc x.sent s.sent t.sent;
        all = t.all;
      })
      (λ has.
      let empty : t.sent ≡ [] = nothing_cut t.sent t.rest (sym (none has) ∙ t.cut) in
      record {
        sent = s.sent;
        rest = s.rest;
        cut = ap (λ (xs : List Outgoing). first ++ xs) (none has) ∙ append-nil first ∙ s.cut;
        behind = t.behind ∙ ap (λ (xs : List Outgoing). y.sent ++ xs) empty ∙ append-nil y.sent ∙ s.behind;
        all = λ fine. s.all (λ places is. fine places ((g.goes.ended has).0 ∙ is));
      })
      (none_or_has d.end)

  pub drove_join : Drove link (first ++ more) c a e z
  drove_join = record {
    on = on_trans link a b z f.on g.on;
    drives = g.drives;
    acknowledged = f.acknowledged;
    goes = goes_join;
    cause = cause_join link first more c d e a b z f g;
    told = λ p place settled is at s.
        let x = f.told p place settled is at s in
        let y = g.told x.0 x.1 (settled + f.acknowledged) x.2 x.3 x.6 in (
          y.0,
          y.1,
          y.2,
          y.3,
          further_trans p x.0 y.0 place x.1 y.1 x.4 y.4,
          sent_join place x.1 y.1 x.5 y.5,
          subst (Settles y.1 e) (omega (arith, unread)) y.6,
        );
  }

-- Memory was wanting for a packet, behind others of which all were sent.
pub stops_join : (link : ℕ) (first rest : List Outgoing) (packet : Outgoing) (c d : Pipeline) (a b z : Shown) → Drove link first c a d b
    → d.end ≡ None → StopsShort link (packet ∷ []) d b z → StopsShort link (first ++ packet ∷ rest) c a z
stops_join link first rest packet c d a b z f going g = record {
  on = on_trans link a b z f.on g.on;
  told = λ p place settled is at s.
      let x = f.told p place settled is at s in
      let y = g.told x.0 x.1 (settled + f.acknowledged) x.2 x.3 x.6 in
      let whole : x.5.rest ≡ [] = x.5.all (λ places failed. cc) in (
        y.0,
        y.1,
        y.2,
        y.3,
        further_trans p x.0 y.0 place x.1 y.1 x.4 y.4,
        record {
          sent = x.5.sent ++ y.5.sent;
          rest = y.5.rest ++ rest;
          cut =
              ap (λ (xs : List Outgoing). xs ++ packet ∷ rest)
              (x.5.cut ∙ ap (λ (xs : List Outgoing). x.5.sent ++ xs) whole ∙ append-nil x.5.sent)
              ∙ ap (λ (xs : List Outgoing). x.5.sent ++ (xs ++ rest)) y.5.cut
              ∙ ap (λ (xs : List Outgoing). x.5.sent ++ xs) (append_assoc y.5.sent y.5.rest rest)
              ∙ sym (append_assoc x.5.sent y.5.sent (y.5.rest ++ rest));
          behind = y.5.behind ∙ ap (λ (xs : List Outgoing). xs ++ y.5.sent) x.5.behind ∙ append_assoc place.sent x.5.sent y.5.sent;
        },
      );
}

-- It was wanting elsewhere.
pub stops_here : (link : ℕ) (first rest : List Outgoing) (c d : Pipeline) (a b : Shown) → Drove link first c a d b
    → StopsShort link (first ++ rest) c a b
stops_here link first rest c d a b f = record {
  on = f.on;
  told = λ p place settled is at s.
      let x = f.told p place settled is at s in (
        x.0,
        x.1,
        x.2,
        x.3,
        x.4,
        record {
          sent = x.5.sent;
          rest = x.5.rest ++ rest;
          cut = ap (λ (xs : List Outgoing). xs ++ rest) x.5.cut ∙ append_assoc x.5.sent x.5.rest rest;
          behind = x.5.behind;
        },
      );
}

-- where packets follow one another, each stands behind those before it
follows_at : (front rest : List Outgoing) (packet : Outgoing) (start : ℕ) → FollowFrom start (front ++ packet ∷ rest)
    → packet.header.offset_in_block ≡ pos (start + total front)
follows_at [] rest packet start follow = follow.0 ∙ ap pos (omega arith)
follows_at (x ∷ front) rest packet start follow =
    follows_at front rest packet (start + length x.payload) follow.1 ∙ ap pos (omega arith)

total_end : (front : List Outgoing) (packet : Outgoing) → total (front ++ packet ∷ []) ≡ total front + length packet.payload
total_end [] packet = omega arith
total_end (x ∷ front) packet = omega (arith, total_end front packet)

follow_front : (front rest : List Outgoing) (start : ℕ) → FollowFrom start (front ++ rest) → FollowFrom start front
follow_front [] rest start follow = tt
follow_front (x ∷ front) rest start follow = (follow.0, follow_front front rest (start + length x.payload) follow.1)

not_last_before : (front rest : List Outgoing) (packet : Outgoing) → NoneEndsBefore (front ++ packet ∷ rest) → AllByRecursion IsNotLast front
not_last_before [] rest packet ends = tt
not_last_before (x ∷ []) rest packet ends = (ends.0, tt)
not_last_before (x ∷ y ∷ front) rest packet ends = (ends.0, not_last_before (y ∷ front) rest packet ends.1)

-- So many packets were sent again, or came back once the pipeline had ended.
pub record SentSoFar (link : ℕ) (core : Pipeline) (old : Shown) (done : List Outgoing) (core' : Pipeline) (rest : List Outgoing) (now : Shown)
    : Type 0 where
  pub parts : done ≡ core'.pushed ++ rest
  pub drove : Drove link core'.pushed core old core' now
  pub all : core'.end ≡ None → rest ≡ []
  pub goes_on : core'.end ≡ None → (packet : Outgoing) (start : ℕ) → FollowFrom start (done ++ packet ∷ []) → FollowsOn now link packet

-- None was yet.
pub none_sent : (link : ℕ) (core : Pipeline) (old : Shown) → Drove link [] core old core old → core.pushed ≡ []
    → ((write : OpenWrite) → old.writes link ≡ Some write → write.end ≡ None) → SentSoFar link core old [] core [] old
none_sent link core old drove empty fresh = record {
  parts = sym (ap (λ (xs : List Outgoing). xs ++ []) empty);
  drove = subst (λ (xs : List Outgoing). Drove link xs core old core old) (sym empty) drove;
  all = λ going. refl;
  goes_on = λ going packet start follow. (drove.drives.0, drove.drives.1, by_end drove.drives.0.end (fresh drove.drives.0 drove.drives.1) packet start follow.0);
}
  where
    by_end : (end : Option ℕ) → end ≡ None → (packet : Outgoing) (start : ℕ) → packet.header.offset_in_block ≡ pos start
        → BeginsAt end packet.header.offset_in_block
    by_end None is packet start at = (start, at)
    by_end (Some n) is packet start at = absurd (cc)

module _ (link : ℕ) (core0 : Pipeline) (old : Shown) (done : List Outgoing) (packet : Outgoing) (core : Pipeline) (rest : List Outgoing)
    (now : Shown) (s : SentSoFar link core0 old done core rest now) where
  done_is : core.end ≡ None → done ≡ core.pushed
  done_is going = s.parts ∙ ap (λ (xs : List Outgoing). core.pushed ++ xs) (s.all going) ∙ append-nil core.pushed

  module _ (more : List Outgoing) (window : ℕ) (replay : IsReplay window (done ++ packet ∷ more)) where
    -- the next packet follows on the others, none of which is the last of the block
    pub is_next : IsNext now link core packet
    is_next going = (
      s.goes_on going packet replay.start
          (follow_front (done ++ packet ∷ []) more replay.start
          (subst (FollowFrom replay.start) (sym (append_assoc done (packet ∷ []) more)) replay.follow)),
      subst (All IsNotLast) (done_is going) (All-from_recursion IsNotLast done (not_last_before done more packet replay.ends)),
    )

    -- the pipeline has room for it
    pub has_more_room : core.end ≡ None → core.acked ≡ 0 → core.window ≡ window → has_room core ≡ true
    has_more_room going none same =
        lt-ltb (length core.pushed - core.acked) core.window
        (omega (arith, replay.few, length-append done (packet ∷ more), ap length (done_is going), none, same))

  module _ (core' : Pipeline) (now' : Shown) where
    none_read : (taken : List Outgoing) (drove : Drove link taken core now core' now') → core'.pushed ≡ core.pushed ++ taken
        → drove.acknowledged ≡ 0
    none_read taken drove behind =
        omega (
          arith,
          drove.goes.few,
          ap length (sym behind ∙ drove.goes.pushed),
          length-append core.pushed taken,
          length-append (drop drove.acknowledged core.pushed) taken,
          length-drop drove.acknowledged core.pushed,
        )

    -- The packet came in.
    pub one_sent : core.end ≡ None → Drove link (packet ∷ []) core now core' now' → core'.pushed ≡ core.pushed ++ packet ∷ []
        → (core'.end ≡ None → EndsWith now' link packet) → SentSoFar link core0 old (done ++ packet ∷ []) core' rest now'
    one_sent going drove behind ends = record {
      parts =
          ap (λ (xs : List Outgoing). xs ++ packet ∷ []) (done_is going) ∙ sym behind ∙ sym (append-nil core'.pushed)
          ∙ ap (λ (xs : List Outgoing). core'.pushed ++ xs) (sym (s.all going));
      drove =
          subst (λ (xs : List Outgoing). Drove link xs core0 old core' now') (sym behind)
          (drove_join link core.pushed (packet ∷ []) core0 core core' old now now' s.drove drove (none_read (packet ∷ []) drove behind)
          (λ has. none_has core.end has going));
      all = λ still. s.all going;
      goes_on = λ still next start follow.
          let end = ends still in
          let here = follows_at done (next ∷ []) packet start (subst (FollowFrom start) (append_assoc done (packet ∷ []) (next ∷ [])) follow) in
          let there = follows_at (done ++ packet ∷ []) [] next start follow in
          let at : end_of packet ≡ start + total (done ++ packet ∷ []) =
          omega (arith, ap offset_of here, total_end done packet) in
          (end.0, end.1, begins_at end.0.end (end_of packet) end.2 next.header.offset_in_block (there ∙ ap pos (sym at)));
    }
      where
        begins_at : (o : Option ℕ) (n : ℕ) → o ≡ Some n → (offset : ℤ) → offset ≡ pos n → BeginsAt o offset
        begins_at None n is offset at = absurd (cc)
        begins_at (Some m) n is offset at = let same : m ≡ n = cc in at ∙ ap pos (sym same)

    -- It came back, since the pipeline has ended meanwhile.
    pub one_back : core.end ≡ None → Drove link [] core now core' now' → core'.pushed ≡ core.pushed ++ [] → IsSome core'.end
        → SentSoFar link core0 old (done ++ packet ∷ []) core' (rest ++ packet ∷ []) now'
    one_back going drove behind has = record {
      parts =
          ap (λ (xs : List Outgoing). xs ++ packet ∷ []) (done_is going ∙ sym (behind ∙ append-nil core.pushed))
          ∙ ap (λ (xs : List Outgoing). core'.pushed ++ (xs ++ packet ∷ [])) (sym (s.all going));
      drove =
          subst (λ (xs : List Outgoing). Drove link xs core0 old core' now') (sym behind)
          (drove_join link core.pushed [] core0 core core' old now now' s.drove drove (none_read [] drove behind) (λ has. refl));
      all = λ still. none_has core'.end has still;
      goes_on = λ still. none_has core'.end has still;
    }

map_same : {X : Type 0} (xs : List X) → map (λ y. y) xs ≡ xs
map_same [] = refl
map_same (x ∷ xs) = ap (λ (ys : List _). x ∷ ys) (map_same xs)

-- Packets are taken one by one out of the memory that held them.
pub taken_out : {Z : Type 0} → {s : _} (all held : List Outgoing) (len : ℕ)
    → into_iter_items {X = Outgoing} {Z = Z} s ≡ held → into_iter_len {X = Outgoing} {Z = Z} s ≡ len → held ≡ all → len ≡ length held
    → YieldsList (into_iter_steps {X = Outgoing} {Z = Z}) (λ y. y) s all
taken_out {Z} {s} all held len is left same fits =
    YieldsList-from_vec {A = Outgoing} {Z = Z} {s = s} all (is ∙ same) (omega (arith, left, fits, ap length same))

-- those so far, the one that is taken now, and the rest
pub whole_at : {S : Type 0} {steps : S → Option Outgoing → S → Type 0} {s : S} (all : List Outgoing) (items : YieldsList steps (λ y. y) s all)
    (done : List Outgoing) (t : S) (so_far : Yields steps s done t) (r : Option Outgoing) (u : S) (packet : Outgoing) → r ≡ Some packet → steps t r u
    → all ≡ done ++ packet ∷ drop (length done + 1) all
whole_at all items done t so_far r u packet is step =
    let turn = YieldsList-turn items done t so_far r u packet is step in
    sym (take-append-drop (length done) all)
    ∙ ap (λ (xs : List Outgoing). xs ++ drop (length done) all) (sym (YieldsList-so_far items done t so_far) ∙ map_same done)
    ∙ ap (λ (xs : List Outgoing). done ++ xs)
    (drop_more all (length done) packet turn.0 ∙ ap (λ (x : Outgoing). x ∷ drop (length done + 1) all) (sym turn.1))

module _ (link : ℕ) (core0 : Pipeline) (old : Shown) (done : List Outgoing) (core : Pipeline) (rest : List Outgoing) (now : Shown)
    (s : SentSoFar link core0 old done core rest now) where
  -- Memory was wanting before the others.
  pub stops_before : (replay more : List Outgoing) → replay ≡ done ++ more → StopsShort link replay core0 old now
  stops_before replay more whole =
      subst (λ (xs : List Outgoing). StopsShort link xs core0 old now)
      (sym (whole ∙ ap (λ (xs : List Outgoing). xs ++ more) s.parts ∙ append_assoc core.pushed rest more))
      (stops_here link core.pushed (rest ++ more) core0 core old now s.drove)

  -- It was wanting for a packet.
  pub stops_at : (replay more : List Outgoing) (packet : Outgoing) (core' : Pipeline) (now' : Shown) → replay ≡ done ++ packet ∷ more → core.end ≡ None
      → StopsShort link (packet ∷ []) core now now' → StopsShort link replay core0 old now'
  stops_at replay more packet core' now' whole going stops =
      subst (λ (xs : List Outgoing). StopsShort link xs core0 old now')
      (sym (whole ∙ ap (λ (xs : List Outgoing). xs ++ packet ∷ more) (done_is link core0 old done packet core rest now s going)))
      (stops_join link core.pushed more packet core0 core old now now' s.drove going stops)

  -- All were sent, or the pipeline has ended.
  pub all_sent : (replay : List Outgoing) → map (λ y. y) done ≡ replay → IsCore core
      → SendsAgain link replay core0 old (record { core = core; rest = rest }) now
  all_sent replay all is_core =
      let same : done ≡ replay = sym (map_same done) ∙ all in
      record {
        pushed = sym same ∙ s.parts;
        drove = s.drove;
        is_core = is_core;
        all = s.all;
        goes_on = λ going packet start follow.
            s.goes_on going packet start (subst (λ (xs : List Outgoing). FollowFrom start (xs ++ packet ∷ [])) (sym same) follow);
      }

-- A packet was pushed.
module _ (link : ℕ) (core0 : Pipeline) (old : Shown) (done : List Outgoing) (packet : Outgoing) (core : Pipeline) (rest : List Outgoing)
    (now : Shown) (s : SentSoFar link core0 old done core rest now) (more : List Outgoing) (replay : IsReplay core0.window (done ++ packet ∷ more))
    (core' : Pipeline) (now' : Shown) (going : core.end ≡ None) (forgets : core.acked ≡ 0) where
  room : has_room core ≡ true
  room = has_more_room link core0 old done packet core rest now s more core0.window replay going forgets s.drove.goes.window

  pub came_in : (back : Option Outgoing) → back ≡ None → Drove link (taken_in packet back) core now core' now'
      → (has_room core ≡ true → core'.pushed ≡ core.pushed ++ taken_in packet back) → (core'.end ≡ None → EndsWith now' link packet)
      → SentSoFar link core0 old (done ++ packet ∷ []) core' rest now'
  came_in None is drove behind ends = one_sent link core0 old done packet core rest now s core' now' going drove (behind room) ends
  came_in (Some back) is drove behind ends = absurd (cc)

  pub came_back : (back : Option Outgoing) (this : Outgoing) → back ≡ Some this → Drove link (taken_in packet back) core now core' now'
      → (has_room core ≡ true → core'.pushed ≡ core.pushed ++ taken_in packet back) → IsGivenBack packet back core core'
      → SentSoFar link core0 old (done ++ packet ∷ []) core' (rest ++ this ∷ []) now'
  came_back None this is drove behind given = absurd (cc)
  came_back (Some back) this is drove behind given =
      let same : packet ≡ this = cc (is, given.0) in
      subst (λ (x : Outgoing). SentSoFar link core0 old (done ++ packet ∷ []) core' (rest ++ x ∷ []) now') same
      (one_back link core0 old done packet core rest now s core' now' going drove (behind room) given.1)

-- A pipeline that was empty isn't done where no acknowledgement was read.
pub never_done : (link : ℕ) (more : List Outgoing) (c d : Pipeline) (a b : Shown) → Drove link more c a d b → c.end ≡ None → c.pushed ≡ []
    → d.end ≡ Some Done → ⊥
never_done link more c d a b drove going empty is =
    let done = drove.goes.done going is in
    let unread : drove.acknowledged ≡ 0 = omega (arith, drove.goes.few, ap length empty) in
    nothing_behind done.0 done.1 (ap (λ n. take n c.pushed) (sym unread) ∙ done.2)
