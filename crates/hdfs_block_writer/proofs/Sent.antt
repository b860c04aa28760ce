-- A writer whose packet was pushed.
use Rattle.std.proofs.Common.{◌≡◌, ◌≢◌, ℕ, zero, suc, pos, ◌+◌, ◌<◌, ◌≤◌, List, [], ◌∷◌, ◌++◌, length, take, drop, Option, Some, None, IsSome, refl, sym, ◌∙◌, ap, subst, arith, append_assoc, take-append-drop}
use Rattle.std.specs.Prelude.{All}
use Rattle.std.proofs.lemmas.List.{append-nil, length-append, length-drop}
use Rattle.std.proofs.lemmas.List.Elements.{All-append, All-from_recursion, All-drop}
use Rattle.hdfs_wire.specs.Outgoing.{Outgoing, ArePacketSizes}
use Rattle.hdfs_cluster.specs.declared.errors.HdfsError.{HdfsError}
use Rattle.hdfs_cluster.specs.Picture.{Picture}
use Rattle.hdfs_cluster.specs.Shown.{Shown}
use Rattle.hdfs_pipeline.specs.Driving.{IsNotLast}
use Rattle.hdfs_block_reader.specs.Carrying.{AreSlices, FollowFrom, joined, total}
use Rattle.hdfs_block_writer.specs.Packing.{AreNext, IsNext, filling_of}
use Rattle.hdfs_block_reader.proofs.Prefixes.{joined_behind, joined_join, slices_from-joined, slices_join, total_cut, total_join}
use Rattle.hdfs_rebuild.specs.declared.block_plan.BlockPipeline.{BlockPipeline}
use Rattle.hdfs_rebuild.specs.declared.block_plan.RebuildSettings.{RebuildSettings}
use Rattle.hdfs_block_writer.specs.declared.block_writer.BlockWriter.{BlockWriter}
use Rattle.hdfs_block_writer.specs.BlockWriters.{AreFull, Carries, GoesOver, Holds, IsFilling, IsKept, SendsFull, Stands, link_in, link_of, safe_of, start_of}
use Rattle.hdfs_rebuild.specs.Between.{OnlyBlockOf}
use Rattle.hdfs_block_writer.specs.OpenPipelines.{GivesUp, Has, IsOver, IsStanding, IsSteady, KeepsBlock, KeepsStamp, OnlyOwnLink, id_of}
use Rattle.hdfs_rebuild.specs.Plans.{HasStamp, NoneEndsBefore}
use Rattle.hdfs_block_writer.specs.Pushing.{CanPush, Pushes, PushesNot}
use Rattle.hdfs_block_writer.specs.Written.{Fills, GaveUp, IsCarrying, Keeps, StaysFull, Wrote}
use Rattle.hdfs_block_writer.proofs.GoingOn.{gives_up_by}
use Rattle.hdfs_block_writer.proofs.Wrote.{pipe_is}

-- a writer's pipeline is this one as it was or rebuilt
abbrev StaysOne : Shown → Shown → BlockWriter → BlockPipeline → Type 0
StaysOne a b w' y = (z : BlockPipeline) × (w'.pipe ≡ Some z) × KeepsBlock y.plan z.plan × IsSteady a y b z

abbrev IsFull : Outgoing → Type 0
IsFull packet = length packet.payload ≡ packet.limit

-- packets behind others
next_drop : (chunk size first seqno n : ℕ) (packets : List Outgoing) → n ≤ length packets → AreNext chunk size first seqno packets
    → AreNext chunk size (first + total (take n packets)) (seqno + n) (drop n packets)
next_drop chunk size first seqno zero [] few all = tt
next_drop chunk size first seqno zero (p ∷ packets) few all =
    subst (λ (k : ℕ). AreNext chunk size k (seqno + 0) (p ∷ packets)) (omega arith)
    (subst (λ (k : ℕ). AreNext chunk size first k (p ∷ packets)) (omega arith) all)
next_drop chunk size first seqno (suc n) [] few all = absurd (omega (arith, few))
next_drop chunk size first seqno (suc n) (p ∷ packets) few all =
    subst (λ (k : ℕ). AreNext chunk size k (seqno + suc n) (drop n packets)) (omega arith)
    (subst (λ (k : ℕ). AreNext chunk size (first + length p.payload + total (take n packets)) k (drop n packets)) (omega arith)
    (next_drop chunk size (first + length p.payload) (seqno + 1) n packets (omega (arith, few)) all.1))

-- and one behind packets
next_push : (chunk size first seqno : ℕ) (packets : List Outgoing) (packet : Outgoing) → AreNext chunk size first seqno packets
    → IsNext chunk size (first + total packets) (seqno + length packets) packet → AreNext chunk size first seqno (packets ++ packet ∷ [])
next_push chunk size first seqno [] packet all is = (
  subst (λ (k : ℕ). IsNext chunk size k seqno packet) (omega arith)
      (subst (λ (k : ℕ). IsNext chunk size (first + 0) k packet) (omega arith) is),
  tt,
)
next_push chunk size first seqno (p ∷ packets) packet all is = (
  all.0,
  next_push chunk size (first + length p.payload) (seqno + 1) packets packet all.1
      (subst (λ (k : ℕ). IsNext chunk size k (seqno + 1 + length packets) packet) (omega arith)
      (subst (λ (k : ℕ). IsNext chunk size (first + (length p.payload + total packets)) k packet) (omega arith) is)),
)

-- packets that are next follow one another, and so does one behind them
pub follow_next : (chunk size first seqno : ℕ) (packets : List Outgoing) (packet : Outgoing) → AreNext chunk size first seqno packets
    → packet.header.offset_in_block ≡ pos (first + total packets) → FollowFrom first (packets ++ packet ∷ [])
follow_next chunk size first seqno [] packet all begins = (begins ∙ ap pos (omega arith), tt)
follow_next chunk size first seqno (p ∷ packets) packet all begins =
    (all.0.begins, follow_next chunk size (first + length p.payload) (seqno + 1) packets packet all.1 (begins ∙ ap pos (omega arith)))

-- where none of some packets is the last of the block, one behind them may be
pub none_ends_before : (packets : List Outgoing) (packet : Outgoing) → All IsNotLast packets → NoneEndsBefore (packets ++ packet ∷ [])
none_ends_before [] packet none = tt
none_ends_before (p ∷ []) packet none = (none 0 p (omega arith), tt)
none_ends_before (p ∷ q ∷ packets) packet none =
    (none 0 p (omega arith), none_ends_before (q ∷ packets) packet (λ k d lt. none (suc k) d (omega (arith, lt))))

-- A packet that begins where the writer's next one does can be pushed.
pub can_push : (shown : Shown) (w : BlockWriter) (pipe : BlockPipeline) (packet : Outgoing) → IsKept w → GoesOver shown pipe w
    → packet.header.offset_in_block ≡ pos (start_of w) → start_of w + length packet.payload ≤ w.length
    → CanPush w.settings shown pipe w.length packet
can_push shown w pipe packet kept over begins within = record {
  standing = record {
    drives = over.standing.drives;
    is_core = over.standing.is_core;
    block = over.standing.block;
    set_up = over.standing.set_up;
    many = over.standing.many;
    rebuilds = over.standing.rebuilds;
    window = over.standing.window;
    first = over.first;
    follow = follow_next w.chunk w.packet_size over.first over.seqno pipe.core.pushed packet over.waits (begins ∙ ap pos (sym over.starts));
    ends = none_ends_before pipe.core.pushed packet over.more;
  };
  going = over.going;
  more = over.more;
  next = over.next packet begins;
  few = (omega (arith, within, over.starts), omega (arith, kept.within.0, kept.within.1));
}

-- what a writer carries, where a packet has all bytes that it hasn't sent
module _ (w : BlockWriter) (pipe : BlockPipeline) (packet : Outgoing) (is : w.pipe ≡ Some pipe) (filled : length (filling_of w.packet) ≤ w.length)
    (starts : total pipe.core.pushed ≤ start_of w) (payload : filling_of w.packet ≡ packet.payload)
    (begins : packet.header.offset_in_block ≡ pos (start_of w)) where
  -- it is over the pipeline, with the packet to come
  pub over_then : (p : Picture) (bytes : List ℕ) → Carries p w bytes → Has p pipe (packet ∷ []) (safe_of w pipe) bytes
  over_then p bytes c =
      subst (λ (y : BlockPipeline). Has p y (packet ∷ []) (safe_of w y) bytes) same (record {
        file = c.has.file;
        on = c.has.on;
        lists = c.has.lists;
        settles = c.has.settles;
        slices = slices_join bytes c.pipe.core.pushed (packet ∷ []) (safe_of w c.pipe)
            (subst (AreSlices bytes (safe_of w c.pipe)) (append-nil c.pipe.core.pushed) c.has.slices)
            (slices_from-joined bytes (packet ∷ []) [] (safe_of w c.pipe + total c.pipe.core.pushed) (omega (arith, start_is, c.counted))
            (begins ∙ ap pos (sym start_is), tt)
            (joined_behind bytes c.pipe.core.pushed (packet ∷ []) [] (safe_of w c.pipe) kept));
      })
    where
      same : c.pipe ≡ pipe
      same = pipe_is c.pipe pipe (sym c.is ∙ is)

      start_is : safe_of w c.pipe + total c.pipe.core.pushed ≡ start_of w
      start_is = omega (arith, starts, ap (λ (y : BlockPipeline). total y.core.pushed) same)

      kept : joined (c.pipe.core.pushed ++ packet ∷ []) ++ [] ≡ drop (safe_of w c.pipe) bytes
      kept =
          append-nil (joined (c.pipe.core.pushed ++ packet ∷ []))
          ∙ joined_join c.pipe.core.pushed (packet ∷ [])
          ∙ ap (λ (xs : List ℕ). joined c.pipe.core.pushed ++ xs) (append-nil packet.payload ∙ sym payload)
          ∙ c.kept

  -- Where the packet isn't pushed, the writer's block is given up.
  pub not_pushed : (a b : Shown) (error : HdfsError) → PushesNot w.settings a pipe packet error b → GaveUp a w error b
  not_pushed a b error not other there =
      subst (λ (y : BlockPipeline). GivesUp w.settings y (IsCarrying w) a error b) (pipe_is pipe other (sym is ∙ there))
      (gives_up_by w.settings pipe (IsCarrying w) (IsOver pipe (packet ∷ [])) a b error (λ p c. (safe_of w pipe, c.0, over_then p c.0 c.1)) not)

module _ (w w' : BlockWriter) (pipe pipe' : BlockPipeline) (packet : Outgoing) (a b : Shown) (kept : IsKept w) (over : GoesOver a pipe w)
    (is : w.packet ≡ Some packet) (pushed : Pushes w.settings a pipe packet b pipe') (keeps : Keeps w w') (len : w'.length ≡ w.length)
    (counted : w'.seqno ≡ w.seqno + 1) (none : w'.packet ≡ None) (piped : w'.pipe ≡ Some pipe') where
  filling : IsFilling w packet
  filling = kept.packet packet is

  empty : filling_of w'.packet ≡ []
  empty = ap filling_of none

  length_is : length (filling_of w.packet) ≡ length packet.payload
  length_is = ap (λ (o : Option Outgoing). length (filling_of o)) is

  start : start_of w' ≡ start_of w + length packet.payload
  start = omega (arith, len, ap length empty, length_is, kept.filled)

  kept_sent : IsKept w'
  kept_sent = record {
    sizes =
        subst (λ (n : ℕ). ArePacketSizes w'.chunk n) (sym keeps.packet_size)
        (subst (λ (n : ℕ). ArePacketSizes n w.packet_size) (sym keeps.chunk) kept.sizes);
    filled = omega (arith, ap length empty);
    within = (omega (arith, len, keeps.block_size, kept.within.0), omega (arith, keeps.block_size, kept.within.1));
    counted = omega (arith, start, counted, kept.counted, filling.some);
    packet = λ other there. absurd (cc (none, there));
  }

  abbrev n : ℕ
  n = pushed.acknowledged

  abbrev front : List Outgoing
  front = drop n pipe.core.pushed

  many : length front + n ≡ length pipe.core.pushed
  many = omega (arith, length-drop n pipe.core.pushed, pushed.continues.few)

  bytes_are : total pipe.core.pushed ≡ total (take n pipe.core.pushed) + total front
  bytes_are = total_cut pipe.core.pushed n

  pushed_are : pipe'.core.pushed ≡ front ++ packet ∷ []
  pushed_are = pushed.continues.pushed

  waits : AreNext w.chunk w.packet_size (over.first + total (take n pipe.core.pushed)) (over.seqno + n) pipe'.core.pushed
  waits = subst (AreNext w.chunk w.packet_size (over.first + total (take n pipe.core.pushed)) (over.seqno + n)) (sym pushed_are)
      (next_push w.chunk w.packet_size (over.first + total (take n pipe.core.pushed)) (over.seqno + n) front packet
      (next_drop w.chunk w.packet_size over.first over.seqno n pipe.core.pushed pushed.continues.few over.waits)
      (subst (λ (k : ℕ). IsNext w.chunk w.packet_size k (over.seqno + n + length front) packet) (omega (arith, bytes_are, over.starts))
      (subst (λ (k : ℕ). IsNext w.chunk w.packet_size (start_of w) k packet) (omega (arith, many, over.counts)) filling.next)))

  waits' : AreNext w'.chunk w'.packet_size (over.first + total (take n pipe.core.pushed)) (over.seqno + n) pipe'.core.pushed
  waits' =
      subst (λ (k : ℕ). AreNext k w'.packet_size (over.first + total (take n pipe.core.pushed)) (over.seqno + n) pipe'.core.pushed)
      (sym keeps.chunk)
      (subst (λ (k : ℕ). AreNext w.chunk k (over.first + total (take n pipe.core.pushed)) (over.seqno + n) pipe'.core.pushed)
      (sym keeps.packet_size) waits)

  starts' : over.first + total (take n pipe.core.pushed) + total pipe'.core.pushed ≡ start_of w'
  starts' = omega (arith, start, ap total pushed_are, total_join front (packet ∷ []), bytes_are, over.starts)

  over_sent : GoesOver b pipe' w'
  over_sent = record {
    standing = subst (λ (s : RebuildSettings). IsStanding s b pipe' []) (sym keeps.settings) pushed.continues.standing;
    going = pushed.going;
    more =
        subst (All IsNotLast) (sym pushed_are)
        (All-append IsNotLast front (packet ∷ []) (All-drop IsNotLast n pipe.core.pushed over.more)
        (All-from_recursion IsNotLast (packet ∷ []) (filling.next.not_last, tt)));
    next = λ other begins.
        pushed.behind other (over.first + total (take n pipe.core.pushed))
        (follow_next w'.chunk w'.packet_size (over.first + total (take n pipe.core.pushed)) (over.seqno + n) pipe'.core.pushed other waits'
        (begins ∙ ap pos (sym starts')));
    first = over.first + total (take n pipe.core.pushed);
    seqno = over.seqno + n;
    starts = starts';
    counts = omega (arith, counted, ap length pushed_are, length-append front (packet ∷ []), many, over.counts);
    waits = waits';
  }

  -- full packets stay full
  pub stays_full : w.pipe ≡ Some pipe → StaysFull w w'
  stays_full before one two other is_one is_two is_packet full all =
      let same_one : pipe ≡ one = pipe_is pipe one (sym before ∙ is_one) in
      let same_two : pipe' ≡ two = pipe_is pipe' two (sym piped ∙ is_two) in
      let same : other ≡ packet = cc (is_packet, is) in
      let here : AreFull pipe = subst AreFull (sym same_one) all in
      let filled : length packet.payload ≡ packet.limit = subst (λ (o : Outgoing). length o.payload ≡ o.limit) same full in
      let packets : All IsFull (front ++ packet ∷ []) =
      All-append IsFull front (packet ∷ []) (All-drop IsFull n pipe.core.pushed here) (All-from_recursion IsFull (packet ∷ []) (filled, tt)) in
      subst AreFull same_two (subst (All IsFull) (sym pushed_are) packets)

  -- it holds on
  pub holds_sent : Holds b w'
  holds_sent other there =
      let same = pipe_is pipe' other (sym piped ∙ there) in
      (kept_sent, subst (λ (x : BlockPipeline). GoesOver b x w') same over_sent)

  starts_before : total pipe.core.pushed ≤ start_of w
  starts_before = omega (arith, over.starts)

  carries_sent : (p : Picture) (bytes : List ℕ) → w.pipe ≡ Some pipe → a.picture ≡ Some p → Carries p w bytes
      → (q : Picture) × (b.picture ≡ Some q) × Carries q w' bytes × OnlyBlockOf (id_of pipe) p q × KeepsStamp p pipe.plan q pipe'.plan
  carries_sent p bytes before told c =
      let has = over_then w pipe packet before kept.filled starts_before (ap filling_of is) filling.next.begins p bytes c in
      let x = pushed.continues.told p (safe_of w pipe) bytes told (subst (λ (l : List Outgoing). Has p pipe l (safe_of w pipe) bytes) refl has) in
      let safe : safe_of w pipe + total (take n pipe.core.pushed) ≡ safe_of w' pipe' =
      omega (arith, starts', start, ap total pushed_are, total_join front (packet ∷ []), bytes_are, starts_before) in
      let same : c.pipe ≡ pipe = pipe_is c.pipe pipe (sym c.is ∙ before) in
      let kept_before : joined pipe.core.pushed ++ packet.payload ≡ drop (safe_of w pipe) bytes =
      ap (λ (xs : List ℕ). joined pipe.core.pushed ++ xs) (sym (ap filling_of is))
      ∙ subst (λ (y : BlockPipeline). joined y.core.pushed ++ filling_of w.packet ≡ drop (safe_of w y) bytes) same c.kept in
      let whole : joined (take n pipe.core.pushed ++ pipe'.core.pushed) ++ [] ≡ drop (safe_of w pipe) bytes =
      append-nil (joined (take n pipe.core.pushed ++ pipe'.core.pushed))
      ∙ ap (λ (l : List Outgoing). joined (take n pipe.core.pushed ++ l)) pushed_are
      ∙ ap joined (sym (append_join n pipe.core.pushed packet))
      ∙ joined_join pipe.core.pushed (packet ∷ [])
      ∙ ap (λ (xs : List ℕ). joined pipe.core.pushed ++ xs) (append-nil packet.payload)
      ∙ kept_before in (
        x.0,
        x.1,
        record {
          pipe = pipe';
          is = piped;
          counted = len ∙ c.counted;
          kept =
              ap (λ (xs : List ℕ). joined pipe'.core.pushed ++ xs) empty
              ∙ joined_behind bytes (take n pipe.core.pushed) pipe'.core.pushed [] (safe_of w pipe) whole
              ∙ ap (λ (k : ℕ). drop k bytes) safe;
          has = subst (λ (k : ℕ). Has x.0 pipe' [] k bytes) safe x.2;
        },
        x.3,
        x.4,
      )
    where
      append_join : (k : ℕ) (xs : List Outgoing) (last : Outgoing) → xs ++ last ∷ [] ≡ take k xs ++ (drop k xs ++ last ∷ [])
      append_join k xs last = ap (λ (l : List Outgoing). l ++ last ∷ []) (sym (take-append-drop k xs)) ∙ append_assoc (take k xs) (drop k xs) (last ∷ [])

  -- and no byte was taken
  pub wrote_sent : w.pipe ≡ Some pipe → Wrote a w [] b w'
  wrote_sent before = record {
    keeps = keeps;
    length = omega (arith, len);
    own =
        subst (λ (o : Option ℕ). OnlyOwnLink a o b (link_of w')) (sym (ap link_in before))
        (subst (λ (o : Option ℕ). OnlyOwnLink a (Some pipe.link) b o) (sym (ap link_in piped)) pushed.continues.own);
    stays = λ other there.
        let same = pipe_is pipe other (sym before ∙ there) in
        subst (λ (y : BlockPipeline). StaysOne a b w' y) same (pipe', piped, pushed.continues.keeps, pushed.continues.steady);
    carries = λ p bytes told c.
        let x = carries_sent p bytes before told c in
        let same : pipe ≡ c.pipe = pipe_is pipe c.pipe (sym before ∙ c.is) in (
          x.0,
          x.1,
          subst (Carries x.0 w') (sym (append-nil bytes)) x.2,
          subst (λ (y : BlockPipeline). OnlyBlockOf (id_of y) p x.0) same x.3,
          λ one two is_one is_two s.
              subst (λ (y : BlockPipeline). HasStamp x.0 y.plan.block.b) (pipe_is pipe' two (sym piped ∙ is_two))
              (x.4 (subst (λ (y : BlockPipeline). HasStamp p y.plan.block.b) (pipe_is one pipe (sym is_one ∙ before)) s)),
        );
  }

-- a writer whose packet was looked for, and is the same
pub holds_same : (shown : Shown) (w : BlockWriter) (o : Option Outgoing) → w.packet ≡ o → Holds shown w → Holds shown (record w { packet = o })
holds_same shown w o same holds = subst (λ (x : Option Outgoing). Holds shown (record w { packet = x })) same holds

-- a writer without a packet stands
pub stands_empty : (shown : Shown) (w : BlockWriter) → Holds shown w → SendsFull w → w.packet ≡ None → Stands shown w
stands_empty shown w holds full none pipe is =
    let h = holds pipe is in
    (h.0, h.1, λ packet some. absurd (cc (none, some)), full pipe is)

-- and so does one whose packet isn't full
pub stands_from : (shown : Shown) (w : BlockWriter) → Holds shown w → SendsFull w
    → ((packet : Outgoing) → w.packet ≡ Some packet → length packet.payload ≢ packet.limit) → Stands shown w
stands_from shown w holds full apart pipe is =
    let h = holds pipe is in
    (h.0, h.1, λ packet some. less (length packet.payload) packet.limit (h.0.packet packet some).within (apart packet some), full pipe is)
  where
    less : (a b : ℕ) → a ≤ b → a ≢ b → a < b
    less a b le apart = grind (arith, le, apart)

-- the pipeline of a writer that has one
pub pipe_of : (w : BlockWriter) → IsSome w.pipe → (pipe : BlockPipeline) × (w.pipe ≡ Some pipe)
pipe_of w some = of_one w.pipe some
  where
    of_one : (o : Option BlockPipeline) → IsSome o → (pipe : BlockPipeline) × (o ≡ Some pipe)
    of_one None none = absurd (cc none)
    of_one (Some pipe) some = (pipe, refl)

-- a pipeline goes on for a writer whose packet begins where it did
over_same : (shown : Shown) (pipe : BlockPipeline) (w x : BlockWriter) → Keeps w x → start_of w ≡ start_of x → x.seqno ≡ w.seqno
    → GoesOver shown pipe w → GoesOver shown pipe x
over_same shown pipe w x keeps start seqno over = record {
  standing = subst (λ (s : RebuildSettings). IsStanding s shown pipe []) (sym keeps.settings) over.standing;
  going = over.going;
  more = over.more;
  next = λ packet begins. over.next packet (begins ∙ ap pos (sym start));
  first = over.first;
  seqno = over.seqno;
  starts = over.starts ∙ start;
  counts = over.counts ∙ sym seqno;
  waits =
      subst (λ (k : ℕ). AreNext k x.packet_size over.first over.seqno pipe.core.pushed) (sym keeps.chunk)
      (subst (λ (k : ℕ). AreNext w.chunk k over.first over.seqno pipe.core.pushed) (sym keeps.packet_size) over.waits);
}

-- a writer that took bytes into its packet holds on
pub holds_filled : (shown : Shown) (w x : BlockWriter) (more : List ℕ) → Stands shown w → IsKept x → Fills w more x → Holds shown x
holds_filled shown w x more stands kept f pipe is =
    let h = stands pipe (sym f.pipe ∙ is) in
    let start : start_of w ≡ start_of x =
    omega (arith, f.length, ap length f.filling, length-append (filling_of w.packet) more, h.0.filled) in
    (kept, over_same shown pipe w x f.keeps start f.seqno h.1)

-- the link of a pipeline that stands is open
pub is_open : (settings : RebuildSettings) (shown : Shown) (pipe : BlockPipeline) (more : List Outgoing) → IsStanding settings shown pipe more
    → IsSome (shown.writes pipe.link)
is_open settings shown pipe more standing = subst IsSome (sym standing.drives.1) refl
