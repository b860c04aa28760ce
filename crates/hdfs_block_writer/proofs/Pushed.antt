-- A packet is pushed on a pipeline that goes on, and pipelines go on from each other.
use Rattle.std.proofs.Common.{◌≡◌, inl, inr, ℕ, pos, ◌+◌, List, [], ◌∷◌, ◌++◌, length, take, drop, Option, Some, None, refl, sym, ◌∙◌, ap, subst, arith, append_assoc}
use Rattle.std.proofs.lemmas.List.{append-nil, drop-drop, length-drop}
use Rattle.hdfs_wire.specs.Outgoing.{Outgoing}
use Rattle.hdfs_cluster.specs.declared.errors.HdfsError.TheVariants as errors
use Rattle.hdfs_cluster.specs.Pipes.{BeginsAt, WriteEnded}
use Rattle.hdfs_cluster.specs.Sending.{offset_of, end_of as packet_end}
use Rattle.hdfs_cluster.specs.Shown.{Shown}
use Rattle.hdfs_cluster.specs.Writing.{Releases}
use Rattle.hdfs_cluster.proofs.Frames.{told_after}
use Rattle.hdfs_pipeline.specs.Cores.{IsCore}
use Rattle.hdfs_pipeline.specs.Driving.{Drove, EndsWith, IsGivenBack, StopsShort, taken_in}
use Rattle.hdfs_pipeline.specs.Pipelines.{Pipeline}
use Rattle.hdfs_block_reader.specs.Carrying.{FollowFrom, total}
use Rattle.hdfs_rebuild.specs.declared.block_plan.BlockPipeline.{BlockPipeline}
use Rattle.hdfs_rebuild.specs.declared.block_plan.RebuildSettings.{RebuildSettings}
use Rattle.hdfs_rebuild.specs.Between.{OnlyBlockOf}
use Rattle.hdfs_rebuild.proofs.Resuming.{released_only}
use Rattle.hdfs_rebuild.proofs.Stepping.{only_block_of-only, only_block_of_trans}
use Rattle.hdfs_block_writer.specs.OpenPipelines.{Continues, Has, id_of, traffic}
use Rattle.hdfs_block_writer.specs.Pushing.{CanPush, GoesOnBehind, Pushes, PushesNot, PushesOnce, with_core}
use Rattle.hdfs_block_writer.proofs.Driven.{has_drove, total_take}
use Rattle.hdfs_block_writer.proofs.GoingOn.{keeps_block_refl, keeps_block_trans, steady_trans}
use Rattle.hdfs_block_writer.proofs.OwnLinks.{own_link_ended, own_link_on, own_link_trans}
use Rattle.hdfs_block_writer.proofs.Standing.{standing_drove}

-- of packets that follow one another the last two do
follow_last : (front : List Outgoing) (x y : Outgoing) (first : ℕ) → FollowFrom first (front ++ x ∷ y ∷ [])
    → (x.header.offset_in_block ≡ pos (first + total front))
    × (y.header.offset_in_block ≡ pos (first + total front + length x.payload))
follow_last [] x y first follow = (follow.0 ∙ ap pos (omega arith), follow.1.0 ∙ ap pos (omega arith))
follow_last (p ∷ front) x y first follow =
    let rest = follow_last front x y (first + length p.payload) follow.1 in
    (rest.0 ∙ ap pos (omega arith), rest.1 ∙ ap pos (omega arith))

-- A packet was pushed on a pipeline, which goes on.
module _ (settings : RebuildSettings) (a b : Shown) (pipe : BlockPipeline) (bytes : ℕ) (packet : Outgoing) (core' : Pipeline)
    (can : CanPush settings a pipe bytes packet) (drove : Drove pipe.link (packet ∷ []) pipe.core a core' b) (is_core : IsCore core')
    (going : core'.end ≡ None) (ends : EndsWith b pipe.link packet) where
  behind : GoesOnBehind b (with_core pipe core')
  behind other first follow =
      let front = drop drove.acknowledged pipe.core.pushed in
      let last = follow_last front packet other first
      (subst (FollowFrom first) (ap (λ (l : List Outgoing). l ++ other ∷ []) drove.goes.pushed ∙ append_assoc front (packet ∷ []) (other ∷ [])) follow) in
      let end : packet_end packet ≡ first + total front + length packet.payload = ap (λ z. offset_of z + length packet.payload) last.0 in
      (ends.0, ends.1, subst (λ (o : Option ℕ). BeginsAt o other.header.offset_in_block) (sym ends.2) (last.1 ∙ ap pos (sym end)))

  pub pushed_on : Pushes settings a pipe packet b (with_core pipe core')
  pushed_on = record {
    going = going;
    acknowledged = drove.acknowledged;
    continues = record {
      own = own_link_on a b pipe.link drove.on;
      keeps = keeps_block_refl pipe.plan;
      steady = inl (refl, refl);
      few = drove.goes.few;
      pushed = drove.goes.pushed;
      standing = standing_drove settings pipe (packet ∷ []) [] core' a b drove is_core can.standing;
      told = λ p safe bytes told has.
          let d = has_drove pipe (packet ∷ []) [] a b core' drove (inr can.going) p safe bytes told has in
          (d.0, d.1, d.2, d.3, λ s. (s.0, d.4 ∙ s.1, s.2));
    };
    behind = behind;
  }

-- whether it came back or not
pub pushed_or_not : (settings : RebuildSettings) (a b : Shown) (pipe : BlockPipeline) (bytes : ℕ) (packet : Outgoing) (core' : Pipeline)
    (back : Option Outgoing) → CanPush settings a pipe bytes packet → Drove pipe.link (taken_in packet back) pipe.core a core' b → IsCore core'
    → IsGivenBack packet back pipe.core core' → core'.end ≡ None → (core'.end ≡ None → EndsWith b pipe.link packet)
    → PushesOnce settings a pipe packet (record { pipe = with_core pipe core'; back = back }) b
pushed_or_not settings a b pipe bytes packet core' None can drove is_core given going ends =
    pushed_on settings a b pipe bytes packet core' can drove is_core going (ends going)
pushed_or_not settings a b pipe bytes packet core' (Some back) can drove is_core given going ends = absurd (cc (given.1, going))

-- Memory was wanting while it was pushed, and the link was ended.
pub push_stopped : (settings : RebuildSettings) (a b z : Shown) (pipe : BlockPipeline) (packet : Outgoing)
    → StopsShort pipe.link (packet ∷ []) pipe.core a b → WriteEnded b pipe.link z → PushesNot settings a pipe packet errors.NoMemory z
push_stopped settings a b z pipe packet stops gone = record {
  own = own_link_trans a b z (Some pipe.link) (Some pipe.link) None (own_link_on a b pipe.link stops.on) (own_link_ended b z pipe.link gone);
  cause = tt;
  touches = λ p told w.
      let has = w.2 in
      let s = stops.told p has.on.place has.on.settled told has.on.told has.settles in
      let e = told_after (Releases pipe.link) b.picture z.picture s.0 gone.released s.2 in (
        e.0,
        e.1,
        only_block_of_trans (id_of pipe) p s.0 e.0
            (subst (λ (i : ℕ). OnlyBlockOf i p s.0) has.on.block (only_block_of-only has.on.place.block has.on.place.nodes p s.0 s.4.only))
            (released_only (id_of pipe) pipe.link s.0 e.0 s.1 s.3 (s.4.moves.block ∙ has.on.block) e.2),
      );
}

-- A pipeline goes on with no packet more, and then with some.
pub continues_trans : (settings : RebuildSettings) (a b c : Shown) (x y z : BlockPipeline) (m n : ℕ) (came more : List Outgoing)
    → Continues settings a x (traffic m [] (came ++ more)) b y → Continues settings b y (traffic n came more) c z
    → Continues settings a x (traffic (m + n) came more) c z
continues_trans settings a b c x y z m n came more f g =
    let left : y.core.pushed ≡ drop m x.core.pushed = f.pushed ∙ append-nil (drop m x.core.pushed) in
    let safe : total (take m x.core.pushed) + total (take n y.core.pushed) ≡ total (take (m + n) x.core.pushed) =
    sym (total_take x.core.pushed m n ∙ ap (λ (l : List Outgoing). total (take m x.core.pushed) + total (take n l)) (sym left)) in
    record {
      own = own_link_trans a b c (Some x.link) (Some y.link) (Some z.link) f.own g.own;
      keeps = keeps_block_trans x.plan y.plan z.plan f.keeps g.keeps;
      steady = steady_trans a b c x y z f.own.later g.own.later f.steady g.steady;
      few = omega (arith, f.few, g.few, ap length left, length-drop m x.core.pushed);
      pushed =
          g.pushed
          ∙ ap (λ (l : List Outgoing). drop n l ++ came) left
          ∙ ap (λ (l : List Outgoing). l ++ came) (drop-drop n m x.core.pushed ∙ ap (λ (k : ℕ). drop k x.core.pushed) (omega arith));
      standing = g.standing;
      told = λ p s bytes told has.
          let one = f.told p s bytes told has in
          let two = g.told one.0 (s + total (take m x.core.pushed)) bytes one.1 one.2 in (
            two.0,
            two.1,
            subst (λ (k : ℕ). Has two.0 z more k bytes) (omega (arith, safe)) two.2,
            only_block_of_trans (id_of x) p one.0 two.0 one.3 (subst (λ (i : ℕ). OnlyBlockOf i one.0 two.0) f.keeps.id two.3),
            λ s. two.4 (one.4 s),
          );
    }
