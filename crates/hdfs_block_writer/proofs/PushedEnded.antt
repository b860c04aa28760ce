-- A packet was pushed, and its pipeline has ended with it or before.
use Rattle.std.proofs.Common.{◌≡◌, ℕ, ◌+◌, ◌^◌, ◌<◌, ◌≤◌, true, List, [], ◌∷◌, ◌++◌, length, drop, Option, Some, None, refl, sym, ◌∙◌, ap, subst, arith}
use Rattle.std.specs.List.{All, slice_index_or}
use Rattle.std.proofs.lemmas.List.{append-nil, length-append}
use Rattle.std.proofs.lemmas.List.Elements.{All-take}
use Rattle.hdfs_wire.specs.Outgoing.{Outgoing}
use Rattle.hdfs_cluster.specs.declared.errors.HdfsError.{HdfsError}
use Rattle.hdfs_cluster.specs.Shown.{Shown}
use Rattle.hdfs_pipeline.specs.Cores.{IsCore}
use Rattle.hdfs_pipeline.specs.Driving.{Drove, IsGivenBack, IsNotLast, taken_in}
use Rattle.hdfs_pipeline.specs.Pipelines.{Done, Pipeline}
use Rattle.hdfs_block_reader.specs.Carrying.{FollowFrom, total}
use Rattle.hdfs_block_reader.proofs.Prefixes.{total_cut, total_join}
use Rattle.hdfs_rebuild.specs.declared.block_plan.BlockPipeline.{BlockPipeline}
use Rattle.hdfs_rebuild.specs.declared.block_plan.RebuildSettings.{RebuildSettings}
use Rattle.hdfs_block_writer.specs.OpenPipelines.{IsStanding}
use Rattle.hdfs_rebuild.specs.Plans.{NoneEndsBefore}
use Rattle.hdfs_block_writer.specs.Pushing.{CameFrom, CanPush, FallsEnded, PushesNot, PushesOnce, RebuildsEnded, bytes_in, with_core}
use Rattle.hdfs_block_writer.proofs.Standing.{standing_drove}

follow_front : (front rest : List Outgoing) (start : ℕ) → FollowFrom start (front ++ rest) → FollowFrom start front
follow_front [] rest start follow = tt
follow_front (x ∷ front) rest start follow = (follow.0, follow_front front rest (start + length x.payload) follow.1)

ends_front : (front rest : List Outgoing) → NoneEndsBefore (front ++ rest) → NoneEndsBefore front
ends_front [] rest ends = tt
ends_front (x ∷ []) rest ends = tt
ends_front (x ∷ y ∷ front) rest ends = (ends.0, ends_front (y ∷ front) rest ends.1)

-- A pipeline that stands, with others to come, does so with none.
pub standing_alone : (settings : RebuildSettings) (shown : Shown) (pipe : BlockPipeline) (more : List Outgoing)
    → IsStanding settings shown pipe more → IsStanding settings shown pipe []
standing_alone settings shown pipe more s = record {
  drives = s.drives;
  is_core = s.is_core;
  block = s.block;
  set_up = s.set_up;
  many = s.many;
  rebuilds = s.rebuilds;
  window = s.window;
  first = s.first;
  follow = subst (FollowFrom s.first) (sym (append-nil pipe.core.pushed)) (follow_front pipe.core.pushed more s.first s.follow);
  ends = subst NoneEndsBefore (sym (append-nil pipe.core.pushed)) (ends_front pipe.core.pushed more s.ends);
}

module _ (settings : RebuildSettings) (a b : Shown) (pipe : BlockPipeline) (bytes : ℕ) (packet : Outgoing) (core' : Pipeline)
    (can : CanPush settings a pipe bytes packet) where
  came_from : (came : List Outgoing) → Drove pipe.link came pipe.core a core' b → CameFrom a pipe.core came b (with_core pipe core')
  came_from came drove = record { drove = drove; going = can.going; drives = can.standing.drives; set_up = can.standing.set_up }

  -- it stands
  pub back_standing : (back : Option Outgoing) → Drove pipe.link (taken_in packet back) pipe.core a core' b → IsCore core'
      → IsStanding settings b (with_core pipe core') []
  back_standing None drove is_core = standing_drove settings pipe (packet ∷ []) [] core' a b drove is_core can.standing
  back_standing (Some back) drove is_core =
      standing_alone settings b (with_core pipe core') (packet ∷ [])
      (standing_drove settings pipe [] (packet ∷ []) core' a b drove is_core can.standing)

  -- none of its packets was the last of the block
  pub back_not_done : (back : Option Outgoing) → Drove pipe.link (taken_in packet back) pipe.core a core' b → core'.end ≡ Some Done → ⊥
  back_not_done back drove is =
      let d = drove.goes.done can.going is in
      last_of d.0 d.1 d.3 (subst (All IsNotLast) d.2 (All-take IsNotLast drove.acknowledged pipe.core.pushed can.more))
    where
      at_end : (front : List Outgoing) (x : Outgoing) → slice_index_or (front ++ x ∷ []) (length front) x ≡ x
      at_end [] x = refl
      at_end (y ∷ front) x = at_end front x

      last_of : (front : List Outgoing) (x : Outgoing) → x.header.last_packet_in_block ≡ true → All IsNotLast (front ++ x ∷ []) → ⊥
      last_of front x last all =
          let no : IsNotLast x = subst IsNotLast (at_end front x) (all (length front) x (omega (arith, length-append front (x ∷ [])))) in
          cc (last, no)

  -- the block has its packets, and the packet
  pub back_few : (back : Option Outgoing) → (drove : Drove pipe.link (taken_in packet back) pipe.core a core' b) → IsGivenBack packet back pipe.core core'
      → (total core'.pushed + bytes_in back ≤ bytes) × (bytes < 2 ^ 63)
  back_few None drove given = (
    omega (
      arith,
      can.few.0,
      total_cut pipe.core.pushed drove.acknowledged,
      ap total drove.goes.pushed,
      total_join (drop drove.acknowledged pipe.core.pushed) (packet ∷ []),
    ),
    can.few.1,
  )
  back_few (Some back) drove given = (
    omega (
      arith,
      can.few.0,
      total_cut pipe.core.pushed drove.acknowledged,
      ap total (drove.goes.pushed ∙ append-nil (drop drove.acknowledged pipe.core.pushed)),
      ap (λ (x : Outgoing). length x.payload) given.0,
    ),
    can.few.1,
  )

  module _ (z : Shown) where
    -- it is rebuilt
    pub back_rebuilt : (back : Option Outgoing) → Drove pipe.link (taken_in packet back) pipe.core a core' b → IsGivenBack packet back pipe.core core'
        → (pipe' : BlockPipeline) → RebuildsEnded settings b (with_core pipe core') z pipe'
        → PushesOnce settings a pipe packet (record { pipe = pipe'; back = back }) z
    back_rebuilt None drove given pipe' rebuilds =
        let r = rebuilds a pipe.core (packet ∷ []) (came_from (packet ∷ []) drove) in
        record { going = r.going; acknowledged = r.acknowledged; continues = r.continues [] can.standing; behind = r.behind }
    back_rebuilt (Some back) drove given pipe' rebuilds = (given.0, rebuilds a pipe.core [] (came_from [] drove))

    -- it is given up
    pub back_given_up : (back : Option Outgoing) → Drove pipe.link (taken_in packet back) pipe.core a core' b → (error : HdfsError)
        → FallsEnded settings b (with_core pipe core') error z → PushesNot settings a pipe packet error z
    back_given_up None drove error falls = falls a pipe.core (packet ∷ []) (came_from (packet ∷ []) drove) []
    back_given_up (Some back) drove error falls = falls a pipe.core [] (came_from [] drove) (packet ∷ [])
