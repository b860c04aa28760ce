-- A packet is pushed again and again, and a pipeline is waited for again and again, as often as it is rebuilt.
use Rattle.std.proofs.Common.{◌≡◌, inl, ⊎_elim, ℕ, ◌+◌, ◌-◌, ◌*◌, ◌<◌, ◌≤◌, List, [], ◌∷◌, length, take, drop, Option, Some, None, refl, sym, ◌∙◌, ap, subst, arith}
use Rattle.std.specs.List.{All}
use Rattle.std.proofs.lemmas.List.{append-nil, drop-append-le, length-append, length-drop}
use Rattle.std.proofs.lemmas.List.Elements.{All-drop}
use Rattle.hdfs_wire.specs.Outgoing.{Outgoing}
use Rattle.hdfs_cluster.specs.declared.errors.HdfsError.{HdfsError}
use Rattle.hdfs_cluster.specs.Shown.{Shown, Later}
use Rattle.hdfs_pipeline.specs.Driving.{EndsInLast, IsNotLast}
use Rattle.hdfs_block_reader.specs.Carrying.{HoldsWhole, total}
use Rattle.hdfs_block_reader.proofs.Prefixes.{total_cut}
use Rattle.hdfs_rebuild.specs.declared.block_plan.BlockPipeline.{BlockPipeline}
use Rattle.hdfs_rebuild.specs.declared.block_plan.BlockPlan.{BlockPlan}
use Rattle.hdfs_rebuild.specs.declared.block_plan.RebuildSettings.{RebuildSettings}
use Rattle.hdfs_cluster.specs.Sending.{uuids}
use Rattle.hdfs_rebuild.specs.Between.{OnlyBlockOf}
use Rattle.hdfs_rebuild.proofs.Stepping.{only_block_of_refl, only_block_of_trans}
use Rattle.hdfs_block_writer.specs.OpenPipelines.{Continues, Finishes, GivesUp, Has, IsOver, IsStanding, IsSteady, id_of, traffic}
use Rattle.hdfs_block_writer.specs.Pushing.{CanPush, FinishesNot, IsEnding, IsRebuilt, Pushes, PushesNot, PushesOnce}
use Rattle.hdfs_block_writer.proofs.GoingOn.{gives_up_since, keeps_block_refl, keeps_block_trans, since_steady, steady_end}
use Rattle.hdfs_block_writer.proofs.OwnLinks.{own_link_refl, own_link_trans}
use Rattle.hdfs_block_writer.proofs.Pushed.{continues_trans}

-- a pipeline goes on as it is
pub continues_refl : (settings : RebuildSettings) (a : Shown) (pipe : BlockPipeline) (more : List Outgoing) → IsStanding settings a pipe more
    → Continues settings a pipe (traffic 0 [] more) a pipe
continues_refl settings a pipe more standing = record {
  own = own_link_refl a (Some pipe.link);
  keeps = keeps_block_refl pipe.plan;
  steady = inl (refl, refl);
  few = omega arith;
  pushed = sym (append-nil pipe.core.pushed);
  standing = standing;
  told = λ p safe bytes told has.
      (p, told, subst (λ (k : ℕ). Has p pipe more k bytes) (omega arith) has, only_block_of_refl (id_of pipe) p, λ s. s);
}

-- what went on was given up then
pub gives_up_behind : (settings : RebuildSettings) (a b c : Shown) (x y : BlockPipeline) (n : ℕ) (more : List Outgoing) (error : HdfsError)
    → Continues settings a x (traffic n [] more) b y → GivesUp settings y (IsOver y more) b error c → GivesUp settings x (IsOver x more) a error c
gives_up_behind settings a b c x y n more error f g =
    gives_up_since settings x y (IsOver x more) (IsOver y more) a b c (since_steady a b x y f.own.later f.steady) f.keeps f.own
    (λ p told w.
    let m = f.told p w.0 w.1 told w.2 in
    (m.0, m.1, (w.0 + total (take n x.core.pushed), w.1, m.2), m.3))
    error g

-- it was rebuilt as often or more often
pub rebuilds_grow : (a b : Shown) (x y : BlockPipeline) → IsSteady a x b y → x.plan.rebuilds ≤ y.plan.rebuilds
rebuilds_grow a b x y steady = ⊎_elim
    (λ same. omega (arith, ap (λ (p : BlockPlan). p.rebuilds) same.0))
    (λ again. omega (arith, again.2))
    steady

-- The packet isn't pushed yet: the pipeline goes on since the first try, and it can be pushed.
pub record TriesAgain (settings : RebuildSettings) (old : Shown) (pipe : BlockPipeline) (bytes : ℕ) (packet : Outgoing) (now : Shown)
    (pipe' : BlockPipeline) : Type 0 where
  pub acknowledged : ℕ
  pub continues : Continues settings old pipe (traffic acknowledged [] (packet ∷ [])) now pipe'
  pub can : CanPush settings now pipe' bytes packet

-- it is pushed, or isn't yet
abbrev pub PushedSoFar : RebuildSettings → Shown → BlockPipeline → ℕ → Outgoing → Option Outgoing → Shown → BlockPipeline → Type 0
PushedSoFar settings old pipe bytes packet None now pipe' = Pushes settings old pipe packet now pipe'
PushedSoFar settings old pipe bytes packet (Some back) now pipe' = (back ≡ packet) × TriesAgain settings old pipe bytes packet now pipe'

-- how many tries are left at most, and one turn once it is pushed
abbrev pub turns_left : RebuildSettings → Option Outgoing → BlockPipeline → ℕ
turns_left settings None pipe = 2 * (settings.rebuild_limit - pipe.plan.rebuilds)
turns_left settings (Some back) pipe = 2 * (settings.rebuild_limit - pipe.plan.rebuilds) + 1

module _ (settings : RebuildSettings) (old : Shown) (pipe : BlockPipeline) (bytes : ℕ) (packet : Outgoing) where
  pub first_try : CanPush settings old pipe bytes packet → TriesAgain settings old pipe bytes packet old pipe
  first_try can = record { acknowledged = 0; continues = continues_refl settings old pipe (packet ∷ []) can.standing; can = can }

  module _ (now new : Shown) (pipe' : BlockPipeline) (tries : TriesAgain settings old pipe bytes packet now pipe') where
    can_still : (next : BlockPipeline) (r : IsRebuilt settings now pipe' [] new next) → CanPush settings new next bytes packet
    can_still next r =
        let c = r.continues (packet ∷ []) tries.can.standing in
        let left : next.core.pushed ≡ drop r.acknowledged pipe'.core.pushed = c.pushed ∙ append-nil (drop r.acknowledged pipe'.core.pushed) in
        record {
          standing = c.standing;
          going = r.going;
          more = subst (All IsNotLast) (sym left) (All-drop IsNotLast r.acknowledged pipe'.core.pushed tries.can.more);
          next = r.behind packet c.standing.first c.standing.follow;
          few = (omega (arith, tries.can.few.0, ap total left, total_cut pipe'.core.pushed r.acknowledged), tries.can.few.1);
        }

    -- it was tried once more
    pub tried_again : (back : Option Outgoing) (next : BlockPipeline)
        → PushesOnce settings now pipe' packet (record { pipe = next; back = back }) new → PushedSoFar settings old pipe bytes packet back new next
    tried_again None next pushes = record {
      going = pushes.going;
      acknowledged = tries.acknowledged + pushes.acknowledged;
      continues =
          continues_trans settings old now new pipe pipe' next tries.acknowledged pushes.acknowledged (packet ∷ []) [] tries.continues
          pushes.continues;
      behind = pushes.behind;
    }
    tried_again (Some back) next (same, r) = (
      same,
      record {
        acknowledged = tries.acknowledged + r.acknowledged;
        continues =
            continues_trans settings old now new pipe pipe' next tries.acknowledged r.acknowledged [] (packet ∷ []) tries.continues
            (r.continues (packet ∷ []) tries.can.standing);
        can = can_still next r;
      },
    )

    pub fewer_turns : (back : Option Outgoing) (next : BlockPipeline)
        → PushesOnce settings now pipe' packet (record { pipe = next; back = back }) new → turns_left settings back next < turns_left settings (Some packet) pipe'
    fewer_turns None next pushes =
        let grow = rebuilds_grow now new pipe' next pushes.continues.steady in
        omega (arith, grow)
    fewer_turns (Some back) next (same, r) =
        let within = (r.continues (packet ∷ []) tries.can.standing).standing.rebuilds in
        omega (arith, r.again, within)

    -- it was given up
    pub not_again : (error : HdfsError) → PushesNot settings now pipe' packet error new → PushesNot settings old pipe packet error new
    not_again error g = gives_up_behind settings old now new pipe pipe' tries.acknowledged (packet ∷ []) error tries.continues g

-- A pipeline whose last packet was pushed goes on since its end was first waited for.
pub record WaitsAgain (settings : RebuildSettings) (old : Shown) (pipe : BlockPipeline) (now : Shown) (pipe' : BlockPipeline) : Type 0 where
  pub acknowledged : ℕ
  pub continues : Continues settings old pipe (traffic acknowledged [] []) now pipe'
  pub ending : IsEnding pipe'

module _ (settings : RebuildSettings) (old : Shown) (pipe : BlockPipeline) where
  pub first_wait : IsStanding settings old pipe [] → IsEnding pipe → WaitsAgain settings old pipe old pipe
  first_wait standing ending = record { acknowledged = 0; continues = continues_refl settings old pipe [] standing; ending = ending }

  -- as many bytes at most
  pub few_still : (bytes : ℕ) (now : Shown) (pipe' : BlockPipeline) → WaitsAgain settings old pipe now pipe' → total pipe.core.pushed ≤ bytes
      → total pipe'.core.pushed ≤ bytes
  few_still bytes now pipe' w few =
      omega (arith, few, total_cut pipe.core.pushed w.acknowledged, ap total (w.continues.pushed ∙ append-nil (drop w.acknowledged pipe.core.pushed)))

  module _ (now new : Shown) (pipe' : BlockPipeline) (w : WaitsAgain settings old pipe now pipe') where
    ends_in_last : (packets left : List Outgoing) (n : ℕ) → EndsInLast packets → left ≡ drop n packets → 0 < length left → EndsInLast left
    ends_in_last packets left n ends is some =
        let front = ends.0 in
        let packet = ends.1 in
        let few : n ≤ length front =
        omega (arith, some, ap length is, length-drop n packets, ap length ends.2, length-append front (packet ∷ [])) in (
          drop n front,
          packet,
          is ∙ ap (drop n) ends.2 ∙ drop-append-le n front (packet ∷ []) few,
          ends.3,
          All-drop IsNotLast n front ends.4,
        )

    pub waits_again : (next : BlockPipeline) → IsRebuilt settings now pipe' [] new next → 0 < length next.core.pushed
        → WaitsAgain settings old pipe new next
    waits_again next r some =
        let c = r.continues [] w.continues.standing in
        let left : next.core.pushed ≡ drop r.acknowledged pipe'.core.pushed = c.pushed ∙ append-nil (drop r.acknowledged pipe'.core.pushed) in
        record {
          acknowledged = w.acknowledged + r.acknowledged;
          continues = continues_trans settings old now new pipe pipe' next w.acknowledged r.acknowledged [] [] w.continues c;
          ending = (r.going, ends_in_last pipe'.core.pushed next.core.pushed r.acknowledged w.ending.1 left some);
        }

    pub fewer_waits : (next : BlockPipeline) → IsRebuilt settings now pipe' [] new next
        → settings.rebuild_limit - next.plan.rebuilds < settings.rebuild_limit - pipe'.plan.rebuilds
    fewer_waits next r =
        let within = (r.continues [] w.continues.standing).standing.rebuilds in
        omega (arith, r.again, within)

    pub not_finished : (error : HdfsError) → FinishesNot settings now pipe' error new → FinishesNot settings old pipe error new
    not_finished error g = gives_up_behind settings old now new pipe pipe' w.acknowledged [] error w.continues g

    pub finished_then : (plan : BlockPlan) → Finishes settings now pipe' new plan → Finishes settings old pipe new plan
    finished_then plan f =
        let left : pipe'.core.pushed ≡ drop w.acknowledged pipe.core.pushed =
        w.continues.pushed ∙ append-nil (drop w.acknowledged pipe.core.pushed) in
        record {
          own = own_link_trans old now new (Some pipe.link) (Some pipe'.link) None w.continues.own f.own;
          keeps = keeps_block_trans pipe.plan pipe'.plan plan w.continues.keeps f.keeps;
          within = f.within;
          steady = steady_end old now new pipe pipe' plan w.continues.own.later f.own.later w.continues.steady f.steady;
          told = λ p safe bytes told has all.
              let m = w.continues.told p safe bytes told has in
              let n = f.told m.0 (safe + total (take w.acknowledged pipe.core.pushed)) bytes m.1 m.2
              (omega (arith, all, total_cut pipe.core.pushed w.acknowledged, ap total left)) in (
                n.0,
                n.1,
                subst (λ (i : ℕ). HoldsWhole n.0 i (length bytes) (uuids plan.block.locs) bytes) w.continues.keeps.id n.2,
                only_block_of_trans (id_of pipe) p m.0 n.0 m.3 (subst (λ (i : ℕ). OnlyBlockOf i m.0 n.0) w.continues.keeps.id n.3),
                λ s. n.4 (m.4 s),
              );
        }

-- a packet that comes back is the one that is pushed, which isn't yet
pub still_more : (settings : RebuildSettings) (old : Shown) (pipe : BlockPipeline) (bytes : ℕ) (packet : Outgoing) (now : Shown)
    (pipe' : BlockPipeline) (o : Option Outgoing) (back : Outgoing) → o ≡ Some back → PushedSoFar settings old pipe bytes packet o now pipe'
    → (back ≡ packet) × TriesAgain settings old pipe bytes packet now pipe'
still_more settings old pipe bytes packet now pipe' o back is so_far =
    subst (λ (x : Option Outgoing). PushedSoFar settings old pipe bytes packet x now pipe') is so_far

-- no count fell
pub later_so_far : (settings : RebuildSettings) (old : Shown) (pipe : BlockPipeline) (bytes : ℕ) (packet : Outgoing) (o : Option Outgoing)
    (now : Shown) (pipe' : BlockPipeline) → PushedSoFar settings old pipe bytes packet o now pipe' → Later old now
later_so_far settings old pipe bytes packet None now pipe' so_far = so_far.continues.own.later
later_so_far settings old pipe bytes packet (Some back) now pipe' so_far = so_far.1.continues.own.later
