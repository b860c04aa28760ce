-- A writer's last packet is pushed, and its pipeline is waited for.
use Rattle.std.proofs.Common.{◌≡◌, ◌⊎◌, ℕ, ◌+◌, ◌<◌, ◌≤◌, ◌^◌, List, [], ◌∷◌, ◌++◌, length, take, drop, Option, Some, None, sym, ◌∙◌, ap, subst, arith}
use Rattle.std.proofs.lemmas.List.{append-nil}
use Rattle.std.proofs.lemmas.List.Elements.{All-drop}
use Rattle.hdfs_wire.specs.Outgoing.{Outgoing}
use Rattle.hdfs_cluster.specs.declared.errors.HdfsError.{HdfsError}
use Rattle.hdfs_cluster.specs.declared.messages.Block.{Block}
use Rattle.hdfs_cluster.specs.Picture.{Picture}
use Rattle.hdfs_cluster.specs.Sending.{uuids}
use Rattle.hdfs_cluster.specs.Shown.{Shown}
use Rattle.hdfs_pipeline.specs.Driving.{IsNotLast}
use Rattle.hdfs_block_reader.specs.Carrying.{HoldsWhole, total}
use Rattle.hdfs_block_writer.specs.Packing.{filling_of}
use Rattle.hdfs_block_reader.proofs.Prefixes.{total_cut, total_join}
use Rattle.hdfs_rebuild.specs.declared.block_plan.BlockPipeline.{BlockPipeline}
use Rattle.hdfs_rebuild.specs.declared.block_plan.BlockPlan.{BlockPlan}
use Rattle.hdfs_rebuild.specs.declared.block_plan.RebuildSettings.{RebuildSettings}
use Rattle.hdfs_block_writer.specs.declared.block_writer.BlockWriter.{BlockWriter}
use Rattle.hdfs_block_writer.specs.BlockWriters.{Carries, GoesOver, IsKept, link_in, link_of, safe_of, start_of}
use Rattle.hdfs_rebuild.specs.Between.{OnlyBlockOf}
use Rattle.hdfs_rebuild.proofs.Stepping.{only_block_of_trans}
use Rattle.hdfs_block_writer.specs.OpenPipelines.{Finishes, GivesUp, IsOver, KeepsBlock, KeepsStamp, OnlyOwnLink, RebuiltOnFailures, id_of}
use Rattle.hdfs_block_writer.specs.Pushing.{CanPush, FinishesNot, IsEnding, Pushes, PushesNot}
use Rattle.hdfs_block_writer.specs.Written.{Closes, EndsBlock, Ends, GaveUp, IsCarrying, Wrote}
use Rattle.hdfs_block_writer.proofs.GoingOn.{gives_up_since, keeps_block_trans, since_steady, steady_end}
use Rattle.hdfs_block_writer.proofs.OwnLinks.{own_link_trans}
use Rattle.hdfs_block_writer.proofs.Sent.{can_push, not_pushed, over_then}
use Rattle.hdfs_block_writer.proofs.Wrote.{pipe_is, same_id}

-- what stays of a plan, which is that of before or was rebuilt
abbrev KeepsAll : Shown → BlockPipeline → BlockPlan → Shown → Type 0
KeepsAll a pipe plan z = KeepsBlock pipe.plan plan × ((plan ≡ pipe.plan) ⊎ RebuiltOnFailures a pipe.plan z plan)

-- The packet that ends the block of a writer, which has sent all others.
module _ (w : BlockWriter) (pipe : BlockPipeline) (packet : Outgoing) (a : Shown) (is : w.pipe ≡ Some pipe) (none : w.packet ≡ None)
    (kept : IsKept w) (over : GoesOver a pipe w) (last : EndsBlock w packet) where
  empty : filling_of w.packet ≡ packet.payload
  empty = ap filling_of none ∙ sym last.empty

  starts_before : total pipe.core.pushed ≤ start_of w
  starts_before = omega (arith, over.starts)

  pub at_end : start_of w ≡ w.length
  at_end = omega (arith, ap (λ (o : Option Outgoing). length (filling_of o)) none)

  pub can_push_last : CanPush w.settings a pipe w.length packet
  can_push_last = can_push a w pipe packet kept over last.begins (omega (arith, at_end, ap length last.empty))

  pub last_not_pushed : (b : Shown) (error : HdfsError) → PushesNot w.settings a pipe packet error b → GaveUp a w error b
  last_not_pushed b error not = not_pushed w pipe packet is kept.filled starts_before empty last.begins a b error not

  -- It was pushed.
  module _ (b : Shown) (pipe' : BlockPipeline) (pushed : Pushes w.settings a pipe packet b pipe') where
    abbrev n : ℕ
    n = pushed.acknowledged

    pub ending : IsEnding pipe'
    ending = (
      pushed.going,
      (drop n pipe.core.pushed, packet, pushed.continues.pushed, last.last, All-drop IsNotLast n pipe.core.pushed over.more),
    )

    total_is : total pipe'.core.pushed ≡ total (drop n pipe.core.pushed)
    total_is = ap total pushed.continues.pushed ∙ total_join (drop n pipe.core.pushed) (packet ∷ []) ∙ omega (arith, ap length last.empty)

    pub few : (total pipe'.core.pushed ≤ w.length) × (w.length < 2 ^ 63)
    few = (
      omega (arith, total_is, total_cut pipe.core.pushed n, starts_before),
      omega (arith, kept.within.0, kept.within.1),
    )

    -- what the writer carries is over the pipeline then
    pub over_now : (p : Picture) → a.picture ≡ Some p → IsCarrying w p
        → (q : Picture) × (b.picture ≡ Some q) × IsOver pipe' [] q × OnlyBlockOf (id_of pipe) p q
    over_now p told c =
        let has = over_then w pipe packet is kept.filled starts_before empty last.begins p c.0 c.1 in
        let m = pushed.continues.told p (safe_of w pipe) c.0 told has in
        (m.0, m.1, (safe_of w pipe + total (take n pipe.core.pushed), c.0, m.2), m.3)

    module _ (z : Shown) where
      -- it isn't acknowledged
      pub not_finished : (error : HdfsError) → FinishesNot w.settings b pipe' error z → GaveUp a w error z
      not_finished error not other there =
          subst (λ (y : BlockPipeline). GivesUp w.settings y (IsCarrying w) a error z) (pipe_is pipe other (sym is ∙ there))
          (gives_up_since w.settings pipe pipe' (IsCarrying w) (IsOver pipe' []) a b z
          (since_steady a b pipe pipe' pushed.continues.own.later pushed.continues.steady) pushed.continues.keeps pushed.continues.own over_now
          error not)

      -- All are acknowledged.
      module _ (plan : BlockPlan) (f : Finishes w.settings b pipe' z plan) where
        whole : (p : Picture) (bytes : List ℕ) → a.picture ≡ Some p → Carries p w bytes
            → (q : Picture) × (z.picture ≡ Some q) × HoldsWhole q (id_of pipe) w.length (uuids plan.block.locs) bytes
            × OnlyBlockOf (id_of pipe) p q × KeepsStamp p pipe.plan q plan
        whole p bytes told c =
            let has = over_then w pipe packet is kept.filled starts_before empty last.begins p bytes c in
            let m = pushed.continues.told p (safe_of w pipe) bytes told has in
            let all : safe_of w pipe + total (take n pipe.core.pushed) + total pipe'.core.pushed ≡ length bytes =
            omega (arith, total_is, total_cut pipe.core.pushed n, starts_before, at_end, c.counted) in
            let x = f.told m.0 (safe_of w pipe + total (take n pipe.core.pushed)) bytes m.1 m.2 all in (
              x.0,
              x.1,
              subst (λ (k : ℕ). HoldsWhole x.0 (id_of pipe) k (uuids plan.block.locs) bytes) (sym c.counted)
                  (subst (λ (i : ℕ). HoldsWhole x.0 i (length bytes) (uuids plan.block.locs) bytes) pushed.continues.keeps.id x.2),
              only_block_of_trans (id_of pipe) p m.0 x.0 m.3 (subst (λ (i : ℕ). OnlyBlockOf i m.0 x.0) pushed.continues.keeps.id x.3),
              λ s. x.4 (m.4 s),
            )

        ends : Ends a w plan z
        ends = record {
          own =
              subst (λ (o : Option ℕ). OnlyOwnLink a o z None) (sym (ap link_in is))
              (own_link_trans a b z (Some pipe.link) (Some pipe'.link) None pushed.continues.own f.own);
          within = f.within;
          keeps = λ other there.
              subst (λ (y : BlockPipeline). KeepsAll a y plan z) (pipe_is pipe other (sym is ∙ there)) (
                keeps_block_trans pipe.plan pipe'.plan plan pushed.continues.keeps f.keeps,
                steady_end a b z pipe pipe' plan pushed.continues.own.later f.own.later pushed.continues.steady f.steady,
              );
          whole = λ p bytes told c.
              let x = whole p bytes told c in
              let same : pipe ≡ c.pipe = pipe_is pipe c.pipe (sym is ∙ c.is) in (
                x.0,
                x.1,
                subst (λ (y : BlockPipeline). HoldsWhole x.0 (id_of y) w.length (uuids plan.block.locs) bytes) same x.2,
                subst (λ (y : BlockPipeline). OnlyBlockOf (id_of y) p x.0) same x.3,
                subst (λ (y : BlockPipeline). KeepsStamp p y.plan x.0 plan) same x.4,
              );
        }

        pub closes : (block : Block) → block ≡ record plan.block.b { num_bytes = w.length } → Closes a w block z
        closes block named = (plan, named, ends)

-- Some bytes were sent before.
pub closes_after : (a b c : Shown) (w x : BlockWriter) (block : Block) → Wrote a w [] b x → Closes b x block c → Closes a w block c
closes_after a b c w x block f g =
    let plan = g.0 in
    let e = g.2 in
    let len : x.length ≡ w.length = omega (arith, f.length) in (
      plan,
      g.1 ∙ ap (λ (n : ℕ). record plan.block.b { num_bytes = n }) len,
      record {
        own = own_link_trans a b c (link_of w) (link_of x) None f.own e.own;
        within = omega (arith, e.within, ap (λ (s : RebuildSettings). s.rebuild_limit) f.keeps.settings);
        keeps = λ pipe is.
            let s = f.stays pipe is in
            let k = e.keeps s.0 s.1 in (
              keeps_block_trans pipe.plan s.0.plan plan s.2 k.0,
              steady_end a b c pipe s.0 plan f.own.later e.own.later s.3 k.1,
            );
        whole = λ p bytes told carried.
            let m = f.carries p bytes told carried in
            let n = e.whole m.0 (bytes ++ []) m.1 m.2 in
            let id = same_id a b w x [] f carried.pipe m.2.pipe carried.is m.2.is in (
              n.0,
              n.1,
              subst (λ (i : ℕ). HoldsWhole n.0 i w.length (uuids plan.block.locs) bytes) id
                  (subst (λ (l : ℕ). HoldsWhole n.0 (id_of m.2.pipe) l (uuids plan.block.locs) bytes) len
                  (subst (HoldsWhole n.0 (id_of m.2.pipe) x.length (uuids plan.block.locs)) (append-nil bytes) n.2)),
              only_block_of_trans (id_of carried.pipe) p m.0 n.0 m.3 (subst (λ (i : ℕ). OnlyBlockOf i m.0 n.0) id n.3),
              λ s. n.4 (m.4 carried.pipe m.2.pipe carried.is m.2.is s),
            );
      },
    )
