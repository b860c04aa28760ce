-- A block goes on over another pipeline: the packets that aren't acknowledged are sent again, and the table names its datanodes.
use Rattle.std.proofs.Common.{take-append-drop, eq-eqb, ◌≡◌, ℕ, suc, zero, ◌+◌, ◌<◌, ◌==◌, List, [], ◌∷◌, ◌++◌, length, take, drop, Some, refl, sym, ◌∙◌, ap, subst, arith, append_assoc}
use Rattle.std.proofs.lemmas.Bool.{cond-true}
use Rattle.std.proofs.lemmas.List.{append-nil, get_or_default}
use Rattle.std.specs.List.{slice_index_or}
use Rattle.hdfs_wire.specs.Outgoing.{Outgoing}
use Rattle.hdfs_cluster.specs.declared.messages.Block.{Block}
use Rattle.hdfs_cluster.specs.declared.messages.DatanodeId.{DatanodeId}
use Rattle.hdfs_cluster.specs.declared.picture.BlockEntry.{BlockEntry}
use Rattle.hdfs_cluster.specs.Effects.{NamesPipeline, names_of}
use Rattle.hdfs_cluster.specs.Picture.{Picture}
use Rattle.hdfs_cluster.specs.Stores.{HoldsPrefix}
use Rattle.hdfs_cluster.specs.Writing.{Sends, IsBehind}
use Rattle.hdfs_block_reader.specs.Carrying.{total, joined, AreSlices, FollowFrom, Awaits, LinkHolds, LinkCarries, LinkGoesOn}
use Rattle.hdfs_block_reader.specs.Rebuilding.{IsListed, BlockHolds}
use Rattle.hdfs_block_reader.proofs.Further.{link_further}
use Rattle.hdfs_block_reader.proofs.Links.{each_holds, holds_stays, link_sends, next_at}
use Rattle.hdfs_block_reader.proofs.Prefixes.{total_cut, joined_behind, slices_front}
use Rattle.hdfs_block_reader.proofs.Rebuilding.{block_further}

-- Behind the first of some packets, the payloads of the others with what is behind them are the bytes from there on.
pub kept_after : (bytes rest : List ℕ) (packets : List Outgoing) (k at : ℕ) → joined packets ++ rest ≡ drop at bytes
    → joined (drop k packets) ++ rest ≡ drop (at + total (take k packets)) bytes
kept_after bytes rest packets k at kept =
    joined_behind bytes (take k packets) (drop k packets) rest at
    (ap (λ (l : List Outgoing). joined l ++ rest) (take-append-drop k packets) ∙ kept)

-- Packets that stand one behind another do so behind the first of them.
pub follow_drop : (packets : List Outgoing) (k at : ℕ) → FollowFrom at packets → FollowFrom (at + total (take k packets)) (drop k packets)
follow_drop [] zero at follow = tt
follow_drop [] (suc k) at follow = tt
follow_drop (p ∷ packets) zero at follow = subst (λ (n : ℕ). FollowFrom n (p ∷ packets)) (omega arith) follow
follow_drop (p ∷ packets) (suc k) at follow =
    subst (λ (n : ℕ). FollowFrom n (drop k packets)) (omega arith) (follow_drop packets k (at + length p.payload) follow.1)

-- a packet among slices is a slice where those before it end
slices_next : (bytes : List ℕ) (front rest : List Outgoing) (p : Outgoing) (at : ℕ) → AreSlices bytes at (front ++ p ∷ rest)
    → AreSlices bytes (at + total front) (p ∷ [])
slices_next bytes [] rest p at slices =
    subst (λ (n : ℕ). AreSlices bytes n (p ∷ [])) (omega arith) (slices.0, slices.1, slices.2, tt)
slices_next bytes (q ∷ front) rest p at slices =
    subst (λ (n : ℕ). AreSlices bytes n (p ∷ [])) (omega arith) (slices_next bytes front rest p (at + length q.payload) slices.3)

-- these packets were sent on a link, one after another
abbrev pub Replayed : ℕ → List Outgoing → Picture → Picture → Type 0
Replayed link [] p q = p ≡ q
Replayed link (packet ∷ packets) p q = (r : Picture) × Sends link (IsBehind packet) p r × Replayed link packets r q

-- Behind packets that were sent others are: the link carries them too, and the block table stays.
pub replay_carries : (p q : Picture) (link id : ℕ) (nodes : List (List ℕ)) (safe : ℕ) (sent packets : List Outgoing) (bytes : List ℕ)
    → LinkCarries p link id nodes safe sent bytes → AreSlices bytes safe (sent ++ packets) → Replayed link packets p q
    → LinkCarries q link id nodes safe (sent ++ packets) bytes × ((other : ℕ) → q.table other ≡ p.table other)
replay_carries p q link id nodes safe sent [] bytes c slices steps = (
  subst (λ (r : Picture). LinkCarries r link id nodes safe (sent ++ []) bytes) steps
      (subst (λ (l : List Outgoing). LinkCarries p link id nodes safe l bytes) (sym (append-nil sent)) c),
  λ other. ap (λ (r : Picture). r.table other) (sym steps),
)
replay_carries p q link id nodes safe sent (packet ∷ packets) bytes c slices steps =
    let one = link_sends p link id nodes safe sent bytes c steps.0 packet steps.1 (slices_next bytes sent packets packet safe slices) in
    let same : (sent ++ packet ∷ []) ++ packets ≡ sent ++ packet ∷ packets = append_assoc sent (packet ∷ []) packets in
    let all = replay_carries steps.0 q link id nodes safe (sent ++ packet ∷ []) packets bytes one
    (subst (AreSlices bytes safe) (sym same) slices) steps.2 in (
      subst (λ (l : List Outgoing). LinkCarries q link id nodes safe l bytes) same all.0,
      λ other. all.1 other ∙ steps.1.0.records.table other,
    )

-- The same over several calls, where nothing was sent before.
module _ (p q : Picture) (link id : ℕ) (nodes : List (List ℕ)) (safe : ℕ) (bytes : List ℕ) (c : LinkCarries p link id nodes safe [] bytes)
    (further : LinkGoesOn p q link c.on.place) (packets : List Outgoing) (slices : AreSlices bytes safe packets) where
  -- the packets were sent, the first k of them are acknowledged, and the others wait
  pub replay_further : (k : ℕ) → further.more ≡ packets → Awaits further.later (drop k packets)
      → LinkCarries q link id nodes (safe + total (take k packets)) (drop k packets) bytes
  replay_further k more awaits =
      link_further p q link id nodes safe [] bytes c further
      (subst (AreSlices bytes (safe + total [])) (sym more) (subst (λ (n : ℕ). AreSlices bytes n packets) (omega arith) slices))
      (safe + total (take k packets)) (drop k packets) awaits (omega (arith, ap total more, total_cut packets k))

  -- Some of the packets alone were sent, and then anything failed: the block has what stays whatever fails. The table may list others.
  pub replay_fails : (listed : List (List ℕ)) (rest : List Outgoing) → packets ≡ further.more ++ rest → 0 < length nodes
      → IsListed p id listed bytes → BlockHolds q id link listed nodes safe bytes
  replay_fails listed rest parts some lists =
      block_further p q id link listed nodes safe bytes (record { on = c.on; some = some; lists = lists }) further
      (slices_front bytes further.more rest (c.on.start + total c.on.place.sent)
      (subst (AreSlices bytes (c.on.start + total c.on.place.sent)) parts
      (subst (λ (n : ℕ). AreSlices bytes n packets) (omega (arith, next_at p link id nodes safe [] bytes c)) slices)))

-- what the table has of a block whose pipeline was named
pub named_entry : (p q : Picture) (block block' : Block) (nodes : List DatanodeId) → NamesPipeline block block' nodes p q
    → (entry : BlockEntry) × (q.table block.block_id ≡ Some entry) × (entry.nodes ≡ names_of nodes)
named_entry p q block block' nodes named =
    let entry : BlockEntry = record { length = named.entry.length; stamp = block'.generation_stamp; nodes = names_of nodes } in (
      entry,
      named.changes.table block.block_id
          ∙ cond-true (block.block_id == block.block_id) (Some entry) (p.table block.block_id) (eq-eqb block.block_id block.block_id refl),
      refl,
    )

-- Where the table lists the datanodes of a link, each of them holds a prefix.
listed_by_link : (p : Picture) (link id : ℕ) (nodes : List (List ℕ)) (safe : ℕ) (bytes : List ℕ) → LinkHolds p link id nodes safe bytes
    → (entry : BlockEntry) → p.table id ≡ Some entry → entry.nodes ≡ nodes → IsListed p id nodes bytes
listed_by_link p link id nodes safe bytes on entry is same = record {
  entry = entry;
  is = is;
  same_nodes = same;
  prefixes = λ k d lt.
      subst (HoldsPrefix (λ node. p.held node id) bytes) (sym (get_or_default nodes k d [] lt))
      (each_holds p link id nodes safe bytes on k lt).0;
}

-- The pipeline of a block is named.
module _ (p q : Picture) (id : ℕ) (nodes : List (List ℕ)) (block block' : Block) (named : List DatanodeId)
    (names : NamesPipeline block block' named p q) (same : block.block_id ≡ id) (those : names_of named ≡ nodes) where
  -- the table lists its datanodes
  entry_named : (entry : BlockEntry) × (q.table id ≡ Some entry) × (entry.nodes ≡ nodes)
  entry_named =
      let e = named_entry p q block block' named names in
      (e.0, subst (λ (i : ℕ). q.table i ≡ Some e.0) same e.1, e.2 ∙ those)

  -- The block has what stays whatever fails, as it had; now the table lists the datanodes of its link.
  pub holds_named : (link : ℕ) (listed : List (List ℕ)) (safe : ℕ) (bytes : List ℕ) → BlockHolds p id link listed nodes safe bytes
      → BlockHolds q id link nodes nodes safe bytes
  holds_named link listed safe bytes c =
      let on : LinkHolds q link id nodes safe bytes =
      holds_stays p link id nodes safe bytes c.on q (names.changes.bytes.writes link ∙ c.on.told)
      (λ i lt. names.changes.bytes.held (slice_index_or nodes i []) id) in
      record {
        on = on;
        some = c.some;
        lists = listed_by_link q link id nodes safe bytes on entry_named.0 entry_named.1 entry_named.2;
      }
