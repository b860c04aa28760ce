-- One packet more, and which datanodes a set-up names.
use Rattle.std.proofs.Common.{◌≡◌, ℕ, ◌<◌, ◌≤◌, Bool, true, false, ◌||◌, List, [], ◌∷◌, ◌++◌, length, map, drop, get_or, Option, Some, zero, suc, refl, sym, ◌∙◌, ap, arith}
use Rattle.std.proofs.lemmas.List.{map-append, drop-append-le}
use Rattle.std.proofs.lemmas.Slice.Eq.{bytes_eq-Decides}
use Rattle.std.specs.List.{list_any, Contains}
use Rattle.std.specs.Str.{bytes_eq}
use Rattle.hdfs_wire.specs.Outgoing.{Outgoing}
use Rattle.hdfs_cluster.specs.declared.messages.DatanodeInfo.{DatanodeInfo}
use Rattle.hdfs_cluster.specs.Sending.{uuids, end_of, seqno_of, put_packet, put_packets}
use Rattle.hdfs_mem_datanodes.specs.Nodes.{is_named}
use Rattle.hdfs_mem_cluster.specs.Writes.{last_end}

pub last_end-push : (end : Option ℕ) (sent : List Outgoing) (packet : Outgoing) → last_end end (sent ++ packet ∷ []) ≡ Some (end_of packet)
last_end-push end [] packet = refl
last_end-push end (first ∷ sent) packet = last_end-push (Some (end_of first)) sent packet

pub put_packets-push : (bytes : List ℕ) (sent : List Outgoing) (packet : Outgoing) → put_packets bytes (sent ++ packet ∷ []) ≡ put_packet (put_packets bytes sent) packet
put_packets-push bytes [] packet = refl
put_packets-push bytes (first ∷ sent) packet = put_packets-push (put_packet bytes first) sent packet

-- one more waits
pub waiting-push : (sent : List Outgoing) (n : ℕ) (packet : Outgoing) → n ≤ length sent → map seqno_of (drop n (sent ++ packet ∷ [])) ≡ map seqno_of (drop n sent) ++ seqno_of packet ∷ []
waiting-push sent n packet within = ap (map seqno_of) (drop-append-le n sent (packet ∷ []) within) ∙ map-append seqno_of (drop n sent) (packet ∷ [])

true_or : (b : Bool) → (b || true) ≡ true
true_or true = refl
true_or false = refl

-- a datanode of a set-up is named
pub named_at : (locs : List DatanodeInfo) (i : ℕ) → i < length locs → is_named locs (get_or (uuids locs) i []) ≡ true
named_at [] i within = absurd (omega arith)
named_at (node ∷ locs) zero within =
    let own : bytes_eq node.id.datanode_uuid node.id.datanode_uuid ≡ true = (bytes_eq-Decides node.id.datanode_uuid node.id.datanode_uuid).1 refl in
    ap (λ (b : Bool). b || is_named locs node.id.datanode_uuid) own
named_at (node ∷ locs) (suc i) within =
    ap (λ (b : Bool). bytes_eq (get_or (uuids locs) i []) node.id.datanode_uuid || b) (named_at locs i (omega arith)) ∙ true_or (bytes_eq (get_or (uuids locs) i []) node.id.datanode_uuid)

pub named_any : (locs : List DatanodeInfo) (d : List ℕ) → list_any (bytes_eq d) (uuids locs) ≡ is_named locs d
named_any [] d = refl
named_any (node ∷ locs) d = ap (λ (b : Bool). bytes_eq d node.id.datanode_uuid || b) (named_any locs d)

pub contains_named : (locs : List DatanodeInfo) (d : List ℕ) → is_named locs d ≡ true → Contains (uuids locs) d
contains_named [] d is = absurd (cc)
contains_named (node ∷ locs) d is = by_test (bytes_eq d node.id.datanode_uuid) (bytes_eq-Decides d node.id.datanode_uuid).0 is (contains_named locs d)
  where
    by_test : (b : Bool) → (b ≡ true → d ≡ node.id.datanode_uuid) → (b || is_named locs d) ≡ true → (is_named locs d ≡ true → Contains (uuids locs) d) → Contains (node.id.datanode_uuid ∷ uuids locs) d
    by_test true same either rest = (0, omega arith, sym (same refl))
    by_test false same either rest = (let there = rest either in (suc there.0, omega (arith, there.1), there.2))

-- what the datanodes of a set-up answered, by their numbers
pub answered : (h : List ℕ → List ℕ) (locs : List DatanodeInfo) (i : ℕ) → i < length locs → get_or (map (λ node. h node.id.datanode_uuid) locs) i [] ≡ h (get_or (uuids locs) i [])
answered h [] i within = absurd (omega arith)
answered h (node ∷ locs) zero within = refl
answered h (node ∷ locs) (suc i) within = answered h locs i (omega arith)
