-- The datanodes that have failed are left out of a pipeline.
use Rattle.std.proofs.Common.{◌≡◌, ◌⊎◌, inl, inr, ⊎_elim, ℕ, zero, suc, ◌+◌, ◌<◌, true, ◌==◌, List, [], ◌∷◌, length, Option, Some, None, refl, sym, ◌∙◌, ap, subst, arith}
use Rattle.std.proofs.lemmas.Bool.{cases_Bool, cond_both, eqb-true, or_cases}
use Rattle.std.proofs.lemmas.List.Elements.{All-from_recursion}
use Rattle.std.specs.List.{All, AllByRecursion, Contains, list_any, slice_get, slice_index_or}
use Rattle.hdfs_cluster.specs.declared.messages.DatanodeInfo.{DatanodeInfo}
use Rattle.hdfs_cluster.specs.Picture.{Picture}
use Rattle.hdfs_cluster.specs.Sending.{uuids}
use Rattle.hdfs_block_reader.proofs.Rebuilding.{waits_left}
use Rattle.hdfs_rebuild.specs.declared.block_plan.BlockPlan.{BlockPlan}
use Rattle.hdfs_rebuild.specs.Plans.{Known, Waits, without, block_without, nodes_at, one_before}

-- what is one of a list is one of a longer one
later_there : (x : List ℕ) (xs : List (List ℕ)) (y : List ℕ) → Contains xs y → Contains (x ∷ xs) y
later_there x xs y there = (suc there.0, omega (arith, there.1), there.2)

among : (at : ℕ) (places : List ℕ) (items : List DatanodeInfo) (P : List ℕ → Type 0)
    → ((name : List ℕ) → Contains (uuids items) name → P name) → AllByRecursion P (uuids (without at places items))
among at places [] P h = tt
among at places (item ∷ items) P h =
    let rest = among (at + 1) places items P (λ name there. h name (later_there item.id.datanode_uuid (uuids items) name there)) in
    cond_both (list_any (λ place. place == at) places) (without (at + 1) places items) (item ∷ without (at + 1) places items)
    (λ left. AllByRecursion P (uuids left))
    (λ gone. rest)
    (λ stays. (h item.id.datanode_uuid (0, omega arith, refl), rest))

-- Each datanode that is left was one before.
pub left_among : (places : List ℕ) (items : List DatanodeInfo) → All (Contains (uuids items)) (uuids (without 0 places items))
left_among places items =
    All-from_recursion (Contains (uuids items)) (uuids (without 0 places items)) (among 0 places items (Contains (uuids items)) (λ name there. there))

behind_one : (item : Option DatanodeInfo) (items : List DatanodeInfo) (name : List ℕ) → Contains (uuids items) name
    → Contains (uuids (one_before item items)) name
behind_one None items name there = there
behind_one (Some item) items name there = later_there item.id.datanode_uuid (uuids items) name there

-- a datanode whose place is among some is one of those at these places
picked : (all : List DatanodeInfo) (places : List ℕ) (at : ℕ) (item : DatanodeInfo) → slice_get all at ≡ Some item
    → list_any (λ place. place == at) places ≡ true → Contains (uuids (nodes_at all places)) item.id.datanode_uuid
picked all [] at item is any = absurd (cc)
picked all (place ∷ places) at item is any = ⊎_elim
    (λ here.
    let same : place ≡ at = eqb-true place at here in
    subst (λ (o : Option DatanodeInfo). Contains (uuids (one_before o (nodes_at all places))) item.id.datanode_uuid)
    (sym (ap (slice_get all) same ∙ is)) (0, omega arith, refl))
    (λ later. behind_one (slice_get all place) (nodes_at all places) item.id.datanode_uuid (picked all places at item is later))
    (or_cases (place == at) (list_any (λ p. p == at) places) any)

shifted : (all items : List DatanodeInfo) (item : DatanodeInfo) (at : ℕ)
    → ((k : ℕ) (x : DatanodeInfo) → slice_get (item ∷ items) k ≡ Some x → slice_get all (at + k) ≡ Some x)
    → (k : ℕ) (x : DatanodeInfo) → slice_get items k ≡ Some x → slice_get all ((at + 1) + k) ≡ Some x
shifted all items item at h k x is = ap (slice_get all) (omega arith) ∙ h (suc k) x is

left_or_picked : (all : List DatanodeInfo) (places : List ℕ) (at : ℕ) (items : List DatanodeInfo)
    → ((k : ℕ) (x : DatanodeInfo) → slice_get items k ≡ Some x → slice_get all (at + k) ≡ Some x)
    → (name : List ℕ) (k : ℕ) → k < length (uuids items) → slice_index_or (uuids items) k name ≡ name
    → Contains (uuids (without at places items)) name ⊎ Contains (uuids (nodes_at all places)) name
left_or_picked all places at [] h name k lt is = absurd (omega (arith, lt))
left_or_picked all places at (item ∷ items) h name zero lt is = elim (cases_Bool (list_any (λ place. place == at) places)) [
  | inl gone ↦
      inr (subst (Contains (uuids (nodes_at all places))) is (picked all places at item (ap (slice_get all) (omega arith) ∙ h 0 item refl) gone))
  | inr stays ↦ inl (rw stays (0, omega arith, is))
]
left_or_picked all places at (item ∷ items) h name (suc k) lt is = ⊎_elim
    (λ left. inl (cond_both (list_any (λ place. place == at) places) (without (at + 1) places items) (item ∷ without (at + 1) places items)
    (λ these. Contains (uuids these) name)
    (λ gone. left)
    (λ stays. later_there item.id.datanode_uuid (uuids (without (at + 1) places items)) name left)))
    (λ there. inr there)
    (left_or_picked all places (at + 1) items (shifted all items item at h) name k (omega (arith, lt)) is)

-- Each datanode is left, or it is at one of the places.
pub left_or_failed : (places : List ℕ) (items : List DatanodeInfo) (name : List ℕ) → Contains (uuids items) name
    → Contains (uuids (without 0 places items)) name ⊎ Contains (uuids (nodes_at items places)) name
left_or_failed places items name there =
    left_or_picked items places 0 items (λ k x is. ap (slice_get items) (omega arith) ∙ is) name there.0 there.1 there.2

-- the plan without the datanodes at some places, rebuilt once more
abbrev pub left_plan : BlockPlan → List ℕ → BlockPlan
left_plan plan failed = record plan { block = block_without failed plan.block; rebuilds = plan.rebuilds + 1 }

-- A block that waits for a pipeline waits for one without these.
pub waits_for_left : (p : Picture) (plan : BlockPlan) (failed : List ℕ) (known : Known) → Waits p plan known → Waits p (left_plan plan failed) known
waits_for_left p plan failed known w = record {
  file = record { file = w.file.file; named = w.file.named; is_open = w.file.is_open; has = w.file.has };
  block =
      waits_left p plan.block.b.block_id known.listed (uuids plan.block.locs) (uuids (without 0 failed plan.block.locs)) known.safe known.bytes
      w.block (left_among failed plan.block.locs);
}
