-- A datanode is added to those of a pipeline, and is given the block.
use Rattle.std.proofs.Common.{◌≡◌, ◌⊎◌, inl, inr, ℕ, zero, suc, ◌+◌, ◌-◌, ◌<◌, ◌==◌, List, [], ◌∷◌, ◌++◌, length, get_or, take, Some, refl, sym, ◌∙◌, ap, subst, arith}
use Rattle.std.proofs.lemmas.Bool.{cases_Bool, cond-true, cond-false, cond_both, eqb-true, false_from_ne_true, ne_eqb}
use Rattle.std.proofs.lemmas.List.{length-append}
use Rattle.std.proofs.lemmas.List.Elements.{All-from_recursion}
use Rattle.std.proofs.lemmas.Slice.Eq.{bytes_eq-Decides}
use Rattle.std.proofs.lemmas.Option.{slice_get_read}
use Rattle.std.specs.List.{All, AllByRecursion, Contains, slice_get, slice_index_or}
use Rattle.std.specs.Str.{bytes_eq}
use Rattle.hdfs_cluster.specs.declared.messages.DatanodeInfo.{DatanodeInfo}
use Rattle.hdfs_cluster.specs.declared.messages.LocatedBlock.{LocatedBlock}
use Rattle.hdfs_cluster.specs.declared.messages.Transfer.{Transfer}
use Rattle.hdfs_cluster.specs.Effects.{AddsOneOf, HasOneMore}
use Rattle.hdfs_cluster.specs.Picture.{Picture}
use Rattle.hdfs_cluster.specs.Sending.{uuids}
use Rattle.hdfs_cluster.specs.Transferring.{GivesAll, GivesSome}
use Rattle.hdfs_cluster.specs.Writing.{OnlyBlock}
use Rattle.hdfs_block_reader.proofs.Rebuilding.{waits_joins, waits_missed}
use Rattle.hdfs_rebuild.specs.declared.block_plan.BlockPlan.{BlockPlan}
use Rattle.hdfs_rebuild.specs.Between.{OnlyBlockOf}
use Rattle.hdfs_rebuild.specs.Plans.{Known, Waits}
use Rattle.hdfs_rebuild.specs.Replacing.{place_of, place_beside, with_nodes, GivesToAdded}
use Rattle.hdfs_rebuild.proofs.Stepping.{only_block_of-only, written_still}

-- The place at which one more stands is one of the longer list.
pub place_within : (others nodes : List DatanodeInfo) → length nodes ≡ length others + 1 → place_of others nodes < length nodes
place_within [] nodes count = omega (arith, count)
place_within (other ∷ others) [] count = absurd (omega (arith, count))
place_within (other ∷ others) (node ∷ nodes) count =
    cond_both (bytes_eq other.id.datanode_uuid node.id.datanode_uuid) (place_of others nodes + 1) 0 (λ n. n < length (node ∷ nodes))
    (λ same. omega (arith, place_within others nodes (omega (arith, count))))
    (λ apart. omega arith)

pub one_more_long : (existing nodes : List DatanodeInfo) → HasOneMore existing nodes → length nodes ≡ length existing + 1
one_more_long existing nodes one =
    omega (arith, ap length one.is, ap length one.others, length-append one.front (one.node ∷ one.back), length-append one.front one.back)

-- The place beside it is one too, where there are others.
pub beside_within : (place count others : ℕ) → place < count → count ≡ others + 1 → 0 < others → place_beside place < count
beside_within place count others lt is some = elim (cases_Bool (place == 0)) [
  | inl first ↦ omega (arith, cond-true (place == 0) 1 (place - 1) first, eqb-true place 0 first)
  | inr later ↦ omega (arith, cond-false (place == 0) 1 (place - 1) later)
]

-- It is that of the one more, where this is none of the others.
place_is : (front back : List DatanodeInfo) (node : DatanodeInfo) → (Contains (uuids (front ++ back)) node.id.datanode_uuid → ⊥)
    → place_of (front ++ back) (front ++ node ∷ back) ≡ length front
place_is [] [] node never = refl
place_is [] (b ∷ back) node never =
    cond-false (bytes_eq b.id.datanode_uuid node.id.datanode_uuid) (place_of back (b ∷ back) + 1) 0
    (false_from_ne_true (bytes_eq b.id.datanode_uuid node.id.datanode_uuid)
    (λ same. never (0, omega arith, (bytes_eq-Decides b.id.datanode_uuid node.id.datanode_uuid).0 same)))
place_is (f ∷ front) back node never =
    cond-true (bytes_eq f.id.datanode_uuid f.id.datanode_uuid) (place_of (front ++ back) (front ++ node ∷ back) + 1) 0
    ((bytes_eq-Decides f.id.datanode_uuid f.id.datanode_uuid).1 refl)
    ∙ ap (λ n. n + 1) (place_is front back node (λ there. never (suc there.0, omega (arith, there.1), there.2)))
    ∙ omega arith

-- an item before another list is one of its own
found_before : (f : DatanodeInfo) (front back rest : List DatanodeInfo) (source : DatanodeInfo)
    → slice_get ((f ∷ front) ++ rest) (length front) ≡ Some source → Contains (uuids ((f ∷ front) ++ back)) source.id.datanode_uuid
found_before f [] back rest source is =
    let same : f ≡ source = cc in
    (0, omega arith, ap (λ (n : DatanodeInfo). n.id.datanode_uuid) same)
found_before f (g ∷ front) back rest source is =
    let there = found_before g front back rest source is in
    (suc there.0, omega (arith, there.1), there.2)

-- The one beside the added one is one of the others.
beside_there : (front back : List DatanodeInfo) (node source : DatanodeInfo)
    → slice_get (front ++ node ∷ back) (place_beside (length front)) ≡ Some source
    → Contains (uuids (front ++ back)) source.id.datanode_uuid
beside_there [] [] node source is = absurd (cc)
beside_there [] (b ∷ back) node source is =
    let same : b ≡ source = cc in
    (0, omega arith, ap (λ (n : DatanodeInfo). n.id.datanode_uuid) same)
beside_there (f ∷ front) back node source is =
    let before : place_beside (suc (length front)) ≡ length front =
    cond-false (suc (length front) == 0) 1 (suc (length front) - 1) (ne_eqb (suc (length front)) 0 (λ none. omega (arith, none))) ∙ omega arith in
    found_before f front back (node ∷ back) source
    (subst (λ (n : ℕ). slice_get ((f ∷ front) ++ node ∷ back) n ≡ Some source) before is)

added_there : (front back : List DatanodeInfo) (node target : DatanodeInfo) → slice_get (front ++ node ∷ back) (length front) ≡ Some target
    → node ≡ target
added_there [] back node target is = cc
added_there (f ∷ front) back node target is = added_there front back node target is

pub all_in : (xs : List DatanodeInfo) (P : List ℕ → Type 0) → ((name : List ℕ) → Contains (uuids xs) name → P name) → AllByRecursion P (uuids xs)
all_in [] P h = tt
all_in (x ∷ xs) P h =
    (h x.id.datanode_uuid (0, omega arith, refl), all_in xs P (λ name there. h name (suc there.0, omega (arith, there.1), there.2)))

all_with : (front back : List DatanodeInfo) (node : DatanodeInfo) (P : List ℕ → Type 0)
    → ((name : List ℕ) → Contains (uuids (front ++ back)) name → P name) → P node.id.datanode_uuid
    → AllByRecursion P (uuids (front ++ node ∷ back))
all_with [] back node P h here = (here, all_in back P h)
all_with (f ∷ front) back node P h here = (
  h f.id.datanode_uuid (0, omega arith, refl),
  all_with front back node P (λ name there. h name (suc there.0, omega (arith, there.1), there.2)) here,
)

-- What holds of the others and of the one more holds of all.
pub all_of_more : (existing nodes : List DatanodeInfo) (one : HasOneMore existing nodes) (P : List ℕ → Type 0)
    → ((name : List ℕ) → Contains (uuids existing) name → P name) → P one.node.id.datanode_uuid → All P (uuids nodes)
all_of_more existing nodes one P h here =
    All-from_recursion P (uuids nodes)
    (subst (λ (ns : List DatanodeInfo). AllByRecursion P (uuids ns)) (sym one.is)
    (all_with one.front one.back one.node P
    (subst (λ (ns : List DatanodeInfo). (name : List ℕ) → Contains (uuids ns) name → P name) one.others h) here))

-- each of them is one of the others, or none of those that are left out
pub each_apart : (existing excludes nodes : List DatanodeInfo) → AddsOneOf existing excludes nodes
    → All (λ node. Contains (uuids existing) node ⊎ (Contains (uuids excludes) node → ⊥)) (uuids nodes)
each_apart existing excludes nodes adds =
    all_of_more existing nodes adds.0 (λ node. Contains (uuids existing) node ⊎ (Contains (uuids excludes) node → ⊥))
    (λ name there. inl there)
    (inr (λ there. adds.1 (in_back (uuids existing) (uuids excludes) adds.0.node.id.datanode_uuid there)))
  where
    in_back : (xs ys : List (List ℕ)) (x : List ℕ) → Contains ys x → Contains (xs ++ ys) x
    in_back [] ys x there = there
    in_back (y ∷ xs) ys x there = let k = in_back xs ys x there in (suc k.0, omega (arith, k.1), k.2)

-- What gives the added one the block, where these are the copies of what stands at its place and beside it.
pub gives_to_added : (plan : BlockPlan) (located : LocatedBlock) (client : List ℕ) (transfer : Transfer) (target : DatanodeInfo)
    → transfer.targets ≡ target ∷ [] → 0 < length plan.block.locs → length plan.block.storage_types ≡ length plan.block.locs
    → HasOneMore plan.block.locs located.locs → (place beside : ℕ) → place ≡ place_of plan.block.locs located.locs → beside ≡ place_beside place
    → target ≡ get_or located.locs place target → transfer.source ≡ get_or located.locs beside transfer.source
    → transfer.block ≡ plan.block.b
    → transfer.target_storage_types ≡ slice_index_or plan.block.storage_types 0 0 ∷ []
    → transfer.token ≡ located.block_token → transfer.client ≡ client → GivesToAdded plan located client transfer
gives_to_added plan located client transfer target targets some types one place beside at near is source block type token client_is =
    let long = one_more_long plan.block.locs located.locs one in
    let lt : place < length located.locs = omega (arith, at, place_within plan.block.locs located.locs long) in
    let lt' : beside < length located.locs =
    omega (arith, near, beside_within place (length located.locs) (length plan.block.locs) lt long some) in
    record {
      block = block;
      source =
          subst (λ (n : ℕ). slice_get located.locs n ≡ Some transfer.source) (near ∙ ap place_beside at)
          (slice_get_read located.locs (length located.locs) beside transfer.source refl lt' source);
      target = target;
      added =
          subst (λ (n : ℕ). slice_get located.locs n ≡ Some target) at
          (slice_get_read located.locs (length located.locs) place target refl lt is);
      targets = targets;
      types = type ∙ first_alone plan.block.storage_types (omega (arith, some, types));
      token = token;
      named_so = client_is;
    }
  where
    first_alone : (xs : List ℕ) → 0 < length xs → slice_index_or xs 0 0 ∷ [] ≡ take 1 xs
    first_alone [] lt = absurd (omega (arith, lt))
    first_alone (x ∷ xs) lt = refl

-- Over a picture in which a block waits, a datanode is given what the one beside it holds.
module _ (plan : BlockPlan) (excludes : List DatanodeInfo) (located : LocatedBlock) (client : List ℕ) (transfer : Transfer)
    (adds : AddsOneOf plan.block.locs excludes located.locs) (gives : GivesToAdded plan located client transfer)
    (p : Picture) (known : Known) (w : Waits p plan known) where
  abbrev one : HasOneMore plan.block.locs located.locs
  one = adds.0

  stands_at : place_of plan.block.locs located.locs ≡ length one.front
  stands_at =
      subst (λ (ns : List DatanodeInfo). place_of ns located.locs ≡ length one.front) (sym one.others)
      (subst (λ (ns : List DatanodeInfo). place_of (one.front ++ one.back) ns ≡ length one.front) (sym one.is)
      (place_is one.front one.back one.node
      (λ there. adds.1 (in_front (uuids plan.block.locs) (uuids excludes) one.node.id.datanode_uuid
      (subst (λ (ns : List DatanodeInfo). Contains (uuids ns) one.node.id.datanode_uuid) (sym one.others) there)))))
    where
      in_front : (xs ys : List (List ℕ)) (x : List ℕ) → Contains xs x → Contains (xs ++ ys) x
      in_front [] ys x there = absurd (omega (arith, there.1))
      in_front (y ∷ xs) ys x (zero, lt, is) = (0, omega arith, is)
      in_front (y ∷ xs) ys x (suc k, lt, is) =
          let behind = in_front xs ys x (k, omega (arith, lt), is) in (suc behind.0, omega (arith, behind.1), behind.2)

  source_there : Contains (uuids plan.block.locs) transfer.source.id.datanode_uuid
  source_there =
      subst (λ (ns : List DatanodeInfo). Contains (uuids ns) transfer.source.id.datanode_uuid) (sym one.others)
      (beside_there one.front one.back one.node transfer.source
      (subst (λ (ns : List DatanodeInfo). slice_get ns (place_beside (length one.front)) ≡ Some transfer.source) one.is
      (subst (λ (n : ℕ). slice_get located.locs (place_beside n) ≡ Some transfer.source) stands_at gives.source)))

  target_is : one.node ≡ gives.target
  target_is =
      added_there one.front one.back one.node gives.target
      (subst (λ (ns : List DatanodeInfo). slice_get ns (length one.front) ≡ Some gives.target) one.is
      (subst (λ (n : ℕ). slice_get located.locs n ≡ Some gives.target) stands_at gives.added))

  -- It waits with the added one, where that was given it.
  pub waits_added : (q : Picture) → GivesAll transfer p q → Waits q (with_nodes plan located) known
  waits_added q all = record {
    file = written_still p q plan.src plan.block.b plan.block.b all.only.records.names refl w.file;
    block =
        waits_joins p q transfer plan.block.b.block_id (ap (λ b. b.block_id) gives.block) known.listed (uuids plan.block.locs)
        known.safe known.bytes w.block source_there gives.target.id.datanode_uuid (uuids located.locs) (ap uuids gives.targets) all
        (all_of_more plan.block.locs located.locs one
        (λ node. (node ≡ gives.target.id.datanode_uuid) ⊎ Contains (uuids plan.block.locs) node)
        (λ name there. inr there) (inl (ap (λ (n : DatanodeInfo). n.id.datanode_uuid) target_is)));
  }

  -- It waits with the others, where that wasn't.
  pub waits_without : (q : Picture) → GivesSome transfer p q → Waits q plan known
  waits_without q some = record {
    file = written_still p q plan.src plan.block.b plan.block.b some.only.records.names refl w.file;
    block =
        waits_missed p q transfer plan.block.b.block_id (ap (λ b. b.block_id) gives.block) known.listed (uuids plan.block.locs)
        known.safe known.bytes w.block source_there some;
  }

-- what a transfer changes is of its block alone
pub only_given : (transfer : Transfer) (p q : Picture) (id : ℕ) → transfer.block.block_id ≡ id
    → OnlyBlock transfer.block.block_id (uuids transfer.targets) p q → OnlyBlockOf id p q
only_given transfer p q id same only =
    subst (λ (i : ℕ). OnlyBlockOf i p q) same (only_block_of-only transfer.block.block_id (uuids transfer.targets) p q only)
