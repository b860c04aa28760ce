-- What a change at one key of a map with text keys does to what is looked up.
use Rattle.std.proofs.Common.{◌≡◌, ◌≢◌, ⊎_elim, ℕ, Bool, true, false, ◌&&◌, eqb, cond, List, Option, Some, None, is_some, String, string_bytes, refl, sym, ◌∙◌, ap, subst, arith}
use Rattle.std.specs.Str.{bytes_eq}
use Rattle.std.specs.Map.{update}
use Rattle.std.proofs.lemmas.Slice.Eq.{bytes_eq-Decides}
use Rattle.hdfs_mem_datanodes.specs.declared.datanode.Datanode.{Datanode}
use Rattle.hdfs_mem_datanodes.specs.Nodes.{replica_in, is_here, Joins}
use Rattle.hdfs_mem_datanodes.specs.declared.replica.Replica.{Replica}
use Rattle.hdfs_mem_datanodes.specs.Blocks.{ChangesBlock}
use Rattle.hdfs_mem_datanodes.specs.Replicas.{SameReplica}
use Rattle.std.proofs.lemmas.Map.Text.{btree_map_updates_text}
use Rattle.std.specs.Cmp.Lexicographic.{slice_cmp}
use Rattle.std.specs.String.{string_cmp}
use Rattle.std.specs.Ordering.{nat_cmp}
use Rattle.std.specs.BTreeMap.{BTreeMap, get, get_by_text, UpdatesBy}
use Rattle.std.proofs.lemmas.Bool.{cases_eq}
use Rattle.std.proofs.lemmas.Bool.Decides.{nat_tests}

module _ {X : Type 0} (look after : List ℕ → Option X) (key : List ℕ) (w : X) (updates : (q : List ℕ) → after q ≡ update bytes_eq look key (Some w) q) where
  at_test : (b : Bool) (q : List ℕ) → (b ≡ true → key ≡ q) → key ≢ q → cond b (Some w) (look q) ≡ look q
  at_test true q is apart = absurd (apart (is refl))
  at_test false q is apart = refl

  true_at : (b : Bool) (o : Option X) → b ≡ true → cond b (Some w) o ≡ Some w
  true_at true o is = refl
  true_at false o is = absurd (cc)

  -- the key has the new value
  pub update_at : after key ≡ Some w
  update_at = updates key ∙ true_at (bytes_eq key key) (look key) ((bytes_eq-Decides key key).1 refl)

  -- another key keeps what it has
  pub update_other : (q : List ℕ) → q ≢ key → after q ≡ look q
  update_other q apart = updates q ∙ at_test (bytes_eq key q) q (bytes_eq-Decides key q).0 (λ same. apart (sym same))

  some_at : (b : Bool) (o : Option X) → is_some o ≡ true → is_some (cond b (Some w) o) ≡ true
  some_at true o is = refl
  some_at false o is = is

  -- what is there stays there
  pub update_some : (q : List ℕ) → is_some (look q) ≡ true → is_some (after q) ≡ true
  update_some q is = ap is_some (updates q) ∙ some_at (bytes_eq key q) (look q) is

  here_at : (b : Bool) (o : Option X) → b ≡ true → is_some (cond b (Some w) o) ≡ true
  here_at true o is = refl
  here_at false o is = absurd (cc)

  -- and at the key something is
  pub update_here : (q : List ℕ) → key ≡ q → is_some (after q) ≡ true
  update_here q same = ap is_some (updates q) ∙ here_at (bytes_eq key q) (look q) ((bytes_eq-Decides key q).1 same)

  module _ (R : Option X → Option X → Type 0) (same : (o : Option X) → R o o) (v : X) where
    at_key : (b : Bool) (q : List ℕ) → (b ≡ true → key ≡ q) → look key ≡ Some v → R (Some v) (Some w) → R (look q) (cond b (Some w) (look q))
    at_key true q is was here = subst (λ (o : Option X). R o (Some w)) (sym was ∙ ap look (is refl)) here
    at_key false q is was here = same (look q)

    -- what holds of the old value and the new one at the key, and of each other value and itself, holds at each key
    pub update_related : look key ≡ Some v → R (Some v) (Some w) → (q : List ℕ) → R (look q) (after q)
    update_related was here q =
        subst (λ (o : Option X). R (look q) o) (sym (updates q)) (at_key (bytes_eq key q) q (bytes_eq-Decides key q).0 was here)

  module _ (R : Option X → Option X → Type 0) (same : (o : Option X) → R o o) where
    fresh_at : (b : Bool) (q : List ℕ) → (b ≡ true → key ≡ q) → look key ≡ None → R None (Some w) → R (look q) (cond b (Some w) (look q))
    fresh_at true q is none here = subst (λ (o : Option X). R o (Some w)) (sym none ∙ ap look (is refl)) here
    fresh_at false q is none here = same (look q)

    -- the same where nothing was at the key
    pub update_fresh : look key ≡ None → R None (Some w) → (q : List ℕ) → R (look q) (after q)
    update_fresh none here q =
        subst (λ (o : Option X). R (look q) o) (sym (updates q)) (fresh_at (bytes_eq key q) q (bytes_eq-Decides key q).0 none here)

  module _ (P : List ℕ → Option X → Type 0) where
    new_at : (b : Bool) (q : List ℕ) → (b ≡ true → key ≡ q) → P key (Some w) → P q (look q) → P q (cond b (Some w) (look q))
    new_at true q is here there = subst (λ (k : List ℕ). P k (Some w)) (is refl) here
    new_at false q is here there = there

    -- what holds of the new value and of each old one holds at each key
    pub update_all : P key (Some w) → ((q : List ℕ) → P q (look q)) → (q : List ℕ) → P q (after q)
    update_all here there q = subst (P q) (sym (updates q)) (new_at (bytes_eq key q) q (bytes_eq-Decides key q).0 here (there q))

-- a datanode that holds nothing
abbrev pub IsNew : Option Datanode → Type 0
IsNew o = (block : ℕ) → replica_in o block ≡ None

pub joins_refl : (o : Option Datanode) → Joins o o
joins_refl o = record { there = λ is. is; replicas = λ block. refl }

pub joins_trans : (a b c : Option Datanode) → Joins a b → Joins b c → Joins a c
joins_trans a b c f g = record { there = λ is. g.there (f.there is); replicas = λ block. g.replicas block ∙ f.replicas block }

-- a datanode that is new has joined
pub joins_new : (w : Datanode) → IsNew (Some w) → Joins None (Some w)
joins_new w new = record { there = λ is. refl; replicas = new }

pub same_replica_refl : (o : Option Replica) → SameReplica o o
same_replica_refl o = record { bytes = refl; links = λ link. refl }

-- one datanode alone has changed, and of its replicas one alone
module _ (look after : List ℕ → Option Datanode) (key : List ℕ) (v w : Datanode) (updates : (q : List ℕ) → after q ≡ update bytes_eq look key (Some w) q) (was : look key ≡ Some v) (block : ℕ) (change : ChangesBlock block v w) where
  pub change_there : (d : List ℕ) → is_some (after d) ≡ is_some (look d)
  change_there = update_related look after key w updates (λ o n. is_some n ≡ is_some o) (λ o. refl) v was refl

  module _ (P : List ℕ → ℕ → Option Replica → Option Replica → Type 0) (here : P key block (get nat_cmp v.blocks block) (get nat_cmp w.blocks block)) (apart : (d : List ℕ) (b : ℕ) → (d ≡ key → b ≡ block → ⊥) → (o : Option Replica) → P d b o o) where
    at_node : (b : ℕ) → P key b (get nat_cmp v.blocks b) (get nat_cmp w.blocks b)
    at_node b = ⊎_elim
        (λ same. subst (λ (k : ℕ). P key k (get nat_cmp v.blocks k) (get nat_cmp w.blocks k)) (sym same) here)
        (λ other. subst (λ (o : Option Replica). P key b (get nat_cmp v.blocks b) o) (sym (change.others b other)) (apart key b (λ node same. other same) (get nat_cmp v.blocks b)))
        (cases_eq b block)

    by_test : (t : Bool) (d : List ℕ) (b : ℕ) → (t ≡ true → key ≡ d) → (key ≡ d → t ≡ true) → P d b (replica_in (look d) b) (replica_in (cond t (Some w) (look d)) b)
    by_test true d b is test = subst (λ (k : List ℕ). P k b (replica_in (look k) b) (replica_in (Some w) b)) (is refl) (subst (λ (o : Option Datanode). P key b (replica_in o b) (replica_in (Some w) b)) (sym was) (at_node b))
    by_test false d b is test = apart d b (λ same block_same. (let no : false ≡ true = test (sym same) in absurd (cc))) (replica_in (look d) b)

    -- what holds of the replica that changed, and of each other one and itself, holds of each
    pub change_each : (d : List ℕ) (b : ℕ) → P d b (replica_in (look d) b) (replica_in (after d) b)
    change_each d b = subst (λ (o : Option Datanode). P d b (replica_in (look d) b) (replica_in o b)) (sym (updates d)) (by_test (bytes_eq key d) d b (bytes_eq-Decides key d).0 (bytes_eq-Decides key d).1)

  -- the same where nothing depends on which it is
  pub change_related : (R : Option Replica → Option Replica → Type 0) → ((o : Option Replica) → R o o) → R (get nat_cmp v.blocks block) (get nat_cmp w.blocks block) → (d : List ℕ) (b : ℕ) → R (replica_in (look d) b) (replica_in (after d) b)
  change_related R same here = change_each (λ d b. R) here (λ d b apart. same)

-- the test on a replica is that it is this one
pub here_true : (uuid : List ℕ) (block : ℕ) → is_here uuid block uuid block ≡ true
here_true uuid block =
    let node : bytes_eq uuid uuid ≡ true = (bytes_eq-Decides uuid uuid).1 refl in
    let number : eqb block block ≡ true = grind (arith, nat_tests) in
    ap (λ (b : Bool). b && eqb block block) node ∙ number

pub here_false : (uuid : List ℕ) (block : ℕ) (d : List ℕ) (b : ℕ) → (d ≡ uuid → b ≡ block → ⊥) → is_here uuid block d b ≡ false
here_false uuid block d b apart = by_tests (bytes_eq d uuid) (eqb block b) (bytes_eq-Decides d uuid).0 (λ is. sym (number is)) apart
  where
    number : eqb block b ≡ true → block ≡ b
    number is = grind (arith, nat_tests)

    by_tests : (s t : Bool) → (s ≡ true → d ≡ uuid) → (t ≡ true → b ≡ block) → (d ≡ uuid → b ≡ block → ⊥) → (s && t) ≡ false
    by_tests true true node same apart = absurd (apart (node refl) (same refl))
    by_tests true false node same apart = refl
    by_tests false t node same apart = refl

-- What becomes of a map of datanodes where one of them was lent, and one of its replicas alone has changed.
pub record Lent {Y : Type 0} (m n : BTreeMap (String Y) Datanode) (uuid : List ℕ) (block : ℕ) (v w : Datanode) : Type 1 where
  -- what is there stays, and no datanode comes
  pub stays : (d : List ℕ) → is_some (get_by_text m d) ≡ true → is_some (get_by_text n d) ≡ true
  pub there : (d : List ℕ) → is_some (get_by_text n d) ≡ is_some (get_by_text m d)
  -- this one has changed, and the others haven't
  pub here : get_by_text n uuid ≡ Some w
  pub others : (d : List ℕ) → d ≢ uuid → get_by_text n d ≡ get_by_text m d
  -- what holds of the replica that changed, and of each other one and itself, holds of each
  pub each : (P : List ℕ → ℕ → Option Replica → Option Replica → Type 0) → P uuid block (get nat_cmp v.blocks block) (get nat_cmp w.blocks block)
      → ((d : List ℕ) (b : ℕ) → (d ≡ uuid → b ≡ block → ⊥) → (o : Option Replica) → P d b o o)
      → (d : List ℕ) (b : ℕ) → P d b (replica_in (get_by_text m d) b) (replica_in (get_by_text n d) b)
  -- the same where nothing depends on which it is
  pub related : (R : Option Replica → Option Replica → Type 0) → ((o : Option Replica) → R o o) → R (get nat_cmp v.blocks block) (get nat_cmp w.blocks block)
      → (d : List ℕ) (b : ℕ) → R (replica_in (get_by_text m d) b) (replica_in (get_by_text n d) b)

pub lent : {Y : Type 0} (m n : BTreeMap (String Y) Datanode) (uuid : List ℕ) (block : ℕ) (v w : Datanode) → UpdatesBy string_cmp (λ k. slice_cmp nat_cmp uuid (string_bytes k)) m n (Some w)
    → Some v ≡ get_by_text m uuid → ChangesBlock block v w → Lent m n uuid block v w
lent m n uuid block v w lends is change =
    let look = get_by_text m in
    let after = get_by_text n in
    let updates = btree_map_updates_text uuid m n (Some w) lends in
    let was = sym is in
    record {
      stays = update_some look after uuid w updates;
      there = change_there look after uuid v w updates was block change;
      here = update_at look after uuid w updates;
      others = update_other look after uuid w updates;
      each = change_each look after uuid v w updates was block change;
      related = change_related look after uuid v w updates was block change;
    }
