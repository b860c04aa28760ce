-- What listed datanodes hold of a block after those of its write link changed.
use Rattle.std.proofs.Common.{◌≡◌, ◌⊎◌, inl, inr, ℕ, suc, zero, ◌<◌, Bool, true, false, List, [], ◌∷◌, length, take, refl, sym, ◌∙◌, ap, subst, arith}
use Rattle.std.proofs.lemmas.Bool.{false≢true}
use Rattle.std.proofs.lemmas.List.{get_or_default}
use Rattle.std.proofs.lemmas.Slice.Eq.{bytes_eq-Decides}
use Rattle.std.specs.List.{All, Contains, slice_index_or}
use Rattle.std.specs.Str.{bytes_eq}
use Rattle.hdfs_cluster.specs.Picture.{Picture}
use Rattle.hdfs_cluster.specs.Stores.{HoldsPrefix}

one_more : (y : List ℕ) (xs : List (List ℕ)) (x : List ℕ) → (y ≡ x → ⊥) → (Contains xs x → ⊥) → (k : ℕ) → k < length (y ∷ xs) → slice_index_or (y ∷ xs) k x ≡ x → ⊥
one_more y xs x apart none zero lt is = apart is
one_more y xs x apart none (suc k) lt is = none (k, omega (arith, lt), is)

contains_behind : (y : List ℕ) (xs : List (List ℕ)) (x : List ℕ) → (y ≡ x → ⊥) → Contains xs x ⊎ (Contains xs x → ⊥) → Contains (y ∷ xs) x ⊎ (Contains (y ∷ xs) x → ⊥)
contains_behind y xs x apart (inl h) = inl (suc h.0, omega (arith, h.1), h.2)
contains_behind y xs x apart (inr none) = inr (λ h. one_more y xs x apart none h.0 h.1 h.2)

contains_by : (b : Bool) (y : List ℕ) (xs : List (List ℕ)) (x : List ℕ) → (b ≡ true → y ≡ x) → (y ≡ x → b ≡ true) → Contains xs x ⊎ (Contains xs x → ⊥) → Contains (y ∷ xs) x ⊎ (Contains (y ∷ xs) x → ⊥)
contains_by true y xs x there back rest = inl (0, omega arith, there refl)
contains_by false y xs x there back rest = contains_behind y xs x (λ same. false≢true (back same)) rest

-- a datanode is one of a list or isn't
pub contains_cases : (xs : List (List ℕ)) (x : List ℕ) → Contains xs x ⊎ (Contains xs x → ⊥)
contains_cases [] x = inr (λ h. absurd (omega (arith, h.1)))
contains_cases (y ∷ xs) x = contains_by (bytes_eq y x) y xs x (bytes_eq-Decides y x).0 (bytes_eq-Decides y x).1 (contains_cases xs x)

-- the datanode with a number is one of the list
pub contains_at : (xs : List (List ℕ)) (i : ℕ) → i < length xs → Contains xs (slice_index_or xs i [])
contains_at xs i within = (i, within, get_or_default xs i (slice_index_or xs i []) [] within)

-- the first of the pipeline is listed first
pub first_listed : (listed nodes : List (List ℕ)) → listed ≡ nodes → 0 < length nodes → (0 < length listed) × (slice_index_or listed 0 (slice_index_or nodes 0 []) ≡ slice_index_or nodes 0 [])
first_listed listed nodes same some = (
  subst (λ (ns : List (List ℕ)). 0 < length ns) (sym same) some,
  ap (λ (ns : List (List ℕ)). slice_index_or ns 0 (slice_index_or nodes 0 [])) same ∙ get_or_default nodes 0 (slice_index_or nodes 0 []) [] some,
)

-- Every listed datanode holds a prefix still, where those of the link do and what others hold stays.
module _ (p q : Picture) (id : ℕ) (listed nodes : List (List ℕ)) (bytes : List ℕ)
    (frame : (node : List ℕ) → (Contains nodes node → ⊥) → q.held node id ≡ p.held node id) (own : (i : ℕ) → i < length nodes → HoldsPrefix (λ node. q.held node id) bytes (slice_index_or nodes i [])) where
  holds_by : (node : List ℕ) → HoldsPrefix (λ n. p.held n id) bytes node → Contains nodes node ⊎ (Contains nodes node → ⊥) → HoldsPrefix (λ n. q.held n id) bytes node
  holds_by node before (inl here) = subst (HoldsPrefix (λ n. q.held n id) bytes) (get_or_default nodes here.0 [] node here.1 ∙ here.2) (own here.0 here.1)
  holds_by node before (inr none) = subst (λ (b : List ℕ). b ≡ take (length b) bytes) (sym (frame node none)) before

  pub listed_after : All (HoldsPrefix (λ node. p.held node id) bytes) listed → All (HoldsPrefix (λ node. q.held node id) bytes) listed
  listed_after before k d lt = holds_by (slice_index_or listed k d) (before k d lt) (contains_cases nodes (slice_index_or listed k d))
