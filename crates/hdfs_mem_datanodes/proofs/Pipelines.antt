-- What datanodes of a pipeline did so far.
use Rattle.std.proofs.Common.{◌≡◌, ℕ, ◌+◌, ◌<◌, Bool, true, false, ◌||◌, List, length, take, get_or, refl, sym, ◌∙◌, ap}
use Rattle.std.proofs.lemmas.List.Folds.{list_any_more}
use Rattle.std.proofs.lemmas.Slice.Eq.{bytes_eq-Decides}
use Rattle.std.specs.Str.{bytes_eq}
use Rattle.hdfs_cluster.specs.declared.messages.DatanodeInfo.{DatanodeInfo}
use Rattle.hdfs_mem_datanodes.specs.declared.datanodes.Datanodes.{Datanodes}
use Rattle.hdfs_mem_datanodes.specs.Nodes.{is_named, SameNodes, SameHeld}

pub same_nodes_refl : (a : Datanodes) → SameNodes a a
same_nodes_refl a = record { there = λ d. refl; count = refl }

pub same_nodes_trans : (a b c : Datanodes) → SameNodes a b → SameNodes b c → SameNodes a c
same_nodes_trans a b c f g = record { there = λ d. g.there d ∙ f.there d; count = g.count ∙ f.count }

pub same_held_refl : (a : Datanodes) → SameHeld a a
same_held_refl a d block = record { bytes = refl; links = λ link. refl }

pub same_held_trans : (a b c : Datanodes) → SameHeld a b → SameHeld b c → SameHeld a c
same_held_trans a b c f g d block = record { bytes = (g d block).bytes ∙ (f d block).bytes; links = λ link. (g d block).links link ∙ (f d block).links link }

-- one datanode more
module _ (locs : List DatanodeInfo) (i : ℕ) (node : DatanodeInfo) (is : node ≡ get_or locs i node) (within : i < length locs) where
  pub named_more : (d : List ℕ) → is_named (take (i + 1) locs) d ≡ (is_named (take i locs) d || bytes_eq d node.id.datanode_uuid)
  named_more d = list_any_more (λ n. bytes_eq d n.id.datanode_uuid) locs i node within ∙ ap (λ (n : DatanodeInfo). is_named (take i locs) d || bytes_eq d n.id.datanode_uuid) (sym is)

  -- it is the one that was just asked, or one of those before it
  pub named_cases : (P : Type 0) (d : List ℕ) → (d ≡ node.id.datanode_uuid → P) → ((d ≡ node.id.datanode_uuid → ⊥) → is_named (take i locs) d ≡ true → P) → is_named (take (i + 1) locs) d ≡ true → P
  named_cases P d here before named = by_test (is_named (take i locs) d) (bytes_eq d node.id.datanode_uuid) (bytes_eq-Decides d node.id.datanode_uuid).0 (bytes_eq-Decides d node.id.datanode_uuid).1 (sym (named_more d) ∙ named) before
    where
      by_test : (s t : Bool) → (t ≡ true → d ≡ node.id.datanode_uuid) → (d ≡ node.id.datanode_uuid → t ≡ true) → (s || t) ≡ true → ((d ≡ node.id.datanode_uuid → ⊥) → s ≡ true → P) → P
      by_test s true same test either go = here (same refl)
      by_test true false same test either go = go (λ is. (let no : false ≡ true = test is in absurd (cc))) refl
      by_test false false same test either go = absurd (cc)
