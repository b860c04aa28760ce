-- What bars a datanode from being added: it is one of some others, or listens where one of them does.
use Rattle.std.proofs.Common.{◌≡◌, ℕ, Bool, true, false, ◌||◌, List, [], ◌∷◌, refl, sym, ◌∙◌}
use Rattle.std.proofs.lemmas.Bool.{false≢true, or_parts}
use Rattle.std.proofs.lemmas.List.Elements.{All-cons, All-nil}
use Rattle.std.proofs.lemmas.Slice.Eq.{bytes_eq-Decides}
use Rattle.std.specs.List.{All}
use Rattle.std.specs.Str.{bytes_eq}
use Rattle.hdfs_cluster.specs.declared.messages.DatanodeInfo.{DatanodeInfo}
use Rattle.hdfs_cluster.specs.Effects.{SameAddress}
use Rattle.hdfs_mem_namenode.specs.Pipelines.{is_addressed}

-- one more test that may bar, among those before it and what was barred
pub one_more : (here before was : Bool) → (here || (before || was)) ≡ ((before || here) || was)
one_more true true was = refl
one_more true false was = refl
one_more false true was = refl
one_more false false was = refl

pub or_false : (b : Bool) → (b || false) ≡ b
or_false true = refl
or_false false = refl

-- a datanode that listens at a host which none of these has has an address of its own
pub own_address : (host : List ℕ) (node : DatanodeInfo) (others : List DatanodeInfo) → node.id.ip_addr ≡ host → is_addressed others host ≡ false
    → All (λ other. SameAddress node.id other.id → ⊥) others
own_address host node [] is free = All-nil (λ other. SameAddress node.id other.id → ⊥)
own_address host node (other ∷ others) is free =
    let parts = or_parts (bytes_eq host other.id.ip_addr) (is_addressed others host) free in
    All-cons (λ other. SameAddress node.id other.id → ⊥) other others
    (λ same. false≢true (sym parts.0 ∙ (bytes_eq-Decides host other.id.ip_addr).1 (sym is ∙ same.0)))
    (own_address host node others is parts.1)
