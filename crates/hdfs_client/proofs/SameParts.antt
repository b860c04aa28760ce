-- A client with the same parts is the same client.
use mathlib.Core.HLevel.{is_prop→PathP}
use Rattle.std.proofs.Common.{◌≡◌, ℕ, ◌<◌, ◌≤◌, ◌^◌, true, List, [], length, get_or, set, ◌∙◌, ap}
use Rattle.std.proofs.Props.{props}
use Rattle.std.proofs.lemmas.List.{set-get_or}
use Rattle.std.specs.Prelude.{vec_len}
use Rattle.std.specs.declared.alloc.Global.{Global}
use Rattle.std.specs.declared.vec.Vec.{Vec}
use Rattle.hdfs_namenode.specs.declared.protocol.NamenodeProtocol.{NamenodeProtocol}
use Rattle.hdfs_client.specs.Linked.{are_linked, is_rooted}
use Rattle.hdfs_client.specs.declared.client.Client.{Client}

-- a service that is put back as it was
pub put_back : (services : List NamenodeProtocol) (k : ℕ) (before after : NamenodeProtocol) → before ≡ get_or services k before → after ≡ before
    → set services k after ≡ services
put_back services k before after is same = ap (λ (n : NamenodeProtocol). set services k n) (same ∙ is) ∙ set-get_or services k before

pub same_vec : (v w : Vec NamenodeProtocol Global) → v.ptr ≡ w.ptr → v.len ≡ w.len → v.cap ≡ w.cap → v.alloc ≡ w.alloc → v.items ≡ w.items → v ≡ w
same_vec v w at many room owner items = λ i. record {
  ptr = at i;
  len = many i;
  cap = room i;
  alloc = owner i;
  items = items i;
  ok = is_prop→PathP (λ j. (many j ≡ length (items j)) × (many j ≤ room j)) (λ j. hlevel props) v.ok w.ok i;
  small = is_prop→PathP (λ j. room j < 2 ^ 63) (λ j. hlevel props) v.small w.small i;
}

pub same_parts : (a b : Client) → a.alloc ≡ b.alloc → a.mounts ≡ b.mounts → a.services ≡ b.services → a.addresses ≡ b.addresses
    → a.replacement ≡ b.replacement → a.connections ≡ b.connections → a ≡ b
same_parts a b owner mounts services addresses replacement connections = λ i. record {
  alloc = owner i;
  mounts = mounts i;
  services = services i;
  addresses = addresses i;
  replacement = replacement i;
  connections = connections i;
  rooted = is_prop→PathP (λ j. is_rooted (mounts j).home_dir ≡ true) (λ j. hlevel props) a.rooted b.rooted i;
  caught = is_prop→PathP (λ j. (mounts j).fallback.viewfs_path ≡ []) (λ j. hlevel props) a.caught b.caught i;
  linked = is_prop→PathP (λ j. are_linked (vec_len (services j)) (mounts j) ≡ true) (λ j. hlevel props) a.linked b.linked i;
}
