-- The goals of FileLeases::namespaces.
use Rattle.std.proofs.Common.{◌≡◌, map, Contains, ℕ, ◌<◌, ◌↔◌, string_bytes, subst, sym, rules}
use Rattle.std.specs.BTreeMap.{keys}
use Rattle.std.specs.Cmp.Lexicographic.{slice_cmp}
use Rattle.std.specs.List.Sorted.{IsStrictlySortedBy}
use Rattle.std.specs.Ordering.{nat_cmp}
use Rattle.hdfs_leases.specs.Files.{leases_in}
use Rattle.hdfs_leases.proofs.Names.{names_ascend, among_exactly}
use Rattle.hdfs_leases.proofs.file_leases.FileLeases.namespaces.Goals as goal

pub returns-clause-ascending : goal.returns-clause-ascending
returns-clause-ascending c =
    let all : c.names.names ≡ map string_bytes (keys c.args.self.now.named) = search rules in
    subst (IsStrictlySortedBy (slice_cmp nat_cmp)) (sym all) (names_ascend (keys c.args.self.now.named) c.keys-namespace-items.ensures.ordered)

pub returns-clause-exact : goal.returns-clause-exact
returns-clause-exact c = λ name.
    let all : c.names.names ≡ map string_bytes (keys c.args.self.now.named) = search rules in
    subst (λ names. Contains names name ↔ ((id : ℕ) × (0 < leases_in c.args.self.now.named name id))) (sym all)
    (among_exactly c.args.self.now.named c.args.self.now.none_is_empty name)
