-- Path after path is counted, until one doesn't begin so.
use Rattle.std.proofs.Common.{◌≡◌, ℕ, true, List, is_some, sym, ap, subst}
use Rattle.std.specs.BTreeMap.{get_by_text}
use Rattle.std.specs.String.{string_bytes}
use Rattle.hdfs_cluster.specs.Names.{is_before}
use Rattle.hdfs_mem_namenode.specs.Memory.{table_of}
use Rattle.hdfs_mem_namenode.proofs.Bytes.{zero_behind}
use Rattle.hdfs_mem_namenode.proofs.Gathering.{Counted, counted_all, counted_more, counted_none, counted_outside}
use Rattle.hdfs_mem_namenode.proofs.Keys.{fewer_from}
use Rattle.hdfs_mem_namenode.proofs.namespace.Namespace.count_on.Goals as goal

pub loop-path-init : goal.loop-path-init
loop-path-init c =
    let names = get_by_text c.args.self.now.names in
    let table = table_of c.args.self.now.table.entries in
    subst (λ (s : List ℕ). Counted names table c.args.front.now s c.args.first c.args.first) (sym c.in_ok-start.ensures) (counted_none names table c.args.front.now c.args.first)

pub loop-path-smaller : goal.loop-path-smaller
loop-path-smaller c =
    let h = c.in-Some.ensures in
    let path = c.in-Some.path.now in
    fewer_from c.args.self.now.names (string_bytes c.loop-path.start) (string_bytes c.in_ok-start-2.start) path (ap is_some h.0) h.1
    (subst (λ (l : List ℕ). is_before path l ≡ true) (sym c.in_ok-start-2.ensures) (zero_behind path))

pub loop-path-preserved : goal.loop-path-preserved
loop-path-preserved c =
    let names = get_by_text c.args.self.now.names in
    let table = table_of c.args.self.now.table.entries in
    let h = c.in-Some.ensures in
    let path = c.in-Some.path.now in
    subst (λ (s : List ℕ). Counted names table c.args.front.now s c.args.first c.with_one-counted.result) (sym c.in_ok-start-2.ensures)
    (counted_more names table c.args.front.now (string_bytes c.loop-path.start) c.args.first c.loop-path.counted c.loop-path.invariant path h.1 h.2 c.in-Some-behind.field-0.now c.in-Some-behind.ensures
    c.in-Some.entry.now c.length_at.result h.0 c.length_at.ensures c.with_one-counted.result c.with_one-counted.ensures)

pub returns-in_default-behind : goal.returns-in_default-behind
returns-in_default-behind c =
    let names = get_by_text c.args.self.now.names in
    let table = table_of c.args.self.now.table.entries in
    let h = c.in-Some.ensures in
    counted_outside names table c.args.front.now (string_bytes c.loop-path.start) c.args.first c.loop-path.counted c.loop-path.invariant c.in-Some.path.now h.1 h.2 c.in_default-behind.ensures

pub returns : goal.returns
returns c =
    let names = get_by_text c.args.self.now.names in
    let table = table_of c.args.self.now.table.entries in
    counted_all names table c.args.front.now (string_bytes c.loop-path.start) c.args.first c.loop-path.counted c.loop-path.invariant c.in_default.ensures
