use Rattle.std.proofs.Common.{◌≡◌, ℕ, ◌+◌, ◌<◌, ◌^◌, Some, None, [], ◌∷◌, ◌++◌, take, get_or, sym, ◌∙◌, ap, subst, arith, rules}
use Rattle.std.proofs.lemmas.List.{take_more}
use Rattle.hdfs_cluster.specs.declared.picture.BlockEntry.{BlockEntry}
use Rattle.hdfs_cluster.specs.Listing.{total}
use Rattle.hdfs_mem_namenode.specs.Memory.{table_of}
use Rattle.hdfs_cluster.specs.Namenode.{LocatesBlocks}
use Rattle.hdfs_mem_namenode.proofs.Locating.{LocatesBlocks-push, total_next, Follow_from-LocatesBlocks}
use Rattle.hdfs_mem_namenode.specs.Soundness.{total_known}
use Rattle.hdfs_mem_namenode.proofs.namenode.locate.Goals as goal

pub loop-id-init : goal.loop-id-init
loop-id-init c =
    let known = total_known (total (table_of c.args.table.now.entries) c.args.file.now.blocks) c.requires in
    record {
      so_far = search rules;
      rest = (known.0, ap (total (table_of c.args.table.now.entries)) c.as_slice-id-items.ensures ∙ known.1, omega (arith, known.2));
    }

pub unreachable-requires : goal.unreachable-requires
unreachable-requires c =
    let next = total_next (table_of c.args.table.now.entries) c.as_slice-id-items.result.now c.loop-id.id-index c.loop-id.at c.loop-id-test.true c.loop-id.invariant.rest in
    let none : table_of c.args.table.now.entries (get_or c.as_slice-id-items.result.now c.loop-id.id-index 0) ≡ None = sym c.in_default.ensures.value in
    absurd (cc (none, next.1))

pub loop-id-preserved : goal.loop-id-preserved
loop-id-preserved c =
    let table = table_of c.args.table.now.entries in
    let ids = c.as_slice-id-items.result.now in
    let i = c.loop-id.id-index in
    let entry = c.in-Some.entry.now in
    let found : table (get_or ids i 0) ≡ Some entry = sym c.in-Some.ensures.value in
    let next = total_next table ids i c.loop-id.at c.loop-id-test.true c.loop-id.invariant.rest in
    let same : next.0 ≡ entry = cc (next.1, found) in
    let block = c.in_ok-located_block.field-0 in
    let here = c.in_ok-located_block.ensures.block in
    record {
      so_far = rw (take_more ids i 0 c.loop-id-test.true, c.in_ok-push.ensures.items) (subst (λ (n : ℕ). LocatesBlocks table 0 (c.loop-id.at + n) (take i ids ++ get_or ids i 0 ∷ []) (c.loop-id.blocks.items ++ block ∷ [])) here.length (LocatesBlocks-push table 0 c.loop-id.at (get_or ids i 0) (take i ids) c.loop-id.blocks.items entry block c.loop-id.invariant.so_far found here));
      rest = (next.2, next.3, subst (λ (e : BlockEntry). c.loop-id.at + e.length + next.2 < 2 ^ 63) same next.4);
    }

pub returns-clause-follow : goal.returns-clause-follow
returns-clause-follow c =
    rw c.from_vec.ensures (Follow_from-LocatesBlocks (table_of c.args.table.now.entries) 0 c.loop-id.at (take c.loop-id.id-index c.as_slice-id-items.result.now) c.loop-id.blocks.items c.loop-id.invariant.so_far)

pub overflow_add-at : goal.overflow_add-at
overflow_add-at c =
    let table = table_of c.args.table.now.entries in
    let ids = c.as_slice-id-items.result.now in
    let i = c.loop-id.id-index in
    let entry = c.in-Some.entry.now in
    let found : table (get_or ids i 0) ≡ Some entry = sym c.in-Some.ensures.value in
    let next = total_next table ids i c.loop-id.at c.loop-id-test.true c.loop-id.invariant.rest in
    let same : next.0 ≡ entry = cc (next.1, found) in
    let below = subst (λ (e : BlockEntry). c.loop-id.at + e.length + next.2 < 2 ^ 63) same next.4 in
    omega (arith, below)
