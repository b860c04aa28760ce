-- The block is the last one again, or a new one.
use Rattle.std.proofs.Common.{◌≡◌, ◌<◌, inl, inr, ℕ, min, List, [], length, sym, ◌∙◌, ap, subst, arith}
use Rattle.std.specs.BTreeMap.{get_by_text}
use Rattle.std.specs.List.{IsDistinct}
use Rattle.std.specs.Str.{bytes_eq}
use Rattle.hdfs_cluster.specs.Effects.{HasBlock, IsRetried}
use Rattle.hdfs_mem_datanodes.specs.Nodes.{is_named}
use Rattle.hdfs_mem_namenode.specs.Adding.{AddsBehind}
use Rattle.hdfs_mem_namenode.specs.Memory.{table_of}
use Rattle.hdfs_mem_namenode.specs.Spaces.{space_of}
use Rattle.hdfs_mem_namenode.proofs.Placing.{match_weaker, none_free}
use Rattle.hdfs_mem_namenode.proofs.namespace.Namespace.extend.Goals as goal

pub returns-in_ok-give_again-in-Some-retried-clause-added : goal.returns-in_ok-give_again-in-Some-retried-clause-added
returns-in_ok-give_again-in-Some-retried-clause-added c =
    let table = table_of c.args.self.now.table.entries in
    let id = c.in-Some-retried.id in
    let again = subst (λ (ids : List ℕ). IsRetried table ids c.args.previous.now id) c.as_slice-ids.ensures c.in-Some-retried.ensures in
    let h = c.in_ok-give_again-in-Some-retried.ensures in (
      c.in-Some.file.now,
      c.in-Some.ensures,
      inl (record {
        id = id;
        retried = again;
        answered = (h.entry again.entry again.is).0;
        same = λ q. ap (λ names. get_by_text names q) h.names;
        listed = h.table;
      }),
    )

pub returns-in_ok-add_on-in-None-clause-added : goal.returns-in_ok-add_on-in-None-clause-added
returns-in_ok-add_on-in-None-clause-added c =
    let old = space_of c.args.self.now c.args.nodes.now in
    let new = space_of c.add_on.new.self c.args.nodes.now in
    let file = c.in-Some.file.now in
    let previous = c.args.previous.now in
    let excludes = c.args.excludes.now in
    let count = c.args.nodes.now.count in
    let on = c.in_ok-on-in-None.ensures.on in
    let first = λ (last : ℕ) (again : IsRetried old.table file.blocks previous last).
    c.in-None.ensures last (subst (λ (ids : List ℕ). IsRetried old.table ids previous last) (sym c.as_slice-ids.ensures) again) in
    let lacks = λ (none : c.in_ok-on-in-None.on ≡ []). none_free (is_named excludes) (min file.attributes.replication 256) count (omega (arith, c.if-replication-eq0.false)) (sym on ∙ none) in
    match_weaker c.in_ok-add_on-in-None.field-0 _ _ _ _
    (λ none. (
      record {
        file = file;
        is = c.in-Some.ensures;
        is_open = c.if-not-file.false;
        has = subst (λ (ids : List ℕ). HasBlock ids previous) c.as_slice-ids.ensures (c.has_block.ensures.0 c.if-not-has_block.false);
        first = first;
        barred = lacks none.0;
      },
      none.1,
    ))
    (λ block added. (
      file,
      c.in-Some.ensures,
      inr (record {
        first = first;
        some = subst (λ (ns : List (List ℕ)). 0 < length ns) on added.0;
        apart = subst (IsDistinct bytes_eq) on c.in_ok-on-in-None.ensures.apart;
        adds = subst (λ (ns : List (List ℕ)). AddsBehind old c.args.src.now previous ns new block) on added.1;
      }),
    ))
    c.in_ok-add_on-in-None.ensures.added
