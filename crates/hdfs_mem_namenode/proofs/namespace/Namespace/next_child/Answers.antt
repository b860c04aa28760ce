-- Entry after entry is taken: one that lies in a directory of the directory is passed over, with all that lies there.
use Rattle.std.proofs.Common.{Global, String, ◌++◌, ◌∷◌, [], ℕ, List, sym, ◌∙◌, ap, arith}
use Rattle.std.specs.BTreeMap.{get_by_text}
use Rattle.std.specs.String.{string_bytes}
use Rattle.hdfs_cluster.specs.declared.picture.Entry.{Entry}
use Rattle.hdfs_mem_namenode.specs.Listing.{GoesOn}
use Rattle.hdfs_mem_namenode.proofs.Ranging.{goes_behind, goes_fewer, goes_here, goes_next, goes_none, goes_outside, goes_past}
use Rattle.hdfs_mem_namenode.proofs.namespace.Namespace.next_child.Goals as goal

pub loop-key-init : goal.loop-key-init
loop-key-init c = record { way = c.requires; same = λ last goes. goes; few = omega arith }

pub returns-in_default-behind-clause-next : goal.returns-in_default-behind-clause-next
returns-in_default-behind-clause-next c = λ last goes.
    goes_outside c.args.self.now.names c.args.front.now last c.loop-key.rest (c.loop-key.invariant.same last goes) (c.in-Some.key.now, c.in-Some.entry.now) c.next.new.self c.in-Some.ensures.steps
    (λ r is. c.in_default-behind.ensures r (c.as_str-path.ensures.value ∙ is))

pub returns-in_default-first_part-clause-next : goal.returns-in_default-first_part-clause-next
returns-in_default-first_part-clause-next c = λ last goes.
    let m = c.args.self.now.names in
    let front = c.args.front.now in
    let e : String Global × Entry = (c.in-Some.key.now, c.in-Some.entry.now) in
    let on = c.loop-key.invariant.same last goes in
    let name = c.in-Some-behind.name.now in
    let is = sym c.as_str-path.ensures.value ∙ c.in-Some-behind.ensures in (
      c.in-Some-behind.ensures,
      ap (get_by_text m) c.as_str-path.ensures.value ∙ goes_here m front last c.loop-key.rest on e c.next.new.self c.in-Some.ensures.steps name is,
      goes_next m front last c.loop-key.rest on e c.next.new.self c.in-Some.ensures.steps name is c.in_default-first_part.ensures,
      goes_behind m front last c.loop-key.rest on e c.next.new.self c.in-Some.ensures.steps name is,
    )

pub loop-key-smaller : goal.loop-key-smaller
loop-key-smaller c =
    let part = c.in-Some-first_part.ensures in
    let way = c.loop-key.invariant.way in
    goes_fewer c.args.self.now.names c.args.front.now way.last c.loop-key.rest way.goes (c.in-Some.key.now, c.in-Some.entry.now) c.next.new.self c.in-Some.ensures.steps
    c.in-Some-behind.name.now (sym c.as_str-path.ensures.value ∙ c.in-Some-behind.ensures) c.in-Some-first_part.part.now part.0 part.1
    (string_bytes c.push_str.new.self) (c.in_ok-push_str.ensures.bytes ∙ ap (λ (l : List ℕ). l ++ 48 ∷ []) c.in_ok-past.ensures) c.entries_from.result c.entries_from.ensures.entries

pub loop-key-preserved : goal.loop-key-preserved
loop-key-preserved c =
    let m = c.args.self.now.names in
    let front = c.args.front.now in
    let e : String Global × Entry = (c.in-Some.key.now, c.in-Some.entry.now) in
    let name = c.in-Some-behind.name.now in
    let is = sym c.as_str-path.ensures.value ∙ c.in-Some-behind.ensures in
    let part = c.in-Some-first_part.ensures in
    let bytes = c.in_ok-push_str.ensures.bytes ∙ ap (λ (l : List ℕ). l ++ 48 ∷ []) c.in_ok-past.ensures in
    let way = c.loop-key.invariant.way in
    let fewer = goes_fewer m front way.last c.loop-key.rest way.goes e c.next.new.self c.in-Some.ensures.steps name is c.in-Some-first_part.part.now part.0 part.1
    (string_bytes c.push_str.new.self) bytes c.entries_from.result c.entries_from.ensures.entries in
    let few = c.loop-key.invariant.few in
    let past : (last : List ℕ) → GoesOn m front last c.loop-key.rest → GoesOn m front last c.entries_from.result = λ last goes. goes_past m front last c.loop-key.rest goes e c.next.new.self c.in-Some.ensures.steps name is c.in-Some-first_part.part.now part.0 part.1
    (string_bytes c.push_str.new.self) bytes c.entries_from.result c.entries_from.ensures.entries c.entries_from.ensures.ordered in
    record {
      way = record { last = way.last; goes = past way.last way.goes };
      same = λ last goes. past last (c.loop-key.invariant.same last goes);
      few = omega (arith, fewer, few);
    }

pub returns-clause-next : goal.returns-clause-next
returns-clause-next c = λ last goes. goes_none c.args.self.now.names c.args.front.now last c.loop-key.rest (c.loop-key.invariant.same last goes) c.in_default.ensures.steps.0
