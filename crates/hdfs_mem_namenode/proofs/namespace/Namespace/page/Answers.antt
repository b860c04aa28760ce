-- Name after name is listed, until the page is full or there is none.
use Rattle.std.proofs.Common.{◌≡◌, ◌++◌, ℕ, List, [], ◌∷◌, length, length-append, arith, sym, ◌∙◌, ap, subst}
use Rattle.std.specs.BTreeMap.{get_by_text}
use Rattle.std.specs.String.{string_bytes}
use Rattle.hdfs_cluster.specs.declared.messages.FileStatusMsg.{FileStatusMsg}
use Rattle.hdfs_mem_namenode.specs.Listing.{CountsBehind, GoesOn, IsNext, IsPage, NoneBehind}
use Rattle.hdfs_mem_namenode.specs.Memory.{table_of}
use Rattle.hdfs_mem_namenode.proofs.Pages.{Listed, listed_more, none_listed, page_last, page_rest}
use Rattle.hdfs_mem_namenode.proofs.Ranging.{under_way}
use Rattle.hdfs_mem_namenode.proofs.namespace.Namespace.page.Goals as goal

pub loop-alloc-init : goal.loop-alloc-init
loop-alloc-init c =
    let names = get_by_text c.args.self.now.names in
    let table = table_of c.args.self.now.table.entries in
    let front = string_bytes c.in_ok-front.front in
    record {
      along = record {
        last = c.args.from.now;
        listed = subst (λ (l : List FileStatusMsg). Listed names table front c.args.from.now l c.args.from.now) (sym c.new-listing.ensures.items) (none_listed names table front c.args.from.now);
        goes = subst (λ (f : List ℕ). GoesOn c.args.self.now.names f c.args.from.now c.in_ok-rest.rest) c.as_str.ensures.value c.in_ok-rest.ensures;
      };
      few = omega (arith, c.new-listing.ensures.len);
    }

pub next_child-requires : goal.next_child-requires
next_child-requires c =
    let along = c.loop-alloc.invariant.along in
    under_way c.args.self.now.names (string_bytes c.in_ok-front.front) c.as_str-in-loop-alloc.result.now along.last c.loop-alloc.rest c.as_str-in-loop-alloc.ensures.value along.goes

pub count_in-requires : goal.count_in-requires
count_in-requires c =
    let along = c.loop-alloc.invariant.along in
    under_way c.args.self.now.names (string_bytes c.in_ok-front.front) c.as_str-2.result.now along.last c.loop-alloc.rest c.as_str-2.ensures.value along.goes

pub tell-requires : goal.tell-requires
tell-requires c =
    let along = c.loop-alloc.invariant.along in
    let goes = subst (λ (f : List ℕ). GoesOn c.args.self.now.names f along.last c.loop-alloc.rest) (sym c.as_str-in-loop-alloc.ensures.value) along.goes in
    (rw c.in-Some.is at (c.in_ok-child.ensures.next along.last goes)).1

pub returns-in_default : goal.returns-in_default
returns-in_default c =
    let names = get_by_text c.args.self.now.names in
    let table = table_of c.args.self.now.table.entries in
    let along = c.loop-alloc.invariant.along in
    let goes = subst (λ (f : List ℕ). GoesOn c.args.self.now.names f along.last c.loop-alloc.rest) (sym c.as_str-in-loop-alloc.ensures.value) along.goes in
    let none = rw c.in_default.is at (c.in_ok-child.ensures.next along.last goes) in
    subst (λ (l : List FileStatusMsg). IsPage names table c.args.dir.now c.args.from.now (record { partial_listing = l; remaining_entries = 0 })) (sym c.from_vec.ensures)
    (page_last names table (string_bytes c.in_ok-front.front) c.args.from.now c.loop-alloc.listing.items along.last along.listed c.args.dir.now c.in_ok-front.ensures c.loop-alloc.invariant.few
    (subst (λ (f : List ℕ). NoneBehind names f along.last) c.as_str-in-loop-alloc.ensures.value none))

pub loop-alloc-preserved : goal.loop-alloc-preserved
loop-alloc-preserved c =
    let m = c.args.self.now.names in
    let names = get_by_text m in
    let table = table_of c.args.self.now.table.entries in
    let front = string_bytes c.in_ok-front.front in
    let same = c.as_str-in-loop-alloc.ensures.value in
    let along = c.loop-alloc.invariant.along in
    let goes = subst (λ (f : List ℕ). GoesOn m f along.last c.loop-alloc.rest) (sym same) along.goes in
    let next = rw c.in-Some.is at (c.in_ok-child.ensures.next along.last goes) in
    let path = c.in-Some.child.path.now in
    let name = c.in-Some.child.name.now in
    let is : path ≡ front ++ name = next.0 ∙ ap (λ (f : List ℕ). f ++ name) same in
    let items : c.push.new.self.items ≡ c.loop-alloc.listing.items ++ c.in_ok-tell.field-0 ∷ [] = c.in_ok-push.ensures.items in
    record {
      along = record {
        last = name;
        listed = subst (λ (l : List FileStatusMsg). Listed names table front c.args.from.now l name) (sym items)
            (listed_more names table front c.args.from.now c.loop-alloc.listing.items along.last along.listed c.in_ok-tell.field-0 path name is c.in_ok-tell.ensures
            (subst (λ (f : List ℕ). IsNext names f along.last name) same next.2));
        goes = subst (λ (f : List ℕ). GoesOn m f name c.next_child.new.rest) same next.3;
      };
      few = (let now = ap length items in let grown = length-append c.loop-alloc.listing.items (c.in_ok-tell.field-0 ∷ []) in omega (arith, now, grown, c.loop-alloc-test.true, c.len.ensures));
    }

pub returns : goal.returns
returns c =
    let names = get_by_text c.args.self.now.names in
    let table = table_of c.args.self.now.table.entries in
    let front = string_bytes c.in_ok-front.front in
    let count = c.in_ok-remaining_entries.remaining_entries in
    let along = c.loop-alloc.invariant.along in
    let goes = subst (λ (f : List ℕ). GoesOn c.args.self.now.names f along.last c.loop-alloc.rest) (sym c.as_str-2.ensures.value) along.goes in
    subst (λ (l : List FileStatusMsg). IsPage names table c.args.dir.now c.args.from.now (record { partial_listing = l; remaining_entries = count })) (sym c.from_vec-2.ensures)
    (page_rest names table front c.args.from.now c.loop-alloc.listing.items along.last along.listed c.args.dir.now c.in_ok-front.ensures c.loop-alloc.invariant.few count
    (λ less. omega (arith, less, c.loop-alloc-test.false, c.len.ensures))
    (subst (λ (f : List ℕ). CountsBehind names f along.last count) c.as_str-2.ensures.value (c.in_ok-remaining_entries.ensures along.last goes)))
