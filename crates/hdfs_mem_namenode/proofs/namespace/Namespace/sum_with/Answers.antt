-- The total that is kept, with the named block's length in the place of its own.
use Rattle.std.proofs.Common.{ℕ, Option, Some, None, IfSome, sym, subst}
use Rattle.std.specs.BTreeMap.{get_by_text}
use Rattle.hdfs_cluster.specs.declared.messages.Block.{Block}
use Rattle.hdfs_mem_namenode.specs.Adding.{CanTake, HasNamed}
use Rattle.hdfs_mem_namenode.specs.Memory.{table_of}
use Rattle.hdfs_mem_namenode.proofs.Naming.{Sound}
use Rattle.hdfs_mem_namenode.proofs.Sums.{takes_named, takes_none}
use Rattle.hdfs_mem_namenode.proofs.namespace.Namespace.sum_with.Goals as goal

-- two facts on what may be there
both : {P Q R : ℕ → Type 0} (o : Option ℕ) → ((n : ℕ) → P n → Q n → R n) → IfSome o P → IfSome o Q → IfSome o R
both None f p q = tt
both (Some n) f p q = f n p q

pub returns-in-None : goal.returns-in-None
returns-in-None c =
    let space = c.args.self.now in
    let names = get_by_text space.names in
    let table = table_of space.table.entries in
    let src = c.args.src.now in
    let sum = c.in_ok-sum.field-0.now in
    let sound : Sound names table = record { rooted = space.rooted; placed = space.placed; sized = space.sized; apart = space.apart } in
    let has = subst (λ (o : Option Block). HasNamed names src o) c.in-None.is c.requires in
    subst (λ (o : Option Block). CanTake names table src o sum) (sym c.in-None.is)
    (takes_none names table (get_by_text space.totals) sound space.counted src sum (sym c.in_ok-sum.ensures.value) has)

pub returns-in_ok-entry-in-Some : goal.returns-in_ok-entry-in-Some
returns-in_ok-entry-in-Some c =
    let space = c.args.self.now in
    let names = get_by_text space.names in
    let table = table_of space.table.entries in
    let src = c.args.src.now in
    let sum = c.in_ok-sum.field-0.now in
    let block = c.in-Some.block in
    let entry = c.in_ok-entry-in-Some.entry.now in
    let sound : Sound names table = record { rooted = space.rooted; placed = space.placed; sized = space.sized; apart = space.apart } in
    let has = subst (λ (o : Option Block). HasNamed names src o) c.in-Some.is c.requires in
    subst (λ (o : Option Block). IfSome c.exchanged.result (CanTake names table src o)) (sym c.in-Some.is)
    (both c.exchanged.result
    (takes_named names table (get_by_text space.totals) sound space.counted src sum (sym c.in_ok-sum.ensures.value) block has entry (sym c.in_ok-entry-in-Some.ensures.value))
    c.exchanged.ensures.sum c.exchanged.ensures.below)
