-- What goes leaves the tree, and the blocks of all that stays.
use Rattle.std.proofs.Common.{◌∙◌, ℕ, not, eqb, sym, ap}
use Rattle.std.specs.BTreeMap.{get_by_text}
use Rattle.hdfs_mem_namenode.specs.Memory.{table_of}
use Rattle.hdfs_mem_namenode.proofs.Naming.{Sound}
use Rattle.hdfs_mem_namenode.proofs.Removing.{bare_one, counted_without, more_than_bare, numbered_without, sound_without}
use Rattle.hdfs_mem_namenode.proofs.namespace.Namespace.remove_all.Goals as goal

pub invariant_of-self : goal.invariant_of-self
invariant_of-self c =
    let old = c.args.self.now in
    let names = get_by_text old.names in
    let names' = get_by_text c.forget.new.map in
    let table = table_of old.table.entries in
    let table' = table_of c.unlist_files.new.table.entries in
    let keys = c.args.keys.now in
    let was : Sound names table = record { rooted = old.rooted; placed = old.placed; sized = old.sized; apart = old.apart } in
    let sound = sound_without names names' table table' keys was c.requires.root c.requires.closed c.forget.ensures c.unlist_files.ensures in
    record {
      rooted = sound.rooted;
      placed = sound.placed;
      sized = sound.sized;
      counted = counted_without names names' table table' keys was c.requires.root c.requires.closed c.forget.ensures c.unlist_files.ensures (get_by_text old.totals) (get_by_text c.forget-2.new.map) c.forget-2.ensures old.counted;
      apart = sound.apart;
      bare = λ none. bare_one c.forget.new.map sound.rooted (sym (ap (λ (n : ℕ). not (eqb n 1)) c.len.ensures.len) ∙ none);
      more = λ grown. more_than_bare c.forget.new.map sound.rooted c.len.ensures.ordered (sym (ap (λ (n : ℕ). not (eqb n 1)) c.len.ensures.len) ∙ grown);
      numbered = λ id behind. numbered_without names names' table table' keys was c.requires.root c.requires.closed c.forget.ensures c.unlist_files.ensures id (old.numbered id behind);
    }
