-- The root alone is a tree.
use Rattle.std.proofs.Common.{◌≡◌, ℕ, true, ◌&&◌, List, [], ◌∷◌, String, is_none, ◌∙◌, ap}
use Rattle.std.proofs.lemmas.Bool.{false≢true}
use Rattle.std.specs.BTreeMap.{get_by_text, insert_entry}
use Rattle.std.specs.Str.{bytes_eq}
use Rattle.std.specs.String.{string_bytes, string_cmp}
use Rattle.hdfs_names.specs.Paths.{root}
use Rattle.hdfs_cluster.specs.declared.picture.Entry.TheVariants as entries
use Rattle.hdfs_mem_namenode.specs.Memory.{table_of, is_bare}
use Rattle.hdfs_mem_namenode.proofs.Naming.{sound_bare, bare_at}
use Rattle.hdfs_mem_namenode.proofs.Sums.{counted_bare}
use Rattle.hdfs_mem_namenode.proofs.namespace.Namespace.new.Goals as goal

bare_one : {A : Type 0} (key : String A) → string_bytes key ≡ root → is_bare ((key, entries.Dir) ∷ []) ≡ true
bare_one key is = ap (λ (bs : List ℕ). bytes_eq root bs && true) is

pub invariant_of-result : goal.invariant_of-result
invariant_of-result c =
    let key = c.in_ok-from_str.field-0 in
    let bare : is_bare c.insert.new.self.entries ≡ true =
    ap is_bare (c.in_ok-insert.ensures.entries ∙ ap (λ es. insert_entry string_cmp es key entries.Dir) c.new-names.ensures.empty) ∙ bare_one key c.in_ok-from_str.ensures.ok in
    let sound = sound_bare c.insert.new.self.entries (table_of c.new-2.result.entries) bare in
    record {
      rooted = sound.rooted;
      placed = sound.placed;
      sized = sound.sized;
      counted = counted_bare c.insert.new.self.entries (table_of c.new-2.result.entries) (get_by_text c.new.result) bare;
      apart = sound.apart;
      bare = λ new. bare_at c.insert.new.self.entries bare;
      more = λ grown. absurd (false≢true grown);
      numbered = λ id behind. ap (λ es. is_none (table_of es id)) c.new-2.ensures.empty;
    }

pub returns-clause-empty : goal.returns-clause-empty
returns-clause-empty c = λ id. ap (λ es. table_of es id) c.new-2.ensures.empty

pub returns-clause-bare : goal.returns-clause-bare
returns-clause-bare c =
    let key = c.in_ok-from_str.field-0 in
    bare_at c.insert.new.self.entries (ap is_bare (c.in_ok-insert.ensures.entries ∙ ap (λ es. insert_entry string_cmp es key entries.Dir) c.new-names.ensures.empty) ∙ bare_one key c.in_ok-from_str.ensures.ok)
