-- The root stands in the files, and nothing else does.
use Rattle.std.proofs.Common.{Global, String, ◌≡◌, ℕ, Bool, true, false, ◌||◌, List, Option, Some, None, cond, is_some, refl, sym, ◌∙◌, ap, subst, rules}
use Rattle.std.proofs.lemmas.Bool.{false≢true}
use Rattle.std.proofs.lemmas.Map.Text.{btree_map_updates_text}
use Rattle.std.specs.BTreeMap.{get_by_text, is_at}
use Rattle.std.specs.Cmp.Lexicographic.{slice_cmp}
use Rattle.std.specs.Map.{lookup}
use Rattle.std.specs.Ordering.{nat_cmp}
use Rattle.std.specs.Str.{bytes_eq}
use Rattle.std.specs.String.{string_bytes}
use Rattle.hdfs_names.specs.Paths.{root}
use Rattle.hdfs_plain.specs.declared.files.PlainNode.{PlainNode}
use Rattle.hdfs_plain.specs.declared.files.PlainNode.TheVariants as nodes
use Rattle.hdfs_plain.proofs.Keyed.{turned}
use Rattle.hdfs_plain.proofs.files.PlainFiles.new.Goals as goal

abbrev nothing : Option PlainNode
nothing = None

pub returns : goal.returns
returns c =
    let key = string_bytes c.in_ok-from_str.field-0 in
    let there : (q : List ℕ) → get_by_text c.insert.new.self q ≡ cond (bytes_eq root q) (Some nodes.Dir) None = λ q.
    btree_map_updates_text key c.new-nodes.result c.insert.new.self (Some nodes.Dir) c.in_ok-insert.ensures.updates q
    ∙ ap (λ (k : List ℕ). cond (bytes_eq k q) (Some nodes.Dir) (get_by_text c.new-nodes.result q)) c.in_ok-from_str.ensures.ok
    ∙ ap (λ (es : List (String Global × PlainNode)). cond (bytes_eq root q) (Some nodes.Dir) (lookup (is_at (λ k. slice_cmp nat_cmp q (string_bytes k))) es)) c.new-nodes.ensures.empty in
    record {
      files = search rules;
      listed = λ q some. root_listed q (bytes_eq root q) (turned q root) (subst (λ (o : Option PlainNode). is_some o ≡ true) (there q) some);
      opened = search rules;
    }
  where
    root_listed : (q : List ℕ) (b : Bool) → bytes_eq q root ≡ b → is_some (cond b (Some nodes.Dir) nothing) ≡ true → (bytes_eq q root || false) ≡ true
    root_listed q true is some = ap (λ (c : Bool). c || false) is
    root_listed q false is some = absurd (false≢true some)
