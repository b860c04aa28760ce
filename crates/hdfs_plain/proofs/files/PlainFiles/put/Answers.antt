use Rattle.std.proofs.Common.{◌≡◌, ℕ, List, Some, cond, ap, ◌∙◌, refl}
use Rattle.std.proofs.lemmas.Map.Text.{btree_map_updates_text}
use Rattle.std.specs.Str.{bytes_eq}
use Rattle.std.specs.String.{string_bytes}
use Rattle.hdfs_plain.specs.Plain.{look_up}
use Rattle.hdfs_plain.proofs.files.PlainFiles.put.Goals as goal

pub returns : goal.returns
returns c =
    let key = string_bytes c.in_ok-from_str.field-0 in
    let same : key ≡ c.args.path.now = c.in_ok-from_str.ensures.ok in
    record {
      nodes = λ q. btree_map_updates_text key c.args.self.now.nodes c.insert.new.self (Some c.args.node) c.in_ok-insert.ensures.updates q ∙ ap (λ (k : List ℕ). cond (bytes_eq k q) (Some c.args.node) (look_up c.args.self.now q)) same;
      opened = refl;
    }
