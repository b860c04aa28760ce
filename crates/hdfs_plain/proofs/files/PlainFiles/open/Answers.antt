-- The directories are made first, then the file is put, and then its path is opened.
use Rattle.std.proofs.Common.{◌≡◌, ℕ, List, true, Some, cond, refl, ap, ◌∙◌}
use Rattle.std.proofs.lemmas.Map.Text.{btree_set_updates_text}
use Rattle.std.specs.Str.{bytes_eq}
use Rattle.std.specs.String.{string_bytes}
use Rattle.hdfs_plain.specs.declared.files.PlainFiles.{PlainFiles}
use Rattle.hdfs_plain.specs.declared.files.PlainNode.{PlainNode}
use Rattle.hdfs_plain.specs.declared.files.PlainNode.TheVariants as nodes
use Rattle.hdfs_plain.specs.Plain.{content_in, has_open}
use Rattle.hdfs_plain.proofs.Plains.{holds_with_writing}
use Rattle.hdfs_plain.proofs.files.PlainFiles.open.Goals as goal

pub returns : goal.returns
returns c = λ state holds.
    let old : PlainFiles = c.args.self.now in
    let put : PlainFiles = c.put.new.self in
    let new : PlainFiles = record put { opened = c.insert.new.self } in
    let path = c.args.path.now in
    let key = string_bytes c.in_ok-from_str.field-0 in
    let same : key ≡ path = c.in_ok-from_str.ensures.ok in
    let node : PlainNode = nodes.Writing c.args.file in
    let stays = c.in_ok-put.ensures.opened ∙ c.in_ok-make_parents.ensures.opened in
    holds_with_writing old new state path node (content_in c.args.file) holds refl
    (λ q. c.in_ok-put.ensures.nodes q ∙ ap (cond (bytes_eq path q) (Some node)) (c.in_ok-make_parents.ensures.nodes q))
    (λ q. btree_set_updates_text key put.opened new.opened true c.in_ok-insert.ensures.updates q ∙ ap (λ (k : List ℕ). cond (bytes_eq k q) true (has_open put q)) same
    ∙ ap (λ o. cond (bytes_eq path q) true (has_open (record old { opened = o }) q)) stays)
