-- The file is put as a closed one, and its path is taken out of those that are open.
use Rattle.std.proofs.Common.{◌≡◌, Some, is_some, option_map, false, refl, sym, ap, ◌∙◌, subst}
use Rattle.std.proofs.lemmas.Map.Text.{btree_set_updates_text}
use Rattle.hdfs_cluster.specs.Files.{File, Content}
use Rattle.hdfs_model.specs.Steps.{close_node, with_node, without}
use Rattle.hdfs_plain.specs.declared.files.PlainFiles.{PlainFiles}
use Rattle.hdfs_plain.specs.declared.files.PlainNode.TheVariants as nodes
use Rattle.hdfs_plain.specs.Plain.{Holds, content_in, look_up, node_of}
use Rattle.hdfs_plain.proofs.Plains.{holds_closed}
use Rattle.hdfs_plain.proofs.files.PlainFiles.close.Goals as goal

pub returns-in_ok-put-in-Some-Writing : goal.returns-in_ok-put-in-Some-Writing
returns-in_ok-put-in-Some-Writing c = λ state holds.
    let old : PlainFiles = c.args.self.now in
    let mid : PlainFiles = c.put.new.self in
    let new : PlainFiles = record mid { opened = c.remove.new.self } in
    let path = c.args.path.now in
    let file = c.in-Some-Writing.file in
    let copied = c.in_ok-file-in-Some-Writing.file in
    let content = content_in file in
    let there : look_up old path ≡ Some (nodes.Writing file) = sym c.in-Some-Writing.ensures.value ∙ ap Some c.in-Some-Writing.field-0-is in
    let stands = holds.files path ∙ ap (option_map node_of) there in
    let closed = holds_closed old mid new state path (nodes.File copied) holds (ap is_some there) c.in_ok-put-in-Some-Writing.ensures (λ q. refl) (btree_set_updates_text path mid.opened new.opened false c.remove.ensures.updates) in (
      record (with_node state path (File content)) { opened = without path state.opened },
      ap (close_node state path) stands,
      subst (λ (x : Content). Holds new (record (with_node state path (File x)) { opened = without path state.opened })) c.in_ok-file-in-Some-Writing.ensures closed,
    )
