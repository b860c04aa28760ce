-- The file is put with its new bytes.
use Rattle.std.proofs.Common.{◌≡◌, ◌++◌, Some, is_some, option_map, sym, ap, ◌∙◌, subst}
use Rattle.hdfs_cluster.specs.Files.{Writing, Content}
use Rattle.hdfs_model.specs.Steps.{write_node, with_node}
use Rattle.hdfs_plain.specs.declared.files.PlainFiles.{PlainFiles}
use Rattle.hdfs_plain.specs.declared.files.PlainNode.TheVariants as nodes
use Rattle.hdfs_plain.specs.Plain.{Holds, content_in, look_up, node_of}
use Rattle.hdfs_plain.proofs.Plains.{holds_with_node}
use Rattle.hdfs_plain.proofs.files.PlainFiles.write.Goals as goal

pub returns-in_ok-put-in-Some-Writing : goal.returns-in_ok-put-in-Some-Writing
returns-in_ok-put-in-Some-Writing c = λ state holds.
    let old : PlainFiles = c.args.self.now in
    let new : PlainFiles = c.put.new.self in
    let path = c.args.path.now in
    let more = c.args.more.now in
    let file = c.in-Some-Writing.file in
    let longer = c.in_ok-file-in-Some-Writing.file in
    let content : Content = record (content_in file) { bytes = file.bytes ++ more } in
    let there : look_up old path ≡ Some (nodes.Writing file) = sym c.in-Some-Writing.ensures.value ∙ ap Some c.in-Some-Writing.field-0-is in
    let put = holds_with_node old new state path (nodes.Writing longer) holds (ap is_some there) c.in_ok-put-in-Some-Writing.ensures in (
      with_node state path (Writing content),
      ap (λ o. write_node state path o more) (holds.files path ∙ ap (option_map node_of) there),
      subst (λ (x : Content). Holds new (with_node state path (Writing x))) c.in_ok-file-in-Some-Writing.ensures put,
    )
