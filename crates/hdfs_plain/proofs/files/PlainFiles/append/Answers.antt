-- A closed file stands there, and is opened with its own bytes.
use Rattle.std.proofs.Common.{◌≡◌, Some, option_map, sym, ap, ◌∙◌, subst}
use Rattle.hdfs_cluster.specs.Files.{Content}
use Rattle.hdfs_cluster.specs.Refusals.{Lacks}
use Rattle.hdfs_model.specs.Steps.{with_writing}
use Rattle.hdfs_plain.specs.declared.files.PlainFiles.{PlainFiles}
use Rattle.hdfs_plain.specs.declared.files.PlainNode.TheVariants as nodes
use Rattle.hdfs_plain.specs.Plain.{Holds, content_in, look_up, node_of}
use Rattle.hdfs_plain.proofs.Plains.{appends_file, none_from_map}
use Rattle.hdfs_plain.proofs.files.PlainFiles.append.Goals as goal

pub returns-in_ok-open-in-Some-File : goal.returns-in_ok-open-in-Some-File
returns-in_ok-open-in-Some-File c = λ state holds.
    let old : PlainFiles = c.args.self.now in
    let path = c.args.path.now in
    let file = c.in-Some-File.file in
    let there : look_up old path ≡ Some (nodes.File file) = sym c.in-Some-File.ensures.value ∙ ap Some c.in-Some-File.field-0-is in
    let none = none_from_map Lacks _ c.in_default.ensures in (
      with_writing state path (content_in file),
      appends_file old state path holds (content_in file) none (ap (option_map node_of) there),
      subst (λ (x : Content). Holds c.open.new.self (with_writing state path x)) c.in_ok-file-in-Some-File.ensures (c.in_ok-open-in-Some-File.ensures state holds),
    )
