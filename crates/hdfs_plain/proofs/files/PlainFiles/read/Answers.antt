-- A file stands there, closed or open, and its range is read.
use Rattle.std.proofs.Common.{◌≡◌, Some, option_map, sym, ap, ◌∙◌, subst}
use Rattle.hdfs_cluster.specs.Refusals.{Lacks}
use Rattle.hdfs_model.specs.Steps.{Outcome, content_of}
use Rattle.hdfs_plain.specs.declared.files.PlainFiles.{PlainFiles}
use Rattle.hdfs_plain.specs.declared.files.PlainNode.TheVariants as nodes
use Rattle.hdfs_plain.specs.Answers.{Comes}
use Rattle.hdfs_plain.specs.Plain.{content_in, look_up, node_of}
use Rattle.hdfs_plain.proofs.Plains.{reads_file, none_from_map}
use Rattle.hdfs_plain.proofs.files.PlainFiles.read.Goals as goal

pub returns-in_ok-range-in-Some-File : goal.returns-in_ok-range-in-Some-File
returns-in_ok-range-in-Some-File c = λ state holds.
    let plain : PlainFiles = c.args.self.now in
    let path = c.args.path.now in
    let file = c.in-Some-File.file in
    let there : look_up plain path ≡ Some (nodes.File file) = sym c.in-Some-File.ensures.value ∙ ap Some c.in-Some-File.field-0-is in
    let none = none_from_map Lacks _ c.in_default.ensures in
    subst (λ (o : Outcome). Comes c.in_ok-range-in-Some-File.field-0 o state plain)
    (sym (reads_file plain state path holds (content_in file) c.args.offset c.args.len none (ap (λ o. content_of (option_map node_of o)) there)))
    (c.in_ok-range-in-Some-File.ensures state plain holds)

pub returns-in_ok-range-in-Some-Writing : goal.returns-in_ok-range-in-Some-Writing
returns-in_ok-range-in-Some-Writing c = λ state holds.
    let plain : PlainFiles = c.args.self.now in
    let path = c.args.path.now in
    let file = c.in-Some-Writing.file in
    let there : look_up plain path ≡ Some (nodes.Writing file) = sym c.in-Some-Writing.ensures.value ∙ ap Some c.in-Some-Writing.field-0-is in
    let none = none_from_map Lacks _ c.in_default.ensures in
    subst (λ (o : Outcome). Comes c.in_ok-range-in-Some-Writing.field-0 o state plain)
    (sym (reads_file plain state path holds (content_in file) c.args.offset c.args.len none (ap (λ o. content_of (option_map node_of o)) there)))
    (c.in_ok-range-in-Some-Writing.ensures state plain holds)
