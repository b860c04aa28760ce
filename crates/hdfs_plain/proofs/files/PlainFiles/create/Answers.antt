-- Nothing refuses the file, and it is opened without bytes.
use Rattle.std.proofs.Common.{◌≡◌, false, sym, subst}
use Rattle.hdfs_cluster.specs.Files.{Content}
use Rattle.hdfs_model.specs.Steps.{created, with_writing}
use Rattle.hdfs_plain.specs.declared.files.PlainFiles.{PlainFiles}
use Rattle.hdfs_plain.specs.Answers.{world_of}
use Rattle.hdfs_plain.specs.Plain.{Holds}
use Rattle.hdfs_plain.proofs.Plains.{creates_file}
use Rattle.hdfs_plain.proofs.files.PlainFiles.create.Goals as goal

pub returns : goal.returns
returns c = λ state holds.
    let old : PlainFiles = c.args.self.now in
    let path = c.args.path.now in
    let options = c.args.options.now in
    let content : Content = created (world_of c.args.world.now) options in
    let made : Content = record { bytes = c.new-bytes.result; attributes = record { permission = options.permission; replication = c.unwrap_or.result; block_size = c.unwrap_or-2.result; encrypted = false } } in
    let same : made ≡ content = cc in (
      with_writing state path content,
      creates_file old state path holds content options.overwrite options.create_parent (sym c.in_default.ensures),
      subst (λ (x : Content). Holds c.open.new.self (with_writing state path x)) same (c.in_ok-open.ensures state holds),
    )
