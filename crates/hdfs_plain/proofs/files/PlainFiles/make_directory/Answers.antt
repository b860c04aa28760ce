-- Nothing refuses the directory, and it is put, with directories above it.
use Rattle.std.proofs.Common.{Some, cond, sym, ap, ◌∙◌}
use Rattle.std.specs.Str.{bytes_eq}
use Rattle.hdfs_model.specs.Steps.{with_directory}
use Rattle.hdfs_plain.specs.declared.files.PlainFiles.{PlainFiles}
use Rattle.hdfs_plain.specs.declared.files.PlainNode.TheVariants as nodes
use Rattle.hdfs_plain.specs.Plain.{has_open}
use Rattle.hdfs_plain.proofs.Named.{holds_with_directory, makes_directory}
use Rattle.hdfs_plain.proofs.files.PlainFiles.make_directory.Goals as goal

pub returns : goal.returns
returns c = λ state holds.
    let old : PlainFiles = c.args.self.now in
    let new : PlainFiles = c.put.new.self in
    let path = c.args.path.now in (
      with_directory state path,
      makes_directory old state path holds c.args.parents (sym c.in_default.ensures),
      holds_with_directory old new state path holds
          (λ q. c.in_ok-put.ensures.nodes q ∙ ap (cond (bytes_eq path q) (Some nodes.Dir)) (c.in_ok-make_parents.ensures.nodes q))
          (λ q. ap (λ o. has_open (record old { opened = o }) q) (c.in_ok-put.ensures.opened ∙ c.in_ok-make_parents.ensures.opened)),
    )
