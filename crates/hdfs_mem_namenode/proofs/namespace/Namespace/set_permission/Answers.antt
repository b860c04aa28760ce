-- A directory is no file.
use Rattle.std.proofs.Common.{Some, refl, sym, ◌∙◌, ap}
use Rattle.std.specs.BTreeMap.{get_by_text}
use Rattle.hdfs_cluster.specs.Files.{NotFile}
use Rattle.hdfs_mem_namenode.proofs.Naming.{tree_from_tests}
use Rattle.hdfs_mem_namenode.proofs.Answering.{refused_directory}
use Rattle.hdfs_mem_namenode.proofs.namespace.Namespace.set_permission.Goals as goal

pub returns-in_ok-exception-in-Some-Dir-clause-excused : goal.returns-in_ok-exception-in-Some-Dir-clause-excused
returns-in_ok-exception-in-Some-Dir-clause-excused c =
    let space = c.args.self.now in
    let refused = refused_directory (get_by_text space.names) (tree_from_tests (get_by_text space.names) space.rooted space.placed) c.args.src.now (sym c.in-Some-Dir.ensures.value ∙ ap Some c.in-Some-Dir.field-0-is) in
    rw c.in_ok-exception-in-Some-Dir.ensures (NotFile, refused, refl, refl)
