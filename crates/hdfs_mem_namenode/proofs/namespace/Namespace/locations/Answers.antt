-- Over a tree a file that is there may be read, and a directory may not.
use Rattle.std.proofs.Common.{◌≡◌, Some, refl, sym, ◌∙◌, ap}
use Rattle.std.specs.BTreeMap.{get_by_text}
use Rattle.hdfs_cluster.specs.declared.picture.Entry.TheVariants as entries
use Rattle.hdfs_cluster.specs.Files.{NotFile}
use Rattle.hdfs_mem_namenode.specs.Memory.{table_of, is_sized}
use Rattle.hdfs_mem_namenode.proofs.Naming.{tree_from_tests}
use Rattle.hdfs_mem_namenode.proofs.Answering.{allowed_file, refused_directory}
use Rattle.hdfs_mem_namenode.proofs.namespace.Namespace.locations.Goals as goal

pub locate-requires : goal.locate-requires
locate-requires c =
    let space = c.args.self.now in
    let named : get_by_text space.names c.args.src.now ≡ Some (entries.File c.in-Some-File.file) = sym c.in-Some-File.ensures.value ∙ ap Some c.in-Some-File.field-0-is in
    sym (ap (is_sized (table_of space.table.entries)) named) ∙ space.sized c.args.src.now

pub returns-in_ok-locate-in-Some-File-clause-allowed : goal.returns-in_ok-locate-in-Some-File-clause-allowed
returns-in_ok-locate-in-Some-File-clause-allowed c =
    let space = c.args.self.now in
    allowed_file (get_by_text space.names) (tree_from_tests (get_by_text space.names) space.rooted space.placed) c.args.src.now c.in-Some-File.file (sym c.in-Some-File.ensures.value ∙ ap Some c.in-Some-File.field-0-is)

pub returns-in_ok-exception-in-Some-Dir-clause-excused : goal.returns-in_ok-exception-in-Some-Dir-clause-excused
returns-in_ok-exception-in-Some-Dir-clause-excused c =
    let space = c.args.self.now in
    let refused = refused_directory (get_by_text space.names) (tree_from_tests (get_by_text space.names) space.rooted space.placed) c.args.src.now (sym c.in-Some-Dir.ensures.value ∙ ap Some c.in-Some-Dir.field-0-is) in
    rw c.in_ok-exception-in-Some-Dir.ensures (NotFile, refused, refl, refl)
