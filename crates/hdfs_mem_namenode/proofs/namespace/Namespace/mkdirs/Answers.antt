-- Where nothing refuses it a directory is there, or nothing is and no file stands above.
use Rattle.std.proofs.Common.{sym, ◌∙◌}
use Rattle.std.specs.BTreeMap.{get_by_text}
use Rattle.hdfs_mem_namenode.proofs.Naming.{tree_from_tests}
use Rattle.hdfs_mem_namenode.proofs.NewDirectories.{dir_there, none_there, refused_not, same_made}
use Rattle.hdfs_mem_namenode.proofs.namespace.Namespace.mkdirs.Goals as goal

pub returns-then-contains_key-clause-names : goal.returns-then-contains_key-clause-names
returns-then-contains_key-clause-names c =
    let old = c.args.self.now in
    let names = get_by_text old.names in
    same_made names c.args.src.now (tree_from_tests names old.rooted old.placed) (dir_there (names c.args.src.now) (sym c.contains_key.ensures ∙ c.if-contains_key.true) (refused_not _ _ _ c.in_default.ensures).0)

pub put_dir-requires-clause-free : goal.put_dir-requires-clause-free
put_dir-requires-clause-free c = none_there (get_by_text c.args.self.now.names c.args.src.now) (sym c.contains_key.ensures ∙ c.if-contains_key.false)

pub put_dir-requires-clause-above : goal.put_dir-requires-clause-above
put_dir-requires-clause-above c = (refused_not _ _ _ c.in_default.ensures).1
