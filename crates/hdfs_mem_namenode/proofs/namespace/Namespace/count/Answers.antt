-- The path is counted first, and then what is below it.
use Rattle.std.proofs.Common.{◌∙◌}
use Rattle.std.specs.BTreeMap.{get_by_text}
use Rattle.hdfs_mem_namenode.specs.Memory.{table_of}
use Rattle.hdfs_mem_namenode.proofs.Gathering.{counts_of}
use Rattle.hdfs_mem_namenode.proofs.namespace.Namespace.count.Goals as goal

pub returns : goal.returns
returns c =
    let names = get_by_text c.args.self.now.names in
    let table = table_of c.args.self.now.table.entries in
    counts_of names table c.args.path.now c.as_str.result.now (c.as_str.ensures.value ∙ c.in_ok-front.ensures) c.args.entry.now c.length_at.result c.requires c.length_at.ensures
    c.only_one-first.result c.only_one-first.ensures c.count_on.result c.count_on.ensures
