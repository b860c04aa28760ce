-- The block is listed on the datanodes that come to hold it.
use Rattle.std.proofs.Common.{◌∙◌}
use Rattle.hdfs_mem_cluster.proofs.storing.store_block.Goals as goal

pub returns-clause-added : goal.returns-clause-added
returns-clause-added c =
    let adds = c.in_ok-id.ensures.added in
    record {
      absent = adds.absent;
      entry = adds.entry;
      listed = adds.listed;
      has_length = adds.has_length ∙ c.len.ensures.value;
      on = adds.on ∙ c.in_ok-listed.ensures;
      others = adds.others;
    }
