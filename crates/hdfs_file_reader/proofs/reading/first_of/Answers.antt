-- The block in which a range begins.
use Rattle.std.proofs.Common.{rules, of_calls, nat_le}
use Rattle.std.proofs.lemmas.Fn.{always_returns_same}
use Rattle.hdfs_file_reader.proofs.Beginning.{begins_by, in_order}
use Rattle.hdfs_file_reader.proofs.reading.first_of.Goals as goal

pub returns-clause-first : goal.returns-clause-first
returns-clause-first c = λ total follow.
    begins_by c.args.blocks.now c.args.start c.partition_point.result c.saturating_sub.result c.partition_point.ensures.bound
    (c.partition_point.ensures.partitioned (λ block. nat_le block.offset c.args.start)
    (always_returns_same _ _ _ (λ a r f k. search (rules, of_calls))) (in_order total c.args.blocks.now c.args.start follow))
    c.saturating_sub.ensures
