-- The goals of BlockRead::open.
use Rattle.std.proofs.Common.{List, length, subst, arith}
use Rattle.hdfs_block_reader.specs.Reader.{IsNodeAt}
use Rattle.hdfs_block_reader.specs.declared.given_up.GivenUp.{GivenUp}
use Rattle.hdfs_block_reader.proofs.block_read.BlockRead.open.Goals as goal

pub open_by-opened-requires-clause-asked : goal.open_by-opened-requires-clause-asked
open_by-opened-requires-clause-asked g c = record {
  node = cc (c.in_ok-ask.ensures.node);
  listed = subst (λ (reasons : List GivenUp). IsNodeAt c.args.self.now.block (length reasons) c.in_ok-ask.ask.node) c.as_slice.ensures
      c.in_ok-ask.ensures.listed;
  same_block = c.in_ok-ask.ensures.block;
  token = c.in_ok-ask.ensures.token;
  same_client = c.in_ok-ask.ensures.client;
  same_end = omega (arith, c.in_ok-ask.ensures.range.0, c.in_ok-ask.ensures.range.1, c.requires.more);
}
