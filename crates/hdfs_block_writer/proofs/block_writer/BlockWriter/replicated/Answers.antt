-- The goals of BlockWriter::replicated.
use Rattle.std.proofs.Common.{Some, None, refl}
use Rattle.hdfs_block_writer.specs.declared.block_writer.BlockWriter.{BlockWriter}
use Rattle.hdfs_block_writer.proofs.Opened.{new_begins, new_stands}
use Rattle.hdfs_block_writer.proofs.block_writer.BlockWriter.replicated.Goals as goal

pub returns-clause-stands : goal.returns-clause-stands
returns-clause-stands g c =
    let w : BlockWriter = record {
      alloc = c.args.alloc;
      settings = c.args.settings.now;
      block_size = c.args.sizes.block_size;
      chunk = c.args.plan.chunk;
      packet_size = c.args.sizes.packet_size;
      pipe = Some (record { plan = c.args.plan; core = c.in-Ok.opened.0; link = c.in-Ok.opened.1 });
      packet = None;
      length = c.args.plan.block.b.num_bytes;
      seqno = 0;
    } in
    new_stands c.args.plan c.args.settings.now c.in-Ok.opened.1 c.client_name-client.result.now w c.in-Ok.opened.0
    (g.C.Cluster.shown c.args.cluster.now) (g.C.Cluster.shown c.open_pipeline.new.cluster) c.requires.plan.block c.requires.plan.rebuilds
    c.requires.plan.window (rw c.first-opening.ensures at c.in-Ok.ensures.core) (rw c.first-opening.ensures at c.in-Ok.ensures.opened) refl refl refl refl c.requires.plan.packets refl
    c.requires.plan.size

pub returns-clause-begins : goal.returns-clause-begins
returns-clause-begins g c =
    let w : BlockWriter = record {
      alloc = c.args.alloc;
      settings = c.args.settings.now;
      block_size = c.args.sizes.block_size;
      chunk = c.args.plan.chunk;
      packet_size = c.args.sizes.packet_size;
      pipe = Some (record { plan = c.args.plan; core = c.in-Ok.opened.0; link = c.in-Ok.opened.1 });
      packet = None;
      length = c.args.plan.block.b.num_bytes;
      seqno = 0;
    } in
    new_begins c.args.plan c.args.settings.now c.in-Ok.opened.1 c.client_name-client.result.now w c.in-Ok.opened.0
    (g.C.Cluster.shown c.args.cluster.now) (g.C.Cluster.shown c.open_pipeline.new.cluster) c.requires.plan.block c.requires.plan.rebuilds
    c.requires.plan.window (rw c.first-opening.ensures at c.in-Ok.ensures.core) (rw c.first-opening.ensures at c.in-Ok.ensures.opened) refl refl refl refl
