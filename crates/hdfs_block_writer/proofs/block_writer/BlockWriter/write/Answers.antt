-- The goals of BlockWriter::write.
use Rattle.std.proofs.Common.{◌≡◌, None, IsSome, refl, rules, arith}
use Rattle.std.proofs.lemmas.List.{length-take-le}
use Rattle.hdfs_namenode.specs.Clients.{proxy_of}
use Rattle.hdfs_namenode.specs.Views.{view_of}
use Rattle.hdfs_block_writer.proofs.Sent.{pipe_of}
use Rattle.hdfs_block_writer.proofs.block_writer.BlockWriter.write.Goals as goal

pub overflow_sub-room : goal.overflow_sub-room
overflow_sub-room g c =
    let some : IsSome c.args.self.now.pipe = search rules in
    let pipe = pipe_of c.args.self.now some in
    (c.requires.stands pipe.0 pipe.1).0.within.0

pub write_all-requires-clause-room : goal.write_all-requires-clause-room
write_all-requires-clause-room g c =
    let some : IsSome c.args.self.now.pipe = search rules in
    let pipe = pipe_of c.args.self.now some in
    let within = (c.requires.stands pipe.0 pipe.1).0.within.0 in
    let n = c.min-taken.result in
    let least = c.min-taken.ensures in
    omega (arith, within, least, length-take-le n c.args.bytes.now (omega (arith, least)))

pub returns-in_err-write_all-clause-stands : goal.returns-in_err-write_all-clause-stands
returns-in_err-write_all-clause-stands g c pipe is =
    let failed : c.write_all.new.self.pipe ≡ None =
    (c.in_err-write_all.ensures.err (view_of (proxy_of c.args.namenode.now)) (refl, refl)).failed in
    absurd (cc (failed, is))
