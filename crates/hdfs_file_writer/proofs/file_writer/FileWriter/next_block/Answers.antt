-- The goals of FileWriter::next_block.
use Rattle.std.proofs.Common.{ap, ◌≡◌}
use Rattle.hdfs_cluster.specs.Sound.{IsSound}
use Rattle.hdfs_namenode.specs.Clients.{name_of}
use Rattle.hdfs_namenode.specs.Views.{see}
use Rattle.hdfs_namenode.proofs.Relayed.{came_as}
use Rattle.hdfs_file_writer.specs.Tails.{last_of}
use Rattle.hdfs_file_writer.proofs.Seeing.{shows_seen}
use Rattle.hdfs_file_writer.proofs.Standing.{answered_adds, unanswered_fails}
use Rattle.std.specs.Prelude.{option_copied}
use Rattle.hdfs_namenode.specs.Asked.{as_answer}
use Rattle.hdfs_file_writer.proofs.Joining.{when_err, when_ok}
use Rattle.hdfs_cluster.specs.Asks.{add_block_ask}
use Rattle.hdfs_cluster.specs.declared.asks.Answer.TheVariants as answers
use Rattle.hdfs_rebuild.proofs.Allowed.{allowed_as}
use Rattle.hdfs_file_writer.proofs.file_writer.FileWriter.next_block.Goals as goal

pub returns-clause-err : goal.returns-clause-err
returns-clause-err g c = when_err c.add_block.result _ (λ error is view has.
    let s = g.C.Cluster.shown c.args.cluster.now in
    unanswered_fails (see view s) (see view (g.C.Cluster.shown c.add_block.new.cluster))
    (shows_seen view IsSound s (g.met.C.Cluster.sound c.args.cluster.now)) c.args.self.now c.requires.begins.0 (name_of c.args.namenode.now)
    c.args.excluded.now error (came_as (cc (c.as_str.ensures, c.done.ensures)) (ap (as_answer answers.AddBlock) is) (c.add_block.ensures.came view has)))

pub returns-clause-adds : goal.returns-clause-adds
returns-clause-adds g c = when_ok c.add_block.result _ (λ located is view has.
    let s = g.C.Cluster.shown c.args.cluster.now in
    answered_adds (see view s) (see view (g.C.Cluster.shown c.add_block.new.cluster))
    (shows_seen view IsSound s (g.met.C.Cluster.sound c.args.cluster.now)) c.args.self.now c.requires.begins.0 (name_of c.args.namenode.now)
    c.args.excluded.now located c.requires.adds.full
    (came_as (cc (c.as_str.ensures, c.done.ensures)) (ap (as_answer answers.AddBlock) is) (c.add_block.ensures.came view has)))

pub add_block-requires-clause-allowed : goal.add_block-requires-clause-allowed
add_block-requires-clause-allowed g c =
    let w = c.args.self.now in
    let asked : add_block_ask c.as_str.result.now (name_of c.args.namenode.now) (option_copied c.done.result) c.args.excluded.now w.file_id
    ≡ add_block_ask w.path (name_of c.args.namenode.now) (last_of w.tail) c.args.excluded.now w.file_id = cc (c.as_str.ensures, c.done.ensures) in
    allowed_as g.C.Cluster.allows asked (c.requires.adds.allowed.adds (last_of w.tail) c.args.excluded.now (c.requires.adds.answered.last c.requires.begins.1) c.requires.first)
