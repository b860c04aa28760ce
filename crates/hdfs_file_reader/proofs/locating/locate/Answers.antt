-- What the ask of a service says of the look-up.
use Rattle.std.proofs.Common.{false, Option, Ok, ap, refl}
use Rattle.hdfs_cluster.specs.declared.asks.Answer.TheVariants as answers
use Rattle.hdfs_cluster.specs.declared.errors.HdfsError.TheVariants as errors
use Rattle.hdfs_cluster.specs.declared.messages.LocatedBlocks.{LocatedBlocks}
use Rattle.hdfs_namenode.specs.Clients.{proxy_of, through}
use Rattle.hdfs_namenode.specs.Views.{view_of}
use Rattle.hdfs_namenode.proofs.Relayed.{came_as}
use Rattle.hdfs_file_reader.proofs.Looking.{answered_in_vain, files_looked, found_looked, looks_once, vain_error, vain_missing}
use Rattle.hdfs_file_reader.proofs.locating.locate.Goals as goal

-- ---- there is no file

pub returns-in_err-from_str-in-Ok-None-clause-looks : goal.returns-in_err-from_str-in-Ok-None-clause-looks
returns-in_err-from_str-in-Ok-None-clause-looks g c =
    looks_once g.C.Cluster.shown g.C.Cluster.serves g.met.C.Cluster.serves_rows false _ (through c.args.namenode.now c.args.cluster.now) _
    (through c.get_block_locations.new.self c.get_block_locations.new.cluster) c.in-Ok-None.ensures.asked

pub returns-in_err-from_str-in-Ok-None-clause-files : goal.returns-in_err-from_str-in-Ok-None-clause-files
returns-in_err-from_str-in-Ok-None-clause-files g c = λ view has. files_looked (c.in-Ok-None.ensures.came view has)

pub returns-in_ok-from_str-in-Ok-None-clause-looks : goal.returns-in_ok-from_str-in-Ok-None-clause-looks
returns-in_ok-from_str-in-Ok-None-clause-looks g c =
    looks_once g.C.Cluster.shown g.C.Cluster.serves g.met.C.Cluster.serves_rows false _ (through c.args.namenode.now c.args.cluster.now) _
    (through c.get_block_locations.new.self c.get_block_locations.new.cluster) c.in-Ok-None.ensures.asked

pub returns-in_ok-from_str-in-Ok-None-clause-files : goal.returns-in_ok-from_str-in-Ok-None-clause-files
returns-in_ok-from_str-in-Ok-None-clause-files g c = λ view has. files_looked (c.in-Ok-None.ensures.came view has)

pub returns-in_ok-from_str-in-Ok-None-clause-err : goal.returns-in_ok-from_str-in-Ok-None-clause-err
returns-in_ok-from_str-in-Ok-None-clause-err g c = λ view has.
    vain_missing (ap errors.FileNotFound c.in_ok-from_str-in-Ok-None.ensures)
    (came_as refl (ap (λ (found : Option LocatedBlocks). Ok (answers.GetBlockLocations found)) c.in-Ok-None.field-0-is) (c.in-Ok-None.ensures.came view has))

-- ---- the ask has failed

pub returns-in-Err-clause-looks : goal.returns-in-Err-clause-looks
returns-in-Err-clause-looks g c =
    looks_once g.C.Cluster.shown g.C.Cluster.serves g.met.C.Cluster.serves_rows false _ (through c.args.namenode.now c.args.cluster.now) _
    (through c.get_block_locations.new.self c.get_block_locations.new.cluster) c.in-Err.ensures.asked

pub returns-in-Err-clause-files : goal.returns-in-Err-clause-files
returns-in-Err-clause-files g c = λ view has. files_looked (c.in-Err.ensures.came view has)

pub returns-in-Err-clause-err : goal.returns-in-Err-clause-err
returns-in-Err-clause-err g c = λ view has. vain_error (c.in-Err.ensures.came view has)

pub returns-in-Err-clause-answered : goal.returns-in-Err-clause-answered
returns-in-Err-clause-answered g c =
    answered_in_vain g.C.Cluster.may_answer c.args.path.now c.in-Err.error (c.in-Err.ensures.came (view_of (proxy_of c.args.namenode.now)) (refl, refl)).relays.tells.0

-- ---- the blocks

pub returns-in-Ok-Some-clause-looks : goal.returns-in-Ok-Some-clause-looks
returns-in-Ok-Some-clause-looks g c =
    looks_once g.C.Cluster.shown g.C.Cluster.serves g.met.C.Cluster.serves_rows false _ (through c.args.namenode.now c.args.cluster.now) _
    (through c.get_block_locations.new.self c.get_block_locations.new.cluster) c.in-Ok-Some.ensures.asked

pub returns-in-Ok-Some-clause-files : goal.returns-in-Ok-Some-clause-files
returns-in-Ok-Some-clause-files g c = λ view has. files_looked (c.in-Ok-Some.ensures.came view has)

pub returns-in-Ok-Some-clause-found : goal.returns-in-Ok-Some-clause-found
returns-in-Ok-Some-clause-found g c = λ view has p told closed.
    found_looked {offset = 0} {length = 9223372036854775807}
    (came_as refl (ap (λ (found : Option LocatedBlocks). Ok (answers.GetBlockLocations found)) c.in-Ok-Some.field-0-is) (c.in-Ok-Some.ensures.came view has))
    p told closed (refl, refl)
