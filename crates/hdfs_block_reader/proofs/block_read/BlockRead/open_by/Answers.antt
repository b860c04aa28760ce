-- The goals of BlockRead::open_by.
use Rattle.std.proofs.Common.{◌≡◌, ◌≢◌, Some, None, refl, arith, rules}
use Rattle.hdfs_cluster.specs.declared.asks.LinkFault.TheVariants as faults
use Rattle.hdfs_block_reader.specs.Blocks.{address_of_node, node_at}
use Rattle.hdfs_block_reader.specs.Reader.{tried_of}
use Rattle.hdfs_block_reader.specs.declared.given_up.GivenUp.TheVariants as reasons
use Rattle.hdfs_block_reader.proofs.Connected.{stays_goes, opens_goes, keeps_others}
use Rattle.hdfs_block_reader.proofs.Going.{still_goes, still_frame, not_opened_goes, stopped_behind}
use Rattle.hdfs_block_reader.proofs.Locations.{loses_one, tried_grows}
use Rattle.hdfs_block_reader.proofs.block_read.BlockRead.open_by.Goals as goal

pub returns-in_err-address-clause-goes : goal.returns-in_err-address-clause-goes
returns-in_err-address-clause-goes g c = stays_goes (g.C.Cluster.shown c.args.cluster.now) c.args.self.now c.requires.opens.holds

pub returns-in-Ok-clause-goes : goal.returns-in-Ok-clause-goes
returns-in-Ok-clause-goes g c =
    opens_goes (g.C.Cluster.shown c.args.cluster.now) (g.C.Cluster.shown c.connect.new.cluster) c.args.self.now c.args.ask.now c.in-Ok.link c.requires.opens.holds c.requires.opens.idle c.requires.opens.left c.in-Ok.ensures.ok c.requires.asked
    c.requires.offset

pub returns-in-Err-NoMemory-clause-goes : goal.returns-in-Err-NoMemory-clause-goes
returns-in-Err-NoMemory-clause-goes g c =
    let kept = c.in-Err-NoMemory.ensures.err in
    still_goes (g.C.Cluster.shown c.args.cluster.now) (g.C.Cluster.shown c.connect.new.cluster) c.args.self.now c.requires.opens.holds kept.later kept.last kept.reads kept.writes kept.picture

pub returns-in_err-lose-in-Err-clause-goes : goal.returns-in_err-lose-in-Err-clause-goes
returns-in_err-lose-in-Err-clause-goes g c =
    let failed = c.in-Err.ensures.err in
    stopped_behind (g.C.Cluster.shown c.args.cluster.now) (g.C.Cluster.shown c.connect.new.cluster) (g.C.Cluster.shown c.lose.new.cluster) c.args.self.now c.args.self.now c.lose.new.self c.requires.opens.holds
    (still_frame (g.C.Cluster.shown c.args.cluster.now) (g.C.Cluster.shown c.connect.new.cluster) c.args.self.now c.requires.opens.holds failed.later failed.last failed.reads failed.writes failed.picture)
    refl c.lose.ensures.frame c.in_err-lose-in-Err.ensures.err

pub returns-clause-goes : goal.returns-clause-goes
returns-clause-goes g c =
    let not_memory : c.in-Err.field-0 ≢ faults.NoMemory = search rules in
    let node : c.args.ask.now.node.datanode_uuid ≡ node_at c.args.self.now.block (tried_of c.args.self.now) = c.requires.asked.node in
    not_opened_goes (g.C.Cluster.shown c.args.cluster.now) (g.C.Cluster.shown c.connect.new.cluster) (g.C.Cluster.shown c.lose.new.cluster) c.args.self.now c.lose.new.self reasons.NotOpened c.args.ask.now c.in-Err.field-0
    c.requires.opens.holds c.in-Err.ensures.err not_memory node c.lose.ensures.frame c.in_ok-lose-in-Err.ensures.lost

pub returns-clause-opened : goal.returns-clause-opened
returns-clause-opened g c = loses_one c.args.self.now c.lose.new.self reasons.NotOpened c.requires.opens.left c.in_ok-lose-in-Err.ensures.lost

pub returns-in-Ok-clause-cached : goal.returns-in-Ok-clause-cached
returns-in-Ok-clause-cached g c =
    let address : c.as_str.result.now ≡ address_of_node c.args.ask.now.node = cc (c.as_str.ensures.value, c.in_ok-address.ensures) in
    keeps_others c.args.self.now (record c.args.self.now { link = Some c.in-Ok.link; position = None }) c.args.cache.now c.connect.new.cache c.args.self.now.given_up c.args.ask.now.node c.as_str.result.now refl
    (omega arith) c.requires.asked.listed address c.in-Ok.ensures.others

pub returns-in-Err-NoMemory-clause-cached : goal.returns-in-Err-NoMemory-clause-cached
returns-in-Err-NoMemory-clause-cached g c =
    let address : c.as_str.result.now ≡ address_of_node c.args.ask.now.node = cc (c.as_str.ensures.value, c.in_ok-address.ensures) in
    keeps_others c.args.self.now c.args.self.now c.args.cache.now c.connect.new.cache c.args.self.now.given_up c.args.ask.now.node c.as_str.result.now refl
    (omega arith) c.requires.asked.listed address c.in-Err-NoMemory.ensures.others

pub returns-in_err-lose-in-Err-clause-cached : goal.returns-in_err-lose-in-Err-clause-cached
returns-in_err-lose-in-Err-clause-cached g c =
    let address : c.as_str.result.now ≡ address_of_node c.args.ask.now.node = cc (c.as_str.ensures.value, c.in_ok-address.ensures) in
    keeps_others c.args.self.now c.lose.new.self c.args.cache.now c.connect.new.cache c.args.self.now.given_up c.args.ask.now.node c.as_str.result.now refl
    (tried_grows (g.C.Cluster.shown c.args.cluster.now) (g.C.Cluster.shown c.lose.new.cluster) c.args.self.now c.lose.new.self (returns-in_err-lose-in-Err-clause-goes g c).locations) c.requires.asked.listed address c.in-Err.ensures.others

pub returns-clause-cached : goal.returns-clause-cached
returns-clause-cached g c =
    let address : c.as_str.result.now ≡ address_of_node c.args.ask.now.node = cc (c.as_str.ensures.value, c.in_ok-address.ensures) in
    keeps_others c.args.self.now c.lose.new.self c.args.cache.now c.connect.new.cache c.args.self.now.given_up c.args.ask.now.node c.as_str.result.now refl
    (tried_grows (g.C.Cluster.shown c.args.cluster.now) (g.C.Cluster.shown c.lose.new.cluster) c.args.self.now c.lose.new.self (returns-clause-goes g c).locations) c.requires.asked.listed address c.in-Err.ensures.others
