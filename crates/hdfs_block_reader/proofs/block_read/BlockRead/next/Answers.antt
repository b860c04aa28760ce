-- A call is the piece that it reads, and the ending of the link where the range is given or no location is left.
use Rattle.std.proofs.Common.{◌≡◌, Some, refl, subst, ◌∙◌, ap, arith, rules}
use Rattle.hdfs_cluster.specs.Picture.{Picture}
use Rattle.hdfs_cluster.specs.declared.messages.LocatedBlock.{LocatedBlock}
use Rattle.hdfs_block_reader.specs.Blocks.{node_count}
use Rattle.hdfs_block_reader.specs.Reader.{tried_of, Blamed, IsPieceOf}
use Rattle.hdfs_block_reader.proofs.Connected.{keeps_connections_trans}
use Rattle.hdfs_block_reader.proofs.Joining.{goes_trans, over_goes, reads_from-Goes, keeps_from-Goes}
use Rattle.hdfs_block_reader.proofs.Locations.{tries_again}
use Rattle.hdfs_block_reader.proofs.block_read.BlockRead.next.Goals as goal

pub returns-in-Ok-Some-clause-reads : goal.returns-in-Ok-Some-clause-reads
returns-in-Ok-Some-clause-reads g c =
    let s = g.C.Cluster.shown c.args.cluster.now in
    let u = g.C.Cluster.shown c.finish_at_end.new.cluster in
    reads_from-Goes s u c.args.self.now c.finish_at_end.new.self (goes_trans s (g.C.Cluster.shown c.piece.new.cluster) u c.args.self.now c.piece.new.self c.finish_at_end.new.self c.piece.ensures.goes c.finish_at_end.ensures.goes)

pub returns-in-Ok-Some-clause-bytes : goal.returns-in-Ok-Some-clause-bytes
returns-in-Ok-Some-clause-bytes g c = λ block shows. subst (IsPieceOf block c.args.self.now.wanted) (c.in-Ok-Some.field-0-is ∙ ap Some c.in-Ok-Some.bytes-is) (c.in-Ok-Some.ensures.bytes block shows)

pub returns-in-Ok-None-clause-reads : goal.returns-in-Ok-None-clause-reads
returns-in-Ok-None-clause-reads g c =
    let s = g.C.Cluster.shown c.args.cluster.now in
    let u = g.C.Cluster.shown c.fail.new.cluster in
    reads_from-Goes s u c.args.self.now c.fail.new.self (goes_trans s (g.C.Cluster.shown c.piece.new.cluster) u c.args.self.now c.piece.new.self c.fail.new.self c.piece.ensures.goes c.fail.ensures.goes)

pub returns-in-Ok-None-clause-cause : goal.returns-in-Ok-None-clause-cause
returns-in-Ok-None-clause-cause g c = λ is start block over picture told k lt.
    let s = g.C.Cluster.shown c.args.cluster.now in
    let u = g.C.Cluster.shown c.fail.new.cluster in
    let goes = goes_trans s (g.C.Cluster.shown c.piece.new.cluster) u c.args.self.now c.piece.new.self c.fail.new.self c.piece.ensures.goes c.fail.ensures.goes in
    let after = over_goes s u c.args.self.now c.fail.new.self goes start block over in
    let same : after.shows.picture ≡ picture = cc (after.shows.told, told) in
    let tried : tried_of c.fail.new.self ≡ node_count c.args.self.now.block = search rules in
    subst (λ (b : LocatedBlock). Blamed start u picture b block k) goes.frame.block (subst (λ (p : Picture). Blamed start u p c.fail.new.self.block block k) same (after.blamed k (omega (arith, lt, tried))))

pub returns-in-Err-clause-reads : goal.returns-in-Err-clause-reads
returns-in-Err-clause-reads g c =
    let s = g.C.Cluster.shown c.args.cluster.now in
    let u = g.C.Cluster.shown c.fail-in-Err.new.cluster in
    reads_from-Goes s u c.args.self.now c.fail-in-Err.new.self (goes_trans s (g.C.Cluster.shown c.piece.new.cluster) u c.args.self.now c.piece.new.self c.fail-in-Err.new.self c.piece.ensures.goes c.fail-in-Err.ensures.goes)

pub returns-in-Ok-Some-clause-keeps : goal.returns-in-Ok-Some-clause-keeps
returns-in-Ok-Some-clause-keeps g c =
    let s = g.C.Cluster.shown c.args.cluster.now in
    let u = g.C.Cluster.shown c.finish_at_end.new.cluster in
    keeps_from-Goes s u c.args.self.now c.finish_at_end.new.self (goes_trans s (g.C.Cluster.shown c.piece.new.cluster) u c.args.self.now c.piece.new.self c.finish_at_end.new.self c.piece.ensures.goes c.finish_at_end.ensures.goes)
    (record { holds = c.finish_at_end.ensures.goes.frame.holds; idle = search rules })

pub returns-in-Ok-None-clause-keeps : goal.returns-in-Ok-None-clause-keeps
returns-in-Ok-None-clause-keeps g c =
    let s = g.C.Cluster.shown c.args.cluster.now in
    let u = g.C.Cluster.shown c.fail.new.cluster in
    keeps_from-Goes s u c.args.self.now c.fail.new.self (goes_trans s (g.C.Cluster.shown c.piece.new.cluster) u c.args.self.now c.piece.new.self c.fail.new.self c.piece.ensures.goes c.fail.ensures.goes)
    (record { holds = c.fail.ensures.goes.frame.holds; idle = search rules })

pub returns-in-Err-clause-keeps : goal.returns-in-Err-clause-keeps
returns-in-Err-clause-keeps g c =
    let s = g.C.Cluster.shown c.args.cluster.now in
    let u = g.C.Cluster.shown c.fail-in-Err.new.cluster in
    keeps_from-Goes s u c.args.self.now c.fail-in-Err.new.self (goes_trans s (g.C.Cluster.shown c.piece.new.cluster) u c.args.self.now c.piece.new.self c.fail-in-Err.new.self c.piece.ensures.goes c.fail-in-Err.ensures.goes)
    (record { holds = c.fail-in-Err.ensures.goes.frame.holds; idle = search rules })

pub returns-in-Ok-Some-clause-again : goal.returns-in-Ok-Some-clause-again
returns-in-Ok-Some-clause-again g c =
    let s = g.C.Cluster.shown c.args.cluster.now in
    let u = g.C.Cluster.shown c.finish_at_end.new.cluster in
    tries_again s u c.args.self.now c.finish_at_end.new.self (goes_trans s (g.C.Cluster.shown c.piece.new.cluster) u c.args.self.now c.piece.new.self c.finish_at_end.new.self c.piece.ensures.goes c.finish_at_end.ensures.goes).locations

pub returns-in-Ok-None-clause-again : goal.returns-in-Ok-None-clause-again
returns-in-Ok-None-clause-again g c =
    let s = g.C.Cluster.shown c.args.cluster.now in
    let u = g.C.Cluster.shown c.fail.new.cluster in
    tries_again s u c.args.self.now c.fail.new.self (goes_trans s (g.C.Cluster.shown c.piece.new.cluster) u c.args.self.now c.piece.new.self c.fail.new.self c.piece.ensures.goes c.fail.ensures.goes).locations

pub returns-in-Err-clause-again : goal.returns-in-Err-clause-again
returns-in-Err-clause-again g c =
    let s = g.C.Cluster.shown c.args.cluster.now in
    let u = g.C.Cluster.shown c.fail-in-Err.new.cluster in
    tries_again s u c.args.self.now c.fail-in-Err.new.self (goes_trans s (g.C.Cluster.shown c.piece.new.cluster) u c.args.self.now c.piece.new.self c.fail-in-Err.new.self c.piece.ensures.goes c.fail-in-Err.ensures.goes).locations

pub returns-in-Ok-Some-clause-cached : goal.returns-in-Ok-Some-clause-cached
returns-in-Ok-Some-clause-cached g c =
    let s = g.C.Cluster.shown c.args.cluster.now in
    keeps_connections_trans s (g.C.Cluster.shown c.piece.new.cluster) (g.C.Cluster.shown c.finish_at_end.new.cluster) c.args.self.now c.piece.new.self c.finish_at_end.new.self c.piece.ensures.goes c.finish_at_end.ensures.goes
    c.args.cache.now c.piece.new.cache c.finish_at_end.new.cache c.piece.ensures.cached c.finish_at_end.ensures.cached

pub returns-in-Ok-None-clause-cached : goal.returns-in-Ok-None-clause-cached
returns-in-Ok-None-clause-cached g c =
    let s = g.C.Cluster.shown c.args.cluster.now in
    keeps_connections_trans s (g.C.Cluster.shown c.piece.new.cluster) (g.C.Cluster.shown c.fail.new.cluster) c.args.self.now c.piece.new.self c.fail.new.self c.piece.ensures.goes c.fail.ensures.goes
    c.args.cache.now c.piece.new.cache c.piece.new.cache c.piece.ensures.cached (λ address none. refl)

pub returns-in-Err-clause-cached : goal.returns-in-Err-clause-cached
returns-in-Err-clause-cached g c =
    let s = g.C.Cluster.shown c.args.cluster.now in
    keeps_connections_trans s (g.C.Cluster.shown c.piece.new.cluster) (g.C.Cluster.shown c.fail-in-Err.new.cluster) c.args.self.now c.piece.new.self c.fail-in-Err.new.self c.piece.ensures.goes c.fail-in-Err.ensures.goes
    c.args.cache.now c.piece.new.cache c.piece.new.cache c.piece.ensures.cached (λ address none. refl)
