-- The goals of read_all.
use Rattle.std.proofs.Common.{rules, ◌≡◌, [], None}
use Rattle.hdfs_pipeline.specs.Driving.{StopsShort}
use Rattle.hdfs_pipeline.proofs.DrivingOn.{drove_refl, drove_behind, last_left, stops_behind, on_err}
use Rattle.hdfs_pipeline.proofs.Happening.{happened_refl, happened_trans}
use Rattle.hdfs_pipeline.proofs.driver.read_all.Goals as goal

pub acks-init : goal.acks-init
acks-init g c = record { drove = drove_refl c.args.link c.args.core.now (g.C.Cluster.shown c.args.cluster.now) c.requires.drives; happened = happened_refl c.args.link c.args.core.now (g.C.Cluster.shown c.args.cluster.now); last = c.requires.last }

pub acks-preserved : goal.acks-preserved
acks-preserved g c =
    let read = c.in_ok-read_ack.ensures.drove in
    let going : c.acks.core.end ≡ None = search rules in
    record {
      drove = drove_behind c.args.link [] c.args.core.now c.acks.core c.read_ack.new.core (g.C.Cluster.shown c.args.cluster.now) (g.C.Cluster.shown c.acks.cluster) (g.C.Cluster.shown c.read_ack.new.cluster) c.acks.invariant.drove read;
      happened = happened_trans c.args.link c.args.core.now c.acks.core c.read_ack.new.core (g.C.Cluster.shown c.args.cluster.now) (g.C.Cluster.shown c.acks.cluster) (g.C.Cluster.shown c.read_ack.new.cluster) c.acks.invariant.happened c.in_ok-read_ack.ensures.happened;
      last = λ none. last_left c.acks.core c.read_ack.new.core read.acknowledged read.goes none (c.acks.invariant.last going);
    }

pub returns-in_err-read_ack-clause-err : goal.returns-in_err-read_ack-clause-err
returns-in_err-read_ack-clause-err g c =
    on_err (StopsShort c.args.link [] c.args.core.now (g.C.Cluster.shown c.args.cluster.now) (g.C.Cluster.shown c.read_ack.new.cluster)) c.from_residual.result
    (stops_behind c.args.link [] c.args.core.now c.acks.core (g.C.Cluster.shown c.args.cluster.now) (g.C.Cluster.shown c.acks.cluster) (g.C.Cluster.shown c.read_ack.new.cluster) c.acks.invariant.drove c.in_err-read_ack.ensures.err)
