-- The goals of drive_push.
use Rattle.std.proofs.Common.{◌∷◌, []}
use Rattle.hdfs_pipeline.specs.Driving.{StopsShort}
use Rattle.hdfs_pipeline.proofs.DrivingOn.{stops_more, drove_behind, stops_behind, on_err}
use Rattle.hdfs_pipeline.proofs.Happening.{happened_trans}
use Rattle.hdfs_pipeline.proofs.driver.drive_push.Goals as goal

pub returns-in_err-send_packet-clause-err : goal.returns-in_err-send_packet-clause-err
returns-in_err-send_packet-clause-err g c =
    on_err (StopsShort c.args.link (c.args.packet ∷ []) c.args.core.now (g.C.Cluster.shown c.args.cluster.now) (g.C.Cluster.shown c.send_packet.new.cluster)) c.from_residual-in_err-send_packet.result
    (stops_behind c.args.link (c.args.packet ∷ []) c.args.core.now c.make_room.new.core (g.C.Cluster.shown c.args.cluster.now) (g.C.Cluster.shown c.make_room.new.cluster) (g.C.Cluster.shown c.send_packet.new.cluster) c.in_ok-make_room.ensures.drove c.in_err-send_packet.ensures.err)

pub returns-clause-drove : goal.returns-clause-drove
returns-clause-drove g c =
    drove_behind c.args.link (c.args.packet ∷ []) c.args.core.now c.make_room.new.core c.send_packet.new.core (g.C.Cluster.shown c.args.cluster.now) (g.C.Cluster.shown c.make_room.new.cluster) (g.C.Cluster.shown c.send_packet.new.cluster) c.in_ok-make_room.ensures.drove c.in_ok-send_packet.ensures.drove

pub returns-clause-happened : goal.returns-clause-happened
returns-clause-happened g c =
    happened_trans c.args.link c.args.core.now c.make_room.new.core c.send_packet.new.core (g.C.Cluster.shown c.args.cluster.now) (g.C.Cluster.shown c.make_room.new.cluster) (g.C.Cluster.shown c.send_packet.new.cluster) c.in_ok-make_room.ensures.happened c.in_ok-send_packet.ensures.happened

pub returns-in_err-make_room-clause-err : goal.returns-in_err-make_room-clause-err
returns-in_err-make_room-clause-err g c =
    on_err (StopsShort c.args.link (c.args.packet ∷ []) c.args.core.now (g.C.Cluster.shown c.args.cluster.now) (g.C.Cluster.shown c.make_room.new.cluster)) c.from_residual.result
    (stops_more c.args.link (c.args.packet ∷ []) c.args.core.now (g.C.Cluster.shown c.args.cluster.now) (g.C.Cluster.shown c.make_room.new.cluster) c.in_err-make_room.ensures.err)
