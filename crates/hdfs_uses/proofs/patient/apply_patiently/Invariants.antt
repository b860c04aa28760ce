use Rattle.std.proofs.Common.{◌∷◌, []}
use Rattle.hdfs_model.specs.Headline.{WhereReady}
use Rattle.hdfs_cluster.specs.Fitting.{Fits}
use Rattle.hdfs_model.specs.Sessions.{world_of, none_open}
use Rattle.hdfs_cluster.specs.Shown.{Later}
use Rattle.hdfs_uses.proofs.patient.apply_patiently.Given as goal

-- the cluster agrees with the state, as it did
abbrev pub invariant-loop-session : goal.invariant-loop-session
invariant-loop-session g l =
    let start = g.C.Cluster.shown l.fn.cluster in
    let now = g.C.Cluster.shown l.cluster in
    record {
      later : Later start now;
      fits : WhereReady (world_of l.fn.settings start) (record { opened = none_open; shown = start }) (l.fn.command ∷ []) (λ state. Fits now state);
    }

-- the tries that are left
abbrev pub decreases-loop-session : goal.decreases-loop-session
decreases-loop-session g l = l.left
