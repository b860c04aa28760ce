-- A read that is tried again.
use Rattle.std.proofs.Common.{sym, subst}
use Rattle.hdfs_cluster.proofs.Frames.{later_trans}
use Rattle.hdfs_commands.specs.Asking.{Lets}
use Rattle.hdfs_model.specs.declared.commands.Settings.{Settings}
use Rattle.hdfs_uses.proofs.Patience.{answers_reply, answers_error, leaves_files}
use Rattle.hdfs_uses.proofs.patient.apply_patiently.Goals as goal

-- the session has the settings for which there is leave
pub apply-requires-clause-allowed : goal.apply-requires-clause-allowed
apply-requires-clause-allowed g c = λ fine placed.
    subst (λ (settings : Settings). Lets g.C.Cluster.allows g.C.Cluster.may_answer settings c.args.command.now) (sym c.in_ok-session.ensures.settings.0) c.requires.allowed

-- a reply is that of the step
pub returns-in-Ok : goal.returns-in-Ok
returns-in-Ok g c = λ state ready.
    let start = g.C.Cluster.shown c.args.cluster.now in
    let now = g.C.Cluster.shown c.loop-session.cluster in
    let made = c.in_ok-session.ensures in
    answers_reply start now c.args.settings.now c.in_ok-session.session c.args.command.now c.requires.reads made.settings.0 made.none.0 made.none.1 state ready (c.loop-session.invariant.fits state ready)
    (g.C.Cluster.shown c.apply.new.cluster) c.apply.new.self c.in-Ok.reply (c.in-Ok.ensures.executes made.fresh).acts

-- an error leaves the files
pub returns-then-left-le1 : goal.returns-then-left-le1
returns-then-left-le1 g c = λ state ready.
    let start = g.C.Cluster.shown c.args.cluster.now in
    let now = g.C.Cluster.shown c.loop-session.cluster in
    let made = c.in_ok-session.ensures in
    answers_error start now c.args.settings.now c.in_ok-session.session c.args.command.now c.requires.reads made.settings.0 made.none.0 made.none.1 state ready (c.loop-session.invariant.fits state ready)
    (g.C.Cluster.shown c.apply.new.cluster) c.apply.new.self c.in-Err.error (c.in-Err.ensures.executes made.fresh).acts

-- and so does one after which the read is tried again
pub loop-session-preserved : goal.loop-session-preserved
loop-session-preserved g c =
    let start = g.C.Cluster.shown c.args.cluster.now in
    let now = g.C.Cluster.shown c.loop-session.cluster in
    let new = g.C.Cluster.shown c.apply.new.cluster in
    let made = c.in_ok-session.ensures in
    let acts = (c.in-Err.ensures.executes made.fresh).acts in
    record {
      later = later_trans start now new c.loop-session.invariant.later acts.anywhere.later;
      fits = λ state ready.
          leaves_files start now c.args.settings.now c.in_ok-session.session c.args.command.now c.requires.reads made.settings.0 made.none.0 made.none.1 state ready (c.loop-session.invariant.fits state ready)
          new c.apply.new.self c.in-Err.error acts;
    }
