use Rattle.std.proofs.Common.{◌≡◌, ◌≤◌, length, take, false, vec_capacity}
use Rattle.hdfs_model.specs.Anywhere.{AreReplies}
use Rattle.hdfs_cluster.specs.Files.{State}
use Rattle.hdfs_model.specs.Headline.{Ready}
use Rattle.hdfs_model.specs.Sessions.{none_open, world_of}
use Rattle.hdfs_cluster.specs.Shown.{Later, SameReads}
use Rattle.hdfs_commands.specs.Asking.{AreAnswered}
use Rattle.hdfs_commands.specs.Session.{Stands, Tallied, settings_of, has_failed}
use Rattle.hdfs_session.proofs.Going.{GoneOn}
use Rattle.hdfs_session.proofs.WholeGoing.{WholeSoFar}
use Rattle.hdfs_session.proofs.Owning.{OwnLinks}
use Rattle.hdfs_session.proofs.run.run_session.Given as goal

abbrev pub invariant-loop-command : goal.invariant-loop-command
invariant-loop-command g l =
    let start = g.C.Cluster.shown l.fn.cluster in
    let now = g.C.Cluster.shown l.cluster in
    record {
      later : Later start now;
      reads : SameReads start now;
      own : OwnLinks start now l.session;
      stands : Stands now l.session;
      fine : has_failed l.session ≡ false;
      tallied : Tallied start now l.session;
      answered : AreAnswered g.C.Cluster.may_answer l.session;
      settings : settings_of l.session ≡ l.fn.settings;
      count : length l.replies.items ≡ l.command-index;
      replied : AreReplies (take l.command-index l.commands) l.replies.items;
      room : length l.commands ≤ vec_capacity l.replies;
      whole : (state : State) → Ready (world_of l.fn.settings start) (record { opened = none_open; shown = start }) state l.commands
          → WholeSoFar (world_of l.fn.settings start) (take l.command-index l.commands) start now l.session;
      told : (state : State) → Ready (world_of l.fn.settings start) (record { opened = none_open; shown = start }) state l.commands
          → GoneOn (world_of l.fn.settings start) state l.commands l.command-index l.replies.items now l.session;
    }
