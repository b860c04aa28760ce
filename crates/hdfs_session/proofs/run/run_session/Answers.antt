-- The loop's fold goes on by one command, or stops there.
use Rattle.std.proofs.Common.{◌≡◌, ℕ, ◌+◌, ◌-◌, Option, is_some, List, [], length, take, Result, Err, Vec, refl, sym, ◌∙◌, ap, subst, arith, rules}
use Rattle.std.specs.declared.alloc.Global.{Global}
use Rattle.std.proofs.lemmas.List.{take_all, length_push}
use Rattle.hdfs_model.specs.declared.commands.Command.{Command}
use Rattle.hdfs_model.specs.declared.commands.Reply.{Reply}
use Rattle.hdfs_model.specs.declared.commands.Settings.{Settings}
use Rattle.hdfs_file_writer.specs.declared.file_writer.FileWriter.{FileWriter}
use Rattle.hdfs_model.specs.Anywhere.{AreReplies}
use Rattle.hdfs_model.specs.Steps.{World}
use Rattle.hdfs_model.specs.Sessions.{world_of}
use Rattle.hdfs_cluster.proofs.Frames.{later_refl, later_trans, same_reads_refl, same_reads_trans}
use Rattle.hdfs_cluster.specs.declared.errors.HdfsError.{HdfsError}
use Rattle.hdfs_model.specs.Folds.{fold}
use Rattle.std.specs.List.{slice_get}
use Rattle.std.proofs.lemmas.Option.{slice_get_read}
use Rattle.hdfs_commands.specs.Acting.{Acts}
use Rattle.hdfs_commands.specs.Refusing.{RefusedBy}
use Rattle.hdfs_commands.specs.Asking.{Lets}
use Rattle.hdfs_session.proofs.Ending.{replies_next, runs_failed, tallied_start}
use Rattle.hdfs_session.proofs.Finishing.{complete_done}
use Rattle.hdfs_session.proofs.Going.{GoneOn, gone_none, goes_on, stops_there, complete_there, ends_there}
use Rattle.hdfs_session.proofs.WholeGoing.{leaves_end, leaves_stopped, whole_goes_on, whole_none}
use Rattle.hdfs_commands.specs.Whole.{KeepsBlocksWhole}
use Rattle.hdfs_session.proofs.Owning.{own_end, own_next, own_start}
use Rattle.hdfs_session.proofs.run.run_session.Goals as goal

-- a result that is an error
abbrev failed_with : HdfsError → Result Reply HdfsError
failed_with e = Err e

-- before the first command
pub loop-command-init : goal.loop-command-init
loop-command-init g c =
    let s = g.C.Cluster.shown c.args.cluster.now in
    let session = c.in-Ok-new.session in
    let made = c.in-Ok-new.ensures in
    let w : World = world_of c.args.settings.now s in
    record {
      later = later_refl s;
      reads = same_reads_refl s;
      own = own_start s session made.none.0;
      stands = made.stands;
      fine = made.fresh;
      tallied = tallied_start s session made.none.0;
      answered = made.answered;
      settings = made.settings.0;
      count = ap length c.in-Ok.ensures.items;
      replied = subst (AreReplies []) (sym c.in-Ok.ensures.items) tt;
      room = search rules;
      whole = λ state ready. whole_none w s session made.none.0;
      told = λ state ready.
          subst (λ (rs : List Reply). GoneOn w state c.args.commands.now 0 rs s session) (sym c.in-Ok.ensures.items)
          (gone_none w state c.args.commands.now s session ready.fits (λ path. ready.opened path ∙ sym (ap (λ (o : Option FileWriter). is_some o) (made.none.0 path))) ready.avoids
          (record {
            each = λ p told path writer is. (let none = made.none.0 path in absurd (cc (is, none)));
            defaults = rw made.none.1 tt;
          }) (ap (λ (x : Settings). world_of x s) made.settings.0));
    }

-- a command of the list has leave
pub apply-requires-clause-allowed : goal.apply-requires-clause-allowed
apply-requires-clause-allowed g c = λ fine placed.
    let command = c.command-item.result in
    let i = c.loop-command.command-index in
    subst (λ (x : Settings). Lets g.C.Cluster.allows g.C.Cluster.may_answer x command) (sym c.loop-command.invariant.settings)
    (subst (λ (x : Command). Lets g.C.Cluster.allows g.C.Cluster.may_answer c.args.settings.now x) (sym c.command-item.is) (c.requires.allowed i command c.loop-command-test.true))

pub loop-command-preserved : goal.loop-command-preserved
loop-command-preserved g c =
    let s = g.C.Cluster.shown c.args.cluster.now in
    let t = g.C.Cluster.shown c.loop-command.cluster in
    let u = g.C.Cluster.shown c.apply.new.cluster in
    let before = c.loop-command.invariant in
    let now = c.in-Ok-apply.ensures.executes before.fine in
    let acts = now.acts in
    let w : World = world_of c.args.settings.now s in
    let i = c.loop-command.command-index in
    let command = c.command-item.result in
    let reply = c.in-Ok-apply.reply in
    record {
      later = later_trans s t u before.later acts.anywhere.later;
      reads = same_reads_trans s t u before.reads acts.anywhere.reads;
      own = own_next s t u c.loop-command.session c.apply.new.self before.own acts.links;
      answered = now.answered;
      stands = acts.stands;
      fine = now.fails.1;
      tallied = acts.tallied s before.tallied;
      settings = now.settings ∙ before.settings;
      count = ap length c.push_reserved.ensures.items ∙ length_push c.loop-command.replies.items reply ∙ ap (λ (n : ℕ). n + 1) before.count;
      replied = subst (AreReplies (take (i + 1) c.args.commands.now)) (sym c.push_reserved.ensures.items)
          (replies_next c.args.commands.now i c.loop-command.replies.items command reply c.loop-command-test.true c.command-item.is before.replied acts.anywhere.replies);
      room = omega (arith, before.room, c.push_reserved.ensures.capacity);
      whole = λ state ready.
          whole_goes_on w state c.args.commands.now i c.loop-command.replies.items s t u c.loop-command.session c.apply.new.self command (before.told state ready) (before.whole state ready)
          c.loop-command-test.true c.command-item.is reply now.whole;
      told = λ state ready.
          subst (λ (rs : List Reply). GoneOn w state c.args.commands.now (i + 1) rs u c.apply.new.self) (sym c.push_reserved.ensures.items)
          (goes_on w state c.args.commands.now i c.loop-command.replies.items t c.loop-command.session command (before.told state ready) c.loop-command-test.true c.command-item.is u c.apply.new.self reply acts);
    }

pub returns-in-Err-apply-clause-anywhere : goal.returns-in-Err-apply-clause-anywhere
returns-in-Err-apply-clause-anywhere g c =
    let s = g.C.Cluster.shown c.args.cluster.now in
    let t = g.C.Cluster.shown c.loop-command.cluster in
    let u = g.C.Cluster.shown c.apply.new.cluster in
    let v = g.C.Cluster.shown c.abandon.new.cluster in
    let before = c.loop-command.invariant in
    let f = c.fault_at-in-Err-apply in
    let command = c.command-item.result in
    let acts = subst (λ (e : HdfsError). Acts command t c.loop-command.session u c.apply.new.self (failed_with e)) (sym f.ensures.error) (c.in-Err-apply.ensures.executes before.fine).acts in
    let at : f.result.at ≡ c.loop-command.command-index + 1 = omega (arith, f.ensures.at, c.len.ensures, c.loop-command.replies.ok, before.count) in
    let kept = c.abandon.ensures.keeps in
    runs_failed c.args.commands.now s t u v c.loop-command.session c.apply.new.self c.loop-command.command-index command f.result c.loop-command-test.true c.command-item.is before.later before.reads before.own before.tallied acts
    kept.0 kept.1 kept.2 c.abandon.ensures.others c.abandon.ensures.none at
    (subst (AreReplies (take c.loop-command.command-index c.args.commands.now)) (sym f.ensures.done) before.replied)

pub returns-in-Err-apply-clause-start : goal.returns-in-Err-apply-clause-start
returns-in-Err-apply-clause-start g c = λ begun. absurd (omega (arith, begun, c.fault_at-in-Err-apply.ensures.at, c.len.ensures))

pub returns-in-Err-apply-clause-ran : goal.returns-in-Err-apply-clause-ran
returns-in-Err-apply-clause-ran g c = λ good state ready.
    let s = g.C.Cluster.shown c.args.cluster.now in
    let t = g.C.Cluster.shown c.loop-command.cluster in
    let u = g.C.Cluster.shown c.apply.new.cluster in
    let v = g.C.Cluster.shown c.abandon.new.cluster in
    let w : World = world_of c.args.settings.now s in
    let before = c.loop-command.invariant in
    let f = c.fault_at-in-Err-apply in
    let i = c.loop-command.command-index in
    let command = c.command-item.result in
    let replies = c.loop-command.replies.items in
    let acts = subst (λ (e : HdfsError). Acts command t c.loop-command.session u c.apply.new.self (failed_with e)) (sym f.ensures.error) (c.in-Err-apply.ensures.executes before.fine).acts in
    let at : f.result.at ≡ i + 1 = omega (arith, f.ensures.at, c.len.ensures, c.loop-command.replies.ok, before.count) in
    let gone = before.told state ready in
    let kept = c.abandon.ensures.keeps in
    record {
      ok = tt;
      err = stops_there w state c.args.commands.now i replies t c.loop-command.session command gone c.loop-command-test.true c.command-item.is u c.apply.new.self s v before.later acts.anywhere.later kept.0 kept.1 c.abandon.ensures.files f.result acts at f.ensures.done kept.2;
      complete = λ limited none. complete_there w state c.args.commands.now i replies t c.loop-command.session command gone c.loop-command-test.true c.command-item.is u c.apply.new.self s v before.later acts.anywhere.later kept.0 kept.1 c.abandon.ensures.files f.result acts at (Vec Reply Global) limited none;
    }

pub returns-clause-ran : goal.returns-clause-ran
returns-clause-ran g c = λ good state ready.
    let t = g.C.Cluster.shown c.loop-command.cluster in
    let v = g.C.Cluster.shown c.abandon-2.new.cluster in
    let w : World = world_of c.args.settings.now (g.C.Cluster.shown c.args.cluster.now) in
    let gone = c.loop-command.invariant.told state ready in
    let all = take_all c.loop-command.command-index c.args.commands.now c.loop-command-test.false in
    let end = ends_there w state c.args.commands.now c.loop-command.command-index c.loop-command.replies.items t v c.loop-command.session gone all c.abandon-2.ensures.files in
    record {
      ok = end;
      err = tt;
      complete = λ limited none. complete_done (fold w state c.args.commands.now) c.loop-command.replies c.loop-command.replies.items end.0 end.1;
    }

pub returns-clause-anywhere : goal.returns-clause-anywhere
returns-clause-anywhere g c =
    let s = g.C.Cluster.shown c.args.cluster.now in
    let t = g.C.Cluster.shown c.loop-command.cluster in
    let v = g.C.Cluster.shown c.abandon-2.new.cluster in
    let session = c.loop-command.session in
    let before = c.loop-command.invariant in
    let kept = c.abandon-2.ensures.keeps in
    record {
      later = later_trans s t v before.later kept.0;
      reads = same_reads_trans s t v before.reads kept.1;
      writes = own_end s t v session session before.own c.abandon-2.ensures.others c.abandon-2.ensures.none;
      replies = subst (λ cs. AreReplies cs c.loop-command.replies.items) (take_all c.loop-command.command-index c.args.commands.now c.loop-command-test.false) before.replied;
      done = tt;
      tells = tt;
      limit = tt;
    }

pub returns-in-Err-apply-clause-whole : goal.returns-in-Err-apply-clause-whole
returns-in-Err-apply-clause-whole g c = λ good state ready.
    let s = g.C.Cluster.shown c.args.cluster.now in
    let t = g.C.Cluster.shown c.loop-command.cluster in
    let u = g.C.Cluster.shown c.apply.new.cluster in
    let v = g.C.Cluster.shown c.abandon.new.cluster in
    let w : World = world_of c.args.settings.now s in
    let before = c.loop-command.invariant in
    let f = c.fault_at-in-Err-apply in
    let i = c.loop-command.command-index in
    let command = c.command-item.result in
    let acts = subst (λ (e : HdfsError). Acts command t c.loop-command.session u c.apply.new.self (failed_with e)) (sym f.ensures.error) (c.in-Err-apply.ensures.executes before.fine).acts in
    let keeps = subst (λ (e : HdfsError). KeepsBlocksWhole command t c.loop-command.session u c.apply.new.self (failed_with e)) (sym f.ensures.error) (c.in-Err-apply.ensures.executes before.fine).whole in
    let at : f.result.at ≡ i + 1 = omega (arith, f.ensures.at, c.len.ensures, c.loop-command.replies.ok, before.count) in
    leaves_stopped w state c.args.commands.now i c.loop-command.replies.items s t u c.loop-command.session c.apply.new.self command (before.told state ready) (before.whole state ready)
    c.loop-command-test.true c.command-item.is v f.result acts keeps c.abandon.ensures.files c.abandon.ensures.keeps.1 at

pub returns-clause-whole : goal.returns-clause-whole
returns-clause-whole g c = λ good state ready.
    let s = g.C.Cluster.shown c.args.cluster.now in
    let t = g.C.Cluster.shown c.loop-command.cluster in
    let v = g.C.Cluster.shown c.abandon-2.new.cluster in
    let w : World = world_of c.args.settings.now s in
    let before = c.loop-command.invariant in
    let all = take_all c.loop-command.command-index c.args.commands.now c.loop-command-test.false in
    leaves_end w state c.args.commands.now c.loop-command.command-index c.loop-command.replies.items s t v c.loop-command.session (before.told state ready) (before.whole state ready) all
    c.abandon-2.ensures.files c.abandon-2.ensures.keeps.1 c.loop-command.replies

pub returns-in-Err-apply-clause-refused : goal.returns-in-Err-apply-clause-refused
returns-in-Err-apply-clause-refused g c = λ some.
    let before = c.loop-command.invariant in
    let f = c.fault_at-in-Err-apply in
    let i = c.loop-command.command-index in
    let command = c.command-item.result in
    let refused = subst (λ (x : Settings). RefusedBy g.C.Cluster.may_answer x command c.in-Err-apply.error) before.settings (c.in-Err-apply.ensures.executes before.fine).refused in
    let at : f.result.at - 1 ≡ i = omega (arith, f.ensures.at, c.len.ensures, c.loop-command.replies.ok, before.count) in (
      command,
      ap (slice_get c.args.commands.now) at ∙ slice_get_read c.args.commands.now (length c.args.commands.now) i command refl c.loop-command-test.true c.command-item.is,
      subst (RefusedBy g.C.Cluster.may_answer c.args.settings.now command) (sym f.ensures.error) refused,
    )
