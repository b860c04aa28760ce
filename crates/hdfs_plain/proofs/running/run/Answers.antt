use Rattle.std.proofs.Common.{◌≡◌, ◌+◌, List, [], ◌∷◌, ◌++◌, take, sym, ◌∙◌, ap, subst}
use Rattle.std.proofs.lemmas.List.{take_more}
use Rattle.hdfs_model.specs.declared.commands.Command.{Command}
use Rattle.hdfs_model.specs.declared.commands.Reply.{Reply}
use Rattle.hdfs_model.specs.Steps.{World, step}
use Rattle.hdfs_model.specs.Folds.{Ends, Stops, fold}
use Rattle.hdfs_plain.specs.declared.outcome.PlainOutcome.{PlainOutcome}
use Rattle.hdfs_plain.specs.declared.outcome.PlainOutcome.TheVariants as outcomes
use Rattle.hdfs_plain.specs.Answers.{Comes, refusal_of, world_of}
use Rattle.hdfs_model.proofs.Folding.{fold-push, fold-stop_at}
use Rattle.hdfs_plain.proofs.running.run.Goals as goal

-- one command more is done
pub loop-command-preserved : goal.loop-command-preserved
loop-command-preserved c = λ state holds.
    let w : World = world_of c.args.world.now in
    let i = c.loop-command.command-index in
    let command = c.command-item.result in
    let reply = c.in-Done.reply in
    let so_far = c.loop-command.invariant state holds in
    let came : Comes (outcomes.Done reply) (step w so_far.0 command) so_far.0 c.run_one.new.files =
    subst (λ (o : PlainOutcome). Comes o (step w so_far.0 command) so_far.0 c.run_one.new.files) c.in-Done.is (c.in_ok-reply.ensures so_far.0 so_far.2) in
    let more : take (i + 1) c.args.commands.now ≡ take i c.args.commands.now ++ command ∷ [] = take_more c.args.commands.now i command c.loop-command-test.true ∙ ap (λ (x : Command). take i c.args.commands.now ++ x ∷ []) (sym c.command-item.is) in (
      came.0,
      ap (fold w state) more
          ∙ fold-push w state (take i c.args.commands.now) command c.loop-command.replies.items so_far.0 reply came.0 so_far.1 came.1
          ∙ ap (λ (rs : List Reply). Ends rs came.0) (sym c.in_ok-push-in-Done.ensures.items),
      came.2,
    )

-- a command is refused
pub returns-in-Refused : goal.returns-in-Refused
returns-in-Refused c = λ state holds.
    let w : World = world_of c.args.world.now in
    let command = c.command-item.result in
    let why = c.in-Refused.why in
    let so_far = c.loop-command.invariant state holds in
    let came : Comes (outcomes.Refused why) (step w so_far.0 command) so_far.0 c.run_one.new.files =
    subst (λ (o : PlainOutcome). Comes o (step w so_far.0 command) so_far.0 c.run_one.new.files) c.in-Refused.is (c.in_ok-reply.ensures so_far.0 so_far.2) in (
      so_far.0,
      fold-stop_at w state c.args.commands.now c.loop-command.command-index command c.loop-command.replies.items so_far.0 (refusal_of why) c.loop-command-test.true (sym c.command-item.is) so_far.1 came.0
          ∙ ap (λ (rs : List Reply). Stops rs so_far.0 (refusal_of why)) (sym c.from_vec.ensures),
      came.1,
    )
