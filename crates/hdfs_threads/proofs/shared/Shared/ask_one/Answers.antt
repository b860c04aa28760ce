use Rattle.std.proofs.Common.{rules, ◌≡◌, ◌+◌, ◌<◌, [], ◌∷◌, Some, None, arith}
use Rattle.hdfs_threads.specs.Links.{Gave}
use Rattle.hdfs_threads.proofs.Calling.{gave_more}
use Rattle.hdfs_threads.proofs.shared.Shared.ask_one.Goals as goal

-- an acknowledgement more was given, and counted
pub returns-in_ok-tell_acked-in-Ok-clause-gave : goal.returns-in_ok-tell_acked-in-Ok-clause-gave
returns-in_ok-tell_acked-in-Ok-clause-gave g c start so =
    let here = g.I.AckIn.shown c.args.acks.now in
    let behind = g.I.AckIn.shown c.ack.new.self in
    let gave : Gave here (Some c.in-Ok.ack ∷ []) behind = search rules in
    let one : c.tell_acked.new.mine.share.amount ≡ c.args.mine.now.acked.share.amount + 1 = search rules in
    gave_more start here behind (Some c.in-Ok.ack ∷ []) c.args.mine.now.acked.share.amount c.args.mine.now.failed.share.amount c.tell_acked.new.mine.share.amount c.args.mine.now.failed.share.amount gave one (omega arith) so

-- none came, which is counted
pub returns-in_ok-tell_ack_failed-in-Err-Broken : goal.returns-in_ok-tell_ack_failed-in-Err-Broken
returns-in_ok-tell_ack_failed-in-Err-Broken g c =
    let here = g.I.AckIn.shown c.args.acks.now in
    let behind = g.I.AckIn.shown c.ack.new.self in
    let gave : Gave here (None ∷ []) behind = search rules in
    let one : c.tell_ack_failed.new.mine.share.amount ≡ c.args.mine.now.failed.share.amount + 1 = search rules in
    let risen : here.failures < behind.failures = search rules in record {
      gave = λ start so. gave_more start here behind (None ∷ []) c.args.mine.now.acked.share.amount c.args.mine.now.failed.share.amount c.args.mine.now.acked.share.amount c.tell_ack_failed.new.mine.share.amount gave (omega arith) one so;
      cause = λ _. risen;
      later = search rules;
    }
