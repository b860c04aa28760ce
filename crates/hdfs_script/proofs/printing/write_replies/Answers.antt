use Rattle.std.proofs.lemmas.Result.{err_from_is_err_and}
use Rattle.hdfs_streams.proofs.PrintLemmas.{printed_then, printed_stop}
use Rattle.hdfs_script.proofs.PrintLemmas.{replies_text-drop}
use Rattle.hdfs_script.proofs.printing.write_replies.Goals as goal

pub returns-in_err-write_reply : goal.returns-in_err-write_reply
returns-in_err-write_reply g c =
    let p = err_from_is_err_and c.from_residual.result c.from_residual.ensures.1 in
    printed_stop _ _ _ _ _ _ _ _ _ _ _ (replies_text-drop c.args.replies.now c.loop-reply.reply-index c.reply-item.result c.loop-reply-test.true c.reply-item.is) c.loop-reply.invariant c.write_reply.ensures c.in_err-write_reply.was p.1

pub loop-reply-preserved : goal.loop-reply-preserved
loop-reply-preserved g c =
    printed_then _ _ _ _ _ _ _ _ _ (replies_text-drop c.args.replies.now c.loop-reply.reply-index c.reply-item.result c.loop-reply-test.true c.reply-item.is) c.loop-reply.invariant c.write_reply.ensures c.in_ok-write_reply.was
