use Rattle.std.proofs.Common.{drop}
use Rattle.hdfs_script.specs.Texts.{replies_text}
use Rattle.hdfs_streams.proofs.PrintLemmas.{Printed}
use Rattle.hdfs_script.proofs.printing.write_replies.Given as goal

-- what is done and what is left make the whole
abbrev pub invariant-loop-reply : goal.invariant-loop-reply
invariant-loop-reply g l = Printed (g.K.Sink.shown l.fn.sink) (replies_text l.replies) (replies_text (drop l.reply-index l.replies)) (g.K.Sink.shown l.sink)
