use Rattle.std.proofs.Common.{drop}
use Rattle.hdfs_script.specs.Texts.{entries_text}
use Rattle.hdfs_streams.proofs.PrintLemmas.{Printed}
use Rattle.hdfs_script.proofs.telling.write_entries.Given as goal

-- what is done and what is left make the whole
abbrev pub invariant-loop-entry : goal.invariant-loop-entry
invariant-loop-entry g l = Printed (g.K.Sink.shown l.fn.sink) (entries_text l.entries) (entries_text (drop l.entry-index l.entries)) (g.K.Sink.shown l.sink)
