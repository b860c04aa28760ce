use Rattle.std.proofs.Common.{ℕ, List, sym, ◌∙◌, subst}
use Rattle.hdfs_streams.specs.Streams.{Prints}
use Rattle.hdfs_script.proofs.PrintLemmas.{octal_starts, rest_taken}
use Rattle.hdfs_script.proofs.telling.write_octal.Goals as goal

pub returns : goal.returns
returns g c =
    subst (λ (text : List ℕ). Prints (g.K.Sink.shown c.args.sink.now) text c.write_all.result (g.K.Sink.shown c.write_all.new.sink))
    (rest_taken c.put_octal-start.new.digits c.put_octal-start.result 11 c.put_octal-start.array_long ∙ c.put_octal-start.ensures.digits ∙ sym (octal_starts c.args.number)) c.write_all.ensures
