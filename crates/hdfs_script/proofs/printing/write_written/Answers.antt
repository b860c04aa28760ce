use Rattle.std.proofs.Common.{ℕ, List, [], ◌∷◌, ◌++◌, codes, ap, ◌∙◌, subst}
use Rattle.hdfs_streams.specs.Streams.{Prints}
use Rattle.hdfs_script.proofs.printing.write_written.Goals as goal

pub returns : goal.returns
returns g c =
    subst (λ (text : List ℕ). Prints (g.K.Sink.shown c.args.sink.now) text c.write_pieces.result (g.K.Sink.shown c.write_pieces.new.sink))
    (ap (λ (t : List ℕ). t ++ (c.as_bytes.result.now ++ (10 ∷ []))) c.as_slice.ensures ∙ ap (λ (t : List ℕ). codes "ok written " ++ (t ++ (10 ∷ []))) (c.as_bytes.ensures.value ∙ c.format-count.ensures.text))
    c.write_pieces.ensures
