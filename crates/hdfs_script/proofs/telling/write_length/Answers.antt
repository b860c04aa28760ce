use Rattle.std.proofs.Common.{ℕ, List, ◌++◌, codes, ◌∙◌, ap, subst}
use Rattle.hdfs_streams.specs.Streams.{Prints}
use Rattle.hdfs_script.proofs.telling.write_length.Goals as goal

pub returns : goal.returns
returns g c =
    subst (λ (text : List ℕ). Prints (g.K.Sink.shown c.args.sink.now) text c.write_pieces.result (g.K.Sink.shown c.write_pieces.new.sink))
    (ap (λ (a : List ℕ). a ++ (c.as_bytes.result.now ++ codes " ")) c.as_slice.ensures
    ∙ ap (λ (b : List ℕ). codes "ok info file " ++ (b ++ codes " ")) (c.as_bytes.ensures.value ∙ c.format-size.ensures.text)) c.write_pieces.ensures
