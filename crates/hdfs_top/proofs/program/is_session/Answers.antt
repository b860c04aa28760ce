use Rattle.std.proofs.Common.{[], ◌∷◌, sym, ◌∙◌, ap, arith}
use Rattle.std.specs.String.{string_bytes}
use Rattle.hdfs_top.proofs.TopLemmas.{one_word}
use Rattle.hdfs_top.proofs.program.is_session.Goals as goal

-- there is one word
pub returns-then-words-eq1 : goal.returns-then-words-eq1
returns-then-words-eq1 c =
    let words = one_word string_bytes c.args.words.now c.index-words-0.result (omega arith) c.index-words-0.is in
    (λ yes. words ∙ ap (λ t. t ∷ []) (sym c.as_str.ensures.value ∙ c.is_session_word.ensures.0 yes), λ is. c.is_session_word.ensures.1 (c.as_str.ensures.value ∙ cc (words, is)))
