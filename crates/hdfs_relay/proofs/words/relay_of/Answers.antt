use Rattle.std.proofs.Common.{◌≡◌, ◌<◌, [], length, slice_index_or, string_bytes, subst, sym, ap, ◌∙◌, arith}
use Rattle.std.proofs.lemmas.List.{get_or-map}
use Rattle.hdfs_relay.specs.Relays.{Writes}
use Rattle.hdfs_relay.proofs.words.relay_of.Goals as goal

-- the third word is no window
pub returns-in_default-number : goal.returns-in_default-number
returns-in_default-number c packets window is =
    let words = c.args.words.now in
    let word = c.index-words-2.result in
    let three = c.if-words-ne3.false in
    let within : 2 < length words = omega (arith, three) in
    let same : c.as_str-3.result.now ≡ is.window_text = c.as_str-3.ensures.value ∙ ap string_bytes c.index-words-2.is ∙ sym (get_or-map string_bytes words 2 word [] within) ∙ ap (λ ws. slice_index_or ws 2 []) is.words_are in
    c.in_default-number.ensures window (subst (λ text. Writes 1000 text window) (sym same) is.window_is)
