use Rattle.std.proofs.Common.{◌∙◌, ap, arith, map}
use Rattle.std.proofs.lemmas.Bool.Decides.{nat_tests}
use Rattle.hdfs_script.specs.Entries.{good}
use Rattle.hdfs_script.proofs.WordLemmas.{entry_of_ascii, entry_of_words}
use Rattle.hdfs_script.proofs.line.reading.Goals as goal

-- the words of the line, of which there are some
pub returns : goal.returns
returns c =
    c.in_ok-words_entry.ensures ∙ ap good (entry_of_ascii c.args.line.now _ c.if-not-is_ascii.ensures
    (entry_of_words c.args.line.now (λ none. grind (arith, nat_tests)) (λ e. omega arith) _ (ap (λ items. map (λ word. word.now) items) c.as_slice.ensures.value ∙ c.in_ok-words.ensures)))
