use Rattle.std.proofs.Common.{ℕ, [], get_or, codes, if◌then◌else◌, ◌&&◌, Option, sym, ap, ◌∙◌, arith}
use Rattle.std.specs.Str.{bytes_eq}
use Rattle.hdfs_model.specs.declared.commands.WriteOptions.{WriteOptions}
use Rattle.hdfs_script.specs.declared.entry.Entry.TheVariants.{Bad}
use Rattle.hdfs_script.specs.Commands.{create_entry}
use Rattle.hdfs_script.specs.Entries.{good, words_entry}
use Rattle.hdfs_script.proofs.WordLemmas.{words_entry_other, eight_at, six_at}
use Rattle.hdfs_script.proofs.line.words_entry.Goals as goal

-- no line has so many words
pub returns-in_default : goal.returns-in_default
returns-in_default c =
    c.other_words.ensures ∙ ap good (words_entry_other (λ word. word.now) c.args.words.now (λ two. omega arith) (λ three. omega arith) (λ four. omega arith) (λ five. omega arith) (λ six. omega arith) (λ eight. omega arith))

pub returns-in_ok-eight_words-in-8 : goal.returns-in_ok-eight_words-in-8
returns-in_ok-eight_words-in-8 c =
    let word = λ (i : ℕ). (get_or c.args.words.now i (record { ref_ptr = (0, 0); now = [] })).now in
    c.in_ok-eight_words-in-8.ensures
    ∙ ap (λ (options : Option WriteOptions). good (if bytes_eq (word 0) (codes "do") && bytes_eq (word 1) (codes "create") then create_entry (word 2) options else Bad)) c.options-options.ensures
    ∙ ap (λ words. good (words_entry words)) (sym (eight_at (λ word. word.now) (record { ref_ptr = (0, 0); now = [] }) c.args.words.now (omega arith)))

pub returns-in_ok-six_words-in-6 : goal.returns-in_ok-six_words-in-6
returns-in_ok-six_words-in-6 c =
    c.in_ok-six_words-in-6.ensures ∙ ap (λ words. good (words_entry words)) (sym (six_at (λ word. word.now) (record { ref_ptr = (0, 0); now = [] }) c.args.words.now (omega arith)))
