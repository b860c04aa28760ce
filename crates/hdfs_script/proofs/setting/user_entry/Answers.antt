use Rattle.std.proofs.Common.{◌≡◌, false, sym}
use Rattle.hdfs_script.specs.Words.{is_word}
use Rattle.hdfs_script.proofs.WordLemmas.{word_from_user}
use Rattle.hdfs_script.proofs.setting.user_entry.Goals as goal

-- letters and digits are a word
pub returns-in_default : goal.returns-in_default
returns-in_default c =
    let word = word_from_user c.args.name.now (sym c.if-not-is_user.ensures) in
    let none : is_word c.args.name.now ≡ false = c.in_default.ensures in
    absurd (cc (word, none))
