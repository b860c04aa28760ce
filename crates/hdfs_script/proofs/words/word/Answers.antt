use Rattle.std.proofs.Common.{sym}
use Rattle.hdfs_script.proofs.WordLemmas.{IsUtf8-from_word}
use Rattle.hdfs_script.proofs.words.word.Goals as goal

-- a word is ASCII, and so text
pub returns-in-Err : goal.returns-in-Err
returns-in-Err c = absurd (c.in-Err.ensures.cases.0 (IsUtf8-from_word c.args.text.now (sym c.if-not-is_word.ensures)))
