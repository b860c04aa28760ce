-- A new text has no characters.
use Rattle.hdfs_globs.proofs.Grown.{chars-no_bytes}
use Rattle.hdfs_globs.proofs.characters.text_of.Goals as goal

pub loop-c-init : goal.loop-c-init
loop-c-init c = chars-no_bytes _ c.new-text.ensures.bytes
