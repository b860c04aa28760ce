-- The bytes of one character more.
use Rattle.std.proofs.Common.{ap, ◌∙◌}
use Rattle.std.specs.Str.{chars}
use Rattle.std.proofs.lemmas.Str.{IsUtf8-string_bytes}
use Rattle.hdfs_globs.proofs.Grown.{chars-push}
use Rattle.hdfs_globs.proofs.characters.put_character.Goals as goal

pub returns : goal.returns
returns c = ap chars c.in_ok-push.ensures.bytes ∙ chars-push _ c.args.c (IsUtf8-string_bytes c.args.text.now) c.ranges.c.0
