-- What was written and what is left make the text without its backslashes.
use Rattle.std.proofs.Common.{◌≡◌, ◌++◌, false, drop, string_bytes}
use Rattle.std.specs.Str.{chars}
use Rattle.hdfs_globs.specs.Escapes.{unescaped_from}
use Rattle.hdfs_globs.proofs.expand.unescape_component.Given as goal

abbrev pub invariant-loop-c : goal.invariant-loop-c
invariant-loop-c l = chars (string_bytes l.plain) ++ unescaped_from l.escaped (drop l.c-index l.c-items) ≡ unescaped_from false (chars l.comp)
