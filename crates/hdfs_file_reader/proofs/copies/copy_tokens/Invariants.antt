use Rattle.std.proofs.Common.{◌≡◌, take}
use Rattle.hdfs_file_reader.proofs.copies.copy_tokens.Given as goal

abbrev pub invariant-loop-token : goal.invariant-loop-token
invariant-loop-token l = l.copied.items ≡ take l.token-index l.tokens
