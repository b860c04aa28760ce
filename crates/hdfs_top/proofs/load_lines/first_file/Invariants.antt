use Rattle.std.proofs.Common.{◌≡◌, drop}
use Rattle.hdfs_script.specs.Parsing.{first_file}
use Rattle.hdfs_top.proofs.load_lines.first_file.Given as goal

-- no file stands so far
abbrev pub invariant-loop-numbered : goal.invariant-loop-numbered
invariant-loop-numbered l = first_file (drop l.numbered-index l.lines) ≡ first_file l.lines
