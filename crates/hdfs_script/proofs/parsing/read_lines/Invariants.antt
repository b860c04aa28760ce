use Rattle.std.proofs.Common.{◌≡◌, ◌==◌, ◌+◌, length, drop, map}
use Rattle.std.specs.List.{slice_split}
use Rattle.hdfs_script.specs.declared.entry.Parsed.{Parsed}
use Rattle.hdfs_script.specs.Entries.{entry_of}
use Rattle.hdfs_script.specs.Parsing.{Gains, bad_from, good_front, first_out}
use Rattle.hdfs_script.specs.Scripts.{first_place, line_entries}
use Rattle.hdfs_script.proofs.parsing.read_lines.Given as goal

-- the entries that are to come, behind what was read, make the whole
abbrev pub invariant-loop-line : goal.invariant-loop-line
invariant-loop-line l =
    let rest = bad_from l.limit l.number (map entry_of (drop (length l.yielded) (slice_split (λ b. b == 10) l.bytes))) in
    let all = bad_from l.limit 1 (line_entries l.bytes) in
    record {
      count : l.number ≡ length l.yielded + 1;
      gains : (last : Parsed) → Gains l.read l.number (good_front l.place rest) last → Gains l.fn.read 1 (good_front first_place all) last;
      out : first_out l.place l.number rest ≡ first_out first_place 1 all;
    }
