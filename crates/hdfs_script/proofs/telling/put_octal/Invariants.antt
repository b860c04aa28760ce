use Rattle.std.proofs.Common.{◌≡◌, ◌<◌, ◌≤◌, ◌^◌, [], drop}
use Rattle.hdfs_script.specs.Texts.{octal_before}
use Rattle.hdfs_script.proofs.telling.put_octal.Given as goal

-- the digits that are put are the last ones
abbrev pub invariant-digits : goal.invariant-digits
invariant-digits l = record {
  room : (1 ≤ l.at) × (l.at ≤ 11);
  left : l.left < 8 ^ l.at;
  put : octal_before 11 l.fn.number [] ≡ octal_before l.at l.left (drop l.at l.digits);
}

abbrev pub decreases-digits : goal.decreases-digits
decreases-digits l = l.left
