use Rattle.std.proofs.Common.{ap, ◌∙◌, refl, arith}
use Rattle.std.proofs.lemmas.List.{length-take-le}
use Rattle.hdfs_script.specs.Parsing.{first_out}
use Rattle.hdfs_script.specs.Scripts.{first_place}
use Rattle.hdfs_script.proofs.GainLemmas.{gains_same}
use Rattle.hdfs_script.proofs.ParseLemmas.{entries_short, entries_long}
use Rattle.hdfs_script.proofs.parsing.read_script.Goals as goal

-- the script isn't too long
pub returns-then-bytes-le-SCRIPT_LIMIT : goal.returns-then-bytes-le-SCRIPT_LIMIT
returns-then-bytes-le-SCRIPT_LIMIT c =
    let entries = entries_short c.args.bytes.now (omega arith) in
    record {
      bad = c.in_ok-read_lines.ensures.bad ∙ ap (first_out first_place 1) entries;
      gains = gains_same 1 _ _ c.args.read.now c.read_lines.new.read entries c.in_ok-read_lines.ensures.gains;
    }

pub slice_bounds-front-end : goal.slice_bounds-front-end
slice_bounds-front-end c = omega (arith, length-take-le 16777216 c.args.bytes.now (omega arith))

pub read_lines-requires-2 : goal.read_lines-requires-2
read_lines-requires-2 c = omega (arith, length-take-le 16777216 c.args.bytes.now (omega arith))

-- it is
pub returns : goal.returns
returns c =
    let entries = entries_long _ c.args.bytes.now _ (omega arith) refl c.count_lines-limit.ensures in
    record {
      bad = c.in_ok-read_lines-2.ensures.bad ∙ ap (first_out first_place 1) entries;
      gains = gains_same 1 _ _ c.args.read.now c.read_lines-2.new.read entries c.in_ok-read_lines-2.ensures.gains;
    }
