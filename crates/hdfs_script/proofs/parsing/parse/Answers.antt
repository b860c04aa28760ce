use Rattle.std.proofs.Common.{None, refl}
use Rattle.hdfs_script.specs.declared.entry.Parsed.{Parsed}
use Rattle.hdfs_script.proofs.GainLemmas.{parses_from-Gains}
use Rattle.hdfs_script.proofs.parsing.parse.Goals as goal

-- what the script's lines put behind nothing
pub returns : goal.returns
returns c =
    let nothing : Parsed = record { settings = c.in_ok-no_settings.field-0; sets = None; lines = c.new.result; commands = c.new-2.result; bad = None } in
    parses_from-Gains c.args.bytes.now nothing c.read_script.new.read c.in_ok-bad.bad c.in_ok-no_settings.ensures refl c.new.ensures c.new-2.ensures c.in_ok-bad.ensures.gains c.in_ok-bad.ensures.bad
