-- A map with one entry more.
use Rattle.std.proofs.Common.{Some}
use Rattle.std.proofs.lemmas.Map.Text.{btree_map_updates_text}
use Rattle.std.specs.String.{string_bytes}
use Rattle.hdfs_commands.proofs.writing.keep.Goals as goal

pub returns-in-Ok-clause-put : goal.returns-in-Ok-clause-put
returns-in-Ok-clause-put c = λ other.
    btree_map_updates_text (string_bytes c.args.path) c.args.writers.now c.insert.new.self (Some c.args.writer) c.in-Ok.ensures.updates other
