use Rattle.hdfs_wire.proofs.Messages.{message_stands, fields_apart}
use Rattle.hdfs_wire.proofs.field.fields_are_read_again.Goals as goal

pub returns-clause-again : goal.returns-clause-again
returns-clause-again c = message_stands

pub returns-clause-apart : goal.returns-clause-apart
returns-clause-apart c = fields_apart
