use Rattle.std.proofs.Common.{subst, arith}
use Rattle.hdfs_wire.specs.Reading.{GivesUnlessNoMemory}
use Rattle.hdfs_wire.proofs.Messages.{is_found, message_reads}
use Rattle.hdfs_wire.proofs.field.fields.Goals as goal

pub returns-clause-found : goal.returns-clause-found
returns-clause-found c = is_found c.args.bytes.now c.all_fields.result (λ i. omega (arith, c.type_inv.bytes i)) c.all_fields.ensures

pub returns-clause-only : goal.returns-clause-only
returns-clause-only c = λ fs reads. subst (λ f. GivesUnlessNoMemory (λ v. v.items) c.all_fields.result f) (message_reads c.args.bytes.now fs reads) c.all_fields.ensures
