use Rattle.std.proofs.Common.{refl}
use Rattle.hdfs_top.proofs.TopLemmas.{starved_source}
use Rattle.hdfs_top.proofs.program.run_source.Goals as goal

pub returns-in-Ok : goal.returns-in-Ok
returns-in-Ok g c =
    record {
      ran = c.run_script.ensures.ran _ _ (record { taken = c.read_at_most.ensures.taken; fine = c.in-Ok.ensures.cause.fine; front = c.in-Ok.ensures.bytes });
      noted = λ two. c.run_script.ensures.noted two _ _ (record { taken = c.read_at_most.ensures.taken; fine = c.in-Ok.ensures.cause.fine; front = c.in-Ok.ensures.bytes });
    }

-- there was no memory to read the source
pub returns-in-Err-NoMemory-clause-ran : goal.returns-in-Err-NoMemory-clause-ran
returns-in-Err-NoMemory-clause-ran g c =
    starved_source _ _ _ _ _ _ c.read_at_most.ensures.taken (c.in-Err-NoMemory.ensures.cause.starved c.in-Err-NoMemory.field-0-is) refl
