use Rattle.std.proofs.Common.{refl, arith}
use Rattle.hdfs_cluster.proofs.Frames.{never_fall_refl}
use Rattle.hdfs_top.proofs.ScriptLemmas.{starved_script}
use Rattle.hdfs_top.proofs.run_script.run_script.Goals as goal

-- the script was read
pub returns-in-Ok : goal.returns-in-Ok
returns-in-Ok g c =
    let parses = rw c.as_slice.ensures.value at c.in-Ok.ensures in
    record {
      ran = λ source left gave. c.run_parsed.ensures.ran c.args.bytes.items source left parses gave;
      noted = λ two source left gave. c.run_parsed.ensures.noted two c.args.bytes.items source left parses gave;
    }

-- there was no memory
pub returns-in-Err : goal.returns-in-Err
returns-in-Err g c = record {
  ran = λ source left gave. starved_script _ _ _ _ _ _ _ c.args.bytes.items _ gave (never_fall_refl (g.C.Cluster.shown c.args.store.now).counts) refl;
  noted = λ two. absurd (omega (arith, two));
}
