use Rattle.std.proofs.Common.{arith, Err, refl, ap, ◌∙◌}
use Rattle.hdfs_cluster.proofs.Frames.{never_fall_from-SameCounts, never_fall_refl}
use Rattle.hdfs_top.proofs.SessionLemmas.{limited_settings, not_status_2}
use Rattle.hdfs_top.proofs.ScriptLemmas.{starved_script, refused_script, ran_loaded, notes_loaded}
use Rattle.hdfs_top.proofs.run_script.run_parsed.Goals as goal

-- the lines were loaded
pub returns-in-Ok-load_script : goal.returns-in-Ok-load_script
returns-in-Ok-load_script g c =
    let given = c.args.read.settings in
    let loads = c.in-Ok-load_script.ensures.loaded.1 in
    record {
      ran = λ bytes source left parses gave.
          let limited = limited_settings _ given c.in-Ok.ensures parses.limited in
          let ran = rw (c.as_slice.ensures, c.in-Ok-load_script.ensures.loaded.0) at c.run_commands.ensures.ran given c.in-Ok.ensures limited in
          ran_loaded _ _ bytes c.args.read _ _ gave parses loads ran;
      noted = λ two bytes source left parses gave.
          let limited = limited_settings _ given c.in-Ok.ensures parses.limited in
          let ran = rw (c.as_slice.ensures, c.in-Ok-load_script.ensures.loaded.0) at c.run_commands.ensures.ran given c.in-Ok.ensures limited in
          notes_loaded _ _ bytes c.args.read _ _ _ gave parses loads ran.later two
          (rw (c.as_slice.ensures, c.in-Ok-load_script.ensures.loaded.0) at c.run_commands.ensures.noted two given c.in-Ok.ensures limited);
    }

-- a line is bad
pub returns-in-Err-Refused : goal.returns-in-Err-Refused
returns-in-Err-Refused g c =
    let refused = c.load_script.ensures.refused c.in-Err-Refused.line (c.in-Err-Refused.is ∙ ap Err c.in-Err-Refused.field-0-is) in
    record {
      ran = λ bytes source left parses gave.
          refused_script _ _ bytes c.args.read c.in-Err-Refused.line _ gave parses refused (never_fall_from-SameCounts _ _ c.load_script.ensures.counts) c.refuse.ensures;
      noted = λ two. absurd (not_status_2 1 _ _ _ _ c.refuse.ensures (λ one. omega (arith, one)) two);
    }

-- there was no memory
pub returns : goal.returns
returns g c = record {
  ran = λ bytes source left parses gave. starved_script _ _ _ _ _ _ _ bytes _ gave (never_fall_from-SameCounts _ _ c.load_script.ensures.counts) refl;
  noted = λ two. absurd (omega (arith, two));
}

-- there was no memory for the settings
pub returns-in_default-clause-ran : goal.returns-in_default-clause-ran
returns-in_default-clause-ran g c = λ bytes source left parses gave. starved_script _ _ _ _ _ _ _ bytes _ gave (never_fall_refl _) refl
