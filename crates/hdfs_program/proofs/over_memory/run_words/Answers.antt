use Rattle.std.proofs.Common.{inr, refl, map, List, ℕ}
use Rattle.std.specs.String.{string_bytes}
use Rattle.hdfs_commands.proofs.Allowing.{lets_any}
use Rattle.hdfs_program.specs.Program.{Streams}
use Rattle.hdfs_program.proofs.ProgramLemmas.{planned_faults, new_from-Starts, ran_store, refused_new, replies_new, fault_new, notes_new, notes_more, decides_new, starved_decides}
use Rattle.hdfs_program.proofs.over_memory.run_words.Goals as goal

-- a cluster in memory allows all
pub top-status-requires-clause-allowed : goal.top-status-requires-clause-allowed
top-status-requires-clause-allowed g c = lets_any (λ ask answer. Unit {0}) (λ request. tt)

-- the program ran over the new cluster
pub returns : goal.returns
returns g c =
    let words : List (List ℕ) = map string_bytes c.args.words.now in
    let planned = planned_faults c.top-status.new.store in
    let is_new = new_from-Starts _ _ c.in-Ok.ensures.starts c.in-Ok.ensures.fits in
    let run = ran_store words (record { source = g.S.Source.shown c.args.source.now; sink = g.K.Sink.shown c.args.sink.now }) c.top-status.result (record { source = g.S.Source.shown c.top-status.new.source; sink = g.K.Sink.shown c.top-status.new.sink }) _ _ _ _ is_new c.in-Ok.ensures.fresh planned c.top-status.ensures.ran in
    record {
      statuses = run.ran.statuses;
      ran = inr run;
      refused = λ one is bytes told. refused_new _ _ _ _ bytes run one is told;
      done = λ none bytes told. replies_new _ _ _ _ bytes run none told;
      noted = λ two bytes told.
          notes_more bytes (g.K.Sink.shown c.args.sink.now) (g.K.Sink.shown c.top-status.new.sink) c.top-status.new.note c.tell_failed.new.note c.tell_failed.ensures
          (notes_new _ _ _ _ _ _ _ _ bytes c.top-status.new.note is_new planned c.in-Ok.ensures.fresh told (c.top-status.ensures.noted two));
      stopped = λ two bytes told. fault_new _ _ _ _ bytes run two told;
      complete = λ is bytes told. decides_new _ _ _ _ bytes run is told;
    }

-- there was no memory for a cluster
pub returns-in_default-clause-complete : goal.returns-in_default-clause-complete
returns-in_default-clause-complete g c is bytes told =
    let streams : Streams = record { source = g.S.Source.shown c.args.source.now; sink = g.K.Sink.shown c.args.sink.now } in
    starved_decides streams 3 streams bytes refl
