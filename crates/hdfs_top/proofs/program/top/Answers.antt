use Rattle.std.proofs.Common.{arith, map, rules}
use Rattle.std.specs.String.{string_bytes}
use Rattle.hdfs_top.specs.Top.{IsSession}
use Rattle.hdfs_top.proofs.SessionLemmas.{not_status_2}
use Rattle.hdfs_top.proofs.TopLemmas.{refused_words}
use Rattle.hdfs_top.proofs.program.top.Goals as goal

-- the words are refused
pub returns-then-not-is_session : goal.returns-then-not-is_session
returns-then-not-is_session g c =
    let other : IsSession (map string_bytes c.args.words.now) → ⊥ = search rules in
    let ran = refused_words (map string_bytes c.args.words.now) (g.S.Source.shown c.args.source.now) (g.K.Sink.shown c.args.sink.now) _ (g.C.Cluster.shown c.args.store.now) (g.C.Store.is_fresh c.args.store.now) _ other c.refuse.ensures in
    record {
      statuses = ran.statuses;
      ran = ran;
      done = ran.done;
      stopped = ran.stopped;
      complete = ran.complete;
      noted = λ two. absurd (not_status_2 1 _ _ _ _ c.refuse.ensures (λ one. omega (arith, one)) two);
    }

-- the words are those of a session
pub returns : goal.returns
returns g c =
    let ran = c.run_source.ensures.ran (map string_bytes c.args.words.now) (c.is_session.ensures.0 (search rules)) in
    record { statuses = ran.statuses; ran = ran; done = ran.done; stopped = ran.stopped; complete = ran.complete; noted = c.run_source.ensures.noted }
