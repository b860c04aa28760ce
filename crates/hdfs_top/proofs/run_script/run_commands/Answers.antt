use Rattle.std.proofs.Common.{⊎_elim, inl, arith}
use Rattle.std.specs.Prelude.{slice_index_or}
use Rattle.hdfs_top.proofs.SessionLemmas.{ran_to_end, ran_to_fault, notes_stop, not_status_2, world_is}
use Rattle.hdfs_top.proofs.run_script.run_commands.Goals as goal

-- any command may be run
pub run_session-requires-clause-allowed : goal.run_session-requires-clause-allowed
run_session-requires-clause-allowed g c = λ k other low. c.requires.allowed c.args.settings.now (slice_index_or c.args.commands.now k other)

-- the session came to its end
pub returns-in-Ok : goal.returns-in-Ok
returns-in-Ok g c =
    let tells = rw c.as_slice.ensures.value at c.tell_replies.ensures in
    let settings = c.args.settings.now in
    record {
      ran = λ given is limited. ran_to_end _ given _ _ _ _ _ _ c.in-Ok.replies (world_is settings given (g.C.Cluster.shown c.args.store.now) is) c.run_session.ensures.anywhere.later (c.in-Ok.ensures.ran limited) tells;
      noted = λ two. absurd (not_status_2 0 _ _ _ _ tells (λ none. omega (arith, none)) two);
    }

-- the session stopped
pub returns-in-Err : goal.returns-in-Err
returns-in-Err g c =
    let settings = c.args.settings.now in
    record {
      ran = λ given is limited.
          ⊎_elim
          (λ none. record { later = c.run_session.ensures.anywhere.later; ending = inl none.1 })
          (λ other. ran_to_fault _ given _ _ _ _ _ _ c.in-Err.fault (world_is settings given (g.C.Cluster.shown c.args.store.now) is) c.run_session.ensures.anywhere.later (c.in-Err.ensures.ran limited) other.0 other.1)
          c.tell_stop-status.ensures;
      noted = λ two given is limited.
          ⊎_elim
          (λ none. absurd (omega (arith, none.1.is, two)))
          (λ other. notes_stop _ given _ _ _ _ _ _ c.in-Err.fault _ (world_is settings given (g.C.Cluster.shown c.args.store.now) is) (c.in-Err.ensures.ran limited) other.0 other.1 c.note_of_fault.ensures)
          c.tell_stop-status.ensures;
    }
