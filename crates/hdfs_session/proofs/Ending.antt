-- A whole session over any cluster, where it ends or stops.
use Rattle.std.proofs.Common.{◌≡◌, ◌⊎◌, ℕ, suc, ◌+◌, ◌<◌, List, [], ◌∷◌, ◌++◌, length, take, get_or, None, IsSome, Err, refl, sym, ◌∙◌, ap, subst, arith}
use Rattle.std.specs.List.{slice_get}
use Rattle.std.proofs.lemmas.List.{take_more}
use Rattle.std.proofs.lemmas.Option.{slice_get_read}
use Rattle.hdfs_model.specs.declared.commands.Command.{Command}
use Rattle.hdfs_model.specs.declared.commands.Reply.{Reply}
use Rattle.hdfs_model.specs.declared.commands.Fault.{Fault}
use Rattle.hdfs_model.specs.Anywhere.{AreReplies, IsReply, Runs}
use Rattle.hdfs_cluster.specs.Shown.{Shown, Later, SameReads}
use Rattle.hdfs_cluster.proofs.Frames.{later_refl, later_trans, same_reads_trans}
use Rattle.hdfs_cluster.proofs.Times.{fails_until}
use Rattle.hdfs_model.proofs.Telling.{tells_on, tells_since}
use Rattle.hdfs_commands.specs.Acting.{Acts}
use Rattle.hdfs_commands.specs.Session.{HasLink, Tallied, writer_of}
use Rattle.hdfs_commands.specs.declared.session.Session.{Session}
use Rattle.hdfs_session.proofs.Owning.{OwnLinks, own_end, own_next}

-- one more command has its reply
are_replies_push : (commands : List Command) (replies : List Reply) (command : Command) (reply : Reply) → AreReplies commands replies → IsReply command reply → AreReplies (commands ++ command ∷ []) (replies ++ reply ∷ [])
are_replies_push [] [] command reply all one = (one, tt)
are_replies_push (first ∷ commands) (given ∷ replies) command reply all one = (all.0, are_replies_push commands replies command reply all.1 one)
are_replies_push [] (given ∷ replies) command reply all one = absurd all
are_replies_push (first ∷ commands) [] command reply all one = absurd all

-- the same of the next of a list of commands
pub replies_next : (commands : List Command) (n : ℕ) (replies : List Reply) (command : Command) (reply : Reply) → n < length commands → command ≡ get_or commands n command
    → AreReplies (take n commands) replies → IsReply command reply → AreReplies (take (n + 1) commands) (replies ++ reply ∷ [])
replies_next commands n replies command reply below here all one =
    let more : take (n + 1) commands ≡ take n commands ++ command ∷ [] = take_more commands n command below ∙ ap (λ (x : Command). take n commands ++ x ∷ []) (sym here) in
    subst (λ (l : List Command). AreReplies l (replies ++ reply ∷ [])) (sym more) (are_replies_push (take n commands) replies command reply all one)

-- before the first command no pipeline was rebuilt
pub tallied_start : (start : Shown) (session : Session) → ((path : List ℕ) → writer_of session path ≡ None) → Tallied start start session
tallied_start start session empty = record {
  later = later_refl start;
  each = λ path writer is. (let none = empty path in absurd (cc (is, none)));
}

-- a command failed, and the session gave up its files
pub runs_failed : (commands : List Command) (start now new final : Shown) (session session' : Session) (n : ℕ) (command : Command) (fault : Fault) → n < length commands → command ≡ get_or commands n command
    → Later start now → SameReads start now → OwnLinks start now session → Tallied start now session → Acts command now session new session' (Err fault.error) → Later new final → SameReads new final → final.last ≡ new.last
    → ((link : ℕ) → IsSome (new.writes link) → (HasLink session' link → ⊥) → final.writes link ≡ new.writes link)
    → ((link : ℕ) → (new.writes link ≡ None) ⊎ HasLink session' link → final.writes link ≡ None) → fault.at ≡ n + 1 → AreReplies (take n commands) fault.done
    → Runs commands start final (Err fault)
runs_failed commands start now new final session session' n command fault below here later reads own tallied acts later' reads' last others none at replied = record {
  later = later_trans start new final (later_trans start now new later acts.anywhere.later) later';
  reads = same_reads_trans start new final (same_reads_trans start now new reads acts.anywhere.reads) reads';
  writes = own_end start new final session' session' (own_next start now new session session' own acts.links) others none;
  replies = tt;
  done = subst (λ (i : ℕ). AreReplies (take i commands) fault.done) (omega (arith, at)) replied;
  tells = λ some. (
    command,
    ap (slice_get commands) (omega (arith, at)) ∙ slice_get_read commands (length commands) n command refl below here,
    tells_since start now final later.counts command fault.error (tells_on now new final later' last command fault.error acts.anywhere.tells),
  );
  limit = λ rebuilds is. fails_until (suc rebuilds) start new final (acts.limit start rebuilds is tallied) later';
}
