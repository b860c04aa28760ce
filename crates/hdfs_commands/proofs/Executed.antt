-- What a command of a session comes to, by what its calls say.
use Rattle.std.proofs.Common.{◌≡◌, ◌⊎◌, inl, inr, ℕ, true, false, List, Some, Result, Ok, Err, refl, sym, ◌∙◌, ap, subst}
use Rattle.std.specs.Prelude.{IfErr}
use Rattle.hdfs_cluster.specs.declared.asks.Answer.{Answer}
use Rattle.hdfs_cluster.specs.declared.asks.Ask.{Ask}
use Rattle.hdfs_cluster.specs.declared.errors.ArgFault.TheVariants as args
use Rattle.hdfs_cluster.specs.declared.errors.HdfsError.{HdfsError}
use Rattle.hdfs_cluster.specs.declared.errors.HdfsError.TheVariants as errors
use Rattle.hdfs_cluster.specs.Requests.{Request}
use Rattle.hdfs_cluster.specs.Shown.{Shown}
use Rattle.hdfs_model.specs.declared.commands.Command.{Command}
use Rattle.hdfs_model.specs.declared.commands.Reply.{Reply}
use Rattle.hdfs_model.specs.Owing.{IsMisplaced, IsNotOwed, MeetsNoText, Owed}
use Rattle.hdfs_model.specs.Steps.{path_of}
use Rattle.hdfs_names.specs.Paths.{absolute, is_path}
use Rattle.hdfs_namenode.specs.Clients.{SameClient, client_name, name_of}
use Rattle.hdfs_namenode.specs.Relaying.{Came}
use Rattle.hdfs_namenode.specs.declared.protocol.NamenodeProtocol.{NamenodeProtocol}
use Rattle.hdfs_commands.specs.Acting.{Acts, IsReady, world_at}
use Rattle.hdfs_commands.specs.Asking.{AreAnswered, LetsAt, LetsPlaced}
use Rattle.hdfs_commands.specs.Executing.{Executes}
use Rattle.hdfs_commands.specs.Refusing.{IsAnsweredSo, RefusedSo}
use Rattle.hdfs_commands.specs.Session.{Stands, after, has_failed, opened_of, settings_of, writer_of}
use Rattle.hdfs_commands.specs.Whole.{KeepsBlocksWhole}
use Rattle.hdfs_commands.specs.declared.session.Session.{Session}
use Rattle.hdfs_commands.proofs.Answered.{answered_same, keeps_same}
use Rattle.hdfs_commands.proofs.Early.{memory_acts, owed_other, path_acts, state_acts}
use Rattle.hdfs_cluster.specs.Files.{State}
use Rattle.hdfs_cluster.specs.Picture.{Picture}
use Rattle.hdfs_cluster.specs.Repeating.{Leaves, Repeats}
use Rattle.hdfs_model.specs.Anywhere.{IsReply}
use Rattle.hdfs_file_reader.proofs.Looking.{looks_from-Leaves}
use Rattle.hdfs_commands.proofs.Failing.{IsStill}
use Rattle.hdfs_commands.proofs.Opening.{Over}
use Rattle.hdfs_commands.proofs.Sized.{remembers_asked}
use Rattle.hdfs_commands.proofs.Turned.{Turns, asked_acts, turned_acts}
use Rattle.hdfs_commands.proofs.Owing.{ask_not_owed}
use Rattle.hdfs_commands.proofs.Refused.{asked_so, refused_there}
use Rattle.hdfs_commands.proofs.WholeStarting.{early_whole, failed_whole}

-- a command that is placed at a path of its session, and what it may ask for there
pub record IsThere (allows : Request → Type 0) (may_answer : Ask → Answer → Type 0) (session : Session) (command : Command) (path : List ℕ) : Type 0 where
  pub called : path ≡ absolute (settings_of session).home (path_of command)
  pub named : is_path path ≡ true
  pub placed : IsMisplaced (opened_of session) path command → ⊥
  pub lets : LetsAt allows may_answer (name_of session.namenode) path command

-- it is so once its path is had, and it is placed at that
pub is_there : (allows : Request → Type 0) (may_answer : Ask → Answer → Type 0) (command : Command) {s : Shown} {session : Session} {path copy : List ℕ} → Stands s session
    → LetsPlaced allows may_answer session command → (path ≡ absolute (settings_of session).home (path_of command)) × (is_path path ≡ true) → copy ≡ path
    → (IsMisplaced (opened_of session) copy command → ⊥) → IsThere allows may_answer session command path
is_there allows may_answer command {s} {session} {path} stands lets ok same placed =
    let there = absolute (settings_of session).home (path_of command) in
    record {
      called = ok.0;
      named = ok.1;
      placed = subst (λ (p : List ℕ). IsMisplaced (opened_of session) p command → ⊥) same placed;
      lets =
          subst (λ (p : List ℕ). LetsAt allows may_answer (name_of session.namenode) p command) (sym ok.0)
          (subst (λ (n : List ℕ). LetsAt allows may_answer n there command) (sym stands.name)
          (lets (subst (λ (p : List ℕ). IsMisplaced (opened_of session) p command → ⊥) (same ∙ ok.0) placed) (ap is_path (sym ok.0) ∙ ok.1)));
    }

-- and of the same command at the same path
pub there_as : {allows : Request → Type 0} {may_answer : Ask → Answer → Type 0} {session : Session} {command given : Command} {path copy : List ℕ} → command ≡ given → copy ≡ path
    → IsThere allows may_answer session command path → IsThere allows may_answer session given copy
there_as {allows} {may_answer} {session} {command} {given} {path} {copy} is same there =
    subst (λ (c : Command). IsThere allows may_answer session c copy) is (subst (λ (p : List ℕ). IsThere allows may_answer session command p) (sym same) there)

-- what comes of a command by its name comes of the command that has this name
pub executes_called : {may_answer : Ask → Answer → Type 0} {s t : Shown} {session session' : Session} {command given : Command} {path copy : List ℕ} {result : Result Reply HdfsError}
    → command ≡ given → copy ≡ path → path ≡ absolute (settings_of session).home (path_of command)
    → (absolute (settings_of session).home (path_of given) ≡ copy → Executes may_answer given s session t session' result) → Executes may_answer command s session t session' result
executes_called {may_answer} {s} {t} {session} {session'} {command} {given} {path} {copy} {result} is same called h =
    subst (λ (c : Command). Executes may_answer c s session t session' result) (sym is)
    (h (sym (same ∙ called ∙ ap (λ (c : Command). absolute (settings_of session).home (path_of c)) is)))

-- a command that is refused before anything is asked
pub early_executes : {may_answer : Ask → Answer → Type 0} {s : Shown} {session : Session} {command : Command} {error : HdfsError} → AreAnswered may_answer session
    → Acts command s session s (record session { failed = true }) (Err error) → Owed (world_at session s) (opened_of session) command error → RefusedSo may_answer session command error
    → Executes may_answer command s session s (record session { failed = true }) (Err error)
early_executes {may_answer} {s} {session} {command} {error} answered acts owed refused = record {
  acts = acts;
  whole = failed_whole command s s session session (Err error) (λ state ready. early_whole command s session error);
  owed = owed;
  refused = refused;
  settings = refl;
  fails = (refl, tt);
  answered = record { files = answered.files; defaults = answered.defaults };
}

-- since its path wasn't had
pub target_executes : {may_answer : Ask → Answer → Type 0} {s : Shown} {session : Session} {command : Command} {error : HdfsError} → Stands s session → AreAnswered may_answer session
    → (error ≡ errors.NoMemory) ⊎ ((error ≡ errors.InvalidPath (path_of command)) × (is_path (absolute (settings_of session).home (path_of command)) ≡ false))
    → Executes may_answer command s session s (record session { failed = true }) (Err error)
target_executes {may_answer} {s} {session} {command} stands answered (inl memory) =
    subst (λ (e : HdfsError). Executes may_answer command s session s (record session { failed = true }) (Err e)) (sym memory)
    (early_executes answered (memory_acts s session command stands) (inl refl) tt)
target_executes {may_answer} {s} {session} {command} stands answered (inr bad) =
    subst (λ (e : HdfsError). Executes may_answer command s session s (record session { failed = true }) (Err e)) (sym bad.0)
    (early_executes answered (path_acts s session command stands bad.1) (inr (inl (bad.1, refl))) tt)

-- or since it is misplaced
pub misplaced_executes : {may_answer : Ask → Answer → Type 0} {s : Shown} {session : Session} {command : Command} {path copy : List ℕ} → Stands s session → AreAnswered may_answer session
    → (path ≡ absolute (settings_of session).home (path_of command)) × (is_path path ≡ true) → copy ≡ path → IsMisplaced (opened_of session) copy command
    → Executes may_answer command s session s (record session { failed = true }) (Err (errors.InvalidArgument args.State))
misplaced_executes {may_answer} {s} {session} {command} {path} stands answered ok same placed =
    let named = ap is_path (sym ok.0) ∙ ok.1 in
    let there = subst (λ (p : List ℕ). IsMisplaced (opened_of session) p command) (same ∙ ok.0) placed in
    early_executes answered (state_acts s session command stands named there) (inr (inr (inl (named, there, refl)))) tt

-- what an error says of a command that owes none: neither is it owed, nor does it stand for an answer that wasn't given at this path
abbrev pub SaysSo : (Ask → Answer → Type 0) → Session → List ℕ → Command → HdfsError → Type 0
SaysSo may_answer session path command error = (IsNotOwed error ⊎ MeetsNoText command error) × IsAnsweredSo may_answer (name_of session.namenode) path command error

-- A command of a session that has asked its namenodes and nothing else, at the path that it has there.
module _ {may_answer : Ask → Answer → Type 0} {s t : Shown} {session : Session} {namenode : NamenodeProtocol} {command : Command} {path : List ℕ} (stands : Stands s session) (fine : has_failed session ≡ false)
    (answered : AreAnswered may_answer session) (keeps : SameClient session.namenode namenode) (named : is_path path ≡ true) (called : absolute (settings_of session).home (path_of command) ≡ path)
    (placed : IsMisplaced (opened_of session) path command → ⊥)
    (whole : (session' : Session) → ((r : List ℕ) → writer_of session' r ≡ writer_of session r) → (result : Result Reply HdfsError) → KeepsBlocksWhole command s session t session' result) where
  -- what comes of it, by what it does and what its error says
  pub asked_executes : (result : Result Reply HdfsError) → Acts command s session t (after (record session { namenode = namenode }) result) result → IfErr result (SaysSo may_answer session path command)
      → Executes may_answer command s session t (after (record session { namenode = namenode }) result) result
  asked_executes (Ok reply) acts says = record {
    acts = acts;
    whole = whole (record session { namenode = namenode }) (λ r. refl) (Ok reply);
    owed = tt;
    refused = tt;
    settings = refl;
    fails = (tt, fine);
    answered = answered_same session (record session { namenode = namenode }) keeps.name (λ r. refl) (keeps_same may_answer session.namenode namenode keeps answered.defaults) answered;
  }
  asked_executes (Err error) acts says = record {
    acts = acts;
    whole = whole (record session { namenode = namenode; failed = true }) (λ r. refl) (Err error);
    owed =
        owed_other (world_at session s) (opened_of session) command error (ap is_path called ∙ named)
        (subst (λ (p : List ℕ). IsMisplaced (opened_of session) p command → ⊥) (sym called) placed) says.0;
    refused =
        refused_there may_answer (name_of session.namenode) (client_name session.settings.client) path (absolute session.settings.home (path_of command)) command command
        (Err error) stands.name (sym called) refl says.1;
    settings = refl;
    fails = (refl, tt);
    answered =
        answered_same session (record session { namenode = namenode; failed = true }) keeps.name (λ r. refl) (keeps_same may_answer session.namenode namenode keeps answered.defaults) answered;
  }

  -- of its ask, where that is answered
  pub turned_executes : (reply : Reply) → ((state : State) → IsReady s session state command → Turns s t session state command reply) → IsReply command reply → Leaves s t
      → Executes may_answer command s session t (record session { namenode = namenode }) (Ok reply)
  turned_executes reply turns replies leaves =
      asked_executes (Ok reply)
      (turned_acts command s t session (record session { namenode = namenode }) stands (λ r. refl) (remembers_asked session namenode keeps) keeps.defaults refl reply turns replies (looks_from-Leaves s t leaves)) tt

  -- and where it isn't
  pub unturned_executes : IsStill command → (ask : Ask)
      → ((state : State) → IsReady s session state command → (p : Picture) → s.picture ≡ Some p → Over p (world_at session s) state command path ask) → ((p : Picture) → Repeats ask p)
      → {error : HdfsError} → Came s ask (Err error) t → Executes may_answer command s session t (record session { namenode = namenode; failed = true }) (Err error)
  unturned_executes still ask over repeats {error} came =
      asked_executes (Err error) (asked_acts command s t session (record session { namenode = namenode }) stands (λ r. refl) (remembers_asked session namenode keeps) still ask path called over error came repeats)
      (inl (ask_not_owed s t error came.relays.tells), asked_so may_answer (name_of session.namenode) path command error came.relays.tells.0)
