-- One command that opens a file to be written, as a whole.
use Rattle.std.proofs.Common.{◌≡◌, ⊎_elim, ℕ, Bool, true, false, not, cond, ◌&&◌, ◌||◌, List, Option, Some, None, is_some, Ok, Err, refl, sym, ◌∙◌, ap, subst}
use Rattle.std.proofs.lemmas.Bool.{false≢true}
use Rattle.std.proofs.lemmas.Slice.Eq.{bytes_eq-Decides}
use Rattle.std.specs.Prelude.{IfSome}
use Rattle.std.specs.Str.{bytes_eq}
use Rattle.hdfs_model.specs.declared.commands.Command.{Command}
use Rattle.hdfs_model.specs.declared.commands.Reply.{Reply}
use Rattle.hdfs_model.specs.declared.commands.Settings.{Settings}
use Rattle.hdfs_cluster.specs.declared.errors.HdfsError.{HdfsError}
use Rattle.hdfs_cluster.specs.declared.messages.ServerDefaults.{ServerDefaults}
use Rattle.hdfs_model.specs.Anywhere.{IsReply}
use Rattle.hdfs_model.specs.Causes.{Cause, CommandLost, Sends, Tells}
use Rattle.hdfs_cluster.specs.Files.{State, Writing, Content}
use Rattle.hdfs_cluster.specs.Picture.{Picture}
use Rattle.hdfs_cluster.specs.Fitting.{Fits}
use Rattle.hdfs_model.specs.Sessions.{SameOpened, IsLimited, defaults_of, does, spared, touched, is_before_asking, world_of, world_with}
use Rattle.hdfs_cluster.specs.Shown.{Later, SameNodes, Shown, SamePlaces, SameReadPlaces, SameReads}
use Rattle.hdfs_model.specs.Steps.{World, Outcome, Refusal, Refused, Done, is_opened, step, target_of, with_writing}
use Rattle.hdfs_cluster.specs.Stores.{Agrees, AgreesAt, AgreesBut}
use Rattle.hdfs_model.proofs.Completing.{cause_completes}
use Rattle.hdfs_cluster.proofs.Frames.{told_weaker}
use Rattle.hdfs_file_writer.specs.Writers as files
use Rattle.hdfs_file_writer.specs.declared.file_writer.FileWriter.{FileWriter}
use Rattle.hdfs_commands.specs.Acting.{Acts, IsReady, world_at}
use Rattle.hdfs_file_reader.specs.Looking.{OnlyLooks}
use Rattle.hdfs_commands.specs.Preparing.{Remembers}
use Rattle.hdfs_commands.specs.Session.{Carried, CarriesFile, CarriesOpen, IsSized, Stands, after, defaults_known, opened_of, writer_of}
use Rattle.hdfs_commands.specs.declared.session.Session.{Session}
use Rattle.hdfs_commands.proofs.OneFile.{not_same}
use Rattle.hdfs_commands.proofs.Begun.{Begun}
use Rattle.hdfs_commands.proofs.Moved.{HasMore, links_moved, links_with, session_moved, session_with, writer_cases}
use Rattle.hdfs_commands.proofs.Sized.{remembers_failed, remembers_refl}
use Rattle.hdfs_commands.proofs.Tallying.{sends_none, tallied_moved, tallied_with}
use Rattle.hdfs_commands.proofs.WithWriting.{other_there, writing_there}

pub reads_same : (s t : Shown) → OnlyLooks s t → SameReads s t
reads_same s t looks = record {
  links = looks.links.links;
  places = told_weaker (SamePlaces s) (SameReadPlaces s) s.picture t.picture (λ p q h. h.0) looks.links.places;
}

-- what an error of a command says over a state: it has its cause, and what isn't spared agrees
abbrev pub Fails : World → State → Command → Shown → Shown → HdfsError → Type 0
Fails world state command s t error = Cause world state command s t error × AgreesBut (spared world state command error) t.picture state.files

-- A command that has failed, and has left all links, datanodes and writers.
pub idle_acts : (command : Command) → (Sends command → ⊥) → (s t : Shown) (session session' : Session) (error : HdfsError) → Stands s session → Later s t → SameReads s t → ((link : ℕ) → t.writes link ≡ s.writes link) → SameNodes s t
    → ((r : List ℕ) → writer_of session' r ≡ writer_of session r) → Remembers session session' → Tells command s t error
    → ((path : List ℕ) (byte : ℕ) → CommandLost s.counts t path command byte → ⊥)
    → ((state : State) → IsReady s session state command → Fails (world_at session s) state command s t error)
    → ((state : State) → IsReady s session state command → CarriesOpen t session' state)
    → Acts command s session t (after {T = Reply} session' (Err error)) (Err error)
idle_acts command still s t session session' error stands later reads writes nodes writers remembers tells found told others = record {
  anywhere = record { later = later; reads = reads; replies = tt; tells = tells; refused = λ early. nodes; idle = λ idle. nodes };
  links = links_moved s t writes session (record session' { failed = true }) writers;
  stands = session_moved s t writes session (record session' { failed = true }) writers later.namenodes (remembers_failed session session' remembers)
      (λ failed. absurd (false≢true (sym failed))) stands;
  tallied = tallied_moved later writers;
  limit = λ start n is tally. absurd (sends_none command s t error still tells n is);
  writers = λ r apart. writers r;
  applied = λ state ready. record {
    ok = tt;
    err = told state ready;
    complete = λ limited none. cause_completes (world_at session s) state command s t later.namenodes limited none
        (λ byte. found (target_of (world_at session s) command) byte) error (told state ready).0;
  };
  world = λ state ready. tt;
  carried = λ state ready. tt;
  spares = λ state ready. record { each = (others state ready).each };
}

-- A command that has failed behind asks alone.
pub failed_acts : (command : Command) → (Sends command → ⊥) → (s t : Shown) (session session' : Session) (error : HdfsError) → Stands s session → OnlyLooks s t
    → ((r : List ℕ) → writer_of session' r ≡ writer_of session r) → Remembers session session' → Tells command s t error
    → ((path : List ℕ) (byte : ℕ) → CommandLost s.counts t path command byte → ⊥)
    → ((state : State) → IsReady s session state command → Fails (world_at session s) state command s t error)
    → ((state : State) → IsReady s session state command → CarriesOpen t session' state)
    → Acts command s session t (after {T = Reply} session' (Err error)) (Err error)
failed_acts command still s t session session' error stands looks writers remembers tells found told others =
    idle_acts command still s t session session' error stands looks.later (reads_same s t looks) looks.links.writes looks.nodes writers remembers tells found told others

-- what isn't touched agrees, whatever came of a command that had asked, and where the step is refused all of it
pub spares_but : (world : World) (state : State) (command : Command) (error : HdfsError) (path : List ℕ) (o : Option Picture) (q : Picture) → target_of world command ≡ path → is_before_asking error ≡ false → o ≡ Some q
    → ((r : List ℕ) → touched state path command r ≡ false → AgreesAt q (q.names r) (state.files r))
    → ((why : Refusal) → step world state command ≡ Refused why → (r : List ℕ) → AgreesAt q (q.names r) (state.files r))
    → AgreesBut (spared world state command error) o state.files
spares_but world state command error path o q called asked told agrees refused =
    subst (λ (x : Option Picture). AgreesBut (spared world state command error) x state.files) (sym told)
    (λ r free. at_outcome r (step world state command) refl (ap (λ (x : List ℕ). does (step world state command) && touched state x command r) (sym called)
    ∙ ap (λ (b : Bool). not b && does (step world state command) && touched state (target_of world command) command r) (sym asked) ∙ free))
  where
    at_outcome : (r : List ℕ) (outcome : Outcome) → step world state command ≡ outcome → (does outcome && touched state path command r) ≡ false → AgreesAt q (q.names r) (state.files r)
    at_outcome r (Refused why) is free = refused why is r
    at_outcome r (Done reply next) is free = agrees r free

-- A file was opened over a state, and the step says so.
pub record BeginsFile (s t : Shown) (world : World) (state : State) (command : Command) (path : List ℕ) (reply : Reply) (writer : FileWriter) : Type 0 where
  pub p : Picture
  pub q : Picture
  pub was : s.picture ≡ Some p
  pub now : t.picture ≡ Some q
  pub content : Content
  pub begun : Begun p q state path content (files.tail_of writer)
  pub done : step world state command ≡ Done reply (with_writing state path content)
  pub replication : (files.sizes_of writer).replication ≡ content.attributes.replication
  pub block_size : (files.sizes_of writer).block_size ≡ content.attributes.block_size

pub or_flip : (path r : List ℕ) → bytes_eq r path ≡ bytes_eq path r
or_flip path r = by_tests (bytes_eq r path) (bytes_eq path r) (bytes_eq-Decides r path).0 (bytes_eq-Decides path r).0 (bytes_eq-Decides r path).1 (bytes_eq-Decides path r).1
  where
    by_tests : (a b : Bool) → (a ≡ true → r ≡ path) → (b ≡ true → path ≡ r) → (r ≡ path → a ≡ true) → (path ≡ r → b ≡ true) → a ≡ b
    by_tests true b one two back forth = sym (forth (sym (one refl)))
    by_tests false true one two back forth = back (sym (two refl))
    by_tests false false one two back forth = refl

module _ (command : Command) (s t : Shown) (session session' : Session) (path : List ℕ) (writer : FileWriter) (reply : Reply) (more : HasMore session session' path writer)
    (told : (state : State) → IsReady s session state command → BeginsFile s t (world_at session s) state command path reply writer)
    (limited : (state : State) → IsReady s session state command → IsLimited (world_at session s) state command) where
  module _ (state : State) (ready : IsReady s session state command) where
    opened_at : (b : Bool) (o : Bool) (r : List ℕ) → is_opened state r ≡ is_some (writer_of session r) → bytes_eq path r ≡ b → (bytes_eq r path || is_opened state r) ≡ is_some (cond b (Some writer) (writer_of session r))
    opened_at true o r same test = ap (λ (x : Bool). x || is_opened state r) (or_flip path r ∙ test)
    opened_at false o r same test = ap (λ (x : Bool). x || is_opened state r) (or_flip path r ∙ test) ∙ same

    opened_same : SameOpened (opened_of session') (with_writing state path (told state ready).content)
    opened_same r = opened_at (bytes_eq path r) true r (ready.ready.opened r) refl ∙ ap is_some (sym (more.put r))

    fits_next : Fits t (with_writing state path (told state ready).content)
    fits_next =
        let f = told state ready in
        record { is_state = f.begun.is_state; agrees = subst (λ (o : Option Picture). Agrees o (with_writing state path f.content).files) (sym f.now) f.begun.agrees }

    same_defaults : defaults_of t.picture ≡ defaults_of s.picture
    same_defaults = let f = told state ready in ap defaults_of f.now ∙ f.begun.defaults ∙ ap defaults_of (sym f.was)

    same_world : world_at session' t ≡ world_at session s
    same_world =
        ap (λ (x : Settings). world_of x t) more.remembers.settings
        ∙ ap (λ (x : ServerDefaults). world_with session.settings x) same_defaults

    file_carried : (q : Picture) → t.picture ≡ Some q → (r : List ℕ) (other : FileWriter) → writer_of session' r ≡ Some other → CarriesFile q (with_writing state path (told state ready).content) r other
    file_carried q is r other has =
        let f = told state ready in
        let same : f.q ≡ q = cc (f.now, is) in
        subst (λ (x : Picture). CarriesFile x (with_writing state path f.content) r other) same
        (⊎_elim
        (λ here. subst (CarriesFile f.q (with_writing state path f.content) r) here.1 (subst (λ (x : List ℕ). CarriesFile f.q (with_writing state path f.content) x writer) here.0 (record {
          content = f.content;
          named = writing_there state path f.content;
          carries = f.begun.own;
          replication = f.replication;
          block_size = f.block_size;
        })))
        (λ away. (let c = ready.carried.each f.p f.was r other away.1 in
        record {
          content = c.content;
          named = other_there state path f.content r (Writing c.content) away.0 c.named;
          carries = f.begun.others r (files.tail_of other) c.content.bytes away.0 c.carries;
          replication = c.replication;
          block_size = c.block_size;
        }))
        (writer_cases t session session' path writer more r other has))

  -- A command that has opened a file, of which the session has the writer.
  pub begun_acts : target_of (world_at session s) command ≡ path → IsReply command reply → Stands s session → OnlyLooks s t → files.Stands t writer → files.path_of writer ≡ path
      → files.has_failed writer ≡ false → files.link_of writer ≡ None → IsSized session' writer
      → ((state : State) → IsReady s session state command → (known : ServerDefaults) × (defaults_known session' ≡ Some known) × (known ≡ defaults_of t.picture))
      → Acts command s session t session' (Ok reply)
  begun_acts called replies stands looks own at fine linkless sized knows = record {
    anywhere = record { later = looks.later; reads = reads_same s t looks; replies = replies; tells = tt; refused = tt; idle = λ idle. looks.nodes };
    links = links_with t session session' path writer more linkless s looks.links.writes;
    stands = session_with t session session' path writer more linkless
        (session_moved s t looks.links.writes session session (λ r. refl) looks.later.namenodes (remembers_refl session) (λ failed. failed) stands) own at fine sized;
    tallied = tallied_with more linkless looks.later;
    limit = tt;
    writers = λ r apart.
        more.put r
        ∙ ap (λ (b : Bool). cond b (Some writer) (writer_of session r)) (not_same path r (λ same. apart (same ∙ sym called)));
    applied = λ state ready. (let f = told state ready in
        record {
          ok = (with_writing state path f.content, f.done, limited state ready, fits_next state ready, opened_same state ready);
          err = tt;
          complete = tt;
        });
    world = λ state ready. same_world state ready;
    carried = λ state ready next is.
        (let f = told state ready in
        let same : with_writing state path f.content ≡ next = cc (f.done, is) in
        let k = knows state ready in
        subst (Carried t session') same (record {
          each = λ q told r other has. file_carried state ready q told r other has;
          defaults = subst (λ (o : Option ServerDefaults). IfSome o (λ x. x ≡ defaults_of t.picture)) (sym k.1) k.2;
        }));
    spares = λ state ready. tt;
  }
