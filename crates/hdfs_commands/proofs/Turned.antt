-- A command that asks namenodes alone, and changes no writer: what it has come to, over a told picture, is the session's act.
use Rattle.std.proofs.Common.{◌≡◌, ℕ, true, List, Option, Some, is_some, Ok, sym, ◌∙◌, ap, subst}
use Rattle.std.specs.List.{list_any}
use Rattle.std.specs.Prelude.{IfSome, Err}
use Rattle.std.specs.Str.{bytes_eq}
use Rattle.hdfs_model.specs.declared.commands.Command.{Command}
use Rattle.hdfs_model.specs.declared.commands.Reply.{Reply}
use Rattle.hdfs_model.specs.declared.commands.Settings.{Settings}
use Rattle.hdfs_cluster.specs.declared.asks.Ask.{Ask}
use Rattle.hdfs_cluster.specs.declared.errors.HdfsError.{HdfsError}
use Rattle.hdfs_cluster.specs.declared.messages.ServerDefaults.{ServerDefaults}
use Rattle.hdfs_cluster.specs.Files.{IsState, Node, State, Writing}
use Rattle.hdfs_cluster.specs.Fitting.{Fits}
use Rattle.hdfs_cluster.specs.Picture.{Picture}
use Rattle.hdfs_cluster.specs.Repeating.{Repeats}
use Rattle.hdfs_cluster.specs.Shown.{Shown}
use Rattle.hdfs_cluster.specs.Stores.{Agrees, AgreesAt}
use Rattle.hdfs_model.specs.Anywhere.{IsReply}
use Rattle.hdfs_model.specs.Sessions.{IsLimited, SameOpened, defaults_of, world_of, world_with}
use Rattle.hdfs_model.specs.Steps.{Done, is_opened, step, target_of}
use Rattle.hdfs_namenode.specs.Relaying.{Came}
use Rattle.hdfs_file_reader.specs.Looking.{OnlyLooks}
use Rattle.hdfs_file_writer.specs.Tails.{FileCarries}
use Rattle.hdfs_file_writer.specs.declared.tails.Tail.{Tail}
use Rattle.hdfs_file_writer.specs.Writers as files
use Rattle.hdfs_file_writer.specs.declared.file_writer.FileWriter.{FileWriter}
use Rattle.hdfs_commands.specs.Acting.{Acts, IsReady, world_at}
use Rattle.hdfs_commands.specs.Preparing.{Remembers}
use Rattle.hdfs_commands.specs.Session.{Carried, CarriesFile, Stands, after, defaults_known, opened_of, writer_of}
use Rattle.hdfs_commands.specs.declared.session.Session.{Session}
use Rattle.hdfs_commands.proofs.Acted.{reads_same}
use Rattle.hdfs_commands.proofs.Failing.{IsStill, refused_acts}
use Rattle.hdfs_commands.proofs.Moved.{links_moved, session_moved}
use Rattle.hdfs_commands.proofs.Opening.{Over}
use Rattle.hdfs_file_reader.proofs.Transfers.{only_asks_refl}
use Rattle.hdfs_commands.proofs.Tallying.{tallied_moved}

-- The command is done over a state, and the picture agrees with the next one. What the session has open stands as it stood, and what its
-- writers carry they carry still.
pub record Turns (s t : Shown) (session : Session) (state : State) (command : Command) (reply : Reply) : Type 0 where
  pub next : State
  pub p : Picture
  pub q : Picture
  pub was : s.picture ≡ Some p
  pub now : t.picture ≡ Some q
  pub done : step (world_at session s) state command ≡ Done reply next
  pub limited : IsLimited (world_at session s) state command
  pub is_state : IsState next
  pub agrees : (r : List ℕ) → AgreesAt q (q.names r) (next.files r)
  pub opened : next.opened ≡ state.opened
  pub named : (r : List ℕ) (node : Node) → is_opened state r ≡ true → state.files r ≡ Some node → next.files r ≡ Some node
  pub defaults : q.defaults ≡ p.defaults
  pub keeps : (r : List ℕ) (tail : Tail) (bytes : List ℕ) → is_opened state r ≡ true → FileCarries p r tail bytes → FileCarries q r tail bytes

module _ (command : Command) (s t : Shown) (session session' : Session) (stands : Stands s session)
    (writers : (r : List ℕ) → writer_of session' r ≡ writer_of session r) (remembers : Remembers session session') where
  -- an error of its ask
  pub asked_acts : IsStill command → (ask : Ask) (path : List ℕ) → target_of (world_at session s) command ≡ path
      → ((state : State) → IsReady s session state command → (p : Picture) → s.picture ≡ Some p → Over p (world_at session s) state command path ask)
      → (error : HdfsError) → Came s ask (Err error) t → ((p : Picture) → Repeats ask p)
      → Acts command s session t (after {T = Reply} session' (Err error)) (Err error)
  asked_acts still ask path called over error came repeats =
      refused_acts command still s s session stands (only_asks_refl s) t session' writers remembers ask path (λ state. called) over error came repeats

  module _ (known : defaults_known session' ≡ defaults_known session) (fine : session'.failed ≡ session.failed) (reply : Reply)
      (turns : (state : State) → IsReady s session state command → Turns s t session state command reply) where
    module _ (state : State) (ready : IsReady s session state command) where
      abbrev f : Turns s t session state command reply
      f = turns state ready

      fits_next : Fits t f.next
      fits_next = record { is_state = f.is_state; agrees = subst (λ (o : Option Picture). Agrees o f.next.files) (sym f.now) f.agrees }

      opened_same : SameOpened (opened_of session') f.next
      opened_same r = ap (list_any (bytes_eq r)) f.opened ∙ ready.ready.opened r ∙ ap is_some (sym (writers r))

      same_defaults : defaults_of t.picture ≡ defaults_of s.picture
      same_defaults = ap defaults_of f.now ∙ f.defaults ∙ ap defaults_of (sym f.was)

      turned_world : world_at session' t ≡ world_at session s
      turned_world = ap (λ (x : Settings). world_of x t) remembers.settings ∙ ap (λ (x : ServerDefaults). world_with session.settings x) same_defaults

      file_carried : (r : List ℕ) (writer : FileWriter) → writer_of session r ≡ Some writer → CarriesFile f.q f.next r writer
      file_carried r writer there =
          let c = ready.carried.each f.p f.was r writer there in
          let opened : is_opened state r ≡ true = ready.ready.opened r ∙ ap is_some there in
          record {
            content = c.content;
            named = f.named r (Writing c.content) opened c.named;
            carries = f.keeps r (files.tail_of writer) c.content.bytes opened c.carries;
            replication = c.replication;
            block_size = c.block_size;
          }

      carried_next : Carried t session' f.next
      carried_next = record {
        each = λ x told r writer is.
            (let same : f.q ≡ x = cc (f.now, told) in
            subst (λ (y : Picture). CarriesFile y f.next r writer) same (file_carried r writer (sym (writers r) ∙ is)));
        defaults =
            subst (λ (o : Option ServerDefaults). IfSome o (λ d. d ≡ defaults_of t.picture)) (sym known)
            (subst (λ (x : ServerDefaults). IfSome (defaults_known session) (λ d. d ≡ x)) (sym same_defaults) ready.carried.defaults);
      }

    -- its reply
    pub turned_acts : IsReply command reply → OnlyLooks s t → Acts command s session t session' (Ok reply)
    turned_acts replies looks = record {
      anywhere = record { later = looks.later; reads = reads_same s t looks; replies = replies; tells = tt; refused = tt; idle = λ idle. looks.nodes };
      links = links_moved s t looks.links.writes session session' writers;
      stands = session_moved s t looks.links.writes session session' writers looks.later.namenodes remembers (λ failed. sym fine ∙ failed) stands;
      tallied = tallied_moved looks.later writers;
      limit = tt;
      writers = λ r apart. writers r;
      applied = λ state ready. record {
        ok = ((turns state ready).next, (turns state ready).done, (turns state ready).limited, fits_next state ready, opened_same state ready);
        err = tt;
        complete = tt;
      };
      world = λ state ready. turned_world state ready;
      carried = λ state ready next is.
          (let same : (turns state ready).next ≡ next = (let done = (turns state ready).done in cc (done, is)) in
          subst (Carried t session') same (carried_next state ready));
      spares = λ state ready. tt;
    }
