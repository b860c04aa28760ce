-- A command that has opened a file to be written, as a whole.
use Rattle.std.proofs.Common.{◌≡◌, ◌≢◌, ℕ, ◌≤◌, arith, Bool, true, false, cond, ◌&&◌, List, Option, Some, None, is_some, unwrap_or, Ok, refl, sym, ◌∙◌, ap, subst}
use Rattle.hdfs_cluster.specs.declared.asks.Answer.TheVariants as answers
use Rattle.hdfs_cluster.specs.declared.attributes.Attributes.{Attributes}
use Rattle.hdfs_model.specs.declared.commands.Command.{Command}
use Rattle.hdfs_model.specs.declared.commands.Command.TheVariants as commands
use Rattle.hdfs_model.specs.declared.commands.Reply.TheVariants as replies
use Rattle.hdfs_model.specs.declared.commands.WriteOptions.{WriteOptions}
use Rattle.hdfs_cluster.specs.declared.messages.Appended.{Appended}
use Rattle.hdfs_cluster.specs.declared.messages.FileStatusMsg.{FileStatusMsg}
use Rattle.hdfs_cluster.specs.declared.messages.ServerDefaults.{ServerDefaults}
use Rattle.hdfs_model.specs.Causes.{IsEncryptedAt}
use Rattle.hdfs_cluster.specs.Namenode.{MayBeDone}
use Rattle.hdfs_cluster.specs.declared.asks.Ask.{Ask}
use Rattle.hdfs_model.specs.declared.commands.Reply.{Reply}
use Rattle.std.proofs.lemmas.Bool.{false≢true}
use Rattle.hdfs_cluster.specs.Files.{File, IsState, State, Content, Kind, kinds_of}
use Rattle.hdfs_cluster.specs.Sound.{IsSound}
use Rattle.hdfs_names.specs.Paths.{is_path}
use Rattle.hdfs_model.specs.Opening.{appending, creating}
use Rattle.hdfs_cluster.specs.Limits.{are_defaults}
use Rattle.hdfs_model.specs.Limits.{are_options}
use Rattle.hdfs_cluster.specs.Picture.{Picture, SameButActive}
use Rattle.hdfs_cluster.specs.Refusals.{append_refusal, create_refusal}
use Rattle.hdfs_model.specs.Sessions.{defaults_of}
use Rattle.hdfs_cluster.specs.Shown.{Shown}
use Rattle.hdfs_model.specs.Steps.{Done, World, append_file, create_file, created, is_opened, open_node, step, target_of, with_writing}
use Rattle.hdfs_cluster.specs.Stores.{AgreesAt}
use Rattle.hdfs_cluster.proofs.Frames.{told_after}
use Rattle.hdfs_file_writer.specs.Tails.{tail_length}
use Rattle.hdfs_file_writer.specs.declared.tails.Tail.{Tail}
use Rattle.hdfs_file_writer.specs.declared.tails.Tail.TheVariants.{Bare}
use Rattle.hdfs_file_writer.specs.Writers as files
use Rattle.hdfs_file_writer.specs.declared.file_writer.FileWriter.{FileWriter}
use Rattle.hdfs_file_writer.specs.declared.sizes.WriteSizes.{WriteSizes}
use Rattle.hdfs_file_writer.proofs.Others.{tail_stays}
use Rattle.hdfs_commands.specs.Acting.{IsReady, world_at}
use Rattle.hdfs_commands.specs.declared.session.Session.{Session}
use Rattle.hdfs_cluster.specs.Requests.{id_in}
use Rattle.hdfs_cluster.specs.declared.asks.Answer.{Answer}
use Rattle.hdfs_file_reader.specs.Looking.{OnlyLooks}
use Rattle.hdfs_model.specs.Anywhere.{IsReply}
use Rattle.hdfs_namenode.specs.Clients.{name_of}
use Rattle.hdfs_commands.specs.Executing.{Executes}
use Rattle.hdfs_commands.specs.Whole.{KeepsBlocksWhole}
use Rattle.hdfs_opening.specs.Opening.{IsFresh}
use Rattle.hdfs_commands.proofs.Beginning.{AsksFile, append_asks, create_asks, agrees_at, unopened, KeepsWriter, making, reopening}
use Rattle.hdfs_commands.proofs.WholeStarting.{filled_going, whole_going}
use Rattle.hdfs_cluster.specs.Effects.{blocks_at}
use Rattle.hdfs_cluster.specs.Sound.{IsFileAt}
use Rattle.hdfs_cluster.specs.WholeBlocks.{AllBetween, IsOfSize, IsWhole}
use Rattle.hdfs_model.specs.Sessions.{IsLimited}
use Rattle.hdfs_commands.specs.Session.{writer_of}
use Rattle.hdfs_commands.specs.Whole.{AreFilled, AreWhole}
use Rattle.hdfs_commands.proofs.OneFile.{not_same, same_test}
use Rattle.hdfs_commands.proofs.WholeBeside.{full_at, keeps_done, whole_behind_at}
use Rattle.hdfs_commands.proofs.WholeOpening.{created_between, reopened_full, reopened_short, reopened_whole, stays_files, stays_trans}
use Rattle.hdfs_commands.proofs.Acted.{BeginsFile, begun_acts}
use Rattle.hdfs_commands.proofs.Agreeing.{is_told}
use Rattle.hdfs_commands.proofs.Begun.{Begun, closed_at, create_begun, open_begun}
use Rattle.hdfs_commands.proofs.Moved.{none_from}
use Rattle.hdfs_namenode.specs.Relaying.{Came}
use Rattle.hdfs_commands.proofs.Opening.{made, was_made, was_reopened}
use Rattle.hdfs_file_reader.proofs.Looking.{looks_from-Leaves, looks_trans}
use Rattle.hdfs_commands.proofs.Refusing.{append_step, create_step, kinds_same}
use Rattle.hdfs_commands.proofs.Sized.{sized_by, sizes_in}
use Rattle.hdfs_commands.proofs.WithWriting.{clear_to_create, closed_to_append}

-- what was begun was begun from where another namenode was active, too
begun_before : (p m q : Picture) (state : State) (path : List ℕ) (content : Content) (tail : Tail) → SameButActive p m → Begun m q state path content tail → Begun p q state path content tail
begun_before p m q state path content tail same begun = record {
  agrees = begun.agrees;
  is_state = begun.is_state;
  own = begun.own;
  others = λ r other bytes apart c. begun.others r other bytes apart (record {
    file = c.file;
    named = same.files.names r ∙ c.named;
    being_written = c.being_written;
    carries = tail_stays p m r c.file (same.files.names r) (λ id there. (same.files.table id, λ node. same.files.held node id)) (λ link place told there. same.writes link ∙ told) other bytes c.carries;
  });
  defaults = begun.defaults ∙ same.files.defaults;
}

-- What is so over a state behind asks for the defaults alone, where a file is opened at a path that isn't open.
pub record Told (world : World) (state : State) (s m : Shown) (path : List ℕ) (d : ServerDefaults) : Type 0 where
  pub p : Picture
  pub was : s.picture ≡ Some p
  pub now : Picture
  pub told : m.picture ≡ Some now
  pub same : SameButActive p now
  pub sound : IsSound now
  pub agrees : (r : List ℕ) → AgreesAt now (now.names r) (state.files r)
  pub is_state : IsState state
  pub named : is_path path ≡ true
  pub free : is_opened state path ≡ false
  pub defaults : d ≡ p.defaults
  pub of_world : d ≡ world.defaults

-- A file was opened to be gone on with, of which this status was told.
pub record OpensFile {world : World} {state : State} {s m : Shown} {path : List ℕ} {d : ServerDefaults} (h : Told world state s m path d) (t : Shown) (command : Command) (tail : Tail) (ask : Ask)
    (stat : FileStatusMsg) : Type 0 where
  pub q : Picture
  pub now : t.picture ≡ Some q
  pub content : Content
  pub begun : Begun h.p q state path content tail
  pub done : step world state command ≡ Done replies.Appended (with_writing state path content)
  pub replication : unwrap_or stat.block_replication 0 ≡ content.attributes.replication
  pub block_size : unwrap_or stat.blocksize 0 ≡ content.attributes.block_size
  pub may : MayBeDone ask h.now q
  pub filed : state.files path ≡ Some (File content)
  pub encryption : is_some stat.encryption ≡ content.attributes.encrypted

module _ {world : World} {state : State} {s m : Shown} {path : List ℕ} {d : ServerDefaults} (h : Told world state s m path d) (client : List ℕ) where
  -- a file was created, and this is its writer
  module _ {name : List ℕ} {options : WriteOptions} (called : target_of world (commands.Create name options) ≡ path) {t : Shown} {status : Option FileStatusMsg}
      (came : Came m (creating path client options (unwrap_or options.replication d.replication) (unwrap_or options.block_size d.block_size)) (Ok (answers.Create status)) t) where
    pub created_begins : {writer : FileWriter} → files.tail_of writer ≡ Bare → (files.sizes_of writer).replication ≡ unwrap_or options.replication d.replication
        → (files.sizes_of writer).block_size ≡ unwrap_or options.block_size d.block_size → BeginsFile s t world state (commands.Create name options) path replies.Created writer
    created_begins tail is_replication is_size =
        let file = made path client options (unwrap_or options.replication d.replication) (unwrap_or options.block_size d.block_size) in
        let content = created world options in
        let one = was_made path client options (unwrap_or options.replication d.replication) (unwrap_or options.block_size d.block_size) h.now m t status h.told came in
        let none : create_refusal (kinds_of state.files) path options.overwrite options.create_parent ≡ None =
        ap (λ (k : List ℕ → Option Kind). create_refusal k path options.overwrite options.create_parent) (sym (kinds_same h.now state.files h.agrees)) ∙ one.2.0 in
        let attributes : file.attributes ≡ content.attributes =
        ap (λ (x : ServerDefaults). record file.attributes { replication = unwrap_or options.replication x.replication; block_size = unwrap_or options.block_size x.block_size }) h.of_world in
        let begun = create_begun h.now one.0 h.sound state h.agrees path file content attributes one.2.1 h.is_state h.named
        (clear_to_create (kinds_of state.files) path options.overwrite options.create_parent none) refl in
        record {
          p = h.p;
          q = one.0;
          was = h.was;
          now = one.1;
          content = content;
          begun = subst (Begun h.p one.0 state path content) (sym tail) (begun_before h.p h.now one.0 state path content Bare h.same begun);
          done = create_step world state path h.named h.free name options called ∙ ap (create_file state path content) none;
          replication = is_replication ∙ ap (λ (x : ServerDefaults). unwrap_or options.replication x.replication) h.of_world;
          block_size = is_size ∙ ap (λ (x : ServerDefaults). unwrap_or options.block_size x.block_size) h.of_world;
        }

  -- a file was opened to be gone on with, and may be encrypted
  module _ {name : List ℕ} (called : target_of world (commands.Append name) ≡ path) {t : Shown} {appended : Appended} {stat : FileStatusMsg} (is : appended.stat ≡ Some stat)
      (came : Came m (appending path client 4) (Ok (answers.Append appended)) t) where
    pub appended_opens : OpensFile h t (commands.Append name) (files.tail_opened appended.block None) (appending path client 4) stat
    appended_opens =
        let one = was_reopened path client 4 h.now m t appended h.told came in
        let row = one.2 in
        let none : append_refusal (kinds_of state.files) path ≡ None =
        ap (λ (k : List ℕ → Option Kind). append_refusal k path) (sym (kinds_same h.now state.files h.agrees)) ∙ row.none in
        let there = closed_at h.now state path row.file h.agrees row.at (closed_to_append (kinds_of state.files) path none) in
        let begun = open_begun h.now one.0 h.sound state h.agrees path row.file appended.block row.at row.opens h.is_state there h.named in
        let same : stat ≡ row.status.told = cc (is, row.status.is) in
        record {
          q = one.0;
          now = one.1;
          content = there.content;
          begun = begun_before h.p h.now one.0 state path there.content (files.tail_opened appended.block None) h.same begun;
          done = append_step world state path h.named h.free name called ∙ ap (append_file state path) none ∙ ap (open_node state path) there.filed;
          replication = ap (λ (x : FileStatusMsg). unwrap_or x.block_replication 0) same ∙ ap (λ (o : Option ℕ). unwrap_or o 0) row.status.replication
              ∙ ap (λ (x : Attributes). x.replication) there.attributes;
          block_size = ap (λ (x : FileStatusMsg). unwrap_or x.blocksize 0) same ∙ ap (λ (o : Option ℕ). unwrap_or o 0) row.status.block_size
              ∙ ap (λ (x : Attributes). x.block_size) there.attributes;
          may = one.3;
          filed = there.filed;
          encryption = ap (λ (x : FileStatusMsg). is_some x.encryption) same ∙ row.status.encryption ∙ ap (λ (x : Attributes). x.encrypted) there.attributes;
        }

module _ {command : Command} {s m : Shown} {session : Session} {path : List ℕ} {d : ServerDefaults} (a : AsksFile command s m session path d) where
  -- what the pictures say, over a state that it is ready for
  pub told_at : (state : State) → IsReady s session state command → Told (world_at session s) state s m path d
  told_at state ready =
      let one = is_told s.picture state.files ready.ready.fits.agrees in
      let two = told_after SameButActive s.picture m.picture one.0 a.quiet.1 one.1 in
      let known : d ≡ one.0.defaults = a.told one.0 one.1 ready.carried.defaults in
      record {
        p = one.0;
        was = one.1;
        now = two.0;
        told = two.1;
        same = two.2;
        sound = a.sound two.0 two.1;
        agrees = agrees_at a state ready two.0 two.1;
        is_state = ready.ready.fits.is_state;
        named = a.begins.named;
        free = unopened a state ready;
        defaults = known;
        of_world = known ∙ ap defaults_of (sym one.1);
      }

  limited_at : (state : State) → IsReady s session state command → are_defaults (world_at session s).defaults ≡ true
  limited_at state ready = ap are_defaults (sym (told_at state ready).of_world) ∙ a.limited

  -- the session keeps the other writers, and has the new one
  module _ {may_answer : Ask → Answer → Type 0} {kept : Session} {writer : FileWriter} (keeps : KeepsWriter may_answer session kept path writer d) where
    others_kept : (r : List ℕ) → r ≢ path → writer_of kept r ≡ writer_of session r
    others_kept r apart = keeps.put r ∙ ap (λ (b : Bool). cond b (Some writer) (writer_of session r)) (not_same path r apart)

    is_there : writer_of kept path ≡ Some writer
    is_there = keeps.put path ∙ ap (λ (b : Bool). cond b (Some writer) (writer_of session path)) (same_test path)

    -- a file was opened, and its writer is kept
    kept_executes : {t : Shown} {reply : Reply} {r k : ℕ} {file_id : Option ℕ} {tail : Tail} → IsFresh path file_id (sizes_in session d r k) tail writer → files.Stands t writer
        → IsReply command reply → OnlyLooks m t
        → ((state : State) → IsReady s session state command → BeginsFile s t (world_at session s) state command path reply writer)
        → ((state : State) → IsReady s session state command → IsLimited (world_at session s) state command)
        → KeepsBlocksWhole command s session t kept (Ok reply) → Executes may_answer command s session t kept (Ok reply)
    kept_executes {t} {reply} {r} {k} fresh stands replies looks begins limited whole = record {
      acts = begun_acts command s t session kept path writer reply
          (record { remembers = keeps.remembers; fine = a.begins.fine; free = a.begins.closed; put = keeps.put })
          begins limited a.begins.called replies a.begins.stands (looks_trans s m t a.quiet.0 looks)
          stands fresh.at fresh.fine fresh.idle (sized_by session kept keeps.remembers d writer r k fresh.with keeps.known)
          (λ state ready.
          (let h = told_at state ready in
          let f = begins state ready in
          let same : h.p ≡ f.p = cc (h.was, f.was) in
          (d, keeps.known, h.defaults ∙ ap (λ (x : Picture). x.defaults) same ∙ sym f.begun.defaults ∙ ap defaults_of (sym f.now))));
      whole = whole;
      owed = tt;
      refused = tt;
      settings = keeps.remembers.settings;
      fails = (tt, keeps.failed ∙ a.begins.fine);
      answered = keeps.answered;
    }

module _ {name : List ℕ} {options : WriteOptions} {s m : Shown} {session : Session} {path : List ℕ} {d : ServerDefaults}
    (a : AsksFile (commands.Create name options) s m session path d) where
  abbrev replication : ℕ
  replication = unwrap_or options.replication d.replication

  abbrev block_size : ℕ
  block_size = unwrap_or options.block_size d.block_size

  module _ {t : Shown} {writer : FileWriter} {status : Option FileStatusMsg} (limited : are_options options ≡ true)
      (fresh : IsFresh path (id_in status) (sizes_in session d (unwrap_or options.replication d.replication) (unwrap_or options.block_size d.block_size)) Bare writer)
      (came : Came m (making a) (Ok (answers.Create status)) t) where
    -- of its blocks it says all
    created_whole : {may_answer : Ask → Answer → Type 0} {kept : Session} → KeepsWriter may_answer session kept path writer d
        → KeepsBlocksWhole (commands.Create name options) s session t kept (Ok replies.Created)
    created_whole {kept} keeps state ready =
        let h = told_at a state ready in
        let file = made path (name_of session.namenode) options replication block_size in
        let now = was_made path (name_of session.namenode) options replication block_size h.now m t status h.told came in
        let short : tail_length (files.tail_of writer) ≤ (files.sizes_of writer).block_size = subst (λ (x : Tail). tail_length x ≤ (files.sizes_of writer).block_size) (sym fresh.stands) (omega arith) in
        let whole : (from : ℕ) → AreWhole t kept path from =
        λ from. whole_going t kept path writer (is_there a keeps) now.0 now.1 from (created_between h.now now.0 path file now.2.1 (IsWhole now.0) from) in
        let filled : AreFilled t kept path =
        filled_going t kept path writer (is_there a keeps) now.0 now.1 short (created_between h.now now.0 path file now.2.1 (IsOfSize now.0 (files.sizes_of writer).block_size) 0) in
        keeps_done (commands.Create name options) s t session kept path h.p now.0 h.was now.1 a.begins.called
        (λ q apart. stays_trans h.p h.now now.0 q (stays_files h.p h.now h.same.files q) ((create_asks a).spares h.now now.0 h.told now.3 q apart))
        (others_kept a keeps) replies.Created (λ from before. whole from) (λ before. filled) (λ name' options' is. (whole 0, filled))

    -- a file was created
    pub created_executes : {may_answer : Ask → Answer → Type 0} {kept : Session} → KeepsWriter may_answer session kept path writer d → files.Stands t writer
        → Executes may_answer (commands.Create name options) s session t kept (Ok replies.Created)
    created_executes keeps stands =
        kept_executes a keeps fresh stands refl (looks_from-Leaves m t came.relays.leaves)
        (λ state ready. created_begins (told_at a state ready) (name_of session.namenode) a.begins.called came fresh.stands
        (ap (λ (x : WriteSizes). x.replication) fresh.with) (ap (λ (x : WriteSizes). x.block_size) fresh.with))
        (λ state ready. record {
          numbers = ap (λ (x : Bool). x && are_defaults (world_at session s).defaults) limited ∙ limited_at a state ready;
          attributes = tt;
          plain = record { bytes = λ moves. moves.0; file = λ opens. opens };
        })
        (created_whole keeps)

module _ {name : List ℕ} {s m : Shown} {session : Session} {path : List ℕ} {d : ServerDefaults} (a : AsksFile (commands.Append name) s m session path d) where
  module _ {t : Shown} {appended : Appended} {stat : FileStatusMsg} (is : appended.stat ≡ Some stat) (came : Came m (reopening a) (Ok (answers.Append appended)) t) where
    opens : (state : State) (ready : IsReady s session state (commands.Append name))
        → OpensFile (told_at a state ready) t (commands.Append name) (files.tail_opened appended.block None) (reopening a) stat
    opens state ready = appended_opens (told_at a state ready) (name_of session.namenode) a.begins.called is came

    -- it says no more than is so where it isn't
    appended_limited : is_some stat.encryption ≡ false → (state : State) → IsReady s session state (commands.Append name) → IsLimited (world_at session s) state (commands.Append name)
    appended_limited plain state ready =
        let o = opens state ready in
        record {
          numbers = limited_at a state ready;
          attributes = tt;
          plain = record {
            bytes = λ moves. moves.0;
            file = λ opens.
                (let there = subst (λ (x : List ℕ). IsEncryptedAt state x) a.begins.called opens in
                let same : there.0 ≡ o.content = cc (there.1, o.filed) in
                false≢true (sym plain ∙ o.encryption ∙ ap (λ (x : Content). x.attributes.encrypted) (sym same) ∙ there.2));
          };
        }

    module _ {writer : FileWriter} (fresh : IsFresh path stat.file_id (sizes_in session d (unwrap_or stat.block_replication 0) (unwrap_or stat.blocksize 0)) (files.tail_opened appended.block None) writer) where
      appended_begins : (state : State) → IsReady s session state (commands.Append name) → BeginsFile s t (world_at session s) state (commands.Append name) path replies.Appended writer
      appended_begins state ready =
          let h = told_at a state ready in
          let o = opens state ready in
          record {
            p = h.p;
            q = o.q;
            was = h.was;
            now = o.now;
            content = o.content;
            begun = subst (Begun h.p o.q state path o.content) (sym fresh.stands) o.begun;
            done = o.done;
            replication = ap (λ (x : WriteSizes). x.replication) fresh.with ∙ o.replication;
            block_size = ap (λ (x : WriteSizes). x.block_size) fresh.with ∙ o.block_size;
          }

      -- of its blocks it says what was so before
      appended_whole : {may_answer : Ask → Answer → Type 0} {kept : Session} → KeepsWriter may_answer session kept path writer d
          → KeepsBlocksWhole (commands.Append name) s session t kept (Ok replies.Appended)
      appended_whole {kept} keeps state ready =
          let h = told_at a state ready in
          let now = was_reopened path (name_of session.namenode) 4 h.now m t appended h.told came in
          let sound = a.sound h.now h.told in
          let row = now.2 in
          let file = row.file in
          let size = file.attributes.block_size in
          let closed = none_from (writer_of session path) a.begins.closed in
          let stays = stays_files h.p h.now h.same.files path in
          let at : IsFileAt h.p path file = stays.files file row.at in
          let same : stat ≡ row.status.told = cc (is, row.status.is) in
          let sized : (files.sizes_of writer).block_size ≡ size =
          ap (λ (x : WriteSizes). x.block_size) fresh.with
          ∙ ap (λ (x : FileStatusMsg). unwrap_or x.blocksize 0) same ∙ ap (λ (o : Option ℕ). unwrap_or o 0) row.status.block_size in
          let filled : AreFilled s session path → AreFilled t kept path =
          λ before.
          (let full = full_at h.p h.now path stays file at (before.closed closed h.p file h.was at) in
          let least : tail_length (files.tail_opened appended.block None) ≤ size = reopened_short h.now now.0 sound path file row.at appended.block row.opens size full in
          let short : tail_length (files.tail_of writer) ≤ (files.sizes_of writer).block_size =
          subst (λ (n : ℕ). tail_length (files.tail_of writer) ≤ n) (sym sized) (subst (λ (x : Tail). tail_length x ≤ size) (sym fresh.stands) least) in
          filled_going t kept path writer (is_there a keeps) now.0 now.1 short
          (subst (λ (n : ℕ). AllBetween (IsOfSize now.0 n) 0 (blocks_at (now.0.names path))) (sym sized)
          (reopened_full h.now now.0 sound path file row.at appended.block row.opens size full))) in
          keeps_done (commands.Append name) s t session kept path h.p now.0 h.was now.1 a.begins.called
          (λ q apart. stays_trans h.p h.now now.0 q (stays_files h.p h.now h.same.files q) ((append_asks a).spares h.now now.0 h.told now.3 q apart))
          (others_kept a keeps) replies.Appended
          (λ from before. whole_going t kept path writer (is_there a keeps) now.0 now.1 from
          (reopened_whole h.now now.0 sound path file row.at appended.block row.opens from (whole_behind_at h.p h.now path stays from (before.closed closed h.p h.was))))
          filled (λ name' options' same. absurd (cc same))

      -- a file was opened to be gone on with
      pub appended_executes : {may_answer : Ask → Answer → Type 0} {kept : Session} → KeepsWriter may_answer session kept path writer d → files.Stands t writer
          → is_some stat.encryption ≡ false → Executes may_answer (commands.Append name) s session t kept (Ok replies.Appended)
      appended_executes keeps stands plain =
          kept_executes a keeps fresh stands refl (looks_from-Leaves m t came.relays.leaves) appended_begins (appended_limited plain) (appended_whole keeps)
