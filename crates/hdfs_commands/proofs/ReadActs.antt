-- A read as a session's command: it changes neither the files, nor what the session has open.
use Rattle.std.proofs.Common.{◌≡◌, inl, inr, ℕ, ◌+◌, ◌<◌, ◌≤◌, Bool, true, false, List, Some, None, Result, Ok, Err, is_some, length, refl, sym, ◌∙◌, ap, subst, arith}
use Rattle.std.proofs.lemmas.Bool.{false≢true}
use Rattle.hdfs_cluster.specs.declared.asks.Answer.{Answer}
use Rattle.hdfs_cluster.specs.declared.asks.Ask.{Ask}
use Rattle.hdfs_cluster.specs.declared.errors.HdfsError.{HdfsError}
use Rattle.hdfs_cluster.specs.declared.messages.LocatedBlock.{LocatedBlock}
use Rattle.hdfs_cluster.specs.declared.messages.LocatedBlocks.{LocatedBlocks}
use Rattle.hdfs_cluster.specs.declared.messages.ServerDefaults.{ServerDefaults}
use Rattle.hdfs_cluster.specs.Files.{State, Writing}
use Rattle.hdfs_cluster.specs.Picture.{Picture, SameFiles}
use Rattle.hdfs_cluster.specs.Reading.{range_of}
use Rattle.hdfs_cluster.specs.Shown.{Shown, Later, SameLinks, SameNodes, SamePlaces, SameWrites}
use Rattle.hdfs_cluster.specs.Stores.{Agrees}
use Rattle.hdfs_cluster.proofs.Frames.{later_trans, same_links_trans, told_after}
use Rattle.hdfs_connections.specs.declared.connection_cache.ConnectionCache.{ConnectionCache}
use Rattle.hdfs_model.specs.declared.commands.Command.{Command}
use Rattle.hdfs_model.specs.declared.commands.Command.TheVariants as commands
use Rattle.hdfs_model.specs.declared.commands.Reply.{Reply}
use Rattle.hdfs_model.specs.declared.commands.Reply.TheVariants as replies
use Rattle.hdfs_model.specs.Anywhere.{IsReply}
use Rattle.hdfs_model.specs.Causes.{Cause, IsEarly, Tells}
use Rattle.hdfs_model.specs.Owing.{IsNotOwed}
use Rattle.hdfs_model.specs.Sessions.{MeetsNoEncryption, defaults_of, spared, world_with}
use Rattle.hdfs_model.specs.Steps.{World, Done, is_opened, step, target_of}
use Rattle.hdfs_model.proofs.Completing.{cause_completes}
use Rattle.hdfs_names.specs.Paths.{is_path, absolute}
use Rattle.hdfs_namenode.specs.Asked.{ReachesAll}
use Rattle.hdfs_namenode.specs.Clients.{KeepsAnswered, SameClient, client_name, proxy_of}
use Rattle.hdfs_namenode.specs.declared.protocol.NamenodeProtocol.{NamenodeProtocol}
use Rattle.hdfs_namenode.proofs.Services.{reaches_later}
use Rattle.hdfs_file_reader.specs.Files.{EndsBehind, LacksRange, LosesByte, OnlyReadsFile, blocks_of, length_of}
use Rattle.hdfs_file_reader.specs.Looking.{AnswersLookUp, FilesStay, IsClosed, LocatesFile, LooksInVain, OnlyLooks}
use Rattle.hdfs_file_reader.specs.Ranges.{Stored}
use Rattle.hdfs_file_reader.specs.Transferring.{MayMove, Unsupported}
use Rattle.hdfs_file_reader.specs.declared.file_blocks.FileBlocks.{FileBlocks}
use Rattle.hdfs_commands.specs.Acting.{IsReady, world_at}
use Rattle.hdfs_commands.specs.Asking.{AreAnswered}
use Rattle.hdfs_commands.specs.Executing.{Executes}
use Rattle.hdfs_commands.specs.Meeting.{KnowsWorld, Meets}
use Rattle.hdfs_commands.specs.Preparing.{Remembers}
use Rattle.hdfs_commands.specs.Refusing.{IsAnsweredSo}
use Rattle.hdfs_commands.specs.Session.{Stands, Carried, defaults_known, has_failed, settings_of, opened_of, writer_of}
use Rattle.hdfs_commands.specs.Whole.{KeepsBlocksWhole}
use Rattle.hdfs_commands.specs.declared.session.Session.{Session}
use Rattle.hdfs_commands.proofs.Agreeing.{agrees_but, is_told}
use Rattle.hdfs_commands.proofs.Answered.{answered_same, keeps_same}
use Rattle.hdfs_commands.proofs.Causing.{agrees_looked, encrypted_cause, looked_cause, read_done}
use Rattle.hdfs_commands.proofs.Early.{owed_other}
use Rattle.hdfs_commands.proofs.LookedUp.{reads_of, tells_looked}
use Rattle.hdfs_commands.proofs.Lost.{not_lost}
use Rattle.hdfs_commands.proofs.Moved.{links_moved, session_moved}
use Rattle.hdfs_commands.proofs.Ranging.{AsksOn, asks_looked, asks_read, finds_plain, lacks_cause, lacks_early, lacks_tells, plain_tells, range_ends, stay_read}
use Rattle.hdfs_commands.proofs.Refused.{looked_so, ranged_so}
use Rattle.hdfs_commands.proofs.Sized.{remembers_failed}
use Rattle.hdfs_commands.proofs.Stepping.{is_closed}
use Rattle.hdfs_commands.proofs.Still.{session_carries}
use Rattle.hdfs_commands.proofs.Tallying.{sends_none, tallied_moved}
use Rattle.hdfs_commands.proofs.WholeOpening.{stays_files}
use Rattle.hdfs_commands.proofs.WholeStarting.{leaving_whole}

-- What a read comes to, which has asked, and has kept other connections.
module _ (may_answer : Ask → Answer → Type 0) (old new : Shown) (session : Session) (cache : ConnectionCache) (protocol : NamenodeProtocol) (name path : List ℕ) (offset len : ℕ)
    (is : is_path path ≡ true) (placed : opened_of session path ≡ false) (called : absolute (settings_of session).home name ≡ path) (fine : has_failed session ≡ false)
    (stands : Stands old session) (answered : AreAnswered may_answer session) (later : Later old new) (links : SameLinks old new) (idle : len ≡ 0 → SameNodes old new)
    (files : FilesStay path old new) (asks : AsksOn path old session.namenode new protocol) (kept : KeepsAnswered may_answer protocol) where
  abbrev reading : Command
  reading = commands.Read name offset len

  abbrev world : World
  world = world_at session old

  abbrev then : Session
  then = record session { connections = cache; namenode = protocol }

  -- it is the same session but for what it knows
  remembers : Remembers session then
  remembers = record { settings = refl; name = asks.same.name; service = asks.same.service; known = asks.same.known }

  -- the session is ready for the read over this state
  module _ (state : State) (ready : IsReady old session state reading) where
    not_open : is_opened state path ≡ false
    not_open = ready.ready.opened path ∙ placed

    -- nobody writes the file
    meets : Meets world old state name path
    meets = record {
      agrees = ready.ready.fits.agrees;
      called = called;
      is_path = is;
      not_open = not_open;
      closed = λ content writing.
          ready.ready.avoids 0 reading (omega arith)
          (content, subst (λ (q : List ℕ). state.files q ≡ Some (Writing content)) (sym called) writing, subst (λ (q : List ℕ). is_opened state q ≡ false) (sym called) not_open);
    }

    -- what it knows of the defaults is the cluster's
    knows : KnowsWorld world old (defaults_known session)
    knows = record { defaults = refl; knows = ready.carried.defaults }

    -- the files agree behind it
    agrees : Agrees new.picture state.files
    agrees = agrees_looked world old new state name path offset len meets files

    -- the pictures before and behind it
    pictures : (p : Picture) × (old.picture ≡ Some p) × (q : Picture) × (new.picture ≡ Some q) × SameFiles p q × IsClosed p path
    pictures =
        let told = is_told old.picture state.files ready.ready.fits.agrees in
        let closed = is_closed world old state name path meets told.0 told.1 in
        let there = files told.0 told.1 closed in
        (told.0, told.1, there.0, there.1, there.2, closed)

    -- the world stays
    same_world : world_at then new ≡ world
    same_world = let t = pictures in ap (λ (d : ServerDefaults). world_with (settings_of session) d) (ap defaults_of t.3 ∙ t.4.defaults ∙ sym (ap defaults_of t.1))

    -- the session carries its files still
    carried_on : Carried new then state
    carried_on =
        let t = pictures in
        let places = told_after (SamePlaces old) old.picture new.picture t.0 links.places t.1 in
        let same : places.0 ≡ t.2 = cc (places.1, t.3) in
        let carries = session_carries t.0 t.2 t.4 (subst (λ (q : Picture). SameWrites t.0 q) same places.2.1) old new t.1 t.3 session state ready.carried in
        record { each = carries.each; defaults = asks.told t.0 t.1 t.5 ready.carried.defaults }

  -- it leaves all blocks
  whole : (session' : Session) → ((r : List ℕ) → writer_of session' r ≡ writer_of session r) → (result : Result Reply HdfsError) → KeepsBlocksWhole reading old session new session' result
  whole session' writers result state ready =
      let t = pictures state ready in
      leaving_whole reading old new session session' t.0 t.2 t.1 t.3 (stays_files t.0 t.2 t.4) writers (λ name' options same. cc same) result

  -- a reply is that of the step
  pub reads : (reply : Reply) → IsReply reading reply
      → ((state : State) → Meets world old state name path → KnowsWorld world old (defaults_known session) → (step world state reading ≡ Done reply state) × MeetsNoEncryption world state reading)
      → Executes may_answer reading old session new then (Ok reply)
  reads reply replies gives = record {
    acts = record {
      anywhere = record { later = later; reads = reads_of old new links; replies = replies; tells = tt; refused = tt; idle = idle };
      links = links_moved old new links.writes session then (λ r. refl);
      stands = session_moved old new links.writes session then (λ r. refl) later.namenodes remembers (λ failed. failed) stands;
      tallied = tallied_moved later (λ r. refl);
      limit = tt;
      writers = λ r apart. refl;
      applied = λ state ready.
          (let done = gives state (meets state ready) (knows state ready) in
          record {
            ok = (state, done.0, record { numbers = refl; attributes = tt; plain = done.1 }, record { is_state = ready.ready.fits.is_state; agrees = agrees state ready }, ready.ready.opened);
            err = tt;
            complete = tt;
          });
      world = same_world;
      carried = λ state ready next done.
          (let one = (gives state (meets state ready) (knows state ready)).0 in
          let same : state ≡ next = cc (one, done) in
          subst (Carried new then) same (carried_on state ready));
      spares = λ state ready. tt;
    };
    whole = whole then (λ r. refl) (Ok reply);
    owed = tt;
    refused = tt;
    settings = refl;
    fails = (tt, fine);
    answered = answered_same session then asks.same.name (λ r. refl) kept answered;
  }

  -- an error has its cause
  pub read_fails : (e : HdfsError) → (IsEarly reading e → SameNodes old new) → IsNotOwed e × Tells reading old new e → IsAnsweredSo may_answer (client_name session.settings.client) path reading e
      → ((state : State) → Meets world old state name path → KnowsWorld world old (defaults_known session) → Cause world state reading old new e)
      → Executes may_answer reading old session new (record then { failed = true }) (Err e)
  read_fails e early tells so lacks = record {
    acts = record {
      anywhere = record { later = later; reads = reads_of old new links; replies = tt; tells = tells.1; refused = early; idle = idle };
      links = links_moved old new links.writes session (record then { failed = true }) (λ r. refl);
      stands =
          session_moved old new links.writes session (record then { failed = true }) (λ r. refl) later.namenodes (remembers_failed session then remembers)
          (λ failed. absurd (false≢true (sym failed))) stands;
      tallied = tallied_moved later (λ r. refl);
      limit = λ start n is tally. absurd (sends_none reading old new e (λ sends. sends) tells.1 n is);
      writers = λ r apart. refl;
      applied = λ state ready.
          (let cause = lacks state (meets state ready) (knows state ready) in
          record {
            ok = tt;
            err = (cause, agrees_but (spared world state reading e) new.picture state.files (agrees state ready));
            complete = λ limited none.
                cause_completes world state reading old new later.namenodes limited none
                (λ byte lost. not_lost state old.namenodes old.counts new (target_of world reading) offset (offset + len) byte
                (λ content writing. (meets state ready).closed content (subst (λ (q : List ℕ). state.files q ≡ Some (Writing content)) called writing)) (agrees state ready) none lost) e cause;
          });
      world = λ state ready. tt;
      carried = λ state ready. tt;
      spares = λ state ready. record { each = λ p told r writer is. inr ((carried_on state ready).each p told r writer is) };
    };
    whole = whole (record then { failed = true }) (λ r. refl) (Err e);
    owed = owed_other world (opened_of session) reading e (ap is_path called ∙ is) (λ opened. false≢true (sym placed ∙ ap (opened_of session) (sym called) ∙ opened)) (inl tells.0);
    refused = subst (λ (p : List ℕ). IsAnsweredSo may_answer (client_name session.settings.client) p reading e) (sym called) so;
    settings = refl;
    fails = (refl, tt);
    answered = answered_same session (record then { failed = true }) asks.same.name (λ r. refl) kept answered;
  }

-- ---- each way out

module _ (may_answer : Ask → Answer → Type 0) {C : Type 0} (shown : C → Shown) (before at : C) (session : Session) (asked : NamenodeProtocol) (name path : List ℕ) (offset len : ℕ)
    (is : is_path path ≡ true) (placed : opened_of session path ≡ false) (called : absolute (settings_of session).home name ≡ path) (fine : has_failed session ≡ false)
    (stands : Stands (shown before) session) (answered : AreAnswered may_answer session)
    (looks : OnlyLooks (shown before) (shown at)) (client : SameClient session.namenode asked) (files : FilesStay path (shown before) (shown at)) where
  -- no block was opened
  unread : (e : HdfsError) → IsNotOwed e × Tells (commands.Read name offset len) (shown before) (shown at) e
      → IsAnsweredSo may_answer (client_name session.settings.client) path (commands.Read name offset len) e
      → ((state : State) → Meets (world_at session (shown before)) (shown before) state name path
      → Cause (world_at session (shown before)) state (commands.Read name offset len) (shown before) (shown at) e)
      → Executes may_answer (commands.Read name offset len) (shown before) session (shown at) (record session { namenode = asked; failed = true }) (Err e)
  unread e tells so lacks =
      read_fails may_answer (shown before) (shown at) session session.connections asked name path offset len is placed called fine stands answered looks.later looks.links (λ none. looks.nodes) files
      (asks_looked path (shown before) (shown at) session.namenode asked files client) (keeps_same may_answer session.namenode asked client answered.defaults)
      e (λ early. looks.nodes) tells so (λ state meets knows. lacks state meets)

  -- the blocks weren't found
  pub not_found : (e : HdfsError) → AnswersLookUp may_answer path (Err e) → LooksInVain name path (shown before) e (shown at)
      → Executes may_answer (commands.Read name offset len) (shown before) session (shown at) (record session { namenode = asked; failed = true }) (Err e)
  not_found e so vain =
      unread e (tells_looked name offset len (shown before) (shown at) e vain.tells)
      (looked_so may_answer (client_name session.settings.client) path name offset len name (shown before) (shown at) e vain.tells so)
      (λ state meets. looked_cause (world_at session (shown before)) (shown before) (shown at) state name path offset len meets e vain.why)

  module _ (found : LocatedBlocks) (located : LocatesFile path (shown before) found) (so : AnswersLookUp may_answer path (Ok found)) where
    -- the file is encrypted
    pub is_encrypted : (e : HdfsError) → Unsupported e × (is_some found.encryption ≡ true)
        → Executes may_answer (commands.Read name offset len) (shown before) session (shown at) (record session { namenode = asked; failed = true }) (Err e)
    is_encrypted e out =
        unread e (plain_tells name offset len (shown before) (shown at) e out.0)
        (subst (IsAnsweredSo may_answer (client_name session.settings.client) path (commands.Read name offset len)) (sym out.0) (inl (found, so, out.1)))
        (λ state meets. subst (Cause (world_at session (shown before)) state (commands.Read name offset len) (shown before) (shown at)) (sym out.0)
        (encrypted_cause (world_at session (shown before)) (shown before) (shown at) state name path offset len meets files found located out.1))

    module _ (file : FileBlocks) (of : (blocks_of file ≡ found.blocks) × (length_of file ≡ found.file_length) × (found.encryption ≡ None)) (now : C) (cache : ConnectionCache) (last : NamenodeProtocol)
        (leaves : OnlyReadsFile (shown at) asked (shown now) last) (idle : len ≡ 0 → (now ≡ at) × (last ≡ asked)) (keeps : KeepsAnswered may_answer asked → KeepsAnswered may_answer last) where
      -- all namenodes are asked still
      still_reaches : ReachesAll (proxy_of asked) (shown at)
      still_reaches = reaches_later (proxy_of session.namenode) (proxy_of asked) (shown before) (shown at) client.service looks.later stands.reaches

      -- what is known at the end was answered
      kept : KeepsAnswered may_answer last
      kept = keeps (keeps_same may_answer session.namenode asked client answered.defaults)

      -- the look-up touches no datanode
      nodes : (to : C) → to ≡ at → SameNodes (shown before) (shown to)
      nodes to same = subst (λ (x : C). SameNodes (shown before) (shown x)) (sym same) looks.nodes

      -- the bytes are read
      pub range_read : (bytes : List ℕ) → (offset + len ≤ length_of file) → MayMove len last
          → (ReachesAll (proxy_of asked) (shown at) → (content : List ℕ) → Stored (shown at) (blocks_of file) content → offset + len ≤ length content → bytes ≡ range_of content offset len)
          → Executes may_answer (commands.Read name offset len) (shown before) session (shown now) (record session { connections = cache; namenode = last }) (Ok (replies.Bytes bytes))
      range_read bytes within moves gives =
          reads may_answer (shown before) (shown now) session cache last name path offset len is placed called fine stands answered
          (later_trans (shown before) (shown at) (shown now) looks.later leaves.later) (same_links_trans (shown before) (shown at) (shown now) looks.links leaves.links) (λ none. nodes now (idle none).0)
          (stay_read path (shown before) (shown at) (shown now) session.namenode asked last files client looks stands.reaches leaves)
          (asks_read path (shown before) (shown at) (shown now) session.namenode asked last files client looks stands.reaches leaves) kept
          (replies.Bytes bytes) (bytes, refl)
          (λ state meets knows. (
            read_done (world_at session (shown before)) (shown before) (shown at) state name path offset len meets files found located bytes (subst (λ (n : ℕ). offset + len ≤ n) of.1 within)
                (λ content stored inside. gives still_reaches content (subst (λ (bs : List LocatedBlock). Stored (shown at) bs content) (sym of.0) stored) inside),
            finds_plain path (shown before) (shown at) (shown now) session.namenode asked last files client looks stands.reaches leaves name offset len found located (world_at session (shown before)) state meets knows of.2 moves,
          ))

      -- they aren't
      pub range_unread : (e : HdfsError) → LacksRange (length_of file) offset len (shown at) asked e (shown now) last
          → (length_of file < offset + len → EndsBehind offset len (length_of file) e × (now ≡ at) × (last ≡ asked) × (cache ≡ session.connections))
          → (ReachesAll (proxy_of asked) (shown at) → LosesByte (shown at) (blocks_of file) offset (offset + len) e (shown now))
          → Executes may_answer (commands.Read name offset len) (shown before) session (shown now) (record session { connections = cache; namenode = last; failed = true }) (Err e)
      range_unread e lacks past loses =
          read_fails may_answer (shown before) (shown now) session cache last name path offset len is placed called fine stands answered
          (later_trans (shown before) (shown at) (shown now) looks.later leaves.later) (same_links_trans (shown before) (shown at) (shown now) looks.links leaves.links) (λ none. nodes now (idle none).0)
          (stay_read path (shown before) (shown at) (shown now) session.namenode asked last files client looks stands.reaches leaves)
          (asks_read path (shown before) (shown at) (shown now) session.namenode asked last files client looks stands.reaches leaves) kept
          e (λ early d. lacks_early name offset len (length_of file) (shown before) (shown at) (shown now) asked last looks e lacks (λ short d'. ap (λ (x : C). (shown x).counts.nodes d') (past short).1) early d ∙ looks.nodes d)
          (lacks_tells name offset len (length_of file) (shown before) (shown at) (shown now) asked last looks e lacks still_reaches)
          (ranged_so may_answer (client_name session.settings.client) path name offset len (length_of file) (shown at) (shown now) asked last e lacks kept
          (λ short. record { found = found; answered = so; plain = of.2; is = sym of.1; short = short }))
          (λ state meets knows.
          lacks_cause path (shown before) (shown at) (shown now) session.namenode asked last files client looks stands.reaches leaves name offset len found located (world_at session (shown before)) state meets knows
          e (length_of file) of.1 lacks
          (λ short. subst (λ (x : C). Cause (world_at session (shown before)) state (commands.Read name offset len) (shown before) (shown x) e) (sym (past short).1)
          (range_ends name path offset len found (shown before) (shown at) files located (world_at session (shown before)) state meets (length_of file) e of.1 (past short).0 short))
          (subst (λ (bs : List LocatedBlock). LosesByte (shown at) bs offset (offset + len) e (shown now)) of.0 (loses still_reaches)))

-- a path that isn't open, where that is what would be wrong
pub not_open_by : (opened : Bool) → (opened ≡ true → ⊥) → opened ≡ false
not_open_by true never = absurd (never refl)
not_open_by false never = refl
