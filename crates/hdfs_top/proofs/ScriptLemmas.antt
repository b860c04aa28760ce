-- What a script is over a store, and what a run of it has done.
use Rattle.std.proofs.Common.{inl, inr, ⊎_elim, ◌⊎◌, ◌≡◌, ℕ, ◌+◌, ◌<◌, ◌≤◌, nat_le, Bool, true, false, Some, List, [], ◌++◌, length, take, Ok, Err, refl, sym, ◌∙◌, ap, subst, arith}
use Rattle.std.proofs.lemmas.List.{take_all, length-take-le, take-take}
use Rattle.std.proofs.lemmas.Bool.{cases_lt}
use Rattle.std.proofs.lemmas.Bool.Decides.{nat_tests}
use Rattle.hdfs_model.specs.declared.commands.Command.{Command}
use Rattle.hdfs_model.specs.declared.commands.Fault.{Fault}
use Rattle.hdfs_cluster.specs.Counts.{FaultCounts, NeverFall, NoneRose, SameCounts}
use Rattle.hdfs_cluster.specs.Files.{State}
use Rattle.hdfs_model.specs.Folds.{fold}
use Rattle.hdfs_model.specs.Headline.{Stopped}
use Rattle.hdfs_cluster.specs.Loading.{AreValid, SameShown, with_lines}
use Rattle.hdfs_cluster.specs.Picture.{SamePicture}
use Rattle.hdfs_cluster.specs.Fitting.{Fits}
use Rattle.hdfs_model.specs.Sessions.{AreLimited, world_with}
use Rattle.hdfs_cluster.specs.Shown.{Shown, Later}
use Rattle.hdfs_model.specs.Steps.{World}
use Rattle.hdfs_cluster.proofs.Frames.{told_refl, same_picture_refl, never_fall_trans, never_fall_from-SameCounts, same_counts_trans}
use Rattle.hdfs_model.proofs.Telling.{tells_since}
use Rattle.hdfs_script.specs.declared.entry.Parsed.{Parsed}
use Rattle.hdfs_script.specs.Parsing.{Parses, plain_lines}
use Rattle.hdfs_script.specs.Scripts.{Script, script, begins, ends_bad, entries_in, first_bad, first_place, line_entries, script_limit, session_settings, unless_bad}
use Rattle.hdfs_script.proofs.HalfLemmas.{refused_from, script_from, script_read}
use Rattle.hdfs_script.specs.Texts.{replies_text, fault_text, refusal_text}
use Rattle.hdfs_streams.specs.Streams.{SourceShown, SinkShown, TookAtMost, Wrote}
use Rattle.hdfs_streams.proofs.PrintLemmas.{wrote_none}
use Rattle.hdfs_top.specs.declared.note.Note.{Note}
use Rattle.hdfs_top.specs.Top.{IsSession, Outside, outside, IsKnown, Loaded, Finishes, Halts, NotesFault, RefusedScript, StatusOf, ScriptDecides, world_over}
use Rattle.hdfs_top.specs.Inside.{RanSession, Gave, IsKnownStore, LoadsScript, RefusesScript, PrintsWhole, Concludes, ToEnd, ToFault, NotesStop, RanCommands, stage, world_ready}
use Rattle.hdfs_commands.proofs.Since.{cause_since}
use Rattle.hdfs_top.proofs.LoadLemmas.{closed_lines}
use Rattle.hdfs_top.proofs.ReadyLemmas.{readies_counts, readies_defaults, readies_fits, readies_lines, readies_settings, readies_some}
use Rattle.hdfs_top.proofs.SessionLemmas.{whole_at_2}
use Rattle.hdfs_top.proofs.StatusLemmas.{Kept, ran_done, ran_refused, ran_stopped, ran_no_memory, ran_sink_failed}

pub same_shown_refl : (s : Shown) → SameShown s s
same_shown_refl s = record {
  rest = record { counts = record { asks = λ i. refl; calls = λ i. refl; links = refl; nodes = λ d. refl }; last = refl; namenodes = refl; reads = λ link. refl; writes = λ link. refl };
  lines = refl;
  picture = told_refl SamePicture s.picture same_picture_refl;
}

-- a run of a session says nothing of other words
pub kept_session : (words : List (List ℕ)) (a b : Outside) (status : ℕ) → IsSession words → NeverFall a.store.counts b.store.counts → TookAtMost (script_limit + 1) a.source b.source → Kept words a status b
kept_session words a b status is counts read = record { counts = counts; read = read; other = λ no. absurd (no is) }

-- the entries of too many bytes
entries_long : (bytes : List ℕ) → script_limit < length bytes → entries_in bytes ≡ ends_bad (line_entries (take script_limit bytes))
entries_long bytes long =
    let no : nat_le (length bytes) script_limit ≡ false = grind (arith, nat_tests) in
    rw no refl

-- a script is told by one byte more than it may have
entries-take : (bytes : List ℕ) → entries_in bytes ≡ entries_in (take (script_limit + 1) bytes)
entries-take bytes = ⊎_elim
    (λ long.
    entries_long bytes long ∙ ap (λ front. ends_bad (line_entries front)) (sym (take-take script_limit (script_limit + 1) bytes (omega arith)))
    ∙ sym (entries_long (take (script_limit + 1) bytes) (omega (arith, length-take-le (script_limit + 1) bytes (omega (arith, long))))))
    (λ short. ap entries_in (sym (take_all (script_limit + 1) bytes (omega (arith, short)))))
    (cases_lt script_limit (length bytes))

-- what the source gave is as good as all that it has
given_is : (a : Outside) (given all : List ℕ) (left : SourceShown) (state : State) → Gave a.source given left → IsKnown a all state → script a.fresh state all ≡ script a.fresh state given
given_is a given all left state gave known =
    ap (λ entries. unless_bad (first_bad a.fresh (begins state) first_place 1 entries) entries) (entries-take all ∙ ap entries_in (sym (gave.front all known.told)))

-- the bytes are refused at this line, and a store that isn't fresh is as it was
abbrev RefusedAt : Outside → ℕ → Outside → Type 0
RefusedAt a line b = (bytes : List ℕ) (state : State) → IsKnown a bytes state → (script a.fresh state bytes ≡ Err line) × (a.fresh ≡ false → SameShown a.store b.store)

refused_at : (a b : Outside) (given : List ℕ) (read : Parsed) (line : ℕ) → Gave a.source given b.source → Parses given read → RefusesScript a.fresh a.store read line b.store → RefusedAt a line b
refused_at a b given read line gave parses refuses bytes state known =
    (given_is a given bytes b.source state gave known ∙ refused_from a.fresh state given read line parses (refuses.first state known.fits), refuses.same state known.fits)

refused_wrote : (a b : Outside) (line : ℕ) → RefusedAt a line b → Wrote a.sink (refusal_text line) b.sink → RefusedScript a b
refused_wrote a b line refused wrote bytes state known =
    let here = refused bytes state known in
    (line, here.0, wrote, here.1)

-- the refusal of a script is printed
pub refused_script : (a b : Outside) (given : List ℕ) (read : Parsed) (line status : ℕ) → Gave a.source given b.source → Parses given read → RefusesScript a.fresh a.store read line b.store → NeverFall a.store.counts b.store.counts → Concludes 1 a.sink (refusal_text line) status b.sink → RanSession a status b
refused_script a b given read line status gave parses refuses counts (inl whole) words is =
    ran_refused words a b line status (kept_session words a b status is counts gave.taken) gave.fine whole
    (λ _. refused_wrote a b line (refused_at a b given read line gave parses refuses) whole.wrote)
refused_script a b given read line status gave parses refuses counts (inr part) words is =
    ran_sink_failed words a b (refusal_text line) status (kept_session words a b status is counts gave.taken) gave.fine part
    (λ _ bytes state known. inl (record { line = line; is = (refused_at a b given read line gave parses refuses bytes state known).0; is_text = refl }))

-- there was no memory for a script
pub starved_script : (source left : SourceShown) (sink : SinkShown) (store store' : Shown) (fresh fresh' : Bool) (given : List ℕ) (status : ℕ) → Gave source given left → NeverFall store.counts store'.counts → status ≡ 3 → RanSession (outside source sink store fresh) status (outside left sink store' fresh')
starved_script source left sink store store' fresh fresh' given status gave counts three words is =
    ran_no_memory words (outside source sink store fresh) (outside left sink store' fresh') status
    (kept_session words (outside source sink store fresh) (outside left sink store' fresh') status is counts gave.taken)
    gave.fine (record { is = three; wrote = wrote_none sink; fine = refl })

stopped_since : (w : World) (state : State) (commands : List Command) (old mid new : Shown) (fault : Fault) → SameCounts old.counts mid.counts → Stopped w state commands mid new fault → Stopped w state commands old new fault
stopped_since w state commands old mid new fault same stopped = record {
  last = stopped.last;
  done = stopped.done;
  cause = λ some.
      let at = stopped.cause some in
      let fall = never_fall_from-SameCounts old.counts mid.counts same in
      (at.0, at.1, tells_since old mid new fall at.0 fault.error at.2, cause_since old mid new fall w stopped.last at.0 fault.error at.3, at.4);
  start = stopped.start;
}

none_rose_since : (n m : ℕ) (old mid new : FaultCounts) → m ≤ n → SameCounts old mid → NoneRose n old new → NoneRose m mid new
none_rose_since n m old mid new le same none = record {
  calls = λ i below rose. none.calls i (omega (arith, below, le)) (rw (← same.calls i) rose);
  links = λ rose. none.links (rw (← same.links) rose);
  nodes = λ d rose. none.nodes d (rw (← same.nodes d) rose);
}

-- A script was loaded, and its commands were run over the store that it made.
pub record LoadedRun (a : Outside) (given : List ℕ) (s : Script) (mid : Shown) (b : Outside) : Type 0 where
  pub gave : Gave a.source given b.source
  pub is : (state : State) → Fits a.store state → script a.fresh state given ≡ Ok s
  pub counts : SameCounts a.store.counts mid.counts
  pub world : (state : State) → Fits a.store state → world_ready s.settings mid ≡ world_over a s
  pub settings : a.fresh ≡ true → mid.loaded.settings ≡ Some s.settings.cluster
  pub lines : mid.loaded.lines ≡ a.store.loaded.lines ++ s.lines
  pub fits : (state : State) → Fits a.store state → Fits mid (with_lines state s.lines)
  pub later : Later mid b.store

after_lines : (a b : Outside) (given : List ℕ) (s : Script) (mid : Shown) → LoadedRun a given s mid b → (bytes : List ℕ) (state : State) → IsKnown a bytes state → IsKnownStore mid (with_lines state s.lines)
after_lines a b given s mid run bytes state known =
    record { fits = run.fits state known.fits; closed = closed_lines state s.lines known.closed }

loaded_from : (a b : Outside) (given : List ℕ) (s : Script) (mid : Shown) → LoadedRun a given s mid b → (bytes : List ℕ) (state : State) → IsKnown a bytes state → Loaded a bytes state s b
loaded_from a b given s mid run bytes state known = record {
  is = given_is a given bytes b.source state run.gave known ∙ run.is state known.fits;
  settings = λ fresh. ap (λ l. l.settings) run.later.loaded ∙ run.settings fresh;
  lines = ap (λ l. l.lines) run.later.loaded ∙ run.lines;
}

finishes_from : (a b : Outside) (given : List ℕ) (s : Script) (mid : Shown) (status : ℕ) → LoadedRun a given s mid b → (end : ToEnd s.settings s.commands (stage mid a.sink) status (stage b.store b.sink)) → (bytes : List ℕ) (state : State) → IsKnown a bytes state → Finishes a bytes state (replies_text end.replies) b
finishes_from a b given s mid status run end bytes state known =
    let t = end.told (with_lines state s.lines) (after_lines a b given s mid run bytes state known) in
    record {
      parsed = s;
      loaded = loaded_from a b given s mid run bytes state known;
      replies = end.replies;
      last = t.0;
      folds = ap (λ (w : World). fold w (with_lines state s.lines) s.commands) (sym (run.world state known.fits)) ∙ t.1;
      fits = t.2;
      is_text = refl;
    }

halts_from : (a b : Outside) (given : List ℕ) (s : Script) (mid : Shown) (status : ℕ) → LoadedRun a given s mid b → (stop : ToFault s.settings s.commands (stage mid a.sink) status (stage b.store b.sink)) → (bytes : List ℕ) (state : State) → IsKnown a bytes state → Halts a bytes state (fault_text stop.fault) b
halts_from a b given s mid status run stop bytes state known = record {
  parsed = s;
  loaded = loaded_from a b given s mid run bytes state known;
  fault = stop.fault;
  other = stop.other;
  stopped = stopped_since (world_over a s) (with_lines state s.lines) s.commands a.store mid b.store stop.fault run.counts
      (subst (λ (w : World). Stopped w (with_lines state s.lines) s.commands mid b.store stop.fault) (run.world state known.fits)
      (stop.told (with_lines state s.lines) (after_lines a b given s mid run bytes state known)));
  is_text = refl;
}

decides_from : (a b : Outside) (given : List ℕ) (s : Script) (mid : Shown) (status : ℕ) → LoadedRun a given s mid b → ToFault s.settings s.commands (stage mid a.sink) status (stage b.store b.sink) → status ≡ 2 → ScriptDecides a status b
decides_from a b given s mid status run stop two bytes state found known is limited none =
    let here = (loaded_from a b given s mid run bytes state known).is in
    let same : s ≡ found = cc (here, is) in
    let start = with_lines state s.lines in
    let stays = run.world state known.fits in
    let within : AreLimited (world_ready s.settings mid) start s.commands =
    subst (λ (w : World). AreLimited w start s.commands) (sym stays) (subst (λ (x : Script). AreLimited (world_over a x) (with_lines state x.lines) x.commands) (sym same) limited) in
    let none_since = none_rose_since b.store.namenodes mid.namenodes a.store.counts mid.counts b.store.counts (omega (arith, run.later.namenodes)) run.counts none.calls in
    let fault : StatusOf (fold (world_ready s.settings mid) start s.commands) 2 = stop.complete start (after_lines a b given s mid run bytes state known) within none_since in
    let there : StatusOf (fold (world_over a s) start s.commands) 2 = subst (λ (w : World). StatusOf (fold w start s.commands) 2) stays fault in
    let this : StatusOf (fold (world_over a s) start s.commands) status = subst (λ (n : ℕ). StatusOf (fold (world_over a s) start s.commands) n) (sym two) there in
    subst (λ (x : Script). StatusOf (fold (world_over a x) (with_lines state x.lines) x.commands) status) same this

kept_loaded : (words : List (List ℕ)) (a b : Outside) (given : List ℕ) (s : Script) (mid : Shown) (status : ℕ) → IsSession words → LoadedRun a given s mid b → Kept words a status b
kept_loaded words a b given s mid status is run =
    kept_session words a b status is (never_fall_trans a.store.counts mid.counts b.store.counts (never_fall_from-SameCounts a.store.counts mid.counts run.counts) run.later.counts) run.gave.taken

-- the session came to its end
ran_end : (a b : Outside) (given : List ℕ) (s : Script) (mid : Shown) (status : ℕ) → LoadedRun a given s mid b → (end : ToEnd s.settings s.commands (stage mid a.sink) status (stage b.store b.sink)) → Concludes 0 a.sink (replies_text end.replies) status b.sink → RanSession a status b
ran_end a b given s mid status run end (inl whole) words is =
    ran_done words a b (replies_text end.replies) status (kept_loaded words a b given s mid status is run) run.gave.fine whole (finishes_from a b given s mid status run end)
ran_end a b given s mid status run end (inr part) words is =
    ran_sink_failed words a b (replies_text end.replies) status (kept_loaded words a b given s mid status is run) run.gave.fine part
    (λ _ bytes state known. inr (inl (finishes_from a b given s mid status run end bytes state known)))

-- the session stopped
ran_fault : (a b : Outside) (given : List ℕ) (s : Script) (mid : Shown) (status : ℕ) → LoadedRun a given s mid b → (stop : ToFault s.settings s.commands (stage mid a.sink) status (stage b.store b.sink)) → Concludes 2 a.sink (fault_text stop.fault) status b.sink → RanSession a status b
ran_fault a b given s mid status run stop (inl whole) words is =
    ran_stopped words a b (fault_text stop.fault) status (kept_loaded words a b given s mid status is run) run.gave.fine whole (halts_from a b given s mid status run stop) (decides_from a b given s mid status run stop whole.is)
ran_fault a b given s mid status run stop (inr part) words is =
    ran_sink_failed words a b (fault_text stop.fault) status (kept_loaded words a b given s mid status is run) run.gave.fine part
    (λ _ bytes state known. inr (inr (halts_from a b given s mid status run stop bytes state known)))

ran_ending : (a b : Outside) (given : List ℕ) (s : Script) (mid : Shown) (status : ℕ) → LoadedRun a given s mid b → PrintsWhole 3 a.sink [] status b.sink ⊎ ToEnd s.settings s.commands (stage mid a.sink) status (stage b.store b.sink) ⊎ ToFault s.settings s.commands (stage mid a.sink) status (stage b.store b.sink) → RanSession a status b
ran_ending a b given s mid status run (inl whole) words is =
    ran_no_memory words a b status (kept_loaded words a b given s mid status is run) run.gave.fine whole
ran_ending a b given s mid status run (inr (inl end)) words is = ran_end a b given s mid status run end end.printed words is
ran_ending a b given s mid status run (inr (inr stop)) words is = ran_fault a b given s mid status run stop stop.printed words is

loaded_run : (a b : Outside) (given : List ℕ) (read : Parsed) (mid : Shown) → Gave a.source given b.source → Parses given read → LoadsScript a.fresh a.store read mid → Later mid b.store → LoadedRun a given (script_read read) mid b
loaded_run a b given read mid gave parses loads later =
    let cluster = read.settings.cluster in
    record {
      gave = gave;
      is = λ state fits. script_from a.fresh state given read parses (loads.none state fits);
      counts = same_counts_trans a.store.counts loads.ready.counts mid.counts (readies_counts a.fresh a.store cluster loads.ready loads.readies) loads.loads.counts;
      world = λ state fits. ap (world_with (session_settings read.settings)) (loads.loads.defaults ∙ readies_defaults a.fresh a.store read.settings loads.ready loads.readies state fits);
      settings = λ fresh. loads.loads.settings ∙ readies_settings a.fresh a.store cluster loads.ready loads.readies fresh;
      lines = loads.loads.loaded ∙ ap (λ l. l ++ plain_lines read.lines) (readies_lines a.fresh a.store cluster loads.ready loads.readies);
      fits = λ state fits. loads.loads.fits state (readies_fits a.fresh a.store cluster loads.ready loads.readies state fits);
      later = later;
    }

-- there is a namenode still
pub some_namenode : (fresh : Bool) (old : Shown) (read : Parsed) (new : Shown) → LoadsScript fresh old read new → AreValid read.settings.cluster → 0 < old.namenodes → 0 < new.namenodes
some_namenode fresh old read new loads valid some =
    let ready = readies_some fresh old read.settings.cluster loads.ready loads.readies valid some in
    omega (arith, loads.loads.namenodes, ready)

-- the lines were loaded, and the commands run
pub ran_loaded : (a b : Outside) (given : List ℕ) (read : Parsed) (mid : Shown) (status : ℕ) → Gave a.source given b.source → Parses given read → LoadsScript a.fresh a.store read mid
    → RanCommands read.settings read.commands (stage mid a.sink) status (stage b.store b.sink) → RanSession a status b
ran_loaded a b given read mid status gave parses loads ran =
    ran_ending a b given (script_read read) mid status (loaded_run a b given read mid gave parses loads ran.later) ran.ending

-- and where they stopped, that was noted
pub notes_loaded : (a b : Outside) (given : List ℕ) (read : Parsed) (mid : Shown) (status : ℕ) (note : Note) → Gave a.source given b.source → Parses given read → LoadsScript a.fresh a.store read mid
    → Later mid b.store → status ≡ 2 → NotesStop read.settings read.commands (stage mid a.sink) status note (stage b.store b.sink) → NotesFault a note b
unfolding halts_from
notes_loaded a b given read mid status note gave parses loads later two noted =
    let run : LoadedRun a given (script_read read) mid b = loaded_run a b given read mid gave parses loads later in record {
      fault = noted.stop.fault;
      is = noted.is;
      wrote = whole_at_2 status a.sink b.sink (fault_text noted.stop.fault) noted.stop.printed two;
      halts = λ bytes state known. (halts_from a b given (script_read read) mid status run noted.stop bytes state known, refl);
    }
