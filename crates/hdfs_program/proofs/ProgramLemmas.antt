-- The program over a new cluster.
use Rattle.std.proofs.Common.{sym, ◌≡◌, ◌∙◌, ap, refl, subst, inl, inr, ⊎_elim, ◌⊎◌, zero, suc, ℕ, ◌≤◌, Bool, true, false, if◌then◌else◌, List, [], ◌∷◌, ◌++◌, Some, None, arith}
use Rattle.std.specs.List.{list_any}
use Rattle.std.specs.Str.{bytes_eq}
use Rattle.hdfs_model.specs.declared.commands.Fault.{Fault}
use Rattle.hdfs_cluster.specs.declared.store.Line.{Line}
use Rattle.hdfs_cluster.specs.declared.store.Line.TheVariants as lines
use Rattle.hdfs_cluster.specs.Counts.{FaultCounts, NoneRose}
use Rattle.hdfs_cluster.specs.Files.{Content, Dir, Writing, empty_state}
use Rattle.hdfs_model.specs.Folds.{Folded, Ends, Stops, fold}
use Rattle.hdfs_cluster.specs.Loading.{with_lines}
use Rattle.hdfs_names.specs.Paths.{root}
use Rattle.hdfs_cluster.specs.Shown.{Shown}
use Rattle.hdfs_cluster.specs.Fitting.{Fits}
use Rattle.hdfs_cluster.specs.declared.mem_settings.MemSettings.{MemSettings}
use Rattle.hdfs_mem_cluster.specs.declared.mem_cluster.MemCluster.{MemCluster}
use Rattle.hdfs_mem_cluster.specs.MemShown.{shown_of}
use Rattle.hdfs_mem_cluster.proofs.Counting.{links_planned, nodes_planned}
use Rattle.hdfs_mem_cluster.proofs.Failing.{calls_planned}
use Rattle.hdfs_mem_cluster.specs.Starting.{Starts}
use Rattle.hdfs_mem_faults.specs.Series.{is_fault as is_fault_line, link_fault_count, node_fault_count}
use Rattle.hdfs_script.specs.Scripts.{Script, is_fault}
use Rattle.hdfs_script.specs.Texts.{fault_text}
use Rattle.hdfs_streams.specs.Streams.{SourceShown, SinkShown, Wrote}
use Rattle.hdfs_top.specs.declared.note.Note.{Note}
use Rattle.hdfs_top.specs.Notes.{TellsStop, stop_of}
use Rattle.hdfs_top.specs.Top.{IsClosed, IsKnown, IsSession, Loaded, NoneFailed, NotesFault, RanProgram, StatusOf, outside}
use Rattle.hdfs_program.specs.Program.{Streams, memory_world, IsUnfailed, IsNew, IsFaultless, FailsAsPlanned, RanStore, PrintsRefusal, PrintsReplies, PrintsFault, NotesPrinted, FaultlessDecides}

-- below the root alone no file is being written
not_written : (test : Bool) (content : Content) → (if test then Some Dir else None) ≡ Some (Writing content) → ⊥
not_written true content is = cc
not_written false content is = cc

closed_empty : IsClosed empty_state
closed_empty = record { opened = λ path. refl; written = λ path content is. not_written (bytes_eq root path) content is }

-- a source that tells its bytes, and a new store, are known
pub known_new : (source : SourceShown) (sink : SinkShown) (old : Shown) (bytes : List ℕ) → source.left ≡ Some bytes → IsNew old → IsKnown (outside source sink old true) bytes empty_state
known_new source sink old bytes told new = record { told = told; fits = new.fits; closed = closed_empty }

-- a cluster in memory fails only where a fault was loaded for it
pub planned_faults : (m : MemCluster) → FailsAsPlanned (shown_of m)
planned_faults m = record { calls = calls_planned m; links = links_planned m; nodes = nodes_planned m }

-- a cluster that was made for a script
pub new_from-Starts : (settings : MemSettings) (store : Shown) → Starts settings store → Fits store empty_state → IsNew store
new_from-Starts settings store starts fits = record {
  fits = fits;
  no_line = ap (λ l. l.lines) starts.no_line;
  unfailed = record { calls = starts.calls; links = starts.links; nodes = starts.nodes };
}

-- the program ran over it
pub ran_store : (words : List (List ℕ)) (a : Streams) (status : ℕ) (b : Streams) (old new : Shown) (fresh fresh' : Bool) → IsNew old → fresh ≡ true → FailsAsPlanned new → RanProgram words (outside a.source a.sink old fresh) status (outside b.source b.sink new fresh') → RanStore words a status b
ran_store words a status b old new fresh fresh' is_new is planned ran = record {
  old = old;
  new = new;
  fresh = fresh';
  is_new = is_new;
  planned = planned;
  ran = subst (λ (f : Bool). RanProgram words (outside a.source a.sink old f) status (outside b.source b.sink new fresh')) is ran;
}

-- the script is refused
pub refused_new : (words : List (List ℕ)) (a : Streams) (status : ℕ) (b : Streams) (bytes : List ℕ) → RanStore words a status b → status ≡ 1 → IsSession words → a.source.left ≡ Some bytes → PrintsRefusal bytes a.sink b.sink
refused_new words a status b bytes run one is told =
    let refused = run.ran.no_script one is bytes empty_state (known_new a.source a.sink run.old bytes told run.is_new) in
    record { line = refused.0; is = refused.1; wrote = refused.2 }

-- the session came to its end
pub replies_new : (words : List (List ℕ)) (a : Streams) (status : ℕ) (b : Streams) (bytes : List ℕ) → RanStore words a status b → status ≡ 0 → a.source.left ≡ Some bytes → PrintsReplies bytes a.sink b.sink
replies_new words a status b bytes run is_zero told =
    let done = run.ran.done is_zero bytes empty_state (known_new a.source a.sink run.old bytes told run.is_new) in
    let finishes = done.1 in record {
      parsed = finishes.parsed;
      is = finishes.loaded.is;
      replies = finishes.replies;
      last = finishes.last;
      folds = finishes.folds;
      wrote = subst (λ (t : List ℕ). Wrote a.sink t b.sink) finishes.is_text done.2;
    }

-- a new store has loaded what was loaded into it
lines_new : (old new : Shown) (parsed : Script) → IsNew old → new.loaded.lines ≡ old.loaded.lines ++ parsed.lines → new.loaded.lines ≡ parsed.lines
lines_new old new parsed is_new lines = lines ∙ ap (λ ls. ls ++ parsed.lines) is_new.no_line

-- the session stopped
pub fault_new : (words : List (List ℕ)) (a : Streams) (status : ℕ) (b : Streams) (bytes : List ℕ) → RanStore words a status b → status ≡ 2 → a.source.left ≡ Some bytes → PrintsFault bytes a.sink b.sink
fault_new words a status b bytes run two told =
    let stopped = run.ran.stopped two bytes empty_state (known_new a.source a.sink run.old bytes told run.is_new) in
    let halts = stopped.1 in record {
      parsed = halts.parsed;
      is = halts.loaded.is;
      fault = halts.fault;
      other = halts.other;
      old = run.old;
      new = run.new;
      is_new = run.is_new;
      lines = lines_new run.old run.new halts.parsed run.is_new halts.loaded.lines;
      planned = run.planned;
      stopped = halts.stopped;
      wrote = subst (λ (t : List ℕ). Wrote a.sink t b.sink) halts.is_text stopped.2;
    }

-- and that was noted
notes_known : (source source' : SourceShown) (sink sink' : SinkShown) (old new : Shown) (fresh' : Bool) (bytes : List ℕ) (note : Note) → IsNew old → FailsAsPlanned new → source.left ≡ Some bytes → NotesFault (outside source sink old true) note (outside source' sink' new fresh') → NotesPrinted bytes sink note sink'
notes_known source source' sink sink' old new fresh' bytes note is_new planned told noted =
    let halts = noted.halts bytes empty_state (known_new source sink old bytes told is_new) in
    let halted = halts.0 in record {
      printed = record {
        parsed = halted.parsed;
        is = halted.loaded.is;
        fault = halted.fault;
        other = halted.other;
        old = old;
        new = new;
        is_new = is_new;
        lines = lines_new old new halted.parsed is_new halted.loaded.lines;
        planned = planned;
        stopped = halted.stopped;
        wrote = subst (λ (f : Fault). Wrote sink (fault_text f) sink') (sym halts.1) noted.wrote;
      };
      is = subst (λ (f : Fault). TellsStop note f.at f.error) (sym halts.1) noted.is;
    }

pub notes_new : (source source' : SourceShown) (sink sink' : SinkShown) (old new : Shown) (fresh fresh' : Bool) (bytes : List ℕ) (note : Note) → IsNew old → FailsAsPlanned new → fresh ≡ true → source.left ≡ Some bytes → NotesFault (outside source sink old fresh) note (outside source' sink' new fresh') → NotesPrinted bytes sink note sink'
notes_new source source' sink sink' old new fresh fresh' bytes note is_new planned is told noted =
    notes_known source source' sink sink' old new fresh' bytes note is_new planned told
    (subst (λ (f : Bool). NotesFault (outside source sink old f) note (outside source' sink' new fresh')) is noted)

-- what else is told of it changes nothing of that
pub notes_more : (bytes : List ℕ) (before after : SinkShown) (note more : Note) → stop_of more ≡ stop_of note → NotesPrinted bytes before note after → NotesPrinted bytes before more after
notes_more bytes before after note more same noted = record { printed = noted.printed; is = same ∙ noted.is }

-- where no line plans a fault none is counted
node_fault_of_none : (d : List ℕ) (rest : List Line) → list_any is_fault rest ≡ false → node_fault_count rest d ≡ 0
node_fault_of_none d [] none = refl
node_fault_of_none d (lines.Fault fault ∷ rest) none = absurd (cc)
node_fault_of_none d (lines.Dir path ∷ rest) none = node_fault_of_none d rest none
node_fault_of_none d (lines.File path attributes bytes ∷ rest) none = node_fault_of_none d rest none
node_fault_of_none d (lines.Short path block node len ∷ rest) none = node_fault_of_none d rest none

no_fault : (rest : List Line) → list_any is_fault rest ≡ false → list_any is_fault_line rest ≡ false
no_fault [] none = refl
no_fault (lines.Fault fault ∷ rest) none = absurd (cc)
no_fault (lines.Dir path ∷ rest) none = no_fault rest none
no_fault (lines.File path attributes bytes ∷ rest) none = no_fault rest none
no_fault (lines.Short path block node len ∷ rest) none = no_fault rest none

link_fault_of_none : (rest : List Line) → list_any is_fault rest ≡ false → link_fault_count rest ≡ 0
link_fault_of_none [] none = refl
link_fault_of_none (lines.Fault fault ∷ rest) none = absurd (cc)
link_fault_of_none (lines.Dir path ∷ rest) none = link_fault_of_none rest none
link_fault_of_none (lines.File path attributes bytes ∷ rest) none = link_fault_of_none rest none
link_fault_of_none (lines.Short path block node len ∷ rest) none = link_fault_of_none rest none

unfailed_since : (n : ℕ) (old new : FaultCounts) → IsUnfailed old → IsUnfailed new → NoneRose n old new
unfailed_since n old new before after = record {
  calls = λ i below rose. omega (arith, rose, before.calls i, after.calls i);
  links = λ rose. omega (arith, rose, before.links, after.links);
  nodes = λ d rose. omega (arith, rose, before.nodes d, after.nodes d);
}

any_memory : (r : Folded) (status : ℕ) → status ≡ 3 → StatusOf r status
any_memory (Ends replies last) status three = inr three
any_memory (Stops replies last why) status three = inr three

-- the lines that were loaded plan no fault, so none is counted
unfailed_new : (old new : Shown) (parsed : Script) → IsNew old → FailsAsPlanned new → new.loaded.lines ≡ old.loaded.lines ++ parsed.lines → IsFaultless parsed → IsUnfailed new.counts
unfailed_new old new parsed is_new planned lines faultless =
    let loaded = lines_new old new parsed is_new lines in
    record {
      calls = λ i. planned.calls i (ap (list_any is_fault_line) loaded ∙ no_fault parsed.lines faultless);
      links = omega (arith, planned.links, ap link_fault_count loaded, link_fault_of_none parsed.lines faultless);
      nodes = λ d.
          omega (arith, planned.nodes d, ap (λ ls. node_fault_count ls d) loaded, node_fault_of_none d parsed.lines faultless, ap link_fault_count loaded, link_fault_of_none parsed.lines faultless);
    }

-- where the lines were loaded, the script decides
decides_loaded : (words : List (List ℕ)) (a : Streams) (status : ℕ) (b : Streams) (bytes : List ℕ) (run : RanStore words a status b) → IsSession words → a.source.left ≡ Some bytes → (known : Script) → Loaded (outside a.source a.sink run.old true) bytes empty_state known (outside b.source b.sink run.new run.fresh) → FaultlessDecides bytes a status b
decides_loaded words a status b bytes run is told known loaded parsed found faultless limited no_read no_write =
    let here = loaded.is in
    let same : known ≡ parsed = cc (here, found) in
    let lines : run.new.loaded.lines ≡ run.old.loaded.lines ++ parsed.lines = loaded.lines ∙ ap (λ s. run.old.loaded.lines ++ s.lines) same in
    let none : NoneFailed (outside a.source a.sink run.old true) (outside b.source b.sink run.new run.fresh) = record {
      reads = no_read;
      writes = no_write;
      calls = unfailed_since run.new.namenodes run.old.counts run.new.counts run.is_new.unfailed (unfailed_new run.old run.new parsed run.is_new run.planned lines faultless);
    } in
    run.ran.complete is bytes empty_state parsed (known_new a.source a.sink run.old bytes told run.is_new) found limited none

six : (n : ℕ) → n ≤ 5 → (n ≡ 0) ⊎ (n ≡ 1) ⊎ (n ≡ 2) ⊎ (n ≡ 3) ⊎ (n ≡ 4) ⊎ (n ≡ 5)
six zero h = inl refl
six (suc zero) h = inr (inl refl)
six (suc (suc zero)) h = inr (inr (inl refl))
six (suc (suc (suc zero))) h = inr (inr (inr (inl refl)))
six (suc (suc (suc (suc zero)))) h = inr (inr (inr (inr (inl refl))))
six (suc (suc (suc (suc (suc zero))))) h = inr (inr (inr (inr (inr refl))))
six (suc (suc (suc (suc (suc (suc n)))))) h = absurd (omega (arith, h))

-- a script without a fault line ends as the fold says
pub decides_new : (words : List (List ℕ)) (a : Streams) (status : ℕ) (b : Streams) (bytes : List ℕ) → RanStore words a status b → IsSession words → a.source.left ≡ Some bytes → FaultlessDecides bytes a status b
decides_new words a status b bytes run is told parsed found faultless limited no_read no_write =
    let known = known_new a.source a.sink run.old bytes told run.is_new in
    ⊎_elim
    (λ is_zero. decides_loaded words a status b bytes run is told (run.ran.done is_zero bytes empty_state known).1.parsed (run.ran.done is_zero bytes empty_state known).1.loaded parsed found faultless limited no_read no_write)
    (⊎_elim
    (λ one. let no = (run.ran.no_script one is bytes empty_state known).1 in absurd (cc (no, found)))
    (⊎_elim
    (λ two. decides_loaded words a status b bytes run is told (run.ran.stopped two bytes empty_state known).1.parsed (run.ran.stopped two bytes empty_state known).1.loaded parsed found faultless limited no_read no_write)
    (⊎_elim
    (λ three. any_memory (fold (memory_world parsed) (with_lines empty_state parsed.lines) parsed.commands) status three)
    (⊎_elim
    (λ four. absurd (no_read (run.ran.source four).rose))
    (λ five. absurd (no_write (run.ran.sink five)))))))
    (six status run.ran.statuses)

-- there was no memory for a store
pub starved_decides : (a : Streams) (status : ℕ) (b : Streams) (bytes : List ℕ) → status ≡ 3 → FaultlessDecides bytes a status b
starved_decides a status b bytes three parsed found faultless limited no_read no_write = any_memory (fold (memory_world parsed) (with_lines empty_state parsed.lines) parsed.commands) status three
