-- A run of the program, a lemma a status.
use Rattle.std.proofs.Common.{inl, inr, ◌≡◌, ℕ, ◌+◌, List, [], Ok, sym, subst, arith}
use Rattle.hdfs_cluster.specs.Counts.{NeverFall}
use Rattle.hdfs_cluster.specs.Files.{State}
use Rattle.hdfs_model.specs.Folds.{Folded, Ends, Stops, fold}
use Rattle.hdfs_cluster.specs.Loading.{with_lines}
use Rattle.hdfs_script.specs.Scripts.{Script, script, script_limit}
use Rattle.hdfs_script.specs.Texts.{refusal_text}
use Rattle.hdfs_streams.specs.Streams.{TookAtMost}
use Rattle.hdfs_top.specs.Top.{IsSession, Outside, IsKnown, Finishes, Halts, IsText, RefusedScript, RefusedWords, StatusOf, ScriptDecides, RanProgram, world_over}
use Rattle.hdfs_top.specs.Inside.{PrintsWhole, PrintsPart}

-- what holds of a run whatever its status
pub record Kept (words : List (List ℕ)) (a : Outside) (status : ℕ) (b : Outside) : Type 0 where
  pub counts : NeverFall a.store.counts b.store.counts
  pub read : TookAtMost (script_limit + 1) a.source b.source
  pub other : (IsSession words → ⊥) → RefusedWords a status b

done_from-Finishes : (a b : Outside) (bytes : List ℕ) (state : State) (parsed : Script) (text : List ℕ) (status : ℕ) → status ≡ 0 → Finishes a bytes state text b → script a.fresh state bytes ≡ Ok parsed → StatusOf (fold (world_over a parsed) (with_lines state parsed.lines) parsed.commands) status
done_from-Finishes a b bytes state parsed text status zero f found =
    let found_there = f.loaded.is in
    let same : f.parsed ≡ parsed = cc (found_there, found) in
    let folds = f.folds in
    let here : StatusOf (fold (world_over a f.parsed) (with_lines state f.parsed.lines) f.parsed.commands) status = subst (λ (t : Folded). StatusOf t status) (sym folds) (inl zero) in
    subst (λ (s : Script). StatusOf (fold (world_over a s) (with_lines state s.lines) s.commands) status) same here

any_memory : (r : Folded) (status : ℕ) → status ≡ 3 → StatusOf r status
any_memory (Ends replies last) status three = inr three
any_memory (Stops replies last why) status three = inr three

-- every reply was written
pub ran_done : (words : List (List ℕ)) (a b : Outside) (text : List ℕ) (status : ℕ) → Kept words a status b → b.source.failures ≡ a.source.failures → PrintsWhole 0 a.sink text status b.sink → ((bytes : List ℕ) (state : State) → IsKnown a bytes state → Finishes a bytes state text b) → RanProgram words a status b
ran_done words a b text status kept same whole finishes = record {
  statuses = omega (arith, whole.is);
  counts = kept.counts;
  read = kept.read;
  other = kept.other;
  done = λ zero bytes state known. (text, finishes bytes state known, whole.wrote);
  refused = λ one. absurd (omega arith);
  no_script = λ one. absurd (omega arith);
  stopped = λ two. absurd (omega arith);
  memory = λ three. absurd (omega arith);
  source = λ four. absurd (omega arith);
  read_fine = λ _. same;
  sink = λ five. absurd (omega arith);
  prefix = λ five. absurd (omega arith);
  write_fine = λ _. whole.fine;
  complete = λ is bytes state parsed known found limited none. done_from-Finishes a b bytes state parsed text status whole.is (finishes bytes state known) found;
}

-- words or script are refused
pub ran_refused : (words : List (List ℕ)) (a b : Outside) (line status : ℕ) → Kept words a status b → b.source.failures ≡ a.source.failures → PrintsWhole 1 a.sink (refusal_text line) status b.sink → (IsSession words → RefusedScript a b) → RanProgram words a status b
ran_refused words a b line status kept same whole refused = record {
  statuses = omega (arith, whole.is);
  counts = kept.counts;
  read = kept.read;
  other = kept.other;
  done = λ zero. absurd (omega arith);
  refused = λ one. (line, whole.wrote);
  no_script = λ one is. refused is;
  stopped = λ two. absurd (omega arith);
  memory = λ three. absurd (omega arith);
  source = λ four. absurd (omega arith);
  read_fine = λ _. same;
  sink = λ five. absurd (omega arith);
  prefix = λ five. absurd (omega arith);
  write_fine = λ _. whole.fine;
  complete = λ is bytes state parsed known found limited none. let no = (refused is bytes state known).1 in absurd (cc (no, found));
}

-- a command failed
pub ran_stopped : (words : List (List ℕ)) (a b : Outside) (text : List ℕ) (status : ℕ) → Kept words a status b → b.source.failures ≡ a.source.failures → PrintsWhole 2 a.sink text status b.sink → ((bytes : List ℕ) (state : State) → IsKnown a bytes state → Halts a bytes state text b) → ScriptDecides a status b → RanProgram words a status b
ran_stopped words a b text status kept same whole halts decides = record {
  statuses = omega (arith, whole.is);
  counts = kept.counts;
  read = kept.read;
  other = kept.other;
  done = λ zero. absurd (omega arith);
  refused = λ one. absurd (omega arith);
  no_script = λ one. absurd (omega arith);
  stopped = λ two bytes state known. (text, halts bytes state known, whole.wrote);
  memory = λ three. absurd (omega arith);
  source = λ four. absurd (omega arith);
  read_fine = λ _. same;
  sink = λ five. absurd (omega arith);
  prefix = λ five. absurd (omega arith);
  write_fine = λ _. whole.fine;
  complete = λ is. decides;
}

-- there was no memory
pub ran_no_memory : (words : List (List ℕ)) (a b : Outside) (status : ℕ) → Kept words a status b → b.source.failures ≡ a.source.failures → PrintsWhole 3 a.sink [] status b.sink → RanProgram words a status b
ran_no_memory words a b status kept same whole = record {
  statuses = omega (arith, whole.is);
  counts = kept.counts;
  read = kept.read;
  other = kept.other;
  done = λ zero. absurd (omega arith);
  refused = λ one. absurd (omega arith);
  no_script = λ one. absurd (omega arith);
  stopped = λ two. absurd (omega arith);
  memory = λ three. whole.wrote;
  source = λ four. absurd (omega arith);
  read_fine = λ _. same;
  sink = λ five. absurd (omega arith);
  prefix = λ five. absurd (omega arith);
  write_fine = λ _. whole.fine;
  complete = λ is bytes state parsed known found limited none. any_memory (fold (world_over a parsed) (with_lines state parsed.lines) parsed.commands) status whole.is;
}

-- the sink failed
pub ran_sink_failed : (words : List (List ℕ)) (a b : Outside) (text : List ℕ) (status : ℕ) → Kept words a status b → b.source.failures ≡ a.source.failures → PrintsPart a.sink text status b.sink → (IsSession words → (bytes : List ℕ) (state : State) → IsKnown a bytes state → IsText a bytes state text b) → RanProgram words a status b
ran_sink_failed words a b text status kept same part is_text = record {
  statuses = omega (arith, part.is);
  counts = kept.counts;
  read = kept.read;
  other = kept.other;
  done = λ zero. absurd (omega arith);
  refused = λ one. absurd (omega arith);
  no_script = λ one. absurd (omega arith);
  stopped = λ two. absurd (omega arith);
  memory = λ three. absurd (omega arith);
  source = λ four. absurd (omega arith);
  read_fine = λ _. same;
  sink = λ five. part.rose;
  prefix = λ five is bytes state known. (text, is_text is bytes state known, part.part);
  write_fine = λ not. let five = part.is in absurd (not five);
  complete = λ is bytes state parsed known found limited none. let rose = part.rose in absurd (none.writes rose);
}
