-- How loaded lines join.
use Rattle.std.proofs.Common.{if◌then◌else◌, ◌≡◌, ℕ, ◌+◌, ◌<◌, Bool, true, false, List, [], ◌∷◌, ◌++◌, length, get_or, take, drop, map, Option, Some, None, refl, sym, ◌∙◌, ap, subst, append_assoc}
use Rattle.std.specs.Str.{bytes_eq}
use Rattle.std.proofs.lemmas.List.{append-nil, take-append-drop, at_drop_more}
use Rattle.hdfs_cluster.specs.declared.store.Line.{Line}
use Rattle.hdfs_cluster.specs.declared.store.Line.TheVariants as lines
use Rattle.hdfs_cluster.specs.Files.{Files, State, Content, Node, Dir, File, Writing}
use Rattle.hdfs_cluster.specs.Stores.{Agrees}
use Rattle.hdfs_cluster.specs.Loading.{AreLoaded, IsDecided, Loads, LoadsLine, Prepares, SameShown, takes, with_line, with_lines, with_loaded}
use Rattle.hdfs_cluster.specs.Shown.{Loaded, Shown}
use Rattle.hdfs_cluster.specs.declared.mem_settings.MemSettings.{MemSettings}
use Rattle.hdfs_cluster.specs.Fitting.{Fits}
use Rattle.hdfs_model.specs.Sessions.{defaults_of}
use Rattle.hdfs_cluster.specs.Picture.{Picture, Told}
use Rattle.hdfs_cluster.proofs.Frames.{same_counts_trans}
use Rattle.hdfs_cluster.proofs.Loads.{fits_line}
use Rattle.hdfs_script.specs.declared.entry.NumberedLine.{NumberedLine}
use Rattle.hdfs_script.specs.declared.entry.Parsed.{Parsed}
use Rattle.hdfs_script.specs.Scripts.{is_fault}
use Rattle.hdfs_script.specs.Parsing.{first_file, first_untaken, or_else, plain_lines}
use Rattle.hdfs_script.proofs.HalfLemmas.{loaded_none, second_none, untaken_held}
use Rattle.hdfs_top.specs.Top.{IsClosed}
use Rattle.hdfs_top.specs.Inside.{IsBare, LoadsAll, LoadsScript, Readies, RefusesScript}
use Rattle.hdfs_top.proofs.ReadyLemmas.{bare_lines, readies_fits, ready_loaded}

-- the lines leave all files closed
written_not : (test : Bool) (here : Node) (old : Option Node) (content : Content) → (here ≡ Writing content → ⊥) → (old ≡ Some (Writing content) → ⊥) → (if test then Some here else old) ≡ Some (Writing content) → ⊥
written_not true here old content other closed is = other (cc (is))
written_not false here old content other closed is = closed is

closed_line : (state : State) (line : Line) → IsClosed state → IsClosed (with_line state line)
closed_line state (lines.Fault fault) closed = closed
closed_line state (lines.Short path block node len) closed = closed
closed_line state (lines.Dir path) closed = record {
  opened = closed.opened;
  written = λ q content is. written_not (bytes_eq path q) Dir (state.files q) content (λ same. absurd (cc (same))) (closed.written q content) is;
}
closed_line state (lines.File path attributes bytes) closed = record {
  opened = closed.opened;
  written = λ q content is. written_not (bytes_eq path q) (File (record { bytes = bytes; attributes = attributes })) (state.files q) content (λ same. absurd (cc (same))) (closed.written q content) is;
}

pub closed_lines : (state : State) (lines : List Line) → IsClosed state → IsClosed (with_lines state lines)
closed_lines state [] closed = closed
closed_lines state (line ∷ rest) closed = closed_lines (with_line state line) rest (closed_line state line closed)

pub with_lines-push : (state : State) (done : List Line) (line : Line) → with_lines state (done ++ line ∷ []) ≡ with_line (with_lines state done) line
with_lines-push state [] line = refl
with_lines-push state (first ∷ done) line = with_lines-push (with_line state first) done line

-- the lines of a list that is one longer
pub plain-push : (done : List NumberedLine) (numbered : NumberedLine) → plain_lines (done ++ numbered ∷ []) ≡ plain_lines done ++ numbered.line ∷ []
plain-push [] numbered = refl
plain-push (first ∷ done) numbered = ap (λ t. first.line ∷ t) (plain-push done numbered)

-- what was loaded, and lines more
abbrev behind : Loaded → List NumberedLine → Loaded
behind loaded [] = loaded
behind loaded (numbered ∷ rest) = behind (with_loaded loaded numbered.line) rest

same_loaded : (a b : Loaded) → b.settings ≡ a.settings → b.lines ≡ a.lines → b ≡ a
same_loaded a b settings lines =
    ap (λ (s : Option MemSettings). record { settings = s; lines = b.lines }) settings ∙ ap (λ (l : List Line). record { settings = a.settings; lines = l }) lines

-- what was loaded, where lines were
behind_is : (a b : Loaded) (done : List NumberedLine) → b.settings ≡ a.settings → b.lines ≡ a.lines ++ plain_lines done → b ≡ behind a done
behind_is a b [] settings lines = same_loaded a b settings (lines ∙ append-nil a.lines)
behind_is a b (first ∷ done) settings lines =
    behind_is (with_loaded a first.line) b done settings (lines ∙ sym (append_assoc a.lines (first.line ∷ []) (plain_lines done)))

-- where some lines are taken, those behind them decide
untaken-append : (loaded : Loaded) (state : State) (done rest : List NumberedLine) → first_untaken true loaded state done ≡ None
    → first_untaken true loaded state (done ++ rest) ≡ first_untaken true (behind loaded done) (with_lines state (plain_lines done)) rest
untaken-append loaded state [] rest taken = refl
untaken-append loaded state (first ∷ done) rest taken =
    by_taken (takes loaded state.files first.line) (untaken-append (with_loaded loaded first.line) (with_line state first.line) done rest) taken
  where
    by_taken : (here : Bool) {a b c : Option ℕ} → (a ≡ None → b ≡ c) → (if here then a else Some first.number) ≡ None → (if here then b else Some first.number) ≡ c
    by_taken true there taken = there taken
    by_taken false there taken = absurd (cc)

-- the line behind some that are taken decides
untaken-next : (loaded now : Loaded) (state : State) (done rest : List NumberedLine) (numbered : NumberedLine) (here : Bool) → now ≡ behind loaded done → first_untaken true loaded state done ≡ None
    → takes now (with_lines state (plain_lines done)).files numbered.line ≡ here
    → first_untaken true loaded state (done ++ numbered ∷ rest)
    ≡ (if here then first_untaken true (with_loaded now numbered.line) (with_line (with_lines state (plain_lines done)) numbered.line) rest else Some numbered.number)
untaken-next loaded now state done rest numbered here so_far taken is =
    untaken-append loaded state done (numbered ∷ rest) taken
    ∙ ap (λ (l : Loaded). first_untaken true l (with_lines state (plain_lines done)) (numbered ∷ rest)) (sym so_far)
    ∙ ap (λ (b : Bool). if b then first_untaken true (with_loaded now numbered.line) (with_line (with_lines state (plain_lines done)) numbered.line) rest else Some numbered.number) is

-- over files that lie as they were loaded each line is decided
decided : (shown : Shown) (files : Files) (line : Line) → AreLoaded shown files → IsDecided shown files line
decided shown files (lines.Dir path) loaded = tt
decided shown files (lines.File path attributes bytes) loaded = tt
decided shown files (lines.Short path block node len) loaded = loaded
decided shown files (lines.Fault fault) loaded = tt

-- a store that fits a state fits it with the line, once that is loaded
fits_loaded : (b c : Shown) (state : State) (line : Line) → Fits b state → (IsDecided b state.files line → takes b.loaded state.files line ≡ true) → Loads b line c → Fits c (with_line state line)
fits_loaded b c state (lines.Dir path) fits taken loads = fits_line b c state (lines.Dir path) fits (taken tt) loads
fits_loaded b c state (lines.File path attributes bytes) fits taken loads = fits_line b c state (lines.File path attributes bytes) fits (taken tt) loads
fits_loaded b c state (lines.Short path block node len) fits taken loads = record { is_state = fits.is_state; agrees = loads.files state fits.agrees }
fits_loaded b c state (lines.Fault fault) fits taken loads = fits_line b c state (lines.Fault fault) fits (taken tt) loads

-- a line leaves the defaults
defaults_line : (a b : Option Picture) (line : Line) → Told (LoadsLine line) a b → defaults_of b ≡ defaults_of a
defaults_line None None line told = refl
defaults_line (Some p) (Some q) (lines.Dir path) told = told.defaults
defaults_line (Some p) (Some q) (lines.File path attributes bytes) told = told.defaults
defaults_line (Some p) (Some q) (lines.Short path block node len) told = told.only.records.defaults
defaults_line (Some p) (Some q) (lines.Fault fault) told = told.rest.files.defaults
defaults_line None (Some q) line told = absurd told
defaults_line (Some p) None line told = absurd told

-- one line more
pub loads_more : (a b c : Shown) (done : List NumberedLine) (numbered : NumberedLine) → LoadsAll a done b → Loads b numbered.line c
    → ((state : State) → Agrees b.picture state.files → IsDecided b state.files numbered.line → takes b.loaded state.files numbered.line ≡ true) → LoadsAll a (done ++ numbered ∷ []) c
loads_more a b c done numbered p loads takes_it =
    let next : (state : State) → with_lines state (plain_lines (done ++ numbered ∷ [])) ≡ with_line (with_lines state (plain_lines done)) numbered.line = λ state.
    ap (with_lines state) (plain-push done numbered) ∙ with_lines-push state (plain_lines done) numbered.line in
    record {
      namenodes = loads.rest.namenodes ∙ p.namenodes;
      counts = same_counts_trans a.counts b.counts c.counts p.counts loads.rest.counts;
      defaults = defaults_line b.picture c.picture numbered.line loads.picture ∙ p.defaults;
      settings = loads.settings ∙ p.settings;
      loaded = loads.lines ∙ ap (λ t. t ++ numbered.line ∷ []) p.loaded ∙ append_assoc a.loaded.lines (plain_lines done) (numbered.line ∷ []) ∙ ap (λ t. a.loaded.lines ++ t) (sym (plain-push done numbered));
      taken = λ state fits are.
          untaken-next a.loaded b.loaded state done [] numbered true (behind_is a.loaded b.loaded done p.settings p.loaded) (p.taken state fits are)
          (takes_it (with_lines state (plain_lines done)) (p.fits state fits).agrees (decided b (with_lines state (plain_lines done)).files numbered.line (p.replicas state fits are)));
      fits = λ state fits.
          subst (λ (s : State). Fits c s) (sym (next state))
          (fits_loaded b c (with_lines state (plain_lines done)) numbered.line (p.fits state fits) (takes_it (with_lines state (plain_lines done)) (p.fits state fits).agrees) loads);
      replicas = λ state fits are.
          subst (λ (s : State). AreLoaded c s.files) (sym (next state))
          (loads.replicas (with_lines state (plain_lines done)) (p.fits state fits).agrees (p.replicas state fits are));
    }

-- the lines so far, this one and the rest
pub whole_at : {X : Type 0} (all done : List X) (x : X) → map (λ y. y) done ≡ take (length done) all → (length done < length all) × (x ≡ get_or all (length done) x) → all ≡ done ++ x ∷ drop (length done + 1) all
whole_at all done x front turn =
    sym (take-append-drop (length done) all) ∙ ap (λ t. t ++ drop (length done) all) (sym front ∙ map_same done) ∙ ap (λ t. done ++ t) (at_drop_more (λ t. t) all (length done) x turn.0 ∙ ap (λ y. y ∷ drop (length done + 1) all) (sym turn.1))
  where
    map_same : {X : Type 0} (xs : List X) → map (λ y. y) xs ≡ xs
    map_same [] = refl
    map_same (y ∷ ys) = ap (λ t. y ∷ t) (map_same ys)

-- a line is refused
pub untaken_at : (a b : Shown) (all done : List NumberedLine) (numbered : NumberedLine) (rest : List NumberedLine) (state : State) → all ≡ done ++ numbered ∷ rest → LoadsAll a done b → Fits a state → AreLoaded a state.files
    → ((state : State) → Agrees b.picture state.files → IsDecided b state.files numbered.line → takes b.loaded state.files numbered.line ≡ false) → first_untaken true a.loaded state all ≡ Some numbered.number
untaken_at a b all done numbered rest state whole p fits are refused =
    let now = with_lines state (plain_lines done) in
    ap (first_untaken true a.loaded state) whole
    ∙ untaken-next a.loaded b.loaded state done rest numbered false (behind_is a.loaded b.loaded done p.settings p.loaded) (p.taken state fits are)
    (refused now (p.fits state fits).agrees (decided b now.files numbered.line (p.replicas state fits are)))

-- of lines that all plan faults each does
fault_at : (done rest : List NumberedLine) (numbered : NumberedLine) → first_file (done ++ numbered ∷ rest) ≡ None → is_fault numbered.line ≡ true
fault_at [] rest numbered none = by_test (is_fault numbered.line) none
  where
    by_test : (b : Bool) → (if b then first_file rest else Some numbered.number) ≡ None → b ≡ true
    by_test true none = refl
    by_test false none = absurd (cc)
fault_at (first ∷ done) rest numbered none = by_test (is_fault first.line) (fault_at done rest numbered) none
  where
    by_test : (b : Bool) → (first_file (done ++ numbered ∷ rest) ≡ None → is_fault numbered.line ≡ true) → (if b then first_file (done ++ numbered ∷ rest) else Some first.number) ≡ None → is_fault numbered.line ≡ true
    by_test true there none = there none
    by_test false there none = absurd (cc)

-- no store refuses a fault
taken_fault : (b : Shown) (files : Files) (line : Line) → is_fault line ≡ true → (IsDecided b files line → takes b.loaded files line ≡ false) → ⊥
taken_fault b files (lines.Dir path) is refused = cc (is)
taken_fault b files (lines.File path attributes bytes) is refused = cc (is)
taken_fault b files (lines.Short path block node len) is refused = cc (is)
taken_fault b files (lines.Fault fault) is refused = let no = refused tt in cc (no)

-- a line that is refused is no fault
pub faults_at : (a b : Shown) (all done : List NumberedLine) (numbered : NumberedLine) (rest : List NumberedLine) (state : State) → all ≡ done ++ numbered ∷ rest → LoadsAll a done b → Fits a state → first_file all ≡ None
    → ((state : State) → Agrees b.picture state.files → IsDecided b state.files numbered.line → takes b.loaded state.files numbered.line ≡ false) → ⊥
faults_at a b all done numbered rest state whole p fits none refused =
    let now = with_lines state (plain_lines done) in
    taken_fault b now.files numbered.line (fault_at done rest numbered (ap first_file (sym whole) ∙ none)) (refused now (p.fits state fits).agrees)

first_none : (first second : Option ℕ) → or_else first second ≡ None → first ≡ None
first_none None second none = refl
first_none (Some number) second none = absurd (cc)

-- What was read of a script, and what a store refuses of it before a line is loaded: nothing where it is fresh.
pub record Unloaded (is_fresh : Bool) (read : Parsed) (unloaded : Option ℕ) : Type 0 where
  pub fresh : is_fresh ≡ true → unloaded ≡ None
  pub held : is_fresh ≡ false → unloaded ≡ or_else read.sets (or_else (first_file read.lines) read.bad)

-- what is loaded before the first line of a script that was read is what its settings make of a fresh store
module _ (old ready : Shown) (read : Parsed) (bare : IsBare old) (readies : Prepares old read.settings.cluster ready) (state : State) (fits : Fits old state) where
  loaded_ready : ready.loaded ≡ record { settings = Some read.settings.cluster; lines = [] }
  loaded_ready = readies.loaded ∙ ap (λ (l : List Line). record { settings = Some read.settings.cluster; lines = l }) (bare_lines old bare state fits)

  -- no line is refused
  pub none_fresh : (new : Shown) → LoadsAll ready read.lines new → first_untaken true (record { settings = Some read.settings.cluster; lines = [] }) state read.lines ≡ None
  none_fresh new loads =
      ap (λ (l : Loaded). first_untaken true l state read.lines) (sym loaded_ready)
      ∙ loads.taken state (readies_fits true old read.settings.cluster ready readies state fits) (ready_loaded old read.settings.cluster ready readies bare state fits)

  -- a line is refused
  pub some_fresh : (number : ℕ) → ((state : State) → Fits ready state → AreLoaded ready state.files → first_untaken true ready.loaded state read.lines ≡ Some number)
      → first_untaken true (record { settings = Some read.settings.cluster; lines = [] }) state read.lines ≡ Some number
  some_fresh number untaken =
      ap (λ (l : Loaded). first_untaken true l state read.lines) (sym loaded_ready)
      ∙ untaken state (readies_fits true old read.settings.cluster ready readies state fits) (ready_loaded old read.settings.cluster ready readies bare state fits)

-- the lines of a script were loaded, and none is bad
pub loads_script : (fresh : Bool) (old ready new : Shown) (read : Parsed) (unloaded : Option ℕ) → Unloaded fresh read unloaded → unloaded ≡ None → read.bad ≡ None → (fresh ≡ true → IsBare old)
    → Readies fresh old read.settings.cluster ready → LoadsAll ready read.lines new → LoadsScript fresh old read new
loads_script true old ready new read unloaded first passed none bare readies loads =
    record { ready = ready; readies = readies; loads = loads; none = λ state fits. rw (none_fresh old ready read (bare refl) readies state fits new loads) none }
loads_script false old ready new read unloaded first passed none bare readies loads =
    record { ready = ready; readies = readies; loads = loads; none = λ state fits. rw (untaken_held (loaded_none read) state read.lines) (sym (first.held refl) ∙ passed) }

-- a store that isn't fresh refuses a script before a line is loaded
pub refuses_unloaded : (fresh : Bool) (old : Shown) (read : Parsed) (unloaded : Option ℕ) (number : ℕ) → Unloaded fresh read unloaded → unloaded ≡ Some number → SameShown old old → RefusesScript fresh old read number old
refuses_unloaded true old read unloaded number first is same = absurd (let none = first.fresh refl in cc (none, is))
refuses_unloaded false old read unloaded number first is same =
    record { first = λ state fits. rw (untaken_held (loaded_none read) state read.lines) (sym (first.held refl) ∙ is); same = λ state fits _. same }

-- of a store that isn't fresh, and hasn't refused anything: all lines plan faults, and none is bad
held_none : (read : Parsed) (unloaded : Option ℕ) → Unloaded false read unloaded → unloaded ≡ None → (first_file read.lines ≡ None) × (read.bad ≡ None)
held_none read unloaded first passed =
    let rest = second_none read.sets (or_else (first_file read.lines) read.bad) (sym (first.held refl) ∙ passed) in
    (first_none (first_file read.lines) read.bad rest, second_none (first_file read.lines) read.bad rest)

-- a line wasn't taken; over a store that isn't fresh each one is
pub refuses_untaken : (fresh : Bool) (old ready new : Shown) (read : Parsed) (unloaded : Option ℕ) (number : ℕ) → Unloaded fresh read unloaded → unloaded ≡ None → (fresh ≡ true → IsBare old) → Readies fresh old read.settings.cluster ready
    → ((state : State) → Fits ready state → AreLoaded ready state.files → first_untaken true ready.loaded state read.lines ≡ Some number) → ((state : State) → Fits ready state → first_file read.lines ≡ None → ⊥)
    → RefusesScript fresh old read number new
refuses_untaken true old ready new read unloaded number first passed bare readies untaken faults =
    record { first = λ state fits. rw (some_fresh old ready read (bare refl) readies state fits number untaken) refl; same = λ state fits no. absurd (cc (no)) }
refuses_untaken false old ready new read unloaded number first passed bare readies untaken faults =
    let never : (state : State) → Fits old state → ⊥ = λ state fits.
    faults state (readies_fits false old read.settings.cluster ready readies state fits) (held_none read unloaded first passed).0 in
    record { first = λ state fits. absurd (never state fits); same = λ state fits _. absurd (never state fits) }

-- the lines were taken up to one that is bad by its text or its place
pub refuses_bad : (fresh : Bool) (old ready new : Shown) (read : Parsed) (unloaded : Option ℕ) (number : ℕ) → Unloaded fresh read unloaded → unloaded ≡ None → read.bad ≡ Some number → (fresh ≡ true → IsBare old)
    → Readies fresh old read.settings.cluster ready → LoadsAll ready read.lines new → RefusesScript fresh old read number new
refuses_bad true old ready new read unloaded number first passed is bare readies loads =
    record { first = λ state fits. rw (none_fresh old ready read (bare refl) readies state fits new loads) is; same = λ state fits no. absurd (cc (no)) }
refuses_bad false old ready new read unloaded number first passed is bare readies loads =
    let none = (held_none read unloaded first passed).1 in
    absurd (cc (none, is))
