-- What the asks do that change names: the one for a new directory, and the one that deletes. Each goes path by path, by `with_parents` or
-- `files_without` on both sides; a path that the session has open is none of those that change.
use Rattle.std.proofs.Common.{◌≡◌, ◌≢◌, ◌⊎◌, inl, inr, ⊎_elim, ℕ, Bool, true, false, cond, ◌&&◌, ◌||◌, List, [], ◌∷◌, Option, Some, None, is_none, unwrap_or, Ok, refl, sym, ◌∙◌, ap, subst}
use Rattle.std.proofs.lemmas.Bool.{false≢true}
use Rattle.std.proofs.lemmas.Slice.Eq.{bytes_eq-Decides}
use Rattle.std.specs.List.{list_any}
use Rattle.std.specs.Str.{bytes_eq}
use Rattle.hdfs_cluster.specs.declared.asks.Answer.{Answer}
use Rattle.hdfs_cluster.specs.declared.asks.Answer.TheVariants as answers
use Rattle.hdfs_cluster.specs.declared.asks.Ask.{Ask}
use Rattle.hdfs_cluster.specs.declared.asks.Ask.TheVariants as asks
use Rattle.hdfs_cluster.specs.declared.picture.Entry.TheVariants as entries
use Rattle.hdfs_cluster.specs.Deleting.{DeletesFrom}
use Rattle.hdfs_cluster.specs.Effects.{Changes, KeepsBytes}
use Rattle.hdfs_cluster.specs.Failures.{CallsRose}
use Rattle.hdfs_cluster.specs.Files.{Directory, IsState, Kind, Dir, State, kinds_of}
use Rattle.hdfs_cluster.specs.Listing.{IsMissing}
use Rattle.hdfs_cluster.specs.Names.{is_within}
use Rattle.hdfs_cluster.specs.Namenode.{MayBeDone, Row, StandsForAny}
use Rattle.hdfs_cluster.specs.Picture.{Picture, SameButActive, kinds}
use Rattle.hdfs_cluster.specs.Refusals.{NotEmpty, above_refusal, mkdirs_refusal, with_parents}
use Rattle.hdfs_cluster.specs.Shown.{Shown}
use Rattle.hdfs_cluster.specs.Sound.{IsSound}
use Rattle.hdfs_cluster.specs.Stores.{AgreesAt}
use Rattle.hdfs_cluster.proofs.NamesRepeating.{delete_repeats, make_repeats}
use Rattle.hdfs_model.specs.declared.commands.Command.{Command}
use Rattle.hdfs_model.specs.declared.commands.Command.TheVariants as commands
use Rattle.hdfs_model.specs.declared.commands.Reply.TheVariants as replies
use Rattle.hdfs_model.specs.Sessions.{touched}
use Rattle.hdfs_model.specs.Steps.{World, Done, files_without, is_opened, is_opened_within, step, target_of, with_directory}
use Rattle.hdfs_model.proofs.Deleted.{deletes_at, full_at, missing_agrees, missing_at, refused_above_at, without_path}
use Rattle.hdfs_model.proofs.Made.{made_agrees, makes_at, refuses_at}
use Rattle.hdfs_model.proofs.Removing.{delete_agrees, stays}
use Rattle.hdfs_names.specs.Paths.{root, ancestors, is_path}
use Rattle.hdfs_namenode.specs.Relaying.{Came, RelaysTold}
use Rattle.hdfs_namenode.proofs.Relayed.{relayed_row}
use Rattle.hdfs_file_writer.specs.Tails.{FileCarries}
use Rattle.hdfs_file_writer.specs.declared.tails.Tail.{Tail}
use Rattle.hdfs_file_writer.proofs.Others.{tail_stays}
use Rattle.hdfs_commands.proofs.Agreeing.{agrees_files}
use Rattle.hdfs_commands.proofs.Opening.{Over, open_apart, or_false}
use Rattle.hdfs_commands.proofs.OneFile.{not_same}
use Rattle.hdfs_commands.proofs.Refusing.{kinds_same, step_there}
use Rattle.hdfs_commands.proofs.Still.{file_stays}

-- what stands above a new path at which something stood stands there still
pub above_stays : {X : Type 0} (dir x : X) (here above : Bool) (o : Option X) → here ≡ false → (is_none o && above) ≡ false
    → cond here (Some x) (cond above (Some (unwrap_or o dir)) o) ≡ o
above_stays dir x true above o apart free = absurd (false≢true (sym apart))
above_stays dir x false true None apart free = absurd (false≢true (sym free))
above_stays dir x false true (Some y) apart free = refl
above_stays dir x false false o apart free = refl

-- something stands there
pub none_not : {X : Type 0} (o : Option X) (x : X) (above : Bool) → o ≡ Some x → (is_none o && above) ≡ false
none_not o x above is = ap (λ (e : Option _). is_none e && above) is

-- a path that is open isn't within one of whose paths none is
pub open_outside : (paths : List (List ℕ)) (path r : List ℕ) → list_any (is_within path) paths ≡ false → list_any (bytes_eq r) paths ≡ true → is_within path r ≡ false
open_outside [] path r none there = absurd (false≢true there)
open_outside (first ∷ paths) path r none there =
    by_test (open_outside paths path r (or_false (is_within path first) (list_any (is_within path) paths) none).1) (bytes_eq r first) refl
  where
    by_test : (list_any (bytes_eq r) paths ≡ true → is_within path r ≡ false) → (b : Bool) → bytes_eq r first ≡ b → is_within path r ≡ false
    by_test later true is = ap (is_within path) ((bytes_eq-Decides r first).0 is) ∙ (or_false (is_within path first) (list_any (is_within path) paths) none).0
    by_test later false is = later (sym (ap (λ (b : Bool). b || list_any (bytes_eq r) paths) is) ∙ there)

module _ (path : List ℕ) (permission : ℕ) (parents : Bool) (p : Picture) where
  abbrev pub making : Ask
  making = asks.Mkdirs path permission parents

  -- the row of it
  abbrev pub MakesDir : Picture → Type 0
  MakesDir q = (mkdirs_refusal (kinds p) path parents ≡ None) × Changes p q (with_parents p.names entries.Dir path entries.Dir) p.table

  dir_made : (q : Picture) (answer : Answer) → Row p making answer q → MakesDir q
  dir_made q (answers.Mkdirs true) row = row
  dir_made q (answers.Mkdirs false) row = absurd row
  dir_made q answer row = absurd row

  -- it was made, or nothing changed
  pub may_make : (q : Picture) → MayBeDone making p q → SameButActive p q ⊎ MakesDir q
  may_make q (inl same) = inl same
  may_make q (inr (inl done)) = inr (dir_made q done.0 done.2)
  may_make q (inr (inr own)) = absurd own.0

  -- what was answered to be made is
  pub was_dir : (s t : Shown) (done : Bool) → s.picture ≡ Some p → Came s making (Ok (answers.Mkdirs done)) t → (q : Picture) × (t.picture ≡ Some q) × MakesDir q
  was_dir s t done told came =
      let one = came.told p told (make_repeats path permission parents p) in
      (one.0, one.1, dir_made one.0 (answers.Mkdirs done) (relayed_row (CallsRose s.counts t) p making (answers.Mkdirs done) one.0 (λ is. absurd (cc is)) (λ is. absurd (cc is)) one.2))

  -- what a writer of another file carries it carries
  pub dir_keeps : (q : Picture) → MakesDir q → (r : List ℕ) (tail : Tail) (bytes : List ℕ) → r ≢ path → FileCarries p r tail bytes → FileCarries q r tail bytes
  dir_keeps q made r tail bytes apart c =
      let named : q.names r ≡ p.names r =
      made.1.names r
      ∙ above_stays entries.Dir entries.Dir (bytes_eq path r) (list_any (bytes_eq r) (ancestors path)) (p.names r) (not_same path r apart)
      (none_not (p.names r) (entries.File c.file) (list_any (bytes_eq r) (ancestors path)) c.named) in
      record {
        file = c.file;
        named = named ∙ c.named;
        being_written = c.being_written;
        carries = tail_stays p q r c.file named (λ id there. (made.1.table id, λ node. made.1.bytes.held node id)) (λ link place is there. made.1.bytes.writes link ∙ is) tail bytes c.carries;
      }

  module _ (world : World) (state : State) (name : List ℕ) (agrees : (r : List ℕ) → AgreesAt p (p.names r) (state.files r)) (named : is_path path ≡ true) (closed : is_opened state path ≡ false)
      (called : target_of world (commands.Mkdirs name permission parents) ≡ path) where
    abbrev command : Command
    command = commands.Mkdirs name permission parents

    refusal_kept : mkdirs_refusal (kinds_of state.files) path parents ≡ mkdirs_refusal (kinds p) path parents
    refusal_kept = ap (λ (k : List ℕ → Option Kind). mkdirs_refusal k path parents) (sym (kinds_same p state.files agrees))

    -- the step makes what is made
    pub makes_step : (q : Picture) → MakesDir q → step world state command ≡ Done replies.Made (with_directory state path)
    makes_step q made = step_there world state path named command called ∙ makes_at state path world name permission parents closed (refusal_kept ∙ made.0)

    pub dir_agrees : (q : Picture) → MakesDir q → (r : List ℕ) → AgreesAt q (q.names r) ((with_directory state path).files r)
    dir_agrees q made = made_agrees p q made.1.table made.1.bytes.held state.files path agrees made.1.names

    -- what the command doesn't touch stays
    pub dir_spares : (q : Picture) → MakesDir q → (r : List ℕ) → touched state path command r ≡ false → AgreesAt q (q.names r) (state.files r)
    dir_spares q made r free =
        let parts = or_false (bytes_eq path r) (is_none (state.files r) && list_any (bytes_eq r) (ancestors path)) free in
        subst (AgreesAt q (q.names r)) (above_stays Dir Dir (bytes_eq path r) (list_any (bytes_eq r) (ancestors path)) (state.files r) parts.0 parts.1) (dir_agrees q made r)

    pub make_over : Over p world state command path making
    make_over = record {
      refused = λ class h.
          (let is : StandsForAny (Some Directory) (mkdirs_refusal (kinds p) path parents) class = h in
          (Some Directory, is.0, step_there world state path named command called ∙ refuses_at state path world name permission parents is.0 closed (refusal_kept ∙ is.1), is.2));
      spares = λ q may r free. ⊎_elim
          (λ same. agrees_files (Some p) (Some q) state.files same.files agrees r)
          (λ made. dir_spares q made r free)
          (may_make q may);
      unchanged = λ why is q may. ⊎_elim
          (λ same. agrees_files (Some p) (Some q) state.files same.files agrees)
          (λ made. absurd (let done = makes_step q made in cc (is, done)))
          (may_make q may);
      keeps = λ q may r tail bytes opened c. ⊎_elim
          (λ same. file_stays p q same.files same.writes r tail bytes c)
          (λ made. dir_keeps q made r tail bytes (open_apart state path r closed opened) c)
          (may_make q may);
    }

module _ (path : List ℕ) (recursive : Bool) (p : Picture) where
  abbrev pub deleting : Ask
  deleting = asks.Delete path recursive

  -- what stood at the path and below it is gone
  abbrev pub Goes : Picture → Type 0
  Goes q = DeletesFrom p.names p.table path recursive q.names q.table × KeepsBytes p q

  -- or nothing stood there, and nothing changed
  abbrev pub StoodNot : Picture → Type 0
  StoodNot q = ((path ≡ root) ⊎ IsMissing p.names path) × SameButActive p q

  gone_by : (q : Picture) (answer : Answer) → Row p deleting answer q → Goes q ⊎ StoodNot q
  gone_by q (answers.Delete true) row = inl row
  gone_by q (answers.Delete false) row = inr row
  gone_by q answer row = absurd row

  pub may_go : (q : Picture) → MayBeDone deleting p q → SameButActive p q ⊎ Goes q
  may_go q (inl same) = inl same
  may_go q (inr (inl done)) = ⊎_elim (λ goes. inr goes) (λ none. inl none.1) (gone_by q done.0 done.2)
  may_go q (inr (inr own)) = absurd own.0

  told_gone : (risen : Type 0) (done : Bool) (q : Picture) → RelaysTold risen p deleting (Ok (answers.Delete done)) q → Goes q ⊎ StoodNot q
  told_gone risen done q (inl row) = gone_by q (answers.Delete done) row
  told_gone risen done q (inr (inl again)) = gone_by q again.2.0 again.2.2
  told_gone risen done q (inr (inr denied)) = absurd (let is = denied.0 in cc (is))

  -- what was answered, whether it was true or false
  pub was_gone : (s t : Shown) (done : Bool) → s.picture ≡ Some p → Came s deleting (Ok (answers.Delete done)) t → (q : Picture) × (t.picture ≡ Some q) × (Goes q ⊎ StoodNot q)
  was_gone s t done told came =
      let one = came.told p told (delete_repeats path recursive p) in
      (one.0, one.1, told_gone (CallsRose s.counts t) done one.0 one.2)

  -- what a writer of a file elsewhere carries it carries
  pub gone_keeps : IsSound p → (q : Picture) → Goes q → (r : List ℕ) (tail : Tail) (bytes : List ℕ) → is_within path r ≡ false → FileCarries p r tail bytes → FileCarries q r tail bytes
  gone_keeps sound q goes r tail bytes away c =
      let named : q.names r ≡ p.names r = goes.0.named r ∙ ap (λ (b : Bool). cond b None (p.names r)) away in
      record {
        file = c.file;
        named = named ∙ c.named;
        being_written = c.being_written;
        carries = tail_stays p q r c.file named
            (λ id there. (stays p q sound path recursive goes.0 goes.1 r c.file id away c.named there, λ node. goes.1.held node id))
            (λ link place is there. goes.1.writes link ∙ is) tail bytes c.carries;
      }

  module _ (world : World) (state : State) (name : List ℕ) (is_state : IsState state) (sound : IsSound p) (agrees : (r : List ℕ) → AgreesAt p (p.names r) (state.files r)) (named : is_path path ≡ true)
      (apart : path ≢ root) (closed : is_opened_within state path ≡ false) (called : target_of world (commands.Delete name recursive) ≡ path) where
    abbrev deletion : Command
    deletion = commands.Delete name recursive

    pub goes_step : (q : Picture) → Goes q ⊎ StoodNot q → step world state deletion ≡ Done replies.Deleted (without_path state path)
    goes_step q (inl goes) = step_there world state path named deletion called ∙ deletes_at p state is_state agrees path apart closed world name recursive q.names q.table goes.0
    goes_step q (inr none) =
        step_there world state path named deletion called
        ∙ ⊎_elim (λ at_root. absurd (apart at_root)) (λ missing. missing_at p state is_state agrees path apart closed world name recursive named missing) none.0

    pub gone_agrees : (q : Picture) → Goes q ⊎ StoodNot q → (r : List ℕ) → AgreesAt q (q.names r) ((without_path state path).files r)
    gone_agrees q (inl goes) = delete_agrees p q sound path recursive goes.0 goes.1 state.files agrees
    gone_agrees q (inr none) =
        agrees_files (Some p) (Some q) (files_without state.files path) none.1.files
        (λ r. ⊎_elim (λ at_root. absurd (apart at_root)) (λ missing. missing_agrees p state is_state agrees path named missing.0 r) none.0)

    -- what the session has open isn't within the path
    pub gone_files : (r : List ℕ) → is_within path r ≡ false → files_without state.files path r ≡ state.files r
    gone_files r away = ap (λ (b : Bool). cond b None (state.files r)) away

    gone_spares : (q : Picture) → Goes q → (r : List ℕ) → is_within path r ≡ false → AgreesAt q (q.names r) (state.files r)
    gone_spares q goes r away = subst (AgreesAt q (q.names r)) (gone_files r away) (gone_agrees q (inl goes) r)

    pub delete_over : Over p world state deletion path deleting
    delete_over = record {
      refused = λ class h. ⊎_elim
          (λ above.
          (let is : StandsForAny (kinds p path) (above_refusal (kinds p) path) class = above in
          (kinds p path, is.0, step_there world state path named deletion called ∙ refused_above_at p state is_state agrees path apart closed world name recursive is.0 is.1, is.2)))
          (λ full. (None, NotEmpty, step_there world state path named deletion called ∙ full_at p state is_state agrees path apart closed world name recursive named full.0, full.1))
          h;
      spares = λ q may r free. ⊎_elim
          (λ same. agrees_files (Some p) (Some q) state.files same.files agrees r)
          (λ goes. gone_spares q goes r free)
          (may_go q may);
      unchanged = λ why is q may. ⊎_elim
          (λ same. agrees_files (Some p) (Some q) state.files same.files agrees)
          (λ goes. absurd (let done = goes_step q (inl goes) in cc (is, done)))
          (may_go q may);
      keeps = λ q may r tail bytes opened c. ⊎_elim
          (λ same. file_stays p q same.files same.writes r tail bytes c)
          (λ goes. gone_keeps sound q goes r tail bytes (open_outside state.opened path r closed opened) c)
          (may_go q may);
    }
