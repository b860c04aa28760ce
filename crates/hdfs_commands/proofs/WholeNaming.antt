-- What a new directory and a deletion make of the blocks of files: they stay, or nothing stands there any more.
use Rattle.std.proofs.Common.{◌≡◌, ◌⊎◌, inl, inr, ⊎_elim, ℕ, ◌<◌, Bool, true, false, cond, List, length, Option, Some, None, option_map, unwrap_or, Ok, Err, refl, sym, ◌∙◌, ap, subst, arith}
use Rattle.std.proofs.lemmas.Bool.{false≢true}
use Rattle.std.proofs.lemmas.Slice.Eq.{bytes_eq-Decides}
use Rattle.std.specs.List.{list_any}
use Rattle.std.specs.Prelude.{Result}
use Rattle.std.specs.Str.{bytes_eq}
use Rattle.hdfs_cluster.specs.declared.asks.Answer.{Answer}
use Rattle.hdfs_cluster.specs.declared.asks.Answer.TheVariants as answers
use Rattle.hdfs_cluster.specs.declared.asks.Ask.TheVariants as asks
use Rattle.hdfs_cluster.specs.declared.errors.HdfsError.{HdfsError}
use Rattle.hdfs_cluster.specs.declared.picture.Entry.{Entry}
use Rattle.hdfs_cluster.specs.declared.picture.Entry.TheVariants as entries
use Rattle.hdfs_cluster.specs.declared.picture.FileEntry.{FileEntry}
use Rattle.hdfs_cluster.specs.Effects.{blocks_at}
use Rattle.hdfs_cluster.specs.Failures.{CallsRose}
use Rattle.hdfs_cluster.specs.Files.{ClosedFile, OpenFile, is_file}
use Rattle.hdfs_cluster.specs.Names.{is_within}
use Rattle.hdfs_cluster.specs.Picture.{Picture, entry_kind, kinds}
use Rattle.hdfs_cluster.specs.Refusals.{Refusal, Exists}
use Rattle.hdfs_cluster.specs.Shown.{Shown}
use Rattle.hdfs_cluster.specs.Sound.{IsSound}
use Rattle.hdfs_cluster.proofs.NamesRepeating.{delete_repeats, make_repeats}
use Rattle.hdfs_file_writer.specs.OnlyFiles.{KeepsBlocks}
use Rattle.hdfs_file_writer.specs.declared.file_writer.FileWriter.{FileWriter}
use Rattle.hdfs_model.specs.declared.commands.Command.{Command}
use Rattle.hdfs_model.specs.declared.commands.Command.TheVariants as commands
use Rattle.hdfs_model.specs.declared.commands.Reply.{Reply}
use Rattle.hdfs_model.specs.declared.commands.WriteOptions.{WriteOptions}
use Rattle.hdfs_model.specs.Owing.{IsOpenWithin}
use Rattle.hdfs_model.proofs.Removing.{stays}
use Rattle.hdfs_names.specs.Paths.{root, absolute, ancestors, is_path}
use Rattle.hdfs_namenode.specs.Asked.{as_answer}
use Rattle.hdfs_namenode.specs.Relaying.{Came}
use Rattle.hdfs_namenode.proofs.Relayed.{relayed_done}
use Rattle.hdfs_cluster.specs.declared.asks.Ask.{Ask}
use Rattle.hdfs_cluster.specs.declared.errors.ArgFault.TheVariants as args
use Rattle.hdfs_cluster.specs.declared.errors.HdfsError.TheVariants as errors
use Rattle.hdfs_cluster.specs.Limits.{is_permission}
use Rattle.hdfs_model.specs.declared.commands.Reply.TheVariants as replies
use Rattle.hdfs_namenode.specs.Clients.{SameClient}
use Rattle.hdfs_namenode.specs.declared.protocol.NamenodeProtocol.{NamenodeProtocol}
use Rattle.hdfs_commands.specs.Acting.{world_at}
use Rattle.hdfs_commands.specs.Asking.{AreAnswered}
use Rattle.hdfs_commands.specs.Executing.{Executes}
use Rattle.hdfs_commands.proofs.Early.{owed_other}
use Rattle.hdfs_commands.proofs.Executed.{early_executes, turned_executes, unturned_executes}
use Rattle.hdfs_commands.proofs.NamingActs.{bits_acts, delete_still, goes, gone_over, made_over, makes, mkdirs_still}
use Rattle.hdfs_commands.specs.Session.{Stands, after, has_failed, opened_of, writer_of}
use Rattle.hdfs_commands.specs.Whole.{AreFilled, AreWhole, KeepsBlocksWhole, KeepsWhole}
use Rattle.hdfs_commands.specs.declared.session.Session.{Session}
use Rattle.hdfs_commands.proofs.Agreeing.{is_told}
use Rattle.hdfs_commands.proofs.Failing.{may_be_done}
use Rattle.hdfs_commands.proofs.Moved.{none_from}
use Rattle.hdfs_commands.proofs.NameAsks.{Goes, MakesDir, may_go, may_make}
use Rattle.hdfs_commands.proofs.ReadActs.{not_open_by}
use Rattle.hdfs_commands.proofs.WholeBeside.{StaysAt, filled_beside, stays_named, whole_beside}
use Rattle.hdfs_commands.proofs.WholeOpening.{above_blocks, above_file, stays_files}

-- the blocks at a path stay, or nothing stands there any more, and the session hasn't it open
abbrev pub StaysOrGoes : Picture → Picture → Session → List ℕ → Type 0
StaysOrGoes p q session path = StaysAt p q path ⊎ ((writer_of session path ≡ None) × (q.names path ≡ None))

-- a command that creates no file, and changes no writer
module _ (command : Command) (s t : Shown) (session session' : Session) (p q : Picture) (was : s.picture ≡ Some p) (now : t.picture ≡ Some q) (each : (path : List ℕ) → StaysOrGoes p q session path)
    (writers : (path : List ℕ) → writer_of session' path ≡ writer_of session path) (other : (name : List ℕ) (options : WriteOptions) → command ≡ commands.Create name options → ⊥) where
  module _ (path : List ℕ) (none : writer_of session path ≡ None) (gone : q.names path ≡ None) where
    none_at : (x : Picture) → t.picture ≡ Some x → x.names path ≡ None
    none_at x told = (let same : q ≡ x = cc (now, told) in subst (λ (y : Picture). y.names path ≡ None) same gone)

    unwritten : (writer : FileWriter) → writer_of session' path ≡ Some writer → ⊥
    unwritten writer here = (let none' : writer_of session' path ≡ None = writers path ∙ none in cc (here, none'))

    gone_whole : (from : ℕ) → AreWhole t session' path from
    gone_whole from = record {
      closed = λ free x told k least below. absurd (let short = ap (λ (e : Option Entry). blocks_at e) (none_at x told) in omega (arith, subst (λ (l : List ℕ). k < length l) short below));
      going = λ writer here x told. absurd (unwritten writer here);
    }

    gone_filled : AreFilled t session' path
    gone_filled = record {
      closed = λ free x file told at. absurd (let gone' = none_at x told in cc (gone', at));
      going = λ writer here x told. absurd (unwritten writer here);
    }

  whole_each : (path : List ℕ) (from : ℕ) → AreWhole s session path from → AreWhole t session' path from
  whole_each path from before = ⊎_elim
      (λ stays. whole_beside s t session session' p q was now path stays (writers path) from before)
      (λ gone. gone_whole path gone.0 gone.1 from)
      (each path)

  filled_each : (path : List ℕ) → AreFilled s session path → AreFilled t session' path
  filled_each path before = ⊎_elim
      (λ stays. filled_beside s t session session' p q was now path stays (writers path) before)
      (λ gone. gone_filled path gone.0 gone.1)
      (each path)

  pub naming_whole : (result : Result Reply HdfsError) → KeepsWhole command s session t session' result
  naming_whole (Ok reply) = record {
    whole = λ path apart from before. whole_each path from before;
    filled = λ path apart before. filled_each path before;
    created = λ name options is. absurd (other name options is);
  }
  naming_whole (Err error) = record {
    whole = λ path apart from before. whole_each path from before;
    filled = λ path apart before. filled_each path before;
    created = tt;
  }

-- no file stands where a directory may be made
first_clear : (there : Bool) (rest : Option Refusal) → cond there (Some Exists) rest ≡ None → there ≡ false
first_clear true rest is = absurd (cc is)
first_clear false rest is = refl

file_is : (opened : Bool) → is_file (Some (cond opened OpenFile ClosedFile)) ≡ true
file_is true = refl
file_is false = refl

dir_blocks : (here above : Bool) (e : Option Entry) → (here ≡ true → is_file (option_map entry_kind e) ≡ false)
    → blocks_at (cond here (Some entries.Dir) (cond above (Some (unwrap_or e entries.Dir)) e)) ≡ blocks_at e
dir_blocks true above None clear = refl
dir_blocks true above (Some entries.Dir) clear = refl
dir_blocks true above (Some (entries.File file)) clear = absurd (false≢true (sym (clear refl) ∙ file_is file.is_open))
dir_blocks false above e clear = above_blocks above e

dir_file : (here above : Bool) (e : Option Entry) (file : FileEntry) → cond here (Some entries.Dir) (cond above (Some (unwrap_or e entries.Dir)) e) ≡ Some (entries.File file) → e ≡ Some (entries.File file)
dir_file true above e file is = absurd (cc is)
dir_file false above e file is = above_file above e file is

-- a new directory leaves the blocks of all files
pub stays_dir : (path : List ℕ) (permission : ℕ) (parents : Bool) (p q : Picture) → MakesDir path permission parents p q → (r : List ℕ) → StaysAt p q r
stays_dir path permission parents p q made r = record {
  blocks = ap blocks_at (made.1.names r) ∙ dir_blocks (bytes_eq path r) (list_any (bytes_eq r) (ancestors path)) (p.names r) clear;
  files = λ file is. dir_file (bytes_eq path r) (list_any (bytes_eq r) (ancestors path)) (p.names r) file (sym (made.1.names r) ∙ is);
  keeps = λ id there. (made.1.table id, λ node. made.1.bytes.held node id);
}
  where
    clear : bytes_eq path r ≡ true → is_file (option_map entry_kind (p.names r)) ≡ false
    clear is = subst (λ (x : List ℕ). is_file (kinds p x) ≡ false) ((bytes_eq-Decides path r).0 is) (first_clear (is_file (kinds p path)) _ made.0)

-- a deletion leaves those of the files elsewhere, and nothing at its path and below it
pub goes_or_stays : (path : List ℕ) (recursive : Bool) (p q : Picture) → IsSound p → Goes path recursive p q → (session : Session) → (IsOpenWithin (opened_of session) path → ⊥) → (r : List ℕ) → StaysOrGoes p q session r
goes_or_stays path recursive p q sound goes session shut r = by_test (is_within path r) refl
  where
    keeps_by : is_within path r ≡ false → (e : Option Entry) → p.names r ≡ e → KeepsBlocks p q (blocks_at e)
    keeps_by away None is id there = absurd (omega (arith, there.1))
    keeps_by away (Some entries.Dir) is id there = absurd (omega (arith, there.1))
    keeps_by away (Some (entries.File file)) is id there = (stays p q sound path recursive goes.0 goes.1 r file id away is there, λ node. goes.1.held node id)

    by_test : (b : Bool) → is_within path r ≡ b → StaysOrGoes p q session r
    by_test true is =
        inr (none_from (writer_of session r) (not_open_by (opened_of session r) (λ opened. shut (r, opened, is))), goes.0.named r ∙ ap (λ (b : Bool). cond b None (p.names r)) is)
    by_test false is = inl (stays_named p q r (goes.0.named r ∙ ap (λ (b : Bool). cond b None (p.names r)) is) (keeps_by is (p.names r) refl))

module _ (s t : Shown) (session session' : Session) (writers : (r : List ℕ) → writer_of session' r ≡ writer_of session r) (path name : List ℕ) where
  -- whatever came of a new directory
  pub mkdirs_whole : (permission : ℕ) (parents : Bool) (answer : Result Bool HdfsError) → Came s (asks.Mkdirs path permission parents) (as_answer answers.Mkdirs answer) t
      → (result : Result Reply HdfsError) → KeepsBlocksWhole (commands.Mkdirs name permission parents) s session t session' result
  mkdirs_whole permission parents answer came result state ready =
      let was = is_told s.picture state.files ready.ready.fits.agrees in
      let to = came.told was.0 was.1 (make_repeats path permission parents was.0) in
      let ask = asks.Mkdirs path permission parents in
      let done = may_be_done ask was.0 to.0 (relayed_done (CallsRose s.counts t) was.0 ask (as_answer answers.Mkdirs answer) to.0 came.relays.shaped to.2) in
      naming_whole (commands.Mkdirs name permission parents) s t session session' was.0 to.0 was.1 to.1
      (λ r. inl (⊎_elim (λ same. stays_files was.0 to.0 same.files r) (λ made. stays_dir path permission parents was.0 to.0 made r) (may_make path permission parents was.0 to.0 done)))
      writers (λ name' options same. cc same) result

  -- and of a deletion
  pub delete_whole : (recursive : Bool) (answer : Result Bool HdfsError) → ((p : Picture) → s.picture ≡ Some p → IsSound p) → (IsOpenWithin (opened_of session) path → ⊥)
      → Came s (asks.Delete path recursive) (as_answer answers.Delete answer) t → (result : Result Reply HdfsError) → KeepsBlocksWhole (commands.Delete name recursive) s session t session' result
  delete_whole recursive answer sound shut came result state ready =
      let was = is_told s.picture state.files ready.ready.fits.agrees in
      let to = came.told was.0 was.1 (delete_repeats path recursive was.0) in
      let ask = asks.Delete path recursive in
      let done = may_be_done ask was.0 to.0 (relayed_done (CallsRose s.counts t) was.0 ask (as_answer answers.Delete answer) to.0 came.relays.shaped to.2) in
      naming_whole (commands.Delete name recursive) s t session session' was.0 to.0 was.1 to.1
      (λ r. ⊎_elim (λ same. inl (stays_files was.0 to.0 same.files r)) (λ goes. goes_or_stays path recursive was.0 to.0 (sound was.0 was.1) goes session shut r) (may_go path recursive was.0 to.0 done))
      writers (λ name' options same. cc same) result

-- the reply to an ask, or its error
abbrev pub replied : Reply → Result Bool HdfsError → Result Reply HdfsError
replied reply (Ok done) = Ok reply
replied reply (Err error) = Err error

module _ {may_answer : Ask → Answer → Type 0} {s t : Shown} {session : Session} {namenode : NamenodeProtocol} {path name : List ℕ} (stands : Stands s session) (fine : has_failed session ≡ false)
    (answered : AreAnswered may_answer session) (keeps : SameClient session.namenode namenode) (named : is_path path ≡ true) (called : absolute session.settings.home name ≡ path) where
  -- what comes of a new directory
  pub mkdirs_executes : {permission : ℕ} {parents : Bool} → opened_of session path ≡ false → is_permission permission ≡ true → (answer : Result Bool HdfsError)
      → Came s (asks.Mkdirs path permission parents) (as_answer answers.Mkdirs answer) t
      → Executes may_answer (commands.Mkdirs name permission parents) s session t (after (record session { namenode = namenode }) (replied replies.Made answer)) (replied replies.Made answer)
  mkdirs_executes {permission} {parents} closed limited (Ok done) came =
      turned_executes stands fine answered keeps named called (λ opened. cc (closed, opened)) (λ session' writers. mkdirs_whole s t session session' writers path name permission parents (Ok done) came)
      replies.Made (makes s t session path name named called permission parents closed done limited came) refl came.relays.leaves
  mkdirs_executes {permission} {parents} closed limited (Err error) came =
      unturned_executes stands fine answered keeps named called (λ opened. cc (closed, opened)) (λ session' writers. mkdirs_whole s t session session' writers path name permission parents (Err error) came)
      (mkdirs_still name permission parents) (asks.Mkdirs path permission parents) (made_over s t session path name named called permission parents closed) (make_repeats path permission parents) came

  -- and of a deletion
  pub delete_executes : {recursive : Bool} → ((p : Picture) → s.picture ≡ Some p → IsSound p) → ((path ≡ root) ⊎ IsOpenWithin (opened_of session) path → ⊥) → (answer : Result Bool HdfsError)
      → Came s (asks.Delete path recursive) (as_answer answers.Delete answer) t
      → Executes may_answer (commands.Delete name recursive) s session t (after (record session { namenode = namenode }) (replied replies.Deleted answer)) (replied replies.Deleted answer)
  delete_executes {recursive} sound placed (Ok done) came =
      turned_executes stands fine answered keeps named called placed (λ session' writers. delete_whole s t session session' writers path name recursive (Ok done) sound (λ within. placed (inr within)) came)
      replies.Deleted (goes s t session path name named called recursive sound placed done came) refl came.relays.leaves
  delete_executes {recursive} sound placed (Err error) came =
      unturned_executes stands fine answered keeps named called placed (λ session' writers. delete_whole s t session session' writers path name recursive (Err error) sound (λ within. placed (inr within)) came)
      (delete_still name recursive) (asks.Delete path recursive) (gone_over s t session path name named called recursive sound placed) (delete_repeats path recursive) came

-- permission bits that are out of their limits are refused before anything is asked
pub bits_executes : {may_answer : Ask → Answer → Type 0} {s : Shown} {session : Session} {path name : List ℕ} {permission : ℕ} {parents : Bool} → Stands s session → AreAnswered may_answer session
    → absolute session.settings.home name ≡ path → is_path path ≡ true → opened_of session path ≡ false → is_permission permission ≡ false
    → Executes may_answer (commands.Mkdirs name permission parents) s session s (record session { failed = true }) (Err (errors.InvalidArgument args.Options))
bits_executes {may_answer} {s} {session} {path} {name} {permission} {parents} stands answered called named closed out =
    early_executes answered (bits_acts s session name permission parents stands out)
    (owed_other (world_at session s) (opened_of session) (commands.Mkdirs name permission parents) (errors.InvalidArgument args.Options) (ap is_path called ∙ named)
    (λ opened. cc (called, closed, opened)) (inl tt)) tt
