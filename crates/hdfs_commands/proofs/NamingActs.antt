-- A new directory, and a deletion, as commands of a session.
use Rattle.std.proofs.Common.{◌≡◌, ◌≢◌, ◌⊎◌, inl, inr, ⊎_elim, ℕ, Bool, true, false, cond, List, Some, None, Ok, Err, refl, sym, ◌∙◌, ap}
use Rattle.std.specs.List.{list_any}
use Rattle.std.specs.Str.{bytes_eq}
use Rattle.hdfs_cluster.specs.declared.asks.Answer.TheVariants as answers
use Rattle.hdfs_cluster.specs.declared.asks.Ask.TheVariants as asks
use Rattle.hdfs_cluster.specs.declared.errors.ArgFault.TheVariants as args
use Rattle.hdfs_cluster.specs.declared.errors.HdfsError.TheVariants as errors
use Rattle.hdfs_cluster.specs.Files.{Dir, State}
use Rattle.hdfs_cluster.specs.Limits.{is_permission}
use Rattle.hdfs_cluster.specs.Picture.{Picture}
use Rattle.hdfs_cluster.specs.Shown.{Shown}
use Rattle.hdfs_cluster.specs.Sound.{IsSound}
use Rattle.hdfs_cluster.specs.Stores.{AgreesAt}
use Rattle.hdfs_model.specs.declared.commands.Command.{Command}
use Rattle.hdfs_model.specs.declared.commands.Command.TheVariants as commands
use Rattle.hdfs_model.specs.declared.commands.Reply.{Reply}
use Rattle.hdfs_model.specs.declared.commands.Reply.TheVariants as replies
use Rattle.hdfs_model.specs.Owing.{IsOpenWithin}
use Rattle.hdfs_model.specs.Sessions.{spared}
use Rattle.hdfs_model.specs.Steps.{is_opened_within, with_directory}
use Rattle.hdfs_model.proofs.Deleted.{is_false, state_without, without_path}
use Rattle.hdfs_model.proofs.Made.{state_with_directory}
use Rattle.hdfs_model.proofs.Misplaced.{within_opened}
use Rattle.hdfs_names.specs.Paths.{root, absolute, ancestors, is_path}
use Rattle.hdfs_namenode.specs.Relaying.{Came}
use Rattle.hdfs_file_reader.proofs.Looking.{looks_refl}
use Rattle.hdfs_cluster.specs.Refusals.{mkdirs_refusal}
use Rattle.hdfs_commands.specs.Acting.{Acts, IsReady, world_at}
use Rattle.hdfs_commands.specs.Session.{Stands, after, opened_of}
use Rattle.hdfs_commands.specs.declared.session.Session.{Session}
use Rattle.hdfs_commands.proofs.Acted.{failed_acts}
use Rattle.hdfs_commands.proofs.Agreeing.{agrees_but, agrees_told, is_told}
use Rattle.hdfs_commands.proofs.Failing.{IsStill}
use Rattle.hdfs_commands.proofs.NameAsks.{above_stays, delete_over, dir_agrees, dir_keeps, gone_agrees, gone_keeps, goes_step, make_over, makes_step, none_not, open_outside, was_dir, was_gone}
use Rattle.hdfs_commands.proofs.OneFile.{not_same}
use Rattle.hdfs_commands.proofs.Opening.{Over, open_apart}
use Rattle.hdfs_commands.proofs.Refusing.{kinds_same}
use Rattle.hdfs_commands.proofs.Sized.{remembers_refl}
use Rattle.hdfs_commands.proofs.Still.{file_stays}
use Rattle.hdfs_commands.proofs.Turned.{Turns}

-- the two ask for no bytes, and send none
pub mkdirs_still : (name : List ℕ) (permission : ℕ) (parents : Bool) → IsStill (commands.Mkdirs name permission parents)
mkdirs_still name permission parents = record { sends = λ sends. sends; found = λ old new path byte lost. lost }

pub delete_still : (name : List ℕ) (recursive : Bool) → IsStill (commands.Delete name recursive)
delete_still name recursive = record { sends = λ sends. sends; found = λ old new path byte lost. lost }

-- permission bits that are out of their limits
pub bits_acts : (s : Shown) (session : Session) (name : List ℕ) (permission : ℕ) (parents : Bool) → Stands s session → is_permission permission ≡ false
    → Acts (commands.Mkdirs name permission parents) s session s (after {T = Reply} session (Err (errors.InvalidArgument args.Options))) (Err (errors.InvalidArgument args.Options))
bits_acts s session name permission parents stands out =
    failed_acts (commands.Mkdirs name permission parents) (λ sends. sends) s s session session (errors.InvalidArgument args.Options) stands (looks_refl s) (λ r. refl) (remembers_refl session) (out, (tt, tt)) (λ path byte lost. lost)
    (λ state ready. ((out, tt), agrees_but (spared (world_at session s) state (commands.Mkdirs name permission parents) (errors.InvalidArgument args.Options)) s.picture state.files ready.ready.fits.agrees))
    (λ state ready. record { each = λ p told r writer is. inr (ready.carried.each p told r writer is) })

module _ (s t : Shown) (session : Session) (path name : List ℕ) (named : is_path path ≡ true) (called : absolute session.settings.home name ≡ path) where
  module _ (permission : ℕ) (parents : Bool) (closed : opened_of session path ≡ false) where
    abbrev mkdirs : Command
    mkdirs = commands.Mkdirs name permission parents

    -- a refusal is the step's
    pub made_over : (state : State) → IsReady s session state mkdirs → (p : Picture) → s.picture ≡ Some p → Over p (world_at session s) state mkdirs path (asks.Mkdirs path permission parents)
    made_over state ready p told =
        make_over path permission parents p (world_at session s) state name (agrees_told s.picture p state.files ready.ready.fits.agrees told) named (ready.ready.opened path ∙ closed) called

    module _ (done : Bool) (limited : is_permission permission ≡ true) (came : Came s (asks.Mkdirs path permission parents) (Ok (answers.Mkdirs done)) t) where
      -- the directory is there
      pub makes : (state : State) → IsReady s session state mkdirs → Turns s t session state mkdirs replies.Made
      makes state ready =
          let was = is_told s.picture state.files ready.ready.fits.agrees in
          let p = was.0 in
          let now = was_dir path permission parents p s t done was.1 came in
          let agrees : (r : List ℕ) → AgreesAt p (p.names r) (state.files r) = agrees_told s.picture p state.files ready.ready.fits.agrees was.1 in
          let unopened = ready.ready.opened path ∙ closed in
          record {
            next = with_directory state path;
            p = p;
            q = now.0;
            was = was.1;
            now = now.1;
            done = makes_step path permission parents p (world_at session s) state name agrees named unopened called now.0 now.2;
            limited = record { numbers = limited; attributes = tt; plain = record { bytes = λ moves. moves.0; file = λ opens. opens } };
            is_state =
                state_with_directory state path parents ready.ready.fits.is_state named
                (ap (λ k. mkdirs_refusal k path parents) (sym (kinds_same p state.files agrees)) ∙ now.2.0);
            agrees = dir_agrees path permission parents p (world_at session s) state name agrees named unopened called now.0 now.2;
            opened = refl;
            named = λ r node opened is.
                above_stays Dir Dir (bytes_eq path r) (list_any (bytes_eq r) (ancestors path)) (state.files r) (not_same path r (open_apart state path r unopened opened))
                (none_not (state.files r) node (list_any (bytes_eq r) (ancestors path)) is) ∙ is;
            defaults = now.2.1.bytes.defaults;
            keeps = λ r tail bytes opened c. dir_keeps path permission parents p now.0 now.2 r tail bytes (open_apart state path r unopened opened) c;
          }

  module _ (recursive : Bool) (sound : (p : Picture) → s.picture ≡ Some p → IsSound p) (placed : (path ≡ root) ⊎ IsOpenWithin (opened_of session) path → ⊥) where
    abbrev delete : Command
    delete = commands.Delete name recursive

    apart : path ≢ root
    apart is = placed (inl is)

    unopened : (state : State) → IsReady s session state delete → is_opened_within state path ≡ false
    unopened state ready = is_false (is_opened_within state path) (λ is. placed (inr (within_opened (opened_of session) state ready.ready.opened path is)))

    -- a refusal is the step's
    pub gone_over : (state : State) → IsReady s session state delete → (p : Picture) → s.picture ≡ Some p → Over p (world_at session s) state delete path (asks.Delete path recursive)
    gone_over state ready p told =
        delete_over path recursive p (world_at session s) state name ready.ready.fits.is_state (sound p told) (agrees_told s.picture p state.files ready.ready.fits.agrees told) named apart (unopened state ready) called

    module _ (done : Bool) (came : Came s (asks.Delete path recursive) (Ok (answers.Delete done)) t) where
      -- what stood there is gone
      pub goes : (state : State) → IsReady s session state delete → Turns s t session state delete replies.Deleted
      goes state ready =
          let was = is_told s.picture state.files ready.ready.fits.agrees in
          let p = was.0 in
          let now = was_gone path recursive p s t done was.1 came in
          let agrees : (r : List ℕ) → AgreesAt p (p.names r) (state.files r) = agrees_told s.picture p state.files ready.ready.fits.agrees was.1 in
          let shut = unopened state ready in
          record {
            next = without_path state path;
            p = p;
            q = now.0;
            was = was.1;
            now = now.1;
            done = goes_step path recursive p (world_at session s) state name ready.ready.fits.is_state (sound p was.1) agrees named apart shut called now.0 now.2;
            limited = record { numbers = refl; attributes = tt; plain = record { bytes = λ moves. moves.0; file = λ opens. opens } };
            is_state = state_without state path ready.ready.fits.is_state named apart;
            agrees = gone_agrees path recursive p (world_at session s) state name ready.ready.fits.is_state (sound p was.1) agrees named apart shut called now.0 now.2;
            opened = refl;
            named = λ r node opened is. ap (λ (b : Bool). cond b None (state.files r)) (open_outside state.opened path r shut opened) ∙ is;
            defaults = ⊎_elim (λ gone. gone.1.defaults) (λ none. none.1.files.defaults) now.2;
            keeps = λ r tail bytes opened c. ⊎_elim
                (λ gone. gone_keeps path recursive p (sound p was.1) now.0 gone r tail bytes (open_outside state.opened path r shut opened) c)
                (λ none. file_stays p now.0 none.1.files none.1.writes r tail bytes c)
                now.2;
          }
