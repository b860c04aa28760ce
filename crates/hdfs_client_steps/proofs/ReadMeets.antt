-- A read in a program that has files open: what it meets, and what it leaves.
use Rattle.std.proofs.Common.{◌≡◌, ℕ, ◌+◌, Bool, true, false, List, [], ◌∷◌, Some, Ok, Err, refl, sym, ◌∙◌, ap, subst, arith}
use Rattle.hdfs_cluster.specs.declared.errors.HdfsError.{HdfsError}
use Rattle.hdfs_cluster.specs.Files.{Content, State, Writing}
use Rattle.hdfs_cluster.specs.Picture.{Picture, SameFiles}
use Rattle.hdfs_cluster.specs.Shown.{Later, SameLinks, SamePlaces, SameWrites, Shown}
use Rattle.hdfs_cluster.specs.Stores.{Agrees}
use Rattle.hdfs_cluster.proofs.Frames.{told_after}
use Rattle.hdfs_names.specs.Paths.{absolute, is_path}
use Rattle.hdfs_model.specs.declared.commands.Command.{Command}
use Rattle.hdfs_model.specs.declared.commands.Command.TheVariants as commands
use Rattle.hdfs_model.specs.declared.commands.Reply.TheVariants as replies
use Rattle.hdfs_model.specs.Causes.{Cause}
use Rattle.hdfs_model.specs.Scenes.{Ready}
use Rattle.hdfs_model.specs.Sessions.{MeetsNoEncryption, defaults_of, spared}
use Rattle.hdfs_model.specs.Steps.{Done, World, is_opened, step, target_of}
use Rattle.hdfs_model.proofs.Completing.{cause_completes}
use Rattle.hdfs_file_reader.specs.Looking.{FilesStay, IsClosed}
use Rattle.hdfs_commands.specs.Meeting.{Meets}
use Rattle.hdfs_commands.proofs.Agreeing.{agrees_but}
use Rattle.hdfs_commands.proofs.Lost.{not_lost}
use Rattle.hdfs_commands.proofs.ReadActs.{not_open_by}
use Rattle.hdfs_commands.proofs.Stepping.{is_closed}
use Rattle.hdfs_commands.proofs.Still.{file_stays}
use Rattle.hdfs_client_steps.specs.Steps.{Does, KeepsCarried, holding}
use Rattle.hdfs_client_steps.proofs.Applying.{absolute_path, told_of}

module _ (s : Shown) (path : List ℕ) (offset len : ℕ) (named : is_path path ≡ true) (opened : List ℕ → Bool) (placed : opened path ≡ true → ⊥) (world : World) (state : State)
    (ready : Ready world (holding opened s) state (commands.Read path offset len ∷ [])) where
  abbrev reading : Command
  reading = commands.Read path offset len

  called : absolute world.home path ≡ path
  called = absolute_path world.home path named

  not_open : is_opened state path ≡ false
  not_open = ready.opened path ∙ not_open_by (opened path) placed

  not_written : (content : Content) → state.files path ≡ Some (Writing content) → ⊥
  not_written content writing =
      ready.avoids 0 reading (omega arith)
      (content, subst (λ (q : List ℕ). state.files q ≡ Some (Writing content)) (sym called) writing, subst (λ (q : List ℕ). is_opened state q ≡ false) (sym called) not_open)

  -- the read meets a file that the program hasn't open, and that nobody writes
  pub read_meets : Meets world s state path path
  read_meets = record { agrees = ready.fits.agrees; called = called; is_path = named; not_open = not_open; closed = not_written }

  closed_in : (p : Picture) → s.picture ≡ Some p → IsClosed p path
  closed_in p told = is_closed world s state path path read_meets p told

  module _ (t : Shown) (links : SameLinks s t) (files : FilesStay path s t) where
    others_carried : KeepsCarried opened path s t
    others_carried p q was now other has apart tail bytes carries =
        let stay = files p was (closed_in p was) in
        let places = told_after (SamePlaces s) s.picture t.picture p links.places was in
        let one : stay.0 ≡ q = cc (stay.1, now) in
        let two : places.0 ≡ q = cc (places.1, now) in
        file_stays p q (subst (λ (x : Picture). SameFiles p x) one stay.2) (subst (λ (x : Picture). SameWrites p x) two places.2.1) other tail bytes carries

    -- it leaves the cluster's defaults
    pub read_defaults : defaults_of t.picture ≡ defaults_of s.picture
    read_defaults =
        let told = told_of s world state reading ready in
        let stay = files told.0 told.1 (closed_in told.0 told.1) in
        ap defaults_of stay.1 ∙ stay.2.defaults ∙ sym (ap defaults_of told.1)

    -- a read that gives the bytes of the step
    pub read_replied : (bytes : List ℕ) → step world state reading ≡ Done (replies.Bytes bytes) state → Agrees t.picture state.files → MeetsNoEncryption world state reading
        → Does world state reading path opened s opened t (Ok (replies.Bytes bytes))
    read_replied bytes steps agrees plain = record {
      applied = record {
        ok = (state, steps, record { numbers = refl; attributes = tt; plain = plain }, record { is_state = ready.fits.is_state; agrees = agrees }, ready.opened);
        err = tt;
        complete = tt;
      };
      others = others_carried;
      defaults = read_defaults;
    }

    -- a read whose error has its cause
    pub read_refused : Later s t → (error : HdfsError) → Cause world state reading s t error → Agrees t.picture state.files
        → Does world state reading path opened s opened t (Err error)
    read_refused later error cause agrees = record {
      applied = record {
        ok = tt;
        err = (cause, agrees_but (spared world state reading error) t.picture state.files agrees);
        complete = λ limited none.
            cause_completes world state reading s t later.namenodes limited none
            (λ byte lost. not_lost state s.namenodes s.counts t (target_of world reading) offset (offset + len) byte
            (λ content writing. not_written content (subst (λ (q : List ℕ). state.files q ≡ Some (Writing content)) called writing)) agrees none lost) error cause;
      };
      others = others_carried;
      defaults = read_defaults;
    }
