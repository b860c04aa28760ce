-- What refuses a command that opens a file to be written, over a picture that agrees with the files.
use Rattle.std.proofs.Common.{◌≡◌, ◌⊎◌, inl, inr, ⊎_elim, ℕ, Bool, true, false, cond, List, Option, Some, None, refl, sym, ◌∙◌, ap}
use Rattle.std.proofs.Math.Path.{fun_ext}
use Rattle.std.proofs.lemmas.Bool.{false≢true}
use Rattle.std.specs.Option.{option_map}
use Rattle.hdfs_model.specs.declared.commands.Command.{Command}
use Rattle.hdfs_model.specs.declared.commands.Command.TheVariants as commands
use Rattle.hdfs_model.specs.declared.commands.WriteOptions.{WriteOptions}
use Rattle.hdfs_cluster.specs.declared.errors.HdfsError.{HdfsError}
use Rattle.hdfs_cluster.specs.declared.errors.HdfsError.TheVariants as errors
use Rattle.hdfs_cluster.specs.declared.errors.IoFault.TheVariants as io_faults
use Rattle.hdfs_cluster.specs.declared.picture.Entry.{Entry}
use Rattle.hdfs_cluster.specs.declared.picture.Entry.TheVariants as entries
use Rattle.hdfs_cluster.specs.Failures.{CallsRose, ANamenode, IsOfAsk, failure_of}
use Rattle.hdfs_model.specs.Causes.{Because, Cause, StandsForRefused, Tells}
use Rattle.hdfs_cluster.specs.Counts.{NeverFall}
use Rattle.hdfs_cluster.specs.Files.{Files, State, Node, Dir, File, Writing, Kind, Directory, ClosedFile, OpenFile, NoFile, NotDirectory, Missing, NotFile, kind_of, kinds_of}
use Rattle.hdfs_cluster.specs.Namenode.{StandsForRefusal, class_for, class_in_the_way, is_taken}
use Rattle.hdfs_names.specs.Paths.{is_path}
use Rattle.hdfs_cluster.specs.Picture.{Picture, entry_kind, kinds}
use Rattle.hdfs_cluster.specs.Refusals.{Refusal, BadPath, WrongState, Exists, Lacks, BadRange, NotEmpty, TooMany, create_refusal, append_refusal}
use Rattle.hdfs_cluster.specs.Shown.{Shown}
use Rattle.hdfs_model.specs.Steps.{World, Refused, append_file, create_file, created, is_opened, step, step_at, target_of}
use Rattle.hdfs_cluster.specs.Stores.{AgreesAt}
use Rattle.hdfs_model.specs.Sessions.{is_before_asking}
use Rattle.hdfs_cluster.proofs.Failures.{failed_since, means_since}
use Rattle.hdfs_model.proofs.Telling.{ask_can_end}
use Rattle.hdfs_namenode.specs.Asked.{exception_error}
use Rattle.hdfs_namenode.specs.Relaying.{TellsAsk}

same_kind : (p : Picture) (entry : Option Entry) (node : Option Node) → AgreesAt p entry node → option_map entry_kind entry ≡ option_map kind_of node
same_kind p None None h = refl
same_kind p (Some entries.Dir) (Some Dir) h = refl
same_kind p (Some (entries.File file)) (Some (File content)) h = ap (λ (b : Bool). Some (cond b OpenFile ClosedFile)) h.0
same_kind p (Some (entries.File file)) (Some (Writing content)) h = ap (λ (b : Bool). Some (cond b OpenFile ClosedFile)) h.0
same_kind p None (Some node) h = absurd h
same_kind p (Some entry) None h = absurd h
same_kind p (Some entries.Dir) (Some (File content)) h = absurd h
same_kind p (Some entries.Dir) (Some (Writing content)) h = absurd h
same_kind p (Some (entries.File file)) (Some Dir) h = absurd h

-- the same kinds of things stand in both
pub kinds_same : (p : Picture) (files : Files) → ((r : List ℕ) → AgreesAt p (p.names r) (files r)) → kinds p ≡ kinds_of files
kinds_same p files agrees = fun_ext (λ r. same_kind p (p.names r) (files r) (agrees r))

-- a command at its path
pub step_there : (world : World) (state : State) (path : List ℕ) → is_path path ≡ true → (command : Command) → target_of world command ≡ path
    → step world state command ≡ step_at world state path command
step_there world state path named command called =
    ap (λ (r : List ℕ). cond (is_path r) (step_at world state r command) (Refused BadPath)) called
    ∙ ap (λ (b : Bool). cond b (step_at world state path command) (Refused BadPath)) named

-- a command at a path that is none of the session's
module _ (world : World) (state : State) (path : List ℕ) (named : is_path path ≡ true) (closed : is_opened state path ≡ false) where
  pub create_step : (name : List ℕ) (options : WriteOptions) → target_of world (commands.Create name options) ≡ path
      → step world state (commands.Create name options) ≡ create_file state path (created world options) (create_refusal (kinds_of state.files) path options.overwrite options.create_parent)
  create_step name options called =
      step_there world state path named (commands.Create name options) called
      ∙ ap (λ (b : Bool). cond b (Refused WrongState) (create_file state path (created world options) (create_refusal (kinds_of state.files) path options.overwrite options.create_parent))) closed

  pub append_step : (name : List ℕ) → target_of world (commands.Append name) ≡ path
      → step world state (commands.Append name) ≡ append_file state path (append_refusal (kinds_of state.files) path)
  append_step name called =
      step_there world state path named (commands.Append name) called ∙ ap (λ (b : Bool). cond b (Refused WrongState) (append_file state path (append_refusal (kinds_of state.files) path))) closed

taken : (kind : Option Kind) → is_taken (class_in_the_way kind) ≡ true
taken None = refl
taken (Some Directory) = refl
taken (Some ClosedFile) = refl
taken (Some OpenFile) = refl

not_taken : (why : NoFile) → is_taken (class_for why) ≡ false
not_taken NotDirectory = refl
not_taken Missing = refl
not_taken NotFile = refl

-- what an error of an ask tells of the command that asked
pub ask_tells : (command : Command) (s m t : Shown) (error : HdfsError) → NeverFall s.counts m.counts → TellsAsk m t error → Tells command s t error
ask_tells command s m t error fall tells = (ask_can_end command error tells.0, means_since s m t error fall tells.1)

-- it is none that comes before anything is asked
pub ask_not_early : (m t : Shown) (error : HdfsError) → TellsAsk m t error → is_before_asking error ≡ false
ask_not_early m t (errors.InvalidPath text) tells = absurd tells.0
ask_not_early m t (errors.InvalidArgument fault) tells = absurd tells.0
ask_not_early m t error tells = refl

-- where a namenode has failed, it has its cause
because_rose : (world : World) (state : State) (command : Command) (s t : Shown) (error : HdfsError) → IsOfAsk error → CallsRose s.counts t
    → Because world state command s t error
because_rose world state command s t errors.NoMemory of rose = tt
because_rose world state command s t (errors.IOError (io_faults.Namenode last)) of rose = tt
because_rose world state command s t (errors.AlreadyExists message) of rose = inr rose
because_rose world state command s t (errors.RPCError class message) of rose = inr rose
because_rose world state command s t (errors.InvalidRPCResponse fault) of rose = tt
because_rose world state command s t (errors.FatalRPCError class message) of rose = tt
because_rose world state command s t error of rose = absurd of

pub rose_cause : (world : World) (state : State) (command : Command) (s m t : Shown) (error : HdfsError) → NeverFall s.counts m.counts → TellsAsk m t error
    → CallsRose m.counts t → Cause world state command s t error
rose_cause world state command s m t error fall tells rose =
    (because_rose world state command s t error tells.0 (failed_since s m t ANamenode fall rose), failed_since s m t (failure_of error) fall tells.1.1)

-- the step is refused for what an exception of this class stands for
abbrev pub RefusesAs : World → State → Command → List ℕ → Type 0
RefusesAs world state command class =
    (kind : Option Kind) × (why : Refusal) × (step world state command ≡ Refused why) × StandsForRefusal kind why class

module _ (world : World) (state : State) (command : Command) (s t : Shown) where
  exists_by : (class : List ℕ) (kind : Option Kind) (why : Refusal) → is_taken class ≡ true → step world state command ≡ Refused why → StandsForRefusal kind why class
      → step world state command ≡ Refused Exists
  exists_by class kind Exists is refused stands = refused
  exists_by class kind (Lacks why) is refused stands = absurd (false≢true (sym (not_taken why) ∙ ap is_taken (sym stands) ∙ is))
  exists_by class kind BadPath is refused stands = absurd stands
  exists_by class kind WrongState is refused stands = absurd stands
  exists_by class kind BadRange is refused stands = absurd stands
  exists_by class kind NotEmpty is refused stands = absurd (false≢true (ap is_taken (sym stands) ∙ is))
  exists_by class kind TooMany is refused stands = absurd stands

  lacks_by : (class : List ℕ) (kind : Option Kind) (why : Refusal) → is_taken class ≡ false → step world state command ≡ Refused why → StandsForRefusal kind why class
      → StandsForRefused (step world state command) class
  lacks_by class kind Exists is refused stands = absurd (false≢true (sym is ∙ ap is_taken stands ∙ taken kind))
  lacks_by class kind (Lacks why) is refused stands = (Lacks why, refused, stands)
  lacks_by class kind BadPath is refused stands = absurd stands
  lacks_by class kind WrongState is refused stands = absurd stands
  lacks_by class kind BadRange is refused stands = absurd stands
  lacks_by class kind NotEmpty is refused stands = (NotEmpty, refused, stands)
  lacks_by class kind TooMany is refused stands = absurd stands

  -- the cause of an exception that stands for a refusal, or where a namenode has failed
  pub exception_cause : (class message : List ℕ) → RefusesAs world state command class ⊎ CallsRose s.counts t → Cause world state command s t (exception_error class message)
  exception_cause class message h = by_test (is_taken class) refl
    where
      by_test : (b : Bool) → is_taken class ≡ b → Cause world state command s t (cond b (errors.AlreadyExists message) (errors.RPCError class message))
      by_test true is = (⊎_elim (λ stands. inl (exists_by class stands.0 stands.1 is stands.2 stands.3)) (λ rose. inr rose) h, tt)
      by_test false is = (⊎_elim (λ stands. inl (lacks_by class stands.0 stands.1 is stands.2 stands.3)) (λ rose. inr rose) h, tt)
