-- A client reads a range of a file, by a reader that is let go then, as a session does.
use Rattle.std.proofs.Common.{◌≡◌, inl, inr, ℕ, ◌-◌, ◌^◌, ◌<◌, Bool, true, false, List, [], ◌∷◌, Option, Some, None, Ok, Err, refl, sym, subst}
use Rattle.std.specs.Prelude.{Result}
use Rattle.hdfs_cluster.specs.declared.asks.Answer.{Answer}
use Rattle.hdfs_cluster.specs.declared.asks.Answer.TheVariants as answers
use Rattle.hdfs_cluster.specs.declared.asks.Ask.{Ask}
use Rattle.hdfs_cluster.specs.declared.asks.Ask.TheVariants as asks
use Rattle.hdfs_cluster.specs.declared.asks.AskFault.{AskFault}
use Rattle.hdfs_cluster.specs.declared.errors.HdfsError.{HdfsError}
use Rattle.hdfs_cluster.specs.declared.errors.HdfsError.TheVariants as errors
use Rattle.hdfs_cluster.specs.declared.messages.LocatedBlocks.{LocatedBlocks}
use Rattle.hdfs_cluster.specs.Files.{State}
use Rattle.hdfs_cluster.specs.Picture.{Picture}
use Rattle.hdfs_cluster.specs.Shown.{Served, Shown}
use Rattle.hdfs_names.specs.Paths.{is_path}
use Rattle.hdfs_model.specs.declared.commands.Command.{Command}
use Rattle.hdfs_model.specs.declared.commands.Command.TheVariants as commands
use Rattle.hdfs_model.specs.Causes.{Cause}
use Rattle.hdfs_model.specs.Scenes.{Ready}
use Rattle.hdfs_model.specs.Steps.{World}
use Rattle.hdfs_namenode.specs.Asked.{as_answer}
use Rattle.hdfs_namenode.specs.Relaying.{Came}
use Rattle.hdfs_file_reader.proofs.Looking.{files_looked, found_looked, looks_from-Leaves, vain_error, vain_missing}
use Rattle.hdfs_client.specs.Calls.{Gives}
use Rattle.hdfs_client.specs.Readers.{Opens}
use Rattle.hdfs_client.specs.declared.client.Client.{Client}
use Rattle.hdfs_client.proofs.Coming.{came_at}
use Rattle.hdfs_commands.specs.Meeting.{Meets}
use Rattle.hdfs_commands.proofs.Causing.{agrees_looked, encrypted_cause, looked_cause}
use Rattle.hdfs_client_steps.specs.OpenFiles.{ReadsAs}
use Rattle.hdfs_client_steps.specs.Steps.{Does, holding}
use Rattle.hdfs_client_steps.proofs.Knowing.{asked_stays, knows_stays}
use Rattle.hdfs_client_steps.proofs.ReadMeets.{read_meets, read_refused}

-- the ask for all blocks of a file
abbrev pub locating : List ℕ → Ask
locating path = asks.GetBlockLocations path 0 (2 ^ 63 - 1)

-- ---- there is no reader

module _ (s t : Shown) (given path : List ℕ) (offset len : ℕ) (named : is_path path ≡ true) (opened : List ℕ → Bool) (placed : opened path ≡ true → ⊥) (world : World)
    (state : State) (ready : Ready world (holding opened s) state (commands.Read path offset len ∷ [])) where
  abbrev reading : Command
  reading = commands.Read path offset len

  meets : Meets world s state path path
  meets = read_meets s path offset len named opened placed world state ready

  -- an error of the look-up has its cause
  unread_cause : (outcome : Result (Option LocatedBlocks) HdfsError) (error : HdfsError) → Opens given outcome (Err error)
      → Came s (locating path) (as_answer answers.GetBlockLocations outcome) t → Cause world state reading s t error
  unread_cause (Ok (Some found)) error has came =
      subst (Cause world state reading s t) (sym has.1.0)
      (encrypted_cause world s t state path path offset len meets (files_looked came) found (λ p told closed. found_looked came p told closed (refl, refl)) has.1.1)
  unread_cause (Ok None) error (inl missing) came =
      let same : error ≡ errors.FileNotFound given = cc missing in
      subst (Cause world state reading s t) (sym same)
      (looked_cause world s t state path path offset len meets (errors.FileNotFound path) (vain_missing {name = path} refl came).why)
  unread_cause (Ok None) error (inr memory) came =
      let same : error ≡ errors.NoMemory = cc memory in
      subst (Cause world state reading s t) (sym same) (tt, tt)
  unread_cause (Err other) error has came =
      let same : error ≡ other = cc has in
      subst (Cause world state reading s t) (sym same) (looked_cause world s t state path path offset len meets other (vain_error {name = path} came).why)

  unread_at : (outcome : Result (Option LocatedBlocks) HdfsError) (error : HdfsError) → Opens given outcome (Err error)
      → Came s (locating path) (as_answer answers.GetBlockLocations outcome) t → Does world state reading path opened s opened t (Err error)
  unread_at outcome error has came =
      let looks = looks_from-Leaves s t came.relays.leaves in
      let files = files_looked came in
      read_refused s path offset len named opened placed world state ready t looks.links files looks.later error (unread_cause outcome error has came)
      (agrees_looked world s t state path path offset len meets files)

module _ {C : Type 0} {shown : C → Shown} {serves : C → ℕ → Ask → Result Answer AskFault → C → Type 0}
    (rows : (old new : C) (i : ℕ) (ask : Ask) (result : Result Answer AskFault) → serves old i ask result new → Served (shown old) i ask result (shown new))
    (below : (c : C) (p : Picture) → (shown c).picture ≡ Some p → p.active < (shown c).namenodes)
    (client client' : Client) (src : List ℕ) (offset len : ℕ) (old new : C) where
  -- A client that has no reader of the file answers what the session does.
  pub unread_does : (error : HdfsError) → Gives serves false locating answers.GetBlockLocations client src old client' new (λ found. Opens src found (Err error))
      → ReadsAs client src offset len (shown old) client' (shown new) (Err error)
  unread_does error gives = λ knows reaches to leads named opened placed world state ready same.
      (let does = unread_at (shown old) (shown new) src to.path offset len named opened placed world state ready gives.outcome error gives.has
      (came_at rows below gives.asks reaches to leads) in
      (does, knows_stays (shown old) (shown new) (asked_stays gives.asks) does.defaults knows))
