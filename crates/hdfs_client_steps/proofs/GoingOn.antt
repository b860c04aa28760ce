-- A program goes on behind an error of a command that the state refuses: nothing changed of what it carries. Behind any call it writes by the same
-- world.
use Rattle.std.proofs.Common.{◌≡◌, ◌≢◌, ℕ, Bool, true, false, not, ◌&&◌, List, [], Some, Err, refl, sym, ◌∙◌, ap}
use Rattle.std.specs.Prelude.{Result}
use Rattle.std.proofs.lemmas.List.Elements.{All-cons, All-nil}
use Rattle.hdfs_cluster.specs.declared.errors.HdfsError.{HdfsError}
use Rattle.hdfs_cluster.specs.Files.{State}
use Rattle.hdfs_cluster.specs.Fitting.{Fits}
use Rattle.hdfs_cluster.specs.Shown.{Shown}
use Rattle.hdfs_names.specs.Paths.{is_path}
use Rattle.hdfs_names.specs.declared.mounts.Resolved.{Resolved}
use Rattle.hdfs_names.specs.declared.replacement.ReplaceDatanodeOnFailure.{ReplaceDatanodeOnFailure}
use Rattle.hdfs_rebuild.specs.declared.block_plan.RebuildSettings.{RebuildSettings}
use Rattle.hdfs_model.specs.declared.commands.Command.{Command}
use Rattle.hdfs_model.specs.declared.commands.Reply.{Reply}
use Rattle.hdfs_model.specs.Owing.{IsMisplaced}
use Rattle.hdfs_model.specs.Sessions.{Avoids, does, is_before_asking, spared, touched}
use Rattle.hdfs_model.specs.Steps.{Outcome, Refusal, Refused, World, step, target_of}
use Rattle.hdfs_client.specs.Clients.{leads_to}
use Rattle.hdfs_client.specs.Writing.{ReachesWhole, rebuilding_of}
use Rattle.hdfs_client.specs.declared.client.Client.{Client}
use Rattle.hdfs_client.specs.declared.writing.FileWriter.{FileWriter}
use Rattle.hdfs_commands.proofs.Agreeing.{agrees_from-AgreesBut}
use Rattle.hdfs_client_steps.specs.OpenFiles.{Holds, IsWorldOf}
use Rattle.hdfs_client_steps.specs.Steps.{Carries, Does, DoesAs, KeepsParts}
use Rattle.hdfs_client_steps.proofs.Carrying.{holds_by}

-- a client's pipelines are rebuilt as they were where its policy stays
abbrev going_by : ReplaceDatanodeOnFailure → RebuildSettings
going_by replace = record { replace = replace; rebuild_limit = 8; window = 100 }

pub rebuilds_same : (client client' : Client) → KeepsParts client client' → rebuilding_of client' ≡ rebuilding_of client
rebuilds_same client client' parts = ap going_by parts.1

-- and its world is what it was, whatever came of a call
pub world_still : {client client' : Client} {world : World} {state : State} {command : Command} {path : List ℕ} {before after : List ℕ → Bool} {old new : Shown}
    {result : Result Reply HdfsError} → Does world state command path before old after new result → KeepsParts client client' → IsWorldOf client old world
    → IsWorldOf client' new world
world_still did parts is = record {
  defaults = is.defaults ∙ sym did.defaults;
  rebuilds = is.rebuilds;
  setups = is.setups;
  policy = is.policy ∙ ap (λ (r : ReplaceDatanodeOnFailure). r.policy) (sym parts.1);
  best_effort = is.best_effort ∙ ap (λ (r : ReplaceDatanodeOnFailure). r.best_effort) (sym parts.1);
}

module _ (world : World) (state : State) (command : Command) (why : Refusal) (refused : step world state command ≡ Refused why) where
  -- nothing is spared where the step refuses
  spares_none : (error : HdfsError) (r : List ℕ) → spared world state command error r ≡ false
  spares_none error r =
      ap (λ (o : Outcome). not (is_before_asking error) && does o && touched state (target_of world command) command r) refused
      ∙ by (not (is_before_asking error))
    where
      by : (b : Bool) → (b && false && touched state (target_of world command) command r) ≡ false
      by true = refl
      by false = refl

  module _ (path : List ℕ) {before after : List ℕ → Bool} (old new : Shown) (error : HdfsError)
      (did : Does world state command path before old after new (Err error)) (fits : Fits old state) where
    -- the cluster fits the same state
    pub fits_still : Fits new state
    fits_still = record {
      is_state = fits.is_state;
      agrees = agrees_from-AgreesBut (spared world state command error) new.picture state.files (spares_none error) did.applied.err.1;
    }

    -- and who holds another file holds it
    pub holds_still : (client client' : Client) → KeepsParts client client' → (other : List ℕ) → before other ≡ true → other ≢ path → (writer : FileWriter)
        → Holds client old state other writer → Holds client' new state other writer
    holds_still client client' parts other has apart writer holds =
        holds_by client client' world state state command path old new (Err error) did (rebuilds_same client client' parts) fits other has apart writer (λ content is. is) holds

-- Behind an error of a call that the state refuses a program carries on with the same state.
pub goes_on_refused : (client client' : Client) (src : List ℕ) (command : List ℕ → Command) (old new : Shown) (error : HdfsError)
    → DoesAs client src command old client' new (Err error) → ReachesWhole client src old → (to : Resolved) → leads_to client src ≡ Some to
    → is_path to.path ≡ true → (opened : List ℕ → Bool) → (IsMisplaced opened to.path (command to.path) → ⊥) → (world : World) (state : State)
    → Carries opened client old state → Avoids world state (command to.path) → (why : Refusal) → step world state (command to.path) ≡ Refused why
    → Carries opened client' new state
goes_on_refused client client' src command old new error does reaches to leads named opened placed world state carries avoids why refused =
    let did = does reaches to leads named opened placed world state (record {
      fits = carries.fits;
      opened = carries.same;
      avoids = All-cons (Avoids world state) (command to.path) [] avoids (All-nil (Avoids world state));
    }) in
    record {
      fits = fits_still world state (command to.path) why refused to.path old new error did.0 carries.fits;
      same = carries.same;
      knows = did.1 carries.knows;
    }
