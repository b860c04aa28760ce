-- A client deletes as a session does.
use Rattle.std.proofs.Common.{◌≡◌, ◌≢◌, inl, inr, ⊎_elim, ℕ, ◌<◌, Bool, true, false, List, [], ◌∷◌, Option, Some, None, Ok, Err, refl}
use Rattle.std.specs.Prelude.{IfOk, Result}
use Rattle.hdfs_cluster.specs.declared.asks.Answer.{Answer}
use Rattle.hdfs_cluster.specs.declared.asks.Answer.TheVariants as answers
use Rattle.hdfs_cluster.specs.declared.asks.Ask.{Ask}
use Rattle.hdfs_cluster.specs.declared.asks.Ask.TheVariants as asks
use Rattle.hdfs_cluster.specs.declared.asks.AskFault.{AskFault}
use Rattle.hdfs_cluster.specs.declared.errors.HdfsError.{HdfsError}
use Rattle.hdfs_cluster.specs.declared.picture.Entry.{Entry}
use Rattle.hdfs_cluster.specs.Failures.{CallsRose}
use Rattle.hdfs_cluster.specs.Files.{Node, State}
use Rattle.hdfs_cluster.specs.Picture.{Picture}
use Rattle.hdfs_cluster.specs.Shown.{Served, Shown}
use Rattle.hdfs_cluster.specs.Sound.{IsSound}
use Rattle.hdfs_cluster.specs.Stores.{AgreesAt}
use Rattle.hdfs_cluster.proofs.NamesRepeating.{delete_repeats}
use Rattle.hdfs_names.specs.Paths.{root, is_path}
use Rattle.hdfs_model.specs.declared.commands.Command.{Command}
use Rattle.hdfs_model.specs.declared.commands.Command.TheVariants as commands
use Rattle.hdfs_model.specs.declared.commands.Reply.TheVariants as replies
use Rattle.hdfs_model.specs.Headline.{Applied}
use Rattle.hdfs_model.specs.Owing.{IsMisplaced}
use Rattle.hdfs_model.specs.Scenes.{Ready}
use Rattle.hdfs_model.specs.Steps.{World, is_opened_within, target_of}
use Rattle.hdfs_model.proofs.Deleted.{here, is_false, state_without, without_path}
use Rattle.hdfs_model.proofs.Misplaced.{within_opened}
use Rattle.hdfs_namenode.specs.Asked.{as_answer}
use Rattle.hdfs_namenode.specs.Relaying.{Came, RelaysTold}
use Rattle.hdfs_client.specs.Clients.{AsksAt}
use Rattle.hdfs_client.specs.declared.client.Client.{Client}
use Rattle.hdfs_commands.proofs.NameAsks.{delete_over, goes_step, gone_agrees, may_go, was_gone}
use Rattle.hdfs_commands.proofs.Opening.{Over}
use Rattle.hdfs_client_steps.specs.Steps.{Does, DoesAs, SaysGone, WhereReadyAt, holding, replied}
use Rattle.hdfs_client_steps.proofs.Applying.{absolute_path, agrees_of, came_others, done_applied, refused_does, same_defaults, told_of}
use Rattle.hdfs_client_steps.proofs.Knowing.{asked_stays, still_knows}
use Rattle.hdfs_client.proofs.Coming.{came_at}

-- where a picture that agrees has nothing, nothing stands there
none_there : (p : Picture) (entry : Option Entry) (node : Option Node) → AgreesAt p entry node → entry ≡ None → node ≡ None
none_there p None None h none = refl
none_there p None (Some node) h none = absurd h
none_there p (Some entry) other h none = absurd (cc none)

module _ (recursive : Bool) where
  abbrev deletes : List ℕ → Command
  deletes at = commands.Delete at recursive

  module _ (s t : Shown) (sound : (p : Picture) → s.picture ≡ Some p → IsSound p) (path : List ℕ) (named : is_path path ≡ true) {opened : List ℕ → Bool}
      (placed : IsMisplaced opened path (deletes path) → ⊥) (world : World) (state : State)
      (ready : Ready world (holding opened s) state (deletes path ∷ [])) where
    abbrev told : (p : Picture) × (s.picture ≡ Some p)
    told = told_of s world state (deletes path) ready

    agrees : (r : List ℕ) → AgreesAt told.0 (told.0.names r) (state.files r)
    agrees = agrees_of s world state (deletes path) ready

    called : target_of world (deletes path) ≡ path
    called = absolute_path world.home path named

    apart : path ≢ root
    apart is = placed (inl is)

    shut : is_opened_within state path ≡ false
    shut = is_false (is_opened_within state path) (λ is. placed (inr (within_opened opened state ready.opened path is)))

    gone_over : Over told.0 world state (deletes path) path (asks.Delete path recursive)
    gone_over = delete_over path recursive told.0 world state path ready.fits.is_state (sound told.0 told.1) agrees named apart shut called

    -- an error of the ask
    kept_does : (error : HdfsError) → Came s (asks.Delete path recursive) (Err error) t → Does world state (deletes path) path opened s opened t (Err error)
    kept_does error came =
        refused_does world state (deletes path) s t told.0 told.1 path (asks.Delete path recursive) gone_over ready.opened
        (λ q may. ⊎_elim (λ same. same.files.defaults) (λ goes. goes.1.defaults) (may_go path recursive told.0 q may)) called (λ byte lost. lost) error came
        (delete_repeats path recursive told.0)

    module _ (gone : Bool) (came : Came s (asks.Delete path recursive) (Ok (answers.Delete gone)) t) where
      -- what stood there is gone
      gone_applied : Applied world state (deletes path) (holding opened s) (holding opened t) (Ok replies.Deleted)
      gone_applied =
          let p = told.0 in
          let now = was_gone path recursive p s t gone told.1 came in
          let is_sound = sound p told.1 in
          done_applied world state (deletes path) s t replies.Deleted (without_path state path) now.0
          (goes_step path recursive p world state path ready.fits.is_state is_sound agrees named apart shut called now.0 now.2)
          (record { numbers = refl; attributes = tt; plain = record { bytes = λ moves. moves.0; file = λ opens. opens } })
          (state_without state path ready.fits.is_state named apart) now.1
          (gone_agrees path recursive p world state path ready.fits.is_state is_sound agrees named apart shut called now.0 now.2) ready.opened

      gone_does : Does world state (deletes path) path opened s opened t (Ok replies.Deleted)
      gone_does =
          let now = was_gone path recursive told.0 s t gone told.1 came in
          record {
            applied = gone_applied;
            others =
                came_others world state (deletes path) s t told.0 told.1 path (asks.Delete path recursive) gone_over ready.opened
                (Ok (answers.Delete gone)) came (delete_repeats path recursive told.0);
            defaults = same_defaults s t told.0 now.0 told.1 now.1 (⊎_elim (λ goes. goes.1.defaults) (λ none. none.1.files.defaults) now.2);
          }

      -- and the answer says whether something did
      gone_says : SaysGone gone state path s t
      gone_says = let to = came.told told.0 told.1 (delete_repeats path recursive told.0) in by gone to.0 to.2
        where
          by : (b : Bool) (q : Picture) → RelaysTold (CallsRose s.counts t) told.0 (asks.Delete path recursive) (Ok (answers.Delete b)) q → SaysGone b state path s t
          by true q (inl row) = here told.0 (told.0.names path) (state.files path) (agrees path) row.0.there
          by true q (inr (inl again)) = absurd (let is = again.0 in cc is)
          by true q (inr (inr denied)) = absurd (let is = denied.0 in cc is)
          by false q (inl row) =
              ⊎_elim (λ at_root. absurd (apart at_root)) (λ missing. inl (none_there told.0 (told.0.names path) (state.files path) (agrees path) missing.0)) row.0
          by false q (inr (inl again)) = inr again.1
          by false q (inr (inr denied)) = absurd (let is = denied.0 in cc is)

  module _ {C : Type 0} {shown : C → Shown} {serves : C → ℕ → Ask → Result Answer AskFault → C → Type 0}
      (rows : (old new : C) (i : ℕ) (ask : Ask) (result : Result Answer AskFault) → serves old i ask result new → Served (shown old) i ask result (shown new))
      (below : (c : C) (p : Picture) → (shown c).picture ≡ Some p → p.active < (shown c).namenodes)
      (sound : (c : C) (p : Picture) → (shown c).picture ≡ Some p → IsSound p) (client client' : Client) (src : List ℕ) (old new : C) where
    -- What `delete` of a client ensures is what the command does.
    pub delete_does : (result : Result Bool HdfsError)
        → AsksAt serves true (λ at. asks.Delete at recursive) client src old (as_answer answers.Delete result) client' new
        → DoesAs client src deletes (shown old) client' (shown new) (replied (λ gone. replies.Deleted) result)
    delete_does (Ok gone) at = λ reaches to leads named opened placed world state ready.
        still_knows (asked_stays at)
        (gone_does (shown old) (shown new) (sound old) to.path named placed world state ready gone (came_at rows below at reaches to leads))
    delete_does (Err error) at = λ reaches to leads named opened placed world state ready.
        still_knows (asked_stays at)
        (kept_does (shown old) (shown new) (sound old) to.path named placed world state ready error (came_at rows below at reaches to leads))

    -- And its answer says whether something stood there.
    pub delete_says : (result : Result Bool HdfsError)
        → AsksAt serves true (λ at. asks.Delete at recursive) client src old (as_answer answers.Delete result) client' new
        → IfOk result (λ gone. WhereReadyAt client src deletes (shown old) (λ opened path world state. SaysGone gone state path (shown old) (shown new)))
    delete_says (Ok gone) at = λ reaches to leads named opened placed world state ready.
        gone_says (shown old) (shown new) (sound old) to.path named placed world state ready gone (came_at rows below at reaches to leads)
    delete_says (Err error) at = tt
