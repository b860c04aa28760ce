-- A client makes a directory as a session does.
use Rattle.std.proofs.Common.{◌≡◌, ⊎_elim, ℕ, ◌<◌, Bool, true, false, List, [], ◌∷◌, Some, Ok, Err, refl, sym, ◌∙◌, ap, subst}
use Rattle.std.specs.Prelude.{Result}
use Rattle.hdfs_cluster.specs.declared.asks.Answer.{Answer}
use Rattle.hdfs_cluster.specs.declared.asks.Answer.TheVariants as answers
use Rattle.hdfs_cluster.specs.declared.asks.Ask.{Ask}
use Rattle.hdfs_cluster.specs.declared.asks.Ask.TheVariants as asks
use Rattle.hdfs_cluster.specs.declared.asks.AskFault.{AskFault}
use Rattle.hdfs_cluster.specs.declared.errors.ArgFault.TheVariants as args
use Rattle.hdfs_cluster.specs.declared.errors.HdfsError.{HdfsError}
use Rattle.hdfs_cluster.specs.declared.errors.HdfsError.TheVariants as errors
use Rattle.hdfs_cluster.specs.Files.{State}
use Rattle.hdfs_cluster.specs.Limits.{is_permission}
use Rattle.hdfs_cluster.specs.Picture.{Picture}
use Rattle.hdfs_cluster.specs.Refusals.{mkdirs_refusal}
use Rattle.hdfs_cluster.specs.Shown.{Served, Shown}
use Rattle.hdfs_cluster.specs.Stores.{AgreesAt}
use Rattle.hdfs_cluster.proofs.Frames.{same_picture_refl}
use Rattle.hdfs_cluster.proofs.NamesRepeating.{make_repeats}
use Rattle.hdfs_names.specs.Paths.{is_path}
use Rattle.hdfs_model.specs.declared.commands.Command.{Command}
use Rattle.hdfs_model.specs.declared.commands.Command.TheVariants as commands
use Rattle.hdfs_model.specs.declared.commands.Reply.TheVariants as replies
use Rattle.hdfs_model.specs.Headline.{Applied}
use Rattle.hdfs_model.specs.Scenes.{Ready}
use Rattle.hdfs_model.specs.Sessions.{spared}
use Rattle.hdfs_model.specs.Steps.{World, is_opened, target_of, with_directory}
use Rattle.hdfs_model.proofs.Deleted.{is_false}
use Rattle.hdfs_model.proofs.Made.{state_with_directory}
use Rattle.hdfs_namenode.specs.Asked.{as_answer}
use Rattle.hdfs_namenode.specs.Relaying.{Came}
use Rattle.hdfs_client.specs.Calls.{Gives, done}
use Rattle.hdfs_client.specs.Clients.{AsksAt, mounts_of, replacement_of}
use Rattle.hdfs_client.specs.declared.client.Client.{Client}
use Rattle.hdfs_commands.proofs.Agreeing.{agrees_but}
use Rattle.hdfs_commands.proofs.NameAsks.{dir_agrees, make_over, makes_step, may_make, was_dir}
use Rattle.hdfs_commands.proofs.Opening.{Over}
use Rattle.hdfs_commands.proofs.Refusing.{kinds_same}
use Rattle.hdfs_client_steps.specs.Steps.{Does, DoesAs, KeepsParts, Knows, holding, replied}
use Rattle.hdfs_client_steps.proofs.Applying.{absolute_path, agrees_of, came_others, done_applied, failed_applied, refused_does, same_defaults, still_others, told_of}
use Rattle.hdfs_client_steps.proofs.Knowing.{asked_stays, still_knows}
use Rattle.hdfs_client.proofs.Coming.{came_at}

module _ (permission : ℕ) (parents : Bool) where
  abbrev mkdirs : List ℕ → Command
  mkdirs at = commands.Mkdirs at permission parents

  module _ (s t : Shown) (path : List ℕ) (named : is_path path ≡ true) {opened : List ℕ → Bool} (closed : opened path ≡ false)
      (world : World) (state : State) (ready : Ready world (holding opened s) state (mkdirs path ∷ [])) where
    abbrev told : (p : Picture) × (s.picture ≡ Some p)
    told = told_of s world state (mkdirs path) ready

    agrees : (r : List ℕ) → AgreesAt told.0 (told.0.names r) (state.files r)
    agrees = agrees_of s world state (mkdirs path) ready

    called : target_of world (mkdirs path) ≡ path
    called = absolute_path world.home path named

    unopened : is_opened state path ≡ false
    unopened = ready.opened path ∙ closed

    made_over : Over told.0 world state (mkdirs path) path (asks.Mkdirs path permission parents)
    made_over = make_over path permission parents told.0 world state path agrees named unopened called

    -- permission bits that are out of their limits
    bits_applied : is_permission permission ≡ false
        → Applied world state (mkdirs path) (holding opened s) (holding opened s) (Err (errors.InvalidArgument args.Options))
    bits_applied out =
        failed_applied world state (mkdirs path) s s refl (λ byte lost. lost) (errors.InvalidArgument args.Options)
        ((out, tt), agrees_but (spared world state (mkdirs path) (errors.InvalidArgument args.Options)) s.picture state.files ready.fits.agrees)

    bits_does : t ≡ s → is_permission permission ≡ false → Does world state (mkdirs path) path opened s opened t (Err (errors.InvalidArgument args.Options))
    bits_does same out =
        subst (λ (x : Shown). Does world state (mkdirs path) path opened s opened x (Err (errors.InvalidArgument args.Options))) (sym same) (record {
          applied = bits_applied out;
          others = still_others opened path s s told.0 told.0 told.1 told.1 (same_picture_refl told.0).rest;
          defaults = refl;
        })

    -- an error of the ask
    unmade_does : (error : HdfsError) → Came s (asks.Mkdirs path permission parents) (Err error) t
        → Does world state (mkdirs path) path opened s opened t (Err error)
    unmade_does error came =
        refused_does world state (mkdirs path) s t told.0 told.1 path (asks.Mkdirs path permission parents) made_over ready.opened
        (λ q may. ⊎_elim (λ same. same.files.defaults) (λ made. made.1.bytes.defaults) (may_make path permission parents told.0 q may)) called
        (λ byte lost. lost) error came (make_repeats path permission parents told.0)

    module _ (limited : is_permission permission ≡ true) (there : Bool) (came : Came s (asks.Mkdirs path permission parents) (Ok (answers.Mkdirs there)) t) where
      -- the directory is there
      made_applied : Applied world state (mkdirs path) (holding opened s) (holding opened t) (Ok replies.Made)
      made_applied =
          let p = told.0 in
          let now = was_dir path permission parents p s t there told.1 came in
          done_applied world state (mkdirs path) s t replies.Made (with_directory state path) now.0
          (makes_step path permission parents p world state path agrees named unopened called now.0 now.2)
          (record { numbers = limited; attributes = tt; plain = record { bytes = λ moves. moves.0; file = λ opens. opens } })
          (state_with_directory state path parents ready.fits.is_state named
          (ap (λ k. mkdirs_refusal k path parents) (sym (kinds_same p state.files agrees)) ∙ now.2.0))
          now.1 (dir_agrees path permission parents p world state path agrees named unopened called now.0 now.2) ready.opened

      made_does : Does world state (mkdirs path) path opened s opened t (Ok replies.Made)
      made_does =
          let now = was_dir path permission parents told.0 s t there told.1 came in
          record {
            applied = made_applied;
            others =
                came_others world state (mkdirs path) s t told.0 told.1 path (asks.Mkdirs path permission parents) made_over ready.opened
                (Ok (answers.Mkdirs there)) came (make_repeats path permission parents told.0);
            defaults = same_defaults s t told.0 now.0 told.1 now.1 now.2.1.bytes.defaults;
          }

  module _ {C : Type 0} {shown : C → Shown} {serves : C → ℕ → Ask → Result Answer AskFault → C → Type 0}
      (rows : (old new : C) (i : ℕ) (ask : Ask) (result : Result Answer AskFault) → serves old i ask result new → Served (shown old) i ask result (shown new))
      (below : (c : C) (p : Picture) → (shown c).picture ≡ Some p → p.active < (shown c).namenodes)
      (client client' : Client) (src : List ℕ) (old new : C) where
    asked_does : is_permission permission ≡ true → (outcome : Result Bool HdfsError)
        → AsksAt serves true (λ at. asks.Mkdirs at permission parents) client src old (as_answer answers.Mkdirs outcome) client' new
        → DoesAs client src mkdirs (shown old) client' (shown new) (replied {T = Unit {0}} (λ made. replies.Made) (done outcome))
    asked_does limited (Ok there) at = λ reaches to leads named opened placed world state ready.
        still_knows (asked_stays at)
        (made_does (shown old) (shown new) to.path named (is_false (opened to.path) placed) world state ready limited there (came_at rows below at reaches to leads))
    asked_does limited (Err error) at = λ reaches to leads named opened placed world state ready.
        still_knows (asked_stays at)
        (unmade_does (shown old) (shown new) to.path named (is_false (opened to.path) placed) world state ready error (came_at rows below at reaches to leads))

    -- What `mkdirs` of a client ensures is what the command does. Over any cluster.
    pub mkdirs_does : (result : Result (Unit {0}) HdfsError)
        → (is_permission permission ≡ false → (result ≡ Err (errors.InvalidArgument args.Options)) × (client' ≡ client) × (new ≡ old))
        → (is_permission permission ≡ true → Gives serves true (λ at. asks.Mkdirs at permission parents) answers.Mkdirs client src old client' new
        (λ made. result ≡ done made))
        → DoesAs client src mkdirs (shown old) client' (shown new) (replied {T = Unit {0}} (λ made. replies.Made) result)
    mkdirs_does result refused asked = by (is_permission permission) refl
      where
        As : Result (Unit {0}) HdfsError → Type 0
        As r = DoesAs client src mkdirs (shown old) client' (shown new) (replied {T = Unit {0}} (λ made. replies.Made) r)

        by : (b : Bool) → is_permission permission ≡ b → As result
        by true is = let gives = asked is in subst As (sym gives.has) (asked_does is gives.outcome gives.asks)
        by false is =
            let none = refused is in
            subst As (sym none.0)
            (λ reaches to leads named opened placed world state ready. (
              bits_does (shown old) (shown new) to.path named (is_false (opened to.path) placed) world state ready (ap shown none.2) is,
              λ knows. (let same = ap shown none.2 in
                  subst (λ (c : Client). Knows c (shown new)) (sym none.1) (subst (Knows client) (sym same) knows)),
            ))

    -- and its mounts and its policy stay
    pub mkdirs_parts : (result : Result (Unit {0}) HdfsError)
        → (is_permission permission ≡ false → (result ≡ Err (errors.InvalidArgument args.Options)) × (client' ≡ client) × (new ≡ old))
        → (is_permission permission ≡ true → Gives serves true (λ at. asks.Mkdirs at permission parents) answers.Mkdirs client src old client' new
        (λ made. result ≡ done made))
        → KeepsParts client client'
    mkdirs_parts result refused asked = by (is_permission permission) refl
      where
        by : (b : Bool) → is_permission permission ≡ b → KeepsParts client client'
        by true is = (let others = (asked is).asks.others in (others.mounts, others.replacement))
        by false is = (ap mounts_of (refused is).1, ap replacement_of (refused is).1)
