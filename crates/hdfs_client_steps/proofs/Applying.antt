-- What came of a command, as a program says it that has files open.
use Rattle.std.proofs.Common.{◌≡◌, inl, inr, ℕ, Bool, true, cond, List, [], ◌∷◌, ◌++◌, Option, Some, Ok, Err, sym, ◌∙◌, ap, subst}
use Rattle.std.specs.Prelude.{◌||◌, Result}
use Rattle.std.proofs.lemmas.Bool.{false≢true}
use Rattle.std.specs.List.{list_all, slice_split}
use Rattle.std.specs.Str.{bytes_eq}
use Rattle.hdfs_cluster.specs.declared.asks.Answer.{Answer}
use Rattle.hdfs_cluster.specs.declared.asks.Ask.{Ask}
use Rattle.hdfs_cluster.specs.declared.errors.HdfsError.{HdfsError}
use Rattle.hdfs_cluster.specs.Failures.{CallsRose}
use Rattle.hdfs_cluster.specs.Files.{IsState, State}
use Rattle.hdfs_cluster.specs.Namenode.{MayBeDone}
use Rattle.hdfs_cluster.specs.Picture.{Picture, SameButActive}
use Rattle.hdfs_cluster.specs.Repeating.{Repeats}
use Rattle.hdfs_cluster.specs.Shown.{Shown}
use Rattle.hdfs_cluster.specs.Stores.{Agrees, AgreesAt}
use Rattle.hdfs_cluster.proofs.Frames.{never_fall_refl}
use Rattle.hdfs_names.specs.Paths.{absolute, is_component, is_path, is_slash}
use Rattle.hdfs_model.specs.declared.commands.Command.{Command}
use Rattle.hdfs_model.specs.declared.commands.Reply.{Reply}
use Rattle.hdfs_model.specs.Causes.{Cause, CommandLost}
use Rattle.hdfs_model.specs.Headline.{Applied}
use Rattle.hdfs_model.specs.Scenes.{Ready}
use Rattle.hdfs_model.specs.Sessions.{IsLimited, SameOpened, defaults_of}
use Rattle.hdfs_model.specs.Steps.{Done, World, step, target_of}
use Rattle.hdfs_model.proofs.Both.{both_true}
use Rattle.hdfs_model.proofs.Completing.{cause_completes}
use Rattle.hdfs_namenode.specs.Relaying.{Came, RelaysTold, TellsAsk}
use Rattle.hdfs_namenode.proofs.Relayed.{relayed_done}
use Rattle.hdfs_commands.proofs.Acted.{Fails, spares_but}
use Rattle.hdfs_commands.proofs.Agreeing.{agrees_told, is_told}
use Rattle.hdfs_commands.proofs.Failing.{may_be_done}
use Rattle.hdfs_commands.proofs.Opening.{Over}
use Rattle.hdfs_commands.proofs.Refusing.{ask_not_early, exception_cause, rose_cause}
use Rattle.hdfs_commands.proofs.Still.{file_stays}
use Rattle.hdfs_file_writer.specs.Tails.{FileCarries}
use Rattle.hdfs_client_steps.specs.Steps.{Does, KeepsAt, KeepsCarried, holding}

-- what is a path by the path rule stands for itself
pub absolute_path : (home path : List ℕ) → is_path path ≡ true → absolute home path ≡ path
absolute_path home [] named = absurd (false≢true named)
absolute_path home (c ∷ rest) named =
    ap (λ (b : Bool). cond b (c ∷ rest) (home ++ 47 ∷ c ∷ rest))
    (both_true (is_slash c) (bytes_eq rest [] || list_all is_component (slice_split is_slash rest)) named).0

-- The picture that is told, which agrees with the files, and the path at which the command is done.
module _ (s : Shown) (world : World) (state : State) (command : Command) {opened : List ℕ → Bool} (ready : Ready world (holding opened s) state (command ∷ [])) where
  abbrev pub told_of : (p : Picture) × (s.picture ≡ Some p)
  told_of = is_told s.picture state.files ready.fits.agrees

  pub agrees_of : (r : List ℕ) → AgreesAt told_of.0 (told_of.0.names r) (state.files r)
  agrees_of = agrees_told s.picture told_of.0 state.files ready.fits.agrees told_of.1

module _ (world : World) (state : State) (command : Command) (s t : Shown) (p : Picture) (path : List ℕ) (ask : Ask)
    (over : Over p world state command path ask) where
  asked_cause : (error : HdfsError) → TellsAsk s t error → (q : Picture) → RelaysTold (CallsRose s.counts t) p ask (Err error) q
      → Cause world state command s t error
  asked_cause error tells q (inl memory) = subst (Cause world state command s t) (sym memory.0) (tt, tt)
  asked_cause error tells q (inr (inl refused)) =
      let by = refused.0 in
      subst (Cause world state command s t) (sym by.3) (exception_cause world state command s t by.0 by.1 (inl (over.refused by.0 by.2)))
  asked_cause error tells q (inr (inr rose)) = rose_cause world state command s s t error (never_fall_refl s.counts) tells rose.0

-- where a picture's files and links stay, so does what the writer of a file carries
pub still_at : (path : List ℕ) (s t : Shown) (p q : Picture) → s.picture ≡ Some p → t.picture ≡ Some q → SameButActive p q → KeepsAt path s t
still_at path s t p q was now still = λ p' q' was' now' tail bytes c.
    (let one : p' ≡ p = cc (was, was') in
    let two : q ≡ q' = cc (now, now') in
    subst (λ (x : Picture). FileCarries x path tail bytes) two
    (file_stays p q still.files still.writes path tail bytes (subst (λ (x : Picture). FileCarries x path tail bytes) one c)))

-- so does what the writers of all files carry
pub still_others : (opened : List ℕ → Bool) (path : List ℕ) (s t : Shown) (p q : Picture) → s.picture ≡ Some p → t.picture ≡ Some q → SameButActive p q
    → KeepsCarried opened path s t
still_others opened path s t p q was now still = λ p' q' was' now' other has apart. still_at other s t p q was now still p' q' was' now'

-- a cluster has the defaults that it had where its picture has
pub same_defaults : (s t : Shown) (p q : Picture) → s.picture ≡ Some p → t.picture ≡ Some q → q.defaults ≡ p.defaults
    → defaults_of t.picture ≡ defaults_of s.picture
same_defaults s t p q was now same = ap defaults_of now ∙ same ∙ sym (ap defaults_of was)

module _ (world : World) (state : State) (command : Command) (s t : Shown) {before after : List ℕ → Bool} where
  -- an error that has its cause
  pub failed_applied : t.namenodes ≡ s.namenodes → ((byte : ℕ) → CommandLost s.counts t (target_of world command) command byte → ⊥)
      → (error : HdfsError) → Fails world state command s t error → Applied world state command (holding before s) (holding after t) (Err error)
  failed_applied size lost error fails = record {
    ok = tt;
    err = fails;
    complete = λ limited none. cause_completes world state command s t size limited none lost error fails.0;
  }

  -- a reply
  pub done_applied : (reply : Reply) (next : State) (q : Picture) → step world state command ≡ Done reply next → IsLimited world state command
      → IsState next → t.picture ≡ Some q → ((r : List ℕ) → AgreesAt q (q.names r) (next.files r)) → SameOpened after next
      → Applied world state command (holding before s) (holding after t) (Ok reply)
  done_applied reply next q steps limited is_state now agrees opened = record {
    ok = (
      next,
      steps,
      limited,
      record { is_state = is_state; agrees = subst (λ (o : Option Picture). Agrees o next.files) (sym now) agrees },
      opened,
    );
    err = tt;
    complete = tt;
  }

  module _ (p : Picture) (was : s.picture ≡ Some p) (path : List ℕ) (called : target_of world command ≡ path) (ask : Ask)
      (over : Over p world state command path ask) where
    -- an error of the ask
    pub refused_applied : ((byte : ℕ) → CommandLost s.counts t (target_of world command) command byte → ⊥) → (error : HdfsError)
        → Came s ask (Err error) t → Repeats ask p → Applied world state command (holding before s) (holding after t) (Err error)
    refused_applied lost error came repeats =
        let to = came.told p was repeats in
        let may = may_be_done ask p to.0 (relayed_done (CallsRose s.counts t) p ask (Err error) to.0 tt to.2) in
        failed_applied came.relays.leaves.later.namenodes lost error (
          asked_cause world state command s t p path ask over error came.relays.tells to.0 to.2,
          spares_but world state command error path t.picture to.0 called (ask_not_early s t error came.relays.tells) to.1 (over.spares to.0 may)
              (λ why is. over.unchanged why is to.0 may),
        )

-- whatever came of an ask, it may have been done
pub came_done : (s t : Shown) (p : Picture) → s.picture ≡ Some p → (ask : Ask) (result : Result Answer HdfsError) → Came s ask result t → Repeats ask p
    → (q : Picture) × (t.picture ≡ Some q) × MayBeDone ask p q
came_done s t p was ask result came repeats =
    let to = came.told p was repeats in
    (to.0, to.1, may_be_done ask p to.0 (relayed_done (CallsRose s.counts t) p ask result to.0 came.relays.shaped to.2))

module _ (world : World) (state : State) (command : Command) (s t : Shown) {before : List ℕ → Bool} (p : Picture) (was : s.picture ≡ Some p) (path : List ℕ)
    (ask : Ask) (over : Over p world state command path ask) (same : SameOpened before state) where
  -- The writers of the files that are open carry what they carried, whatever came of the ask.
  pub came_others : (result : Result Answer HdfsError) → Came s ask result t → Repeats ask p → KeepsCarried before path s t
  came_others result came repeats = λ p' q' was' now' other has apart tail bytes c.
      (let to = came_done s t p was ask result came repeats in
      let now = to.1 in
      let one : p' ≡ p = cc (was, was') in
      let two : to.0 ≡ q' = cc (now, now') in
      subst (λ (x : Picture). FileCarries x other tail bytes) two
      (over.keeps to.0 to.2 other tail bytes (same other ∙ has) (subst (λ (x : Picture). FileCarries x other tail bytes) one c)))

  -- An error of the ask, as what a call did.
  pub refused_does : {after : List ℕ → Bool} → ((q : Picture) → MayBeDone ask p q → q.defaults ≡ p.defaults) → target_of world command ≡ path
      → ((byte : ℕ) → CommandLost s.counts t (target_of world command) command byte → ⊥) → (error : HdfsError) → Came s ask (Err error) t → Repeats ask p
      → Does world state command path before s after t (Err error)
  refused_does keeps called lost error came repeats = record {
    applied = refused_applied world state command s t p was path called ask over lost error came repeats;
    others = came_others (Err error) came repeats;
    defaults = (let to = came_done s t p was ask (Err error) came repeats in same_defaults s t p to.0 was to.1 (keeps to.0 to.2));
  }
