-- What a session makes of the blocks of files from command to command, and what it leaves of them.
use Rattle.std.proofs.Common.{◌≡◌, ◌≢◌, inl, inr, ⊎_elim, ℕ, zero, suc, ◌+◌, ◌-◌, ◌<◌, Bool, false, List, [], ◌∷◌, ◌++◌, length, take, get_or, Option, Some, None, Ok, Err, Vec, refl, sym, ◌∙◌, ap, subst, arith}
use Rattle.std.specs.Prelude.{Contains}
use Rattle.std.specs.declared.alloc.Global.{Global}
use Rattle.std.specs.List.{slice_get}
use Rattle.std.specs.Str.{bytes_eq}
use Rattle.std.proofs.lemmas.List.{take_more}
use Rattle.std.proofs.lemmas.List.Elements.{Contains-append_cases}
use Rattle.std.proofs.lemmas.Option.{slice_get_read}
use Rattle.hdfs_model.specs.declared.commands.Command.{Command}
use Rattle.hdfs_model.specs.declared.commands.Command.TheVariants as variants
use Rattle.hdfs_model.specs.declared.commands.Reply.{Reply}
use Rattle.hdfs_model.specs.declared.commands.WriteOptions.{WriteOptions}
use Rattle.hdfs_model.specs.declared.commands.Fault.{Fault}
use Rattle.hdfs_cluster.specs.declared.picture.FileEntry.{FileEntry}
use Rattle.hdfs_cluster.specs.Effects.{blocks_at}
use Rattle.hdfs_cluster.specs.Files.{State, File, Content}
use Rattle.hdfs_model.specs.Folds.{Ends, fold}
use Rattle.hdfs_names.specs.Paths.{absolute}
use Rattle.hdfs_cluster.specs.Picture.{Picture}
use Rattle.hdfs_model.specs.Sessions.{none_open}
use Rattle.hdfs_cluster.specs.Shown.{Shown, SameReads, SameReadPlaces}
use Rattle.hdfs_cluster.specs.Sound.{IsFileAt}
use Rattle.hdfs_model.specs.Steps.{World, target_of}
use Rattle.hdfs_cluster.proofs.Frames.{told_before}
use Rattle.hdfs_cluster.specs.WholeBlocks.{IsWhole, AllBehind}
use Rattle.hdfs_model.specs.Stored.{Creates, HasAdded, IsWellDone, AreWellDone, LeavesWhole}
use Rattle.hdfs_file_writer.specs.declared.file_writer.FileWriter.{FileWriter}
use Rattle.hdfs_commands.specs.Acting.{Acts, world_at}
use Rattle.hdfs_commands.specs.Session.{Carried, CarriesOpen, LeavesFiles, writer_of}
use Rattle.hdfs_commands.specs.Whole.{AreWhole, AreFilled, KeepsWhole, KeepsBlocksWhole}
use Rattle.hdfs_commands.specs.declared.session.Session.{Session}
use Rattle.hdfs_commands.proofs.Agreeing.{is_told}
use Rattle.hdfs_session.proofs.Going.{GoneOn, is_ready, open_carried}
use Rattle.hdfs_commands.proofs.OneFile.{apart_by_test}
use Rattle.hdfs_commands.proofs.WholeBeside.{StaysAt, stays_named, whole_behind_at, full_at}

-- What so many commands have made of the blocks of files: those that they added are whole, and those of the files that they created full.
pub record WholeSoFar (w : World) (commands : List Command) (start now : Shown) (session : Session) : Type 0 where
  pub whole : (path : List ℕ) (from : ℕ) → HasAdded w commands start path from → AreWhole now session path from
  pub filled : (path : List ℕ) → Creates w commands path → AreFilled now session path

-- before the first command
pub whole_none : (w : World) (start : Shown) (session : Session) → ((path : List ℕ) → writer_of session path ≡ None) → WholeSoFar w [] start start session
whole_none w start session none = record {
  whole = λ path from added.
      ⊎_elim
      (λ made. absurd (omega (arith, made.2.1)))
      (λ few. record {
        closed = λ idle p told k least below. absurd (omega (arith, few p told, least, below));
        going = λ writer at. absurd (cc (at, none path));
      })
      added;
  filled = λ path made. absurd (omega (arith, made.2.1));
}

-- one command contains itself alone
only_one : (command x : Command) → Contains (command ∷ []) x → command ≡ x
only_one command x there = at_place there.0 there.1 there.2
  where
    at_place : (k : ℕ) → k < length (command ∷ []) → get_or (command ∷ []) k x ≡ x → command ≡ x
    at_place zero below is = is
    at_place (suc k) below is = absurd (omega (arith, below))

-- where the blocks but the first so many are whole, those but the first so many more are
from_start : (shown : Shown) (session : Session) (path : List ℕ) (from : ℕ) → AreWhole shown session path 0 → AreWhole shown session path from
from_start shown session path from all = record {
  closed = λ none p told k least below. all.closed none p told k (omega arith) below;
  going = λ writer at p told k least below. all.going writer at p told k (omega arith) below;
}

-- A command that is done behind those before it.
module _ (w : World) (commands : List Command) (command : Command) (reply : Reply) (start now new : Shown) (session session' : Session)
    (before : WholeSoFar w commands start now session) (keeps : KeepsWhole command now session new session' (Ok reply)) (world : world_at session now ≡ w) where
  -- the file that it created
  made_now : (path name : List ℕ) (options : WriteOptions) → command ≡ variants.Create name options → absolute w.home name ≡ path
      → AreWhole new session' path 0 × AreFilled new session' path
  made_now path name options is called =
      let target : target_of (world_at session now) command ≡ path = ap (λ (x : World). target_of x command) world ∙ ap (target_of w) is ∙ called in
      subst (λ (x : List ℕ). AreWhole new session' x 0 × AreFilled new session' x) target (keeps.created name options is)

  -- what they have made of files with it
  pub whole_next : WholeSoFar w (commands ++ command ∷ []) start new session'
  whole_next = record {
    whole = λ path from added.
        ⊎_elim
        (λ made. ⊎_elim
        (λ earlier. keeps.whole path tt from (before.whole path from (inl (made.0, made.1, earlier, made.3))))
        (λ this. from_start new session' path from (made_now path made.0 made.1 (only_one command (variants.Create made.0 made.1) this) made.3).0)
        (Contains-append_cases commands (command ∷ []) (variants.Create made.0 made.1) made.2))
        (λ few. keeps.whole path tt from (before.whole path from (inr few)))
        added;
    filled = λ path made.
        ⊎_elim
        (λ earlier. keeps.filled path tt (before.filled path (made.0, made.1, earlier, made.3)))
        (λ this. (made_now path made.0 made.1 (only_one command (variants.Create made.0 made.1) this) made.3).1)
        (Contains-append_cases commands (command ∷ []) (variants.Create made.0 made.1) made.2);
  }

-- A session has no writer of a file that is closed.
pub none_writes : (now : Shown) (session : Session) (last : State) (p : Picture) → Carried now session last → now.picture ≡ Some p → (path : List ℕ) (content : Content) → last.files path ≡ Some (File content)
    → writer_of session path ≡ None
none_writes now session last p carried told path content closed = by_writer (writer_of session path) refl
  where
    by_writer : (o : Option FileWriter) → writer_of session path ≡ o → o ≡ None
    by_writer None is = refl
    by_writer (Some writer) is = absurd (cc ((carried.each p told path writer is).named, closed))

-- Where the links of a session were ended, what was made of its closed files stays.
module _ (w : World) (state : State) (commands : List Command) (replies : List Reply) (last : State) (start new final : Shown) (session : Session) (spared : List ℕ → Bool)
    (folds : fold w state commands ≡ Ends replies last) (left : LeavesFiles new final last) (reads : SameReads new final)
    (closed : (path : List ℕ) (content : Content) → last.files path ≡ Some (File content) → spared path ≡ false → writer_of session path ≡ None)
    (whole : (path : List ℕ) → spared path ≡ false → (from : ℕ) → HasAdded w commands start path from → AreWhole new session path from)
    (filled : (path : List ℕ) → spared path ≡ false → Creates w commands path → AreFilled new session path) where
  -- a closed file stays, with what datanodes hold of it
  stays_closed : (p q : Picture) → new.picture ≡ Some p → final.picture ≡ Some q → (path : List ℕ) (content : Content) → last.files path ≡ Some (File content)
      → (file : FileEntry) → IsFileAt p path file → StaysAt p q path
  stays_closed p q told told' path content here file at =
      let records = left.records p q told told' in
      stays_named p q path (records.names path)
      (λ id there. (
        records.table id,
        λ node. left.closed p q told told' path content here file at id (subst (λ (l : List ℕ). Contains l id) (ap blocks_at at) there) node,
      ))

  -- so one of them is well done
  is_well_done : (path : List ℕ) (content : Content) → last.files path ≡ Some (File content) → spared path ≡ false
      → (q : Picture) (file : FileEntry) → final.picture ≡ Some q → IsFileAt q path file → IsWellDone w commands start path q file
  is_well_done path content here unspared q file told' at' =
      let before = told_before (SameReadPlaces new) new.picture final.picture q reads.places told' in
      let p = before.0 in
      let told = before.1 in
      let at : IsFileAt p path file = sym ((left.records p q told told').names path) ∙ at' in
      let stays = stays_closed p q told told' path content here file at in
      let idle = closed path content here unspared in
      record {
        whole = λ from added.
            subst (λ (l : List ℕ). AllBehind (IsWhole q) from l) (ap blocks_at at')
            (whole_behind_at p q path stays from ((whole path unspared from added).closed idle p told));
        full = λ made. full_at p q path stays file at ((filled path unspared made).closed idle p file told at);
      }

  -- and each is
  pub well_done : AreWellDone w state commands spared start final
  well_done replies' last' folds' path content here unspared q file told' at' =
      let same : last' ≡ last = cc (folds, folds') in
      is_well_done path content (subst (λ (s : State). s.files path ≡ Some (File content)) same here) unspared q file told' at'

-- a session that came to its end
pub leaves_end : (w : World) (state : State) (commands : List Command) (n : ℕ) (replies : List Reply) (start now final : Shown) (session : Session) → GoneOn w state commands n replies now session
    → WholeSoFar w (take n commands) start now session → take n commands ≡ commands → ((state : State) → CarriesOpen now session state → LeavesFiles now final state) → SameReads now final
    → (done : Vec Reply Global) → LeavesWhole w state commands start final (Ok done)
leaves_end w state commands n replies start now final session gone so_far all leaves reads done =
    let left = leaves gone.last (open_carried now session gone.last gone.carried) in
    let told = is_told now.picture gone.last.files gone.fits.agrees in
    let so_far' : WholeSoFar w commands start now session = subst (λ (l : List Command). WholeSoFar w l start now session) all so_far in
    well_done w state commands replies gone.last start now final session none_open (ap (fold w state) (sym all) ∙ gone.folds) left reads
    (λ path content here unspared. none_writes now session gone.last told.0 gone.carried told.1 path content here)
    (λ path unspared from added. so_far'.whole path from added)
    (λ path unspared made. so_far'.filled path made)

-- at the next command
module _ (w : World) (state : State) (commands : List Command) (n : ℕ) (replies : List Reply) (start now new : Shown) (session session' : Session) (command : Command)
    (gone : GoneOn w state commands n replies now session) (so_far : WholeSoFar w (take n commands) start now session) (below : n < length commands)
    (here : command ≡ get_or commands n command) where
  -- where it is done
  pub whole_goes_on : (reply : Reply) → KeepsBlocksWhole command now session new session' (Ok reply) → WholeSoFar w (take (n + 1) commands) start new session'
  whole_goes_on reply keeps =
      let more : take (n + 1) commands ≡ take n commands ++ command ∷ [] = take_more commands n command below ∙ ap (λ (x : Command). take n commands ++ x ∷ []) (sym here) in
      subst (λ (l : List Command). WholeSoFar w l start new session') (sym more)
      (whole_next w (take n commands) command reply start now new session session' so_far (keeps gone.last (is_ready w state commands n replies now session command gone below here)) gone.world)

  -- where it fails
  module _ (final : Shown) (fault : Fault) (acts : Acts command now session new session' (Err fault.error))
      (keeps : KeepsBlocksWhole command now session new session' (Err fault.error))
      (leaves : (state : State) → CarriesOpen new session' state → LeavesFiles new final state) (reads : SameReads new final) (at : fault.at ≡ n + 1) where
    -- the files but its own are well done
    stopped_well : AreWellDone w state (take n commands) (bytes_eq (target_of w command)) start final
    stopped_well =
        let ready = is_ready w state commands n replies now session command gone below here in
        let kept = keeps gone.last ready in
        let told = is_told now.picture gone.last.files gone.fits.agrees in
        let target : target_of (world_at session now) command ≡ target_of w command = ap (λ (x : World). target_of x command) gone.world in
        let apart : (path : List ℕ) → bytes_eq (target_of w command) path ≡ false → path ≢ target_of (world_at session now) command =
        λ path unspared same. apart_by_test (target_of w command) path unspared (same ∙ target) in
        well_done w state (take n commands) replies gone.last start new final session' (bytes_eq (target_of w command)) gone.folds (leaves gone.last (acts.spares gone.last ready)) reads
        (λ path content closed unspared. acts.writers path (apart path unspared) ∙ none_writes now session gone.last told.0 gone.carried told.1 path content closed)
        (λ path unspared from added. kept.whole path (apart path unspared) from (so_far.whole path from added))
        (λ path unspared made. kept.filled path (apart path unspared) (so_far.filled path made))

    pub leaves_stopped : LeavesWhole w state commands start final (Err fault)
    leaves_stopped command' is =
        let number : fault.at - 1 ≡ n = omega (arith, at) in
        let same : command ≡ command' = cc (ap (slice_get commands) number ∙ slice_get_read commands (length commands) n command refl below here, is) in
        subst (λ (i : ℕ). AreWellDone w state (take i commands) (bytes_eq (target_of w command')) start final) (sym number)
        (subst (λ (x : Command). AreWellDone w state (take n commands) (bytes_eq (target_of w x)) start final) same stopped_well)
