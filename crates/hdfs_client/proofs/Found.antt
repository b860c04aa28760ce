-- What is found from directories that were begun, turn by turn.
use Rattle.std.proofs.Common.{◌≡◌, ◌⊎◌, ℕ, Bool, true, false, not, ◌&&◌, ◌||◌, List, [], ◌∷◌, ◌++◌, refl, sym, ◌∙◌, ap, subst, append_assoc, inl, inr, Some, None, Result, Ok, Err, IfErr, IfOk, OnErr, map, reverse}
use Rattle.std.specs.List.{list_all}
use Rattle.std.proofs.lemmas.List.{reverse-append}
use Rattle.hdfs_client.specs.declared.list_iterator.DirListingIterator.{DirListingIterator}
use Rattle.std.proofs.lemmas.Bool.{cases_Bool, false≢true}
use Rattle.hdfs_cluster.specs.declared.asks.Ask.{Ask}
use Rattle.hdfs_cluster.specs.declared.asks.Ask.TheVariants as asks
use Rattle.hdfs_cluster.specs.declared.asks.Answer.{Answer}
use Rattle.hdfs_cluster.specs.declared.asks.Answer.TheVariants as answers
use Rattle.hdfs_cluster.specs.declared.asks.AskFault.{AskFault}
use Rattle.hdfs_cluster.specs.declared.errors.HdfsError.TheVariants as errors
use Rattle.hdfs_client.specs.Calls.{Gives}
use Rattle.hdfs_client.specs.declared.client.Client.{Client}
use Rattle.hdfs_cluster.specs.declared.errors.HdfsError.{HdfsError}
use Rattle.hdfs_cluster.specs.declared.messages.FileStatusMsg.{FileStatusMsg}
use Rattle.hdfs_cluster.proofs.Loads.{and_parts}
use Rattle.hdfs_names.specs.declared.mounts.MountTable.{MountTable}
use Rattle.hdfs_client.specs.Iterating.{AreFound, HasRest, HasSomeRest, HaveNone, IsCut, IsToCome, Left, MayCome, Turns, Walks, are_none, asks_none, entered_by, fresh, is_over, left_of, IfFails, IsDirFault, IsEntryFault, IsPageFault, wants_page}
use Rattle.hdfs_client.specs.Listing.{AreEntries, HasAll, HasSome, alone, messages_of, nothing, with_own}
use Rattle.hdfs_client.specs.Turning.{IsFoundIn, IsPassed, ended, first_ended}
use Rattle.hdfs_client.specs.declared.status.FileStatus.{FileStatus}
use Rattle.hdfs_client.proofs.Rests.{all_fresh, none_all, none_some, over_held, over_nothing, some_fresh}

-- ---- any directories

module _ (Rest : Left → List FileStatus → Type 0) (Has : List ℕ → List FileStatus → Type 0) (recursive : Bool) where
  skipped : (within dirs : List Left) (found : List FileStatus) → HaveNone Rest within → AreFound Rest Has recursive dirs found
      → AreFound Rest Has recursive (within ++ dirs) found
  skipped [] dirs found none finds = finds
  skipped (dir ∷ within) dirs found none finds = record {
    own = [];
    rest = none.0;
    inside = [];
    finds = nothing;
    outside = found;
    around = skipped within dirs found none.1 finds;
    is = refl;
  }

  silent : (dir dir' : Left) (around : List Left) (found : List FileStatus) → ((own : List FileStatus) → Rest dir' own → Rest dir own)
      → AreFound Rest Has recursive (dir' ∷ around) found → AreFound Rest Has recursive (dir ∷ around) found
  silent dir dir' around found turn finds = record {
    own = finds.own;
    rest = turn finds.own finds.rest;
    inside = finds.inside;
    finds = finds.finds;
    outside = finds.outside;
    around = finds.around;
    is = finds.is;
  }

  entered : (dir dir' : Left) (around : List Left) (status : FileStatus) (found : List FileStatus)
      → ((own : List FileStatus) → Rest dir' own → Rest dir (status ∷ own))
      → ((own : List FileStatus) → Rest (fresh status.path) own → Has status.path own) → (b : Bool) → (recursive && status.isdir) ≡ b
      → AreFound Rest Has recursive (entered_by b status (dir' ∷ around)) found → AreFound Rest Has recursive (dir ∷ around) (status ∷ found)
  entered dir dir' around status found turn begin false plain finds = record {
    own = status ∷ finds.own;
    rest = turn finds.own finds.rest;
    inside = status ∷ finds.inside;
    finds = alone status finds.own finds.inside plain finds.finds;
    outside = finds.outside;
    around = finds.around;
    is = ap (λ (xs : List FileStatus). status ∷ xs) finds.is;
  }
  entered dir dir' around status found turn begin true directory finds = record {
    own = status ∷ finds.around.own;
    rest = turn finds.around.own finds.around.rest;
    inside = status ∷ (finds.inside ++ finds.around.inside);
    finds = with_own status finds.own finds.inside finds.around.own finds.around.inside directory (begin finds.own finds.rest) finds.finds finds.around.finds;
    outside = finds.around.outside;
    around = finds.around.around;
    is = ap (λ (xs : List FileStatus). status ∷ xs)
        (finds.is ∙ ap (λ (xs : List FileStatus). finds.inside ++ xs) finds.around.is
        ∙ sym (append_assoc finds.inside finds.around.inside finds.around.outside));
  }

some_none : (given : Result FileStatus HdfsError) → Some given ≡ None → ⊥
some_none given is = cc

module _ (may_answer : Ask → Answer → Type 0) (mounts : MountTable) where
  all_some : (within : List Left) → HaveNone (HasSomeRest may_answer mounts) within
  all_some [] = tt
  all_some (dir ∷ within) = (none_some may_answer mounts dir, all_some within)

  -- where each directory is over nothing is to come
  pub nothing_comes : (recursive : Bool) (dirs : List Left) → list_all is_over dirs ≡ true → IsToCome may_answer mounts recursive dirs []
  nothing_comes recursive [] over = refl
  nothing_comes recursive (dir ∷ dirs) over =
      let two = and_parts (is_over dir) (list_all is_over dirs) over in record {
        own = [];
        rest = none_all may_answer mounts dir two.0;
        inside = [];
        finds = nothing;
        outside = [];
        around = nothing_comes recursive dirs two.1;
        is = refl;
      }

  pub nothing_may_come : (recursive : Bool) (dirs : List Left) → MayCome may_answer mounts recursive dirs []
  nothing_may_come recursive [] = refl
  nothing_may_come recursive (dir ∷ dirs) = record {
    own = [];
    rest = none_some may_answer mounts dir;
    inside = [];
    finds = nothing;
    outside = [];
    around = nothing_may_come recursive dirs;
    is = refl;
  }

  over_behind : (within dirs : List Left) → list_all is_over (within ++ dirs) ≡ true → list_all is_over dirs ≡ true
  over_behind [] dirs over = over
  over_behind (dir ∷ within) dirs over = over_behind within dirs (and_parts (is_over dir) (list_all is_over (within ++ dirs)) over).1

  -- ---- what was found goes on

  module _ (Why : HdfsError → Left → Type 0) (recursive : Bool) (old mid new : List Left) where
    back_all : (dirs : List Left) (found : List FileStatus) → IsPassed may_answer mounts old dirs → IsToCome may_answer mounts recursive dirs found
        → IsToCome may_answer mounts recursive old found
    back_all dirs found passed comes =
        subst (λ (ds : List Left). IsToCome may_answer mounts recursive ds found) (sym passed.was)
        (skipped (HasRest may_answer mounts) (HasAll may_answer mounts) recursive passed.within dirs found passed.none comes)

    back_some : (dirs : List Left) (found : List FileStatus) → IsPassed may_answer mounts old dirs → MayCome may_answer mounts recursive dirs found
        → MayCome may_answer mounts recursive old found
    back_some dirs found passed comes =
        subst (λ (ds : List Left). MayCome may_answer mounts recursive ds found) (sym passed.was)
        (skipped (HasSomeRest may_answer mounts) (HasSome may_answer mounts) recursive passed.within dirs found (all_some passed.within) comes)

    cut_there : (error : HdfsError) (dir end : Left) (around : List Left) → Why error dir → IsPassed may_answer mounts old (dir ∷ around) → new ≡ end ∷ around → is_over end ≡ true
        → IsCut may_answer mounts (Why error) old new
    cut_there error dir end around why passed is over = record {
      within = passed.within;
      ended = dir;
      around = around;
      was = passed.was;
      none = passed.none;
      end = end;
      is = is;
      over = over;
      why = why;
    }

    -- where each of some directories is over, so is the one that had a turn
    over_there : (dir : Left) (around : List Left) → IsPassed may_answer mounts old (dir ∷ around) → list_all is_over old ≡ true → is_over dir ≡ true
    over_there dir around passed over =
        (and_parts (is_over dir) (list_all is_over around)
        (over_behind passed.within (dir ∷ around) (ap (λ (ds : List Left). list_all is_over ds) (sym passed.was) ∙ over))).0

    pub walks_on : (status : FileStatus) → IsFoundIn may_answer mounts Why old (Some (Ok status)) mid → new ≡ entered_by (recursive && status.isdir) status mid
        → Walks may_answer mounts Why recursive old (Some (Ok status)) new
    walks_on status found enters = record {
      all = λ sound later comes. back_all (found.dir ∷ found.around) (status ∷ later) found.passed
          (entered (HasRest may_answer mounts) (HasAll may_answer mounts) recursive found.dir found.dir' found.around status later (found.turns.all refl)
          (all_fresh may_answer mounts status.path) (recursive && status.isdir) refl
          (subst (λ (ds : List Left). IsToCome may_answer mounts recursive (entered_by (recursive && status.isdir) status ds) later) found.is
          (subst (λ (ds : List Left). IsToCome may_answer mounts recursive ds later) enters comes)));
      some = λ later comes. back_some (found.dir ∷ found.around) (status ∷ later) found.passed
          (entered (HasSomeRest may_answer mounts) (HasSome may_answer mounts) recursive found.dir found.dir' found.around status later found.turns.some
          (some_fresh may_answer mounts status.path) (recursive && status.isdir) refl
          (subst (λ (ds : List Left). MayCome may_answer mounts recursive (entered_by (recursive && status.isdir) status ds) later) found.is
          (subst (λ (ds : List Left). MayCome may_answer mounts recursive ds later) enters comes)));
      turn = record {
        within = found.passed.within;
        dir = found.dir;
        around = found.around;
        was = found.passed.was;
        dir' = found.dir';
        path = found.turns.path;
        some = found.turns.some;
        told = found.turns.told;
        from = found.turns.from;
        is = enters ∙ ap (λ (ds : List Left). entered_by (recursive && status.isdir) status ds) found.is;
      };
      none = λ is. cc;
      over = λ over. absurd (some_none (Ok status) (found.over (over_there found.dir found.around found.passed over)));
      cut = tt;
    }

    -- of an ended directory nothing may come
    none_of_ended : (dir dir' : Left) (own : List FileStatus) → HasSomeRest may_answer mounts (ended dir') own → HasSomeRest may_answer mounts dir own
    none_of_ended dir dir' own has =
        subst (λ (xs : List FileStatus). HasSomeRest may_answer mounts dir xs) (sym (over_nothing may_answer mounts (ended dir') own refl has))
        (none_some may_answer mounts dir)

    -- an error in the place of an entry
    pub walks_off : (status : FileStatus) (error : HdfsError) → ((dir : Left) → Why error dir) → IsFoundIn may_answer mounts Why old (Some (Ok status)) mid → new ≡ first_ended mid
        → Walks may_answer mounts Why recursive old (Some (Err error)) new
    walks_off status error why found is =
        let now : new ≡ ended found.dir' ∷ found.around = is ∙ ap first_ended found.is in record {
          all = λ sound. absurd (false≢true sound);
          some = λ later comes. back_some (found.dir ∷ found.around) later found.passed
              (silent (HasSomeRest may_answer mounts) (HasSome may_answer mounts) recursive found.dir (ended found.dir') found.around later
              (none_of_ended found.dir found.dir') (subst (λ (ds : List Left). MayCome may_answer mounts recursive ds later) now comes));
          turn = record {
            within = found.passed.within;
            dir = found.dir;
            around = found.around;
            was = found.passed.was;
            dir' = ended found.dir';
            path = found.turns.path;
            some = none_of_ended found.dir found.dir';
            told = λ all. tt;
            from = λ sound. absurd (false≢true sound);
            is = now;
          };
          none = λ is. cc;
          over = λ over. absurd (some_none (Ok status) (found.over (over_there found.dir found.around found.passed over)));
          cut = cut_there error found.dir (ended found.dir') found.around (why found.dir) found.passed now refl;
        }

  module _ (Why : HdfsError → Left → Type 0) (recursive : Bool) (old new : List Left) where
    pub walks_wrong : (error : HdfsError) → IsFoundIn may_answer mounts Why old (Some (Err error)) new → Walks may_answer mounts Why recursive old (Some (Err error)) new
    walks_wrong error found = record {
      all = λ sound. absurd (false≢true sound);
      some = λ later comes. back_some Why recursive old new new (found.dir ∷ found.around) later found.passed
          (silent (HasSomeRest may_answer mounts) (HasSome may_answer mounts) recursive found.dir found.dir' found.around later found.turns.some
          (subst (λ (ds : List Left). MayCome may_answer mounts recursive ds later) found.is comes));
      turn = record {
        within = found.passed.within;
        dir = found.dir;
        around = found.around;
        was = found.passed.was;
        dir' = found.dir';
        path = found.turns.path;
        some = found.turns.some;
        told = found.turns.told;
        from = found.turns.from;
        is = found.is;
      };
      none = λ is. cc;
      over = λ over. found.over (over_there Why recursive old new new found.dir found.around found.passed over);
      cut = cut_there Why recursive old new new error found.dir found.dir' found.around found.fault found.passed found.is (found.turns.ends refl);
    }

    pub walks_out : IsFoundIn may_answer mounts Why old None new → Walks may_answer mounts Why recursive old None new
    walks_out found = record {
      all = λ sound later comes. back_all Why recursive old new new (found.dir ∷ found.around) later found.passed
          (silent (HasRest may_answer mounts) (HasAll may_answer mounts) recursive found.dir found.dir' found.around later (found.turns.all refl)
          (subst (λ (ds : List Left). IsToCome may_answer mounts recursive ds later) found.is comes));
      some = λ later comes. back_some Why recursive old new new (found.dir ∷ found.around) later found.passed
          (silent (HasSomeRest may_answer mounts) (HasSome may_answer mounts) recursive found.dir found.dir' found.around later found.turns.some
          (subst (λ (ds : List Left). MayCome may_answer mounts recursive ds later) found.is comes));
      turn = record {
        within = found.passed.within;
        dir = found.dir;
        around = found.around;
        was = found.passed.was;
        dir' = found.dir';
        path = found.turns.path;
        some = found.turns.some;
        told = found.turns.told;
        from = found.turns.from;
        is = found.is;
      };
      none = λ is. ap (λ (ds : List Left). list_all is_over ds) (found.is ∙ ap (λ (ds : List Left). found.dir' ∷ ds) (found.last refl))
          ∙ ap (λ (b : Bool). b && true) (found.turns.ends refl);
      over = λ over. refl;
      cut = tt;
    }

  -- ---- directories that have nothing left are passed

  pub none_passed : (dirs : List Left) → IsPassed may_answer mounts dirs dirs
  none_passed dirs = record { within = []; was = refl; none = tt }

  one_more : (within : List Left) (dir : Left) → HaveNone (HasRest may_answer mounts) within → HasRest may_answer mounts dir []
      → HaveNone (HasRest may_answer mounts) (within ++ dir ∷ [])
  one_more [] dir none has = (has, tt)
  one_more (first ∷ within) dir none has = (none.0, one_more within dir none.1 has)

  -- a turn that gives nothing shows that nothing was left
  pub nothing_left : (dir dir' : Left) → Turns may_answer mounts dir None dir' → HasRest may_answer mounts dir []
  nothing_left dir dir' turns = turns.all refl [] (none_all may_answer mounts dir' (turns.ends refl))

  pub passes : (old dirs : List Left) (dir dir' : Left) → IsPassed may_answer mounts old (dir ∷ dirs) → Turns may_answer mounts dir None dir'
      → IsPassed may_answer mounts old dirs
  passes old dirs dir dir' passed turns = record {
    within = passed.within ++ dir ∷ [];
    was = passed.was ∙ sym (append_assoc passed.within (dir ∷ []) dirs);
    none = one_more passed.within dir passed.none (nothing_left dir dir' turns);
  }

  -- ---- no ask

  quiet_first : (more : Bool) (held : List FileStatusMsg) (others : Bool) → (not (are_none held) || (not more && others)) ≡ true
      → (more && are_none held) ≡ false
  quiet_first false held others quiet = refl
  quiet_first true [] others quiet = absurd (false≢true quiet)
  quiet_first true (message ∷ held) others quiet = refl

  pub quiet_here : (dir : Left) (dirs : List Left) → asks_none (dir ∷ dirs) ≡ true → (dir.more && are_none dir.held) ≡ false
  quiet_here dir dirs quiet = quiet_first dir.more dir.held (asks_none dirs) quiet

  pub quiet_behind : (dir : Left) (dirs : List Left) → HasRest may_answer mounts dir [] → asks_none (dir ∷ dirs) ≡ true → asks_none dirs ≡ true
  quiet_behind dir dirs has quiet = by dir.held dir.more has.entries quiet
    where
      by : (held : List FileStatusMsg) (more : Bool) → AreEntries dir.path (held ++ messages_of has.pages) []
          → (not (are_none held) || (not more && asks_none dirs)) ≡ true → asks_none dirs ≡ true
      by [] true entries quiet = absurd (false≢true quiet)
      by [] false entries quiet = quiet
      by (message ∷ held) more entries quiet = absurd entries

  -- ---- an entry whose directory is begun, or for which there was no memory

  pub walks_entered : (Why : HdfsError → Left → Type 0) (recursive recursive' : Bool) (old mid new : List Left) (status : FileStatus) (result : Result FileStatus HdfsError)
      → recursive' ≡ recursive → IsFoundIn may_answer mounts Why old (Some (Ok status)) mid
      → IfOk result (λ given. (given ≡ status) × (new ≡ entered_by (recursive' && status.isdir) status mid)) → OnErr result (new ≡ first_ended mid)
      → IfErr result (λ error. (dir : Left) → Why error dir) → Walks may_answer mounts Why recursive old (Some result) new
  walks_entered Why recursive recursive' old mid new status (Ok given) same found (is, enters) off why =
      subst (λ (s : FileStatus). Walks may_answer mounts Why recursive old (Some (Ok s)) new) (sym is)
      (walks_on Why recursive old mid new status found
      (subst (λ (r : Bool). new ≡ entered_by (r && status.isdir) status mid) same enters))
  walks_entered Why recursive recursive' old mid new status (Err error) same found enters off why =
      walks_off Why recursive old mid new status error why found off

-- ---- those around a directory

pub around_is : (outer outer' : List DirListingIterator) (dir : DirListingIterator) → outer ≡ outer' ++ dir ∷ []
    → map left_of (reverse outer) ≡ left_of dir ∷ map left_of (reverse outer')
around_is outer outer' dir is =
    ap (λ (ds : List DirListingIterator). map left_of (reverse ds)) is ∙ ap (λ (ds : List DirListingIterator). map left_of ds) (reverse-append outer' (dir ∷ []))

-- want of memory ends any directory
pub lacks : {C : Type 0} (serves : C → ℕ → Ask → Result Answer AskFault → C → Type 0) (client : Client) (cluster : C) (result : Result FileStatus HdfsError)
    → IfErr result (λ error. error ≡ errors.NoMemory) → IfErr result (λ error. (dir : Left) → IsDirFault serves client cluster error dir)
lacks serves client cluster (Ok status) none = tt
lacks serves client cluster (Err error) none = λ dir. inr (inr none)

-- why a directory's turn gave an error
pub fault_of : {C : Type 0} (serves : C → ℕ → Ask → Result Answer AskFault → C → Type 0) (dir : Left) (client client' : Client) (old new : C)
    (found : Result FileStatus HdfsError)
    → (wants_page dir ≡ true → Gives serves false (λ at. asks.GetListing at dir.start false) answers.GetListing client dir.path old client' new
    (λ outcome. IfFails (Some found) (IsPageFault dir.path outcome)))
    → (wants_page dir ≡ false → (client' ≡ client) × (new ≡ old) × IfFails (Some found) (IsEntryFault dir.path dir.held))
    → IfFails (Some found) (λ error. IsDirFault serves client' new error dir)
fault_of serves dir client client' old new (Ok status) turn quiet = tt
fault_of serves dir client client' old new (Err error) turn quiet = by (cases_Bool (wants_page dir))
  where
    by : (wants_page dir ≡ true) ⊎ (wants_page dir ≡ false) → IsDirFault serves client' new error dir
    by (inl wants) = inl (record { client = client; old = old; gives = turn wants })
    by (inr none) = inr (inl (quiet none).2)

-- of a directory that is over nothing is given
pub over_gives : (may_answer : Ask → Answer → Type 0) (mounts : MountTable) (dir dir' : Left) (found : Result FileStatus HdfsError)
    → Turns may_answer mounts dir (Some found) dir' → (wants_page dir ≡ false → IfFails (Some found) (IsEntryFault dir.path dir.held))
    → is_over dir ≡ true → Some found ≡ None
over_gives may_answer mounts dir dir' (Ok status) turns quiet over =
    let none : status ∷ [] ≡ [] = over_nothing may_answer mounts dir (status ∷ []) over (turns.some [] (none_some may_answer mounts dir')) in
    absurd cc
over_gives may_answer mounts dir dir' (Err error) turns quiet over =
    let two = over_held may_answer mounts dir over in
    let fault = quiet (ap (λ (b : Bool). b && are_none dir.held) two.1) in
    let none : fault.0 ∷ fault.1 ≡ [] = sym fault.2 ∙ two.0 in
    absurd cc
