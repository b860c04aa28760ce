-- Leave to list goes on with the directories that were begun.
use Rattle.std.proofs.Common.{◌≡◌, ℕ, Bool, true, false, ◌&&◌, List, [], ◌∷◌, ◌++◌, refl, sym, subst, append_assoc, Option, Some, Result, Ok, Err, IfOk, OnErr}
use Rattle.hdfs_cluster.specs.declared.asks.Ask.{Ask}
use Rattle.hdfs_cluster.specs.declared.asks.Answer.{Answer}
use Rattle.hdfs_cluster.specs.declared.errors.HdfsError.{HdfsError}
use Rattle.hdfs_cluster.specs.Requests.{Request}
use Rattle.hdfs_names.specs.declared.mounts.MountTable.{MountTable}
use Rattle.hdfs_client.specs.Iterating.{HasSomeRest, Left, LetsRest, LetsWalk, Turns, entered_by, fresh, given_by}
use Rattle.hdfs_client.specs.Listing.{HasSome, IsBelow, LetsList, LetsListAt, answered, asked}
use Rattle.hdfs_client.specs.Turning.{IsFoundIn, IsPassed, ended, first_ended}
use Rattle.hdfs_client.specs.declared.status.FileStatus.{FileStatus}
use Rattle.hdfs_client.proofs.Rests.{none_some, over_nothing, some_fresh}

module _ (may_answer : Ask → Answer → Type 0) (mounts : MountTable) where
  deeper : (recursive : Bool) (path mid dir : List ℕ) → IsBelow (HasSome may_answer mounts) recursive path mid
      → IsBelow (HasSome may_answer mounts) recursive mid dir → IsBelow (HasSome may_answer mounts) recursive path dir
  deeper recursive path mid _ first asked = first
  deeper recursive path mid _ first (answered dir before status behind below has directory) =
      answered dir before status behind (deeper recursive path mid dir first below) has directory

  module _ (allows : Request → Type 0) (Why : HdfsError → Left → Type 0) (recursive : Bool) where
    pub lets_fresh : (path : List ℕ) → LetsList allows may_answer mounts recursive path → LetsRest allows may_answer mounts recursive (fresh path)
    lets_fresh path lets = record {
      on = lets path asked;
      below = λ before status behind has directory dir below. lets dir
          (deeper recursive path status.path dir
          (answered path before status behind asked (some_fresh may_answer mounts path (before ++ status ∷ behind) has) directory) below);
    }

    lets_turn : (dir dir' : Left) (result : Option (Result FileStatus HdfsError)) → Turns may_answer mounts dir result dir'
        → LetsRest allows may_answer mounts recursive dir → LetsRest allows may_answer mounts recursive dir'
    lets_turn dir dir' result turns lets = record {
      on = subst (λ (p : List ℕ). LetsListAt allows mounts p) (sym turns.path) lets.on;
      below = λ before status behind has. lets.below (given_by result ++ before) status behind
          (subst (λ (xs : List FileStatus). HasSomeRest may_answer mounts dir xs) (sym (append_assoc (given_by result) before (status ∷ behind)))
          (turns.some (before ++ status ∷ behind) has));
    }

    lets_end : (dir : Left) → LetsRest allows may_answer mounts recursive dir → LetsRest allows may_answer mounts recursive (ended dir)
    lets_end dir lets = record {
      on = lets.on;
      below = λ before status behind has. absurd (never before status behind (over_nothing may_answer mounts (ended dir) (before ++ status ∷ behind) refl has));
    }
      where
        never : (before : List FileStatus) (status : FileStatus) (behind : List FileStatus) → before ++ status ∷ behind ≡ [] → ⊥
        never [] status behind is = cc
        never (first ∷ before) status behind is = cc

    lets_behind : (within dirs : List Left) → LetsWalk allows may_answer mounts recursive (within ++ dirs) → LetsWalk allows may_answer mounts recursive dirs
    lets_behind [] dirs lets = lets
    lets_behind (dir ∷ within) dirs lets = lets_behind within dirs lets.1

    pub lets_passed : (old dirs : List Left) → IsPassed may_answer mounts old dirs → LetsWalk allows may_answer mounts recursive old
        → LetsWalk allows may_answer mounts recursive dirs
    lets_passed old dirs passed lets =
        lets_behind passed.within dirs (subst (λ (ds : List Left). LetsWalk allows may_answer mounts recursive ds) passed.was lets)

    pub lets_on : (old new : List Left) (result : Option (Result FileStatus HdfsError)) → IsFoundIn may_answer mounts Why old result new
        → LetsWalk allows may_answer mounts recursive old → LetsWalk allows may_answer mounts recursive new
    lets_on old new result found lets =
        let both : LetsWalk allows may_answer mounts recursive (found.dir ∷ found.around) = lets_passed old (found.dir ∷ found.around) found.passed lets in
        subst (λ (ds : List Left). LetsWalk allows may_answer mounts recursive ds) (sym found.is)
        (lets_turn found.dir found.dir' result found.turns both.0, both.1)

    pub lets_enter : (old mid new : List Left) (status : FileStatus) → IsFoundIn may_answer mounts Why old (Some (Ok status)) mid
        → new ≡ entered_by (recursive && status.isdir) status mid → LetsWalk allows may_answer mounts recursive old
        → LetsWalk allows may_answer mounts recursive new
    lets_enter old mid new status found is lets =
        subst (λ (ds : List Left). LetsWalk allows may_answer mounts recursive ds) (sym is) (by (recursive && status.isdir) refl)
      where
        mine : LetsRest allows may_answer mounts recursive found.dir
        mine = (lets_passed old (found.dir ∷ found.around) found.passed lets).0

        by : (b : Bool) → (recursive && status.isdir) ≡ b → LetsWalk allows may_answer mounts recursive (entered_by b status mid)
        by false plain = lets_on old mid (Some (Ok status)) found lets
        by true directory = (
          lets_fresh status.path (mine.below [] status [] (found.turns.some [] (none_some may_answer mounts found.dir')) directory),
          lets_on old mid (Some (Ok status)) found lets,
        )

    pub lets_off : (old mid new : List Left) (result : Option (Result FileStatus HdfsError)) → IsFoundIn may_answer mounts Why old result mid
        → new ≡ first_ended mid → LetsWalk allows may_answer mounts recursive old → LetsWalk allows may_answer mounts recursive new
    lets_off old mid new result found is lets =
        subst (λ (ds : List Left). LetsWalk allows may_answer mounts recursive ds) (sym is) (by mid (lets_on old mid result found lets))
      where
        by : (dirs : List Left) → LetsWalk allows may_answer mounts recursive dirs → LetsWalk allows may_answer mounts recursive (first_ended dirs)
        by [] lets = lets
        by (dir ∷ dirs) lets = (lets_end dir lets.0, lets.1)

  pub lets_entered : (allows : Request → Type 0) (Why : HdfsError → Left → Type 0) (recursive recursive' : Bool) (old mid new : List Left) (status : FileStatus)
      (result : Result FileStatus HdfsError) → recursive' ≡ recursive → IsFoundIn may_answer mounts Why old (Some (Ok status)) mid
      → IfOk result (λ given. (given ≡ status) × (new ≡ entered_by (recursive' && status.isdir) status mid)) → OnErr result (new ≡ first_ended mid)
      → LetsWalk allows may_answer mounts recursive old → LetsWalk allows may_answer mounts recursive new
  lets_entered allows Why recursive recursive' old mid new status (Ok given) same found (is, enters) off =
      lets_enter allows Why recursive old mid new status found (subst (λ (r : Bool). new ≡ entered_by (r && status.isdir) status mid) same enters)
  lets_entered allows Why recursive recursive' old mid new status (Err error) same found enters off =
      lets_off allows Why recursive old mid new (Some (Ok status)) found off

-- leave, by the mounts and the flag of the call
pub same_lets : (allows : Request → Type 0) (may_answer : Ask → Answer → Type 0) (mounts mounts' : MountTable) (recursive recursive' : Bool) (dirs : List Left)
    → mounts' ≡ mounts → recursive' ≡ recursive → LetsWalk allows may_answer mounts' recursive' dirs → LetsWalk allows may_answer mounts recursive dirs
same_lets allows may_answer mounts mounts' recursive recursive' dirs same flag lets =
    subst (λ (m : MountTable). LetsWalk allows may_answer m recursive dirs) same
    (subst (λ (r : Bool). LetsWalk allows may_answer mounts' r dirs) flag lets)

-- leave to list a path is leave to have it listed entry by entry
pub begun_lets : (allows : Request → Type 0) (may_answer : Ask → Answer → Type 0) (mounts : MountTable) (recursive recursive' : Bool) (path : List ℕ)
    (dirs : List Left) → recursive' ≡ recursive → dirs ≡ fresh path ∷ [] → LetsList allows may_answer mounts recursive path
    → LetsWalk allows may_answer mounts recursive' dirs
begun_lets allows may_answer mounts recursive recursive' path dirs flag is lets =
    subst (λ (r : Bool). LetsWalk allows may_answer mounts r dirs) (sym flag)
    (subst (λ (ds : List Left). LetsWalk allows may_answer mounts recursive ds) (sym is) (lets_fresh may_answer mounts allows (λ error dir. Unit {0}) recursive path lets, tt))
