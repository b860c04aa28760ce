-- Turns of a listing over a told picture, one behind another.
use Rattle.std.proofs.Common.{◌≡◌, inl, inr, ℕ, ◌<◌, Bool, true, false, List, [], ◌∷◌, Option, Some, None, Ok, Err, IfErr, refl, sym, subst}
use Rattle.std.specs.Prelude.{Result}
use Rattle.hdfs_cluster.specs.declared.asks.Ask.{Ask}
use Rattle.hdfs_cluster.specs.declared.asks.Answer.{Answer}
use Rattle.hdfs_cluster.specs.declared.asks.AskFault.{AskFault}
use Rattle.hdfs_cluster.specs.declared.errors.HdfsError.{HdfsError}
use Rattle.hdfs_cluster.specs.declared.errors.HdfsError.TheVariants as errors
use Rattle.hdfs_cluster.specs.Picture.{Picture}
use Rattle.hdfs_cluster.specs.Shown.{Served, Shown}
use Rattle.hdfs_names.specs.declared.mounts.MountTable.{MountTable}
use Rattle.hdfs_client.specs.Clients.{mounts_of}
use Rattle.hdfs_client.specs.Iterating.{IfFails, IsEntryFault, Left, Turns, is_over, wants_page}
use Rattle.hdfs_client.specs.Told.{AreWhole, IsEndedIn, IsPageIn, IsStill, TurnsIn, WhereTold}
use Rattle.hdfs_client.specs.Turning.{IsFoundIn, IsGiven, IsPassed, Opens, ended}
use Rattle.hdfs_client.specs.Writing.{ReachesWhole}
use Rattle.hdfs_client.specs.declared.client.Client.{Client}
use Rattle.hdfs_client.specs.declared.status.FileStatus.{FileStatus}
use Rattle.hdfs_client.proofs.Found.{none_passed, passes}
use Rattle.hdfs_client.proofs.Rests.{fails, turns}
use Rattle.hdfs_client.proofs.ToldPages.{Turned, ended_since, pages_same, still_refl, still_trans, turned_fails, turned_opened, turned_still}

-- ---- one directory

module _ {C : Type 0} (shown : C → Shown) (serves : C → ℕ → Ask → Result Answer AskFault → C → Type 0)
    (rows : (old new : C) (i : ℕ) (ask : Ask) (result : Result Answer AskFault) → serves old i ask result new → Served (shown old) i ask result (shown new))
    (below : (c : C) (p : Picture) → (shown c).picture ≡ Some p → p.active < (shown c).namenodes)
    (client client' : Client) (old new : C) (left mid dir : Left) (reaches : ReachesWhole client left.path (shown old)) where
  abbrev Turns' : Result (Unit {0}) HdfsError → Type 0
  Turns' result = Turned shown serves rows below client client' old new left mid reaches result

  -- nothing was done
  abbrev Idle : Result (Unit {0}) HdfsError → Type 0
  Idle result = (result ≡ Ok tt) × (client' ≡ client) × (new ≡ old)

  -- the next page was asked for where it was wanted, and then the first entry was given that is held
  pub turn_told : (may_answer : Ask → Answer → Type 0) (result : Option (Result FileStatus HdfsError)) → (wants_page left ≡ true → Turns' (Ok tt))
      → (wants_page left ≡ false → Idle (Ok tt))
      → Opens may_answer (mounts_of client) (wants_page left) left mid → IsGiven mid result dir
      → WhereTold (shown old) (shown new) (λ p. TurnsIn p (mounts_of client) (shown old) (shown new) left result dir)
  turn_told may_answer result asked quiet opens given = λ p told. by p told (wants_page left) refl opens
    where
      fault_of : (p : Picture) (result : Option (Result FileStatus HdfsError)) → IsGiven mid result dir
          → ((error : HdfsError) → IsEntryFault mid.path mid.held error → IsEndedIn p (mounts_of client) (shown old) (shown new) error left)
          → IfFails result (λ error. IsEndedIn p (mounts_of client) (shown old) (shown new) error left)
      fault_of p None given why = tt
      fault_of p (Some (Ok status)) given why = tt
      fault_of p (Some (Err error)) given why = why error given.0

      by : (p : Picture) → (shown old).picture ≡ Some p → (wants : Bool) → wants_page left ≡ wants → Opens may_answer (mounts_of client) wants left mid
          → IsStill p (shown old) (shown new) × TurnsIn p (mounts_of client) (shown old) (shown new) left result dir
      by p told true wants opens =
          let gives = asked wants in
          let opened = turned_opened shown serves rows below client client' old new left mid reaches p told gives in (
            turned_still shown serves rows below client client' old new left mid reaches p told (Ok tt) gives,
            record {
              turns = turns (IsPageIn p) (mounts_of client) left mid dir result
                  (subst (λ (b : Bool). Opens (IsPageIn p) (mounts_of client) b left mid) (sym wants) opened) given;
              fault = fault_of p result given (λ error fault. inr (inr (inr (
                opened.page,
                opened.answered,
                subst (λ (l : Left). IsEntryFault l.path l.held error) opened.is fault,
              ))));
            },
          )
      by p told false wants same =
          let still = quiet wants in (
            subst (λ (c : C). IsStill p (shown old) (shown c)) (sym still.2) (still_refl p (shown old) told),
            record {
              turns = turns (IsPageIn p) (mounts_of client) left mid dir result
                  (subst (λ (b : Bool). Opens (IsPageIn p) (mounts_of client) b left mid) (sym wants) same) given;
              fault = fault_of p result given (λ error fault. inr (inr (inl (subst (λ (l : Left). IsEntryFault l.path l.held error) same fault))));
            },
          )

  -- the next page couldn't be had
  pub turn_failed : (error : HdfsError) → (wants_page left ≡ true → Turns' (Err error))
      → (wants_page left ≡ false → Idle (Err error))
      → mid.path ≡ left.path → dir ≡ ended mid
      → WhereTold (shown old) (shown new) (λ p. TurnsIn p (mounts_of client) (shown old) (shown new) left (Some (Err error)) dir)
  turn_failed error asked quiet path is = λ p told. by p told (wants_page left) refl
    where
      by : (p : Picture) → (shown old).picture ≡ Some p → (wants : Bool) → wants_page left ≡ wants
          → IsStill p (shown old) (shown new) × TurnsIn p (mounts_of client) (shown old) (shown new) left (Some (Err error)) dir
      by p told true wants =
          let gives = asked wants in (
            turned_still shown serves rows below client client' old new left mid reaches p told (Err error) gives,
            record {
              turns = fails (IsPageIn p) (mounts_of client) left mid dir error path is;
              fault = turned_fails shown serves rows below client client' old new left mid reaches p told error gives;
            },
          )
      by p told false wants = let none = (quiet wants).0 in absurd (cc none)

-- ---- a directory and those in which it lies

-- where each led to a whole service it does so still
pub whole_later : (client client' : Client) (s t : Shown) → ((src : List ℕ) → ReachesWhole client src s → ReachesWhole client' src t) → (dirs : List Left)
    → AreWhole client s dirs → AreWhole client' t dirs
whole_later client client' s t keeps [] whole = tt
whole_later client client' s t keeps (dir ∷ dirs) whole = (keeps dir.path whole.0, whole_later client client' s t keeps dirs whole.1)

if_fails : (Is Is' : HdfsError → Type 0) (result : Option (Result FileStatus HdfsError)) → ((error : HdfsError) → Is error → Is' error)
    → IfFails result Is → IfFails result Is'
if_fails Is Is' None so fault = tt
if_fails Is Is' (Some (Ok status)) so fault = tt
if_fails Is Is' (Some (Err error)) so fault = so error fault

-- nothing was done yet
pub told_none : (s : Shown) (mounts : MountTable) (dirs : List Left) → WhereTold s s (λ p. IsPassed (IsPageIn p) mounts dirs dirs)
told_none s mounts dirs = λ p told. (still_refl p s told, none_passed (IsPageIn p) mounts dirs)

module _ (begin s t : Shown) (mounts : MountTable) (old : List Left) (inner inner' : Left) (dirs : List Left)
    (so : WhereTold begin s (λ p. IsPassed (IsPageIn p) mounts old (inner ∷ dirs))) where
  -- a directory of which nothing was left is passed
  pub told_passes : WhereTold s t (λ p. TurnsIn p mounts s t inner None inner') → WhereTold begin t (λ p. IsPassed (IsPageIn p) mounts old dirs)
  told_passes next = λ p told.
      (let first = so p told in
      let then = next first.0.q first.0.now in (
        still_trans first.0 then.0,
        passes (IsPageIn p) mounts old dirs inner inner' first.1
            (pages_same (λ (R : Ask → Answer → Type 0). Turns R mounts inner None inner') p first.0.q first.0.same then.1.turns),
      ))

  -- one of which something was left had a turn
  pub told_found : (result : Option (Result FileStatus HdfsError)) → WhereTold s t (λ p. TurnsIn p mounts s t inner result inner')
      → (result ≡ None → dirs ≡ []) → (is_over inner ≡ true → result ≡ None)
      → WhereTold begin t (λ p. IsFoundIn (IsPageIn p) mounts (IsEndedIn p mounts begin t) old result (inner' ∷ dirs))
  told_found result next last over = λ p told.
      (let first = so p told in
      let then = next first.0.q first.0.now in (
        still_trans first.0 then.0,
        record {
          dir = inner;
          around = dirs;
          passed = first.1;
          dir' = inner';
          is = refl;
          turns = pages_same (λ (R : Ask → Answer → Type 0). Turns R mounts inner result inner') p first.0.q first.0.same then.1.turns;
          last = last;
          over = over;
          fault = if_fails (λ error. IsEndedIn first.0.q mounts s t error inner) (λ error. IsEndedIn p mounts begin t error inner) result
              (λ error why. ended_since p first.0.q first.0.same mounts begin s t first.0.later.counts error inner why) then.1.fault;
        },
      ))

-- want of memory ends any directory
pub lacks_told : (p : Picture) (mounts : MountTable) (s t : Shown) (result : Result FileStatus HdfsError) → IfErr result (λ error. error ≡ errors.NoMemory)
    → IfErr result (λ error. (dir : Left) → IsEndedIn p mounts s t error dir)
lacks_told p mounts s t (Ok status) none = tt
lacks_told p mounts s t (Err error) none = λ dir. inl (inl none)
