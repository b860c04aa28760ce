-- A listing over a told picture: what was given so far and what is to come, and why it fails.
use Rattle.std.proofs.Common.{◌≡◌, inl, inr, ℕ, Bool, List, [], ◌∷◌, ◌++◌, length, Option, Some, None, Ok, Err, IsErrAnd, refl, sym, subst}
use Rattle.std.specs.Prelude.{MatchResult, Result}
use Rattle.hdfs_cluster.specs.declared.asks.Ask.{Ask}
use Rattle.hdfs_cluster.specs.declared.asks.Answer.{Answer}
use Rattle.hdfs_cluster.specs.declared.errors.HdfsError.{HdfsError}
use Rattle.hdfs_cluster.specs.declared.errors.HdfsError.TheVariants as errors
use Rattle.hdfs_cluster.specs.Picture.{Picture}
use Rattle.hdfs_cluster.specs.Shown.{Shown}
use Rattle.hdfs_names.specs.declared.mounts.MountTable.{MountTable}
use Rattle.hdfs_client.specs.Clients.{mounts_of}
use Rattle.hdfs_client.specs.Iterating.{IsCut, Left, Walks, fresh}
use Rattle.hdfs_client.specs.Listing.{HasAll, IsPutFault, Lists, asked}
use Rattle.hdfs_client.specs.Told.{AreWhole, IsEndedBelowIn, IsEndedIn, IsListFaultIn, IsPageIn, IsWholeBelow, WhereTold}
use Rattle.hdfs_client.specs.Writing.{ReachesWhole}
use Rattle.hdfs_client.specs.declared.client.Client.{Client}
use Rattle.hdfs_client.specs.declared.errors.ClientError.{ClientError}
use Rattle.hdfs_client.specs.declared.errors.ClientError.TheVariants.{Hdfs}
use Rattle.hdfs_client.specs.declared.status.FileStatus.{FileStatus}
use Rattle.hdfs_client.proofs.Below.{AreBegun, begun_first, begun_on, behind}
use Rattle.hdfs_client.proofs.Listed.{GoesAll, GoesSome, all_listed, begins_all, begins_some, goes_all, goes_some, is_more}
use Rattle.hdfs_client.proofs.ToldPages.{ended_since, pages_same, still_refl, still_trans}

-- each directory that was begun leads to a whole service
pub begun_whole : (may_answer : Ask → Answer → Type 0) (recursive : Bool) (path : List ℕ) (client client' : Client) (s t : Shown)
    → IsWholeBelow may_answer recursive client path s → ((src : List ℕ) → ReachesWhole client src s → ReachesWhole client' src t) → (dirs : List Left)
    → AreBegun may_answer (mounts_of client) recursive path dirs → AreWhole client' t dirs
begun_whole may_answer recursive path client client' s t whole keeps [] begun = tt
begun_whole may_answer recursive path client client' s t whole keeps (dir ∷ dirs) begun = (
  keeps dir.path (whole dir.path begun.0.below),
  begun_whole may_answer recursive path client client' s t whole keeps dirs begun.1,
)

-- the walk as it was taken, by the mounts and the flag of the call, and by what it gave
pub same_told : (s t : Shown) (mounts mounts' : MountTable) (recursive recursive' : Bool) (old new : List Left)
    (result result' : Option (Result FileStatus HdfsError)) → mounts' ≡ mounts → recursive' ≡ recursive → result' ≡ result
    → WhereTold s t (λ p. Walks (IsPageIn p) mounts' (IsEndedIn p mounts' s t) recursive' old result' new)
    → WhereTold s t (λ p. Walks (IsPageIn p) mounts (IsEndedIn p mounts s t) recursive old result new)
same_told s t mounts mounts' recursive recursive' old new result result' same flag is walks =
    subst (λ (m : MountTable). WhereTold s t (λ p. Walks (IsPageIn p) m (IsEndedIn p m s t) recursive old result new)) same
    (subst (λ (r : Bool). WhereTold s t (λ p. Walks (IsPageIn p) mounts' (IsEndedIn p mounts' s t) r old result new)) flag
    (subst (λ (r : Option (Result FileStatus HdfsError)). WhereTold s t (λ p. Walks (IsPageIn p) mounts' (IsEndedIn p mounts' s t) recursive' old r new)) is walks))

-- an error of a call, where the caller has this of it
match_err : {T : Type 0} (IsDone : T → Type 0) (Is : ClientError → Type 0) (error : ClientError) (result : Result T ClientError)
    → IsErrAnd result (λ e. e ≡ error) → Is error → MatchResult result IsDone Is
match_err IsDone Is error (Ok value) same fault = absurd same
match_err IsDone Is error (Err e) same fault = subst Is (sym same) fault

module _ (mounts : MountTable) (recursive : Bool) (path : List ℕ) where
  -- what a picture tells of a path is what was given, and then what is to come; each directory that was begun is told below it
  pub record GoesIn (p : Picture) (given : List FileStatus) (dirs : List Left) : Type 0 where
    pub all : GoesAll (IsPageIn p) mounts recursive path given dirs
    pub some : GoesSome (IsPageIn p) mounts recursive path given dirs
    pub begun : AreBegun (IsPageIn p) mounts recursive path dirs

  pub told_begins : (s : Shown) (given : List FileStatus) (dirs : List Left) → given ≡ [] → dirs ≡ fresh path ∷ [] → WhereTold s s (λ p. GoesIn p given dirs)
  told_begins s given dirs none is = λ p told. (
    still_refl p s told,
    record {
      all = begins_all (IsPageIn p) mounts recursive path given dirs none is;
      some = begins_some (IsPageIn p) mounts recursive path given dirs none is;
      begun = begun_first (IsPageIn p) mounts recursive path dirs is;
    },
  )

  module _ (begin s t : Shown) (given : List FileStatus) (old new : List Left) (so : WhereTold begin s (λ p. GoesIn p given old)) where
    -- an entry more was given
    pub told_on : (given' : List FileStatus) (status : FileStatus) → given' ≡ given ++ status ∷ []
        → WhereTold s t (λ p. Walks (IsPageIn p) mounts (IsEndedIn p mounts s t) recursive old (Some (Ok status)) new)
        → WhereTold begin t (λ p. GoesIn p given' new)
    told_on given' status put next = λ p told.
        (let first = so p told in
        let q : Picture = first.0.q in
        let then = next q first.0.now in
        let walks : Walks (IsPageIn p) mounts (IsEndedIn q mounts s t) recursive old (Some (Ok status)) new =
        pages_same (λ (R : Ask → Answer → Type 0). Walks R mounts (IsEndedIn q mounts s t) recursive old (Some (Ok status)) new) p q first.0.same then.1 in (
          still_trans first.0 then.0,
          record {
            all = goes_all (IsPageIn p) mounts recursive path (IsEndedIn q mounts s t) given given' old new status put walks first.1.all;
            some = goes_some (IsPageIn p) mounts recursive path (IsEndedIn q mounts s t) given given' old new status put walks first.1.some;
            begun = begun_on (IsPageIn p) mounts recursive path old new status walks.turn first.1.begun;
          },
        ))

    -- all was given
    pub told_all : WhereTold s t (λ p. Walks (IsPageIn p) mounts (IsEndedIn p mounts s t) recursive old None new)
        → WhereTold begin t (λ p. Lists (HasAll (IsPageIn p) mounts) recursive path given)
    told_all next = λ p told.
        (let first = so p told in
        let q : Picture = first.0.q in
        let then = next q first.0.now in
        let walks : Walks (IsPageIn p) mounts (IsEndedIn q mounts s t) recursive old None new =
        pages_same (λ (R : Ask → Answer → Type 0). Walks R mounts (IsEndedIn q mounts s t) recursive old None new) p q first.0.same then.1 in (
          still_trans first.0 then.0,
          all_listed (IsPageIn p) mounts recursive path (IsEndedIn q mounts s t) given old new first.1.all walks,
        ))

    module _ {T : Type 0} (IsDone : Picture → T → Type 0) (limit : ℕ) (result : Result T ClientError) where
      -- what is so of the result
      abbrev pub Fails : Type 0
      Fails = WhereTold begin t (λ p. MatchResult result (IsDone p) (IsListFaultIn p mounts recursive path limit begin t))

      -- a directory was ended
      pub told_fails : (cause : HdfsError) → IsErrAnd result (λ e. e ≡ Hdfs cause)
          → WhereTold s t (λ p. Walks (IsPageIn p) mounts (IsEndedIn p mounts s t) recursive old (Some (Err cause)) new) → Fails
      told_fails cause same next = λ p told.
          (let first = so p told in
          let q : Picture = first.0.q in
          let then = next q first.0.now in
          let walks : Walks (IsPageIn p) mounts (IsEndedIn q mounts s t) recursive old (Some (Err cause)) new =
          pages_same (λ (R : Ask → Answer → Type 0). Walks R mounts (IsEndedIn q mounts s t) recursive old (Some (Err cause)) new) p q first.0.same then.1 in
          let cut : IsCut (IsPageIn p) mounts (IsEndedIn q mounts s t cause) old new = walks.cut in
          let mine : AreBegun (IsPageIn p) mounts recursive path (cut.ended ∷ cut.around) =
          behind (IsPageIn p) mounts recursive path cut.within (cut.ended ∷ cut.around)
          (subst (λ (ds : List Left). AreBegun (IsPageIn p) mounts recursive path ds) cut.was first.1.begun) in
          let end : IsEndedBelowIn p mounts recursive path begin t cause = record {
            dir = cut.ended;
            below = mine.0.below;
            told = mine.0.told;
            from = mine.0.from;
            why = ended_since p q first.0.same mounts begin s t first.0.later.counts cause cut.ended cut.why;
          } in (
            still_trans first.0 then.0,
            match_err (IsDone p) (IsListFaultIn p mounts recursive path limit begin t) (Hdfs cause) result same (inr (cause, refl, end)),
          ))

      -- an entry couldn't be put behind the others
      pub told_not_put : (why : Type 0) (error : ClientError) (status : FileStatus) → IsErrAnd result (λ e. e ≡ error) → IsPutFault limit why error
          → (why → length given ≡ limit)
          → WhereTold s t (λ p. Walks (IsPageIn p) mounts (IsEndedIn p mounts s t) recursive old (Some (Ok status)) new) → Fails
      told_not_put why error status same fault full next = λ p told.
          (let first = so p told in
          let q : Picture = first.0.q in
          let then = next q first.0.now in
          let walks : Walks (IsPageIn p) mounts (IsEndedIn q mounts s t) recursive old (Some (Ok status)) new =
          pages_same (λ (R : Ask → Answer → Type 0). Walks R mounts (IsEndedIn q mounts s t) recursive old (Some (Ok status)) new) p q first.0.same then.1 in (
            still_trans first.0 then.0,
            match_err (IsDone p) (IsListFaultIn p mounts recursive path limit begin t) error result same (by p q first.1 walks fault),
          ))
        where
          by : (p q : Picture) → GoesIn p given old → Walks (IsPageIn p) mounts (IsEndedIn q mounts s t) recursive old (Some (Ok status)) new
              → IsPutFault limit why error → IsListFaultIn p mounts recursive path limit begin t error
          by p q goes walks (inl (is, more)) =
              inl (is, is_more (IsPageIn p) mounts recursive path (IsEndedIn q mounts s t) limit given old new status goes.some walks (full more))
          by p q goes walks (inr is) = inr (errors.NoMemory, is, for_want p)
            where
              for_want : (p : Picture) → IsEndedBelowIn p mounts recursive path begin t errors.NoMemory
              for_want p = record { dir = fresh path; below = asked; told = tt; from = inl refl; why = inl (inl refl) }

  -- there was no memory to begin
  pub told_unbegun : {T : Type 0} (IsDone : Picture → T → Type 0) (s : Shown) (limit : ℕ) (result : Result T ClientError)
      → IsErrAnd result (λ e. e ≡ Hdfs errors.NoMemory)
      → WhereTold s s (λ p. MatchResult result (IsDone p) (IsListFaultIn p mounts recursive path limit s s))
  told_unbegun IsDone s limit result same = λ p told. (
    still_refl p s told,
    match_err (IsDone p) (IsListFaultIn p mounts recursive path limit s s) (Hdfs errors.NoMemory) result same
        (inr (errors.NoMemory, refl, record { dir = fresh path; below = asked; told = tt; from = inl refl; why = inl (inl refl) })),
  )
