-- The directories that a listing has begun are the one at its path, or were answered below it; and why a listing fails.
use Rattle.std.proofs.Common.{◌≡◌, ℕ, Bool, true, false, ◌&&◌, List, [], ◌∷◌, ◌++◌, refl, sym, subst, append_assoc, inl, inr, Some, Result, Ok, Err, IfErr, IsErrAnd}
use Rattle.hdfs_cluster.specs.declared.asks.Ask.{Ask}
use Rattle.hdfs_cluster.specs.declared.asks.Answer.{Answer}
use Rattle.hdfs_cluster.specs.declared.asks.AskFault.{AskFault}
use Rattle.hdfs_cluster.specs.declared.errors.HdfsError.{HdfsError}
use Rattle.hdfs_cluster.specs.declared.errors.HdfsError.TheVariants as errors
use Rattle.hdfs_names.specs.declared.mounts.MountTable.{MountTable}
use Rattle.hdfs_client.specs.Iterating.{HasSomeRest, HasTurn, IsCut, IsDirFault, IsEndedBelow, IsListFault, Left, entered_by, fresh}
use Rattle.hdfs_client.specs.Listing.{AreOnPages, HasSome, IsBelow, IsFrom, IsMoreThan, IsPutFault, answered, asked}
use Rattle.hdfs_client.specs.declared.client.Client.{Client}
use Rattle.hdfs_client.specs.declared.errors.ClientError.{ClientError}
use Rattle.hdfs_client.specs.declared.errors.ClientError.TheVariants.{Hdfs}
use Rattle.hdfs_client.specs.declared.status.FileStatus.{FileStatus}
use Rattle.hdfs_client.proofs.Fetching.{passed_on}
use Rattle.hdfs_client.proofs.Rests.{none_some, some_fresh}

module _ (may_answer : Ask → Answer → Type 0) (mounts : MountTable) (recursive : Bool) (path : List ℕ) where
  -- a directory that was begun: what is left of it stands behind some of what it has, and what it holds on answered pages, from which it goes on
  pub record IsBegun (dir : Left) : Type 0 where
    pub below : IsBelow (HasSome may_answer mounts) recursive path dir.path
    pub told : AreOnPages may_answer mounts dir.path dir.held
    pub from : IsFrom may_answer mounts dir.path dir.start
    pub had : List FileStatus
    pub has : (own : List FileStatus) → HasSomeRest may_answer mounts dir own → HasSome may_answer mounts dir.path (had ++ own)

  -- each of these
  abbrev pub AreBegun : List Left → Type 0
  AreBegun [] = Unit {0}
  AreBegun (dir ∷ dirs) = IsBegun dir × AreBegun dirs

  pub behind : (within dirs : List Left) → AreBegun (within ++ dirs) → AreBegun dirs
  behind [] dirs begun = begun
  behind (dir ∷ within) dirs begun = behind within dirs begun.1

  first_begun : IsBegun (fresh path)
  first_begun = record { below = asked; told = tt; from = inl refl; had = []; has = some_fresh may_answer mounts path }

  pub begun_first : (dirs : List Left) → dirs ≡ fresh path ∷ [] → AreBegun dirs
  begun_first dirs is = subst (λ (ds : List Left). AreBegun ds) (sym is) (first_begun, tt)

  -- an entry more was given
  pub begun_on : (old new : List Left) (status : FileStatus) → HasTurn may_answer mounts recursive old (Some (Ok status)) new → AreBegun old → AreBegun new
  begun_on old new status turn begun = subst (λ (ds : List Left). AreBegun ds) (sym turn.is) (by (recursive && status.isdir) refl)
    where
      mine : AreBegun (turn.dir ∷ turn.around)
      mine = behind turn.within (turn.dir ∷ turn.around) (subst (λ (ds : List Left). AreBegun ds) turn.was begun)

      goes_on : IsBegun turn.dir'
      goes_on = record {
        below = subst (λ (p : List ℕ). IsBelow (HasSome may_answer mounts) recursive path p) (sym turn.path) mine.0.below;
        told = subst (λ (p : List ℕ). AreOnPages may_answer mounts p turn.dir'.held) (sym turn.path) (turn.told mine.0.told);
        from = subst (λ (p : List ℕ). IsFrom may_answer mounts p turn.dir'.start) (sym turn.path) (turn.from refl mine.0.from);
        had = mine.0.had ++ status ∷ [];
        has = λ own rest. subst (λ (p : List ℕ). HasSome may_answer mounts p ((mine.0.had ++ status ∷ []) ++ own)) (sym turn.path)
            (subst (λ (xs : List FileStatus). HasSome may_answer mounts turn.dir.path xs) (sym (append_assoc mine.0.had (status ∷ []) own))
            (mine.0.has (status ∷ own) (turn.some own rest)));
      }

      enters : (recursive && status.isdir) ≡ true → IsBegun (fresh status.path)
      enters directory = record {
        below = answered turn.dir.path mine.0.had status [] mine.0.below
            (mine.0.has (status ∷ []) (turn.some [] (none_some may_answer mounts turn.dir'))) directory;
        told = tt;
        from = inl refl;
        had = [];
        has = some_fresh may_answer mounts status.path;
      }

      by : (b : Bool) → (recursive && status.isdir) ≡ b → AreBegun (entered_by b status (turn.dir' ∷ turn.around))
      by false plain = (goes_on, mine.1)
      by true directory = (enters directory, (goes_on, mine.1))

  module _ {C : Type 0} (serves : C → ℕ → Ask → Result Answer AskFault → C → Type 0) (client : Client) (cluster : C) where
    -- one of them was ended
    pub ended_below : (old new : List Left) (error : HdfsError) → IsCut may_answer mounts (IsDirFault serves client cluster error) old new → AreBegun old
        → IsEndedBelow serves may_answer mounts recursive path client cluster error
    ended_below old new error cut begun =
        let mine : AreBegun (cut.ended ∷ cut.around) =
        behind cut.within (cut.ended ∷ cut.around) (subst (λ (ds : List Left). AreBegun ds) cut.was begun) in
        record { dir = cut.ended; below = mine.0.below; told = mine.0.told; why = cut.why }

    -- there was no memory
    pub ended_for_want : IsEndedBelow serves may_answer mounts recursive path client cluster errors.NoMemory
    ended_for_want = record { dir = fresh path; below = asked; told = tt; why = inr (inr refl) }

    module _ (limit : ℕ) where
      -- an error of the iterator, as one of the client
      pub not_listed : {T : Type 0} (cause : HdfsError) (result : Result T ClientError)
          → IsEndedBelow serves may_answer mounts recursive path client cluster cause → IsErrAnd result (λ e. e ≡ Hdfs cause)
          → IfErr result (IsListFault serves may_answer mounts recursive path limit client cluster)
      not_listed cause (Ok value) fault same = absurd same
      not_listed cause (Err error) fault same = inr (cause, same, fault)

      put_fault : (why : Type 0) (error : ClientError) → (why → IsMoreThan may_answer mounts recursive path limit) → IsPutFault limit why error
          → IsListFault serves may_answer mounts recursive path limit client cluster error
      put_fault why error more (inl (is, full)) = inl (is, more full)
      put_fault why error more (inr is) = inr (errors.NoMemory, is, ended_for_want)

      -- an entry that wasn't put behind the others
      pub not_put : {T : Type 0} (why : Type 0) (error : ClientError) (result : Result T ClientError)
          → (why → IsMoreThan may_answer mounts recursive path limit) → IsPutFault limit why error → IsErrAnd result (λ e. e ≡ error)
          → IfErr result (IsListFault serves may_answer mounts recursive path limit client cluster)
      not_put why error result more fault is =
          passed_on (IsListFault serves may_answer mounts recursive path limit client cluster) error result is (put_fault why error more fault)
