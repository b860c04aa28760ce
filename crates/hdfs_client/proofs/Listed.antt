-- What is listed so far, and what is to come.
use Rattle.std.proofs.Common.{◌≡◌, ℕ, Bool, List, [], ◌∷◌, ◌++◌, length, refl, sym, ◌∙◌, ap, subst, arith, append_assoc, length-append, Option, Some, None, Result, Ok}
use Rattle.std.proofs.lemmas.List.{append-nil}
use Rattle.hdfs_cluster.specs.declared.asks.Ask.{Ask}
use Rattle.hdfs_cluster.specs.declared.asks.Answer.{Answer}
use Rattle.hdfs_cluster.specs.declared.errors.HdfsError.{HdfsError}
use Rattle.hdfs_names.specs.declared.mounts.MountTable.{MountTable}
use Rattle.hdfs_client.specs.Iterating.{AreFound, HasRest, HasSomeRest, IsToCome, Left, MayCome, Walks, fresh}
use Rattle.hdfs_client.specs.Listing.{Finds, HasAll, HasSome, IsMoreThan, Lists}
use Rattle.hdfs_client.specs.declared.status.FileStatus.{FileStatus}
use Rattle.hdfs_client.proofs.Found.{nothing_comes, nothing_may_come}
use Rattle.hdfs_client.proofs.Rests.{all_fresh, some_fresh}

-- what is listed of a path is what was given, and then what is to come
pub record Goes (Comes : List Left → List FileStatus → Type 0) (Has : List ℕ → List FileStatus → Type 0) (recursive : Bool) (path : List ℕ)
    (given : List FileStatus) (dirs : List Left) : Type 0 where
  pub lists : (later : List FileStatus) → Comes dirs later → Lists Has recursive path (given ++ later)

begins : (Rest : Left → List FileStatus → Type 0) (Has : List ℕ → List FileStatus → Type 0) (recursive : Bool) (path : List ℕ)
    → ((own : List FileStatus) → Rest (fresh path) own → Has path own) → Goes (AreFound Rest Has recursive) Has recursive path [] (fresh path ∷ [])
begins Rest Has recursive path begin = record {
  lists = λ later comes. record {
    own = comes.own;
    has = begin comes.own comes.rest;
    finds = subst (λ (xs : List FileStatus). Finds Has recursive comes.own xs)
        (sym (comes.is ∙ ap (λ (xs : List FileStatus). comes.inside ++ xs) comes.around ∙ append-nil comes.inside)) comes.finds;
  };
}

module _ (may_answer : Ask → Answer → Type 0) (mounts : MountTable) (recursive : Bool) (path : List ℕ) where
  abbrev pub GoesAll : List FileStatus → List Left → Type 0
  GoesAll = Goes (IsToCome may_answer mounts recursive) (HasAll may_answer mounts) recursive path

  abbrev pub GoesSome : List FileStatus → List Left → Type 0
  GoesSome = Goes (MayCome may_answer mounts recursive) (HasSome may_answer mounts) recursive path

  pub begins_all : (given : List FileStatus) (dirs : List Left) → given ≡ [] → dirs ≡ fresh path ∷ [] → GoesAll given dirs
  begins_all given dirs none is =
      subst (λ (xs : List FileStatus). GoesAll xs dirs) (sym none)
      (subst (λ (ds : List Left). GoesAll [] ds) (sym is)
      (begins (HasRest may_answer mounts) (HasAll may_answer mounts) recursive path (all_fresh may_answer mounts path)))

  pub begins_some : (given : List FileStatus) (dirs : List Left) → given ≡ [] → dirs ≡ fresh path ∷ [] → GoesSome given dirs
  begins_some given dirs none is =
      subst (λ (xs : List FileStatus). GoesSome xs dirs) (sym none)
      (subst (λ (ds : List Left). GoesSome [] ds) (sym is)
      (begins (HasSomeRest may_answer mounts) (HasSome may_answer mounts) recursive path (some_fresh may_answer mounts path)))

  module _ (Why : HdfsError → Left → Type 0) where
    -- the walk as it was taken, by the mounts and the flag of the call
    pub same_walk : (mounts' : MountTable) (recursive' : Bool) (old new : List Left) (result : Option (Result FileStatus HdfsError)) → mounts' ≡ mounts
        → recursive' ≡ recursive → Walks may_answer mounts' Why recursive' old result new → Walks may_answer mounts Why recursive old result new
    same_walk mounts' recursive' old new result same flag walks =
        subst (λ (m : MountTable). Walks may_answer m Why recursive old result new) same
        (subst (λ (r : Bool). Walks may_answer mounts' Why r old result new) flag walks)

    module _ (given given' : List FileStatus) (old new : List Left) (status : FileStatus) (put : given' ≡ given ++ status ∷ [])
        (walks : Walks may_answer mounts Why recursive old (Some (Ok status)) new) where
      pub goes_all : GoesAll given old → GoesAll given' new
      goes_all goes = record {
        lists = λ later comes. subst (λ (xs : List FileStatus). Lists (HasAll may_answer mounts) recursive path xs)
            (sym (ap (λ (xs : List FileStatus). xs ++ later) put ∙ append_assoc given (status ∷ []) later))
            (goes.lists (status ∷ later) (walks.all refl later comes));
      }

      pub goes_some : GoesSome given old → GoesSome given' new
      goes_some goes = record {
        lists = λ later comes. subst (λ (xs : List FileStatus). Lists (HasSome may_answer mounts) recursive path xs)
            (sym (ap (λ (xs : List FileStatus). xs ++ later) put ∙ append_assoc given (status ∷ []) later))
            (goes.lists (status ∷ later) (walks.some later comes));
      }

    -- nothing is to come any more
    pub all_listed : (given : List FileStatus) (old new : List Left) → GoesAll given old → Walks may_answer mounts Why recursive old None new
        → Lists (HasAll may_answer mounts) recursive path given
    all_listed given old new goes walks =
        subst (λ (xs : List FileStatus). Lists (HasAll may_answer mounts) recursive path xs) (append-nil given)
        (goes.lists [] (walks.all refl [] (nothing_comes may_answer mounts recursive new (walks.none refl))))

    -- an entry more than the limit was answered
    pub is_more : (limit : ℕ) (given : List FileStatus) (old new : List Left) (status : FileStatus) → GoesSome given old
        → Walks may_answer mounts Why recursive old (Some (Ok status)) new → length given ≡ limit → IsMoreThan may_answer mounts recursive path limit
    is_more limit given old new status goes walks full = (
      given ++ status ∷ [],
      goes.lists (status ∷ []) (walks.some [] (nothing_may_come may_answer mounts recursive new)),
      omega (arith, length-append given (status ∷ [])),
    )
