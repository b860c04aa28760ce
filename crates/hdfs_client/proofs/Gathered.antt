-- The entries of a directory that were given so far, and what is to come; and why a path can't be listed.
use Rattle.std.proofs.Common.{◌≡◌, ◌⊎◌, ℕ, ◌<◌, true, false, List, [], ◌∷◌, ◌++◌, length, refl, sym, ◌∙◌, ap, subst, inl, inr, append_assoc, Option, Some, None, Result, Ok, Err, IfErr, IsErrAnd}
use Rattle.std.proofs.lemmas.List.{append-nil}
use Rattle.std.proofs.lemmas.Bool.{cases_Bool}
use Rattle.hdfs_cluster.specs.declared.asks.Ask.{Ask}
use Rattle.hdfs_cluster.specs.declared.asks.Ask.TheVariants as asks
use Rattle.hdfs_cluster.specs.declared.asks.Answer.{Answer}
use Rattle.hdfs_cluster.specs.declared.asks.Answer.TheVariants as answers
use Rattle.hdfs_cluster.specs.declared.asks.AskFault.{AskFault}
use Rattle.hdfs_cluster.specs.declared.errors.HdfsError.{HdfsError}
use Rattle.hdfs_cluster.specs.declared.errors.HdfsError.TheVariants as errors
use Rattle.hdfs_names.specs.declared.mounts.MountTable.{MountTable}
use Rattle.hdfs_client.specs.Calls.{Gives}
use Rattle.hdfs_client.specs.Clients.{mounts_of}
use Rattle.hdfs_client.specs.Globbing.{IsNotListed, IsUnlisted}
use Rattle.hdfs_client.specs.Iterating.{HasRest, HasSomeRest, IfFails, IsEntryFault, IsPageFault, Left, Turns, fresh, wants_page}
use Rattle.hdfs_client.specs.Listing.{AreOnPages, HasAll, HasSome, IsPutFault}
use Rattle.hdfs_client.specs.declared.client.Client.{Client}
use Rattle.hdfs_client.specs.declared.errors.ClientError.{ClientError}
use Rattle.hdfs_client.specs.declared.errors.ClientError.TheVariants.{Hdfs}
use Rattle.hdfs_client.specs.declared.status.FileStatus.{FileStatus}
use Rattle.hdfs_client.proofs.Rests.{all_fresh, none_all, none_some, some_fresh}

-- what a path has is what was given, and then what is left
pub record Gathers (may_answer : Ask → Answer → Type 0) (mounts : MountTable) (path : List ℕ) (given : List FileStatus) (dir : Left) : Type 0 where
  pub all : (rest : List FileStatus) → HasRest may_answer mounts dir rest → HasAll may_answer mounts path (given ++ rest)
  pub some : (rest : List FileStatus) → HasSomeRest may_answer mounts dir rest → HasSome may_answer mounts path (given ++ rest)

module _ (may_answer : Ask → Answer → Type 0) (mounts : MountTable) (path : List ℕ) where
  pub gathers_begun : (given : List FileStatus) (dir : Left) → given ≡ [] → dir ≡ fresh path → Gathers may_answer mounts path given dir
  gathers_begun given dir none is = record {
    all = λ rest has. subst (λ (xs : List FileStatus). HasAll may_answer mounts path (xs ++ rest)) (sym none)
        (all_fresh may_answer mounts path rest (subst (λ (l : Left). HasRest may_answer mounts l rest) is has));
    some = λ rest has. subst (λ (xs : List FileStatus). HasSome may_answer mounts path (xs ++ rest)) (sym none)
        (some_fresh may_answer mounts path rest (subst (λ (l : Left). HasSomeRest may_answer mounts l rest) is has));
  }

  pub gathers_on : (given given' : List FileStatus) (status : FileStatus) (old new : Left) → given' ≡ given ++ status ∷ []
      → Turns may_answer mounts old (Some (Ok status)) new → Gathers may_answer mounts path given old → Gathers may_answer mounts path given' new
  gathers_on given given' status old new put turns gathers = record {
    all = λ rest has. subst (λ (xs : List FileStatus). HasAll may_answer mounts path xs)
        (sym (ap (λ (xs : List FileStatus). xs ++ rest) put ∙ append_assoc given (status ∷ []) rest))
        (gathers.all (status ∷ rest) (turns.all refl rest has));
    some = λ rest has. subst (λ (xs : List FileStatus). HasSome may_answer mounts path xs)
        (sym (ap (λ (xs : List FileStatus). xs ++ rest) put ∙ append_assoc given (status ∷ []) rest))
        (gathers.some (status ∷ rest) (turns.some rest has));
  }

  pub gathers_all : (given : List FileStatus) (old new : Left) → Turns may_answer mounts old None new → Gathers may_answer mounts path given old
      → HasAll may_answer mounts path given
  gathers_all given old new turns gathers =
      subst (λ (xs : List FileStatus). HasAll may_answer mounts path xs) (append-nil given)
      (gathers.all [] (turns.all refl [] (none_all may_answer mounts new (turns.ends refl))))

  pub gathers_more : (given : List FileStatus) (status : FileStatus) (old new : Left) → Turns may_answer mounts old (Some (Ok status)) new
      → Gathers may_answer mounts path given old → HasSome may_answer mounts path (given ++ status ∷ [])
  gathers_more given status old new turns gathers = gathers.some (status ∷ []) (turns.some [] (none_some may_answer mounts new))

pub same_turns : (may_answer : Ask → Answer → Type 0) (mounts mounts' : MountTable) (old new : Left) (result : Option (Result FileStatus HdfsError))
    → mounts' ≡ mounts → Turns may_answer mounts' old result new → Turns may_answer mounts old result new
same_turns may_answer mounts mounts' old new result same turns = subst (λ (m : MountTable). Turns may_answer m old result new) same turns

-- ---- errors

module _ {C : Type 0} (serves : C → ℕ → Ask → Result Answer AskFault → C → Type 0) (may_answer : Ask → Answer → Type 0) (mounts : MountTable) (path : List ℕ) where
  pub unlisted : (dir : Left) (client client' : Client) (old new : C) (found : Result FileStatus HdfsError) (error : HdfsError) → found ≡ Err error
      → dir.path ≡ path → AreOnPages may_answer mounts dir.path dir.held → mounts_of client ≡ mounts
      → (wants_page dir ≡ true → Gives serves false (λ at. asks.GetListing at dir.start false) answers.GetListing client dir.path old client' new
      (λ outcome. IfFails (Some found) (IsPageFault dir.path outcome)))
      → (wants_page dir ≡ false → (client' ≡ client) × (new ≡ old) × IfFails (Some found) (IsEntryFault dir.path dir.held))
      → IsUnlisted serves may_answer mounts path error
  unlisted dir client client' old new found error is of told same turn quiet = by (cases_Bool (wants_page dir))
    where
      by : (wants_page dir ≡ true) ⊎ (wants_page dir ≡ false) → IsUnlisted serves may_answer mounts path error
      by (inl wants) = record {
        dir = dir;
        of = of;
        told = told;
        why = inl (
          client',
          new,
          record {
            client = client;
            old = old;
            gives = subst (λ (r : Result FileStatus HdfsError). Gives serves false (λ at. asks.GetListing at dir.start false) answers.GetListing client dir.path old
                client' new (λ outcome. IfFails (Some r) (IsPageFault dir.path outcome))) is (turn wants);
          },
          same,
        );
      }
      by (inr none) = record {
        dir = dir;
        of = of;
        told = told;
        why = inr (inl (subst (λ (r : Result FileStatus HdfsError). IfFails (Some r) (IsEntryFault dir.path dir.held)) is (quiet none).2));
      }

  pub for_want : IsUnlisted serves may_answer mounts path errors.NoMemory
  for_want = record { dir = fresh path; of = refl; told = tt; why = inr (inr refl) }

  module _ (limit : ℕ) where
    -- an error of the iterator, as one of the client
    pub not_listed : {T : Type 0} (cause : HdfsError) (result : Result T ClientError) → IsUnlisted serves may_answer mounts path cause
        → IsErrAnd result (λ e. e ≡ Hdfs cause) → IfErr result (IsNotListed serves may_answer mounts limit path)
    not_listed cause (Ok value) fault same = absurd same
    not_listed cause (Err error) fault same = inr (cause, same, fault)

    -- want of memory
    pub not_stored : {T : Type 0} (result : Result T ClientError) → IsErrAnd result (λ e. e ≡ Hdfs errors.NoMemory)
        → IfErr result (IsNotListed serves may_answer mounts limit path)
    not_stored result same = not_listed errors.NoMemory result for_want same

    -- an entry that wasn't put behind the others
    pub not_put : {T : Type 0} (why : Type 0) (own : List FileStatus) (error : ClientError) (result : Result T ClientError) → IsPutFault limit why error
        → (why → limit < length own) → HasSome may_answer mounts path own → IsErrAnd result (λ e. e ≡ error)
        → IfErr result (IsNotListed serves may_answer mounts limit path)
    not_put why own error (Ok value) fault many has same = absurd same
    not_put why own error (Err e) (inl (is, full)) many has same = inl (same ∙ is, (own, has, many full))
    not_put why own error (Err e) (inr is) many has same = inr (errors.NoMemory, same ∙ is, for_want)
