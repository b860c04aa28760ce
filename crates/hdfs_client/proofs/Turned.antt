-- What comes of an ask for a page, and of the entries that are held.
use Rattle.std.proofs.Common.{◌≡◌, ℕ, Bool, false, List, [], ◌∷◌, ◌++◌, reverse, refl, sym, ◌∙◌, ap, subst, inl, inr, Option, Some, None, Result, Ok, Err, IsErrAnd}
use Rattle.std.proofs.lemmas.List.{reverse-append}
use Rattle.hdfs_cluster.specs.declared.asks.Ask.{Ask}
use Rattle.hdfs_cluster.specs.declared.asks.Ask.TheVariants as asks
use Rattle.hdfs_cluster.specs.declared.asks.Answer.{Answer}
use Rattle.hdfs_cluster.specs.declared.asks.Answer.TheVariants as answers
use Rattle.hdfs_cluster.specs.declared.asks.AskFault.{AskFault}
use Rattle.hdfs_cluster.specs.declared.errors.HdfsError.{HdfsError}
use Rattle.hdfs_cluster.specs.declared.errors.HdfsError.TheVariants as errors
use Rattle.hdfs_cluster.specs.declared.messages.DirList.{DirList}
use Rattle.hdfs_cluster.specs.declared.messages.FileStatusMsg.{FileStatusMsg}
use Rattle.hdfs_client.specs.Calls.{Gives}
use Rattle.hdfs_client.specs.Iterating.{IfFails, IsEntryFault, IsPage, IsPageFault, Left}
use Rattle.hdfs_listing.specs.Walking.{has_more, last_name}
use Rattle.hdfs_client.specs.Turning.{IsGiven, IsTurned, opened_at}
use Rattle.hdfs_client.specs.declared.client.Client.{Client}
use Rattle.hdfs_client.specs.declared.status.FileStatus.{FileStatus}

-- ---- what an ask comes to

page_fails : (old : Left) (outcome : Result (Option DirList) HdfsError) (error : HdfsError) (new : Left) → IsPage old.path outcome (Err error)
    → IsTurned old outcome (Err error) new
page_fails old (Ok (Some page)) error new is = cc
page_fails old (Ok None) error new (inl is) = inl cc
page_fails old (Ok None) error new (inr is) = inr cc
page_fails old (Err cause) error new is = cc

page_lacks : (old : Left) (outcome : Result (Option DirList) HdfsError) (page : DirList) (new : Left) → IsPage old.path outcome (Ok page)
    → IsTurned old outcome (Err errors.NoMemory) new
page_lacks old (Ok (Some other)) page new is = refl
page_lacks old (Ok None) page new (inl is) = cc
page_lacks old (Ok None) page new (inr is) = cc
page_lacks old (Err cause) page new is = cc

page_holds : (old : Left) (outcome : Result (Option DirList) HdfsError) (page : DirList) (new : Left) → IsPage old.path outcome (Ok page)
    → new ≡ opened_at page old → IsTurned old outcome (Ok tt) new
page_holds old (Ok (Some other)) page new is held = let same : page ≡ other = cc in held ∙ ap (λ (p : DirList). opened_at p old) same
page_holds old (Ok None) page new (inl is) held = cc
page_holds old (Ok None) page new (inr is) held = cc
page_holds old (Err cause) page new is held = cc

passed : (old : Left) (outcome : Result (Option DirList) HdfsError) (error : HdfsError) (result : Result (Unit {0}) HdfsError) (new : Left)
    → IsErrAnd result (λ e. e ≡ error) → IsTurned old outcome (Err error) new → IsTurned old outcome result new
passed old outcome error (Ok value) new is turned = absurd is
passed old outcome error (Err e) new is turned = subst (λ (e : HdfsError). IsTurned old outcome (Err e) new) (sym is) turned

-- what is left of a directory, from its parts
abbrev left_with : List ℕ → List ℕ → List FileStatusMsg → Bool → Left
left_with path start held more = record { path = path; start = start; held = held; more = more }

-- the entries of this page are held
pub is_opened : (old new : Left) (page : DirList) → new.path ≡ old.path → new.start ≡ last_name old.start page.partial_listing
    → new.held ≡ page.partial_listing → new.more ≡ has_more page → new ≡ opened_at page old
is_opened old new page path start held more =
    ap (λ (x : List ℕ). left_with x new.start new.held new.more) path
    ∙ ap (λ (x : List ℕ). left_with old.path x new.held new.more) start
    ∙ ap (λ (x : List FileStatusMsg). left_with old.path (last_name old.start page.partial_listing) x new.more) held
    ∙ ap (λ (x : Bool). left_with old.path (last_name old.start page.partial_listing) page.partial_listing x) more

fault_on : (old : Left) (outcome : Result (Option DirList) HdfsError) (mid new : Left) (result : Option (Result FileStatus HdfsError))
    → IsTurned old outcome (Ok tt) mid → mid.path ≡ old.path → IsGiven mid result new → IfFails result (IsPageFault old.path outcome)
fault_on old outcome mid new None turned named given = tt
fault_on old outcome mid new (Some (Ok status)) turned named given = tt
fault_on old (Ok (Some page)) mid new (Some (Err error)) turned named (fault, is) =
    inr (subst (λ (p : List ℕ). IsEntryFault p page.partial_listing error) named
    (subst (λ (ms : List FileStatusMsg). IsEntryFault mid.path ms error) (ap (λ (l : Left). l.held) turned) fault))
fault_on old (Ok None) mid new (Some (Err error)) (inl is) named given = cc
fault_on old (Ok None) mid new (Some (Err error)) (inr is) named given = cc
fault_on old (Err cause) mid new (Some (Err error)) turned named given = cc

module _ {C : Type 0} (serves : C → ℕ → Ask → Result Answer AskFault → C → Type 0) (client client' : Client) (old new : C) where
  gives_so : (ask : List ℕ → Ask) (path : List ℕ) (Is Is' : Result (Option DirList) HdfsError → Type 0)
      → ((outcome : Result (Option DirList) HdfsError) → Is outcome → Is' outcome)
      → Gives serves false ask answers.GetListing client path old client' new Is
      → Gives serves false ask answers.GetListing client path old client' new Is'
  gives_so ask path Is Is' so gives = record { outcome = gives.outcome; asks = gives.asks; has = so gives.outcome gives.has }

  module _ (left : Left) (path' start' : List ℕ) (dir : Left) (named : path' ≡ left.path) (from : start' ≡ left.start) where
    asked_so : (result : Result DirList HdfsError) (result' : Result (Unit {0}) HdfsError)
        → ((outcome : Result (Option DirList) HdfsError) → IsPage left.path outcome result → IsTurned left outcome result' dir)
        → Gives serves false (λ at. asks.GetListing at start' false) answers.GetListing client path' old client' new (λ outcome. IsPage path' outcome result)
        → Gives serves false (λ at. asks.GetListing at left.start false) answers.GetListing client left.path old client' new
        (λ outcome. IsTurned left outcome result' dir)
    asked_so result result' so gives =
        gives_so (λ at. asks.GetListing at left.start false) left.path (λ outcome. IsPage left.path outcome result)
        (λ outcome. IsTurned left outcome result' dir) so
        (subst (λ (p : List ℕ). Gives serves false (λ at. asks.GetListing at left.start false) answers.GetListing client p old client' new
        (λ outcome. IsPage p outcome result)) named
        (subst (λ (s : List ℕ). Gives serves false (λ at. asks.GetListing at s false) answers.GetListing client path' old client' new
        (λ outcome. IsPage path' outcome result)) from gives))

    pub asked_failed : (error : HdfsError) (result' : Result (Unit {0}) HdfsError) → IsErrAnd result' (λ e. e ≡ error)
        → Gives serves false (λ at. asks.GetListing at start' false) answers.GetListing client path' old client' new (λ outcome. IsPage path' outcome (Err error))
        → Gives serves false (λ at. asks.GetListing at left.start false) answers.GetListing client left.path old client' new
        (λ outcome. IsTurned left outcome result' dir)
    asked_failed error result' is =
        asked_so (Err error) result' (λ outcome page. passed left outcome error result' dir is (page_fails left outcome error dir page))

    pub asked_lacks : (page : DirList) (result' : Result (Unit {0}) HdfsError) (error : HdfsError) → IsErrAnd result' (λ e. e ≡ error) → error ≡ errors.NoMemory
        → Gives serves false (λ at. asks.GetListing at start' false) answers.GetListing client path' old client' new (λ outcome. IsPage path' outcome (Ok page))
        → Gives serves false (λ at. asks.GetListing at left.start false) answers.GetListing client left.path old client' new
        (λ outcome. IsTurned left outcome result' dir)
    asked_lacks page result' error is none =
        asked_so (Ok page) result' (λ outcome came. passed left outcome error result' dir is
        (subst (λ (e : HdfsError). IsTurned left outcome (Err e) dir) (sym none) (page_lacks left outcome page dir came)))

    pub asked_holds : (page : DirList) → dir ≡ opened_at page left
        → Gives serves false (λ at. asks.GetListing at start' false) answers.GetListing client path' old client' new (λ outcome. IsPage path' outcome (Ok page))
        → Gives serves false (λ at. asks.GetListing at left.start false) answers.GetListing client left.path old client' new
        (λ outcome. IsTurned left outcome (Ok tt) dir)
    asked_holds page held = asked_so (Ok page) (Ok tt) (λ outcome came. page_holds left outcome page dir came held)

  pub asked_fault : (left mid dir : Left) (result : Option (Result FileStatus HdfsError)) → mid.path ≡ left.path → IsGiven mid result dir
      → Gives serves false (λ at. asks.GetListing at left.start false) answers.GetListing client left.path old client' new (λ outcome. IsTurned left outcome (Ok tt) mid)
      → Gives serves false (λ at. asks.GetListing at left.start false) answers.GetListing client left.path old client' new
      (λ outcome. IfFails result (IsPageFault left.path outcome))
  asked_fault left mid dir result named given =
      gives_so (λ at. asks.GetListing at left.start false) left.path (λ outcome. IsTurned left outcome (Ok tt) mid) (λ outcome. IfFails result (IsPageFault left.path outcome))
      (λ outcome turned. fault_on left outcome mid dir result turned named given)

-- ---- an entry of those that are held

pub first_of_held : (old new : List FileStatusMsg) (message : FileStatusMsg) → old ≡ new ++ message ∷ [] → reverse old ≡ message ∷ reverse new
first_of_held old new message is = ap (λ (xs : List FileStatusMsg). reverse xs) is ∙ reverse-append new (message ∷ [])
