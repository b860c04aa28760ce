-- What an ask for a page comes to over a told picture, where the service to which the path leads is whole.
use Rattle.std.proofs.Common.{◌≡◌, ◌⊎◌, inl, inr, ℕ, ◌<◌, false, List, Option, Some, None, Ok, Err, sym, subst}
use Rattle.std.specs.Prelude.{Result}
use Rattle.hdfs_cluster.specs.declared.asks.Ask.{Ask}
use Rattle.hdfs_cluster.specs.declared.asks.Ask.TheVariants as asks
use Rattle.hdfs_cluster.specs.declared.asks.Answer.{Answer}
use Rattle.hdfs_cluster.specs.declared.asks.Answer.TheVariants as answers
use Rattle.hdfs_cluster.specs.declared.asks.AskFault.{AskFault}
use Rattle.hdfs_cluster.specs.declared.errors.HdfsError.{HdfsError}
use Rattle.hdfs_cluster.specs.declared.errors.HdfsError.TheVariants as errors
use Rattle.hdfs_cluster.specs.declared.messages.DirList.{DirList}
use Rattle.hdfs_cluster.specs.declared.picture.BlockEntry.{BlockEntry}
use Rattle.hdfs_cluster.specs.declared.picture.Entry.{Entry}
use Rattle.hdfs_cluster.specs.Failures.{ANamenode, CallsRose}
use Rattle.hdfs_cluster.specs.Files.{Kind}
use Rattle.hdfs_cluster.specs.Counts.{NeverFall}
use Rattle.hdfs_cluster.specs.Listing.{IsMissing, TellsListing}
use Rattle.hdfs_cluster.specs.Namenode.{IsRefusal, Row, StandsForAny}
use Rattle.hdfs_cluster.specs.Picture.{Picture, SameButActive}
use Rattle.hdfs_cluster.specs.Refusals.{above_refusal}
use Rattle.hdfs_cluster.specs.Repeating.{DoneOrNot}
use Rattle.hdfs_cluster.specs.Shown.{Served, Shown}
use Rattle.hdfs_cluster.proofs.Failures.{failed_since, means_since}
use Rattle.hdfs_cluster.proofs.Frames.{later_refl, later_trans, same_picture_refl}
use Rattle.hdfs_cluster.proofs.NamesRepeating.{listing_repeats}
use Rattle.hdfs_cluster.proofs.Relaying.{same_trans}
use Rattle.hdfs_cluster.proofs.Repeating.{kinds_same, names_same, table_same}
use Rattle.hdfs_names.specs.declared.mounts.MountTable.{MountTable}
use Rattle.hdfs_namenode.specs.Asked.{as_answer}
use Rattle.hdfs_namenode.specs.Relaying.{Came, RefusedBy, RelaysTold}
use Rattle.hdfs_namenode.proofs.Relayed.{relayed_done, relayed_row}
use Rattle.hdfs_client.specs.Calls.{Gives}
use Rattle.hdfs_client.specs.Clients.{AsksAt, mounts_of}
use Rattle.hdfs_client.specs.Iterating.{Left}
use Rattle.hdfs_client.specs.Listing.{IsAnswered}
use Rattle.hdfs_client.specs.Told.{HasNoPage, IsEndedIn, IsPageIn, IsPageOf, IsStill}
use Rattle.hdfs_listing.specs.Listing.{FailsAsk}
use Rattle.hdfs_client.specs.Turning.{IsOpened, IsTurned}
use Rattle.hdfs_client.specs.Writing.{ReachesWhole}
use Rattle.hdfs_client.specs.declared.client.Client.{Client}
use Rattle.hdfs_client.proofs.Coming.{came_at}

-- ---- pictures in which but another namenode is active

pub still_refl : (p : Picture) (s : Shown) → s.picture ≡ Some p → IsStill p s s
still_refl p s told = record { q = p; now = told; same = (same_picture_refl p).rest; later = later_refl s }

pub still_trans : {p : Picture} {s m t : Shown} → (first : IsStill p s m) → IsStill first.q m t → IsStill p s t
still_trans {p} {s} {m} {t} first then = record {
  q = then.q;
  now = then.now;
  same = same_trans p first.q then.q first.same then.same;
  later = later_trans s m t first.later then.later;
}

-- what is so of the pages of one is so of those of the other
pub pages_same : (P : (Ask → Answer → Type 0) → Type 0) (p q : Picture) → SameButActive p q → P (IsPageIn q) → P (IsPageIn p)
pages_same P p q same so =
    subst (λ (n : List ℕ → Option Entry). P (IsPageOf n p.table)) (names_same p q same)
    (subst (λ (t : ℕ → Option BlockEntry). P (IsPageOf q.names t)) (table_same p q same) so)

-- an ask that has failed has failed since
fails_since : (begin s t : Shown) → NeverFall begin.counts s.counts → (error : HdfsError) → FailsAsk s error t → FailsAsk begin error t
fails_since begin s t fall error (inl memory) = inl memory
fails_since begin s t fall error (inr rose) = inr ((rose.0.0, means_since begin s t error fall rose.0.1), failed_since begin s t ANamenode fall rose.1)

module _ (p q : Picture) (same : SameButActive p q) where
  no_page_same : (at start path : List ℕ) (error : HdfsError) → HasNoPage q at start path error → HasNoPage p at start path error
  no_page_same at start path error (inr missing) =
      inr (missing.0, subst (λ (n : List ℕ → Option Entry). IsMissing n at) (names_same p q same) missing.1)
  no_page_same at start path error (inl refused) = inl (refused.0, refused.1, by refused.2, refused.3)
    where
      by : IsRefusal q (asks.GetListing at start false) refused.0 → IsRefusal p (asks.GetListing at start false) refused.0
      by (inr bad) = inr bad
      by (inl above) =
          inl (subst (λ (k : List ℕ → Option Kind). StandsForAny (k at) (above_refusal k at) refused.0) (sym (kinds_same p q same)) above)

  -- a directory was ended for the same reason over the picture as it was before
  pub ended_since : (mounts : MountTable) (begin s t : Shown) → NeverFall begin.counts s.counts → (error : HdfsError) (dir : Left)
      → IsEndedIn q mounts s t error dir → IsEndedIn p mounts begin t error dir
  ended_since mounts begin s t fall error dir (inl fails) = inl (fails_since begin s t fall error fails)
  ended_since mounts begin s t fall error dir (inr (inl none)) =
      inr (inl (none.0, none.1, no_page_same none.0.path dir.start dir.path error none.2))
  ended_since mounts begin s t fall error dir (inr (inr (inl fault))) = inr (inr (inl fault))
  ended_since mounts begin s t fall error dir (inr (inr (inr next))) =
      inr (inr (inr (
        next.0,
        pages_same (λ (R : Ask → Answer → Type 0). IsAnswered R mounts dir.path dir.start next.0) p q same next.1,
        next.2,
      )))

-- ---- an ask for a page

module _ (s t : Shown) (at start : List ℕ) (p : Picture) (told : s.picture ≡ Some p) where
  abbrev ask : Ask
  ask = asks.GetListing at start false

  quiet : (q : Picture) → DoneOrNot ask p q → SameButActive p q
  quiet q (inl same) = same
  quiet q (inr done) = by done.0 done.2
    where
      by : (answer : Answer) → Row p ask answer q → SameButActive p q
      by (answers.GetListing page) row = row.1
      by answer row = absurd row

  -- it changes nothing
  still : (outcome : Result Answer HdfsError) → Came s ask outcome t → IsStill p s t
  still outcome came =
      let one = came.told p told (listing_repeats at start false p) in record {
        q = one.0;
        now = one.1;
        same = quiet one.0 (relayed_done (CallsRose s.counts t) p ask outcome one.0 came.relays.shaped one.2);
        later = came.relays.leaves.later;
      }

  -- a page, or that there is none
  page_told : (found : Option DirList) → Came s ask (Ok (answers.GetListing found)) t → TellsListing p.names p.table at start found
  page_told found came =
      let one = came.told p told (listing_repeats at start false p) in
      let row : Row p ask (answers.GetListing found) one.0 =
      relayed_row (CallsRose s.counts t) p ask (answers.GetListing found) one.0 (λ is. absurd (cc is)) (λ is. absurd (cc is)) one.2 in
      row.0

  -- an error of it
  error_told : (error : HdfsError) → Came s ask (Err error) t → FailsAsk s error t ⊎ RefusedBy p ask error
  error_told error came =
      let one = came.told p told (listing_repeats at start false p) in
      by one.0 one.2
    where
      by : (q : Picture) → RelaysTold (CallsRose s.counts t) p ask (Err error) q → FailsAsk s error t ⊎ RefusedBy p ask error
      by q (inl memory) = inl (inl memory.0)
      by q (inr (inl refused)) = inr refused.0
      by q (inr (inr rose)) = inl (inr (came.relays.tells, rose.0))

-- ---- an ask of a client

module _ {C : Type 0} (shown : C → Shown) (serves : C → ℕ → Ask → Result Answer AskFault → C → Type 0)
    (rows : (old new : C) (i : ℕ) (ask : Ask) (result : Result Answer AskFault) → serves old i ask result new → Served (shown old) i ask result (shown new))
    (below : (c : C) (p : Picture) → (shown c).picture ≡ Some p → p.active < (shown c).namenodes)
    (client client' : Client) (old new : C) (left mid : Left) (reaches : ReachesWhole client left.path (shown old)) where
  -- what the ask came to
  abbrev pub Turned : Result (Unit {0}) HdfsError → Type 0
  Turned result = Gives serves false (λ at. asks.GetListing at left.start false) answers.GetListing client left.path old client' new
      (λ outcome. IsTurned left outcome result mid)

  abbrev At : Result (Option DirList) HdfsError → Type 0
  At outcome = AsksAt serves false (λ at. asks.GetListing at left.start false) client left.path old (as_answer answers.GetListing outcome) client' new

  came_so : (outcome : Result (Option DirList) HdfsError) → (at : At outcome)
      → Came (shown old) (asks.GetListing at.to.path left.start false) (as_answer answers.GetListing outcome) (shown new)
  came_so outcome at = came_at rows below at reaches at.to at.leads

  module _ (p : Picture) (told : (shown old).picture ≡ Some p) where
    pub turned_still : (result : Result (Unit {0}) HdfsError) → Turned result → IsStill p (shown old) (shown new)
    turned_still result gives =
        still (shown old) (shown new) gives.asks.to.path left.start p told (as_answer answers.GetListing gives.outcome) (came_so gives.outcome gives.asks)

    -- a page of the picture is held
    pub turned_opened : Turned (Ok tt) → IsOpened (IsPageIn p) (mounts_of client) left mid
    turned_opened gives = by gives.outcome gives.asks gives.has
      where
        by : (outcome : Result (Option DirList) HdfsError) → At outcome → IsTurned left outcome (Ok tt) mid → IsOpened (IsPageIn p) (mounts_of client) left mid
        by (Ok (Some page)) at is = record {
          page = page;
          answered = record {
            to = at.to;
            leads = at.leads;
            answered = page_told (shown old) (shown new) at.to.path left.start p told (Some page) (came_so (Ok (Some page)) at);
          };
          is = is;
        }
        by (Ok None) at (inl is) = absurd (cc is)
        by (Ok None) at (inr is) = absurd (cc is)
        by (Err error) at is = absurd (cc is)

    -- why none is
    pub turned_fails : (error : HdfsError) → Turned (Err error) → IsEndedIn p (mounts_of client) (shown old) (shown new) error left
    turned_fails error gives = by gives.outcome gives.asks gives.has
      where
        asked : (cause : HdfsError) → At (Err cause) → error ≡ cause → IsEndedIn p (mounts_of client) (shown old) (shown new) error left
        asked cause at same =
            subst (λ (e : HdfsError). IsEndedIn p (mounts_of client) (shown old) (shown new) e left) (sym same)
            (of (error_told (shown old) (shown new) at.to.path left.start p told cause (came_so (Err cause) at)))
          where
            of : FailsAsk (shown old) cause (shown new) ⊎ RefusedBy p (asks.GetListing at.to.path left.start false) cause
                → IsEndedIn p (mounts_of client) (shown old) (shown new) cause left
            of (inl fails) = inl fails
            of (inr refused) = inr (inl (at.to, at.leads, inl refused))

        by : (outcome : Result (Option DirList) HdfsError) → At outcome → IsTurned left outcome (Err error) mid
            → IsEndedIn p (mounts_of client) (shown old) (shown new) error left
        by (Ok (Some page)) at is = inl (inl is)
        by (Ok None) at (inl is) =
            let same : error ≡ errors.FileNotFound left.path = cc is in
            inr (inl (at.to, at.leads, inr (same, page_told (shown old) (shown new) at.to.path left.start p told None (came_so (Ok None) at))))
        by (Ok None) at (inr is) = let same : error ≡ errors.NoMemory = cc is in inl (inl same)
        by (Err cause) at is = let same : error ≡ cause = cc is in asked cause at same
