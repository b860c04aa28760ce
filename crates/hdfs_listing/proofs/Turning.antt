-- What an ask for a page comes to: over any cluster, and over a told picture that agrees with a state.
use Rattle.std.proofs.Common.{◌≡◌, ◌⊎◌, inl, inr, ⊎_elim, ℕ, suc, ◌+◌, ◌<◌, ◌≤◌, ◌==◌, ◌&&◌, nat_lt, Bool, true, false, cond, List, [], ◌∷◌, ◌++◌, length, drop, get_or, Contains, Option, Some, None, Ok, Err, IsSome, refl, sym, ◌∙◌, ap, subst, arith}
use Rattle.std.proofs.Math.Path.{fun_ext}
use Rattle.std.proofs.lemmas.List.Elements.{All-contains}
use Rattle.std.proofs.lemmas.Str.{IsCharBoundary-after_ascii, IsUtf8-drop}
use Rattle.std.specs.Str.{IsUtf8, bytes_eq}
use Rattle.hdfs_cluster.specs.declared.asks.Answer.{Answer}
use Rattle.hdfs_cluster.specs.declared.asks.Answer.TheVariants as answers
use Rattle.hdfs_cluster.specs.declared.asks.Ask.{Ask}
use Rattle.hdfs_cluster.specs.declared.asks.Ask.TheVariants as asks
use Rattle.hdfs_cluster.specs.declared.errors.HdfsError.{HdfsError}
use Rattle.hdfs_cluster.specs.declared.messages.DirList.{DirList}
use Rattle.hdfs_cluster.specs.declared.messages.FileStatusMsg.{FileStatusMsg}
use Rattle.hdfs_cluster.specs.declared.picture.Entry.{Entry}
use Rattle.hdfs_cluster.specs.declared.picture.Entry.TheVariants as entries
use Rattle.hdfs_cluster.specs.Failures.{CallsRose}
use Rattle.hdfs_cluster.specs.Files.{State}
use Rattle.hdfs_cluster.specs.Listing.{TellsAt, TellsEntries, TellsListing, TellsPage}
use Rattle.hdfs_cluster.specs.Names.{front_of}
use Rattle.hdfs_cluster.specs.Namenode.{Row}
use Rattle.hdfs_cluster.specs.Picture.{Picture, SameButActive}
use Rattle.hdfs_cluster.specs.Repeating.{DoneOrNot}
use Rattle.hdfs_cluster.specs.Shown.{Shown}
use Rattle.hdfs_cluster.specs.Stores.{AgreesAt}
use Rattle.hdfs_cluster.proofs.NamesRepeating.{listing_repeats}
use Rattle.hdfs_names.specs.Paths.{root}
use Rattle.hdfs_model.specs.Listings.{IsBelow, answered as lies_on, IsOnPage}
use Rattle.hdfs_model.proofs.Made.{agrees_still}
use Rattle.hdfs_model.proofs.Told.{below_file_at, looked_at}
use Rattle.hdfs_namenode.specs.Relaying.{Came, RefusedBy, RelaysTold}
use Rattle.hdfs_namenode.proofs.Relayed.{relayed_done, relayed_row}
use Rattle.hdfs_listing.specs.Listing.{FailsAsk, IsNotTurned, IsTurned, Tells}
use Rattle.hdfs_listing.specs.Walking.{AllMayDo, IsDue, gives, has_more, last_name, page_tasks}
use Rattle.hdfs_listing.specs.declared.walk.Task.{Task}
use Rattle.hdfs_listing.specs.declared.walk.Task.TheVariants as tasks
use Rattle.hdfs_listing.proofs.Dues.{turned_due}

-- how many pages may be asked for before an entry is given
abbrev pub open_pages : List Task → ℕ
open_pages [] = 0
open_pages (tasks.Give entry ∷ rest) = 0
open_pages (tasks.Ask dir start ∷ rest) = suc (length rest)

few : (todo : List Task) → open_pages todo ≤ length todo
few [] = omega arith
few (tasks.Give entry ∷ rest) = omega arith
few (tasks.Ask dir start ∷ rest) = omega arith

-- a page that is turned leaves fewer of them
pub fewer : (dir : List ℕ) (page : DirList) (rest : List Task) → open_pages (page_tasks dir page rest) < suc (length rest)
fewer dir page rest = by page.partial_listing refl
  where
    by : (listing : List FileStatusMsg) → page.partial_listing ≡ listing → open_pages (page_tasks dir page rest) < suc (length rest)
    by [] is =
        subst (λ (p : DirList). open_pages (page_tasks dir p rest) < suc (length rest)) (ap (λ (l : List FileStatusMsg). record { partial_listing = l; remaining_entries = page.remaining_entries }) (sym is))
        (empty page.remaining_entries)
      where
        shut : (b : Bool) → open_pages (cond (b && false) (tasks.Ask dir [] ∷ rest) rest) < suc (length rest)
        shut true = omega (arith, few rest)
        shut false = omega (arith, few rest)

        empty : (n : ℕ) → open_pages (page_tasks dir (record { partial_listing = []; remaining_entries = n }) rest) < suc (length rest)
        empty n = shut (nat_lt 0 n)
    by (status ∷ statuses) is =
        subst (λ (p : DirList). open_pages (page_tasks dir p rest) < suc (length rest)) (ap (λ (l : List FileStatusMsg). record { partial_listing = l; remaining_entries = page.remaining_entries }) (sym is))
        (omega arith)

-- what is told of a name in a directory is text
pub name_text : (dir name : List ℕ) → IsUtf8 (front_of dir ++ name) → IsUtf8 name
name_text dir name text = by (bytes_eq root dir) text
  where
    cut : (pre : List ℕ) → IsUtf8 ((pre ++ 47 ∷ []) ++ name) → IsUtf8 name
    cut pre utf8 =
        let bs = (pre ++ 47 ∷ []) ++ name in
        subst IsUtf8 (behind pre) (IsUtf8-drop bs (length pre + 1) utf8 (IsCharBoundary-after_ascii bs (length pre) utf8 (low pre) (subst (λ (c : ℕ). c < 128) (sym (slash pre)) (omega arith))))
      where
        behind : (pre : List ℕ) → drop (length pre + 1) ((pre ++ 47 ∷ []) ++ name) ≡ name
        behind [] = refl
        behind (c ∷ pre) =
            (let more : length (c ∷ pre) + 1 ≡ suc (length pre + 1) = omega arith in
            ap (λ (n : ℕ). drop n ((c ∷ pre ++ 47 ∷ []) ++ name)) more ∙ behind pre)

        low : (pre : List ℕ) → length pre < length ((pre ++ 47 ∷ []) ++ name)
        low [] = omega arith
        low (c ∷ pre) = (let less = low pre in omega (arith, less))

        slash : (pre : List ℕ) → get_or ((pre ++ 47 ∷ []) ++ name) (length pre) 0 ≡ 47
        slash [] = refl
        slash (c ∷ pre) =
            (let more : length (c ∷ pre) ≡ suc (length pre) = omega arith in
            ap (λ (n : ℕ). get_or ((c ∷ pre ++ 47 ∷ []) ++ name) n 0) more ∙ slash pre)

    by : (b : Bool) → IsUtf8 (cond b root (dir ++ 47 ∷ []) ++ name) → IsUtf8 name
    by true utf8 = cut [] utf8
    by false utf8 = cut dir utf8

is_one : (n : ℕ) → (n == 1) ≡ true → n ≡ 1
is_one n is = grind (arith, is)

-- what may be done may be done behind a page
module _ {may_answer : Ask → Answer → Type 0} {recursive : Bool} {path dir : List ℕ} (below : IsBelow may_answer recursive path dir) where
  gives_may : (statuses : List FileStatusMsg) (rest : List Task) → ((status : FileStatusMsg) → Contains statuses status → IsOnPage may_answer dir status) → AllMayDo may_answer recursive path rest
      → AllMayDo may_answer recursive path (gives dir statuses rest)
  gives_may [] rest on may = may
  gives_may (status ∷ statuses) rest on may =
      let here = on status (0, omega arith, refl) in (
        (
          record { dir = dir; status = status; below = below; on_page = here; is = refl },
          λ deep is. lies_on dir status below here deep (is_one status.file_type is),
        ),
        gives_may statuses rest (λ other there. on other (suc there.0, omega (arith, there.1), there.2)) may,
      )

  pub page_may : {start : List ℕ} (page : DirList) (rest : List Task) → may_answer (asks.GetListing dir start false) (answers.GetListing (Some page)) → AllMayDo may_answer recursive path rest
      → AllMayDo may_answer recursive path (page_tasks dir page rest)
  page_may {start} page rest answered may =
      gives_may page.partial_listing (cond (has_more page) (tasks.Ask dir (last_name [] page.partial_listing) ∷ rest) rest)
      (λ status there. record { start = start; page = page; answered = answered; there = there }) (more (has_more page))
    where
      more : (b : Bool) → AllMayDo may_answer recursive path (cond b (tasks.Ask dir (last_name [] page.partial_listing) ∷ rest) rest)
      more true = (below, may)
      more false = may

-- a picture tells as much where another namenode is active
pub tells_same : (p q : Picture) (state : State) → SameButActive p q → Tells p state → Tells q state
tells_same p q state same tells = record {
  texts = λ r some. tells.texts r (subst IsSome (same.files.names r) some);
  is_state = tells.is_state;
  agrees = λ r. subst (λ (e : Option Entry). AgreesAt q e (state.files r)) (sym (same.files.names r)) (agrees_still p q same.files.table same.files.held (p.names r) (state.files r) (tells.agrees r));
}

pub names_same : (p q : Picture) → SameButActive p q → p.names ≡ q.names
names_same p q same = fun_ext (λ r. sym (same.files.names r))

module _ (s t : Shown) (dir start : List ℕ) (p : Picture) (told : s.picture ≡ Some p) where
  abbrev ask : Ask
  ask = asks.GetListing dir start false

  -- a page, or that there is none
  pub told_page : (found : Option DirList) → Came s ask (Ok (answers.GetListing found)) t → (q : Picture) × (t.picture ≡ Some q) × SameButActive p q × TellsListing p.names p.table dir start found
  told_page found came =
      let one = came.told p told (listing_repeats dir start false p) in
      let row : Row p ask (answers.GetListing found) one.0 = relayed_row (CallsRose s.counts t) p ask (answers.GetListing found) one.0 (λ is. absurd (cc is)) (λ is. absurd (cc is)) one.2 in
      (one.0, one.1, row.1, row.0)

  quiet : (q : Picture) → DoneOrNot ask p q → SameButActive p q
  quiet q (inl same) = same
  quiet q (inr done) = by done.0 done.2
    where
      by : (answer : Answer) → Row p ask answer q → SameButActive p q
      by (answers.GetListing page) row = row.1
      by answer row = absurd row

  -- an error of the ask: for want of memory, since a namenode has failed, or since it was refused
  pub told_error : (error : HdfsError) → Came s ask (Err error) t
      → (q : Picture) × (t.picture ≡ Some q) × SameButActive p q × (FailsAsk s error t ⊎ RefusedBy p ask error)
  told_error error came =
      let one = came.told p told (listing_repeats dir start false p) in
      (one.0, one.1, quiet one.0 (relayed_done (CallsRose s.counts t) p ask (Err error) one.0 tt one.2), why one.0 one.2)
    where
      why : (q : Picture) → RelaysTold (CallsRose s.counts t) p ask (Err error) q → FailsAsk s error t ⊎ RefusedBy p ask error
      why q (inl memory) = inl (inl memory.0)
      why q (inr (inl refused)) = inr refused.0
      why q (inr (inr rose)) = inl (inr (came.relays.tells, rose.0))

  -- a directory that stands there isn't refused to be listed, behind a text
  pub never_refused : (state : State) → Tells p state → IsSome (p.names dir) → IsUtf8 start → (error : HdfsError) → RefusedBy p ask error → ⊥
  never_refused state tells some text error refused = ⊎_elim
      (λ above.
      (let none = looked_at p state tells.is_state tells.agrees dir some in
      let why = below_file_at p state tells.is_state tells.agrees dir above.0 above.1 in
      cc (none, why)))
      (λ bad. bad.0 text)
      refused.2

-- what an ask for a page of a directory has come to
module _ (s t : Shown) (may_answer : Ask → Answer → Type 0) (dir start : List ℕ) (rest : List Task) (p : Picture) (told : s.picture ≡ Some p) (state : State) (tells : Tells p state) (recursive : Bool) (paths : List (List ℕ))
    (due : IsDue p.names state recursive (tasks.Ask dir start ∷ rest) paths) where
  is_page : (page : DirList) → TellsListing p.names p.table dir start (Some page) → TellsPage p.names p.table dir start page
  is_page page tells_it = by tells_it.0 (let is = tells_it.1 in let there = due.0 in cc (is, there)) tells_it.2
    where
      by : (entry : Entry) → entry ≡ entries.Dir → TellsEntries p.names p.table dir start entry page → TellsPage p.names p.table dir start page
      by entry is h = subst (λ (e : Entry). TellsEntries p.names p.table dir start e page) is h

  pub turned : (todo : List Task) → IsTurned may_answer dir start rest s t todo → (q : Picture) × (t.picture ≡ Some q) × SameButActive p q × IsDue q.names state recursive todo paths
  turned todo h =
      let one = told_page s t dir start p told (Some h.page) h.has.came in
      let now = turned_due p state tells.is_state tells.agrees recursive dir start h.page rest paths due (is_page h.page one.3) h.texts in (
        one.0,
        one.1,
        one.2,
        subst (λ (l : List Task). IsDue one.0.names state recursive l paths) (sym h.tasks)
            (subst (λ (n : List ℕ → Option Entry). IsDue n state recursive (page_tasks dir h.page rest) paths) (names_same p one.0 one.2) now),
      )

  none_missing : TellsListing p.names p.table dir start None → ⊥
  none_missing missing = (let none = missing.0 in let there = due.0 in cc (none, there))

  pub not_turned : (given : List ℕ) (error : HdfsError) → IsNotTurned may_answer given dir start s error t → (q : Picture) × (t.picture ≡ Some q) × SameButActive p q × FailsAsk s error t
  not_turned given error (inl (inl none)) = absurd (none_missing (told_page s t dir start p told None none.1.came).3)
  not_turned given error (inl (inr came)) =
      let one = told_error s t dir start p told error came in
      (one.0, one.1, one.2, ⊎_elim (λ fails. fails) (λ refused. absurd (never_refused s t dir start p told state tells (subst IsSome (sym due.0) refl) due.2 error refused)) one.3)
  not_turned given error (inr page) =
      let one = told_page s t dir start p told (Some page.0) page.1.came in
      (one.0, one.1, one.2, ⊎_elim (λ memory. inl memory) (λ no_text. absurd (all_text page.0 (is_page page.0 one.3) no_text.1 no_text.2 no_text.3)) page.2)
    where
      all_text : (page : DirList) → TellsPage p.names p.table dir start page → (status : FileStatusMsg) → Contains page.partial_listing status → (IsUtf8 status.path → ⊥) → ⊥
      all_text page h status there no_text =
          let tells_it = All-contains (λ s. TellsAt p.names p.table (front_of dir ++ s.path) s.path s) page.partial_listing status h.told there in
          no_text (name_text dir status.path (tells.texts (front_of dir ++ status.path) (subst IsSome (sym tells_it.there) refl)))
