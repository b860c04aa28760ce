-- Entries are gathered one by one: those that were given are those of the first paths that are due, and what is left is due still.
use Rattle.std.proofs.Common.{◌≡◌, ◌⊎◌, inl, inr, ⊎_elim, ℕ, zero, suc, ◌<◌, ◌≤◌, nat_lt, ◌==◌, ◌&&◌, Bool, true, false, cond, List, [], ◌∷◌, ◌++◌, length, map, Contains, Option, Some, None, Result, Ok, Err, IsSome, option_map, refl, sym, ◌∙◌, ap, subst, arith}
use Rattle.std.specs.Prelude.{IfErr, IfOk, MatchOption, Vec}
use Rattle.std.specs.declared.alloc.Global.{Global}
use Rattle.std.proofs.lemmas.Bool.{false≢true}
use Rattle.std.proofs.lemmas.List.Elements.{All-contains, All-push}
use Rattle.std.specs.List.{All}
use Rattle.std.proofs.lemmas.Str.{IsUtf8-nil}
use Rattle.std.specs.Str.{IsUtf8}
use Rattle.std.proofs.lemmas.Bool.Decides.{nat_tests}
use Rattle.std.proofs.lemmas.List.{append-nil, length-append, length-map}
use Rattle.hdfs_cluster.specs.declared.asks.Answer.{Answer}
use Rattle.hdfs_cluster.specs.declared.asks.Ask.{Ask}
use Rattle.hdfs_cluster.specs.declared.errors.ArgFault.TheVariants as args
use Rattle.hdfs_cluster.specs.declared.errors.HdfsError.{HdfsError}
use Rattle.hdfs_cluster.specs.declared.errors.HdfsError.TheVariants as errors
use Rattle.hdfs_cluster.specs.declared.messages.DirList.{DirList}
use Rattle.hdfs_cluster.specs.declared.messages.FileStatusMsg.{FileStatusMsg}
use Rattle.hdfs_cluster.specs.declared.picture.Entry.{Entry}
use Rattle.hdfs_cluster.specs.declared.picture.Entry.TheVariants as entries
use Rattle.hdfs_cluster.specs.declared.picture.FileEntry.{FileEntry}
use Rattle.hdfs_cluster.specs.Counts.{NeverFall}
use Rattle.hdfs_cluster.specs.Files.{Directory, Node, Dir, File, Writing, State, kind_of}
use Rattle.hdfs_cluster.specs.Listing.{TellsAlone, TellsAt, TellsEntries, TellsListing}
use Rattle.hdfs_cluster.specs.Names.{front_of}
use Rattle.hdfs_cluster.specs.Picture.{Picture, SameButActive}
use Rattle.hdfs_cluster.specs.Refusals.{Refusal, TooMany}
use Rattle.hdfs_cluster.specs.Shown.{Shown}
use Rattle.hdfs_cluster.specs.Stores.{AgreesAt}
use Rattle.hdfs_model.specs.declared.commands.PathEntry.{PathEntry}
use Rattle.hdfs_model.specs.declared.commands.Reply.TheVariants as replies
use Rattle.hdfs_model.specs.Listings.{IsListedEntry, IsMoreThan, path_in}
use Rattle.hdfs_model.specs.Steps.{Done, Refused, entry_at, list_node, list_paths}
use Rattle.hdfs_model.specs.Walks.{walk}
use Rattle.hdfs_model.proofs.Deleted.{here, some_kind}
use Rattle.hdfs_model.proofs.Descending.{walk_of_other}
use Rattle.hdfs_model.proofs.Told.{entry_told, looked_at}
use Rattle.hdfs_listing.specs.Listing.{FailsAsk, Gathers, IsNotTurned, IsTurned, LacksListing, Lists, Tells, listed}
use Rattle.hdfs_listing.specs.Walking.{AllMayDo, IsDue, MayDo, entered, gives, last_name, lower, page_tasks}
use Rattle.hdfs_listing.specs.declared.walk.Task.{Task}
use Rattle.hdfs_listing.specs.declared.walk.Task.TheVariants as tasks
use Rattle.hdfs_listing.proofs.Dues.{begun_due, entered_due, lower_deep, lower_none}
use Rattle.hdfs_listing.proofs.Nexts.{fails_since, same_active_trans}
use Rattle.hdfs_listing.proofs.Turning.{name_text, names_same, tells_same, told_error, told_page, turned}

-- what was gathered so far, over a told picture
abbrev pub SoGathered : Shown → Shown → Bool → List Task → List Task → List PathEntry → Type 0
SoGathered begin s recursive first todo found =
    (p : Picture) (state : State) (paths : List (List ℕ)) → begin.picture ≡ Some p → Tells p state → IsDue p.names state recursive first paths
    → (q : Picture) × (s.picture ≡ Some q) × SameButActive p q × (rest : List (List ℕ)) × (map (entry_at state) paths ≡ found ++ map (entry_at state) rest)
    × IsDue q.names state recursive todo rest

both : (a b : Bool) → (a && b) ≡ true → (a ≡ true) × (b ≡ true)
both true b is = (refl, is)
both false b is = absurd (false≢true is)

-- an entry that is given is that of the first path
enter_due : (p : Picture) (state : State) → Tells p state → (recursive : Bool) (entry : PathEntry) (todo : List Task) (paths : List (List ℕ)) → IsDue p.names state recursive (tasks.Give entry ∷ todo) paths
    → (rest : List (List ℕ)) × (paths ≡ entry.path ∷ rest) × IsDue p.names state recursive (entered recursive entry todo) rest
enter_due p state tells recursive entry todo paths due = by (recursive && entry.isdir) refl
  where
    by : (b : Bool) → (recursive && entry.isdir) ≡ b → (rest : List (List ℕ)) × (paths ≡ entry.path ∷ rest) × IsDue p.names state recursive (cond b (tasks.Ask entry.path [] ∷ todo) todo) rest
    by true is =
        let parts = both recursive entry.isdir is in (
          walk state.files state.paths entry.path recursive ++ due.2,
          due.3 ∙ ap (λ (l : List (List ℕ)). entry.path ∷ (l ++ due.2)) (lower_deep p state tells.is_state tells.agrees recursive entry todo paths due parts.0),
          entered_due p state tells.is_state tells.agrees recursive entry todo paths due parts.0 parts.1,
        )
    by false is = (due.2, due.3 ∙ ap (λ (l : List (List ℕ)). entry.path ∷ (l ++ due.2)) (lower_none p state tells.is_state tells.agrees recursive entry todo paths due is), due.4)

append_one : (found : List PathEntry) (entry : PathEntry) (rest : List PathEntry) → found ++ entry ∷ rest ≡ (found ++ entry ∷ []) ++ rest
append_one [] entry rest = refl
append_one (first ∷ found) entry rest = ap (λ (l : List PathEntry). first ∷ l) (append_one found entry rest)

module _ (begin s t : Shown) (recursive : Bool) (first todo : List Task) (found : List PathEntry) (so : SoGathered begin s recursive first todo found) where
  -- what the next call says of an outcome
  abbrev pub NextTells : ((List ℕ → Option Entry) → State → List (List ℕ) → Type 0) → Type 0
  NextTells P = (p : Picture) (state : State) (paths : List (List ℕ)) → s.picture ≡ Some p → Tells p state → IsDue p.names state recursive todo paths
      → (q : Picture) × (t.picture ≡ Some q) × SameButActive p q × P q.names state paths

  module _ (entry : PathEntry) (todo' : List Task) (next : NextTells (λ names state paths. IsDue names state recursive (tasks.Give entry ∷ todo') paths)) where
    pub gathered_on : SoGathered begin t recursive first (entered recursive entry todo') (found ++ entry ∷ [])
    gathered_on p state paths was tells due =
        let so_far = so p state paths was tells due in
        let now = next so_far.0 state so_far.3 so_far.1 (tells_same p so_far.0 state so_far.2 tells) so_far.5 in
        let same = same_active_trans p so_far.0 now.0 so_far.2 now.2 in
        let in_it = enter_due now.0 state (tells_same p now.0 state same tells) recursive entry todo' so_far.3 now.3 in (
          now.0,
          now.1,
          same,
          in_it.0,
          so_far.4 ∙ ap (λ (l : List (List ℕ)). found ++ map (entry_at state) l) in_it.1
              ∙ ap (λ (e : PathEntry). found ++ e ∷ map (entry_at state) in_it.0) (sym now.3.0)
              ∙ append_one found entry (map (entry_at state) in_it.0),
          in_it.2,
        )

    -- it is one more than is allowed
    pub gathered_many : (limit : ℕ) → limit ≤ length found → (p : Picture) (state : State) (paths : List (List ℕ)) → begin.picture ≡ Some p → Tells p state → IsDue p.names state recursive first paths
        → (q : Picture) × (t.picture ≡ Some q) × SameButActive p q × (limit < length paths)
    gathered_many limit full p state paths was tells due =
        let so_far = so p state paths was tells due in
        let now = next so_far.0 state so_far.3 so_far.1 (tells_same p so_far.0 state so_far.2 tells) so_far.5 in
        let same = same_active_trans p so_far.0 now.0 so_far.2 now.2 in
        let many = ap (λ (l : List PathEntry). length l) so_far.4 in
        let one = ap (λ (l : List (List ℕ)). length l) now.3.3 in
        (now.0, now.1, same, omega (arith, full, many, one, length-map paths (entry_at state), length-append found (map (entry_at state) so_far.3), length-map so_far.3 (entry_at state)))

  pub gathered_end : NextTells (λ names state paths. paths ≡ []) → (p : Picture) (state : State) (paths : List (List ℕ)) → begin.picture ≡ Some p → Tells p state → IsDue p.names state recursive first paths
      → (q : Picture) × (t.picture ≡ Some q) × SameButActive p q × (found ≡ map (entry_at state) paths)
  gathered_end next p state paths was tells due =
      let so_far = so p state paths was tells due in
      let now = next so_far.0 state so_far.3 so_far.1 (tells_same p so_far.0 state so_far.2 tells) so_far.5 in
      let same = same_active_trans p so_far.0 now.0 so_far.2 now.2 in
      (now.0, now.1, same, sym (so_far.4 ∙ ap (λ (l : List (List ℕ)). found ++ map (entry_at state) l) now.3 ∙ append-nil found))

  pub gathered_err : NeverFall begin.counts s.counts → (error : HdfsError) → NextTells (λ names state paths. FailsAsk s error t) → (p : Picture) (state : State) (paths : List (List ℕ)) → begin.picture ≡ Some p → Tells p state
      → IsDue p.names state recursive first paths → (q : Picture) × (t.picture ≡ Some q) × SameButActive p q × FailsAsk begin error t
  gathered_err fall error next p state paths was tells due =
      let so_far = so p state paths was tells due in
      let now = next so_far.0 state so_far.3 so_far.1 (tells_same p so_far.0 state so_far.2 tells) so_far.5 in
      let same = same_active_trans p so_far.0 now.0 so_far.2 now.2 in
      (now.0, now.1, same, fails_since begin s t fall error now.3)

-- what the next call says of its outcome, over a told picture
abbrev pub NextTold : Shown → Shown → Bool → List Task → List Task → Option PathEntry → Type 0
NextTold s t recursive todo todo' outcome =
    (p : Picture) (state : State) (paths : List (List ℕ)) → s.picture ≡ Some p → Tells p state → IsDue p.names state recursive todo paths
    → (q : Picture) × (t.picture ≡ Some q) × SameButActive p q × MatchOption outcome (paths ≡ []) (λ entry. IsDue q.names state recursive (tasks.Give entry ∷ todo') paths) × Unit {0}

module _ (begin s t : Shown) (recursive : Bool) (first todo todo' : List Task) (found : List PathEntry) (so : SoGathered begin s recursive first todo found) (outcome : Option PathEntry) (told : NextTold s t recursive todo todo' outcome) where
  pub some_told : (entry : PathEntry) → outcome ≡ Some entry → NextTells begin s t recursive first todo found so (λ names state paths. IsDue names state recursive (tasks.Give entry ∷ todo') paths)
  some_told entry is p state paths was tells due =
      let on = told p state paths was tells due in
      (on.0, on.1, on.2, subst (λ (o : Option PathEntry). MatchOption o (paths ≡ []) (λ e. IsDue on.0.names state recursive (tasks.Give e ∷ todo') paths)) is on.3)

  pub none_told : outcome ≡ None → NextTells begin s t recursive first todo found so (λ names state paths. paths ≡ [])
  none_told is p state paths was tells due =
      let on = told p state paths was tells due in
      (on.0, on.1, on.2, subst (λ (o : Option PathEntry). MatchOption o (paths ≡ []) (λ e. IsDue on.0.names state recursive (tasks.Give e ∷ todo') paths)) is on.3)

-- and of its error
abbrev pub NextErr : Shown → Shown → Bool → List Task → HdfsError → Type 0
NextErr s t recursive todo error =
    (p : Picture) (state : State) (paths : List (List ℕ)) → s.picture ≡ Some p → Tells p state → IsDue p.names state recursive todo paths
    → (q : Picture) × (t.picture ≡ Some q) × SameButActive p q × Unit {0} × FailsAsk s error t

pub err_told : (begin s t : Shown) (recursive : Bool) (first todo : List Task) (found : List PathEntry) (so : SoGathered begin s recursive first todo found) (error : HdfsError) → NextErr s t recursive todo error
    → NextTells begin s t recursive first todo found so (λ names state paths. FailsAsk s error t)
err_told begin s t recursive first todo found so error told p state paths was tells due = (let on = told p state paths was tells due in (on.0, on.1, on.2, on.4))

-- one entry more than is allowed was answered
pub many_more : {may_answer : Ask → Answer → Type 0} {recursive : Bool} {path : List ℕ} (limit : ℕ) (found : List PathEntry) (entry : PathEntry) → limit ≤ length found → All (IsListedEntry may_answer recursive path) found
    → IsListedEntry may_answer recursive path entry → IsMoreThan may_answer recursive path limit
many_more {may_answer} {recursive} {path} limit found entry full all one = record {
  entries = found ++ entry ∷ [];
  answered = All-push (IsListedEntry may_answer recursive path) found entry all one;
  more = omega (arith, full, length-append found (entry ∷ []));
}

-- an entry that is entered may be listed
pub enter_may : {may_answer : Ask → Answer → Type 0} {recursive : Bool} {path : List ℕ} (entry : PathEntry) (rest : List Task) → MayDo may_answer recursive path (tasks.Give entry) → AllMayDo may_answer recursive path rest
    → AllMayDo may_answer recursive path (entered recursive entry rest)
enter_may {may_answer} {recursive} {path} entry rest may all = by (recursive && entry.isdir) refl
  where
    by : (b : Bool) → (recursive && entry.isdir) ≡ b → AllMayDo may_answer recursive path (cond b (tasks.Ask entry.path [] ∷ rest) rest)
    by true is = (may.1 (both recursive entry.isdir is).0 (both recursive entry.isdir is).1, all)
    by false is = all

-- the whole of a listing
module _ (p : Picture) (state : State) (tells : Tells p state) (path : List ℕ) (recursive : Bool) (limit : ℕ) where
  within : (n : ℕ) → n ≤ limit → nat_lt limit n ≡ false
  within n less = grind (arith, nat_tests, less)

  beyond : (n : ℕ) → limit < n → nat_lt limit n ≡ true
  beyond n more = grind (arith, nat_tests, more)

  -- what is listed where these paths are
  pub paths_listed : (paths : List (List ℕ)) (found : List PathEntry) → found ≡ map (entry_at state) paths → length found ≤ limit → list_paths state paths limit ≡ Done (replies.Listed found) state
  paths_listed paths found is few =
      ap (λ (b : Bool). cond b (Refused TooMany) (Done (replies.Listed (map (entry_at state) paths)) state))
      (within (length paths) (let same = ap (λ (l : List PathEntry). length l) is in omega (arith, same, few, length-map paths (entry_at state))))
      ∙ ap (λ (l : List PathEntry). Done (replies.Listed l) state) (sym is)

  pub paths_many : (paths : List (List ℕ)) → limit < length paths → list_paths state paths limit ≡ Refused TooMany
  paths_many paths more = ap (λ (b : Bool). cond b (Refused TooMany) (Done (replies.Listed (map (entry_at state) paths)) state)) (beyond (length paths) more)

  -- which paths those are
  abbrev pub paths_of : Entry → List (List ℕ)
  paths_of entries.Dir = walk state.files state.paths path recursive ++ []
  paths_of (entries.File file) = path ∷ []

  pub listed_is : (entry : Entry) → p.names path ≡ Some entry → listed state path recursive limit ≡ list_paths state (paths_of entry) limit
  listed_is entry is =
      ap (λ (o : Option Refusal). list_node state path o (state.files path) recursive limit) (looked_at p state tells.is_state tells.agrees path (subst IsSome (sym is) refl))
      ∙ by entry (state.files path) (subst (λ (e : Option Entry). AgreesAt p e (state.files path)) is (tells.agrees path))
    where
      by : (entry : Entry) (node : Option Node) → AgreesAt p (Some entry) node → list_node state path None node recursive limit ≡ list_paths state (paths_of entry) limit
      by entries.Dir None h = absurd h
      by entries.Dir (Some Dir) h = ap (λ (l : List (List ℕ)). list_paths state l limit) (sym (append-nil (walk state.files state.paths path recursive)))
      by entries.Dir (Some (File content)) h = absurd h
      by entries.Dir (Some (Writing content)) h = absurd h
      by (entries.File file) None h = absurd h
      by (entries.File file) (Some Dir) h = absurd h
      by (entries.File file) (Some (File content)) h = refl
      by (entries.File file) (Some (Writing content)) h = refl

  -- nothing lies below a file
  file_alone : (file : FileEntry) → p.names path ≡ Some (entries.File file) → lower state recursive path ≡ []
  file_alone file is = by recursive
    where
      kind : (node : Option Node) → AgreesAt p (Some (entries.File file)) node → option_map kind_of node ≡ Some Directory → ⊥
      kind None h k = absurd h
      kind (Some Dir) h k = absurd h
      kind (Some (File content)) h k = cc (k)
      kind (Some (Writing content)) h k = cc (k)

      by : (r : Bool) → lower state r path ≡ []
      by false = refl
      by true =
          walk_of_other state tells.is_state path
          (tells.is_state.tree.named path (some_kind (state.files path) (here p (p.names path) (state.files path) (tells.agrees path) (subst IsSome (sym is) refl))))
          (kind (state.files path) (subst (λ (e : Option Entry). AgreesAt p e (state.files path)) is (tells.agrees path)))

  -- the first page
  module _ (may_answer : Ask → Answer → Type 0) (s t : Shown) (told : s.picture ≡ Some p) (todo : List Task) (h : IsTurned may_answer path [] [] s t todo) where
    abbrev First : Type 0
    First = (entry : Entry) × (p.names path ≡ Some entry) × (q : Picture) × (t.picture ≡ Some q) × SameButActive p q × IsDue q.names state recursive todo (paths_of entry)

    alone : (file : FileEntry) → p.names path ≡ Some (entries.File file) → TellsAlone p.names p.table path h.page → IsDue p.names state recursive (page_tasks path h.page []) (path ∷ [])
    alone file is one =
        subst (λ (l : List Task). IsDue p.names state recursive l (path ∷ [])) (sym tasks_are) (
          sym (ap (λ (b : Bool). record { path = path; isdir = b }) (entry_told p state tells.is_state tells.agrees path [] one.status one.told)),
          subst IsSome (sym is) refl,
          [],
          ap (λ (l : List (List ℕ)). path ∷ (l ++ [])) (sym (file_alone file is)),
          refl,
        )
      where
        tasks_are : page_tasks path h.page [] ≡ tasks.Give (record { path = path; isdir = one.status.file_type == 1 }) ∷ []
        tasks_are =
            ap (λ (l : List FileStatusMsg). gives path l (cond (nat_lt 0 h.page.remaining_entries && nat_lt 0 (length l)) (tasks.Ask path (last_name [] l) ∷ []) [])) one.one
            ∙ ap (λ (n : ℕ). gives path (one.status ∷ []) (cond (nat_lt 0 n && true) (tasks.Ask path (last_name [] (one.status ∷ [])) ∷ []) [])) one.none
            ∙ ap (λ (name : List ℕ). tasks.Give (record { path = path_in path name; isdir = one.status.file_type == 1 }) ∷ []) one.told.named

    first_by : (page : (q : Picture) × (t.picture ≡ Some q) × SameButActive p q × TellsListing p.names p.table path [] (Some h.page)) (entry : Entry) → p.names path ≡ Some entry
        → TellsEntries p.names p.table path [] entry h.page → First
    first_by page entries.Dir is tells_it =
        let now = turned s t may_answer path [] [] p told state tells recursive (paths_of entries.Dir) (begun_due p state tells.is_state tells.agrees recursive path [] [] is refl) todo h in
        (entries.Dir, is, now.0, now.1, now.2, now.3)
    first_by page (entries.File file) is one = (
      entries.File file,
      is,
      page.0,
      page.1,
      page.2,
      subst (λ (n : List ℕ → Option Entry). IsDue n state recursive todo (path ∷ [])) (names_same p page.0 page.2)
          (subst (λ (l : List Task). IsDue p.names state recursive l (path ∷ [])) (sym h.tasks) (alone file is one)),
    )

    pub first_page : First
    first_page =
        let page = told_page s t path [] p told (Some h.page) h.has.came in
        first_by page page.3.0 page.3.1 page.3.2

-- why there is no first page
module _ (p : Picture) (state : State) (tells : Tells p state) (given path : List ℕ) (recursive : Bool) (limit : ℕ) (may_answer : Ask → Answer → Type 0) (s t : Shown) (told : s.picture ≡ Some p) where
  page_texts : (page : DirList) → TellsListing p.names p.table path [] (Some page) → (status : FileStatusMsg) → Contains page.partial_listing status → (IsUtf8 status.path → ⊥) → ⊥
  page_texts page h status there no_text = by h.0 h.2
    where
      alone : (listing : List FileStatusMsg) (one : FileStatusMsg) → listing ≡ one ∷ [] → Contains listing status → one ≡ status
      alone listing one is has = single one (subst (λ (l : List FileStatusMsg). Contains l status) is has)
        where
          single : (one : FileStatusMsg) → Contains (one ∷ []) status → one ≡ status
          single one (zero, below, same) = same
          single one (suc k, below, same) = absurd (omega (arith, below))

      by : (entry : Entry) → TellsEntries p.names p.table path [] entry page → ⊥
      by entries.Dir tells_it =
          let at = All-contains (λ s. TellsAt p.names p.table (front_of path ++ s.path) s.path s) page.partial_listing status tells_it.told there in
          no_text (name_text path status.path (tells.texts (front_of path ++ status.path) (subst IsSome (sym at.there) refl)))
      by (entries.File file) one =
          let same : one.status ≡ status = alone page.partial_listing one.status one.one there in
          no_text (subst IsUtf8 (sym one.told.named ∙ ap (λ (x : FileStatusMsg). x.path) same) IsUtf8-nil)

  pub first_fails : (error : HdfsError) → IsNotTurned may_answer given path [] s error t → Lists p state given path recursive limit s t (Err error)
  first_fails error (inl (inl none)) =
      let one = told_page s t path [] p told None none.1.came in
      record {
        q = one.0;
        now = one.1;
        same = one.2;
        ok = tt;
        err = ⊎_elim (λ missing. inr (inr (inl (missing, one.3)))) (λ memory. inl (inl memory)) none.0;
      }
  first_fails error (inl (inr came)) =
      let one = told_error s t path [] p told error came in
      record { q = one.0; now = one.1; same = one.2; ok = tt; err = ⊎_elim (λ fails. inl fails) (λ refused. inr (inl refused)) one.3 }
  first_fails error (inr page) =
      let one = told_page s t path [] p told (Some page.0) page.1.came in
      record {
        q = one.0;
        now = one.1;
        same = one.2;
        ok = tt;
        err = ⊎_elim (λ memory. inl (inl memory)) (λ no_text. absurd (page_texts page.0 one.3 no_text.1 no_text.2 no_text.3)) page.2;
      }

-- what was gathered behind the first page is what is listed
module _ (p : Picture) (state : State) (tells : Tells p state) (given path : List ℕ) (recursive : Bool) (limit : ℕ) (may_answer : Ask → Answer → Type 0) (s m t : Shown) (told : s.picture ≡ Some p) (todo : List Task)
    (h : IsTurned may_answer path [] [] s m todo) (fall : NeverFall s.counts m.counts)
    (result : Result (Vec PathEntry Global) HdfsError) (gathers : (p : Picture) (state : State) (paths : List (List ℕ)) → m.picture ≡ Some p → Tells p state → IsDue p.names state recursive todo paths → Gathers p state paths limit m t result)
    (count : IfOk result (λ entries. length entries.items ≤ limit)) where
  pub lists_all : Lists p state given path recursive limit s t result
  lists_all =
      let first = first_page p state tells path recursive limit may_answer s m told todo h in
      let on = gathers first.2 state (paths_of p state tells path recursive limit first.0) first.3 (tells_same p first.2 state first.4 tells) first.5 in
      record {
        q = on.q;
        now = on.now;
        same = same_active_trans p first.2 on.q first.4 on.same;
        ok = ok_of first.0 first.1 result count on.ok;
        err = err_of first.0 first.1 result on.err;
      }
    where
      ok_of : (entry : Entry) → p.names path ≡ Some entry → (r : Result (Vec PathEntry Global) HdfsError) → IfOk r (λ entries. length entries.items ≤ limit)
          → IfOk r (λ entries. entries.items ≡ map (entry_at state) (paths_of p state tells path recursive limit entry)) → IfOk r (λ entries. listed state path recursive limit ≡ Done (replies.Listed entries.items) state)
      ok_of entry is (Ok entries) few are =
          listed_is p state tells path recursive limit entry is ∙ paths_listed p state tells path recursive limit (paths_of p state tells path recursive limit entry) entries.items are few
      ok_of entry is (Err error) few are = tt

      err_of : (entry : Entry) → p.names path ≡ Some entry → (r : Result (Vec PathEntry Global) HdfsError)
          → IfErr r (λ error. FailsAsk m error t ⊎ ((error ≡ errors.InvalidArgument (args.TooMany limit)) × (limit < length (paths_of p state tells path recursive limit entry))))
          → IfErr r (λ error. LacksListing p state given path recursive limit s error t)
      err_of entry is (Ok entries) why = tt
      err_of entry is (Err error) why = ⊎_elim
          (λ fails. inl (fails_since s m t fall error fails))
          (λ many. inr (inr (inr (many.0, listed_is p state tells path recursive limit entry is ∙ paths_many p state tells path recursive limit (paths_of p state tells path recursive limit entry) many.1))))
          why
