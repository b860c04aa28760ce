-- What the pages of a told picture come to: the names in a directory, and the entries that the step lists.
use Rattle.std.proofs.Common.{◌≡◌, ◌⊎◌, inl, inr, ℕ, zero, suc, ◌≤◌, nat_lt, ◌&&◌, true, false, List, [], ◌∷◌, ◌++◌, length, map, Contains, Option, Some, IsSome, Ok, refl, sym, ◌∙◌, ap, subst, arith, append_assoc}
use Rattle.std.proofs.lemmas.Bool.{false≢true}
use Rattle.std.proofs.lemmas.Bool.Decides.{nat_tests}
use Rattle.std.proofs.lemmas.List.{append-nil, length-append, length-map, map-append}
use Rattle.std.proofs.lemmas.List.Elements.{All-append, All-contains, All-head, All-tail, Contains-append_right}
use Rattle.std.proofs.lemmas.Str.{IsUtf8-nil}
use Rattle.std.specs.List.{All}
use Rattle.std.specs.Str.{IsUtf8}
use Rattle.hdfs_cluster.specs.declared.messages.DirList.{DirList}
use Rattle.hdfs_cluster.specs.declared.messages.FileStatusMsg.{FileStatusMsg}
use Rattle.hdfs_cluster.specs.declared.picture.Entry.{Entry}
use Rattle.hdfs_cluster.specs.declared.picture.Entry.TheVariants as entries
use Rattle.hdfs_cluster.specs.declared.picture.FileEntry.{FileEntry}
use Rattle.hdfs_cluster.specs.Files.{State}
use Rattle.hdfs_cluster.specs.Listing.{TellsAlone, TellsAt, TellsEntries, TellsListing, TellsPage}
use Rattle.hdfs_cluster.specs.Loading.{is_directory}
use Rattle.hdfs_cluster.specs.Names.{AreNamesBehind, IsNameIn, Rises, front_of}
use Rattle.hdfs_cluster.specs.Picture.{Picture}
use Rattle.hdfs_names.specs.declared.mounts.MountTable.{MountTable}
use Rattle.hdfs_names.specs.declared.mounts.Resolved.{Resolved}
use Rattle.hdfs_model.specs.declared.commands.PathEntry.{PathEntry}
use Rattle.hdfs_model.specs.Listings.{path_in}
use Rattle.hdfs_model.specs.Steps.{entry_at}
use Rattle.hdfs_model.specs.Walks.{walk}
use Rattle.hdfs_model.proofs.Both.{and_true, both_true}
use Rattle.hdfs_model.proofs.Listed.{IsPlain, names_walk, not_true}
use Rattle.hdfs_model.proofs.Paged.{names_go_on}
use Rattle.hdfs_model.proofs.Told.{entry_told}
use Rattle.hdfs_listing.specs.Listing.{Tells}
use Rattle.hdfs_listing.proofs.Names.{names_unique, path_behind}
use Rattle.hdfs_listing.proofs.Turning.{name_text}
use Rattle.hdfs_client.specs.Listing.{AreEntries, Follow, HasAll, HasSome, IsAnswered, IsOnPage, are_all, lead_on, leads_by, messages_of}
use Rattle.hdfs_listing.specs.Walking.{has_more, last_name}
use Rattle.hdfs_client.specs.Statuses.{IsNamed, IsStatus}
use Rattle.hdfs_client.specs.Told.{IsPageIn}
use Rattle.hdfs_client.specs.declared.status.FileStatus.{FileStatus}
use Rattle.hdfs_client_steps.specs.Steps.{SayEntries}

-- the names of entries
abbrev names_of : List FileStatusMsg → List (List ℕ)
names_of messages = map (λ (m : FileStatusMsg). m.path) messages

-- some entries end with one of the last name
ends : (start : List ℕ) (message : FileStatusMsg) (rest : List FileStatusMsg)
    → (front : List (List ℕ)) × (names_of (message ∷ rest) ≡ front ++ last_name start (message ∷ rest) ∷ [])
ends start message [] = ([], refl)
ends start message (second ∷ rest) =
    (let more = ends message.path second rest in (message.path ∷ more.0, ap (λ (l : List (List ℕ)). message.path ∷ l) more.1))

positive : (n k : ℕ) → n ≡ suc k → nat_lt 0 n ≡ true
positive n k is = grind (arith, nat_tests, is)

-- a path leads to one place
pub same_place : (o : Option Resolved) (one other : Resolved) → o ≡ Some one → o ≡ Some other → one ≡ other
same_place o one other is is' = cc

-- as many statuses as messages
as_many : (given : List ℕ) (messages : List FileStatusMsg) (own : List FileStatus) → AreEntries given messages own → length messages ≡ length own
as_many given [] [] are = refl
as_many given [] (status ∷ own) are = absurd are
as_many given (message ∷ messages) [] are = absurd are
as_many given (message ∷ messages) (status ∷ own) are = ap suc (as_many given messages own are.1)

-- and as many entries as statuses
pub as_said : (given at : List ℕ) (own : List FileStatus) (said : List PathEntry) → SayEntries given at own said → length own ≡ length said
as_said given at [] [] say = refl
as_said given at [] (entry ∷ said) say = absurd say
as_said given at (status ∷ own) [] say = absurd say
as_said given at (status ∷ own) (entry ∷ said) say = ap suc (as_said given at own said say.1)

-- ---- the pages of a directory

module _ (p : Picture) (at : List ℕ) where
  -- these are the names in it behind a text
  abbrev Behind : List ℕ → List (List ℕ) → Type 0
  Behind start found = AreNamesBehind p.names (front_of at) start found

  -- each entry is the status of what stands under its name
  abbrev AllTold : List FileStatusMsg → Type 0
  AllTold messages = All (λ (s : FileStatusMsg). TellsAt p.names p.table (front_of at ++ s.path) s.path s) messages

  -- behind the last name of a page come those that remain
  goes_on : (start : List ℕ) (page : DirList) → IsPlain start → (told : TellsPage p.names p.table at start page)
      → Behind (last_name start page.partial_listing) told.rest × IsPlain (last_name start page.partial_listing)
  goes_on start page plain told = by page.partial_listing told.are
    where
      by : (listing : List FileStatusMsg) → Behind start (names_of listing ++ told.rest)
          → Behind (last_name start listing) told.rest × IsPlain (last_name start listing)
      by [] are = (are, plain)
      by (message ∷ rest) are =
          let e = ends start message rest in
          let last : List ℕ = last_name start (message ∷ rest) in
          let whole : names_of (message ∷ rest) ++ told.rest ≡ e.0 ++ last ∷ told.rest =
          ap (λ (l : List (List ℕ)). l ++ told.rest) e.1 ∙ append_assoc e.0 (last ∷ []) told.rest in
          let now : Behind start (e.0 ++ last ∷ told.rest) = subst (λ (l : List (List ℕ)). Behind start l) whole are in (
            names_go_on p.names (front_of at) start e.0 last told.rest plain now,
            (All-contains (IsNameIn p.names (front_of at)) (e.0 ++ last ∷ told.rest) last now.there
                (Contains-append_right e.0 (last ∷ told.rest) last (0, omega arith, refl))).plain,
          )

  -- behind a page that is the last one nothing remains
  none_left : (start : List ℕ) (page : DirList) (told : TellsPage p.names p.table at start page) → has_more page ≡ false → told.rest ≡ []
  none_left start page told last = by page.partial_listing refl
    where
      left : (message : FileStatusMsg) (messages : List FileStatusMsg) → page.partial_listing ≡ message ∷ messages → (rest : List (List ℕ))
          → page.remaining_entries ≡ length rest → rest ≡ []
      left message messages is [] many = refl
      left message messages is (name ∷ rest) many =
          absurd (false≢true (sym last ∙ and_true (nat_lt 0 page.remaining_entries) (nat_lt 0 (length page.partial_listing))
          (positive page.remaining_entries (length rest) many)
          (positive (length page.partial_listing) (length messages) (ap (λ (l : List FileStatusMsg). length l) is))))

      by : (listing : List FileStatusMsg) → page.partial_listing ≡ listing → told.rest ≡ []
      by [] is = told.some is
      by (message ∷ messages) is = left message messages is told.rest told.remaining

  module _ (mounts : MountTable) (given : List ℕ) (to : Resolved) (leads : leads_by mounts given to) (called : to.path ≡ at) where
    -- a page of where the path leads
    pub page_at : (start : List ℕ) (page : DirList) → IsAnswered (IsPageIn p) mounts given start page → TellsListing p.names p.table at start (Some page)
    page_at start page was =
        let same : was.to ≡ to = same_place _ was.to to was.leads leads in
        subst (λ (r : List ℕ). TellsListing p.names p.table r start (Some page)) (ap (λ (r : Resolved). r.path) same ∙ called) was.answered

    -- what all these pages tell of a directory: names behind a text, and then a rest, of which nothing is left behind the last page
    record AreTold (start : List ℕ) (pages : List DirList) : Type 0 where
      pub rest : List (List ℕ)
      pub are : Behind start (names_of (messages_of pages) ++ rest)
      pub told : AllTold (messages_of pages)
      pub last : are_all pages ≡ true → rest ≡ []

    module _ (dir : p.names at ≡ Some entries.Dir) where
      as_page : (start : List ℕ) (page : DirList) → TellsListing p.names p.table at start (Some page) → TellsPage p.names p.table at start page
      as_page start page tells =
          let is = tells.1 in
          let same : tells.0 ≡ entries.Dir = cc (is, dir) in
          subst (λ (e : Entry). TellsEntries p.names p.table at start e page) same tells.2

      pages_told : (start : List ℕ) (page : DirList) (pages : List DirList) → IsPlain start → Follow (IsPageIn p) mounts given start (page ∷ pages)
          → AreTold start (page ∷ pages)
      pages_told start page [] plain follow =
          let told : TellsPage p.names p.table at start page = as_page start page (page_at start page follow.0) in record {
            rest = told.rest;
            are = subst (λ (ms : List FileStatusMsg). Behind start (names_of ms ++ told.rest)) (sym (append-nil page.partial_listing)) told.are;
            told = subst (λ (ms : List FileStatusMsg). AllTold ms) (sym (append-nil page.partial_listing)) told.told;
            last = λ all. none_left start page told (not_true (has_more page) all);
          }
      pages_told start page (second ∷ pages) plain follow =
          let told : TellsPage p.names p.table at start page = as_page start page (page_at start page follow.0) in
          let on = goes_on start page plain told in
          let from : List ℕ = last_name start page.partial_listing in
          let more : List FileStatusMsg = messages_of (second ∷ pages) in
          let later : AreTold from (second ∷ pages) = pages_told from second pages on.1 follow.1 in
          let same : told.rest ≡ names_of more ++ later.rest =
          names_unique p.names (front_of at) from on.1 told.rest (names_of more ++ later.rest) on.0 later.are in
          let whole : names_of page.partial_listing ++ told.rest ≡ names_of (page.partial_listing ++ more) ++ later.rest =
          ap (λ (l : List (List ℕ)). names_of page.partial_listing ++ l) same
          ∙ sym (append_assoc (names_of page.partial_listing) (names_of more) later.rest)
          ∙ ap (λ (l : List (List ℕ)). l ++ later.rest) (sym (map-append (λ (m : FileStatusMsg). m.path) page.partial_listing more)) in record {
            rest = later.rest;
            are = subst (λ (l : List (List ℕ)). Behind start l) whole told.are;
            told = All-append (λ (s : FileStatusMsg). TellsAt p.names p.table (front_of at ++ s.path) s.path s) page.partial_listing more told.told later.told;
            last = λ all. later.last (both_true (has_more page) (are_all (second ∷ pages)) all).1;
          }

    -- a file has one page
    module _ (file : FileEntry) (is : p.names at ≡ Some (entries.File file)) where
      as_alone : (start : List ℕ) (page : DirList) → TellsListing p.names p.table at start (Some page) → TellsAlone p.names p.table at page
      as_alone start page tells =
          let here = tells.1 in
          let same : tells.0 ≡ entries.File file = cc (here, is) in
          subst (λ (e : Entry). TellsEntries p.names p.table at start e page) same tells.2

      no_more : (page : DirList) → TellsAlone p.names p.table at page → has_more page ≡ false
      no_more page alone = ap (λ (n : ℕ). nat_lt 0 n && nat_lt 0 (length page.partial_listing)) alone.none

      one_message : (start : List ℕ) (page : DirList) (pages : List DirList) → Follow (IsPageIn p) mounts given start (page ∷ pages)
          → lead_on (page ∷ pages) ≡ true
          → (message : FileStatusMsg) × (messages_of (page ∷ pages) ≡ message ∷ []) × TellsAt p.names p.table at [] message
      one_message start page [] follow on =
          let alone = as_alone start page (page_at start page follow.0) in
          (alone.status, append-nil page.partial_listing ∙ alone.one, alone.told)
      one_message start page (second ∷ pages) follow on =
          absurd (false≢true (sym (no_more page (as_alone start page (page_at start page follow.0)))
          ∙ (both_true (has_more page) (lead_on (second ∷ pages)) on).0))

-- all pages lead on
leads_on : (pages : List DirList) → are_all pages ≡ true → lead_on pages ≡ true
leads_on [] all = refl
leads_on (page ∷ []) all = refl
leads_on (page ∷ (second ∷ pages)) all =
    let two = both_true (has_more page) (are_all (second ∷ pages)) all in
    and_true (has_more page) (lead_on (second ∷ pages)) two.0 (leads_on (second ∷ pages) two.1)

-- ---- over a state

module _ (p : Picture) (state : State) (tells : Tells p state) (mounts : MountTable) (given : List ℕ) (to : Resolved) (leads : leads_by mounts given to) where
  abbrev at : List ℕ
  at = to.path

  -- the paths that are listed with what stands there
  abbrev pub paths_of : Entry → List (List ℕ)
  paths_of entries.Dir = walk state.files state.paths at false
  paths_of (entries.File file) = at ∷ []

  -- what a status tells is what the entry says
  same_dir : (path : List ℕ) (name : List ℕ) (message : FileStatusMsg) (status : FileStatus) → TellsAt p.names p.table path name message
      → IsStatus given message (Ok status) → is_directory (state.files path) ≡ status.isdir
  same_dir path name message status told is =
      entry_told p state tells.is_state tells.agrees path name message told ∙ sym (ap (λ (x : FileStatus). x.isdir) is.2)

  same_name : (message : FileStatusMsg) (status : FileStatus) → IsStatus given message (Ok status) → IsNamed given message.path status.path
  same_name message status is = subst (λ (x : List ℕ). IsNamed given message.path x) (sym (ap (λ (x : FileStatus). x.path) is.2)) is.1

  say_all : (before : List ℕ) (messages : List FileStatusMsg) (own : List FileStatus) → Rises before (names_of messages) → AllTold p at messages
      → AreEntries given messages own
      → SayEntries given at own (map (entry_at state) (map (λ (name : List ℕ). front_of at ++ name) (names_of messages)))
  say_all before [] [] rises told are = tt
  say_all before [] (status ∷ own) rises told are = absurd are
  say_all before (message ∷ messages) [] rises told are = absurd are
  say_all before (message ∷ messages) (status ∷ own) rises told are = (
    record {
      name = message.path;
      named = same_name message status are.0;
      path = sym (path_behind at before message.path rises.0);
      isdir = same_dir (front_of at ++ message.path) message.path message status
          (All-head (λ (s : FileStatusMsg). TellsAt p.names p.table (front_of at ++ s.path) s.path s) message messages told) are.0;
    },
    say_all message.path messages own rises.1
        (All-tail (λ (s : FileStatusMsg). TellsAt p.names p.table (front_of at ++ s.path) s.path s) message messages told) are.1,
  )

  say_one : (message : FileStatusMsg) (own : List FileStatus) → TellsAt p.names p.table at [] message → AreEntries given (message ∷ []) own
      → SayEntries given at own (map (entry_at state) (at ∷ []))
  say_one message [] told are = absurd are
  say_one message (status ∷ []) told are = (
    record {
      name = message.path;
      named = same_name message status are.0;
      path = ap (λ (name : List ℕ). path_in at name) (sym told.named);
      isdir = same_dir at [] message status told are.0;
    },
    tt,
  )
  say_one message (status ∷ (second ∷ own)) told are = absurd are.1

  -- the names in the directory are its walk
  told_walk : (found : List (List ℕ)) → Behind p at [] found → walk state.files state.paths at false ≡ map (λ (name : List ℕ). front_of at ++ name) found
  told_walk found are = names_walk p state tells.is_state tells.agrees at found are

  -- What stands there, and that what a caller was told says as much as the entries that are listed.
  pub all_said : (own : List FileStatus) → HasAll (IsPageIn p) mounts given own
      → (entry : Entry) × (p.names at ≡ Some entry) × SayEntries given at own (map (entry_at state) (paths_of entry))
  all_said own has = by has.pages has.follow has.all has.entries
    where
      of : (entry : Entry) → p.names at ≡ Some entry → (page : DirList) (pages : List DirList) → Follow (IsPageIn p) mounts given [] (page ∷ pages)
          → are_all (page ∷ pages) ≡ true → AreEntries given (messages_of (page ∷ pages)) own → SayEntries given at own (map (entry_at state) (paths_of entry))
      of entries.Dir is page pages follow all are =
          let told = pages_told p at mounts given to leads refl is [] page pages refl follow in
          let messages : List FileStatusMsg = messages_of (page ∷ pages) in
          let behind : Behind p at [] (names_of messages) =
          subst (λ (l : List (List ℕ)). Behind p at [] l)
          (ap (λ (l : List (List ℕ)). names_of messages ++ l) (told.last all) ∙ append-nil (names_of messages)) told.are in
          subst (λ (l : List (List ℕ)). SayEntries given at own (map (entry_at state) l)) (sym (told_walk (names_of messages) behind))
          (say_all [] messages own behind.rising told.told are)
      of (entries.File file) is page pages follow all are =
          let one = one_message p at mounts given to leads refl file is [] page pages follow (leads_on (page ∷ pages) all) in
          say_one one.0 own one.2 (subst (λ (ms : List FileStatusMsg). AreEntries given ms own) one.1 are)

      by : (pages : List DirList) → Follow (IsPageIn p) mounts given [] pages → are_all pages ≡ true → AreEntries given (messages_of pages) own
          → (entry : Entry) × (p.names at ≡ Some entry) × SayEntries given at own (map (entry_at state) (paths_of entry))
      by [] follow all are = absurd (false≢true all)
      by (page ∷ pages) follow all are =
          let first = page_at p at mounts given to leads refl [] page follow.0 in
          (first.0, first.1, of first.0 first.1 page pages follow all are)

  -- The same of some of it: no more was told than is listed.
  pub some_said : (own : List FileStatus) → HasSome (IsPageIn p) mounts given own
      → (own ≡ []) ⊎ ((entry : Entry) × (p.names at ≡ Some entry) × (length own ≤ length (paths_of entry)))
  some_said own has = by has.pages has.follow has.on has.is
    where
      -- the messages are as many as this at least
      few : (messages : List FileStatusMsg) → messages ≡ has.front ++ has.left → length own ≤ length messages
      few messages is =
          let many = as_many given has.front own has.entries in
          let both = ap (λ (l : List FileStatusMsg). length l) is in
          omega (arith, many, both, length-append has.front has.left)

      of : (entry : Entry) → p.names at ≡ Some entry → (page : DirList) (pages : List DirList) → Follow (IsPageIn p) mounts given [] (page ∷ pages)
          → lead_on (page ∷ pages) ≡ true → messages_of (page ∷ pages) ≡ has.front ++ has.left → length own ≤ length (paths_of entry)
      of entries.Dir is page pages follow on split =
          let told = pages_told p at mounts given to leads refl is [] page pages refl follow in
          let messages : List FileStatusMsg = messages_of (page ∷ pages) in
          let found : List (List ℕ) = names_of messages ++ told.rest in
          let less : length own ≤ length messages = few messages split in
          let names : length (names_of messages) ≡ length messages = length-map messages (λ (m : FileStatusMsg). m.path) in
          let listed : length (walk state.files state.paths at false) ≡ length found =
          ap (λ (l : List (List ℕ)). length l) (told_walk found told.are) ∙ length-map found (λ (name : List ℕ). front_of at ++ name) in
          let few_listed : length own ≤ length (walk state.files state.paths at false) =
          omega (arith, less, names, listed, length-append (names_of messages) told.rest) in
          few_listed
      of (entries.File file) is page pages follow on split =
          let one = one_message p at mounts given to leads refl file is [] page pages follow on in
          let less : length own ≤ length (messages_of (page ∷ pages)) = few (messages_of (page ∷ pages)) split in
          let size = ap (λ (l : List FileStatusMsg). length l) one.1 in
          let few_listed : length own ≤ 1 = omega (arith, less, size) in
          few_listed

      none : (front : List FileStatusMsg) (own : List FileStatus) → [] ≡ front ++ has.left → AreEntries given front own → own ≡ []
      none [] [] is are = refl
      none [] (status ∷ own) is are = absurd are
      none (message ∷ front) own is are = cc

      by : (pages : List DirList) → Follow (IsPageIn p) mounts given [] pages → lead_on pages ≡ true → messages_of pages ≡ has.front ++ has.left
          → (own ≡ []) ⊎ ((entry : Entry) × (p.names at ≡ Some entry) × (length own ≤ length (paths_of entry)))
      by [] follow on split = inl (none has.front own split has.entries)
      by (page ∷ pages) follow on split =
          let first = page_at p at mounts given to leads refl [] page follow.0 in
          inr (first.0, first.1, of first.0 first.1 page pages follow on split)

  -- ---- names on pages are texts

  single : (one message : FileStatusMsg) → Contains (one ∷ []) message → one ≡ message
  single one message (zero, below, same) = same
  single one message (suc k, below, same) = absurd (omega (arith, below))

  page_text : (start : List ℕ) (page : DirList) → IsAnswered (IsPageIn p) mounts given start page → (message : FileStatusMsg)
      → Contains page.partial_listing message → IsUtf8 message.path
  page_text start page was message there =
      let told = page_at p at mounts given to leads refl start page was in
      by told.0 told.2
    where
      by : (entry : Entry) → TellsEntries p.names p.table at start entry page → IsUtf8 message.path
      by entries.Dir told =
          let one = All-contains (λ (s : FileStatusMsg). TellsAt p.names p.table (front_of at ++ s.path) s.path s) page.partial_listing message told.told there in
          name_text at message.path (tells.texts (front_of at ++ message.path) (subst IsSome (sym one.there) refl))
      by (entries.File file) alone =
          let same : alone.status ≡ message = single alone.status message (subst (λ (l : List FileStatusMsg). Contains l message) alone.one there) in
          subst IsUtf8 (sym alone.told.named ∙ ap (λ (x : FileStatusMsg). x.path) same) IsUtf8-nil

  pub first_text : (start : List ℕ) (page : DirList) → IsAnswered (IsPageIn p) mounts given start page → (message : FileStatusMsg) (rest : List FileStatusMsg)
      → page.partial_listing ≡ message ∷ rest → IsUtf8 message.path
  first_text start page was message rest is =
      page_text start page was message (subst (λ (l : List FileStatusMsg). Contains l message) (sym is) (0, omega arith, refl))

  pub on_page_text : (message : FileStatusMsg) → IsOnPage (IsPageIn p) mounts given message → IsUtf8 message.path
  on_page_text message on =
      page_text on.start on.page on.was message
      (subst (λ (l : List FileStatusMsg). Contains l message) (sym on.is)
      (Contains-append_right on.before (message ∷ on.behind) message (0, omega arith, refl)))
