-- Which paths the tasks of a listing give: those of a directory that is begun, of an entry that is entered, and of a page that is turned.
use Rattle.std.proofs.Common.{◌≡◌, ℕ, suc, nat_lt, ◌==◌, ◌&&◌, Bool, true, false, cond, List, [], ◌∷◌, ◌++◌, length, map, Contains, Option, Some, None, IsSome, option_map, refl, sym, ◌∙◌, ap, subst, arith}
use Rattle.std.proofs.lemmas.Bool.{false≢true}
use Rattle.std.proofs.lemmas.Bool.Decides.{nat_tests}
use Rattle.std.proofs.lemmas.List.Elements.{All-contains, All-head, All-tail}
use Rattle.std.specs.List.{All, list_any}
use Rattle.std.specs.Str.{IsUtf8}
use Rattle.std.proofs.lemmas.Str.{IsUtf8-nil}
use Rattle.hdfs_cluster.specs.declared.messages.DirList.{DirList}
use Rattle.hdfs_cluster.specs.declared.messages.FileStatusMsg.{FileStatusMsg}
use Rattle.hdfs_cluster.specs.declared.picture.Entry.{Entry}
use Rattle.hdfs_cluster.specs.declared.picture.Entry.TheVariants as entries
use Rattle.hdfs_cluster.specs.Files.{Directory, IsState, Node, Dir, File, Writing, State, kind_of, kinds_of}
use Rattle.hdfs_cluster.specs.Listing.{TellsAt, TellsPage, names_in}
use Rattle.hdfs_cluster.specs.Loading.{is_directory}
use Rattle.hdfs_cluster.specs.Names.{AreNamesBehind, IsNameIn, Rises, front_of}
use Rattle.hdfs_cluster.specs.Picture.{Picture}
use Rattle.hdfs_cluster.specs.Stores.{AgreesAt}
use Rattle.hdfs_names.specs.Paths.{is_slash}
use Rattle.hdfs_model.specs.declared.commands.PathEntry.{PathEntry}
use Rattle.hdfs_model.specs.Listings.{path_in}
use Rattle.hdfs_model.specs.Steps.{entry_at}
use Rattle.hdfs_model.specs.Walks.{walk}
use Rattle.hdfs_model.proofs.Both.{and_true}
use Rattle.hdfs_model.proofs.Deleted.{here, some_kind}
use Rattle.hdfs_model.proofs.Descending.{each_below, walk_descends, walk_of_other}
use Rattle.hdfs_model.proofs.Listed.{names_walk}
use Rattle.hdfs_model.proofs.Paged.{names_go_on}
use Rattle.hdfs_model.proofs.Told.{entry_told}
use Rattle.hdfs_listing.specs.Walking.{AreTexts, IsDue, each_with, entry_in, gives, has_more, last_name, lower, page_tasks, paths_in}
use Rattle.hdfs_listing.specs.declared.walk.Task.{Task}
use Rattle.hdfs_listing.specs.declared.walk.Task.TheVariants as tasks
use Rattle.hdfs_listing.proofs.Names.{names_unique, path_behind}

-- some entries end with one of the last name
ends : (status : FileStatusMsg) (rest : List FileStatusMsg) → (front : List (List ℕ)) × (map (λ s. s.path) (status ∷ rest) ≡ front ++ last_name [] (status ∷ rest) ∷ [])
ends status [] = ([], refl)
ends status (second ∷ rest) = (let more = ends second rest in (status.path ∷ more.0, ap (λ (l : List (List ℕ)). status.path ∷ l) more.1))

append_assoc : (a b c : List (List ℕ)) → (a ++ b) ++ c ≡ a ++ (b ++ c)
append_assoc [] b c = refl
append_assoc (x ∷ a) b c = ap (λ (l : List (List ℕ)). x ∷ l) (append_assoc a b c)

positive : (n k : ℕ) → n ≡ suc k → nat_lt 0 n ≡ true
positive n k is = grind (arith, nat_tests, is)

last_text : (start : List ℕ) (statuses : List FileStatusMsg) → IsUtf8 start → AreTexts statuses → IsUtf8 (last_name start statuses)
last_text start [] text texts = text
last_text start (status ∷ rest) text texts = last_text status.path rest texts.0 texts.1

module _ (p : Picture) (state : State) (is_state : IsState state) (agrees : (r : List ℕ) → AgreesAt p (p.names r) (state.files r)) (recursive : Bool) where
  abbrev with_all : List (List ℕ) → List (List ℕ)
  with_all = each_with state recursive

  flat : (paths : List (List ℕ)) → each_with state false paths ≡ paths
  flat [] = refl
  flat (path ∷ paths) = ap (λ (l : List (List ℕ)). path ∷ l) (flat paths)

  deep : (paths : List (List ℕ)) → each_below state is_state paths ≡ each_with state true paths
  deep [] = refl
  deep (path ∷ paths) = ap (λ (l : List (List ℕ)). path ∷ (walk state.files state.paths path true ++ l)) (deep paths)

  -- a directory is listed by its names, and what lies below each
  pub walk_names : (dir : List ℕ) (r : Bool) (found : List (List ℕ)) → AreNamesBehind p.names (front_of dir) [] found → walk state.files state.paths dir r ≡ each_with state r (paths_in dir found)
  walk_names dir true found are =
      walk_descends state is_state dir ∙ ap (each_below state is_state) (names_walk p state is_state agrees dir found are) ∙ deep (paths_in dir found)
  walk_names dir false found are = names_walk p state is_state agrees dir found are ∙ sym (flat (paths_in dir found))

  -- a directory that is begun
  pub begun_due : (dir : List ℕ) (rest : List Task) (others : List (List ℕ)) → p.names dir ≡ Some entries.Dir → IsDue p.names state recursive rest others
      → IsDue p.names state recursive (tasks.Ask dir [] ∷ rest) (walk state.files state.paths dir recursive ++ others)
  begun_due dir rest others is due = (is, refl, IsUtf8-nil, λ found are. (others, ap (λ (l : List (List ℕ)). l ++ others) (walk_names dir recursive found are), due))

  -- the entries of a page
  module _ (dir : List ℕ) where
    gives_due : (statuses : List FileStatusMsg) (names rest : List (List ℕ)) (before : List ℕ) (todo : List Task) (paths others : List (List ℕ))
        → Rises before (map (λ s. s.path) statuses ++ rest) → All (λ s. TellsAt p.names p.table (front_of dir ++ s.path) s.path s) statuses
        → paths ≡ with_all (paths_in dir (map (λ s. s.path) statuses ++ rest)) ++ others
        → ((tail : List (List ℕ)) → tail ≡ with_all (paths_in dir rest) ++ others → IsDue p.names state recursive todo tail)
        → IsDue p.names state recursive (gives dir statuses todo) paths
    gives_due [] names rest before todo paths others rises told are due = due paths are
    gives_due (status ∷ statuses) names rest before todo paths others rises told are due =
        let path = front_of dir ++ status.path in
        let tells = All-head (λ s. TellsAt p.names p.table (front_of dir ++ s.path) s.path s) status statuses told in
        let at : path_in dir status.path ≡ path = path_behind dir before status.path rises.0 in
        let tail = with_all (paths_in dir (map (λ s. s.path) statuses ++ rest)) ++ others in (
          entry_is status path at (sym (entry_told p state is_state agrees path status.path status tells)),
          subst (λ (q : List ℕ). IsSome (p.names q)) (sym at) (subst IsSome (sym tells.there) refl),
          tail,
          are ∙ ap (λ (l : List (List ℕ)). path ∷ l) (append_assoc (lower state recursive path) (with_all (paths_in dir (map (λ s. s.path) statuses ++ rest))) others)
              ∙ ap (λ (q : List ℕ). q ∷ (lower state recursive q ++ tail)) (sym at),
          gives_due statuses names rest status.path todo tail others rises.1 (All-tail (λ s. TellsAt p.names p.table (front_of dir ++ s.path) s.path s) status statuses told) refl due,
        )
      where
        entry_is : (status : FileStatusMsg) (path : List ℕ) → path_in dir status.path ≡ path → (status.file_type == 1) ≡ is_directory (state.files path) → entry_in dir status ≡ entry_at state (path_in dir status.path)
        entry_is status path at is = ap (λ (b : Bool). record { path = path_in dir status.path; isdir = b }) (is ∙ ap (λ (q : List ℕ). is_directory (state.files q)) (sym at))

    -- a page that is turned
    module _ (start : List ℕ) (page : DirList) (todo : List Task) (paths : List (List ℕ)) (due : IsDue p.names state recursive (tasks.Ask dir start ∷ todo) paths) (told : TellsPage p.names p.table dir start page)
        (texts : AreTexts page.partial_listing) where
      abbrev others : List (List ℕ)
      others = (due.3 (names_in page ++ told.rest) told.are).0

      due_rest : IsDue p.names state recursive todo others
      due_rest = (due.3 (names_in page ++ told.rest) told.are).2

      none_left : (listing : List FileStatusMsg) → page.partial_listing ≡ listing → has_more page ≡ false → told.rest ≡ []
      none_left [] is last = told.some is
      none_left (status ∷ statuses) is last = by (told.rest) told.remaining
        where
          by : (rest : List (List ℕ)) → page.remaining_entries ≡ length rest → rest ≡ []
          by [] many = refl
          by (x ∷ rest) many = absurd (false≢true (sym last ∙ and_true (nat_lt 0 page.remaining_entries) (nat_lt 0 (length page.partial_listing)) (positive page.remaining_entries (length rest) many) (positive (length page.partial_listing) (length statuses) (ap (λ (l : List FileStatusMsg). length l) is))))

      -- behind its last name the names go on with the rest
      goes_on : (listing : List FileStatusMsg) → page.partial_listing ≡ listing → has_more page ≡ true
          → AreNamesBehind p.names (front_of dir) (last_name [] page.partial_listing) told.rest × (list_any is_slash (last_name [] page.partial_listing) ≡ false)
      goes_on [] is more = absurd (false≢true (sym (ap (λ (l : List FileStatusMsg). nat_lt 0 page.remaining_entries && nat_lt 0 (length l)) is ∙ none (nat_lt 0 page.remaining_entries)) ∙ more))
        where
          none : (b : Bool) → (b && false) ≡ false
          none true = refl
          none false = refl
      goes_on (status ∷ statuses) is more =
          let e = ends status statuses in
          let last : List ℕ = last_name [] (status ∷ statuses) in
          let whole : names_in page ++ told.rest ≡ e.0 ++ last ∷ told.rest =
          ap (λ (l : List FileStatusMsg). map (λ s. s.path) l ++ told.rest) is ∙ ap (λ (l : List (List ℕ)). l ++ told.rest) e.1 ∙ append_assoc e.0 (last ∷ []) told.rest in
          let are = subst (AreNamesBehind p.names (front_of dir) start) whole told.are in
          let same : last ≡ last_name [] page.partial_listing = ap (λ (l : List FileStatusMsg). last_name [] l) (sym is) in (
            subst (λ (n : List ℕ). AreNamesBehind p.names (front_of dir) n told.rest) same (names_go_on p.names (front_of dir) start e.0 last told.rest due.1 are),
            subst (λ (n : List ℕ). list_any is_slash n ≡ false) same
                (All-contains (IsNameIn p.names (front_of dir)) (e.0 ++ last ∷ told.rest) last are.there (among e.0 last told.rest)).plain,
          )
        where
          among : (front : List (List ℕ)) (last : List ℕ) (rest : List (List ℕ)) → Contains (front ++ last ∷ rest) last
          among [] last rest = (0, omega arith, refl)
          among (x ∷ front) last rest = (let later = among front last rest in (suc later.0, omega (arith, later.1), later.2))

      more : (tail : List (List ℕ)) → tail ≡ with_all (paths_in dir told.rest) ++ others → (b : Bool) → has_more page ≡ b
          → IsDue p.names state recursive (cond b (tasks.Ask dir (last_name [] page.partial_listing) ∷ todo) todo) tail
      more tail is true many =
          let on = goes_on page.partial_listing refl many in (
            due.0,
            on.1,
            last_text [] page.partial_listing IsUtf8-nil texts,
            λ found are. (others, is ∙ ap (λ (l : List (List ℕ)). with_all (paths_in dir l) ++ others) (names_unique p.names (front_of dir) (last_name [] page.partial_listing) on.1 told.rest found on.0 are), due_rest),
          )
      more tail is false last =
          subst (IsDue p.names state recursive todo) (sym (is ∙ ap (λ (l : List (List ℕ)). with_all (paths_in dir l) ++ others) (none_left page.partial_listing refl last))) due_rest

      pub turned_due : IsDue p.names state recursive (page_tasks dir page todo) paths
      turned_due =
          gives_due page.partial_listing [] told.rest start (cond (has_more page) (tasks.Ask dir (last_name [] page.partial_listing) ∷ todo) todo) paths others told.are.rising told.told
          (due.3 (names_in page ++ told.rest) told.are).1
          (λ tail is. more tail is (has_more page) refl)

  -- an entry that is entered, or isn't
  module _ (entry : PathEntry) (todo : List Task) (paths : List (List ℕ)) (due : IsDue p.names state recursive (tasks.Give entry ∷ todo) paths) where
    dir_here : entry.isdir ≡ true → p.names entry.path ≡ Some entries.Dir
    dir_here is = by (p.names entry.path) (state.files entry.path) (agrees entry.path) due.1 (sym (ap (λ (e : PathEntry). e.isdir) due.0) ∙ is)
      where
        by : (e : Option Entry) (node : Option Node) → AgreesAt p e node → IsSome e → is_directory node ≡ true → e ≡ Some entries.Dir
        by None node h some is = absurd (cc (some))
        by (Some entries.Dir) node h some is = refl
        by (Some (entries.File f)) None h some is = absurd h
        by (Some (entries.File f)) (Some Dir) h some is = absurd h
        by (Some (entries.File f)) (Some (File content)) h some is = absurd (cc (is))
        by (Some (entries.File f)) (Some (Writing content)) h some is = absurd (cc (is))

    pub entered_due : recursive ≡ true → entry.isdir ≡ true → IsDue p.names state recursive (tasks.Ask entry.path [] ∷ todo) (walk state.files state.paths entry.path recursive ++ due.2)
    entered_due deep is = begun_due entry.path todo due.2 (dir_here is) due.4

    pub lower_deep : recursive ≡ true → lower state recursive entry.path ≡ walk state.files state.paths entry.path recursive
    lower_deep deep = by recursive deep
      where
        by : (r : Bool) → r ≡ true → lower state r entry.path ≡ walk state.files state.paths entry.path r
        by true is = refl
        by false is = absurd (false≢true is)

    -- nothing lies below it where it isn't entered
    pub lower_none : (recursive && entry.isdir) ≡ false → lower state recursive entry.path ≡ []
    lower_none not_in = by recursive not_in
      where
        kind_is : entry.isdir ≡ false → kinds_of state.files entry.path ≡ Some Directory → ⊥
        kind_is plain kind = at (state.files entry.path) (sym (ap (λ (e : PathEntry). e.isdir) due.0) ∙ plain) kind
          where
            at : (node : Option Node) → is_directory node ≡ false → option_map kind_of node ≡ Some Directory → ⊥
            at None plain kind = cc (kind)
            at (Some Dir) plain kind = cc (plain)
            at (Some (File content)) plain kind = cc (kind)
            at (Some (Writing content)) plain kind = cc (kind)

        by : (r : Bool) → (r && entry.isdir) ≡ false → lower state r entry.path ≡ []
        by false plain = refl
        by true plain = walk_of_other state is_state entry.path (is_state.tree.named entry.path (some_kind (state.files entry.path) (here p (p.names entry.path) (state.files entry.path) (agrees entry.path) due.1))) (kind_is plain)
