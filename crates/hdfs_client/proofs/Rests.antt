-- What is left of a directory, turn by turn.
use Rattle.std.proofs.Common.{◌≡◌, inr, ℕ, Bool, true, false, not, ◌&&◌, List, [], ◌∷◌, ◌++◌, append_assoc, refl, sym, ◌∙◌, ap, subst, Option, Some, None, Result, Ok, Err, nat_lt, length}
use Rattle.std.proofs.lemmas.Bool.{false≢true}
use Rattle.hdfs_cluster.specs.declared.asks.Ask.{Ask}
use Rattle.hdfs_cluster.specs.declared.asks.Answer.{Answer}
use Rattle.hdfs_cluster.specs.declared.errors.HdfsError.{HdfsError}
use Rattle.hdfs_cluster.specs.declared.messages.DirList.{DirList}
use Rattle.hdfs_cluster.specs.declared.messages.FileStatusMsg.{FileStatusMsg}
use Rattle.hdfs_cluster.proofs.Loads.{and_parts}
use Rattle.hdfs_names.specs.declared.mounts.MountTable.{MountTable}
use Rattle.hdfs_client.specs.Iterating.{HasRest, HasSomeRest, Left, Turns, are_none, are_rest, fresh, is_over}
use Rattle.hdfs_client.specs.Listing.{AreEntries, AreOnPages, HasAll, HasSome, IsAnswered, IsFrom, are_all, lead_on, messages_of}
use Rattle.hdfs_listing.specs.Walking.{has_more, last_name}
use Rattle.hdfs_client.specs.Statuses.{IsStatus}
use Rattle.hdfs_client.specs.Turning.{IsGiven, Opens, ended, holding, opened_at}
use Rattle.hdfs_client.specs.declared.status.FileStatus.{FileStatus}

module _ (may_answer : Ask → Answer → Type 0) (mounts : MountTable) where
  -- ---- one entry is given

  given_all : (old : Left) (message : FileStatusMsg) (rest : List FileStatusMsg) (status : FileStatus) (own : List FileStatus)
      → old.held ≡ message ∷ rest → IsStatus old.path message (Ok status) → HasRest may_answer mounts (holding rest old) own
      → HasRest may_answer mounts old (status ∷ own)
  given_all old message rest status own is told has = record {
    pages = has.pages;
    follow = has.follow;
    all = has.all;
    entries = subst (λ (ms : List FileStatusMsg). AreEntries old.path (ms ++ messages_of has.pages) (status ∷ own)) (sym is) (told, has.entries);
  }

  given_some : (old : Left) (message : FileStatusMsg) (rest : List FileStatusMsg) (status : FileStatus) (own : List FileStatus)
      → old.held ≡ message ∷ rest → IsStatus old.path message (Ok status) → HasSomeRest may_answer mounts (holding rest old) own
      → HasSomeRest may_answer mounts old (status ∷ own)
  given_some old message rest status own is told has = record {
    pages = has.pages;
    follow = has.follow;
    on = has.on;
    within = has.within;
    front = message ∷ has.front;
    left = has.left;
    is = ap (λ (ms : List FileStatusMsg). ms ++ messages_of has.pages) is ∙ ap (λ (ms : List FileStatusMsg). message ∷ ms) has.is;
    entries = (told, has.entries);
  }

  -- ---- a page more is held

  nothing_held : (held : List FileStatusMsg) → are_none held ≡ true → held ≡ []
  nothing_held [] none = refl
  nothing_held (message ∷ held) none = absurd (false≢true none)

  led_all : (page : DirList) (pages : List DirList) → are_rest (has_more page) pages ≡ true → are_all (page ∷ pages) ≡ true
  led_all page pages all = by (has_more page) pages refl all
    where
      by : (more : Bool) (pages : List DirList) → has_more page ≡ more → are_rest more pages ≡ true → are_all (page ∷ pages) ≡ true
      by true [] is all = absurd (false≢true all)
      by true (second ∷ pages) is all = ap (λ (b : Bool). b && are_all (second ∷ pages)) is ∙ all
      by false [] is all = ap (λ (b : Bool). not b) is
      by false (second ∷ pages) is all = absurd (false≢true all)

  opened_all : (old : Left) (page : DirList) (own : List FileStatus) → old.held ≡ [] → old.more ≡ true
      → IsAnswered may_answer mounts old.path old.start page → HasRest may_answer mounts (opened_at page old) own
      → HasRest may_answer mounts old own
  opened_all old page own none more answered has = record {
    pages = page ∷ has.pages;
    follow = (answered, has.follow);
    all = ap (λ (b : Bool). are_rest b (page ∷ has.pages)) more ∙ led_all page has.pages has.all;
    entries = subst (λ (ms : List FileStatusMsg). AreEntries old.path (ms ++ messages_of (page ∷ has.pages)) own) (sym none) has.entries;
  }

  led_some : (page : DirList) (pages : List DirList) → (has_more page ≡ false → pages ≡ []) → lead_on pages ≡ true → lead_on (page ∷ pages) ≡ true
  led_some page [] within on = refl
  led_some page (second ∷ pages) within on = by (has_more page) refl
    where
      by : (more : Bool) → has_more page ≡ more → lead_on (page ∷ second ∷ pages) ≡ true
      by true is = ap (λ (b : Bool). b && lead_on (second ∷ pages)) is ∙ on
      by false is = let none : second ∷ pages ≡ [] = within is in absurd cc

  opened_some : (old : Left) (page : DirList) (own : List FileStatus) → old.held ≡ [] → old.more ≡ true
      → IsAnswered may_answer mounts old.path old.start page → HasSomeRest may_answer mounts (opened_at page old) own
      → HasSomeRest may_answer mounts old own
  opened_some old page own none more answered has = record {
    pages = page ∷ has.pages;
    follow = (answered, has.follow);
    on = led_some page has.pages has.within has.on;
    within = λ last. absurd (false≢true (sym last ∙ more));
    front = has.front;
    left = has.left;
    is = ap (λ (ms : List FileStatusMsg). ms ++ messages_of (page ∷ has.pages)) none ∙ has.is;
    entries = has.entries;
  }

  -- ---- nothing is left

  pub none_some : (dir : Left) → HasSomeRest may_answer mounts dir []
  none_some dir = record {
    pages = [];
    follow = tt;
    on = refl;
    within = λ last. refl;
    front = [];
    left = dir.held ++ [];
    is = refl;
    entries = tt;
  }

  pub over_held : (dir : Left) → is_over dir ≡ true → (dir.held ≡ []) × (dir.more ≡ false)
  over_held dir over =
      let two = and_parts (not dir.more) (are_none dir.held) over in
      (nothing_held dir.held two.1, by dir.more two.0)
    where
      by : (b : Bool) → not b ≡ true → b ≡ false
      by true is = absurd (false≢true is)
      by false is = refl

  pub none_all : (dir : Left) → is_over dir ≡ true → HasRest may_answer mounts dir []
  none_all dir over =
      let two = over_held dir over in record {
        pages = [];
        follow = tt;
        all = ap (λ (b : Bool). are_rest b []) two.1;
        entries = subst (λ (ms : List FileStatusMsg). AreEntries dir.path (ms ++ []) []) (sym two.0) tt;
      }

  -- of what is over nothing is given
  pub over_nothing : (dir : Left) (own : List FileStatus) → is_over dir ≡ true → HasSomeRest may_answer mounts dir own → own ≡ []
  over_nothing dir own over has = by has.front own nothing has.entries
    where
      nothing : [] ≡ has.front ++ has.left
      nothing = let two = over_held dir over in
          sym (ap (λ (ms : List FileStatusMsg). ms ++ messages_of has.pages) two.0 ∙ ap (λ (ps : List DirList). messages_of ps) (has.within two.1))
          ∙ has.is

      by : (front : List FileStatusMsg) (own : List FileStatus) → [] ≡ front ++ has.left → AreEntries dir.path front own → own ≡ []
      by [] [] is entries = refl
      by [] (status ∷ own) is entries = absurd entries
      by (message ∷ front) own is entries = cc

  -- ---- a turn

  wanted : (old : Left) → (old.more && are_none old.held) ≡ true → (old.held ≡ []) × (old.more ≡ true)
  wanted old is =
      let two = and_parts old.more (are_none old.held) is in
      (nothing_held old.held two.1, two.0)

  turned_all : (old mid : Left) (own : List FileStatus) → Opens may_answer mounts (old.more && are_none old.held) old mid
      → HasRest may_answer mounts mid own → HasRest may_answer mounts old own
  turned_all old mid own opens has = by (old.more && are_none old.held) refl opens
    where
      by : (wants : Bool) → (old.more && are_none old.held) ≡ wants → Opens may_answer mounts wants old mid → HasRest may_answer mounts old own
      by false is same = subst (λ (l : Left). HasRest may_answer mounts l own) same has
      by true is opened =
          let two = wanted old is in
          opened_all old opened.page own two.0 two.1 opened.answered (subst (λ (l : Left). HasRest may_answer mounts l own) opened.is has)

  turned_some : (old mid : Left) (own : List FileStatus) → Opens may_answer mounts (old.more && are_none old.held) old mid
      → HasSomeRest may_answer mounts mid own → HasSomeRest may_answer mounts old own
  turned_some old mid own opens has = by (old.more && are_none old.held) refl opens
    where
      by : (wants : Bool) → (old.more && are_none old.held) ≡ wants → Opens may_answer mounts wants old mid → HasSomeRest may_answer mounts old own
      by false is same = subst (λ (l : Left). HasSomeRest may_answer mounts l own) same has
      by true is opened =
          let two = wanted old is in
          opened_some old opened.page own two.0 two.1 opened.answered (subst (λ (l : Left). HasSomeRest may_answer mounts l own) opened.is has)

  is_ended : (more : Bool) (held : List FileStatusMsg) → more ≡ false → held ≡ [] → (not more && are_none held) ≡ true
  is_ended more held last none = ap (λ (b : Bool). not b && are_none held) last ∙ ap are_none none

  no_more : (more : Bool) (held : List FileStatusMsg) → held ≡ [] → (more && are_none held) ≡ false → more ≡ false
  no_more false held none is = refl
  no_more true held none is = absurd (false≢true (sym is ∙ ap are_none none))

  no_page : (page : DirList) → page.partial_listing ≡ [] → has_more page ≡ false
  no_page page none =
      ap (λ (ms : List FileStatusMsg). nat_lt 0 page.remaining_entries && nat_lt 0 (length ms)) none ∙ never (nat_lt 0 page.remaining_entries)
    where
      never : (b : Bool) → (b && false) ≡ false
      never true = refl
      never false = refl

  -- where no entry is held behind a page that was wanted, none is to come
  emptied : (old mid : Left) → Opens may_answer mounts (old.more && are_none old.held) old mid → mid.held ≡ [] → is_over mid ≡ true
  emptied old mid opens none = by (old.more && are_none old.held) refl opens
    where
      by : (wants : Bool) → (old.more && are_none old.held) ≡ wants → Opens may_answer mounts wants old mid → is_over mid ≡ true
      by false is same =
          let held : old.held ≡ [] = ap (λ (l : Left). l.held) (sym same) ∙ none in
          is_ended mid.more mid.held (ap (λ (l : Left). l.more) same ∙ no_more old.more old.held held is) none
      by true is opened =
          is_ended mid.more mid.held (ap (λ (l : Left). l.more) opened.is ∙ no_page opened.page (ap (λ (l : Left). l.held) (sym opened.is) ∙ none)) none

  opened_path : (old mid : Left) → Opens may_answer mounts (old.more && are_none old.held) old mid → mid.path ≡ old.path
  opened_path old mid opens = by (old.more && are_none old.held) opens
    where
      by : (wants : Bool) → Opens may_answer mounts wants old mid → mid.path ≡ old.path
      by false same = ap (λ (l : Left). l.path) same
      by true opened = ap (λ (l : Left). l.path) opened.is

  -- the entries that are held stand on answered pages
  on_page : (path start : List ℕ) (page : DirList) (before rest : List FileStatusMsg) → IsAnswered may_answer mounts path start page
      → page.partial_listing ≡ before ++ rest → AreOnPages may_answer mounts path rest
  on_page path start page before [] was is = tt
  on_page path start page before (message ∷ rest) was is = (
    record { start = start; page = page; was = was; before = before; behind = rest; is = is },
    on_page path start page (before ++ message ∷ []) rest was (is ∙ sym (append_assoc before (message ∷ []) rest)),
  )

  opened_told : (old mid : Left) → Opens may_answer mounts (old.more && are_none old.held) old mid → AreOnPages may_answer mounts old.path old.held
      → AreOnPages may_answer mounts old.path mid.held
  opened_told old mid opens told = by (old.more && are_none old.held) opens
    where
      by : (wants : Bool) → Opens may_answer mounts wants old mid → AreOnPages may_answer mounts old.path mid.held
      by false same = subst (λ (l : Left). AreOnPages may_answer mounts old.path l.held) (sym same) told
      by true opened =
          subst (λ (l : Left). AreOnPages may_answer mounts old.path l.held) (sym opened.is)
          (on_page old.path old.start opened.page [] opened.page.partial_listing opened.answered refl)

  -- the name behind which the next page begins is that of an entry on an answered page, or is none
  last_from : (path start base : List ℕ) (page : DirList) (before rest : List FileStatusMsg) → IsAnswered may_answer mounts path start page
      → page.partial_listing ≡ before ++ rest → IsFrom may_answer mounts path base → IsFrom may_answer mounts path (last_name base rest)
  last_from path start base page before [] was is from = from
  last_from path start base page before (message ∷ rest) was is from =
      last_from path start message.path page (before ++ message ∷ []) rest was (is ∙ sym (append_assoc before (message ∷ []) rest))
      (inr (message, record { start = start; page = page; was = was; before = before; behind = rest; is = is }, refl))

  opened_from : (old mid : Left) → Opens may_answer mounts (old.more && are_none old.held) old mid → IsFrom may_answer mounts old.path old.start
      → IsFrom may_answer mounts old.path mid.start
  opened_from old mid opens from = by (old.more && are_none old.held) opens
    where
      by : (wants : Bool) → Opens may_answer mounts wants old mid → IsFrom may_answer mounts old.path mid.start
      by false same = subst (λ (l : Left). IsFrom may_answer mounts old.path l.start) (sym same) from
      by true opened =
          subst (λ (l : Left). IsFrom may_answer mounts old.path l.start) (sym opened.is)
          (last_from old.path old.start old.start opened.page [] opened.page.partial_listing opened.answered refl from)

  -- behind an error nothing is left
  pub fails : (old mid new : Left) (error : HdfsError) → mid.path ≡ old.path → new ≡ ended mid → Turns may_answer mounts old (Some (Err error)) new
  fails old mid new error path is = record {
    path = ap (λ (l : Left). l.path) is ∙ path;
    all = λ sound. absurd (false≢true sound);
    some = λ found has. subst (λ (xs : List FileStatus). HasSomeRest may_answer mounts old xs)
        (sym (over_nothing (ended mid) found refl (subst (λ (l : Left). HasSomeRest may_answer mounts l found) is has))) (none_some old);
    told = λ all. subst (λ (l : Left). AreOnPages may_answer mounts old.path l.held) (sym is) tt;
    from = λ sound. absurd (false≢true sound);
    ends = λ none. ap (λ (l : Left). is_over l) is;
  }

  pub turns : (old mid new : Left) (result : Option (Result FileStatus HdfsError)) → Opens may_answer mounts (old.more && are_none old.held) old mid
      → IsGiven mid result new → Turns may_answer mounts old result new
  turns old mid new None opens (none, is) = record {
    path = ap (λ (l : Left). l.path) is ∙ opened_path old mid opens;
    all = λ sound own has. turned_all old mid own opens (subst (λ (l : Left). HasRest may_answer mounts l own) is has);
    some = λ own has. turned_some old mid own opens (subst (λ (l : Left). HasSomeRest may_answer mounts l own) is has);
    told = λ all. subst (λ (l : Left). AreOnPages may_answer mounts old.path l.held) (sym is) (opened_told old mid opens all);
    from = λ sound was. subst (λ (l : Left). IsFrom may_answer mounts old.path l.start) (sym is) (opened_from old mid opens was);
    ends = λ nothing. ap (λ (l : Left). is_over l) is ∙ emptied old mid opens none;
  }
  turns old mid new (Some (Ok status)) opens (message, rest, first, told, is) = record {
    path = ap (λ (l : Left). l.path) is ∙ opened_path old mid opens;
    all = λ sound own has. turned_all old mid (status ∷ own) opens
        (given_all mid message rest status own first told (subst (λ (l : Left). HasRest may_answer mounts l own) is has));
    some = λ own has. turned_some old mid (status ∷ own) opens
        (given_some mid message rest status own first told (subst (λ (l : Left). HasSomeRest may_answer mounts l own) is has));
    told = λ all. subst (λ (l : Left). AreOnPages may_answer mounts old.path l.held) (sym is)
        (subst (λ (ms : List FileStatusMsg). AreOnPages may_answer mounts old.path ms) first (opened_told old mid opens all)).1;
    from = λ sound was. subst (λ (l : Left). IsFrom may_answer mounts old.path l.start) (sym is) (opened_from old mid opens was);
    ends = λ nothing. cc;
  }
  turns old mid new (Some (Err error)) opens (fault, is) = fails old mid new error (opened_path old mid opens) is

-- ---- at the beginning

pub all_fresh : (may_answer : Ask → Answer → Type 0) (mounts : MountTable) (path : List ℕ) (own : List FileStatus)
    → HasRest may_answer mounts (fresh path) own → HasAll may_answer mounts path own
all_fresh may_answer mounts path own has = record { pages = has.pages; follow = has.follow; all = has.all; entries = has.entries }

pub some_fresh : (may_answer : Ask → Answer → Type 0) (mounts : MountTable) (path : List ℕ) (own : List FileStatus)
    → HasSomeRest may_answer mounts (fresh path) own → HasSome may_answer mounts path own
some_fresh may_answer mounts path own has =
    record { pages = has.pages; follow = has.follow; on = has.on; front = has.front; left = has.left; is = has.is; entries = has.entries }
