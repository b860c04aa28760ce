-- What a call of one writer of a session leaves of the others.
use Rattle.std.proofs.Common.{◌≡◌, ◌≢◌, ◌⊎◌, inl, inr, ⊎_elim, ℕ, Bool, true, false, cond, List, Option, Some, None, IsSome, IfSome, is_some, refl, sym, ◌∙◌, ap, subst}
use Rattle.std.proofs.lemmas.Bool.{false≢true, cases_eq}
use Rattle.std.proofs.lemmas.Slice.Eq.{bytes_eq-Decides}
use Rattle.std.specs.Str.{bytes_eq}
use Rattle.hdfs_model.specs.declared.commands.Settings.{Settings}
use Rattle.hdfs_cluster.specs.declared.messages.ServerDefaults.{ServerDefaults}
use Rattle.hdfs_cluster.specs.Files.{State}
use Rattle.hdfs_model.specs.Limits.{are_settings}
use Rattle.hdfs_cluster.specs.Picture.{Picture}
use Rattle.hdfs_model.specs.Sessions.{defaults_of, world_of, world_with}
use Rattle.hdfs_cluster.specs.Shown.{Shown}
use Rattle.hdfs_cluster.specs.Sound.{IsSound}
use Rattle.hdfs_file_writer.specs.OnlyFiles.{OnlyFile}
use Rattle.hdfs_file_writer.specs.Writers as files
use Rattle.hdfs_file_writer.specs.declared.file_writer.FileWriter.{FileWriter}
use Rattle.hdfs_file_writer.proofs.Others.{carries_others}
use Rattle.hdfs_commands.specs.Acting.{world_at}
use Rattle.hdfs_commands.specs.Preparing.{Remembers}
use Rattle.hdfs_commands.specs.Session.{settings_of, writer_of, opened_of, defaults_known, HasLink, IsSized, Stands, OnlyOwnLinks, CarriesFile, Carried, CarriesOpen}
use Rattle.hdfs_commands.specs.declared.session.Session.{Session}
use Rattle.hdfs_file_writer.proofs.Links.{link_is_open}
use Rattle.hdfs_commands.proofs.Sized.{named_still, reaches_still, sized_still}

-- the link of a writer, where there is one
abbrev pub link_in : Option FileWriter → Option ℕ
link_in None = None
link_in (Some writer) = files.link_of writer

-- One call was made in the name of what writes the file at a path: it was this before it, and is that behind it. The other writers stay.
pub record OneCall (old : Shown) (session : Session) (path : List ℕ) (was now : Option FileWriter) (new : Shown) (session' : Session) : Type 0 where
  pub here : writer_of session path ≡ was
  pub writers : (other : List ℕ) → writer_of session' other ≡ cond (bytes_eq path other) now (writer_of session other)
  pub own : files.OnlyOwnLink old (link_in was) new (link_in now)

-- the link of the writer at a path is one of the session's
link_at : (session : Session) (path : List ℕ) (o : Option FileWriter) → writer_of session path ≡ o → (link : ℕ) → link_in o ≡ Some link → HasLink session link
link_at session path None here link is = absurd (cc)
link_at session path (Some writer) here link is = (path, writer, here, is)

-- it is this link, or it isn't
link_cases : (o : Option ℕ) (link : ℕ) → (o ≡ Some link) ⊎ (o ≢ Some link)
link_cases None link = inr (λ is. absurd (cc))
link_cases (Some kept) link = ⊎_elim (λ same. inl (ap Some same)) (λ apart. inr (λ is. apart (cc))) (cases_eq kept link)

-- a test goes into a choice
choice_in : (b : Bool) (x y : Option FileWriter) → is_some (cond b x y) ≡ cond b (is_some x) (is_some y)
choice_in true x y = refl
choice_in false x y = refl

module _ (old new : Shown) (session session' : Session) (path : List ℕ) (was now : Option FileWriter) (call : OneCall old session path was now new session') where
  -- a path is that of the call, or its writer stays
  pub cases_at : (other : List ℕ) → ((path ≡ other) × (writer_of session' other ≡ now)) ⊎ ((other ≢ path) × (writer_of session' other ≡ writer_of session other))
  cases_at other = by_test (bytes_eq path other) refl
    where
      by_test : (b : Bool) → bytes_eq path other ≡ b → ((path ≡ other) × (writer_of session' other ≡ now)) ⊎ ((other ≢ path) × (writer_of session' other ≡ writer_of session other))
      by_test true is = inl ((bytes_eq-Decides path other).0 is, call.writers other ∙ ap (λ (t : Bool). cond t now (writer_of session other)) is)
      by_test false is =
          inr (λ same. false≢true (sym is ∙ (bytes_eq-Decides path other).1 (sym same)), call.writers other ∙ ap (λ (t : Bool). cond t now (writer_of session other)) is)

  -- what writes the file at the path behind the call
  at_path : writer_of session' path ≡ now
  at_path = call.writers path ∙ ap (λ (t : Bool). cond t now (writer_of session path)) ((bytes_eq-Decides path path).1 refl)

  -- which paths are open behind it
  pub opened_after : (other : List ℕ) → opened_of session' other ≡ cond (bytes_eq path other) (is_some now) (opened_of session other)
  opened_after other = ap is_some (call.writers other) ∙ choice_in (bytes_eq path other) now (writer_of session other)

  -- so the link that it had was one of the session's
  had : (link : ℕ) → link_in was ≡ Some link → HasLink session link
  had link is = link_at session path was call.here link is

  -- and so is the one that it has
  has : (link : ℕ) → link_in now ≡ Some link → HasLink session' link
  has link is = link_at session' path now at_path link is

  -- a link that wasn't open, or was the writer's, isn't open, or is the writer's
  let_go : (link : ℕ) → (old.writes link ≡ None) ⊎ (link_in was ≡ Some link) → (new.writes link ≡ None) ⊎ HasLink session' link
  let_go link before = ⊎_elim (λ kept. inr (has link kept)) (λ lost. inl (call.own.none link before lost)) (link_cases (link_in now) link)

  -- of the write links only the session's own were touched
  pub links_of_one : OnlyOwnLinks old session new session'
  links_of_one = record {
    others = λ link is not_own. call.own.others link is (λ own. not_own (had link own));
    none = λ link free.
        ⊎_elim
        (λ none. let_go link (inl none))
        (λ mine. ⊎_elim
        (λ same. let_go link (inr (ap link_in (sym call.here ∙ ap (writer_of session) same.0 ∙ mine.2) ∙ mine.3)))
        (λ apart. inr (mine.0, mine.1, apart.1 ∙ mine.2, mine.3))
        (cases_at mine.0))
        free;
    fresh = λ link kept.
        ⊎_elim
        (λ same. ⊎_elim (λ before. inl (had link before)) (λ none. inr none) (call.own.fresh link (ap link_in (sym same.1 ∙ kept.2) ∙ kept.3)))
        (λ apart. inl (kept.0, kept.1, sym apart.1 ∙ kept.2, kept.3))
        (cases_at kept.0);
  }

  module _ (stands : Stands old session) where
    -- another writer keeps another link
    not_shared : (other : List ℕ) (writer : FileWriter) → other ≢ path → writer_of session other ≡ Some writer → (link : ℕ) → files.link_of writer ≡ Some link → link_in was ≡ Some link → ⊥
    not_shared other writer apart is link at own = by_writer was call.here own
      where
        by_writer : (o : Option FileWriter) → writer_of session path ≡ o → link_in o ≡ Some link → ⊥
        by_writer None here own = absurd (cc)
        by_writer (Some mine) here own = stands.apart path other mine writer here is (λ same. apart (sym same)) link own at

    -- and it is open
    open_before : (other : List ℕ) (writer : FileWriter) → writer_of session other ≡ Some writer → (link : ℕ) → files.link_of writer ≡ Some link → IsSome (old.writes link)
    open_before other writer is link at = link_is_open old writer (stands.each other writer is).0 link at

    -- so it stays
    link_stays : (other : List ℕ) (writer : FileWriter) → other ≢ path → writer_of session other ≡ Some writer → (link : ℕ) → files.link_of writer ≡ Some link → new.writes link ≡ old.writes link
    link_stays other writer apart is link at = call.own.others link (open_before other writer is link at) (λ own. not_shared other writer apart is link at own)

    -- and the writer of the call has it behind the call as little
    not_taken : (other : List ℕ) (writer : FileWriter) → other ≢ path → writer_of session other ≡ Some writer → (link : ℕ) → files.link_of writer ≡ Some link → link_in now ≡ Some link → ⊥
    not_taken other writer apart is link at kept =
        ⊎_elim
        (λ before. not_shared other writer apart is link at before)
        (λ none. false≢true (subst IsSome none (open_before other writer is link at)))
        (call.own.fresh link kept)

    module _ (beside : (writer : FileWriter) → ((link : ℕ) → files.link_of writer ≡ Some link → new.writes link ≡ old.writes link) → files.Stands old writer → files.Stands new writer) where
      -- so another writer stands
      other_stands : (other : List ℕ) (writer : FileWriter) → other ≢ path → writer_of session other ≡ Some writer → files.Stands new writer
      other_stands other writer apart is = beside writer (λ link at. link_stays other writer apart is link at) (stands.each other writer is).0

      -- the session stands behind the call, if the writer at the path does
      pub stands_after : Remembers session session'
          → ((writer : FileWriter) → now ≡ Some writer → files.Stands new writer × (files.path_of writer ≡ path) × IsSized session' writer)
          → (session'.failed ≡ false → (session.failed ≡ false) × ((writer : FileWriter) → now ≡ Some writer → files.has_failed writer ≡ false)) → Stands new session'
      stands_after remembers mine fine = record {
        limited = ap are_settings remembers.settings ∙ stands.limited;
        each = λ other writer is.
            ⊎_elim
            (λ here. (let stood = mine writer (sym here.1 ∙ is) in (stood.0, stood.1 ∙ here.0)))
            (λ apart. (let before = sym apart.1 ∙ is in (other_stands other writer apart.0 before, (stands.each other writer before).1)))
            (cases_at other);
        fine = λ not_failed other writer is.
            (let both = fine not_failed in
            ⊎_elim (λ here. both.1 writer (sym here.1 ∙ is)) (λ apart. stands.fine both.0 other writer (sym apart.1 ∙ is)) (cases_at other));
        apart = λ one two writer writer' is is' differ link at at'.
            ⊎_elim
            (λ here. ⊎_elim
            (λ there. differ (sym here.0 ∙ there.0))
            (λ apart. not_taken two writer' apart.0 (sym apart.1 ∙ is') link at' (ap link_in (sym here.1 ∙ is) ∙ at))
            (cases_at two))
            (λ apart. ⊎_elim
            (λ there. not_taken one writer apart.0 (sym apart.1 ∙ is) link at (ap link_in (sym there.1 ∙ is') ∙ at'))
            (λ apart'. stands.apart one two writer writer' (sym apart.1 ∙ is) (sym apart'.1 ∙ is') differ link at at')
            (cases_at two))
            (cases_at one);
        reaches = reaches_still session session' remembers old new call.own.later.namenodes stands.reaches;
        name = named_still session session' remembers stands.name;
        sized = λ other writer is.
            ⊎_elim
            (λ here. (mine writer (sym here.1 ∙ is)).2)
            (λ apart. sized_still session session' remembers writer writer refl (stands.sized other writer (sym apart.1 ∙ is)))
            (cases_at other);
      }

  -- over a told picture in which nothing changed but the file at the path
  module _ (p q : Picture) (told : old.picture ≡ Some p) (told' : new.picture ≡ Some q) (sound : IsSound p) (only : OnlyFile path p q)
      (state next : State) (rest : (other : List ℕ) → other ≢ path → next.files other ≡ state.files other) where
    -- the world is the same
    pub same_world : settings_of session' ≡ settings_of session → world_at session' new ≡ world_at session old
    same_world same =
        ap (λ (x : Settings). world_of x new) same
        ∙ ap (λ (d : ServerDefaults). world_with (settings_of session) d) (ap defaults_of told' ∙ only.defaults ∙ sym (ap defaults_of told))

    -- another writer carries its file
    other_carries : (other : List ℕ) (writer : FileWriter) → other ≢ path → CarriesFile p state other writer → CarriesFile q next other writer
    other_carries other writer apart c = record {
      content = c.content;
      named = rest other apart ∙ c.named;
      carries = carries_others path p q sound only other (files.tail_of writer) c.content.bytes apart c.carries;
      replication = c.replication;
      block_size = c.block_size;
    }

    -- the session carries the next state's files, if the writer at the path carries its own
    pub carried_after : defaults_known session' ≡ defaults_known session → Carried old session state → ((writer : FileWriter) → now ≡ Some writer → CarriesFile q next path writer) → Carried new session' next
    carried_after known carried mine = record {
      each = λ r is other writer at.
          (let same : q ≡ r = cc (told', is) in
          subst (λ (x : Picture). CarriesFile x next other writer) same
          (⊎_elim
          (λ here. subst (λ (x : List ℕ). CarriesFile q next x writer) here.0 (mine writer (sym here.1 ∙ at)))
          (λ apart. other_carries other writer apart.0 (carried.each p told other writer (sym apart.1 ∙ at)))
          (cases_at other)));
      defaults =
          (let kept : defaults_of old.picture ≡ defaults_of new.picture = ap defaults_of told ∙ sym only.defaults ∙ sym (ap defaults_of told') in
          subst (λ (o : Option ServerDefaults). IfSome o (λ d. d ≡ defaults_of new.picture)) (sym known)
          (subst (λ (x : ServerDefaults). IfSome (defaults_known session) (λ d. d ≡ x)) kept carried.defaults));
    }

  -- Where the writer at the path has failed by the call, or is gone, and nothing but its file changed, the others carry what they carried.
  pub others_open : ((writer : FileWriter) → now ≡ Some writer → files.has_failed writer ≡ true) → (p q : Picture) → old.picture ≡ Some p → new.picture ≡ Some q → IsSound p → OnlyFile path p q → (state : State) → Carried old session state → CarriesOpen new session' state
  others_open failed p q was is sound only state carried = record {
    each = λ x told other writer at.
        ⊎_elim
        (λ here. inl (failed writer (sym here.1 ∙ at)))
        (λ apart.
        (let same : q ≡ x = cc (is, told) in
        inr (subst (λ (y : Picture). CarriesFile y state other writer) same
        (other_carries p q was is sound only state state (λ r away. refl) other writer apart.0 (carried.each p was other writer (sym apart.1 ∙ at))))))
        (cases_at other);
  }
