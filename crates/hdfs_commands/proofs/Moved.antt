-- A session whose cluster has gone on, but for its write links, and one that has a writer more.
use Rattle.std.proofs.Common.{◌≡◌, ◌≢◌, ◌⊎◌, inl, inr, ⊎_elim, ℕ, Bool, true, false, cond, List, Option, Some, None, is_some, refl, sym, ◌∙◌, ap, subst}
use Rattle.std.proofs.lemmas.Bool.{false≢true}
use Rattle.std.proofs.lemmas.Slice.Eq.{bytes_eq-Decides}
use Rattle.std.proofs.lemmas.Map.Text.{text_cmp}
use Rattle.std.specs.BTreeMap.{BTreeMap, get_by_text, is_at}
use Rattle.std.specs.Map.{lookup, update}
use Rattle.std.specs.Prelude.{String}
use Rattle.std.specs.Str.{bytes_eq}
use Rattle.hdfs_model.specs.Limits.{are_settings}
use Rattle.hdfs_cluster.specs.Shown.{Shown}
use Rattle.hdfs_file_writer.specs.Writers as files
use Rattle.hdfs_file_writer.specs.declared.file_writer.FileWriter.{FileWriter}
use Rattle.hdfs_commands.specs.Preparing.{Remembers}
use Rattle.hdfs_commands.specs.Session.{HasLink, IsSized, OnlyOwnLinks, Stands, writer_of, opened_of}
use Rattle.hdfs_commands.specs.declared.session.Session.{Session}
use Rattle.hdfs_commands.proofs.Sized.{named_still, reaches_still, sized_still}
use Rattle.hdfs_file_writer.proofs.Others.{stands_beside}

module _ (old new : Shown) (same : (link : ℕ) → new.writes link ≡ old.writes link) where
  module _ (session session' : Session) (writers_same : (path : List ℕ) → writer_of session' path ≡ writer_of session path) where
    -- a session with the same writers stands as it stood
    pub session_moved : new.namenodes ≡ old.namenodes → Remembers session session' → (session'.failed ≡ false → session.failed ≡ false) → Stands old session
        → Stands new session'
    session_moved count remembers fine stands = record {
      limited = ap are_settings remembers.settings ∙ stands.limited;
      each = λ path writer is. (let h = stands.each path writer (sym (writers_same path) ∙ is) in (stands_beside old new writer (λ link has. same link) h.0, h.1));
      fine = λ failed path writer is. stands.fine (fine failed) path writer (sym (writers_same path) ∙ is);
      apart = λ path other writer writer' is is'. stands.apart path other writer writer' (sym (writers_same path) ∙ is) (sym (writers_same other) ∙ is');
      reaches = reaches_still session session' remembers old new count stands.reaches;
      name = named_still session session' remembers stands.name;
      sized = λ path writer is.
          sized_still session session' remembers writer writer refl (stands.sized path writer (sym (writers_same path) ∙ is));
    }

    link_before : (link : ℕ) → HasLink session' link → HasLink session link
    link_before link h = (h.0, h.1, sym (writers_same h.0) ∙ h.2, h.3)

    link_after : (link : ℕ) → HasLink session link → HasLink session' link
    link_after link h = (h.0, h.1, writers_same h.0 ∙ h.2, h.3)

    -- and no link was touched
    pub links_moved : OnlyOwnLinks old session new session'
    links_moved = record {
      others = λ link some away. same link;
      none = λ link. ⊎_elim (λ none. inl (same link ∙ none)) (λ own. inr (link_after link own));
      fresh = λ link own. inl (link_before link own);
    }

-- A session has one writer more, at a path that it hadn't open; it remembers what it is run with, and no command has failed.
pub record HasMore (session session' : Session) (path : List ℕ) (writer : FileWriter) : Type 0 where
  pub remembers : Remembers session session'
  pub fine : session.failed ≡ false
  pub free : opened_of session path ≡ false
  pub put : (r : List ℕ) → writer_of session' r ≡ cond (bytes_eq path r) (Some writer) (writer_of session r)

-- at a path: the new writer, or what was there
put_cases : (session session' : Session) (path : List ℕ) (writer : FileWriter) → HasMore session session' path writer → (r : List ℕ)
    → ((path ≡ r) × (writer_of session' r ≡ Some writer)) ⊎ ((r ≢ path) × (writer_of session' r ≡ writer_of session r))
put_cases session session' path writer more r = by_test (bytes_eq path r) (bytes_eq-Decides path r).0 (bytes_eq-Decides path r).1 (more.put r)
  where
    by_test : (b : Bool) → (b ≡ true → path ≡ r) → (path ≡ r → b ≡ true) → writer_of session' r ≡ cond b (Some writer) (writer_of session r)
        → ((path ≡ r) × (writer_of session' r ≡ Some writer)) ⊎ ((r ≢ path) × (writer_of session' r ≡ writer_of session r))
    by_test true there back is = inl (there refl, is)
    by_test false there back is = inr (λ same. false≢true (back (sym same)), is)

-- an option that has no value is none
pub none_from : (o : Option FileWriter) → is_some o ≡ false → o ≡ None
none_from None is = refl
none_from (Some writer) is = absurd (false≢true (sym is))

module _ (shown : Shown) (session session' : Session) (path : List ℕ) (writer : FileWriter) (more : HasMore session session' path writer) where
  cases : (r : List ℕ) → ((path ≡ r) × (writer_of session' r ≡ Some writer)) ⊎ ((r ≢ path) × (writer_of session' r ≡ writer_of session r))
  cases = put_cases session session' path writer more

  -- a writer of the session: the new one, or one that it had elsewhere
  pub writer_cases : (r : List ℕ) (other : FileWriter) → writer_of session' r ≡ Some other → ((path ≡ r) × (writer ≡ other)) ⊎ ((r ≢ path) × (writer_of session r ≡ Some other))
  writer_cases r other is = ⊎_elim
      (λ here. inl (here.0, (let same : writer ≡ other = cc (here.1, is) in same)))
      (λ away. inr (away.0, sym away.1 ∙ is))
      (cases r)

  -- what it had it has
  pub writer_kept : (r : List ℕ) (other : FileWriter) → writer_of session r ≡ Some other → (r ≢ path) × (writer_of session' r ≡ Some other)
  writer_kept r other is = ⊎_elim
      (λ here. absurd (false≢true (sym more.free ∙ ap is_some (ap (writer_of session) here.0 ∙ is))))
      (λ away. (away.0, away.1 ∙ is))
      (cases r)

  module _ (linkless : files.link_of writer ≡ None) where
    no_link : (other : FileWriter) (link : ℕ) → writer ≡ other → files.link_of other ≡ Some link → ⊥
    no_link other link same is = let l : files.link_of writer ≡ Some link = ap files.link_of same ∙ is in absurd (cc (linkless, l))

    -- the session stands, where the new writer does, which keeps no link
    pub session_with : Stands shown session → files.Stands shown writer → files.path_of writer ≡ path → files.has_failed writer ≡ false
        → IsSized session' writer → Stands shown session'
    session_with stands own at fine sized = record {
      limited = ap are_settings more.remembers.settings ∙ stands.limited;
      each = λ r other is. ⊎_elim
          (λ here. (subst (files.Stands shown) here.1 own, ap files.path_of (sym here.1) ∙ at ∙ here.0))
          (λ away. stands.each r other away.1)
          (writer_cases r other is);
      fine = λ failed r other is. ⊎_elim
          (λ here. ap files.has_failed (sym here.1) ∙ fine)
          (λ away. stands.fine more.fine r other away.1)
          (writer_cases r other is);
      apart = λ r q one two is is' apart link a b. ⊎_elim
          (λ here. no_link one link here.1 a)
          (λ away. ⊎_elim (λ here. no_link two link here.1 b) (λ off. stands.apart r q one two away.1 off.1 apart link a b) (writer_cases q two is'))
          (writer_cases r one is);
      reaches = reaches_still session session' more.remembers shown shown refl stands.reaches;
      name = named_still session session' more.remembers stands.name;
      sized = λ r other is. ⊎_elim
          (λ here. subst (λ (x : FileWriter). IsSized session' x) here.1 sized)
          (λ away. sized_still session session' more.remembers other other refl (stands.sized r other away.1))
          (writer_cases r other is);
    }

    had_link : (link : ℕ) → HasLink session' link → HasLink session link
    had_link link h = ⊎_elim (λ here. absurd (no_link h.1 link here.1 h.3)) (λ away. (h.0, h.1, away.1, h.3)) (writer_cases h.0 h.1 h.2)

    has_link : (link : ℕ) → HasLink session link → HasLink session' link
    has_link link h = (h.0, h.1, (writer_kept h.0 h.1 h.2).1, h.3)

    -- no link was touched
    pub links_with : (old : Shown) → ((link : ℕ) → shown.writes link ≡ old.writes link) → OnlyOwnLinks old session shown session'
    links_with old same = record {
      others = λ link some away. same link;
      none = λ link. ⊎_elim (λ none. inl (same link ∙ none)) (λ own. inr (has_link link own));
      fresh = λ link own. inl (had_link link own);
    }

-- what a map of writers has once one was put at a path
pub put_by : {Y : Type 0} (m n before : BTreeMap (String Y) FileWriter) (bytes path : List ℕ) (writer : FileWriter) → m ≡ before → bytes ≡ path
    → ((r : List ℕ) → get_by_text n r ≡ update bytes_eq (get_by_text m) bytes (Some writer) r) → (r : List ℕ) → get_by_text n r ≡ cond (bytes_eq path r) (Some writer) (get_by_text before r)
put_by m n before bytes path writer same at put r =
    put r ∙ ap (λ (k : List ℕ). cond (bytes_eq k r) (Some writer) (get_by_text m r)) at ∙ ap (λ o. cond (bytes_eq path r) (Some writer) (get_by_text o r)) same

-- a map with the same entries has the same writers
pub kept_by : {Y : Type 0} (m n : BTreeMap (String Y) FileWriter) → n.entries ≡ m.entries → (r : List ℕ) → get_by_text n r ≡ get_by_text m r
kept_by m n same r = ap (λ es. lookup (is_at (text_cmp r)) es) same
