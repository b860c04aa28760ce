-- What commands on names make of the plain program's files.
use Rattle.std.proofs.Common.{if◌then◌else◌, ◌≡◌, inl, inr, ℕ, Bool, true, false, cond, not, ◌&&◌, ◌||◌, List, [], ◌∷◌, map, Option, Some, None, is_some, unwrap_or, refl, sym, ◌∙◌, ap, subst}
use Rattle.std.proofs.lemmas.Bool.{false≢true}
use Rattle.std.specs.List.{filter, list_any}
use Rattle.std.specs.Option.{option_map}
use Rattle.std.specs.Str.{bytes_eq}
use Rattle.std.specs.String.{string_bytes}
use Rattle.hdfs_cluster.specs.Files.{Files, Node, Dir, State, kinds_of}
use Rattle.hdfs_cluster.specs.Names.{is_below, is_within}
use Rattle.hdfs_cluster.specs.Refusals.{delete_refusal, mkdirs_refusal}
use Rattle.hdfs_model.specs.declared.commands.Reply.TheVariants as replies
use Rattle.hdfs_model.specs.Steps.{Outcome, Refused, Done, WrongState, delete_files, files_without, has_below, is_opened_within, make_directory, with_directory}
use Rattle.hdfs_names.specs.Paths.{root, ancestors}
use Rattle.hdfs_plain.specs.declared.files.PlainFiles.{PlainFiles}
use Rattle.hdfs_plain.specs.declared.files.PlainNode.{PlainNode}
use Rattle.hdfs_plain.specs.declared.files.PlainNode.TheVariants as nodes
use Rattle.hdfs_plain.specs.Plain.{Holds, files_of, has_open, has_open_within, look_up, node_of, with_directories}
use Rattle.hdfs_model.proofs.Ordered.{In}
use Rattle.hdfs_model.specs.Walks.{in_order, is_listed, walk}
use Rattle.hdfs_model.proofs.Walking.{any_from_in, any_same, in_from_any, walk_same}
use Rattle.hdfs_plain.proofs.Keyed.{among_filtered, any_map, text_among, turned}
use Rattle.hdfs_plain.proofs.Plains.{files_same, listed_with_parents}

-- a directory is put at a path, and directories above it
pub holds_with_directory : (old new : PlainFiles) (state : State) (path : List ℕ) → Holds old state
    → ((q : List ℕ) → look_up new q ≡ cond (bytes_eq path q) (Some nodes.Dir) (with_directories (look_up old) nodes.Dir path q)) → ((q : List ℕ) → has_open new q ≡ has_open old q)
    → Holds new (with_directory state path)
holds_with_directory old new state path holds updates same = record {
  files = λ q. ap (λ (o : Option Node). cond (bytes_eq path q) (Some Dir) (cond (list_any (bytes_eq q) (ancestors path)) (Some (unwrap_or o Dir)) o)) (holds.files q)
      ∙ at_tests (bytes_eq path q) (list_any (bytes_eq q) (ancestors path)) (look_up old q) ∙ ap (option_map node_of) (sym (updates q));
  listed = listed_with_parents old new state path nodes.Dir holds updates;
  opened = λ q. holds.opened q ∙ sym (same q);
}
  where
    at_tests : (b a : Bool) (o : Option PlainNode) → cond b (Some Dir) (cond a (Some (unwrap_or (option_map node_of o) Dir)) (option_map node_of o)) ≡ option_map node_of (cond b (Some nodes.Dir) (cond a (Some (unwrap_or o nodes.Dir)) o))
    at_tests true a o = refl
    at_tests false true None = refl
    at_tests false true (Some x) = refl
    at_tests false false o = refl

-- what is within a path was let go of
pub holds_without : (old new : PlainFiles) (state : State) (path : List ℕ) → Holds old state → ((q : List ℕ) → look_up new q ≡ cond (is_within path q) None (look_up old q))
    → ((q : List ℕ) → has_open new q ≡ has_open old q) → Holds new (record state { files = files_without state.files path })
holds_without old new state path holds updates same = record {
  files = λ q. at_test (is_within path q) q ∙ ap (option_map node_of) (sym (updates q));
  listed = λ q some. holds.listed q (was (is_within path q) q (subst (λ (o : Option PlainNode). is_some o ≡ true) (updates q) some));
  opened = λ q. holds.opened q ∙ sym (same q);
}
  where
    at_test : (b : Bool) (q : List ℕ) → cond b None (state.files q) ≡ option_map node_of (cond b None (look_up old q))
    at_test true q = refl
    at_test false q = holds.files q

    was : (b : Bool) (q : List ℕ) → is_some (cond b None (look_up old q)) ≡ true → is_some (look_up old q) ≡ true
    was true q some = absurd (false≢true some)
    was false q some = some

some_mapped : (o : Option PlainNode) → is_some (option_map node_of o) ≡ is_some o
some_mapped None = refl
some_mapped (Some node) = refl

and_both : (a b : Bool) → (a && b) ≡ true → (a ≡ true) × (b ≡ true)
and_both true b both = (refl, both)
and_both false b both = absurd (false≢true both)

module _ (plain : PlainFiles) (state : State) (path : List ℕ) (holds : Holds plain state) where
  -- a directory is made where nothing refuses it
  pub makes_directory : (parents : Bool) → mkdirs_refusal (kinds_of (files_of plain)) path parents ≡ None
      → make_directory state path (mkdirs_refusal (kinds_of state.files) path parents) ≡ Done replies.Made (with_directory state path)
  makes_directory parents none =
      ap (λ (files : Files). make_directory state path (mkdirs_refusal (kinds_of files) path parents)) (files_same plain state holds)
      ∙ ap (make_directory state path) none

  -- a path stands in the state where it does in the files
  stands_same : (q : List ℕ) → is_some (state.files q) ≡ is_some (look_up plain q)
  stands_same q = ap is_some (holds.files q) ∙ some_mapped (look_up plain q)

  -- the session has the same open within a path
  pub opened_same : is_opened_within state path ≡ has_open_within plain path
  opened_same =
      any_same (is_within path) state.opened (map (λ k. string_bytes k) plain.opened.keys)
      (λ q is on. in_from_any q (map (λ k. string_bytes k) plain.opened.keys) (text_among plain.opened q ∙ sym (holds.opened q) ∙ any_from_in q state.opened is))
      (λ q is on. in_from_any q state.opened (holds.opened q ∙ sym (text_among plain.opened q) ∙ any_from_in q (map (λ k. string_bytes k) plain.opened.keys) is))
      ∙ any_map (is_within path) (λ k. string_bytes k) plain.opened.keys

  -- what comes of a deletion where the path is the root, or something within it is open, and where not
  abbrev deletion : Bool → Outcome
  deletion recursive =
      if bytes_eq root path || is_opened_within state path then Refused WrongState
      else delete_files state path (delete_refusal (kinds_of state.files) path (has_below state path) recursive)

  abbrev deletes : Bool → Bool → Outcome
  deletes b recursive = cond b (Refused WrongState) (delete_files state path (delete_refusal (kinds_of state.files) path (has_below state path) recursive))

  pub keeps_root : (recursive : Bool) → bytes_eq path root ≡ true → deletion recursive ≡ Refused WrongState
  keeps_root recursive is = ap (λ (b : Bool). deletes (b || is_opened_within state path) recursive) (turned root path ∙ is)

  pub keeps_open : (recursive : Bool) → has_open_within plain path ≡ true → deletion recursive ≡ Refused WrongState
  keeps_open recursive is = ap (λ (b : Bool). deletes (bytes_eq root path || b) recursive) (opened_same ∙ is) ∙ by (bytes_eq root path)
    where
      by : (b : Bool) → deletes (b || true) recursive ≡ Refused WrongState
      by true = refl
      by false = refl

  module _ (paths : List (List ℕ)) (all : (q : List ℕ) → list_any (bytes_eq q) paths ≡ is_some (look_up plain q)) where
    stands : (q : List ℕ) → In q paths → is_some (state.files q) ≡ true
    stands q is = stands_same q ∙ sym (all q) ∙ any_from_in q paths is

    among : (q : List ℕ) → is_some (state.files q) ≡ true → In q paths
    among q some = in_from_any q paths (all q ∙ sym (stands_same q) ∙ some)

    all_stand : (p : List ℕ → Bool) (qs : List (List ℕ)) → ((q : List ℕ) → In q qs → In q paths) → filter (λ q. p q && is_some (state.files q)) qs ≡ filter p qs
    all_stand p [] within = refl
    all_stand p (q ∷ qs) within =
        ap (λ (b : Bool). cond (p q && b) (q ∷ filter (λ q. p q && is_some (state.files q)) qs) (filter (λ q. p q && is_some (state.files q)) qs)) (stands q (within q (inl refl)))
        ∙ by (p q) (all_stand p qs (λ r is. within r (inr is)))
      where
        by : (b : Bool) → filter (λ q. p q && is_some (state.files q)) qs ≡ filter p qs
            → cond (b && true) (q ∷ filter (λ q. p q && is_some (state.files q)) qs) (filter (λ q. p q && is_some (state.files q)) qs) ≡ cond b (q ∷ filter p qs) (filter p qs)
        by true rest = ap (λ (l : List (List ℕ)). q ∷ l) rest
        by false rest = rest

    -- the walk of a directory is that of the paths
    pub walks_paths : (recursive : Bool) → walk state.files state.paths path recursive ≡ in_order (filter (is_listed recursive path) paths)
    walks_paths recursive =
        walk_same state.files state.paths paths path recursive (λ q some. in_from_any q state.paths (holds.listed q (sym (stands_same q) ∙ some))) among
        ∙ ap in_order (all_stand (is_listed recursive path) paths (λ q is. is))

    -- something stands below a path where one of the paths is below it
    pub below_same : has_below state path ≡ list_any (is_below path) paths
    below_same =
        any_same (λ q. is_below path q && is_some (state.files q)) state.paths paths
        (λ q is on. among q (and_both (is_below path q) (is_some (state.files q)) on).1)
        (λ q is on. in_from_any q state.paths (holds.listed q (sym (stands_same q) ∙ (and_both (is_below path q) (is_some (state.files q)) on).1)))
        ∙ every paths (λ q is. is)
      where
        drop_test : (a b rest : Bool) → b ≡ true → ((a && b) || rest) ≡ (a || rest)
        drop_test true b rest is = ap (λ (x : Bool). x || rest) is
        drop_test false b rest is = refl

        every : (qs : List (List ℕ)) → ((q : List ℕ) → In q qs → In q paths) → list_any (λ q. is_below path q && is_some (state.files q)) qs ≡ list_any (is_below path) qs
        every [] within = refl
        every (q ∷ qs) within =
            ap (λ (b : Bool). (is_below path q && is_some (state.files q)) || b) (every qs (λ r is. within r (inr is)))
            ∙ drop_test (is_below path q) (is_some (state.files q)) (list_any (is_below path) qs) (stands q (within q (inl refl)))

    -- a deletion comes to what refuses it, and else to a state without what is within the path
    pub comes_to : (recursive : Bool) → bytes_eq path root ≡ false → has_open_within plain path ≡ false
        → deletion recursive ≡ delete_files state path (delete_refusal (kinds_of (files_of plain)) path (list_any (is_below path) paths) recursive)
    comes_to recursive other closed =
        ap (λ (b : Bool). deletes (b || is_opened_within state path) recursive) (turned root path ∙ other)
        ∙ ap (λ (b : Bool). deletes b recursive) (opened_same ∙ closed)
        ∙ ap (λ (files : Files). delete_files state path (delete_refusal (kinds_of files) path (has_below state path) recursive)) (files_same plain state holds)
        ∙ ap (λ (b : Bool). delete_files state path (delete_refusal (kinds_of (files_of plain)) path b recursive)) below_same

    -- those within the path are let go of
    pub without : (nodes' : List ℕ → Option PlainNode) → ((q : List ℕ) → nodes' q ≡ cond (list_any (bytes_eq q) (filter (is_within path) paths)) None (look_up plain q))
        → (q : List ℕ) → nodes' q ≡ cond (is_within path q) None (look_up plain q)
    without nodes' gone q =
        gone q ∙ ap (λ (b : Bool). cond b None (look_up plain q)) (among_filtered (is_within path) paths q ∙ ap (λ (b : Bool). is_within path q && b) (all q)) ∙ by (is_within path q) (look_up plain q)
      where
        by : (b : Bool) (o : Option PlainNode) → cond (b && is_some o) None o ≡ cond b None o
        by true None = refl
        by true (Some node) = refl
        by false o = refl
