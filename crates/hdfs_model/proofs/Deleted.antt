-- What a deletion makes of a state, and what the step says where a namenode has deleted, has found nothing, or has refused to.
use Rattle.std.proofs.Common.{◌≡◌, ◌≢◌, ◌⊎◌, inl, inr, ⊎_elim, ℕ, ◌<◌, Bool, true, false, cond, not, ◌&&◌, ◌||◌, List, [], ◌∷◌, ◌++◌, Contains, Option, Some, None, IsSome, is_some, is_none, option_map, refl, sym, ◌∙◌, ap, subst, arith}
use Rattle.std.proofs.Math.Path.{fun_ext}
use Rattle.std.proofs.lemmas.Bool.{false≢true}
use Rattle.std.proofs.lemmas.List.Elements.{All-contains, All-contains_itself, All-head, All-tail, Contains-append_left, Contains-append_right}
use Rattle.std.proofs.lemmas.Slice.Eq.{bytes_eq-Decides}
use Rattle.std.specs.List.{All, list_any}
use Rattle.std.specs.Prelude.{slice_index_or}
use Rattle.std.specs.Str.{bytes_eq}
use Rattle.hdfs_cluster.specs.Deleting.{DeletesFrom, IsNotEmpty}
use Rattle.hdfs_cluster.specs.Files.{Directory, Files, IsState, IsTree, Kind, Node, Dir, File, Writing, NotDirectory, State, is_file, kind_of, kinds_of}
use Rattle.hdfs_cluster.specs.Listing.{IsMissing}
use Rattle.hdfs_cluster.specs.Names.{HasBelow, is_below, is_within}
use Rattle.hdfs_cluster.specs.Picture.{Picture, entry_kind, kinds_in}
use Rattle.hdfs_cluster.specs.Refusals.{Refusal, Lacks, NotEmpty, above_refusal, delete_refusal}
use Rattle.hdfs_cluster.specs.Stores.{AgreesAt}
use Rattle.hdfs_cluster.specs.declared.picture.Entry.{Entry}
use Rattle.hdfs_cluster.specs.declared.picture.Entry.TheVariants as entries
use Rattle.hdfs_names.specs.Paths.{root, is_path, above_from, ancestors}
use Rattle.hdfs_model.specs.declared.commands.Command.TheVariants as commands
use Rattle.hdfs_model.specs.declared.commands.Reply.TheVariants as replies
use Rattle.hdfs_model.specs.Steps.{World, Refused, Done, WrongState, delete_files, files_without, has_below, is_opened_within, step_at}
use Rattle.hdfs_model.proofs.Ordered.{In}
use Rattle.hdfs_model.proofs.Walking.{any_found, any_passes}
use Rattle.hdfs_model.proofs.Within.{above_outside, ancestors_below, below_cut, in_from_contains, root_outside}
use Rattle.hdfs_model.proofs.Both.{and_true, both_true}

-- what holds of each element that passes a step holds of each
pub all_through : {X : Type 0} (P Q : X → Type 0) (xs : List X) → ((x : X) → Contains xs x → P x → Q x) → All P xs → All Q xs
all_through P Q xs through all = λ k d below. through (slice_index_or xs k d) (All-contains_itself xs k d below) (all k d below)

-- the state without what stands at a path and below it
abbrev pub without_path : State → List ℕ → State
without_path state path = record state { files = files_without state.files path }

module _ (files : Files) (path : List ℕ) where
  pub kinds_without : (q : List ℕ) → kinds_of (files_without files path) q ≡ cond (is_within path q) None (kinds_of files q)
  kinds_without q = by (is_within path q)
    where
      by : (b : Bool) → option_map kind_of (cond b None (files q)) ≡ cond b None (option_map kind_of (files q))
      by true = refl
      by false = refl

  -- what is left was there, and isn't within the path
  left : (q : List ℕ) → IsSome (kinds_of (files_without files path) q) → (is_within path q ≡ false) × IsSome (kinds_of files q)
  left q some = by (is_within path q) (subst IsSome (kinds_without q) some)
    where
      by : (b : Bool) → IsSome (cond b None (kinds_of files q)) → (b ≡ false) × IsSome (kinds_of files q)
      by true some = absurd (cc (some))
      by false some = (refl, some)

  stays : (q : List ℕ) (kind : Kind) → is_within path q ≡ false → kinds_of files q ≡ Some kind → kinds_of (files_without files path) q ≡ Some kind
  stays q kind away is = kinds_without q ∙ ap (λ (b : Bool). cond b None (kinds_of files q)) away ∙ is

  -- a tree stays one
  pub tree_without : IsTree (kinds_of files) → is_path path ≡ true → path ≢ root → IsTree (kinds_of (files_without files path))
  tree_without tree is apart = record {
    root = stays root Directory (root_outside path is apart) tree.root;
    above = λ q some. (let l = left q some in
        all_through (λ a. kinds_of files a ≡ Some Directory) (λ a. kinds_of (files_without files path) a ≡ Some Directory) (ancestors q)
        (λ a there dir. stays a Directory (above_outside path q a l.0 (in_from_contains a (ancestors q) there)) dir) (tree.above q l.1));
    named = λ q some. tree.named q (left q some).1;
  }

-- and a state
pub state_without : (state : State) (path : List ℕ) → IsState state → is_path path ≡ true → path ≢ root → IsState (without_path state path)
state_without state path is_state is apart = record {
  tree = tree_without state.files path is_state.tree is apart;
  listed = λ q some. is_state.listed q (by (is_within path q) q some);
}
  where
    by : (b : Bool) (q : List ℕ) → IsSome (cond b None (state.files q)) → IsSome (state.files q)
    by true q some = absurd (cc (some))
    by false q some = some

-- the same kind of thing stands at a path
pub same_kind : (p : Picture) (entry : Option Entry) (node : Option Node) → AgreesAt p entry node → option_map entry_kind entry ≡ option_map kind_of node
same_kind p None None h = refl
same_kind p (Some entries.Dir) (Some Dir) h = refl
same_kind p (Some (entries.File file)) (Some (File content)) h = ap (λ (b : Bool). option_map entry_kind (Some (entries.File (record file { is_open = b })))) h.0
same_kind p (Some (entries.File file)) (Some (Writing content)) h = ap (λ (b : Bool). option_map entry_kind (Some (entries.File (record file { is_open = b })))) h.0
same_kind p None (Some node) h = absurd h
same_kind p (Some entries.Dir) None h = absurd h
same_kind p (Some (entries.File file)) None h = absurd h
same_kind p (Some entries.Dir) (Some (File content)) h = absurd h
same_kind p (Some entries.Dir) (Some (Writing content)) h = absurd h
same_kind p (Some (entries.File file)) (Some Dir) h = absurd h

pub there : (p : Picture) (e : Option Entry) (node : Option Node) → AgreesAt p e node → is_some node ≡ true → IsSome e
there p None None h is = absurd (false≢true is)
there p None (Some node) h is = absurd h
there p (Some e) other h is = refl

pub here : (p : Picture) (e : Option Entry) (node : Option Node) → AgreesAt p e node → IsSome e → is_some node ≡ true
here p None other h is = absurd (cc is)
here p (Some entries.Dir) None h is = absurd h
here p (Some (entries.File f)) None h is = absurd h
here p (Some e) (Some node) h is = refl

pub some_kind : (node : Option Node) → is_some node ≡ true → IsSome (option_map kind_of node)
some_kind None is = absurd (false≢true is)
some_kind (Some node) is = refl

pub is_false : (b : Bool) → (b ≡ true → ⊥) → b ≡ false
is_false true never = absurd (never refl)
is_false false never = refl

pub no_file : (kinds : List ℕ → Option Kind) (paths : List (List ℕ)) → All (λ a. kinds a ≡ Some Directory) paths → list_any (λ a. is_file (kinds a)) paths ≡ false
no_file kinds [] all = refl
no_file kinds (a ∷ paths) all =
    ap (λ (b : Bool). b || list_any (λ x. is_file (kinds x)) paths) (ap is_file (All-head (λ x. kinds x ≡ Some Directory) a paths all)) ∙ no_file kinds paths (All-tail (λ x. kinds x ≡ Some Directory) a paths all)

-- a choice of nothing
pub none_chosen : {X : Type 0} (x : X) (b : Bool) → cond b (Some x) None ≡ None → b ≡ false
none_chosen x true is = absurd (cc (is))
none_chosen x false is = refl

-- an exception of a file above refuses a deletion for that
refused_above : (b full recursive : Bool) (why : Refusal) → cond b (Some (Lacks NotDirectory)) None ≡ Some why
    → cond b (Some (Lacks NotDirectory)) (cond (full && not recursive) (Some NotEmpty) None) ≡ Some why
refused_above true full recursive why is = is
refused_above false full recursive why is = absurd (cc (is))

module _ (p : Picture) (state : State) (is_state : IsState state) (agrees : (r : List ℕ) → AgreesAt p (p.names r) (state.files r)) where
  pub kinds_same : kinds_in p.names ≡ kinds_of state.files
  kinds_same = fun_ext (λ r. same_kind p (p.names r) (state.files r) (agrees r))

  -- something stands below a path in the picture where it does in the state
  below_there : (path : List ℕ) → has_below state path ≡ true → HasBelow p.names path
  below_there path is =
      let f = any_found (λ r. is_below path r && is_some (state.files r)) state.paths is in
      let both = both_true (is_below path f.0) (is_some (state.files f.0)) f.2 in
      record { path = f.0; below = both.0; there = there p (p.names f.0) (state.files f.0) (agrees f.0) both.1 }

  below_here : (path : List ℕ) → HasBelow p.names path → has_below state path ≡ true
  below_here path has =
      let some = here p (p.names has.path) (state.files has.path) (agrees has.path) has.there in
      any_passes (λ r. is_below path r && is_some (state.files r)) state.paths has.path
      (in_from_contains has.path state.paths (is_state.listed has.path some)) (and_true (is_below path has.path) (is_some (state.files has.path)) has.below some)

  -- what something stands below is a directory, and so is what stands above it
  above_below : (path : List ℕ) → is_path path ≡ true → HasBelow p.names path
      → All (λ a. kinds_of state.files a ≡ Some Directory) (ancestors path) × (kinds_of state.files path ≡ Some Directory)
  above_below [] named has = absurd (false≢true named)
  above_below (c ∷ rest) named has =
      let cut = below_cut (c ∷ rest) has.path has.below in
      let some = some_kind (state.files has.path) (here p (p.names has.path) (state.files has.path) (agrees has.path) has.there) in
      let IsDir : List ℕ → Type 0 = λ a. kinds_of state.files a ≡ Some Directory in
      let all : All IsDir (ancestors (c ∷ rest) ++ (c ∷ rest) ∷ above_from (c ∷ rest ++ 47 ∷ []) cut.0) =
      subst (All IsDir) (ap ancestors cut.1 ∙ ancestors_below c rest cut.0) (is_state.tree.above has.path some) in (
        all_through (Contains (ancestors (c ∷ rest))) IsDir (ancestors (c ∷ rest))
            (λ a there own. All-contains IsDir (ancestors (c ∷ rest) ++ (c ∷ rest) ∷ above_from (c ∷ rest ++ 47 ∷ []) cut.0) a all
            (Contains-append_left (ancestors (c ∷ rest)) ((c ∷ rest) ∷ above_from (c ∷ rest ++ 47 ∷ []) cut.0) a there))
            (All-contains_itself (ancestors (c ∷ rest))),
        All-contains IsDir (ancestors (c ∷ rest) ++ (c ∷ rest) ∷ above_from (c ∷ rest ++ 47 ∷ []) cut.0) (c ∷ rest) all
            (Contains-append_right (ancestors (c ∷ rest)) ((c ∷ rest) ∷ above_from (c ∷ rest ++ 47 ∷ []) cut.0) (c ∷ rest) (0, omega arith, refl)),
      )

  -- nothing stands below a path at which nothing stands
  nothing_below : (path : List ℕ) → is_path path ≡ true → p.names path ≡ None → HasBelow p.names path → ⊥
  nothing_below path named none has =
      let dir = (above_below path named has).1 in
      let kind : kinds_of state.files path ≡ None = ap (λ (k : List ℕ → Option Kind). k path) (sym kinds_same) ∙ ap (option_map entry_kind) none in
      cc (dir, kind)

  module _ (path : List ℕ) (apart : path ≢ root) (closed : is_opened_within state path ≡ false) (w : World) (name : List ℕ) (recursive : Bool) where
    -- the step goes by what refuses it
    step_by : step_at w state path (commands.Delete name recursive) ≡ delete_files state path (delete_refusal (kinds_of state.files) path (has_below state path) recursive)
    step_by =
        ap (λ (b : Bool). cond (b || is_opened_within state path) (Refused WrongState) (delete_files state path (delete_refusal (kinds_of state.files) path (has_below state path) recursive)))
        (is_false (bytes_eq root path) (λ is. apart (sym ((bytes_eq-Decides root path).0 is))))
        ∙ ap (λ (b : Bool). cond b (Refused WrongState) (delete_files state path (delete_refusal (kinds_of state.files) path (has_below state path) recursive))) closed

    done_by : list_any (λ a. is_file (kinds_of state.files a)) (ancestors path) ≡ false → (has_below state path && not recursive) ≡ false
        → step_at w state path (commands.Delete name recursive) ≡ Done replies.Deleted (without_path state path)
    done_by above empty =
        step_by
        ∙ ap (λ (b : Bool). delete_files state path (cond b (Some (Lacks NotDirectory)) (cond (has_below state path && not recursive) (Some NotEmpty) None))) above
        ∙ ap (λ (b : Bool). delete_files state path (cond b (Some NotEmpty) None)) empty

    -- a namenode has deleted
    pub deletes_at : (names' : List ℕ → Option Entry) (table' : _) → DeletesFrom p.names p.table path recursive names' table'
        → step_at w state path (commands.Delete name recursive) ≡ Done replies.Deleted (without_path state path)
    deletes_at names' table' deletes =
        done_by
        (no_file (kinds_of state.files) (ancestors path) (is_state.tree.above path (some_kind (state.files path) (here p (p.names path) (state.files path) (agrees path) deletes.there))))
        (empty (has_below state path) recursive (λ is only. deletes.alone only (below_there path is)))
      where
        empty : (full r : Bool) → (full ≡ true → r ≡ false → ⊥) → (full && not r) ≡ false
        empty false r never = refl
        empty true true never = refl
        empty true false never = absurd (never refl refl)

    -- it has refused to, for a file above
    pub refused_above_at : (why : Refusal) → above_refusal (kinds_in p.names) path ≡ Some why → step_at w state path (commands.Delete name recursive) ≡ Refused why
    refused_above_at why is =
        step_by
        ∙ ap (delete_files state path)
        (refused_above (list_any (λ a. is_file (kinds_of state.files a)) (ancestors path)) (has_below state path) recursive why
        (subst (λ (k : List ℕ → Option Kind). above_refusal k path ≡ Some why) kinds_same is))

    -- the directory isn't empty, and nothing is to go with it
    pub full_at : is_path path ≡ true → IsNotEmpty p.names path recursive → step_at w state path (commands.Delete name recursive) ≡ Refused NotEmpty
    full_at named full =
        step_by
        ∙ ap (λ (b : Bool). delete_files state path (cond b (Some (Lacks NotDirectory)) (cond (has_below state path && not recursive) (Some NotEmpty) None)))
        (no_file (kinds_of state.files) (ancestors path) (above_below path named full.below).0)
        ∙ ap (λ (b : Bool). delete_files state path (cond b (Some NotEmpty) None))
        (and_true (has_below state path) (not recursive) (below_here path full.below) (ap not full.alone))

    -- nothing stands there, and no file above it
    pub missing_at : is_path path ≡ true → IsMissing p.names path → step_at w state path (commands.Delete name recursive) ≡ Done replies.Deleted (without_path state path)
    missing_at named missing =
        done_by
        (subst (λ (k : List ℕ → Option Kind). list_any (λ a. is_file (k a)) (ancestors path) ≡ false) kinds_same
        (none_chosen _ (list_any (λ a. is_file (kinds_in p.names a)) (ancestors path)) missing.1))
        (ap (λ (b : Bool). b && not recursive) (is_false (has_below state path) (λ is. nothing_below path named missing.0 (below_there path is))))

  -- then nothing is within the path, and the picture agrees with the files without it
  pub missing_agrees : (path : List ℕ) → is_path path ≡ true → p.names path ≡ None → (r : List ℕ) → AgreesAt p (p.names r) (files_without state.files path r)
  missing_agrees path named none r = by (bytes_eq path r) (is_below path r) refl refl
    where
      nothing : (e : Option Entry) → p.names r ≡ e → (IsSome e → ⊥) → AgreesAt p (p.names r) None
      nothing None is never = subst (λ (o : Option Entry). AgreesAt p o None) (sym is) tt
      nothing (Some e) is never = absurd (never refl)

      by : (a b : Bool) → bytes_eq path r ≡ a → is_below path r ≡ b → AgreesAt p (p.names r) (cond (a || b) None (state.files r))
      by true b same is = nothing (p.names r) refl (λ some. cc (some, none, ap p.names ((bytes_eq-Decides path r).0 same)))
      by false true same is = nothing (p.names r) refl (λ some. nothing_below path named none (record { path = r; below = is; there = some }))
      by false false same is = agrees r
