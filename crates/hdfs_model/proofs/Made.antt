-- What a new directory makes of a state, that a picture agrees with it then, and what the step says where a namenode has made it.
use Rattle.std.proofs.Common.{◌≡◌, ◌⊎◌, ℕ, suc, Bool, true, false, cond, not, ◌&&◌, List, [], ◌∷◌, ◌++◌, length, take, drop, Contains, Option, Some, None, IsSome, is_none, option_map, unwrap_or, refl, sym, ◌∙◌, ap, subst, arith}
use Rattle.std.proofs.lemmas.List.Elements.{Contains-append_left, Contains-append_right}
use Rattle.std.proofs.lemmas.Slice.Eq.{bytes_eq-Decides}
use Rattle.std.specs.List.{list_any}
use Rattle.std.specs.Prelude.{slice_index_or}
use Rattle.std.specs.Str.{bytes_eq}
use Rattle.hdfs_cluster.specs.Files.{Directory, Files, IsState, IsTree, Kind, Node, Dir, File, Writing, NotDirectory, Missing, State, is_file, kind_of, kinds_of}
use Rattle.hdfs_cluster.specs.Picture.{Picture}
use Rattle.hdfs_cluster.specs.Refusals.{Refusal, Exists, Lacks, mkdirs_refusal, with_parents}
use Rattle.hdfs_cluster.specs.Stores.{AgreesAt, StoresBlock, StoresBlocks}
use Rattle.hdfs_cluster.specs.declared.picture.BlockEntry.{BlockEntry}
use Rattle.hdfs_cluster.specs.declared.picture.Entry.{Entry}
use Rattle.hdfs_cluster.specs.declared.picture.Entry.TheVariants as entries
use Rattle.hdfs_names.specs.Paths.{is_path, ancestors, parent_of}
use Rattle.hdfs_model.specs.declared.commands.Command.TheVariants as commands
use Rattle.hdfs_model.specs.declared.commands.Reply.TheVariants as replies
use Rattle.hdfs_model.specs.Steps.{World, Refused, Done, WrongState, is_opened, make_directory, step_at, with_directory}
use Rattle.hdfs_model.proofs.Planted.{any_contains, kind_clear, none_is_file, tree_with_new}

-- where nothing refuses a directory no file is above it
clear_by : (there above missing : Bool) → cond there (Some Exists) (cond above (Some (Lacks NotDirectory)) (cond missing (Some (Lacks Missing)) None)) ≡ None → above ≡ false
clear_by true above missing is = absurd (cc (is))
clear_by false true missing is = absurd (cc (is))
clear_by false false missing is = refl

module _ (state : State) (path : List ℕ) where
  kind_at : (b a : Bool) (o : Option Node) → option_map kind_of (cond b (Some Dir) (cond a (Some (unwrap_or o Dir)) o)) ≡ cond b (Some Directory) (cond a (Some (unwrap_or (option_map kind_of o) Directory)) (option_map kind_of o))
  kind_at true a o = refl
  kind_at false true None = refl
  kind_at false true (Some node) = refl
  kind_at false false o = refl

  listed_at : (r : List ℕ) (b a : Bool) → (b ≡ true → path ≡ r) → (a ≡ true → Contains (ancestors path) r) → (IsSome (state.files r) → Contains state.paths r)
      → IsSome (cond b (Some Dir) (cond a (Some (unwrap_or (state.files r) Dir)) (state.files r))) → Contains (path ∷ (ancestors path ++ state.paths)) r
  listed_at r true a same above old there = (0, omega arith, same refl)
  listed_at r false true same above old there = later (Contains-append_left (ancestors path) state.paths r (above refl))
    where
      later : Contains (ancestors path ++ state.paths) r → Contains (path ∷ (ancestors path ++ state.paths)) r
      later h = (suc h.0, omega (arith, h.1), h.2)
  listed_at r false false same above old there = later (Contains-append_right (ancestors path) state.paths r (old there))
    where
      later : Contains (ancestors path ++ state.paths) r → Contains (path ∷ (ancestors path ++ state.paths)) r
      later h = (suc h.0, omega (arith, h.1), h.2)

  -- it is a state
  pub state_with_directory : (parents : Bool) → IsState state → is_path path ≡ true → mkdirs_refusal (kinds_of state.files) path parents ≡ None → IsState (with_directory state path)
  state_with_directory parents is named none = record {
    tree = tree_with_new (kinds_of state.files) (kinds_of (with_directory state path).files) path Directory is.tree named
        (λ a there. kind_clear (kinds_of state.files a) (none_is_file (kinds_of state.files) (ancestors path) a
        (clear_by (is_file (kinds_of state.files path)) (list_any (λ p. is_file (kinds_of state.files p)) (ancestors path)) (not parents && is_none (kinds_of state.files (parent_of path))) none) there))
        (λ same. refl)
        (λ r. kind_at (bytes_eq path r) (list_any (bytes_eq r) (ancestors path)) (state.files r));
    listed = λ r there. listed_at r (bytes_eq path r) (list_any (bytes_eq r) (ancestors path)) (bytes_eq-Decides path r).0 (any_contains (ancestors path) r) (is.listed r) there;
  }

  -- the step makes it where nothing refuses it
  pub makes_at : (w : World) (name : List ℕ) (permission : ℕ) (parents : Bool) → is_opened state path ≡ false → mkdirs_refusal (kinds_of state.files) path parents ≡ None
      → step_at w state path (commands.Mkdirs name permission parents) ≡ Done replies.Made (with_directory state path)
  makes_at w name permission parents closed none =
      ap (λ (b : Bool). cond b (Refused WrongState) (make_directory state path (mkdirs_refusal (kinds_of state.files) path parents))) closed
      ∙ ap (make_directory state path) none

  pub refuses_at : (w : World) (name : List ℕ) (permission : ℕ) (parents : Bool) (why : Refusal) → is_opened state path ≡ false → mkdirs_refusal (kinds_of state.files) path parents ≡ Some why
      → step_at w state path (commands.Mkdirs name permission parents) ≡ Refused why
  refuses_at w name permission parents why closed some =
      ap (λ (b : Bool). cond b (Refused WrongState) (make_directory state path (mkdirs_refusal (kinds_of state.files) path parents))) closed
      ∙ ap (make_directory state path) some

-- what agrees at a path agrees where the table stays, and what datanodes hold
module _ (p q : Picture) (table : (id : ℕ) → q.table id ≡ p.table id) (held : (node : List ℕ) (id : ℕ) → q.held node id ≡ p.held node id) where
  block_stays : (id : ℕ) (entry : BlockEntry) (bytes : List ℕ) → StoresBlock p id entry bytes → StoresBlock q id entry bytes
  block_stays id entry bytes s = record {
    length = s.length;
    prefixes = λ k d lt. subst (λ (b : List ℕ). b ≡ take (length b) bytes) (sym (held (slice_index_or entry.nodes k d) id)) (s.prefixes k d lt);
    whole = (s.whole.0, s.whole.1, s.whole.2, s.whole.3, held s.whole.1 id ∙ s.whole.4);
  }

  stores_still : (ids bytes : List ℕ) → StoresBlocks p ids bytes → StoresBlocks q ids bytes
  stores_still [] bytes s = s
  stores_still (id ∷ ids) bytes s = (s.0, table id ∙ s.1, s.2, block_stays id s.0 (take s.0.length bytes) s.3, stores_still ids (drop s.0.length bytes) s.4)

  pub agrees_still : (e : Option Entry) (node : Option Node) → AgreesAt p e node → AgreesAt q e node
  agrees_still None None h = tt
  agrees_still None (Some node) h = absurd h
  agrees_still (Some entries.Dir) None h = absurd h
  agrees_still (Some entries.Dir) (Some Dir) h = tt
  agrees_still (Some entries.Dir) (Some (File c)) h = absurd h
  agrees_still (Some entries.Dir) (Some (Writing c)) h = absurd h
  agrees_still (Some (entries.File f)) None h = absurd h
  agrees_still (Some (entries.File f)) (Some Dir) h = absurd h
  agrees_still (Some (entries.File f)) (Some (File c)) h = (h.0, h.1, stores_still f.blocks c.bytes h.2)
  agrees_still (Some (entries.File f)) (Some (Writing c)) h = h

  none_of : (e : Entry) → AgreesAt q (Some e) None → ⊥
  none_of entries.Dir h = h
  none_of (entries.File f) h = h

  or_dir : (e : Option Entry) (n : Option Node) → AgreesAt q e n → AgreesAt q (Some (unwrap_or e entries.Dir)) (Some (unwrap_or n Dir))
  or_dir None None h = tt
  or_dir None (Some n) h = absurd h
  or_dir (Some e) None h = absurd (none_of e h)
  or_dir (Some e) (Some n) h = h

  -- a directory was made at a path, and above it
  pub made_agrees : (files : Files) (path : List ℕ) → ((r : List ℕ) → AgreesAt p (p.names r) (files r)) → ((r : List ℕ) → q.names r ≡ with_parents p.names entries.Dir path entries.Dir r)
      → (r : List ℕ) → AgreesAt q (q.names r) (with_parents files Dir path Dir r)
  made_agrees files path agrees now r =
      subst (λ (e : Option Entry). AgreesAt q e (with_parents files Dir path Dir r)) (sym (now r))
      (at_tests (bytes_eq path r) (list_any (bytes_eq r) (ancestors path)) (p.names r) (files r) (agrees_still (p.names r) (files r) (agrees r)))
    where
      at_tests : (b a : Bool) (e : Option Entry) (n : Option Node) → AgreesAt q e n
          → AgreesAt q (cond b (Some entries.Dir) (cond a (Some (unwrap_or e entries.Dir)) e)) (cond b (Some Dir) (cond a (Some (unwrap_or n Dir)) n))
      at_tests true a e n h = tt
      at_tests false true e n h = or_dir e n h
      at_tests false false e n h = h
