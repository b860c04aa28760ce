-- What commands and lines make of the plain program's files.
use Rattle.std.proofs.Common.{◌≡◌, ℕ, Bool, true, false, cond, not, ◌||◌, List, [], ◌∷◌, ◌++◌, Option, Some, None, is_some, unwrap_or, refl, sym, ◌∙◌, ap, subst}
use Rattle.std.proofs.Math.Path.{fun_ext}
use Rattle.std.proofs.lemmas.Bool.{false≢true}
use Rattle.std.proofs.lemmas.List.Folds.{list_any-append}
use Rattle.std.proofs.lemmas.Slice.Eq.{bytes_eq-Decides}
use Rattle.std.specs.List.{list_any}
use Rattle.std.specs.Option.{option_map}
use Rattle.std.specs.Str.{bytes_eq}
use Rattle.hdfs_model.specs.declared.commands.Reply.TheVariants as replies
use Rattle.hdfs_cluster.specs.Files.{Files, Node, Dir, File, Writing, Content, State, NoFile, no_file, kind_of, kinds_of}
use Rattle.hdfs_names.specs.Paths.{ancestors}
use Rattle.hdfs_cluster.specs.Refusals.{create_refusal, append_refusal, open_refusal}
use Rattle.hdfs_model.specs.Steps.{Done, is_opened, with_writing, with_node, without, content_of, read_content, read_file, open_node, append_file, create_file}
use Rattle.hdfs_plain.specs.declared.files.PlainFiles.{PlainFiles}
use Rattle.hdfs_plain.specs.declared.files.PlainNode.{PlainNode}
use Rattle.hdfs_plain.specs.declared.files.PlainNode.TheVariants as nodes
use Rattle.hdfs_plain.specs.Plain.{node_of, files_of, look_up, has_open, Holds, Puts, with_directories}
use Rattle.hdfs_plain.proofs.Parents.{bytes_eq_flip}

-- the state's files are the plain ones
pub files_same : (plain : PlainFiles) (state : State) → Holds plain state → state.files ≡ files_of plain
files_same plain state holds = fun_ext holds.files

-- a path is in a list of which it is the first
listed_first : (path q : List ℕ) (paths : List (List ℕ)) (b : Bool) → bytes_eq path q ≡ b → (b ≡ false → list_any (bytes_eq q) paths ≡ true) → (bytes_eq q path || list_any (bytes_eq q) paths) ≡ true
listed_first path q paths true same later = ap (λ (b : Bool). b || list_any (bytes_eq q) paths) (bytes_eq_flip q path ∙ same)
listed_first path q paths false other later = ap (λ (b : Bool). b || list_any (bytes_eq q) paths) (bytes_eq_flip q path ∙ other) ∙ later refl

or_either : (a b : Bool) → (a ≡ false → b ≡ true) → (a || b) ≡ true
or_either true b later = refl
or_either false b later = later refl

-- a node is put at a path, at which something stands
pub holds_with_node : (old new : PlainFiles) (state : State) (path : List ℕ) (node : PlainNode) → Holds old state → is_some (look_up old path) ≡ true → Puts old path node new → Holds new (with_node state path (node_of node))
holds_with_node old new state path node holds there puts = record {
  files = λ q. at_test (bytes_eq path q) q ∙ ap (option_map node_of) (sym (puts.nodes q));
  listed = λ q some. holds.listed q (was (bytes_eq path q) q (bytes_eq-Decides path q).0 (subst (λ (o : Option PlainNode). is_some o ≡ true) (puts.nodes q) some));
  opened = λ q. holds.opened q ∙ ap (λ o. has_open (record old { opened = o }) q) (sym puts.opened);
}
  where
    at_test : (b : Bool) (q : List ℕ) → cond b (Some (node_of node)) (state.files q) ≡ option_map node_of (cond b (Some node) (look_up old q))
    at_test true q = refl
    at_test false q = holds.files q

    was : (b : Bool) (q : List ℕ) → (b ≡ true → path ≡ q) → is_some (cond b (Some node) (look_up old q)) ≡ true → is_some (look_up old q) ≡ true
    was true q same some = subst (λ (r : List ℕ). is_some (look_up old r) ≡ true) (same refl) there
    was false q same some = some

-- the paths but for one are the paths at another than that
any_without : (path q : List ℕ) (paths : List (List ℕ)) → list_any (bytes_eq q) (without path paths) ≡ cond (bytes_eq path q) false (list_any (bytes_eq q) paths)
any_without path q [] = by_test (bytes_eq path q)
  where
    by_test : (b : Bool) → false ≡ cond b false false
    by_test true = refl
    by_test false = refl
any_without path q (x ∷ rest) = kept (bytes_eq path x) (bytes_eq path q) refl refl (any_without path q rest)
  where
    kept : (a b : Bool) → bytes_eq path x ≡ a → bytes_eq path q ≡ b → list_any (bytes_eq q) (without path rest) ≡ cond b false (list_any (bytes_eq q) rest)
        → list_any (bytes_eq q) (cond (not a) (x ∷ without path rest) (without path rest)) ≡ cond b false (bytes_eq q x || list_any (bytes_eq q) rest)
    kept true true here there so_far = so_far
    kept true false here there so_far = so_far ∙ sym (ap (λ (b : Bool). b || list_any (bytes_eq q) rest) (apart (bytes_eq q x) (λ is. false≢true (sym there ∙ (bytes_eq-Decides path q).1 ((bytes_eq-Decides path x).0 here ∙ sym ((bytes_eq-Decides q x).0 is))))))
      where
        apart : (b : Bool) → (b ≡ true → ⊥) → b ≡ false
        apart true never = absurd (never refl)
        apart false never = refl
    kept false true here there so_far = ap (λ (b : Bool). b || list_any (bytes_eq q) (without path rest)) (apart (bytes_eq q x) (λ is. false≢true (sym here ∙ (bytes_eq-Decides path x).1 ((bytes_eq-Decides path q).0 there ∙ (bytes_eq-Decides q x).0 is)))) ∙ so_far
      where
        apart : (b : Bool) → (b ≡ true → ⊥) → b ≡ false
        apart true never = absurd (never refl)
        apart false never = refl
    kept false false here there so_far = ap (λ (b : Bool). bytes_eq q x || b) so_far

-- a file that was being written is closed
pub holds_closed : (old mid new : PlainFiles) (state : State) (path : List ℕ) (node : PlainNode) → Holds old state → is_some (look_up old path) ≡ true → Puts old path node mid → ((q : List ℕ) → look_up new q ≡ look_up mid q) → ((q : List ℕ) → has_open new q ≡ cond (bytes_eq path q) false (has_open mid q))
    → Holds new (record (with_node state path (node_of node)) { opened = without path state.opened })
holds_closed old mid new state path node holds there puts same removed =
    let put = holds_with_node old mid state path node holds there puts in
    record {
      files = λ q. put.files q ∙ ap (option_map node_of) (sym (same q));
      listed = λ q some. put.listed q (subst (λ (o : Option PlainNode). is_some o ≡ true) (same q) some);
      opened = λ q. any_without path q state.opened ∙ ap (λ (b : Bool). cond (bytes_eq path q) false b) (put.opened q) ∙ sym (removed q);
    }

-- Where something is put at a path, and directories above it, the state's paths with these have what is there.
pub listed_with_parents : (old new : PlainFiles) (state : State) (path : List ℕ) (node : PlainNode) → Holds old state
    → ((q : List ℕ) → look_up new q ≡ cond (bytes_eq path q) (Some node) (with_directories (look_up old) nodes.Dir path q))
    → (q : List ℕ) → is_some (look_up new q) ≡ true → list_any (bytes_eq q) (path ∷ (ancestors path ++ state.paths)) ≡ true
listed_with_parents old new state path node holds updates q some =
    listed_first path q (ancestors path ++ state.paths) (bytes_eq path q) refl (λ off.
    list_any-append (bytes_eq q) (ancestors path) state.paths
    ∙ or_either (list_any (bytes_eq q) (ancestors path)) (list_any (bytes_eq q) state.paths) (λ none. holds.listed q
    (was (bytes_eq path q) (list_any (bytes_eq q) (ancestors path)) off none (subst (λ (o : Option PlainNode). is_some o ≡ true) (updates q) some))))
  where
    was : (b a : Bool) → b ≡ false → a ≡ false → is_some (cond b (Some node) (cond a (Some (unwrap_or (look_up old q) nodes.Dir)) (look_up old q))) ≡ true → is_some (look_up old q) ≡ true
    was true a off none some = absurd (false≢true (sym off))
    was false true off none some = absurd (false≢true (sym none))
    was false false off none some = some

-- a file that is being written is put at a path, and directories above it
pub holds_with_writing : (old new : PlainFiles) (state : State) (path : List ℕ) (node : PlainNode) (content : Content) → Holds old state → node_of node ≡ Writing content
    → ((q : List ℕ) → look_up new q ≡ cond (bytes_eq path q) (Some node) (with_directories (look_up old) nodes.Dir path q)) → ((q : List ℕ) → has_open new q ≡ cond (bytes_eq path q) true (has_open old q)) → Holds new (with_writing state path content)
holds_with_writing old new state path node content holds is updates opens = record {
  files = λ q. ap (λ (o : Option Node). cond (bytes_eq path q) (Some (Writing content)) (cond (list_any (bytes_eq q) (ancestors path)) (Some (unwrap_or o Dir)) o)) (holds.files q)
      ∙ at_tests (bytes_eq path q) (list_any (bytes_eq q) (ancestors path)) (look_up old q) ∙ ap (option_map node_of) (sym (updates q));
  listed = listed_with_parents old new state path node holds updates;
  opened = λ q. ap (λ (b : Bool). b || is_opened state q) (bytes_eq_flip q path) ∙ or_cond (bytes_eq path q) (is_opened state q) ∙ ap (λ (b : Bool). cond (bytes_eq path q) true b) (holds.opened q) ∙ sym (opens q);
}
  where
    at_tests : (b a : Bool) (o : Option PlainNode) → cond b (Some (Writing content)) (cond a (Some (unwrap_or (option_map node_of o) Dir)) (option_map node_of o)) ≡ option_map node_of (cond b (Some node) (cond a (Some (unwrap_or o nodes.Dir)) o))
    at_tests true a o = ap Some (sym is)
    at_tests false true None = refl
    at_tests false true (Some x) = refl
    at_tests false false o = refl

    or_cond : (b a : Bool) → (b || a) ≡ cond b true a
    or_cond true a = refl
    or_cond false a = refl

pub any_last : {X : Type 0} (p : X → Bool) (xs rest : List X) (x : X) → xs ≡ rest ++ x ∷ [] → p x ≡ true → list_any p xs ≡ true
any_last p xs rest x is on = ap (list_any p) is ∙ list_any-append p rest (x ∷ []) ∙ ap (λ (b : Bool). list_any p rest || (b || false)) on ∙ or_true (list_any p rest)
  where
    or_true : (b : Bool) → (b || (true || false)) ≡ true
    or_true true = refl
    or_true false = refl

pub none_from_map : {X Y : Type 0} (f : X → Y) (o : Option X) → None ≡ option_map f o → o ≡ None
none_from_map f None is = refl
none_from_map f (Some x) is = absurd (cc)

module _ (plain : PlainFiles) (state : State) (path : List ℕ) (holds : Holds plain state) where
  -- a file that is there is read
  pub reads_file : (content : Content) (offset len : ℕ) → no_file (kinds_of (files_of plain)) path ≡ None → content_of (files_of plain path) ≡ Some content
      → read_file state path (no_file (kinds_of state.files) path) offset len ≡ read_content state (Some content) offset len
  reads_file content offset len none is =
      ap (λ (files : Files). read_file state path (no_file (kinds_of files) path) offset len) (files_same plain state holds)
      ∙ ap (λ (o : Option NoFile). read_file state path o offset len) none
      ∙ ap (λ (o : Option Node). read_content state (content_of o) offset len) (holds.files path)
      ∙ ap (λ (o : Option Content). read_content state o offset len) is

  -- a closed file is opened
  pub appends_file : (content : Content) → no_file (kinds_of (files_of plain)) path ≡ None → files_of plain path ≡ Some (File content)
      → append_file state path (append_refusal (kinds_of state.files) path) ≡ Done replies.Appended (with_writing state path content)
  appends_file content none is =
      ap (λ (files : Files). append_file state path (append_refusal (kinds_of files) path)) (files_same plain state holds)
      ∙ ap (λ (o : Option NoFile). append_file state path (open_refusal o (kinds_of (files_of plain) path))) none
      ∙ ap (λ (o : Option Node). append_file state path (open_refusal None (option_map kind_of o))) is
      ∙ ap (open_node state path) (holds.files path ∙ is)

  -- a file is created where nothing refuses it
  pub creates_file : (content : Content) (overwrite parents : Bool) → create_refusal (kinds_of (files_of plain)) path overwrite parents ≡ None
      → create_file state path content (create_refusal (kinds_of state.files) path overwrite parents) ≡ Done replies.Created (with_writing state path content)
  creates_file content overwrite parents none =
      ap (λ (files : Files). create_file state path content (create_refusal (kinds_of files) path overwrite parents)) (files_same plain state holds)
      ∙ ap (create_file state path content) none
