-- A write and a close over a state: what the step comes to, and the next state.
use Rattle.std.proofs.Common.{◌≡◌, ℕ, Bool, true, false, not, cond, ◌||◌, List, [], ◌∷◌, ◌++◌, length, Option, Some, option_map, IsSome, refl, sym, ◌∙◌, ap, subst}
use Rattle.std.proofs.lemmas.Bool.{false≢true}
use Rattle.std.proofs.lemmas.List.Elements.{All-weaker}
use Rattle.std.proofs.lemmas.Slice.Eq.{bytes_eq-Decides}
use Rattle.std.specs.List.{list_any}
use Rattle.std.specs.Str.{bytes_eq}
use Rattle.hdfs_model.specs.declared.commands.Command.{Command}
use Rattle.hdfs_model.specs.declared.commands.Command.TheVariants as commands
use Rattle.hdfs_model.specs.declared.commands.Reply.TheVariants as replies
use Rattle.hdfs_names.specs.Paths.{root, is_path, absolute, ancestors}
use Rattle.hdfs_cluster.specs.Files.{State, Node, File, Writing, Content, Kind, Directory, OpenFile, kind_of, kinds_of, IsTree, IsState}
use Rattle.hdfs_model.specs.Steps.{World, Refused, Done, BadPath, WrongState, is_opened, with_node, write_node, close_node, without, step, step_at, target_of}

-- the state behind a write
abbrev pub written_state : State → List ℕ → Content → List ℕ → State
written_state state path content more = with_node state path (Writing (record content { bytes = content.bytes ++ more }))

-- the state behind a close
abbrev pub closed_state : State → List ℕ → Content → State
closed_state state path content = record (with_node state path (File content)) { opened = without path state.opened }

-- a command at its path is the step there
step_here : (world : World) (state : State) (command : Command) (path : List ℕ) → target_of world command ≡ path → is_path path ≡ true → step world state command ≡ step_at world state path command
step_here world state command path called is =
    ap (λ (q : List ℕ). cond (is_path q) (step_at world state q command) (Refused BadPath)) called
    ∙ ap (λ (b : Bool). cond b (step_at world state path command) (Refused BadPath)) is

module _ (world : World) (state : State) (name path : List ℕ) (content : Content) (called : absolute world.home name ≡ path) (is : is_path path ≡ true)
    (opened : is_opened state path ≡ true) (filed : state.files path ≡ Some (Writing content)) where
  -- a write to a file that the session has open is done
  pub write_is_done : (more : List ℕ) → step world state (commands.Write name more) ≡ Done (replies.Written (length more)) (written_state state path content more)
  write_is_done more =
      step_here world state (commands.Write name more) path called is
      ∙ ap (λ (b : Bool). cond b (write_node state path (state.files path) more) (Refused WrongState)) opened
      ∙ ap (λ (o : Option Node). write_node state path o more) filed

  -- and so is a close
  pub close_is_done : step world state (commands.Close name) ≡ Done replies.Closed (closed_state state path content)
  close_is_done =
      step_here world state (commands.Close name) path called is
      ∙ ap (λ (b : Bool). cond b (close_node state path (state.files path)) (Refused WrongState)) opened
      ∙ ap (λ (o : Option Node). close_node state path o) filed

-- a tree stays one where a file that is being written becomes another file
module _ (kinds kinds' : List ℕ → Option Kind) (path : List ℕ) (new : Kind) (tree : IsTree kinds) (was : kinds path ≡ Some OpenFile)
    (now : (q : List ℕ) → kinds' q ≡ cond (bytes_eq path q) (Some new) (kinds q)) where
  -- a directory isn't a file that is being written
  directory_at : (b : Bool) (q : List ℕ) → (b ≡ true → path ≡ q) → kinds q ≡ Some Directory → cond b (Some new) (kinds q) ≡ Some Directory
  directory_at true q same is = let here : kinds q ≡ Some OpenFile = ap kinds (sym (same refl)) ∙ was in absurd (cc (here, is))
  directory_at false q same is = is

  -- so it stays
  directory_stays : (q : List ℕ) → kinds q ≡ Some Directory → kinds' q ≡ Some Directory
  directory_stays q is = now q ∙ directory_at (bytes_eq path q) q (bytes_eq-Decides path q).0 is

  -- something stands at the path of such a file
  there_at : (b : Bool) (q : List ℕ) → (b ≡ true → path ≡ q) → IsSome (cond b (Some new) (kinds q)) → IsSome (kinds q)
  there_at true q same is = subst IsSome (sym (ap kinds (sym (same refl)) ∙ was)) refl
  there_at false q same is = is

  -- so what is there was there
  was_there : (q : List ℕ) → IsSome (kinds' q) → IsSome (kinds q)
  was_there q is = there_at (bytes_eq path q) q (bytes_eq-Decides path q).0 (subst IsSome (now q) is)

  -- so the tree stays one
  pub tree_at : IsTree kinds'
  tree_at = record {
    root = directory_stays root tree.root;
    above = λ q is. All-weaker (λ a. kinds a ≡ Some Directory) (λ a. kinds' a ≡ Some Directory) directory_stays (ancestors q) (tree.above q (was_there q is));
    named = λ q is. tree.named q (was_there q is);
  }

module _ (state : State) (path : List ℕ) (content : Content) (node : Node) (is : IsState state) (filed : state.files path ≡ Some (Writing content)) where
  -- the kind of what stands at a path behind it
  kind_at : (b : Bool) (q : List ℕ) → option_map kind_of (cond b (Some node) (state.files q)) ≡ cond b (Some (kind_of node)) (kinds_of state.files q)
  kind_at true q = refl
  kind_at false q = refl

  -- at which something stood before
  some_at : (b : Bool) (q : List ℕ) → (b ≡ true → path ≡ q) → IsSome (cond b (Some node) (state.files q)) → IsSome (state.files q)
  some_at true q same there = subst IsSome (sym (ap state.files (sym (same refl)) ∙ filed)) refl
  some_at false q same there = there

  -- the state stays one where a file that is being written becomes another file
  pub state_with_node : (opened : List (List ℕ)) → IsState (record (with_node state path node) { opened = opened })
  state_with_node opened = record {
    tree = tree_at (kinds_of state.files) (kinds_of (with_node state path node).files) path (kind_of node) is.tree (ap (option_map kind_of) filed) (λ q. kind_at (bytes_eq path q) q);
    listed = λ q there. is.listed q (some_at (bytes_eq path q) q (bytes_eq-Decides path q).0 there);
  }

-- a path that is taken out of a list isn't in it, and the others stay
choice_of : (b : Bool) → false ≡ cond b false false
choice_of true = refl
choice_of false = refl

-- the tests of a path that is taken out, by cases
without_tests : (a b c w r : Bool) → (a ≡ true → b ≡ true → c ≡ true) → (b ≡ true → c ≡ true → a ≡ true) → w ≡ cond c false r → cond (not a) (b || w) w ≡ cond c false (b || r)
without_tests true true true w r f g rest = rest
without_tests true true false w r f g rest = absurd (false≢true (f refl refl))
without_tests true false c w r f g rest = rest
without_tests false true true w r f g rest = absurd (false≢true (g refl refl))
without_tests false true false w r f g rest = refl
without_tests false false c w r f g rest = rest

-- a test of any of a list goes into a choice
any_in : (f : List ℕ → Bool) (b : Bool) (x : List ℕ) (xs : List (List ℕ)) → list_any f (cond b (x ∷ xs) xs) ≡ cond b (f x || list_any f xs) (list_any f xs)
any_in f true x xs = refl
any_in f false x xs = refl

-- whether a path is in the list behind that
pub without_any : (path q : List ℕ) (xs : List (List ℕ)) → list_any (bytes_eq q) (without path xs) ≡ cond (bytes_eq path q) false (list_any (bytes_eq q) xs)
without_any path q [] = choice_of (bytes_eq path q)
without_any path q (x ∷ xs) =
    any_in (bytes_eq q) (not (bytes_eq path x)) x (without path xs)
    ∙ without_tests (bytes_eq path x) (bytes_eq q x) (bytes_eq path q) (list_any (bytes_eq q) (without path xs)) (list_any (bytes_eq q) xs)
    (λ a b. (bytes_eq-Decides path q).1 ((bytes_eq-Decides path x).0 a ∙ sym ((bytes_eq-Decides q x).0 b)))
    (λ b c. (bytes_eq-Decides path x).1 ((bytes_eq-Decides path q).0 c ∙ (bytes_eq-Decides q x).0 b))
    (without_any path q xs)
