-- What a step says of a path, over a picture that agrees with the files.
use Rattle.std.proofs.Common.{◌≡◌, ℕ, ◌+◌, ◌<◌, ◌≤◌, nat_lt, Bool, true, false, cond, ◌||◌, List, [], ◌∷◌, length, drop, Option, Some, None, is_some, option_map, refl, sym, ◌∙◌, ap, subst, arith}
use Rattle.std.specs.List.{list_any}
use Rattle.std.proofs.lemmas.Bool.Decides.{nat_tests}
use Rattle.std.proofs.lemmas.List.{length-drop}
use Rattle.hdfs_cluster.specs.declared.attributes.Attributes.{Attributes}
use Rattle.hdfs_cluster.specs.declared.picture.Entry.{Entry}
use Rattle.hdfs_cluster.specs.declared.picture.Entry.TheVariants as entries
use Rattle.hdfs_cluster.specs.declared.picture.BlockEntry.{BlockEntry}
use Rattle.hdfs_cluster.specs.declared.picture.FileEntry.{FileEntry}
use Rattle.hdfs_cluster.specs.declared.messages.LocatedBlock.{LocatedBlock}
use Rattle.hdfs_cluster.specs.declared.messages.LocatedBlocks.{LocatedBlocks}
use Rattle.hdfs_model.specs.declared.commands.Command.TheVariants as commands
use Rattle.hdfs_model.specs.declared.commands.Reply.TheVariants as replies
use Rattle.hdfs_names.specs.Paths.{is_path, ancestors, absolute}
use Rattle.hdfs_cluster.specs.Files.{Node, Dir, File, Writing, Content, Kind, ClosedFile, OpenFile, State, NoFile, NotDirectory, kinds_of, kind_of, no_file, no_file_at, is_file}
use Rattle.hdfs_cluster.specs.Reading.{range_of}
use Rattle.hdfs_model.specs.Steps.{World, Outcome, Refused, Done, WrongState, Lacks, BadRange, BadPath, content_of, is_opened, read_content, read_file, step_at, step}
use Rattle.hdfs_cluster.specs.Picture.{Picture, kinds, entry_kind}
use Rattle.hdfs_cluster.specs.Namenode.{Locates, LocatesBlocks}
use Rattle.hdfs_cluster.specs.Shown.{Shown}
use Rattle.hdfs_cluster.specs.Stores.{AgreesAt, StoresBlocks}
use Rattle.hdfs_commands.specs.Meeting.{Meets}
use Rattle.hdfs_file_reader.specs.Looking.{IsClosed}
use Rattle.hdfs_commands.proofs.Agreeing.{agrees_told}

-- The same kind of thing stands at a path in the picture and in the files.
same_kind : (p : Picture) (entry : Option Entry) (node : Option Node) → AgreesAt p entry node → option_map entry_kind entry ≡ option_map kind_of node
same_kind p None None h = refl
same_kind p (Some entries.Dir) (Some Dir) h = refl
same_kind p (Some (entries.File file)) (Some (File content)) h = ap (λ (b : Bool). Some (cond b OpenFile ClosedFile)) h.0
same_kind p (Some (entries.File file)) (Some (Writing content)) h = ap (λ (b : Bool). Some (cond b OpenFile ClosedFile)) h.0
same_kind p None (Some node) h = absurd h
same_kind p (Some entry) None h = absurd h
same_kind p (Some entries.Dir) (Some (File content)) h = absurd h
same_kind p (Some entries.Dir) (Some (Writing content)) h = absurd h
same_kind p (Some (entries.File file)) (Some Dir) h = absurd h

any_same : (f g : List ℕ → Bool) (xs : List (List ℕ)) → ((x : List ℕ) → f x ≡ g x) → list_any f xs ≡ list_any g xs
any_same f g [] same = refl
any_same f g (x ∷ xs) same = ap (λ (b : Bool). b || list_any f xs) (same x) ∙ ap (λ (b : Bool). g x || b) (any_same f g xs same)

-- So the same is missing in both.
same_no_file : (f g : List ℕ → Option Kind) (path : List ℕ) → ((q : List ℕ) → f q ≡ g q) → no_file f path ≡ no_file g path
same_no_file f g path same =
    ap (λ (b : Bool). cond b (Some NotDirectory) (no_file_at (f path))) (any_same (λ a. is_file (f a)) (λ a. is_file (g a)) (ancestors path) (λ a. ap is_file (same a)))
    ∙ ap (λ (k : Option Kind). cond (list_any (λ a. is_file (g a)) (ancestors path)) (Some NotDirectory) (no_file_at k)) (same path)

not_below : (a b : ℕ) → b ≤ a → nat_lt a b ≡ false
not_below a b le = grind (arith, nat_tests)

is_below : (a b : ℕ) → a < b → nat_lt a b ≡ true
is_below a b lt = grind (arith, nat_tests)

-- what stands at a path that an answer locates
pub record Found (p : Picture) (state : State) (path : List ℕ) (found : LocatedBlocks) : Type 0 where
  pub file : FileEntry
  pub content : Content
  pub named : p.names path ≡ Some (entries.File file)
  pub filed : state.files path ≡ Some (File content)
  pub located : LocatesBlocks p.table 0 found.file_length file.blocks found.blocks
  pub stored : StoresBlocks p file.blocks content.bytes
  pub long : found.file_length ≡ length content.bytes
  pub encryption : is_some found.encryption ≡ content.attributes.encrypted

node_is_file : (p : Picture) (file : FileEntry) (node : Option Node) → ((content : Content) → node ≡ Some (Writing content) → ⊥) → AgreesAt p (Some (entries.File file)) node
    → (content : Content) × (node ≡ Some (File content)) × StoresBlocks p file.blocks content.bytes × (file.attributes ≡ content.attributes)
node_is_file p file None closed h = absurd h
node_is_file p file (Some Dir) closed h = absurd h
node_is_file p file (Some (Writing content)) closed h = absurd (closed content refl)
node_is_file p file (Some (File content)) closed h = (content, refl, h.2, h.1)

total_is : (p : Picture) (at total : ℕ) (ids : List ℕ) (blocks : List LocatedBlock) (bytes : List ℕ) → LocatesBlocks p.table at total ids blocks → StoresBlocks p ids bytes → total ≡ at + length bytes
total_is p at total [] [] bytes located stored = omega (arith, located, ap length stored)
total_is p at total (id ∷ ids) (b ∷ blocks) bytes located stored =
    let same : stored.0 ≡ located.0.0 = cc (stored.1, located.0.1) in
    let num : b.b.num_bytes ≡ stored.0.length = located.0.2.length ∙ sym (ap (λ (e : BlockEntry). e.length) same) in
    let rest = total_is p (at + b.b.num_bytes) total ids blocks (drop stored.0.length bytes) located.1 stored.4 in
    omega (arith, rest, length-drop stored.0.length bytes, stored.2, num)
total_is p at total [] (b ∷ blocks) bytes located stored = absurd located
total_is p at total (id ∷ ids) [] bytes located stored = absurd located

no_opened : (state : State) (path : List ℕ) (o : Outcome) → is_opened state path ≡ false → cond (is_opened state path) (Refused WrongState) o ≡ o
no_opened state path o none = ap (λ (b : Bool). cond b (Refused WrongState) o) none

-- A step at a path is the step of a command whose name stands for that path.
pub step_is : (w : World) (state : State) (name path : List ℕ) (offset len : ℕ) → absolute w.home name ≡ path → is_path path ≡ true
    → step w state (commands.Read name offset len) ≡ step_at w state path (commands.Read name offset len)
step_is w state name path offset len called is =
    ap (λ (q : List ℕ). cond (is_path q) (step_at w state q (commands.Read name offset len)) (Refused BadPath)) called
    ∙ ap (λ (b : Bool). cond b (step_at w state path (commands.Read name offset len)) (Refused BadPath)) is

module _ (w : World) (s : Shown) (state : State) (name path : List ℕ) (meets : Meets w s state name path) (p : Picture) (told : s.picture ≡ Some p) where
  kinds_same : (q : List ℕ) → kinds p q ≡ kinds_of state.files q
  kinds_same q = same_kind p (p.names q) (state.files q) (agrees_told s.picture p state.files meets.agrees told q)

  -- nobody writes the file
  pub is_closed : IsClosed p path
  is_closed writing = at_node (state.files path) (sym (kinds_same path) ∙ writing) meets.closed
    where
      at_node : (node : Option Node) → option_map kind_of node ≡ Some OpenFile → ((content : Content) → node ≡ Some (Writing content) → ⊥) → ⊥
      at_node None is closed = absurd (cc)
      at_node (Some Dir) is closed = absurd (cc)
      at_node (Some (File content)) is closed = absurd (cc)
      at_node (Some (Writing content)) is closed = closed content refl

  -- a path that lacks a file is refused for that
  pub refused_read : (offset len : ℕ) (why : NoFile) → no_file (kinds p) path ≡ Some why → step w state (commands.Read name offset len) ≡ Refused (Lacks why)
  refused_read offset len why is =
      step_is w state name path offset len meets.called meets.is_path
      ∙ no_opened state path (read_file state path (no_file (kinds_of state.files) path) offset len) meets.not_open
      ∙ ap (λ (o : Option NoFile). read_file state path o offset len) (sym (same_no_file (kinds p) (kinds_of state.files) path kinds_same) ∙ is)

  pub found_file : (found : LocatedBlocks) → Locates p path found → Found p state path found
  found_file found locates =
      let agrees = agrees_told s.picture p state.files meets.agrees told path in
      let node = node_is_file p locates.file (state.files path) meets.closed (subst (λ (o : Option Entry). AgreesAt p o (state.files path)) locates.named agrees) in
      record {
        file = locates.file;
        content = node.0;
        named = locates.named;
        filed = node.1;
        located = locates.blocks;
        stored = node.2;
        long = omega (arith, total_is p 0 found.file_length locates.file.blocks found.blocks node.0.bytes locates.blocks node.2);
        encryption = locates.encryption ∙ ap (λ (a : Attributes). a.encrypted) node.3;
      }

  module _ (found : LocatedBlocks) (locates : Locates p path found) (f : Found p state path found) (offset len : ℕ) where
    read_of : step w state (commands.Read name offset len) ≡ read_content state (Some f.content) offset len
    read_of =
        step_is w state name path offset len meets.called meets.is_path
        ∙ no_opened state path (read_file state path (no_file (kinds_of state.files) path) offset len) meets.not_open
        ∙ ap (λ (o : Option NoFile). read_file state path o offset len) (sym (same_no_file (kinds p) (kinds_of state.files) path kinds_same) ∙ locates.allowed)
        ∙ ap (λ (node : Option Node). read_content state (content_of node) offset len) f.filed

    pub done_read : offset + len ≤ length f.content.bytes → step w state (commands.Read name offset len) ≡ Done (replies.Bytes (range_of f.content.bytes offset len)) state
    done_read within = read_of ∙ ap (λ (b : Bool). cond b (Refused BadRange) (Done (replies.Bytes (range_of f.content.bytes offset len)) state)) (not_below (length f.content.bytes) (offset + len) within)

    pub bad_range : length f.content.bytes < offset + len → step w state (commands.Read name offset len) ≡ Refused BadRange
    bad_range past = read_of ∙ ap (λ (b : Bool). cond b (Refused BadRange) (Done (replies.Bytes (range_of f.content.bytes offset len)) state)) (is_below (length f.content.bytes) (offset + len) past)
