-- What a namenode tells of a path is what the step tells of it.
use Rattle.std.proofs.Common.{◌≡◌, ℕ, ◌+◌, ◌≤◌, ◌==◌, Bool, true, false, cond, List, [], ◌∷◌, length, drop, Option, Some, None, IsSome, is_none, option_map, unwrap_or, refl, sym, ◌∙◌, ap, subst, arith}
use Rattle.std.proofs.lemmas.List.{length-drop}
use Rattle.std.specs.List.{list_any}
use Rattle.hdfs_cluster.specs.Effects.{HasStatus}
use Rattle.hdfs_cluster.specs.Files.{Directory, IsState, Kind, Node, Dir, File, Writing, Content, Missing, NotDirectory, State, is_file, kind_of, kinds_of}
use Rattle.hdfs_cluster.specs.Listing.{IsMissing, TellsAt, TellsFile, plus_length, total, type_of}
use Rattle.hdfs_cluster.specs.Loading.{is_directory}
use Rattle.hdfs_cluster.specs.Picture.{Picture, entry_kind, kinds_in}
use Rattle.hdfs_cluster.specs.Refusals.{Refusal, Lacks, above_refusal, look_refusal}
use Rattle.hdfs_cluster.specs.Stores.{AgreesAt, StoresBlocks}
use Rattle.hdfs_cluster.specs.declared.messages.FileStatusMsg.{FileStatusMsg}
use Rattle.hdfs_cluster.specs.declared.picture.BlockEntry.{BlockEntry}
use Rattle.hdfs_cluster.specs.declared.picture.Entry.{Entry}
use Rattle.hdfs_cluster.specs.declared.picture.Entry.TheVariants as entries
use Rattle.hdfs_cluster.specs.declared.picture.FileEntry.{FileEntry}
use Rattle.hdfs_names.specs.Paths.{ancestors}
use Rattle.hdfs_model.specs.declared.commands.Command.TheVariants as commands
use Rattle.hdfs_model.specs.declared.commands.Reply.{Reply}
use Rattle.hdfs_model.specs.declared.commands.Reply.TheVariants as replies
use Rattle.hdfs_model.specs.Statuses.{info_by}
use Rattle.hdfs_model.specs.Steps.{World, Refused, Done, WrongState, info_node, info_of, is_opened, list_node, list_paths, step_at}
use Rattle.hdfs_model.specs.Walks.{walk}
use Rattle.hdfs_model.proofs.Deleted.{here, kinds_same, no_file, none_chosen, some_kind}

-- blocks that store bytes are as long together
pub stores_total : (p : Picture) (ids : List ℕ) (bytes : List ℕ) → StoresBlocks p ids bytes → total p.table ids ≡ Some (length bytes)
stores_total p [] bytes s = ap (λ (b : List ℕ). Some (length b)) (sym s)
stores_total p (id ∷ ids) bytes s =
    ap (λ (e : Option BlockEntry). plus_length e (total p.table ids)) s.1
    ∙ ap (plus_length (Some s.0)) (stores_total p ids (drop s.0.length bytes) s.4)
    ∙ ap Some (omega (arith, s.2, length-drop s.0.length bytes))

-- the status of a closed file tells what the file is
file_told : (p : Picture) (file : FileEntry) (content : Content) (status : FileStatusMsg) → (file.is_open ≡ false) → file.attributes ≡ content.attributes → StoresBlocks p file.blocks content.bytes
    → status.file_type ≡ 2 → TellsFile p.table (entries.File file) status → info_of (File content) ≡ info_by status
file_told p file content status closed attributes stores type tells =
    let is : tells.0.told ≡ status = cc (tells.0.is) in
    let size : status.length ≡ length content.bytes = cc (tells.1 closed, stores_total p file.blocks content.bytes stores) in
    let permission : status.permission ≡ content.attributes.permission = cc (tells.0.permission, is, attributes) in
    let replicas : status.block_replication ≡ Some content.attributes.replication = cc (tells.0.replication, is, attributes) in
    let sizes : status.blocksize ≡ Some content.attributes.block_size = cc (tells.0.block_size, is, attributes) in
    let replication : unwrap_or status.block_replication 0 ≡ content.attributes.replication = ap (λ (o : Option ℕ). unwrap_or o 0) replicas in
    let block_size : unwrap_or status.blocksize 0 ≡ content.attributes.block_size = ap (λ (o : Option ℕ). unwrap_or o 0) sizes in
    told_by status.length status.permission (unwrap_or status.block_replication 0) (unwrap_or status.blocksize 0) size permission replication block_size
    ∙ ap (λ (n : ℕ). cond (n == 1) (replies.Info true 0 0 0 0) (replies.Info false status.length status.permission (unwrap_or status.block_replication 0) (unwrap_or status.blocksize 0))) (sym type)
  where
    told_by : (a b c d : ℕ) → a ≡ length content.bytes → b ≡ content.attributes.permission → c ≡ content.attributes.replication → d ≡ content.attributes.block_size
        → info_of (File content) ≡ replies.Info false a b c d
    told_by a b c d f g h i = cc (f, g, h, i)

-- the step of what can be looked at
look_by : (b : Bool) (k : Option Kind) → b ≡ false → IsSome k → cond b (Some (Lacks NotDirectory)) (cond (is_none k) (Some (Lacks Missing)) None) ≡ None
look_by true k off some = absurd (cc (off))
look_by false None off some = absurd (cc (some))
look_by false (Some k) off some = refl

module _ (p : Picture) (state : State) (is_state : IsState state) (agrees : (r : List ℕ) → AgreesAt p (p.names r) (state.files r)) (path : List ℕ) where
  -- what stands there is told of
  pub told_at : (name : List ℕ) (status : FileStatusMsg) → TellsAt p.names p.table path name status → ((content : Content) → state.files path ≡ Some (Writing content) → ⊥)
      → (node : Node) × (state.files path ≡ Some node) × (info_of node ≡ info_by status)
  told_at name status tells closed = by (state.files path) tells.entry refl (subst (λ (e : Option Entry). AgreesAt p e (state.files path)) tells.there (agrees path)) tells.type tells.file
    where
      by : (node : Option Node) (entry : Entry) → state.files path ≡ node → AgreesAt p (Some entry) node → status.file_type ≡ type_of entry → TellsFile p.table entry status
          → (node : Node) × (state.files path ≡ Some node) × (info_of node ≡ info_by status)
      by None entries.Dir is h type file = absurd h
      by None (entries.File f) is h type file = absurd h
      by (Some Dir) entries.Dir is h type file =
          (Dir, is, ap (λ (n : ℕ). cond (n == 1) (replies.Info true 0 0 0 0) (replies.Info false status.length status.permission (unwrap_or status.block_replication 0) (unwrap_or status.blocksize 0))) (sym type))
      by (Some Dir) (entries.File f) is h type file = absurd h
      by (Some (File content)) entries.Dir is h type file = absurd h
      by (Some (File content)) (entries.File f) is h type file = (File content, is, file_told p f content status h.0 h.1 h.2 type file)
      by (Some (Writing content)) entry is h type file = absurd (closed content is)

  -- what stands there can be looked at
  pub looked_at : IsSome (p.names path) → look_refusal (kinds_of state.files) path ≡ None
  looked_at some =
      let kind = some_kind (state.files path) (here p (p.names path) (state.files path) (agrees path) some) in
      look_by (list_any (λ a. is_file (kinds_of state.files a)) (ancestors path)) (kinds_of state.files path) (no_file (kinds_of state.files) (ancestors path) (is_state.tree.above path kind)) kind

  -- the step tells it
  pub informs_at : (w : World) (text name : List ℕ) (status : FileStatusMsg) → is_opened state path ≡ false → ((content : Content) → state.files path ≡ Some (Writing content) → ⊥)
      → TellsAt p.names p.table path name status → step_at w state path (commands.Info text) ≡ Done (info_by status) state
  informs_at w text name status shut closed tells =
      let told = told_at name status tells closed in
      ap (λ (b : Bool). cond b (Refused WrongState) (info_node state (look_refusal (kinds_of state.files) path) (state.files path))) shut
      ∙ ap (λ (o : Option Refusal). info_node state o (state.files path)) (looked_at (subst IsSome (sym tells.there) refl))
      ∙ ap (info_node state None) told.1
      ∙ ap (λ (reply : Reply). Done reply state) told.2

  -- nothing can be told of where nothing stands
  pub missed_at : IsMissing p.names path → look_refusal (kinds_of state.files) path ≡ Some (Lacks Missing)
  missed_at missing =
      ap (λ (b : Bool). cond b (Some (Lacks NotDirectory)) (cond (is_none (kinds_of state.files path)) (Some (Lacks Missing)) None))
      (subst (λ (k : List ℕ → Option Kind). list_any (λ a. is_file (k a)) (ancestors path) ≡ false) (kinds_same p state is_state agrees)
      (none_chosen _ (list_any (λ a. is_file (kinds_in p.names a)) (ancestors path)) missing.1))
      ∙ ap (λ (k : Option Kind). cond (is_none k) (Some (Lacks Missing)) None)
      (ap (λ (k : List ℕ → Option Kind). k path) (sym (kinds_same p state is_state agrees)) ∙ ap (option_map entry_kind) missing.0)

  -- nor of what would stand below a file
  pub below_file_at : (why : Refusal) → above_refusal (kinds_in p.names) path ≡ Some why → look_refusal (kinds_of state.files) path ≡ Some why
  below_file_at why is =
      by (list_any (λ a. is_file (kinds_of state.files a)) (ancestors path)) (cond (is_none (kinds_of state.files path)) (Some (Lacks Missing)) None)
      (subst (λ (k : List ℕ → Option Kind). above_refusal k path ≡ Some why) (kinds_same p state is_state agrees) is)
    where
      by : (b : Bool) (rest : Option Refusal) → cond b (Some (Lacks NotDirectory)) None ≡ Some why → cond b (Some (Lacks NotDirectory)) rest ≡ Some why
      by true rest is = is
      by false rest is = absurd (cc (is))

  -- an entry says of what a status tells whether that is a directory
  pub entry_told : (name : List ℕ) (status : FileStatusMsg) → TellsAt p.names p.table path name status → is_directory (state.files path) ≡ (status.file_type == 1)
  entry_told name status tells = by (state.files path) tells.entry (subst (λ (e : Option Entry). AgreesAt p e (state.files path)) tells.there (agrees path)) tells.type
    where
      by : (node : Option Node) (entry : Entry) → AgreesAt p (Some entry) node → status.file_type ≡ type_of entry → is_directory node ≡ (status.file_type == 1)
      by None entries.Dir h type = absurd h
      by None (entries.File f) h type = absurd h
      by (Some Dir) entries.Dir h type = ap (λ (n : ℕ). n == 1) (sym type)
      by (Some Dir) (entries.File f) h type = absurd h
      by (Some (File content)) entries.Dir h type = absurd h
      by (Some (File content)) (entries.File f) h type = ap (λ (n : ℕ). n == 1) (sym type)
      by (Some (Writing content)) entries.Dir h type = absurd h
      by (Some (Writing content)) (entries.File f) h type = ap (λ (n : ℕ). n == 1) (sym type)

  -- a directory is listed by its walk
  pub lists_directory_at : (w : World) (text : List ℕ) (recursive : Bool) (limit : ℕ) → p.names path ≡ Some entries.Dir
      → step_at w state path (commands.List text recursive limit) ≡ list_paths state (walk state.files state.paths path recursive) limit
  lists_directory_at w text recursive limit is =
      ap (λ (o : Option Refusal). list_node state path o (state.files path) recursive limit) (looked_at (subst IsSome (sym is) refl))
      ∙ by (state.files path) (subst (λ (e : Option Entry). AgreesAt p e (state.files path)) is (agrees path))
    where
      by : (node : Option Node) → AgreesAt p (Some entries.Dir) node → list_node state path None node recursive limit ≡ list_paths state (walk state.files state.paths path recursive) limit
      by None h = absurd h
      by (Some Dir) h = refl
      by (Some (File content)) h = absurd h
      by (Some (Writing content)) h = absurd h

  -- a file is listed alone
  pub lists_file_at : (w : World) (text : List ℕ) (recursive : Bool) (limit : ℕ) (file : FileEntry) → p.names path ≡ Some (entries.File file)
      → step_at w state path (commands.List text recursive limit) ≡ list_paths state (path ∷ []) limit
  lists_file_at w text recursive limit file is =
      ap (λ (o : Option Refusal). list_node state path o (state.files path) recursive limit) (looked_at (subst IsSome (sym is) refl))
      ∙ by (state.files path) (subst (λ (e : Option Entry). AgreesAt p e (state.files path)) is (agrees path))
    where
      by : (node : Option Node) → AgreesAt p (Some (entries.File file)) node → list_node state path None node recursive limit ≡ list_paths state (path ∷ []) limit
      by None h = absurd h
      by (Some Dir) h = absurd h
      by (Some (File content)) h = refl
      by (Some (Writing content)) h = refl

  -- it is refused where nothing can be told of the path
  pub lists_none_at : (w : World) (text : List ℕ) (recursive : Bool) (limit : ℕ) (why : Refusal) → look_refusal (kinds_of state.files) path ≡ Some why
      → step_at w state path (commands.List text recursive limit) ≡ Refused why
  lists_none_at w text recursive limit why is = ap (λ (o : Option Refusal). list_node state path o (state.files path) recursive limit) is

  pub informs_none_at : (w : World) (text : List ℕ) (why : Refusal) → is_opened state path ≡ false → look_refusal (kinds_of state.files) path ≡ Some why
      → step_at w state path (commands.Info text) ≡ Refused why
  informs_none_at w text why shut is =
      ap (λ (b : Bool). cond b (Refused WrongState) (info_node state (look_refusal (kinds_of state.files) path) (state.files path))) shut
      ∙ ap (λ (o : Option Refusal). info_node state o (state.files path)) is
