-- A program goes from call to call: behind a reply the cluster fits the step's next state, in which the same paths are open, and the writers of
-- the files that stand there hold them still.
use Rattle.std.proofs.Common.{◌≡◌, ◌≢◌, ℕ, ◌+◌, nat_lt, Bool, true, false, cond, ◌||◌, List, [], ◌∷◌, ◌++◌, length, map, Option, Some, None, Ok, refl, sym, ◌∙◌, ap, subst}
use Rattle.std.specs.Prelude.{Result}
use Rattle.std.proofs.lemmas.List.Elements.{All-cons, All-nil}
use Rattle.std.specs.List.{list_any}
use Rattle.std.specs.Str.{bytes_eq}
use Rattle.hdfs_cluster.specs.declared.errors.HdfsError.{HdfsError}
use Rattle.hdfs_cluster.specs.declared.messages.ServerDefaults.{ServerDefaults}
use Rattle.hdfs_cluster.specs.Files.{Content, Dir, File, Node, NoFile, State, Writing, kinds_of, no_file}
use Rattle.hdfs_cluster.specs.Fitting.{Fits}
use Rattle.hdfs_cluster.specs.Names.{is_within}
use Rattle.hdfs_cluster.specs.Picture.{Picture}
use Rattle.hdfs_cluster.specs.Refusals.{append_refusal, create_refusal, delete_refusal, look_refusal, mkdirs_refusal, with_parents}
use Rattle.hdfs_cluster.specs.Shown.{Shown}
use Rattle.hdfs_names.specs.Paths.{ancestors, is_path, root}
use Rattle.hdfs_names.specs.declared.mounts.Resolved.{Resolved}
use Rattle.hdfs_model.specs.declared.commands.Command.{Command}
use Rattle.hdfs_model.specs.declared.commands.Command.TheVariants as commands
use Rattle.hdfs_model.specs.declared.commands.Reply.{Reply}
use Rattle.hdfs_model.specs.declared.commands.Reply.TheVariants as replies
use Rattle.hdfs_model.specs.Owing.{IsMisplaced}
use Rattle.hdfs_model.specs.Sessions.{Avoids, SameOpened}
use Rattle.hdfs_model.specs.Steps.{BadPath, BadRange, Done, Outcome, Refusal, Refused, TooMany, World, WrongState, append_file, close_node, content_of, create_file, created, delete_files, entry_at, has_below, info_node, is_opened, is_opened_within, list_node, list_paths, make_directory, open_node, read_content, read_file, step, step_at, target_of, write_node}
use Rattle.hdfs_model.specs.Walks.{walk}
use Rattle.hdfs_cluster.specs.Reading.{range_of}
use Rattle.hdfs_client.specs.Clients.{leads_to}
use Rattle.hdfs_client.specs.Writing.{ReachesWhole, rebuilding_of}
use Rattle.hdfs_client.specs.declared.client.Client.{Client}
use Rattle.hdfs_client.specs.declared.writing.FileWriter.{FileWriter}
use Rattle.hdfs_file_writer.specs.Writers as files
use Rattle.hdfs_commands.specs.Session.{CarriesFile}
use Rattle.hdfs_commands.proofs.Agreeing.{is_told}
use Rattle.hdfs_commands.proofs.NameAsks.{above_stays, none_not, open_outside}
use Rattle.hdfs_commands.proofs.OneFile.{not_same}
use Rattle.hdfs_client_steps.specs.OpenFiles.{Holds}
use Rattle.hdfs_client_steps.specs.Steps.{Carries, Does, DoesAs}

-- Behind a reply a program carries on, with the step's next state.
pub carries_on : (client client' : Client) (src : List ℕ) (command : List ℕ → Command) (old new : Shown) (reply : Reply)
    → DoesAs client src command old client' new (Ok reply) → ReachesWhole client src old → (to : Resolved) → leads_to client src ≡ Some to
    → is_path to.path ≡ true → (opened : List ℕ → Bool) → (IsMisplaced opened to.path (command to.path) → ⊥) → (world : World) (state : State)
    → Carries opened client old state → Avoids world state (command to.path)
    → (next : State) × (step world state (command to.path) ≡ Done reply next) × Carries opened client' new next
carries_on client client' src command old new reply does reaches to leads named opened placed world state carries avoids =
    let did = does reaches to leads named opened placed world state (record {
      fits = carries.fits;
      opened = carries.same;
      avoids = All-cons (Avoids world state) (command to.path) [] avoids (All-nil (Avoids world state));
    }) in
    let ok = did.0.applied.ok in
    (ok.0, ok.1, record { fits = ok.3; same = ok.4; knows = did.1 carries.knows })

-- ---- what a step leaves at another path that is open

module _ (state : State) (other : List ℕ) (node : Node) (stands : state.files other ≡ Some node) where
  -- it stands in the next state, where there is one
  abbrev StandsIn : Outcome → Type 0
  StandsIn (Refused why) = Unit {0}
  StandsIn (Done reply next) = next.files other ≡ Some node

  unless : (b : Bool) (why : Refusal) (outcome : Outcome) → StandsIn outcome → StandsIn (cond b (Refused why) outcome)
  unless true why outcome h = tt
  unless false why outcome h = h

  where_so : (b : Bool) (why : Refusal) (outcome : Outcome) → StandsIn outcome → StandsIn (cond b outcome (Refused why))
  where_so true why outcome h = h
  where_so false why outcome h = tt

  -- where nothing changes
  content_stands : (content : Option Content) (offset len : ℕ) → StandsIn (read_content state content offset len)
  content_stands None offset len = tt
  content_stands (Some content) offset len =
      unless (nat_lt (length content.bytes) (offset + len)) BadRange (Done (replies.Bytes (range_of content.bytes offset len)) state) stands

  read_stands : (path : List ℕ) (why : Option NoFile) (offset len : ℕ) → StandsIn (read_file state path why offset len)
  read_stands path (Some why) offset len = tt
  read_stands path None offset len = content_stands (content_of (state.files path)) offset len

  told_stands : (why : Option Refusal) (found : Option Node) → StandsIn (info_node state why found)
  told_stands (Some why) found = tt
  told_stands None None = tt
  told_stands None (Some found) = stands

  paths_stand : (paths : List (List ℕ)) (limit : ℕ) → StandsIn (list_paths state paths limit)
  paths_stand paths limit = unless (nat_lt limit (length paths)) TooMany (Done (replies.Listed (map (entry_at state) paths)) state) stands

  listed_stands : (path : List ℕ) (why : Option Refusal) (found : Option Node) (recursive : Bool) (limit : ℕ)
      → StandsIn (list_node state path why found recursive limit)
  listed_stands path (Some why) found recursive limit = tt
  listed_stands path None None recursive limit = tt
  listed_stands path None (Some Dir) recursive limit = paths_stand (walk state.files state.paths path recursive) limit
  listed_stands path None (Some (File content)) recursive limit = paths_stand (path ∷ []) limit
  listed_stands path None (Some (Writing content)) recursive limit = paths_stand (path ∷ []) limit

  module _ (path : List ℕ) (apart : other ≢ path) where
    -- where something new stands at a path, and directories above it
    planted_stands : (new : Node) → with_parents state.files Dir path new other ≡ Some node
    planted_stands new =
        above_stays Dir new (bytes_eq path other) (list_any (bytes_eq other) (ancestors path)) (state.files other) (not_same path other apart)
        (none_not (state.files other) node (list_any (bytes_eq other) (ancestors path)) stands) ∙ stands

    -- where something else stands at a path
    changed_stands : (new : Node) → cond (bytes_eq path other) (Some new) (state.files other) ≡ Some node
    changed_stands new = ap (λ (b : Bool). cond b (Some new) (state.files other)) (not_same path other apart) ∙ stands

    created_stands : (content : Content) (why : Option Refusal) → StandsIn (create_file state path content why)
    created_stands content (Some why) = tt
    created_stands content None = planted_stands (Writing content)

    found_stands : (found : Option Node) → StandsIn (open_node state path found)
    found_stands None = tt
    found_stands (Some Dir) = tt
    found_stands (Some (Writing content)) = tt
    found_stands (Some (File content)) = planted_stands (Writing content)

    opened_stands : (why : Option Refusal) → StandsIn (append_file state path why)
    opened_stands (Some why) = tt
    opened_stands None = found_stands (state.files path)

    written_stands : (found : Option Node) (more : List ℕ) → StandsIn (write_node state path found more)
    written_stands None more = tt
    written_stands (Some Dir) more = tt
    written_stands (Some (File content)) more = tt
    written_stands (Some (Writing content)) more = changed_stands (Writing (record content { bytes = content.bytes ++ more }))

    closed_stands : (found : Option Node) → StandsIn (close_node state path found)
    closed_stands None = tt
    closed_stands (Some Dir) = tt
    closed_stands (Some (File content)) = tt
    closed_stands (Some (Writing content)) = changed_stands (File content)

    made_stands : (why : Option Refusal) → StandsIn (make_directory state path why)
    made_stands (Some why) = tt
    made_stands None = planted_stands Dir

    -- a deletion is refused where a path that lies within is open
    deleted_stands : (at_root within : Bool) → (within ≡ false → is_within path other ≡ false) → (why : Option Refusal)
        → StandsIn (cond (at_root || within) (Refused WrongState) (delete_files state path why))
    deleted_stands true within away why = tt
    deleted_stands false true away why = tt
    deleted_stands false false away (Some why) = tt
    deleted_stands false false away None = ap (λ (b : Bool). cond b None (state.files other)) (away refl) ∙ stands

    stands_at : (world : World) → is_opened state other ≡ true → (command : Command) → StandsIn (step_at world state path command)
    stands_at world has (commands.Create text options) =
        let why = create_refusal (kinds_of state.files) path options.overwrite options.create_parent in
        unless (is_opened state path) WrongState (create_file state path (created world options) why) (created_stands (created world options) why)
    stands_at world has (commands.Append text) =
        let why = append_refusal (kinds_of state.files) path in
        unless (is_opened state path) WrongState (append_file state path why) (opened_stands why)
    stands_at world has (commands.Write text bytes) =
        where_so (is_opened state path) WrongState (write_node state path (state.files path) bytes) (written_stands (state.files path) bytes)
    stands_at world has (commands.Close text) =
        where_so (is_opened state path) WrongState (close_node state path (state.files path)) (closed_stands (state.files path))
    stands_at world has (commands.Read text offset len) =
        let why = no_file (kinds_of state.files) path in
        unless (is_opened state path) WrongState (read_file state path why offset len) (read_stands path why offset len)
    stands_at world has (commands.Mkdirs text permission create_parent) =
        let why = mkdirs_refusal (kinds_of state.files) path create_parent in
        unless (is_opened state path) WrongState (make_directory state path why) (made_stands why)
    stands_at world has (commands.Delete text recursive) =
        deleted_stands (bytes_eq root path) (is_opened_within state path) (λ shut. open_outside state.opened path other shut has)
        (delete_refusal (kinds_of state.files) path (has_below state path) recursive)
    stands_at world has (commands.Info text) =
        let why = look_refusal (kinds_of state.files) path in
        unless (is_opened state path) WrongState (info_node state why (state.files path)) (told_stands why (state.files path))
    stands_at world has (commands.List text recursive limit) =
        listed_stands path (look_refusal (kinds_of state.files) path) (state.files path) recursive limit

-- What stands at another path that is open stands there in the next state.
pub others_same : (world : World) (state next : State) (command : Command) (reply : Reply) → step world state command ≡ Done reply next → (other : List ℕ)
    → is_opened state other ≡ true → other ≢ target_of world command → (node : Node) → state.files other ≡ Some node → next.files other ≡ Some node
others_same world state next command reply steps other has apart node stands =
    let path = target_of world command in
    subst (StandsIn state other node stands) steps
    (where_so state other node stands (is_path path) BadPath (step_at world state path command) (stands_at state other node stands path apart world has command))

-- A writer that holds the file at another open path holds it behind a call, in a state in which that file is written so still.
pub holds_by : (client client' : Client) (world : World) (state next : State) (command : Command) (path : List ℕ) {before after : List ℕ → Bool} (old new : Shown)
    (result : Result Reply HdfsError) → Does world state command path before old after new result → rebuilding_of client' ≡ rebuilding_of client
    → Fits old state → (other : List ℕ) → before other ≡ true → other ≢ path → (writer : FileWriter)
    → ((content : Content) → state.files other ≡ Some (Writing content) → next.files other ≡ Some (Writing content)) → Holds client old state other writer
    → Holds client' new next other writer
holds_by client client' world state next command path old new result does same fits other has apart writer stays holds = record {
  file = holds.file;
  is_open = holds.is_open;
  at = holds.at;
  fine = holds.fine;
  rebuilding = holds.rebuilding ∙ sym same;
  setups = holds.setups;
  encrypted = holds.encrypted ∙ ap (λ (d : ServerDefaults). d.encrypt_data_transfer) (sym does.defaults);
  carries = carries;
}
  where
    carries : (q : Picture) → new.picture ≡ Some q → CarriesFile q next other holds.file
    carries q now =
        let told = is_told old.picture state.files fits.agrees in
        let c = holds.carries told.0 told.1 in
        record {
          content = c.content;
          named = stays c.content c.named;
          carries = does.others told.0 q told.1 now other has apart (files.tail_of holds.file) c.content.bytes c.carries;
          replication = c.replication;
          block_size = c.block_size;
        }

-- So it holds it behind a reply, in the next state.
pub holds_on : (client client' : Client) (world : World) (state next : State) (command : Command) (path : List ℕ) {before after : List ℕ → Bool} (old new : Shown)
    (reply : Reply) → Does world state command path before old after new (Ok reply) → target_of world command ≡ path
    → rebuilding_of client' ≡ rebuilding_of client → Fits old state → SameOpened before state → step world state command ≡ Done reply next
    → (other : List ℕ) → before other ≡ true → other ≢ path → (writer : FileWriter) → Holds client old state other writer
    → Holds client' new next other writer
holds_on client client' world state next command path old new reply does called same fits opened steps other has apart writer holds =
    holds_by client client' world state next command path old new (Ok reply) does same fits other has apart writer
    (λ content is. others_same world state next command reply steps other (opened other ∙ has) (λ there. apart (there ∙ called)) (Writing content) is) holds
