-- What the answers and the exceptions of a cluster in memory stand for.
use Rattle.std.proofs.Common.{◌≡◌, ◌⊎◌, inl, inr, ⊎_elim, ℕ, zero, suc, ◌<◌, ◌^◌, ◌||◌, Bool, true, false, cond, List, [], ◌∷◌, length, get_or, Option, Some, None, IsSome, Result, Ok, Err, refl, sym, ◌∙◌, ap, subst, arith}
use Rattle.std.proofs.lemmas.Bool.{eqb-true, false≢true, or_left, or_right, or_parts}
use Rattle.std.proofs.lemmas.List.{append-nil}
use Rattle.std.proofs.lemmas.List.Elements.{All-contains_itself, All-filter, All-weaker, Contains-append_cases, filter_passes}
use Rattle.std.proofs.lemmas.Slice.Eq.{bytes_eq-Decides}
use Rattle.std.specs.List.{All, Contains, IsDistinct, filter}
use Rattle.std.specs.Option.{option_map}
use Rattle.std.specs.Str.{bytes_eq}
use Rattle.hdfs_cluster.specs.declared.asks.Ask.{Ask}
use Rattle.hdfs_cluster.specs.declared.asks.Ask.TheVariants as asks
use Rattle.hdfs_cluster.specs.declared.asks.GetAdditionalDatanodeAsk.{GetAdditionalDatanodeAsk}
use Rattle.hdfs_cluster.specs.declared.asks.UpdatePipelineAsk.{UpdatePipelineAsk}
use Rattle.hdfs_cluster.specs.declared.asks.Answer.{Answer}
use Rattle.hdfs_cluster.specs.declared.asks.Answer.TheVariants as answers
use Rattle.hdfs_cluster.specs.declared.asks.AskFault.{AskFault}
use Rattle.hdfs_cluster.specs.declared.asks.AskFault.TheVariants as faults
use Rattle.hdfs_cluster.specs.declared.messages.Block.{Block}
use Rattle.hdfs_cluster.specs.declared.messages.DatanodeId.{DatanodeId}
use Rattle.hdfs_cluster.specs.declared.messages.DatanodeInfo.{DatanodeInfo}
use Rattle.hdfs_cluster.specs.declared.messages.LocatedBlock.{LocatedBlock}
use Rattle.hdfs_cluster.specs.declared.messages.LocatedBlocks.{LocatedBlocks}
use Rattle.hdfs_cluster.specs.declared.picture.BlockEntry.{BlockEntry}
use Rattle.hdfs_cluster.specs.declared.picture.Entry.{Entry}
use Rattle.hdfs_cluster.specs.declared.picture.Entry.TheVariants as entries
use Rattle.hdfs_cluster.specs.declared.picture.FileEntry.{FileEntry}
use Rattle.hdfs_cluster.specs.Effects.{AddsOneOf, HasOneMore, IsBeingWritten, KeepsBytes}
use Rattle.hdfs_cluster.specs.Files.{Directory, ClosedFile, OpenFile, NotFile, no_file, no_file_at, IsTree}
use Rattle.hdfs_cluster.specs.Namenode.{Follow, IsOwn, IsOwnOf, IsShaped, IsToWrite, KeepsOthers, OwnKeeps, ServesTold, src_of}
use Rattle.hdfs_cluster.specs.Picture.{Picture, SamePicture, entry_kind, kinds, kinds_in}
use Rattle.hdfs_cluster.specs.Sending.{uuids}
use Rattle.hdfs_cluster.proofs.Trees.{no_file_there}
use Rattle.hdfs_mem_namenode.specs.Adding.{holds_whole, whole_nodes}
use Rattle.hdfs_mem_namenode.specs.Answering.{LocatesFile, StandsForRefusal, StandsForStray, IsStray, IsUnknown, Answers}
use Rattle.hdfs_mem_namenode.specs.Pipelines.{AddsLowest, GivesStamp, IsOfOpen, Renews, is_addressed, is_barred}
use Rattle.hdfs_mem_namenode.proofs.Barring.{own_address}
use Rattle.hdfs_mem_namenode.proofs.EachOnce.{all_once, once_apart}
use Rattle.hdfs_mem_namenode.proofs.Locating.{all_within}
use Rattle.hdfs_mem_datanodes.specs.Nodes.{is_named}

module _ (names : List ℕ → Option Entry) (tree : IsTree (kinds_in names)) (src : List ℕ) where
  open_or_closed : (b : Bool) → no_file_at (Some (cond b OpenFile ClosedFile)) ≡ None
  open_or_closed true = refl
  open_or_closed false = refl

  pub allowed_file : (file : FileEntry) → names src ≡ Some (entries.File file) → no_file (kinds_in names) src ≡ None
  allowed_file file is = no_file_there (kinds_in names) src (entry_kind (entries.File file)) tree (ap (option_map entry_kind) is) ∙ open_or_closed file.is_open

  pub refused_directory : names src ≡ Some entries.Dir → no_file (kinds_in names) src ≡ Some NotFile
  refused_directory is = no_file_there (kinds_in names) src Directory tree (ap (option_map entry_kind) is)

-- what the active namenode has to show of a look-up
module _ (p q : Picture) (i : ℕ) (active : i ≡ p.active) (same : SamePicture p q) where
  pub answers_found : (src : List ℕ) (offset length : ℕ) (found : LocatedBlocks) → LocatesFile p.names p.table src found → no_file (kinds p) src ≡ None
      → Answers p i (asks.GetBlockLocations src offset length) (Ok (answers.GetBlockLocations (Some found))) q
  answers_found src offset length found h allowed = (active, same.active, tt, (allowed, λ whole. record { allowed = allowed; file = h.file; named = h.named; encryption = h.encryption; blocks = h.blocks }, same.rest))

  pub answers_excused : (src : List ℕ) (offset length : ℕ) (fault : AskFault) → StandsForRefusal (kinds p) src fault → Answers p i (asks.GetBlockLocations src offset length) (Err fault) q
  answers_excused src offset length faults.NoMemory h = same
  answers_excused src offset length (faults.Exception class message) h = (h.3, same, inr (active, inl (h.0, h.1, h.2)))
  answers_excused src offset length faults.Broken h = absurd h
  answers_excused src offset length (faults.BadReply fault) h = absurd h
  answers_excused src offset length (faults.Fatal class message) h = absurd h

-- a datanode among these is named
named_at : (locs : List DatanodeInfo) (uuid : List ℕ) (k : ℕ) → k < length (uuids locs) → get_or (uuids locs) k uuid ≡ uuid → is_named locs uuid ≡ true
named_at [] uuid k within is = absurd (omega arith)
named_at (node ∷ locs) uuid zero within is = or_left (bytes_eq uuid node.id.datanode_uuid) (is_named locs uuid) ((bytes_eq-Decides uuid node.id.datanode_uuid).1 (sym is))
named_at (node ∷ locs) uuid (suc k) within is = or_right (bytes_eq uuid node.id.datanode_uuid) (is_named locs uuid) (named_at locs uuid k (omega arith) is)

-- one that is not named is not among them
pub not_among : (locs : List DatanodeInfo) (uuid : List ℕ) → is_named locs uuid ≡ false → Contains (uuids locs) uuid → ⊥
not_among locs uuid unnamed has = false≢true (sym unnamed ∙ named_at locs uuid has.0 has.1 has.2)

-- the datanode that is added is one more, and neither existing nor left out
adds_one : (count : ℕ) (existing excludes nodes : List DatanodeInfo) → AddsLowest count existing excludes nodes → AddsOneOf existing excludes nodes
adds_one count existing excludes nodes h = (one, λ among. ⊎_elim (not_among existing uuid free.0) (not_among excludes uuid free.1.0) (Contains-append_cases (uuids existing) (uuids excludes) uuid among))
  where
    uuid : List ℕ
    uuid = h.behind.node.id.datanode_uuid

    free : (is_named existing uuid ≡ false) × ((is_named excludes uuid ≡ false) × (is_addressed existing uuid ≡ false))
    free =
        let parts = or_parts (is_named existing uuid) (is_named excludes uuid || is_addressed existing uuid) (ap (is_barred existing excludes) h.behind.named ∙ h.lowest.free) in
        (parts.0, or_parts (is_named excludes uuid) (is_addressed existing uuid) parts.1)

    one : HasOneMore existing nodes
    one = record {
      front = existing;
      node = h.behind.node;
      back = [];
      is = h.behind.is;
      others = sym (append-nil existing);
      apart = own_address uuid h.behind.node existing (h.behind.at ∙ sym h.behind.named) free.1.1;
    }

-- the block is one of an open file of the picture
module _ (p : Picture) (src : List ℕ) (block : Block) where
  being_written : IsOfOpen p.names src block.block_id → IsBeingWritten p src block
  being_written h = record { file = h.file; named = h.is; is_open = h.is_open; has = h.has }

  of_open : IsBeingWritten p src block → IsOfOpen p.names src block.block_id
  of_open h = record { file = h.file; is = h.named; is_open = h.is_open; has = h.has }

-- the datanodes on which a block is reopened
module _ (held : List ℕ → ℕ → List ℕ) (id : ℕ) (entry : BlockEntry) where
  abbrev found : List (List ℕ)
  found = filter (holds_whole held id entry.length) entry.nodes

  -- they were listed for it
  pub whole_listed : All (Contains entry.nodes) (whole_nodes held id entry)
  whole_listed = all_once (Contains entry.nodes) found (All-filter (holds_whole held id entry.length) (Contains entry.nodes) entry.nodes (All-contains_itself entry.nodes))

  -- each once
  pub whole_apart : IsDistinct bytes_eq (whole_nodes held id entry)
  whole_apart = once_apart found

  -- and hold it whole
  pub whole_held : All (λ node. length (held node id) ≡ entry.length) (whole_nodes held id entry)
  whole_held =
      let passes = filter_passes (holds_whole held id entry.length) entry.nodes in
      all_once (λ node. length (held node id) ≡ entry.length) found
      (All-weaker (λ node. holds_whole held id entry.length node ≡ true) (λ node. length (held node id) ≡ entry.length) (λ node. eqb-true (length (held node id)) entry.length) found passes)

-- what the active namenode has to show where a pipeline is to be made anew
module _ (p q : Picture) (i : ℕ) (active : i ≡ p.active) where
  -- an exception where a writer strays
  pub answers_stray : (ask : Ask) (fault : AskFault) → StandsForStray (IsStray p ask) fault → SamePicture p q → Answers p i ask (Err fault) q
  answers_stray ask faults.NoMemory stray same = same
  answers_stray ask (faults.Exception class message) stray same = (stray.2, same, inr (active, inr (inl (stray.0, stray.1))))
  answers_stray ask faults.Broken stray same = absurd stray
  answers_stray ask (faults.BadReply fault) stray same = absurd stray
  answers_stray ask (faults.Fatal class message) stray same = absurd stray

  pub answers_stamped : (block : Block) (client : List ℕ) (located : LocatedBlock) → GivesStamp p.table block.block_id located → SamePicture p q
      → Answers p i (asks.UpdateBlockForPipeline block client) (Ok (answers.UpdateBlockForPipeline located)) q
  answers_stamped block client located h same = (active, same.active, tt, (record { entry = h.entry; is = h.is; same_id = h.answered.same_id; greater = h.greater }, same.rest))

  pub answers_not_stamped : (block : Block) (client : List ℕ) (fault : AskFault) → StandsForStray (p.table block.block_id ≡ None) fault → SamePicture p q
      → Answers p i (asks.UpdateBlockForPipeline block client) (Err fault) q
  answers_not_stamped block client = answers_stray (asks.UpdateBlockForPipeline block client)

  module _ (ask : GetAdditionalDatanodeAsk) (text : List ℕ) (is_text : text ≡ ask.src) where
    pub answers_one_more : (count : ℕ) (olds outs : List DatanodeInfo) → olds ≡ ask.existings → outs ≡ ask.excludes → (located : LocatedBlock) → IsOfOpen p.names text ask.blk.block_id → AddsLowest count olds outs located.locs
        → SamePicture p q → Answers p i (asks.GetAdditionalDatanode ask) (Ok (answers.GetAdditionalDatanode located)) q
    answers_one_more count olds outs is_olds is_outs located of_file adds same =
        let written = being_written p ask.src ask.blk (subst (λ (t : List ℕ). IsOfOpen p.names t ask.blk.block_id) is_text of_file) in
        let adds' = subst (λ (l : List DatanodeInfo). AddsLowest count ask.existings l located.locs) is_outs (subst (λ (l : List DatanodeInfo). AddsLowest count l outs located.locs) is_olds adds) in
        (active, same.active, tt, (written, adds_one count ask.existings ask.excludes located.locs adds', same.rest))

    stray_text : (fault : AskFault) → StandsForStray (IsOfOpen p.names text ask.blk.block_id → ⊥) fault → StandsForStray (IsBeingWritten p ask.src ask.blk → ⊥) fault
    stray_text faults.NoMemory stray = stray
    stray_text (faults.Exception class message) stray = (λ written. stray.0 (subst (λ (t : List ℕ). IsOfOpen p.names t ask.blk.block_id) (sym is_text) (of_open p ask.src ask.blk written)), stray.1, stray.2)
    stray_text faults.Broken stray = absurd stray
    stray_text (faults.BadReply fault) stray = absurd stray
    stray_text (faults.Fatal class message) stray = absurd stray

    pub answers_not_one_more : (fault : AskFault) → StandsForStray (IsOfOpen p.names text ask.blk.block_id → ⊥) fault → SamePicture p q
        → Answers p i (asks.GetAdditionalDatanode ask) (Err fault) q
    answers_not_one_more fault stray = answers_stray (asks.GetAdditionalDatanode ask) fault (stray_text fault stray)

  module _ (ask : UpdatePipelineAsk) where
    pub answers_renewed : (locs : List DatanodeId) → locs ≡ ask.new_nodes → Renews p.table ask.old_block ask.new_block locs q.table → ((path : List ℕ) → q.names path ≡ p.names path) → KeepsBytes p q → q.active ≡ p.active
        → Answers p i (asks.UpdatePipeline ask) (Ok answers.UpdatePipeline) q
    answers_renewed locs is renews names bytes stays =
        let h = subst (λ (l : List DatanodeId). Renews p.table ask.old_block ask.new_block l q.table) is renews in
        (active, stays, tt, record { same_id = h.same_id; entry = h.entry; is = h.is; changes = record { names = names; table = h.listed; bytes = bytes } })

    pub answers_not_renewed : (fault : AskFault) → StandsForStray ((ask.old_block.block_id ≡ ask.new_block.block_id) × IsSome (p.table ask.old_block.block_id) → ⊥) fault → SamePicture p q
        → Answers p i (asks.UpdatePipeline ask) (Err fault) q
    answers_not_renewed = answers_stray (asks.UpdatePipeline ask)

pub same_picture : (p : Picture) → SamePicture p p
same_picture p = record { rest = record { files = record { names = λ path. refl; table = λ id. refl; held = λ node id. refl; defaults = refl }; reads = λ link. refl; writes = λ link. refl }; active = refl }

pub shaped_found : (src : List ℕ) (offset length : ℕ) (found : LocatedBlocks) → found.file_length < 2 ^ 63 → Follow 0 found.file_length found.blocks → IsShaped (asks.GetBlockLocations src offset length) (answers.GetBlockLocations (Some found))
shaped_found src offset length found short follow = (short, all_within 0 found.file_length found.blocks follow short, λ whole. follow)

pub shaped_one_more : (ask : GetAdditionalDatanodeAsk) (count : ℕ) (olds outs : List DatanodeInfo) → olds ≡ ask.existings
    → (located : LocatedBlock) → IsToWrite located → AddsLowest count olds outs located.locs → IsShaped (asks.GetAdditionalDatanode ask) (answers.GetAdditionalDatanode located)
shaped_one_more ask count olds outs is located shape adds =
    (shape, (adds_one count ask.existings outs located.locs (subst (λ (l : List DatanodeInfo). AddsLowest count l outs located.locs) is adds)).0)

serves_own : (p : Picture) (ask : Ask) → IsStray p ask → IsOwn p ask
serves_own p (asks.AddBlock ask) h = h
serves_own p (asks.AbandonBlock ask) h = h
serves_own p (asks.Complete ask) h = h
serves_own p (asks.UpdateBlockForPipeline block client) h = h
serves_own p (asks.GetAdditionalDatanode ask) h = h
serves_own p (asks.UpdatePipeline ask) h = h
serves_own p ask h = absurd h

unknown_own : (p : Picture) (ask : Ask) → IsUnknown ask → IsOwn p ask
unknown_own p (asks.GetBlockLocations src offset length) h = absurd h
unknown_own p asks.GetServerDefaults h = h
unknown_own p (asks.Create ask) h = h
unknown_own p (asks.Append src client flag) h = absurd h
unknown_own p (asks.AddBlock ask) h = absurd h
unknown_own p (asks.AbandonBlock ask) h = absurd h
unknown_own p (asks.Complete ask) h = absurd h
unknown_own p (asks.UpdateBlockForPipeline block client) h = absurd h
unknown_own p (asks.GetAdditionalDatanode ask) h = absurd h
unknown_own p (asks.UpdatePipeline ask) h = absurd h
unknown_own p (asks.GetFileInfo src) h = absurd h
unknown_own p (asks.GetListing src from located) h = absurd h
unknown_own p (asks.GetAclStatus src) h = absurd h
unknown_own p (asks.Mkdirs src masked parents) h = absurd h
unknown_own p (asks.Delete src recursive) h = absurd h
unknown_own p (asks.Rename src dst overwrite) h = absurd h
unknown_own p (asks.SetPermission src permission) h = absurd h
unknown_own p (asks.SetReplication src replication) h = absurd h
unknown_own p (asks.GetContentSummary path) h = absurd h
unknown_own p (asks.SetTimes src mtime atime) h = absurd h
unknown_own p (asks.SetOwner src owner group) h = absurd h
unknown_own p (asks.ModifyAclEntries src entries) h = absurd h
unknown_own p (asks.RemoveAclEntries src entries) h = absurd h
unknown_own p (asks.RemoveDefaultAcl src) h = absurd h
unknown_own p (asks.RemoveAcl src) h = absurd h
unknown_own p (asks.SetAcl src entries) h = absurd h
unknown_own p ask h = h

keeps_others : (p q : Picture) (path : List ℕ) → SamePicture p q → KeepsOthers path p q
keeps_others p q path same = record {
  names = λ other apart. same.rest.files.names other;
  table = λ id apart. same.rest.files.table id;
  held = same.rest.files.held;
  defaults = same.rest.files.defaults;
  reads = same.rest.reads;
  writes = same.rest.writes;
}

own_keeps : (src : Option (List ℕ)) (p q : Picture) → SamePicture p q → OwnKeeps src p q
own_keeps (Some path) p q same = keeps_others p q path same
own_keeps None p q same = record { held = same.rest.files.held; defaults = same.rest.files.defaults; reads = same.rest.reads; writes = same.rest.writes }

-- an exception of the implementation's own
stray_own : (p q : Picture) (ask : Ask) (A B : Type 0) → SamePicture p q → (IsStray p ask × A) ⊎ (IsUnknown ask × B) → IsOwnOf ask p q
stray_own p q ask A B same (inl stray) = (serves_own p ask stray.0, own_keeps (src_of ask) p q same)
stray_own p q ask A B same (inr unknown) = (unknown_own p ask unknown.0, own_keeps (src_of ask) p q same)

-- what is answered so is served by the rows
pub serves_answer : (risen : Type 0) (p q : Picture) (i : ℕ) (ask : Ask) (result : Result Answer AskFault) → Answers p i ask result q → ServesTold risen p i ask result q
serves_answer risen p q i ask (Ok answer) h = inl (inl h.0, inl h.1, inl h.3)
serves_answer risen p q i ask (Err faults.NoMemory) h = (h.active, inl h.rest)
serves_answer risen p q i ask (Err (faults.Exception class message)) h =
    ⊎_elim
    (λ other. inl (other.0, other.1, h.1))
    (λ here. ⊎_elim (λ refusal. inr (inl (here.0, refusal, h.1))) (λ stray. inr (inr (inl (here.0, h.1.active, stray_own p q ask _ _ h.1 stray)))) here.1)
    h.2
serves_answer risen p q i ask (Err faults.Broken) h = absurd h
serves_answer risen p q i ask (Err (faults.BadReply fault)) h = absurd h
serves_answer risen p q i ask (Err (faults.Fatal class message)) h = absurd h
