-- What the active namenode answers to a writer.
use Rattle.std.proofs.Common.{◌≡◌, ◌⊎◌, ⊎_elim, inl, inr, ℕ, ◌<◌, ◌≤◌, min, Bool, true, false, cond, List, [], length, Option, Some, None, Ok, Err, refl, sym, ap, subst, arith}
use Rattle.std.specs.BTreeMap.{get_by_text}
use Rattle.hdfs_cluster.specs.declared.asks.Ask.TheVariants as asks
use Rattle.hdfs_cluster.specs.declared.asks.AbandonBlockAsk.{AbandonBlockAsk}
use Rattle.hdfs_cluster.specs.declared.asks.AddBlockAsk.{AddBlockAsk}
use Rattle.hdfs_cluster.specs.declared.asks.CompleteAsk.{CompleteAsk}
use Rattle.hdfs_cluster.specs.declared.asks.CreateAsk.{CreateAsk}
use Rattle.hdfs_cluster.specs.declared.asks.Answer.TheVariants as answers
use Rattle.hdfs_cluster.specs.declared.asks.AskFault.{AskFault}
use Rattle.hdfs_cluster.specs.declared.asks.AskFault.TheVariants as faults
use Rattle.hdfs_cluster.specs.declared.messages.Block.{Block}
use Rattle.hdfs_cluster.specs.declared.picture.FileEntry.{FileEntry}
use Rattle.hdfs_cluster.specs.declared.messages.DatanodeInfo.{DatanodeInfo}
use Rattle.hdfs_cluster.specs.declared.messages.LocatedBlock.{LocatedBlock}
use Rattle.hdfs_cluster.specs.declared.messages.FileStatusMsg.{FileStatusMsg}
use Rattle.hdfs_cluster.specs.declared.mem_settings.MemSettings.{MemSettings}
use Rattle.hdfs_cluster.specs.declared.picture.BlockEntry.{BlockEntry}
use Rattle.hdfs_cluster.specs.declared.picture.Entry.{Entry}
use Rattle.hdfs_cluster.specs.declared.picture.Entry.TheVariants as entries
use Rattle.hdfs_cluster.specs.Effects.{Abandons, AddsNew, Changes, ClosesIf, GivesAgain, HasBlock, HasStatus, IsLast, blocks_at, table_without, with_entry, with_length}
use Rattle.hdfs_cluster.specs.Namenode.{new_file, overwrites}
use Rattle.hdfs_cluster.specs.Picture.{Picture, SamePicture, kinds_in}
use Rattle.hdfs_cluster.specs.Refusals.{create_refusal, with_parents}
use Rattle.hdfs_cluster.specs.Sending.{uuids}
use Rattle.hdfs_mem_faults.specs.Series.{uuid_of}
use Rattle.hdfs_mem_namenode.specs.declared.namespace.Namespace.{Namespace}
use Rattle.hdfs_mem_datanodes.specs.declared.datanodes.Datanodes.{Datanodes}
use Rattle.hdfs_mem_cluster.specs.declared.mem_links.MemLinks.{MemLinks}
use Rattle.hdfs_mem_namenode.specs.Answering.{Answers, StandsForStray, StandsForWritten}
use Rattle.hdfs_mem_namenode.specs.Adding.{AddsLast, GivesLast, MayBeGivenUp, TakesOrNot, places, with_open}
use Rattle.hdfs_mem_namenode.specs.Spaces.{space_of}
use Rattle.hdfs_mem_namenode.specs.Memory.{table_of}
use Rattle.hdfs_mem_namenode.proofs.Answering.{not_among}
use Rattle.hdfs_mem_namenode.proofs.Placing.{all_free, free_few}
use Rattle.hdfs_mem_datanodes.specs.Nodes.{held_in, is_named}
use Rattle.std.specs.List.{All, Contains, IsDistinct}
use Rattle.std.specs.Str.{bytes_eq}
use Rattle.hdfs_mem_cluster.specs.MemShown.{picture_at}

-- the names and the table stay
abbrev pub SameSpace : Namespace → Namespace → Type 0
SameSpace space space' = ((path : List ℕ) → get_by_text space'.names path ≡ get_by_text space.names path) × (space'.table ≡ space.table)

module _ (space space' : Namespace) (nodes : Datanodes) (settings : MemSettings) (links : MemLinks) where
  abbrev p : Picture
  p = picture_at space nodes settings links

  abbrev q : Picture
  q = picture_at space' nodes settings links

  pub same_space : SameSpace space space' → SamePicture p q
  same_space same = record { rest = record { files = record { names = same.0; table = λ id. ap (λ t. table_of t.entries id) same.1; held = λ node id. refl; defaults = refl }; reads = λ link. refl; writes = λ link. refl }; active = refl }

  -- the names and the table are the same
  pub same_parts : (space'.names ≡ space.names) × (space'.table ≡ space.table) → SamePicture p q
  same_parts same = same_space (λ path. ap (λ names. get_by_text names path) same.0, same.1)

  pub changes_space : (named : List ℕ → Option Entry) (listed : ℕ → Option BlockEntry) → ((path : List ℕ) → get_by_text space'.names path ≡ named path) → ((id : ℕ) → table_of space'.table.entries id ≡ listed id) → Changes p q named listed
  changes_space named listed names table = record { names = names; table = table; bytes = record { held = λ node id. refl; defaults = refl; reads = λ link. refl; writes = λ link. refl } }

  pub same_looks : ((path : List ℕ) → get_by_text space'.names path ≡ get_by_text space.names path) × ((id : ℕ) → table_of space'.table.entries id ≡ table_of space.table.entries id) → SamePicture p q
  same_looks same = record { rest = record { files = record { names = same.0; table = same.1; held = λ node id. refl; defaults = refl }; reads = λ link. refl; writes = λ link. refl }; active = refl }

  gives_last : (src : List ℕ) (file : FileEntry) (previous : Option Block) (block : LocatedBlock) → GivesLast (space_of space nodes) file previous (space_of space' nodes) block
      → GivesAgain src file previous block p q
  gives_last src file previous block h = record { id = h.id; retried = h.retried; answered = h.answered; changes = changes_space _ _ h.same h.listed }

  adds_last : (src : List ℕ) (file : FileEntry) (previous : Option Block) (excludes : List DatanodeInfo) (block : LocatedBlock) → get_by_text space.names src ≡ Some (entries.File file)
      → AddsLast (space_of space nodes) nodes.count src file previous excludes (space_of space' nodes) block → AddsNew src file previous excludes block p q
  adds_last src file previous excludes block is h =
      let most = min file.attributes.replication 256 in
      let few : length (places excludes file.attributes.replication nodes.count) ≤ file.attributes.replication = omega (arith, free_few (is_named excludes) most nodes.count) in
      let on = sym h.adds.on in
      record {
        id = h.adds.id;
        entry = h.adds.entry;
        first = h.first;
        fresh = record {
          absent = h.adds.absent;
          empty = h.adds.empty;
          some = subst (λ (ns : List (List ℕ)). 0 < length ns) on h.some;
          few = subst (λ (ns : List (List ℕ)). length ns ≤ file.attributes.replication) on few;
          apart = subst (IsDistinct bytes_eq) on h.apart;
          bare = subst (All (λ node. held_in nodes node h.adds.id ≡ [])) on h.adds.bare;
          others = subst (All (λ node. Contains (uuids excludes) node → ⊥)) on
              (all_free (is_named excludes) most (λ node. Contains (uuids excludes) node → ⊥) nodes.count (λ k below is. not_among excludes (uuid_of k) is));
        };
        answered = h.adds.answered;
        changes = changes_space _ _ (h.adds.behind file is) h.adds.listed;
      }

  takes_last : (src : List ℕ) (file : FileEntry) (block : Block) → TakesOrNot (get_by_text space.names) (table_of space.table.entries) src file block (get_by_text space'.names) (table_of space'.table.entries) → Abandons src file block p q
  takes_last src file block (inl taken) = inl (record { gone = taken.gone; changes = changes_space _ _ taken.shorter taken.listed })
  takes_last src file block (inr kept) = inr (kept.0, changes_space _ _ kept.1 kept.2)

  module _ (i : ℕ) (here : i ≡ settings.active) (text : List ℕ) where
    pub answers_created : (ask : CreateAsk) → text ≡ ask.src → (status : FileStatusMsg)
        → HasStatus (new_file ask.masked ask.replication ask.block_size) (Some status) → create_refusal (kinds_in (get_by_text space.names)) text (overwrites ask.create_flag) ask.create_parent ≡ None
        → ((path : List ℕ) → get_by_text space'.names path ≡ with_parents (get_by_text space.names) entries.Dir text (entries.File (new_file ask.masked ask.replication ask.block_size)) path)
        → ((id : ℕ) → table_of space'.table.entries id ≡ table_without (table_of space.table.entries) (blocks_at (get_by_text space.names text)) id)
        → Answers p i (asks.Create ask) (Ok (answers.Create (Some status))) q
    answers_created ask is status told allowed names table =
        subst (λ (s : List ℕ). Answers p i (asks.Create (record ask { src = s })) (Ok (answers.Create (Some status))) q) is
        (here, refl, tt, (allowed, told, record { none = refl; is_open = refl; changes = changes_space _ _ names table }))

    pub answers_not_created : (ask : CreateAsk) → text ≡ ask.src → (fault : AskFault)
        → StandsForWritten (kinds_in (get_by_text space.names) text) (create_refusal (kinds_in (get_by_text space.names)) text (overwrites ask.create_flag) ask.create_parent) fault → SameSpace space space'
        → Answers p i (asks.Create ask) (Err fault) q
    answers_not_created ask is faults.NoMemory excused same = same_space same
    answers_not_created ask is (faults.Exception class message) excused same =
        subst (λ (s : List ℕ). Answers p i (asks.Create (record ask { src = s })) (Err (faults.Exception class message)) q) is
        (excused.1, same_space same, inr (here, inl excused.0))
    answers_not_created ask is faults.Broken excused same = absurd excused
    answers_not_created ask is (faults.BadReply fault) excused same = absurd excused
    answers_not_created ask is (faults.Fatal class message) excused same = absurd excused

    closes_if : (b : Bool) (file : FileEntry) (last : Option Block) → ((path : List ℕ) → get_by_text space'.names path ≡ cond b (with_entry (get_by_text space.names) text (with_open file false) path) (get_by_text space.names path))
        → ((id : ℕ) → table_of space'.table.entries id ≡ cond b (with_length (table_of space.table.entries) last id) (table_of space.table.entries id)) → ClosesIf b text file last p q
    closes_if true file last names table = changes_space _ _ names table
    closes_if false file last names table = changes_space _ _ names table

    pub answers_completed : (ask : CompleteAsk) → text ≡ ask.src → (file : FileEntry) × (get_by_text space.names text ≡ Some (entries.File file)) × IsLast file.blocks ask.last
        × ((path : List ℕ) → get_by_text space'.names path ≡ cond file.is_open (with_entry (get_by_text space.names) text (with_open file false) path) (get_by_text space.names path))
        × ((id : ℕ) → table_of space'.table.entries id ≡ cond file.is_open (with_length (table_of space.table.entries) ask.last id) (table_of space.table.entries id))
        → Answers p i (asks.Complete ask) (Ok (answers.Complete true)) q
    answers_completed ask is done =
        subst (λ (s : List ℕ). Answers p i (asks.Complete (record ask { src = s })) (Ok (answers.Complete true)) q) is
        (here, refl, tt, (done.0, done.1, (done.2, closes_if done.0.is_open done.0 ask.last done.3 done.4)))

    pub answers_not_completed : (ask : CompleteAsk) → text ≡ ask.src → (fault : AskFault)
        → StandsForStray ((file : FileEntry) → get_by_text space.names text ≡ Some (entries.File file) → IsLast file.blocks ask.last → ⊥) fault → SameSpace space space'
        → Answers p i (asks.Complete ask) (Err fault) q
    answers_not_completed ask is faults.NoMemory stray same = same_space same
    answers_not_completed ask is (faults.Exception class message) stray same =
        subst (λ (s : List ℕ). Answers p i (asks.Complete (record ask { src = s })) (Err (faults.Exception class message)) q) is
        (stray.2, same_space same, inr (here, inr (inl (stray.0, stray.1))))
    answers_not_completed ask is faults.Broken stray same = absurd stray
    answers_not_completed ask is (faults.BadReply fault) stray same = absurd stray
    answers_not_completed ask is (faults.Fatal class message) stray same = absurd stray

    pub answers_added : (ask : AddBlockAsk) → text ≡ ask.src → (outs : List DatanodeInfo) → outs ≡ ask.excludes → (block : LocatedBlock) → (file : FileEntry) × (get_by_text space.names text ≡ Some (entries.File file))
        × (GivesLast (space_of space nodes) file ask.previous (space_of space' nodes) block
        ⊎ AddsLast (space_of space nodes) nodes.count text file ask.previous outs (space_of space' nodes) block)
        → Answers p i (asks.AddBlock ask) (Ok (answers.AddBlock block)) q
    answers_added ask is outs is_outs block done =
        subst (λ (l : List DatanodeInfo). Answers p i (asks.AddBlock (record ask { excludes = l })) (Ok (answers.AddBlock block)) q) is_outs
        (subst (λ (s : List ℕ). Answers p i (asks.AddBlock (record ask { src = s; excludes = outs })) (Ok (answers.AddBlock block)) q) is
        (here, refl, tt, (done.0, done.1, ⊎_elim (λ again. inl (gives_last text done.0 ask.previous block again)) (λ new. inr (adds_last text done.0 ask.previous outs block done.1 new)) done.2)))

    pub answers_not_added : (ask : AddBlockAsk) → text ≡ ask.src → (fault : AskFault)
        → StandsForStray ((file : FileEntry) → get_by_text space.names text ≡ Some (entries.File file) → file.is_open ≡ true → HasBlock file.blocks ask.previous → ⊥) fault
        → ((path : List ℕ) → get_by_text space'.names path ≡ get_by_text space.names path) × ((id : ℕ) → table_of space'.table.entries id ≡ table_of space.table.entries id)
        → Answers p i (asks.AddBlock ask) (Err fault) q
    answers_not_added ask is faults.NoMemory stray same = same_looks same
    answers_not_added ask is (faults.Exception class message) stray same =
        subst (λ (s : List ℕ). Answers p i (asks.AddBlock (record ask { src = s })) (Err (faults.Exception class message)) q) is
        (stray.2, same_looks same, inr (here, inr (inl (stray.0, stray.1))))
    answers_not_added ask is faults.Broken stray same = absurd stray
    answers_not_added ask is (faults.BadReply fault) stray same = absurd stray
    answers_not_added ask is (faults.Fatal class message) stray same = absurd stray

    pub answers_abandoned : (ask : AbandonBlockAsk) → text ≡ ask.src → (file : FileEntry) × (get_by_text space.names text ≡ Some (entries.File file)) × (file.is_open ≡ true)
        × TakesOrNot (get_by_text space.names) (table_of space.table.entries) text file ask.block (get_by_text space'.names) (table_of space'.table.entries)
        → Answers p i (asks.AbandonBlock ask) (Ok answers.AbandonBlock) q
    answers_abandoned ask is done =
        subst (λ (s : List ℕ). Answers p i (asks.AbandonBlock (record ask { src = s })) (Ok answers.AbandonBlock) q) is
        (here, refl, tt, (done.0, done.1, done.2, takes_last text done.0 ask.block done.3))

    pub answers_not_abandoned : (ask : AbandonBlockAsk) → text ≡ ask.src → (fault : AskFault)
        → StandsForStray ((file : FileEntry) → get_by_text space.names text ≡ Some (entries.File file) → file.is_open ≡ true → MayBeGivenUp (table_of space.table.entries) file ask.block → ⊥) fault
        → (space'.names ≡ space.names) × (space'.table ≡ space.table)
        → Answers p i (asks.AbandonBlock ask) (Err fault) q
    answers_not_abandoned ask is faults.NoMemory stray same = same_parts same
    answers_not_abandoned ask is (faults.Exception class message) stray same =
        subst (λ (s : List ℕ). Answers p i (asks.AbandonBlock (record ask { src = s })) (Err (faults.Exception class message)) q) is
        (stray.2, same_parts same, inr (here, inr (inl (stray.0, stray.1))))
    answers_not_abandoned ask is faults.Broken stray same = absurd stray
    answers_not_abandoned ask is (faults.BadReply fault) stray same = absurd stray
    answers_not_abandoned ask is (faults.Fatal class message) stray same = absurd stray
