-- What changes nothing but one block at some datanodes, and what it leaves.
use Rattle.std.proofs.Common.{◌≡◌, ◌≢◌, ◌⊎◌, ⊎_elim, ℕ, List, [], length, take, Option, Some, None, refl, sym, ◌∙◌, ap, subst}
use Rattle.std.specs.List.{Contains, slice_index_or}
use Rattle.hdfs_wire.specs.Outgoing.{Outgoing}
use Rattle.hdfs_cluster.specs.declared.messages.Setup.{Setup}
use Rattle.hdfs_cluster.specs.declared.picture.BlockEntry.{BlockEntry}
use Rattle.hdfs_cluster.specs.Picture.{Picture, SamePicture}
use Rattle.hdfs_cluster.specs.Sending.{WritePlace, Response}
use Rattle.hdfs_cluster.specs.Stores.{StoresBlock}
use Rattle.hdfs_cluster.specs.Writing.{SameRecords, WritesAt, Starts, Sends, Responds, Releases, OnlyBlock}
use Rattle.hdfs_block_reader.specs.Carrying.{LinkHolds, LinkCarries, BlockView, BlockCarries, HoldsWhole}
use Rattle.hdfs_block_reader.proofs.Links.{holds_stays, link_stays}

pub same_records_refl : (p : Picture) → SameRecords p p
same_records_refl p = record { names = λ path. refl; table = λ id. refl; active = refl; defaults = refl; reads = λ link. refl }

pub same_records_trans : (a b c : Picture) → SameRecords a b → SameRecords b c → SameRecords a c
same_records_trans a b c f g = record { names = λ path. g.names path ∙ f.names path; table = λ id. g.table id ∙ f.table id; active = g.active ∙ f.active; defaults = g.defaults ∙ f.defaults; reads = λ link. g.reads link ∙ f.reads link }

pub same_records_from-SamePicture : (p q : Picture) → SamePicture p q → SameRecords p q
same_records_from-SamePicture p q same = record { names = same.rest.files.names; table = same.rest.files.table; active = same.active; defaults = same.rest.files.defaults; reads = same.rest.reads }

pub only_block_refl : (id : ℕ) (nodes : List (List ℕ)) (p : Picture) → OnlyBlock id nodes p p
only_block_refl id nodes p = record { records = same_records_refl p; held = λ node other apart. refl; writes = λ link place told apart. told }

pub only_block_trans : (id : ℕ) (nodes : List (List ℕ)) (a b c : Picture) → OnlyBlock id nodes a b → OnlyBlock id nodes b c → OnlyBlock id nodes a c
only_block_trans id nodes a b c f g = record {
  records = same_records_trans a b c f.records g.records;
  held = λ node other apart. g.held node other apart ∙ f.held node other apart;
  writes = λ link place told apart. g.writes link place (f.writes link place told apart) apart;
}

-- the same with other words for the block and the datanodes
pub only_block_same : (id id' : ℕ) (nodes nodes' : List (List ℕ)) (p q : Picture) → id ≡ id' → nodes ≡ nodes' → OnlyBlock id nodes p q → OnlyBlock id' nodes' p q
only_block_same id id' nodes nodes' p q same_id same_nodes only =
    subst (λ (ns : List (List ℕ)). OnlyBlock id' ns p q) same_nodes (subst (λ (i : ℕ). OnlyBlock i nodes p q) same_id only)

-- what changes less does so at more datanodes too
pub only_block_more : (id : ℕ) (nodes nodes' : List (List ℕ)) (p q : Picture) → ((node : List ℕ) → Contains nodes node → Contains nodes' node) → OnlyBlock id nodes p q → OnlyBlock id nodes' p q
only_block_more id nodes nodes' p q among only = record {
  records = only.records;
  held = λ node other apart. only.held node other (λ same there. apart same (among node there));
  writes = only.writes;
}

-- nothing changed
pub only_block_from-SamePicture : (id : ℕ) (nodes : List (List ℕ)) (p q : Picture) → SamePicture p q → OnlyBlock id nodes p q
only_block_from-SamePicture id nodes p q same = record {
  records = same_records_from-SamePicture p q same;
  held = λ node other apart. same.rest.files.held node other;
  writes = λ link place told apart. same.rest.writes link ∙ told;
}

-- A call on a write link changes nothing but its block at its datanodes.
module _ (p q : Picture) (link : ℕ) (write : WritePlace) (told : p.writes link ≡ Some write) where
  same_block : (other : ℕ) (place : WritePlace) → p.writes other ≡ Some place → other ≡ link → place.block ≡ write.block
  same_block other place there same = of_one (ap p.writes same ∙ told) there
    where
      of_one : {a b : WritePlace} → p.writes other ≡ Some a → p.writes other ≡ Some b → b.block ≡ a.block
      of_one one two = cc (one, two)

  pub only_block_from-WritesAt : WritesAt link p q → OnlyBlock write.block write.nodes p q
  only_block_from-WritesAt at = record {
    records = at.records;
    held = λ node other apart. at.held write told node other apart;
    writes = λ other place there apart.
        ⊎_elim (λ alone. alone.0) (λ disturbed. absurd (apart disturbed.2.shared)) (at.others write told other place (λ same. apart (same_block other place there same)) there);
  }

  -- it changes that, or nothing at all
  pub only_block_from-call : SamePicture p q ⊎ WritesAt link p q → OnlyBlock write.block write.nodes p q
  only_block_from-call h = ⊎_elim (only_block_from-SamePicture write.block write.nodes p q) only_block_from-WritesAt h

  pub only_block_from-Sends : (P : List Outgoing → List Outgoing → Type 0) → Sends link P p q → OnlyBlock write.block write.nodes p q
  only_block_from-Sends P sends = only_block_from-WritesAt sends.0

  pub only_block_from-Responds : (response : Response) → Responds link response p q → OnlyBlock write.block write.nodes p q
  only_block_from-Responds response responds = only_block_from-WritesAt responds.0

  pub only_block_from-Releases : Releases link p q → OnlyBlock write.block write.nodes p q
  only_block_from-Releases gone = only_block_from-WritesAt gone.0

-- A link that was set up where none was changes nothing of any block.
pub only_block_from-Starts : (p q : Picture) (id : ℕ) (nodes : List (List ℕ)) (link : ℕ) (setup : Setup) → Starts link setup p q → p.writes link ≡ None → OnlyBlock id nodes p q
only_block_from-Starts p q id nodes link setup starts none = record {
  records = record { names = starts.files.names; table = starts.files.table; active = starts.active; defaults = starts.files.defaults; reads = starts.reads };
  held = λ node other apart. starts.files.held node other;
  writes = λ other place there apart. starts.others other (λ same. not_there (ap p.writes same ∙ none) there) ∙ there;
}
  where
    not_there : {o : Option WritePlace} {place : WritePlace} → o ≡ None → o ≡ Some place → ⊥
    not_there absent there = cc (absent, there)

-- What is stored of another block stays.
module _ (p q : Picture) (id : ℕ) (nodes : List (List ℕ)) (only : OnlyBlock id nodes p q) (id' : ℕ) (apart : id' ≢ id) where
  -- what any datanode holds of it
  pub other_held : (node : List ℕ) → q.held node id' ≡ p.held node id'
  other_held node = only.held node id' (λ same there. apart (sym same))

  -- the link of another block
  pub other_link : (link : ℕ) (place : WritePlace) → p.writes link ≡ Some place → place.block ≡ id' → q.writes link ≡ Some place
  other_link link place told block = only.writes link place told (λ same. apart (sym block ∙ same))

  pub other_stores : (entry : BlockEntry) (bytes : List ℕ) → StoresBlock p id' entry bytes → StoresBlock q id' entry bytes
  other_stores entry bytes s = record {
    length = s.length;
    prefixes = λ k d lt. subst (λ (b : List ℕ). b ≡ take (length b) bytes) (sym (other_held (slice_index_or entry.nodes k d))) (s.prefixes k d lt);
    whole = (s.whole.0, s.whole.1, s.whole.2, s.whole.3, other_held s.whole.1 ∙ s.whole.4);
  }

  pub other_whole : (n : ℕ) (nodes' : List (List ℕ)) (bytes : List ℕ) → HoldsWhole p id' n nodes' bytes → HoldsWhole q id' n nodes' bytes
  other_whole n nodes' bytes h = record {
    entry = h.entry;
    is = only.records.table id' ∙ h.is;
    stores = other_stores (record h.entry { length = n }) bytes h.stores;
    whole = λ k d lt. other_held (slice_index_or nodes' k d) ∙ h.whole k d lt;
    some = h.some;
    same_listed = h.same_listed;
  }

  module _ (link : ℕ) (nodes' : List (List ℕ)) (safe : ℕ) (bytes : List ℕ) where
    pub other_link_holds : LinkHolds p link id' nodes' safe bytes → LinkHolds q link id' nodes' safe bytes
    other_link_holds c = holds_stays p link id' nodes' safe bytes c q (other_link link c.place c.told c.block) (λ i within. other_held (slice_index_or nodes' i []))

    pub other_link_carries : (unacknowledged : List Outgoing) → LinkCarries p link id' nodes' safe unacknowledged bytes → LinkCarries q link id' nodes' safe unacknowledged bytes
    other_link_carries unacknowledged c = link_stays p link id' nodes' safe unacknowledged bytes c q (other_link link c.on.place c.on.told c.on.block) (λ i within. other_held (slice_index_or nodes' i []))

-- What the writer of another block carries stays.
pub other_block_carries : (p q : Picture) (id : ℕ) (nodes : List (List ℕ)) → OnlyBlock id nodes p q → (view : BlockView) (bytes : List ℕ) → view.id ≢ id → BlockCarries p view bytes → BlockCarries q view bytes
other_block_carries p q id nodes only view bytes apart c = record {
  counted = c.counted;
  within = c.within;
  kept = c.kept;
  linked = other_link_carries p q id nodes only view.id apart view.link view.nodes view.safe bytes (take view.sent view.pending) c.linked;
  entry = c.entry;
  is = only.records.table view.id ∙ c.is;
  listed = λ k d lt. subst (λ (b : List ℕ). b ≡ take (length b) bytes) (sym (other_held p q id nodes only view.id apart (slice_index_or c.entry.nodes k d))) (c.listed k d lt);
  some = c.some;
  same_listed = c.same_listed;
}
