-- How a write link begins and ends for a writer of a block.
use Rattle.std.proofs.Common.{◌≡◌, ℕ, suc, zero, ◌<◌, ◌≤◌, List, [], length, take, refl, sym, ◌∙◌, ap, subst, arith}
use Rattle.std.proofs.lemmas.List.{drop_all, get_or_default, length-map}
use Rattle.std.specs.List.{Contains, slice_index_or}
use Rattle.hdfs_wire.specs.Outgoing.{Outgoing}
use Rattle.hdfs_cluster.specs.declared.messages.Setup.{Setup}
use Rattle.hdfs_cluster.specs.Picture.{Picture}
use Rattle.hdfs_cluster.specs.Sending.{put_packets, uuids}
use Rattle.hdfs_cluster.specs.Stores.{HoldsPrefix}
use Rattle.hdfs_cluster.specs.Writing.{WritesAt, Starts, Releases}
use Rattle.hdfs_block_reader.specs.Carrying.{AreSlices, LinkCarries, BlockView, BlockCarries, HoldsWhole}
use Rattle.hdfs_block_reader.proofs.Prefixes.{prefix_short, take_whole}
use Rattle.hdfs_block_reader.proofs.Links.{ended_holds}
use Rattle.hdfs_block_reader.proofs.Listed.{first_listed, listed_after}

module _ (p q : Picture) (view : BlockView) (bytes : List ℕ) (c : BlockCarries p view bytes) (all : view.safe ≡ length bytes) where
  -- Once the link is gone, and all was acknowledged, each datanode of the pipeline holds the block whole.
  pub whole_at_end : Releases view.link p q → HoldsWhole q view.id view.length view.nodes bytes
  whole_at_end gone =
      let at : WritesAt view.link p q = gone.0 in
      let held = ended_holds p q view.link view.id view.nodes view.safe bytes c.linked.on gone in
      let each = λ (i : ℕ) (d : List ℕ) (lt : i < length view.nodes).
      ap (λ (n : List ℕ). q.held n view.id) (get_or_default view.nodes i d [] lt)
      ∙ (held i lt).0
      ∙ take_whole (length (q.held (slice_index_or view.nodes i []) view.id)) bytes (let h = (held i lt).1 in omega (arith, all, h)) in
      record {
        entry = c.entry;
        is = at.records.table view.id ∙ c.is;
        stores = record {
          length = sym c.counted;
          prefixes = listed_after p q view.id c.entry.nodes view.nodes bytes
              (λ node none. at.held c.linked.on.place c.linked.on.told node view.id (λ same there. none (subst (λ (ns : List (List ℕ)). Contains ns node) c.linked.on.same_nodes there)))
              (λ i lt. (held i lt).0) c.listed;
          whole = (0, slice_index_or view.nodes 0 [], (first_listed c.entry.nodes view.nodes c.same_listed c.some).0, (first_listed c.entry.nodes view.nodes c.same_listed c.some).1, each 0 [] c.some);
        };
        whole = each;
        some = c.some;
        same_listed = c.same_listed;
      }

take_none : (n : ℕ) (packets : List Outgoing) → packets ≡ [] → take n packets ≡ []
take_none zero packets none = refl
take_none (suc n) packets none = ap (take (suc n)) none

-- A new link for a block, each datanode of which holds a prefix with all that is acknowledged, goes on from there.
module _ (p q : Picture) (setup : Setup) (link safe : ℕ) (bytes : List ℕ) (starts : Starts link setup p q)
    (each : (i : ℕ) → i < length (uuids setup.locs) → HoldsPrefix (λ node. p.held node setup.block.block_id) bytes (slice_index_or (uuids setup.locs) i []) × (safe ≤ length (p.held (slice_index_or (uuids setup.locs) i []) setup.block.block_id))) where
  abbrev held_by : ℕ → List ℕ
  held_by i = p.held (slice_index_or (uuids setup.locs) i []) setup.block.block_id

  in_setup : (i : ℕ) → i < length (uuids setup.locs) → i < length setup.locs
  in_setup i lt = omega (arith, lt, length-map setup.locs (λ node. node.id.datanode_uuid))

  base_is : (i : ℕ) → i < length (uuids setup.locs) → starts.place.base i ≡ held_by i
  base_is i lt = starts.fresh.base i (in_setup i lt)

  pub link_begins_from : LinkCarries q link setup.block.block_id (uuids setup.locs) safe [] bytes
  link_begins_from = record {
    on = record {
      place = starts.place;
      told = starts.at;
      block = starts.fresh.block;
      same_nodes = starts.fresh.nodes;
      start = safe;
      base = λ i lt. subst (λ (b : List ℕ). (b ≡ take (length b) bytes) × (safe ≤ length b) × (length b ≤ length bytes)) (sym (base_is i lt)) ((each i lt).0, (each i lt).1, prefix_short bytes (held_by i) (each i lt).0);
      slices = subst (AreSlices bytes safe) (sym starts.fresh.sent) tt;
      settled = 0;
      few = omega arith;
      settles = omega arith;
      undisturbed = λ i lt. starts.fresh.disturbed i (in_setup i lt);
      holds = λ i lt.
          ap (λ (ns : List (List ℕ)). q.held (slice_index_or ns i []) starts.place.block) starts.fresh.nodes
          ∙ ap (q.held (slice_index_or (uuids setup.locs) i [])) starts.fresh.block
          ∙ starts.files.held (slice_index_or (uuids setup.locs) i []) setup.block.block_id
          ∙ sym (base_is i lt)
          ∙ ap (put_packets (starts.place.base i)) (sym (take_none (starts.place.received i) starts.place.sent starts.fresh.sent));
      received = λ i lt. (omega arith, (let none = starts.fresh.received i (in_setup i lt) in omega (arith, none)));
    };
    all = sym starts.fresh.acknowledged;
    behind = starts.fresh.sent;
  }

-- A link that was set up for a block that its datanodes hold whole carries the block's bytes.
module _ (p q : Picture) (setup : Setup) (link n : ℕ) (bytes : List ℕ) (starts : Starts link setup p q) (whole : HoldsWhole p setup.block.block_id n (uuids setup.locs) bytes) where
  pub link_begins : LinkCarries q link setup.block.block_id (uuids setup.locs) (length bytes) [] bytes
  link_begins = link_begins_from p q setup link (length bytes) bytes starts (λ i lt.
      (let h : p.held (slice_index_or (uuids setup.locs) i []) setup.block.block_id ≡ bytes = whole.whole i [] lt in
      (h ∙ sym (take_whole (length (p.held (slice_index_or (uuids setup.locs) i []) setup.block.block_id)) bytes (omega (arith, ap length h))), omega (arith, ap length h))))

  pub carries_begins : BlockCarries q (record { id = setup.block.block_id; length = n; nodes = uuids setup.locs; link = link; safe = length bytes; pending = []; sent = 0; filling = [] }) bytes
  carries_begins = record {
    counted = sym whole.stores.length;
    within = omega arith;
    kept = sym (drop_all (length bytes) bytes (omega arith));
    linked = link_begins;
    entry = whole.entry;
    is = starts.files.table setup.block.block_id ∙ whole.is;
    listed = λ k d lt. subst (λ (b : List ℕ). b ≡ take (length b) bytes) (sym (starts.files.held (slice_index_or whole.entry.nodes k d) setup.block.block_id)) (whole.stores.prefixes k d lt);
    some = whole.some;
    same_listed = whole.same_listed;
  }
