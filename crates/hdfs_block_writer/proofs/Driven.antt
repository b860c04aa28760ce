-- What a block has over a pipeline it has over the same one driven on.
use Rattle.std.proofs.Common.{◌≡◌, ◌⊎◌, ⊎_elim, ℕ, ◌+◌, ◌<◌, ◌≤◌, List, [], ◌∷◌, ◌++◌, length, take, drop, Some, None, refl, sym, ◌∙◌, ap, subst, arith, append_assoc, take-append-drop}
use Rattle.std.proofs.lemmas.List.{append-nil, drop-take, length-drop, take-append-le, take-take}
use Rattle.hdfs_wire.specs.Outgoing.{Outgoing}
use Rattle.hdfs_cluster.specs.Picture.{Picture}
use Rattle.hdfs_cluster.specs.Sending.{WritePlace}
use Rattle.hdfs_cluster.specs.Shown.{Shown}
use Rattle.hdfs_cluster.specs.Writing.{GoesFurther, OnlyBlock}
use Rattle.hdfs_pipeline.specs.Driving.{Drove, SentMore, Settles}
use Rattle.hdfs_pipeline.specs.Pipelines.{Pipeline}
use Rattle.hdfs_pipeline.proofs.DrivingOn.{none_or_has}
use Rattle.hdfs_block_reader.specs.Carrying.{AreSlices, LinkHolds, total}
use Rattle.hdfs_block_reader.specs.Rebuilding.{IsListed}
use Rattle.hdfs_block_reader.proofs.Links.{each_holds, holds_goes}
use Rattle.hdfs_block_reader.proofs.Listed.{listed_after}
use Rattle.hdfs_block_reader.proofs.OnlyBlocks.{only_block_same}
use Rattle.hdfs_block_reader.proofs.Prefixes.{slices_front, slices_join, total_cut}
use Rattle.hdfs_rebuild.specs.declared.block_plan.BlockPipeline.{BlockPipeline}
use Rattle.hdfs_rebuild.specs.Between.{OnlyBlockOf}
use Rattle.hdfs_block_writer.specs.OpenPipelines.{Has, id_of, nodes_of}
use Rattle.hdfs_rebuild.proofs.Replaying.{nothing_cut}
use Rattle.hdfs_rebuild.proofs.Stepping.{only_block_of-only, written_still}

-- the slices behind the first of some packets
pub slices_behind : (bytes : List ℕ) (front more : List Outgoing) (at : ℕ) → AreSlices bytes at (front ++ more)
    → AreSlices bytes (at + total front) more
slices_behind bytes [] more at slices = subst (λ (n : ℕ). AreSlices bytes n more) (omega arith) slices
slices_behind bytes (p ∷ front) more at slices =
    subst (λ (n : ℕ). AreSlices bytes n more) (omega arith) (slices_behind bytes front more (at + length p.payload) slices.3)

-- the first packets of a list, and then some of those behind
pub total_take : (packets : List Outgoing) (k n : ℕ) → total (take (k + n) packets) ≡ total (take k packets) + total (take n (drop k packets))
total_take packets k n =
    total_cut (take (k + n) packets) k
    ∙ omega (arith, ap total (take-take k (k + n) packets (omega arith)), ap total (drop-take k n packets))

module _ (pipe : BlockPipeline) (more rest : List Outgoing) (a b : Shown) (core' : Pipeline) (drove : Drove pipe.link more pipe.core a core' b)
    (goes : (more ≡ []) ⊎ (pipe.core.end ≡ None)) (p : Picture) (safe : ℕ) (bytes : List ℕ) (told : a.picture ≡ Some p)
    (has : Has p pipe (more ++ rest) safe bytes) where
  abbrev after : (q : Picture) × (place' : WritePlace) × (b.picture ≡ Some q) × (q.writes pipe.link ≡ Some place')
      × GoesFurther p has.on.place q place' × SentMore has.on.place more core' place' × Settles place' core' (has.on.settled + drove.acknowledged)
  after = drove.told p has.on.place has.on.settled told has.on.told has.settles

  abbrev pub drove_picture : Picture
  drove_picture = after.0

  abbrev n : ℕ
  n = drove.acknowledged

  abbrev pushed : List Outgoing
  pushed = pipe.core.pushed

  -- the packets that were sent stand behind the others in the block
  sent_slices : AreSlices bytes (has.on.start + total has.on.place.sent) after.5.sent
  sent_slices = ⊎_elim
      (λ none.
      subst (AreSlices bytes (has.on.start + total has.on.place.sent)) (sym (nothing_cut after.5.sent after.5.rest (sym none ∙ after.5.cut))) tt)
      (λ going.
      let g = has.settles.going going in
      let all : pushed ≡ drop has.on.settled has.on.place.sent =
      has.settles.behind ∙ ap (λ (xs : List Outgoing). drop has.on.settled has.on.place.sent ++ xs) g.0
      ∙ append-nil (drop has.on.settled has.on.place.sent) in
      let at : safe + total pushed ≡ has.on.start + total has.on.place.sent =
      omega (arith, ap total all, has.on.settles, total_cut has.on.place.sent has.on.settled) in
      slices_front bytes after.5.sent (after.5.rest ++ rest) (has.on.start + total has.on.place.sent)
      (subst (λ (k : ℕ). AreSlices bytes k (after.5.sent ++ (after.5.rest ++ rest))) at
      (subst (AreSlices bytes (safe + total pushed))
      (ap (λ (xs : List Outgoing). xs ++ rest) after.5.cut ∙ append_assoc after.5.sent after.5.rest rest)
      (slices_behind bytes pushed (more ++ rest) safe has.slices))))
      goes

  pub drove_sent : AreSlices bytes has.on.start after.1.sent
  drove_sent =
      subst (AreSlices bytes has.on.start) (sym after.5.behind)
      (slices_join bytes has.on.place.sent after.5.sent has.on.start has.on.slices sent_slices)

  -- what is settled of the packets that were sent before
  before_sent : (k : ℕ) → k ≤ length has.on.place.sent → total (take k after.1.sent) ≡ total (take k has.on.place.sent)
  before_sent k few = ap (λ (xs : List Outgoing). total (take k xs)) after.5.behind ∙ ap total (take-append-le k has.on.place.sent after.5.sent few)

  pub drove_settles : has.on.start + total (take (has.on.settled + n) after.1.sent) ≡ safe + total (take n pushed)
  drove_settles = ⊎_elim
      (λ going.
      let g = has.settles.going going in
      let all : pushed ≡ drop has.on.settled has.on.place.sent =
      has.settles.behind ∙ ap (λ (xs : List Outgoing). drop has.on.settled has.on.place.sent ++ xs) g.0
      ∙ append-nil (drop has.on.settled has.on.place.sent) in
      let few : has.on.settled + n ≤ length has.on.place.sent =
      omega (arith, has.on.few, drove.goes.few, ap length all, length-drop has.on.settled has.on.place.sent) in
      omega (
        arith,
        before_sent (has.on.settled + n) few,
        total_take has.on.place.sent has.on.settled n,
        ap (λ (xs : List Outgoing). total (take n xs)) all,
        has.on.settles,
      ))
      (λ ended.
      let none : n ≡ 0 = (drove.goes.ended ended).1 in
      omega (
        arith,
        ap (λ (k : ℕ). total (take (has.on.settled + k) after.1.sent)) none,
        ap (λ (k : ℕ). total (take k after.1.sent)) (plus_zero has.on.settled),
        before_sent has.on.settled has.on.few,
        ap (λ (k : ℕ). total (take k pushed)) none,
        has.on.settles,
      ))
      (none_or_has pipe.core.end)
    where
      plus_zero : (k : ℕ) → k + 0 ≡ k
      plus_zero k = omega arith

  abbrev pub drove_on : LinkHolds drove_picture pipe.link (id_of pipe) (nodes_of pipe) (safe + total (take n pushed)) bytes
  drove_on =
      holds_goes p pipe.link (id_of pipe) (nodes_of pipe) safe bytes has.on after.0 after.1 (safe + total (take n pushed)) (has.on.settled + n)
      after.3 after.4.moves after.4.stays drove_sent after.6.few drove_settles
      (λ i within. (after.6.received i (subst (λ (ns : List (List ℕ)). i < length ns) (sym (after.4.moves.nodes ∙ has.on.same_nodes)) within)).0)

  drove_only : OnlyBlock (id_of pipe) (nodes_of pipe) p drove_picture
  drove_only =
      only_block_same has.on.place.block (id_of pipe) has.on.place.nodes (nodes_of pipe) p after.0 has.on.block has.on.same_nodes after.4.only

  drove_lists : IsListed drove_picture (id_of pipe) (nodes_of pipe) bytes
  drove_lists = record {
    entry = has.lists.entry;
    is = drove_only.records.table (id_of pipe) ∙ has.lists.is;
    same_nodes = has.lists.same_nodes;
    prefixes =
        listed_after p after.0 (id_of pipe) (nodes_of pipe) (nodes_of pipe) bytes
        (λ node none. drove_only.held node (id_of pipe) (λ same there. none there))
        (λ i lt. (each_holds after.0 pipe.link (id_of pipe) (nodes_of pipe) (safe + total (take n pushed)) bytes drove_on i lt).0)
        has.lists.prefixes;
  }

  -- the packets that aren't acknowledged then stand behind those that are
  drove_slices : AreSlices bytes (safe + total (take n pushed)) (core'.pushed ++ rest)
  drove_slices =
      slices_behind bytes (take n pushed) (core'.pushed ++ rest) safe
      (subst (AreSlices bytes safe)
      (ap (λ (xs : List Outgoing). xs ++ (more ++ rest)) (sym (take-append-drop n pushed))
      ∙ append_assoc (take n pushed) (drop n pushed) (more ++ rest)
      ∙ ap (λ (xs : List Outgoing). take n pushed ++ xs)
      (sym (append_assoc (drop n pushed) more rest) ∙ ap (λ (xs : List Outgoing). xs ++ rest) (sym drove.goes.pushed)))
      has.slices)

  -- The block has over the pipeline what it had: what was acknowledged meanwhile is safe too. Nothing changed but the block.
  pub has_drove : (q : Picture) × (b.picture ≡ Some q)
      × Has q (record pipe { core = core' }) rest (safe + total (take drove.acknowledged pipe.core.pushed)) bytes
      × OnlyBlockOf (id_of pipe) p q × (q.table (id_of pipe) ≡ p.table (id_of pipe))
  has_drove = (
    after.0,
    after.2,
    record {
      file = written_still p after.0 pipe.plan.src pipe.plan.block.b pipe.plan.block.b drove_only.records.names refl has.file;
      on = drove_on;
      lists = drove_lists;
      settles = after.6;
      slices = drove_slices;
    },
    only_block_of-only (id_of pipe) (nodes_of pipe) p after.0 drove_only,
    drove_only.records.table (id_of pipe),
  )
