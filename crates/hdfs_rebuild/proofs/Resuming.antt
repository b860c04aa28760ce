-- A pipeline is set up to go on with a block, packets are sent again on it, and it is named.
use Rattle.std.proofs.Common.{◌≡◌, inl, inr, ℕ, ◌+◌, ◌<◌, ◌≤◌, ◌==◌, List, [], ◌∷◌, ◌++◌, length, drop, Some, None, refl, sym, ◌∙◌, ap, subst, arith, append_assoc, eq-eqb}
use Rattle.std.proofs.lemmas.Bool.{cond-true}
use Rattle.std.specs.Prelude.{map}
use Rattle.std.specs.List.{slice_index_or}
use Rattle.std.proofs.lemmas.List.{append-nil, length-map}
use Rattle.hdfs_wire.specs.Outgoing.{Outgoing}
use Rattle.hdfs_cluster.specs.declared.messages.DatanodeInfo.{DatanodeInfo}
use Rattle.hdfs_cluster.specs.declared.messages.Setup.{Setup}
use Rattle.hdfs_cluster.specs.declared.picture.BlockEntry.{BlockEntry}
use Rattle.hdfs_cluster.specs.declared.picture.OpenWrite.{OpenWrite}
use Rattle.hdfs_cluster.specs.Effects.{names_of}
use Rattle.hdfs_cluster.specs.Namenode.{IsToWrite}
use Rattle.hdfs_cluster.specs.Picture.{Picture}
use Rattle.hdfs_cluster.specs.Pipes.{WriteOpened, nodes_of}
use Rattle.hdfs_cluster.specs.Sending.{WritePlace, uuids}
use Rattle.hdfs_cluster.specs.Shown.{Shown}
use Rattle.hdfs_cluster.specs.Writing.{IsFresh, Releases, Starts, GoesFurther}
use Rattle.hdfs_cluster.proofs.Frames.{told_after}
use Rattle.hdfs_pipeline.specs.Cores.{IsCore}
use Rattle.hdfs_pipeline.specs.Driving.{IsGoing, SentMore, Settles}
use Rattle.hdfs_pipeline.specs.Pipelines.{Pipeline, empty_pipeline}
use Rattle.hdfs_block_reader.specs.Carrying.{AreSlices, Awaits, LinkCarries, LinkGoesOn}
use Rattle.hdfs_block_reader.specs.Rebuilding.{BlockHolds, IsListed}
use Rattle.hdfs_block_reader.proofs.Links.{link_stays}
use Rattle.hdfs_block_reader.proofs.OnlyBlocks.{only_block_same, only_block_from-Releases, only_block_from-Starts}
use Rattle.hdfs_block_reader.proofs.Rebuilding.{waits_holds, waits_opens}
use Rattle.hdfs_block_reader.proofs.Recovering.{holds_named, replay_fails, replay_further}
use Rattle.hdfs_rebuild.specs.declared.block_plan.BlockPlan.{BlockPlan}
use Rattle.hdfs_rebuild.specs.declared.opening.Opening.{Opening}
use Rattle.hdfs_rebuild.specs.declared.replay.SentAgain.{SentAgain}
use Rattle.hdfs_rebuild.specs.Between.{OnlyBlockOf}
use Rattle.hdfs_rebuild.specs.Opening.{setup_for, with_stamp_of}
use Rattle.hdfs_rebuild.specs.Plans.{HasStamp, Known, Waits}
use Rattle.hdfs_rebuild.specs.Resuming.{MayBeNamed, NamesIt, SendsAgain}
use Rattle.hdfs_rebuild.proofs.Stepping.{only_block_of-named, only_block_of-only, only_block_of-same}

-- an empty pipeline is a core
pub empty_is_core : (window nodes : ℕ) → (1 ≤ window) × (window ≤ 1000) → (1 ≤ nodes) × (nodes ≤ 256) → IsCore (empty_pipeline window nodes)
empty_is_core window nodes windows some = record {
  window = windows;
  nodes = some;
  forgets = refl;
  few = omega arith;
  sent = omega arith;
  one = omega arith;
  within = omega arith;
  heartbeats = omega arith;
  failed = λ places is. absurd (cc is);
}

-- who the datanodes are, by their uuids
names_of_ids : (nodes : List DatanodeInfo) → names_of (map (λ node. node.id) nodes) ≡ uuids nodes
names_of_ids [] = refl
names_of_ids (node ∷ nodes) = ap (λ (names : List (List ℕ)). node.id.datanode_uuid ∷ names) (names_of_ids nodes)

pub some_is : {X : Type 0} (x y : X) → Some x ≡ Some y → x ≡ y
some_is x y is = cc

-- A place on which nothing was sent, and an empty pipeline with as many datanodes.
fresh_settles : (setup : Setup) (p : Picture) (place : WritePlace) (window : ℕ) → IsFresh setup p place
    → Settles place (empty_pipeline window (length setup.locs)) 0
fresh_settles setup p place window fresh =
    let many : length place.nodes ≡ length setup.locs = ap length fresh.nodes ∙ length-map setup.locs (λ node. node.id.datanode_uuid) in
    record {
      nodes = many;
      few = omega arith;
      unsent = [];
      behind = ap (λ (xs : List Outgoing). xs ++ []) (sym fresh.sent);
      received = λ i lt. (omega arith, omega (arith, fresh.received i (omega (arith, lt, many))));
      going = λ going. (refl, fresh.acknowledged);
    }

-- A pipeline was opened with the datanodes of a plan.
module _ (plan : BlockPlan) (opening : Opening) (client : List ℕ) (link : ℕ) (core : Pipeline) (a b : Shown)
    (to_write : IsToWrite plan.block) (windows : (1 ≤ opening.window) × (opening.window ≤ 1000))
    (empty : core ≡ empty_pipeline opening.window (length plan.block.locs)) (opened : WriteOpened a (setup_for plan opening client) link b) where
  abbrev new_write : OpenWrite
  new_write = record { setup = setup_for plan opening client; end = None; waiting = [] }

  pub opened_goes : IsGoing b link core
  opened_goes =
      subst (IsGoing b link) (sym empty)
      (record {
        drives = (new_write, opened.opened, λ going. record { nodes = refl; sent = refl; taken = refl; waiting = refl; heartbeats = refl });
        is_core = empty_is_core opening.window (length plan.block.locs) windows (to_write.some, to_write.few);
        going = refl;
      })

  pub opened_empty : core.pushed ≡ []
  opened_empty = ap (λ (c : Pipeline). c.pushed) empty

  pub opened_window : core.window ≡ opening.window
  opened_window = ap (λ (c : Pipeline). c.window) empty

  opened_setup : (write : OpenWrite) → b.writes link ≡ Some write → write ≡ new_write
  opened_setup write at = some_is write new_write (sym at ∙ opened.opened)

  -- the datanodes of the link are those of the plan
  pub opened_nodes : (write : OpenWrite) → b.writes link ≡ Some write → nodes_of write ≡ uuids plan.block.locs
  opened_nodes write at = ap nodes_of (opened_setup write at)

  -- Over a told picture in which the block waits.
  module _ (p : Picture) (known : Known) (told : a.picture ≡ Some p) (w : Waits p plan known) where
    abbrev after : (q : Picture) × (b.picture ≡ Some q) × Starts link (setup_for plan opening client) p q
    after = told_after (Starts link (setup_for plan opening client)) a.picture b.picture p opened.starts told

    abbrev pub opened_picture : Picture
    opened_picture = after.0

    pub opened_told : b.picture ≡ Some opened_picture
    opened_told = after.1

    pub opened_carries : LinkCarries opened_picture link plan.block.b.block_id (uuids plan.block.locs) known.safe [] known.bytes
    opened_carries =
        waits_opens p opened_picture (setup_for plan opening client) link plan.block.b.block_id refl known.listed known.safe known.bytes w.block
        after.2

    pub opened_lists : IsListed opened_picture plan.block.b.block_id known.listed known.bytes
    opened_lists =
        (waits_holds p opened_picture (setup_for plan opening client) link plan.block.b.block_id refl known.listed known.safe known.bytes w.block
        after.2 to_write.some).lists

    pub opened_only : OnlyBlockOf plan.block.b.block_id p opened_picture
    opened_only =
        only_block_of-only plan.block.b.block_id [] p opened_picture
        (only_block_from-Starts p opened_picture plan.block.b.block_id [] link (setup_for plan opening client) after.2 after.2.unused)

    pub opened_settles : Settles opened_carries.on.place core 0
    opened_settles =
        subst (λ (place : WritePlace). Settles place core 0)
        (some_is after.2.place opened_carries.on.place (sym after.2.at ∙ opened_carries.on.told))
        (subst (λ (c : Pipeline). Settles after.2.place c 0) (sym empty)
        (fresh_settles (setup_for plan opening client) p after.2.place opening.window after.2.fresh))

-- Packets were sent again on a link that carries all that is safe, and nothing else was sent on it.
module _ (plan : BlockPlan) (link : ℕ) (replay : List Outgoing) (core : Pipeline) (b m : Shown) (sent : SentAgain)
    (sends : SendsAgain link replay core b sent m) (empty : core.pushed ≡ []) (p : Picture) (known : Known) (told : b.picture ≡ Some p)
    (c : LinkCarries p link plan.block.b.block_id (uuids plan.block.locs) known.safe [] known.bytes)
    (lists : IsListed p plan.block.b.block_id known.listed known.bytes) (some : 0 < length plan.block.locs)
    (settles : Settles c.on.place core 0) where
  abbrev drove_told : (q : Picture) × (place' : WritePlace) × (m.picture ≡ Some q) × (q.writes link ≡ Some place')
      × GoesFurther p c.on.place q place' × SentMore c.on.place sent.core.pushed sent.core place'
      × Settles place' sent.core (0 + sends.drove.acknowledged)
  drove_told = sends.drove.told p c.on.place 0 told c.on.told settles

  unread : sends.drove.acknowledged ≡ 0
  unread = omega (arith, sends.drove.goes.few, ap length empty)

  abbrev pub sent_picture : Picture
  sent_picture = drove_told.0

  pub sent_told : m.picture ≡ Some sent_picture
  sent_told = drove_told.2

  abbrev pub sent_place : WritePlace
  sent_place = drove_told.1

  pub sent_at : sent_picture.writes link ≡ Some sent_place
  sent_at = drove_told.3

  pub sent_block : sent_place.block ≡ plan.block.b.block_id
  sent_block = drove_told.4.moves.block ∙ c.on.block

  pub sent_settled : Settles sent_place sent.core 0
  sent_settled = subst (Settles sent_place sent.core) (omega (arith, unread)) drove_told.6

  pub sent_only : OnlyBlockOf plan.block.b.block_id p sent_picture
  sent_only =
      only_block_of-only plan.block.b.block_id (uuids plan.block.locs) p sent_picture
      (only_block_same c.on.place.block plan.block.b.block_id c.on.place.nodes (uuids plan.block.locs) p sent_picture c.on.block
      c.on.same_nodes drove_told.4.only)

  pub sent_entry : sent_picture.table plan.block.b.block_id ≡ Some lists.entry
  sent_entry = drove_told.4.only.records.table plan.block.b.block_id ∙ lists.is

  -- The packets are slices of the block's bytes.
  module _ (slices : AreSlices known.bytes known.safe replay) where
    some_nodes : 0 < length (uuids plan.block.locs)
    some_nodes = omega (arith, some, length-map plan.block.locs (λ node. node.id.datanode_uuid))

    abbrev further : LinkGoesOn p sent_picture link c.on.place
    further = record {
      later = drove_told.1;
      at = drove_told.3;
      moves = drove_told.4.moves;
      held = drove_told.4.stays;
      only = drove_told.4.only;
      more = drove_told.5.sent;
      sent = drove_told.5.behind;
    }

    -- Whatever came of it, the block has what stays whatever fails.
    pub sent_holds : BlockHolds sent_picture plan.block.b.block_id link known.listed (uuids plan.block.locs) known.safe known.bytes
    sent_holds =
        replay_fails p sent_picture link plan.block.b.block_id (uuids plan.block.locs) known.safe known.bytes c further replay slices
        known.listed (drove_told.5.rest ++ sent.rest)
        (sends.pushed ∙ ap (λ (xs : List Outgoing). xs ++ sent.rest) drove_told.5.cut
        ∙ append_assoc drove_told.5.sent drove_told.5.rest sent.rest)
        some_nodes lists

    -- Where the pipeline goes on, the link carries the bytes again.
    module _ (going : sent.core.end ≡ None) where
      all_sent : drove_told.5.rest ≡ []
      all_sent = drove_told.5.all (λ places failed. cc)

      all_pushed : sent.core.pushed ≡ replay
      all_pushed = sym (sends.pushed ∙ ap (λ (xs : List Outgoing). sent.core.pushed ++ xs) (sends.all going) ∙ append-nil sent.core.pushed)

      all_more : further.more ≡ replay
      all_more =
          sym (drove_told.5.cut ∙ ap (λ (xs : List Outgoing). drove_told.5.sent ++ xs) all_sent ∙ append-nil drove_told.5.sent) ∙ all_pushed

      awaits : Awaits further.later (drop 0 replay)
      awaits =
          let g = sent_settled.going going in
          record {
            few = omega (arith, g.1);
            behind =
                ap (λ n. drop n drove_told.1.sent) g.1
                ∙ sym (sent_settled.behind ∙ ap (λ (xs : List Outgoing). drove_told.1.sent ++ xs) g.0 ∙ append-nil drove_told.1.sent) ∙ all_pushed;
            received = λ i lt. (omega (arith, g.1), (sent_settled.received i lt).1);
          }

      pub sent_carries : LinkCarries sent_picture link plan.block.b.block_id (uuids plan.block.locs) known.safe replay known.bytes
      sent_carries =
          subst (λ (n : ℕ). LinkCarries sent_picture link plan.block.b.block_id (uuids plan.block.locs) n replay known.bytes) (omega arith)
          (replay_further p sent_picture link plan.block.b.block_id (uuids plan.block.locs) known.safe known.bytes c further replay slices 0
          all_more awaits)

-- The pipeline is named then.
module _ (plan : BlockPlan) (stamp : ℕ) (link : ℕ) (p q : Picture) (known : Known) (names : NamesIt stamp plan p q)
    (c : BlockHolds p plan.block.b.block_id link known.listed (uuids plan.block.locs) known.safe known.bytes) where
  pub named_holds : BlockHolds q plan.block.b.block_id link (uuids plan.block.locs) (uuids plan.block.locs) known.safe known.bytes
  named_holds =
      holds_named p q plan.block.b.block_id (uuids plan.block.locs) (with_stamp_of plan.block.b stamp) plan.block.b
      (map (λ node. node.id) plan.block.locs) names refl (names_of_ids plan.block.locs) link known.listed known.safe known.bytes c

  pub named_carries : (replay : List Outgoing)
      → LinkCarries p link plan.block.b.block_id (uuids plan.block.locs) known.safe replay known.bytes
      → LinkCarries q link plan.block.b.block_id (uuids plan.block.locs) known.safe replay known.bytes
  named_carries replay l =
      link_stays p link plan.block.b.block_id (uuids plan.block.locs) known.safe replay known.bytes l q
      (names.changes.bytes.writes link ∙ l.on.told)
      (λ i lt. names.changes.bytes.held (slice_index_or (uuids plan.block.locs) i []) plan.block.b.block_id)

-- The block table has the generation stamp with which a block was named.
pub named_stamp : (plan : BlockPlan) (stamp : ℕ) (p q : Picture) → NamesIt stamp plan p q → HasStamp q plan.block.b
named_stamp plan stamp p q names =
    let id = plan.block.b.block_id in
    let entry : BlockEntry =
    record { length = names.entry.length; stamp = plan.block.b.generation_stamp; nodes = names_of (map (λ node. node.id) plan.block.locs) } in
    (entry, names.changes.table id ∙ cond-true (id == id) (Some entry) (p.table id) (eq-eqb id id refl), refl)

-- An ask to name it changes nothing but the block.
pub named_only : (plan : BlockPlan) (stamp : ℕ) (p q : Picture) → NamesIt stamp plan p q → OnlyBlockOf plan.block.b.block_id p q
named_only plan stamp p q named =
    only_block_of-named plan.block.b.block_id (with_stamp_of plan.block.b stamp) plan.block.b (map (λ node. node.id) plan.block.locs) p q refl named

pub may_be_named_only : (plan : BlockPlan) (stamp : ℕ) (p q : Picture) → MayBeNamed stamp plan p q → OnlyBlockOf plan.block.b.block_id p q
may_be_named_only plan stamp p q (inl still) = only_block_of-same plan.block.b.block_id p q still
may_be_named_only plan stamp p q (inr named) = named_only plan stamp p q named

-- and no link
pub may_be_named_writes : (plan : BlockPlan) (stamp : ℕ) (p q : Picture) (link : ℕ) → MayBeNamed stamp plan p q
    → q.writes link ≡ p.writes link
may_be_named_writes plan stamp p q link (inl still) = still.writes link
may_be_named_writes plan stamp p q link (inr named) = named.changes.bytes.writes link

-- A link with a block was ended, whatever it had done: nothing changed but the block.
pub released_only : (id link : ℕ) (p q : Picture) (place : WritePlace) → p.writes link ≡ Some place → place.block ≡ id → Releases link p q
    → OnlyBlockOf id p q
released_only id link p q place at same gone =
    subst (λ (i : ℕ). OnlyBlockOf i p q) same
    (only_block_of-only place.block place.nodes p q (only_block_from-Releases p q link place at gone))
