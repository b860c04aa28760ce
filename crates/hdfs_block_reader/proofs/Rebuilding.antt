-- A block whose pipeline fails: what stays of it whatever fails, and how it waits for another pipeline.
use Rattle.std.proofs.Common.{◌≡◌, ◌≢◌, ◌⊎◌, inl, inr, ⊎_elim, ℕ, ◌+◌, ◌<◌, ◌≤◌, List, [], ◌∷◌, length, take, Some, sym, ◌∙◌, subst, arith}
use Rattle.std.proofs.lemmas.List.{get_or_default, length-map}
use Rattle.std.specs.List.{All, Contains, slice_index_or}
use Rattle.hdfs_wire.specs.Outgoing.{Outgoing}
use Rattle.hdfs_cluster.specs.declared.messages.Setup.{Setup}
use Rattle.hdfs_cluster.specs.declared.messages.Transfer.{Transfer}
use Rattle.hdfs_cluster.specs.Picture.{Picture}
use Rattle.hdfs_cluster.specs.Sending.{Response, uuids}
use Rattle.hdfs_cluster.specs.Stores.{HoldsPrefix}
use Rattle.hdfs_cluster.specs.Transferring.{GivesAll, GivesSome, given_by}
use Rattle.hdfs_cluster.specs.Writing.{Starts, Sends, MayBeBehind, Responds, Releases, OnlyBlock}
use Rattle.hdfs_block_reader.specs.Carrying.{total, AreSlices, LinkHolds, LinkCarries, LinkGoesOn, BlockView, BlockCarries}
use Rattle.hdfs_block_reader.specs.Rebuilding.{IsListed, BlockHolds, BlockWaits}
use Rattle.hdfs_block_reader.proofs.Beginning.{link_begins_from}
use Rattle.hdfs_block_reader.proofs.Further.{holds_further, holds_settled}
use Rattle.hdfs_block_reader.proofs.Links.{each_holds, safe_within, holds_stays, holds_responds, holds_sends, ended_holds}
use Rattle.hdfs_block_reader.proofs.Listed.{contains_cases, listed_after}
use Rattle.hdfs_block_reader.proofs.OnlyBlocks.{only_block_same, only_block_from-Sends, only_block_from-Responds, only_block_from-Releases, other_held, other_link}

-- these held bytes are a prefix of a block's bytes, and have all in them that are safe
abbrev HasSafe : List ℕ → ℕ → List ℕ → Type 0
HasSafe bytes safe held = (held ≡ take (length held) bytes) × (safe ≤ length held)

-- A picture with the same entry of a block, of which the same is held, lists the same.
listed_stays : (p q : Picture) (id : ℕ) (listed : List (List ℕ)) (bytes : List ℕ) → IsListed p id listed bytes
    → q.table id ≡ p.table id → ((node : List ℕ) → q.held node id ≡ p.held node id) → IsListed q id listed bytes
listed_stays p q id listed bytes l table held = record {
  entry = l.entry;
  is = table ∙ l.is;
  same_nodes = l.same_nodes;
  prefixes = λ k d lt. subst (λ (b : List ℕ). b ≡ take (length b) bytes) (sym (held (slice_index_or listed k d))) (l.prefixes k d lt);
}

-- A writer that carries a block's bytes has what stays whatever fails.
pub holds_of : (p : Picture) (view : BlockView) (bytes : List ℕ) → BlockCarries p view bytes
    → BlockHolds p view.id view.link view.nodes view.nodes view.safe bytes
holds_of p view bytes c = record {
  on = c.linked.on;
  some = c.some;
  lists = record {
    entry = c.entry;
    is = c.is;
    same_nodes = c.same_listed;
    prefixes = subst (All (HoldsPrefix (λ node. p.held node view.id) bytes)) c.same_listed c.listed;
  };
}

-- What a block has whatever fails, it has after these calls too.
module _ (p q : Picture) (id link : ℕ) (listed nodes : List (List ℕ)) (safe : ℕ) (bytes : List ℕ)
    (c : BlockHolds p id link listed nodes safe bytes) where
  -- where nothing changed but the block at the link's datanodes, which hold prefixes, all that are listed hold prefixes
  listed_goes : OnlyBlock c.on.place.block c.on.place.nodes p q
      → ((i : ℕ) → i < length nodes → HoldsPrefix (λ node. q.held node id) bytes (slice_index_or nodes i [])) → IsListed q id listed bytes
  listed_goes only own =
      let here : OnlyBlock id nodes p q =
      only_block_same c.on.place.block id c.on.place.nodes nodes p q c.on.block c.on.same_nodes only in
      record {
        entry = c.lists.entry;
        is = here.records.table id ∙ c.lists.is;
        same_nodes = c.lists.same_nodes;
        prefixes = listed_after p q id listed nodes bytes (λ node none. here.held node id (λ same there. none there)) own c.lists.prefixes;
      }

  -- the link goes on, with as much safe as before or more
  goes_on : (safe' : ℕ) → OnlyBlock c.on.place.block c.on.place.nodes p q → LinkHolds q link id nodes safe' bytes
      → BlockHolds q id link listed nodes safe' bytes
  goes_on safe' only on = record {
    on = on;
    some = c.some;
    lists = listed_goes only (λ i lt. (each_holds q link id nodes safe' bytes on i lt).0);
  }

  -- a response of any kind keeps it: an acknowledgement with any statuses, one of another packet, or a connection that broke
  pub block_responds : (response : Response) → Responds link response p q → BlockHolds q id link listed nodes safe bytes
  block_responds response responds =
      goes_on safe (only_block_from-Responds p q link c.on.place c.on.told response responds)
      (holds_responds p link id nodes safe bytes c.on q response responds)

  -- so does a send that broke, whether the packet stands behind the others then or doesn't
  pub block_sends : (packet : Outgoing) → AreSlices bytes (c.on.start + total c.on.place.sent) (packet ∷ [])
      → Sends link (MayBeBehind packet) p q → BlockHolds q id link listed nodes safe bytes
  block_sends packet slice sends =
      goes_on safe (only_block_from-Sends p q link c.on.place c.on.told (MayBeBehind packet) sends)
      (holds_sends p link id nodes safe bytes c.on q packet slice sends)

  module _ (further : LinkGoesOn p q link c.on.place) (slices : AreSlices bytes (c.on.start + total c.on.place.sent) further.more) where
    -- so do several calls on the link, whatever came of them
    pub block_further : BlockHolds q id link listed nodes safe bytes
    block_further = goes_on safe further.only (holds_further p q link id nodes safe bytes c.on further slices)

    -- what each datanode has received then is safe
    pub block_settles : (settled : ℕ) → settled ≤ length further.later.sent
        → ((i : ℕ) → i < length nodes → settled ≤ further.later.received i)
        → BlockHolds q id link listed nodes (c.on.start + total (take settled further.later.sent)) bytes
    block_settles settled few received =
        goes_on (c.on.start + total (take settled further.later.sent)) further.only
        (holds_settled p q link id nodes safe bytes c.on further slices settled few received)

  -- other calls keep it, which leave the link, the block's entry and what is held of it
  pub block_stays : q.writes link ≡ Some c.on.place → q.table id ≡ p.table id → ((node : List ℕ) → q.held node id ≡ p.held node id)
      → BlockHolds q id link listed nodes safe bytes
  block_stays told table held = record {
    on = holds_stays p link id nodes safe bytes c.on q told (λ i lt. held (slice_index_or nodes i []));
    some = c.some;
    lists = listed_stays p q id listed bytes c.lists table held;
  }

  -- so do those that change nothing but another block
  pub block_apart : (other : ℕ) (others : List (List ℕ)) → OnlyBlock other others p q → id ≢ other
      → BlockHolds q id link listed nodes safe bytes
  block_apart other others only apart =
      block_stays (other_link p q other others only id apart link c.on.place c.on.told c.on.block) (only.records.table id)
      (other_held p q other others only id apart)

  -- Once the link is ended the block waits, with any of its datanodes that are left.
  pub block_waits : Releases link p q → (left : List (List ℕ)) → All (Contains nodes) left → BlockWaits q id listed left safe bytes
  block_waits gone left among = record {
    within = safe_within p link id nodes safe bytes c.on c.some;
    lists = listed_goes (only_block_from-Releases p q link c.on.place c.on.told gone) (λ i lt. (held i lt).0);
    each = λ k d lt.
        (let there = among k d lt in
        subst (λ (node : List ℕ). HasSafe bytes safe (q.held node id))
        (get_or_default nodes there.0 [] (slice_index_or left k d) there.1 ∙ there.2) (held there.0 there.1));
  }
    where
      held : (i : ℕ) → i < length nodes → HasSafe bytes safe (q.held (slice_index_or nodes i []) id)
      held = ended_holds p q link id nodes safe bytes c.on gone

-- A block that waits with some datanodes waits with any of them.
pub waits_left : (p : Picture) (id : ℕ) (listed nodes left : List (List ℕ)) (safe : ℕ) (bytes : List ℕ)
    → BlockWaits p id listed nodes safe bytes → All (Contains nodes) left → BlockWaits p id listed left safe bytes
waits_left p id listed nodes left safe bytes c among = record {
  within = c.within;
  lists = c.lists;
  each = λ k d lt.
      (let there = among k d lt in
      subst (λ (node : List ℕ). HasSafe bytes safe (p.held node id)) there.2 (c.each there.0 (slice_index_or left k d) there.1));
}

-- It waits still where its entry stays, and what is held of it.
pub waits_stays : (p q : Picture) (id : ℕ) (listed nodes : List (List ℕ)) (safe : ℕ) (bytes : List ℕ)
    → BlockWaits p id listed nodes safe bytes → q.table id ≡ p.table id → ((node : List ℕ) → q.held node id ≡ p.held node id)
    → BlockWaits q id listed nodes safe bytes
waits_stays p q id listed nodes safe bytes c table held = record {
  within = c.within;
  lists = listed_stays p q id listed bytes c.lists table held;
  each = λ k d lt. subst (HasSafe bytes safe) (sym (held (slice_index_or nodes k d))) (c.each k d lt);
}

-- where nothing changed but another block, too
pub waits_apart : (p q : Picture) (id : ℕ) (listed nodes : List (List ℕ)) (safe : ℕ) (bytes : List ℕ)
    → BlockWaits p id listed nodes safe bytes → (other : ℕ) (others : List (List ℕ)) → OnlyBlock other others p q → id ≢ other
    → BlockWaits q id listed nodes safe bytes
waits_apart p q id listed nodes safe bytes c other others only apart =
    waits_stays p q id listed nodes safe bytes c (only.records.table id) (other_held p q other others only id apart)

-- a transfer to all targets is one to some
pub gives_some : (transfer : Transfer) (p q : Picture) → GivesAll transfer p q → GivesSome transfer p q
gives_some transfer p q gives = record { only = gives.only; links = gives.links; each = λ k d lt. inl (gives.each k d lt) }

-- After a transfer to some of its targets.
module _ (transfer : Transfer) (p q : Picture) (gives : GivesSome transfer p q) where
  -- a datanode holds of the block what the source held, or what it held itself
  held_after : (node : List ℕ)
      → (q.held node transfer.block.block_id ≡ given_by transfer p)
      ⊎ (q.held node transfer.block.block_id ≡ p.held node transfer.block.block_id)
  held_after node = ⊎_elim
      (λ there. subst
      (λ (n : List ℕ). (q.held n transfer.block.block_id ≡ given_by transfer p)
      ⊎ (q.held n transfer.block.block_id ≡ p.held n transfer.block.block_id))
      there.2 (gives.each there.0 node there.1))
      (λ none. inr (gives.only.held node transfer.block.block_id (λ same there. none there)))
      (contains_cases (uuids transfer.targets) node)

  -- what holds of both holds of it
  held_by : (P : List ℕ → Type 0) (node : List ℕ) → P (given_by transfer p) → P (p.held node transfer.block.block_id)
      → P (q.held node transfer.block.block_id)
  held_by P node given own = ⊎_elim (λ is. subst P (sym is) given) (λ is. subst P (sym is) own) (held_after node)

-- After one from a datanode with which the block waits.
module _ (p q : Picture) (transfer : Transfer) (listed left : List (List ℕ)) (safe : ℕ) (bytes : List ℕ)
    (c : BlockWaits p transfer.block.block_id listed left safe bytes) (source : Contains left transfer.source.id.datanode_uuid) where
  -- what the source gives has all that is safe
  given_safe : HasSafe bytes safe (given_by transfer p)
  given_safe =
      subst (λ (node : List ℕ). HasSafe bytes safe (p.held node transfer.block.block_id)) source.2
      (c.each source.0 transfer.source.id.datanode_uuid source.1)

  -- the block waits with the datanodes that are left, whichever targets were given it
  waits_given : GivesSome transfer p q → BlockWaits q transfer.block.block_id listed left safe bytes
  waits_given gives = record {
    within = c.within;
    lists = record {
      entry = c.lists.entry;
      is = gives.only.records.table transfer.block.block_id ∙ c.lists.is;
      same_nodes = c.lists.same_nodes;
      prefixes = λ k d lt.
          held_by transfer p q gives (λ b. b ≡ take (length b) bytes) (slice_index_or listed k d) given_safe.0 (c.lists.prefixes k d lt);
    };
    each = λ k d lt. held_by transfer p q gives (HasSafe bytes safe) (slice_index_or left k d) given_safe (c.each k d lt);
  }

  -- and with all targets too, where they were
  waits_with : (nodes : List (List ℕ)) → GivesAll transfer p q
      → All (λ node. Contains (uuids transfer.targets) node ⊎ Contains left node) nodes
      → BlockWaits q transfer.block.block_id listed nodes safe bytes
  waits_with nodes gives among = record {
    within = c.within;
    lists = stays.lists;
    each = λ k d lt. one (slice_index_or nodes k d) (among k d lt);
  }
    where
      stays : BlockWaits q transfer.block.block_id listed left safe bytes
      stays = waits_given (gives_some transfer p q gives)

      one : (node : List ℕ) → Contains (uuids transfer.targets) node ⊎ Contains left node
          → HasSafe bytes safe (q.held node transfer.block.block_id)
      one node (inl there) =
          subst (λ (n : List ℕ). HasSafe bytes safe (q.held n transfer.block.block_id)) there.2
          (subst (HasSafe bytes safe) (sym (gives.each there.0 node there.1)) given_safe)
      one node (inr there) =
          subst (λ (n : List ℕ). HasSafe bytes safe (q.held n transfer.block.block_id)) there.2 (stays.each there.0 node there.1)

-- The same with another word for the block.
module _ (p q : Picture) (transfer : Transfer) (id : ℕ) (same : transfer.block.block_id ≡ id) (listed left : List (List ℕ)) (safe : ℕ)
    (bytes : List ℕ) (c : BlockWaits p id listed left safe bytes) (source : Contains left transfer.source.id.datanode_uuid) where
  waits_here : BlockWaits p transfer.block.block_id listed left safe bytes
  waits_here = subst (λ (i : ℕ). BlockWaits p i listed left safe bytes) (sym same) c

  -- A transfer from one of those that are left, which has failed: the block waits with these still, whichever targets were given it.
  pub waits_missed : GivesSome transfer p q → BlockWaits q id listed left safe bytes
  waits_missed gives =
      subst (λ (i : ℕ). BlockWaits q i listed left safe bytes) same
      (waits_given p q transfer listed left safe bytes waits_here source gives)

  -- One that hasn't: it waits with any datanodes of the targets and of those that are left.
  pub waits_joins_all : (nodes : List (List ℕ)) → GivesAll transfer p q
      → All (λ node. Contains (uuids transfer.targets) node ⊎ Contains left node) nodes → BlockWaits q id listed nodes safe bytes
  waits_joins_all nodes gives among =
      subst (λ (i : ℕ). BlockWaits q i listed nodes safe bytes) same
      (waits_with p q transfer listed left safe bytes waits_here source nodes gives among)

  -- With one target, it waits with any list of this and of those that are left, wherever it stands, and whether it is listed or isn't.
  pub waits_joins : (target : List ℕ) (nodes : List (List ℕ)) → uuids transfer.targets ≡ target ∷ [] → GivesAll transfer p q
      → All (λ node. (node ≡ target) ⊎ Contains left node) nodes → BlockWaits q id listed nodes safe bytes
  waits_joins target nodes one gives among =
      waits_joins_all nodes gives
      (λ k d lt. ⊎_elim (λ is. inl (in_targets (slice_index_or nodes k d) is)) (λ there. inr there) (among k d lt))
    where
      in_targets : (node : List ℕ) → node ≡ target → Contains (uuids transfer.targets) node
      in_targets node is = subst (λ (ns : List (List ℕ)). Contains ns node) (sym one) (0, omega arith, sym is)

-- A link is set up.
module _ (p q : Picture) (setup : Setup) (link id : ℕ) (same : setup.block.block_id ≡ id) (listed : List (List ℕ)) (safe : ℕ)
    (bytes : List ℕ) (c : BlockWaits p id listed (uuids setup.locs) safe bytes) (starts : Starts link setup p q) where
  waits_opening : BlockWaits p setup.block.block_id listed (uuids setup.locs) safe bytes
  waits_opening = subst (λ (i : ℕ). BlockWaits p i listed (uuids setup.locs) safe bytes) (sym same) c

  -- A link that was set up with the datanodes with which the block waits carries all that is safe, and nothing was sent yet.
  pub waits_opens : LinkCarries q link id (uuids setup.locs) safe [] bytes
  waits_opens =
      subst (λ (i : ℕ). LinkCarries q link i (uuids setup.locs) safe [] bytes) same
      (link_begins_from p q setup link safe bytes starts (λ i lt. waits_opening.each i [] lt))

  -- The block has what stays whatever fails on this link, where it has a datanode. The table lists those of the last pipeline.
  pub waits_holds : 0 < length setup.locs → BlockHolds q id link listed (uuids setup.locs) safe bytes
  waits_holds some = record {
    on = waits_opens.on;
    some = omega (arith, some, length-map setup.locs (λ node. node.id.datanode_uuid));
    lists = listed_stays p q id listed bytes c.lists (starts.files.table id) (λ node. starts.files.held node id);
  }
