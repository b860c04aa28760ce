-- Openings that fail change nothing but counts, so a read may be opened behind some. A packet that is asked for moves at most the place of
-- its link, which matters no more once the link is ended. What stays kept to addresses that aren't tried stays so over both of two calls.
use Rattle.std.proofs.Common.{◌≡◌, ◌≢◌, inl, inr, ⊎_elim, ℕ, ◌<◌, ◌≤◌, List, length, Option, Some, None, refl, sym, ◌∙◌, ap, subst, arith}
use Rattle.std.specs.Prelude.{slice_get, IsSomeAnd}
use Rattle.hdfs_cluster.specs.declared.asks.LinkFault.{LinkFault}
use Rattle.hdfs_cluster.specs.declared.asks.LinkFault.TheVariants as faults
use Rattle.hdfs_cluster.specs.declared.messages.DatanodeId.{DatanodeId}
use Rattle.hdfs_cluster.specs.declared.messages.DatanodeInfo.{DatanodeInfo}
use Rattle.hdfs_cluster.specs.declared.messages.LocatedBlock.{LocatedBlock}
use Rattle.hdfs_cluster.specs.declared.messages.ReadAsk.{ReadAsk}
use Rattle.hdfs_cluster.specs.Picture.{Picture, SamePicture}
use Rattle.hdfs_cluster.specs.Shown.{Shown, IsStale, NotOpened, Opened}
use Rattle.hdfs_cluster.proofs.Frames.{told_refl, told_trans, same_files_trans, same_picture_refl, later_refl, later_trans}
use Rattle.hdfs_connections.specs.declared.connection_cache.ConnectionCache.{ConnectionCache}
use Rattle.hdfs_connections.specs.Connections.{kept_at}
use Rattle.hdfs_block_reader.specs.Blocks.{address_of_node, node_count}
use Rattle.hdfs_block_reader.specs.Connecting.{OpensBehind, WasAsked}
use Rattle.hdfs_block_reader.specs.Going.{Frame, Goes}
use Rattle.hdfs_block_reader.specs.Reader.{tried_of, Holds, IsAskFor, IsTriedAddress, KeepsConnections}
use Rattle.hdfs_block_reader.specs.declared.block_read.BlockRead.{BlockRead}
use Rattle.hdfs_block_reader.specs.declared.given_up.GivenUp.{GivenUp}
use Rattle.hdfs_block_reader.proofs.Going.{still_frame, still_goes, opened_goes, stopped_behind}
use Rattle.hdfs_block_reader.proofs.Joining.{goes_trans}
use Rattle.hdfs_block_reader.proofs.Locations.{tried_grows}
use Rattle.hdfs_block_reader.proofs.Taking.{given_frame}

-- nothing was opened yet
pub not_opened_yet : (s : Shown) (ask : ReadAsk) → NotOpened s None ask faults.NoMemory s
not_opened_yet s ask = record {
  later = later_refl s;
  last = refl;
  reads = λ link. refl;
  writes = λ link. refl;
  picture = told_refl SamePicture s.picture same_picture_refl;
  cause = λ other. absurd (other refl);
}

-- a picture that stays over both of two calls
same_picture_trans : (p q r : Picture) → SamePicture p q → SamePicture q r → SamePicture p r
same_picture_trans p q r f g = record {
  rest = record {
    files = same_files_trans p q r f.rest.files g.rest.files;
    reads = λ link. g.rest.reads link ∙ f.rest.reads link;
    writes = λ link. g.rest.writes link ∙ f.rest.writes link;
  };
  active = g.active ∙ f.active;
}

-- an opening behind others that failed
module _ (s t u : Shown) (ask : ReadAsk) (first : NotOpened s None ask faults.NoMemory t) where
  -- it failed too
  pub not_opened_behind : (kept : Option ℕ) (fault : LinkFault) → NotOpened t kept ask fault u → NotOpened s kept ask fault u
  not_opened_behind kept fault then = record {
    later = later_trans s t u first.later then.later;
    last = then.last ∙ first.last;
    reads = λ link. then.reads link ∙ first.reads link;
    writes = λ link. then.writes link ∙ first.writes link;
    picture = told_trans SamePicture s.picture t.picture u.picture same_picture_trans first.picture then.picture;
    cause = λ other. ⊎_elim (λ stale. inl stale) (λ rose. inr (omega (arith, first.later.counts.nodes ask.node.datanode_uuid, rose))) (then.cause other);
  }

  -- it counts as one on a fresh connection, where its fault doesn't rest on a kept one that was broken
  counts_afresh : (kept : Option ℕ) (fault fault' : LinkFault) → NotOpened t kept ask fault u → (fault' ≢ faults.NoMemory → (fault ≢ faults.NoMemory) × (IsStale kept fault → ⊥)) → NotOpened s None ask fault' u
  counts_afresh kept fault fault' then other = (let both = not_opened_behind kept fault then in
      record {
        later = both.later;
        last = both.last;
        reads = both.reads;
        writes = both.writes;
        picture = both.picture;
        cause = λ is. ⊎_elim (λ stale. absurd ((other is).1 stale)) (λ rose. inr rose) (both.cause (other is).0);
      })

  -- so nothing is open yet
  pub none_opened : (kept : Option ℕ) (fault : LinkFault) → NotOpened t kept ask fault u → NotOpened s None ask faults.NoMemory u
  none_opened kept fault then = counts_afresh kept fault faults.NoMemory then (λ other. absurd (other refl))

  -- and so does one whose connection wasn't broken
  pub not_opened_afresh : (kept : Option ℕ) (fault : LinkFault) → fault ≢ faults.Broken → NotOpened t kept ask fault u → NotOpened s None ask fault u
  not_opened_afresh kept fault unbroken then = counts_afresh kept fault fault then (λ other. (other, λ stale. unbroken stale.1))

  -- it was opened
  pub opens_behind : (link : ℕ) → Opened t ask link u → OpensBehind s ask link u
  opens_behind link opened = record { mid = t; behind = first; opened = opened }

-- nothing was asked, and the reader is as it was
pub stays_goes : (s : Shown) (r : BlockRead) → Holds s r → Goes s s r r
stays_goes s r holds = still_goes s s r holds (later_refl s) refl (λ l. refl) (λ l. refl) (told_refl SamePicture s.picture same_picture_refl)

-- a read was opened on the location that is tried, perhaps behind some that weren't
pub opens_goes : (s u : Shown) (r : BlockRead) (ask : ReadAsk) (l : ℕ) → Holds s r → r.link ≡ None → tried_of r < node_count r.block → OpensBehind s ask l u
    → IsAskFor r.block (tried_of r) r.client r.end ask → ask.offset ≡ r.wanted → Goes s u r (record r { link = Some l; position = None })
opens_goes s u r ask l holds idle left opens asked offset =
    let failed = opens.behind in
    let still = still_goes s opens.mid r holds failed.later failed.last failed.reads failed.writes failed.picture in
    goes_trans s opens.mid u r r (record r { link = Some l; position = None }) still
    (opened_goes opens.mid u r ask l still.frame.holds idle left opens.opened asked offset)

-- a packet was asked for, and the reader is as it was
pub asked_frame : (s t : Shown) (r : BlockRead) (l : ℕ) → Holds s r → r.link ≡ Some l → WasAsked s l t → Frame s t r r
asked_frame s t r l holds is (inl given) = given_frame s t r l given.0 holds is given.1
asked_frame s t r l holds is (inr (fault, failed)) = still_frame s t r holds failed.later failed.last failed.reads failed.writes failed.picture

-- a packet was asked for, and then the link was ended
pub asked_goes : (s t u : Shown) (r r' : BlockRead) (l : ℕ) → Holds s r → r.link ≡ Some l → WasAsked s l t → Frame t u r r' → r' ≡ record r { link = None; position = None } → Goes s u r r'
asked_goes s t u r r' l holds is asked frame = stopped_behind s t u r r r' holds (asked_frame s t r l holds is asked) refl frame

-- the addresses that two calls try
module _ (s t u : Shown) (q r w : BlockRead) (first : Goes s t q r) (then : Goes t u r w) where
  -- an address that the first call tries
  tried_first : (address : List ℕ) → IsTriedAddress q r address → IsTriedAddress q w address
  tried_first address (k, from, to, is) = (k, from, omega (arith, to, tried_grows t u r w then.locations), is)

  -- and one that the second call tries
  tried_then : (address : List ℕ) → IsTriedAddress r w address → IsTriedAddress q w address
  tried_then address (k, from, to, is) = (
    k,
    omega (arith, from, tried_grows s t q r first.locations),
    to,
    subst (λ (b : LocatedBlock). IsSomeAnd (slice_get b.locs k) (λ node. address ≡ address_of_node node.id)) first.frame.block is,
  )

  -- so what stays in each call stays over both
  pub keeps_connections_trans : (x y z : ConnectionCache) → KeepsConnections q r x y → KeepsConnections r w y z → KeepsConnections q w x z
  keeps_connections_trans x y z f g address none = g address (λ tried. none (tried_then address tried)) ∙ f address (λ tried. none (tried_first address tried))

-- a listed datanode's address is that of its location
listed_address : (info : Option DatanodeInfo) (node : DatanodeId) → IsSomeAnd info (λ listed. node ≡ listed.id) → IsSomeAnd info (λ listed. address_of_node node ≡ address_of_node listed.id)
listed_address None node is = absurd is
listed_address (Some listed) node is = ap address_of_node is

-- only connections to the address of the location that is tried have changed
pub keeps_others : (r r' : BlockRead) (x y : ConnectionCache) (given : List GivenUp) (node : DatanodeId) (address : List ℕ) → given ≡ r.given_up → tried_of r ≤ tried_of r'
    → IsSomeAnd (slice_get r.block.locs (length given)) (λ listed. node ≡ listed.id) → address ≡ address_of_node node → ((other : List ℕ) → other ≢ address → kept_at y other ≡ kept_at x other) → KeepsConnections r r' x y
keeps_others r r' x y given node address same grows listed is others other none =
    let tried : length given ≡ tried_of r = ap length same in
    let here : IsTriedAddress r r' (address_of_node node) = (length given, omega (arith, tried), omega (arith, tried, grows), listed_address (slice_get r.block.locs (length given)) node listed) in
    others other (λ it. none (subst (IsTriedAddress r r') (sym (it ∙ is)) here))
