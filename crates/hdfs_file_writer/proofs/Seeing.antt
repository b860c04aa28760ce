-- What a writer of a file is, and what it does without a namenode, is so in each view of a cluster: no view hides links, and where the picture
-- is hidden nothing is told of it. And what a call comes to behind one that wrote, as the service behind both calls sees it.
use Rattle.std.proofs.Common.{◌≡◌, ℕ, zero, suc, Bool, List, Option, None, sym, subst, ◌++◌, refl}
use Rattle.hdfs_cluster.specs.declared.messages.LocatedBlock.{LocatedBlock}
use Rattle.hdfs_cluster.specs.Failures.{NodesFailTimes}
use Rattle.hdfs_cluster.specs.Picture.{Picture}
use Rattle.hdfs_cluster.specs.Shown.{Shown}
use Rattle.hdfs_cluster.proofs.Frames.{later_refl}
use Rattle.hdfs_cluster.proofs.Times.{fails_later, fails_since}
use Rattle.hdfs_namenode.specs.Views.{View, Whole, OfService, see, Seen, view_of}
use Rattle.hdfs_block_writer.specs.BlockWriters.{Stands as StandsItself}
use Rattle.hdfs_block_writer.specs.declared.block_writer.BlockWriter.{BlockWriter}
use Rattle.hdfs_namenode.proofs.Seeing.{later_seen, view_same}
use Rattle.hdfs_rebuild.proofs.Seeing.{opens_none_seen, reads_seen}
use Rattle.hdfs_block_writer.proofs.Seeing.{over_seen, over_shown}
use Rattle.hdfs_file_writer.specs.declared.file_writer.FileWriter.{FileWriter}
use Rattle.hdfs_file_writer.specs.declared.sizes.WriteSizes.{WriteSizes}
use Rattle.hdfs_file_writer.specs.Tries.{NotSetUp}
use Rattle.hdfs_file_writer.specs.Writers.{BlockStands, CarriesMore, OnlyOwnLink, Stands, Tallies, Wrote, rebuilds_of, FailsOtherwise, IsAnswered, Keeps, MayAdd, tail_of}
use Rattle.hdfs_file_writer.proofs.Steps.{Shows}
use Rattle.hdfs_cluster.specs.declared.asks.Answer.{Answer}
use Rattle.hdfs_cluster.specs.declared.asks.Ask.{Ask}
use Rattle.hdfs_cluster.specs.declared.errors.HdfsError.{HdfsError}
use Rattle.hdfs_cluster.specs.Requests.{LetsWrite, Request}
use Rattle.hdfs_namenode.specs.Asked.{IsServiceOf}
use Rattle.hdfs_namenode.specs.Clients.{SameClient, name_of, proxy_of, through}
use Rattle.hdfs_namenode.specs.declared.protocol.NamenodeProtocol.{NamenodeProtocol}
use Rattle.hdfs_namenode.proofs.Services.{same_client_trans, service_same}
use Rattle.hdfs_file_writer.specs.Tails.{IsFull, going_of}
use Rattle.hdfs_file_writer.proofs.Allowed.{at_file}
use Rattle.hdfs_file_writer.proofs.Joining.{fails_after, keeps_trans, wrote_trans}
use Rattle.hdfs_file_writer.proofs.LastBlocks.{no_rebuilds}

-- what holds of the picture holds of the one that is seen
pub shows_seen : (view : View) (P : Picture → Type 0) (s : Shown) → Shows P s → Shows P (see view s)
shows_seen Whole P s h = h
shows_seen (OfService first count) P s h = λ p is. absurd (cc is)

-- A writer of a block stands just where it does so in a view,
pub itself_seen : (view : View) (s : Shown) (block : BlockWriter) → StandsItself s block → StandsItself (see view s) block
itself_seen view s block h pipe is =
    let parts = h pipe is in
    (parts.0, over_seen view parts.1, parts.2, parts.3)

pub itself_shown : (view : View) (s : Shown) (block : BlockWriter) → StandsItself (see view s) block → StandsItself s block
itself_shown view s block h pipe is =
    let parts = h pipe is in
    (parts.0, over_shown view parts.1, parts.2, parts.3)

-- as one of a file,
pub block_seen : (view : View) (s : Shown) {path : List ℕ} {sizes : WriteSizes} {block : BlockWriter} → BlockStands s path sizes block
    → BlockStands (see view s) path sizes block
block_seen view s {path} {sizes} {block} h = record {
  limited = h.limited;
  stands = itself_seen view s block h.stands;
  size = h.size;
  chunk = h.chunk;
  packet_size = h.packet_size;
  settings = h.settings;
  plain = h.plain;
  plan = h.plan;
}

pub block_shown : (view : View) (s : Shown) {path : List ℕ} {sizes : WriteSizes} {block : BlockWriter} → BlockStands (see view s) path sizes block
    → BlockStands s path sizes block
block_shown view s {path} {sizes} {block} h = record {
  limited = h.limited;
  stands = itself_shown view s block h.stands;
  size = h.size;
  chunk = h.chunk;
  packet_size = h.packet_size;
  settings = h.settings;
  plain = h.plain;
  plan = h.plan;
}

-- and a writer of a file.
pub stands_seen : (view : View) (s : Shown) {writer : FileWriter} → Stands s writer → Stands (see view s) writer
stands_seen view s {writer} h = record {
  packets = h.packets;
  going = λ block is. block_seen view s (h.going block is);
  is_open = h.is_open;
  idle = h.idle;
  reopened = h.reopened;
  done = h.done;
}

pub stands_shown : (view : View) (s : Shown) {writer : FileWriter} → Stands (see view s) writer → Stands s writer
stands_shown view s {writer} h = record {
  packets = h.packets;
  going = λ block is. block_shown view s (h.going block is);
  is_open = h.is_open;
  idle = h.idle;
  reopened = h.reopened;
  done = h.done;
}

-- a first pipeline wasn't set up
pub not_set_up_seen : (view : View) {client : List ℕ} {created : Bool} {located : LocatedBlock} {s t : Shown} {fault : HdfsError}
    → NotSetUp client created located s fault t → NotSetUp client created located (see view s) fault (see view t)
not_set_up_seen view {client} {created} {located} {s} {t} {fault} h = record {
  setup = h.setup;
  first = h.first;
  none = opens_none_seen view h.none;
}

-- a writer's own link
pub own_link_seen : (view : View) {s t : Shown} {before after : Option ℕ} → OnlyOwnLink s before t after
    → OnlyOwnLink (see view s) before (see view t) after
own_link_seen view {s} {t} {before} {after} h = record {
  later = later_seen view s t h.later;
  reads = reads_seen view h.reads;
  others = h.others;
  none = h.none;
  fresh = h.fresh;
}

-- what it carries
carries_more_seen : (view : View) (s t : Shown) (writer writer' : FileWriter) (more : List ℕ) → CarriesMore s writer more t writer'
    → CarriesMore (see view s) writer more (see view t) writer'
carries_more_seen Whole s t writer writer' more h = h
carries_more_seen (OfService first count) s t writer writer' more h = λ p bytes is. absurd (cc is)

-- datanodes have failed so often
pub times_seen : (view : View) (times : ℕ) (s t : Shown) → NodesFailTimes times s t → NodesFailTimes times (see view s) (see view t)
times_seen view zero s t h = later_seen view s t h
times_seen view (suc times) s t h = (see view h.0, times_seen view times s h.0 h.1, later_seen view h.0 t h.2, h.3)

-- Where no block is being written, a tally is one of the calls alone.
tallies_seen : (view : View) (s t : Shown) (writer writer' : FileWriter) → going_of writer.tail ≡ None → Tallies s writer t writer'
    → Tallies (see view s) writer (see view t) writer'
tallies_seen view s t writer writer' none h start fails =
    let idle : rebuilds_of writer ≡ 0 = no_rebuilds writer.tail none in
    let times : NodesFailTimes (rebuilds_of writer') s t = h s (subst (λ (n : ℕ). NodesFailTimes n s s) (sym idle) (later_refl s)) in
    fails_since (rebuilds_of writer') start (see view s) (see view t) (fails_later (rebuilds_of writer) start (see view s) fails)
    (times_seen view (rebuilds_of writer') s t times)

-- what was written without a namenode
pub wrote_seen : (view : View) {s t : Shown} {writer writer' : FileWriter} {more : List ℕ} → going_of writer.tail ≡ None → Wrote s writer more t writer'
    → Wrote (see view s) writer more (see view t) writer'
wrote_seen view {s} {t} {writer} {writer'} {more} none h = record {
  keeps = h.keeps;
  own = own_link_seen view h.own;
  tallies = tallies_seen view s t writer writer' none h.tallies;
  carries = carries_more_seen view s t writer writer' more h.carries;
}

module _ {C : Type 0} (shown : C → Shown) {n n' : NamenodeProtocol} (s m : C) (client : SameClient n n') {v w x : FileWriter} (same : v ≡ w)
    {one : List ℕ} (wrote : Seen shown (through n s) m (λ old new. Wrote old v one new x)) where
  -- the writer that wrote is this one
  wrote_first : Seen shown (through n s) m (λ old new. Wrote old w one new x)
  wrote_first view has = subst (λ (u : FileWriter). Wrote (see view (shown s)) u one (see view (shown m)) x) same (wrote view has)

  kept : Keeps w x
  kept = (wrote_first (view_of (proxy_of n)) (refl, refl)).keeps

  -- the service asks namenodes of the cluster still
  pub service_behind : IsServiceOf (proxy_of n) (shown s) → IsServiceOf (proxy_of n') (shown m)
  service_behind of =
      service_same (proxy_of n) (proxy_of n') (shown s) (shown m) client.service
      (wrote_first (view_of (proxy_of n)) (refl, refl)).own.later.namenodes of

  -- two calls join where what they come to does
  pub seen_behind : (c : C) {P Q : Shown → Shown → Type 0} → ((a b d : Shown) → Wrote a w one b x → P b d → Q a d)
      → Seen shown (through n' m) c P → Seen shown (through n s) c Q
  seen_behind c joins then view has =
      let first = wrote_first view has in
      joins (see view (shown s)) (see view (shown m)) (see view (shown c)) first
      (then view (view_same view (proxy_of n) (proxy_of n') (shown s) (shown m) client.service first.own.later.namenodes has))

  -- more is written behind it,
  pub wrote_behind : (c : C) (two : List ℕ) (y : FileWriter) → Seen shown (through n' m) c (λ old new. Wrote old x two new y)
      → Seen shown (through n s) c (λ old new. Wrote old w (one ++ two) new y)
  wrote_behind c two y then = seen_behind c (λ a b d. wrote_trans a b d w x y one two) then

  -- or a call fails
  pub fails_behind : (c : C) (e : HdfsError) → Seen shown (through n' m) c (λ old new. FailsOtherwise old x e new)
      → Seen shown (through n s) c (λ old new. FailsOtherwise old w e new)
  fails_behind c e then = seen_behind c (λ a b d. fails_after a b d w x one e) then

  -- both calls keep what each does
  pub keeps_behind : (y : FileWriter) (n'' : NamenodeProtocol) → Keeps x y × SameClient n' n'' → Keeps w y × SameClient n n''
  keeps_behind y n'' then = (keeps_trans w x y kept then.0, same_client_trans n n' n'' client then.1)

  module _ (allows : Request → Type 0) (may_answer : Ask → Answer → Type 0) where
    -- the file may be written still
    pub allowed_behind : LetsWrite allows may_answer (name_of n) w.path w.file_id → LetsWrite allows may_answer (name_of n') x.path x.file_id
    allowed_behind allowed =
        subst (λ (name : List ℕ). LetsWrite allows may_answer name x.path x.file_id) (sym client.name)
        (at_file (λ path file_id. LetsWrite allows may_answer (name_of n) path file_id) w x kept allowed)

    -- a block may be asked for behind one that is full
    pub adds_behind : IsServiceOf (proxy_of n) (shown s) → LetsWrite allows may_answer (name_of n) w.path w.file_id
        → IsAnswered may_answer (name_of n) x → (IsFull v.sizes.block_size (tail_of v) → IsFull v.sizes.block_size (tail_of x)) → IsFull w.sizes.block_size (tail_of w)
        → MayAdd allows may_answer n' (shown m) x
    adds_behind of allowed answered stays full = record {
      service = service_behind of;
      allowed = allowed_behind allowed;
      answered = subst (λ (name : List ℕ). IsAnswered may_answer name x) (sym client.name) answered;
      full = subst (λ (z : WriteSizes). IsFull z.block_size (tail_of x)) (sym kept.sizes)
          (subst (λ (u : FileWriter). IsFull u.sizes.block_size (tail_of u) → IsFull u.sizes.block_size (tail_of x)) same stays full);
    }
