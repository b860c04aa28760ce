-- What each step of a writer of a file comes to.
use Rattle.std.proofs.Common.{◌≡◌, ⊎_elim, ℕ, ◌+◌, ◌≤◌, Bool, true, List, [], ◌++◌, length, Option, Some, None, IsSome, refl, sym, ◌∙◌, ap, subst}
use Rattle.std.proofs.lemmas.List.{append-nil}
use Rattle.std.specs.Prelude.{Contains, Ok, Err, slice_index_or}
use Rattle.hdfs_cluster.specs.declared.asks.Answer.TheVariants as answers
use Rattle.hdfs_cluster.specs.Asks.{add_block_ask}
use Rattle.hdfs_cluster.specs.declared.asks.LinkFault.{LinkFault}
use Rattle.hdfs_cluster.specs.declared.asks.LinkFault.TheVariants as link_faults
use Rattle.hdfs_cluster.specs.declared.errors.HdfsError.{HdfsError}
use Rattle.hdfs_cluster.specs.declared.errors.HdfsError.TheVariants as errors
use Rattle.hdfs_cluster.specs.declared.messages.Block.{Block}
use Rattle.hdfs_cluster.specs.declared.messages.DatanodeInfo.{DatanodeInfo}
use Rattle.hdfs_cluster.specs.declared.messages.LocatedBlock.{LocatedBlock}
use Rattle.hdfs_cluster.specs.declared.messages.Setup.{Setup}
use Rattle.hdfs_cluster.specs.declared.picture.Entry.{Entry}
use Rattle.hdfs_cluster.specs.Failures.{CallsRose, SetupsFailed}
use Rattle.hdfs_cluster.specs.Effects.{AddsBlock, blocks_at}
use Rattle.hdfs_cluster.specs.Picture.{Picture, SamePicture}
use Rattle.hdfs_cluster.specs.Pipes.{WriteNotOpened}
use Rattle.hdfs_cluster.specs.Sending.{uuids}
use Rattle.hdfs_cluster.specs.Shown.{Shown}
use Rattle.hdfs_cluster.specs.Sound.{IsSound}
use Rattle.hdfs_cluster.specs.Writing.{Starts}
use Rattle.hdfs_cluster.proofs.Failures.{setup_fails}
use Rattle.hdfs_cluster.proofs.Frames.{told_after}
use Rattle.hdfs_block_reader.specs.Carrying.{HoldsWhole}
use Rattle.hdfs_rebuild.specs.declared.block_plan.BlockPipeline.{BlockPipeline}
use Rattle.hdfs_rebuild.specs.declared.block_plan.BlockPlan.{BlockPlan}
use Rattle.hdfs_rebuild.specs.declared.block_plan.RebuildSettings.{RebuildSettings}
use Rattle.hdfs_rebuild.proofs.Stepping.{only_block_of-only}
use Rattle.hdfs_block_writer.specs.declared.block_writer.BlockWriter.{BlockWriter}
use Rattle.hdfs_block_writer.specs.BlockWriters.{HasFailed, length_of}
use Rattle.hdfs_block_writer.specs.OpenPipelines.{HasCause, KeepsBlock, id_of, nodes_of}
use Rattle.hdfs_block_writer.specs.Written.{Closes, GaveUp, IsCarrying, LetsGo, Wrote, IsNew, OpensLink, BeginsWhole, fault_of}
use Rattle.hdfs_block_writer.proofs.Wrote.{pipe_is}
use Rattle.hdfs_file_writer.specs.declared.file_writer.FileWriter.{FileWriter}
use Rattle.hdfs_file_writer.specs.declared.sizes.WriteSizes.{WriteSizes}
use Rattle.hdfs_file_writer.specs.Failing.{TellsWrite, CauseOfWrite, IsNoRefusal}
use Rattle.hdfs_file_writer.specs.Faults.{is_of_setup}
use Rattle.hdfs_file_writer.specs.OnlyFiles.{OnlyFile, SameFile}
use Rattle.hdfs_file_writer.specs.Tails.{last_of, tail_length, IsFull, FillsBlocks, StoresFront, TailCarries, FileCarries}
use Rattle.hdfs_file_writer.specs.declared.tails.Tail.{Tail}
use Rattle.hdfs_file_writer.specs.declared.tails.Tail.TheVariants.{Done, Reopened, Going}
use Rattle.hdfs_file_writer.specs.WholeBlocks.{StaysWhole}
use Rattle.hdfs_file_writer.specs.Writers.{BlockStands, blocks_in, plan_of, tail_done, tail_of, IsBetweenBlocks, CarriesMore, TouchesFile, LeavesFile}
use Rattle.hdfs_namenode.specs.Relaying.{Came}
use Rattle.hdfs_file_writer.proofs.Telling.{add_rose, added, not_added, fault_cause}
use Rattle.hdfs_file_writer.proofs.Blocks.{touches_own, going_more, going_ended, going_whole, tail_between, fills_same, fills_more, fills_trans, fills_grown}
use Rattle.hdfs_file_writer.proofs.Completing.{front_same}
use Rattle.hdfs_file_writer.proofs.Growing.{adding_repeats, grows}
use Rattle.hdfs_file_writer.proofs.Moving.{only_file_refl, only_file_trans, same_file_refl, same_file_trans}
use Rattle.hdfs_file_writer.proofs.Placing.{contains_last}
use Rattle.hdfs_file_writer.proofs.Touching.{only_file_active}
use Rattle.hdfs_file_writer.proofs.WholeBlocks.{stays_unchanged, stays_kept, stays_trans, stays_grown}

-- a law of the picture that is shown
abbrev pub Shows : (Picture → Type 0) → Shown → Type 0
Shows P shown = (p : Picture) → shown.picture ≡ Some p → P p

-- nothing was done
pub carries_nothing : (a : Shown) (writer : FileWriter) → CarriesMore a writer [] a writer
carries_nothing a writer p bytes told c = (
  p,
  told,
  subst (FileCarries p writer.path (tail_of writer)) (sym (append-nil bytes)) c,
  only_file_refl writer.path p,
  same_file_refl writer.path p,
  fills_same writer.sizes.block_size (blocks_in p writer) (blocks_in p writer) (tail_of writer) (tail_of writer) refl refl,
  stays_unchanged writer.sizes.block_size p (blocks_in p writer) (tail_of writer),
)

-- what a fault of a set-up says has failed, where first pipelines couldn't be set up
pub unopened_cause : (sizes : WriteSizes) (path : List ℕ) (a b : Shown) (fault : LinkFault)
    → (is_of_setup (fault_of fault) ≡ true → SetupsFailed sizes.setup_limit a.counts b.counts) → CauseOfWrite sizes path a b (fault_of fault)
unopened_cause sizes path a b link_faults.NoMemory setups = tt
unopened_cause sizes path a b link_faults.Broken setups = setups refl
unopened_cause sizes path a b link_faults.Refused setups = setups refl

-- as it is told
pub unopened_tells : (limit : ℕ) (a b : Shown) (fault : LinkFault)
    → (is_of_setup (fault_of fault) ≡ true → SetupsFailed limit a.counts b.counts) → TellsWrite a b (fault_of fault)
unopened_tells limit a b link_faults.NoMemory setups = (tt, (tt, tt))
unopened_tells limit a b link_faults.Broken setups = (tt, (tt, setup_fails limit a b (setups refl)))
unopened_tells limit a b link_faults.Refused setups = (tt, (tt, setup_fails limit a b (setups refl)))

-- and none is for encryption
pub unopened_apart : (fault : LinkFault) → IsNoRefusal (fault_of fault)
unopened_apart link_faults.NoMemory refusal = refusal
unopened_apart link_faults.Broken refusal = refusal
unopened_apart link_faults.Refused refusal = refusal

-- what is carried between blocks
pub as_done : (writer : FileWriter) → IsBetweenBlocks writer → (p : Picture) (path bytes : List ℕ) → FileCarries p path (tail_of writer) bytes
    → FileCarries p path (tail_done (last_of writer.tail)) bytes
as_done writer between p path bytes c = subst (λ (t : Tail). FileCarries p path t bytes) (tail_between writer between) c

-- and back
pub from_done : (p : Picture) (path : List ℕ) (writer : FileWriter) → IsBetweenBlocks writer → (bytes : List ℕ)
    → FileCarries p path (tail_done (last_of writer.tail)) bytes → FileCarries p path (tail_of writer) bytes
from_done p path writer between bytes c = subst (λ (t : Tail). FileCarries p path t bytes) (sym (tail_between writer between)) c

module _ (a b : Shown) (sound : Shows IsSound a) (sound' : Shows IsSound b) (writer : FileWriter) (block : BlockWriter) (going : writer.tail ≡ Going block) where
  as_going : (p : Picture) (bytes : List ℕ) → FileCarries p writer.path (tail_of writer) bytes → FileCarries p writer.path (Going block) bytes
  as_going p bytes c = subst (λ (t : Tail). FileCarries p writer.path t bytes) going c

  -- the block was ended, and has this name
  pub ended_carries : (writer' : FileWriter) (named : Block) → writer'.tail ≡ Done named → Closes a block named b → CarriesMore a writer [] b writer'
  ended_carries writer' named done closes p bytes told c =
      let c' = as_going p bytes c in
      let own = c'.carries.1 in
      let ends = closes.2 in
      let whole = ends.whole p c'.carries.0 told own in
      let only = whole.3 in
      let touches = touches_own p (sound p told) writer.path block bytes c' whole.0 (sound' whole.0 whole.1) only in
      let same : named.block_id ≡ id_of own.pipe = ap (λ (x : Block). x.block_id) closes.1 ∙ (ends.keeps own.pipe own.is).0.id in
      let long : named.num_bytes ≡ length_of block = ap (λ (x : Block). x.num_bytes) closes.1 in (
        whole.0,
        whole.1,
        subst (FileCarries whole.0 writer.path (tail_of writer')) (sym (append-nil bytes))
            (subst (λ (t : Tail). FileCarries whole.0 writer.path t bytes) (sym done)
            (going_ended p (sound p told) writer.path block bytes c' whole.0 named (uuids closes.0.block.locs) same only
            (subst (λ (n : ℕ). HoldsWhole whole.0 (id_of own.pipe) n (uuids closes.0.block.locs) c'.carries.0) (sym long) whole.2))),
        touches.0,
        touches.1,
        fills_same writer.sizes.block_size (blocks_in p writer) (blocks_in whole.0 writer) (tail_of writer) (tail_of writer')
            (ap blocks_at (only.names writer.path))
            (ap tail_length done ∙ long ∙ sym (ap tail_length going)),
        going_whole p (sound p told) writer.path block bytes c' whole.0 only writer.sizes.block_size (tail_of writer),
      )

  -- it was given up
  pub gave_up_touches : (fault : HdfsError) → GaveUp a block fault b → TouchesFile a writer b
  gave_up_touches fault gave p bytes told c =
      let c' = as_going p bytes c in
      let own = c'.carries.1 in
      let only = (gave own.pipe own.is).touches p told (c'.carries.0, own) in
      (only.0, only.1, (touches_own p (sound p told) writer.path block bytes c' only.0 (sound' only.0 only.1) only.2).0)

  -- and for its cause
  pub gave_up_cause : BlockStands a writer.path writer.sizes block → (fault : HdfsError) → GaveUp a block fault b → (p : Picture) (bytes : List ℕ)
      → a.picture ≡ Some p → FileCarries p writer.path (tail_of writer) bytes → CauseOfWrite writer.sizes writer.path a b fault
  gave_up_cause stands fault gave p bytes told c =
      let c' = as_going p bytes c in
      let own = c'.carries.1 in
      let gives = gave own.pipe own.is in
      let carrying : IsCarrying block p = (c'.carries.0, own) in
      let only = gives.touches p told carrying in
      fault_cause a b writer.path c'.file c'.carries.3.front own.pipe.plan c'.carries.3.ends only.0 only.1
      (only.2.names writer.path ∙ c'.named) (IsCarrying block) p told carrying writer.sizes fault (stands.plan own.pipe own.is).replication
      (subst (λ (r : RebuildSettings). HasCause r own.pipe.plan (IsCarrying block) a fault b) stands.settings gives.cause)

  -- more bytes went into it
  pub wrote_carries : (writer' : FileWriter) (block' : BlockWriter) (more : List ℕ) → writer'.tail ≡ Going block' → length_of block' ≤ writer.sizes.block_size → Wrote a block more b block' → CarriesMore a writer more b writer'
  wrote_carries writer' block' more going' within wrote p bytes told c =
      let c' = as_going p bytes c in
      let own = c'.carries.1 in
      let on = wrote.carries p c'.carries.0 told own in
      let only = on.3 in
      let touches = touches_own p (sound p told) writer.path block bytes c' on.0 (sound' on.0 on.1) only in
      let stays = wrote.stays own.pipe own.is in
      let keeps : KeepsBlock own.pipe.plan on.2.pipe.plan =
      subst (λ (x : BlockPipeline). KeepsBlock own.pipe.plan x.plan) (pipe_is stays.0 on.2.pipe (sym stays.1 ∙ on.2.is)) stays.2 in (
        on.0,
        on.1,
        subst (λ (t : Tail). FileCarries on.0 writer.path t (bytes ++ more)) (sym going')
            (going_more p (sound p told) writer.path block bytes c' on.0 block' more on.2 keeps only),
        touches.0,
        touches.1,
        fills_more writer.sizes.block_size (blocks_in p writer) (blocks_in on.0 writer) (tail_of writer) (tail_of writer') more
            (ap blocks_at (only.names writer.path))
            (ap tail_length going' ∙ wrote.length
            ∙ ap (λ (t : Tail). tail_length t + length more) (sym going))
            (subst (λ (t : Tail). tail_length t ≤ writer.sizes.block_size) (sym going') within),
        going_whole p (sound p told) writer.path block bytes c' on.0 only writer.sizes.block_size (tail_of writer),
      )

-- the blocks are filled as they are for another writer of the same file
fills_as : (p q : Picture) (w x y : FileWriter) (more : List ℕ) → x.path ≡ w.path → x.sizes ≡ w.sizes
    → FillsBlocks x.sizes.block_size (blocks_in p x) (tail_of x) more (blocks_in q x) (tail_of y)
    → FillsBlocks w.sizes.block_size (blocks_in p w) (tail_of x) more (blocks_in q w) (tail_of y)
fills_as p q w x y more same sizes fills =
    subst (λ (path : List ℕ). FillsBlocks w.sizes.block_size (blocks_at (p.names path)) (tail_of x) more (blocks_at (q.names path)) (tail_of y)) same
    (subst (λ (s : WriteSizes). FillsBlocks s.block_size (blocks_in p x) (tail_of x) more (blocks_in q x) (tail_of y)) sizes fills)

-- so are they whole
whole_as : (p q : Picture) (w x : FileWriter) → x.path ≡ w.path → x.sizes ≡ w.sizes
    → StaysWhole x.sizes.block_size p (blocks_in p x) (tail_of x) q (blocks_in q x)
    → StaysWhole w.sizes.block_size p (blocks_in p w) (tail_of x) q (blocks_in q w)
whole_as p q w x same sizes stays =
    subst (λ (path : List ℕ). StaysWhole w.sizes.block_size p (blocks_at (p.names path)) (tail_of x) q (blocks_at (q.names path))) same
    (subst (λ (s : WriteSizes). StaysWhole s.block_size p (blocks_in p x) (tail_of x) q (blocks_in q x)) sizes stays)

-- calls after one another
pub carries_trans : (a b c : Shown) (w x y : FileWriter) (one two : List ℕ) → x.path ≡ w.path → x.sizes ≡ w.sizes → CarriesMore a w one b x → CarriesMore b x two c y → (p : Picture) (bytes : List ℕ) → a.picture ≡ Some p → FileCarries p w.path (tail_of w) bytes
    → (q : Picture) × (c.picture ≡ Some q) × FileCarries q w.path (tail_of y) ((bytes ++ one) ++ two) × OnlyFile w.path p q × SameFile w.path p q
    × FillsBlocks w.sizes.block_size (blocks_in p w) (tail_of w) (one ++ two) (blocks_in q w) (tail_of y)
    × StaysWhole w.sizes.block_size p (blocks_in p w) (tail_of w) q (blocks_in q w)
carries_trans a b c w x y one two same sizes first then p bytes told carried =
    let f = first p bytes told carried in
    let t = then f.0 (bytes ++ one) f.1 (subst (λ (path : List ℕ). FileCarries f.0 path (tail_of x) (bytes ++ one)) (sym same) f.2) in (
      t.0,
      t.1,
      subst (λ (path : List ℕ). FileCarries t.0 path (tail_of y) ((bytes ++ one) ++ two)) same t.2,
      only_file_trans w.path p f.0 t.0 f.3 (subst (λ (path : List ℕ). OnlyFile path f.0 t.0) same t.3),
      same_file_trans w.path p f.0 t.0 f.4 (subst (λ (path : List ℕ). SameFile path f.0 t.0) same t.4),
      fills_trans w.sizes.block_size (blocks_in p w) (blocks_in f.0 w) (blocks_in t.0 w) (tail_of w) (tail_of x) (tail_of y) one two f.5
          (fills_as f.0 t.0 w x y two same sizes t.5),
      stays_trans w.sizes.block_size p f.0 t.0 (blocks_in p w) (blocks_in f.0 w) (blocks_in t.0 w) (tail_of w) (tail_of x)
          (λ within. (f.5 within).0) f.6 (whole_as f.0 t.0 w x same sizes t.6),
    )

pub touches_behind : (a b c : Shown) (w x : FileWriter) (one : List ℕ) → x.path ≡ w.path → CarriesMore a w one b x → TouchesFile b x c → TouchesFile a w c
touches_behind a b c w x one same first then p bytes told carried =
    let f = first p bytes told carried in
    let t = then f.0 (bytes ++ one) f.1 (subst (λ (path : List ℕ). FileCarries f.0 path (tail_of x) (bytes ++ one)) (sym same) f.2) in
    (t.0, t.1, only_file_trans w.path p f.0 t.0 f.3 (subst (λ (path : List ℕ). OnlyFile path f.0 t.0) same t.2))

some_same : (p q : Picture) (o : Option Picture) → o ≡ Some p → o ≡ Some q → p ≡ q
some_same p q o one two = cc (one, two)

-- a link that was opened touches nothing of files
only_file_started : (path : List ℕ) (p q : Picture) (link : ℕ) (setup : Setup) → Starts link setup p q → OnlyFile path p q
only_file_started path p q link setup starts = record {
  names = λ other apart. starts.files.names other;
  blocks = λ id some away. (starts.files.table id, λ node. starts.files.held node id);
  writes = λ other place told some away. starts.others other (λ same. absurd (cc (starts.unused, told, same))) ∙ told;
  grown = λ id there some. subst (λ (e : Option Entry). Contains (blocks_at e) id) (starts.files.names path) there;
  listed = λ id some. subst IsSome (sym (starts.files.table id)) some;
  reads = starts.reads;
  defaults = starts.files.defaults;
}

-- a new block stands behind full ones
fills_behind : (p q : Picture) (w : FileWriter) → IsBetweenBlocks w → (bytes : List ℕ) → FileCarries p w.path (tail_done (last_of w.tail)) bytes
    → (size : ℕ) → IsFull size (tail_of w) → (found : LocatedBlock) → found.b.num_bytes ≡ 0
    → length (blocks_in q w) ≡ length (blocks_in p w) + 1 → FillsBlocks size (blocks_in p w) (tail_of w) [] (blocks_in q w) (Reopened found)
fills_behind p q w between bytes c size full found empty longer =
    let at : c.file.blocks ≡ blocks_in p w = sym (ap blocks_at c.named) in
    subst (λ (t : Tail). FillsBlocks size (blocks_in p w) t [] (blocks_in q w) (Reopened found)) (sym (tail_between w between))
    (fills_grown p w.path size (blocks_in p w) (blocks_in q w) (last_of w.tail) bytes (Reopened found)
    (subst (λ (l : List ℕ). TailCarries p w.path l (tail_done (last_of w.tail)) bytes) at c.carries)
    (subst (IsFull size) (tail_between w between) full) longer empty)

-- and the blocks before it are whole
whole_behind : (p q : Picture) → IsSound p → (w : FileWriter) → IsBetweenBlocks w → (bytes : List ℕ) (c : FileCarries p w.path (tail_done (last_of w.tail)) bytes)
    (size : ℕ) → IsFull size (tail_of w) → {excludes : List DatanodeInfo} (found : LocatedBlock) → AddsBlock w.path c.file (last_of w.tail) excludes found p q
    → StaysWhole size p (blocks_in p w) (tail_of w) q (blocks_in q w)
whole_behind p q sound w between bytes c size full found adds =
    subst (λ (l : List ℕ). StaysWhole size p l (tail_of w) q (blocks_in q w)) (sym (ap blocks_at c.named))
    (subst (λ (t : Tail). StaysWhole size p c.file.blocks t q (blocks_in q w)) (sym (tail_between w between))
    (stays_grown p q sound w.path (last_of w.tail) bytes c found adds size (subst (IsFull size) (tail_between w between) full)))

module _ (a m : Shown) (sound : Shows IsSound a) (writer : FileWriter) (between : IsBetweenBlocks writer) (client : List ℕ)
    (excluded : List DatanodeInfo) where
  -- a block was answered, which is to be written
  pub added_carries : (found : LocatedBlock) → found.b.num_bytes ≡ 0 → IsFull writer.sizes.block_size (tail_of writer) → Came a (add_block_ask writer.path client (last_of writer.tail) excluded writer.file_id) (Ok (answers.AddBlock found)) m → CarriesMore a writer [] m (record writer { tail = Reopened found })
  added_carries found empty full came p bytes told c =
      let c' = as_done writer between p writer.path bytes c in
      let one = came.told p told (adding_repeats p (sound p told) writer.path (last_of writer.tail) bytes c' client excluded writer.file_id) in
      let q = one.0 in
      let adds = added (CallsRose a.counts m) writer.path client (last_of writer.tail) excluded writer.file_id p c'.file c'.named q found one.2 in
      let g = grows p q (sound p told) writer.path (last_of writer.tail) bytes c' found adds in (
        q,
        one.1,
        subst (FileCarries q writer.path (Reopened found)) (sym (append-nil bytes)) (record {
          file = g.file;
          named = g.named;
          being_written = g.being_written;
          carries = ([], g.front, subst (λ (n : ℕ). HoldsWhole q found.b.block_id n (uuids found.locs) []) (sym empty) g.whole);
        }),
        g.only,
        g.same,
        fills_behind p q writer between bytes c' writer.sizes.block_size full found empty g.longer,
        whole_behind p q (sound p told) writer between bytes c' writer.sizes.block_size full found adds,
      )

  -- no block was answered
  pub unanswered_touches : (error : HdfsError) → Came a (add_block_ask writer.path client (last_of writer.tail) excluded writer.file_id) (Err error) m → TouchesFile a writer m
  unanswered_touches error came p bytes told c =
      let c' = as_done writer between p writer.path bytes c in
      let one = came.told p told (adding_repeats p (sound p told) writer.path (last_of writer.tail) bytes c' client excluded writer.file_id) in (
        one.0,
        one.1,
        ⊎_elim (λ same. only_file_active writer.path p one.0 same)
            (λ found. (grows p one.0 (sound p told) writer.path (last_of writer.tail) bytes c' found.0 found.1).only)
            (not_added (CallsRose a.counts m) writer.path client (last_of writer.tail) excluded writer.file_id p c'.file c'.named one.0 error one.2),
      )

  -- but for want of memory, only where a namenode has failed
  pub unanswered_rose : (error : HdfsError) → (error ≡ errors.NoMemory → ⊥) → Came a (add_block_ask writer.path client (last_of writer.tail) excluded writer.file_id) (Err error) m
      → (p : Picture) (bytes : List ℕ) → a.picture ≡ Some p → FileCarries p writer.path (tail_of writer) bytes → CallsRose a.counts m
  unanswered_rose error some came p bytes told c =
      let c' = as_done writer between p writer.path bytes c in
      let one = came.told p told (adding_repeats p (sound p told) writer.path (last_of writer.tail) bytes c' client excluded writer.file_id) in
      add_rose (CallsRose a.counts m) writer.path client (last_of writer.tail) excluded writer.file_id p c'.file c'.named one.0 error some one.2

-- a block that is to be gone on with
module _ (m b : Shown) (writer : FileWriter) (found : LocatedBlock) (reopened : writer.tail ≡ Reopened found) where
  as_reopened : (p : Picture) (bytes : List ℕ) → FileCarries p writer.path (tail_of writer) bytes → FileCarries p writer.path (Reopened found) bytes
  as_reopened p bytes c = subst (λ (t : Tail). FileCarries p writer.path t bytes) reopened c

  -- is gone on with
  pub opened_carries : (writer' : FileWriter) (block : BlockWriter) (created : Bool) (settings : RebuildSettings) (size packet : ℕ) (setup : Setup) → writer'.tail ≡ Going block → IsNew (plan_of writer found created) settings size packet block
      → OpensLink m setup block b → BeginsWhole m (plan_of writer found created) block b → CarriesMore m writer [] b writer'
  opened_carries writer' block created settings size packet setup going' new opens begins p bytes told c =
      let c' = as_reopened p bytes c in
      let front = c'.carries.1 in
      let mine : Contains c'.file.blocks found.b.block_id =
      subst (λ (l : List ℕ). Contains l found.b.block_id) (sym front.ends) (contains_last front.front found.b.block_id) in
      let on = begins p c'.carries.0 told (record { file = c'.file; named = c'.named; is_open = c'.being_written; has = mine }) c'.carries.2 in
      let r = on.0 in
      let after = told_after (Starts opens.0 setup) m.picture b.picture p opens.2.starts told in
      let starts : Starts opens.0 setup p r = subst (Starts opens.0 setup p) (some_same after.0 r b.picture after.1 on.1) after.2 in
      let plan : on.2.pipe.plan ≡ plan_of writer found created =
      ap (λ (x : BlockPipeline). x.plan) (pipe_is on.2.pipe new.pipe (sym on.2.is ∙ new.is)) ∙ new.plan in
      let front' : StoresFront r c'.file.blocks (id_of on.2.pipe) bytes c'.carries.0 =
      subst (λ (x : BlockPlan). StoresFront r c'.file.blocks x.block.b.block_id bytes c'.carries.0) (sym plan)
      (front_same p r c'.file.blocks found.b.block_id bytes c'.carries.0 starts.files front) in (
        r,
        on.1,
        subst (FileCarries r writer.path (tail_of writer')) (sym (append-nil bytes))
            (subst (λ (t : Tail). FileCarries r writer.path t bytes) (sym going') (record {
              file = c'.file;
              named = starts.files.names writer.path ∙ c'.named;
              being_written = c'.being_written;
              carries = (c'.carries.0, on.2, ap (λ (x : BlockPlan). x.src) plan, front');
            })),
        only_file_started writer.path p r opens.0 setup starts,
        λ file is. (file.blocks, starts.files.names writer.path ∙ is),
        fills_same writer.sizes.block_size (blocks_in p writer) (blocks_in r writer) (tail_of writer) (tail_of writer')
            (ap blocks_at (starts.files.names writer.path))
            (ap tail_length going' ∙ new.length
            ∙ sym (ap tail_length reopened)),
        stays_kept writer.sizes.block_size p r (blocks_in p writer) (blocks_in r writer) (tail_of writer) (ap blocks_at (starts.files.names writer.path))
            (λ k lt. (starts.files.table (slice_index_or (blocks_in p writer) k 0), λ node. starts.files.held node (slice_index_or (blocks_in p writer) k 0))),
      )

  -- its pipeline was not set up
  pub unopened_touches : (setup : Setup) (fault : LinkFault) → WriteNotOpened m setup fault b → TouchesFile m writer b
  unopened_touches setup fault not_opened p bytes told c =
      let after = told_after SamePicture m.picture b.picture p not_opened.picture told in
      (after.0, after.1, only_file_active writer.path p after.0 after.2.rest)

-- a block that isn't gone on with is the last that is done
pub settled_carries : (a : Shown) (writer writer' : FileWriter) (found : LocatedBlock) → writer.tail ≡ Reopened found → writer'.tail ≡ Done found.b
    → CarriesMore a writer [] a writer'
settled_carries a writer writer' found reopened done p bytes told c =
    let c' = as_reopened a a writer found reopened p bytes c in (
      p,
      told,
      subst (FileCarries p writer.path (tail_of writer')) (sym (append-nil bytes))
          (subst (λ (t : Tail). FileCarries p writer.path t bytes) (sym done) (record {
            file = c'.file;
            named = c'.named;
            being_written = c'.being_written;
            carries = (c'.carries.0, c'.carries.1, (uuids found.locs, c'.carries.2));
          })),
      only_file_refl writer.path p,
      same_file_refl writer.path p,
      fills_same writer.sizes.block_size (blocks_in p writer) (blocks_in p writer) (tail_of writer) (tail_of writer') refl
          (ap tail_length done ∙ sym (ap tail_length reopened)),
      stays_unchanged writer.sizes.block_size p (blocks_in p writer) (tail_of writer),
    )

-- a block's writer was let go
pub let_go_leaves : (a b : Shown) → Shows IsSound a → Shows IsSound b → (writer : FileWriter) (block : BlockWriter) → writer.tail ≡ Going block → LetsGo a block b → LeavesFile a writer b
let_go_leaves a b sound sound' writer block going gone p bytes told c =
    let c' = as_going a b sound sound' writer block going p bytes c in
    let own = c'.carries.1 in
    let only = gone.touches p c'.carries.0 told own in
    let of = only_block_of-only (id_of own.pipe) (nodes_of own.pipe) p only.0 only.2 in
    (only.0, only.1, (touches_own p (sound p told) writer.path block bytes c' only.0 (sound' only.0 only.1) of).0, only.2.records)

-- and no namenode answered anything
pub let_go_last : (a b : Shown) (block : BlockWriter) → LetsGo a block b → (HasFailed block → b ≡ a) → b.last ≡ a.last
let_go_last a b block gone failed = by_pipe block.pipe refl
  where
    by_pipe : (o : Option BlockPipeline) → block.pipe ≡ o → b.last ≡ a.last
    by_pipe None is = ap (λ (s : Shown). s.last) (failed is)
    by_pipe (Some pipe) is = (gone.ended pipe is).writes.only.last

-- nothing was done
pub idle_leaves : (a : Shown) (writer : FileWriter) → LeavesFile a writer a
idle_leaves a writer p bytes told c =
    (p, told, only_file_refl writer.path p, record { names = λ path. refl; table = λ id. refl; active = refl; defaults = refl; reads = λ other. refl })
