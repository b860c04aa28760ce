-- What a try of a new block's first pipeline leaves, and what comes of it where no other one follows.
use Rattle.std.proofs.Common.{◌≡◌, ◌⊎◌, ⊎_elim, inl, inr, ℕ, suc, ◌-◌, Bool, true, false, List, [], ◌∷◌, Option, Some, None, refl, sym, ◌∙◌, ap, subst, arith}
use Rattle.std.proofs.lemmas.Bool.{false≢true}
use Rattle.std.proofs.lemmas.List.{append-nil}
use Rattle.std.proofs.lemmas.List.Elements.{All-push}
use Rattle.std.specs.Prelude.{Result, Ok, Err, slice_get}
use Rattle.hdfs_cluster.specs.declared.asks.Answer.{Answer}
use Rattle.hdfs_cluster.specs.declared.asks.Answer.TheVariants as answers
use Rattle.hdfs_cluster.specs.declared.asks.Ask.{Ask}
use Rattle.hdfs_cluster.specs.declared.asks.LinkFault.{LinkFault}
use Rattle.hdfs_cluster.specs.declared.errors.HdfsError.{HdfsError}
use Rattle.hdfs_cluster.specs.declared.errors.HdfsError.TheVariants as errors
use Rattle.hdfs_cluster.specs.declared.messages.Block.{Block}
use Rattle.hdfs_cluster.specs.declared.messages.DatanodeInfo.{DatanodeInfo}
use Rattle.hdfs_cluster.specs.declared.messages.LocatedBlock.{LocatedBlock}
use Rattle.hdfs_cluster.specs.declared.messages.Setup.{Setup}
use Rattle.hdfs_cluster.specs.declared.messages.Stage.{Stage}
use Rattle.hdfs_cluster.specs.declared.messages.Stage.TheVariants as stages
use Rattle.hdfs_cluster.specs.Counts.{FaultCounts, NeverFall, NodesRoseTimes, Rose}
use Rattle.hdfs_cluster.specs.declared.picture.FileEntry.{FileEntry}
use Rattle.hdfs_cluster.specs.Effects.{AddsNew, Changes, with_entry, with_length}
use Rattle.hdfs_cluster.specs.Failures.{CallsRose, SetupsFailed}
use Rattle.hdfs_cluster.specs.Namenode.{Row}
use Rattle.hdfs_cluster.specs.Picture.{Picture, SameButActive, SamePicture}
use Rattle.hdfs_cluster.specs.Pipes.{SetupFailed, SetupFailedAt, WriteNotOpened}
use Rattle.hdfs_cluster.specs.Repeating.{DoneOrNot}
use Rattle.hdfs_cluster.specs.Requests.{AreFirst, IsAdded, IsFirstSetup}
use Rattle.hdfs_cluster.specs.Shown.{Later, Shown}
use Rattle.hdfs_cluster.specs.Sound.{IsSound}
use Rattle.hdfs_cluster.proofs.Failures.{nodes_until}
use Rattle.hdfs_cluster.proofs.Frames.{later_refl, never_fall_refl, never_fall_trans, rose_since, told_after}
use Rattle.hdfs_namenode.specs.Relaying.{Came, RelaysTold}
use Rattle.hdfs_namenode.proofs.Relayed.{relayed_done, relayed_rose, relayed_row}
use Rattle.hdfs_rebuild.specs.Opening.{OpensNone, fault_of}
use Rattle.hdfs_file_writer.specs.declared.file_writer.FileWriter.{FileWriter}
use Rattle.hdfs_file_writer.specs.declared.new_block.Candidate.{Candidate}
use Rattle.hdfs_file_writer.specs.declared.new_block.Tries.{Tries}
use Rattle.hdfs_file_writer.specs.Faults.{is_of_setup}
use Rattle.hdfs_file_writer.specs.OnlyFiles.{OnlyFile}
use Rattle.hdfs_file_writer.specs.Tails.{FileCarries, last_of}
use Rattle.hdfs_file_writer.specs.declared.tails.Tail.TheVariants.{Reopened}
use Rattle.hdfs_file_writer.specs.Tries.{EndsTries, GivesUpNot, HasTried, HaveFailed, IsCandidate, LeavesCandidate, NotSetUp, TriesOn, giving_up}
use Rattle.hdfs_file_writer.specs.Writers.{Adds, CarriesMore, FailsOtherwise, IsBetweenBlocks, OnlyOwnLink, TouchesFile, Wrote, blocks_in, link_of, tail_done, tail_of}
use Rattle.hdfs_file_writer.proofs.Telling.{added, apart_asked, asked_cause, tells_asked}
use Rattle.hdfs_file_writer.proofs.Blocks.{fills_same}
use Rattle.hdfs_file_writer.proofs.GivingBack.{adds_new, back_blocks, back_carries, back_only, back_same, back_whole, given_back, given_up, may_give_up}
use Rattle.hdfs_file_writer.proofs.Growing.{adding_repeats, grows}
use Rattle.hdfs_file_writer.proofs.Joining.{calls_since, fails_after, keeps_refl, tells_since, wrote_nothing, wrote_trans}
use Rattle.hdfs_file_writer.proofs.Moving.{only_file_trans, own_link_left, own_link_trans, own_link_unopened}
use Rattle.hdfs_file_writer.proofs.Standing.{idle_own, starved_fails, unopened_fails}
use Rattle.hdfs_file_writer.proofs.Steps.{Shows, as_done, from_done}
use Rattle.hdfs_file_writer.proofs.LastBlocks.{no_link, no_rebuilds}
use Rattle.hdfs_file_writer.proofs.Tallying.{no_limit, tallies_anew}
use Rattle.hdfs_file_writer.proofs.Touching.{only_file_active}

-- where a pipeline isn't set up, the links have failed or a datanode
one_failed : (stage : Stage) (nodes : List DatanodeInfo) (a b : FaultCounts) → SetupFailedAt stage nodes a b
    → Rose a.links b.links ⊎ ((node : List ℕ) × Rose (a.nodes node) (b.nodes node))
one_failed stages.Create [] a b failed = inl failed
one_failed stages.Create (first ∷ rest) a b failed = inr (first.id.datanode_uuid, failed)
one_failed stages.Append nodes a b failed = inl failed
one_failed stages.Recovery nodes a b failed = inl failed

-- the links, where the block is gone on with
pub links_failed : (client : List ℕ) (located : LocatedBlock) (setup : Setup) (a b : FaultCounts) → IsFirstSetup false located client setup
    → SetupFailed setup a b → Rose a.links b.links
links_failed client located setup a b first failed = subst (λ (stage : Stage). SetupFailedAt stage setup.locs a b) first.stage failed

-- a set-up has failed whose fault says so
pub setup_failed : (setup : Setup) (a b : Shown) (fault : HdfsError) → OpensNone a setup fault b → is_of_setup fault ≡ true
    → SetupFailed setup a.counts b.counts × NeverFall a.counts b.counts
setup_failed setup a b fault (inl (memory, same)) of = absurd (false≢true (sym (ap is_of_setup memory) ∙ of))
setup_failed setup a b fault (inr (why, is, not)) of = (
  not.cause (λ memory. absurd (false≢true (sym (ap is_of_setup (is ∙ ap fault_of memory)) ∙ of))),
  not.only.later.counts,
)

-- there was one, and it wasn't set up
not_set_up : (setup : Setup) (a b : Shown) (fault : HdfsError) → OpensNone a setup fault b → is_of_setup fault ≡ true
    → (why : LinkFault) × WriteNotOpened a setup why b
not_set_up setup a b fault (inl (memory, same)) of = absurd (false≢true (sym (ap is_of_setup memory) ∙ of))
not_set_up setup a b fault (inr (why, is, not)) of = (why, not)

-- one more than so many have failed
pub failed_more : (times : ℕ) (setup : Setup) (start a m b c : FaultCounts) → NeverFall start a → HaveFailed times start a → NeverFall a m
    → SetupFailed setup m b → NeverFall m b → NeverFall b c → HaveFailed (suc times) start c
failed_more times setup start a m b c before failed one more two after = by failed (one_failed setup.stage setup.locs m b more)
  where
    by : HaveFailed times start a → Rose m.links b.links ⊎ ((node : List ℕ) × Rose (m.nodes node) (b.nodes node)) → HaveFailed (suc times) start c
    by (inl links) last = inl (omega (arith, links, one.links, two.links, after.links))
    by (inr nodes) (inl links) = inl (omega (arith, before.links, one.links, links, after.links))
    by (inr nodes) (inr (node, rose)) = inr (
      m,
      nodes_until times start a m nodes one,
      never_fall_trans m b c two after,
      (node, rose_since (m.nodes node) (m.nodes node) (b.nodes node) (c.nodes node) (omega arith) rose (after.nodes node)),
    )

-- A block was added behind those that are done, and its pipeline wasn't set up.
module _ (a m b : Shown) (sound : Shows IsSound a) (sound' : Shows IsSound b) (w : FileWriter) (between : IsBetweenBlocks w) (client : List ℕ)
    (excluded : List DatanodeInfo) (found : LocatedBlock) (adds : Adds client excluded a w found m) (setup : Setup) (why : LinkFault)
    (not : WriteNotOpened m setup why b) where
  own_until : (x : Option ℕ) → OnlyOwnLink a x b x
  own_until x =
      own_link_trans a m b x x x (own_link_left a m x adds.came.relays.leaves) (own_link_unopened m b setup why x not)

  -- over a told picture
  record WasAdded (p : Picture) (file : FileEntry) : Type 0 where
    pub q : Picture
    pub added_so : AddsNew w.path file (last_of w.tail) excluded found p q
    pub r : Picture
    pub told : b.picture ≡ Some r
    pub same : SameButActive q r

  was_added : (p : Picture) (bytes : List ℕ) → a.picture ≡ Some p → (carried : FileCarries p w.path (tail_done (last_of w.tail)) bytes) → WasAdded p carried.file
  was_added p bytes told carried =
      let one = adds.came.told p told (adding_repeats p (sound p told) w.path (last_of w.tail) bytes carried client excluded w.file_id) in
      let after = told_after SamePicture m.picture b.picture one.0 not.picture one.1 in
      record {
        q = one.0;
        added_so = adds_new p one.0 (sound p told) w.path (last_of w.tail) bytes carried found
            (added (CallsRose a.counts m) w.path client (last_of w.tail) excluded w.file_id p carried.file carried.named one.0 found one.2);
        r = after.0;
        told = after.1;
        same = after.2.rest;
      }

  -- It was to be given up.
  module _ (c : Shown) (result : Result Answer HdfsError) (gave : Came b (giving_up client w found.b) result c) where
    own_then : (x : Option ℕ) → OnlyOwnLink a x c x
    own_then x = own_link_trans a b c x x x (own_until x) (own_link_left b c x gave.relays.leaves)

    later_then : Later a c
    later_then = (own_then None).later

    module _ (p : Picture) (bytes : List ℕ) (told : a.picture ≡ Some p) (carried : FileCarries p w.path (tail_done (last_of w.tail)) bytes) where
      abbrev x : WasAdded p carried.file
      x = was_added p bytes told carried

      gave_told : (s : Picture) × (c.picture ≡ Some s) × RelaysTold (CallsRose b.counts c) x.r (giving_up client w found.b) result s
      gave_told =
          gave.told x.r x.told
          (may_give_up p x.q x.r (sound p told) w.path (last_of w.tail) bytes carried found x.added_so x.same (sound' x.r x.told) client w.file_id)

      back_by : (s : Picture) (answer : Answer) → Row x.r (giving_up client w found.b) answer s
          → Changes p s (with_entry p.names w.path carried.file) (with_length p.table (last_of w.tail))
      back_by s answer row =
          given_back p x.q x.r (sound p told) w.path (last_of w.tail) bytes carried found x.added_so x.same s
          (given_up p x.q x.r (sound p told) w.path (last_of w.tail) bytes carried found x.added_so x.same s client w.file_id answer row)

      -- nothing changed but the file
      only_by : (s : Picture) → DoneOrNot (giving_up client w found.b) x.r s → OnlyFile w.path p s
      only_by s (inl same) =
          only_file_trans w.path p x.q s (grows p x.q (sound p told) w.path (last_of w.tail) bytes carried found (inr x.added_so)).only
          (only_file_trans w.path x.q x.r s (only_file_active w.path x.q x.r x.same) (only_file_active w.path x.r s same))
      only_by s (inr (answer, shaped, row)) = back_only p s (sound p told) w.path (last_of w.tail) bytes carried (back_by s answer row)

    pub gave_touches : TouchesFile a w c
    gave_touches p bytes told carried =
        let before = as_done w between p w.path bytes carried in
        let s = gave_told p bytes told before in (
          s.0,
          s.1,
          only_by p bytes told before s.0
              (relayed_done (CallsRose b.counts c) (x p bytes told before).r (giving_up client w found.b) result s.0 gave.relays.shaped s.2),
        )

  -- it was given up
  module _ (c : Shown) (gave : Came b (giving_up client w found.b) (Ok answers.AbandonBlock) c) where
    gave_carries : CarriesMore a w [] c w
    gave_carries p bytes told carried =
        let before = as_done w between p w.path bytes carried in
        let s = gave_told c (Ok answers.AbandonBlock) gave p bytes told before in
        let row = relayed_row (CallsRose b.counts c) (x c (Ok answers.AbandonBlock) gave p bytes told before).r (giving_up client w found.b)
        answers.AbandonBlock s.0 (λ same. absurd (cc same)) (λ same. absurd (cc same)) s.2 in
        let changes = back_by c (Ok answers.AbandonBlock) gave p bytes told before s.0 answers.AbandonBlock row in
        let table = with_length p.table (last_of w.tail) in (
          s.0,
          s.1,
          subst (FileCarries s.0 w.path (tail_of w)) (sym (append-nil bytes))
              (from_done s.0 w.path w between bytes (back_carries p s.0 (sound p told) w.path (last_of w.tail) bytes before changes)),
          back_only p s.0 (sound p told) w.path (last_of w.tail) bytes before changes,
          back_same p s.0 (sound p told) w.path before.file table before.named changes,
          fills_same w.sizes.block_size (blocks_in p w) (blocks_in s.0 w) (tail_of w) (tail_of w)
              (back_blocks p s.0 (sound p told) w.path before.file table before.named changes) refl,
          back_whole p s.0 (sound p told) w.path (last_of w.tail) bytes before changes w.sizes.block_size (tail_of w),
        )

    -- the writer carries what it did
    pub gave_wrote : Wrote a w [] c w
    gave_wrote = record {
      keeps = keeps_refl w;
      own = own_then c (Ok answers.AbandonBlock) gave (link_of w);
      tallies = tallies_anew a c w w (no_rebuilds w.tail between.none) (later_then c (Ok answers.AbandonBlock) gave);
      carries = gave_carries;
    }

  -- it wasn't
  module _ (c : Shown) (error : HdfsError) (gave : Came b (giving_up client w found.b) (Err error) c) where
    gave_rose : (error ≡ errors.NoMemory → ⊥) → (p : Picture) (bytes : List ℕ) → a.picture ≡ Some p
        → FileCarries p w.path (tail_of w) bytes → CallsRose a.counts c
    gave_rose some p bytes told carried =
        let before = as_done w between p w.path bytes carried in
        let s = gave_told c (Err error) gave p bytes told before in
        calls_since a b c (own_until None).later
        (relayed_rose (CallsRose b.counts c) (x c (Err error) gave p bytes told before).r (giving_up client w found.b) error s.0 some
        (λ refused. refused.2) s.2)

    gave_fails : FailsOtherwise a w error c
    gave_fails = record {
      fails = record {
        own = idle_own a c w None (no_link w.tail between.none) (own_then c (Err error) gave None);
        tells = tells_since a b c error (own_until None).later (tells_asked b c error gave.relays.tells);
        limit = λ from n is fails. absurd (no_limit gave.relays.tells.0 is);
        refused = λ refusal. absurd (apart_asked error gave.relays.tells.0 refusal);
        touches = gave_touches c (Err error) gave;
        cause = λ p bytes told carried.
            asked_cause w.sizes w.path a b c error gave.relays.tells (λ some. gave_rose some p bytes told carried);
      };
      apart = apart_asked error gave.relays.tells.0;
    }

  -- or memory was wanting behind that
  gave_starves : (c : Shown) (result : Result Answer HdfsError) → Came b (giving_up client w found.b) result c → FailsOtherwise a w errors.NoMemory c
  gave_starves c result gave = record {
    fails = record {
      own = idle_own a c w None (no_link w.tail between.none) (own_then c result gave None);
      tells = (tt, (tt, tt));
      limit = λ from n is fails. absurd (cc is);
      refused = λ refusal. absurd refusal;
      touches = gave_touches c result gave;
      cause = λ p bytes told carried. tt;
    };
    apart = λ refusal. refusal;
  }

  pub gives_up_not : (c : Shown) (error : HdfsError) (candidate : Candidate) → candidate.block ≡ found.b → GivesUpNot client w candidate b error c
      → FailsOtherwise a w error c
  gives_up_not c error candidate named (result, came, why) =
      let gave = subst (λ (block : Block). Came b (giving_up client w block) result c) named came in
      ⊎_elim
      (λ is. gave_fails c error (subst (λ (r : Result Answer HdfsError). Came b (giving_up client w found.b) r c) is gave))
      (λ memory. subst (λ (e : HdfsError). FailsOtherwise a w e c) (sym memory) (gave_starves c result gave))
      why

-- A try of a new block that has failed.
module _ (a m b c : Shown) (sound : Shows IsSound a) (sound' : Shows IsSound b) (w : FileWriter) (between : IsBetweenBlocks w) (client : List ℕ)
    (excluded : List DatanodeInfo) (found : LocatedBlock) (adds : Adds client excluded a w found m) (fault : HdfsError)
    (not : NotSetUp client true found m fault b) (tries : Tries) (candidate : Candidate) (kept : IsCandidate found candidate) where
  -- one more has failed than those so far
  more_failed : (start : Shown) → HasTried start w tries a → is_of_setup fault ≡ true → NeverFall b.counts c.counts
      → HaveFailed (suc (w.sizes.setup_limit - tries.left)) start.counts c.counts
  more_failed start tried of after =
      let one = setup_failed not.setup m b fault not.none of in
      failed_more (w.sizes.setup_limit - tries.left) not.setup start.counts a.counts m.counts b.counts c.counts tried.wrote.own.later.counts
      tried.failed adds.wrote.own.later.counts one.0 one.1 after

  -- another one may follow
  pub tries_on : (may_answer : Ask → Answer → Type 0) (w' : FileWriter) (tries' : Tries) → w' ≡ w
      → AreFirst may_answer client w.path w.file_id tries.excluded → IsAdded may_answer client w.path w.file_id found
      → LeavesCandidate client w tries candidate fault b tries' c → TriesOn may_answer client a w tries c w' tries'
  tries_on may_answer w' tries' same first answered left = record {
    same = same;
    fewer = left.fewer;
    first =
        subst (AreFirst may_answer client w.path w.file_id) (sym left.excluded)
        (All-push (λ node. (located : LocatedBlock) × IsAdded may_answer client w.path w.file_id located × (slice_get located.locs 0 ≡ Some node))
        tries.excluded candidate.first first (found, answered, kept.1));
    tried = λ start tried.
        (let unopened = not_set_up not.setup m b fault not.none left.of_setup in
        let gave = subst (λ (block : Block). Came b (giving_up client w block) (Ok answers.AbandonBlock) c) kept.0 left.came in
        let times : suc (w.sizes.setup_limit - tries.left) ≡ w.sizes.setup_limit - tries'.left = omega (arith, left.fewer, tried.within) in
        record {
          within = omega (arith, left.fewer, tried.within);
          failed =
              subst (λ (n : ℕ). HaveFailed n start.counts c.counts) times
              (more_failed start tried left.of_setup gave.relays.leaves.later.counts);
          wrote =
              wrote_trans start a c w w w [] [] tried.wrote
              (gave_wrote a m b sound sound' w between client excluded found adds not.setup unopened.0 unopened.1 c gave);
        });
  }

  -- none follows
  pub tries_end : (error : HdfsError) → EndsTries client w tries candidate fault b error c → (start : Shown) → HasTried start w tries a
      → FailsOtherwise start w error c
  tries_end error (inl (is, last, same)) start tried =
      subst (λ (e : HdfsError). FailsOtherwise start w e c) (sym is)
      (subst (λ (s : Shown). FailsOtherwise start w fault s) (sym same)
      (unopened_fails m b (record w { tail = Reopened found }) found refl start w
      (wrote_trans start a m w w (record w { tail = Reopened found }) [] [] tried.wrote adds.wrote) not.setup fault
      (λ of. all_failed of (last of)) not.none))
    where
      all_failed : is_of_setup fault ≡ true → tries.left ≡ 0 → SetupsFailed w.sizes.setup_limit start.counts b.counts
      all_failed of none =
          let one = setup_failed not.setup m b fault not.none of in
          let times : w.sizes.setup_limit - tries.left ≡ w.sizes.setup_limit = omega (arith, none) in
          subst (λ (n : ℕ). HaveFailed (suc n) start.counts b.counts) times
          (failed_more (w.sizes.setup_limit - tries.left) not.setup start.counts a.counts m.counts b.counts b.counts tried.wrote.own.later.counts
          tried.failed adds.wrote.own.later.counts one.0 one.1 (never_fall_refl b.counts))
  tries_end error (inr (of, gives)) start tried =
      let unopened = not_set_up not.setup m b fault not.none of in
      fails_after start a c w w [] error tried.wrote
      (gives_up_not a m b sound sound' w between client excluded found adds not.setup unopened.0 unopened.1 c error candidate kept.0 gives)

-- memory was wanting once a block was added
pub added_starves : (a m : Shown) (w : FileWriter) (between : IsBetweenBlocks w) (client : List ℕ) (excluded : List DatanodeInfo) (found : LocatedBlock)
    → Adds client excluded a w found m → (tries : Tries) (start : Shown) → HasTried start w tries a → FailsOtherwise start w errors.NoMemory m
added_starves a m w between client excluded found adds tries start tried =
    fails_after start a m w w [] errors.NoMemory tried.wrote
    (fails_after a m m w (record w { tail = Reopened found }) [] errors.NoMemory adds.wrote
    (starved_fails m (record w { tail = Reopened found }) refl))

-- a block that is to be gone on with wasn't opened: the links have failed
pub reopened_fails : (s t : Shown) (w : FileWriter) (found : LocatedBlock) → w.tail ≡ Reopened found → (client : List ℕ)
    (fault : HdfsError) → NotSetUp client false found s fault t → FailsOtherwise s w fault t
reopened_fails s t w found reopened client fault not =
    unopened_fails s t w found reopened s w (wrote_nothing s w) not.setup fault
    (λ of. inl (links_failed client found not.setup s.counts t.counts not.first (setup_failed not.setup s t fault not.none of).0)) not.none

-- before the first try none has failed
pub none_tried : (s : Shown) (w : FileWriter) (tries : Tries) → tries.left ≡ w.sizes.setup_limit → HasTried s w tries s
none_tried s w tries is =
    let none : 0 ≡ w.sizes.setup_limit - tries.left = omega (arith, is) in
    record {
      within = omega (arith, is);
      failed = inr (subst (λ (n : ℕ). NodesRoseTimes n s.counts s.counts) none (never_fall_refl s.counts));
      wrote = wrote_nothing s w;
    }

-- no datanodes are first ones
pub none_first : (may_answer : Ask → Answer → Type 0) (client path : List ℕ) (file_id : Option ℕ) (nodes : List DatanodeInfo) → nodes ≡ []
    → AreFirst may_answer client path file_id nodes
none_first may_answer client path file_id nodes none =
    subst (AreFirst may_answer client path file_id) (sym none) (λ k d lt. absurd (omega (arith, lt)))

-- time went on while no pipeline was set up
pub later_unset : (client : List ℕ) (created : Bool) (located : LocatedBlock) (m b : Shown) (fault : HdfsError)
    → NotSetUp client created located m fault b → Later m b
later_unset client created located m b fault not = by not.none
  where
    by : OpensNone m not.setup fault b → Later m b
    by (inl (memory, same)) = subst (Later m) (sym same) (later_refl m)
    by (inr (why, is, unopened)) = unopened.only.later
