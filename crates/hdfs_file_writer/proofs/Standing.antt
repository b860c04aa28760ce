-- How a writer of a file stands behind each step, and what the step has done.
use Rattle.std.proofs.Common.{◌≡◌, inl, inr, ⊎_elim, ℕ, ◌<◌, ◌≤◌, min, Bool, true, false, List, [], Option, Some, None, IsSome, refl, sym, ◌∙◌, ap, subst, arith}
use Rattle.std.proofs.lemmas.Bool.{cases_lt, false≢true}
use Rattle.std.specs.Prelude.{Ok, Err}
use Rattle.hdfs_cluster.specs.declared.asks.Answer.TheVariants as answers
use Rattle.hdfs_cluster.specs.Asks.{add_block_ask}
use Rattle.hdfs_cluster.specs.declared.asks.LinkFault.{LinkFault}
use Rattle.hdfs_cluster.specs.declared.errors.HdfsError.{HdfsError}
use Rattle.hdfs_cluster.specs.declared.errors.HdfsError.TheVariants as errors
use Rattle.hdfs_cluster.specs.declared.messages.Block.{Block}
use Rattle.hdfs_cluster.specs.declared.messages.DatanodeInfo.{DatanodeInfo}
use Rattle.hdfs_cluster.specs.declared.messages.LocatedBlock.{LocatedBlock}
use Rattle.hdfs_cluster.specs.declared.messages.Setup.{Setup}
use Rattle.hdfs_cluster.specs.Failures.{SetupsFailed}
use Rattle.hdfs_cluster.specs.Pipes.{WriteNotOpened}
use Rattle.hdfs_cluster.specs.Shown.{SameNodes, Shown}
use Rattle.hdfs_cluster.specs.Sound.{IsSound}
use Rattle.hdfs_cluster.proofs.Frames.{later_refl}
use Rattle.hdfs_rebuild.specs.declared.block_plan.BlockPipeline.{BlockPipeline}
use Rattle.hdfs_rebuild.specs.declared.block_plan.BlockPlan.{BlockPlan}
use Rattle.hdfs_rebuild.specs.declared.block_plan.RebuildSettings.{RebuildSettings}
use Rattle.hdfs_block_writer.specs.declared.block_writer.BlockWriter.{BlockWriter}
use Rattle.hdfs_block_writer.specs.BlockWriters.{length_of, size_of, link_of as block_link, link_in, Stands as StandsItself}
use Rattle.hdfs_block_writer.specs.OpenPipelines.{KeepsBlock}
use Rattle.hdfs_block_writer.specs.Written.{Closes, GaveUp, IsCarrying, OpensNone, Wrote as BlockWrote, IsNew, OpensLink, BeginsWhole, fault_of}
use Rattle.hdfs_block_writer.proofs.Wrote.{pipe_is}
use Rattle.hdfs_file_writer.specs.declared.file_writer.FileWriter.{FileWriter}
use Rattle.hdfs_file_writer.specs.declared.sizes.WriteSizes.{WriteSizes}
use Rattle.hdfs_file_writer.specs.Faults.{is_of_setup}
use Rattle.hdfs_file_writer.specs.Tails.{last_of, going_of, GoesOn, HasRoom, IsFull}
use Rattle.hdfs_file_writer.specs.declared.tails.Tail.{Tail}
use Rattle.hdfs_file_writer.specs.declared.tails.Tail.TheVariants.{Bare, Done, Reopened, Going}
use Rattle.hdfs_file_writer.specs.Writers.{AreLimited, ArePackets, AreSizes, plan_of, link_of, link_by, tail_of, Keeps, Stands, IsBetweenBlocks, BlockStands, IsPlanOf, OnlyOwnLink, Wrote, Adds, FailsOtherwise, rebuilds_by}
use Rattle.hdfs_namenode.specs.Relaying.{Came}
use Rattle.hdfs_file_writer.proofs.Joining.{fails_after}
use Rattle.hdfs_file_writer.proofs.Moving.{own_link_refl, own_link_left, own_link_opened, own_link_trans, own_link_unopened, only_file_refl}
use Rattle.hdfs_file_writer.proofs.Placing.{some_none}
use Rattle.hdfs_file_writer.proofs.Steps.{Shows, ended_carries, gave_up_touches, gave_up_cause, unopened_cause, wrote_carries, added_carries, opened_carries, settled_carries, touches_behind, unopened_touches, unopened_tells, unopened_apart, unanswered_touches, unanswered_rose}
use Rattle.hdfs_file_writer.proofs.LastBlocks.{no_link}
use Rattle.hdfs_file_writer.proofs.Tallying.{limit_behind, limit_given_up, no_limit, rebuilds_new, tallies_anew, tallies_more, unopened_no_limit}
use Rattle.hdfs_file_writer.proofs.Telling.{tells_asked, apart_asked, tells_fault, apart_fault, asked_cause}

-- there was no memory before anything was done
pub starved_fails : (a : Shown) (w : FileWriter) → link_of w ≡ None → FailsOtherwise a w errors.NoMemory a
starved_fails a w idle = record {
  fails = record {
    own = subst (λ (x : Option ℕ). OnlyOwnLink a x a None) (sym idle) (own_link_refl a None);
    tells = (tt, (tt, tt));
    limit = λ start n is fails. absurd (cc is);
    refused = λ refusal. absurd refusal;
    touches = λ p bytes told c. (p, told, only_file_refl w.path p);
    cause = λ p bytes told c. tt;
  };
  apart = λ refusal. refusal;
}

-- the writer of a block that hasn't failed has a pipeline
has_pipe : (block : BlockWriter) → IsSome (block_link block) → (pipe : BlockPipeline) × (block.pipe ≡ Some pipe)
has_pipe block some = by_pipe block.pipe refl some
  where
    by_pipe : (o : Option BlockPipeline) → block.pipe ≡ o → IsSome (link_in o) → (pipe : BlockPipeline) × (block.pipe ≡ Some pipe)
    by_pipe None is there = absurd (false≢true there)
    by_pipe (Some pipe) is there = (pipe, is)

-- a block has no more bytes than it may have
pub within_size : (shown : Shown) (block : BlockWriter) → StandsItself shown block → IsSome (block_link block) → length_of block ≤ size_of block
within_size shown block stands some = (let pipe = has_pipe block some in (stands pipe.0 pipe.1).0.within.0)

-- the writer of a block that took bytes has a pipeline still
still_open : (a b : Shown) (block block' : BlockWriter) (more : List ℕ) → BlockWrote a block more b block' → IsSome (block_link block) → IsSome (block_link block')
still_open a b block block' more wrote some =
    let pipe = has_pipe block some in
    subst IsSome (sym (ap link_in (wrote.stays pipe.0 pipe.1).1)) refl

-- a block is written as one of the file, however often its pipeline is rebuilt
plan_stays : {w w' : FileWriter} {plan plan' : BlockPlan} → Keeps w w' → KeepsBlock plan plan' → IsPlanOf w.path w.sizes plan
    → IsPlanOf w'.path w'.sizes plan'
plan_stays keeps stays of = record {
  src = stays.src ∙ of.src ∙ sym keeps.path;
  replication = stays.replication ∙ of.replication ∙ ap (λ (s : WriteSizes). s.replication) (sym keeps.sizes);
}

-- one block is being written
same_going : {t : Tail} {block other : BlockWriter} → t ≡ Going block → t ≡ Going other → block ≡ other
same_going one two = cc (sym one ∙ two)

-- and then none is to be gone on with
apart_going : {t : Tail} {block : BlockWriter} {found : LocatedBlock} → t ≡ Going block → t ≡ Reopened found → ⊥
apart_going one two = cc (sym one ∙ two)

module _ (a b : Shown) (sound : Shows IsSound a) (sound' : Shows IsSound b) (w : FileWriter) (block : BlockWriter) (going : w.tail ≡ Going block) where
  own_from : (x : Option ℕ) → OnlyOwnLink a (block_link block) b x → OnlyOwnLink a (link_of w) b x
  own_from x own = subst (λ (t : Tail). OnlyOwnLink a (link_by t) b x) (sym going) own

  -- its block was ended
  pub ended_wrote : (w' : FileWriter) → Keeps w w' → (named : Block) → w'.tail ≡ Done named → Closes a block named b → Wrote a w [] b w'
  ended_wrote w' keeps named done closes = record {
    keeps = keeps;
    own = subst (λ (t : Tail). OnlyOwnLink a (link_of w) b (link_by t)) (sym done) (own_from None closes.2.own);
    tallies = tallies_anew a b w w' (ap rebuilds_by done) closes.2.own.later;
    carries = ended_carries a b sound sound' w block going w' named done closes;
  }

  -- its block was given up
  pub gave_up_fails : IsSome (block_link block) → BlockStands a w.path w.sizes block
      → (fault : HdfsError) → GaveUp a block fault b → FailsOtherwise a w fault b
  gave_up_fails some stands fault gave =
      let pipe = has_pipe block some in
      let gives = gave pipe.0 pipe.1 in
      record {
        fails = record {
          own = own_from None (subst (λ (x : Option ℕ). OnlyOwnLink a x b None) (sym (ap link_in pipe.1)) gives.own);
          tells = tells_fault a b block.settings pipe.0.plan (IsCarrying block) fault gives.cause;
          limit = limit_given_up a b w fault going pipe.1 stands.stands gave;
          refused = λ refusal. absurd (apart_fault a b block.settings pipe.0.plan (IsCarrying block) fault gives.cause refusal);
          touches = gave_up_touches a b sound sound' w block going fault gave;
          cause = λ p bytes told c. gave_up_cause a b sound sound' w block going stands fault gave p bytes told c;
        };
        apart = apart_fault a b block.settings pipe.0.plan (IsCarrying block) fault gives.cause;
      }

  -- its block is no longer than a block of the file
  more_within : (block' : BlockWriter) (more : List ℕ) → Stands a w → w.failed ≡ false → BlockWrote a block more b block'
      → StandsItself b block' → length_of block' ≤ w.sizes.block_size
  more_within block' more stands fine wrote itself =
      let within = within_size b block' itself (still_open a b block block' more wrote (stands.is_open fine block going)) in
      omega (arith, within, wrote.keeps.block_size, (stands.going block going).size)

  -- more bytes went into its block
  pub more_wrote : (w' : FileWriter) (block' : BlockWriter) (more : List ℕ) → Stands a w → w.failed ≡ false → Keeps w w'
      → w'.tail ≡ Going block' → BlockWrote a block more b block' → StandsItself b block' → Wrote a w more b w'
  more_wrote w' block' more stands fine keeps going' wrote itself = record {
    keeps = keeps;
    own = own_from (link_of w') (subst (λ (t : Tail). OnlyOwnLink a (block_link block) b (link_by t)) (sym going') wrote.own);
    tallies = tallies_more w w' going (has_pipe block (stands.is_open fine block going)).1 going' wrote;
    carries = wrote_carries a b sound sound' w block going w' block' more going' (more_within block' more stands fine wrote itself) wrote;
  }

  -- it is one of the file still
  plan_more : (w' : FileWriter) (block' : BlockWriter) (more : List ℕ) → Stands a w → w.failed ≡ false → Keeps w w' → BlockWrote a block more b block'
      → (pipe : BlockPipeline) → block'.pipe ≡ Some pipe → IsPlanOf w'.path w'.sizes pipe.plan
  plan_more w' block' more stands fine keeps wrote pipe is =
      let before = has_pipe block (stands.is_open fine block going) in
      let stays = wrote.stays before.0 before.1 in
      let same : stays.0 ≡ pipe = pipe_is stays.0 pipe (sym stays.1 ∙ is) in
      plan_stays keeps (subst (λ (x : BlockPipeline). KeepsBlock before.0.plan x.plan) same stays.2) ((stands.going block going).plan before.0 before.1)

  pub more_stands : (w' : FileWriter) (block' : BlockWriter) (more : List ℕ) → Stands a w → w.failed ≡ false → w'.failed ≡ false → Keeps w w' → w'.tail ≡ Going block' → BlockWrote a block more b block' → StandsItself b block' → Stands b w'
  more_stands w' block' more stands fine fine' keeps going' wrote itself = record {
    packets = subst (λ (s : WriteSizes). ArePackets s) (sym keeps.sizes) stands.packets;
    going = λ other is.
        (let same : block' ≡ other = same_going going' is in
        subst (λ (x : BlockWriter). BlockStands b w'.path w'.sizes x) same (record {
          limited = subst (λ (s : WriteSizes). AreLimited s) (sym keeps.sizes) (stands.going block going).limited;
          stands = itself;
          size = wrote.keeps.block_size ∙ (stands.going block going).size ∙ ap (λ (s : WriteSizes). s.block_size) (sym keeps.sizes);
          chunk = wrote.keeps.chunk ∙ (stands.going block going).chunk ∙ ap (λ (s : WriteSizes). s.chunk) (sym keeps.sizes);
          packet_size = wrote.keeps.packet_size ∙ (stands.going block going).packet_size ∙ ap (λ (s : WriteSizes). s.packet_size) (sym keeps.sizes);
          settings = wrote.keeps.settings ∙ (stands.going block going).settings ∙ ap (λ (s : WriteSizes). s.rebuilding) (sym keeps.sizes);
          plain = ap (λ (s : WriteSizes). s.encrypted) keeps.sizes ∙ (stands.going block going).plain;
          plan = plan_more w' block' more stands fine keeps wrote;
        }));
    is_open = λ fine'' other is.
        (let same : block' ≡ other = same_going going' is in
        subst (λ (x : BlockWriter). IsSome (block_link x)) same (still_open a b block block' more wrote (stands.is_open fine block going)));
    idle = λ failed. absurd (false≢true (sym fine' ∙ failed));
    reopened = λ found is. absurd (apart_going going' is);
    done = λ fine''. ap last_of going';
  }

-- a writer that keeps no link
pub idle_own : (a x : Shown) (w : FileWriter) (y : Option ℕ) → link_of w ≡ None → OnlyOwnLink a None x y → OnlyOwnLink a (link_of w) x y
idle_own a x w y none own = subst (λ (l : Option ℕ). OnlyOwnLink a l x y) (sym none) own

-- a writer of a file that asks for a block
module _ (a m : Shown) (sound : Shows IsSound a) (w : FileWriter) (between : IsBetweenBlocks w) (client : List ℕ) (excluded : List DatanodeInfo) where
  added_wrote : (found : LocatedBlock) → found.b.num_bytes ≡ 0 → IsFull w.sizes.block_size (tail_of w) → Came a (add_block_ask w.path client (last_of w.tail) excluded w.file_id) (Ok (answers.AddBlock found)) m → Wrote a w [] m (record w { tail = Reopened found })
  added_wrote found empty full came = record {
    keeps = record { path = refl; file_id = refl; sizes = refl };
    own = idle_own a m w None (no_link w.tail between.none) (own_link_left a m None came.relays.leaves);
    tallies = tallies_anew a m w (record w { tail = Reopened found }) refl came.relays.leaves.later;
    carries = added_carries a m sound w between client excluded found empty full came;
  }

  -- it has one more
  pub answered_adds : (found : LocatedBlock) → IsFull w.sizes.block_size (tail_of w) → Came a (add_block_ask w.path client (last_of w.tail) excluded w.file_id) (Ok (answers.AddBlock found)) m
      → Adds client excluded a w found m
  answered_adds found full came = record {
    came = came;
    block = came.relays.shaped.0;
    empty = came.relays.shaped.1;
    nodes = came.relays.leaves.nodes;
    wrote = added_wrote found came.relays.shaped.1 full came;
  }

  -- or there was no answer
  pub unanswered_fails : (error : HdfsError) → Came a (add_block_ask w.path client (last_of w.tail) excluded w.file_id) (Err error) m → FailsOtherwise a w error m
  unanswered_fails error came = record {
    fails = record {
      own = idle_own a m w None (no_link w.tail between.none) (own_link_left a m None came.relays.leaves);
      tells = tells_asked a m error came.relays.tells;
      limit = λ start n is fails. absurd (no_limit came.relays.tells.0 is);
      refused = λ refusal. absurd (apart_asked error came.relays.tells.0 refusal);
      touches = unanswered_touches a m sound w between client excluded error came;
      cause = λ p bytes told c.
          asked_cause w.sizes w.path a a m error came.relays.tells (λ some. unanswered_rose a m sound w between client excluded error some came p bytes told c);
    };
    apart = apart_asked error came.relays.tells.0;
  }

-- a writer of a file that opens the pipeline of a block
module _ (m b : Shown) (w : FileWriter) (found : LocatedBlock) (reopened : w.tail ≡ Reopened found) where
  pub opened_wrote : (w' : FileWriter) (block : BlockWriter) (created : Bool) (settings : RebuildSettings) (size packet : ℕ) (setup : Setup) → Keeps w w' → w'.tail ≡ Going block → IsNew (plan_of w found created) settings size packet block
      → OpensLink m setup block b → BeginsWhole m (plan_of w found created) block b → Wrote m w [] b w'
  opened_wrote w' block created settings size packet setup keeps going' new opens begins = record {
    keeps = keeps;
    own = idle_own m b w (link_of w') (ap link_by reopened)
        (subst (λ (t : Tail). OnlyOwnLink m None b (link_by t)) (sym going')
        (own_link_opened m b setup opens.0 (block_link block) opens.1 opens.2));
    tallies = tallies_anew m b w w' (rebuilds_new w' going' new) opens.2.only.later;
    carries = opened_carries m b w found reopened w' block created settings size packet setup going' new opens begins;
  }

  -- It isn't set up, behind calls of a writer from which on first pipelines couldn't be.
  module _ (start : Shown) (x : FileWriter) (wrote : Wrote start x [] m w) (setup : Setup) where
    not_opened_fails : (fault : LinkFault) → (is_of_setup (fault_of fault) ≡ true → SetupsFailed x.sizes.setup_limit start.counts b.counts)
        → WriteNotOpened m setup fault b → FailsOtherwise start x (fault_of fault) b
    not_opened_fails fault setups not_opened = record {
      fails = record {
        own =
            own_link_trans start m b (link_of x) (link_of w) None wrote.own
            (idle_own m b w None (ap link_by reopened) (own_link_unopened m b setup fault None not_opened));
        tells = unopened_tells x.sizes.setup_limit start b fault setups;
        limit = limit_behind b (fault_of fault) wrote (λ from n is fails. absurd (unopened_no_limit fault n is));
        refused = λ refusal. absurd (unopened_apart fault refusal);
        touches =
            touches_behind start m b x w [] wrote.keeps.path wrote.carries (unopened_touches m b w found reopened setup fault not_opened);
        cause = λ p bytes told c. unopened_cause x.sizes x.path start b fault setups;
      };
      apart = unopened_apart fault;
    }

    pub unopened_fails : (fault : HdfsError) → (is_of_setup fault ≡ true → SetupsFailed x.sizes.setup_limit start.counts b.counts)
        → OpensNone m setup fault b → FailsOtherwise start x fault b
    unopened_fails fault setups (inl (memory, same)) =
        subst (λ (f : HdfsError). FailsOtherwise start x f b) (sym memory)
        (subst (λ (s : Shown). FailsOtherwise start x errors.NoMemory s) (sym same)
        (fails_after start m m x w [] errors.NoMemory wrote (starved_fails m w (ap link_by reopened))))
    unopened_fails fault setups (inr (why, is, not_opened)) =
        subst (λ (f : HdfsError). FailsOtherwise start x f b) (sym is)
        (not_opened_fails why (λ of. setups (ap is_of_setup is ∙ of)) not_opened)

-- a block that isn't gone on with is done
pub settled_wrote : (a : Shown) (w w' : FileWriter) (found : LocatedBlock) → Keeps w w' → w.tail ≡ Reopened found → w'.tail ≡ Done found.b → Wrote a w [] a w'
settled_wrote a w w' found keeps reopened done = record {
  keeps = keeps;
  own = idle_own a a w (link_of w') (ap link_by reopened) (subst (λ (t : Tail). OnlyOwnLink a None a (link_by t)) (sym done) (own_link_refl a None));
  tallies = tallies_anew a a w w' (ap rebuilds_by done) (later_refl a);
  carries = settled_carries a w w' found reopened done;
}

-- a block that was begun is one of the file
plan_begun : {w w' : FileWriter} {block : BlockWriter} {found : LocatedBlock} {created : Bool} {settings : RebuildSettings} {size packet : ℕ} → Keeps w w'
    → IsNew (plan_of w found created) settings size packet block → (pipe : BlockPipeline) → block.pipe ≡ Some pipe
    → IsPlanOf w'.path w'.sizes pipe.plan
plan_begun {w' = w'} keeps new pipe is =
    let same : new.pipe ≡ pipe = pipe_is new.pipe pipe (sym new.is ∙ is) in
    subst (λ (x : BlockPipeline). IsPlanOf w'.path w'.sizes x.plan) same (record {
      src = ap (λ (x : BlockPlan). x.src) new.plan ∙ sym keeps.path;
      replication = ap (λ (x : BlockPlan). x.replication) new.plan ∙ ap (λ (s : WriteSizes). s.replication) (sym keeps.sizes);
    })

-- a writer of a file whose block was begun
pub begun_stands : (b m : Shown) (w w' : FileWriter) (block : BlockWriter) (found : LocatedBlock) (created : Bool) (setup : Setup) → AreSizes w.sizes → w.sizes.encrypted ≡ false → w'.failed ≡ false → Keeps w w' → w'.tail ≡ Going block
    → StandsItself b block → IsNew (plan_of w found created) w.sizes.rebuilding w.sizes.block_size w.sizes.packet_size block → OpensLink m setup block b → Stands b w'
begun_stands b m w w' block found created setup sizes plain fine keeps going itself new opens = record {
  packets = subst (λ (s : WriteSizes). ArePackets s) (sym keeps.sizes) sizes.packets;
  going = λ other is.
      (let one : block ≡ other = same_going going is in
      subst (λ (x : BlockWriter). BlockStands b w'.path w'.sizes x) one (record {
        limited = subst (λ (s : WriteSizes). AreLimited s) (sym keeps.sizes) sizes.limited;
        stands = itself;
        size = new.block_size ∙ ap (λ (s : WriteSizes). s.block_size) (sym keeps.sizes);
        chunk = new.chunk ∙ ap (λ (s : WriteSizes). s.chunk) (sym keeps.sizes);
        packet_size = new.packet_size ∙ ap (λ (s : WriteSizes). s.packet_size) (sym keeps.sizes);
        settings = new.with ∙ ap (λ (s : WriteSizes). s.rebuilding) (sym keeps.sizes);
        plain = ap (λ (s : WriteSizes). s.encrypted) keeps.sizes ∙ plain;
        plan = plan_begun keeps new;
      }));
  is_open = λ fine' other is.
      (let one : block ≡ other = same_going going is in
      subst (λ (x : BlockWriter). IsSome (block_link x)) one (subst IsSome (sym opens.1) refl));
  idle = λ failed. absurd (false≢true (sym fine ∙ failed));
  reopened = λ located is. absurd (apart_going going is);
  done = λ fine'. ap last_of going;
}

-- A writer that stands has filled its last block where it has no room in it, and none is to be gone on with that has room.
pub full_without_room : (shown : Shown) (w : FileWriter) → Stands shown w → w.failed ≡ false → (HasRoom w.tail → ⊥)
    → (GoesOn w.sizes.block_size w.tail → ⊥) → IsFull w.sizes.block_size (tail_of w)
full_without_room shown w stands fine never short = by_tail w.tail refl never short
  where
    by_tail : (t : Tail) → w.tail ≡ t → (HasRoom t → ⊥) → (GoesOn w.sizes.block_size t → ⊥) → IsFull w.sizes.block_size t
    by_tail Bare is no_room ends = tt
    by_tail (Done block) is no_room ends = absurd (cc (sym (ap last_of is) ∙ stands.done fine))
    by_tail (Reopened located) is no_room ends =
        ⊎_elim (λ less. absurd (ends less)) (λ full. full) (cases_lt located.b.num_bytes w.sizes.block_size)
    by_tail (Going block) is no_room ends =
        ⊎_elim
        (λ less. absurd (no_room (λ same. absurd (omega (arith, less, same)))))
        (λ full. omega (arith, full, (stands.going block is).size))
        (cases_lt (length_of block) (size_of block))

-- no datanode has failed where nothing was done
pub same_nodes : (a b : Shown) → b ≡ a → SameNodes a b
same_nodes a b same d = ap (λ (x : Shown). x.counts.nodes d) same

-- no block is being written where data is to be encrypted
pub encrypted_none : (shown : Shown) (w : FileWriter) → Stands shown w → w.sizes.encrypted ≡ true → going_of w.tail ≡ None
encrypted_none shown w stands encrypted = by_tail w.tail refl
  where
    by_tail : (t : Tail) → w.tail ≡ t → going_of t ≡ None
    by_tail (Going block) is = absurd (false≢true (sym (stands.going block is).plain ∙ encrypted))
    by_tail tail is = refl

-- and none by a writer that hasn't failed and keeps no link
pub idle_none : (shown : Shown) (w : FileWriter) → Stands shown w → w.failed ≡ false → link_of w ≡ None → going_of w.tail ≡ None
idle_none shown w stands fine idle = by_tail w.tail refl idle
  where
    by_tail : (t : Tail) → w.tail ≡ t → link_by t ≡ None → going_of t ≡ None
    by_tail (Going block) is none = absurd (some_none (block_link block) (stands.is_open fine block is) none)
    by_tail tail is none = refl

-- the least of two that are some is some
pub min_some : (n a b : ℕ) → n ≡ min a b → 0 < a → 0 < b → (0 < n) × (n ≤ a)
min_some n a b is one two = (omega (arith, is, one, two), omega (arith, is))

-- a writer that has failed keeps no block
pub failed_stands : (shown shown' : Shown) (w w' : FileWriter) → Stands shown w → Keeps w w' → w'.tail ≡ Bare → w'.failed ≡ true → Stands shown' w'
failed_stands shown shown' w w' stands keeps bare failed = record {
  packets = subst (λ (s : WriteSizes). ArePackets s) (sym keeps.sizes) stands.packets;
  going = λ block is. absurd (cc (sym bare ∙ is));
  is_open = λ fine block is. absurd (cc (sym bare ∙ is));
  idle = λ is. ap link_by bare;
  reopened = λ located is. absurd (cc (sym bare ∙ is));
  done = λ fine. ap last_of bare;
}
