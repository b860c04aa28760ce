-- How a block gets another pipeline: its generation stamp, its link, and its datanodes in the block table.
use Rattle.std.proofs.Common.{◌≡◌, inl, inr, ⊎_elim, ℕ, ◌<◌, List, map, Some, IsSome, refl, sym, ◌∙◌, subst}
use Rattle.std.specs.Prelude.{Result, Ok, Err}
use Rattle.hdfs_cluster.specs.declared.asks.Answer.{Answer}
use Rattle.hdfs_cluster.specs.declared.asks.Answer.TheVariants as answers
use Rattle.hdfs_cluster.specs.declared.asks.Ask.{Ask}
use Rattle.hdfs_cluster.specs.declared.asks.Ask.TheVariants as asks
use Rattle.hdfs_cluster.specs.Asks.{update_pipeline_ask}
use Rattle.hdfs_cluster.specs.declared.errors.HdfsError.{HdfsError}
use Rattle.hdfs_cluster.specs.declared.messages.DatanodeId.{DatanodeId}
use Rattle.hdfs_cluster.specs.declared.messages.LocatedBlock.{LocatedBlock}
use Rattle.hdfs_cluster.specs.declared.messages.Token.{Token}
use Rattle.hdfs_cluster.specs.declared.picture.BlockEntry.{BlockEntry}
use Rattle.hdfs_cluster.specs.Effects.{NamesPipeline}
use Rattle.hdfs_cluster.specs.Namenode.{Row}
use Rattle.hdfs_cluster.specs.Picture.{Picture, SameButActive}
use Rattle.hdfs_cluster.specs.Repeating.{Repeats}
use Rattle.hdfs_cluster.specs.Shown.{Shown}
use Rattle.hdfs_cluster.proofs.Repeating.{name_repeats, stamp_repeats}
use Rattle.hdfs_namenode.specs.Relaying.{Came}
use Rattle.hdfs_rebuild.specs.declared.block_plan.BlockPlan.{BlockPlan}
use Rattle.hdfs_rebuild.specs.Between.{WaitsOn}
use Rattle.hdfs_rebuild.specs.Opening.{with_stamp_of}
use Rattle.hdfs_rebuild.specs.Plans.{Known, Waits}
use Rattle.hdfs_rebuild.specs.Resuming.{with_stamp, Restamps, RestampsNot, MayBeNamed, NamesIt, NamesSo, NamesNot}
use Rattle.hdfs_rebuild.proofs.Asks.{asked_told, asked_row, asked_error}
use Rattle.hdfs_rebuild.proofs.Stepping.{only_block_of-same, written_still, waits_same}

-- a block that is listed is one of the table
is_some : (p : Picture) (id : ℕ) (entry : BlockEntry) → p.table id ≡ Some entry → IsSome (p.table id)
is_some p id entry is = subst IsSome (sym is) refl

-- A plan with another stamp and token waits as it does.
waits_stamped : (p : Picture) (plan : BlockPlan) (stamp : ℕ) (token : Token) (known : Known) → Waits p plan known
    → Waits p (with_stamp plan stamp token) known
waits_stamped p plan stamp token known w = record {
  file = written_still p p plan.src plan.block.b (with_stamp plan stamp token).block.b (λ at. refl) refl w.file;
  block = w.block;
}

-- The namenodes were asked for a greater generation stamp.
abbrev pub stamping : BlockPlan → List ℕ → Ask
stamping plan client = asks.UpdateBlockForPipeline plan.block.b client

stamp_row : (plan : BlockPlan) (client : List ℕ) (p q : Picture) (answer : Answer) → Row p (stamping plan client) answer q → SameButActive p q
stamp_row plan client p q (answers.UpdateBlockForPipeline located) row = row.1
stamp_row plan client p q answer row = absurd row

-- it may be asked for again
stamp_again : (plan : BlockPlan) (client : List ℕ) (p : Picture) (entry : BlockEntry) → p.table plan.block.b.block_id ≡ Some entry
    → Repeats (stamping plan client) p
stamp_again plan client p entry listed = stamp_repeats plan.block.b client p (is_some p plan.block.b.block_id entry listed)

module _ (plan : BlockPlan) {client : List ℕ} {a b : Shown} where
  stamp_waits : {result : Result Answer HdfsError} (plan' : BlockPlan) → ((q : Picture) (known : Known) → Waits q plan known → Waits q plan' known)
      → Came a (stamping plan client) result b → WaitsOn plan a plan' b
  stamp_waits plan' waits came p known is w =
      let x = asked_told came SameButActive p is (stamp_again plan client p w.block.lists.entry w.block.lists.is) (λ q same. same) (stamp_row plan client p) in (
        x.0,
        x.1,
        waits x.0 known (waits_same p x.0 plan known x.2 w),
        x.2.files.table plan.block.b.block_id,
        only_block_of-same plan.block.b.block_id p x.0 x.2,
      )

  -- a stamp that was answered is greater than that of the block table
  stamp_newer : (located : LocatedBlock) → Came a (stamping plan client) (Ok (answers.UpdateBlockForPipeline located)) b
      → (p : Picture) (entry : BlockEntry) → a.picture ≡ Some p → p.table plan.block.b.block_id ≡ Some entry
      → entry.stamp < located.b.generation_stamp
  stamp_newer located came p entry is listed =
      let row = (asked_row came (λ no. absurd (cc)) (λ no. absurd (cc)) p is (stamp_again plan client p entry listed)).2.0 in
      let same : row.entry ≡ entry = some_same row.entry entry (sym row.is ∙ listed) in
      subst (λ (e : BlockEntry). e.stamp < located.b.generation_stamp) same row.greater
    where
      some_same : (x y : BlockEntry) → Some x ≡ Some y → x ≡ y
      some_same x y is = cc

  pub restamped : {located : LocatedBlock} {plan' : BlockPlan} → plan' ≡ with_stamp plan located.b.generation_stamp located.block_token
      → Came a (stamping plan client) (Ok (answers.UpdateBlockForPipeline located)) b → Restamps plan a plan' b
  restamped {located} {plan'} is came =
      let stamp = located.b.generation_stamp in
      let token = located.block_token in record {
        stamp = stamp;
        token = token;
        is = is;
        newer = stamp_newer located came;
        waits =
            subst (λ (x : BlockPlan). WaitsOn plan a x b) (sym is)
            (stamp_waits (with_stamp plan stamp token) (λ q known. waits_stamped q plan stamp token known) came);
      }

  pub restamped_not : {error : HdfsError} → Came a (stamping plan client) (Err error) b → RestampsNot plan a error b
  restamped_not {error} came = record {
    cause = ⊎_elim
        (λ memory. inl memory)
        (λ other. inr (
          other.0,
          other.1,
          λ p known is w. other.2 p is (stamp_again plan client p w.block.lists.entry w.block.lists.is) (λ class refused. refused),
        ))
        (asked_error came);
    waits = stamp_waits plan (λ q known w. w) came;
  }

-- The namenodes were asked to name the datanodes of a pipeline.
abbrev pub naming : ℕ → BlockPlan → List ℕ → List DatanodeId → List (List ℕ) → Ask
naming stamp plan client nodes ids = update_pipeline_ask client (with_stamp_of plan.block.b stamp) plan.block.b nodes ids

module _ (stamp : ℕ) (plan : BlockPlan) (client : List ℕ) (nodes : List DatanodeId) (ids : List (List ℕ)) where
  -- the datanodes that are named are those of the plan
  of_plan : nodes ≡ map (λ node. node.id) plan.block.locs → (p q : Picture)
      → NamesPipeline (with_stamp_of plan.block.b stamp) plan.block.b nodes p q → NamesIt stamp plan p q
  of_plan are p q row = subst (λ (n : List DatanodeId). NamesPipeline (with_stamp_of plan.block.b stamp) plan.block.b n p q) are row

  -- it may be named again
  name_again : (p : Picture) (entry : BlockEntry) → p.table plan.block.b.block_id ≡ Some entry
      → Repeats (naming stamp plan client nodes ids) p
  name_again p entry listed =
      name_repeats client (with_stamp_of plan.block.b stamp) plan.block.b nodes ids p refl (is_some p plan.block.b.block_id entry listed)

  name_row : nodes ≡ map (λ node. node.id) plan.block.locs → (p q : Picture) (answer : Answer) → Row p (naming stamp plan client nodes ids) answer q
      → MayBeNamed stamp plan p q
  name_row are p q answers.UpdatePipeline row = inr (of_plan are p q row)
  name_row are p q answer row = absurd row

module _ {stamp : ℕ} (plan : BlockPlan) {client : List ℕ} {nodes : List DatanodeId} {ids : List (List ℕ)} {before after : Shown}
    (are : nodes ≡ map (λ node. node.id) plan.block.locs) where
  may_be_named : {result : Result Answer HdfsError} → Came before (naming stamp plan client nodes ids) result after
      → NamesSo (MayBeNamed stamp plan) plan before after
  may_be_named came p entry is listed =
      asked_told came (MayBeNamed stamp plan) p is (name_again stamp plan client nodes ids p entry listed) (λ q stays. inl stays)
      (name_row stamp plan client nodes ids are p)

  pub named : Came before (naming stamp plan client nodes ids) (Ok answers.UpdatePipeline) after
      → NamesSo (NamesIt stamp plan) plan before after
  named came p entry is listed =
      let x = asked_row came (λ no. absurd (cc)) (λ no. absurd (cc)) p is (name_again stamp plan client nodes ids p entry listed) in
      (x.0, x.1, of_plan stamp plan client nodes ids are p x.0 x.2)

  pub named_not : {error : HdfsError} → Came before (naming stamp plan client nodes ids) (Err error) after
      → NamesNot stamp plan before error after
  named_not {error} came = record {
    may = may_be_named came;
    cause = ⊎_elim
        (λ memory. inl memory)
        (λ other. inr (
          other.0,
          other.1,
          λ p entry is listed. other.2 p is (name_again stamp plan client nodes ids p entry listed) (λ class refused. refused),
        ))
        (asked_error came);
  }
