-- What comes of an ask for a datanode more, and of the transfer to it.
use Rattle.std.proofs.Common.{◌≡◌, ◌≢◌, ◌⊎◌, inl, inr, ⊎_elim, ℕ, ◌≤◌, false, true, List, Some, refl, sym, ◌∙◌, ap, subst, arith}
use Rattle.std.proofs.lemmas.Bool.{false≢true}
use Rattle.std.proofs.lemmas.List.Elements.{All-from_recursion}
use Rattle.std.specs.List.{Contains}
use Rattle.std.specs.Prelude.{Result, Ok, Err}
use Rattle.hdfs_cluster.specs.declared.errors.TransferFault.TheVariants as transfer_faults
use Rattle.hdfs_cluster.specs.declared.asks.Answer.{Answer}
use Rattle.hdfs_cluster.specs.declared.asks.Answer.TheVariants as answers
use Rattle.hdfs_cluster.specs.declared.asks.Ask.{Ask}
use Rattle.hdfs_cluster.specs.Asks.{additional_datanode_ask}
use Rattle.hdfs_cluster.specs.declared.asks.LinkFault.{LinkFault}
use Rattle.hdfs_cluster.specs.declared.asks.LinkFault.TheVariants as links
use Rattle.hdfs_cluster.specs.declared.errors.HdfsError.{HdfsError}
use Rattle.hdfs_cluster.specs.declared.errors.HdfsError.TheVariants as errors
use Rattle.hdfs_cluster.specs.declared.messages.Block.{Block}
use Rattle.hdfs_cluster.specs.declared.messages.DatanodeInfo.{DatanodeInfo}
use Rattle.hdfs_cluster.specs.declared.messages.LocatedBlock.{LocatedBlock}
use Rattle.hdfs_cluster.specs.declared.messages.Transfer.{Transfer}
use Rattle.hdfs_cluster.specs.Counts.{Rose}
use Rattle.hdfs_cluster.specs.Effects.{AddsOneOf}
use Rattle.hdfs_cluster.specs.Namenode.{IsToWrite, Row}
use Rattle.hdfs_cluster.specs.Picture.{Picture, SameButActive}
use Rattle.hdfs_cluster.specs.Pipes.{OnlyWrites}
use Rattle.hdfs_cluster.specs.Repeating.{Repeats}
use Rattle.hdfs_cluster.specs.Shown.{Shown}
use Rattle.hdfs_cluster.specs.Transferring.{GivesAll, GivesSome, NotTransferred, Transferred}
use Rattle.hdfs_cluster.specs.Writing.{OnlyBlock}
use Rattle.hdfs_cluster.specs.Sending.{uuids}
use Rattle.hdfs_cluster.proofs.Frames.{rose_since, told_after}
use Rattle.hdfs_cluster.proofs.Repeating.{datanode_repeats}
use Rattle.hdfs_names.specs.Shown.{shown as policy_of}
use Rattle.hdfs_namenode.specs.Relaying.{Came}
use Rattle.hdfs_namenode.proofs.Relayed.{came_as}
use Rattle.hdfs_rebuild.specs.declared.block_plan.BlockPlan.{BlockPlan}
use Rattle.hdfs_rebuild.specs.declared.block_plan.RebuildSettings.{RebuildSettings}
use Rattle.hdfs_rebuild.specs.Between.{HelpLacks, KeepsLinks, OnlyBlockOf, WaitsOn}
use Rattle.hdfs_rebuild.specs.Plans.{IsDue, Known, Waits}
use Rattle.hdfs_rebuild.specs.Replacing.{AddsNode, AddsNone, AreApart, Completes, CompletesNot, GivesBlock, GivesNoBlock, GivesToAdded, fault_of_none, fault_of_transfer, lacks_replacement, with_nodes}
use Rattle.hdfs_rebuild.proofs.Adding.{all_in, each_apart, only_given, waits_added, waits_without}
use Rattle.hdfs_rebuild.proofs.Asks.{asked_error, asked_row, asked_told}
use Rattle.hdfs_rebuild.proofs.Stepping.{keeps_links_refl, only_block_of_trans, only_block_of-same, waits_on_refl, waits_same}

-- a transfer changes no link
pub transfer_links : (old new : Shown) → OnlyWrites old new → ((link : ℕ) → new.writes link ≡ old.writes link) → KeepsLinks old new
transfer_links old new only writes =
    record { later = only.later; reads = record { links = only.reads; places = only.places }; writes = writes }

-- Giving a datanode the block, or not, changes no link.
pub gives_links : {plan : BlockPlan} {located : LocatedBlock} {name : List ℕ} {old new : Shown} → GivesBlock plan located name old new
    → KeepsLinks old new
gives_links {plan} {located} {name} {old} {new} (transfer, gives, given) = transfer_links old new given.only given.writes

pub gives_no_links : {plan : BlockPlan} {located : LocatedBlock} {name : List ℕ} {old : Shown} {fault : HdfsError} {new : Shown}
    → GivesNoBlock plan located name old fault new → KeepsLinks old new
gives_no_links {plan} {located} {name} {old} {fault} {new} (inl (memory, same)) = subst (KeepsLinks old) (sym same) (keeps_links_refl old)
gives_no_links {plan} {located} {name} {old} {fault} {new} (inr (transfer, why, gives, is, not)) = transfer_links old new not.only not.writes

none_fault : (error : HdfsError) → error ≢ errors.NoMemory → fault_of_none error ≡ (errors.DataTransferError transfer_faults.NoReplacement)
none_fault errors.NoMemory apart = absurd (apart refl)
none_fault error apart = refl

-- One ask for a datanode more.
module _ (plan : BlockPlan) (excludes : List DatanodeInfo) (count : ℕ) (client : List ℕ) (ids : List (List ℕ)) where
  abbrev pub adding : Ask
  adding = additional_datanode_ask plan.src plan.block.b plan.block.locs excludes count client ids

  row_same : (p q : Picture) (answer : Answer) → Row p adding answer q → SameButActive p q
  row_same p q (answers.GetAdditionalDatanode located) row = row.2
  row_same p q answer row = absurd row

  -- it may be asked for again
  again : (p : Picture) (known : Known) → Waits p plan known → Repeats adding p
  again p known w = datanode_repeats plan.src plan.block.b plan.block.locs excludes count client ids p w.file

module _ (plan : BlockPlan) {excludes : List DatanodeInfo} {count : ℕ} {client : List ℕ} {ids : List (List ℕ)} {a m : Shown} where
  -- the ask with the parts that its caller names
  pub asked_so : {src : List ℕ} {existing : List DatanodeInfo} {result : Result Answer HdfsError} → src ≡ plan.src → existing ≡ plan.block.locs
      → Came a (additional_datanode_ask src plan.block.b existing excludes count client ids) result m → Came a (adding plan excludes count client ids) result m
  asked_so same same_nodes came = came_as (cc (same, same_nodes)) refl came

  -- Whatever comes of it, the block waits as before.
  waits_asked : {result : Result Answer HdfsError} → Came a (adding plan excludes count client ids) result m → WaitsOn plan a plan m
  waits_asked came p known is w =
      let x = asked_told came SameButActive p is (again plan excludes count client ids p known w) (λ q same. same) (row_same plan excludes count client ids p) in (
        x.0,
        x.1,
        waits_same p x.0 plan known x.2 w,
        x.2.files.table plan.block.b.block_id,
        only_block_of-same plan.block.b.block_id p x.0 x.2,
      )

  -- why none was answered
  none_prepared : {result : Result Answer HdfsError} → Came a (adding plan excludes count client ids) result m → AddsNone plan a errors.NoMemory m
  none_prepared came = record { cause = inl refl; waits = waits_asked came }

  pub none_answered : {error : HdfsError} → Came a (adding plan excludes count client ids) (Err error) m → AddsNone plan a (fault_of_none error) m
  none_answered {error} came = record {
    cause = ⊎_elim
        (λ memory. inl (ap fault_of_none memory))
        (λ other. inr (
          none_fault error other.0,
          inr (λ p known is w. other.2 p is (again plan excludes count client ids p known w) (λ class none. none), (error, other.0, other.1)),
        ))
        (asked_error came);
    waits = waits_asked came;
  }

  -- A datanode was answered: over a told picture it is none of the others, nor of those that are left out.
  module _ {located : LocatedBlock} (came : Came a (adding plan excludes count client ids) (Ok (answers.GetAdditionalDatanode located)) m) where
    answered : (p : Picture) (known : Known) → a.picture ≡ Some p → Waits p plan known
        → (q : Picture) × (m.picture ≡ Some q) × AddsOneOf plan.block.locs excludes located.locs × SameButActive p q
    answered p known is w =
        let x = asked_row came (λ no. absurd (cc)) (λ no. absurd (cc)) p is (again plan excludes count client ids p known w) in
        (x.0, x.1, x.2.1, x.2.2)

    pub apart : AreApart plan a excludes located.locs
    apart p known is w = let x = answered p known is w in each_apart plan.block.locs excludes located.locs x.2

    -- Then it is given the block, or it isn't.
    module _ {name : List ℕ} (transfer : Transfer) (gives : GivesToAdded plan located name transfer) where
      only_both : (p q r : Picture) → SameButActive p q → OnlyBlock transfer.block.block_id (uuids transfer.targets) q r
          → OnlyBlockOf plan.block.b.block_id p r
      only_both p q r same only =
          only_block_of_trans plan.block.b.block_id p q r (only_block_of-same plan.block.b.block_id p q same)
          (only_given transfer q r plan.block.b.block_id (ap (λ (b : Block). b.block_id) gives.block) only)

      waits_with : {new : Shown} → Transferred m transfer new → WaitsOn plan a (with_nodes plan located) new
      waits_with {new} given p known is w =
          let x = answered p known is w in
          let y = told_after (GivesAll transfer) m.picture new.picture x.0 given.gives x.1 in
          let only = y.2.only in (
            y.0,
            y.1,
            waits_added plan excludes located name transfer x.2 gives x.0 known (waits_same p x.0 plan known x.3 w) y.0 y.2,
            only.records.table plan.block.b.block_id ∙ x.3.files.table plan.block.b.block_id,
            only_both p x.0 y.0 x.3 only,
          )

      none_given : {new : Shown} (fault : LinkFault) → NotTransferred m transfer fault new → AddsNone plan a (fault_of_transfer fault) new
      none_given {new} fault given = record {
        cause = why fault given.cause;
        waits = λ p known is w.
            (let x = answered p known is w in
            let y = told_after (GivesSome transfer) m.picture new.picture x.0 given.gives x.1 in
            let only = y.2.only in (
              y.0,
              y.1,
              waits_without plan excludes located name transfer x.2 gives x.0 known (waits_same p x.0 plan known x.3 w) y.0 y.2,
              only.records.table plan.block.b.block_id ∙ x.3.files.table plan.block.b.block_id,
              only_both p x.0 y.0 x.3 only,
            ));
      }
        where
          before : a.counts.links ≤ m.counts.links
          before = came.relays.leaves.later.counts.links

          failed : Rose m.counts.links new.counts.links → HelpLacks plan a new
          failed rose = inl (rose_since a.counts.links m.counts.links new.counts.links new.counts.links before rose (omega arith))

          why : (fault : LinkFault) → (fault ≢ links.NoMemory → Rose m.counts.links new.counts.links)
              → (fault_of_transfer fault ≡ errors.NoMemory)
              ⊎ ((fault_of_transfer fault ≡ errors.DataTransferError transfer_faults.NoReplacement) × HelpLacks plan a new)
          why links.NoMemory cause = inl refl
          why links.Broken cause = inr (refl, failed (cause (λ same. absurd (cc))))
          why links.Refused cause = inr (refl, failed (cause (λ same. absurd (cc))))

    pub waits_given : {name : List ℕ} {new : Shown} → GivesBlock plan located name m new → WaitsOn plan a (with_nodes plan located) new
    waits_given (transfer, gives, given) = waits_with transfer gives given

    pub given_none : {name : List ℕ} {fault : HdfsError} {new : Shown} → GivesNoBlock plan located name m fault new → AddsNone plan a fault new
    given_none {name} {fault} {new} (inl (memory, same)) =
        subst (λ (f : HdfsError). AddsNone plan a f new) (sym memory) (subst (AddsNone plan a errors.NoMemory) (sym same) (none_prepared came))
    given_none {name} {fault} {new} (inr (transfer, why, gives, is, not)) =
        subst (λ (f : HdfsError). AddsNone plan a f new) (sym is) (none_given transfer gives why not)

-- Each of the datanodes is one of them.
each_there : (plan : BlockPlan) (old : Shown) (excluded : List DatanodeInfo) → AreApart plan old excluded plan.block.locs
each_there plan old excluded p known is w =
    All-from_recursion (λ node. Contains (uuids plan.block.locs) node ⊎ (Contains (uuids excluded) node → ⊥)) (uuids plan.block.locs)
    (all_in plan.block.locs (λ node. Contains (uuids plan.block.locs) node ⊎ (Contains (uuids excluded) node → ⊥)) (λ name there. inl there))

-- How the datanodes of a plan are gone on with.
module _ (plan : BlockPlan) (settings : RebuildSettings) (excluded : List DatanodeInfo) (block : IsToWrite plan.block) (a : Shown) where
  pub completes_as_is : (IsDue plan settings plan.block.locs → ⊥) → Completes plan settings excluded a plan a
  completes_as_is none = record {
    how = inl (none, refl);
    block = block;
    apart = each_there plan a excluded;
    waits = waits_on_refl plan a;
  }

  pub completes_with : (located : LocatedBlock) (b : Shown) → IsDue plan settings plan.block.locs → AddsNode plan excluded a located b
      → Completes plan settings excluded a (with_nodes plan located) b
  completes_with located b due adds = record {
    how = inr (inr (due, (located, adds.one, refl)));
    block = record {
      some = adds.shape.some;
      few = adds.shape.few;
      types = adds.shape.types;
      ids = adds.shape.ids;
      below = block.below;
    };
    apart = adds.apart;
    waits = adds.waits;
  }

  pub completes_without : (error : HdfsError) (b : Shown) → IsDue plan settings plan.block.locs → (policy_of settings.replace).1 ≡ true
      → lacks_replacement error ≡ true → AddsNone plan a error b → Completes plan settings excluded a plan b
  completes_without error b due best lacks none = record {
    how =
        ⊎_elim
        (λ memory. absurd (false≢true (subst (λ (e : HdfsError). lacks_replacement e ≡ true) memory lacks)))
        (λ why. inr (inl (due, best, refl, ⊎_elim (λ links. inl links) (λ namenode. inr namenode.0) why.1)))
        none.cause;
    block = block;
    apart = each_there plan a excluded;
    waits = none.waits;
  }

  -- where it isn't gone on with so, it was for want of memory, or the write doesn't go on without
  pub completes_not : (error : HdfsError) (b : Shown) → IsDue plan settings plan.block.locs
      → (lacks_replacement error ≡ true → (policy_of settings.replace).1 ≡ false) → AddsNone plan a error b
      → CompletesNot plan settings a error b
  completes_not error b due ends none = record {
    cause =
        ⊎_elim
        (λ memory. inl memory)
        (λ why. inr (why.0, due, ends (subst (λ (e : HdfsError). lacks_replacement e ≡ true) (sym why.0) refl), why.1))
        none.cause;
    waits = none.waits;
  }
