-- What an ask of several namenodes leaves, over any cluster, and what its failure tells of the counts.
use Rattle.std.proofs.Common.{◌≡◌, ◌⊎◌, inl, inr, ℕ, ◌≤◌, true, List, [], ◌∷◌, ◌++◌, Result, Err, refl, sym, ◌∙◌, subst, arith}
use Rattle.std.proofs.lemmas.Bool.{false≢true}
use Rattle.hdfs_cluster.specs.declared.asks.Ask.{Ask}
use Rattle.hdfs_cluster.specs.declared.asks.Answer.{Answer}
use Rattle.hdfs_cluster.specs.declared.asks.AskFault.{AskFault}
use Rattle.hdfs_cluster.specs.declared.asks.AskFault.TheVariants as faults
use Rattle.hdfs_cluster.specs.Counts.{Rose, RoseTwice}
use Rattle.hdfs_cluster.specs.Effects.{KeepsBytes}
use Rattle.hdfs_cluster.specs.Failover.{AsksOne, PassedOn, AsksInOrder, passes_on}
use Rattle.hdfs_cluster.specs.Namenode.{IsFailure, ServesTold, last_of}
use Rattle.hdfs_cluster.specs.Picture.{Picture}
use Rattle.hdfs_cluster.specs.Repeating.{Leaves}
use Rattle.hdfs_cluster.specs.Shown.{Shown, Served}
use Rattle.hdfs_cluster.proofs.Asking.{served_keeps}
use Rattle.hdfs_cluster.proofs.Relaying.{Has}
use Rattle.hdfs_cluster.proofs.Frames.{later_refl, later_trans, told_refl, told_trans, told_weaker}

bytes_refl : (p : Picture) → KeepsBytes p p
bytes_refl p = record { held = λ node id. refl; defaults = refl; reads = λ link. refl; writes = λ link. refl }

bytes_trans : (p q r : Picture) → KeepsBytes p q → KeepsBytes q r → KeepsBytes p r
bytes_trans p q r f g = record {
  held = λ node id. g.held node id ∙ f.held node id;
  defaults = g.defaults ∙ f.defaults;
  reads = λ link. g.reads link ∙ f.reads link;
  writes = λ link. g.writes link ∙ f.writes link;
}

pub leaves_refl : (a : Shown) → Leaves a a
leaves_refl a = record { later = later_refl a; reads = λ link. refl; writes = λ link. refl; links = refl; nodes = λ d. refl; bytes = told_refl KeepsBytes a.picture bytes_refl }

pub leaves_trans : (a b c : Shown) → Leaves a b → Leaves b c → Leaves a c
leaves_trans a b c f g = record {
  later = later_trans a b c f.later g.later;
  reads = λ link. g.reads link ∙ f.reads link;
  writes = λ link. g.writes link ∙ f.writes link;
  links = g.links ∙ f.links;
  nodes = λ d. g.nodes d ∙ f.nodes d;
  bytes = told_trans KeepsBytes a.picture b.picture c.picture bytes_trans f.bytes g.bytes;
}

pub leaves_served : (a b : Shown) (i : ℕ) (ask : Ask) (given : Result Answer AskFault) → Served a i ask given b → Leaves a b
leaves_served a b i ask given served = record {
  later = served.later;
  reads = served.reads;
  writes = served.writes;
  links = served.links;
  nodes = served.nodes;
  bytes = told_weaker (λ p q. ServesTold (Rose (a.counts.calls i) (b.counts.calls i)) p i ask given q) KeepsBytes a.picture b.picture
      (λ p q h. served_keeps (Rose (a.counts.calls i) (b.counts.calls i)) p q i ask given h) served.picture;
}

not_memory : (given : Result Answer AskFault) → passes_on given ≡ true → (given ≡ Err faults.NoMemory → ⊥)
not_memory given passes is = false≢true (subst (λ (g : Result Answer AskFault). passes_on g ≡ true) is passes)

-- what has an item, or ends with it
in_either : (a : ℕ) (front : List ℕ) (last : ℕ) → Has a (front ++ last ∷ []) → Has a front ⊎ (last ≡ a)
in_either a [] last (inl here) = inr here
in_either a [] last (inr later) = absurd later
in_either a (i ∷ others) last (inl here) = inl (inl here)
in_either a (i ∷ others) last (inr later) = by (in_either a others last later)
  where
    by : Has a others ⊎ (last ≡ a) → Has a (i ∷ others) ⊎ (last ≡ a)
    by (inl there) = inl (inr there)
    by (inr is) = inr is

module _ {C : Type 0} (shown : C → Shown) (serves : C → ℕ → Ask → Result Answer AskFault → C → Type 0)
    (rows : (old new : C) (i : ℕ) (ask : Ask) (result : Result Answer AskFault) → serves old i ask result new → Served (shown old) i ask result (shown new)) (ask : Ask) where
  leaves_one : (i : ℕ) (t u : C) (given : Result Answer AskFault) → AsksOne serves i ask t given u → Leaves (shown t) (shown u) × ((shown u).last ≡ last_of given)
  leaves_one i t u given (inl once) = (let row = rows t u i ask given once.0 in (leaves_served (shown t) (shown u) i ask given row, row.last))
  leaves_one i t u given (inr twice) =
      let first = rows t twice.0 i ask (Err faults.Broken) twice.1 in
      let row = rows twice.0 u i ask given twice.2 in (
        leaves_trans (shown t) (shown twice.0) (shown u) (leaves_served (shown t) (shown twice.0) i ask (Err faults.Broken) first) (leaves_served (shown twice.0) (shown u) i ask given row),
        row.last,
      )

  leaves_all : (front : List ℕ) (t u : C) → PassedOn serves front ask t u → Leaves (shown t) (shown u)
  leaves_all [] t u passed = subst (λ (x : C). Leaves (shown t) (shown x)) (sym passed) (leaves_refl (shown t))
  leaves_all (i ∷ others) t u passed = leaves_trans (shown t) (shown passed.1) (shown u) (leaves_one i t passed.1 passed.0 passed.2).0 (leaves_all others passed.1 u passed.4)

  -- whatever came of it, and the last answer is that of the last one asked
  pub asked_leaves : (order : List ℕ) (last : ℕ) (given : Result Answer AskFault) (old new : C) → AsksInOrder serves order ask old last given new → Leaves (shown old) (shown new) × ((shown new).last ≡ last_of given)
  asked_leaves order last given old new asks =
      let one = leaves_one last asks.mid new given asks.asked in
      (leaves_trans (shown old) (shown asks.mid) (shown new) (leaves_all asks.front old asks.mid asks.passed) one.0, one.1)

  rose_one : (i : ℕ) (t u : C) (given : Result Answer AskFault) → IsFailure given → AsksOne serves i ask t given u → Rose ((shown t).counts.calls i) ((shown u).counts.calls i)
  rose_one i t u given fails (inl once) = (rows t u i ask given once.0).cause fails
  rose_one i t u given fails (inr twice) = (let first = (rows t twice.0 i ask (Err faults.Broken) twice.1).later.counts.calls i in omega (arith, first, (rows twice.0 u i ask given twice.2).cause fails))

  twice_one : (i : ℕ) (t u : C) → AsksOne serves i ask t (Err faults.Broken) u → RoseTwice ((shown t).counts.calls i) ((shown u).counts.calls i)
  twice_one i t u (inl once) = absurd (false≢true (sym once.1))
  twice_one i t u (inr twice) = omega (arith, (rows t twice.0 i ask (Err faults.Broken) twice.1).cause tt, (rows twice.0 u i ask (Err faults.Broken) twice.2).cause tt)

  -- where the last one gave no answer, or false, its count rose
  pub failure_rose : (order : List ℕ) (last : ℕ) (given : Result Answer AskFault) (old new : C) → IsFailure given → AsksInOrder serves order ask old last given new → Rose ((shown old).counts.calls last) ((shown new).counts.calls last)
  failure_rose order last given old new fails asks =
      let before = (leaves_all asks.front old asks.mid asks.passed).later.counts.calls last in omega (arith, before, rose_one last asks.mid new given fails asks.asked)

  -- and where its connection broke, twice
  pub broken_rose : (order : List ℕ) (last : ℕ) (old new : C) → AsksInOrder serves order ask old last (Err faults.Broken) new → RoseTwice ((shown old).counts.calls last) ((shown new).counts.calls last)
  broken_rose order last old new asks =
      let before = (leaves_all asks.front old asks.mid asks.passed).later.counts.calls last in omega (arith, before, twice_one last asks.mid new asks.asked)

  -- one that passed it on, or gave no answer, was asked
  asked_one : (i : ℕ) (t u : C) (given : Result Answer AskFault) → passes_on given ≡ true → AsksOne serves i ask t given u
      → Rose ((shown t).counts.asks i) ((shown u).counts.asks i)
  asked_one i t u given passes (inl once) = (rows t u i ask given once.0).asked (not_memory given passes)
  asked_one i t u given passes (inr twice) =
      let first = (rows t twice.0 i ask (Err faults.Broken) twice.1).asked (λ is. absurd (cc)) in
      omega (arith, first, (rows twice.0 u i ask given twice.2).later.counts.asks i)

  asked_front : (front : List ℕ) (t u : C) → PassedOn serves front ask t u → (a : ℕ) → Has a front → Rose ((shown t).counts.asks a) ((shown u).counts.asks a)
  asked_front [] t u passed a has = absurd has
  asked_front (i ∷ others) t u passed a (inl here) =
      let one = asked_one i t passed.1 passed.0 passed.3 passed.2 in
      let rest = (leaves_all others passed.1 u passed.4).later.counts.asks i in
      subst (λ (k : ℕ). Rose ((shown t).counts.asks k) ((shown u).counts.asks k)) here (omega (arith, one, rest))
  asked_front (i ∷ others) t u passed a (inr later) =
      let one = (leaves_one i t passed.1 passed.0 passed.2).0.later.counts.asks a in
      omega (arith, one, asked_front others passed.1 u passed.4 a later)

  -- where the last one passed it on too, each of them was asked
  pub each_asked : (order : List ℕ) (last : ℕ) (given : Result Answer AskFault) (old new : C) → passes_on given ≡ true → AsksInOrder serves order ask old last given new
      → (a : ℕ) → Has a order → Rose ((shown old).counts.asks a) ((shown new).counts.asks a)
  each_asked order last given old new passes asks a has =
      let there = subst (λ (l : List ℕ). Has a (asks.front ++ last ∷ l)) (asks.ends passes) (subst (Has a) asks.in_order has) in
      let before = (leaves_all asks.front old asks.mid asks.passed).later.counts.asks a in
      let behind = (leaves_one last asks.mid new given asks.asked).0.later.counts.asks a in
      by (in_either a asks.front last there) before behind
    where
      by : Has a asks.front ⊎ (last ≡ a) → (shown old).counts.asks a ≤ (shown asks.mid).counts.asks a → (shown asks.mid).counts.asks a ≤ (shown new).counts.asks a
          → Rose ((shown old).counts.asks a) ((shown new).counts.asks a)
      by (inl front) before behind = omega (arith, asked_front asks.front old asks.mid asks.passed a front, behind)
      by (inr is) before behind =
          let one = subst (λ (k : ℕ). Rose ((shown asks.mid).counts.asks k) ((shown new).counts.asks k)) is (asked_one last asks.mid new given passes asks.asked) in
          omega (arith, before, one)
