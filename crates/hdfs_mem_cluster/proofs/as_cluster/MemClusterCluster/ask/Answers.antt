-- What the namenode answers is served and counted, and is the last answer.
use Rattle.std.proofs.Common.{Bool, List, map, option_copied, Err, refl, sym, ◌∙◌, ap, subst}
use Rattle.hdfs_cluster.specs.declared.asks.AskFault.TheVariants as faults
use Rattle.hdfs_mem_faults.specs.Calls.{next_kind}
use Rattle.hdfs_mem_faults.specs.Plans.{ask_kind, calls_of}
use Rattle.hdfs_mem_faults.specs.Series.{AsksOf}
use Rattle.hdfs_mem_faults.proofs.Asking.{counts_behind, next_ask_same}
use Rattle.hdfs_mem_faults.proofs.Following.{ask_follows, same_follows}
use Rattle.hdfs_mem_namenode.proofs.Answering.{same_picture}
use Rattle.hdfs_mem_datanodes.proofs.Pipelines.{same_nodes_refl}
use Rattle.hdfs_mem_cluster.specs.declared.loaded.Kept.{Kept}
use Rattle.hdfs_mem_cluster.specs.Lines.{line_of}
use Rattle.hdfs_mem_cluster.specs.MemShown.{picture_at, picture_of}
use Rattle.hdfs_mem_cluster.specs.Responding.{AskComesTo, failed_after, is_answered}
use Rattle.hdfs_mem_cluster.proofs.Earlier.{counted_earlier}
use Rattle.hdfs_mem_cluster.proofs.Failing.{unfailed_after}
use Rattle.hdfs_mem_cluster.proofs.Serving.{comes_to_nothing, counted_ask, counted_step, failed_here, mem_serves, on_ok_then, served, uncounted_ask, uncounted_step}
use Rattle.hdfs_mem_cluster.proofs.as_cluster.MemClusterCluster.ask.Goals as goal

-- ---- no memory for a tally

pub invariant_of-self : goal.invariant_of-self
invariant_of-self c =
    let m = c.args.self.now in
    let same = c.add_namenode.ensures.same in
    record {
      counted = m.counted;
      unfailed = m.unfailed;
      follows = same_follows m.faults c.add_namenode.new.self (map line_of m.loaded.items) same m.follows;
      earlier = counted_earlier m.links m.faults c.add_namenode.new.self same.nodes m.earlier;
    }

pub returns-then-is_err-clause-served : goal.returns-then-is_err-clause-served
returns-then-is_err-clause-served c =
    let m = c.args.self.now in
    let plan = c.add_namenode.new.self in
    let kind = next_kind (ask_kind m.faults c.args.i) (calls_of m.faults (AsksOf c.args.i)) in
    served m.space m.space m.faults plan m.nodes m.nodes m.config.settings m.last _ m.calls m.calls (map line_of m.loaded.items) m.links c.args.i c.args.ask.now kind (Err faults.NoMemory) refl
    (uncounted_ask m.config.settings c.args.i kind m.calls m.faults plan c.requires.one c.add_namenode.ensures.same)
    (comes_to_nothing (map line_of m.loaded.items) m.nodes.count kind (picture_of m) (picture_of m) c.args.i c.args.ask.now (same_picture (picture_of m)))

pub returns-then-is_err-clause-serves : goal.returns-then-is_err-clause-serves
returns-then-is_err-clause-serves c =
    let m = c.args.self.now in
    let plan = c.add_namenode.new.self in
    let kind = next_kind (ask_kind m.faults c.args.i) (calls_of m.faults (AsksOf c.args.i)) in
    let counts = uncounted_ask m.config.settings c.args.i kind m.calls m.faults plan c.requires.one c.add_namenode.ensures.same in
    let comes = comes_to_nothing (map line_of m.loaded.items) m.nodes.count kind (picture_of m) (picture_of m) c.args.i c.args.ask.now (same_picture (picture_of m)) in
    let serves = served m.space m.space m.faults plan m.nodes m.nodes m.config.settings m.last _ m.calls m.calls (map line_of m.loaded.items) m.links c.args.i c.args.ask.now kind (Err faults.NoMemory) refl counts comes in
    mem_serves m _ c.args.i kind (Err faults.NoMemory) (same_nodes_refl m.nodes) refl counts (uncounted_step m.config.settings c.args.i kind m.calls m.faults plan c.requires.one c.add_namenode.ensures.same) c.args.ask.now refl serves comes

-- ---- an answer

pub ask-requires : goal.ask-requires
ask-requires c = on_ok_then c.add_namenode.result (sym c.is_err.ensures.value ∙ c.if-is_err.false) c.add_namenode.ensures.there

pub invariant_of-self-in-Ok : goal.invariant_of-self-in-Ok
invariant_of-self-in-Ok c =
    let m = c.args.self.now in
    let r = c.answer-answered in
    let q = picture_at r.new.space r.new.nodes m.config.settings m.links in
    let kind = option_copied c.next_ask.result in
    let given = c.in-Ok.answered.result in
    let comes = subst (λ (items : List Kept). AskComesTo (map line_of items) m.nodes.count kind (picture_of m) c.args.i c.args.ask.now given q) c.as_slice.ensures.value (c.in-Ok.ensures.comes m.links) in
    let counts = counts_behind m.faults c.add_namenode.new.self c.ask.new.self c.args.i c.ask.result c.add_namenode.ensures.same c.ask.ensures in
    let after = c.failures_after-self.ensures.after ∙ ap (λ (b : Bool). failed_after b m.calls) c.in-Ok.ensures.failed in
    record {
      counted = r.ensures.rest.count ∙ m.counted;
      unfailed = unfailed_after (map line_of m.loaded.items) m.nodes.count kind (picture_of m) q c.args.i c.args.ask.now given comes m.calls c.failures_after-self.result after m.unfailed;
      follows = ask_follows m.faults c.ask.new.self (map line_of m.loaded.items) c.args.i c.ask.result counts m.follows;
      earlier = counted_earlier m.links m.faults c.ask.new.self counts.nodes m.earlier;
    }

pub returns-in-Ok-clause-served : goal.returns-in-Ok-clause-served
returns-in-Ok-clause-served c =
    let m = c.args.self.now in
    let r = c.answer-answered in
    let q = picture_at r.new.space r.new.nodes m.config.settings m.links in
    let kind = option_copied c.next_ask.result in
    let given = c.in-Ok.answered.result in
    let comes = subst (λ (items : List Kept). AskComesTo (map line_of items) m.nodes.count kind (picture_of m) c.args.i c.args.ask.now given q) c.as_slice.ensures.value (c.in-Ok.ensures.comes m.links) in
    let counts = counts_behind m.faults c.add_namenode.new.self c.ask.new.self c.args.i c.ask.result c.add_namenode.ensures.same c.ask.ensures in
    let after = c.failures_after-self.ensures.after ∙ ap (λ (b : Bool). failed_after b m.calls) c.in-Ok.ensures.failed in
    let is = c.next_ask.ensures ∙ next_ask_same m.faults c.add_namenode.new.self c.add_namenode.ensures.same c.args.i in
    let all = counted_ask m.config.settings c.args.i kind m.calls m.faults c.ask.new.self c.requires.one given c.failures_after-self.result c.ask.result counts is c.in-Ok.ensures.answered
    (failed_here (map line_of m.loaded.items) m.nodes.count kind (picture_of m) q c.args.i c.args.ask.now given comes) after in
    served m.space r.new.space m.faults c.ask.new.self m.nodes r.new.nodes m.config.settings m.last c.in-Ok.answered.last m.calls c.failures_after-self.result (map line_of m.loaded.items) m.links c.args.i c.args.ask.now kind given c.in-Ok.ensures.last all comes

pub returns-in-Ok-clause-serves : goal.returns-in-Ok-clause-serves
returns-in-Ok-clause-serves c =
    let m = c.args.self.now in
    let r = c.answer-answered in
    let q = picture_at r.new.space r.new.nodes m.config.settings m.links in
    let kind = option_copied c.next_ask.result in
    let given = c.in-Ok.answered.result in
    let comes = subst (λ (items : List Kept). AskComesTo (map line_of items) m.nodes.count kind (picture_of m) c.args.i c.args.ask.now given q) c.as_slice.ensures.value (c.in-Ok.ensures.comes m.links) in
    let counts = counts_behind m.faults c.add_namenode.new.self c.ask.new.self c.args.i c.ask.result c.add_namenode.ensures.same c.ask.ensures in
    let after = c.failures_after-self.ensures.after ∙ ap (λ (b : Bool). failed_after b m.calls) c.in-Ok.ensures.failed in
    let is = c.next_ask.ensures ∙ next_ask_same m.faults c.add_namenode.new.self c.add_namenode.ensures.same c.args.i in
    let all = counted_ask m.config.settings c.args.i kind m.calls m.faults c.ask.new.self c.requires.one given c.failures_after-self.result c.ask.result counts is c.in-Ok.ensures.answered
    (failed_here (map line_of m.loaded.items) m.nodes.count kind (picture_of m) q c.args.i c.args.ask.now given comes) after in
    let serves = served m.space r.new.space m.faults c.ask.new.self m.nodes r.new.nodes m.config.settings m.last c.in-Ok.answered.last m.calls c.failures_after-self.result (map line_of m.loaded.items) m.links c.args.i c.args.ask.now kind given c.in-Ok.ensures.last all comes in
    let step = counted_step m.config.settings c.args.i kind m.calls m.faults c.ask.new.self c.requires.one (is_answered given) c.ask.result c.in-Ok.ensures.answered counts in
    mem_serves m _ c.args.i kind given r.ensures.rest refl all step c.args.ask.now is serves comes

-- ---- no memory for an answer

pub invariant_of-self-in-Err : goal.invariant_of-self-in-Err
invariant_of-self-in-Err c =
    let m = c.args.self.now in
    let same = c.add_namenode.ensures.same in
    record {
      counted = c.answer-answered.ensures.rest.count ∙ m.counted;
      unfailed = m.unfailed;
      follows = same_follows m.faults c.add_namenode.new.self (map line_of m.loaded.items) same m.follows;
      earlier = counted_earlier m.links m.faults c.add_namenode.new.self same.nodes m.earlier;
    }

pub returns-in-Err-clause-served : goal.returns-in-Err-clause-served
returns-in-Err-clause-served c =
    let m = c.args.self.now in
    let r = c.answer-answered in
    let plan = c.add_namenode.new.self in
    let q = picture_at r.new.space r.new.nodes m.config.settings m.links in
    let kind = next_kind (ask_kind m.faults c.args.i) (calls_of m.faults (AsksOf c.args.i)) in
    served m.space r.new.space m.faults plan m.nodes r.new.nodes m.config.settings m.last _ m.calls m.calls (map line_of m.loaded.items) m.links c.args.i c.args.ask.now kind (Err faults.NoMemory) refl
    (uncounted_ask m.config.settings c.args.i kind m.calls m.faults plan c.requires.one c.add_namenode.ensures.same)
    (comes_to_nothing (map line_of m.loaded.items) m.nodes.count kind (picture_of m) q c.args.i c.args.ask.now (c.in-Err.ensures.err m.links))

pub returns-in-Err-clause-serves : goal.returns-in-Err-clause-serves
returns-in-Err-clause-serves c =
    let m = c.args.self.now in
    let r = c.answer-answered in
    let plan = c.add_namenode.new.self in
    let q = picture_at r.new.space r.new.nodes m.config.settings m.links in
    let kind = next_kind (ask_kind m.faults c.args.i) (calls_of m.faults (AsksOf c.args.i)) in
    let counts = uncounted_ask m.config.settings c.args.i kind m.calls m.faults plan c.requires.one c.add_namenode.ensures.same in
    let comes = comes_to_nothing (map line_of m.loaded.items) m.nodes.count kind (picture_of m) q c.args.i c.args.ask.now (c.in-Err.ensures.err m.links) in
    let serves = served m.space r.new.space m.faults plan m.nodes r.new.nodes m.config.settings m.last _ m.calls m.calls (map line_of m.loaded.items) m.links c.args.i c.args.ask.now kind (Err faults.NoMemory) refl counts comes in
    mem_serves m _ c.args.i kind (Err faults.NoMemory) r.ensures.rest refl counts (uncounted_step m.config.settings c.args.i kind m.calls m.faults plan c.requires.one c.add_namenode.ensures.same) c.args.ask.now refl serves comes
