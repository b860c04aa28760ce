-- Nothing changes but the settings, and datanodes that hold nothing join.
use Rattle.std.proofs.Common.{◌≡◌, ◌<◌, ℕ, true, not, List, map, refl, sym, ◌∙◌, ap, subst}
use Rattle.hdfs_cluster.specs.declared.mem_settings.MemSettings.{MemSettings}
use Rattle.hdfs_cluster.proofs.Loads.{and_parts}
use Rattle.hdfs_mem_faults.specs.declared.fault_plan.FaultPlan.{FaultPlan}
use Rattle.hdfs_mem_faults.specs.Following.{Follows}
use Rattle.hdfs_mem_faults.specs.Plans.{AddsNodes}
use Rattle.hdfs_mem_faults.specs.Series.{AsksOf}
use Rattle.hdfs_mem_faults.proofs.Following.{added_follows}
use Rattle.hdfs_mem_datanodes.specs.declared.datanodes.Datanodes.{Datanodes}
use Rattle.hdfs_mem_cluster.specs.Links.{write_at}
use Rattle.hdfs_mem_cluster.specs.declared.mem_cluster.MemCluster.{MemCluster}
use Rattle.hdfs_mem_cluster.specs.Laws.{nil_from_test}
use Rattle.hdfs_mem_cluster.specs.Lines.{line_of}
use Rattle.hdfs_mem_namenode.specs.Memory.{is_nil}
use Rattle.hdfs_mem_cluster.specs.MemShown.{loaded_at, is_fresh_of}
use Rattle.hdfs_mem_datanodes.specs.Nodes.{node_at, undisturbed_in, Joins}
use Rattle.hdfs_mem_datanodes.specs.Replicas.{held_by, undisturbed_by}
use Rattle.hdfs_mem_cluster.proofs.Counting.{same_namenodes, falls_adds}
use Rattle.hdfs_mem_cluster.proofs.Earlier.{later_earlier}
use Rattle.hdfs_mem_cluster.proofs.Failing.{fresh_calls}
use Rattle.hdfs_mem_cluster.proofs.NothingLoaded.{on_err}
use Rattle.hdfs_mem_cluster.proofs.Places.{place_same}
use Rattle.hdfs_mem_cluster.proofs.as_store.MemClusterStore.prepare.Goals as goal

-- before the first line datanodes may come
follows_more : (m : MemCluster) (plan : FaultPlan) → is_fresh_of m ≡ true → AddsNodes m.faults plan → Follows plan (map line_of m.loaded.items)
follows_more m plan fresh adds =
    let none = nil_from_test (map line_of m.loaded.items) (and_parts (is_nil (map line_of m.loaded.items)) (not m.space.grown) fresh).0 in
    subst (Follows plan) (sym none) (added_follows m.faults plan adds (subst (Follows m.faults) none m.follows))

-- the links stay undisturbed where they were
same_links : (old new : Datanodes) → ((d : List ℕ) → Joins (node_at old d) (node_at new d)) → (d : List ℕ) (b link : ℕ) → undisturbed_in new d b link ≡ undisturbed_in old d b link
same_links old new joins d b link = ap (λ o. undisturbed_by o link) ((joins d).replicas b)

pub invariant_of-self : goal.invariant_of-self
invariant_of-self c =
    let m = c.args.self.now in
    let adds = c.add_nodes.ensures.rest in
    record { counted = m.counted; unfailed = m.unfailed; follows = follows_more m c.add_nodes.new.self c.requires.fresh adds; earlier = later_earlier m.links m.faults c.add_nodes.new.self (falls_adds m.faults c.add_nodes.new.self adds) m.earlier }

pub invariant_of-self-in-Break-branch-2 : goal.invariant_of-self-in-Break-branch-2
invariant_of-self-in-Break-branch-2 c =
    let m = c.args.self.now in
    let adds = c.add_nodes.ensures.rest in
    record { counted = c.in_err-grow.ensures.err ∙ m.counted; unfailed = m.unfailed; follows = follows_more m c.add_nodes.new.self c.requires.fresh adds; earlier = later_earlier m.links m.faults c.add_nodes.new.self (falls_adds m.faults c.add_nodes.new.self adds) m.earlier }

pub invariant_of-self-2 : goal.invariant_of-self-2
invariant_of-self-2 c =
    let m = c.args.self.now in
    let adds = c.add_nodes.ensures.rest in
    record { counted = c.in_ok-grow.ensures.count ∙ sym (ap (λ (s : MemSettings). s.nodes) c.new-self.ensures); unfailed = m.unfailed; follows = follows_more m c.add_nodes.new.self c.requires.fresh adds; earlier = later_earlier m.links m.faults c.add_nodes.new.self (falls_adds m.faults c.add_nodes.new.self adds) m.earlier }

pub returns-in_err-add_nodes-clause-err : goal.returns-in_err-add_nodes-clause-err
returns-in_err-add_nodes-clause-err c =
    let adds = c.add_nodes.ensures.rest in
    on_err c.from_residual.result (record {
      rest = record { counts = record { asks = λ i. adds.calls (AsksOf i); calls = same_namenodes c.args.self.now.config.settings c.args.self.now.calls c.args.self.now.faults c.add_nodes.new.self adds.asks; links = adds.links.faults; nodes = adds.nodes }; last = refl; namenodes = refl; reads = λ link. refl; writes = λ link. refl };
      lines = refl;
      picture = record {
        rest = record {
          files = record { names = λ path. refl; table = λ id. refl; held = λ node id. refl; defaults = refl };
          reads = λ link. refl;
          writes = λ link. refl;
        };
        active = refl;
      };
    })

pub returns-in_err-grow-clause-err : goal.returns-in_err-grow-clause-err
returns-in_err-grow-clause-err c =
    let m = c.args.self.now in
    let joins = c.grow.ensures.joins in
    let adds = c.add_nodes.ensures.rest in
    on_err c.from_residual-in_err-grow.result (record {
      rest = record { counts = record { asks = λ i. adds.calls (AsksOf i); calls = same_namenodes c.args.self.now.config.settings c.args.self.now.calls c.args.self.now.faults c.add_nodes.new.self adds.asks; links = adds.links.faults; nodes = adds.nodes }; last = refl; namenodes = refl; reads = λ link. refl; writes = λ link. refl };
      lines = refl;
      picture = record {
        rest = record {
          files = record { names = λ path. refl; table = λ id. refl; held = λ node id. ap held_by ((joins node).replicas id); defaults = refl };
          reads = λ link. refl;
          writes = λ link. place_same m.nodes c.grow.new.self (same_links m.nodes c.grow.new.self joins) link (write_at m.links link);
        };
        active = refl;
      };
    })

pub returns-clause-ok : goal.returns-clause-ok
returns-clause-ok c =
    let m = c.args.self.now in
    let joins = c.grow.ensures.joins in
    let adds = c.add_nodes.ensures.rest in
    record {
      counts = record { asks = λ i. adds.calls (AsksOf i); calls = fresh_calls c.args.self.now c.requires.fresh c.new-self.result.settings c.add_nodes.new.self adds.asks; links = adds.links.faults; nodes = adds.nodes };
      last = refl;
      namenodes = ap (λ (s : MemSettings). s.namenodes) c.new-self.ensures;
      reads = λ link. refl;
      writes = λ link. refl;
      loaded = ap (λ (s : MemSettings). loaded_at s (map line_of m.loaded.items)) c.new-self.ensures;
      picture = record {
        active = ap (λ (s : MemSettings). s.active) c.new-self.ensures;
        defaults = ap (λ (s : MemSettings). s.defaults) c.new-self.ensures;
        names = λ path. refl;
        table = λ id. refl;
        held = λ node id. ap held_by ((joins node).replicas id);
        reads = λ link. refl;
        writes = λ link. place_same m.nodes c.grow.new.self (same_links m.nodes c.grow.new.self joins) link (write_at m.links link);
      };
    }

pub returns-clause-there : goal.returns-clause-there
returns-clause-there c = λ k below. record {
  there = c.grow.new.self.numbered k (subst (λ (n : ℕ). k < n) (sym c.in_ok-grow.ensures.count) below);
  counted = c.in_ok-add_nodes.ensures.there k below;
}

pub returns-clause-counted : goal.returns-clause-counted
returns-clause-counted c =
    let adds = c.add_nodes.ensures.rest in
    record {
      counts = record { asks = λ i. adds.calls (AsksOf i); calls = fresh_calls c.args.self.now c.requires.fresh c.new-self.result.settings c.add_nodes.new.self adds.asks; links = adds.links.faults; nodes = adds.nodes };
      calls = adds.calls;
      bad = λ link shown. adds.links.bad link;
      there = λ d has. record { there = (c.grow.ensures.joins d).there has.there; counted = adds.there d has.counted };
    }

pub returns-in_err-add_nodes-clause-counted : goal.returns-in_err-add_nodes-clause-counted
returns-in_err-add_nodes-clause-counted c =
    let adds = c.add_nodes.ensures.rest in
    record {
      counts = record { asks = λ i. adds.calls (AsksOf i); calls = same_namenodes c.args.self.now.config.settings c.args.self.now.calls c.args.self.now.faults c.add_nodes.new.self adds.asks; links = adds.links.faults; nodes = adds.nodes };
      calls = adds.calls;
      bad = λ link shown. adds.links.bad link;
      there = λ d has. record { there = has.there; counted = adds.there d has.counted };
    }

pub returns-in_err-grow-clause-counted : goal.returns-in_err-grow-clause-counted
returns-in_err-grow-clause-counted c =
    let adds = c.add_nodes.ensures.rest in
    record {
      counts = record { asks = λ i. adds.calls (AsksOf i); calls = same_namenodes c.args.self.now.config.settings c.args.self.now.calls c.args.self.now.faults c.add_nodes.new.self adds.asks; links = adds.links.faults; nodes = adds.nodes };
      calls = adds.calls;
      bad = λ link shown. adds.links.bad link;
      there = λ d has. record { there = (c.grow.ensures.joins d).there has.there; counted = adds.there d has.counted };
    }
