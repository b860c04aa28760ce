-- The fault is planned with its line, and nothing changes of the picture.
use Rattle.std.proofs.Common.{◌≡◌, List, [], ◌∷◌, ◌++◌, map, refl, sym, ◌∙◌, ap, subst}
use Rattle.std.proofs.lemmas.List.{map-append}
use Rattle.hdfs_mem_faults.specs.Following.{Follows}
use Rattle.hdfs_mem_faults.specs.Series.{AsksOf}
use Rattle.hdfs_mem_faults.proofs.Following.{plan_follows}
use Rattle.hdfs_mem_cluster.specs.declared.loaded.Kept.{Kept}
use Rattle.hdfs_mem_cluster.specs.declared.loaded.Kept.TheVariants as keeps
use Rattle.hdfs_mem_cluster.specs.Lines.{line_of}
use Rattle.hdfs_mem_cluster.specs.MemShown.{loaded_at, picture_at}
use Rattle.hdfs_mem_cluster.proofs.Failing.{unfailed_push, unfailed_same}
use Rattle.hdfs_mem_cluster.proofs.Counting.{same_namenodes, falls_fault}
use Rattle.hdfs_mem_cluster.proofs.Earlier.{later_earlier}
use Rattle.hdfs_mem_cluster.proofs.Cutting.{keeps_refl}
use Rattle.hdfs_mem_cluster.proofs.Lying.{lie_fault}
use Rattle.hdfs_mem_cluster.proofs.NewLying.{loaded_more}
use Rattle.hdfs_mem_cluster.proofs.Stills.{shown_at}
use Rattle.hdfs_mem_cluster.proofs.NothingLoaded.{follows_push, on_err}
use Rattle.hdfs_mem_cluster.proofs.mem_cluster.MemCluster.take_fault.Goals as goal

pub invariant_of-self : goal.invariant_of-self
invariant_of-self c =
    let m = c.args.self.now in
    record { counted = m.counted; unfailed = unfailed_same m.loaded.items c.reserve.new.self.items m.calls c.reserve.ensures.items m.unfailed; earlier = m.earlier; follows = subst (λ (xs : List Kept). Follows m.faults (map line_of xs)) (sym c.reserve.ensures.items) m.follows }

pub invariant_of-self-2 : goal.invariant_of-self-2
invariant_of-self-2 c =
    let m = c.args.self.now in
    let kept = keeps.Fault c.args.fault in
    let items : c.push_reserved.new.self.items ≡ m.loaded.items ++ kept ∷ [] = c.push_reserved.ensures.items ∙ ap (λ (xs : List Kept). xs ++ kept ∷ []) c.reserve.ensures.items in
    record {
      counted = m.counted;
      unfailed = unfailed_push m.loaded.items c.push_reserved.new.self.items kept m.calls items m.unfailed;
      follows = follows_push c.plan.new.self m.loaded.items c.push_reserved.new.self.items kept items (plan_follows m.faults c.plan.new.self (map line_of m.loaded.items) c.args.fault c.in_ok-plan.ensures.ok m.follows);
      earlier = later_earlier m.links m.faults c.plan.new.self (falls_fault m.faults c.plan.new.self c.args.fault c.in_ok-plan.ensures.ok) m.earlier;
    }

pub returns-clause-loads : goal.returns-clause-loads
returns-clause-loads c =
    let m = c.args.self.now in
    let kept = keeps.Fault c.args.fault in
    let items : c.push_reserved.new.self.items ≡ m.loaded.items ++ kept ∷ [] = c.push_reserved.ensures.items ∙ ap (λ (xs : List Kept). xs ++ kept ∷ []) c.reserve.ensures.items in
    let plans = c.in_ok-plan.ensures.ok in
    record {
      rest = record { counts = record { asks = λ i. plans.calls (AsksOf i); calls = same_namenodes m.config.settings m.calls m.faults c.plan.new.self plans.asks; links = plans.links.faults; nodes = plans.nodes }; last = refl; namenodes = refl; reads = λ link. refl; writes = λ link. refl };
      settings = refl;
      lines = ap (map line_of) items ∙ map-append line_of m.loaded.items (kept ∷ []);
      picture = record { rest = record { files = record { names = λ path. refl; table = λ id. refl; held = λ node id. refl; defaults = refl }; reads = λ link. refl; writes = λ link. refl }; active = refl };
      files = λ state was. was;
      replicas = λ state was lie.
          (let p = picture_at m.space m.nodes m.config.settings m.links in
          let loaded = map line_of m.loaded.items in
          loaded_more (shown_at m.space m.config.settings m.last m.calls (map line_of c.push_reserved.new.self.items) c.plan.new.self m.nodes m.links) p state.files m.config.settings.nodes (loaded ++ line_of kept ∷ []) refl
          (ap (map line_of) items ∙ map-append line_of m.loaded.items (kept ∷ [])) refl
          (lie_fault m.config.settings.nodes loaded p p (keeps_refl p.table p.held) state.files c.args.fault (λ x. refl) (lie p refl)));
    }

pub returns-in_err-plan-clause-err : goal.returns-in_err-plan-clause-err
returns-in_err-plan-clause-err c =
    let m = c.args.self.now in
    let same = c.in_err-plan.ensures.err in
    on_err c.from_residual-in_err-plan.result (record {
      rest = record { counts = record { asks = λ i. same.calls (AsksOf i); calls = same_namenodes m.config.settings m.calls m.faults c.plan.new.self same.asks; links = same.links.faults; nodes = same.nodes }; last = refl; namenodes = refl; reads = λ link. refl; writes = λ link. refl };
      lines = ap (λ (xs : List Kept). loaded_at m.config.settings (map line_of xs)) c.reserve.ensures.items;
      picture = record { active = refl; defaults = refl; reads = λ link. refl; writes = λ link. refl; table = λ id some. refl; held = λ node id some. refl };
      files = λ state was. was;
    })

pub returns-clause-counted : goal.returns-clause-counted
returns-clause-counted c =
    let m = c.args.self.now in
    let plans = c.in_ok-plan.ensures.ok in
    record {
      counts = record { asks = λ i. plans.calls (AsksOf i); calls = same_namenodes m.config.settings m.calls m.faults c.plan.new.self plans.asks; links = plans.links.faults; nodes = plans.nodes };
      calls = plans.calls;
      bad = λ link shown. plans.links.bad link;
      there = λ d has. record { there = has.there; counted = plans.there d ∙ has.counted };
    }

pub returns-in_err-plan-clause-counted : goal.returns-in_err-plan-clause-counted
returns-in_err-plan-clause-counted c =
    let m = c.args.self.now in
    let same = c.in_err-plan.ensures.err in
    record {
      counts = record { asks = λ i. same.calls (AsksOf i); calls = same_namenodes m.config.settings m.calls m.faults c.plan.new.self same.asks; links = same.links.faults; nodes = same.nodes };
      calls = same.calls;
      bad = λ link shown. same.links.bad link;
      there = λ d has. record { there = has.there; counted = same.plans.there d ∙ has.counted };
    }
