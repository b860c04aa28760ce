-- The first opening that doesn't break is behind those that did. The moment that is asked for before an opening changes nothing that is
-- shown.
use Rattle.std.proofs.Common.{◌≡◌, ◌≢◌, ℕ, List, Some, None, refl, sym, ◌∙◌, ap, subst, rules}
use Rattle.std.proofs.lemmas.Result.{IfOk-weaker, IfErr-weaker}
use Rattle.hdfs_connections.specs.declared.connection_cache.ConnectionCache.{ConnectionCache}
use Rattle.hdfs_connections.specs.Connections.{kept_at}
use Rattle.hdfs_cluster.specs.declared.asks.LinkFault.TheVariants as faults
use Rattle.hdfs_cluster.specs.Shown.{Shown, NotOpened}
use Rattle.hdfs_block_reader.proofs.Connected.{not_opened_yet, not_opened_behind, not_opened_afresh, none_opened, opens_behind}
use Rattle.hdfs_block_reader.proofs.connecting.connect.Goals as goal
use Rattle.hdfs_block_reader.proofs.connecting.connect.Goals.{else-kept-test, then-kept-test+in_default}

pub kept-init : goal.kept-init
kept-init g c = record { behind = not_opened_yet (g.C.Cluster.shown c.args.cluster.now) c.args.ask.now; others = λ other apart. refl }

pub kept-preserved : goal.kept-preserved
kept-preserved g c =
    let shown = g.C.Cluster.shown in
    let first = subst (λ (x : Shown). NotOpened (shown c.args.cluster.now) None c.args.ask.now faults.NoMemory x) (sym c.moment-moment.ensures) c.kept.invariant.behind in
    record {
      behind = none_opened (shown c.args.cluster.now) (shown c.moment-moment.new.self) (shown c.open_read.new.self) c.args.ask.now first _ c.in-Err-Broken.field-0 c.in-Err-Broken.ensures.err;
      others = λ other apart. c.get.ensures.others other apart ∙ c.kept.invariant.others other apart;
    }

pub returns-in_default-open_read : goal.returns-in_default-open_read
returns-in_default-open_read g c =
    let shown = g.C.Cluster.shown in
    let first = subst (λ (x : Shown). NotOpened (shown c.args.cluster.now) None c.args.ask.now faults.NoMemory x) (sym c.moment-moment.ensures) c.kept.invariant.behind in
    record {
      ok = tt;
      err = not_opened_afresh (shown c.args.cluster.now) (shown c.moment-moment.new.self) (shown c.open_read.new.self) c.args.ask.now first (Some c.in-Some.kept) _ (search rules) c.in_default-open_read.ensures.err;
      others = λ other apart. c.get.ensures.others other apart ∙ c.kept.invariant.others other apart;
    }

pub returns : goal.returns
returns g c =
    let shown = g.C.Cluster.shown in
    let same : shown c.kept-test.cluster ≡ shown c.kept.cluster = elim c.kept-test.branch [
      | else-kept-test w ↦ ap shown w.cluster-is
      | then-kept-test+in_default w ↦ ap shown w.cluster-is ∙ w.moment-moment.ensures
    ] in
    let others : (other : List ℕ) → other ≢ c.args.address.now → kept_at c.kept-test.cache other ≡ kept_at c.args.cache.now other = λ other apart. elim c.kept-test.branch [
      | else-kept-test w ↦ ap (λ (x : ConnectionCache). kept_at x other) w.cache-is ∙ c.kept.invariant.others other apart
      | then-kept-test+in_default w ↦ ap (λ (x : ConnectionCache). kept_at x other) w.cache-is ∙ w.get.ensures.others other apart ∙ c.kept.invariant.others other apart
    ] in
    let first = subst (λ (x : Shown). NotOpened (shown c.args.cluster.now) None c.args.ask.now faults.NoMemory x) (sym same) c.kept.invariant.behind in
    let behind = not_opened_behind (shown c.args.cluster.now) (shown c.kept-test.cluster) (shown c.open_read-2.new.self) c.args.ask.now first None in
    record {
      ok = IfOk-weaker c.open_read-2.result _ _ (opens_behind (shown c.args.cluster.now) (shown c.kept-test.cluster) (shown c.open_read-2.new.self) c.args.ask.now first) c.open_read-2.ensures.ok;
      err = IfErr-weaker c.open_read-2.result _ _ behind c.open_read-2.ensures.err;
      others = others;
    }
