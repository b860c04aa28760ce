-- One component after another leads on.
use Rattle.std.proofs.Common.{◌≡◌, ◌∙◌, ◌+◌, ◌∷◌, ◌++◌, ◌⊎◌, [], ℕ, List, drop, sym, ap, subst, inl, inr}
use Rattle.hdfs_cluster.specs.declared.errors.HdfsError.TheVariants as errors
use Rattle.hdfs_names.specs.declared.mounts.MountTable.{MountTable}
use Rattle.hdfs_client.specs.Clients.{mounts_of}
use Rattle.hdfs_client.specs.Globbing.{EachOf, FailsToList, FailsToLook, IsListed, IsReached, IsRead, IsStopped, Joins, LeadsTo, StopsAtOne, begun, is_wild}
use Rattle.hdfs_client.specs.Listing.{HasAll, LetsListAt}
use Rattle.hdfs_client.specs.Statuses.{or_root}
use Rattle.hdfs_client.specs.declared.errors.ClientError.{ClientError}
use Rattle.hdfs_client.specs.declared.errors.ClientError.TheVariants.{Hdfs}
use Rattle.hdfs_client.proofs.Beside.{files_refl, files_trans}
use Rattle.hdfs_client.proofs.Globbed.{all_reached, arrives_begun, arrives_done, arrives_on, err_so, lets_list, next_of, none_left, stopped}
use Rattle.hdfs_client.proofs.Staying.{stays_refl, stays_trans}
use Rattle.hdfs_client.proofs.client.Client.directories.Goals as goal

pub components-init : goal.components-init
components-init g c =
    let one : c.in_ok-dirs.dirs.items ≡ [] ∷ [] = c.in_ok-dirs.ensures ∙ ap (λ (t : List ℕ). t ∷ []) c.new.ensures in
    record {
      client = c.requires.client;
      rest = stays_refl c.args.self.now;
      files = files_refl c.args.self.now (g.C.Cluster.shown c.args.cluster.now);
      arrives = arrives_begun _ ([] ∷ []) c.args.front.now c.in_ok-dirs.dirs.items one;
      reached = subst (λ (ts : List (List ℕ)). EachOf (λ dir. IsReached (HasAll g.C.Cluster.may_answer (mounts_of c.args.self.now))
          (c.args.front.now ++ c.args.last.now ∷ []) dir (c.args.front.now ++ c.args.last.now ∷ [])) ts) (sym one) (begun, tt);
    }

pub all_led-requires-clause-allowed : goal.all_led-requires-clause-allowed
all_led-requires-clause-allowed g c = λ wild.
    let next : drop c.components.component-index c.args.front.now ≡ c.component-item.result ∷ drop (c.components.component-index + 1) c.args.front.now =
    next_of c.args.front.now c.components.component-index c.component-item.result c.components-test.true c.component-item.is in
    let reached = subst (λ (cs : List (List ℕ)). EachOf (λ dir. IsReached (HasAll g.C.Cluster.may_answer (mounts_of c.args.self.now))
    (c.args.front.now ++ c.args.last.now ∷ []) dir (cs ++ c.args.last.now ∷ [])) c.components.dirs.items) next c.components.invariant.reached in
    subst (λ (ds : List (List ℕ)). EachOf (λ dir. LetsListAt g.C.Cluster.allows (mounts_of c.components.self) (or_root dir)) ds) (sym c.as_slice.ensures.value)
    (subst (λ (m : MountTable). EachOf (λ dir. LetsListAt g.C.Cluster.allows m (or_root dir)) c.components.dirs.items) (sym c.components.invariant.rest.mounts)
    (lets_list (HasAll g.C.Cluster.may_answer (mounts_of c.args.self.now)) (c.args.front.now ++ c.args.last.now ∷ []) g.C.Cluster.allows (mounts_of c.args.self.now)
    c.components.dirs.items c.component-item.result (drop (c.components.component-index + 1) c.args.front.now ++ c.args.last.now ∷ []) c.requires.allowed reached
    (ap is_wild (sym c.as_str.ensures) ∙ wild)))

pub components-preserved : goal.components-preserved
components-preserved g c =
    let next : drop c.components.component-index c.args.front.now ≡ c.component-item.result ∷ drop (c.components.component-index + 1) c.args.front.now =
    next_of c.args.front.now c.components.component-index c.component-item.result c.components-test.true c.component-item.is in
    let Lists = IsListed g.C.Cluster.serves g.C.Cluster.may_answer (mounts_of c.args.self.now) c.args.limit in
    let reached = subst (λ (cs : List (List ℕ)). EachOf (λ dir. IsReached (HasAll g.C.Cluster.may_answer (mounts_of c.args.self.now))
    (c.args.front.now ++ c.args.last.now ∷ []) dir (cs ++ c.args.last.now ∷ [])) c.components.dirs.items) next c.components.invariant.reached in
    let read : IsRead c.components.dirs.items c.component-item.result =
    subst (λ (ds : List (List ℕ)). IsRead ds c.component-item.result) c.as_slice.ensures.value
    (subst (λ (t : List ℕ). IsRead c.as_slice.result.now t) c.as_str.ensures c.in_ok-led.ensures.read) in
    let joins : Joins (List ℕ) (LeadsTo (IsListed g.C.Cluster.serves g.C.Cluster.may_answer (mounts_of c.args.self.now) c.args.limit)
    (is_wild c.component-item.result) c.component-item.result) c.components.dirs.items c.in_ok-led.led.items =
    subst (λ (ds : List (List ℕ)). Joins (List ℕ) (LeadsTo (IsListed g.C.Cluster.serves g.C.Cluster.may_answer (mounts_of c.args.self.now) c.args.limit)
    (is_wild c.component-item.result) c.component-item.result) ds c.in_ok-led.led.items) c.as_slice.ensures.value
    (subst (λ (t : List ℕ). Joins (List ℕ) (LeadsTo (IsListed g.C.Cluster.serves g.C.Cluster.may_answer (mounts_of c.args.self.now) c.args.limit)
    (is_wild t) t) c.as_slice.result.now c.in_ok-led.led.items) c.as_str.ensures
    (subst (λ (m : MountTable). Joins (List ℕ) (LeadsTo (IsListed g.C.Cluster.serves g.C.Cluster.may_answer m c.args.limit)
    (is_wild c.as_str.result.now) c.as_str.result.now) c.as_slice.result.now c.in_ok-led.led.items) c.components.invariant.rest.mounts c.in_ok-led.ensures.led)) in
    record {
      client = c.in_ok-led.ensures.client;
      rest = stays_trans c.components.invariant.rest c.in_ok-led.ensures.rest;
      files = files_trans c.components.invariant.files c.in_ok-led.ensures.files;
      arrives = arrives_on _ ([] ∷ []) c.args.front.now _ _ c.components.dirs.items c.in_ok-led.led.items c.component-item.result next read joins
          c.components.invariant.arrives;
      reached = all_reached (HasAll g.C.Cluster.may_answer (mounts_of c.args.self.now)) (c.args.front.now ++ c.args.last.now ∷ [])
          (IsListed g.C.Cluster.serves g.C.Cluster.may_answer (mounts_of c.args.self.now) c.args.limit)
          (λ path own listed. elim listed [ inl all ↦ inl all.0 | inr none ↦ inr none.0 ]) c.components.dirs.items c.component-item.result
          (drop (c.components.component-index + 1) c.args.front.now ++ c.args.last.now ∷ []) c.in_ok-led.led.items reached joins;
    }

pub returns-in_err-led-clause-err : goal.returns-in_err-led-clause-err
returns-in_err-led-clause-err g c =
    let next : drop c.components.component-index c.args.front.now ≡ c.component-item.result ∷ drop (c.components.component-index + 1) c.args.front.now =
    next_of c.args.front.now c.components.component-index c.component-item.result c.components-test.true c.component-item.is in
    let reached = subst (λ (cs : List (List ℕ)). EachOf (λ dir. IsReached (HasAll g.C.Cluster.may_answer (mounts_of c.args.self.now))
    (c.args.front.now ++ c.args.last.now ∷ []) dir (cs ++ c.args.last.now ∷ [])) c.components.dirs.items) next c.components.invariant.reached in
    let rest : List (List ℕ) = drop (c.components.component-index + 1) c.args.front.now ++ c.args.last.now ∷ [] in
    let stops = subst (λ (ds : List (List ℕ)). StopsAtOne (FailsToList g.C.Cluster.serves g.C.Cluster.may_answer (mounts_of c.args.self.now) c.args.limit)
    (FailsToLook g.C.Cluster.serves (mounts_of c.args.self.now)) ds c.component-item.result rest c.in_err-led.field-0.0) c.as_slice.ensures.value
    (subst (λ (t : List ℕ). StopsAtOne (FailsToList g.C.Cluster.serves g.C.Cluster.may_answer (mounts_of c.args.self.now) c.args.limit)
    (FailsToLook g.C.Cluster.serves (mounts_of c.args.self.now)) c.as_slice.result.now t rest c.in_err-led.field-0.0) c.as_str.ensures
    (subst (λ (m : MountTable). StopsAtOne (FailsToList g.C.Cluster.serves g.C.Cluster.may_answer m c.args.limit)
    (FailsToLook g.C.Cluster.serves m) c.as_slice.result.now c.as_str.result.now rest c.in_err-led.field-0.0) c.components.invariant.rest.mounts
    (c.in_err-led.ensures.err rest))) in
    err_so (λ e. e ≡ c.in_err-led.field-0.0) _ c.from_residual-in_err-led.result
    (λ e is. subst (λ (x : ClientError). (x ≡ Hdfs errors.NoMemory) ⊎ IsStopped (FailsToList g.C.Cluster.serves g.C.Cluster.may_answer (mounts_of c.args.self.now) c.args.limit)
    (FailsToLook g.C.Cluster.serves (mounts_of c.args.self.now)) (HasAll g.C.Cluster.may_answer (mounts_of c.args.self.now)) (c.args.front.now ++ c.args.last.now ∷ []) x)
    (sym is) (stopped (HasAll g.C.Cluster.may_answer (mounts_of c.args.self.now)) (c.args.front.now ++ c.args.last.now ∷ []) (FailsToList g.C.Cluster.serves g.C.Cluster.may_answer (mounts_of c.args.self.now) c.args.limit) (FailsToLook g.C.Cluster.serves (mounts_of c.args.self.now)) c.components.dirs.items
    c.component-item.result rest c.in_err-led.field-0.0 reached stops)) c.from_residual-in_err-led.ensures.1

pub returns-clause-arrives : goal.returns-clause-arrives
returns-clause-arrives g c =
    arrives_done _ ([] ∷ []) c.args.front.now _ c.components.dirs.items
    (none_left c.args.front.now c.components.component-index c.components-test.false) c.components.invariant.arrives

pub returns-clause-reached : goal.returns-clause-reached
returns-clause-reached g c =
    subst (λ (cs : List (List ℕ)). EachOf (λ dir. IsReached (HasAll g.C.Cluster.may_answer (mounts_of c.args.self.now)) (c.args.front.now ++ c.args.last.now ∷ []) dir
    (cs ++ c.args.last.now ∷ [])) c.components.dirs.items) (none_left c.args.front.now c.components.component-index c.components-test.false)
    c.components.invariant.reached

pub returns-in_err-dirs-clause-rest : goal.returns-in_err-dirs-clause-rest
returns-in_err-dirs-clause-rest g c = stays_refl c.args.self.now

pub returns-in_err-dirs-clause-files : goal.returns-in_err-dirs-clause-files
returns-in_err-dirs-clause-files g c = files_refl c.args.self.now (g.C.Cluster.shown c.args.cluster.now)

pub returns-in_err-led-clause-rest : goal.returns-in_err-led-clause-rest
returns-in_err-led-clause-rest g c = stays_trans c.components.invariant.rest c.in_err-led.ensures.rest

pub returns-in_err-led-clause-files : goal.returns-in_err-led-clause-files
returns-in_err-led-clause-files g c = files_trans c.components.invariant.files c.in_err-led.ensures.files
