-- One directory after another leads to more.
use Rattle.std.proofs.Common.{◌≡◌, ◌∙◌, ◌+◌, ◌∷◌, ◌==◌, ◌⊎◌, true, ℕ, List, drop, length, refl, sym, ap, subst, inl, inr}
use Rattle.hdfs_cluster.specs.declared.errors.HdfsError.TheVariants as errors
use Rattle.std.proofs.lemmas.Bool.{false≢true}
use Rattle.std.proofs.lemmas.Bool.Decides.{Decides-eqb}
use Rattle.hdfs_names.specs.declared.mounts.MountTable.{MountTable}
use Rattle.hdfs_client.specs.Clients.{mounts_of}
use Rattle.hdfs_client.specs.Globbing.{EachOf, FailsToList, FailsToLook, IsListed, IsOneOf, LeadsTo, StopsAtOne, is_wild}
use Rattle.hdfs_client.specs.Listing.{LetsListAt}
use Rattle.hdfs_client.specs.Statuses.{or_root}
use Rattle.hdfs_client.specs.Refusing.{refusal_of}
use Rattle.hdfs_client.specs.declared.errors.ClientError.{ClientError}
use Rattle.hdfs_client.specs.declared.errors.ClientError.TheVariants.{Hdfs}
use Rattle.hdfs_client.proofs.Beside.{files_refl, files_trans}
use Rattle.hdfs_client.proofs.Globbed.{err_so, goes_begun, goes_done, goes_on, is_read, next_of, no_glob, no_listing, none_joined, none_left, unread}
use Rattle.hdfs_client.proofs.Staying.{stays_refl, stays_trans}
use Rattle.hdfs_client.proofs.client.Client.all_led.Goals as goal

pub returns-then-is_empty-clause-read : goal.returns-then-is_empty-clause-read
returns-then-is_empty-clause-read g c = unread c.args.dirs.now c.args.component.now ((Decides-eqb (length c.args.dirs.now) 0).0 (sym c.is_empty.ensures ∙ c.if-is_empty.true))

pub returns-then-is_empty-clause-led : goal.returns-then-is_empty-clause-led
returns-then-is_empty-clause-led g c = none_joined (List ℕ) _ c.args.dirs.now c.new-mids.result.items ((Decides-eqb (length c.args.dirs.now) 0).0 (sym c.is_empty.ensures ∙ c.if-is_empty.true)) c.new-mids.ensures.items

pub dirs-init : goal.dirs-init
dirs-init g c = record {
  client = c.requires.client;
  rest = stays_refl c.args.self.now;
  files = files_refl c.args.self.now (g.C.Cluster.shown c.args.cluster.now);
  goes = goes_begun (List ℕ) _ c.args.dirs.now c.new-mids.result.items c.new-mids.ensures.items;
  lets = c.requires.allowed;
  within = λ dir one. one;
}

pub led-requires-clause-allowed : goal.led-requires-clause-allowed
led-requires-clause-allowed g c = λ wild.
    let next : drop c.dirs.dir-index c.args.dirs.now ≡ c.dir-item.result ∷ drop (c.dirs.dir-index + 1) c.args.dirs.now =
    next_of c.args.dirs.now c.dirs.dir-index c.dir-item.result c.dirs-test.true c.dir-item.is in
    let each = subst (λ (ts : List (List ℕ)). EachOf (λ dir. LetsListAt g.C.Cluster.allows (mounts_of c.args.self.now) (or_root dir)) ts) next (c.dirs.invariant.lets wild) in
    subst (λ (m : MountTable). LetsListAt g.C.Cluster.allows m (or_root c.as_str.result.now)) (sym c.dirs.invariant.rest.mounts)
    (subst (λ (d : List ℕ). LetsListAt g.C.Cluster.allows (mounts_of c.args.self.now) (or_root d)) (sym c.as_str.ensures) each.0)

pub dirs-preserved : goal.dirs-preserved
dirs-preserved g c =
    let next : drop c.dirs.dir-index c.args.dirs.now ≡ c.dir-item.result ∷ drop (c.dirs.dir-index + 1) c.args.dirs.now =
    next_of c.args.dirs.now c.dirs.dir-index c.dir-item.result c.dirs-test.true c.dir-item.is in
    let led = subst (λ (d : List ℕ). LeadsTo (IsListed g.C.Cluster.serves g.C.Cluster.may_answer (mounts_of c.args.self.now) c.args.limit) (is_wild c.args.component.now)
    c.args.component.now d c.in_ok-more.more.items) c.as_str.ensures
    (subst (λ (m : MountTable). LeadsTo (IsListed g.C.Cluster.serves g.C.Cluster.may_answer m c.args.limit) (is_wild c.args.component.now)
    c.args.component.now c.as_str.result.now c.in_ok-more.more.items) c.dirs.invariant.rest.mounts c.in_ok-more.ensures.led) in
    record {
      client = c.in_ok-more.ensures.client;
      rest = stays_trans c.dirs.invariant.rest c.in_ok-more.ensures.rest;
      files = files_trans c.dirs.invariant.files c.in_ok-more.ensures.files;
      goes = goes_on (List ℕ) _ c.args.dirs.now _ _ c.dir-item.result c.dirs.mids.items c.in_ok-more.more.items c.append.new.self.items next
          c.in_ok-append.ensures.items led c.dirs.invariant.goes;
      lets = λ wild. (subst (λ (ts : List (List ℕ)). EachOf (λ dir. LetsListAt g.C.Cluster.allows (mounts_of c.args.self.now) (or_root dir)) ts) next
          (c.dirs.invariant.lets wild)).1;
      within = λ dir one. c.dirs.invariant.within dir (subst (λ (ts : List (List ℕ)). IsOneOf dir ts) (sym next) (inr one));
    }

pub returns-clause-read : goal.returns-clause-read
returns-clause-read g c = is_read c.args.dirs.now c.args.component.now _ c.in_ok-glob.ensures.ok.signs

pub returns-clause-led : goal.returns-clause-led
returns-clause-led g c =
    goes_done (List ℕ) _ c.args.dirs.now _ c.dirs.mids.items (none_left c.args.dirs.now c.dirs.dir-index c.dirs-test.false) c.dirs.invariant.goes

pub returns-in_err-glob-clause-err : goal.returns-in_err-glob-clause-err
returns-in_err-glob-clause-err g c =
    err_so (λ e. e ≡ refusal_of c.in_err-glob.field-0.0) _ c.from_residual.result
    (λ e is rest. no_glob (FailsToList g.C.Cluster.serves g.C.Cluster.may_answer (mounts_of c.args.self.now) c.args.limit) (FailsToLook g.C.Cluster.serves (mounts_of c.args.self.now)) c.args.dirs.now c.args.component.now rest c.in_err-glob.field-0.0 e is c.in_err-glob.ensures.refused
    (λ none. false≢true (sym c.if-is_empty.false ∙ c.is_empty.ensures ∙ ap (λ (n : ℕ). n == 0) none))) c.from_residual.ensures.1

pub returns-in_err-more-clause-err : goal.returns-in_err-more-clause-err
returns-in_err-more-clause-err g c =
    let next : drop c.dirs.dir-index c.args.dirs.now ≡ c.dir-item.result ∷ drop (c.dirs.dir-index + 1) c.args.dirs.now =
    next_of c.args.dirs.now c.dirs.dir-index c.dir-item.result c.dirs-test.true c.dir-item.is in
    let fault = subst (λ (d : List ℕ). (c.in_err-more.field-0.0 ≡ Hdfs errors.NoMemory) ⊎ ((is_wild c.args.component.now ≡ true)
    × FailsToList g.C.Cluster.serves g.C.Cluster.may_answer (mounts_of c.args.self.now) c.args.limit (or_root d) c.in_err-more.field-0.0)) c.as_str.ensures
    (subst (λ (m : MountTable). (c.in_err-more.field-0.0 ≡ Hdfs errors.NoMemory) ⊎ ((is_wild c.args.component.now ≡ true)
    × FailsToList g.C.Cluster.serves g.C.Cluster.may_answer m c.args.limit (or_root c.as_str.result.now) c.in_err-more.field-0.0)) c.dirs.invariant.rest.mounts
    c.in_err-more.ensures.err) in
    err_so (λ e. e ≡ c.in_err-more.field-0.0) _ c.from_residual-in_err-more.result
    (λ e is rest. subst (λ (x : ClientError). StopsAtOne (FailsToList g.C.Cluster.serves g.C.Cluster.may_answer (mounts_of c.args.self.now) c.args.limit)
    (FailsToLook g.C.Cluster.serves (mounts_of c.args.self.now)) c.args.dirs.now c.args.component.now rest x) (sym is)
    (no_listing (FailsToList g.C.Cluster.serves g.C.Cluster.may_answer (mounts_of c.args.self.now) c.args.limit) (FailsToLook g.C.Cluster.serves (mounts_of c.args.self.now)) c.args.dirs.now c.args.component.now rest c.dir-item.result c.in_err-more.field-0.0
    (c.dirs.invariant.within c.dir-item.result (subst (λ (ts : List (List ℕ)). IsOneOf c.dir-item.result ts) (sym next) (inl refl))) fault))
    c.from_residual-in_err-more.ensures.1

pub returns-in_err-append-clause-err : goal.returns-in_err-append-clause-err
returns-in_err-append-clause-err g c =
    err_so (λ e. e ≡ Hdfs errors.NoMemory) _ c.from_residual-in_err-append.result (λ e is rest. inl is) c.from_residual-in_err-append.ensures.1

pub returns-then-is_empty-clause-rest : goal.returns-then-is_empty-clause-rest
returns-then-is_empty-clause-rest g c = stays_refl c.args.self.now

pub returns-then-is_empty-clause-files : goal.returns-then-is_empty-clause-files
returns-then-is_empty-clause-files g c = files_refl c.args.self.now (g.C.Cluster.shown c.args.cluster.now)

pub returns-in_err-glob-clause-rest : goal.returns-in_err-glob-clause-rest
returns-in_err-glob-clause-rest g c = stays_refl c.args.self.now

pub returns-in_err-glob-clause-files : goal.returns-in_err-glob-clause-files
returns-in_err-glob-clause-files g c = files_refl c.args.self.now (g.C.Cluster.shown c.args.cluster.now)

pub returns-in_err-more-clause-rest : goal.returns-in_err-more-clause-rest
returns-in_err-more-clause-rest g c = stays_trans c.dirs.invariant.rest c.in_err-more.ensures.rest

pub returns-in_err-more-clause-files : goal.returns-in_err-more-clause-files
returns-in_err-more-clause-files g c = files_trans c.dirs.invariant.files c.in_err-more.ensures.files

pub returns-in_err-append-clause-rest : goal.returns-in_err-append-clause-rest
returns-in_err-append-clause-rest g c = stays_trans c.dirs.invariant.rest c.in_ok-more.ensures.rest

pub returns-in_err-append-clause-files : goal.returns-in_err-append-clause-files
returns-in_err-append-clause-files g c = files_trans c.dirs.invariant.files c.in_ok-more.ensures.files
