-- One directory after another gives what is there.
use Rattle.std.proofs.Common.{◌≡◌, ◌∙◌, ◌+◌, ◌∷◌, ◌++◌, [], ◌==◌, ◌⊎◌, ℕ, List, drop, length, refl, sym, ap, subst, inl, inr, arith, length-append}
use Rattle.std.proofs.lemmas.Bool.{false≢true}
use Rattle.std.proofs.lemmas.Bool.Decides.{Decides-eqb}
use Rattle.hdfs_cluster.specs.declared.errors.HdfsError.TheVariants as errors
use Rattle.hdfs_names.specs.declared.mounts.MountTable.{MountTable}
use Rattle.hdfs_client.specs.Clients.{mounts_of}
use Rattle.hdfs_client.specs.Globbing.{EachOf, EndsAt, EndsNot, FailsToList, FailsToLook, IsListed, IsLooked, IsOneOf, LetsStep, StopsAt, is_wild}
use Rattle.hdfs_client.specs.Refusing.{refusal_of}
use Rattle.hdfs_client.specs.declared.errors.ClientError.{ClientError}
use Rattle.hdfs_client.specs.declared.errors.ClientError.TheVariants.{Hdfs}
use Rattle.hdfs_client.specs.declared.status.FileStatus.{FileStatus}
use Rattle.hdfs_client.proofs.Beside.{files_refl, files_trans}
use Rattle.hdfs_client.proofs.Globbed.{err_so, goes_begun, goes_done, goes_on, is_read, next_of, no_end, no_glob, none_joined, none_left, some_begun, some_on, some_over, unread}
use Rattle.hdfs_client.proofs.Staying.{stays_refl, stays_trans}
use Rattle.hdfs_client.proofs.client.Client.all_ended.Goals as goal

pub returns-then-is_empty-clause-read : goal.returns-then-is_empty-clause-read
returns-then-is_empty-clause-read g c = unread c.args.dirs.now c.args.component.now ((Decides-eqb (length c.args.dirs.now) 0).0 (sym c.is_empty.ensures ∙ c.if-is_empty.true))

pub returns-then-is_empty-clause-ended : goal.returns-then-is_empty-clause-ended
returns-then-is_empty-clause-ended g c = none_joined FileStatus _ c.args.dirs.now c.new-found.result.items ((Decides-eqb (length c.args.dirs.now) 0).0 (sym c.is_empty.ensures ∙ c.if-is_empty.true)) c.new-found.ensures.items

pub dirs-init : goal.dirs-init
dirs-init g c = record {
  client = c.requires.client;
  rest = stays_refl c.args.self.now;
  files = files_refl c.args.self.now (g.C.Cluster.shown c.args.cluster.now);
  room = omega (arith, c.new-found.ensures.len);
  goes = goes_begun FileStatus _ c.args.dirs.now c.new-found.result.items c.new-found.ensures.items;
  some = some_begun _ _ c.args.dirs.now c.new-found.result.items c.new-found.ensures.items;
  lets = c.requires.allowed;
  within = λ dir one. one;
}

pub ended-requires-clause-allowed : goal.ended-requires-clause-allowed
ended-requires-clause-allowed g c =
    let next : drop c.dirs.dir-index c.args.dirs.now ≡ c.dir-item.result ∷ drop (c.dirs.dir-index + 1) c.args.dirs.now =
    next_of c.args.dirs.now c.dirs.dir-index c.dir-item.result c.dirs-test.true c.dir-item.is in
    let each = subst (λ (ts : List (List ℕ)). EachOf (λ dir. LetsStep g.C.Cluster.allows (mounts_of c.args.self.now) (is_wild c.args.component.now) dir c.args.component.now [])
    ts) next c.dirs.invariant.lets in
    subst (λ (m : MountTable). LetsStep g.C.Cluster.allows m (is_wild c.args.component.now) c.as_str.result.now c.args.component.now []) (sym c.dirs.invariant.rest.mounts)
    (subst (λ (d : List ℕ). LetsStep g.C.Cluster.allows (mounts_of c.args.self.now) (is_wild c.args.component.now) d c.args.component.now []) (sym c.as_str.ensures) each.0)

pub dirs-preserved : goal.dirs-preserved
dirs-preserved g c =
    let next : drop c.dirs.dir-index c.args.dirs.now ≡ c.dir-item.result ∷ drop (c.dirs.dir-index + 1) c.args.dirs.now =
    next_of c.args.dirs.now c.dirs.dir-index c.dir-item.result c.dirs-test.true c.dir-item.is in
    let ended = subst (λ (d : List ℕ). EndsAt (IsListed g.C.Cluster.serves g.C.Cluster.may_answer (mounts_of c.args.self.now) c.args.limit)
    (IsLooked g.C.Cluster.serves (mounts_of c.args.self.now)) (is_wild c.args.component.now) c.args.component.now d c.in_ok-more.more.items) c.as_str.ensures
    (subst (λ (m : MountTable). EndsAt (IsListed g.C.Cluster.serves g.C.Cluster.may_answer m c.args.limit) (IsLooked g.C.Cluster.serves m)
    (is_wild c.args.component.now) c.args.component.now c.as_str.result.now c.in_ok-more.more.items) c.dirs.invariant.rest.mounts c.in_ok-more.ensures.ended) in
    record {
      client = c.in_ok-more.ensures.client;
      rest = stays_trans c.dirs.invariant.rest c.in_ok-more.ensures.rest;
      files = files_trans c.dirs.invariant.files c.in_ok-more.ensures.files;
      room = c.in_ok-put_all.ensures.count;
      goes = goes_on FileStatus _ c.args.dirs.now _ _ c.dir-item.result c.dirs.found.items c.in_ok-more.more.items c.put_all.new.found.items next
          c.in_ok-put_all.ensures.put ended c.dirs.invariant.goes;
      some = some_on _ _ c.args.dirs.now _ _ c.dir-item.result c.dirs.found.items c.in_ok-more.more.items c.put_all.new.found.items next
          c.in_ok-put_all.ensures.put ended c.dirs.invariant.some;
      lets = (subst (λ (ts : List (List ℕ)). EachOf (λ dir. LetsStep g.C.Cluster.allows (mounts_of c.args.self.now) (is_wild c.args.component.now) dir
          c.args.component.now []) ts) next c.dirs.invariant.lets).1;
      within = λ dir one. c.dirs.invariant.within dir (subst (λ (ts : List (List ℕ)). IsOneOf dir ts) (sym next) (inr one));
    }

pub returns-clause-read : goal.returns-clause-read
returns-clause-read g c = is_read c.args.dirs.now c.args.component.now _ c.in_ok-glob.ensures.ok.signs

pub returns-clause-ended : goal.returns-clause-ended
returns-clause-ended g c =
    goes_done FileStatus _ c.args.dirs.now _ c.dirs.found.items (none_left c.args.dirs.now c.dirs.dir-index c.dirs-test.false) c.dirs.invariant.goes

pub returns-in_err-glob-clause-err : goal.returns-in_err-glob-clause-err
returns-in_err-glob-clause-err g c =
    err_so (λ e. e ≡ refusal_of c.in_err-glob.field-0.0) _ c.from_residual.result
    (λ e is. inr (no_glob (FailsToList g.C.Cluster.serves g.C.Cluster.may_answer (mounts_of c.args.self.now) c.args.limit) (FailsToLook g.C.Cluster.serves (mounts_of c.args.self.now)) c.args.dirs.now c.args.component.now [] c.in_err-glob.field-0.0 e is c.in_err-glob.ensures.refused
    (λ none. false≢true (sym c.if-is_empty.false ∙ c.is_empty.ensures ∙ ap (λ (n : ℕ). n == 0) none)))) c.from_residual.ensures.1

pub returns-in_err-more-clause-err : goal.returns-in_err-more-clause-err
returns-in_err-more-clause-err g c =
    let next : drop c.dirs.dir-index c.args.dirs.now ≡ c.dir-item.result ∷ drop (c.dirs.dir-index + 1) c.args.dirs.now =
    next_of c.args.dirs.now c.dirs.dir-index c.dir-item.result c.dirs-test.true c.dir-item.is in
    let fault = subst (λ (d : List ℕ). (c.in_err-more.field-0.0 ≡ Hdfs errors.NoMemory) ⊎ StopsAt (FailsToList g.C.Cluster.serves g.C.Cluster.may_answer
    (mounts_of c.args.self.now) c.args.limit) (FailsToLook g.C.Cluster.serves (mounts_of c.args.self.now)) d c.args.component.now [] c.in_err-more.field-0.0) c.as_str.ensures
    (subst (λ (m : MountTable). (c.in_err-more.field-0.0 ≡ Hdfs errors.NoMemory) ⊎ StopsAt (FailsToList g.C.Cluster.serves g.C.Cluster.may_answer
    m c.args.limit) (FailsToLook g.C.Cluster.serves m) c.as_str.result.now c.args.component.now [] c.in_err-more.field-0.0) c.dirs.invariant.rest.mounts
    c.in_err-more.ensures.err) in
    err_so (λ e. e ≡ c.in_err-more.field-0.0) _ c.from_residual-in_err-more.result
    (λ e is. subst (λ (x : ClientError). EndsNot g.C.Cluster.serves g.C.Cluster.may_answer (mounts_of c.args.self.now) c.args.limit c.args.dirs.now
    c.args.component.now x) (sym is)
    (inr (no_end (FailsToList g.C.Cluster.serves g.C.Cluster.may_answer (mounts_of c.args.self.now) c.args.limit) (FailsToLook g.C.Cluster.serves (mounts_of c.args.self.now)) c.args.dirs.now c.args.component.now c.dir-item.result c.in_err-more.field-0.0
    (c.dirs.invariant.within c.dir-item.result (subst (λ (ts : List (List ℕ)). IsOneOf c.dir-item.result ts) (sym next) (inl refl))) fault)))
    c.from_residual-in_err-more.ensures.1

pub returns-in_err-put_all-clause-err : goal.returns-in_err-put_all-clause-err
returns-in_err-put_all-clause-err g c =
    let next : drop c.dirs.dir-index c.args.dirs.now ≡ c.dir-item.result ∷ drop (c.dirs.dir-index + 1) c.args.dirs.now =
    next_of c.args.dirs.now c.dirs.dir-index c.dir-item.result c.dirs-test.true c.dir-item.is in
    let ended = subst (λ (d : List ℕ). EndsAt (IsListed g.C.Cluster.serves g.C.Cluster.may_answer (mounts_of c.args.self.now) c.args.limit)
    (IsLooked g.C.Cluster.serves (mounts_of c.args.self.now)) (is_wild c.args.component.now) c.args.component.now d c.in_ok-more.more.items) c.as_str.ensures
    (subst (λ (m : MountTable). EndsAt (IsListed g.C.Cluster.serves g.C.Cluster.may_answer m c.args.limit) (IsLooked g.C.Cluster.serves m)
    (is_wild c.args.component.now) c.args.component.now c.as_str.result.now c.in_ok-more.more.items) c.dirs.invariant.rest.mounts c.in_ok-more.ensures.ended) in
    err_so (λ e. e ≡ c.in_err-put_all.field-0.0) _ c.from_residual-in_err-put_all.result
    (λ e is. subst (λ (x : ClientError). EndsNot g.C.Cluster.serves g.C.Cluster.may_answer (mounts_of c.args.self.now) c.args.limit c.args.dirs.now
    c.args.component.now x) (sym is)
    (elim c.in_err-put_all.ensures.err [
      | inl many ↦ inl (
        many.0,
        (
          c.dirs.found.items ++ c.in_ok-more.more.items,
          some_over _ _ c.args.dirs.now _ _ c.dir-item.result c.dirs.found.items c.in_ok-more.more.items next ended c.dirs.invariant.some,
          omega (arith, many.1, c.dirs.found.ok.0, c.in_ok-more.more.ok.0, length-append c.dirs.found.items c.in_ok-more.more.items),
        ),
      )
      | inr none ↦ inr (inl none)
    ]))
    c.from_residual-in_err-put_all.ensures.1

pub returns-then-is_empty-clause-rest : goal.returns-then-is_empty-clause-rest
returns-then-is_empty-clause-rest g c = stays_refl c.args.self.now

pub returns-then-is_empty-clause-files : goal.returns-then-is_empty-clause-files
returns-then-is_empty-clause-files g c = files_refl c.args.self.now (g.C.Cluster.shown c.args.cluster.now)

pub returns-in_err-glob-clause-rest : goal.returns-in_err-glob-clause-rest
returns-in_err-glob-clause-rest g c = stays_refl c.args.self.now

pub returns-in_err-glob-clause-files : goal.returns-in_err-glob-clause-files
returns-in_err-glob-clause-files g c = files_refl c.args.self.now (g.C.Cluster.shown c.args.cluster.now)

pub returns-in_err-more-clause-rest : goal.returns-in_err-more-clause-rest
returns-in_err-more-clause-rest g c = stays_trans c.dirs.invariant.rest c.in_err-more.ensures.rest

pub returns-in_err-more-clause-files : goal.returns-in_err-more-clause-files
returns-in_err-more-clause-files g c = files_trans c.dirs.invariant.files c.in_err-more.ensures.files

pub returns-in_err-put_all-clause-rest : goal.returns-in_err-put_all-clause-rest
returns-in_err-put_all-clause-rest g c = stays_trans c.dirs.invariant.rest c.in_ok-more.ensures.rest

pub returns-in_err-put_all-clause-files : goal.returns-in_err-put_all-clause-files
returns-in_err-put_all-clause-files g c = files_trans c.dirs.invariant.files c.in_ok-more.ensures.files
