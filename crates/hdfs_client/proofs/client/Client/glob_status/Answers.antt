-- One text after another.
use Rattle.std.proofs.Common.{◌≡◌, ◌∙◌, ◌+◌, ◌∷◌, ◌++◌, ℕ, List, Some, drop, take, sym, ap, subst, inl, inr, arith, length-append}
use Rattle.std.proofs.lemmas.List.{take-append-drop}
use Rattle.hdfs_names.specs.declared.mounts.MountTable.{MountTable}
use Rattle.hdfs_client.specs.Clients.{mounts_of}
use Rattle.hdfs_client.specs.Globbing.{IsGlobFault, IsListed, IsLooked, IsReachFault, LetsText, ReachesText, texts_of}
use Rattle.hdfs_client.specs.Listing.{HasAll}
use Rattle.hdfs_client.specs.declared.errors.ClientError.{ClientError}
use Rattle.hdfs_client.specs.declared.status.FileStatus.{FileStatus}
use Rattle.hdfs_client.proofs.Beside.{files_refl, files_trans}
use Rattle.hdfs_client.proofs.Globbed.{err_so, goes_begun, goes_done, goes_on, next_of, none_left, some_begun, some_on, some_over}
use Rattle.hdfs_client.proofs.Staying.{stays_refl, stays_trans}
use Rattle.hdfs_client.proofs.client.Client.glob_status.Goals as goal

pub texts-init : goal.texts-init
texts-init g c = record {
  client = c.requires.client;
  rest = stays_refl c.args.self.now;
  files = files_refl c.args.self.now (g.C.Cluster.shown c.args.cluster.now);
  room = omega (arith, c.new-found.ensures.len);
  goes = goes_begun FileStatus _ c.as_slice-all.result.now c.new-found.result.items c.new-found.ensures.items;
  some = some_begun _ _ c.as_slice-all.result.now c.new-found.result.items c.new-found.ensures.items;
}

pub reached-requires-clause-allowed : goal.reached-requires-clause-allowed
reached-requires-clause-allowed g c =
    let is : texts_of c.args.pattern.now ≡ Some c.as_slice-all.result.now =
    c.in_ok-texts.ensures.ok ∙ ap (λ (ts : List (List ℕ)). Some ts) (sym c.as_slice-all.ensures.value) in
    let next : drop c.texts.text-index c.as_slice-all.result.now ≡ c.text-item.result ∷ drop (c.texts.text-index + 1) c.as_slice-all.result.now =
    next_of c.as_slice-all.result.now c.texts.text-index c.text-item.result c.texts-test.true c.text-item.is in
    let cut : texts_of c.args.pattern.now ≡ Some (take c.texts.text-index c.as_slice-all.result.now ++ c.text-item.result ∷ drop (c.texts.text-index + 1) c.as_slice-all.result.now) =
    is ∙ ap (λ (ts : List (List ℕ)). Some ts) (sym (take-append-drop c.texts.text-index c.as_slice-all.result.now)
    ∙ ap (λ (ts : List (List ℕ)). take c.texts.text-index c.as_slice-all.result.now ++ ts) next) in
    subst (λ (t : List ℕ). LetsText g.C.Cluster.allows (HasAll g.C.Cluster.may_answer (mounts_of c.texts.self)) (mounts_of c.texts.self) t) (sym c.as_str.ensures)
    (subst (λ (m : MountTable). LetsText g.C.Cluster.allows (HasAll g.C.Cluster.may_answer m) m c.text-item.result) (sym c.texts.invariant.rest.mounts)
    (c.requires.allowed (take c.texts.text-index c.as_slice-all.result.now) c.text-item.result (drop (c.texts.text-index + 1) c.as_slice-all.result.now) cut))

pub texts-preserved : goal.texts-preserved
texts-preserved g c =
    let next : drop c.texts.text-index c.as_slice-all.result.now ≡ c.text-item.result ∷ drop (c.texts.text-index + 1) c.as_slice-all.result.now =
    next_of c.as_slice-all.result.now c.texts.text-index c.text-item.result c.texts-test.true c.text-item.is in
    let reached = subst (λ (t : List ℕ). ReachesText (IsListed g.C.Cluster.serves g.C.Cluster.may_answer (mounts_of c.args.self.now) c.args.limit) (IsLooked g.C.Cluster.serves (mounts_of c.args.self.now)) t c.in_ok-more.more.items) c.as_str.ensures
    (subst (λ (m : MountTable). ReachesText (IsListed g.C.Cluster.serves g.C.Cluster.may_answer m c.args.limit) (IsLooked g.C.Cluster.serves m)
    c.as_str.result.now c.in_ok-more.more.items) c.texts.invariant.rest.mounts c.in_ok-more.ensures.found) in
    record {
      client = c.in_ok-more.ensures.client;
      rest = stays_trans c.texts.invariant.rest c.in_ok-more.ensures.rest;
      files = files_trans c.texts.invariant.files c.in_ok-more.ensures.files;
      room = c.in_ok-put_all.ensures.count;
      goes = goes_on FileStatus _ c.as_slice-all.result.now _ _ c.text-item.result c.texts.found.items c.in_ok-more.more.items c.put_all.new.found.items next
          c.in_ok-put_all.ensures.put reached c.texts.invariant.goes;
      some = some_on _ _ c.as_slice-all.result.now _ _ c.text-item.result c.texts.found.items c.in_ok-more.more.items c.put_all.new.found.items next
          c.in_ok-put_all.ensures.put reached c.texts.invariant.some;
    }

pub returns-in_err-more-clause-refused : goal.returns-in_err-more-clause-refused
returns-in_err-more-clause-refused g c = λ none.
    let is : texts_of c.args.pattern.now ≡ Some c.as_slice-all.result.now =
    c.in_ok-texts.ensures.ok ∙ ap (λ (ts : List (List ℕ)). Some ts) (sym c.as_slice-all.ensures.value) in
    absurd cc

pub returns-in_err-more-clause-err : goal.returns-in_err-more-clause-err
returns-in_err-more-clause-err g c =
    let is : texts_of c.args.pattern.now ≡ Some c.as_slice-all.result.now =
    c.in_ok-texts.ensures.ok ∙ ap (λ (ts : List (List ℕ)). Some ts) (sym c.as_slice-all.ensures.value) in
    let next : drop c.texts.text-index c.as_slice-all.result.now ≡ c.text-item.result ∷ drop (c.texts.text-index + 1) c.as_slice-all.result.now =
    next_of c.as_slice-all.result.now c.texts.text-index c.text-item.result c.texts-test.true c.text-item.is in
    let cut : texts_of c.args.pattern.now ≡ Some (take c.texts.text-index c.as_slice-all.result.now ++ c.text-item.result ∷ drop (c.texts.text-index + 1) c.as_slice-all.result.now) =
    is ∙ ap (λ (ts : List (List ℕ)). Some ts) (sym (take-append-drop c.texts.text-index c.as_slice-all.result.now)
    ∙ ap (λ (ts : List (List ℕ)). take c.texts.text-index c.as_slice-all.result.now ++ ts) next) in
    let fault = subst (λ (t : List ℕ). IsReachFault g.C.Cluster.serves g.C.Cluster.may_answer (mounts_of c.args.self.now) c.args.limit t c.in_err-more.field-0.0) c.as_str.ensures
    (subst (λ (m : MountTable). IsReachFault g.C.Cluster.serves g.C.Cluster.may_answer m c.args.limit c.as_str.result.now c.in_err-more.field-0.0) c.texts.invariant.rest.mounts
    c.in_err-more.ensures.err) in
    err_so (λ e. e ≡ c.in_err-more.field-0.0) _ c.from_residual-in_err-more.result
    (λ e same. subst (λ (x : ClientError). IsGlobFault g.C.Cluster.serves g.C.Cluster.may_answer (mounts_of c.args.self.now) c.args.limit c.args.pattern.now x) (sym same)
    (elim fault [
      | inl many ↦ inr (inl (
        many.0,
        (
          c.texts.found.items ++ many.1.0,
          (
            c.as_slice-all.result.now,
            is,
            some_over _ _ c.as_slice-all.result.now _ _ c.text-item.result c.texts.found.items many.1.0 next many.1.1 c.texts.invariant.some,
          ),
          omega (arith, many.1.2, length-append c.texts.found.items many.1.0),
        ),
      ))
      | inr more ↦ elim more [
        | inl none ↦ inr (inr (inl none))
        | inr stops ↦ inr (inr (inr (take c.texts.text-index c.as_slice-all.result.now, c.text-item.result, drop (c.texts.text-index + 1) c.as_slice-all.result.now, cut, stops)))
      ]
    ])) c.from_residual-in_err-more.ensures.1

pub returns-in_err-put_all-clause-refused : goal.returns-in_err-put_all-clause-refused
returns-in_err-put_all-clause-refused g c = λ none.
    let is : texts_of c.args.pattern.now ≡ Some c.as_slice-all.result.now =
    c.in_ok-texts.ensures.ok ∙ ap (λ (ts : List (List ℕ)). Some ts) (sym c.as_slice-all.ensures.value) in
    absurd cc

pub returns-in_err-put_all-clause-err : goal.returns-in_err-put_all-clause-err
returns-in_err-put_all-clause-err g c =
    let is : texts_of c.args.pattern.now ≡ Some c.as_slice-all.result.now =
    c.in_ok-texts.ensures.ok ∙ ap (λ (ts : List (List ℕ)). Some ts) (sym c.as_slice-all.ensures.value) in
    let next : drop c.texts.text-index c.as_slice-all.result.now ≡ c.text-item.result ∷ drop (c.texts.text-index + 1) c.as_slice-all.result.now =
    next_of c.as_slice-all.result.now c.texts.text-index c.text-item.result c.texts-test.true c.text-item.is in
    let reached = subst (λ (t : List ℕ). ReachesText (IsListed g.C.Cluster.serves g.C.Cluster.may_answer (mounts_of c.args.self.now) c.args.limit) (IsLooked g.C.Cluster.serves (mounts_of c.args.self.now)) t c.in_ok-more.more.items) c.as_str.ensures
    (subst (λ (m : MountTable). ReachesText (IsListed g.C.Cluster.serves g.C.Cluster.may_answer m c.args.limit) (IsLooked g.C.Cluster.serves m)
    c.as_str.result.now c.in_ok-more.more.items) c.texts.invariant.rest.mounts c.in_ok-more.ensures.found) in
    err_so (λ e. e ≡ c.in_err-put_all.field-0.0) _ c.from_residual-in_err-put_all.result
    (λ e same. subst (λ (x : ClientError). IsGlobFault g.C.Cluster.serves g.C.Cluster.may_answer (mounts_of c.args.self.now) c.args.limit c.args.pattern.now x) (sym same)
    (elim c.in_err-put_all.ensures.err [
      | inl many ↦ inr (inl (
        many.0,
        (
          c.texts.found.items ++ c.in_ok-more.more.items,
          (
            c.as_slice-all.result.now,
            is,
            some_over _ _ c.as_slice-all.result.now _ _ c.text-item.result c.texts.found.items c.in_ok-more.more.items next (inl reached) c.texts.invariant.some,
          ),
          omega (arith, many.1, c.texts.found.ok.0, c.in_ok-more.more.ok.0, length-append c.texts.found.items c.in_ok-more.more.items),
        ),
      ))
      | inr none ↦ inr (inr (inl none))
    ])) c.from_residual-in_err-put_all.ensures.1

pub returns-clause-found : goal.returns-clause-found
returns-clause-found g c =
    let is : texts_of c.args.pattern.now ≡ Some c.as_slice-all.result.now =
    c.in_ok-texts.ensures.ok ∙ ap (λ (ts : List (List ℕ)). Some ts) (sym c.as_slice-all.ensures.value) in (
      c.as_slice-all.result.now,
      is,
      goes_done FileStatus _ c.as_slice-all.result.now _ c.texts.found.items (none_left c.as_slice-all.result.now c.texts.text-index c.texts-test.false) c.texts.invariant.goes,
    )

pub returns-clause-refused : goal.returns-clause-refused
returns-clause-refused g c = λ none.
    let is : texts_of c.args.pattern.now ≡ Some c.as_slice-all.result.now =
    c.in_ok-texts.ensures.ok ∙ ap (λ (ts : List (List ℕ)). Some ts) (sym c.as_slice-all.ensures.value) in
    absurd cc

pub returns-in_err-texts-clause-rest : goal.returns-in_err-texts-clause-rest
returns-in_err-texts-clause-rest g c = stays_refl c.args.self.now

pub returns-in_err-texts-clause-files : goal.returns-in_err-texts-clause-files
returns-in_err-texts-clause-files g c = files_refl c.args.self.now (g.C.Cluster.shown c.args.cluster.now)

pub returns-in_err-more-clause-rest : goal.returns-in_err-more-clause-rest
returns-in_err-more-clause-rest g c = stays_trans c.texts.invariant.rest c.in_err-more.ensures.rest

pub returns-in_err-more-clause-files : goal.returns-in_err-more-clause-files
returns-in_err-more-clause-files g c = files_trans c.texts.invariant.files c.in_err-more.ensures.files

pub returns-in_err-put_all-clause-rest : goal.returns-in_err-put_all-clause-rest
returns-in_err-put_all-clause-rest g c = stays_trans c.texts.invariant.rest c.in_ok-more.ensures.rest

pub returns-in_err-put_all-clause-files : goal.returns-in_err-put_all-clause-files
returns-in_err-put_all-clause-files g c = files_trans c.texts.invariant.files c.in_ok-more.ensures.files
