-- A text by its components.
use Rattle.std.proofs.Common.{◌≡◌, ◌∙◌, ◌∷◌, ◌++◌, ◌==◌, [], ℕ, List, length, sym, ap, subst, inl, inr}
use Rattle.std.proofs.lemmas.Bool.{false≢true}
use Rattle.std.proofs.lemmas.Bool.Decides.{Decides-eqb}
use Rattle.hdfs_globs.specs.Escapes.{components}
use Rattle.hdfs_names.specs.declared.mounts.MountTable.{MountTable}
use Rattle.hdfs_client.specs.Clients.{mounts_of}
use Rattle.hdfs_client.specs.Globbing.{Arrives, EachOf, EndsAt, EndsNot, FailsToList, FailsToLook, IsListed, IsLooked, IsPartsFault, IsReachFault, IsReached, Joins, LetsBy, LetsStep, ReachesBy, is_wild}
use Rattle.hdfs_client.specs.Listing.{HasAll}
use Rattle.hdfs_client.specs.declared.errors.ClientError.{ClientError}
use Rattle.hdfs_client.specs.declared.status.FileStatus.{FileStatus}
use Rattle.hdfs_client.proofs.Beside.{files_refl, files_trans}
use Rattle.hdfs_client.proofs.Globbed.{by_parts, by_text, err_so, fault_of_parts, fault_of_text, if_ok_two, lets_parts, lets_steps, lets_text, no_part, nothing_of, stopped}
use Rattle.hdfs_client.proofs.Picked.{if_err_so, if_ok_so}
use Rattle.hdfs_client.proofs.Staying.{stays_refl, stays_trans}
use Rattle.hdfs_client.proofs.client.Client.reached.Goals as goal

pub returns-then-is_empty-clause-found : goal.returns-then-is_empty-clause-found
returns-then-is_empty-clause-found g c =
    nothing_of (IsListed g.C.Cluster.serves g.C.Cluster.may_answer (mounts_of c.args.self.now) c.args.limit) (IsLooked g.C.Cluster.serves (mounts_of c.args.self.now)) c.args.text.now c.new.result.items ((Decides-eqb (length c.args.text.now) 0).0 (sym c.is_empty.ensures ∙ c.if-is_empty.true)) c.new.ensures.items

pub directories-requires-clause-allowed : goal.directories-requires-clause-allowed
directories-requires-clause-allowed g c =
    let some : c.args.text.now ≡ [] → ⊥ =
    λ none. false≢true (sym c.if-is_empty.false ∙ c.is_empty.ensures ∙ ap (λ (t : List ℕ). length t == 0) none) in
    let are : components c.args.text.now ≡ c.in-Some.front.now ++ c.as_str-last.result.now ∷ [] =
    sym c.in_ok-parts.ensures ∙ sym c.as_slice-all.ensures.value ∙ c.in-Some.ensures.cases.0
    ∙ ap (λ (t : List ℕ). c.in-Some.front.now ++ t ∷ []) (sym c.as_str-last.ensures) in
    lets_parts g.C.Cluster.allows (HasAll g.C.Cluster.may_answer (mounts_of c.args.self.now)) (mounts_of c.args.self.now) (components c.args.text.now) c.in-Some.front.now c.as_str-last.result.now are
    (lets_text g.C.Cluster.allows (HasAll g.C.Cluster.may_answer (mounts_of c.args.self.now)) (mounts_of c.args.self.now) c.args.text.now some c.requires.allowed)

pub all_ended-requires-clause-allowed : goal.all_ended-requires-clause-allowed
all_ended-requires-clause-allowed g c =
    let some : c.args.text.now ≡ [] → ⊥ =
    λ none. false≢true (sym c.if-is_empty.false ∙ c.is_empty.ensures ∙ ap (λ (t : List ℕ). length t == 0) none) in
    let are : components c.args.text.now ≡ c.in-Some.front.now ++ c.as_str-last.result.now ∷ [] =
    sym c.in_ok-parts.ensures ∙ sym c.as_slice-all.ensures.value ∙ c.in-Some.ensures.cases.0
    ∙ ap (λ (t : List ℕ). c.in-Some.front.now ++ t ∷ []) (sym c.as_str-last.ensures) in
    let lets = lets_parts g.C.Cluster.allows (HasAll g.C.Cluster.may_answer (mounts_of c.args.self.now)) (mounts_of c.args.self.now) (components c.args.text.now) c.in-Some.front.now c.as_str-last.result.now are
    (lets_text g.C.Cluster.allows (HasAll g.C.Cluster.may_answer (mounts_of c.args.self.now)) (mounts_of c.args.self.now) c.args.text.now some c.requires.allowed) in
    subst (λ (ds : List (List ℕ)). EachOf (λ dir. LetsStep g.C.Cluster.allows (mounts_of c.directories.new.self) (is_wild c.as_str-last.result.now) dir
    c.as_str-last.result.now []) ds) (sym c.as_slice-dirs.ensures.value)
    (subst (λ (m : MountTable). EachOf (λ dir. LetsStep g.C.Cluster.allows m (is_wild c.as_str-last.result.now) dir c.as_str-last.result.now []) c.in_ok-dirs-in-Some.dirs.items)
    (sym c.in_ok-dirs-in-Some.ensures.rest.mounts)
    (lets_steps (HasAll g.C.Cluster.may_answer (mounts_of c.args.self.now)) (c.in-Some.front.now ++ c.as_str-last.result.now ∷ []) g.C.Cluster.allows (mounts_of c.args.self.now) c.in_ok-dirs-in-Some.dirs.items
    c.as_str-last.result.now [] lets c.in_ok-dirs-in-Some.ensures.reached))

pub returns-in-Some-clause-found : goal.returns-in-Some-clause-found
returns-in-Some-clause-found g c =
    let some : c.args.text.now ≡ [] → ⊥ =
    λ none. false≢true (sym c.if-is_empty.false ∙ c.is_empty.ensures ∙ ap (λ (t : List ℕ). length t == 0) none) in
    let are : components c.args.text.now ≡ c.in-Some.front.now ++ c.as_str-last.result.now ∷ [] =
    sym c.in_ok-parts.ensures ∙ sym c.as_slice-all.ensures.value ∙ c.in-Some.ensures.cases.0
    ∙ ap (λ (t : List ℕ). c.in-Some.front.now ++ t ∷ []) (sym c.as_str-last.ensures) in
    let same = c.in_ok-dirs-in-Some.ensures.rest.mounts in
    if_ok_two _ _ _ c.all_ended.result
    (λ found read ends. by_text (IsListed g.C.Cluster.serves g.C.Cluster.may_answer (mounts_of c.args.self.now) c.args.limit) (IsLooked g.C.Cluster.serves (mounts_of c.args.self.now)) c.args.text.now found.items some (by_parts (IsListed g.C.Cluster.serves g.C.Cluster.may_answer (mounts_of c.args.self.now) c.args.limit) (IsLooked g.C.Cluster.serves (mounts_of c.args.self.now)) (components c.args.text.now) c.in-Some.front.now c.as_str-last.result.now found.items are (record {
      front = c.in-Some.front.now;
      last = c.as_str-last.result.now;
      are = are;
      dirs = c.as_slice-dirs.result.now;
      arrives = subst (λ (ds : List (List ℕ)). Arrives (IsListed g.C.Cluster.serves g.C.Cluster.may_answer (mounts_of c.args.self.now) c.args.limit) ([] ∷ []) c.in-Some.front.now ds) (sym c.as_slice-dirs.ensures.value) c.in_ok-dirs-in-Some.ensures.arrives;
      read = read;
      ends = subst (λ (m : MountTable). Joins FileStatus (EndsAt (IsListed g.C.Cluster.serves g.C.Cluster.may_answer m c.args.limit) (IsLooked g.C.Cluster.serves m)
          (is_wild c.as_str-last.result.now) c.as_str-last.result.now) c.as_slice-dirs.result.now found.items) same ends;
    }))) c.all_ended.ensures.read c.all_ended.ensures.ended

pub returns-in_err-dirs-in-Some-clause-err : goal.returns-in_err-dirs-in-Some-clause-err
returns-in_err-dirs-in-Some-clause-err g c =
    let some : c.args.text.now ≡ [] → ⊥ =
    λ none. false≢true (sym c.if-is_empty.false ∙ c.is_empty.ensures ∙ ap (λ (t : List ℕ). length t == 0) none) in
    let are : components c.args.text.now ≡ c.in-Some.front.now ++ c.as_str-last.result.now ∷ [] =
    sym c.in_ok-parts.ensures ∙ sym c.as_slice-all.ensures.value ∙ c.in-Some.ensures.cases.0
    ∙ ap (λ (t : List ℕ). c.in-Some.front.now ++ t ∷ []) (sym c.as_str-last.ensures) in
    err_so (λ e. e ≡ c.in_err-dirs-in-Some.field-0.0) _ c.from_residual-in_err-dirs-in-Some.result
    (λ e is. subst (λ (x : ClientError). IsReachFault g.C.Cluster.serves g.C.Cluster.may_answer (mounts_of c.args.self.now) c.args.limit c.args.text.now x) (sym is)
    (elim c.in_err-dirs-in-Some.ensures.err [
      | inl none ↦ inr (inl none)
      | inr stops ↦ inr (inr (fault_of_text (FailsToList g.C.Cluster.serves g.C.Cluster.may_answer (mounts_of c.args.self.now) c.args.limit) (FailsToLook g.C.Cluster.serves (mounts_of c.args.self.now)) (HasAll g.C.Cluster.may_answer (mounts_of c.args.self.now)) c.args.text.now c.in_err-dirs-in-Some.field-0.0 some
          (fault_of_parts (FailsToList g.C.Cluster.serves g.C.Cluster.may_answer (mounts_of c.args.self.now) c.args.limit) (FailsToLook g.C.Cluster.serves (mounts_of c.args.self.now)) (HasAll g.C.Cluster.may_answer (mounts_of c.args.self.now)) (components c.args.text.now) c.in-Some.front.now c.as_str-last.result.now c.in_err-dirs-in-Some.field-0.0 are stops)))
    ])) c.from_residual-in_err-dirs-in-Some.ensures.1

pub returns-in-Some-clause-err : goal.returns-in-Some-clause-err
returns-in-Some-clause-err g c =
    let some : c.args.text.now ≡ [] → ⊥ =
    λ none. false≢true (sym c.if-is_empty.false ∙ c.is_empty.ensures ∙ ap (λ (t : List ℕ). length t == 0) none) in
    let are : components c.args.text.now ≡ c.in-Some.front.now ++ c.as_str-last.result.now ∷ [] =
    sym c.in_ok-parts.ensures ∙ sym c.as_slice-all.ensures.value ∙ c.in-Some.ensures.cases.0
    ∙ ap (λ (t : List ℕ). c.in-Some.front.now ++ t ∷ []) (sym c.as_str-last.ensures) in
    let parts : List (List ℕ) = c.in-Some.front.now ++ c.as_str-last.result.now ∷ [] in
    let reached = subst (λ (ds : List (List ℕ)). EachOf (λ dir. IsReached (HasAll g.C.Cluster.may_answer (mounts_of c.args.self.now)) parts dir (c.as_str-last.result.now ∷ [])) ds)
    (sym c.as_slice-dirs.ensures.value) c.in_ok-dirs-in-Some.ensures.reached in
    if_err_so _ _ c.all_ended.result
    (λ error is. elim (subst (λ (m : MountTable). EndsNot g.C.Cluster.serves g.C.Cluster.may_answer m c.args.limit c.as_slice-dirs.result.now c.as_str-last.result.now error)
    c.in_ok-dirs-in-Some.ensures.rest.mounts is) [
      | inl many ↦ inl (
        many.0,
        (
          many.1.0,
          inr (record {
            front = c.in-Some.front.now;
            last = c.as_str-last.result.now;
            are = are;
            dirs = c.as_slice-dirs.result.now;
            arrives = subst (λ (ds : List (List ℕ)). Arrives (IsListed g.C.Cluster.serves g.C.Cluster.may_answer (mounts_of c.args.self.now) c.args.limit) ([] ∷ []) c.in-Some.front.now ds) (sym c.as_slice-dirs.ensures.value) c.in_ok-dirs-in-Some.ensures.arrives;
            ends = many.1.1;
          }),
          many.1.2,
        ),
      )
      | inr stops ↦ elim (stopped (HasAll g.C.Cluster.may_answer (mounts_of c.args.self.now)) parts (FailsToList g.C.Cluster.serves g.C.Cluster.may_answer (mounts_of c.args.self.now) c.args.limit) (FailsToLook g.C.Cluster.serves (mounts_of c.args.self.now)) c.as_slice-dirs.result.now c.as_str-last.result.now [] error reached stops) [
        | inl none ↦ inr (inl none)
        | inr there ↦ inr (inr (fault_of_text (FailsToList g.C.Cluster.serves g.C.Cluster.may_answer (mounts_of c.args.self.now) c.args.limit) (FailsToLook g.C.Cluster.serves (mounts_of c.args.self.now)) (HasAll g.C.Cluster.may_answer (mounts_of c.args.self.now)) c.args.text.now error some
            (fault_of_parts (FailsToList g.C.Cluster.serves g.C.Cluster.may_answer (mounts_of c.args.self.now) c.args.limit) (FailsToLook g.C.Cluster.serves (mounts_of c.args.self.now)) (HasAll g.C.Cluster.may_answer (mounts_of c.args.self.now)) (components c.args.text.now) c.in-Some.front.now c.as_str-last.result.now error are there)))
      ]
    ]) c.all_ended.ensures.err

pub looked-requires-clause-allowed : goal.looked-requires-clause-allowed
looked-requires-clause-allowed g c =
    let some : c.args.text.now ≡ [] → ⊥ =
    λ none. false≢true (sym c.if-is_empty.false ∙ c.is_empty.ensures ∙ ap (λ (t : List ℕ). length t == 0) none) in
    let empty : components c.args.text.now ≡ [] =
    sym c.in_ok-parts.ensures ∙ (sym c.as_slice-all.ensures.value ∙ no_part c.as_slice-all.result.now c.in-None.ensures.cases) in
    subst (λ (ps : List (List ℕ)). LetsBy g.C.Cluster.allows (HasAll g.C.Cluster.may_answer (mounts_of c.args.self.now)) (mounts_of c.args.self.now) ps) empty
    (lets_text g.C.Cluster.allows (HasAll g.C.Cluster.may_answer (mounts_of c.args.self.now)) (mounts_of c.args.self.now) c.args.text.now some c.requires.allowed)

pub returns-clause-found : goal.returns-clause-found
returns-clause-found g c =
    let some : c.args.text.now ≡ [] → ⊥ =
    λ none. false≢true (sym c.if-is_empty.false ∙ c.is_empty.ensures ∙ ap (λ (t : List ℕ). length t == 0) none) in
    let empty : components c.args.text.now ≡ [] =
    sym c.in_ok-parts.ensures ∙ (sym c.as_slice-all.ensures.value ∙ no_part c.as_slice-all.result.now c.in-None.ensures.cases) in
    if_ok_so _ _ c.looked.result
    (λ found is. by_text (IsListed g.C.Cluster.serves g.C.Cluster.may_answer (mounts_of c.args.self.now) c.args.limit) (IsLooked g.C.Cluster.serves (mounts_of c.args.self.now)) c.args.text.now found.items some
    (subst (λ (ps : List (List ℕ)). ReachesBy (IsListed g.C.Cluster.serves g.C.Cluster.may_answer (mounts_of c.args.self.now) c.args.limit) (IsLooked g.C.Cluster.serves (mounts_of c.args.self.now)) ps found.items) (sym empty) is)) c.looked.ensures.looked

pub returns-clause-err : goal.returns-clause-err
returns-clause-err g c =
    let some : c.args.text.now ≡ [] → ⊥ =
    λ none. false≢true (sym c.if-is_empty.false ∙ c.is_empty.ensures ∙ ap (λ (t : List ℕ). length t == 0) none) in
    let empty : components c.args.text.now ≡ [] =
    sym c.in_ok-parts.ensures ∙ (sym c.as_slice-all.ensures.value ∙ no_part c.as_slice-all.result.now c.in-None.ensures.cases) in
    if_err_so _ _ c.looked.result
    (λ error is. elim is [
      | inl none ↦ inr (inl none)
      | inr fails ↦ inr (inr (fault_of_text (FailsToList g.C.Cluster.serves g.C.Cluster.may_answer (mounts_of c.args.self.now) c.args.limit) (FailsToLook g.C.Cluster.serves (mounts_of c.args.self.now)) (HasAll g.C.Cluster.may_answer (mounts_of c.args.self.now)) c.args.text.now error some
          (subst (λ (ps : List (List ℕ)). IsPartsFault (FailsToList g.C.Cluster.serves g.C.Cluster.may_answer (mounts_of c.args.self.now) c.args.limit) (FailsToLook g.C.Cluster.serves (mounts_of c.args.self.now)) (HasAll g.C.Cluster.may_answer (mounts_of c.args.self.now)) ps error) (sym empty) fails)))
    ]) c.looked.ensures.err

pub returns-then-is_empty-clause-rest : goal.returns-then-is_empty-clause-rest
returns-then-is_empty-clause-rest g c = stays_refl c.args.self.now

pub returns-then-is_empty-clause-files : goal.returns-then-is_empty-clause-files
returns-then-is_empty-clause-files g c = files_refl c.args.self.now (g.C.Cluster.shown c.args.cluster.now)

pub returns-in_err-parts-clause-rest : goal.returns-in_err-parts-clause-rest
returns-in_err-parts-clause-rest g c = stays_refl c.args.self.now

pub returns-in_err-parts-clause-files : goal.returns-in_err-parts-clause-files
returns-in_err-parts-clause-files g c = files_refl c.args.self.now (g.C.Cluster.shown c.args.cluster.now)

pub returns-in-Some-clause-rest : goal.returns-in-Some-clause-rest
returns-in-Some-clause-rest g c = stays_trans c.in_ok-dirs-in-Some.ensures.rest c.all_ended.ensures.rest

pub returns-in-Some-clause-files : goal.returns-in-Some-clause-files
returns-in-Some-clause-files g c = files_trans c.in_ok-dirs-in-Some.ensures.files c.all_ended.ensures.files
