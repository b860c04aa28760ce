-- With wildcards what is picked, else what is named, if it is there.
use Rattle.std.proofs.Common.{◌≡◌, ◌∙◌, [], Bool, true, false, ℕ, List, inl, inr, sym, subst, refl}
use Rattle.hdfs_client.specs.Clients.{mounts_of}
use Rattle.hdfs_client.specs.Globbing.{EndsAt, FailsToLook, IsListed, IsLooked, LetsLook, LetsStep, is_wild}
use Rattle.hdfs_client.proofs.Beside.{files_refl}
use Rattle.hdfs_client.proofs.Picked.{if_err_so, if_ok_so}
use Rattle.hdfs_client.proofs.Staying.{stays_refl}
use Rattle.hdfs_client.proofs.client.Client.ended.Goals as goal

pub pick-requires-clause-allowed : goal.pick-requires-clause-allowed
pick-requires-clause-allowed g c =
    subst (λ (b : Bool). LetsStep g.C.Cluster.allows (mounts_of c.args.self.now) b c.args.dir.now c.args.component.now [])
    (sym c.is_wild.ensures ∙ c.if-is_wild.true) c.requires.allowed

pub returns-then-is_wild-clause-ended : goal.returns-then-is_wild-clause-ended
returns-then-is_wild-clause-ended g c =
    let wild : is_wild c.args.component.now ≡ true = sym c.is_wild.ensures ∙ c.if-is_wild.true in
    if_ok_so _ _ c.pick.result
    (λ found is. subst (λ (b : Bool). EndsAt (IsListed g.C.Cluster.serves g.C.Cluster.may_answer (mounts_of c.args.self.now) c.args.limit)
    (IsLooked g.C.Cluster.serves (mounts_of c.args.self.now)) b c.args.component.now c.args.dir.now found.items) (sym wild) is) c.pick.ensures.picked

pub returns-then-is_wild-clause-err : goal.returns-then-is_wild-clause-err
returns-then-is_wild-clause-err g c =
    let wild : is_wild c.args.component.now ≡ true = sym c.is_wild.ensures ∙ c.if-is_wild.true in
    if_err_so _ _ c.pick.result (λ error is. elim is [ inl none ↦ inl none | inr fails ↦ inr (inr (inl (wild, fails))) ]) c.pick.ensures.err

pub looked-requires-clause-allowed : goal.looked-requires-clause-allowed
looked-requires-clause-allowed g c =
    let plain : is_wild c.args.component.now ≡ false = sym c.is_wild.ensures ∙ c.if-is_wild.false in
    subst (λ (p : List ℕ). LetsLook g.C.Cluster.allows (mounts_of c.args.self.now) p) (sym (c.as_str.ensures ∙ c.in_ok-path.ensures))
    (subst (λ (b : Bool). LetsStep g.C.Cluster.allows (mounts_of c.args.self.now) b c.args.dir.now c.args.component.now []) plain c.requires.allowed)

pub returns-clause-ended : goal.returns-clause-ended
returns-clause-ended g c =
    let plain : is_wild c.args.component.now ≡ false = sym c.is_wild.ensures ∙ c.if-is_wild.false in
    if_ok_so _ _ c.looked.result
    (λ found is. subst (λ (b : Bool). EndsAt (IsListed g.C.Cluster.serves g.C.Cluster.may_answer (mounts_of c.args.self.now) c.args.limit)
    (IsLooked g.C.Cluster.serves (mounts_of c.args.self.now)) b c.args.component.now c.args.dir.now found.items) (sym plain)
    (subst (λ (p : List ℕ). IsLooked g.C.Cluster.serves (mounts_of c.args.self.now) p found.items) (c.as_str.ensures ∙ c.in_ok-path.ensures) is))
    c.looked.ensures.looked

pub returns-clause-err : goal.returns-clause-err
returns-clause-err g c =
    let plain : is_wild c.args.component.now ≡ false = sym c.is_wild.ensures ∙ c.if-is_wild.false in
    if_err_so _ _ c.looked.result
    (λ error is. elim is [
      | inl none ↦ inl none
      | inr fails ↦ inr (inr (inr (
        plain,
        refl,
        subst (λ (p : List ℕ). FailsToLook g.C.Cluster.serves (mounts_of c.args.self.now) p error) (c.as_str.ensures ∙ c.in_ok-path.ensures) fails,
      )))
    ]) c.looked.ensures.err

pub returns-in_err-path-clause-rest : goal.returns-in_err-path-clause-rest
returns-in_err-path-clause-rest g c = stays_refl c.args.self.now

pub returns-in_err-path-clause-files : goal.returns-in_err-path-clause-files
returns-in_err-path-clause-files g c = files_refl c.args.self.now (g.C.Cluster.shown c.args.cluster.now)
