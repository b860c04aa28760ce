-- With wildcards what is picked, else what is named.
use Rattle.std.proofs.Common.{◌≡◌, ◌∙◌, ◌∷◌, [], Bool, true, false, ℕ, List, sym, ap, subst}
use Rattle.hdfs_client.specs.Clients.{mounts_of}
use Rattle.hdfs_client.specs.Globbing.{IsListed, LeadsTo, is_wild}
use Rattle.hdfs_client.proofs.Beside.{files_refl}
use Rattle.hdfs_client.proofs.Fetching.{passed_on}
use Rattle.hdfs_client.proofs.Globbed.{if_wild}
use Rattle.hdfs_client.proofs.Staying.{stays_refl}
use Rattle.hdfs_client.proofs.client.Client.led.Goals as goal

pub pick-requires-clause-allowed : goal.pick-requires-clause-allowed
pick-requires-clause-allowed g c = c.requires.allowed (sym c.is_wild.ensures ∙ c.if-is_wild.true)

pub returns-in_err-picked-clause-err : goal.returns-in_err-picked-clause-err
returns-in_err-picked-clause-err g c =
    passed_on _ c.in_err-picked.field-0.0 c.from_residual.result c.from_residual.ensures.1
    (if_wild _ _ _ (sym c.is_wild.ensures ∙ c.if-is_wild.true) c.in_err-picked.ensures.err)

pub returns-then-is_wild-clause-led : goal.returns-then-is_wild-clause-led
returns-then-is_wild-clause-led g c =
    let wild : is_wild c.args.component.now ≡ true = sym c.is_wild.ensures ∙ c.if-is_wild.true in
    subst (λ (b : Bool). LeadsTo (IsListed g.C.Cluster.serves g.C.Cluster.may_answer (mounts_of c.args.self.now) c.args.limit) b c.args.component.now
    c.args.dir.now c.in_ok-paths_of.field-0.items) (sym wild) (c.in_ok-picked.picked.items, c.in_ok-picked.ensures.picked, c.in_ok-paths_of.ensures)

pub returns-clause-led : goal.returns-clause-led
returns-clause-led g c =
    let plain : is_wild c.args.component.now ≡ false = sym c.is_wild.ensures ∙ c.if-is_wild.false in
    subst (λ (b : Bool). LeadsTo (IsListed g.C.Cluster.serves g.C.Cluster.may_answer (mounts_of c.args.self.now) c.args.limit) b c.args.component.now
    c.args.dir.now c.in_ok-one_text.field-0.items) (sym plain) (c.in_ok-one_text.ensures ∙ ap (λ (t : List ℕ). t ∷ []) c.in_ok-named_in.ensures)

pub returns-in_err-named_in-clause-rest : goal.returns-in_err-named_in-clause-rest
returns-in_err-named_in-clause-rest g c = stays_refl c.args.self.now

pub returns-in_err-named_in-clause-files : goal.returns-in_err-named_in-clause-files
returns-in_err-named_in-clause-files g c = files_refl c.args.self.now (g.C.Cluster.shown c.args.cluster.now)

pub returns-in_err-one_text-clause-rest : goal.returns-in_err-one_text-clause-rest
returns-in_err-one_text-clause-rest g c = stays_refl c.args.self.now

pub returns-in_err-one_text-clause-files : goal.returns-in_err-one_text-clause-files
returns-in_err-one_text-clause-files g c = files_refl c.args.self.now (g.C.Cluster.shown c.args.cluster.now)

pub returns-clause-rest : goal.returns-clause-rest
returns-clause-rest g c = stays_refl c.args.self.now

pub returns-clause-files : goal.returns-clause-files
returns-clause-files g c = files_refl c.args.self.now (g.C.Cluster.shown c.args.cluster.now)
