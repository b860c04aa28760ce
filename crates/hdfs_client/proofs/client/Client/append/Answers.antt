-- A file is opened by the service to which the path leads.
use Rattle.std.proofs.Common.{inr, ℕ, ◌<◌, length, List, refl, sym, subst}
use Rattle.std.proofs.lemmas.Result.{err_from_is_err_and}
use Rattle.hdfs_client.specs.Clients.{services_of}
use Rattle.hdfs_file_writer.specs.Writers.{IsAnswered, Stands}
use Rattle.hdfs_namenode.specs.Asked.{ReachesAll}
use Rattle.hdfs_namenode.specs.Clients.{name_of, proxy_of}
use Rattle.hdfs_rebuild.specs.declared.block_plan.RebuildSettings.{RebuildSettings}
use Rattle.hdfs_client.specs.Opening.{FailsToAppend, OpensBy}
use Rattle.hdfs_client.proofs.Beside.{keeps_files, services_but}
use Rattle.hdfs_namenode.proofs.Services.{reaches_same}
use Rattle.hdfs_client.proofs.Serving.{at_service, client_goes, fails_at, of_put, opens_at, used}
use Rattle.hdfs_client.proofs.client.Client.append.Goals as goal

pub append_held-requires-clause-service : goal.append_held-requires-clause-service
append_held-requires-clause-service g c =
    c.requires.client.each c.in_ok-to.to.service c.index_mut-namenode.result.now
    (at_service c.args.self.now c.in_ok-to.to.service c.index_mut-namenode.result.now c.in_ok-to.ensures.1 c.index_mut-namenode.ensures.value)

pub append_held-requires-clause-allowed : goal.append_held-requires-clause-allowed
append_held-requires-clause-allowed g c =
    c.requires.allowed c.in_ok-to.to c.index_mut-namenode.result.now c.in_ok-to.ensures.0
    (at_service c.args.self.now c.in_ok-to.to.service c.index_mut-namenode.result.now c.in_ok-to.ensures.1 c.index_mut-namenode.ensures.value)

pub returns-in_err-held-clause-client : goal.returns-in_err-held-clause-client
returns-in_err-held-clause-client g c =
    client_goes c.requires.client
    (used c.args.self.now _ c.in_ok-to.to.service c.index_mut-namenode.result.now c.append_held.new.namenode c.in_ok-to.ensures.1
    c.index_mut-namenode.ensures.value refl (refl, refl, refl)) c.append_held.ensures.keeps.0.service c.append_held.ensures.keeps.1.namenodes

pub returns-clause-opened : goal.returns-clause-opened
returns-clause-opened g c =
    opens_at _ _ c.in_ok-to.ensures.0
    (used c.args.self.now _ c.in_ok-to.to.service c.index_mut-namenode.result.now c.append_held.new.namenode c.in_ok-to.ensures.1
    c.index_mut-namenode.ensures.value refl (refl, refl, refl)) refl refl refl
    (subst (λ (r : RebuildSettings). OpensBy g.C.Cluster.may_answer g.C.Cluster.serves c.in_ok-to.to.path r c.index_mut-namenode.result.now c.args.cluster.now
    c.in_ok-held.held.file c.in_ok-held.held.lease c.append_held.new.namenode c.append_held.new.cluster) c.rebuilding-rebuilding.ensures c.in_ok-held.ensures.opened)

pub returns-clause-begins : goal.returns-clause-begins
returns-clause-begins g c =
    opens_at _ _ c.in_ok-to.ensures.0
    (used c.args.self.now _ c.in_ok-to.to.service c.index_mut-namenode.result.now c.append_held.new.namenode c.in_ok-to.ensures.1
    c.index_mut-namenode.ensures.value refl (refl, refl, refl)) refl refl refl c.in_ok-held.ensures.begins

pub returns-clause-stands : goal.returns-clause-stands
returns-clause-stands g c =
    let client = c.args.self.now in
    let k = c.in_ok-to.to.service in
    let within : k < length (services_of client) = subst (λ (n : ℕ). k < n) client.services.ok.0 c.in_ok-to.ensures.1 in
    let was = at_service client k c.index_mut-namenode.result.now c.in_ok-to.ensures.1 c.index_mut-namenode.ensures.value in
    let keeps = c.append_held.ensures.keeps in
    let s = g.C.Cluster.shown c.args.cluster.now in
    let t = g.C.Cluster.shown c.append_held.new.cluster in (
      of_put (λ namenode file. Stands t file) (services_of client) k c.append_held.new.namenode within c.in_ok-held.ensures.stands.0,
      of_put (λ namenode file. IsAnswered g.C.Cluster.may_answer (name_of namenode) file) (services_of client) k c.append_held.new.namenode within
          (subst (λ (n : List ℕ). IsAnswered g.C.Cluster.may_answer n c.in_ok-held.held.file) (sym keeps.0.name) c.in_ok-held.ensures.stands.1),
      λ whole. of_put (λ namenode file. ReachesAll (proxy_of namenode) t) (services_of client) k c.append_held.new.namenode {file = c.in_ok-held.held.file} within
          (reaches_same (proxy_of c.index_mut-namenode.result.now) (proxy_of c.append_held.new.namenode) s t keeps.0.service keeps.1.namenodes
          (whole c.in_ok-to.to c.index_mut-namenode.result.now c.in_ok-to.ensures.0 was)),
    )

pub returns-clause-client : goal.returns-clause-client
returns-clause-client g c =
    client_goes c.requires.client
    (used c.args.self.now _ c.in_ok-to.to.service c.index_mut-namenode.result.now c.append_held.new.namenode c.in_ok-to.ensures.1
    c.index_mut-namenode.ensures.value refl (refl, refl, refl)) c.append_held.ensures.keeps.0.service c.append_held.ensures.keeps.1.namenodes

pub returns-in_err-held-clause-err : goal.returns-in_err-held-clause-err
returns-in_err-held-clause-err g c =
    let p = err_from_is_err_and c.from_residual-in_err-held.result c.from_residual-in_err-held.ensures.1 in
    rw (p.1, p.2) (inr (fails_at (λ at before after. FailsToAppend g.C.Cluster.shown g.C.Cluster.may_answer g.C.Cluster.serves at c.args.path.now before c.args.cluster.now c.in_err-held.field-0.0 after c.append_held.new.cluster) c.in_ok-to.ensures.0
    (used c.args.self.now _ c.in_ok-to.to.service c.index_mut-namenode.result.now c.append_held.new.namenode c.in_ok-to.ensures.1
    c.index_mut-namenode.ensures.value refl (refl, refl, refl)) c.in_err-held.ensures.err.0 c.append_held.ensures.keeps.0 c.in_err-held.ensures.err.1))

pub returns-in_err-held-clause-files : goal.returns-in_err-held-clause-files
returns-in_err-held-clause-files g c =
    let at = used c.args.self.now _ c.in_ok-to.to.service c.index_mut-namenode.result.now c.append_held.new.namenode c.in_ok-to.ensures.1
    c.index_mut-namenode.ensures.value refl (refl, refl, refl) in
    let keeps = c.append_held.ensures.keeps in
    keeps_files (services_but at.was at.is at.others (keeps.0.service, keeps.0.name)) keeps.1.namenodes g.C.Cluster.allows g.C.Cluster.may_answer keeps.1.writes

pub returns-clause-files : goal.returns-clause-files
returns-clause-files g c =
    let at = used c.args.self.now _ c.in_ok-to.to.service c.index_mut-namenode.result.now c.append_held.new.namenode c.in_ok-to.ensures.1
    c.index_mut-namenode.ensures.value refl (refl, refl, refl) in
    let keeps = c.append_held.ensures.keeps in
    keeps_files (services_but at.was at.is at.others (keeps.0.service, keeps.0.name)) keeps.1.namenodes g.C.Cluster.allows g.C.Cluster.may_answer keeps.1.writes
