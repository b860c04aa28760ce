-- A close by the service whose file it is.
use Rattle.std.proofs.Common.{◌≡◌, ◌&&◌, ℕ, ◌<◌, Bool, true, false, Option, None, refl, sym, ◌∙◌, ap, subst}
use Rattle.std.specs.Prelude.{is_ok, is_some}
use Rattle.hdfs_cluster.specs.Requests.{LetsClose}
use Rattle.hdfs_file_writer.specs.Writers.{IsAnswered, file_id_of, path_of}
use Rattle.hdfs_namenode.specs.Asked.{IsServiceOf}
use Rattle.hdfs_namenode.specs.Clients.{name_of, proxy_of}
use Rattle.hdfs_namenode.specs.declared.protocol.NamenodeProtocol.{NamenodeProtocol}
use Rattle.hdfs_namenode.proofs.Services.{same_client_refl}
use Rattle.hdfs_client.specs.Clients.{services_of}
use Rattle.hdfs_client.specs.Holding.{ChangesService, MayGive}
use Rattle.hdfs_client.specs.Writing as outer
use Rattle.hdfs_client.proofs.Beside.{keeps_given, keeps_others, services_changed}
use Rattle.hdfs_client.proofs.Given.{changes_none, may_then}
use Rattle.hdfs_client.proofs.Serving.{below_some, client_goes, service_used, used_at}
use Rattle.hdfs_opening.proofs.Written.{OwnLink, close_link}
use Rattle.hdfs_client.proofs.writing.FileWriter.close.Goals as goal

pub index_mut-requires : goal.index_mut-requires
index_mut-requires g c =
    let by = c.requires.writer.0 c.in-Some.file (sym c.in-Some.ensures.value) in
    subst (λ (n : ℕ). c.args.self.now.service < n) (sym c.args.client.now.services.ok.0) (below_some (services_of c.args.client.now) c.args.self.now.service by.0 by.1)

pub close-closed-requires-clause-service : goal.close-closed-requires-clause-service
close-closed-requires-clause-service g c =
    let by = c.requires.writer.0 c.in-Some.file (sym c.in-Some.ensures.value) in
    subst (λ (n : NamenodeProtocol). IsServiceOf (proxy_of n) (g.C.Cluster.shown c.args.cluster.now))
    (sym (service_used c.args.client.now c.args.self.now.service by.0 c.index_mut.result.now by.1 c.index_mut.ensures.value))
    (c.requires.client.each c.args.self.now.service by.0 by.1)

pub close-closed-requires-clause-allowed : goal.close-closed-requires-clause-allowed
close-closed-requires-clause-allowed g c =
    let by = c.requires.allowed c.in-Some.file (sym c.in-Some.ensures.value) in
    subst (λ (n : NamenodeProtocol). LetsClose g.C.Cluster.allows g.C.Cluster.may_answer (name_of n) (path_of c.in-Some.file) (file_id_of c.in-Some.file))
    (sym (service_used c.args.client.now c.args.self.now.service by.0 c.index_mut.result.now by.1 c.index_mut.ensures.value)) by.2

pub close-closed-requires-clause-answered : goal.close-closed-requires-clause-answered
close-closed-requires-clause-answered g c =
    let by = c.requires.writer.1 c.in-Some.file (sym c.in-Some.ensures.value) in
    subst (λ (n : NamenodeProtocol). IsAnswered g.C.Cluster.may_answer (name_of n) c.in-Some.file)
    (sym (service_used c.args.client.now c.args.self.now.service by.0 c.index_mut.result.now by.1 c.index_mut.ensures.value)) by.2

pub returns-in_default-clause-lease : goal.returns-in_default-clause-lease
returns-in_default-clause-lease g c =
    subst (λ (b : Bool). ChangesService (MayGive b (outer.lease_of c.args.self.now)) (outer.service_of c.args.self.now) c.args.client.now c.args.client.now)
    (sym (and_none (is_ok c.close_again.result) (is_some (outer.open_of c.args.self.now)) (sym (ap is_some c.in_default.ensures.value))))
    (changes_none (MayGive false (outer.lease_of c.args.self.now)) same_client_refl (outer.service_of c.args.self.now) c.args.client.now)
  where
    and_none : (a b : Bool) → b ≡ false → (a && b) ≡ false
    and_none true b none = none
    and_none false b none = refl

pub returns-clause-client : goal.returns-clause-client
returns-clause-client g c =
    let by = c.requires.writer.0 c.in-Some.file (sym c.in-Some.ensures.value) in
    c.settle.ensures.client (g.C.Cluster.shown c.close-closed.new.cluster)
    (client_goes c.requires.client
    (used_at c.args.client.now _ c.args.self.now.service by.0 c.index_mut.result.now c.close-closed.new.namenode by.1 c.index_mut.ensures.value refl (refl, refl, refl))
    c.close-closed.ensures.client.service
    (close_link g.C.Cluster.shown c.index_mut.result.now c.args.cluster.now c.close-closed.new.cluster c.in-Some.file c.close-closed.result by.2
    c.close-closed.ensures.failed c.close-closed.ensures.closed c.close-closed.ensures.err).namenodes)

pub returns-clause-lease : goal.returns-clause-lease
returns-clause-lease g c =
    let by = c.requires.writer.0 c.in-Some.file (sym c.in-Some.ensures.value) in
    let lease = outer.lease_of c.args.self.now in
    subst (λ (b : Bool). ChangesService (MayGive b lease) c.args.self.now.service c.args.client.now c.settle.new.client)
    (and_true c.is_ok.result (is_ok c.close-closed.result) (is_some (outer.open_of c.args.self.now)) c.is_ok.ensures.value (sym (ap is_some c.in-Some.ensures.value)))
    (may_then c.is_ok.result lease
    (used_at c.args.client.now _ c.args.self.now.service by.0 c.index_mut.result.now c.close-closed.new.namenode by.1 c.index_mut.ensures.value refl (refl, refl, refl))
    c.close-closed.ensures.client c.settle.ensures.lease)
  where
    and_true : (x a b : Bool) → x ≡ a → b ≡ true → x ≡ (a && b)
    and_true x true b one two = one ∙ sym two
    and_true x false b one two = one

pub returns-clause-others : goal.returns-clause-others
unfolding returns-clause-lease
returns-clause-others g c =
    let by = c.requires.writer.0 c.in-Some.file (sym c.in-Some.ensures.value) in
    let given = is_ok c.close-closed.result && is_some (outer.open_of c.args.self.now) in
    let services = services_changed (keeps_given given (outer.lease_of c.args.self.now)) (returns-clause-lease g c) in
    keeps_others g.C.Cluster.allows g.C.Cluster.may_answer services c.args.self.now _
    (subst (λ (o : Option ℕ). OwnLink (g.C.Cluster.shown c.args.cluster.now) (outer.link_of c.args.self.now) (g.C.Cluster.shown c.close-closed.new.cluster) o)
    (sym (ap outer.link_in (c.settle.ensures.shut.0 ∙ c.in-Some.ensures.after)))
    (subst (λ (o : Option ℕ). OwnLink (g.C.Cluster.shown c.args.cluster.now) o (g.C.Cluster.shown c.close-closed.new.cluster) None)
    (ap outer.link_in c.in-Some.ensures.value)
    (close_link g.C.Cluster.shown c.index_mut.result.now c.args.cluster.now c.close-closed.new.cluster c.in-Some.file c.close-closed.result by.2
    c.close-closed.ensures.failed c.close-closed.ensures.closed c.close-closed.ensures.err)))
