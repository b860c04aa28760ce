-- A write by the service whose file it is.
use Rattle.std.proofs.Common.{◌≡◌, ℕ, false, List, Option, Result, Ok, Err, refl, sym, ap, subst}
use Rattle.std.specs.Prelude.{IfOk}
use Rattle.hdfs_cluster.specs.declared.errors.HdfsError.{HdfsError}
use Rattle.hdfs_file_writer.specs.Writers.{IsAnswered, IsIdle, Keeps, Stands}
use Rattle.hdfs_file_writer.specs.Writers as files
use Rattle.hdfs_file_writer.specs.declared.file_writer.FileWriter.{FileWriter}
use Rattle.hdfs_namenode.specs.Asked.{IsServiceOf, ReachesAll}
use Rattle.hdfs_namenode.specs.Clients.{SameClient, name_of, proxy_of}
use Rattle.hdfs_namenode.specs.declared.protocol.NamenodeProtocol.{NamenodeProtocol}
use Rattle.hdfs_namenode.proofs.Services.{reaches_same}
use Rattle.hdfs_client.specs.Clients.{services_of}
use Rattle.hdfs_client.specs.Writing as outer
use Rattle.hdfs_client.proofs.Beside.{keeps_others, services_but}
use Rattle.hdfs_client.proofs.Given.{changes_by}
use Rattle.hdfs_client.proofs.Serving.{below_some, client_goes, of_put, service_used, used_at}
use Rattle.hdfs_opening.proofs.Written.{OwnLink, write_link}
use Rattle.hdfs_client.proofs.writing.FileWriter.write.Goals as goal

pub write-requires-clause-service : goal.write-requires-clause-service
write-requires-clause-service g c =
    let by = c.requires.writer.0 c.in-Some.file c.in-Some.is in
    let client = c.args.client.now in
    let k = c.args.self.now.service in
    subst (λ (n : NamenodeProtocol). IsServiceOf (proxy_of n) (g.C.Cluster.shown c.args.cluster.now))
    (sym (service_used client k by.0 c.index_mut.result.now by.1 c.index_mut.ensures.value)) (c.requires.client.each k by.0 by.1)

pub returns-clause-client : goal.returns-clause-client
returns-clause-client g c =
    let by = c.requires.writer.0 c.in-Some.file c.in-Some.is in
    client_goes c.requires.client
    (used_at c.args.client.now _ c.args.self.now.service by.0 c.index_mut.result.now c.write.new.namenode by.1 c.index_mut.ensures.value refl (refl, refl, refl))
    c.write.ensures.stands.2.service
    (write_link g.C.Cluster.shown c.index_mut.result.now c.args.cluster.now c.write.new.cluster c.in-Some.file c.args.bytes.now c.write.result c.write.new.self
    c.write.ensures.idle c.write.ensures.fails.1 c.write.ensures.stands.0 c.write.ensures.wrote c.write.ensures.err).namenodes

pub returns-clause-writer : goal.returns-clause-writer
returns-clause-writer g c =
    let t = g.C.Cluster.shown c.write.new.cluster in
    let client = c.args.client.now in
    let k = c.args.self.now.service in
    let by = c.requires.writer.0 c.in-Some.file c.in-Some.is in
    let within = below_some (services_of client) k by.0 by.1 in
    let same = c.write.ensures.stands.2 in (
      of_put (λ namenode file. Stands t file) (services_of client) k c.write.new.namenode within c.write.ensures.stands.0,
      of_put (λ namenode file. IsAnswered g.C.Cluster.may_answer (name_of namenode) file) (services_of client) k c.write.new.namenode within
          (subst (λ (n : List ℕ). IsAnswered g.C.Cluster.may_answer n c.write.new.self) (sym same.name) c.write.ensures.answered),
      changes_by SameClient (used_at client _ k by.0 c.index_mut.result.now c.write.new.namenode by.1 c.index_mut.ensures.value refl (refl, refl, refl)) same,
    )

pub returns-clause-whole : goal.returns-clause-whole
returns-clause-whole g c = λ whole.
    let s = g.C.Cluster.shown c.args.cluster.now in
    let t = g.C.Cluster.shown c.write.new.cluster in
    let client = c.args.client.now in
    let k = c.args.self.now.service in
    let by = whole c.in-Some.file c.in-Some.is in
    let reaches = subst (λ (n : NamenodeProtocol). ReachesAll (proxy_of n) s) (sym (service_used client k by.0 c.index_mut.result.now by.1 c.index_mut.ensures.value)) by.2 in
    of_put (λ namenode file. ReachesAll (proxy_of namenode) t) (services_of client) k c.write.new.namenode {file = c.write.new.self}
    (below_some (services_of client) k by.0 by.1)
    (reaches_same (proxy_of c.index_mut.result.now) (proxy_of c.write.new.namenode) s t c.write.ensures.stands.2.service
    (write_link g.C.Cluster.shown c.index_mut.result.now c.args.cluster.now c.write.new.cluster c.in-Some.file c.args.bytes.now c.write.result c.write.new.self
    c.write.ensures.idle c.write.ensures.fails.1 c.write.ensures.stands.0 c.write.ensures.wrote c.write.ensures.err).namenodes reaches)

pub returns-clause-others : goal.returns-clause-others
returns-clause-others g c =
    let by = c.requires.writer.0 c.in-Some.file c.in-Some.is in
    let at = used_at c.args.client.now _ c.args.self.now.service by.0 c.index_mut.result.now c.write.new.namenode by.1 c.index_mut.ensures.value refl (refl, refl, refl) in
    let same = c.write.ensures.stands.2 in
    let services = services_but at.was at.is at.others (same.service, same.name) in
    let own = write_link g.C.Cluster.shown c.index_mut.result.now c.args.cluster.now c.write.new.cluster c.in-Some.file c.args.bytes.now c.write.result c.write.new.self
    c.write.ensures.idle c.write.ensures.fails.1 c.write.ensures.stands.0 c.write.ensures.wrote c.write.ensures.err in
    keeps_others g.C.Cluster.allows g.C.Cluster.may_answer services c.args.self.now _
    (subst (λ (o : Option ℕ). OwnLink (g.C.Cluster.shown c.args.cluster.now) o (g.C.Cluster.shown c.write.new.cluster) (files.link_of c.write.new.self))
    (sym (ap outer.link_in c.in-Some.is)) own)

pub returns-clause-still : goal.returns-clause-still
returns-clause-still g c = (
  λ file is. (c.write.new.self, refl, subst (λ (f : FileWriter). Keeps f c.write.new.self) (cc (c.in-Some.is, is)) c.write.ensures.stands.1),
  refl,
  refl,
  refl,
)

pub returns-clause-state : goal.returns-clause-state
returns-clause-state g c = λ file is.
    let same : c.in-Some.file ≡ file = cc (c.in-Some.is, is) in (
      c.write.new.self,
      refl,
      (
        subst (λ (f : FileWriter). IsIdle f c.args.bytes.now c.args.cluster.now c.write.result c.write.new.self c.write.new.cluster) same c.write.ensures.idle,
        c.write.ensures.fails.0,
        c.write.ensures.fails.1,
      ),
    )

if_ok : {P Q : ℕ → Type 0} (result : Result ℕ HdfsError) → ((n : ℕ) → P n → Q n) → IfOk result P → IfOk result Q
if_ok (Ok n) more is = more n is
if_ok (Err error) more is = tt

pub returns-clause-plain : goal.returns-clause-plain
returns-clause-plain g c = if_ok c.write.result
    (λ n count file is some.
    (let same : c.in-Some.file ≡ file = cc (c.in-Some.is, is) in
    subst (λ (f : FileWriter). (files.sizes_of f).encrypted ≡ false) same (count.1 some).1))
    c.write.ensures.count
