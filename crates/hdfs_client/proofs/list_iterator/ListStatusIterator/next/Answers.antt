-- The directory in which an entry was found goes on, and the entry's own is begun.
use Rattle.std.proofs.Common.{◌≡◌, ◌∙◌, Err, Ok, Result, Some, subst, sym}
use Rattle.hdfs_cluster.specs.declared.errors.HdfsError.{HdfsError}
use Rattle.hdfs_client.specs.Clients.{mounts_of}
use Rattle.hdfs_client.specs.Iterating.{IsDirFault, Left, begun_by}
use Rattle.hdfs_client.specs.Told.{IsEndedIn, IsPageIn}
use Rattle.hdfs_client.specs.Turning.{IsFoundIn}
use Rattle.hdfs_client.specs.declared.status.FileStatus.{FileStatus}
use Rattle.hdfs_client.proofs.Found.{lacks, walks_entered, walks_out, walks_wrong}
use Rattle.hdfs_client.proofs.Letting.{lets_entered, lets_on, same_lets}
use Rattle.hdfs_client.proofs.ToldTurns.{lacks_told}
use Rattle.hdfs_client.proofs.list_iterator.ListStatusIterator.next.Goals as goal

pub returns-in-Some-Ok-clause-walks : goal.returns-in-Some-Ok-clause-walks
returns-in-Some-Ok-clause-walks g c =
    let Why : HdfsError → Left → Type 0 = IsDirFault g.C.Cluster.serves c.next_found.new.client c.next_found.new.cluster in
    let is : c.in-Some-Ok.field-0 ≡ Ok c.in-Some-Ok.status = cc in
    let found = subst (λ (r : Result FileStatus HdfsError). IsFoundIn g.C.Cluster.may_answer (mounts_of c.args.client.now) Why (begun_by c.args.self.now) (Some r)
    (begun_by c.next_found.new.self)) is c.in-Some-Ok.ensures.found in
    walks_entered g.C.Cluster.may_answer (mounts_of c.args.client.now) Why c.args.self.now.recursive c.next_found.new.self.recursive (begun_by c.args.self.now)
    (begun_by c.next_found.new.self) (begun_by c.entered.new.self) c.in-Some-Ok.status c.entered.result c.in-Some-Ok.ensures.recursive
    found c.entered.ensures.ok c.entered.ensures.err (lacks g.C.Cluster.serves c.next_found.new.client c.next_found.new.cluster c.entered.result
    c.entered.ensures.cause)

pub returns-in-Some-Ok-clause-told : goal.returns-in-Some-Ok-clause-told
returns-in-Some-Ok-clause-told g c = λ whole p was.
    (let mounts = mounts_of c.args.client.now in
    let Why : HdfsError → Left → Type 0 = IsEndedIn p mounts (g.C.Cluster.shown c.args.cluster.now) (g.C.Cluster.shown c.next_found.new.cluster) in
    let is : c.in-Some-Ok.field-0 ≡ Ok c.in-Some-Ok.status = cc in
    let so = c.in-Some-Ok.ensures.told whole p was in
    let found = subst (λ (r : Result FileStatus HdfsError). IsFoundIn (IsPageIn p) mounts Why (begun_by c.args.self.now) (Some r) (begun_by c.next_found.new.self)) is so.1 in (
      so.0,
      walks_entered (IsPageIn p) mounts Why c.args.self.now.recursive c.next_found.new.self.recursive (begun_by c.args.self.now) (begun_by c.next_found.new.self)
          (begun_by c.entered.new.self) c.in-Some-Ok.status c.entered.result c.in-Some-Ok.ensures.recursive found c.entered.ensures.ok c.entered.ensures.err
          (lacks_told p mounts (g.C.Cluster.shown c.args.cluster.now) (g.C.Cluster.shown c.next_found.new.cluster) c.entered.result c.entered.ensures.cause),
    ))

pub returns-in-Some-Err-clause-told : goal.returns-in-Some-Err-clause-told
returns-in-Some-Err-clause-told g c = λ whole p was.
    (let mounts = mounts_of c.args.client.now in
    let Why : HdfsError → Left → Type 0 = IsEndedIn p mounts (g.C.Cluster.shown c.args.cluster.now) (g.C.Cluster.shown c.next_found.new.cluster) in
    let is : c.in-Some-Err.field-0 ≡ Err c.in-Some-Err.error = cc in
    let so = c.in-Some-Err.ensures.told whole p was in
    let found = subst (λ (r : Result FileStatus HdfsError). IsFoundIn (IsPageIn p) mounts Why (begun_by c.args.self.now) (Some r) (begun_by c.next_found.new.self)) is so.1 in (
      so.0,
      walks_wrong (IsPageIn p) mounts Why c.args.self.now.recursive (begun_by c.args.self.now) (begun_by c.next_found.new.self) c.in-Some-Err.error found,
    ))

pub returns-in-None-clause-told : goal.returns-in-None-clause-told
returns-in-None-clause-told g c = λ whole p was.
    (let mounts = mounts_of c.args.client.now in
    let Why : HdfsError → Left → Type 0 = IsEndedIn p mounts (g.C.Cluster.shown c.args.cluster.now) (g.C.Cluster.shown c.next_found.new.cluster) in
    let so = c.in-None.ensures.told whole p was in
    (so.0, walks_out (IsPageIn p) mounts Why c.args.self.now.recursive (begun_by c.args.self.now) (begun_by c.next_found.new.self) so.1))

pub returns-in-Some-Ok-clause-allowed : goal.returns-in-Some-Ok-clause-allowed
returns-in-Some-Ok-clause-allowed g c =
    let Why : HdfsError → Left → Type 0 = IsDirFault g.C.Cluster.serves c.next_found.new.client c.next_found.new.cluster in
    let is : c.in-Some-Ok.field-0 ≡ Ok c.in-Some-Ok.status = cc in
    let found = subst (λ (r : Result FileStatus HdfsError). IsFoundIn g.C.Cluster.may_answer (mounts_of c.args.client.now) Why (begun_by c.args.self.now) (Some r)
    (begun_by c.next_found.new.self)) is c.in-Some-Ok.ensures.found in
    same_lets g.C.Cluster.allows g.C.Cluster.may_answer (mounts_of c.next_found.new.client) (mounts_of c.args.client.now) c.entered.new.self.recursive
    c.args.self.now.recursive (begun_by c.entered.new.self) (sym c.in-Some-Ok.ensures.rest.mounts) (sym (c.entered.ensures.recursive ∙ c.in-Some-Ok.ensures.recursive))
    (lets_entered g.C.Cluster.may_answer (mounts_of c.args.client.now) g.C.Cluster.allows Why c.args.self.now.recursive c.next_found.new.self.recursive
    (begun_by c.args.self.now) (begun_by c.next_found.new.self) (begun_by c.entered.new.self) c.in-Some-Ok.status c.entered.result
    c.in-Some-Ok.ensures.recursive found c.entered.ensures.ok c.entered.ensures.err c.requires.allowed)

pub returns-in-Some-Err-clause-walks : goal.returns-in-Some-Err-clause-walks
returns-in-Some-Err-clause-walks g c =
    let Why : HdfsError → Left → Type 0 = IsDirFault g.C.Cluster.serves c.next_found.new.client c.next_found.new.cluster in
    let is : c.in-Some-Err.field-0 ≡ Err c.in-Some-Err.error = cc in
    let found = subst (λ (r : Result FileStatus HdfsError). IsFoundIn g.C.Cluster.may_answer (mounts_of c.args.client.now) Why (begun_by c.args.self.now) (Some r)
    (begun_by c.next_found.new.self)) is c.in-Some-Err.ensures.found in
    walks_wrong g.C.Cluster.may_answer (mounts_of c.args.client.now) Why c.args.self.now.recursive (begun_by c.args.self.now) (begun_by c.next_found.new.self)
    c.in-Some-Err.error found

pub returns-in-Some-Err-clause-allowed : goal.returns-in-Some-Err-clause-allowed
returns-in-Some-Err-clause-allowed g c =
    let Why : HdfsError → Left → Type 0 = IsDirFault g.C.Cluster.serves c.next_found.new.client c.next_found.new.cluster in
    same_lets g.C.Cluster.allows g.C.Cluster.may_answer (mounts_of c.next_found.new.client) (mounts_of c.args.client.now) c.next_found.new.self.recursive
    c.args.self.now.recursive (begun_by c.next_found.new.self) (sym c.in-Some-Err.ensures.rest.mounts) (sym c.in-Some-Err.ensures.recursive)
    (lets_on g.C.Cluster.may_answer (mounts_of c.args.client.now) g.C.Cluster.allows Why c.args.self.now.recursive (begun_by c.args.self.now)
    (begun_by c.next_found.new.self) _ c.in-Some-Err.ensures.found c.requires.allowed)

pub returns-in-None-clause-walks : goal.returns-in-None-clause-walks
returns-in-None-clause-walks g c =
    let Why : HdfsError → Left → Type 0 = IsDirFault g.C.Cluster.serves c.next_found.new.client c.next_found.new.cluster in
    walks_out g.C.Cluster.may_answer (mounts_of c.args.client.now) Why c.args.self.now.recursive (begun_by c.args.self.now) (begun_by c.next_found.new.self)
    c.in-None.ensures.found

pub returns-in-None-clause-allowed : goal.returns-in-None-clause-allowed
returns-in-None-clause-allowed g c =
    let Why : HdfsError → Left → Type 0 = IsDirFault g.C.Cluster.serves c.next_found.new.client c.next_found.new.cluster in
    same_lets g.C.Cluster.allows g.C.Cluster.may_answer (mounts_of c.next_found.new.client) (mounts_of c.args.client.now) c.next_found.new.self.recursive
    c.args.self.now.recursive (begun_by c.next_found.new.self) (sym c.in-None.ensures.rest.mounts) (sym c.in-None.ensures.recursive)
    (lets_on g.C.Cluster.may_answer (mounts_of c.args.client.now) g.C.Cluster.allows Why c.args.self.now.recursive (begun_by c.args.self.now)
    (begun_by c.next_found.new.self) _ c.in-None.ensures.found c.requires.allowed)
