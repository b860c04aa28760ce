-- One ask of the service to which the path leads, and a reader of the blocks that it found.
use Rattle.std.proofs.Common.{false, Err, refl}
use Rattle.std.proofs.lemmas.Result.{err_from_is_err_and}
use Rattle.hdfs_cluster.specs.declared.errors.HdfsError.TheVariants as errors
use Rattle.hdfs_client.proofs.Asking.{asks_at, asks_nothing, client_later, is_service}
use Rattle.hdfs_client.proofs.Beside.{files_asked}
use Rattle.hdfs_client.proofs.ByReaders.{is_then, lacks_looked, lacks_memory, lacks_plain, located_if, made_if, memory_is, opens_failed, opens_found, shows_if, was_there}
use Rattle.hdfs_namenode.specs.Views.{Whole}
use Rattle.hdfs_client.proofs.client.Client.read.Goals as goal

pub returns-in_err-to-clause-asked : goal.returns-in_err-to-clause-asked
returns-in_err-to-clause-asked g c = record {
  outcome = Err errors.NoMemory;
  asks = asks_nothing g.C.Cluster.serves false _ c.args.self.now c.args.path.now c.args.cluster.now _ refl;
  has = memory_is c.from_residual.result c.from_residual.ensures.1;
}

pub locate-requires-clause-service : goal.locate-requires-clause-service
locate-requires-clause-service g c = is_service c.args.self.now _ _ _ c.requires.client c.in_ok-to.ensures.1 c.index_mut-namenode.ensures.value

pub returns-in_err-found-clause-asked : goal.returns-in_err-found-clause-asked
returns-in_err-found-clause-asked g c =
    let p = err_from_is_err_and c.from_residual-in_err-found.result c.from_residual-in_err-found.ensures.1 in
    record {
      outcome = c.in_err-found.ensures.asked.outcome;
      asks = asks_at g.C.Cluster.serves false _ c.args.self.now _ c.args.path.now c.in_ok-to.to _ _ _ c.args.cluster.now _ _ c.in_ok-to.ensures.0 c.as_str.ensures
          c.in_ok-to.ensures.1 c.index_mut-namenode.ensures.value refl (refl, refl, refl) c.in_err-found.ensures.asked.asked c.in_err-found.ensures.client;
      has = rw (p.1, p.2) (opens_failed c.args.path.now c.in_err-found.ensures.asked.outcome c.in_err-found.field-0.0 c.in_err-found.ensures.asked.gives);
    }

pub returns-in_err-found-clause-client : goal.returns-in_err-found-clause-client
returns-in_err-found-clause-client g c =
    client_later g.C.Cluster.shown g.C.Cluster.serves g.met.C.Cluster.serves_rows false _ c.args.self.now _ c.args.path.now c.args.cluster.now _ _
    c.requires.client (returns-in_err-found-clause-asked g c).asks

pub returns-in_err-found-clause-files : goal.returns-in_err-found-clause-files
returns-in_err-found-clause-files g c =
    files_asked g.C.Cluster.shown g.C.Cluster.serves g.met.C.Cluster.serves_rows g.C.Cluster.allows g.C.Cluster.may_answer false _ c.args.self.now _ c.args.path.now c.args.cluster.now _ _
    (returns-in_err-found-clause-asked g c).asks

pub returns-clause-asked : goal.returns-clause-asked
returns-clause-asked g c = record {
  outcome = c.in_ok-found.ensures.asked.outcome;
  asks = asks_at g.C.Cluster.serves false _ c.args.self.now _ c.args.path.now c.in_ok-to.to _ _ _ c.args.cluster.now _ _ c.in_ok-to.ensures.0 c.as_str.ensures
      c.in_ok-to.ensures.1 c.index_mut-namenode.ensures.value refl (refl, refl, refl) c.in_ok-found.ensures.asked.asked c.in_ok-found.ensures.client;
  has = opens_found c.args.path.now c.in_ok-found.ensures.asked.outcome c.in_ok-found.found c.reader_of.result c.in_ok-found.ensures.asked.gives c.reader_of.ensures.ok c.reader_of.ensures.err;
}

pub returns-clause-client : goal.returns-clause-client
returns-clause-client g c =
    client_later g.C.Cluster.shown g.C.Cluster.serves g.met.C.Cluster.serves_rows false _ c.args.self.now _ c.args.path.now c.args.cluster.now _ _
    c.requires.client (returns-clause-asked g c).asks

pub returns-clause-files : goal.returns-clause-files
returns-clause-files g c =
    files_asked g.C.Cluster.shown g.C.Cluster.serves g.met.C.Cluster.serves_rows g.C.Cluster.allows g.C.Cluster.may_answer false _ c.args.self.now _ c.args.path.now c.args.cluster.now _ _
    (returns-clause-asked g c).asks

pub returns-clause-made : goal.returns-clause-made
returns-clause-made g c =
    made_if c.args.self.now c.args.path.now c.in_ok-to.to c.in_ok-to.ensures.0 _ c.locate.new.namenode c.in_ok-found.found c.reader_of.result
    (is_then c.args.self.now _ c.in_ok-to.to.service c.locate.new.namenode c.in_ok-to.ensures.1 refl) c.in_ok-found.ensures.ok c.reader_of.ensures.ok c.reader_of.ensures.service

pub returns-clause-answered : goal.returns-clause-answered
returns-clause-answered g c =
    located_if c.args.self.now c.args.path.now c.in_ok-to.to c.in_ok-to.ensures.0 _ c.as_str.ensures g.C.Cluster.may_answer c.in_ok-found.found c.reader_of.result
    c.in_ok-found.ensures.answered c.reader_of.ensures.ok

pub returns-clause-shows : goal.returns-clause-shows
returns-clause-shows g c =
    shows_if c.args.self.now c.args.path.now c.in_ok-to.to c.in_ok-to.ensures.0 _ c.as_str.ensures c.in_ok-found.found c.reader_of.result (g.C.Cluster.shown c.args.cluster.now) _ _
    (was_there c.args.self.now c.in_ok-to.to.service _ c.in_ok-to.ensures.1 c.index_mut-namenode.ensures.value)
    (λ reaches. (c.in_ok-found.ensures.found Whole reaches, c.in_ok-found.ensures.files Whole reaches)) c.reader_of.ensures.ok

-- ---- why there is no reader

pub returns-in_err-to-clause-err : goal.returns-in_err-to-clause-err
returns-in_err-to-clause-err g c =
    lacks_memory c.args.self.now c.args.path.now (g.C.Cluster.shown c.args.cluster.now) _ c.from_residual.result c.from_residual.ensures.1

pub returns-in_err-found-clause-err : goal.returns-in_err-found-clause-err
returns-in_err-found-clause-err g c =
    let p = err_from_is_err_and c.from_residual-in_err-found.result c.from_residual-in_err-found.ensures.1 in
    rw (p.1, p.2) (lacks_looked c.args.self.now c.args.path.now c.in_ok-to.to c.in_ok-to.ensures.0 _ c.as_str.ensures (g.C.Cluster.shown c.args.cluster.now)
    (g.C.Cluster.shown c.locate.new.cluster) _ c.in_err-found.field-0.0
    (was_there c.args.self.now c.in_ok-to.to.service _ c.in_ok-to.ensures.1 c.index_mut-namenode.ensures.value) c.in_err-found.ensures.err)

pub returns-clause-err : goal.returns-clause-err
returns-clause-err g c =
    lacks_plain c.args.self.now c.args.path.now (g.C.Cluster.shown c.args.cluster.now) _ c.in_ok-found.found c.reader_of.result c.reader_of.ensures.err
