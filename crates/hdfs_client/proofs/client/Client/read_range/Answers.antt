-- The service of this number is used, and no other.
use Rattle.std.proofs.Common.{ap, refl}
use Rattle.std.proofs.lemmas.Result.{IfOk-weaker}
use Rattle.hdfs_client.proofs.Asking.{is_service}
use Rattle.hdfs_client.proofs.Beside.{files_read}
use Rattle.hdfs_client.proofs.ByReaders.{client_read, is_then, others_stay, was_there}
use Rattle.hdfs_client.proofs.SameParts.{put_back, same_parts, same_vec}
use Rattle.hdfs_client.proofs.client.Client.read_range.Goals as goal

pub read_range-requires-clause-service : goal.read_range-requires-clause-service
read_range-requires-clause-service g c = is_service c.args.self.now _ _ _ c.requires.client c.requires.there c.index_mut-namenode.ensures.value

pub returns-clause-reads : goal.returns-clause-reads
returns-clause-reads g c = record {
  before = _;
  was = was_there c.args.self.now c.args.service _ c.requires.there c.index_mut-namenode.ensures.value;
  after = c.read_range.new.namenode;
  is = is_then c.args.self.now _ c.args.service c.read_range.new.namenode c.requires.there refl;
  others = others_stay c.args.self.now _ c.args.service c.read_range.new.namenode refl (refl, refl, refl);
  count = IfOk-weaker c.read_range.result _ _ (λ bytes had. had.1 c.requires.whole) c.read_range.ensures.count;
  within = IfOk-weaker c.read_range.result _ _ (λ bytes had. had.0) c.read_range.ensures.count;
  plain = c.read_range.ensures.plain;
  idle = λ none.
      let same = c.read_range.ensures.idle none in
      (ap g.C.Cluster.shown same.0, same.1);
  err = c.read_range.ensures.err;
  leaves = c.read_range.ensures.leaves;
  known = c.read_range.ensures.known;
  bytes = c.read_range.ensures.bytes;
  lost = c.read_range.ensures.lost;
}

pub returns-clause-range : goal.returns-clause-range
returns-clause-range g c = λ behind.
    let so = c.read_range.ensures.range behind in (
      so.0,
      so.1,
      same_parts _ c.args.self.now refl refl
          (same_vec _ c.args.self.now.services refl refl refl refl
          (put_back _ c.args.service _ _ c.index_mut-namenode.ensures.value so.2)) refl refl so.3,
    )

pub returns-clause-client : goal.returns-clause-client
returns-clause-client g c =
    client_read c.args.self.now _ c.args.service _ c.read_range.new.namenode (g.C.Cluster.shown c.args.cluster.now) _ c.requires.client c.read_range.ensures.leaves.later c.read_range.ensures.leaves.same.service
    (was_there c.args.self.now c.args.service _ c.requires.there c.index_mut-namenode.ensures.value)
    (is_then c.args.self.now _ c.args.service c.read_range.new.namenode c.requires.there refl)
    (others_stay c.args.self.now _ c.args.service c.read_range.new.namenode refl (refl, refl, refl))

pub returns-clause-files : goal.returns-clause-files
returns-clause-files g c = files_read g.C.Cluster.allows g.C.Cluster.may_answer (returns-clause-reads g c)
