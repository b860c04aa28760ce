-- What was taken of the look-up.
use Rattle.std.proofs.Common.{inl, inr}
use Rattle.hdfs_client.proofs.Beside.{files_asked}
use Rattle.hdfs_client.proofs.Looked.{is_looked, is_unlooked}
use Rattle.hdfs_client.proofs.Picked.{if_err_so, if_ok_so}
use Rattle.hdfs_client.proofs.Staying.{stays_asked}
use Rattle.hdfs_client.proofs.client.Client.looked.Goals as goal

pub returns-clause-looked : goal.returns-clause-looked
returns-clause-looked g c =
    if_ok_so _ _ c.taken.result
    (λ found is. is_looked g.C.Cluster.serves c.args.path.now c.args.self.now c.get_file_info-looked.new.self c.args.cluster.now
    c.get_file_info-looked.new.cluster c.get_file_info-looked.result found.items c.get_file_info-looked.ensures.asked is) c.taken.ensures.ok

pub returns-clause-err : goal.returns-clause-err
returns-clause-err g c =
    if_err_so _ _ c.taken.result
    (λ error is. elim is [
      | inl none ↦ inl none
      | inr declined ↦ inr (is_unlooked g.C.Cluster.serves c.args.path.now c.args.self.now c.get_file_info-looked.new.self c.args.cluster.now
          c.get_file_info-looked.new.cluster c.get_file_info-looked.result error c.get_file_info-looked.ensures.asked declined)
    ]) c.taken.ensures.err

pub returns-clause-rest : goal.returns-clause-rest
returns-clause-rest g c =
    stays_asked g.C.Cluster.serves _ _ c.args.self.now c.get_file_info-looked.new.self _ _ _ _ c.get_file_info-looked.ensures.asked.asks

pub returns-clause-files : goal.returns-clause-files
returns-clause-files g c =
    files_asked g.C.Cluster.shown g.C.Cluster.serves g.met.C.Cluster.serves_rows g.C.Cluster.allows g.C.Cluster.may_answer _ _ c.args.self.now c.get_file_info-looked.new.self _ _ _ _ c.get_file_info-looked.ensures.asked.asks
