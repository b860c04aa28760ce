-- The log goes on where the first try advises so.
use Rattle.std.proofs.Common.{refl, sym, ◌∙◌, subst}
use Rattle.std.proofs.lemmas.Bool.{false≢true}
use Rattle.hdfs_client.proofs.Beside.{files_trans}
use Rattle.hdfs_uses.specs.Logs.{CreatesRecord, path_of}
use Rattle.hdfs_uses.specs.declared.logs.Log.{Log}
use Rattle.hdfs_uses.proofs.logs.put.Goals as goal

pub returns-then-not-asks_again-clause-puts : goal.returns-then-not-asks_again-clause-puts
returns-then-not-asks_again-clause-puts g c = record {
  first = c.append_record-first.result;
  between = c.append_record-first.new.client;
  mid = c.append_record-first.new.cluster;
  appends = c.append_record-first.ensures.appends;
  kept = λ no. (refl, refl, refl, refl);
  rolls = λ yes. absurd (false≢true (sym c.if-not-asks_again.true ∙ c.asks_again.ensures ∙ yes));
}

pub returns-clause-puts : goal.returns-clause-puts
returns-clause-puts g c = record {
  first = c.append_record-first.result;
  between = c.append_record-first.new.client;
  mid = c.append_record-first.new.cluster;
  appends = c.append_record-first.ensures.appends;
  kept = λ no. absurd (false≢true (sym no ∙ sym c.asks_again.ensures ∙ c.if-not-asks_again.false));
  rolls = λ yes. (
    c.roll.ensures,
    subst (λ (log : Log). CreatesRecord g.C.Cluster.shown g.C.Cluster.may_answer g.C.Cluster.serves c.append_record-first.new.client (path_of log) c.args.bytes.now c.append_record-first.new.cluster c.create_record.result
        c.create_record.new.client c.create_record.new.cluster) c.roll.ensures c.create_record.ensures.creates,
  );
}

pub returns-clause-files : goal.returns-clause-files
returns-clause-files g c = files_trans c.append_record-first.ensures.files c.create_record.ensures.files
