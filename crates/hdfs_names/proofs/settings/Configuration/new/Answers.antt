-- A pair that is put into the map holds from then on.
use Rattle.std.proofs.Common.{arith}
use Rattle.std.proofs.lemmas.List.{nil_from_length}
use Rattle.hdfs_names.proofs.Configured.{put_more, put_all, is_table}
use Rattle.hdfs_names.proofs.settings.Configuration.new.Goals as goal

pub pairs-preserved-in_ok-_earlier : goal.pairs-preserved-in_ok-_earlier
pairs-preserved-in_ok-_earlier c = record {
  values = λ key. put_more c.pairs.map c.insert.new.self c.in-Some.key c.in-Some.value _ _ key _ c.in_ok-_earlier.ensures.updates c.in-Some.ensures.steps.0 (c.pairs.invariant.values key);
  ordered = c.insert.ensures.ordered;
}

pub pairs-preserved : goal.pairs-preserved
pairs-preserved c = record {
  values = λ key. put_more c.pairs.map c.insert.new.self c.in-Some.key c.in-Some.value _ _ key _ c.in_ok-_earlier.ensures.updates c.in-Some.ensures.steps.0 (c.pairs.invariant.values key);
  ordered = c.insert.ensures.ordered;
}

pub returns-clause-values : goal.returns-clause-values
returns-clause-values c = λ key. put_all c.pairs.map _ key _ (nil_from_length _ (omega (arith, c.in-None.ensures.steps.0))) (c.pairs.invariant.values key)

pub returns-clause-table : goal.returns-clause-table
returns-clause-table c = is_table _ c.pairs.invariant.ordered
