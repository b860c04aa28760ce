-- A slash that is cut off is one more, and where none is cut off there is none at the end.
use Rattle.std.proofs.Common.{rules, lit<, Some}
use Rattle.std.proofs.lemmas.Str.Pattern.{strip_suffix_char}
use Rattle.hdfs_names.proofs.Mounted.{one_slash_more}
use Rattle.hdfs_client.proofs.status.without_end.Goals as goal

pub slashes-preserved : goal.slashes-preserved
slashes-preserved c = record {
  ends = one_slash_more _ _ _ (strip_suffix_char 47 c.slashes.cut.now (Some c.in-Some.front) c.in-Some.ensures.cases (lit< tt)) c.slashes.invariant.ends;
  text = search rules;
}
