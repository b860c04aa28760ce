-- A text that doesn't begin with a slash is none with one at the front.
use Rattle.std.proofs.Common.{lit<}
use Rattle.std.proofs.lemmas.Str.Pattern.{strip_prefix_char}
use Rattle.hdfs_client.proofs.Picked.{none_of}
use Rattle.hdfs_client.proofs.globbing.picking.behind_slash.Goals as goal

pub returns-clause-none : goal.returns-clause-none
returns-clause-none c =
    none_of _ _ c.strip_prefix.result (strip_prefix_char 47 c.args.path.now c.strip_prefix.result c.strip_prefix.ensures.cases (lit< tt))
