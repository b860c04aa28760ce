-- What is yielded by the split and kept by the filter are the components.
use Rattle.std.proofs.Common.{rules, tests, lit<, ap, ◌∙◌}
use Rattle.std.specs.Str.Iter.{split_text, split_has_more, split_pattern}
use Rattle.std.proofs.lemmas.Iterator.Splits.{YieldsList-from_str_split}
use Rattle.std.proofs.lemmas.Iterator.Consumers.{YieldsList-from_filter, map_from_collect}
use Rattle.hdfs_globs.proofs.Pieces.{components-kept, is_long}
use Rattle.hdfs_globs.proofs.expand.get_path_components.Goals as goal

pub returns : goal.returns
returns c =
    let e = c.filter.ensures.source in
    let source = YieldsList-from_str_split {s = c.filter.result.iter} 47 c.args.pattern.now (lit< tt) (ap split_text e ∙ c.split.ensures.text) (ap split_has_more e ∙ c.split.ensures.has_more) (ap split_pattern e ∙ c.split.ensures.pattern) in
    let all = map_from_collect c.collect.result c.collect.ensures.ran (YieldsList-from_filter _ is_long source c.filter.ensures.closure (λ x b q k. search (rules, tests))) in
    components-kept _ _ (rw c.in_ok-collect.was at all)
