-- The links before the one at hand don't match.
use Rattle.std.proofs.Common.{List, ℕ, ◌++◌, sym, ap, ◌∙◌, arith}
use Rattle.hdfs_names.proofs.Mounted.{first_more, first_found, first_none}
use Rattle.hdfs_names.proofs.mounts.MountTable.resolve_absolute.Goals as goal

pub returns-in-Some : goal.returns-in-Some
returns-in-Some c =
    c.links.invariant ∙ first_found _ _ c.as_slice-links.result.now _ _ c.index-links-number.result (omega arith) c.index-links-number.is (sym c.in_ok-path.ensures ∙ c.in-Some.is)

pub links-preserved : goal.links-preserved
links-preserved c =
    c.links.invariant ∙ first_more _ _ c.as_slice-links.result.now _ c.index-links-number.result (omega arith) c.index-links-number.is (sym c.in_ok-path.ensures ∙ c.in_default.is)

pub returns : goal.returns
returns c =
    c.links.invariant ∙ first_none _ _ c.as_slice-links.result.now _ _ (omega arith) c.requires.fallback c.requires.path
    (c.in_ok-joined.ensures ∙ ap (λ (x : List ℕ). x ++ c.args.path.now) c.as_str.ensures)
