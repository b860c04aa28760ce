-- The text is passed by all parts exactly where it matches the glob that they are of.
use Rattle.std.proofs.Common.{◌∙◌, ap, length, map, List, ℕ}
use Rattle.std.specs.Str.{chars}
use Rattle.hdfs_globs.specs.Patterns.{sign_of}
use Rattle.hdfs_globs.specs.Places.{run, start}
use Rattle.hdfs_globs.specs.declared.glob.Part.{Part}
use Rattle.hdfs_globs.proofs.Matching.{passed-matches}
use Rattle.hdfs_globs.proofs.glob.GlobPattern.matches.Goals as goal

pub returns : goal.returns
returns c = λ glob pattern.
    let text = c.deref-2.ensures.value ∙ c.in_ok-text.ensures in
    let is = c.in_ok-passes.ensures ∙ ap (λ (t : List ℕ). (run t (map sign_of c.deref.result.now) start).places (length t)) text ∙ ap (λ (ps : List Part). (run (chars c.args.s.now) (map sign_of ps) start).places (length (chars c.args.s.now))) c.deref.ensures.value in
    passed-matches glob (chars c.args.s.now) (map sign_of c.args.self.now.parts.items) pattern.signs c.in_ok-passes.field-0 is
