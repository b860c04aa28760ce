-- The set that was read is what the text begins with.
use Rattle.std.proofs.Common.{sym, subst, ◌+◌, drop, List, ℕ}
use Rattle.std.proofs.lemmas.List.{take_rest}
use Rattle.hdfs_globs.specs.Globs.Sign.{one}
use Rattle.hdfs_globs.specs.NextSigns.{IsNextSign, HasNoSign}
use Rattle.hdfs_globs.specs.Patterns.{one_of}
use Rattle.hdfs_globs.proofs.NextRead.{next-set, next-no_set}
use Rattle.hdfs_globs.proofs.glob.set_part.Goals as goal

pub returns-in-Some-clause-part : goal.returns-in-Some-clause-part
returns-in-Some-clause-part c = λ depth.
    let set = c.in-Some.set in
    let read = rw (take_rest c.args.text.now (c.args.at + 1)) at (rw c.in-Some.is at c.in_ok-set.ensures.set) in
    subst (λ (t : List ℕ). IsNextSign depth t (one (one_of set.wanted)) (set.taken + 1)) (sym c.requires.bracket)
    (next-set depth set.taken (drop (c.args.at + 1) c.args.text.now) (one_of set.wanted) read)

pub returns-in-None-clause-part : goal.returns-in-None-clause-part
returns-in-None-clause-part c = λ depth.
    let read = rw (take_rest c.args.text.now (c.args.at + 1)) at (rw c.in-None.is at c.in_ok-set.ensures.set) in
    subst (HasNoSign depth) (sym c.requires.bracket) (next-no_set depth (drop (c.args.at + 1) c.args.text.now) read)
