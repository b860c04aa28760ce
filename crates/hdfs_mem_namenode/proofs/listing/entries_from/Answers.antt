-- The keys of the range are those that don't stand before its start.
use Rattle.std.proofs.Common.{◌≡◌, Bool, ◌&&◌, refl, ◌∙◌, ap, true, false}
use Rattle.std.proofs.Math.Path.{fun_ext}
use Rattle.std.specs.List.{filter}
use Rattle.hdfs_mem_namenode.proofs.Ranging.{from_key}
use Rattle.hdfs_mem_namenode.proofs.listing.entries_from.Goals as goal

and_true : (a b : Bool) → a ≡ b → (a && true) ≡ b
and_true a b is = both a ∙ is
  where
    both : (a : Bool) → (a && true) ≡ a
    both true = refl
    both false = refl

pub returns-clause-entries : goal.returns-clause-entries
returns-clause-entries c = c.range.ensures.between tt ∙ ap (λ p. filter p c.args.names.now.entries) (fun_ext (λ e. and_true _ _ (from_key c.args.start.now e.0)))
