use Rattle.std.proofs.Common.{◌≡◌, ◌%◌, length, get_or, refl, ◌∙◌, arith, ◌++◌}
use Rattle.std.proofs.lemmas.List.FromFn.{get_or-map-range_with_len}
use Rattle.std.proofs.lemmas.List.{get_or_append_left}
use Rattle.hdfs_field.proofs.kernel.twice.Goals as goal

pub returns : goal.returns
returns c = λ e entries.
    let table = c.args.table in
    let long : length table ≡ 16 = c.fits-table.0 in
    record {
      long = refl;
      each = λ k l.
          get_or-map-range_with_len (λ j. get_or (table ++ table) (j % 16) 0) 0 32 k k 0 l (omega arith)
          ∙ get_or_append_left table table 0 (k % 16) (omega arith) ∙ entries (k % 16) (omega arith);
    }
