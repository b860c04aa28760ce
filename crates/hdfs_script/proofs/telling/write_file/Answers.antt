-- The sink failed in one of the three parts.
use Rattle.std.proofs.Common.{[], ◌++◌, refl, sym}
use Rattle.std.proofs.lemmas.Result.{err_from_is_err_and}
use Rattle.std.proofs.lemmas.List.{append-nil}
use Rattle.hdfs_script.specs.Texts.{length_text, octal, sizes_text}
use Rattle.hdfs_streams.proofs.PrintLemmas.{printed_start, printed_then, printed_stop}
use Rattle.hdfs_script.proofs.telling.write_file.Goals as goal

pub returns-in_err-write_length : goal.returns-in_err-write_length
returns-in_err-write_length g c =
    let last = sizes_text c.args.replication c.args.block_size in
    let rest = octal c.args.permission ++ last in
    let text = length_text c.args.length ++ rest in
    let p = err_from_is_err_and c.from_residual.result c.from_residual.ensures.1 in
    printed_stop _ _ _ text text (length_text c.args.length) rest _ _ _ _ refl (printed_start _ text) c.write_length.ensures c.in_err-write_length.was p.1

pub returns-in_err-write_octal : goal.returns-in_err-write_octal
returns-in_err-write_octal g c =
    let last = sizes_text c.args.replication c.args.block_size in
    let rest = octal c.args.permission ++ last in
    let text = length_text c.args.length ++ rest in
    let p = err_from_is_err_and c.from_residual-in_err-write_octal.result c.from_residual-in_err-write_octal.ensures.1 in
    let first = printed_then _ _ _ text text (length_text c.args.length) rest _ _ refl (printed_start _ text) c.write_length.ensures c.in_ok-write_length.was in
    printed_stop _ _ _ text rest (octal c.args.permission) last _ _ _ _ refl first c.write_octal.ensures c.in_err-write_octal.was p.1

pub returns-in_err-write_sizes : goal.returns-in_err-write_sizes
returns-in_err-write_sizes g c =
    let last = sizes_text c.args.replication c.args.block_size in
    let rest = octal c.args.permission ++ last in
    let text = length_text c.args.length ++ rest in
    let p = err_from_is_err_and c.from_residual-in_err-write_sizes.result c.from_residual-in_err-write_sizes.ensures.1 in
    let first = printed_then _ _ _ text text (length_text c.args.length) rest _ _ refl (printed_start _ text) c.write_length.ensures c.in_ok-write_length.was in
    let second = printed_then _ _ _ text rest (octal c.args.permission) last _ _ refl first c.write_octal.ensures c.in_ok-write_octal.was in
    printed_stop _ _ _ text last last [] _ _ _ _ (sym (append-nil (sizes_text c.args.replication c.args.block_size))) second c.write_sizes.ensures c.in_err-write_sizes.was p.1
