-- Whether bytes may be moved.
use Rattle.std.proofs.Common.{inl}
use Rattle.std.proofs.lemmas.Result.{err_from_is_err_and}
use Rattle.hdfs_namenode.specs.Clients.{defaults_of}
use Rattle.hdfs_file_reader.proofs.Transfers.{lacks_by, leaves_by, looks_cached}
use Rattle.hdfs_namenode.specs.Views.{Whole}
use Rattle.hdfs_file_reader.proofs.transfer.allow_transfer.Goals as goal

pub returns-in_err-defaults-clause-looks : goal.returns-in_err-defaults-clause-looks
returns-in_err-defaults-clause-looks g c =
    let call = c.get_cached_server_defaults in
    looks_cached g.C.Cluster.shown g.C.Cluster.serves g.met.C.Cluster.serves_rows (defaults_of c.args.namenode.now) c.args.namenode.now call.new.self c.args.cluster.now call.new.cluster call.result
    call.ensures.asked call.ensures.known

pub returns-then-defaults-clause-looks : goal.returns-then-defaults-clause-looks
returns-then-defaults-clause-looks g c =
    let call = c.get_cached_server_defaults in
    looks_cached g.C.Cluster.shown g.C.Cluster.serves g.met.C.Cluster.serves_rows (defaults_of c.args.namenode.now) c.args.namenode.now call.new.self c.args.cluster.now call.new.cluster call.result
    call.ensures.asked call.ensures.known

pub returns-clause-looks : goal.returns-clause-looks
returns-clause-looks g c =
    let call = c.get_cached_server_defaults in
    looks_cached g.C.Cluster.shown g.C.Cluster.serves g.met.C.Cluster.serves_rows (defaults_of c.args.namenode.now) c.args.namenode.now call.new.self c.args.cluster.now call.new.cluster call.result
    call.ensures.asked call.ensures.known

pub returns-in_err-defaults-clause-picture : goal.returns-in_err-defaults-clause-picture
returns-in_err-defaults-clause-picture g c = λ reaches. (leaves_by (c.get_cached_server_defaults.ensures.came Whole reaches)).1

pub returns-then-defaults-clause-picture : goal.returns-then-defaults-clause-picture
returns-then-defaults-clause-picture g c = λ reaches. (leaves_by (c.get_cached_server_defaults.ensures.came Whole reaches)).1

pub returns-clause-picture : goal.returns-clause-picture
returns-clause-picture g c = λ reaches. (leaves_by (c.get_cached_server_defaults.ensures.came Whole reaches)).1

pub returns-in_err-defaults-clause-err : goal.returns-in_err-defaults-clause-err
returns-in_err-defaults-clause-err g c =
    let p = err_from_is_err_and c.from_residual.result c.from_residual.ensures.1 in
    rw (p.1, p.2) (inl (λ view has. lacks_by (c.in_err-defaults.ensures.came view has)))
