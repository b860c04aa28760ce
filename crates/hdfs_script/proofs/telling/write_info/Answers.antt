use Rattle.std.proofs.Common.{Bool, sym, subst}
use Rattle.hdfs_streams.specs.Streams.{Prints}
use Rattle.hdfs_script.specs.Texts.{info_line}
use Rattle.hdfs_script.proofs.telling.write_info.Goals as goal

pub returns-then-isdir : goal.returns-then-isdir
returns-then-isdir g c =
    subst (λ (isdir : Bool). Prints (g.K.Sink.shown c.args.sink.now) (info_line isdir c.args.length c.args.permission c.args.replication c.args.block_size) c.write_all.result (g.K.Sink.shown c.write_all.new.sink))
    (sym c.if-isdir.true) c.write_all.ensures
