-- What a reply tells of a namenode's status.
use Rattle.std.specs.Prelude.{◌==◌, true, false, unwrap_or, if◌then◌else◌}
use Rattle.hdfs_cluster.specs.declared.messages.FileStatusMsg.{FileStatusMsg}
use Rattle.hdfs_model.specs.declared.commands.Reply.{Reply}
use Rattle.hdfs_model.specs.declared.commands.Reply.TheVariants as replies

-- of type 1, a directory, no more than that it is one; of another type the length and the attributes, 0 where none is told
abbrev pub info_by : FileStatusMsg → Reply
info_by status =
    if status.file_type == 1 then replies.Info true 0 0 0 0
    else replies.Info false status.length status.permission (unwrap_or status.block_replication 0) (unwrap_or status.blocksize 0)
