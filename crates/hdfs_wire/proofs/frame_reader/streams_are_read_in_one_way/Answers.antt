use Rattle.hdfs_wire.proofs.Stream.{one_way, frames_apart}
use Rattle.hdfs_wire.proofs.frame_reader.streams_are_read_in_one_way.Goals as goal

pub returns-clause-splits : goal.returns-clause-splits
returns-clause-splits c = one_way

pub returns-clause-apart : goal.returns-clause-apart
returns-clause-apart c = frames_apart
