-- A range of the reader's file.
use Rattle.hdfs_client.proofs.ByReaders.{is_there, reads_still}
use Rattle.hdfs_client.proofs.file_reader.FileReader.read_range.Goals as goal

pub read_range-requires-clause-there : goal.read_range-requires-clause-there
read_range-requires-clause-there g c = is_there c.args.client.now c.args.self.now c.requires.stands.1

pub returns-clause-by : goal.returns-clause-by
returns-clause-by g c = reads_still c.read_range.new.self c.args.self.now c.read_range.ensures.reads.after c.read_range.ensures.reads.is
