-- It stays a client of the cluster's namenodes, and reads by the reader.
use Rattle.hdfs_client.specs.Clients.{IsClientOf}
use Rattle.hdfs_client.specs.Readers.{ReadsBy}
use Rattle.hdfs_mem_cluster.specs.MemShown.{shown_of}
use Rattle.hdfs_step_tests.proofs.memory.files.tell_often.Given as goal

abbrev pub invariant-times : goal.invariant-times
invariant-times l = record {
  client : IsClientOf l.client (shown_of l.cluster);
  by : ReadsBy l.client l.reader;
}
