-- Which errors pass.
use Rattle.std.specs.Prelude.{Bool, true, false, not, ◌||◌, Result, Ok, Err, bytes_eq}
use Rattle.hdfs_cluster.specs.Namenode.{not_found, parent_not_directory}
use Rattle.hdfs_cluster.specs.declared.errors.HdfsError.{HdfsError}
use Rattle.hdfs_cluster.specs.declared.errors.HdfsError.TheVariants as errors

-- an error advises to ask again: a connection or a datanode has failed, or a namenode, which says by its exception's class that there is no
-- file in no other case
abbrev pub may_pass : HdfsError → Bool
may_pass (errors.IOError fault) = true
may_pass (errors.DataTransferError fault) = true
may_pass (errors.OperationFailed path) = true
may_pass (errors.RPCError class message) = not (bytes_eq class not_found || bytes_eq class parent_not_directory)
may_pass (errors.InvalidRPCResponse fault) = true
may_pass (errors.FatalRPCError class message) = true
may_pass error = false

-- what came of a request is such an error
abbrev pub asks_again : Result (Unit {0}) HdfsError → Bool
asks_again (Ok done) = false
asks_again (Err error) = may_pass error
