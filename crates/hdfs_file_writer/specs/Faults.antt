-- Which errors say that a pipeline couldn't be set up.
use Rattle.std.specs.Prelude.{Bool, true, false}
use Rattle.hdfs_cluster.specs.declared.errors.HdfsError.{HdfsError}
use Rattle.hdfs_cluster.specs.declared.errors.HdfsError.TheVariants as errors
use Rattle.hdfs_cluster.specs.declared.errors.IoFault.TheVariants as io_faults
use Rattle.hdfs_cluster.specs.declared.errors.TransferFault.TheVariants as transfer

-- a pipeline couldn't be set up
abbrev pub is_of_setup : HdfsError → Bool
is_of_setup (errors.IOError io_faults.Link) = true
is_of_setup (errors.DataTransferError transfer.Setup) = true
is_of_setup error = false
