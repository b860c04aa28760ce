-- What a caller is told of a pattern that is refused.
use Rattle.hdfs_names.specs.declared.fault.NamesFault.{NamesFault}
use Rattle.hdfs_names.specs.declared.fault.NamesFault.TheVariants as faults
use Rattle.hdfs_cluster.specs.declared.errors.ArgFault.TheVariants as args
use Rattle.hdfs_cluster.specs.declared.errors.HdfsError.TheVariants as errors
use Rattle.hdfs_client.specs.declared.errors.ClientError.{ClientError}
use Rattle.hdfs_client.specs.declared.errors.ClientError.TheVariants.{Hdfs}

-- a refused name, as an error of the client. Patterns are refused by the first two alone.
abbrev pub refusal_of : NamesFault → ClientError
refusal_of faults.NoMemory = Hdfs errors.NoMemory
refusal_of (faults.InvalidPath path) = Hdfs (errors.InvalidPath path)
refusal_of (faults.InvalidArgument text) = Hdfs (errors.InvalidPath text)
refusal_of faults.ResolveNeeded = Hdfs (errors.InvalidArgument args.Settings)
