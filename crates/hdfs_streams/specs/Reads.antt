-- What a read of a source up to so many bytes has done.
use Rattle.std.specs.Prelude.{◌≡◌, ◌≤◌, Result, IfErr, OnOk}
use Rattle.hdfs_cluster.specs.Counts.{Rose}
use Rattle.hdfs_streams.specs.declared.read_source.ReadFault.{ReadFault}
use Rattle.hdfs_streams.specs.declared.read_source.ReadFault.TheVariants as faults
use Rattle.hdfs_streams.specs.Streams.{SourceShown}

-- The count says whether the source failed: it rose where that is answered, and is the same else.
pub record HasReadCause {T : Type 0} (before : SourceShown) (result : Result T ReadFault) (after : SourceShown) : Type 0 where
  pub later : before.failures ≤ after.failures
  pub failed : IfErr result (λ e. e ≡ faults.Failed → Rose before.failures after.failures)
  pub starved : IfErr result (λ e. e ≡ faults.NoMemory → after.failures ≡ before.failures)
  pub fine : OnOk result (after.failures ≡ before.failures)
