-- What holds since a time holds since an earlier time.
use Rattle.std.proofs.Common.{inl, inr, ⊎_elim, ℕ, ◌+◌, List, [], get_or, arith}
use Rattle.hdfs_model.specs.declared.commands.Command.{Command}
use Rattle.hdfs_model.specs.declared.commands.Command.TheVariants as commands
use Rattle.hdfs_cluster.specs.declared.errors.ArgFault.TheVariants as args
use Rattle.hdfs_cluster.specs.declared.errors.Feature.TheVariants as features
use Rattle.hdfs_cluster.specs.declared.errors.HdfsError.{HdfsError}
use Rattle.hdfs_cluster.specs.declared.errors.HdfsError.TheVariants as errors
use Rattle.hdfs_cluster.specs.declared.errors.IoFault.TheVariants as io_faults
use Rattle.hdfs_cluster.specs.declared.errors.TransferFault.TheVariants as transfer
use Rattle.hdfs_cluster.specs.Lost.{FileLost, PipelineFailed, SomeListedFailed}
use Rattle.hdfs_model.specs.Causes.{CommandLost, Because, Cause}
use Rattle.hdfs_cluster.specs.Counts.{FaultCounts, NeverFall, NoneRose, Rose}
use Rattle.hdfs_cluster.specs.Failures.{ANamenode, failure_of}
use Rattle.hdfs_cluster.specs.Files.{State}
use Rattle.hdfs_cluster.specs.Shown.{Shown}
use Rattle.hdfs_model.specs.Steps.{World, target_of}
use Rattle.hdfs_cluster.proofs.Failures.{each_rose, failed_since, one_rose, setups_since}
use Rattle.hdfs_cluster.proofs.Frames.{never_fall_refl, rose_since}
use Rattle.hdfs_file_writer.proofs.Joining.{help_since}

module _ (old middle new : Shown) (before : NeverFall old.counts middle.counts) where
  node_since : (d : List ℕ) → Rose (middle.counts.nodes d) (new.counts.nodes d) → Rose (old.counts.nodes d) (new.counts.nodes d)
  node_since d rose = rose_since (old.counts.nodes d) (middle.counts.nodes d) (new.counts.nodes d) (new.counts.nodes d) (before.nodes d) rose (omega arith)

  lost_since : (path : List ℕ) (from end byte : ℕ) → FileLost middle.counts new path from end byte → FileLost old.counts new path from end byte
  lost_since path from end byte h = record {
    picture = h.picture;
    told = h.told;
    file = h.file;
    named = h.named;
    lost = record {
      id = h.lost.id;
      at = h.lost.at;
      lies = h.lost.lies;
      entry = h.lost.entry;
      is = h.lost.is;
      behind = h.lost.behind;
      before = h.lost.before;
      inside = h.lost.inside;
      all_failed = λ k below whole. node_since (get_or h.lost.entry.nodes k []) (h.lost.all_failed k below whole);
    };
  }

  command_lost_since : (path : List ℕ) (command : Command) (byte : ℕ) → CommandLost middle.counts new path command byte → CommandLost old.counts new path command byte
  command_lost_since path (commands.Read text offset len) byte h = lost_since path offset (offset + len) byte h
  command_lost_since path command byte h = h

  some_since : (path : List ℕ) → SomeListedFailed middle.counts new path → SomeListedFailed old.counts new path
  some_since path h = (h.0, one_rose old.counts middle.counts new.counts new.counts h.0.entry.nodes before (never_fall_refl new.counts) h.1)

  pipeline_since : (path : List ℕ) → PipelineFailed middle.counts new path → PipelineFailed old.counts new path
  pipeline_since path h = (h.0, h.1, each_rose old.counts middle.counts new.counts new.counts h.0.entry.nodes before (never_fall_refl new.counts) h.2)

  -- what holds beside what has failed
  because_since : (w : World) (state : State) (command : Command) (e : HdfsError) → Because w state command middle new e → Because w state command old new e
  because_since w state command (errors.DataTransferError (transfer.Read byte)) h = (h.0, command_lost_since (target_of w command) command byte h.1)
  because_since w state command (errors.DataTransferError transfer.AllNodes) h = (h.0, pipeline_since (target_of w command) h.1)
  because_since w state command (errors.DataTransferError transfer.NoReplacement) h =
      (h.0, h.1, help_since old middle new before h.2, some_since (target_of w command) h.3, h.4)
  because_since w state command (errors.DataTransferError (transfer.RebuildLimit rebuilds)) h = (h.0, h.1, some_since (target_of w command) h.2)
  because_since w state command (errors.AlreadyExists message) h = ⊎_elim (λ is. inl is) (λ rose. inr (failed_since old middle new ANamenode before rose)) h
  because_since w state command (errors.RPCError class message) h = ⊎_elim (λ is. inl is) (λ rose. inr (failed_since old middle new ANamenode before rose)) h
  because_since w state command (errors.IOError io_faults.Link) h = (h.0, setups_since w.setup_limit old.counts middle.counts new.counts before h.1)
  because_since w state command (errors.DataTransferError transfer.Setup) h =
      (h.0, setups_since w.setup_limit old.counts middle.counts new.counts before h.1)
  because_since w state command (errors.InvalidArgument args.State) h = h
  because_since w state command (errors.UnsupportedFeature features.Encryption) h = h
  because_since w state command e h = h

  -- a cause
  pub cause_since : (w : World) (state : State) (command : Command) (e : HdfsError) → Cause w state command middle new e → Cause w state command old new e
  cause_since w state command e h = (because_since w state command e h.0, failed_since old middle new (failure_of e) before h.1)

-- where no count rose since a time none did since a later time
pub none_rose_later : (n : ℕ) (a b c : FaultCounts) → NeverFall a b → NoneRose n a c → NoneRose n b c
none_rose_later n a b c fall none = record {
  calls = λ i below rose. none.calls i below (rose_since (a.calls i) (b.calls i) (c.calls i) (c.calls i) (fall.calls i) rose (omega arith));
  links = λ rose. none.links (rose_since a.links b.links c.links c.links fall.links rose (omega arith));
  nodes = λ d rose. none.nodes d (rose_since (a.nodes d) (b.nodes d) (c.nodes d) (c.nodes d) (fall.nodes d) rose (omega arith));
}
