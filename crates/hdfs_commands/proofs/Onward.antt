-- What holds of an error holds still once the session's files are given up.
use Rattle.std.proofs.Common.{◌≡◌, inl, inr, ⊎_elim, ℕ, ◌+◌, List, [], ◌∷◌, length, Contains, get_or, Option, Some, sym, ◌∙◌, ap, subst, arith}
use Rattle.hdfs_model.specs.declared.commands.Command.{Command}
use Rattle.hdfs_model.specs.declared.commands.Command.TheVariants as commands
use Rattle.hdfs_model.specs.declared.commands.Reply.{Reply}
use Rattle.hdfs_cluster.specs.declared.errors.ArgFault.TheVariants as args
use Rattle.hdfs_cluster.specs.declared.errors.Feature.TheVariants as features
use Rattle.hdfs_cluster.specs.declared.errors.HdfsError.{HdfsError}
use Rattle.hdfs_cluster.specs.declared.errors.HdfsError.TheVariants as errors
use Rattle.hdfs_cluster.specs.declared.errors.IoFault.TheVariants as io_faults
use Rattle.hdfs_cluster.specs.declared.errors.TransferFault.TheVariants as transfer
use Rattle.hdfs_cluster.specs.declared.picture.BlockEntry.{BlockEntry}
use Rattle.hdfs_cluster.specs.Lost.{LiesAt, FileLost, LastBlockAt, PipelineFailed, SomeListedFailed}
use Rattle.hdfs_model.specs.Causes.{CommandLost, Because, Cause}
use Rattle.hdfs_cluster.specs.Counts.{FaultCounts, NeverFall, NoneRose, Rose}
use Rattle.hdfs_cluster.specs.Failures.{ANamenode, TheLinks, failure_of}
use Rattle.hdfs_cluster.specs.Files.{State, Content, File}
use Rattle.hdfs_model.specs.Sessions.{Avoids}
use Rattle.hdfs_cluster.specs.Shown.{Shown, Later, SameReadPlaces, SameReads}
use Rattle.hdfs_model.specs.Steps.{World, Done, step, target_of}
use Rattle.hdfs_cluster.proofs.Failures.{each_rose, failed_on, one_rose, setups_until}
use Rattle.hdfs_cluster.proofs.Frames.{never_fall_refl, rose_since, told_after}
use Rattle.hdfs_file_writer.proofs.Storing.{contains_head, contains_later}
use Rattle.hdfs_commands.specs.Session.{LeavesFiles}
use Rattle.hdfs_commands.proofs.Avoiding.{read_closed}

-- where the table stays a block lies where it lay, and is one of the file's
lies_still : (t t' : ℕ → Option BlockEntry) → ((id : ℕ) → t' id ≡ t id) → (from : ℕ) (ids : List ℕ) (id at : ℕ) → LiesAt t from ids id at → LiesAt t' from ids id at
lies_still t t' same from [] id at h = absurd h
lies_still t t' same from (first ∷ ids) id at h =
    ⊎_elim (λ here. inl here) (λ rest. inr (rest.0, same first ∙ rest.1, lies_still t t' same (from + rest.0.length) ids id at rest.2)) h

lies_among : (t : ℕ → Option BlockEntry) (from : ℕ) (ids : List ℕ) (id at : ℕ) → LiesAt t from ids id at → Contains ids id
lies_among t from [] id at h = absurd h
lies_among t from (first ∷ ids) id at h =
    ⊎_elim (λ here. subst (Contains (first ∷ ids)) here.0 (contains_head first ids)) (λ rest. contains_later first id ids (lies_among t (from + rest.0.length) ids id at rest.2)) h

module _ (old u v : Shown) (later : Later u v) where
  node_on : (d : List ℕ) → Rose (old.counts.nodes d) (u.counts.nodes d) → Rose (old.counts.nodes d) (v.counts.nodes d)
  node_on d rose = rose_since (old.counts.nodes d) (old.counts.nodes d) (u.counts.nodes d) (v.counts.nodes d) (omega arith) rose (later.counts.nodes d)

  module _ (reads : SameReads u v) (state : State) (leaves : LeavesFiles u v state) where
    last_on : (path : List ℕ) → LastBlockAt u path → LastBlockAt v path
    last_on path h =
        let after = told_after (SameReadPlaces u) u.picture v.picture h.picture reads.places h.told in
        let records = leaves.records h.picture after.0 h.told after.1 in
        record {
          picture = after.0;
          told = after.1;
          file = h.file;
          named = records.names path ∙ h.named;
          front = h.front;
          id = h.id;
          last = h.last;
          entry = h.entry;
          is = records.table h.id ∙ h.is;
        }

    some_on : (path : List ℕ) → SomeListedFailed old.counts u path → SomeListedFailed old.counts v path
    unfolding last_on
    some_on path h = (last_on path h.0, one_rose old.counts old.counts u.counts v.counts h.0.entry.nodes (never_fall_refl old.counts) later.counts h.1)

    pipeline_on : (path : List ℕ) → PipelineFailed old.counts u path → PipelineFailed old.counts v path
    unfolding last_on
    pipeline_on path h =
        (last_on path h.0, h.1, each_rose old.counts old.counts u.counts v.counts h.0.entry.nodes (never_fall_refl old.counts) later.counts h.2)

    lost_on : (path : List ℕ) (content : Content) → state.files path ≡ Some (File content) → (from end byte : ℕ) → FileLost old.counts u path from end byte → FileLost old.counts v path from end byte
    lost_on path content closed from end byte h =
        let after = told_after (SameReadPlaces u) u.picture v.picture h.picture reads.places h.told in
        let records = leaves.records h.picture after.0 h.told after.1 in
        let lost = h.lost in
        let among : Contains h.file.blocks lost.id = lies_among h.picture.table 0 h.file.blocks lost.id lost.at lost.lies in
        record {
          picture = after.0;
          told = after.1;
          file = h.file;
          named = records.names path ∙ h.named;
          lost = record {
            id = lost.id;
            at = lost.at;
            lies = lies_still h.picture.table after.0.table records.table 0 h.file.blocks lost.id lost.at lost.lies;
            entry = lost.entry;
            is = records.table lost.id ∙ lost.is;
            behind = lost.behind;
            before = lost.before;
            inside = lost.inside;
            all_failed = λ k below whole.
                (let d = get_or lost.entry.nodes k [] in
                let same = leaves.closed h.picture after.0 h.told after.1 path content closed h.file h.named lost.id among d in
                node_on d (lost.all_failed k below (ap length (sym same) ∙ whole)));
          };
        }

    command_lost_on : (w : World) (command : Command) → Avoids w state command → (reply : Reply) (next : State) → step w state command ≡ Done reply next
        → (byte : ℕ) → CommandLost old.counts u (target_of w command) command byte → CommandLost old.counts v (target_of w command) command byte
    command_lost_on w (commands.Read text offset len) avoids reply next done byte h =
        let closed = read_closed w state next text offset len reply done avoids in
        lost_on (target_of w (commands.Read text offset len)) closed.0 closed.1 offset (offset + len) byte h
    command_lost_on w command avoids reply next done byte h = h

    -- what holds beside what has failed
    because_on : (w : World) (command : Command) → Avoids w state command → (e : HdfsError) → Because w state command old u e → Because w state command old v e
    because_on w command avoids (errors.DataTransferError (transfer.Read byte)) h = (h.0, command_lost_on w command avoids h.0.0 h.0.1 h.0.2 byte h.1)
    because_on w command avoids (errors.DataTransferError transfer.AllNodes) h = (h.0, pipeline_on (target_of w command) h.1)
    because_on w command avoids (errors.DataTransferError transfer.NoReplacement) h = (
      h.0,
      h.1,
      ⊎_elim (λ rose. inl (failed_on old u v TheLinks later rose)) (λ rose. inr (failed_on old u v ANamenode later rose)) h.2,
      some_on (target_of w command) h.3,
      h.4,
    )
    because_on w command avoids (errors.DataTransferError (transfer.RebuildLimit rebuilds)) h = (h.0, h.1, some_on (target_of w command) h.2)
    because_on w command avoids (errors.AlreadyExists message) h = ⊎_elim (λ is. inl is) (λ rose. inr (failed_on old u v ANamenode later rose)) h
    because_on w command avoids (errors.RPCError class message) h = ⊎_elim (λ is. inl is) (λ rose. inr (failed_on old u v ANamenode later rose)) h
    because_on w command avoids (errors.IOError io_faults.Link) h = (h.0, setups_until w.setup_limit old.counts u.counts v.counts h.1 later.counts)
    because_on w command avoids (errors.DataTransferError transfer.Setup) h =
        (h.0, setups_until w.setup_limit old.counts u.counts v.counts h.1 later.counts)
    because_on w command avoids (errors.InvalidArgument args.State) h = h
    because_on w command avoids (errors.UnsupportedFeature features.Encryption) h = h
    because_on w command avoids e h = h

    -- a cause
    pub cause_on : (w : World) (command : Command) → Avoids w state command → (e : HdfsError) → Cause w state command old u e → Cause w state command old v e
    cause_on w command avoids e h = (because_on w command avoids e h.0, failed_on old u v (failure_of e) later h.1)

-- where no count rose until a time none did until an earlier time
pub none_rose_earlier : (n : ℕ) (a b c : FaultCounts) → NeverFall b c → NoneRose n a c → NoneRose n a b
none_rose_earlier n a b c fall none = record {
  calls = λ i below rose. none.calls i below (rose_since (a.calls i) (a.calls i) (b.calls i) (c.calls i) (omega arith) rose (fall.calls i));
  links = λ rose. none.links (rose_since a.links a.links b.links c.links (omega arith) rose fall.links);
  nodes = λ d rose. none.nodes d (rose_since (a.nodes d) (a.nodes d) (b.nodes d) (c.nodes d) (omega arith) rose (fall.nodes d));
}
