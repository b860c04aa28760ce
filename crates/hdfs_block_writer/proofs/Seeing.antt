-- What a pipeline and a writer over a cluster are they are in each view of it, and the other way round: nothing of that speaks of the picture.
use Rattle.std.proofs.Common.{ℕ, List}
use Rattle.hdfs_wire.specs.Outgoing.{Outgoing}
use Rattle.hdfs_cluster.specs.Shown.{Shown}
use Rattle.hdfs_namenode.specs.Views.{View, see}
use Rattle.hdfs_rebuild.specs.declared.block_plan.BlockPipeline.{BlockPipeline}
use Rattle.hdfs_rebuild.specs.declared.block_plan.RebuildSettings.{RebuildSettings}
use Rattle.hdfs_block_writer.specs.BlockWriters.{GoesOver, Holds}
use Rattle.hdfs_block_writer.specs.OpenPipelines.{IsStanding}
use Rattle.hdfs_block_writer.specs.Pushing.{CanPush}
use Rattle.hdfs_block_writer.specs.declared.block_writer.BlockWriter.{BlockWriter}

pub standing_seen : (view : View) {settings : RebuildSettings} {s : Shown} {pipe : BlockPipeline} {more : List Outgoing} → IsStanding settings s pipe more
    → IsStanding settings (see view s) pipe more
standing_seen view {settings} {s} {pipe} {more} h = record {
  drives = h.drives;
  is_core = h.is_core;
  block = h.block;
  set_up = h.set_up;
  many = h.many;
  rebuilds = h.rebuilds;
  window = h.window;
  first = h.first;
  follow = h.follow;
  ends = h.ends;
}

pub standing_shown : (view : View) {settings : RebuildSettings} {s : Shown} {pipe : BlockPipeline} {more : List Outgoing}
    → IsStanding settings (see view s) pipe more → IsStanding settings s pipe more
standing_shown view {settings} {s} {pipe} {more} h = record {
  drives = h.drives;
  is_core = h.is_core;
  block = h.block;
  set_up = h.set_up;
  many = h.many;
  rebuilds = h.rebuilds;
  window = h.window;
  first = h.first;
  follow = h.follow;
  ends = h.ends;
}

pub can_push_seen : (view : View) {settings : RebuildSettings} {s : Shown} {pipe : BlockPipeline} {length : ℕ} {packet : Outgoing}
    → CanPush settings s pipe length packet → CanPush settings (see view s) pipe length packet
can_push_seen view {settings} {s} {pipe} {length} {packet} h =
    record { standing = standing_seen view h.standing; going = h.going; more = h.more; next = h.next; few = h.few }

pub can_push_shown : (view : View) {settings : RebuildSettings} {s : Shown} {pipe : BlockPipeline} {length : ℕ} {packet : Outgoing}
    → CanPush settings (see view s) pipe length packet → CanPush settings s pipe length packet
can_push_shown view {settings} {s} {pipe} {length} {packet} h =
    record { standing = standing_shown view h.standing; going = h.going; more = h.more; next = h.next; few = h.few }

pub over_seen : (view : View) {s : Shown} {pipe : BlockPipeline} {writer : BlockWriter} → GoesOver s pipe writer → GoesOver (see view s) pipe writer
over_seen view {s} {pipe} {writer} h = record {
  standing = standing_seen view h.standing;
  going = h.going;
  more = h.more;
  next = h.next;
  first = h.first;
  seqno = h.seqno;
  starts = h.starts;
  counts = h.counts;
  waits = h.waits;
}

pub over_shown : (view : View) {s : Shown} {pipe : BlockPipeline} {writer : BlockWriter} → GoesOver (see view s) pipe writer → GoesOver s pipe writer
over_shown view {s} {pipe} {writer} h = record {
  standing = standing_shown view h.standing;
  going = h.going;
  more = h.more;
  next = h.next;
  first = h.first;
  seqno = h.seqno;
  starts = h.starts;
  counts = h.counts;
  waits = h.waits;
}

pub holds_shown : (view : View) (s : Shown) (writer : BlockWriter) → Holds (see view s) writer → Holds s writer
holds_shown view s writer holds pipe is = (let h = holds pipe is in (h.0, over_shown view h.1))
