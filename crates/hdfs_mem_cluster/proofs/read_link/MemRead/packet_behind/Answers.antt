-- The next packet, which is left out, has as many bytes as the place moves on.
use Rattle.std.proofs.Common.{ℕ, ◌+◌}
use Rattle.std.proofs.lemmas.Result.{IfOk-weaker}
use Rattle.hdfs_cluster.specs.Reading.{placed_at}
use Rattle.hdfs_mem_cluster.specs.Coming.{LeavesOneOut}
use Rattle.hdfs_mem_cluster.specs.Slices.{IsNext}
use Rattle.hdfs_mem_cluster.proofs.Slices.{leaves_out}
use Rattle.hdfs_mem_cluster.proofs.read_link.MemRead.packet_behind.Goals as goal

pub returns : goal.returns
returns c =
    let v = c.args.self.now in
    let count = c.packet_length-count.result in
    let h = c.packet_length-count.ensures in
    IfOk-weaker c.packet_at.result (IsNext v.chunk (placed_at v.place (v.place.place + count))) (λ packet. (place : ℕ) × IsNext v.chunk (placed_at v.place place) packet × LeavesOneOut v.place packet)
    (λ packet next. (v.place.place + count, next, leaves_out v.place count packet h.within h.goes_on h.stops next.slice next.last)) c.packet_at.ensures
