-- A packet with the checksums of its bytes is given.
use Rattle.std.proofs.Common.{◌≡◌, inl, inr, ℕ, List, Option, Some, refl, sym, subst, lit<, rules}
use Rattle.hdfs_wire.specs.declared.checksums.ChecksumInfo.{ChecksumInfo}
use Rattle.hdfs_wire.specs.Checksums.{ChunksHold, IsChecked}
use Rattle.hdfs_wire.specs.Outgoing.{checksums}
use Rattle.hdfs_wire.proofs.WrittenPacket.{sums_hold}
use Rattle.hdfs_fakes.proofs.fake_cluster.FakeClusterCluster.packet.Goals as goal

pub returns-in_ok-packet-in-Gives-clause-ok : goal.returns-in_ok-packet-in-Gives-clause-ok
returns-in_ok-packet-in-Gives-clause-ok c = record {
  reading = search rules;
  still_open = search rules;
  length = search rules;
  checked = λ read is.
      (let made : c.in_ok-packet-in-Gives.field-0.checksum ≡ checksums 512 c.in_ok-packet-in-Gives.field-0.payload = search rules in
      let known : read.checksums ≡ Some (record { kind = 2; bytes_per_checksum = 512 }) = search rules in
      let holds : ChunksHold 2 512 c.in_ok-packet-in-Gives.field-0.checksum c.in_ok-packet-in-Gives.field-0.payload =
      subst (λ (sums : List ℕ). ChunksHold 2 512 sums c.in_ok-packet-in-Gives.field-0.payload) (sym made) (sums_hold 512 c.in_ok-packet-in-Gives.field-0.payload (lit< tt)) in
      inl (subst (λ (info : Option ChecksumInfo). IsChecked info c.in_ok-packet-in-Gives.field-0) (sym known) (inr (inr refl, holds))));
  gives = λ read is. search rules;
}
