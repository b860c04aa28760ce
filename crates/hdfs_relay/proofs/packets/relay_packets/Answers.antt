use Rattle.std.proofs.Common.{rules, ◌≡◌, [], ◌∷◌, ◌++◌, subst, sym}
use Rattle.hdfs_pipeline.specs.Pushed.{IsLastBehind}
use Rattle.hdfs_relay.proofs.Behind.{last_behind}
use Rattle.hdfs_relay.proofs.packets.relay_packets.Goals as goal

-- the last packet stands behind packets of a byte
pub returns-clause-last : goal.returns-clause-last
returns-clause-last c =
    let bytes = c.packets.packets.items in
    let end = c.in_ok-last_packet.field-0 in
    let whole : c.push-2.new.self.items ≡ bytes ++ end ∷ [] = search rules in
    subst IsLastBehind (sym whole) (last_behind bytes end c.packets.invariant.each)
