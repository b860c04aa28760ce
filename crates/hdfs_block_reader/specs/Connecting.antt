-- How a read is opened, on kept connections and on a fresh one. No public clause cites this module.
use Rattle.std.specs.Prelude.{◌⊎◌, ℕ, None}
use Rattle.hdfs_wire.specs.declared.read_packet.ReadPacket.{ReadPacket}
use Rattle.hdfs_cluster.specs.declared.asks.LinkFault.{LinkFault}
use Rattle.hdfs_cluster.specs.declared.asks.LinkFault.TheVariants as faults
use Rattle.hdfs_cluster.specs.declared.messages.ReadAsk.{ReadAsk}
use Rattle.hdfs_cluster.specs.Shown.{Shown, Given, NotGiven, NotOpened, Opened}

-- a packet of the link was asked for, and came or didn't
abbrev pub WasAsked : Shown → ℕ → Shown → Type 0
WasAsked old link new = ((packet : ReadPacket) × Given old link packet new) ⊎ ((fault : LinkFault) × NotGiven old link fault new)

-- A read was opened, perhaps behind some that weren't: those leave all links and the picture as they were.
pub record OpensBehind (old : Shown) (ask : ReadAsk) (link : ℕ) (new : Shown) : Type 0 where
  pub mid : Shown
  pub behind : NotOpened old None ask faults.NoMemory mid
  pub opened : Opened mid ask link new
