-- The links so far have as many slashes or more.
use Rattle.std.proofs.Common.{◌≡◌, ◌+◌, drop}
use Rattle.hdfs_client.specs.Mounting.{place_in}
use Rattle.hdfs_client.proofs.mounting.place_in.Given as goal

abbrev pub invariant-links : goal.invariant-links
invariant-links l = place_in l.slashes l.links ≡ l.place + place_in l.slashes (drop l.place l.links)
