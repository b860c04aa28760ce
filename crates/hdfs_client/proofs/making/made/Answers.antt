-- The services are as planned, so it asks any cluster of so many namenodes.
use Rattle.hdfs_client.proofs.Made.{asks_any}
use Rattle.hdfs_client.proofs.making.made.Goals as goal

pub returns-clause-any : goal.returns-clause-any
returns-clause-any g c =
    asks_any c.fill_bytes.new.dst c.args.plans.items _ c.in_ok-services.ensures.services c.in_ok-services.ensures.addresses c.requires.some
