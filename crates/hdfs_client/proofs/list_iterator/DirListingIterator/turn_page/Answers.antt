-- Where no page is wanted nothing is asked.
use Rattle.hdfs_client.proofs.Beside.{files_refl}
use Rattle.hdfs_client.proofs.Staying.{stays_refl}
use Rattle.hdfs_client.proofs.list_iterator.DirListingIterator.turn_page.Goals as goal

pub returns-clause-rest : goal.returns-clause-rest
returns-clause-rest g c = stays_refl c.args.client.now

pub returns-clause-files : goal.returns-clause-files
returns-clause-files g c = files_refl c.args.client.now (g.C.Cluster.shown c.args.cluster.now)
