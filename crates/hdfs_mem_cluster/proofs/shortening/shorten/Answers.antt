-- Where there is no such block there is no such replica.
use Rattle.hdfs_mem_cluster.proofs.shortening.shorten.Goals as goal

pub returns-in_default-clause-refused : goal.returns-in_default-clause-refused
returns-in_default-clause-refused c = λ is id uuid short. c.in_default.ensures id short.block
