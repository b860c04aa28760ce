-- What a program may ask.
use Rattle.hdfs_cluster.specs.Requests.{Request}

-- the cluster lets everything be asked
abbrev pub AllowsAll : (Request → Type 0) → Type 0
AllowsAll allows = (request : Request) → allows request
