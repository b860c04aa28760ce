-- All is listed, and then copied.
use Rattle.std.proofs.Common.{List, subst}
use Rattle.hdfs_names.specs.declared.mounts.MountTable.{MountTable}
use Rattle.hdfs_client.proofs.Beside.{files_trans}
use Rattle.hdfs_client.specs.Clients.{mounts_of}
use Rattle.hdfs_client.specs.declared.status.FileStatus.{FileStatus}
use Rattle.hdfs_uses.specs.Copying.{CopiesAll}
use Rattle.hdfs_uses.proofs.copying.copy_tree.Goals as goal

pub list_status-requires-clause-allowed : goal.list_status-requires-clause-allowed
list_status-requires-clause-allowed g c = λ dir below to start leads. c.requires.all _

pub returns-in_err-copied-clause-files : goal.returns-in_err-copied-clause-files
returns-in_err-copied-clause-files g c = files_trans c.in_ok-found.ensures.files c.copy_all-copied.ensures.files

pub returns-clause-copies : goal.returns-clause-copies
returns-clause-copies g c = record {
  found = c.in_ok-found.found.items;
  lists = c.in_ok-found.ensures.listed;
  all = subst (λ (found : List FileStatus). CopiesAll g.C.Cluster.shown g.C.Cluster.may_answer g.C.Cluster.serves (mounts_of c.args.client.now) found c.args.from.now c.args.to.now c.in_ok-copied.field-0) c.as_slice.ensures.value
      (subst (λ (m : MountTable). CopiesAll g.C.Cluster.shown g.C.Cluster.may_answer g.C.Cluster.serves m c.as_slice.result.now c.args.from.now c.args.to.now c.in_ok-copied.field-0) c.in_ok-found.ensures.rest.mounts c.in_ok-copied.ensures.copies);
}

pub returns-clause-files : goal.returns-clause-files
returns-clause-files g c = files_trans c.in_ok-found.ensures.files c.copy_all-copied.ensures.files
