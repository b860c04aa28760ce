-- The link was ended, and the lease given back: other writers stay, and so does the client.
use Rattle.std.proofs.Common.{None}
use Rattle.hdfs_file_writer.specs.Writers as files
use Rattle.hdfs_client.specs.Writing.{link_of}
use Rattle.hdfs_client.proofs.Beside.{of_named, own_left, services_changed, stands_apart, still_reads, still_whole, writes_whole}
use Rattle.hdfs_namenode.specs.Views.{Whole}
use Rattle.hdfs_client.proofs.Leased.{by_namenodes}
use Rattle.hdfs_opening.proofs.Written.{OwnLink, own_link-seen}
use Rattle.hdfs_cluster.specs.Requests.{LetsClose, LetsWrite}
use Rattle.hdfs_client.proofs.writing.FileWriter.abandon.Goals as goal

pub returns-clause-others : goal.returns-clause-others
returns-clause-others g c =
    let services = services_changed (λ before after gives. (gives.same.service, gives.same.name)) c.give_back.ensures.given in
    let own : OwnLink (g.C.Cluster.shown c.args.cluster.now) (link_of c.args.self) (g.C.Cluster.shown c.leave.new.cluster) None =
    own_link-seen Whole (g.C.Cluster.shown c.args.cluster.now) (g.C.Cluster.shown c.leave.new.cluster) (own_left g.C.Cluster.shown c.args.cluster.now c.leave.new.cluster c.args.self.file c.leave.ensures.shut (λ file is. (c.leave.ensures.left file is).0)) in
    record {
      whole = still_whole services own.namenodes;
      readers = still_reads services;
      wholes = writes_whole services own.namenodes;
      stand = λ other apart of. (stands_apart services own other apart of, apart);
      answered = of_named services (λ name file. files.IsAnswered g.C.Cluster.may_answer name file);
      write = of_named services (λ name file. LetsWrite g.C.Cluster.allows g.C.Cluster.may_answer name (files.path_of file) (files.file_id_of file));
      close = of_named services (λ name file. LetsClose g.C.Cluster.allows g.C.Cluster.may_answer name (files.path_of file) (files.file_id_of file));
    }

pub returns-clause-client : goal.returns-clause-client
returns-clause-client g c =
    c.give_back.ensures.client (g.C.Cluster.shown c.leave.new.cluster)
    (by_namenodes c.args.client.now (g.C.Cluster.shown c.args.cluster.now) (g.C.Cluster.shown c.leave.new.cluster) c.leave.ensures.later.namenodes c.requires.client)
