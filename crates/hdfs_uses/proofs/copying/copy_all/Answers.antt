-- One after another.
use Rattle.std.proofs.Common.{List, take, refl, ◌∙◌, subst}
use Rattle.std.proofs.lemmas.List.{take_all}
use Rattle.hdfs_client.proofs.Beside.{files_trans}
use Rattle.hdfs_client.specs.Clients.{mounts_of}
use Rattle.hdfs_uses.specs.Copying.{AreCopied, IsCopied, none}
use Rattle.hdfs_uses.proofs.Cases.{front_is}
use Rattle.hdfs_uses.proofs.Copied.{copied_more, copied_same, makes_by}
use Rattle.hdfs_uses.proofs.copying.copy_all.Goals as goal

pub mkdirs-requires-clause-allowed : goal.mkdirs-requires-clause-allowed
mkdirs-requires-clause-allowed g c = λ to leads. c.requires.all _

pub statuses-init : goal.statuses-init
statuses-init g c = record {
  client = c.in_ok-mkdirs.ensures.client;
  mounts = (c.in_ok-mkdirs.ensures.asked refl).asks.others.mounts;
  files = c.in_ok-mkdirs.ensures.files;
  copies = (0, none, refl);
}

pub statuses-preserved : goal.statuses-preserved
statuses-preserved g c =
    record {
      client = c.in_ok-copy_one.ensures.client;
      mounts = c.in_ok-copy_one.ensures.mounts ∙ c.statuses.invariant.mounts;
      files = files_trans c.statuses.invariant.files c.in_ok-copy_one.ensures.files;
      copies = copied_more _ (take c.statuses.status-index c.args.found.now) _ c.status-item.result c.statuses.copied c.in_ok-copy_one.field-0 c.saturating_add-copied.result
          (front_is c.args.found.now c.statuses.status-index c.status-item.result c.statuses-test.true c.status-item.is) c.statuses.invariant.copies
          (copied_same g.C.Cluster.shown g.C.Cluster.may_answer g.C.Cluster.serves c.args.client.now c.statuses.client c.args.from.now c.args.to.now c.status-item.result c.in_ok-copy_one.field-0 c.statuses.invariant.mounts c.in_ok-copy_one.ensures.copies)
          c.saturating_add-copied.ensures;
    }

pub returns-in_err-copy_one-clause-files : goal.returns-in_err-copy_one-clause-files
returns-in_err-copy_one-clause-files g c = files_trans c.statuses.invariant.files c.in_err-copy_one.ensures.files

pub returns-clause-copies : goal.returns-clause-copies
returns-clause-copies g c =
    let so = c.statuses.invariant.copies in
    record {
      client = c.args.client.now;
      old = c.args.cluster.now;
      client' = c.mkdirs.new.self;
      new = c.mkdirs.new.cluster;
      by = refl;
      makes = makes_by g.C.Cluster.shown g.C.Cluster.may_answer g.C.Cluster.serves c.args.client.now _ c.args.to.now c.args.cluster.now _ (c.in_ok-mkdirs.ensures.asked refl);
      count = so.0;
      copies = subst (λ (found : List _). AreCopied (IsCopied g.C.Cluster.shown g.C.Cluster.may_answer g.C.Cluster.serves (mounts_of c.args.client.now) c.args.from.now c.args.to.now) found so.0)
          (take_all c.statuses.status-index c.args.found.now c.statuses-test.false) so.1;
      counts = so.2;
    }
