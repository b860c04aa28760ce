-- A directory is made, and a file copied.
use Rattle.std.proofs.Common.{◌≡◌, Bool, true, List, ℕ, Ok, refl, sym, subst}
use Rattle.std.specs.Prelude.{IfOk}
use Rattle.hdfs_cluster.specs.declared.asks.Answer.TheVariants as answers
use Rattle.hdfs_cluster.specs.declared.asks.Ask.TheVariants as asks
use Rattle.hdfs_client.specs.Calls.{Gives, done}
use Rattle.hdfs_client.proofs.Beside.{files_refl}
use Rattle.hdfs_uses.specs.Copying.{Copies, CopiesFile, IsTarget}
use Rattle.hdfs_uses.proofs.Copied.{is_copied, makes_by}
use Rattle.hdfs_uses.proofs.copying.copy_one.Goals as goal

pub returns-in_err-target-clause-files : goal.returns-in_err-target-clause-files
returns-in_err-target-clause-files g c = files_refl c.args.client.now (g.C.Cluster.shown c.args.cluster.now)

pub mkdirs-requires-clause-allowed : goal.mkdirs-requires-clause-allowed
mkdirs-requires-clause-allowed g c = λ to leads. c.requires.all _

pub returns-then-status-clause-copies : goal.returns-then-status-clause-copies
returns-then-status-clause-copies g c =
    let target = c.in_ok-target.target in
    record {
      client = c.args.client.now;
      old = c.args.cluster.now;
      client' = c.mkdirs.new.self;
      new = c.mkdirs.new.cluster;
      by = refl;
      target = target;
      is = subst (λ (path : List ℕ). IsTarget c.args.from.now c.args.to.now path target) c.as_str-path.ensures c.in_ok-target.ensures.ok;
      copies = subst (λ (dir : Bool). Copies g.C.Cluster.shown g.C.Cluster.may_answer g.C.Cluster.serves dir c.args.client.now c.args.status.now.path target c.args.cluster.now 0 c.mkdirs.new.self c.mkdirs.new.cluster) (sym c.if-status.true)
          (refl, makes_by g.C.Cluster.shown g.C.Cluster.may_answer g.C.Cluster.serves c.args.client.now _ target c.args.cluster.now _ (subst (λ (path : List ℕ). Gives g.C.Cluster.serves true (λ at. asks.Mkdirs at 493 true) answers.Mkdirs c.args.client.now path c.args.cluster.now c.mkdirs.new.self c.mkdirs.new.cluster (λ made. Ok tt ≡ done made)) c.as_str.ensures (c.in_ok-mkdirs.ensures.asked refl)));
    }

pub returns-then-status-clause-mounts : goal.returns-then-status-clause-mounts
returns-then-status-clause-mounts g c = (c.in_ok-mkdirs.ensures.asked refl).asks.others.mounts

pub returns-clause-copies : goal.returns-clause-copies
returns-clause-copies g c =
    is_copied g.C.Cluster.shown g.C.Cluster.may_answer g.C.Cluster.serves c.args.client.now c.copy_file.new.client c.args.from.now c.args.to.now c.in_ok-target.target c.args.cluster.now _ c.args.status.now c.copy_file.result c.if-status.false
    (subst (λ (path : List ℕ). IsTarget c.args.from.now c.args.to.now path c.in_ok-target.target) c.as_str-path.ensures c.in_ok-target.ensures.ok)
    (subst (λ (path : List ℕ). IfOk c.copy_file.result (λ count. CopiesFile g.C.Cluster.shown g.C.Cluster.may_answer g.C.Cluster.serves c.args.client.now path c.in_ok-target.target c.args.cluster.now count c.copy_file.new.cluster)) c.as_str-path.ensures
    (subst (λ (target : List ℕ). IfOk c.copy_file.result (λ count. CopiesFile g.C.Cluster.shown g.C.Cluster.may_answer g.C.Cluster.serves c.args.client.now c.as_str-path.result.now target c.args.cluster.now count c.copy_file.new.cluster)) c.as_str-2.ensures
    c.copy_file.ensures.copies))
