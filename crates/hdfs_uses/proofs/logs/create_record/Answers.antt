-- The path is that of the log's last file.
use Rattle.std.proofs.Common.{ℕ, List, ◌∙◌, refl, subst, inl, inr}
use Rattle.hdfs_client.proofs.Beside.{files_refl}
use Rattle.hdfs_uses.specs.Logs.{CreatesRecord}
use Rattle.hdfs_uses.proofs.logs.create_record.Goals as goal

pub returns-in-Ok-clause-creates : goal.returns-in-Ok-clause-creates
returns-in-Ok-clause-creates g c =
    subst (λ (path : List ℕ). CreatesRecord g.C.Cluster.shown g.C.Cluster.may_answer g.C.Cluster.serves c.args.client.now path c.args.bytes.now c.args.cluster.now c.create_at.result c.create_at.new.client c.create_at.new.cluster)
    (c.as_str.ensures ∙ c.in-Ok.ensures) c.create_at.ensures.creates

pub returns-in-Err-clause-creates : goal.returns-in-Err-clause-creates
returns-in-Err-clause-creates g c = record { ok = tt; err = inl (inr (inl (refl, refl, refl))) }

pub returns-in-Err-clause-files : goal.returns-in-Err-clause-files
returns-in-Err-clause-files g c = files_refl c.args.client.now (g.C.Cluster.shown c.args.cluster.now)
