-- The path is that of the log's last file.
use Rattle.std.proofs.Common.{ℕ, List, ◌∙◌, refl, subst, inl, inr}
use Rattle.hdfs_client.proofs.Beside.{files_refl}
use Rattle.hdfs_uses.specs.Logs.{AppendsRecord}
use Rattle.hdfs_uses.proofs.logs.append_record.Goals as goal

pub returns-in-Ok-clause-appends : goal.returns-in-Ok-clause-appends
returns-in-Ok-clause-appends g c =
    subst (λ (path : List ℕ). AppendsRecord g.C.Cluster.shown g.C.Cluster.may_answer g.C.Cluster.serves c.args.client.now path c.args.bytes.now c.args.cluster.now c.append_at.result c.append_at.new.client c.append_at.new.cluster)
    (c.as_str.ensures ∙ c.in-Ok.ensures) c.append_at.ensures.appends

pub returns-in-Err-clause-appends : goal.returns-in-Err-clause-appends
returns-in-Err-clause-appends g c = record { ok = tt; err = inl (inr (inl (refl, refl, refl))) }

pub returns-in-Err-clause-files : goal.returns-in-Err-clause-files
returns-in-Err-clause-files g c = files_refl c.args.client.now (g.C.Cluster.shown c.args.cluster.now)
