-- Both paths lead through one mount, and one ask was made.
use Rattle.std.proofs.Common.{true, refl}
use Rattle.hdfs_cluster.specs.declared.asks.Ask.TheVariants as asks
use Rattle.hdfs_cluster.specs.declared.asks.Answer.TheVariants as answers
use Rattle.hdfs_namenode.specs.Asked.{as_answer}
use Rattle.hdfs_client.proofs.Asking.{asks_made, client_later, is_service}
use Rattle.hdfs_client.proofs.Renaming.{for_memory, passed_on, renames_by, renames_nothing, went}
use Rattle.hdfs_client.proofs.Beside.{files_asked}
use Rattle.hdfs_client.proofs.client.Client.rename.Goals as goal

pub returns-in_err-from-clause-asked : goal.returns-in_err-from-clause-asked
returns-in_err-from-clause-asked g c =
    renames_nothing g.C.Cluster.serves c.args.overwrite c.args.self.now c.args.src.now c.args.dst.now c.args.cluster.now c.from_residual.result
    (for_memory c.from_residual.result c.from_residual.ensures.1)

pub returns-in_err-to-clause-asked : goal.returns-in_err-to-clause-asked
returns-in_err-to-clause-asked g c =
    renames_nothing g.C.Cluster.serves c.args.overwrite c.args.self.now c.args.src.now c.args.dst.now c.args.cluster.now c.from_residual-in_err-to.result
    (for_memory c.from_residual-in_err-to.result c.from_residual-in_err-to.ensures.1)

pub rename-requires-clause-service : goal.rename-requires-clause-service
rename-requires-clause-service g c = is_service c.args.self.now _ _ _ c.requires.client c.in_ok-from.ensures.1 c.index_mut-namenode.ensures.value

pub returns-in_err-rename-clause-asked : goal.returns-in_err-rename-clause-asked
returns-in_err-rename-clause-asked g c =
    renames_by g.C.Cluster.serves c.args.overwrite c.args.self.now c.args.src.now c.args.dst.now c.args.cluster.now _ _ _ c.in_ok-from.from c.in_ok-to.to
    c.rename.result c.in_ok-from.ensures.0 c.in_ok-to.ensures.0 c.if-from-to.false
    (asks_made g.C.Cluster.serves true _ c.args.self.now _ c.args.src.now c.in_ok-from.from _ _ _ c.args.cluster.now _ _ c.in_ok-from.ensures.0
    (cc (c.as_str.ensures, c.as_str-2.ensures)) c.in_ok-from.ensures.1 c.index_mut-namenode.ensures.value refl (refl, refl, refl) c.rename.ensures.asked
    c.rename.ensures.keeps)
    (passed_on c.rename.result c.from_residual-in_err-rename.result _ c.in_err-rename.was c.from_residual-in_err-rename.ensures.1)

pub returns-in_err-rename-clause-client : goal.returns-in_err-rename-clause-client
returns-in_err-rename-clause-client g c =
    client_later g.C.Cluster.shown g.C.Cluster.serves g.met.C.Cluster.serves_rows true (λ at. asks.Rename at c.in_ok-to.to.path c.args.overwrite)
    c.args.self.now _ c.args.src.now c.args.cluster.now _ (as_answer (λ _. answers.Rename) c.rename.result) c.requires.client
    (asks_made g.C.Cluster.serves true _ c.args.self.now _ c.args.src.now c.in_ok-from.from _ _ _ c.args.cluster.now _ _ c.in_ok-from.ensures.0
    (cc (c.as_str.ensures, c.as_str-2.ensures)) c.in_ok-from.ensures.1 c.index_mut-namenode.ensures.value refl (refl, refl, refl) c.rename.ensures.asked
    c.rename.ensures.keeps)

pub returns-in_err-rename-clause-files : goal.returns-in_err-rename-clause-files
returns-in_err-rename-clause-files g c =
    files_asked g.C.Cluster.shown g.C.Cluster.serves g.met.C.Cluster.serves_rows g.C.Cluster.allows g.C.Cluster.may_answer true (λ at. asks.Rename at c.in_ok-to.to.path c.args.overwrite)
    c.args.self.now _ c.args.src.now c.args.cluster.now _ (as_answer (λ _. answers.Rename) c.rename.result)
    (asks_made g.C.Cluster.serves true _ c.args.self.now _ c.args.src.now c.in_ok-from.from _ _ _ c.args.cluster.now _ _ c.in_ok-from.ensures.0
    (cc (c.as_str.ensures, c.as_str-2.ensures)) c.in_ok-from.ensures.1 c.index_mut-namenode.ensures.value refl (refl, refl, refl) c.rename.ensures.asked
    c.rename.ensures.keeps)

pub returns-clause-asked : goal.returns-clause-asked
returns-clause-asked g c =
    renames_by g.C.Cluster.serves c.args.overwrite c.args.self.now c.args.src.now c.args.dst.now c.args.cluster.now _ _ _ c.in_ok-from.from c.in_ok-to.to
    c.rename.result c.in_ok-from.ensures.0 c.in_ok-to.ensures.0 c.if-from-to.false
    (asks_made g.C.Cluster.serves true _ c.args.self.now _ c.args.src.now c.in_ok-from.from _ _ _ c.args.cluster.now _ _ c.in_ok-from.ensures.0
    (cc (c.as_str.ensures, c.as_str-2.ensures)) c.in_ok-from.ensures.1 c.index_mut-namenode.ensures.value refl (refl, refl, refl) c.rename.ensures.asked
    c.rename.ensures.keeps)
    (went c.rename.result c.in_ok-rename.field-0 c.in_ok-rename.was)

pub returns-clause-client : goal.returns-clause-client
returns-clause-client g c =
    client_later g.C.Cluster.shown g.C.Cluster.serves g.met.C.Cluster.serves_rows true (λ at. asks.Rename at c.in_ok-to.to.path c.args.overwrite)
    c.args.self.now _ c.args.src.now c.args.cluster.now _ (as_answer (λ _. answers.Rename) c.rename.result) c.requires.client
    (asks_made g.C.Cluster.serves true _ c.args.self.now _ c.args.src.now c.in_ok-from.from _ _ _ c.args.cluster.now _ _ c.in_ok-from.ensures.0
    (cc (c.as_str.ensures, c.as_str-2.ensures)) c.in_ok-from.ensures.1 c.index_mut-namenode.ensures.value refl (refl, refl, refl) c.rename.ensures.asked
    c.rename.ensures.keeps)

pub returns-clause-files : goal.returns-clause-files
returns-clause-files g c =
    files_asked g.C.Cluster.shown g.C.Cluster.serves g.met.C.Cluster.serves_rows g.C.Cluster.allows g.C.Cluster.may_answer true (λ at. asks.Rename at c.in_ok-to.to.path c.args.overwrite)
    c.args.self.now _ c.args.src.now c.args.cluster.now _ (as_answer (λ _. answers.Rename) c.rename.result)
    (asks_made g.C.Cluster.serves true _ c.args.self.now _ c.args.src.now c.in_ok-from.from _ _ _ c.args.cluster.now _ _ c.in_ok-from.ensures.0
    (cc (c.as_str.ensures, c.as_str-2.ensures)) c.in_ok-from.ensures.1 c.index_mut-namenode.ensures.value refl (refl, refl, refl) c.rename.ensures.asked
    c.rename.ensures.keeps)
