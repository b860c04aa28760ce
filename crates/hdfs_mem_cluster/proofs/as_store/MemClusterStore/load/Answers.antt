-- A directory or a file is taken exactly where the names accept it.
use Rattle.std.proofs.Common.{OnOk, sym, ◌∙◌, ap, subst}
use Rattle.std.proofs.lemmas.Result.{MatchResult-weaker}
use Rattle.hdfs_cluster.specs.declared.store.Line.{Line}
use Rattle.hdfs_cluster.specs.Loading.{IsDecided, takes}
use Rattle.hdfs_mem_cluster.specs.Cutting.{CutsLine}
use Rattle.hdfs_mem_cluster.specs.MemShown.{nodes_of, picture_of, shown_of}
use Rattle.hdfs_mem_cluster.proofs.Taking.{free_alike, takes_accepts}
use Rattle.hdfs_mem_cluster.proofs.as_store.MemClusterStore.load.Goals as goal

pub returns-in-Dir-clause-exact : goal.returns-in-Dir-clause-exact
returns-in-Dir-clause-exact c = λ state agrees decided.
    let same = ap (takes (shown_of c.args.self.now).loaded state.files) c.in-Dir.is ∙ free_alike (picture_of c.args.self.now) state.files agrees c.in-Dir.path in
    MatchResult-weaker c.load_dir.result c.load_dir.ensures.exact (λ done taken. same ∙ taken) (λ fault refused is. same ∙ refused is)

pub returns-in-File-clause-exact : goal.returns-in-File-clause-exact
returns-in-File-clause-exact c = λ state agrees decided.
    let same = ap (takes (shown_of c.args.self.now).loaded state.files) c.in-File.is ∙ takes_accepts (shown_of c.args.self.now).loaded (picture_of c.args.self.now) state.files agrees c.in-File.path c.in-File.attributes c.in-File.bytes in
    MatchResult-weaker c.load_file.result c.load_file.ensures.exact (λ done taken. same ∙ taken) (λ fault refused is. same ∙ refused is)

pub returns-in-File-clause-cut : goal.returns-in-File-clause-cut
returns-in-File-clause-cut c = subst (λ (line : Line). OnOk c.load_file.result (CutsLine (nodes_of c.load_file.new.self) (picture_of c.load_file.new.self) line)) (sym c.in-File.is) c.load_file.ensures.cut

pub returns-in-Short-clause-exact : goal.returns-in-Short-clause-exact
returns-in-Short-clause-exact c = λ state agrees decided.
    let shown = shown_of c.args.self.now in
    let same = ap (takes shown.loaded state.files) c.in-Short.is in
    let lie = subst (IsDecided shown state.files) c.in-Short.is decided in
    MatchResult-weaker c.load_short.result (c.load_short.ensures.exact state agrees lie) (λ done taken. same ∙ taken) (λ fault refused is. same ∙ refused is)
