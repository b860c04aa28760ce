-- The walk of a directory is that of the paths at which something stands.
use Rattle.std.proofs.Common.{◌≡◌, cond, true, sym, ◌∙◌, ap, List, ℕ, [], ◌∷◌}
use Rattle.hdfs_cluster.specs.Loading.{is_directory}
use Rattle.hdfs_model.specs.Walks.{in_order, is_listed, walk}
use Rattle.std.specs.List.{filter}
use Rattle.hdfs_plain.proofs.Named.{walks_paths}
use Rattle.hdfs_plain.proofs.files.PlainFiles.listed.Goals as goal

pub returns-then-is_directory : goal.returns-then-is_directory
returns-then-is_directory c = λ state holds.
    let plain = c.args.self.now in
    let path = c.args.path.now in
    let recursive = c.args.recursive in
    let paths = c.in_ok-paths.paths.items in
    c.in_ok-walk.ensures ∙ ap (λ (l : List (List ℕ)). in_order (filter (is_listed recursive path) l)) c.as_slice.ensures.value
    ∙ sym (walks_paths plain state path holds paths c.in_ok-paths.ensures recursive)
    ∙ ap (λ b. cond b (walk state.files state.paths path recursive) (path ∷ [])) (c.if-is_directory.ensures ∙ ap is_directory (sym (holds.files path)))
