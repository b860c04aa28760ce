use Rattle.std.proofs.Common.{◌++◌, ◌∷◌, [], ℕ, List, ◌∙◌, ap}
use Rattle.std.specs.String.{string_bytes}
use Rattle.hdfs_mem_namenode.proofs.Ranging.{goes_first}
use Rattle.hdfs_mem_namenode.proofs.namespace.Namespace.entries_behind.Goals as goal

pub returns : goal.returns
returns c =
    goes_first c.args.self.now.names c.args.front.now c.args.after.now c.entries_from.ensures.ordered c.entries_from.result (string_bytes c.push_str.new.self)
    (c.in_ok-push_str.ensures.bytes ∙ ap (λ (l : List ℕ). l ++ 0 ∷ []) c.in_ok-start.ensures) c.entries_from.ensures.entries
