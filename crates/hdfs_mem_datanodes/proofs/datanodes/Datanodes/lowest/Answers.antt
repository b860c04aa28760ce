-- Each uuid is that of the next datanode.
use Rattle.std.proofs.Common.{◌≡◌, ℕ, min, List, [], ◌∷◌, ◌++◌, sym, ◌∙◌, ap, arith}
use Rattle.hdfs_mem_datanodes.specs.Uuids.{lowest}
use Rattle.hdfs_mem_datanodes.proofs.Lowest.{lowest_more}
use Rattle.hdfs_mem_datanodes.proofs.datanodes.Datanodes.lowest.Goals as goal

pub loop-number-preserved : goal.loop-number-preserved
loop-number-preserved c =
    let number = c.loop-number.number in
    let uuid = c.from_string.result in
    c.in_ok-push.ensures.ok
    ∙ ap (λ (ns : List (List ℕ)). ns ++ uuid ∷ []) c.loop-number.invariant
    ∙ ap (λ (u : List ℕ). lowest number ++ u ∷ []) (c.from_string.ensures ∙ c.in_ok-uuid.ensures)
    ∙ sym (lowest_more number)

pub returns : goal.returns
returns c =
    let all : c.loop-number.number ≡ min c.args.most c.args.self.now.count = omega arith in
    c.loop-number.invariant ∙ ap lowest all
