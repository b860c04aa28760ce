-- All keys were seen.
use Rattle.std.proofs.Common.{◌≡◌, Bor, Global, List, [], ◌++◌, Bool, String, map, sym, ◌∙◌, ap}
use Rattle.std.proofs.lemmas.List.{append-nil}
use Rattle.std.proofs.lemmas.Map.Iter.{rest_all, rest_so_far}
use Rattle.std.specs.List.{list_any}
use Rattle.std.specs.String.{string_bytes}
use Rattle.hdfs_cluster.specs.Names.{is_within}
use Rattle.hdfs_plain.proofs.Keyed.{any_map}
use Rattle.hdfs_plain.proofs.files.PlainFiles.has_open_within.Goals as goal

pub returns : goal.returns
returns c =
    let shows : Bor (String Global) → String Global = λ key. key.now in
    let test : String Global → Bool = λ key. is_within c.args.path.now (string_bytes key) in
    let none : c.loop-open.open-iterator ≡ [] = rest_all shows c.loop-open.open-iterator c.next.new.self c.next.result c.in-None.is c.next.ensures.steps in
    let all : c.into_iter-open-iterator.result ≡ map shows c.loop-open.yielded =
    rest_so_far shows c.loop-open.yielded c.into_iter-open-iterator.result c.loop-open.open-iterator c.loop-open.yielded_by
    ∙ ap (λ (l : List (String Global)). map shows c.loop-open.yielded ++ l) none ∙ append-nil (map shows c.loop-open.yielded) in
    sym c.loop-open.invariant ∙ sym (any_map test shows c.loop-open.yielded) ∙ ap (list_any test) (sym all ∙ c.into_iter-open-iterator.ensures.into_iter_gives.0)
