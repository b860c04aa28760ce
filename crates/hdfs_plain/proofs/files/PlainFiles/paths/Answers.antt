-- All keys were seen.
use Rattle.std.proofs.Common.{◌≡◌, Bor, Global, ℕ, List, [], ◌++◌, String, map, sym, ◌∙◌, ap}
use Rattle.std.proofs.lemmas.List.{append-nil}
use Rattle.std.proofs.lemmas.Simd.{map-map}
use Rattle.std.proofs.lemmas.Map.Iter.{rest_all, rest_so_far}
use Rattle.std.specs.List.{list_any}
use Rattle.std.specs.Str.{bytes_eq}
use Rattle.std.specs.String.{string_bytes}
use Rattle.hdfs_plain.specs.declared.files.PlainNode.{PlainNode}
use Rattle.hdfs_plain.proofs.Keyed.{key_among}
use Rattle.hdfs_plain.proofs.files.PlainFiles.paths.Goals as goal

pub returns : goal.returns
returns c = λ q.
    let shows : Bor (String Global) × Bor PlainNode → String Global × PlainNode = λ e. (e.0.now, e.1.now) in
    let name : String Global × PlainNode → List ℕ = λ e. string_bytes e.0 in
    let none : c.loop-path.path-iterator ≡ [] = rest_all shows c.loop-path.path-iterator c.next.new.self c.next.result c.in-None.is c.next.ensures.steps in
    let all : c.into_iter-path-iterator.result ≡ map shows c.loop-path.yielded =
    rest_so_far shows c.loop-path.yielded c.into_iter-path-iterator.result c.loop-path.path-iterator c.loop-path.yielded_by
    ∙ ap (λ (l : List (String Global × PlainNode)). map shows c.loop-path.yielded ++ l) none ∙ append-nil (map shows c.loop-path.yielded) in
    ap (list_any (bytes_eq q)) (c.loop-path.invariant ∙ sym (map-map name shows c.loop-path.yielded) ∙ ap (map name) (sym all ∙ c.into_iter-path-iterator.ensures.into_iter_gives.0))
    ∙ key_among c.args.self.now.nodes q
