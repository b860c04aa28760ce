-- The replica is cut with its line, or nothing is seen to change.
use Rattle.std.proofs.Common.{◌≡◌, ℕ, true, false, List, [], ◌∷◌, ◌++◌, map, refl, ◌∙◌, ap, subst, rules}
use Rattle.hdfs_mem_faults.proofs.Following.{other_follows}
use Rattle.hdfs_cluster.specs.Replicas.{takes_short}
use Rattle.hdfs_mem_namenode.specs.Spaces.{space_of}
use Rattle.hdfs_mem_cluster.specs.declared.loaded.Kept.{Kept}
use Rattle.hdfs_mem_cluster.specs.declared.loaded.Kept.TheVariants as keeps
use Rattle.hdfs_mem_cluster.specs.Lines.{line_of}
use Rattle.hdfs_mem_cluster.specs.MemShown.{picture_of}
use Rattle.hdfs_mem_cluster.specs.Shortening.{IsShort}
use Rattle.hdfs_mem_cluster.proofs.Failing.{unfailed_push}
use Rattle.hdfs_mem_cluster.proofs.Deciding.{takes_from, takes_not}
use Rattle.hdfs_mem_cluster.proofs.NothingLoaded.{follows_push, on_err}
use Rattle.hdfs_mem_cluster.proofs.ShortLines.{loads_short, not_short}
use Rattle.hdfs_mem_cluster.proofs.mem_cluster.MemCluster.take_short.Goals as goal

pub returns-in_err-shorten-clause-err : goal.returns-in_err-shorten-clause-err
returns-in_err-shorten-clause-err c =
    let m = c.args.self.now in
    on_err c.from_residual-in_err-shorten.result
    (not_short m.space m.config.settings m.last m.calls m.loaded.items c.reserve.new.self.items m.faults m.nodes c.shorten.new.nodes m.links c.reserve.ensures.items c.in_err-shorten.ensures.err)

pub returns-then-not-branch-clause-exact : goal.returns-then-not-branch-clause-exact
returns-then-not-branch-clause-exact c = λ state agrees lie.
    let m = c.args.self.now in
    let path : c.as_str.result.now ≡ c.args.path = search rules in
    let none = c.in_ok-shorten.ensures.refused c.if-not-branch.true in
    let nodes = m.config.settings.nodes in
    let loaded = map line_of m.loaded.items in
    let untaken = takes_not (picture_of m) state.files agrees nodes loaded (lie (picture_of m) refl) c.as_str.result.now c.args.block c.args.node c.args.len none in
    subst (λ (q : List ℕ). takes_short nodes loaded (state.files q) q c.args.block c.args.node c.args.len ≡ false) path untaken

pub invariant_of-self-2 : goal.invariant_of-self-2
invariant_of-self-2 c =
    let m = c.args.self.now in
    let kept = keeps.Short c.args.path c.args.block c.args.node c.args.len in
    let items : c.push_reserved.new.self.items ≡ m.loaded.items ++ kept ∷ [] = c.push_reserved.ensures.items ∙ ap (λ (xs : List Kept). xs ++ kept ∷ []) c.reserve.ensures.items in
    record {
      counted = c.shorten.ensures.rest.count ∙ m.counted;
      unfailed = unfailed_push m.loaded.items c.push_reserved.new.self.items kept m.calls items m.unfailed;
      earlier = m.earlier;
      follows = follows_push m.faults m.loaded.items c.push_reserved.new.self.items kept items (other_follows m.faults (map line_of m.loaded.items) (line_of kept) refl m.follows);
    }

pub returns-clause-loads : goal.returns-clause-loads
returns-clause-loads c = λ is.
    let m = c.args.self.now in
    let kept = keeps.Short c.args.path c.args.block c.args.node c.args.len in
    let items : c.push_reserved.new.self.items ≡ m.loaded.items ++ kept ∷ [] = c.push_reserved.ensures.items ∙ ap (λ (xs : List Kept). xs ++ kept ∷ []) c.reserve.ensures.items in
    let path : c.as_str.result.now ≡ c.args.path = search rules in
    let done = c.in_ok-shorten.ensures.done c.if-not-branch.false in
    let short = subst (λ (q : List ℕ). IsShort (space_of m.space m.nodes) q c.args.block c.args.node c.args.len done.0 done.1) path done.2 in
    loads_short m.space m.config.settings m.last m.calls m.loaded.items c.push_reserved.new.self.items m.faults m.nodes c.shorten.new.nodes m.links c.args.path c.args.block c.args.node c.args.len done.0 done.1 items short done.3

pub returns-clause-exact : goal.returns-clause-exact
returns-clause-exact c = λ state agrees lie.
    let m = c.args.self.now in
    let path : c.as_str.result.now ≡ c.args.path = search rules in
    let done = c.in_ok-shorten.ensures.done c.if-not-branch.false in
    let nodes = m.config.settings.nodes in
    let loaded = map line_of m.loaded.items in
    let taken = takes_from (picture_of m) state.files agrees nodes loaded (lie (picture_of m) refl) c.as_str.result.now c.args.block c.args.node c.args.len done.0 done.1 done.2 in
    subst (λ (q : List ℕ). takes_short nodes loaded (state.files q) q c.args.block c.args.node c.args.len ≡ true) path taken
