-- The connection is kept to the address of the location that is tried.
use Rattle.std.proofs.Common.{◌≡◌, ◌<◌, List, Option, None, length, get_or, refl, sym, ap, subst, arith}
use Rattle.std.specs.Prelude.{slice_get, IsSomeAnd}
use Rattle.std.proofs.lemmas.Option.{slice_get-get_or}
use Rattle.hdfs_cluster.specs.declared.messages.DatanodeInfo.{DatanodeInfo}
use Rattle.hdfs_block_reader.specs.Blocks.{address_of_node}
use Rattle.hdfs_block_reader.proofs.Connected.{keeps_others}
use Rattle.hdfs_block_reader.proofs.block_read.BlockRead.keep.Goals as goal

pub returns-in-Ok-clause-cached : goal.returns-in-Ok-clause-cached
returns-in-Ok-clause-cached g c =
    let locs = c.as_slice.result.now in
    let at = length c.as_slice-2.result.now in
    let tried = c.index-as_slice-as_slice.result in
    let here = c.requires.holds.link c.args.link c.requires.link in
    let within : at < length locs = omega (arith, here.0, ap (λ (l : List DatanodeInfo). length l) c.as_slice.ensures, ap length c.as_slice-2.ensures) in
    let listed : IsSomeAnd (slice_get locs at) (λ listed. (get_or locs at tried).id ≡ listed.id) =
    subst (λ (o : Option DatanodeInfo). IsSomeAnd o (λ listed. (get_or locs at tried).id ≡ listed.id)) (sym (slice_get-get_or locs at tried within)) refl in
    let address : c.as_str.result.now ≡ address_of_node (get_or locs at tried).id = cc (c.as_str.ensures.value, c.in-Ok.ensures) in
    keeps_others c.args.self.now (record c.args.self.now { link = None; position = None }) c.args.cache.now c.release.new.self c.as_slice-2.result.now (get_or locs at tried).id c.as_str.result.now c.as_slice-2.ensures
    (omega arith) (subst (λ (l : List DatanodeInfo). IsSomeAnd (slice_get l at) (λ listed. (get_or locs at tried).id ≡ listed.id)) c.as_slice.ensures listed) address c.release.ensures.others
