use Rattle.std.proofs.Common.{ap, ◌∙◌, ◌+◌, get_or}
use Rattle.hdfs_field.specs.Elements.{product}
use Rattle.hdfs_field.specs.Lanes.{HasLanes}
use Rattle.hdfs_field.proofs.LaneLemmas.{added_vector}
use Rattle.hdfs_field.proofs.kernel.add_vector.Goals as goal

pub returns : goal.returns
returns c = λ e base low high h.
    let times = c.times.ensures e.value e.in_range low high in
    let read = c.load-2.ensures.lanes in
    let products : HasLanes c.times.result (λ k. product e.value (get_or c.args.input.now (c.args.i + k) 0))
    = record { long = times.long; each = λ k l. times.each k l ∙ ap (product e.value) (read.each k l) } in
    added_vector e c.args.input.now base c.args.out.now c.load.result c.times.result c.args.i h c.requires.out
    c.load.ensures.bytes c.load-2.ensures.bytes c.load.ensures.lanes products
