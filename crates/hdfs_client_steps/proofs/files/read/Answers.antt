-- The goals of read.
use Rattle.std.proofs.Common.{ap, ◌∙◌}
use Rattle.std.proofs.lemmas.Result.{err_from_is_err_and}
use Rattle.hdfs_client.proofs.Beside.{files_trans}
use Rattle.hdfs_client_steps.proofs.ReadBack.{unread_does}
use Rattle.hdfs_client_steps.proofs.ReadRange.{read_does}
use Rattle.hdfs_client_steps.proofs.files.read.Goals as goal

pub returns-in_err-reader-clause-does : goal.returns-in_err-reader-clause-does
returns-in_err-reader-clause-does g c =
    let p = err_from_is_err_and c.from_residual.result c.from_residual.ensures.1 in
    rw (p.1, p.2) (unread_does g.met.C.Cluster.serves_rows g.met.C.Cluster.active_below c.args.client.now c.read.new.self c.args.path.now c.args.offset c.args.len c.args.cluster.now c.read.new.cluster
    c.in_err-reader.field-0.0 c.in_err-reader.ensures.asked)

pub read_range-requires-clause-defaults : goal.read_range-requires-clause-defaults
read_range-requires-clause-defaults g c = λ some within.
    (let at = c.in_ok-reader.ensures.asked.asks in (c.requires.allowed at.to at.leads).defaults some)

pub read_range-requires-clause-blocks : goal.read_range-requires-clause-blocks
read_range-requires-clause-blocks g c = λ k other low.
    (let at = c.in_ok-reader.ensures.asked.asks in
    (c.requires.allowed at.to at.leads).reads _ (c.in_ok-reader.ensures.answered at.to at.leads k other low))

pub returns-clause-does : goal.returns-clause-does
returns-clause-does g c =
    let made = c.in_ok-reader.ensures in
    let range = c.read_range.ensures in
    read_does g.met.C.Cluster.serves_rows g.met.C.Cluster.active_below c.args.client.now c.read.new.self c.read_range.new.client c.args.path.now c.args.offset c.args.len c.args.cluster.now c.read.new.cluster
    c.read_range.new.cluster c.in_ok-reader.reader c.read_range.result range.reads
    (λ short. (let behind = range.range short in (behind.0, ap g.C.Cluster.shown behind.1)))
    range.reads.within
    made.asked made.made

pub returns-clause-files : goal.returns-clause-files
returns-clause-files g c = files_trans c.in_ok-reader.ensures.files c.read_range.ensures.files

pub returns-in_err-reader-clause-parts : goal.returns-in_err-reader-clause-parts
returns-in_err-reader-clause-parts g c = (let others = c.in_err-reader.ensures.asked.asks.others in (others.mounts, others.replacement))

pub returns-clause-parts : goal.returns-clause-parts
returns-clause-parts g c =
    let one = c.in_ok-reader.ensures.asked.asks.others in
    let two = c.read_range.ensures.reads.others in
    (two.mounts ∙ one.mounts, two.replacement ∙ one.replacement)
