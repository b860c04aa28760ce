-- A new reader has given nothing up, so each location is to blame since the reading began.
use Rattle.std.proofs.Common.{ℕ, ◌+◌, ◌-◌, ◌<◌, ◌≤◌, List, length, sym, ◌∙◌, subst, arith}
use Rattle.std.proofs.lemmas.Result.{IfErr-weaker, on_ok_weaker}
use Rattle.hdfs_cluster.specs.declared.messages.LocatedBlock.{LocatedBlock}
use Rattle.hdfs_block_reader.specs.Reader.{LetsRead, client_of, end_of, wanted_of}
use Rattle.hdfs_file_reader.proofs.Readers.{bytes_new, cause_new, fails_weaker, links_from-Keeps}
use Rattle.hdfs_file_reader.proofs.reading.read_block.Goals as goal

-- the end of a range is as far from its start as it is long
ends : (start end long : ℕ) → start ≤ end → end ≤ long → start + (end - start) ≤ long
ends start end long within below = omega arith

pub read_all-requires-clause-stands : goal.read_all-requires-clause-stands
read_all-requires-clause-stands g c = c.in_ok-reader.ensures.stands (g.C.Cluster.shown c.args.cluster.now)

pub read_all-requires-clause-allowed : goal.read_all-requires-clause-allowed
read_all-requires-clause-allowed g c =
    let new = c.in_ok-reader.ensures in
    let end = end_of c.in_ok-reader.reader in
    subst (λ (b : LocatedBlock). LetsRead g.C.Cluster.allows b (client_of c.in_ok-reader.reader) end) (sym (new.block ∙ c.in_ok-copied.ensures))
    (subst (λ (n : List ℕ). LetsRead g.C.Cluster.allows c.args.block.now n end) (sym new.client) (c.requires.allowed end))

pub returns-clause-links : goal.returns-clause-links
returns-clause-links g c =
    let new = c.in_ok-reader.ensures in
    links_from-Keeps (g.C.Cluster.shown c.args.cluster.now) (g.C.Cluster.shown c.read_all.new.cluster) c.in_ok-reader.reader c.read_all.new.reader c.read_all.ensures.keeps new.idle.0 c.read_all.ensures.idle

pub returns-clause-fails : goal.returns-clause-fails
returns-clause-fails g c =
    let new = c.in_ok-reader.ensures in
    let reader = c.in_ok-reader.reader in
    IfErr-weaker c.read_all.result _ _
    (λ error failed.
    fails_weaker (λ byte. (wanted_of reader ≤ byte) × (byte < end_of reader))
    (λ byte. (c.args.range.start ≤ byte) × (byte < c.args.range.end)) error
    (λ byte h. (omega (arith, new.range.0, h.0), omega (arith, new.range.1, c.requires.within, h.1))) failed.fails)
    c.read_all.ensures.err

pub returns-clause-bytes : goal.returns-clause-bytes
returns-clause-bytes g c =
    let new = c.in_ok-reader.ensures in
    on_ok_weaker c.read_all.result
    (λ gives bytes holds within.
    bytes_new (g.C.Cluster.shown c.args.cluster.now) c.in_ok-reader.reader c.args.block.now c.args.range.start (c.args.range.end - c.args.range.start) (new.block ∙ c.in_ok-copied.ensures) new.range.0 new.range.1 new.idle.0 new.idle.1
    c.args.out.now.items c.read_all.new.out.items gives bytes holds (ends c.args.range.start c.args.range.end (length bytes) c.requires.within within))
    c.read_all.ensures.bytes

pub returns-clause-cause : goal.returns-clause-cause
returns-clause-cause g c =
    let new = c.in_ok-reader.ensures in
    IfErr-weaker c.read_all.result _ _
    (λ error failed is bytes holds within.
    cause_new (g.C.Cluster.shown c.args.cluster.now) c.in_ok-reader.reader c.args.block.now c.args.range.start (c.args.range.end - c.args.range.start) (new.block ∙ c.in_ok-copied.ensures) new.range.0 new.range.1 new.idle.0 new.idle.1
    (g.C.Cluster.shown c.read_all.new.cluster)
    (failed.cause is) bytes holds (ends c.args.range.start c.args.range.end (length bytes) c.requires.within within))
    c.read_all.ensures.err
