use Rattle.std.proofs.Common.{◌≡◌, ℕ, ◌-◌, ◌++◌, ◌∙◌, ap, subst, arith, rules}
use Rattle.std.proofs.lemmas.Result.{err_from_is_err_and}
use Rattle.hdfs_cluster.specs.declared.messages.LocatedBlock.{LocatedBlock}
use Rattle.hdfs_cluster.specs.Reading.{range_of}
use Rattle.hdfs_block_reader.specs.Reader.{wanted_of, end_of, AllBlamed}
use Rattle.hdfs_file_reader.proofs.Pieces.{pieces_join}
use Rattle.hdfs_file_reader.proofs.Readers.{keeps_trans, reads_trans, fails_from}
use Rattle.hdfs_file_reader.proofs.reading.read_all.Goals as goal

pub append_next-requires-clause-allowed : goal.append_next-requires-clause-allowed
append_next-requires-clause-allowed g c =
    let keeps = c.pieces.invariant.keeps in
    rw (keeps.block, keeps.client, keeps.end) c.requires.allowed

pub returns-in_err-append_next-clause-err : goal.returns-in_err-append_next-clause-err
returns-in_err-append_next-clause-err g c =
    let p = err_from_is_err_and c.from_residual.result c.from_residual.ensures.1 in
    let before = c.pieces.invariant in
    let failed = c.in_err-append_next.ensures.err in
    rw (p.1, p.2) (record {
      fails = fails_from c.pieces.reader c.args.reader.now c.in_err-append_next.field-0.0 before.on before.keeps.end failed.fails;
      cause = λ is from block over.
          subst (λ (x : LocatedBlock). AllBlamed from (g.C.Cluster.shown c.append_next.new.cluster) x block) before.keeps.block
          (failed.cause is from block (before.reads.over from block over));
      idle = failed.idle;
    })

pub pieces-preserved : goal.pieces-preserved
pieces-preserved g c =
    let s = g.C.Cluster.shown c.args.cluster.now in
    let t = g.C.Cluster.shown c.pieces.cluster in
    let u = g.C.Cluster.shown c.append_next.new.cluster in
    let q = c.args.reader.now in
    let r = c.pieces.reader in
    let w = c.append_next.new.reader in
    let before = c.pieces.invariant in
    let now = c.in_ok-append_next.ensures in
    record {
      keeps = keeps_trans s t u q r w before.keeps now.keeps;
      reads = reads_trans s t u q r w before.keeps now.keeps before.reads now.reads;
      on = omega (arith, before.on, now.on.on);
      fine = now.on.fine;
      count = omega (arith, before.count, now.count, before.on, now.on.on);
      so_far = λ block shows. pieces_join c.args.out.now.items c.pieces.out.items c.append_next.new.out.items block (wanted_of q) (wanted_of r) (wanted_of w) (before.so_far block shows) (now.bytes block (before.reads.shows block shows)) before.on now.on.on;
    }

pub returns-clause-bytes : goal.returns-clause-bytes
returns-clause-bytes g c = λ block shows.
    let q = c.args.reader.now in
    let r = c.pieces.reader in
    let w = c.append_next.new.reader in
    let before = c.pieces.invariant in
    let now = c.in_ok-append_next.ensures in
    let end : wanted_of w ≡ end_of q = search rules in
    pieces_join c.args.out.now.items c.pieces.out.items c.append_next.new.out.items block (wanted_of q) (wanted_of r) (wanted_of w) (before.so_far block shows) (now.bytes block (before.reads.shows block shows)) before.on now.on.on
    ∙ ap (λ (e : ℕ). c.args.out.now.items ++ range_of block (wanted_of q) (e - wanted_of q)) end

pub returns-clause-count : goal.returns-clause-count
returns-clause-count g c =
    let w = c.append_next.new.reader in
    let q = c.args.reader.now in
    let before = c.pieces.invariant in
    let now = c.in_ok-append_next.ensures in
    let end : wanted_of w ≡ end_of q = search rules in
    omega (arith, before.count, now.count, before.on, now.on.on, end)
