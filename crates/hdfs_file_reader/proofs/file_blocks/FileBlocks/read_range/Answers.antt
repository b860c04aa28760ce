-- Whether the range is in the file, then whether bytes may be moved, and then its blocks.
use Rattle.std.proofs.Common.{◌≡◌, inl, inr, ℕ, ◌+◌, ◌-◌, ◌≤◌, ◌++◌, List, length, sym, ◌∙◌, ap, subst, arith}
use Rattle.std.proofs.lemmas.Result.{err_from_is_err_and}
use Rattle.hdfs_cluster.specs.declared.messages.LocatedBlock.{LocatedBlock}
use Rattle.hdfs_cluster.specs.Lost.{AllFailed, ByteLost}
use Rattle.hdfs_cluster.specs.Picture.{SameButActive, SameFiles}
use Rattle.hdfs_cluster.specs.Reading.{range_of}
use Rattle.hdfs_cluster.proofs.Frames.{told_weaker}
use Rattle.hdfs_file_reader.specs.Files.{blocks_of}
use Rattle.hdfs_file_reader.specs.Ranges.{FailsAt, Stored}
use Rattle.hdfs_file_reader.proofs.Ranged.{lacks_no_byte, leaves_read, loses_since, stored_on}
use Rattle.hdfs_file_reader.proofs.file_blocks.FileBlocks.read_range.Goals as goal

pub returns-in_err-allow_transfer-clause-err : goal.returns-in_err-allow_transfer-clause-err
returns-in_err-allow_transfer-clause-err g c =
    let p = err_from_is_err_and c.from_residual-in_err-allow_transfer.result c.from_residual-in_err-allow_transfer.ensures.1 in
    rw (p.1, p.2) (inr (inl (c.in_err-allow_transfer.ensures.err, c.in_err-allow_transfer.ensures.looks.nodes)))

pub returns-in_err-allow_transfer-clause-lost : goal.returns-in_err-allow_transfer-clause-lost
returns-in_err-allow_transfer-clause-lost g c =
    let p = err_from_is_err_and c.from_residual-in_err-allow_transfer.result c.from_residual-in_err-allow_transfer.ensures.1 in
    rw (p.1, p.2) (λ reaches content stored byte is. absurd (
    lacks_no_byte c.args.len (g.C.Cluster.shown c.args.cluster.now) (g.C.Cluster.shown c.allow_transfer.new.cluster) c.args.namenode.now c.allow_transfer.new.namenode
    c.in_err-allow_transfer.field-0.0 reaches c.in_err-allow_transfer.ensures.err byte is
    ))

pub returns-in_err-read_blocks-clause-leaves : goal.returns-in_err-read_blocks-clause-leaves
returns-in_err-read_blocks-clause-leaves g c =
    let h = c.in_ok-allow_transfer.ensures in
    leaves_read (g.C.Cluster.shown c.args.cluster.now) (g.C.Cluster.shown c.allow_transfer.new.cluster) (g.C.Cluster.shown c.read_blocks.new.cluster) c.args.namenode.now c.allow_transfer.new.namenode
    h.looks c.in_err-read_blocks.ensures.only c.in_err-read_blocks.ensures.links h.keeps h.picture h.knows

pub returns-clause-leaves : goal.returns-clause-leaves
returns-clause-leaves g c =
    let h = c.in_ok-allow_transfer.ensures in
    leaves_read (g.C.Cluster.shown c.args.cluster.now) (g.C.Cluster.shown c.allow_transfer.new.cluster) (g.C.Cluster.shown c.read_blocks.new.cluster) c.args.namenode.now c.allow_transfer.new.namenode
    h.looks c.in_ok-read_blocks.ensures.only c.in_ok-read_blocks.ensures.links h.keeps h.picture h.knows

pub returns-in_err-read_blocks-clause-lost : goal.returns-in_err-read_blocks-clause-lost
returns-in_err-read_blocks-clause-lost g c =
    let p = err_from_is_err_and c.from_residual-in_err-read_blocks.result c.from_residual-in_err-read_blocks.ensures.1 in
    let s = g.C.Cluster.shown c.args.cluster.now in
    let m = g.C.Cluster.shown c.allow_transfer.new.cluster in
    let t = g.C.Cluster.shown c.read_blocks.new.cluster in
    let h = c.in_ok-allow_transfer.ensures in
    let e = c.in_err-read_blocks.field-0.0 in
    let end = c.args.offset + c.args.len in
    let ended = subst (λ (k : ℕ). (content : List ℕ) (st : Stored m c.as_slice-blocks.result.now content) → FailsAt (ByteLost st.picture st.ids c.args.offset k (AllFailed m.counts t.counts st.picture)) e)
    c.in_ok-end.ensures.ok.0 c.in_err-read_blocks.ensures.lost in
    let lost = subst (λ (bs : List LocatedBlock). (content : List ℕ) (st : Stored m bs content) → FailsAt (ByteLost st.picture st.ids c.args.offset end (AllFailed m.counts t.counts st.picture)) e)
    c.as_slice-blocks.ensures ended in
    rw (p.1, p.2) (λ reaches. loses_since s m t (blocks_of c.args.self.now) c.args.offset end e h.looks (h.picture reaches) lost)

pub returns-clause-bytes : goal.returns-clause-bytes
returns-clause-bytes g c = λ reaches content stored within.
    let s = g.C.Cluster.shown c.args.cluster.now in
    let m = g.C.Cluster.shown c.allow_transfer.new.cluster in
    let h = c.in_ok-allow_transfer.ensures in
    let end = c.in_ok-end.end in
    let stay = told_weaker SameButActive SameFiles s.picture m.picture (λ p q same. same.files) (h.picture reaches) in
    let on = stored_on s m (blocks_of c.args.self.now) content stay stored in
    let inside : end ≤ length content = omega (arith, c.in_ok-end.ensures.ok.0, within) in
    let count : end - c.args.offset ≡ c.args.len = omega (arith, c.in_ok-end.ensures.ok.0) in
    let out = c.in_ok-read_blocks.ensures.bytes content (subst (λ (bs : List LocatedBlock). Stored m bs content) (sym c.as_slice-blocks.ensures) on) inside in
    c.from_vec.ensures ∙ out ∙ ap (λ (l : List ℕ). l ++ range_of content c.args.offset (end - c.args.offset)) c.in_ok-out.ensures.items ∙ ap (range_of content c.args.offset) count
