-- Each turn takes the next block, and what is left are those behind it.
use Rattle.std.proofs.Common.{◌≡◌, refl, ℕ, ◌<◌, ◌+◌, List, [], ◌∷◌, length, drop, get_or, suc, sym, ◌∙◌, ap, subst, arith}
use Rattle.std.proofs.lemmas.List.{drop_all}
use Rattle.std.proofs.lemmas.Result.{err_from_is_err_and}
use Rattle.std.proofs.Math.Seq.{drop-cons}
use Rattle.hdfs_cluster.specs.declared.messages.LocatedBlock.{LocatedBlock}
use Rattle.hdfs_cluster.proofs.Frames.{only_reads_refl, only_reads_trans, same_links_refl, same_links_trans}
use Rattle.hdfs_block_reader.specs.Reader.{LetsRead}
use Rattle.hdfs_file_reader.proofs.Beginning.{counted_from, left_from, left_past, located_follow}
use Rattle.hdfs_file_reader.proofs.Counting.{Counted, counted_end, counted_next}
use Rattle.hdfs_file_reader.proofs.Parts.{Left, fails_first, left_end, left_next, left_start}
use Rattle.hdfs_file_reader.proofs.Readers.{fails_somewhere}
use Rattle.hdfs_file_reader.proofs.reading.read_blocks.Goals as goal

-- the block of this turn and those behind it
turn : (blocks : List LocatedBlock) (i : ℕ) (block : LocatedBlock) → i < length blocks → block ≡ get_or blocks i block → drop i blocks ≡ block ∷ drop (i + 1) blocks
turn blocks i block low is =
    let next : suc i ≡ i + 1 = omega arith in
    drop-cons blocks i block low ∙ ap (λ (x : LocatedBlock). x ∷ drop (suc i) blocks) (sym is) ∙ ap (λ (k : ℕ). block ∷ drop k blocks) next

pub read_part-requires-clause-allowed : goal.read_part-requires-clause-allowed
read_part-requires-clause-allowed g c =
    subst (λ (b : LocatedBlock). (end : ℕ) → LetsRead g.C.Cluster.allows b [] end) (sym c.index-blocks-i.is)
    (c.requires.allowed c.parts.i c.index-blocks-i.result c.parts-test.true)

pub parts-init : goal.parts-init
parts-init g c =
    let s = g.C.Cluster.shown c.args.cluster.now in
    let blocks = c.args.blocks.now in
    let from = c.args.range.start in
    let end = c.args.range.end in
    let out = c.args.out.now.items in
    let i = c.first_of-i.result in
    record {
      only = only_reads_refl s;
      links = same_links_refl s;
      none = λ empty. refl;
      counted = λ total low follow. counted_from total blocks from end (length out) follow i (c.first_of-i.ensures.first total follow);
      left = λ content st.
          left_from s st.picture st.told st.ids st.total content from end out out c.requires.within blocks
          (left_start st.picture st.ids st.total content blocks from end out st.located st.stored) i
          (c.first_of-i.ensures.first st.total (located_follow st.picture.table st.total st.ids blocks st.located));
    }

pub returns-then-block-range-clause-bytes : goal.returns-then-block-range-clause-bytes
returns-then-block-range-clause-bytes g c = λ content st within.
    let blocks = c.args.blocks.now in
    let block = c.index-blocks-i.result in
    let from = c.args.range.start in
    let end = c.args.range.end in
    let here = turn blocks c.parts.i block c.parts-test.true c.index-blocks-i.is in
    left_past st.picture st.ids st.total content block (drop (c.parts.i + 1) blocks) from end c.args.out.now.items c.parts.out.items
    (subst (λ (bs : List LocatedBlock). Left st.picture st.ids st.total content bs from end c.args.out.now.items c.parts.out.items) here
    (c.parts.invariant.left content st))
    c.if-block-range.true

pub parts-preserved : goal.parts-preserved
parts-preserved g c =
    let s = g.C.Cluster.shown c.args.cluster.now in
    let t = g.C.Cluster.shown c.parts.cluster in
    let u = g.C.Cluster.shown c.read_part.new.cluster in
    let part = c.in_ok-read_part.ensures in
    let blocks = c.args.blocks.now in
    let block = c.index-blocks-i.result in
    let rest = drop (c.parts.i + 1) blocks in
    let from = c.args.range.start in
    let end = c.args.range.end in
    let here = turn blocks c.parts.i block c.parts-test.true c.index-blocks-i.is in
    record {
      only = only_reads_trans s t u c.parts.invariant.only part.only;
      links = same_links_trans s t u c.parts.invariant.links part.links;
      none = λ empty. part.outside (omega (arith, empty)) ∙ c.parts.invariant.none empty;
      counted = λ total low follow.
          counted_next total block rest from end (length c.args.out.now.items) (length c.parts.out.items) (length c.read_part.new.out.items) low c.requires.within
          (subst (λ (bs : List LocatedBlock). Counted total bs from end (length c.args.out.now.items) (length c.parts.out.items)) here (c.parts.invariant.counted total low follow))
          part.count;
      left = λ content st.
          left_next s t st.picture st.told c.parts.invariant.only st.ids st.total content block rest from end c.args.out.now.items c.parts.out.items
          (subst (λ (bs : List LocatedBlock). Left st.picture st.ids st.total content bs from end c.args.out.now.items c.parts.out.items) here (c.parts.invariant.left content st))
          c.read_part.new.out.items c.requires.within part.bytes;
    }

pub returns-in_err-read_part-clause-only : goal.returns-in_err-read_part-clause-only
returns-in_err-read_part-clause-only g c =
    only_reads_trans (g.C.Cluster.shown c.args.cluster.now) (g.C.Cluster.shown c.parts.cluster) (g.C.Cluster.shown c.read_part.new.cluster) c.parts.invariant.only c.in_err-read_part.ensures.only

pub returns-in_err-read_part-clause-links : goal.returns-in_err-read_part-clause-links
returns-in_err-read_part-clause-links g c =
    same_links_trans (g.C.Cluster.shown c.args.cluster.now) (g.C.Cluster.shown c.parts.cluster) (g.C.Cluster.shown c.read_part.new.cluster) c.parts.invariant.links c.in_err-read_part.ensures.links

pub returns-in_err-read_part-clause-fails : goal.returns-in_err-read_part-clause-fails
returns-in_err-read_part-clause-fails g c =
    let p = err_from_is_err_and c.from_residual.result c.from_residual.ensures.1 in
    rw (p.1, p.2) (fails_somewhere c.index-blocks-i.result c.args.range.start c.args.range.end c.in_err-read_part.field-0.0 c.in_err-read_part.ensures.fails)

pub returns-in_err-read_part-clause-lost : goal.returns-in_err-read_part-clause-lost
returns-in_err-read_part-clause-lost g c =
    let p = err_from_is_err_and c.from_residual.result c.from_residual.ensures.1 in
    let s = g.C.Cluster.shown c.args.cluster.now in
    let t = g.C.Cluster.shown c.parts.cluster in
    let u = g.C.Cluster.shown c.read_part.new.cluster in
    let part = c.in_err-read_part.ensures in
    let blocks = c.args.blocks.now in
    let block = c.index-blocks-i.result in
    let from = c.args.range.start in
    let end = c.args.range.end in
    let here = turn blocks c.parts.i block c.parts-test.true c.index-blocks-i.is in
    rw (p.1, p.2) (λ content st.
    fails_first s t st.picture st.told c.parts.invariant.only st.ids st.total content block (drop (c.parts.i + 1) blocks) from end c.args.out.now.items c.parts.out.items
    (subst (λ (bs : List LocatedBlock). Left st.picture st.ids st.total content bs from end c.args.out.now.items c.parts.out.items) here (c.parts.invariant.left content st))
    u c.in_err-read_part.field-0.0 part.only part.fails part.cause)

pub returns-clause-count : goal.returns-clause-count
returns-clause-count g c = λ total low within follow.
    let none = drop_all c.parts.i c.args.blocks.now c.parts-test.false in
    counted_end total c.args.range.start c.args.range.end (length c.args.out.now.items) (length c.parts.out.items) within
    (subst (λ (bs : List LocatedBlock). Counted total bs c.args.range.start c.args.range.end (length c.args.out.now.items) (length c.parts.out.items)) none
    (c.parts.invariant.counted total low follow))

pub returns-clause-bytes : goal.returns-clause-bytes
returns-clause-bytes g c = λ content st within.
    let none = drop_all c.parts.i c.args.blocks.now c.parts-test.false in
    left_end st.picture st.ids st.total content c.args.range.start c.args.range.end c.args.out.now.items c.parts.out.items within
    (subst (λ (bs : List LocatedBlock). Left st.picture st.ids st.total content bs c.args.range.start c.args.range.end c.args.out.now.items c.parts.out.items) none
    (c.parts.invariant.left content st))
