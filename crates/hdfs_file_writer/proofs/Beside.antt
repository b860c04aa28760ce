-- Writers of blocks beside one another: what calls that leave a writer's block and its link alone leave of the writer.
use Rattle.std.proofs.Common.{◌≡◌, ℕ, List, [], length, take, Some, sym, ◌∙◌, ap, subst}
use Rattle.std.specs.Prelude.{slice_index_or}
use Rattle.hdfs_wire.specs.Outgoing.{Outgoing}
use Rattle.hdfs_cluster.specs.Picture.{Picture}
use Rattle.hdfs_cluster.specs.Shown.{Shown}
use Rattle.hdfs_block_reader.proofs.Links.{holds_stays}
use Rattle.hdfs_rebuild.specs.declared.block_plan.BlockPipeline.{BlockPipeline}
use Rattle.hdfs_block_writer.specs.declared.block_writer.BlockWriter.{BlockWriter}
use Rattle.hdfs_block_writer.specs.BlockWriters.{link_in, link_of, Stands}
use Rattle.hdfs_block_writer.specs.OpenPipelines.{Has, id_of, nodes_of}

-- A writer stands still where its link stayed.
pub still_stands : (a b : Shown) (w : BlockWriter) → ((link : ℕ) → link_of w ≡ Some link → b.writes link ≡ a.writes link) → Stands a w → Stands b w
still_stands a b w stays stands pipe is =
    let h = stands pipe is in
    let over = h.1 in
    let standing = over.standing in
    let same : b.writes pipe.link ≡ a.writes pipe.link = stays pipe.link (ap link_in is) in (
      h.0,
      record {
        standing = record {
          drives = (standing.drives.0, same ∙ standing.drives.1, standing.drives.2);
          is_core = standing.is_core;
          block = standing.block;
          set_up = λ write at. standing.set_up write (sym same ∙ at);
          many = standing.many;
          rebuilds = standing.rebuilds;
          window = standing.window;
          first = standing.first;
          follow = standing.follow;
          ends = standing.ends;
        };
        going = over.going;
        more = over.more;
        next = λ packet begins. (let n = over.next packet begins in (n.0, same ∙ n.1, n.2));
        first = over.first;
        seqno = over.seqno;
        starts = over.starts;
        counts = over.counts;
        waits = over.waits;
      },
      h.2,
      h.3,
    )

-- What a block has over a pipeline stays where the file's name, the place of the link, the block's entry in the block table, and what is
-- held of it stay.
pub has_stays : (p q : Picture) (pipe : BlockPipeline) (more : List Outgoing) (safe : ℕ) (bytes : List ℕ) (has : Has p pipe more safe bytes)
    → q.names pipe.plan.src ≡ p.names pipe.plan.src → q.writes pipe.link ≡ Some has.on.place → q.table (id_of pipe) ≡ p.table (id_of pipe)
    → ((node : List ℕ) → q.held node (id_of pipe) ≡ p.held node (id_of pipe)) → Has q pipe more safe bytes
has_stays p q pipe more safe bytes has names link table held = record {
  file = record { file = has.file.file; named = names ∙ has.file.named; is_open = has.file.is_open; has = has.file.has };
  on = holds_stays p pipe.link (id_of pipe) (nodes_of pipe) safe bytes has.on q link (λ i within. held (slice_index_or (nodes_of pipe) i []));
  lists = record {
    entry = has.lists.entry;
    is = table ∙ has.lists.is;
    same_nodes = has.lists.same_nodes;
    prefixes = λ k d lt.
        subst (λ (b : List ℕ). b ≡ take (length b) bytes) (sym (held (slice_index_or (nodes_of pipe) k d))) (has.lists.prefixes k d lt);
  };
  settles = has.settles;
  slices = has.slices;
}
