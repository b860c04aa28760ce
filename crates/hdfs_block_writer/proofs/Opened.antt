-- A writer is opened, and is let go.
use Rattle.std.proofs.Common.{◌≡◌, ℕ, ◌<◌, ◌≤◌, ◌^◌, List, [], length, drop, Option, Some, None, refl, sym, ◌∙◌, ap, subst, arith}
use Rattle.std.proofs.lemmas.List.{append-nil, drop_all, length-map}
use Rattle.hdfs_wire.specs.Outgoing.{ArePacketSizes}
use Rattle.hdfs_cluster.specs.declared.picture.OpenWrite.{OpenWrite}
use Rattle.hdfs_cluster.specs.Namenode.{IsToWrite}
use Rattle.hdfs_cluster.specs.Pipes.{WriteEnded, WriteOpened}
use Rattle.hdfs_cluster.specs.Sending.{uuids}
use Rattle.hdfs_cluster.specs.Shown.{Shown}
use Rattle.hdfs_cluster.specs.Writing.{Releases, Starts}
use Rattle.hdfs_cluster.proofs.Frames.{told_after}
use Rattle.hdfs_pipeline.specs.Pipelines.{Pipeline, empty_pipeline}
use Rattle.hdfs_block_writer.specs.Packing.{filling_of, setup_of}
use Rattle.hdfs_block_reader.proofs.Beginning.{carries_begins}
use Rattle.hdfs_block_reader.proofs.OnlyBlocks.{only_block_from-Releases, only_block_same}
use Rattle.hdfs_block_reader.proofs.Rebuilding.{holds_of}
use Rattle.hdfs_rebuild.specs.declared.block_plan.BlockPipeline.{BlockPipeline}
use Rattle.hdfs_rebuild.specs.declared.block_plan.BlockPlan.{BlockPlan}
use Rattle.hdfs_rebuild.specs.declared.block_plan.RebuildSettings.{RebuildSettings}
use Rattle.hdfs_block_writer.specs.declared.block_writer.BlockWriter.{BlockWriter}
use Rattle.hdfs_block_writer.specs.BlockWriters.{AreFull, GoesOver, Stands, link_in, link_of, safe_of, start_of}
use Rattle.hdfs_block_writer.specs.OpenPipelines.{Has, IsStanding, OnlyOwnLink, id_of, nodes_of}
use Rattle.hdfs_block_writer.specs.Written.{BeginsWhole, LetsGo}
use Rattle.hdfs_block_writer.proofs.OwnLinks.{own_link_refl}
use Rattle.hdfs_rebuild.proofs.Resuming.{empty_is_core}
use Rattle.hdfs_rebuild.proofs.Stepping.{written_still}
use Rattle.hdfs_block_writer.proofs.Wrote.{gave_up_ended, pipe_is}

module _ (plan : BlockPlan) (settings : RebuildSettings) (link : ℕ) (client : List ℕ) (w : BlockWriter) (core : Pipeline) (a b : Shown)
    (to_write : IsToWrite plan.block) (rebuilds : plan.rebuilds ≤ settings.rebuild_limit)
    (windows : (1 ≤ settings.window) × (settings.window ≤ 1000)) (empty : core ≡ empty_pipeline settings.window (length plan.block.locs))
    (opened : WriteOpened a (setup_of plan client) link b)
    (piped : w.pipe ≡ Some (record { plan = plan; core = core; link = link })) (none : w.packet ≡ None) (with : w.settings ≡ settings)
    (len : w.length ≡ plan.block.b.num_bytes) where
  abbrev new_pipe : BlockPipeline
  new_pipe = record { plan = plan; core = empty_pipeline settings.window (length plan.block.locs); link = link }

  is_new : w.pipe ≡ Some new_pipe
  is_new = piped ∙ ap (λ (x : Pipeline). Some (record { plan = plan; core = x; link = link })) empty

  unfilled : filling_of w.packet ≡ []
  unfilled = ap filling_of none

  abbrev new_write : OpenWrite
  new_write = record { setup = setup_of plan client; end = None; waiting = [] }

  standing : IsStanding settings b new_pipe []
  standing = record {
    drives = (new_write, opened.opened, λ going. record { nodes = refl; sent = refl; taken = refl; waiting = refl; heartbeats = refl });
    is_core = empty_is_core settings.window (length plan.block.locs) windows (to_write.some, to_write.few);
    block = to_write;
    set_up = λ write at. ap (λ (x : OpenWrite). x.setup.locs) (one_is (sym at ∙ opened.opened));
    many = refl;
    rebuilds = rebuilds;
    window = refl;
    first = 0;
    follow = tt;
    ends = tt;
  }
    where
      one_is : {x y : OpenWrite} → Some x ≡ Some y → x ≡ y
      one_is e = cc e

  goes_over : w.seqno ≡ 0 → GoesOver b new_pipe w
  goes_over first = record {
    standing = subst (λ (s : RebuildSettings). IsStanding s b new_pipe []) (sym with) standing;
    going = refl;
    more = λ k d lt. absurd (omega (arith, lt));
    next = λ packet begins. (new_write, opened.opened, (start_of w, begins));
    first = start_of w;
    seqno = 0;
    starts = omega arith;
    counts = omega (arith, first);
    waits = tt;
  }

  pub new_stands : ArePacketSizes w.chunk w.packet_size → w.seqno ≡ 0 → (w.length ≤ w.block_size) × (w.block_size < 2 ^ 63) → Stands b w
  new_stands sizes first within other there =
      let same = pipe_is new_pipe other (sym is_new ∙ there) in (
        record {
          sizes = sizes;
          filled = omega (arith, ap length unfilled);
          within = within;
          counted = omega (arith, first);
          packet = λ packet some. absurd (cc (none, some));
        },
        subst (λ (x : BlockPipeline). GoesOver b x w) same (goes_over first),
        λ packet some. absurd (cc (none, some)),
        subst AreFull same (λ k d lt. absurd (omega (arith, lt))),
      )

  pub new_begins : BeginsWhole a plan w b
  new_begins p bytes told written whole =
      let t = told_after (Starts link (setup_of plan client)) a.picture b.picture p opened.starts told in
      let carried = carries_begins p t.0 (setup_of plan client) link plan.block.b.num_bytes bytes t.2 whole in
      let linked = carried.linked in
      let safe : length bytes ≡ safe_of w new_pipe = omega (arith, len, ap length unfilled, whole.stores.length) in (
        t.0,
        t.1,
        record {
          pipe = new_pipe;
          is = is_new;
          counted = omega (arith, len, whole.stores.length);
          kept = unfilled ∙ sym (drop_all (safe_of w new_pipe) bytes (omega (arith, safe)));
          has = subst (λ (n : ℕ). Has t.0 new_pipe [] n bytes) safe (record {
            file = written_still p t.0 plan.src plan.block.b plan.block.b t.2.files.names refl written;
            on = linked.on;
            lists = (holds_of t.0
                (record {
                  id = plan.block.b.block_id;
                  length = plan.block.b.num_bytes;
                  nodes = uuids plan.block.locs;
                  link = link;
                  safe = length bytes;
                  pending = [];
                  sent = 0;
                  filling = [];
                })
                bytes carried).lists;
            settles = record {
              nodes = ap length linked.on.same_nodes ∙ length-map plan.block.locs (λ node. node.id.datanode_uuid);
              few = linked.on.few;
              unsent = [];
              behind = sym linked.behind ∙ sym (append-nil (drop linked.on.settled linked.on.place.sent));
              received = λ i below. linked.on.received i (subst (λ (ns : List (List ℕ)). i < length ns) linked.on.same_nodes below);
              going = λ going. (refl, sym linked.all);
            };
            slices = tt;
          });
        },
      )

-- a writer was let go
pub lets_go : (w : BlockWriter) (a b : Shown) → ((pipe : BlockPipeline) → w.pipe ≡ Some pipe → WriteEnded a pipe.link b) → (w.pipe ≡ None → b ≡ a)
    → LetsGo a w b
lets_go w a b ended still = by_pipe w.pipe refl
  where
    by_pipe : (o : Option BlockPipeline) → w.pipe ≡ o → LetsGo a w b
    by_pipe None is = record {
      own =
          subst (λ (x : Shown). OnlyOwnLink a (link_of w) x None) (sym (still is))
          (subst (λ (o : Option ℕ). OnlyOwnLink a o a None) (sym (ap link_in is)) (own_link_refl a None));
      ended = ended;
      touches = λ p bytes told c. absurd (cc (is, c.is));
    }
    by_pipe (Some pipe) is =
        let gone = gave_up_ended w a b ended pipe is in record {
          own = subst (λ (o : Option ℕ). OnlyOwnLink a o b None) (sym (ap link_in is)) gone.own;
          ended = ended;
          touches = λ p bytes told c.
              let t = told_after (Releases pipe.link) a.picture b.picture p (ended pipe is).released told in
              let on = c.has.on in (
                t.0,
                t.1,
                only_block_same on.place.block (id_of c.pipe) on.place.nodes (nodes_of c.pipe) p t.0 on.block on.same_nodes
                    (only_block_from-Releases p t.0 c.pipe.link on.place on.told
                    (subst (λ (y : BlockPipeline). Releases y.link p t.0) (pipe_is pipe c.pipe (sym is ∙ c.is)) t.2)),
              );
        }
