-- Calls of a writer of a block, one after another.
use Rattle.std.proofs.Common.{◌≡◌, ℕ, ◌-◌, ◌≤◌, List, [], ◌++◌, length, take, drop, Option, Some, None, IsSome, inl, refl, sym, ◌∙◌, ap, subst, arith, append_assoc, take-append-drop}
use Rattle.std.proofs.lemmas.List.{append-nil, drop-append-le, length-append}
use Rattle.std.specs.List.{slice_index_or}
use Rattle.hdfs_cluster.specs.declared.errors.HdfsError.{HdfsError}
use Rattle.hdfs_cluster.specs.declared.errors.HdfsError.TheVariants as errors
use Rattle.hdfs_cluster.specs.Picture.{Picture}
use Rattle.hdfs_cluster.specs.Pipes.{WriteEnded}
use Rattle.hdfs_cluster.specs.Shown.{Shown}
use Rattle.hdfs_cluster.specs.Writing.{Releases}
use Rattle.hdfs_cluster.proofs.Frames.{told_after}
use Rattle.hdfs_block_reader.specs.Carrying.{joined, total}
use Rattle.hdfs_block_writer.specs.Packing.{filling_of}
use Rattle.hdfs_block_reader.proofs.Links.{holds_longer}
use Rattle.hdfs_block_reader.proofs.Prefixes.{prefix_longer, prefix_short, slices_longer}
use Rattle.hdfs_rebuild.specs.declared.block_plan.BlockPipeline.{BlockPipeline}
use Rattle.hdfs_rebuild.specs.declared.block_plan.RebuildSettings.{RebuildSettings}
use Rattle.hdfs_block_writer.specs.declared.block_writer.BlockWriter.{BlockWriter}
use Rattle.hdfs_block_writer.specs.BlockWriters.{Carries, link_in, link_of, safe_of, start_of}
use Rattle.hdfs_rebuild.specs.Between.{OnlyBlockOf}
use Rattle.hdfs_rebuild.proofs.Stepping.{only_block_of_refl, only_block_of_trans}
use Rattle.hdfs_block_writer.specs.OpenPipelines.{GivesUp, Has, OnlyOwnLink, id_of, nodes_of}
use Rattle.hdfs_block_writer.specs.Written.{Fails, Fills, GaveUp, IsCarrying, Keeps, Wrote}
use Rattle.hdfs_block_writer.proofs.GoingOn.{gives_up_since, keeps_block_refl, keeps_block_trans, since_steady, steady_trans}
use Rattle.hdfs_block_writer.proofs.OwnLinks.{own_link_ended, own_link_refl, own_link_trans}
use Rattle.hdfs_rebuild.specs.Plans.{HasStamp}
use Rattle.hdfs_rebuild.proofs.Resuming.{released_only}

pub keeps_refl : (w : BlockWriter) → Keeps w w
keeps_refl w = record { settings = refl; block_size = refl; chunk = refl; packet_size = refl }

pub keeps_trans : (a b c : BlockWriter) → Keeps a b → Keeps b c → Keeps a c
keeps_trans a b c f g = record {
  settings = g.settings ∙ f.settings;
  block_size = g.block_size ∙ f.block_size;
  chunk = g.chunk ∙ f.chunk;
  packet_size = g.packet_size ∙ f.packet_size;
}

pub pipe_is : (x y : BlockPipeline) → Some x ≡ Some y → x ≡ y
pipe_is x y same = cc same

-- the table has the stamp of one pipeline by each of its names
same_stamp : (p : Picture) (x y : BlockPipeline) → Some x ≡ Some y → HasStamp p x.plan.block.b → HasStamp p y.plan.block.b
same_stamp p x y same s = subst (λ (z : BlockPipeline). HasStamp p z.plan.block.b) (pipe_is x y same) s

-- nothing was taken
pub wrote_refl : (a : Shown) (w : BlockWriter) → Wrote a w [] a w
wrote_refl a w = record {
  keeps = keeps_refl w;
  length = omega arith;
  own = own_link_refl a (link_of w);
  stays = λ pipe is. (pipe, is, keeps_block_refl pipe.plan, inl (refl, refl));
  carries = λ p bytes is c. (
    p,
    is,
    subst (Carries p w) (sym (append-nil bytes)) c,
    only_block_of_refl (id_of c.pipe) p,
    λ one two is_one is_two s. same_stamp p one two (sym is_one ∙ is_two) s,
  );
}

-- some bytes were taken, and what a writer carries then has its block still
module _ (a b : Shown) (w x : BlockWriter) (one : List ℕ) (f : Wrote a w one b x) where
  pub same_id : (pipe pipe' : BlockPipeline) → w.pipe ≡ Some pipe → x.pipe ≡ Some pipe' → id_of pipe' ≡ id_of pipe
  same_id pipe pipe' is is' =
      let s = f.stays pipe is in
      ap (λ (y : BlockPipeline). id_of y) (pipe_is pipe' s.0 (sym is' ∙ s.1)) ∙ s.2.id

  -- what the writer carries then
  pub carries_then : (p : Picture) → a.picture ≡ Some p → (pipe : BlockPipeline) → w.pipe ≡ Some pipe → IsCarrying w p
      → (q : Picture) × (b.picture ≡ Some q) × IsCarrying x q × OnlyBlockOf (id_of pipe) p q
  carries_then p told pipe is c =
      let m = f.carries p c.0 told c.1 in
      (m.0, m.1, (c.0 ++ one, m.2), subst (λ (y : BlockPipeline). OnlyBlockOf (id_of y) p m.0) (pipe_is c.1.pipe pipe (sym c.1.is ∙ is)) m.3)

  -- and more, or a failure, came then
  module _ (c : Shown) where
    pub wrote_trans : (y : BlockWriter) (two : List ℕ) → Wrote b x two c y → Wrote a w (one ++ two) c y
    wrote_trans y two g = record {
      keeps = keeps_trans w x y f.keeps g.keeps;
      length = omega (arith, f.length, g.length, length-append one two);
      own = own_link_trans a b c (link_of w) (link_of x) (link_of y) f.own g.own;
      stays = λ pipe is.
          let s = f.stays pipe is in
          let t = g.stays s.0 s.1 in (
            t.0,
            t.1,
            keeps_block_trans pipe.plan s.0.plan t.0.plan s.2 t.2,
            steady_trans a b c pipe s.0 t.0 f.own.later g.own.later s.3 t.3,
          );
      carries = λ p bytes told carried.
          let m = f.carries p bytes told carried in
          let n = g.carries m.0 (bytes ++ one) m.1 m.2 in (
            n.0,
            n.1,
            subst (Carries n.0 y) (append_assoc bytes one two) n.2,
            only_block_of_trans (id_of carried.pipe) p m.0 n.0 m.3
                (subst (λ (i : ℕ). OnlyBlockOf i m.0 n.0) (same_id carried.pipe m.2.pipe carried.is m.2.is) n.3),
            λ first then is_first is_then s.
                (let mid = f.stays first is_first in
                n.4 mid.0 then mid.1 is_then (m.4 first mid.0 is_first mid.1 s)),
          );
    }

    pub gave_up_after : (error : HdfsError) → GaveUp b x error c → GaveUp a w error c
    gave_up_after error g pipe is =
        let s = f.stays pipe is in
        let u = g s.0 s.1 in
        let own : OnlyOwnLink a (Some pipe.link) b (Some s.0.link) =
        subst (λ (o : Option ℕ). OnlyOwnLink a o b (Some s.0.link)) (ap link_in is)
        (subst (λ (o : Option ℕ). OnlyOwnLink a (link_of w) b o) (ap link_in s.1) f.own) in
        gives_up_since w.settings pipe s.0 (IsCarrying w) (IsCarrying x) a b c (since_steady a b pipe s.0 f.own.later s.3) s.2 own
        (λ p told carried. carries_then p told pipe is carried) error
        (subst (λ (k : RebuildSettings). GivesUp k s.0 (IsCarrying x) b error c) f.keeps.settings u)

    pub fails_after : (y : BlockWriter) (error : HdfsError) → Fails b x error c y → Fails a w error c y
    fails_after y error g = record { failed = g.failed; keeps = keeps_trans w x y f.keeps g.keeps; gave_up = gave_up_after error g.gave_up }

-- a link was ended for want of memory, or since the writer is let go
pub gave_up_ended : (w : BlockWriter) (a b : Shown) → ((pipe : BlockPipeline) → w.pipe ≡ Some pipe → WriteEnded a pipe.link b)
    → GaveUp a w errors.NoMemory b
gave_up_ended w a b ended pipe is =
    let gone = ended pipe is in record {
      own = own_link_ended a b pipe.link gone;
      cause = tt;
      touches = λ p told carried.
          let c = carried.1 in
          let same = pipe_is c.pipe pipe (sym c.is ∙ is) in
          let t = told_after (Releases pipe.link) a.picture b.picture p gone.released told in
          let on = c.has.on in (
            t.0,
            t.1,
            subst (λ (y : BlockPipeline). OnlyBlockOf (id_of y) p t.0) same
                (released_only (id_of c.pipe) c.pipe.link p t.0 on.place on.told on.block
                (subst (λ (y : BlockPipeline). Releases y.link p t.0) (sym same) t.2)),
          );
    }

-- The link was ended for want of memory, once some bytes were taken into the packet.
pub ended_fails : (w x y : BlockWriter) (a b : Shown) → x.pipe ≡ w.pipe → Keeps w x → y ≡ record x { pipe = None; packet = None }
    → ((pipe : BlockPipeline) → x.pipe ≡ Some pipe → WriteEnded a pipe.link b) → Fails a w errors.NoMemory b y
ended_fails w x y a b same keeps is ended = record {
  failed = ap (λ (v : BlockWriter). v.pipe) is;
  keeps = record {
    settings = ap (λ (v : BlockWriter). v.settings) is ∙ keeps.settings;
    block_size = ap (λ (v : BlockWriter). v.block_size) is ∙ keeps.block_size;
    chunk = ap (λ (v : BlockWriter). v.chunk) is ∙ keeps.chunk;
    packet_size = ap (λ (v : BlockWriter). v.packet_size) is ∙ keeps.packet_size;
  };
  gave_up = gave_up_ended w a b (λ pipe there. ended pipe (same ∙ there));
}

-- what a block has over a pipeline stays with more bytes behind, which weren't sent
pub has_longer : (p : Picture) (pipe : BlockPipeline) (safe : ℕ) (bytes more : List ℕ) → Has p pipe [] safe bytes → Has p pipe [] safe (bytes ++ more)
has_longer p pipe safe bytes more h = record {
  file = h.file;
  on = holds_longer p pipe.link (id_of pipe) (nodes_of pipe) safe bytes h.on more;
  lists = record {
    entry = h.lists.entry;
    is = h.lists.is;
    same_nodes = h.lists.same_nodes;
    prefixes = λ k d lt.
        (let held = p.held (slice_index_or (nodes_of pipe) k d) (id_of pipe) in
        let is = h.lists.prefixes k d lt in
        prefix_longer bytes more held (prefix_short bytes held is) is);
  };
  settles = h.settles;
  slices = slices_longer bytes more (pipe.core.pushed ++ []) safe h.slices;
}

-- bytes went into the packet
pub fill_wrote : (a : Shown) (w x : BlockWriter) (more : List ℕ) → length (filling_of w.packet) ≤ w.length → Fills w more x → Wrote a w more a x
fill_wrote a w x more filled f = record {
  keeps = f.keeps;
  length = f.length;
  own = subst (λ (o : Option ℕ). OnlyOwnLink a (link_of w) a o) (sym (ap link_in f.pipe)) (own_link_refl a (link_of w));
  stays = λ pipe is. (pipe, f.pipe ∙ is, keeps_block_refl pipe.plan, inl (refl, refl));
  carries = λ p bytes is c. (
    p,
    is,
    carries p bytes c,
    only_block_of_refl (id_of c.pipe) p,
    λ one two is_one is_two s. same_stamp p one two (sym is_one ∙ sym f.pipe ∙ is_two) s,
  );
}
  where
    start : start_of w ≡ start_of x
    start = omega (arith, f.length, ap length f.filling, length-append (filling_of w.packet) more, filled)

    carries : (p : Picture) (bytes : List ℕ) → Carries p w bytes → Carries p x (bytes ++ more)
    carries p bytes c =
        let safe : safe_of w c.pipe ≡ safe_of x c.pipe = ap (λ (n : ℕ). n - total c.pipe.core.pushed) start in
        let within : safe_of w c.pipe ≤ length bytes = omega (arith, c.counted) in
        record {
          pipe = c.pipe;
          is = f.pipe ∙ c.is;
          counted = omega (arith, f.length, c.counted, length-append bytes more);
          kept =
              ap (λ (l : List ℕ). joined c.pipe.core.pushed ++ l) f.filling
              ∙ sym (append_assoc (joined c.pipe.core.pushed) (filling_of w.packet) more)
              ∙ ap (λ (l : List ℕ). l ++ more) c.kept
              ∙ sym (drop-append-le (safe_of w c.pipe) bytes more within)
              ∙ ap (λ (n : ℕ). drop n (bytes ++ more)) safe;
          has = subst (λ (n : ℕ). Has p c.pipe [] n (bytes ++ more)) safe (has_longer p c.pipe (safe_of w c.pipe) bytes more c.has);
        }

-- a writer that took bytes has its pipeline still
pub some_after : (a b : Shown) (w x : BlockWriter) (more : List ℕ) → Wrote a w more b x → IsSome w.pipe → IsSome x.pipe
some_after a b w x more f some = of_pipe w.pipe refl some
  where
    of_pipe : (o : Option BlockPipeline) → w.pipe ≡ o → IsSome o → IsSome x.pipe
    of_pipe None is none = absurd (cc none)
    of_pipe (Some pipe) is here = subst IsSome (sym (f.stays pipe is).1) refl

-- the bytes that were taken, and a piece of those that are left
pub pieces_join : (bytes rest one : List ℕ) (n : ℕ) → bytes ≡ one ++ rest → bytes ≡ (one ++ take n rest) ++ drop n rest
pieces_join bytes rest one n is =
    is ∙ ap (λ (l : List ℕ). one ++ l) (sym (take-append-drop n rest)) ∙ sym (append_assoc one (take n rest) (drop n rest))
