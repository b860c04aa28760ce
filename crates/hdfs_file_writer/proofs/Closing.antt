-- A writer asks until its file is closed, which a namenode may fail to do so many times.
use Rattle.std.proofs.Common.{◌≡◌, ◌≢◌, ◌⊎◌, ⊎_elim, inl, inr, ℕ, suc, ◌+◌, ◌<◌, ◌≤◌, List, Option, Some, None, refl, sym, ◌∙◌, ap, subst, arith, zero}
use Rattle.std.specs.Prelude.{Result, Ok, Err, true, false}
use Rattle.hdfs_cluster.specs.declared.asks.Answer.{Answer}
use Rattle.hdfs_cluster.specs.declared.asks.Ask.{Ask}
use Rattle.hdfs_cluster.specs.declared.errors.HdfsError.{HdfsError}
use Rattle.hdfs_cluster.specs.declared.asks.Answer.TheVariants as answers
use Rattle.hdfs_cluster.specs.Asks.{complete_ask}
use Rattle.hdfs_cluster.specs.declared.errors.HdfsError.TheVariants as errors
use Rattle.hdfs_cluster.specs.declared.picture.LastAnswer.TheVariants as last_answers
use Rattle.hdfs_cluster.specs.Failures.{CallsRose}
use Rattle.hdfs_cluster.specs.Counts.{CallsRoseTimes, FaultCounts, NeverFall, Rose}
use Rattle.hdfs_cluster.specs.Effects.{blocks_at}
use Rattle.hdfs_cluster.specs.Picture.{Picture}
use Rattle.hdfs_cluster.specs.Repeating.{Leaves}
use Rattle.hdfs_cluster.specs.Shown.{SameNodes, Shown}
use Rattle.hdfs_cluster.specs.Files.{File}
use Rattle.hdfs_cluster.specs.Sound.{IsSound}
use Rattle.hdfs_cluster.specs.Stores.{AgreesAt}
use Rattle.hdfs_cluster.proofs.Frames.{never_fall_refl}
use Rattle.hdfs_namenode.specs.Relaying.{Came, RelaysTold}
use Rattle.hdfs_file_writer.specs.declared.file_writer.FileWriter.{FileWriter}
use Rattle.hdfs_file_writer.specs.OnlyFiles.{OnlyFile}
use Rattle.hdfs_file_writer.specs.Tails.{FileCarries, last_of}
use Rattle.hdfs_file_writer.specs.declared.tails.Tail.{Tail}
use Rattle.hdfs_file_writer.specs.WholeBlocks.{ClosesWhole}
use Rattle.hdfs_file_writer.specs.Writers.{blocks_in, tail_done, tail_of, IsBetweenBlocks, link_of, OnlyOwnLink, Closed, FailsToClose}
use Rattle.hdfs_file_writer.proofs.Blocks.{tail_between}
use Rattle.hdfs_file_writer.proofs.Completing.{IsAsked, complete_again, only_asked, says_closed, says_not, says_nothing, says_rose}
use Rattle.hdfs_file_writer.proofs.Growing.{closed_agrees}
use Rattle.hdfs_file_writer.proofs.Joining.{calls_since, tells_since, tells_close}
use Rattle.hdfs_file_writer.proofs.Moving.{own_link_refl, own_link_trans, own_link_left, only_file_refl}
use Rattle.hdfs_file_writer.proofs.Steps.{Shows, as_done}
use Rattle.hdfs_file_writer.proofs.LastBlocks.{no_link}
use Rattle.hdfs_file_writer.proofs.Tallying.{no_limit}
use Rattle.hdfs_file_writer.proofs.Telling.{tells_asked, apart_asked, asked_cause}
use Rattle.hdfs_cluster.proofs.Failures.{times_fall}

-- once more
pub times_more : (namenodes times : ℕ) (a b c : FaultCounts) → CallsRoseTimes namenodes times a b → NeverFall b c
    → (i : ℕ) → i < namenodes → Rose (b.calls i) (c.calls i) → CallsRoseTimes namenodes (suc times) a c
times_more namenodes times a b c h fall i below rose = (b, h, fall, (i, below, rose))

-- as often at least
pub times_enough : (namenodes least times : ℕ) (a b : FaultCounts) → least ≤ times → CallsRoseTimes namenodes times a b → CallsRoseTimes namenodes least a b
times_enough namenodes zero times a b enough h = times_fall namenodes times a b h
times_enough namenodes (suc least) zero a b enough h = absurd (omega (arith, enough))
times_enough namenodes (suc least) (suc times) a b enough h = (h.0, times_enough namenodes least times a h.0 (omega (arith, enough)) h.1, h.2, h.3)

-- So many answers were false, each of which says that a namenode has failed, over any cluster, and no datanode has; and the file is closed, or
-- not yet.
pub record Asking (tries : ℕ) (a : Shown) (w : FileWriter) (b : Shown) : Type 0 where
  pub own : OnlyOwnLink a None b None
  pub last : (tries ≡ 0) ⊎ (b.last ≡ last_answers.Fine)
  pub times : CallsRoseTimes a.namenodes tries a.counts b.counts
  pub nodes : SameNodes a b
  pub told : (p : Picture) (bytes : List ℕ) → a.picture ≡ Some p → (c : FileCarries p w.path (tail_done (last_of w.tail)) bytes)
      → (q : Picture) × (b.picture ≡ Some q) × IsAsked p w.path bytes (last_of w.tail) c.file q

module _ {a b : Shown} {w : FileWriter} (between : IsBetweenBlocks w) (sound : Shows IsSound b) {tries : ℕ} (asking : Asking tries a w b) where
  own_link : (x : Shown) → OnlyOwnLink a None x None → OnlyOwnLink a (link_of w) x None
  own_link x own = subst (λ (l : Option ℕ). OnlyOwnLink a l x None) (sym (no_link w.tail between.none)) own

  -- what is known of what the writer carries
  known : (p : Picture) (bytes : List ℕ) → a.picture ≡ Some p → FileCarries p w.path (tail_of w) bytes → FileCarries p w.path (tail_done (last_of w.tail)) bytes
  known p bytes told c = as_done w between p w.path bytes c

  -- there was no memory for the error
  pub no_memory : FailsToClose a w errors.NoMemory b
  no_memory = record {
    own = own_link b asking.own;
    tells = (tt, (tt, tt));
    limit = λ start n is fails. absurd (cc is);
    touches = λ p bytes told c.
        (let c' = known p bytes told c in
        let f = asking.told p bytes told c' in
        (f.0, f.1, only_asked p w.path bytes (last_of w.tail) c'.file f.0 f.2));
    cause = λ p bytes told c. tt;
  }

  -- five answers were false
  pub not_closed : tries ≢ 0 → 5 ≤ tries → FailsToClose a w (errors.OperationFailed w.path) b
  not_closed some enough = record {
    own = own_link b asking.own;
    tells = (
      refl,
      (
        ⊎_elim (λ first. absurd (some first)) (λ fine. fine) asking.last,
        subst (λ (n : ℕ). CallsRoseTimes n 5 a.counts b.counts) (sym asking.own.later.namenodes)
            (times_enough a.namenodes 5 tries a.counts b.counts enough asking.times),
      ),
    );
    limit = λ start n is fails. absurd (cc is);
    touches = no_memory.touches;
    cause = λ p bytes told c. tt;
  }

  module _ (c : Shown) (client : List ℕ) where
    abbrev completing : Ask
    completing = complete_ask w.path client (last_of w.tail) w.file_id

    own_asked : Leaves b c → OnlyOwnLink a None c None
    own_asked left = own_link_trans a b c None None None asking.own (own_link_left b c None left)

    -- what one more ask comes to where the writer carries its file
    asked_more : (result : Result Answer HdfsError) → Came b completing result c → (p : Picture) (bytes : List ℕ) → a.picture ≡ Some p
        → (carried : FileCarries p w.path (tail_done (last_of w.tail)) bytes)
        → (q : Picture) × (r : Picture) × (c.picture ≡ Some r) × IsSound q × IsAsked p w.path bytes (last_of w.tail) carried.file q
        × RelaysTold (CallsRose b.counts c) q completing result r
    asked_more result came p bytes told carried =
        let f = asking.told p bytes told carried in
        let t = came.told f.0 f.1
        (complete_again (CallsRose b.counts c) p w.path bytes (last_of w.tail) carried.file client w.file_id f.0 (sound f.0 f.1) f.2) in
        (f.0, t.0, t.1, sound f.0 f.1, f.2, t.2)

    rises_below : (i : ℕ) → i < c.namenodes → Leaves b c → i < a.namenodes
    rises_below i low left = omega (arith, low, left.later.namenodes, asking.own.later.namenodes)

    rises_once : Leaves b c → CallsRose b.counts c → CallsRoseTimes a.namenodes (suc tries) a.counts c.counts
    rises_once left rose = times_more a.namenodes tries a.counts b.counts c.counts asking.times left.later.counts rose.0 (rises_below rose.0 rose.1 left) rose.2

    -- no ask makes a datanode fail
    pub asked_nodes : (result : Result Answer HdfsError) → Came b completing result c → SameNodes a c
    asked_nodes result came d = came.relays.leaves.nodes d ∙ asking.nodes d

    -- one more was false
    pub asked_false : Came b completing (Ok (answers.Complete false)) c → Asking (tries + 1) a w c
    asked_false came = record {
      own = own_asked came.relays.leaves;
      last = inr came.relays.fine;
      times =
          let one : suc tries ≡ tries + 1 = omega arith in
          subst (λ (n : ℕ). CallsRoseTimes a.namenodes n a.counts c.counts) one (rises_once came.relays.leaves (came.relays.denied refl));
      nodes = asked_nodes (Ok (answers.Complete false)) came;
      told = λ p bytes told carried.
          (let m = asked_more (Ok (answers.Complete false)) came p bytes told carried in
          let says = says_not (CallsRose b.counts c) p w.path bytes (last_of w.tail) carried.file client w.file_id m.0 m.3 m.1 m.4 m.5 in
          (m.1, m.2, says.1));
    }

    -- what it comes to that the file is closed, where its last block stands so
    abbrev ClosesTail : Tail → Type 0
    ClosesTail tail =
        (p : Picture) (bytes : List ℕ) → a.picture ≡ Some p → (carried : FileCarries p w.path tail bytes)
        → (q : Picture) × (c.picture ≡ Some q) × OnlyFile w.path p q
        × AgreesAt q (q.names w.path) (Some (File (record { bytes = bytes; attributes = carried.file.attributes })))
        × ClosesWhole w.sizes.block_size p (blocks_in p w) tail q (blocks_in q w)

    closes_done : Came b completing (Ok (answers.Complete true)) c → ClosesTail (tail_done (last_of w.tail))
    closes_done came p bytes told carried =
        let m = asked_more (Ok (answers.Complete true)) came p bytes told carried in
        let closed = says_closed (CallsRose b.counts c) p w.path bytes (last_of w.tail) carried.file client w.file_id m.0 m.3 m.1 m.4 m.5 in (
          m.1,
          m.2,
          closed.only,
          closed_agrees p m.1 w.path bytes (last_of w.tail) carried.file closed,
          subst (λ (l : List ℕ). ClosesWhole w.sizes.block_size p l (tail_done (last_of w.tail)) m.1 (blocks_in m.1 w)) (sym (ap blocks_at carried.named))
              (subst (ClosesWhole w.sizes.block_size p carried.file.blocks (tail_done (last_of w.tail)) m.1) (sym (ap blocks_at closed.named))
              (closed.done w.sizes.block_size)),
        )

    -- the file is closed
    pub asked_true : Came b completing (Ok (answers.Complete true)) c → Closed a w c
    asked_true came = record {
      own = own_link c (own_asked came.relays.leaves);
      closes = subst ClosesTail (sym (tail_between w between)) (closes_done came);
    }

    -- there was no answer
    pub asked_error : (error : HdfsError) → Came b completing (Err error) c → FailsToClose a w error c
    asked_error error came = record {
      own = own_link c (own_asked came.relays.leaves);
      tells =
          tells_close w.path a c error (apart_asked error came.relays.tells.0)
          (tells_since a b c error asking.own.later (tells_asked b c error came.relays.tells));
      limit = λ start n is fails. absurd (no_limit came.relays.tells.0 is);
      touches = λ p bytes told carried.
          (let c' = known p bytes told carried in
          let m = asked_more (Err error) came p bytes told c' in
          (m.1, m.2, says_nothing (CallsRose b.counts c) p w.path bytes (last_of w.tail) c'.file client w.file_id m.0 m.3 m.1 error m.4 m.5));
      cause = λ p bytes told carried. asked_cause w.sizes w.path a b c error came.relays.tells (λ some.
          (let c' = known p bytes told carried in
          let m = asked_more (Err error) came p bytes told c' in
          calls_since a b c asking.own.later
          (says_rose (CallsRose b.counts c) p w.path bytes (last_of w.tail) c'.file client w.file_id m.0 m.3 m.1 error some m.4 m.5)));
    }

-- before the first ask
pub asks_first : (a : Shown) (w : FileWriter) → Asking 0 a w a
asks_first a w = record {
  own = own_link_refl a None;
  last = inl refl;
  times = never_fall_refl a.counts;
  nodes = λ d. refl;
  told = λ p bytes told c. (p, told, inl (record { kept = λ id. (refl, λ node. refl); only = only_file_refl w.path p; carried = c; same = refl }));
}
