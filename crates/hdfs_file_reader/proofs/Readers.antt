-- What calls of a block's reader keep, joined, and a reader that begins.
use Rattle.std.proofs.lemmas.List.{append_assoc}
use Rattle.std.proofs.Common.{◌≡◌, inr, ⊎_elim, ℕ, ◌+◌, ◌-◌, ◌<◌, ◌≤◌, List, [], ◌++◌, length, None, sym, ◌∙◌, ap, subst, arith}
use Rattle.hdfs_cluster.specs.declared.messages.LocatedBlock.{LocatedBlock}
use Rattle.hdfs_cluster.specs.declared.errors.HdfsError.{HdfsError}
use Rattle.hdfs_cluster.specs.declared.errors.HdfsError.TheVariants as errors
use Rattle.hdfs_cluster.specs.declared.errors.TransferFault.TheVariants as transfer
use Rattle.hdfs_cluster.specs.Counts.{FaultCounts}
use Rattle.hdfs_cluster.specs.Shown.{Shown, SameLinks, SamePlaces, SameWrites}
use Rattle.hdfs_cluster.specs.Reading.{range_of}
use Rattle.hdfs_cluster.proofs.Frames.{told_weaker, told_both}
use Rattle.hdfs_block_reader.specs.Going.{Frame}
use Rattle.hdfs_block_reader.specs.Reader.{block_of, wanted_of, end_of, link_of, given_up_of, OthersStay, Keeps, Reads, ShowsBlock, Over, AllBlamed}
use Rattle.hdfs_block_reader.specs.declared.block_read.BlockRead.{BlockRead}
use Rattle.hdfs_block_reader.specs.declared.given_up.GivenUp.{GivenUp}
use Rattle.hdfs_block_reader.proofs.Joining.{frame_trans, reads_joined, some_or_none}
use Rattle.hdfs_block_reader.proofs.Starting.{shows_new, over_new}
use Rattle.hdfs_file_reader.specs.Ranges.{HoldsBlock, FailsAt, LiesIn}

frame_of : (s t : Shown) (q r : BlockRead) → Keeps s t q r → Frame s t q r
frame_of s t q r k = record {
  block = k.block;
  client = k.client;
  wanted = k.wanted;
  end = k.end;
  only = k.only;
  others = k.others;
  places = k.places;
  own = k.own;
  asks = k.asks;
  frees = k.frees;
  holds = k.stands.holds;
}

module _ (s t u : Shown) (q r w : BlockRead) where
  pub keeps_trans : Keeps s t q r → Keeps t u r w → Keeps s u q w
  keeps_trans f g =
      let joined = frame_trans s t u q r w (frame_of s t q r f) (frame_of t u r w g) in
      record {
        block = joined.block;
        client = joined.client;
        wanted = joined.wanted;
        end = joined.end;
        given_up = (f.given_up.0 ++ g.given_up.0, g.given_up.1 ∙ ap (λ (l : List GivenUp). l ++ g.given_up.0) f.given_up.1 ∙ append_assoc (given_up_of q) f.given_up.0 g.given_up.0);
        only = joined.only;
        others = joined.others;
        places = joined.places;
        own = joined.own;
        asks = joined.asks;
        frees = joined.frees;
        stands = g.stands;
      }

  pub reads_trans : Keeps s t q r → Keeps t u r w → Reads s t q r → Reads t u r w → Reads s u q w
  reads_trans k l f g = reads_joined s t u q r w (frame_of s t q r k) f g

-- a reader that keeps no link before and after leaves all links
pub links_from-Keeps : (s t : Shown) (r r' : BlockRead) → Keeps s t r r' → link_of r ≡ None → link_of r' ≡ None → SameLinks s t
links_from-Keeps s t r r' k before after = record {
  links = λ link. ⊎_elim (λ some. k.others link (λ its. cc (before, its)) some) (λ none. k.frees link (λ its. cc (after, its)) (inr none) ∙ sym none) (some_or_none (s.reads link));
  writes = k.only.writes;
  places = told_weaker (λ p q. OthersStay s r p q × SameWrites p q) (SamePlaces s) s.picture t.picture (λ p q both. (λ link is. both.0 link (λ its. cc (before, its)) is, both.1))
      (told_both (OthersStay s r) SameWrites s.picture t.picture k.places k.only.places);
}

-- a new reader
module _ (s : Shown) (r : BlockRead) (block : LocatedBlock) (offset len : ℕ) (same : block_of r ≡ block) (wanted : wanted_of r ≡ offset) (end : end_of r ≡ offset + len) (idle : link_of r ≡ None) (new : given_up_of r ≡ []) where
  shows_held : (g : List ℕ) → HoldsBlock s block g → offset + len ≤ length g → ShowsBlock s r g
  shows_held g holds within =
      let here = subst (λ (b : LocatedBlock). HoldsBlock s b g) (sym same) holds in
      shows_new s r g here.picture idle here.told (omega (arith, end, within)) here.prefixes

  pub bytes_new : (out0 out' : List ℕ) → ((g : List ℕ) → ShowsBlock s r g → out' ≡ out0 ++ range_of g (wanted_of r) (end_of r - wanted_of r))
      → (g : List ℕ) → HoldsBlock s block g → offset + len ≤ length g → out' ≡ out0 ++ range_of g offset len
  bytes_new out0 out' h g holds within =
      let long : end_of r - wanted_of r ≡ len = omega (arith, end, wanted) in
      h g (shows_held g holds within) ∙ ap (λ (w : ℕ). out0 ++ range_of g w (end_of r - wanted_of r)) wanted ∙ ap (λ (n : ℕ). out0 ++ range_of g offset n) long

  pub cause_new : (s' : Shown) → ((start : FaultCounts) (g : List ℕ) → Over start s r g → AllBlamed start s' (block_of r) g)
      → (g : List ℕ) → HoldsBlock s block g → offset + len ≤ length g → AllBlamed s.counts s' block g
  cause_new s' h g holds within =
      subst (λ (b : LocatedBlock). AllBlamed s.counts s' b g) same (h s.counts g (over_new s r g idle (ap length new) (shows_held g holds within)))

-- a byte of one kind is one of another: an error names it that names any
pub fails_weaker : (P Q : ℕ → Type 0) (e : HdfsError) → ((byte : ℕ) → P byte → Q byte) → FailsAt P e → FailsAt Q e
fails_weaker P Q errors.NoMemory more h = tt
fails_weaker P Q (errors.DataTransferError (transfer.Read byte)) more h = more byte h
fails_weaker P Q e more h = absurd h

-- a byte of what is left of a range is one of what was left of it before
pub fails_from : (r q : BlockRead) (e : HdfsError) → wanted_of q ≤ wanted_of r → end_of r ≡ end_of q → FailsAt (λ byte. (wanted_of r ≤ byte) × (byte < end_of r)) e → FailsAt (λ byte. (wanted_of q ≤ byte) × (byte < end_of q)) e
fails_from r q e on end =
    fails_weaker (λ byte. (wanted_of r ≤ byte) × (byte < end_of r)) (λ byte. (wanted_of q ≤ byte) × (byte < end_of q)) e
    (λ byte h. (omega (arith, on, h.0), omega (arith, end, h.1)))

-- a byte of a block's part of a range shows that there is one
pub fails_somewhere : (block : LocatedBlock) (from end : ℕ) (e : HdfsError) → FailsAt (LiesIn block from end) e → FailsAt (λ byte. from < end) e
fails_somewhere block from end e = fails_weaker (LiesIn block from end) (λ byte. from < end) e (λ byte h. omega (arith, h.behind, h.before))
