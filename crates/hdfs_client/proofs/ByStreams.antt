-- What a stream gives: a piece of its range, and what is left of it.
use Rattle.std.proofs.Common.{◌≡◌, ◌≢◌, ◌+◌, ◌-◌, ◌<◌, ◌≤◌, ◌==◌, ◌||◌, ℕ, Bool, true, false, List, ◌++◌, length, take, drop, Some, Result, Ok, Err, refl, sym, ◌∙◌, ap, subst, arith}
use Rattle.std.specs.Prelude.{IfOk, is_ok}
use Rattle.std.proofs.Math.Seq.{take-add}
use Rattle.std.proofs.lemmas.Bool.{false≢true}
use Rattle.std.proofs.lemmas.Bool.Decides.{Decides-eqb}
use Rattle.std.proofs.lemmas.List.{drop-drop}
use Rattle.hdfs_cluster.specs.declared.errors.HdfsError.{HdfsError}
use Rattle.hdfs_cluster.specs.Reading.{range_of}
use Rattle.hdfs_cluster.specs.Shown.{Shown}
use Rattle.hdfs_namenode.specs.Asked.{ReachesAll}
use Rattle.hdfs_namenode.specs.Clients.{proxy_of}
use Rattle.hdfs_file_reader.specs.Ranges.{Stored}
use Rattle.hdfs_client.specs.Readers.{ReadsRange, blocks_of}
use Rattle.hdfs_client.specs.Streams.{GivesPiece, Streams, behind, end_of, ended, is_over, left_of, next_len, place_of, reader_of}
use Rattle.hdfs_client.specs.declared.client.Client.{Client}
use Rattle.hdfs_client.specs.declared.range_stream.RangeStream.{RangeStream}

-- a stream that isn't over has something left
is_apart : (ended : Bool) (place end : ℕ) → (ended || (place == end)) ≡ false → place ≢ end
is_apart true place end over same = false≢true (sym over)
is_apart false place end over same = false≢true (sym over ∙ (Decides-eqb place end).1 same)

-- a range is its front and its rest
range_split : (content : List ℕ) (place n rest : ℕ) → range_of content place (n + rest) ≡ range_of content place n ++ range_of content (place + n) rest
range_split content place n rest =
    take-add n rest (drop place content) ∙ ap (λ (l : List ℕ). range_of content place n ++ take rest l) (drop-drop n place content)

joined : (content bytes : List ℕ) (place end len : ℕ) → place + len ≤ end → length bytes ≡ len → bytes ≡ range_of content place len
    → range_of content place (end - place) ≡ bytes ++ range_of content (place + length bytes) (end - (place + length bytes))
joined content bytes place end len within count is =
    let rest = end - (place + len) in
    let whole : end - place ≡ len + rest = omega arith in
    ap (range_of content place) whole ∙ range_split content place len rest
    ∙ ap (λ (l : List ℕ). l ++ range_of content (place + len) rest) (sym is)
    ∙ ap (λ (n : ℕ). bytes ++ range_of content (place + n) (end - (place + n))) (sym count)

-- it goes on behind a piece, and ends at an error
pub goes_on : (stream stream' : RangeStream) (piece : Result (List ℕ) HdfsError) (len : ℕ) (read : Bool) → read ≡ is_ok piece → IfOk piece (λ bytes. length bytes ≡ len)
    → (read ≡ true → stream' ≡ record stream { position = place_of stream + len }) → (read ≡ false → stream' ≡ ended stream) → stream' ≡ behind stream piece
goes_on stream stream' (Ok bytes) len read is count on ends =
    on is ∙ ap (λ (n : ℕ). record stream { position = place_of stream + n }) (sym count)
goes_on stream stream' (Err error) len read is count on ends = ends is

module _ (old new : Shown) (client client' : Client) (stream stream' : RangeStream) (streams : Streams stream) (over : is_over stream ≡ false) where
  apart : place_of stream ≢ end_of stream
  apart = is_apart stream.ended (place_of stream) (end_of stream) over

  some_read : (piece : Result (List ℕ) HdfsError) → IfOk piece (λ bytes. length bytes ≡ next_len stream)
      → IfOk piece (λ bytes. (0 < length bytes) × (length bytes ≡ next_len stream))
  some_read (Ok bytes) count =
      let from = streams.from in
      let more : 0 < next_len stream = omega (arith, apart) in
      (subst (λ (n : ℕ). 0 < n) (sym count) more, count)
  some_read (Err error) count = tt

  joins : (piece : Result (List ℕ) HdfsError) (R : Type 0) (S : List ℕ → Type 0) → stream' ≡ behind stream piece → IfOk piece (λ bytes. length bytes ≡ next_len stream)
      → IfOk piece (λ bytes. R → (content : List ℕ) → S content → place_of stream + next_len stream ≤ length content
      → bytes ≡ range_of content (place_of stream) (next_len stream))
      → IfOk piece (λ bytes. R → (content : List ℕ) → S content → end_of stream ≤ length content → left_of stream content ≡ bytes ++ left_of stream' content)
  joins (Ok bytes) R S on count bytes_are = λ reaches content stored within.
      let from = streams.from in
      let inside : place_of stream + next_len stream ≤ end_of stream = omega arith in
      joined content bytes (place_of stream) (end_of stream) (next_len stream) inside count (bytes_are reaches content stored (omega (arith, inside, within)))
      ∙ ap (λ (s : RangeStream). bytes ++ left_of s content) (sym on)
  joins (Err error) R S on count bytes_are = tt

  pub gives_piece : (piece : Result (List ℕ) HdfsError) → ReadsRange old client (reader_of stream) (place_of stream) (next_len stream) piece new client'
      → stream' ≡ behind stream piece → GivesPiece old client stream (Some piece) new client' stream'
  gives_piece piece reads on = record {
    piece = piece;
    is = refl;
    reads = reads;
    some = some_read piece reads.count;
    goes_on = on;
    joins = joins piece (ReachesAll (proxy_of reads.before) old) (Stored old (blocks_of (reader_of stream))) on reads.count reads.bytes;
  }
