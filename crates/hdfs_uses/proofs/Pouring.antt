-- What was poured so far, and what is left of a stream.
use Rattle.std.proofs.Common.{◌≡◌, ℕ, ◌+◌, ◌==◌, ◌||◌, Bool, true, false, List, [], ◌++◌, length, Some, Result, Ok, Err, refl, sym, ◌∙◌, ap, subst, arith, length-append}
use Rattle.std.specs.Prelude.{OnOk}
use Rattle.std.proofs.lemmas.Bool.{false≢true}
use Rattle.std.proofs.lemmas.Bool.Decides.{Decides-eqb}
use Rattle.hdfs_cluster.specs.declared.errors.HdfsError.{HdfsError}
use Rattle.hdfs_cluster.specs.Shown.{Shown}
use Rattle.hdfs_file_writer.specs.Writers as files
use Rattle.hdfs_file_writer.specs.declared.file_writer.FileWriter as inner
use Rattle.hdfs_client.specs.Readers.{length_of}
use Rattle.hdfs_client.specs.Streams.{GivesPiece, IsStreamOf, behind, end_of, is_ended, is_over, place_of, reader_of}
use Rattle.hdfs_client.specs.Writing.{GoesOn, open_of}
use Rattle.hdfs_client.specs.declared.client.Client.{Client}
use Rattle.hdfs_client.specs.declared.file_reader.FileReader.{FileReader}
use Rattle.hdfs_client.specs.declared.range_stream.RangeStream.{RangeStream}
use Rattle.hdfs_client.specs.declared.writing.FileWriter.{FileWriter}
use Rattle.hdfs_uses.specs.Copying.{Fills, Pours, PoursAll, PoursOne, nothing, piece}

-- these bytes were poured so far, and the stream is behind them
pub record PouredSoFar (client : Client) (old : Shown) (stream : RangeStream) (writer : FileWriter) (client' : Client) (new : Shown) (stream' : RangeStream)
    (writer' : FileWriter) : Type 0 where
  pub bytes : List ℕ
  pub pours : Pours client old stream writer bytes client' new stream' writer'
  pub at : place_of stream' ≡ place_of stream + length bytes
  pub to : end_of stream' ≡ end_of stream
  pub of : reader_of stream' ≡ reader_of stream

pub poured_none : (client : Client) (old : Shown) (stream : RangeStream) (writer : FileWriter) → PouredSoFar client old stream writer client old stream writer
poured_none client old stream writer = record { bytes = []; pours = nothing; at = omega arith; to = refl; of = refl }

-- the stream behind a piece that was read
pub on_by : {old new : Shown} {client client' : Client} {stream stream' : RangeStream} {bytes : List ℕ}
    → GivesPiece old client stream (Some (Ok bytes)) new client' stream' → stream' ≡ behind stream (Ok bytes)
on_by {old} {new} {client} {client'} {stream} {stream'} {bytes} gives =
    let same : gives.piece ≡ Ok bytes = cc (gives.is) in
    gives.goes_on ∙ ap (behind stream) same

-- it is over where it wasn't ended and has given its range
is_end : (ended : Bool) (place end : ℕ) → ended ≡ false → (ended || (place == end)) ≡ true → place ≡ end
is_end true place end fine over = absurd (false≢true (sym fine))
is_end false place end fine over = (Decides-eqb place end).0 over

module _ {client : Client} {old : Shown} {stream : RangeStream} {writer : FileWriter} {client1 : Client} {shown1 : Shown} {stream1 : RangeStream} {writer1 : FileWriter} where
  pub poured_all : PouredSoFar client old stream writer client1 shown1 stream1 writer1 → is_ended stream1 ≡ false → is_over stream1 ≡ true
      → PoursAll client old stream writer client1 shown1 stream1 writer1
  poured_all so fine over =
      let at = so.at in
      let to = so.to in
      let end = is_end (is_ended stream1) (place_of stream1) (end_of stream1) fine over in
      record { bytes = so.bytes; pours = so.pours; over = over; all = omega (arith, at, to, end) }

  -- a piece more
  pub poured_more : {client3 : Client} {shown3 : Shown} {stream2 : RangeStream} {writer2 : FileWriter}
      → PouredSoFar client old stream writer client1 shown1 stream1 writer1 → PoursOne client1 shown1 stream1 writer1 shown3 stream2 writer2
      → PouredSoFar client old stream writer client3 shown3 stream2 writer2
  poured_more {client3} {shown3} {stream2} {writer2} so one =
      let on : stream2 ≡ behind stream1 (Ok one.bytes) = on_by one.gives in
      let at = so.at in
      record {
        bytes = so.bytes ++ one.bytes;
        pours = piece so.bytes client1 shown1 stream1 writer1 one.bytes one.client' one.between stream2 writer2 client3 shown3 so.pours one.gives one.wrote;
        at = ap place_of on ∙ omega (arith, at, length-append so.bytes one.bytes);
        to = ap end_of on ∙ so.to;
        of = ap reader_of on ∙ so.of;
      }

-- one piece
pub pours_one : (client client' : Client) (old between new : Shown) (stream stream' : RangeStream) (writer writer' : FileWriter) (given : Result (List ℕ) HdfsError)
    (result : Result (Unit {0}) HdfsError) → GivesPiece old client stream (Some given) between client' stream'
    → OnOk result ((bytes : List ℕ) × (given ≡ Ok bytes) × GoesOn (λ file file'. files.Wrote between file bytes new file') writer writer')
    → OnOk result (PoursOne client old stream writer new stream' writer')
pours_one client client' old between new stream stream' writer writer' given (Ok value) gives had = record {
  bytes = had.0;
  client' = client';
  between = between;
  gives = subst (λ (r : Result (List ℕ) HdfsError). GivesPiece old client stream (Some r) between client' stream') had.1 gives;
  wrote = had.2;
}
pours_one client client' old between new stream stream' writer writer' given (Err error) gives had = tt

-- all of a file was poured, and the new one closed
pub fills_by : (reader : FileReader) (client client' : Client) (old last new : Shown) (stream stream' : RangeStream) (writer writer' : FileWriter) (len : ℕ)
    → len ≡ length_of reader → IsStreamOf reader 0 len stream → PoursAll client old stream writer client' last stream' writer'
    → ((file : inner.FileWriter) → open_of writer' ≡ Some file → files.Closed last file new) → (bytes : List ℕ) × Fills reader client old writer bytes new
fills_by reader client client' old last new stream stream' writer writer' len is of all closed =
    let at = of.from in
    let to = of.to in
    let so = all.all in (
      all.bytes,
      record {
        stream = stream;
        of = subst (λ (n : ℕ). IsStreamOf reader 0 n stream) is of;
        client' = client';
        last = last;
        stream' = stream';
        writer' = writer';
        pours = all.pours;
        over = all.over;
        all = omega (arith, at, to, so, is);
        closed = closed;
      },
    )
