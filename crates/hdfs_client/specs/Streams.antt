-- Ranges of files that are given piece by piece, and ranges that are read into a caller's bytes.
use Rattle.std.specs.Prelude.{◌≡◌, ◌+◌, ◌-◌, ◌<◌, ◌≤◌, ◌==◌, ◌||◌, ℕ, Bool, true, false, min, List, ◌++◌, length, drop, Option, Some, Result, Ok, Err, IfOk}
use Rattle.hdfs_cluster.specs.declared.errors.HdfsError.{HdfsError}
use Rattle.hdfs_cluster.specs.Reading.{range_of}
use Rattle.hdfs_cluster.specs.Shown.{Shown}
use Rattle.hdfs_namenode.specs.Asked.{ReachesAll}
use Rattle.hdfs_namenode.specs.Clients.{proxy_of}
use Rattle.hdfs_file_reader.specs.Ranges.{Stored}
use Rattle.hdfs_client.specs.Readers.{ReadsRange, Stands, blocks_of, length_of}
use Rattle.hdfs_client.specs.declared.client.Client.{Client}
use Rattle.hdfs_client.specs.declared.file_reader.FileReader.{FileReader}
use Rattle.hdfs_client.specs.declared.range_stream.RangeStream.{RangeStream}

-- the reader of the file
abbrev pub reader_of : RangeStream → FileReader
reader_of stream = stream.reader.now

-- the offset of the byte that it gives next
abbrev pub place_of : RangeStream → ℕ
place_of stream = stream.position

-- the offset at which its range ends
abbrev pub end_of : RangeStream → ℕ
end_of stream = stream.end

-- it was ended, by an error or by its caller
abbrev pub is_ended : RangeStream → Bool
is_ended stream = stream.ended

-- it gives nothing more: it was ended, or has given its whole range
abbrev pub is_over : RangeStream → Bool
is_over stream = stream.ended || (stream.position == stream.end)

-- how many bytes its next piece has: what is left, and at most 1,048,576
abbrev pub next_len : RangeStream → ℕ
next_len stream = min (end_of stream - place_of stream) 1048576

-- what it has still to give of a file's bytes
abbrev pub left_of : RangeStream → List ℕ → List ℕ
left_of stream content = range_of content (place_of stream) (end_of stream - place_of stream)

-- What a stream is between calls: its reader stands, and what is left of its range lies in the file.
pub record Streams (stream : RangeStream) : Type 0 where
  pub stands : Stands (reader_of stream)
  pub from : place_of stream ≤ end_of stream
  pub to : end_of stream ≤ length_of (reader_of stream)

-- a stream of this range of a reader's file, of which nothing was given yet
pub record IsStreamOf (reader : FileReader) (offset len : ℕ) (stream : RangeStream) : Type 0 where
  pub its_reader : reader_of stream ≡ reader
  pub from : place_of stream ≡ offset
  pub to : end_of stream ≡ offset + len
  pub fresh : is_ended stream ≡ false
  pub stands : Streams stream

-- the stream, ended
abbrev pub ended : RangeStream → RangeStream
ended stream = record stream { ended = true }

-- the stream behind a piece, or behind an error, which ends it
abbrev pub behind : RangeStream → Result (List ℕ) HdfsError → RangeStream
behind stream (Ok bytes) = record stream { position = place_of stream + length bytes }
behind stream (Err error) = ended stream

-- The next piece of a stream was read, or why not: as many bytes as its length says, and some. Over a told picture, where the service is all
-- namenodes, it is the first of what the stream has still to give of the bytes that the blocks store, and the stream gives the rest.
pub record GivesPiece (old : Shown) (client : Client) (stream : RangeStream) (result : Option (Result (List ℕ) HdfsError)) (new : Shown)
    (client' : Client) (stream' : RangeStream) : Type 0 where
  pub piece : Result (List ℕ) HdfsError
  pub is : result ≡ Some piece
  pub reads : ReadsRange old client (reader_of stream) (place_of stream) (next_len stream) piece new client'
  pub some : IfOk piece (λ bytes. (0 < length bytes) × (length bytes ≡ next_len stream))
  pub goes_on : stream' ≡ behind stream piece
  pub joins : IfOk piece (λ bytes. ReachesAll (proxy_of reads.before) old → (content : List ℕ) → Stored old (blocks_of (reader_of stream)) content
      → end_of stream ≤ length content → left_of stream content ≡ bytes ++ left_of stream' content)

-- these bytes stand at the front of some others in the place of what stood there; behind an error nothing does
abbrev pub filled : List ℕ → Result (List ℕ) HdfsError → List ℕ
filled buf (Ok bytes) = bytes ++ drop (length bytes) buf
filled buf (Err error) = buf

-- how many bytes were read
abbrev pub count_of : Result (List ℕ) HdfsError → Result ℕ HdfsError
count_of (Ok bytes) = Ok (length bytes)
count_of (Err error) = Err error

-- A client has read of a reader's range into a caller's bytes, of which the caller is told this.
pub record ReadsInto {T : Type 0} (tells : Result (List ℕ) HdfsError → Result T HdfsError) (old : Shown) (client : Client) (reader : FileReader)
    (offset len : ℕ) (buf : List ℕ) (result : Result T HdfsError) (new : Shown) (client' : Client) (buf' : List ℕ) : Type 0 where
  pub outcome : Result (List ℕ) HdfsError
  pub reads : ReadsRange old client reader offset len outcome new client'
  pub is : result ≡ tells outcome
  pub fills : buf' ≡ filled buf outcome
