-- What a source gives and what a sink takes. Bytes that are told are known bytes in std's words: a call that reads takes them
-- from the front, and a call that writes puts them behind.
use Rattle.std.specs.Prelude.{◌≡◌, ℕ, ◌≤◌, List, length, take, Option, Some, Result, OnErr, OnOk}
use Rattle.std.specs.Io.KnownBytes.{Appends, Consumes, IsAtEnd}
use Rattle.hdfs_cluster.specs.Counts.{Rose}
use Rattle.hdfs_streams.specs.declared.streams.IoFailed.{IoFailed}

-- what a source shows of itself
pub record SourceShown : Type 0 where
  -- the bytes that are to come, where it tells them
  pub left : Option (List ℕ)
  -- how often it has failed
  pub failures : ℕ

-- what a sink shows of itself
pub record SinkShown : Type 0 where
  -- the bytes that it holds, where it tells them
  pub written : Option (List ℕ)
  -- how often it has failed
  pub failures : ℕ

-- a failure is answered only where the count rose
pub record HasCause {T : Type 0} (before now : ℕ) (result : Result T IoFailed) : Type 0 where
  pub later : before ≤ now
  pub failed : OnErr result (Rose before now)

-- these bytes were taken from the front of the source
abbrev pub Took : SourceShown → List ℕ → SourceShown → Type 0
Took before bytes after = Consumes before.left after.left bytes

-- no more than so many bytes were taken from the source
abbrev pub TookAtMost : ℕ → SourceShown → SourceShown → Type 0
TookAtMost most before after = (bytes : List ℕ) × (length bytes ≤ most) × Took before bytes after

-- the source has ended
abbrev pub IsDry : SourceShown → Type 0
IsDry source = IsAtEnd source.left

-- these are all bytes of the source, or its first so many where it has as many
abbrev pub IsFront : ℕ → SourceShown → List ℕ → Type 0
IsFront most source bytes = (all : List ℕ) → source.left ≡ Some all → bytes ≡ take most all

-- these bytes stand behind those that the sink held
abbrev pub Wrote : SinkShown → List ℕ → SinkShown → Type 0
Wrote before bytes after = Appends before.written after.written bytes

-- a prefix of the text stands behind what the sink held
abbrev pub WrotePart : SinkShown → List ℕ → SinkShown → Type 0
WrotePart before text after = (count : ℕ) × Wrote before (take count text) after

-- The text was written, and no write failed; or the sink failed, behind a prefix of the text.
pub record Prints {T : Type 0} (before : SinkShown) (text : List ℕ) (result : Result T IoFailed) (after : SinkShown) : Type 0 where
  pub later : before.failures ≤ after.failures
  pub ok : OnOk result (Wrote before text after)
  pub fine : OnOk result (after.failures ≡ before.failures)
  pub failed : OnErr result (Rose before.failures after.failures)
  pub part : OnErr result (WrotePart before text after)
