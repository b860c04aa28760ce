-- What a source and a sink in memory show, and which of their calls fail.
use Rattle.std.specs.Prelude.{ℕ, ◌+◌, ◌-◌, ◌^◌, ◌==◌, Bool, List, drop, Some, min}
use Rattle.std.specs.List.{list_any}
use Rattle.hdfs_streams.specs.declared.mem_streams.MemSource.{MemSource}
use Rattle.hdfs_streams.specs.declared.mem_streams.MemSink.{MemSink}
use Rattle.hdfs_streams.specs.Streams.{SourceShown, SinkShown}

-- the bytes that are left, and the count
abbrev pub source_shown : MemSource → SourceShown
source_shown source = record { left = Some (drop source.place source.bytes); failures = source.failing.failures }

-- the bytes that it holds, and the count
abbrev pub sink_shown : MemSink → SinkShown
sink_shown sink = record { written = Some sink.bytes.items; failures = sink.failing.failures }

-- how many calls there were, and the numbers of those that fail
pub record Numbered : Type 0 where
  pub calls : ℕ
  pub fails : List ℕ

-- the calls of a source
abbrev pub source_calls : MemSource → Numbered
source_calls source = record { calls = source.failing.calls; fails = source.failing.fails }

-- the calls of a sink
abbrev pub sink_calls : MemSink → Numbered
sink_calls sink = record { calls = sink.failing.calls; fails = sink.failing.fails }

-- how many bytes a sink takes at most in a call
abbrev pub sink_step : MemSink → ℕ
sink_step sink = sink.step

-- the number of the next call: one more than there were, as far as a number of 64 bits goes
abbrev pub next_call : Numbered → ℕ
next_call before = min (before.calls + 1) (2 ^ 64 - 1)

-- whether the next call is one of those that fail
abbrev pub fails_next : Numbered → Bool
fails_next before = list_any (λ call. call == next_call before) before.fails

-- a call was made
abbrev pub called : Numbered → Numbered
called before = record { calls = next_call before; fails = before.fails }
