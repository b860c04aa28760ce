-- What a pipeline's end is for its caller.
use Rattle.std.specs.Prelude.{◌≡◌, List, [], ◌++◌, Option, Some, None}
use Rattle.hdfs_wire.specs.Outgoing.{Outgoing}
use Rattle.hdfs_pipeline.specs.Pipelines.{End, Done, Failed, Bad, Pipeline, acked_of, pending_of}
use Rattle.hdfs_pipeline.specs.Pushed.{IsLastBehind}
use Rattle.hdfs_pipeline.specs.declared.end.PipelineEnd.{PipelineEnd}
use Rattle.hdfs_pipeline.specs.declared.end.PipelineEnd.TheVariants as ends
use Rattle.hdfs_pipeline.specs.declared.end.Turn.{Turn}
use Rattle.hdfs_pipeline.specs.declared.end.Turn.TheVariants as turns

-- what an acknowledgement came to, by the end behind it
abbrev pub turn_of : Option End → Turn
turn_of None = turns.Going
turn_of (Some Done) = turns.Done
turn_of (Some (Failed places)) = turns.Failed
turn_of (Some (Bad seqno)) = turns.Bad

-- what is handed back with an end, where these packets aren't acknowledged
abbrev pub handed_back : Option End → List Outgoing → PipelineEnd
handed_back None pending = ends.Recover [] pending
handed_back (Some Done) pending = ends.Success
handed_back (Some (Failed places)) pending = ends.Recover places pending
handed_back (Some (Bad seqno)) pending = ends.Bad seqno

-- how a pipeline ends when it is closed
abbrev pub end_of : Pipeline → PipelineEnd
end_of p = handed_back p.end (pending_of p)

-- No packet is lost, doubled or moved: the packets that were pushed are the acknowledged ones, and behind them those that are
-- handed back. With success all are acknowledged, where the last packet of the block was pushed last.
abbrev pub HandsBack : Pipeline → PipelineEnd → Type 0
HandsBack p ends.Success = IsLastBehind p.pushed → p.pushed ≡ acked_of p
HandsBack p (ends.Recover failed replay) = p.pushed ≡ acked_of p ++ replay
HandsBack p (ends.Bad seqno) = Unit {0}
