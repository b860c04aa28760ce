-- What `relay PACKETS WINDOW` prints, and its status.
use Rattle.std.specs.Prelude.{◌≡◌, ℕ, ◌+◌, ◌≤◌, ◌⊎◌, List, [], ◌∷◌, ◌++◌, codes, decimal, slice_index}
use Rattle.std.specs.Str.Parse.{IsNumeral, digits_value}
use Rattle.hdfs_cluster.specs.Counts.{Rose}
use Rattle.hdfs_pipeline.specs.declared.end.PipelineEnd.{PipelineEnd}
use Rattle.hdfs_pipeline.specs.declared.end.PipelineEnd.TheVariants as ends
use Rattle.hdfs_script.specs.Texts.{refusal_text}
use Rattle.hdfs_streams.specs.Streams.{SinkShown, Wrote, WrotePart}

-- a text is this number in decimal digits, from 1 to so much, without a leading zero
pub record Writes (most : ℕ) (text : List ℕ) (number : ℕ) : Type 0 where
  pub digits : IsNumeral 10 text
  pub first : (49 ≤ slice_index text 0) × (slice_index text 0 ≤ 57)
  pub value : number ≡ digits_value 10 text
  pub some : 1 ≤ number
  pub within : number ≤ most

-- the words `relay PACKETS WINDOW`, with at most 10,000 packets and a window of at most 1,000
pub record IsRelay (words : List (List ℕ)) (packets window : ℕ) : Type 0 where
  pub packets_text : List ℕ
  pub window_text : List ℕ
  pub words_are : words ≡ codes "relay" ∷ packets_text ∷ window_text ∷ []
  pub packets_is : Writes 10000 packets_text packets
  pub window_is : Writes 1000 window_text window

-- the word for an end
abbrev pub end_word : PipelineEnd → List ℕ
end_word ends.Success = codes "success"
end_word (ends.Recover failed replay) = codes "recover"
end_word (ends.Bad seqno) = codes "bad"

-- the status of an end
abbrev pub end_status : PipelineEnd → ℕ
end_status ends.Success = 0
end_status (ends.Recover failed replay) = 2
end_status (ends.Bad seqno) = 2

-- how many packets were sent, and the end
abbrev pub relay_text : ℕ → PipelineEnd → List ℕ
relay_text sent end = codes "sent " ++ decimal sent ++ codes "\nend " ++ end_word end ++ codes "\n"

-- A text was written with this status; or the sink failed behind a front of it.
pub record Concludes (good : ℕ) (before : SinkShown) (text : List ℕ) (status : ℕ) (after : SinkShown) : Type 0 where
  pub statuses : (status ≡ good) ⊎ (status ≡ 5)
  pub whole : status ≡ good → Wrote before text after
  pub fine : status ≡ good → after.failures ≡ before.failures
  pub part : status ≡ 5 → WrotePart before text after
  pub failed : status ≡ 5 → Rose before.failures after.failures

-- A text and its status tell of a pair that has sent so many packets, all of them with success, and of its end.
pub record TellsEnd (packets : ℕ) (text : List ℕ) (status : ℕ) : Type 0 where
  pub sent : ℕ
  pub end : PipelineEnd
  pub within : sent ≤ packets + 1
  pub all : end ≡ ends.Success → sent ≡ packets + 1
  pub text_is : text ≡ relay_text sent end
  pub status_is : status ≡ end_status end

-- Memory was wanting, and nothing was written; or the end of the pair was told.
pub data Ran (packets : ℕ) (before : SinkShown) (status : ℕ) (after : SinkShown) : Type 0 where
  Starved : status ≡ 3 → after ≡ before → Ran packets before status after
  Told : (text : List ℕ) (good : ℕ) → TellsEnd packets text good → Concludes good before text status after
      → Ran packets before status after

-- The words are refused, and `bad 0` was written; or the packets were relayed.
pub record Relayed (words : List (List ℕ)) (before : SinkShown) (status : ℕ) (after : SinkShown) : Type 0 where
  pub refused : ((packets window : ℕ) → IsRelay words packets window → ⊥)
      → Concludes 1 before (refusal_text 0) status after
  pub ran : (packets window : ℕ) → IsRelay words packets window → Ran packets before status after
