-- What the program makes of its words and its source.
use Rattle.std.proofs.Common.{inl, inr, ◌≡◌, ℕ, ◌+◌, Bool, List, [], ◌∷◌, length, get_or, map, refl, sym, ap, arith}
use Rattle.std.proofs.lemmas.List.{take_all}
use Rattle.hdfs_cluster.specs.Shown.{Shown}
use Rattle.hdfs_cluster.proofs.Frames.{never_fall_refl}
use Rattle.hdfs_script.specs.Scripts.{script_limit}
use Rattle.hdfs_script.specs.Texts.{refusal_text}
use Rattle.hdfs_streams.specs.Streams.{SourceShown, SinkShown, TookAtMost, Wrote, WrotePart}
use Rattle.hdfs_streams.proofs.PrintLemmas.{wrote_none, wrote_same}
use Rattle.hdfs_streams.proofs.ReadLemmas.{took_none}
use Rattle.hdfs_top.specs.Top.{IsSession, RefusedWords, RanProgram, outside}
use Rattle.hdfs_top.specs.Inside.{RanSession, Concludes}
use Rattle.hdfs_top.proofs.StatusLemmas.{Kept, ran_refused, ran_no_memory, ran_sink_failed}
use Rattle.hdfs_top.proofs.ScriptLemmas.{kept_session, same_shown_refl}

-- a whole text is a prefix of itself
wrote_part : (a b : SinkShown) (text : List ℕ) → Wrote a text b → WrotePart a text b
wrote_part a b text wrote = (length text, wrote_same a b text _ (sym (take_all (length text) text (omega arith))) wrote)

kept_words : (words : List (List ℕ)) (source : SourceShown) (sink sink' : SinkShown) (store : Shown) (fresh : Bool) (status : ℕ) → RefusedWords (outside source sink store fresh) status (outside source sink' store fresh) → Kept words (outside source sink store fresh) status (outside source sink' store fresh)
kept_words words source sink sink' store fresh status refused =
    record { counts = never_fall_refl store.counts; read = ([], omega arith, took_none source); other = λ _. refused }

-- the words are refused
pub refused_words : (words : List (List ℕ)) (source : SourceShown) (sink sink' : SinkShown) (store : Shown) (fresh : Bool) (status : ℕ) → (IsSession words → ⊥) → Concludes 1 sink (refusal_text 0) status sink' → RanProgram words (outside source sink store fresh) status (outside source sink' store fresh)
refused_words words source sink sink' store fresh status other (inl whole) =
    ran_refused words (outside source sink store fresh) (outside source sink' store fresh) 0 status
    (kept_words words source sink sink' store fresh status (record { statuses = inl whole.is; source = refl; store = same_shown_refl store; whole = λ _. whole.wrote; part = wrote_part sink sink' (refusal_text 0) whole.wrote }))
    refl whole (λ is. absurd (other is))
refused_words words source sink sink' store fresh status other (inr part) =
    ran_sink_failed words (outside source sink store fresh) (outside source sink' store fresh) (refusal_text 0) status
    (kept_words words source sink sink' store fresh status (record { statuses = inr part.is; source = refl; store = same_shown_refl store; whole = λ one. absurd (omega (arith, part.is, one)); part = part.part }))
    refl part (λ is. absurd (other is))

-- there was no memory to read the source
pub starved_source : (source left : SourceShown) (sink : SinkShown) (store : Shown) (fresh : Bool) (status : ℕ) → TookAtMost (script_limit + 1) source left → left.failures ≡ source.failures → status ≡ 3 → RanSession (outside source sink store fresh) status (outside left sink store fresh)
starved_source source left sink store fresh status taken fine three words is =
    ran_no_memory words (outside source sink store fresh) (outside left sink store fresh) status
    (kept_session words (outside source sink store fresh) (outside left sink store fresh) status is (never_fall_refl store.counts) taken)
    fine (record { is = three; wrote = wrote_none sink; fine = refl })

-- a list of one word
pub one_word : {X : Type 0} (bytes : X → List ℕ) (words : List X) (word : X) → length words ≡ 1 → word ≡ get_or words 0 word → map bytes words ≡ bytes word ∷ []
one_word bytes [] word one is = absurd (omega arith)
one_word bytes (first ∷ []) word one is = ap (λ w. bytes w ∷ []) (sym is)
one_word bytes (first ∷ second ∷ rest) word one is = absurd (omega arith)
