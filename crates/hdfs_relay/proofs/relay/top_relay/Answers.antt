use Rattle.std.proofs.Common.{List, ℕ, string_bytes, subst, sym}
use Rattle.hdfs_relay.specs.Relays.{Concludes, TellsEnd, Told}
use Rattle.hdfs_relay.proofs.Reading.{one_relay}
use Rattle.hdfs_relay.proofs.relay.top_relay.Goals as goal

-- the words are refused
pub returns-in_default : goal.returns-in_default
returns-in_default g c = record { refused = λ _. c.refuse.ensures; ran = λ packets window is. absurd (c.in_default.ensures packets window is) }

-- the end was told
pub returns-in-Ok : goal.returns-in-Ok
returns-in-Ok g c =
    let asked = c.in-Some.asked in
    let text = string_bytes c.in-Ok.told.text in
    let status = c.in-Ok.told.status in
    let printed = subst (λ (t : List ℕ). Concludes status (g.K.Sink.shown c.args.sink.now) t c.print.result (g.K.Sink.shown c.print.new.sink)) c.as_str.ensures.value c.print.ensures in
    record {
      refused = λ never. absurd (never asked.packets asked.window c.in-Some.ensures);
      ran = λ packets window is.
          let same = one_relay _ packets window asked.packets asked.window is c.in-Some.ensures in
          Told text status (subst (λ (n : ℕ). TellsEnd n text status) (sym same.0) c.in-Ok.ensures.told) printed;
    }
