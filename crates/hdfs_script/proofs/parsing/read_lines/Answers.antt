use Rattle.std.proofs.Common.{◌==◌, length, map, sym, ap, arith, rules, tests}
use Rattle.std.proofs.lemmas.List.{length_push, at_drop_all}
use Rattle.std.specs.List.{slice_split}
use Rattle.std.proofs.lemmas.Iterator.Splits.{YieldsList-from_slice_split}
use Rattle.std.proofs.lemmas.Iterator.Consumers.{YieldsList-at, YieldsList-turn, YieldsList-end}
use Rattle.hdfs_script.specs.Entries.{entry_of}
use Rattle.hdfs_script.specs.Parsing.{bad_from, good_front}
use Rattle.hdfs_script.proofs.GainLemmas.{gains_more, gains_end}
use Rattle.hdfs_script.proofs.ParseLemmas.{entries-drop, front_more, front_none, out_more, out_bad, out_all}
use Rattle.hdfs_script.proofs.parsing.read_lines.Goals as goal

-- the next line is bad
pub returns-then-not-may_stand : goal.returns-then-not-may_stand
returns-then-not-may_stand c =
    let pieces = slice_split (λ b. b == 10) c.args.bytes.now in
    let cut = c.split-line-items.ensures in
    let turn = YieldsList-turn (YieldsList-at c.into_iter-line-iterator.ensures.into_iter_gives (YieldsList-from_slice_split _ (λ b. b == 10) c.args.bytes.now cut.rest cut.done cut.closure (λ x b q k. search (rules, tests)))) c.loop-line.yielded _ c.loop-line.yielded_by _ _ c.in-Some.line c.in-Some.is c.next.ensures.steps in
    let next = entries-drop c.args.limit c.loop-line.number pieces (length c.loop-line.yielded) c.in-Some.line.now c.in_ok-entry.entry turn c.in_ok-entry.ensures in
    let bad = sym c.if-not-may_stand.ensures in
    record {
      bad = out_bad c.loop-line.place c.loop-line.number c.in_ok-entry.entry _ _ _ next bad c.loop-line.invariant.out;
      gains = c.loop-line.invariant.gains c.loop-line.read (gains_end c.loop-line.number _ c.loop-line.read (front_none c.loop-line.place c.in_ok-entry.entry _ _ next bad));
    }

-- the next line was put behind those before it
pub loop-line-preserved : goal.loop-line-preserved
loop-line-preserved c =
    let pieces = slice_split (λ b. b == 10) c.args.bytes.now in
    let cut = c.split-line-items.ensures in
    let turn = YieldsList-turn (YieldsList-at c.into_iter-line-iterator.ensures.into_iter_gives (YieldsList-from_slice_split _ (λ b. b == 10) c.args.bytes.now cut.rest cut.done cut.closure (λ x b q k. search (rules, tests)))) c.loop-line.yielded _ c.loop-line.yielded_by _ _ c.in-Some.line c.in-Some.is c.next.ensures.steps in
    let next = entries-drop c.args.limit c.loop-line.number pieces (length c.loop-line.yielded) c.in-Some.line.now c.in_ok-entry.entry turn c.in_ok-entry.ensures in
    let stands = sym c.if-not-may_stand.ensures in
    let behind = c.place_behind-place.ensures in
    rw length_push (record {
      count = omega (arith, c.loop-line.invariant.count);
      gains = λ last more. c.loop-line.invariant.gains last (gains_more c.loop-line.number c.in_ok-entry.entry _ _ c.loop-line.read c.put.new.read last (front_more c.loop-line.place _ c.in_ok-entry.entry _ _ next stands behind) c.in_ok-put.ensures more);
      out = out_more c.loop-line.place _ c.loop-line.number c.in_ok-entry.entry _ _ _ next stands behind c.loop-line.invariant.out;
    })

-- no line is left
pub returns : goal.returns
returns c =
    let pieces = slice_split (λ b. b == 10) c.args.bytes.now in
    let cut = c.split-line-items.ensures in
    let end = YieldsList-end (YieldsList-at c.into_iter-line-iterator.ensures.into_iter_gives (YieldsList-from_slice_split _ (λ b. b == 10) c.args.bytes.now cut.rest cut.done cut.closure (λ x b q k. search (rules, tests)))) c.loop-line.yielded _ c.loop-line.yielded_by _ _ c.in-None.is c.next.ensures.steps in
    let none = at_drop_all (λ ps. bad_from c.args.limit c.loop-line.number (map entry_of ps)) pieces (length c.loop-line.yielded) (omega (arith, end.1)) in
    record {
      bad = out_all c.loop-line.place c.loop-line.number _ _ none c.loop-line.invariant.out;
      gains = c.loop-line.invariant.gains c.loop-line.read (gains_end c.loop-line.number _ c.loop-line.read (ap (good_front c.loop-line.place) none));
    }
