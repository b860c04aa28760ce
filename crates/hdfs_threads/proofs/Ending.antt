-- What the end of a pair is, from what stood under its lock.
use Rattle.std.proofs.Common.{◌≡◌, ℕ, ◌-◌, ◌<◌, ◌≤◌, true, List, [], ◌∷◌, ◌++◌, length, take, drop, Option, Some, None, refl, sym, ◌∙◌, ap, subst, arith, append_assoc}
use Rattle.std.specs.Prelude.{is_none}
use Rattle.std.proofs.Math.Bool.{or-true}
use Rattle.std.proofs.lemmas.Bool.Decides.{nat_tests}
use Rattle.std.proofs.lemmas.List.{append-nil, length-take-le, length-drop, take-append-drop, drop-append-le, drop_all}
use Rattle.hdfs_wire.specs.Outgoing.{Outgoing}
use Rattle.hdfs_pipeline.specs.declared.event.Event.{Event}
use Rattle.hdfs_pipeline.specs.declared.event.Event.TheVariants.{Push}
use Rattle.hdfs_pipeline.specs.declared.end.PipelineEnd.{PipelineEnd}
use Rattle.hdfs_pipeline.specs.declared.end.PipelineEnd.TheVariants as ends
use Rattle.hdfs_pipeline.specs.Pipelines.{End, Done, Failed, Bad, Pipeline, after, run_of, has_room, acked_of, pending_of}
use Rattle.hdfs_pipeline.specs.Cores.{IsCore, forgotten}
use Rattle.hdfs_pipeline.specs.Ends.{end_of, handed_back}
use Rattle.hdfs_pipeline.specs.Pushed.{IsLastBehind}
use Rattle.hdfs_pipeline.proofs.Finishing.{none_waits}
use Rattle.hdfs_pipeline.proofs.Running.{in_order, run_more}
use Rattle.hdfs_threads.specs.declared.end.PairEnd.{PairEnd}
use Rattle.hdfs_threads.specs.Pairs.{Keeps}
use Rattle.hdfs_threads.specs.Counts.{wrote_in, ack_failed_in}
use Rattle.hdfs_threads.specs.Links.{OutShown, InShown, Took, GaveSo}
use Rattle.hdfs_threads.specs.Inside.{SentAll, AskedAll, Tallies}
use Rattle.hdfs_threads.specs.Ends.{EndsWith, NoneIsLast, Counted, with_rest}
use Rattle.hdfs_threads.proofs.Lasts.{none_last}
use Rattle.hdfs_threads.proofs.Counting.{sent_counted}

-- what is handed back, where something is
handed : (end : Option End) (pending rest : List Outgoing) (failed : List ℕ) (replay : List Outgoing) → with_rest (handed_back end pending) rest ≡ ends.Recover failed replay → replay ≡ pending ++ rest
handed None pending rest failed replay is = cc
handed (Some Done) pending rest failed replay is = absurd (cc)
handed (Some (Failed places)) pending rest failed replay is = cc
handed (Some (Bad seqno)) pending rest failed replay is = absurd (cc)

-- where no node has failed, there is no end
unfailed : (end : Option End) (pending rest replay : List Outgoing) → ((places : List ℕ) → end ≡ Some (Failed places) → 0 < length places) → with_rest (handed_back end pending) rest ≡ ends.Recover [] replay → end ≡ None
unfailed None pending rest replay some is = refl
unfailed (Some Done) pending rest replay some is = absurd (cc)
unfailed (Some (Failed [])) pending rest replay some is = let none = some [] refl in absurd (omega (arith, none))
unfailed (Some (Failed (place ∷ places))) pending rest replay some is = absurd (cc)
unfailed (Some (Bad seqno)) pending rest replay some is = absurd (cc)

-- success is that of a pipeline that is done
succeeded : (end : Option End) (pending rest : List Outgoing) → with_rest (handed_back end pending) rest ≡ ends.Success → end ≡ Some Done
succeeded None pending rest is = absurd (cc)
succeeded (Some Done) pending rest is = refl
succeeded (Some (Failed places)) pending rest is = absurd (cc)
succeeded (Some (Bad seqno)) pending rest is = absurd (cc)

nothing_appended : (xs ys : List Outgoing) → xs ++ ys ≡ [] → xs ≡ []
nothing_appended [] ys is = refl
nothing_appended (x ∷ xs) ys is = absurd (cc)

-- of packets whose last one stands behind the others, a front is so too
front_behind : (xs ys : List Outgoing) → IsLastBehind (xs ++ ys) → IsLastBehind xs
front_behind xs ys behind front rest packet is last =
    let whole : xs ++ ys ≡ front ++ packet ∷ (rest ++ ys) = ap (λ (zs : List Outgoing). zs ++ ys) is ∙ append_assoc front (packet ∷ rest) ys in
    nothing_appended rest ys (behind front (rest ++ ys) packet whole last)

push_row : (p : Pipeline) (packet : Outgoing) → has_room p ≡ true → after p (Push packet) ≡ record p { pushed = p.pushed ++ packet ∷ [] }
push_row p packet room = rw (or-true (is_none p.end), room) refl

module _ (window nodes : ℕ) (packets : List Outgoing) (history : List Event) (pushed : ℕ) (some : 1 ≤ (run_of window nodes history).window) (pushes : (run_of window nodes history).pushed ≡ take pushed packets) (behind : IsLastBehind packets) (done : (run_of window nodes history).end ≡ Some Done) where
  none_waiting : pending_of (run_of window nodes history) ≡ []
  none_waiting =
      none_waits window nodes history (subst IsLastBehind (sym pushes) (front_behind (take pushed packets) (drop pushed packets) (subst IsLastBehind (sym (take-append-drop pushed packets)) behind))) done

  -- once it is done no packet is left to be pushed: it would find room, and wait
  all_pushed : (rest : List Outgoing) → drop pushed packets ≡ rest → rest ≡ []
  all_pushed [] left = refl
  all_pushed (x ∷ rest) left =
      let run = run_of window nodes history in
      let more = history ++ Push x ∷ [] in
      let o = in_order window nodes history in
      let waiting : length run.pushed - run.acked ≡ 0 = sym (length-drop run.acked run.pushed) ∙ ap length none_waiting in
      let room : has_room run ≡ true = grind (arith, nat_tests, waiting, some) in
      let next : run_of window nodes more ≡ record run { pushed = run.pushed ++ x ∷ [] } = run_more window nodes history (Push x) ∙ push_row run x room in
      let front : run.pushed ++ x ∷ [] ≡ take pushed packets ++ x ∷ [] = ap (λ (xs : List Outgoing). xs ++ x ∷ []) pushes in
      let whole : (take pushed packets ++ x ∷ []) ++ rest ≡ packets = append_assoc (take pushed packets) (x ∷ []) rest ∙ ap (λ (xs : List Outgoing). take pushed packets ++ xs) (sym left) ∙ take-append-drop pushed packets in
      let last : IsLastBehind (run_of window nodes more).pushed = subst IsLastBehind (sym (ap (λ (p : Pipeline). p.pushed) next ∙ front)) (front_behind (take pushed packets ++ x ∷ []) rest (subst IsLastBehind (sym whole) behind)) in
      let nothing : pending_of (run_of window nodes more) ≡ [] = none_waits window nodes more last (ap (λ (p : Pipeline). p.end) next ∙ done) in
      let waits : pending_of (run_of window nodes more) ≡ x ∷ [] = ap pending_of next ∙ drop-append-le run.acked run.pushed (x ∷ []) (omega (arith, o.acked, o.sent, o.taken)) ∙ ap (λ (xs : List Outgoing). xs ++ x ∷ []) none_waiting in
      absurd (cc (nothing, waits))

  all_acknowledged : packets ≡ acked_of (run_of window nodes history)
  all_acknowledged =
      let run = run_of window nodes history in
      sym (take-append-drop pushed packets) ∙ ap (λ (xs : List Outgoing). take pushed packets ++ xs) (all_pushed (drop pushed packets) refl) ∙ append-nil (take pushed packets) ∙ sym pushes
      ∙ sym (take-append-drop run.acked run.pushed) ∙ ap (λ (xs : List Outgoing). acked_of run ++ xs) none_waiting ∙ append-nil (acked_of run)

module _ (window nodes : ℕ) (packets : List Outgoing) (core : Pipeline) (history : List Event) (pushed a b c d z : ℕ) (k : Keeps window nodes packets core history pushed a b c d z) where
  core_is : core ≡ forgotten (run_of window nodes history)
  core_is = k.stands ∙ ap (λ (w : ℕ). forgotten (run_of w core.nodes history)) k.window_is ∙ ap (λ (n : ℕ). forgotten (run_of window n history)) k.nodes_is

  count_is : length (run_of window nodes history).pushed ≡ pushed
  count_is = ap length k.pushes ∙ length-take-le pushed packets k.within

  -- the end of a pair
  pub ends_with : (end : PipelineEnd) → IsLastBehind packets → 0 < z → IsCore core → end ≡ with_rest (end_of (run_of core.window core.nodes history)) (drop pushed packets) → EndsWith window nodes packets history end
  ends_with end behind found is_core closed =
      let run = run_of window nodes history in
      let pending = pending_of run in
      let rest = drop pushed packets in
      let same : run_of core.window core.nodes history ≡ run = ap (λ (w : ℕ). run_of w core.nodes history) k.window_is ∙ ap (λ (n : ℕ). run_of window n history) k.nodes_is in
      let is : end ≡ with_rest (handed_back run.end pending) rest = closed ∙ ap (λ (r : Pipeline). with_rest (end_of r) rest) same in
      let whole : (failed : List ℕ) (replay : List Outgoing) → end ≡ ends.Recover failed replay → packets ≡ acked_of run ++ replay = λ failed replay so.
      let back : replay ≡ pending ++ rest = handed run.end pending rest failed replay (sym is ∙ so) in
      sym (take-append-drop pushed packets) ∙ ap (λ (xs : List Outgoing). xs ++ rest) (sym k.pushes ∙ sym (take-append-drop run.acked run.pushed))
      ∙ append_assoc (acked_of run) pending rest ∙ ap (λ (xs : List Outgoing). acked_of run ++ xs) (sym back) in
      let some : 1 ≤ run.window = subst (λ (n : ℕ). 1 ≤ n) (ap (λ (p : Pipeline). p.window) core_is) is_core.window.0 in record {
        pushed = k.pushes ∙ ap (λ (n : ℕ). take n packets) (sym count_is);
        is = is ∙ ap (λ (n : ℕ). with_rest (handed_back run.end pending) (drop n packets)) (sym count_is);
        whole = whole;
        idle = λ replay so.
            let places_some : (places : List ℕ) → run.end ≡ Some (Failed places) → 0 < length places = λ places failed. (is_core.failed places (ap (λ (p : Pipeline). p.end) core_is ∙ failed)).some in
            let none : run.end ≡ None = unfailed run.end pending rest replay places_some (sym is ∙ so) in
            let over = k.over_is found (ap (λ (p : Pipeline). p.end) core_is ∙ none) in
            let nothing : pending ≡ [] = sym (ap (λ (p : Pipeline). p.pushed) core_is) ∙ over.1 in
            let no_rest : rest ≡ [] = drop_all pushed packets (omega (arith, over.0)) in
            let empty : replay ≡ [] = handed run.end pending rest [] replay (sym is ∙ so) ∙ ap (λ (xs : List Outgoing). xs ++ rest) nothing ∙ no_rest in
            let all : packets ≡ acked_of run = whole [] replay so ∙ ap (λ (xs : List Outgoing). acked_of run ++ xs) empty ∙ append-nil (acked_of run) in
            (empty, subst NoneIsLast (sym all) (none_last window nodes history none));
        done = λ so. all_acknowledged window nodes packets history pushed some k.pushes behind (succeeded run.end pending rest (sym is ∙ so));
      }

  -- what the books say of the history
  pub tallies : Tallies history a b c d
  tallies = record { wrote_is = k.wrote_is; write_failed_is = k.write_failed_is; acked_is = k.acked_is; ack_failed_is = k.ack_failed_is }

-- with success as many packets were sent as there are
all_sent : (window nodes : ℕ) (packets : List Outgoing) (history : List Event) (sent : ℕ) → sent ≡ wrote_in history → sent ≤ length packets → packets ≡ acked_of (run_of window nodes history) → sent ≡ length packets
all_sent window nodes packets history sent counted within acked =
    let run = run_of window nodes history in
    let o = in_order window nodes history in
    let most = sent_counted window nodes history in
    let count : length packets ≡ run.acked = ap length acked ∙ length-take-le run.acked run.pushed (omega (arith, o.acked, o.sent, o.taken)) in
    omega (arith, counted, within, most, count, o.acked)

-- what both threads counted is what the history has
pub counted : (window nodes : ℕ) (out out' : OutShown) (acks acks' : InShown) (packets : List Outgoing) (r : PairEnd) (sent a b c d z : ℕ) → EndsWith window nodes packets r.history r.end → Tallies r.history a b c d → r.sent ≡ sent
    → SentAll packets out sent a b out' → AskedAll acks c d z acks' → Counted out out' acks acks' packets r
counted window nodes out out' acks acks' packets r sent a b c d z e t same s q =
    let is : r.sent ≡ wrote_in r.history = same ∙ s.counted ∙ t.wrote_is in
    let most : r.sent ≤ length packets = omega (arith, same, s.within) in record {
      sent = is;
      within = most;
      all = λ done. all_sent window nodes packets r.history r.sent is most (e.done done);
      took = subst (λ (n : ℕ). Took out (take n packets) out') (sym same) s.took;
      send_failed = λ some. s.cause (omega (arith, some, t.write_failed_is));
      one = omega (arith, s.one, t.write_failed_is);
      gave = subst (λ (n : ℕ). GaveSo acks n (ack_failed_in r.history) acks') t.acked_is (subst (λ (n : ℕ). GaveSo acks c n acks') t.ack_failed_is q.gave);
      ack_failed = λ some. q.cause (omega (arith, some, t.ack_failed_is));
    }
