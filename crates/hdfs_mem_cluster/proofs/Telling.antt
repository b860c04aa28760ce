-- One datanode more is told of an acknowledgement.
use Rattle.std.proofs.Common.{◌≡◌, ◌⊎◌, ⊎_elim, ℕ, ◌+◌, ◌^◌, ◌<◌, ◌≤◌, zero, suc, Bool, true, false, nat_lt, ◌&&◌, cond, List, [], ◌∷◌, ◌++◌, length, take, get_or, refl, sym, ◌∙◌, ap, subst, arith, length-append}
use Rattle.std.proofs.Math.Seq.{get_or-append_seam}
use Rattle.std.proofs.lemmas.Bool.{false≢true}
use Rattle.std.proofs.lemmas.Bool.Decides.{nat_tests}
use Rattle.std.proofs.lemmas.List.{get_or_append_left, take-append-le, take_all}
use Rattle.std.proofs.lemmas.List.Sums.{sum_by-append}
use Rattle.std.proofs.lemmas.Slice.Eq.{bytes_eq-Decides}
use Rattle.std.specs.Str.{bytes_eq}
use Rattle.hdfs_mem_faults.specs.declared.fault_plan.FaultPlan.{FaultPlan}
use Rattle.hdfs_mem_faults.specs.Calls.{after_one, one_if}
use Rattle.hdfs_mem_faults.specs.Plans.{Counts, SameLinks, SamePlans, calls_of, fails_at, has_node}
use Rattle.hdfs_mem_faults.specs.Series.{Series, acks_of}
use Rattle.hdfs_mem_cluster.specs.Telling.{TellsAll, failures, times}

-- no datanode is told
pub tells_none : (planned : Series → ℕ → Bool) (plan : FaultPlan) → TellsAll planned plan [] [] plan
tells_none planned plan = record {
  len = refl;
  calls = λ d there room. omega arith;
  exact = λ i d within is there room. absurd (omega (arith, within));
  others = λ s apart. refl;
  nodes = λ d. omega arith;
  asks = λ i. refl;
  there = λ d. refl;
}

times_push : (d : List ℕ) (uuids : List (List ℕ)) (u : List ℕ) → times d (uuids ++ u ∷ []) ≡ times d uuids + one_if (bytes_eq d u)
times_push d uuids u =
    let one : times d (u ∷ []) ≡ one_if (bytes_eq d u) = omega arith in
    sum_by-append (λ x. one_if (bytes_eq d x)) uuids (u ∷ []) ∙ ap (λ (n : ℕ). times d uuids + n) one

failures_push : (d : List ℕ) (uuids : List (List ℕ)) (statuses : List ℕ) (u : List ℕ) (s : ℕ) → length statuses ≡ length uuids
    → failures d (uuids ++ u ∷ []) (statuses ++ s ∷ []) ≡ failures d uuids statuses + cond (bytes_eq u d) s 0
failures_push d [] [] u s len = omega arith
failures_push d [] (t ∷ statuses) u s len = absurd (omega (arith, len))
failures_push d (v ∷ uuids) [] u s len = absurd (omega (arith, len))
failures_push d (v ∷ uuids) (t ∷ statuses) u s len = omega (arith, failures_push d uuids statuses u s (omega (arith, len)))

one_of_both : (a b : Bool) → one_if (a && b) ≡ cond b (one_if a) 0
one_of_both true true = refl
one_of_both true false = refl
one_of_both false true = refl
one_of_both false false = refl

same_acks : (d u : List ℕ) → acks_of d ≡ acks_of u → d ≡ u
same_acks d u is = cc

below_next : (a : ℕ) (b : Bool) → a < 2 ^ 64 → (nat_lt a (2 ^ 64) && b) ≡ b
below_next a b room = let yes : nat_lt a (2 ^ 64) ≡ true = grind (arith, nat_tests) in ap (λ (t : Bool). t && b) yes

after_next : (a b : ℕ) → b ≡ after_one a → a + 1 < 2 ^ 64 → b ≡ a + 1
after_next a b is room = omega (arith, is, room)

module _ (old mid new : FaultPlan) (uuids : List (List ℕ)) (statuses : List ℕ) (u : List ℕ) (fails : Bool) (was : TellsAll (fails_at old) old uuids statuses mid) (same : SamePlans old mid) (counts : Counts mid (acks_of u) fails new) where
  -- the number of the call that told of it
  told_own : has_node old u ≡ true → calls_of old (acks_of u) + times u (uuids ++ u ∷ []) < 2 ^ 64
      → (calls_of mid (acks_of u) + 1 ≡ calls_of old (acks_of u) + times u (uuids ++ u ∷ [])) × (calls_of new (acks_of u) ≡ calls_of mid (acks_of u) + 1)
  told_own there room =
      let own : one_if (bytes_eq u u) ≡ 1 = ap one_if ((bytes_eq-Decides u u).1 refl) in
      let more = times_push u uuids u in
      let before = was.calls u there (omega (arith, room, more)) in
      (omega (arith, before, more, own), after_next (calls_of mid (acks_of u)) (calls_of new (acks_of u)) (counts.call.own (was.there u ∙ there)) (omega (arith, before, more, own, room)))

  calls_after : (d : List ℕ) → has_node old d ≡ true → calls_of old (acks_of d) + times d (uuids ++ u ∷ []) < 2 ^ 64
      → calls_of new (acks_of d) ≡ calls_of old (acks_of d) + times d (uuids ++ u ∷ [])
  calls_after d there room = by_test (bytes_eq d u) refl
    where
      by_test : (b : Bool) → bytes_eq d u ≡ b → calls_of new (acks_of d) ≡ calls_of old (acks_of d) + times d (uuids ++ u ∷ [])
      by_test true is =
          let equal : d ≡ u = (bytes_eq-Decides d u).0 is in
          let own = told_own (subst (λ (x : List ℕ). has_node old x ≡ true) equal there) (subst (λ (x : List ℕ). calls_of old (acks_of x) + times x (uuids ++ u ∷ []) < 2 ^ 64) equal room) in
          subst (λ (x : List ℕ). calls_of new (acks_of x) ≡ calls_of old (acks_of x) + times x (uuids ++ u ∷ [])) (sym equal) (own.1 ∙ own.0)
      by_test false is =
          let more = times_push d uuids u in
          let none : one_if (bytes_eq d u) ≡ 0 = ap one_if is in
          let others = counts.call.others (acks_of d) (λ equal. false≢true (sym is ∙ (bytes_eq-Decides d u).1 (same_acks d u equal))) in
          let before = was.calls d there (omega (arith, room, more)) in
          omega (arith, others, before, more, none)

  exact_after : (i : ℕ) (d : List ℕ) → i < length (uuids ++ u ∷ []) → get_or (uuids ++ u ∷ []) i [] ≡ d → has_node old d ≡ true
      → calls_of old (acks_of d) + times d (uuids ++ u ∷ []) < 2 ^ 64
      → get_or (statuses ++ one_if fails ∷ []) i 0 ≡ one_if (fails_at old (acks_of d) (calls_of old (acks_of d) + times d (take (i + 1) (uuids ++ u ∷ []))))
  exact_after i d within is there room = ⊎_elim before last (lt_or_is i (length uuids) (omega (arith, within, length-append uuids (u ∷ []))))
    where
      lt_or_is : (a b : ℕ) → a < b + 1 → (a < b) ⊎ (a ≡ b)
      lt_or_is a b le = omega_cases
        where
          omega_cases : (a < b) ⊎ (a ≡ b)
          omega_cases = grind (arith, nat_tests)

      before : i < length uuids → get_or (statuses ++ one_if fails ∷ []) i 0 ≡ one_if (fails_at old (acks_of d) (calls_of old (acks_of d) + times d (take (i + 1) (uuids ++ u ∷ []))))
      before lt =
          let at : get_or uuids i [] ≡ d = sym (get_or_append_left uuids (u ∷ []) [] i lt) ∙ is in
          get_or_append_left statuses (one_if fails ∷ []) 0 i (omega (arith, lt, was.len))
          ∙ was.exact i d lt at there (omega (arith, room, times_push d uuids u))
          ∙ ap (λ (us : List (List ℕ)). one_if (fails_at old (acks_of d) (calls_of old (acks_of d) + times d us))) (sym (take-append-le (i + 1) uuids (u ∷ []) (omega (arith, lt))))

      last : i ≡ length uuids → get_or (statuses ++ one_if fails ∷ []) i 0 ≡ one_if (fails_at old (acks_of d) (calls_of old (acks_of d) + times d (take (i + 1) (uuids ++ u ∷ []))))
      last end =
          let here : u ≡ d = sym (ap (λ (n : ℕ). get_or (uuids ++ u ∷ []) n []) end ∙ get_or-append_seam uuids u [] []) ∙ is in
          let status : get_or (statuses ++ one_if fails ∷ []) i 0 ≡ one_if fails =
          ap (λ (n : ℕ). get_or (statuses ++ one_if fails ∷ []) n 0) (end ∙ sym was.len) ∙ get_or-append_seam statuses (one_if fails) [] 0 in
          let own = told_own (subst (λ (x : List ℕ). has_node old x ≡ true) (sym here) there) (subst (λ (x : List ℕ). calls_of old (acks_of x) + times x (uuids ++ u ∷ []) < 2 ^ 64) (sym here) room) in
          let n = calls_of mid (acks_of u) + 1 in
          let small : n < 2 ^ 64 = omega (arith, own.0, subst (λ (x : List ℕ). calls_of old (acks_of x) + times x (uuids ++ u ∷ []) < 2 ^ 64) (sym here) room) in
          let planned : fails ≡ fails_at old (acks_of u) (calls_of old (acks_of u) + times u (uuids ++ u ∷ [])) =
          counts.as_planned ∙ below_next n (fails_at mid (acks_of u) n) small ∙ same.fails (acks_of u) n ∙ ap (fails_at old (acks_of u)) own.0 in
          let whole : take (i + 1) (uuids ++ u ∷ []) ≡ uuids ++ u ∷ [] = take_all (i + 1) (uuids ++ u ∷ []) (omega (arith, end, length-append uuids (u ∷ []))) in
          status ∙ ap one_if planned
          ∙ ap (λ (x : List ℕ). one_if (fails_at old (acks_of x) (calls_of old (acks_of x) + times x (uuids ++ u ∷ [])))) here
          ∙ ap (λ (us : List (List ℕ)). one_if (fails_at old (acks_of d) (calls_of old (acks_of d) + times d us))) (sym whole)

  -- and then all of them were told
  pub tells_more : TellsAll (fails_at old) old (uuids ++ u ∷ []) (statuses ++ one_if fails ∷ []) new
  tells_more = record {
    len = omega (arith, length-append statuses (one_if fails ∷ []), length-append uuids (u ∷ []), was.len);
    calls = calls_after;
    exact = exact_after;
    others = λ s apart. counts.call.others s (apart u) ∙ was.others s apart;
    nodes = λ d. omega (arith, counts.nodes d, was.nodes d, failures_push d uuids statuses u (one_if fails) was.len, one_of_both fails (bytes_eq u d));
    asks = λ i. counts.asks i ∙ was.asks i;
    there = λ d. counts.call.plans.there d ∙ was.there d;
  }

-- a datanode whose status is not 0 has failed
pub failed_status : (uuids : List (List ℕ)) (statuses : List ℕ) (i : ℕ) (d : List ℕ) → i < length uuids → i < length statuses → get_or uuids i [] ≡ d → get_or statuses i 0 ≤ failures d uuids statuses
failed_status [] statuses i d within replied is = absurd (omega (arith, within))
failed_status (u ∷ uuids) [] i d within replied is = absurd (omega (arith, replied))
failed_status (u ∷ uuids) (s ∷ statuses) zero d within replied is =
    let own : cond (bytes_eq u d) s 0 ≡ s = ap (λ (b : Bool). cond b s 0) ((bytes_eq-Decides u d).1 is) in
    omega (arith, own)
failed_status (u ∷ uuids) (s ∷ statuses) (suc i) d within replied is = omega (arith, failed_status uuids statuses i d (omega (arith, within)) (omega (arith, replied)) is)

pub same_plans_trans : (a b c : FaultPlan) → SamePlans a b → SamePlans b c → SamePlans a c
same_plans_trans a b c f g = record {
  there = λ d. g.there d ∙ f.there d;
  fails = λ s nth. g.fails s nth ∙ f.fails s nth;
  kinds = λ nth. g.kinds nth ∙ f.kinds nth;
  packets = λ d nth. g.packets d nth ∙ f.packets d nth;
  asks = λ i nth. g.asks i nth ∙ f.asks i nth;
}

pub same_links_trans : (a b c : FaultPlan) → SameLinks a b → SameLinks b c → SameLinks a c
same_links_trans a b c f g = record { faults = g.faults ∙ f.faults; bad = λ link. g.bad link ∙ f.bad link }
