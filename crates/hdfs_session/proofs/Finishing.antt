-- What the fold of a session's commands comes to.
use Rattle.std.proofs.Common.{◌≡◌, inl, inr, ⊎_elim, ℕ, zero, suc, ◌+◌, ◌<◌, List, [], ◌∷◌, ◌++◌, length, take, drop, get_or, Ok, Err, refl, sym, ◌∙◌, ap, subst, arith}
use Rattle.std.proofs.lemmas.List.{take-append-drop, length-take}
use Rattle.std.proofs.Math.Seq.{drop-cons}
use Rattle.hdfs_model.specs.declared.commands.Command.{Command}
use Rattle.hdfs_model.specs.declared.commands.Reply.{Reply}
use Rattle.hdfs_model.specs.declared.commands.Fault.{Fault}
use Rattle.hdfs_cluster.specs.Files.{State}
use Rattle.hdfs_model.specs.Folds.{Folded, Ends, Stops, fold, and_then, behind}
use Rattle.hdfs_model.specs.Sessions.{Answers, Complete, IsLimited, AreLimited}
use Rattle.hdfs_model.specs.Steps.{World, Outcome, Refused, Done, step}
use Rattle.hdfs_model.proofs.Folding.{fold-stop, stops_behind, length-fold}

-- a session that came to its end
pub complete_done : {T : Type 0} (f : Folded) (value : T) (replies : List Reply) (last : State) → f ≡ Ends replies last → Complete f (Ok value)
complete_done (Ends done end) value replies last is = tt
complete_done (Stops done end why) value replies last is = absurd (cc)

-- a command was done or refused, and where it was done only want of memory stopped the session behind it
module _ (T : Type 0) (w : World) (state : State) (commands : List Command) (n : ℕ) (command : Command) (done : List Reply) (last : State) (fault : Fault)
    (below : n < length commands) (here : command ≡ get_or commands n command) (so_far : fold w state (take n commands) ≡ Ends done last) (at : fault.at ≡ n + 1) where
  count : length done ≡ n
  count = omega (arith, length-fold w state (take n commands) done last so_far, length-take n commands)

  drop_here : drop n commands ≡ command ∷ drop (n + 1) commands
  drop_here =
      let next : suc n ≡ n + 1 = omega arith in
      drop-cons commands n command below ∙ ap (λ (x : Command). x ∷ drop (suc n) commands) (sym here) ∙ ap (λ (i : ℕ). command ∷ drop i commands) next

  split : commands ≡ take n commands ++ command ∷ drop (n + 1) commands
  split = sym (take-append-drop n commands) ∙ ap (λ (l : List Command). take n commands ++ l) drop_here

  at_outcome : (o : Outcome) → step w last command ≡ o → Answers o fault.error → Complete {T = T} (fold w state commands) (Err fault)
  at_outcome (Refused why) is answers =
      let stops : fold w state commands ≡ Stops done last why = ap (fold w state) split ∙ fold-stop w state (take n commands) command (drop (n + 1) commands) done last why so_far is in
      subst (λ (x : Folded). Complete {T = T} x (Err fault)) (sym stops) (⊎_elim (λ memory. inl (memory, omega (arith, at, count))) (λ kind. inr (omega (arith, at, count), kind)) answers)
  at_outcome (Done reply next) is memory = by_fold (fold w state commands) refl
    where
      by_fold : (f : Folded) → fold w state commands ≡ f → Complete {T = T} f (Err fault)
      by_fold (Ends replies end) folds = memory
      by_fold (Stops replies end why) folds =
          let behind = stops_behind w state (take n commands) (drop n commands) done replies last end why so_far (ap (fold w state) (take-append-drop n commands) ∙ folds) in
          inl (memory, omega (arith, at, behind, length-take n commands, below))

  pub complete_stopped : Answers (step w last command) fault.error → Complete {T = T} (fold w state commands) (Err fault)
  complete_stopped answers = at_outcome (step w last command) refl answers

behind_end : (reply : Reply) (f : Folded) (replies : List Reply) (last : State) → behind reply f ≡ Ends replies last → (rest : List Reply) × (f ≡ Ends rest last)
behind_end reply (Ends rest end) replies last is = (rest, (let same : end ≡ last = cc in ap (Ends rest) same))
behind_end reply (Stops rest end why) replies last is = absurd (cc)

-- a fold that ends did its first command, and the rest behind it
pub first_done : (w : World) (s : State) (command : Command) (rest : List Command) (replies : List Reply) (last : State) → fold w s (command ∷ rest) ≡ Ends replies last
    → (reply : Reply) × (next : State) × (step w s command ≡ Done reply next) × ((more : List Reply) × (fold w next rest ≡ Ends more last))
first_done w s command rest replies last is = by_outcome (step w s command) refl is
  where
    by_outcome : (o : Outcome) → step w s command ≡ o → and_then s o (λ next. fold w next rest) ≡ Ends replies last
        → (reply : Reply) × (next : State) × (step w s command ≡ Done reply next) × ((more : List Reply) × (fold w next rest ≡ Ends more last))
    by_outcome (Refused why) here ends = absurd (cc)
    by_outcome (Done reply next) here ends = (reply, next, here, behind_end reply (fold w next rest) replies last ends)

-- commands are in their limits with one more behind them that is
pub are_limited_push : (w : World) (s : State) (commands : List Command) (command : Command) (replies : List Reply) (last : State) → fold w s commands ≡ Ends replies last
    → AreLimited w s commands → IsLimited w last command → AreLimited w s (commands ++ command ∷ [])
are_limited_push w s [] command replies last is limited one = (let same : s ≡ last = cc in subst (λ (x : State). IsLimited w x command) (sym same) one, λ reply next done. tt)
are_limited_push w s (first ∷ rest) command replies last is limited one = (
  limited.0,
  λ reply next done.
      (let f = first_done w s first rest replies last is in
      let same : f.1 ≡ next = cc (f.2, done) in
      let goes : fold w next rest ≡ Ends f.3.0 last = subst (λ (x : State). fold w x rest ≡ Ends f.3.0 last) same f.3.1 in
      are_limited_push w next rest command f.3.0 last goes (limited.1 reply next done) one),
)

-- the command behind those that were done is in its limits, where all are
pub is_limited_at : (w : World) (s : State) (commands : List Command) (n : ℕ) (command : Command) (replies : List Reply) (last : State) → n < length commands → command ≡ get_or commands n command
    → fold w s (take n commands) ≡ Ends replies last → AreLimited w s commands → IsLimited w last command
is_limited_at w s [] n command replies last below here is limited = absurd (omega (arith, below))
is_limited_at w s (first ∷ rest) zero command replies last below here is limited =
    let same : s ≡ last = cc (is) in
    subst (λ (x : State). IsLimited w x command) same (subst (λ (c : Command). IsLimited w s c) (sym here) limited.0)
is_limited_at w s (first ∷ rest) (suc n) command replies last below here is limited =
    let f = first_done w s first (take n rest) replies last is in
    is_limited_at w f.1 rest n command f.3.0 last (omega (arith, below)) here f.3.1 (limited.1 f.0 f.1 f.2)
