-- The services of a client take their turns, one behind another.
use Rattle.std.proofs.Common.{◌≡◌, ◌<◌, ◌≤◌, ◌+◌, ◌-◌, ◌/◌, ◌==◌, ℕ, zero, suc, Bool, true, false, List, [], ◌∷◌, ◌++◌, length, take, drop, set, get_or, slice_get, Option, Some, None, Result, inl, inr, refl, sym, ◌∙◌, ap, subst, arith, append_assoc}
use Rattle.std.specs.Prelude.{nat_lt}
use Rattle.std.proofs.lemmas.Bool.{cases_Bool, false≢true}
use Rattle.std.proofs.lemmas.Bool.Decides.{Decides-eqb, Decides-ltb}
use Rattle.std.proofs.lemmas.List.{append-nil, drop-drop, drop-set-lt, drop_all, drop_more, take_all, take_more_set}
use Rattle.hdfs_cluster.specs.declared.asks.Ask.{Ask}
use Rattle.hdfs_cluster.specs.declared.asks.Ask.TheVariants as asks
use Rattle.hdfs_cluster.specs.declared.asks.Answer.{Answer}
use Rattle.hdfs_cluster.specs.declared.asks.Answer.TheVariants as answers
use Rattle.hdfs_cluster.specs.declared.asks.AskFault.{AskFault}
use Rattle.hdfs_cluster.specs.declared.errors.HdfsError.{HdfsError}
use Rattle.hdfs_cluster.specs.Shown.{Served, Shown}
use Rattle.hdfs_cluster.proofs.Frames.{later_refl}
use Rattle.hdfs_leases.specs.Leases.{IsIdle, last_of}
use Rattle.hdfs_namenode.specs.Asked.{AskedOnce, Through, as_answer}
use Rattle.hdfs_namenode.specs.Clients.{SameButLeases, leases_of, name_of, proxy_of, through}
use Rattle.hdfs_namenode.specs.Renewing.{Renews}
use Rattle.hdfs_namenode.proofs.Observers.{asked_later}
use Rattle.hdfs_namenode.specs.declared.leases.LeaseTurn.{LeaseTurn}
use Rattle.hdfs_namenode.specs.declared.protocol.NamenodeProtocol.{NamenodeProtocol}
use Rattle.hdfs_client.specs.Clients.{IsClientOf, SameBut, service_at}
use Rattle.hdfs_client.specs.Leasing.{StepsAll, StepsOnce, all_of, both}
use Rattle.hdfs_client.specs.declared.client.Client.{Client}
use Rattle.hdfs_client.proofs.ByReaders.{client_read}

-- ---- the cluster has as many namenodes as before

module _ {C : Type 0} (shown : C → Shown) (serves : C → ℕ → Ask → Result Answer AskFault → C → Type 0)
    (rows : (old new : C) (i : ℕ) (ask : Ask) (result : Result Answer AskFault) → serves old i ask result new → Served (shown old) i ask result (shown new)) where
  once_as_many : (ask : Ask) (old new : Through C) (outcome : Result Answer HdfsError) → AskedOnce serves true ask old outcome new
      → (shown new.cluster).namenodes ≡ (shown old.cluster).namenodes
  once_as_many ask old new outcome (inl asked) = (asked_later shown serves rows true ask old outcome new asked).namenodes
  once_as_many ask old new outcome (inr none) = ap (λ (t : Through C). (shown t.cluster).namenodes) none.same

  renews_as_many : (moment last : ℕ) (before after : NamenodeProtocol) (old new : C) (turn : Result LeaseTurn HdfsError)
      → Renews serves moment last (name_of before) (leases_of before) (through before old) turn (last_of (leases_of after)) (through after new)
      → (shown new).namenodes ≡ (shown old).namenodes
  renews_as_many moment last before after old new turn (inl once) =
      once_as_many (asks.RenewLease (name_of before) once.namespaces) (through before old) (through after new) (as_answer (λ done. answers.RenewLease) once.renewed) once.asked
  renews_as_many moment last before after old new turn (inr out) = ap (λ (t : Through C). (shown t.cluster).namenodes) out.same

  pub as_many : (moment : ℕ) (before after : NamenodeProtocol) (old new : C) (turn : Result LeaseTurn HdfsError) → StepsOnce serves moment before old turn after new
      → (shown new).namenodes ≡ (shown old).namenodes
  as_many moment before after old new turn step = elim (cases_Bool ((shown new).namenodes == (shown old).namenodes)) [
    | inl same ↦ (Decides-eqb (shown new).namenodes (shown old).namenodes).0 same
    | inr apart ↦ absurd (never (λ e. false≢true (sym apart ∙ (Decides-eqb (shown new).namenodes (shown old).namenodes).1 e)))
  ]
    where
      stays : through after new ≡ through before old → (shown new).namenodes ≡ (shown old).namenodes
      stays same = ap (λ (t : Through C). (shown t.cluster).namenodes) same

      never : ¬ ((shown new).namenodes ≡ (shown old).namenodes) → ⊥
      never other = by_last (last_of (leases_of before)) refl
        where
          busy : ¬ IsIdle (leases_of before)
          busy idle = other (stays (step.idle idle).2)

          by_time : (last : ℕ) → last_of (leases_of before) ≡ Some last → (b : Bool) → nat_lt 30 ((moment - last) / 1000) ≡ b → ⊥
          by_time last is true late = other (renews_as_many moment last before after old new turn (step.due last busy is ((Decides-ltb 30 ((moment - last) / 1000)).0 late)))
          by_time last is false soon = other (stays (step.waits last busy is (not_late ((moment - last) / 1000) soon)).2)
            where
              not_late : (n : ℕ) → nat_lt 30 n ≡ false → n ≤ 30
              not_late n soon = elim (cases_Bool (nat_lt 30 n)) [ inl late ↦ absurd (false≢true (sym soon ∙ late)) | inr early ↦ omega (arith, (λ (low : 30 < n). false≢true (sym early ∙ (Decides-ltb 30 n).1 low))) ]

          by_last : (last : Option ℕ) → last_of (leases_of before) ≡ last → ⊥
          by_last None is = other (stays (step.first busy is).2)
          by_last (Some last) is = by_time last is (nat_lt 30 ((moment - last) / 1000)) refl

-- a client of a cluster with as many namenodes
pub by_namenodes : (client : Client) (s t : Shown) → t.namenodes ≡ s.namenodes → IsClientOf client s → IsClientOf client t
by_namenodes client s t same of = record {
  many = same ∙ of.many;
  each = λ k namenode is.
      let service = of.each k namenode is in
      record {
        within = subst (λ (n : ℕ). (proxy_of namenode).first + (proxy_of namenode).count ≤ n) (sym same) service.within;
        from = service.from;
        below = service.below;
        observer = service.observer;
      };
}

pub client_stepped : (client client' : Client) (k : ℕ) (before after : NamenodeProtocol) (s t : Shown) → IsClientOf client s → t.namenodes ≡ s.namenodes
    → SameButLeases before after → service_at client k ≡ Some before → service_at client' k ≡ Some after → SameBut k client client' → IsClientOf client' t
client_stepped client client' k before after s t of same keeps was is others =
    by_namenodes client' s t same (client_read client client' k before after s s of (later_refl s) keeps.service was is others)

-- ---- one turn more

-- behind some turns: what the others come to, all come to
abbrev pub GoesOn : {C : Type 0} → (C → ℕ → Ask → Result Answer AskFault → C → Type 0) → ℕ → List NamenodeProtocol → C → Option LeaseTurn → Option LeaseTurn
    → ℕ → List NamenodeProtocol → C → Type 0
GoesOn {C} serves moment all old start so_far k now mid =
    (turns : List (Result LeaseTurn HdfsError)) (services : List NamenodeProtocol) (new : C) → StepsAll serves moment (drop k now) mid turns services new
    → (more : List (Result LeaseTurn HdfsError)) × StepsAll serves moment all old more (take k now ++ services) new
    × (all_of start more ≡ all_of so_far turns)

module _ {C : Type 0} (serves : C → ℕ → Ask → Result Answer AskFault → C → Type 0) (moment : ℕ) (all : List NamenodeProtocol) (old : C) (start : Option LeaseTurn) where
  pub one_turn_more : (so_far : Option LeaseTurn) (k : ℕ) (now : List NamenodeProtocol) (before after : NamenodeProtocol) (mid next : C) (turn : Result LeaseTurn HdfsError)
      → k < length now → before ≡ get_or now k before → StepsOnce serves moment before mid turn after next → GoesOn serves moment all old start so_far k now mid
      → GoesOn serves moment all old start (both so_far turn) (k + 1) (set now k after) next
  one_turn_more so_far k now before after mid next turn low is step goes turns services new steps =
      let front : drop k now ≡ before ∷ drop (k + 1) now = drop_more now k before low ∙ ap (λ (n : NamenodeProtocol). n ∷ drop (k + 1) now) (sym is) in
      let rest : StepsAll serves moment (drop (k + 1) now) next turns services new =
      subst (λ (l : List NamenodeProtocol). StepsAll serves moment l next turns services new) (drop-set-lt (k + 1) now k after (omega arith)) steps in
      let gone = goes (turn ∷ turns) (after ∷ services) new
      (subst (λ (l : List NamenodeProtocol). StepsAll serves moment l mid (turn ∷ turns) (after ∷ services) new) (sym front) (next, step, rest)) in (
        gone.0,
        subst (λ (l : List NamenodeProtocol). StepsAll serves moment all old gone.0 l new)
            (sym (ap (λ (l : List NamenodeProtocol). l ++ services) (take_more_set now k after low) ∙ append_assoc (take k now) (after ∷ []) services)) gone.1,
        gone.2,
      )

  -- behind the last one
  pub all_turns : (so_far : Option LeaseTurn) (k : ℕ) (now : List NamenodeProtocol) (mid : C) → length now ≤ k → GoesOn serves moment all old start so_far k now mid
      → (more : List (Result LeaseTurn HdfsError)) × StepsAll serves moment all old more now mid × (all_of start more ≡ so_far)
  all_turns so_far k now mid end goes =
      let gone = goes [] [] mid (subst (λ (l : List NamenodeProtocol). StepsAll serves moment l mid [] [] mid) (sym (drop_all k now end)) refl) in (
        gone.0,
        subst (λ (l : List NamenodeProtocol). StepsAll serves moment all old gone.0 l mid) (append-nil (take k now) ∙ take_all k now end) gone.1,
        gone.2,
      )

-- ---- the services that are left are what they were

at_head : (k : ℕ) (xs : List NamenodeProtocol) → slice_get (drop k xs) 0 ≡ slice_get xs k
at_head zero xs = refl
at_head (suc k) [] = refl
at_head (suc k) (x ∷ xs) = at_head k xs

pub same_at : (k : ℕ) (xs ys : List NamenodeProtocol) → drop k xs ≡ drop k ys → slice_get xs k ≡ slice_get ys k
same_at k xs ys same = sym (at_head k xs) ∙ ap (λ (l : List NamenodeProtocol). slice_get l 0) same ∙ at_head k ys

pub left_more : (k : ℕ) (now all : List NamenodeProtocol) (after : NamenodeProtocol) → drop k now ≡ drop k all → drop (k + 1) (set now k after) ≡ drop (k + 1) all
left_more k now all after same =
    drop-set-lt (k + 1) now k after (omega arith) ∙ sym (drop-drop 1 k now) ∙ ap (λ (l : List NamenodeProtocol). drop 1 l) same ∙ drop-drop 1 k all
