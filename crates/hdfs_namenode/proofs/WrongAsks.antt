-- Wrong ways to ask the namenodes of a service, which the definitions refuse. The cluster here does nothing but count what it is asked.
use Rattle.std.specs.Prelude.{◌≡◌, ◌≢◌, ◌+◌, ℕ, true, false, List, [], ◌∷◌, ◌++◌, Result, Ok, Err}
use Rattle.std.proofs.Common.{inl, inr, refl, sym, ap, arith}
use Rattle.std.proofs.lemmas.Bool.{false≢true}
use Rattle.hdfs_cluster.specs.declared.asks.Ask.{Ask}
use Rattle.hdfs_cluster.specs.declared.asks.Ask.TheVariants as asks
use Rattle.hdfs_cluster.specs.Asks.{create_ask}
use Rattle.hdfs_cluster.specs.declared.asks.Answer.{Answer}
use Rattle.hdfs_cluster.specs.declared.asks.AskFault.{AskFault}
use Rattle.hdfs_cluster.specs.declared.asks.AskFault.TheVariants as faults
use Rattle.hdfs_cluster.specs.Failover.{AsksInOrder, AsksOne}
use Rattle.hdfs_namenode.specs.Asked.{remembers}
use Rattle.hdfs_namenode.specs.declared.proxy.NameServiceProxy.{NameServiceProxy}

-- it was asked once more
abbrev pub counts : ℕ → ℕ → Ask → Result Answer AskFault → ℕ → Type 0
counts old i ask given new = new ≡ old + 1

-- a namenode whose connection broke isn't asked just once
pub is_asked_again : AsksOne {C = ℕ} counts 0 asks.Msync 7 (Err faults.Broken) 8 → ⊥
is_asked_again (inl once) = false≢true (sym once.1)
is_asked_again (inr again) = omega (arith, again.1, again.2)

-- nor three times
pub is_asked_no_third_time : AsksOne {C = ℕ} counts 0 asks.Msync 7 (Err faults.Broken) 10 → ⊥
is_asked_no_third_time (inl once) = false≢true (sym once.1)
is_asked_no_third_time (inr again) = omega (arith, again.1, again.2)

abbrev rest : List ℕ → List ℕ
rest [] = []
rest (i ∷ others) = others

none_left : (front left : List ℕ) (i : ℕ) → [] ≡ front ++ i ∷ left → ⊥
none_left [] left i same = cc same
none_left (j ∷ front) left i same = cc same

first_of_two : (front left : List ℕ) → 0 ∷ 1 ∷ [] ≡ front ++ 0 ∷ left → left ≡ [] → ⊥
first_of_two [] left same none = cc (same, none)
first_of_two (i ∷ []) left same none = cc same
first_of_two (i ∷ j ∷ front) left same none = none_left front left 0 (ap rest (ap rest same))

-- of two namenodes the first one isn't the last that is asked, where its connection broke
pub next_is_asked : (old new : ℕ) → AsksInOrder {C = ℕ} counts (0 ∷ 1 ∷ []) asks.Msync old 0 (Err faults.Broken) new → ⊥
next_is_asked old new asked = first_of_two asked.front asked.left asked.in_order (asked.ends refl)

-- a namenode that answers a read isn't remembered
pub read_is_forgotten : (answer : Answer) (proxy : NameServiceProxy) → proxy.remembered ≡ 0 → (remembers false 1 (Ok answer) proxy).remembered ≢ 1
read_is_forgotten answer proxy first same = cc (first, same)

abbrev permission_of : Ask → ℕ
permission_of (asks.Create ask) = ask.masked
permission_of ask = 0

-- a file is asked for with the permission that was given, and with no other
pub permission_is_asked : (src client : List ℕ) → create_ask src 384 client 1 true 3 8 ≢ create_ask src 420 client 1 true 3 8
permission_is_asked src client same = omega (arith, ap permission_of same)
