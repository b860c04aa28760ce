-- That leases are renewed by the names of their namespaces.
use Rattle.std.proofs.Common.{◌≡◌, ◌⊎◌, inl, inr, ℕ, ◌<◌, true, List, Some, Option, Result, sym, subst}
use Rattle.hdfs_leases.specs.Leases.{HoldsSame, held}
use Rattle.hdfs_leases.specs.declared.file_leases.FileLeases.{FileLeases}
use Rattle.hdfs_cluster.specs.declared.asks.Ask.{Ask}
use Rattle.hdfs_cluster.specs.declared.asks.Ask.TheVariants as asks
use Rattle.hdfs_cluster.specs.declared.asks.Answer.{Answer}
use Rattle.hdfs_cluster.specs.declared.asks.Answer.TheVariants as answers
use Rattle.hdfs_cluster.specs.declared.asks.AskFault.{AskFault}
use Rattle.hdfs_cluster.specs.declared.errors.HdfsError.{HdfsError}
use Rattle.hdfs_namenode.specs.Asked.{AskedOnce, Through, as_answer}
use Rattle.hdfs_namenode.specs.Renewing.{AreNamespaces, EndsTurn, Renews, turn_of}
use Rattle.hdfs_namenode.specs.declared.leases.LeaseTurn.{LeaseTurn}

-- leases that are held as often stand in the same namespaces
names_same : (leases leases' : FileLeases) → HoldsSame leases leases' → (names : List (List ℕ)) → AreNamespaces leases' names → AreNamespaces leases names
names_same leases leases' same names all = record {
  ascending = all.ascending;
  exact = λ name. (
    (λ among. (let h = (all.exact name).0 among in (h.0, subst (λ (n : ℕ). 0 < n) (same (Some name) h.0) h.1))),
    (λ one. (all.exact name).1 (one.0, subst (λ (n : ℕ). 0 < n) (sym (same (Some name) one.0)) one.1)),
  );
}

module _ {C : Type 0} (serves : C → ℕ → Ask → Result Answer AskFault → C → Type 0) (moment last : ℕ) (client : List ℕ) (leases : FileLeases)
    (old new : Through C) (result : Result LeaseTurn HdfsError) (last' : Option ℕ) where
  -- they were asked for once, by these names
  pub renews_once : (names slice : List (List ℕ)) → slice ≡ names → AreNamespaces leases names → (renewed : Result (Unit {0}) HdfsError)
      → AskedOnce serves true (asks.RenewLease client slice) old (as_answer (λ done. answers.RenewLease) renewed) new
      → (turn : Option LeaseTurn) → turn_of renewed ≡ turn → EndsTurn moment last turn result last'
      → Renews serves moment last client leases old result last' new
  renews_once names slice is all renewed asked turn comes ends = inl (record {
    namespaces = slice;
    all = subst (AreNamespaces leases) (sym is) all;
    renewed = renewed;
    asked = asked;
    ends = subst (λ (t : Option LeaseTurn). EndsTurn moment last t result last') (sym comes) ends;
  })

  -- and so are those that are held as often
  pub renews_same : (leases' : FileLeases) → HoldsSame leases leases' → Renews serves moment last client leases' old result last' new
      → Renews serves moment last client leases old result last' new
  renews_same leases' same (inl once) = inl (record {
    namespaces = once.namespaces;
    all = names_same leases leases' same once.namespaces once.all;
    renewed = once.renewed;
    asked = once.asked;
    ends = once.ends;
  })
  renews_same leases' same (inr out) = inr out
