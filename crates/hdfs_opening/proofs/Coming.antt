-- What asks of a service come to that is whole, the ask for the cluster's defaults before all.
use Rattle.std.proofs.Common.{◌≡◌, inl, inr, ℕ, ◌<◌, Bool, false, Option, Some, None, Result, Ok, Err, refl, sym, ap, subst}
use Rattle.hdfs_cluster.specs.declared.asks.Answer.{Answer}
use Rattle.hdfs_cluster.specs.declared.asks.Answer.TheVariants as answers
use Rattle.hdfs_cluster.specs.declared.asks.Ask.{Ask}
use Rattle.hdfs_cluster.specs.declared.asks.Ask.TheVariants as asks
use Rattle.hdfs_cluster.specs.declared.asks.AskFault.{AskFault}
use Rattle.hdfs_cluster.specs.declared.errors.HdfsError.{HdfsError}
use Rattle.hdfs_cluster.specs.declared.messages.ServerDefaults.{ServerDefaults}
use Rattle.hdfs_cluster.specs.Picture.{Picture}
use Rattle.hdfs_cluster.specs.Shown.{Later, Served, Shown}
use Rattle.hdfs_namenode.specs.Asked.{AskedOnce, ReachesAll, Through}
use Rattle.hdfs_namenode.specs.Clients.{defaults_of, proxy_of, through}
use Rattle.hdfs_namenode.specs.Relaying.{Came, CameCached}
use Rattle.hdfs_namenode.specs.Views.{Whole}
use Rattle.hdfs_namenode.specs.declared.protocol.NamenodeProtocol.{NamenodeProtocol}
use Rattle.hdfs_namenode.specs.declared.proxy.NameServiceProxy.{NameServiceProxy}
use Rattle.hdfs_namenode.proofs.Comings.{came}
use Rattle.hdfs_namenode.proofs.Relayed.{came_nothing}
use Rattle.hdfs_namenode.proofs.Services.{asked_plain, reaches_later, reaches_service, same_service_refl}
use Rattle.hdfs_opening.specs.Opening.{AsksInVain, HasDefaults}

module _ {C : Type 0} {shown : C → Shown} {serves : C → ℕ → Ask → Result Answer AskFault → C → Type 0}
    (rows : (old new : C) (i : ℕ) (ask : Ask) (result : Result Answer AskFault) → serves old i ask result new → Served (shown old) i ask result (shown new))
    (below : (c : C) (p : Picture) → (shown c).picture ≡ Some p → p.active < (shown c).namenodes) where
  -- an ask of a service that is whole
  pub came_once : (write : Bool) (ask : Ask) (old new : Through C) (outcome : Result Answer HdfsError) → ReachesAll old.proxy (shown old.cluster)
      → AskedOnce serves write ask old outcome new → Came (shown old.cluster) ask outcome (shown new.cluster)
  came_once write ask old new outcome reaches (inl asked) = came rows below (reaches_service old.proxy (shown old.cluster) reaches) asked Whole reaches
  came_once write ask old new outcome reaches (inr none) =
      subst (λ (t : Through C). Came (shown old.cluster) ask outcome (shown t.cluster)) (sym none.same)
      (subst (λ (r : Result Answer HdfsError). Came (shown old.cluster) ask r (shown old.cluster)) (sym none.is) (came_nothing {s = shown old.cluster} {ask = ask}))

  module _ {before between : NamenodeProtocol} {old mid : C} (reaches : ReachesAll (proxy_of before) (shown old)) where
    -- what the ask for the defaults has come to, where there are some, and where there are none
    pub has_cached : {may_answer : Ask → Answer → Type 0} {d : ServerDefaults} → HasDefaults may_answer serves before old d between mid → CameCached (defaults_of before) (shown old) (Ok d) (shown mid)
    has_cached {may_answer} {d} has = record {
      known = λ kept is. (let had = has.known kept is in (ap (λ (x : ServerDefaults). Ok x) had.0, ap shown had.2));
      asked = λ none.
          came_once false asks.GetServerDefaults (through before old) (through between mid) (Ok (answers.GetServerDefaults d)) reaches (inl (has.asked none));
    }

    pub vain_cached : {error : HdfsError} → AsksInVain serves before old error between mid → CameCached (defaults_of before) (shown old) (Err error) (shown mid)
    vain_cached {error} vain = record {
      known = λ kept is. absurd (let none = vain.unknown in cc (is, none));
      asked = λ none. came_once false asks.GetServerDefaults (through before old) (through between mid) (Err error) reaches (inl vain.asked);
    }

    -- it asks the same namenodes
    same_proxy : {may_answer : Ask → Answer → Type 0} {d : ServerDefaults} → HasDefaults may_answer serves before old d between mid → proxy_of between ≡ proxy_of before
    same_proxy {may_answer} {d} has = by (defaults_of before) refl
      where
        by : (o : Option ServerDefaults) → defaults_of before ≡ o → proxy_of between ≡ proxy_of before
        by None none =
            (asked_plain serves false asks.GetServerDefaults (through before old) (Ok (answers.GetServerDefaults d)) (through between mid) reaches.plain
            (has.asked none)).remembered
        by (Some kept) some = ap proxy_of (has.known kept some).1

    -- and is whole still
    pub reaches_between : {may_answer : Ask → Answer → Type 0} {d : ServerDefaults} → HasDefaults may_answer serves before old d between mid → Later (shown old) (shown mid)
        → ReachesAll (proxy_of between) (shown mid)
    reaches_between has later =
        subst (λ (x : NameServiceProxy). ReachesAll x (shown mid)) (sym (same_proxy has))
        (reaches_later (proxy_of before) (proxy_of before) (shown old) (shown mid) (same_service_refl (proxy_of before)) later reaches)
