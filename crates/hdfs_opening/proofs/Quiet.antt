-- Asking for the cluster's defaults changes nothing of a told picture but which namenode is active, whether they were known or asked for.
use Rattle.std.proofs.Common.{◌≡◌, inl, inr, Option, Some, None, Result, refl, sym, subst}
use Rattle.hdfs_cluster.specs.declared.asks.Answer.{Answer}
use Rattle.hdfs_cluster.specs.declared.asks.Answer.TheVariants as answers
use Rattle.hdfs_cluster.specs.declared.asks.Ask.TheVariants as asks
use Rattle.hdfs_cluster.specs.declared.errors.HdfsError.{HdfsError}
use Rattle.hdfs_cluster.specs.declared.messages.ServerDefaults.{ServerDefaults}
use Rattle.hdfs_cluster.specs.Effects.{KeepsBytes}
use Rattle.hdfs_cluster.specs.Failures.{CallsRose}
use Rattle.hdfs_cluster.specs.Namenode.{Row}
use Rattle.hdfs_cluster.specs.Picture.{Picture, SameButActive, Told}
use Rattle.hdfs_cluster.specs.Repeating.{DoneOrNot}
use Rattle.hdfs_cluster.specs.Shown.{Shown}
use Rattle.hdfs_cluster.proofs.Frames.{same_files_refl, told_refl}
use Rattle.hdfs_cluster.proofs.Repeating.{defaults_repeats}
use Rattle.hdfs_namenode.specs.Relaying.{Came, CameCached}
use Rattle.hdfs_namenode.specs.Views.{View, see}
use Rattle.hdfs_namenode.proofs.Relayed.{relayed_done}
use Rattle.hdfs_opening.specs.Opening.{LeavesLinks}

-- an ask for the defaults by its row leaves the picture, but for which namenode is active
row_leaves : (p q : Picture) (answer : Answer) → Row p asks.GetServerDefaults answer q → SameButActive p q
row_leaves p q (answers.GetServerDefaults defaults) row = row.1
row_leaves p q answer row = absurd row

done_leaves : (p q : Picture) → DoneOrNot asks.GetServerDefaults p q → SameButActive p q
done_leaves p q (inl same) = same
done_leaves p q (inr done) = row_leaves p q done.0 done.2

active_refl : (p : Picture) → SameButActive p p
active_refl p = record { files = same_files_refl p; reads = λ link. refl; writes = λ link. refl }

-- what is so of each told picture is so of the pictures, where one is told behind an untold one no more than before it
told_each : (P Q : Picture → Picture → Type 0) (a b : Option Picture) → Told P a b → ((p : Picture) → a ≡ Some p → (q : Picture) × (b ≡ Some q) × Q p q) → Told Q a b
told_each P Q None None h each = tt
told_each P Q None (Some b) h each = h
told_each P Q (Some a) None h each = h
told_each P Q (Some a) (Some b) h each =
    let to = each a refl in
    let same : to.0 ≡ b = cc to.1 in
    subst (λ (x : Picture). Q a x) same to.2

-- links that are seen to stay stay
pub links_shown : (view : View) {s t : Shown} → LeavesLinks (see view s) (see view t) → LeavesLinks s t
links_shown view h = record { namenodes = h.namenodes; writes = h.writes }

-- what asking for the defaults leaves
pub record Quiet (s t : Shown) : Type 0 where
  pub links : LeavesLinks s t
  pub picture : Told SameButActive s.picture t.picture

module _ {s t : Shown} where
  quiet_asked : {result : Result Answer HdfsError} → Came s asks.GetServerDefaults result t → Quiet s t
  quiet_asked {result} came = record {
    links = record { namenodes = came.relays.leaves.later.namenodes; writes = came.relays.leaves.writes };
    picture = told_each KeepsBytes SameButActive s.picture t.picture came.relays.leaves.bytes
        (λ p told. (let to = came.told p told (defaults_repeats p) in
        (to.0, to.1, done_leaves p to.0 (relayed_done (CallsRose s.counts t) p asks.GetServerDefaults result to.0 came.relays.shaped to.2))));
  }

  module _ {known : Option ServerDefaults} where
    pub quiet_by : {result : Result ServerDefaults HdfsError} → CameCached known s result t → Quiet s t
    quiet_by {result} came = by_known known refl
      where
        by_known : (o : Option ServerDefaults) → known ≡ o → Quiet s t
        by_known None is = quiet_asked (came.asked is)
        by_known (Some kept) is = subst (Quiet s) (sym (came.known kept is).1)
            (record { links = record { namenodes = refl; writes = λ link. refl }; picture = told_refl SameButActive s.picture active_refl })
