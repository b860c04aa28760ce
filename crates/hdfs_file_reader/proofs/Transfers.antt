-- What asking for the cluster's defaults has come to, which are asked for once.
use Rattle.std.proofs.Common.{◌≡◌, ℕ, false, inl, inr, ⊎_elim, Option, Some, None, Result, Ok, Err, refl, sym, ◌∙◌, ap, subst}
use Rattle.hdfs_cluster.specs.declared.asks.Answer.{Answer}
use Rattle.hdfs_cluster.specs.declared.asks.Answer.TheVariants as answers
use Rattle.std.specs.Prelude.{IfSome}
use Rattle.hdfs_cluster.specs.declared.asks.AskFault.{AskFault}
use Rattle.hdfs_cluster.specs.declared.asks.Ask.{Ask}
use Rattle.hdfs_cluster.specs.declared.asks.Ask.TheVariants as asks
use Rattle.hdfs_cluster.specs.declared.errors.HdfsError.{HdfsError}
use Rattle.hdfs_cluster.specs.declared.messages.ServerDefaults.{ServerDefaults}
use Rattle.hdfs_cluster.specs.Failures.{CallsRose}
use Rattle.hdfs_cluster.specs.Effects.{KeepsBytes}
use Rattle.hdfs_cluster.specs.Namenode.{Row}
use Rattle.hdfs_cluster.specs.Picture.{Picture, SameButActive, Told}
use Rattle.hdfs_cluster.specs.Repeating.{DoneOrNot}
use Rattle.hdfs_cluster.specs.Shown.{Shown, Served}
use Rattle.hdfs_cluster.proofs.Frames.{same_files_refl, told_after, told_refl}
use Rattle.hdfs_cluster.proofs.Repeating.{defaults_repeats}
use Rattle.hdfs_namenode.specs.Asked.{Asked, as_answer}
use Rattle.hdfs_namenode.specs.Clients.{through}
use Rattle.hdfs_namenode.specs.Relaying.{Came, CameCached}
use Rattle.hdfs_namenode.specs.declared.protocol.NamenodeProtocol.{NamenodeProtocol}
use Rattle.hdfs_namenode.proofs.Observers.{all_leaves}
use Rattle.hdfs_namenode.proofs.Relayed.{relayed_done, relayed_row}
use Rattle.hdfs_file_reader.specs.Looking.{OnlyLooks}
use Rattle.hdfs_file_reader.specs.Transferring.{AreDefaultsOf, AskedInVain, StaysKnown}
use Rattle.hdfs_file_reader.proofs.Looking.{looks_from-Leaves, looks_refl}

-- an ask for the defaults by its row leaves the picture, but for which namenode is active
row_leaves : (p q : Picture) (answer : Answer) → Row p asks.GetServerDefaults answer q → SameButActive p q
row_leaves p q (answers.GetServerDefaults defaults) row = row.1
row_leaves p q answer row = absurd row

done_leaves : (p q : Picture) → DoneOrNot asks.GetServerDefaults p q → SameButActive p q
done_leaves p q (inl same) = same
done_leaves p q (inr done) = row_leaves p q done.0 done.2

active_refl : (p : Picture) → SameButActive p p
active_refl p = record { files = same_files_refl p; reads = λ link. refl; writes = λ link. refl }

-- what asking for them leaves of the cluster
abbrev pub OnlyAsks : Shown → Shown → Type 0
OnlyAsks a b = OnlyLooks a b × Told SameButActive a.picture b.picture

pub only_asks_refl : (a : Shown) → OnlyAsks a a
only_asks_refl a = (looks_refl a, told_refl SameButActive a.picture active_refl)

-- a service of any kind was asked for them, or they were known
module _ {C : Type 0} (shown : C → Shown) (serves : C → ℕ → Ask → Result Answer AskFault → C → Type 0)
    (rows : (old new : C) (i : ℕ) (ask : Ask) (result : Result Answer AskFault) → serves old i ask result new → Served (shown old) i ask result (shown new)) where
  pub looks_cached : (known : Option ServerDefaults) (n n' : NamenodeProtocol) (c c' : C) (result : Result ServerDefaults HdfsError)
      → (known ≡ None → Asked serves false asks.GetServerDefaults (through n c) (as_answer answers.GetServerDefaults result) (through n' c'))
      → IfSome known (λ kept. (result ≡ Ok kept) × (c' ≡ c) × (n' ≡ n)) → OnlyLooks (shown c) (shown c')
  looks_cached None n n' c c' result asked kept =
      looks_from-Leaves (shown c) (shown c')
      (all_leaves shown serves rows false asks.GetServerDefaults (through n c) (as_answer answers.GetServerDefaults result) (through n' c') (asked refl))
  looks_cached (Some d) n n' c c' result asked kept = subst (λ (x : C). OnlyLooks (shown c) (shown x)) (sym kept.1) (looks_refl (shown c))

-- what is so of each told picture is so of the pictures, where one is told behind an untold one no more than before it
told_each : (P Q : Picture → Picture → Type 0) (a b : Option Picture) → Told P a b → ((p : Picture) → a ≡ Some p → (q : Picture) × (b ≡ Some q) × Q p q) → Told Q a b
told_each P Q None None h each = tt
told_each P Q None (Some b) h each = h
told_each P Q (Some a) None h each = h
told_each P Q (Some a) (Some b) h each =
    let to = each a refl in
    let same : to.0 ≡ b = cc to.1 in
    subst (λ (x : Picture). Q a x) same to.2

-- what an ask for them has come to
module _ {s t : Shown} where
  leaves_asked : {result : Result Answer HdfsError} → Came s asks.GetServerDefaults result t → OnlyAsks s t
  leaves_asked {result} came = (
    looks_from-Leaves s t came.relays.leaves,
    told_each KeepsBytes SameButActive s.picture t.picture came.relays.leaves.bytes
        (λ p told. (let to = came.told p told (defaults_repeats p) in
        (to.0, to.1, done_leaves p to.0 (relayed_done (CallsRose s.counts t) p asks.GetServerDefaults result to.0 came.relays.shaped to.2)))),
  )

  -- they were known, or they were asked for
  module _ {known : Option ServerDefaults} where
    pub leaves_by : {result : Result ServerDefaults HdfsError} → CameCached known s result t → OnlyAsks s t
    leaves_by {result} came = by_known known refl
      where
        by_known : (o : Option ServerDefaults) → known ≡ o → OnlyAsks s t
        by_known None is = leaves_asked (came.asked is)
        by_known (Some kept) is = subst (OnlyAsks s) (sym (came.known kept is).1) (only_asks_refl s)

    -- where an error was answered, they weren't known: it tells what it stands for, and comes for want of memory, or where a namenode has failed
    pub lacks_by : {error : HdfsError} → CameCached known s (Err error) t → AskedInVain s error t
    lacks_by {error} came =
        let had = came.asked (by_known known refl) in (
          had.relays.tells,
          λ p told. ⊎_elim (λ memory. inl memory.0) (λ more. inr (⊎_elim (λ refused. absurd refused.0.2) (λ rose. rose.0) more))
              (had.told p told (defaults_repeats p)).2,
        )
      where
        by_known : (o : Option ServerDefaults) → known ≡ o → known ≡ None
        by_known None is = is
        by_known (Some kept) is = absurd (cc (came.known kept is).0)

    -- those that were answered are the picture's, where no others were known
    pub defaults_told : {d : ServerDefaults} → CameCached known s (Ok d) t → (p : Picture) → s.picture ≡ Some p → AreDefaultsOf p known → d ≡ p.defaults
    defaults_told {d} came p told knows = by_known known refl knows
      where
        by_known : (o : Option ServerDefaults) → known ≡ o → AreDefaultsOf p o → d ≡ p.defaults
        by_known None is k =
            let to = (came.asked is).told p told (defaults_repeats p) in
            (relayed_row (CallsRose s.counts t) p asks.GetServerDefaults (answers.GetServerDefaults d) to.0 (λ no. absurd (cc no)) (λ no. absurd (cc no)) to.2).0
        by_known (Some kept) is k = (let same : d ≡ kept = cc (came.known kept is).0 in same ∙ k)

    -- and are so still
    pub stays_known : {d : ServerDefaults} {known' : Option ServerDefaults} → CameCached known s (Ok d) t → known' ≡ Some d → StaysKnown s known t known'
    stays_known {d} {known'} came is p q was now knows =
        let to = told_after SameButActive s.picture t.picture p (leaves_by came).1 was in
        let same : to.0 ≡ q = cc (to.1, now) in
        let still : q.defaults ≡ p.defaults = ap (λ (x : Picture). x.defaults) (sym same) ∙ to.2.files.defaults in
        subst (AreDefaultsOf q) (sym is) (defaults_told came p was knows ∙ sym still)

-- where nothing is known any more than before, nothing else is
pub none_known : (s t : Shown) (known known' : Option ServerDefaults) → known' ≡ None → StaysKnown s known t known'
none_known s t known known' is p q was now knows = subst (AreDefaultsOf q) (sym is) tt

-- it stays so where the files stay
pub known_still : (s t : Shown) (p q : Picture) (known : Option ServerDefaults) → q.defaults ≡ p.defaults → AreDefaultsOf p known → AreDefaultsOf q known
known_still s t p q None same knows = tt
known_still s t p q (Some d) same knows = knows ∙ sym same
