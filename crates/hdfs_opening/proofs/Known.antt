-- The cluster's defaults, as a service knows them or has asked for them.
use Rattle.std.proofs.Common.{◌≡◌, inl, inr, Option, Some, None, Result, Ok, Err, refl, sym, ◌∙◌, ap, subst}
use Rattle.std.specs.Prelude.{IfSome}
use Rattle.hdfs_cluster.specs.declared.asks.Answer.{Answer}
use Rattle.hdfs_cluster.specs.declared.asks.Ask.{Ask}
use Rattle.hdfs_cluster.specs.declared.errors.HdfsError.{HdfsError}
use Rattle.hdfs_cluster.specs.declared.messages.ServerDefaults.{ServerDefaults}
use Rattle.hdfs_cluster.specs.Shown.{Shown}
use Rattle.hdfs_model.specs.Opening.{AnswersDefaults}
use Rattle.hdfs_namenode.specs.Clients.{KeepsAnswered, defaults_of}
use Rattle.hdfs_namenode.specs.Relaying.{CameCached}
use Rattle.hdfs_namenode.specs.declared.protocol.NamenodeProtocol.{NamenodeProtocol}
use Rattle.hdfs_opening.specs.Opening.{IsKnown}

abbrev given : ServerDefaults → Result ServerDefaults HdfsError
given d = Ok d

-- a call for them that knew some gave these, and asked nothing
pub known_as : {C : Type 0} {old new : C} {before after : NamenodeProtocol} (was : Option ServerDefaults) (d : ServerDefaults)
    → IfSome was (λ kept. (given d ≡ Ok kept) × (new ≡ old) × (after ≡ before))
    → (kept : ServerDefaults) → was ≡ Some kept → (d ≡ kept) × (after ≡ before) × (new ≡ old)
known_as None d had kept is = absurd (cc is)
known_as (Some known) d had kept is = (cc (had.0, is), had.2, had.1)

-- a call for them that failed knew none
pub unknown : (known : Option ServerDefaults) (old new : Shown) (error : HdfsError) → CameCached known old (Err error) new → known ≡ None
unknown None old new error came = refl
unknown (Some kept) old new error came = absurd (cc (came.known kept refl).0)

-- what it gave was answered, or known
pub is_known : (may_answer : Ask → Answer → Type 0) (before after : NamenodeProtocol) (d : ServerDefaults) → defaults_of after ≡ Some d
    → (KeepsAnswered may_answer before → KeepsAnswered may_answer after) → ((kept : ServerDefaults) → defaults_of before ≡ Some kept → d ≡ kept)
    → IsKnown may_answer before d
is_known may_answer before after d is keeps known = by (defaults_of before) refl
  where
    by : (was : Option ServerDefaults) → defaults_of before ≡ was → IsKnown may_answer before d
    by None none =
        inl (subst (λ (o : Option ServerDefaults). IfSome o (AnswersDefaults may_answer)) is
        (keeps (subst (λ (o : Option ServerDefaults). IfSome o (AnswersDefaults may_answer)) (sym none) tt)))
    by (Some kept) some = inr (some ∙ ap (λ (x : ServerDefaults). Some x) (sym (known kept some)))
