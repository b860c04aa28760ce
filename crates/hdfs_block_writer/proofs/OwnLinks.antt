-- Calls in the name of one writer, one behind another, and its own link.
use Rattle.std.proofs.Common.{◌≡◌, ◌≢◌, ◌⊎◌, inl, inr, ⊎_elim, ℕ, ◌==◌, Bool, true, false, Option, Some, None, IsSome, refl, sym, ◌∙◌, ap, subst, arith}
use Rattle.std.proofs.lemmas.Bool.Decides.{nat_tests}
use Rattle.hdfs_cluster.specs.declared.messages.Setup.{Setup}
use Rattle.hdfs_cluster.specs.Pipes.{OnlyWrites, WriteEnded, WriteOpened}
use Rattle.hdfs_cluster.specs.Shown.{Shown, SameReads}
use Rattle.hdfs_cluster.proofs.Frames.{later_refl, later_trans, same_reads_refl, same_reads_trans}
use Rattle.hdfs_pipeline.specs.Driving.{OnLink}
use Rattle.hdfs_block_writer.specs.OpenPipelines.{OnlyOwnLink}

-- whether an own link is this one
own_cases : (own : Option ℕ) (link : ℕ) → (own ≡ Some link) ⊎ (own ≢ Some link)
own_cases None link = inr (λ same. absurd (cc same))
own_cases (Some other) link = by_test (other == link) refl
  where
    by_test : (t : Bool) → (other == link) ≡ t → (Some other ≡ Some link) ⊎ (Some other ≢ Some link)
    by_test true is = inl (ap (λ (n : ℕ). Some n) (grind (arith, nat_tests, is)))
    by_test false is = inr (λ same. (let apart : other ≢ link = grind (arith, nat_tests, is) in apart (cc same)))

none_or_some : {X : Type 0} (o : Option X) → (o ≡ None) ⊎ IsSome o
none_or_some None = inl refl
none_or_some (Some x) = inr refl

some_none : {X : Type 0} (o : Option X) → IsSome o → o ≡ None → ⊥
some_none o some none = cc (some, none)

-- calls on write links leave the read links
only_writes_reads : (a b : Shown) → OnlyWrites a b → SameReads a b
only_writes_reads a b only = record { links = only.reads; places = only.places }

pub own_link_trans : (a b c : Shown) (x y z : Option ℕ) → OnlyOwnLink a x b y → OnlyOwnLink b y c z → OnlyOwnLink a x c z
own_link_trans a b c x y z one two = record {
  later = later_trans a b c one.later two.later;
  reads = same_reads_trans a b c one.reads two.reads;
  others = λ link some apart.
      (let same = one.others link some apart in
      let still : IsSome (b.writes link) = subst IsSome (sym same) some in
      two.others link still (λ mine. ⊎_elim (λ own. apart own) (λ none. some_none (a.writes link) some none) (one.fresh link mine)) ∙ same);
  none = λ link was apart. ⊎_elim
      (λ mine. two.none link (inr mine) apart)
      (λ away. two.none link (inl (one.none link was away)) apart)
      (own_cases y link);
  fresh = λ link mine. ⊎_elim
      (λ own. one.fresh link own)
      (λ none. ⊎_elim
      (λ own. inl own)
      (λ apart. ⊎_elim
      (λ was. inr was)
      (λ some. absurd (some_none (a.writes link) some (sym (one.others link some apart) ∙ none)))
      (none_or_some (a.writes link)))
      (own_cases x link))
      (two.fresh link mine);
}

-- nothing happened
pub own_link_refl : (a : Shown) (x : Option ℕ) → OnlyOwnLink a x a x
own_link_refl a x = record {
  later = later_refl a;
  reads = same_reads_refl a;
  others = λ link some apart. refl;
  none = λ link was apart. ⊎_elim (λ none. none) (λ own. absurd (apart own)) was;
  fresh = λ link mine. inl mine;
}

other_than : (link other : ℕ) → Some link ≢ Some other → other ≢ link
other_than link other apart same = apart (ap (λ (n : ℕ). Some n) (sym same))

-- calls on the own link, which stays open
pub own_link_on : (a b : Shown) (link : ℕ) → OnLink link a b → OnlyOwnLink a (Some link) b (Some link)
own_link_on a b link on = record {
  later = on.only.later;
  reads = only_writes_reads a b on.only;
  others = λ other some apart. on.others other (other_than link other apart);
  none = λ other was apart. ⊎_elim (λ none. on.others other (other_than link other apart) ∙ none) (λ own. absurd (apart own)) was;
  fresh = λ other mine. inl mine;
}

-- the own link is ended
pub own_link_ended : (a b : Shown) (link : ℕ) → WriteEnded a link b → OnlyOwnLink a (Some link) b None
own_link_ended a b link gone = record {
  later = gone.writes.only.later;
  reads = only_writes_reads a b gone.writes.only;
  others = λ other some apart. gone.writes.others other (other_than link other apart);
  none = λ other was apart. ⊎_elim
      (λ own. ap b.writes (let same : other ≡ link = cc own in same) ∙ gone.ended)
      (λ away. ⊎_elim (λ none. gone.writes.others other (other_than link other away) ∙ none) (λ own. absurd (away own)) was)
      (own_cases (Some link) other);
  fresh = λ other mine. absurd (cc mine);
}

-- a link of its own was opened
pub own_link_opened : (a b : Shown) (setup : Setup) (link : ℕ) → WriteOpened a setup link b → OnlyOwnLink a None b (Some link)
own_link_opened a b setup link opened = record {
  later = opened.only.later;
  reads = only_writes_reads a b opened.only;
  others = λ other some apart. opened.others other (λ same. some_none (a.writes other) some (ap a.writes same ∙ opened.fresh));
  none = λ other was apart. ⊎_elim (λ none. opened.others other (other_than link other apart) ∙ none) (λ own. absurd (cc own)) was;
  fresh = λ other mine. inr (ap a.writes (let same : other ≡ link = cc mine in same) ∙ opened.fresh);
}
