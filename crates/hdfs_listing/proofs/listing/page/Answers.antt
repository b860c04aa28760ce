-- A page, or why there is none.
use Rattle.std.proofs.Common.{◌≡◌, Option, None, Ok, ap, inl, inr, refl, subst, List, ℕ, false}
use Rattle.std.proofs.lemmas.Result.{err_from_is_err_and}
use Rattle.hdfs_cluster.specs.declared.asks.Answer.{Answer}
use Rattle.hdfs_cluster.specs.declared.asks.Ask.{Ask}
use Rattle.hdfs_cluster.specs.declared.asks.Ask.TheVariants as asks
use Rattle.hdfs_cluster.specs.declared.asks.Answer.TheVariants as answers
use Rattle.hdfs_cluster.specs.declared.errors.HdfsError.TheVariants as errors
use Rattle.hdfs_cluster.specs.declared.messages.DirList.{DirList}
use Rattle.hdfs_cluster.specs.Shown.{Shown}
use Rattle.hdfs_namenode.specs.Clients.{proxy_of}
use Rattle.hdfs_namenode.specs.Relaying.{Came}
use Rattle.hdfs_namenode.proofs.Relayed.{came_as}
use Rattle.hdfs_namenode.proofs.Services.{reaches_service}
use Rattle.hdfs_namenode.specs.Views.{Whole}
use Rattle.hdfs_listing.specs.Listing.{HasNone}
use Rattle.hdfs_listing.proofs.listing.page.Goals as goal

-- nothing was answered to stand there
has_none : (may_answer : Ask → Answer → Type 0) (dir start bytes : List ℕ) (found : Option DirList) (s t : Shown) → bytes ≡ start → found ≡ None
    → Came s (asks.GetListing dir bytes false) (Ok (answers.GetListing found)) t → may_answer (asks.GetListing dir bytes false) (answers.GetListing found)
    → HasNone may_answer dir start s t
has_none may_answer dir start bytes found s t is none came answered = record {
  came = came_as (ap (λ (b : List ℕ). asks.GetListing dir b false) is) (ap (λ (f : Option DirList). Ok (answers.GetListing f)) none) came;
  answered =
      subst (λ (f : Option DirList). may_answer (asks.GetListing dir start false) (answers.GetListing f)) none
      (subst (λ (b : List ℕ). may_answer (asks.GetListing dir b false) (answers.GetListing found)) is answered);
}

pub get_listing-requires-clause-service : goal.get_listing-requires-clause-service
get_listing-requires-clause-service g c = reaches_service (proxy_of c.args.namenode.now) (g.C.Cluster.shown c.args.cluster.now) c.requires.reaches

pub returns-in-Ok-Some-clause-ok : goal.returns-in-Ok-Some-clause-ok
returns-in-Ok-Some-clause-ok g c = record {
  came = came_as (ap (λ (start : List ℕ). asks.GetListing c.args.dir.now start false) c.as_bytes.ensures.value)
      (ap (λ (found : Option DirList). Ok (answers.GetListing found)) c.in-Ok-Some.field-0-is) (c.in-Ok-Some.ensures.came Whole c.requires.reaches);
  answered =
      subst (λ (found : Option DirList). g.C.Cluster.may_answer (asks.GetListing c.args.dir.now c.args.start.now false) (answers.GetListing found)) c.in-Ok-Some.field-0-is
      (subst (λ (start : List ℕ). g.C.Cluster.may_answer (asks.GetListing c.args.dir.now start false) (answers.GetListing c.in-Ok-Some.field-0)) c.as_bytes.ensures.value c.in-Ok-Some.ensures.answered);
}

pub returns-in-Err-clause-err : goal.returns-in-Err-clause-err
returns-in-Err-clause-err g c =
    inr (came_as (ap (λ (start : List ℕ). asks.GetListing c.args.dir.now start false) c.as_bytes.ensures.value) refl (c.in-Err.ensures.came Whole c.requires.reaches))

pub returns-in_ok-copy-in-Ok-None-clause-err : goal.returns-in_ok-copy-in-Ok-None-clause-err
returns-in_ok-copy-in-Ok-None-clause-err g c = inl (
  inl (ap errors.FileNotFound c.in_ok-copy-in-Ok-None.ensures),
  has_none g.C.Cluster.may_answer c.args.dir.now c.args.start.now c.as_bytes.result.now c.in-Ok-None.field-0 (g.C.Cluster.shown c.args.cluster.now) (g.C.Cluster.shown c.get_listing.new.cluster)
      c.as_bytes.ensures.value c.in-Ok-None.field-0-is (c.in-Ok-None.ensures.came Whole c.requires.reaches) c.in-Ok-None.ensures.answered,
)

pub returns-in_err-copy-in-Ok-None-clause-err : goal.returns-in_err-copy-in-Ok-None-clause-err
returns-in_err-copy-in-Ok-None-clause-err g c =
    let p = err_from_is_err_and c.from_residual.result c.from_residual.ensures.1 in
    rw (p.1, p.2) (inl (
      inr refl,
      has_none g.C.Cluster.may_answer c.args.dir.now c.args.start.now c.as_bytes.result.now c.in-Ok-None.field-0 (g.C.Cluster.shown c.args.cluster.now) (g.C.Cluster.shown c.get_listing.new.cluster)
          c.as_bytes.ensures.value c.in-Ok-None.field-0-is (c.in-Ok-None.ensures.came Whole c.requires.reaches) c.in-Ok-None.ensures.answered,
    ))
