-- Wrong answers to asks about names, which the rows refuse, and wrong effects. They stand in the place of wrong bodies.
use Rattle.std.proofs.Common.{◌≡◌, ◌≢◌, ⊎_elim, ℕ, Bool, true, false, List, [], length, Option, Some, None, IsSome, refl, ap, arith}
use Rattle.std.proofs.lemmas.Bool.{false≢true}
use Rattle.std.specs.Prelude.{codes}
use Rattle.hdfs_cluster.specs.declared.asks.Ask.TheVariants as asks
use Rattle.hdfs_cluster.specs.declared.asks.Answer.TheVariants as answers
use Rattle.hdfs_cluster.specs.declared.messages.DirList.{DirList}
use Rattle.hdfs_cluster.specs.declared.messages.FileStatusMsg.{FileStatusMsg}
use Rattle.hdfs_cluster.specs.declared.picture.Entry.{Entry}
use Rattle.hdfs_cluster.specs.declared.picture.Entry.TheVariants as entries
use Rattle.hdfs_cluster.specs.Deleting.{IsBlockWithin}
use Rattle.hdfs_cluster.specs.Listing.{TellsEntries, type_of}
use Rattle.hdfs_cluster.specs.Namenode.{Row}
use Rattle.hdfs_cluster.specs.Names.{HasBelow, is_before, is_within}
use Rattle.hdfs_cluster.specs.Picture.{Picture}
use Rattle.hdfs_names.specs.Paths.{root}

some_none : {X : Type 0} (o : Option X) → o ≡ None → IsSome o → ⊥
some_none None none is = false≢true is
some_none (Some x) none is = absurd (cc none)

module _ (p q : Picture) where
  -- nothing is told of a path at which something stands
  pub not_told : (src : List ℕ) → IsSome (p.names src) → Row p (asks.GetFileInfo src) (answers.GetFileInfo None) q → ⊥
  not_told src there row = some_none (p.names src) row.0.0 there

  -- a status is told of one at which nothing stands
  pub told_nothing : (src : List ℕ) (status : FileStatusMsg) → p.names src ≡ None → Row p (asks.GetFileInfo src) (answers.GetFileInfo (Some status)) q → ⊥
  told_nothing src status none row = absurd (cc (none, row.0.there))

  -- a directory is told to be a file
  pub told_file : (src : List ℕ) (status : FileStatusMsg) → p.names src ≡ Some entries.Dir → status.file_type ≡ 2
      → Row p (asks.GetFileInfo src) (answers.GetFileInfo (Some status)) q → ⊥
  told_file src status dir is row = by row.0.entry (row.0.there) row.0.type
    where
      by : (entry : Entry) → p.names src ≡ Some entry → status.file_type ≡ type_of entry → ⊥
      by entries.Dir there type = absurd (cc (is, type))
      by (entries.File file) there type = absurd (cc (dir, there))

  -- a page without entries, behind which names remain
  pub empty_page : (src from : List ℕ) (located : Bool) (page : DirList) → p.names src ≡ Some entries.Dir → page.partial_listing ≡ [] → page.remaining_entries ≡ 1
      → Row p (asks.GetListing src from located) (answers.GetListing (Some page)) q → ⊥
  empty_page src from located page dir none one row = by row.0.0 row.0.1 row.0.2
    where
      by : (entry : Entry) → p.names src ≡ Some entry → TellsEntries p.names p.table src from entry page → ⊥
      by entries.Dir there told = absurd (omega (arith, one, told.remaining, ap (λ (l : List (List ℕ)). length l) (told.some none)))
      by (entries.File file) there told = absurd (cc (dir, there))

  -- a directory isn't made, and no exception says why
  pub not_made : (src : List ℕ) (masked : ℕ) (parents : Bool) → Row p (asks.Mkdirs src masked parents) (answers.Mkdirs false) q → ⊥
  not_made src masked parents row = row

  -- the root is deleted
  pub root_deleted : (recursive : Bool) → Row p (asks.Delete root recursive) (answers.Delete true) q → ⊥
  root_deleted recursive row = row.0.not_root refl

  -- a directory goes alone that isn't empty
  pub full_deleted : (src : List ℕ) → HasBelow p.names src → Row p (asks.Delete src false) (answers.Delete true) q → ⊥
  full_deleted src below row = row.0.alone refl below

  -- a block of what was deleted stays
  pub block_stays : (src : List ℕ) (recursive : Bool) (id : ℕ) → IsBlockWithin p.names src id → IsSome (q.table id) → Row p (asks.Delete src recursive) (answers.Delete true) q → ⊥
  block_stays src recursive id within there row = some_none (q.table id) (row.0.gone id within) there

  -- nothing is deleted, though something stands there that isn't the root
  pub not_deleted : (src : List ℕ) (recursive : Bool) → src ≢ root → IsSome (p.names src) → Row p (asks.Delete src recursive) (answers.Delete false) q → ⊥
  not_deleted src recursive other there row = ⊎_elim (λ is. other is) (λ missing. some_none (p.names src) missing.0 there) row.0

-- what stands beside a path isn't within it
beside : is_within (codes "/a") (codes "/a-b") ≡ false
beside = refl

-- what is below it is, and so is the path
below : is_within (codes "/a") (codes "/a/b") ≡ true
below = refl

itself : is_within (codes "/a") (codes "/a") ≡ true
itself = refl

-- names stand in the order of their bytes, each once
ordered : is_before (codes "B") (codes "a") ≡ true
ordered = refl

once : is_before (codes "a") (codes "a") ≡ false
once = refl
