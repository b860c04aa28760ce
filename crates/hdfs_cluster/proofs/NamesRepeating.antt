-- Asks about names may be made again: what is told stays, a directory that is made twice is made once, and a deletion that is done once more
-- finds nothing.
use Rattle.std.proofs.Common.{◌≡◌, ◌⊎◌, inl, inr, ℕ, Bool, true, false, cond, ◌||◌, List, Option, Some, None, IsSome, refl, sym, ◌∙◌, ap, subst}
use Rattle.std.proofs.lemmas.Bool.{false≢true}
use Rattle.std.proofs.lemmas.Slice.Eq.{bytes_eq-Decides}
use Rattle.std.specs.List.{list_any}
use Rattle.std.specs.Prelude.{unwrap_or}
use Rattle.std.specs.Str.{bytes_eq}
use Rattle.hdfs_cluster.specs.declared.asks.Ask.{Ask}
use Rattle.hdfs_cluster.specs.declared.asks.Ask.TheVariants as asks
use Rattle.hdfs_cluster.specs.declared.asks.Answer.{Answer}
use Rattle.hdfs_cluster.specs.declared.asks.Answer.TheVariants as answers
use Rattle.hdfs_cluster.specs.declared.picture.BlockEntry.{BlockEntry}
use Rattle.hdfs_cluster.specs.declared.picture.Entry.{Entry}
use Rattle.hdfs_cluster.specs.declared.picture.Entry.TheVariants as entries
use Rattle.hdfs_cluster.specs.Deleting.{DeletesFrom}
use Rattle.hdfs_cluster.specs.Files.{Kind}
use Rattle.hdfs_cluster.specs.Listing.{IsMissing, TellsListing, TellsStatus}
use Rattle.hdfs_cluster.specs.Namenode.{FoundNothing, Row}
use Rattle.hdfs_cluster.specs.Names.{is_below}
use Rattle.hdfs_cluster.specs.Picture.{Picture, SameButActive}
use Rattle.hdfs_cluster.specs.Refusals.{mkdirs_refusal, with_parents}
use Rattle.hdfs_cluster.specs.Repeating.{Repeats}
use Rattle.hdfs_names.specs.Paths.{root, ancestors}
use Rattle.hdfs_cluster.proofs.Relaying.{same_trans}
use Rattle.hdfs_cluster.proofs.Repeating.{changes_both, changes_left, changes_right, keeps_trans, kinds_same, names_same, quiet_repeats, same_keeps, table_same}

-- what holds of the names and the table of a picture holds of those of one in which they are the same
over_same : (P : (List ℕ → Option Entry) → (ℕ → Option BlockEntry) → Type 0) (p q : Picture) → SameButActive p q → P q.names q.table → P p.names p.table
over_same P p q same h =
    subst (λ (n : List ℕ → Option Entry). P n p.table) (names_same p q same)
    (subst (λ (t : ℕ → Option BlockEntry). P q.names t) (table_same p q same) h)

over_next : (P : (List ℕ → Option Entry) → (ℕ → Option BlockEntry) → Type 0) (p q : Picture) → SameButActive p q → P p.names p.table → P q.names q.table
over_next P p q same h =
    subst (λ (n : List ℕ → Option Entry). P n q.table) (sym (names_same p q same))
    (subst (λ (t : ℕ → Option BlockEntry). P p.names t) (sym (table_same p q same)) h)

-- a status
module _ (src : List ℕ) (p : Picture) where
  abbrev informing : Ask
  informing = asks.GetFileInfo src

  info_quiet : (q r : Picture) (a : Answer) → Row q informing a r → SameButActive q r
  info_quiet q r (answers.GetFileInfo status) row = row.1
  info_quiet q r a row = absurd row

  info_left : (q r : Picture) (a : Answer) → SameButActive p q → Row q informing a r → Row p informing a r
  info_left q r (answers.GetFileInfo status) same row =
      (over_same (λ (n : List ℕ → Option Entry) (t : ℕ → Option BlockEntry). TellsStatus n t src status) p q same row.0, same_trans p q r same row.1)
  info_left q r a same row = absurd row

  info_right : (q r : Picture) (a : Answer) → Row p informing a q → SameButActive q r → Row p informing a r
  info_right q r (answers.GetFileInfo status) row same = (row.0, same_trans p q r row.1 same)
  info_right q r a row same = absurd row

  pub info_repeats : Repeats informing p
  info_repeats = quiet_repeats informing p info_quiet info_left info_right (λ q same own. own)

-- a page
module _ (src from : List ℕ) (located : Bool) (p : Picture) where
  abbrev listing : Ask
  listing = asks.GetListing src from located

  listing_quiet : (q r : Picture) (a : Answer) → Row q listing a r → SameButActive q r
  listing_quiet q r (answers.GetListing page) row = row.1
  listing_quiet q r a row = absurd row

  listing_left : (q r : Picture) (a : Answer) → SameButActive p q → Row q listing a r → Row p listing a r
  listing_left q r (answers.GetListing page) same row =
      (over_same (λ (n : List ℕ → Option Entry) (t : ℕ → Option BlockEntry). TellsListing n t src from page) p q same row.0, same_trans p q r same row.1)
  listing_left q r a same row = absurd row

  listing_right : (q r : Picture) (a : Answer) → Row p listing a q → SameButActive q r → Row p listing a r
  listing_right q r (answers.GetListing page) row same = (row.0, same_trans p q r row.1 same)
  listing_right q r a row same = absurd row

  pub listing_repeats : Repeats listing p
  listing_repeats = quiet_repeats listing p listing_quiet listing_left listing_right (λ q same own. own)

-- a directory that is made
module _ (src : List ℕ) (masked : ℕ) (parents : Bool) (p : Picture) where
  abbrev making : Ask
  making = asks.Mkdirs src masked parents

  abbrev put_at : Bool → Bool → Option Entry → Option Entry
  put_at b1 b2 v = cond b1 (Some entries.Dir) (cond b2 (Some (unwrap_or v entries.Dir)) v)

  put_twice : (b1 b2 : Bool) (v : Option Entry) → put_at b1 b2 (put_at b1 b2 v) ≡ put_at b1 b2 v
  put_twice true b2 v = refl
  put_twice false true v = refl
  put_twice false false v = refl

  make_left : (q r : Picture) (b : Answer) → SameButActive p q → Row q making b r → Row p making b r
  make_left q r (answers.Mkdirs true) same row = (
    ap (λ (k : List ℕ → Option Kind). mkdirs_refusal k src parents) (kinds_same p q same) ∙ row.0,
    changes_left p q r _ _ _ _ same (ap (λ (n : List ℕ → Option Entry). with_parents n entries.Dir src entries.Dir) (names_same p q same)) (table_same p q same) row.1,
  )
  make_left q r (answers.Mkdirs false) same row = absurd row
  make_left q r b same row = absurd row

  make_right : (q r : Picture) (b : Answer) → Row p making b q → SameButActive q r → Row p making b r
  make_right q r (answers.Mkdirs true) row same = (row.0, changes_right p q r _ _ row.1 same)
  make_right q r (answers.Mkdirs false) row same = absurd row
  make_right q r b row same = absurd row

  make_again : (q r : Picture) (a b : Answer) → Row p making a q → Row q making b r → Row p making b r
  make_again q r (answers.Mkdirs true) (answers.Mkdirs true) one two = (
    one.0,
    changes_both p q r _ _ _ _ one.1 two.1
        (λ y. ap (put_at (bytes_eq src y) (list_any (bytes_eq y) (ancestors src))) (one.1.names y) ∙ put_twice (bytes_eq src y) (list_any (bytes_eq y) (ancestors src)) (p.names y))
        one.1.table,
  )
  make_again q r (answers.Mkdirs true) (answers.Mkdirs false) one two = absurd two
  make_again q r (answers.Mkdirs true) b one two = absurd two
  make_again q r (answers.Mkdirs false) b one two = absurd one
  make_again q r a b one two = absurd one

  pub make_repeats : Repeats making p
  make_repeats = record { left = make_left; twice = λ q r a b one two. inl (make_again q r a b one two); right = make_right; not_own = λ q done own. own }

-- a deletion
module _ (src : List ℕ) (recursive : Bool) (p : Picture) where
  abbrev deleting : Ask
  deleting = asks.Delete src recursive

  from_left : (q r : Picture) → SameButActive p q → DeletesFrom q.names q.table src recursive r.names r.table → DeletesFrom p.names p.table src recursive r.names r.table
  from_left q r same d = over_same (λ (n : List ℕ → Option Entry) (t : ℕ → Option BlockEntry). DeletesFrom n t src recursive r.names r.table) p q same d

  from_right : (q r : Picture) → DeletesFrom p.names p.table src recursive q.names q.table → SameButActive q r → DeletesFrom p.names p.table src recursive r.names r.table
  from_right q r d same = over_next (λ (n : List ℕ → Option Entry) (t : ℕ → Option BlockEntry). DeletesFrom p.names p.table src recursive n t) q r same d

  nothing_left : (q : Picture) → SameButActive p q → (src ≡ root) ⊎ IsMissing q.names src → (src ≡ root) ⊎ IsMissing p.names src
  nothing_left q same (inl is) = inl is
  nothing_left q same (inr none) = inr (subst (λ (n : List ℕ → Option Entry). IsMissing n src) (names_same p q same) none)

  delete_left : (q r : Picture) (b : Answer) → SameButActive p q → Row q deleting b r → Row p deleting b r
  delete_left q r (answers.Delete true) same row = (from_left q r same row.0, keeps_trans p q r (same_keeps p q same) row.1)
  delete_left q r (answers.Delete false) same row = (nothing_left q same row.0, same_trans p q r same row.1)
  delete_left q r b same row = absurd row

  delete_right : (q r : Picture) (b : Answer) → Row p deleting b q → SameButActive q r → Row p deleting b r
  delete_right q r (answers.Delete true) row same = (from_right q r row.0 same, keeps_trans p q r row.1 (same_keeps q r same))
  delete_right q r (answers.Delete false) row same = (row.0, same_trans p q r row.1 same)
  delete_right q r b row same = absurd row

  -- nothing stands there once it is deleted
  gone_at : (q : Picture) → DeletesFrom p.names p.table src recursive q.names q.table → q.names src ≡ None
  gone_at q d = d.named src ∙ ap (λ (b : Bool). cond (b || is_below src src) None (p.names src)) ((bytes_eq-Decides src src).1 refl)

  not_there : (o : Option Entry) → o ≡ None → IsSome o → ⊥
  not_there None none is = false≢true is
  not_there (Some e) none is = absurd (cc none)

  delete_again : (q r : Picture) (a b : Answer) → Row p deleting a q → Row q deleting b r → Row p deleting b r ⊎ (FoundNothing b × Row p deleting a r)
  delete_again q r (answers.Delete true) (answers.Delete false) one two = inr (refl, delete_right q r (answers.Delete true) one two.1)
  delete_again q r (answers.Delete true) (answers.Delete true) one two = absurd (not_there (q.names src) (gone_at q one.0) two.0.there)
  delete_again q r (answers.Delete false) b one two = inl (delete_left q r b one.1 two)
  delete_again q r (answers.Delete true) b one two = absurd two
  delete_again q r a b one two = absurd one

  pub delete_repeats : Repeats deleting p
  delete_repeats = record { left = delete_left; twice = delete_again; right = delete_right; not_own = λ q done own. own }
