-- How what the calls of a cluster keep joins from call to call.
use Rattle.std.proofs.Common.{◌≡◌, ℕ, ◌≤◌, Option, Some, None, IsSome, refl, sym, ◌∙◌, subst, arith}
use Rattle.hdfs_cluster.specs.Counts.{FaultCounts, NeverFall, SameCounts, Rose}
use Rattle.hdfs_cluster.specs.Picture.{Picture, SameFiles, SamePicture, Told}
use Rattle.hdfs_cluster.specs.Reading.{ReadsAt}
use Rattle.hdfs_cluster.specs.Pipes.{OnlyWrites}
use Rattle.hdfs_cluster.specs.Shown.{Shown, Later, SameReads, SameReadPlaces, SameLinks, SamePlaces, SameWrites, OnlyReads, Reading}

pub rose_since : (a b c d : ℕ) → a ≤ b → Rose b c → c ≤ d → Rose a d
rose_since a b c d before rose after = omega (arith, rose)

pub never_fall_refl : (a : FaultCounts) → NeverFall a a
never_fall_refl a = record { asks = λ i. omega arith; calls = λ i. omega arith; links = omega arith; nodes = λ d. omega arith }

pub never_fall_trans : (a b c : FaultCounts) → NeverFall a b → NeverFall b c → NeverFall a c
never_fall_trans a b c f g = record { asks = λ i. omega (arith, f.asks i, g.asks i); calls = λ i. omega (arith, f.calls i, g.calls i); links = omega (arith, f.links, g.links); nodes = λ d. omega (arith, f.nodes d, g.nodes d) }

pub never_fall_from-SameCounts : (a b : FaultCounts) → SameCounts a b → NeverFall a b
never_fall_from-SameCounts a b same = record { asks = λ i. omega (arith, same.asks i); calls = λ i. omega (arith, same.calls i); links = omega (arith, same.links); nodes = λ d. omega (arith, same.nodes d) }

pub same_counts_trans : (a b c : FaultCounts) → SameCounts a b → SameCounts b c → SameCounts a c
same_counts_trans a b c f g = record { asks = λ i. g.asks i ∙ f.asks i; calls = λ i. g.calls i ∙ f.calls i; links = g.links ∙ f.links; nodes = λ d. g.nodes d ∙ f.nodes d }

pub later_refl : (a : Shown) → Later a a
later_refl a = record { counts = never_fall_refl a.counts; namenodes = refl; loaded = refl }

pub later_trans : (a b c : Shown) → Later a b → Later b c → Later a c
later_trans a b c f g = record { counts = never_fall_trans a.counts b.counts c.counts f.counts g.counts; namenodes = g.namenodes ∙ f.namenodes; loaded = g.loaded ∙ f.loaded }

-- what a told picture is before a call and after it
pub told_after : (P : Picture → Picture → Type 0) (a b : Option Picture) (p : Picture) → Told P a b → a ≡ Some p → (q : Picture) × (b ≡ Some q) × P p q
told_after P (Some a) (Some b) p h is = let same : a ≡ p = cc in (b, refl, subst (λ (x : Picture). P x b) same h)
told_after P (Some a) None p h is = absurd h
told_after P None b p h is = absurd (cc)

pub told_before : (P : Picture → Picture → Type 0) (a b : Option Picture) (q : Picture) → Told P a b → b ≡ Some q → (p : Picture) × (a ≡ Some p) × P p q
told_before P (Some a) (Some b) q h is = let same : b ≡ q = cc in (a, refl, subst (λ (x : Picture). P a x) same h)
told_before P None (Some b) q h is = absurd h
told_before P a None q h is = absurd (cc)

pub told_weaker : (P Q : Picture → Picture → Type 0) (a b : Option Picture) → ((p q : Picture) → P p q → Q p q) → Told P a b → Told Q a b
told_weaker P Q None None f h = tt
told_weaker P Q (Some a) (Some b) f h = f a b h
told_weaker P Q None (Some b) f h = absurd h
told_weaker P Q (Some a) None f h = absurd h

pub told_trans : (P : Picture → Picture → Type 0) (a b c : Option Picture) → ((p q r : Picture) → P p q → P q r → P p r) → Told P a b → Told P b c → Told P a c
told_trans P None None None join f g = tt
told_trans P (Some a) (Some b) (Some c) join f g = join a b c f g
told_trans P None (Some b) c join f g = absurd f
told_trans P (Some a) None c join f g = absurd f
told_trans P None None (Some c) join f g = absurd g
told_trans P (Some a) (Some b) None join f g = absurd g

-- one step of told pictures behind another
pub told_join : (P Q R : Picture → Picture → Type 0) (a b c : Option Picture) → ((p q r : Picture) → P p q → Q q r → R p r) → Told P a b → Told Q b c → Told R a c
told_join P Q R None None None join f g = tt
told_join P Q R (Some a) (Some b) (Some c) join f g = join a b c f g
told_join P Q R None (Some b) c join f g = absurd f
told_join P Q R (Some a) None c join f g = absurd f
told_join P Q R None None (Some c) join f g = absurd g
told_join P Q R (Some a) (Some b) None join f g = absurd g

-- what holds of a told picture twice
pub told_both : (P Q : Picture → Picture → Type 0) (a b : Option Picture) → Told P a b → Told Q a b → Told (λ p q. P p q × Q p q) a b
told_both P Q None None f g = tt
told_both P Q (Some a) (Some b) f g = (f, g)
told_both P Q None (Some b) f g = absurd f
told_both P Q (Some a) None f g = absurd f

pub told_refl : (P : Picture → Picture → Type 0) (a : Option Picture) → ((p : Picture) → P p p) → Told P a a
told_refl P None same = tt
told_refl P (Some a) same = same a

pub same_files_refl : (p : Picture) → SameFiles p p
same_files_refl p = record { names = λ path. refl; table = λ id. refl; held = λ node id. refl; defaults = refl }

pub same_files_trans : (a b c : Picture) → SameFiles a b → SameFiles b c → SameFiles a c
same_files_trans a b c f g = record { names = λ path. g.names path ∙ f.names path; table = λ id. g.table id ∙ f.table id; held = λ node id. g.held node id ∙ f.held node id; defaults = g.defaults ∙ f.defaults }

pub same_picture_refl : (p : Picture) → SamePicture p p
same_picture_refl p = record { rest = record { files = same_files_refl p; reads = λ link. refl; writes = λ link. refl }; active = refl }

pub only_reads_refl : (a : Shown) → OnlyReads a a
only_reads_refl a = record { later = later_refl a; last = refl; writes = λ link. refl; files = told_refl SameFiles a.picture same_files_refl; places = told_refl SameWrites a.picture (λ p link. refl) }

pub only_reads_trans : (a b c : Shown) → OnlyReads a b → OnlyReads b c → OnlyReads a c
only_reads_trans a b c f g = record {
  later = later_trans a b c f.later g.later;
  last = g.last ∙ f.last;
  writes = λ link. g.writes link ∙ f.writes link;
  files = told_trans SameFiles a.picture b.picture c.picture same_files_trans f.files g.files;
  places = told_trans SameWrites a.picture b.picture c.picture (λ p q r first then link. then link ∙ first link) f.places g.places;
}

-- a call on one read link only reads
pub only_reads_from-Reading : (link : ℕ) (a b : Shown) → Reading link a b → OnlyReads a b
only_reads_from-Reading link a b f = record {
  later = f.later;
  last = f.last;
  writes = f.writes;
  files = told_weaker (ReadsAt link) SameFiles a.picture b.picture (λ p q h. h.files) f.picture;
  places = told_weaker (ReadsAt link) SameWrites a.picture b.picture (λ p q h. h.writes) f.picture;
}

-- the same picture, and the same write links
pub only_reads_from-same : (a b : Shown) → Later a b → b.last ≡ a.last → ((link : ℕ) → b.writes link ≡ a.writes link) → Told SamePicture a.picture b.picture → OnlyReads a b
only_reads_from-same a b later last writes same = record {
  later = later;
  last = last;
  writes = writes;
  files = told_weaker SamePicture SameFiles a.picture b.picture (λ p q h. h.rest.files) same;
  places = told_weaker SamePicture SameWrites a.picture b.picture (λ p q h. h.rest.writes) same;
}

pub same_links_refl : (a : Shown) → SameLinks a a
same_links_refl a = record { links = λ link. refl; writes = λ link. refl; places = told_refl (SamePlaces a) a.picture (λ p. (λ link is. refl, λ link. refl)) }

pub same_links_trans : (a b c : Shown) → SameLinks a b → SameLinks b c → SameLinks a c
same_links_trans a b c f g = record {
  links = λ link. g.links link ∙ f.links link;
  writes = λ link. g.writes link ∙ f.writes link;
  places = told_join (SamePlaces a) (SamePlaces b) (SamePlaces a) a.picture b.picture c.picture
      (λ p q r first then. (λ link is. then.0 link (subst IsSome (sym (f.links link)) is) ∙ first.0 link is, λ link. then.1 link ∙ first.1 link)) f.places g.places;
}

-- the places of the open read links stay where nothing happens, and from call to call
pub read_places_refl : (a : Shown) → Told (SameReadPlaces a) a.picture a.picture
read_places_refl a = told_refl (SameReadPlaces a) a.picture (λ p link is. refl)

pub read_places_trans : (a b c : Shown) → ((link : ℕ) → b.reads link ≡ a.reads link) → Told (SameReadPlaces a) a.picture b.picture
    → Told (SameReadPlaces b) b.picture c.picture → Told (SameReadPlaces a) a.picture c.picture
read_places_trans a b c reads f g = told_join (SameReadPlaces a) (SameReadPlaces b) (SameReadPlaces a) a.picture b.picture c.picture
    (λ p q r first then link is. then link (subst IsSome (sym (reads link)) is) ∙ first link is) f g

-- no read link changes where nothing happens, nor from call to call
pub same_reads_refl : (a : Shown) → SameReads a a
same_reads_refl a = record { links = λ link. refl; places = read_places_refl a }

pub same_reads_trans : (a b c : Shown) → SameReads a b → SameReads b c → SameReads a c
same_reads_trans a b c f g = record { links = λ link. g.links link ∙ f.links link; places = read_places_trans a b c f.links f.places g.places }

-- calls on write links, none or one after another
pub only_writes_refl : (a : Shown) → OnlyWrites a a
only_writes_refl a = record { later = later_refl a; last = refl; calls = λ i. refl; reads = λ other. refl; places = read_places_refl a }

pub only_writes_trans : (a b c : Shown) → OnlyWrites a b → OnlyWrites b c → OnlyWrites a c
only_writes_trans a b c f g = record {
  later = later_trans a b c f.later g.later;
  last = g.last ∙ f.last;
  calls = λ i. g.calls i ∙ f.calls i;
  reads = λ other. g.reads other ∙ f.reads other;
  places = read_places_trans a b c f.reads f.places g.places;
}
