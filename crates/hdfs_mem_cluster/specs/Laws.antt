-- The laws that the cluster in memory keeps as a cluster and as a store.
use Rattle.std.proofs.Common.{◌≡◌, ◌↔◌, ℕ, ◌<◌, Bool, true, false, cond, not, ◌&&◌, IsTrue, List, [], ◌∷◌, map, Option, Some, None, unwrap_or, refl, ◌∙◌, subst, ap}
use Rattle.std.proofs.lemmas.Bool.{false≢true}
use Rattle.std.specs.Str.{bytes_eq}
use Rattle.hdfs_cluster.specs.declared.picture.Entry.{Entry}
use Rattle.hdfs_cluster.specs.declared.picture.Entry.TheVariants as entries
use Rattle.hdfs_cluster.specs.Files.{Dir, only_root}
use Rattle.hdfs_names.specs.Paths.{root}
use Rattle.hdfs_cluster.specs.Picture.{Picture}
use Rattle.hdfs_cluster.specs.Stores.{Agrees, AgreesAt}
use Rattle.hdfs_mem_cluster.specs.declared.mem_cluster.MemCluster.{MemCluster}
use Rattle.hdfs_cluster.specs.declared.picture.OpenWrite.{OpenWrite}
use Rattle.hdfs_cluster.specs.declared.store.Line.{Line}
use Rattle.std.specs.BTreeMap.{get_by_text}
use Rattle.hdfs_cluster.specs.Sound.{IsSound}
use Rattle.hdfs_cluster.proofs.Loads.{and_parts}
use Rattle.hdfs_mem_namenode.specs.Soundness.{sound_from}
use Rattle.hdfs_mem_namenode.proofs.Keys.{texts_at}
use Rattle.hdfs_cluster.specs.Pipes.{IsPlaceOf, ShowsWrites}
use Rattle.hdfs_cluster.specs.Sending.{WritePlace}
use Rattle.hdfs_mem_datanodes.specs.declared.datanodes.Datanodes.{Datanodes}
use Rattle.hdfs_mem_cluster.specs.declared.write_link.MemWrite.{MemWrite}
use Rattle.hdfs_mem_cluster.specs.Links.{write_at, write_told, write_place}
use Rattle.hdfs_mem_cluster.specs.Writes.{told_of, place_of}
use Rattle.hdfs_mem_namenode.specs.Memory.{is_bare_at, is_nil}
use Rattle.hdfs_mem_cluster.specs.MemShown.{picture_of, shown_of, is_fresh_of}

-- the picture that is told is the cluster's
pub told_picture : (m : MemCluster) (p : Picture) → (shown_of m).picture ≡ Some p → picture_of m ≡ p
told_picture m p told = ap (λ (o : Option Picture). unwrap_or o p) told

pub active_law : (m : MemCluster) (p : Picture) → (shown_of m).picture ≡ Some p → p.active < (shown_of m).namenodes
active_law m p told = subst (λ (q : Picture). q.active < m.config.settings.namenodes) (told_picture m p told) m.config.active_below

shown_write : (nodes : Datanodes) (link : ℕ) (slot : Option MemWrite) (write : OpenWrite) → write_told slot ≡ Some write
    → (place : WritePlace) × (write_place nodes link slot ≡ Some place) × IsPlaceOf write place
shown_write nodes link None write is = absurd (cc)
shown_write nodes link (Some open_link) write is =
    let same : told_of open_link ≡ write = ap (λ (o : Option OpenWrite). unwrap_or o (told_of open_link)) is in
    (place_of nodes link open_link, refl, subst (λ (w : OpenWrite). IsPlaceOf w (place_of nodes link open_link)) same (record { block = refl; nodes = refl }))

-- the picture shows each open write link
pub writes_law : (m : MemCluster) (p : Picture) → (shown_of m).picture ≡ Some p → ShowsWrites (shown_of m) p
writes_law m p told = subst (λ (q : Picture). ShowsWrites (shown_of m) q) (told_picture m p told) (λ link write is. shown_write m.nodes link (write_at m.links link) write is)

pub is_nil-map : {X Y : Type 0} (f : X → Y) (xs : List X) → is_nil (map f xs) ≡ is_nil xs
is_nil-map f [] = refl
is_nil-map f (x ∷ xs) = refl

pub nil_from_test : {X : Type 0} (xs : List X) → is_nil xs ≡ true → xs ≡ []
nil_from_test [] is = refl
nil_from_test (x ∷ xs) is = absurd (false≢true is)

agrees_at_root : (p : Picture) (b : Bool) (o : Option Entry) → is_bare_at b o ≡ true → AgreesAt p o (cond b (Some Dir) None)
agrees_at_root p true None is = absurd (false≢true is)
agrees_at_root p true (Some entries.Dir) is = tt
agrees_at_root p true (Some (entries.File file)) is = absurd (false≢true is)
agrees_at_root p false None is = tt
agrees_at_root p false (Some entry) is = absurd (false≢true is)

-- names that are the root alone agree with it
pub agrees_bare : (p : Picture) → ((q : List ℕ) → is_bare_at (bytes_eq root q) (p.names q) ≡ true) → Agrees (Some p) only_root
agrees_bare p bare q = agrees_at_root p (bytes_eq root q) (p.names q) (bare q)

bare_from_agrees : (p : Picture) (b : Bool) (o : Option Entry) → AgreesAt p o (cond b (Some Dir) None) → is_bare_at b o ≡ true
bare_from_agrees p true None h = absurd h
bare_from_agrees p true (Some entries.Dir) h = refl
bare_from_agrees p true (Some (entries.File file)) h = absurd h
bare_from_agrees p false None h = refl
bare_from_agrees p false (Some entry) h = absurd h

not_true : (b : Bool) → (b ≡ true → ⊥) → not b ≡ true
not_true true never = absurd (never refl)
not_true false never = refl

not_false : (b : Bool) → not b ≡ true → b ≡ false
not_false true is = absurd (false≢true is)
not_false false is = refl

-- a cluster is fresh exactly where no line was loaded and it has the root alone
pub fresh_law : (m : MemCluster) (p : Picture) → (shown_of m).picture ≡ Some p → IsTrue (is_fresh_of m) ↔ (((shown_of m).loaded.lines ≡ []) × Agrees (Some p) only_root)
fresh_law m p told =
    subst (λ (q : Picture). IsTrue (is_fresh_of m) ↔ (((shown_of m).loaded.lines ≡ []) × Agrees (Some q) only_root)) (told_picture m p told) (
      λ fresh. (let both = and_parts (is_nil (shown_of m).loaded.lines) (not m.space.grown) fresh in
          (nil_from_test (shown_of m).loaded.lines both.0, agrees_bare (picture_of m) (m.space.bare (not_false m.space.grown both.1)))),
      λ both. ap (λ (lines : List Line). is_nil lines && not m.space.grown) both.0
          ∙ not_true m.space.grown (λ grown. m.space.more grown (λ path. bare_from_agrees (picture_of m) (bytes_eq root path) (get_by_text m.space.names path) (both.1 path))),
    )

-- each block of a file is in the table, and at one place, and names are text
pub sound_law : (m : MemCluster) (p : Picture) → (shown_of m).picture ≡ Some p → IsSound p
sound_law m p told = subst IsSound (told_picture m p told) (sound_from (picture_of m) m.space.sized m.space.apart (texts_at m.space.names))
