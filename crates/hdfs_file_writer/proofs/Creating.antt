-- What a new file leaves of the others.
use Rattle.std.proofs.Common.{◌≡◌, ◌≢◌, ⊎_elim, ℕ, Bool, true, false, ◌||◌, ◌==◌, List, [], ◌∷◌, Option, Some, None, refl, sym, ◌∙◌, ap, subst, arith}
use Rattle.std.proofs.lemmas.Bool.Decides.{nat_tests}
use Rattle.std.specs.List.{list_any}
use Rattle.std.specs.Prelude.{Contains, cond, unwrap_or}
use Rattle.std.specs.Str.{bytes_eq}
use Rattle.hdfs_cluster.specs.declared.picture.Entry.{Entry}
use Rattle.hdfs_cluster.specs.declared.picture.Entry.TheVariants as entries
use Rattle.hdfs_cluster.specs.declared.picture.FileEntry.{FileEntry}
use Rattle.hdfs_cluster.specs.Effects.{Creates, blocks_at}
use Rattle.hdfs_names.specs.Paths.{ancestors}
use Rattle.hdfs_cluster.specs.Picture.{Picture}
use Rattle.hdfs_cluster.specs.Sound.{IsSound, IsFileAt}
use Rattle.hdfs_file_writer.specs.OnlyFiles.{KeepsBlocks}
use Rattle.hdfs_file_writer.specs.Tails.{FileCarries}
use Rattle.hdfs_file_writer.specs.declared.tails.Tail.{Tail}
use Rattle.hdfs_file_writer.proofs.Others.{elsewhere, tail_stays}
use Rattle.hdfs_file_writer.proofs.Placing.{at_path}
use Rattle.hdfs_file_writer.proofs.Storing.{contains_head, contains_later}

none_taken : (ids : List ℕ) (id : ℕ) → (Contains ids id → ⊥) → list_any (λ other. other == id) ids ≡ false
none_taken [] id away = refl
none_taken (first ∷ ids) id away =
    ap (λ (b : Bool). b || list_any (λ other. other == id) ids) (by_test (first == id) refl) ∙ none_taken ids id (λ there. away (contains_later first id ids there))
  where
    by_test : (t : Bool) → (first == id) ≡ t → t ≡ false
    by_test true is = absurd (let same : first ≡ id = grind (arith, nat_tests, is) in away (subst (λ (i : ℕ). Contains (first ∷ ids) i) same (contains_head first ids)))
    by_test false is = refl

kept_name : (b : Bool) (e : Option Entry) (file : FileEntry) → e ≡ Some (entries.File file) → cond b (Some (unwrap_or e entries.Dir)) e ≡ Some (entries.File file)
kept_name true e file is = ap (λ (o : Option Entry). Some (unwrap_or o entries.Dir)) is
kept_name false e file is = is

module _ (p q : Picture) (sound : IsSound p) (path : List ℕ) (made : FileEntry) (creates : Creates path made p q) (other : List ℕ) (apart : other ≢ path) (file : FileEntry) (is : IsFileAt p other file) where
  -- another file stays at its path, also above the new one
  pub created_name : IsFileAt q other file
  created_name =
      creates.changes.names other
      ∙ ⊎_elim
      (λ here. absurd (apart (sym here.0)))
      (λ away. away.1)
      (at_path path other (Some (entries.File made)) (cond (list_any (bytes_eq other) (ancestors path)) (Some (unwrap_or (p.names other) entries.Dir)) (p.names other)))
      ∙ kept_name (list_any (bytes_eq other) (ancestors path)) (p.names other) file is

  -- its blocks stay, also where the new one overwrites
  pub created_keeps : KeepsBlocks p q file.blocks
  created_keeps id there = (
    creates.changes.table id
        ∙ ap (λ (b : Bool). cond b None (p.table id)) (none_taken (blocks_at (p.names path)) id (elsewhere p sound path other file apart is id there)),
    λ node. creates.changes.bytes.held node id,
  )

-- what the writer of another file carries it carries still
pub created_others : (p q : Picture) → IsSound p → (path : List ℕ) (made : FileEntry) → Creates path made p q → (other : List ℕ) (tail : Tail) (bytes : List ℕ) → other ≢ path → FileCarries p other tail bytes → FileCarries q other tail bytes
created_others p q sound path made creates other tail bytes apart c = record {
  file = c.file;
  named = created_name p q sound path made creates other apart c.file c.named;
  being_written = c.being_written;
  carries = tail_stays p q other c.file (created_name p q sound path made creates other apart c.file c.named ∙ sym c.named)
      (created_keeps p q sound path made creates other apart c.file c.named)
      (λ link place told there. creates.changes.bytes.writes link ∙ told) tail bytes c.carries;
}
