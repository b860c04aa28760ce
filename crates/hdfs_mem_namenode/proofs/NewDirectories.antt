-- What a directory that is made keeps of a namespace: each path has a directory, or what it had.
use Rattle.std.proofs.Common.{◌≡◌, ◌⊎◌, inl, inr, ⊎_elim, ℕ, Bool, true, false, cond, List, Option, Some, None, is_some, unwrap_or, refl, sym, ◌∙◌, ap, subst}
use Rattle.std.proofs.Math.Path.{fun_ext}
use Rattle.std.proofs.lemmas.Bool.{false≢true}
use Rattle.std.proofs.lemmas.Slice.Eq.{bytes_eq-Decides}
use Rattle.std.specs.List.{list_any}
use Rattle.std.specs.Option.{option_map}
use Rattle.std.specs.Str.{bytes_eq}
use Rattle.hdfs_cluster.specs.declared.picture.BlockEntry.{BlockEntry}
use Rattle.hdfs_cluster.specs.declared.picture.Entry.{Entry}
use Rattle.hdfs_cluster.specs.declared.picture.Entry.TheVariants as entries
use Rattle.hdfs_cluster.specs.Effects.{blocks_at}
use Rattle.hdfs_cluster.specs.Files.{ClosedFile, Directory, IsTree, OpenFile, NotDirectory, Missing, is_file}
use Rattle.hdfs_cluster.specs.Namenode.{new_file}
use Rattle.hdfs_cluster.specs.Picture.{entry_kind, kinds_in}
use Rattle.hdfs_cluster.specs.Refusals.{Exists, Lacks, with_parents}
use Rattle.hdfs_names.specs.Paths.{root, is_path, ancestors}
use Rattle.hdfs_mem_namenode.specs.Memory.{IsBare, is_bare_at, is_dir, is_kth, is_sized}
use Rattle.hdfs_mem_namenode.specs.Totals.{is_counted}
use Rattle.hdfs_mem_namenode.proofs.Apart.{apart_fewer, no_kth}
use Rattle.hdfs_mem_namenode.proofs.Directories.{tree_with_parents}
use Rattle.hdfs_mem_namenode.proofs.Naming.{Sound, placed_from_tree, rooted_from_tree, tree_from_tests}
use Rattle.hdfs_mem_namenode.proofs.NewFiles.{over_parents}

module _ (names : List ℕ → Option Entry) (path : List ℕ) where
  abbrev pub made : List ℕ → Option Entry
  made = with_parents names entries.Dir path entries.Dir

  dir_at : (b a : Bool) (o : Option Entry) → (cond b (Some entries.Dir) (cond a (Some (unwrap_or o entries.Dir)) o) ≡ Some entries.Dir) ⊎ (cond b (Some entries.Dir) (cond a (Some (unwrap_or o entries.Dir)) o) ≡ o)
  dir_at true a o = inl refl
  dir_at false true None = inl refl
  dir_at false true (Some entry) = inr refl
  dir_at false false o = inr refl

  dir_or_same : (q : List ℕ) → (made q ≡ Some entries.Dir) ⊎ (made q ≡ names q)
  dir_or_same q = dir_at (bytes_eq path q) (list_any (bytes_eq q) (ancestors path)) (names q)

  kind_at : (b a : Bool) (o : Option Entry) → option_map entry_kind (cond b (Some entries.Dir) (cond a (Some (unwrap_or o entries.Dir)) o)) ≡ cond b (Some Directory) (cond a (Some (unwrap_or (option_map entry_kind o) Directory)) (option_map entry_kind o))
  kind_at true a o = refl
  kind_at false true None = refl
  kind_at false true (Some entry) = refl
  kind_at false false o = refl

  module _ (table : ℕ → Option BlockEntry) (sound : Sound names table) (absent : names path ≡ None) (files : list_any (λ a. is_file (kinds_in names a)) (ancestors path) ≡ false) (named : is_path path ≡ true) where
    tree' : IsTree (kinds_in made)
    tree' =
        subst IsTree (sym (fun_ext (λ q. kind_at (bytes_eq path q) (list_any (bytes_eq q) (ancestors path)) (names q))))
        (tree_with_parents (kinds_in names) (tree_from_tests names sound.rooted sound.placed) path Directory (ap (option_map entry_kind) absent) files named)

    pub sound_made : Sound made table
    sound_made = record {
      rooted = rooted_from_tree made tree';
      placed = placed_from_tree made tree';
      sized = λ q. ⊎_elim (λ is. ap (is_sized table) is) (λ is. ap (is_sized table) is ∙ sound.sized q) (dir_or_same q);
      apart = apart_fewer names made (λ q k id is. ⊎_elim
          (λ dir. absurd (no_kth k id (sym (ap (λ (o : Option Entry). is_kth (blocks_at o) k id) dir) ∙ is)))
          (λ same. sym (ap (λ (o : Option Entry). is_kth (blocks_at o) k id) same) ∙ is) (dir_or_same q)) sound.apart;
    }

    pub counted_made : (totals : List ℕ → Option ℕ) → ((q : List ℕ) → is_counted table (names q) (totals q) ≡ true) → (q : List ℕ) → is_counted table (made q) (totals q) ≡ true
    counted_made totals counted q = ⊎_elim (λ is. ap (λ (o : Option Entry). is_counted table o (totals q)) is) (λ is. ap (λ (o : Option Entry). is_counted table o (totals q)) is ∙ counted q) (dir_or_same q)

    pub more_made : IsBare made → ⊥
    more_made bare = by (bytes_eq root path) (bytes_eq-Decides root path).0 (sym (ap (is_bare_at (bytes_eq root path)) here) ∙ bare path)
      where
        here : made path ≡ Some entries.Dir
        here = ap (λ (b : Bool). cond b (Some entries.Dir) (cond (list_any (bytes_eq path) (ancestors path)) (Some (unwrap_or (names path) entries.Dir)) (names path))) ((bytes_eq-Decides path path).1 refl)

        by : (b : Bool) → (b ≡ true → root ≡ path) → is_bare_at b (Some entries.Dir) ≡ true → ⊥
        by true same is = false≢true (sym (ap is_dir (ap names (same refl) ∙ absent)) ∙ sound.rooted)
        by false same is = false≢true is

  -- a directory that is there stays
  pub same_made : IsTree (kinds_in names) → names path ≡ Some entries.Dir → (q : List ℕ) → names q ≡ made q
  same_made tree is q = by (bytes_eq path q) (bytes_eq-Decides path q).0 (over_parents names path (new_file 0 0 0) tree (ap is_some is) q)
    where
      by : (b : Bool) → (b ≡ true → path ≡ q) → cond b (Some (entries.File (new_file 0 0 0))) (names q) ≡ cond b (Some (entries.File (new_file 0 0 0))) (cond (list_any (bytes_eq q) (ancestors path)) (Some (unwrap_or (names q) entries.Dir)) (names q))
          → names q ≡ cond b (Some entries.Dir) (cond (list_any (bytes_eq q) (ancestors path)) (Some (unwrap_or (names q) entries.Dir)) (names q))
      by true same over = ap names (sym (same refl)) ∙ is
      by false same over = over

-- what isn't refused
pub refused_not : (a b c : Bool) → cond a (Some Exists) (cond b (Some (Lacks NotDirectory)) (cond c (Some (Lacks Missing)) None)) ≡ None → (a ≡ false) × (b ≡ false)
refused_not true b c is = absurd (cc)
refused_not false true c is = absurd (cc)
refused_not false false c is = (refl, refl)

-- what is there and no file is a directory
pub dir_there : (o : Option Entry) → is_some o ≡ true → is_file (option_map entry_kind o) ≡ false → o ≡ Some entries.Dir
dir_there None some other = absurd (false≢true some)
dir_there (Some entries.Dir) some other = refl
dir_there (Some (entries.File file)) some other = absurd (by file.is_open other)
  where
    by : (b : Bool) → is_file (Some (cond b OpenFile ClosedFile)) ≡ false → ⊥
    by true is = false≢true (sym is)
    by false is = false≢true (sym is)

pub none_there : (o : Option Entry) → is_some o ≡ false → o ≡ None
none_there None is = refl
none_there (Some entry) is = absurd (false≢true (sym is))
