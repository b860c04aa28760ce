-- What a picture says of the files stays where the files stay.
use Rattle.std.proofs.Common.{◌≡◌, ℕ, Bool, false, List, Option, Some, None, refl, sym, subst}
use Rattle.hdfs_cluster.specs.declared.picture.Entry.{Entry}
use Rattle.hdfs_cluster.specs.declared.picture.Entry.TheVariants as entries
use Rattle.hdfs_cluster.specs.Files.{Files, Node, Dir, File, Writing}
use Rattle.hdfs_cluster.specs.Picture.{Picture, SameFiles, Told}
use Rattle.hdfs_cluster.specs.Stores.{Agrees, AgreesBut, AgreesAt}
use Rattle.hdfs_file_reader.proofs.Staying.{stores_blocks}

module _ (p q : Picture) (same : SameFiles p q) where
  agrees_at : (entry : Option Entry) (node : Option Node) → AgreesAt p entry node → AgreesAt q entry node
  agrees_at None None h = h
  agrees_at (Some entries.Dir) (Some Dir) h = h
  agrees_at (Some (entries.File file)) (Some (File content)) h = (h.0, h.1, stores_blocks p q same file.blocks content.bytes h.2)
  agrees_at (Some (entries.File file)) (Some (Writing content)) h = h
  agrees_at None (Some node) h = absurd h
  agrees_at (Some entry) None h = absurd h
  agrees_at (Some entries.Dir) (Some (File content)) h = absurd h
  agrees_at (Some entries.Dir) (Some (Writing content)) h = absurd h
  agrees_at (Some (entries.File file)) (Some Dir) h = absurd h

-- what agrees at every path
pub agrees_told : (o : Option Picture) (p : Picture) (files : Files) → Agrees o files → o ≡ Some p → (path : List ℕ) → AgreesAt p (p.names path) (files path)
agrees_told (Some a) p files h is path = let same : a ≡ p = cc in subst (λ (x : Picture). AgreesAt x (x.names path) (files path)) same (h path)
agrees_told None p files h is path = absurd h

-- a picture that agrees is told
pub is_told : (o : Option Picture) (files : Files) → Agrees o files → (p : Picture) × (o ≡ Some p)
is_told (Some p) files h = (p, refl)
is_told None files h = absurd h

-- it agrees as long as the files stay
pub agrees_files : (a b : Option Picture) (files : Files) → Told SameFiles a b → Agrees a files → Agrees b files
agrees_files (Some a) (Some b) files same h = λ path. subst (λ (entry : Option Entry). AgreesAt b entry (files path)) (sym (same.names path)) (agrees_at a b same (a.names path) (files path) (h path))
agrees_files None b files same h = absurd h
agrees_files (Some a) None files same h = absurd same

pub agrees_moved : (a b : Option Picture) (p q : Picture) (files : Files) → a ≡ Some p → b ≡ Some q → SameFiles p q → Agrees a files → Agrees b files
agrees_moved (Some a) (Some b) p q files was is same h =
    let first : a ≡ p = cc in
    let then : b ≡ q = cc in
    agrees_files (Some a) (Some b) files (subst (λ (x : Picture). SameFiles a x) (sym then) (subst (λ (x : Picture). SameFiles x q) (sym first) same)) h
agrees_moved None b p q files was is same h = absurd h
agrees_moved (Some a) None p q files was is same h = absurd (cc)

-- it then agrees whatever is spared, and where nothing is spared it agrees
pub agrees_but : (spared : List ℕ → Bool) (o : Option Picture) (files : Files) → Agrees o files → AgreesBut spared o files
agrees_but spared (Some p) files h = λ path free. h path
agrees_but spared None files h = absurd h

pub agrees_from-AgreesBut : (spared : List ℕ → Bool) (o : Option Picture) (files : Files) → ((path : List ℕ) → spared path ≡ false) → AgreesBut spared o files → Agrees o files
agrees_from-AgreesBut spared (Some p) files none h = λ path. h path (none path)
agrees_from-AgreesBut spared None files none h = absurd h
