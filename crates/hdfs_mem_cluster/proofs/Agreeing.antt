-- A cluster goes on to hold its files where a block and a file are added.
use Rattle.std.proofs.Common.{◌≡◌, ℕ, Bool, true, false, cond, List, [], ◌∷◌, length, take, drop, Option, Some, None, refl, sym, ◌∙◌, subst}
use Rattle.std.proofs.lemmas.List.Elements.{All-weaker}
use Rattle.std.specs.Str.{bytes_eq}
use Rattle.hdfs_cluster.specs.declared.picture.Entry.{Entry}
use Rattle.hdfs_cluster.specs.declared.picture.Entry.TheVariants as entries
use Rattle.hdfs_cluster.specs.declared.picture.BlockEntry.{BlockEntry}
use Rattle.hdfs_cluster.specs.Files.{Node, Dir, File, Writing, State}
use Rattle.hdfs_cluster.specs.Picture.{Picture}
use Rattle.hdfs_mem_namenode.specs.Adding.{KeepsBlocks, blocks_picture}
use Rattle.hdfs_cluster.specs.Loading.{with_new}
use Rattle.hdfs_cluster.specs.Stores.{Agrees, AgreesAt, StoresBlocks, StoresBlock, HoldsPrefix}

-- the blocks of the old picture are in the new one, and store there what they stored
module _ (p p' : Picture) (table : (id : ℕ) (entry : BlockEntry) → p.table id ≡ Some entry → p'.table id ≡ Some entry) (stores : (id : ℕ) (entry : BlockEntry) (bytes : List ℕ) → p.table id ≡ Some entry → StoresBlock p id entry bytes → StoresBlock p' id entry bytes) where
  pub stores_by : (ids bytes : List ℕ) → StoresBlocks p ids bytes → StoresBlocks p' ids bytes
  stores_by [] bytes h = h
  stores_by (id ∷ ids) bytes h = (h.0, table id h.0 h.1, h.2, stores id h.0 (take h.0.length bytes) h.1 h.3, stores_by ids (drop h.0.length bytes) h.4)

  pub agrees_by : (entry : Option Entry) (node : Option Node) → AgreesAt p entry node → AgreesAt p' entry node
  agrees_by None None h = h
  agrees_by (Some entries.Dir) (Some Dir) h = h
  agrees_by (Some (entries.File file)) (Some (File content)) h = (h.0, h.1, stores_by file.blocks content.bytes h.2)
  agrees_by (Some (entries.File file)) (Some (Writing content)) h = h
  agrees_by None (Some node) h = absurd h
  agrees_by (Some entry) None h = absurd h
  agrees_by (Some entries.Dir) (Some (File content)) h = absurd h
  agrees_by (Some entries.Dir) (Some (Writing content)) h = absurd h
  agrees_by (Some (entries.File file)) (Some Dir) h = absurd h

-- the blocks of the old picture are in the new one, and each node holds the same of them
abbrev pub Extends : Picture → Picture → Type 0
Extends p p' = KeepsBlocks p.table p'.table p.held p'.held

module _ (p p' : Picture) (ext : Extends p p') where
  stores_block : (id : ℕ) (entry : BlockEntry) (bytes : List ℕ) → p.table id ≡ Some entry → StoresBlock p id entry bytes → StoresBlock p' id entry bytes
  stores_block id entry bytes is h = record {
    length = h.length;
    prefixes = All-weaker (HoldsPrefix (λ node. p.held node id) bytes) (HoldsPrefix (λ node. p'.held node id) bytes) (λ node was. subst (λ (l : List ℕ). l ≡ take (length l) bytes) (sym (ext.held id entry is node)) was) entry.nodes h.prefixes;
    whole = (h.whole.0, h.whole.1, h.whole.2, h.whole.3, ext.held id entry is h.whole.1 ∙ h.whole.4);
  }

  pub stores_blocks : (ids bytes : List ℕ) → StoresBlocks p ids bytes → StoresBlocks p' ids bytes
  stores_blocks = stores_by p p' ext.table stores_block

  pub agrees_at : (entry : Option Entry) (node : Option Node) → AgreesAt p entry node → AgreesAt p' entry node
  agrees_at = agrees_by p p' ext.table stores_block

at_path : (p' : Picture) (b : Bool) (entry : Entry) (node : Node) (other : Option Entry) (files : Option Node) → AgreesAt p' (Some entry) (Some node) → AgreesAt p' other files → AgreesAt p' (cond b (Some entry) other) (cond b (Some node) files)
at_path p' true entry node other files here there = here
at_path p' false entry node other files here there = there

-- something at a new path
pub agrees_with_new : (p p' : Picture) (state : State) (path : List ℕ) (node : Node) (entry : Entry) → Agrees (Some p) state.files → Extends p p' → ((q : List ℕ) → p'.names q ≡ cond (bytes_eq path q) (Some entry) (p.names q)) → AgreesAt p' (Some entry) (Some node) → Agrees (Some p') (with_new state path node).files
agrees_with_new p p' state path node entry was ext names here q =
    subst (λ (o : Option Entry). AgreesAt p' o ((with_new state path node).files q)) (sym (names q)) (at_path p' (bytes_eq path q) entry node (p.names q) (state.files q) here (agrees_at p p' ext (p.names q) (state.files q) (was q)))

-- a picture with the same names, in which the blocks are kept, agrees with the same files
pub agrees_kept : (p p' : Picture) (state : State) → Extends p p' → ((q : List ℕ) → p'.names q ≡ p.names q) → Agrees (Some p) state.files → Agrees (Some p') state.files
agrees_kept p p' state ext names was q = subst (λ (o : Option Entry). AgreesAt p' o (state.files q)) (sym (names q)) (agrees_at p p' ext (p.names q) (state.files q) (was q))

-- blocks that store bytes in a picture of blocks alone do so in each picture of these blocks
pub stores_in : (p : Picture) (ids bytes : List ℕ) → StoresBlocks (blocks_picture p.table p.held) ids bytes → StoresBlocks p ids bytes
stores_in p ids bytes h = stores_blocks (blocks_picture p.table p.held) p (record { table = λ id entry is. is; held = λ id entry is node. refl }) ids bytes h
