-- Bytes that are cut into blocks, one block after another.
use Rattle.std.proofs.Common.{◌≡◌, ⊎_elim, ℕ, ◌+◌, ◌<◌, ◌^◌, true, false, eqb, ltb, List, [], ◌∷◌, ◌++◌, length, take, drop, Option, Some, None, is_some, IsSome, refl, sym, ◌∙◌, ap, subst, arith, append_assoc}
use Rattle.std.proofs.Math.Seq.{take-length}
use Rattle.std.proofs.lemmas.Bool.{false≢true, eqb-true}
use Rattle.std.proofs.lemmas.Bool.Decides.{nat_tests}
use Rattle.std.proofs.lemmas.List.{append-nil, length-take, length-drop, take_min, drop_min}
use Rattle.std.proofs.lemmas.List.Elements.{All-head, All-weaker}
use Rattle.std.specs.List.{All, Any}
use Rattle.hdfs_cluster.specs.declared.picture.BlockEntry.{BlockEntry}
use Rattle.hdfs_cluster.specs.declared.picture.Entry.{Entry}
use Rattle.hdfs_cluster.specs.Listing.{plus_length, total}
use Rattle.hdfs_cluster.specs.Picture.{Picture}
use Rattle.hdfs_cluster.specs.Stores.{StoresBlocks, StoresBlock, HoldsPrefix}
use Rattle.hdfs_mem_namenode.specs.Adding.{AddsBlock, AreNew, KeepsBlocks, blocks_picture}
use Rattle.hdfs_mem_cluster.specs.Cutting.{HoldsPiece, IsCut}
use Rattle.hdfs_mem_namenode.specs.Memory.{is_kth, is_sized, is_length}
use Rattle.hdfs_mem_namenode.proofs.Apart.{kth_absent}
use Rattle.hdfs_mem_namenode.proofs.FileChanges.{kth_push_cases}

-- whether there are bytes
pub some_left : (bytes : List ℕ) → eqb (length bytes) 0 ≡ false → 0 < length bytes
some_left bytes is = grind (arith, nat_tests)

pub none_left : (bytes : List ℕ) → eqb (length bytes) 0 ≡ true → bytes ≡ []
none_left [] is = refl
none_left (b ∷ bytes) is = let zero : length (b ∷ bytes) ≡ 0 = eqb-true (length (b ∷ bytes)) 0 is in absurd (omega (arith, zero))

pub keeps_refl : (t : ℕ → Option BlockEntry) (held : List ℕ → ℕ → List ℕ) → KeepsBlocks t t held held
keeps_refl t held = record { table = λ id entry is. is; held = λ id entry is node. refl }

pub keeps_trans : (t t' t'' : ℕ → Option BlockEntry) (h h' h'' : List ℕ → ℕ → List ℕ) → KeepsBlocks t t' h h' → KeepsBlocks t' t'' h' h'' → KeepsBlocks t t'' h h''
keeps_trans t t' t'' h h' h'' f g = record {
  table = λ id entry is. g.table id entry (f.table id entry is);
  held = λ id entry is node. g.held id entry (f.table id entry is) node ∙ f.held id entry is node;
}

-- a piece stays where its block does
piece_kept : (t t' : ℕ → Option BlockEntry) (held held' : List ℕ → ℕ → List ℕ) → KeepsBlocks t t' held held' → (nodes : List (List ℕ)) (size id : ℕ) (bytes : List ℕ) → HoldsPiece t held nodes size id bytes → HoldsPiece t' held' nodes size id bytes
piece_kept t t' held held' kept nodes size id bytes h = record {
  some = h.some;
  entry = h.entry;
  listed = kept.table id h.entry h.listed;
  has_length = h.has_length;
  on = h.on;
  holds = All-weaker (λ node. held node id ≡ take size bytes) (λ node. held' node id ≡ take size bytes) (λ node was. kept.held id h.entry h.listed node ∙ was) nodes h.holds;
}

-- a new block with the front of the bytes holds a piece of them
pub piece_added : (t t' : ℕ → Option BlockEntry) (held' : List ℕ → ℕ → List ℕ) (nodes : List (List ℕ)) (size id : ℕ) (left front : List ℕ) → 0 < length left
    → front ≡ take size left → AddsBlock t t' id (length front) nodes → All (λ node. held' node id ≡ front) nodes → HoldsPiece t' held' nodes size id left
piece_added t t' held' nodes size id left front some is adds holds = record {
  some = some;
  entry = adds.entry;
  listed = adds.listed;
  has_length = adds.has_length ∙ ap length is ∙ length-take size left;
  on = adds.on;
  holds = All-weaker (λ node. held' node id ≡ front) (λ node. held' node id ≡ take size left) (λ node here. here ∙ is) nodes holds;
}

-- behind these blocks, what cuts the bytes that are left cuts all of them
abbrev pub CutsOn : (ℕ → Option BlockEntry) → (List ℕ → ℕ → List ℕ) → List (List ℕ) → ℕ → List ℕ → List ℕ → List ℕ → Type 0
CutsOn t held nodes size ids left bytes =
    (t' : ℕ → Option BlockEntry) (held' : List ℕ → ℕ → List ℕ) (tail : List ℕ) → KeepsBlocks t t' held held' → IsCut t' held' nodes size tail left → IsCut t' held' nodes size (ids ++ tail) bytes

module _ (t t1 : ℕ → Option BlockEntry) (held held1 : List ℕ → ℕ → List ℕ) (kept : KeepsBlocks t t1 held held1) (nodes : List (List ℕ)) (size id : ℕ) (ids left bytes : List ℕ) where
  -- one block more
  pub cuts_more : HoldsPiece t1 held1 nodes size id left → CutsOn t held nodes size ids left bytes → CutsOn t1 held1 nodes size (ids ++ id ∷ []) (drop size left) bytes
  cuts_more piece on t' held' tail kept' is =
      subst (λ (l : List ℕ). IsCut t' held' nodes size l bytes) (sym (append_assoc ids (id ∷ []) tail))
      (on t' held' (id ∷ tail) (keeps_trans t t1 t' held held1 held' kept kept') (piece_kept t1 t' held1 held' kept' nodes size id left piece, is))

-- no bytes are left
pub cuts_all : (t : ℕ → Option BlockEntry) (held : List ℕ → ℕ → List ℕ) (nodes : List (List ℕ)) (size : ℕ) (ids left bytes : List ℕ) → CutsOn t held nodes size ids left bytes → left ≡ [] → IsCut t held nodes size ids bytes
cuts_all t held nodes size ids left bytes on none = subst (λ (l : List ℕ). IsCut t held nodes size l bytes) (append-nil ids) (on t held [] (keeps_refl t held) none)

-- what holds of each of some datanodes holds of one of them
any_from_all : (P : List ℕ → Type 0) (nodes : List (List ℕ)) → 0 < length nodes → All P nodes → Any P nodes
any_from_all P [] some all = absurd (omega (arith, some))
any_from_all P (node ∷ nodes) some all = (0, node, some, refl, All-head P node nodes all)

module _ (t : ℕ → Option BlockEntry) (held : List ℕ → ℕ → List ℕ) (nodes : List (List ℕ)) (size : ℕ) where
  abbrev p : Picture
  p = blocks_picture t held

  -- those that hold the whole piece hold a prefix of it
  prefix_whole : (id : ℕ) (piece node : List ℕ) → held node id ≡ piece → HoldsPrefix (λ n. held n id) piece node
  prefix_whole id piece node whole = whole ∙ sym (ap (λ (l : List ℕ). take (length l) piece) whole ∙ take-length piece)

  stores_piece : 0 < length nodes → (id : ℕ) (bytes : List ℕ) (h : HoldsPiece t held nodes size id bytes) → StoresBlock p id h.entry (take h.entry.length bytes)
  stores_piece some id bytes h =
      let piece = take size bytes in
      let same : take h.entry.length bytes ≡ piece = ap (λ (n : ℕ). take n bytes) h.has_length ∙ take_min size bytes in
      let holds = λ (n : List ℕ). held n id ≡ piece in
      subst (StoresBlock p id h.entry) (sym same) (record {
        length = length-take size bytes ∙ sym h.has_length;
        prefixes = subst (All (HoldsPrefix (λ n. held n id) piece)) (sym h.on) (All-weaker holds (HoldsPrefix (λ n. held n id) piece) (prefix_whole id piece) nodes h.holds);
        whole = subst (Any holds) (sym h.on) (any_from_all holds nodes some h.holds);
      })

  -- blocks into which bytes are cut store them, where there is a datanode
  pub stores_cut : 0 < length nodes → (ids bytes : List ℕ) → IsCut t held nodes size ids bytes → StoresBlocks p ids bytes
  stores_cut some [] bytes h = h
  stores_cut some (id ∷ ids) bytes h =
      let rest : drop h.0.entry.length bytes ≡ drop size bytes = ap (λ (n : ℕ). drop n bytes) h.0.has_length ∙ drop_min size bytes in
      (h.0.entry, h.0.listed, omega (arith, h.0.has_length), stores_piece some id bytes h.0, subst (StoresBlocks p ids) (sym rest) (stores_cut some ids (drop size bytes) h.1))

  pub total_cut : (ids bytes : List ℕ) → IsCut t held nodes size ids bytes → total t ids ≡ Some (length bytes)
  total_cut [] bytes h = ap (λ (b : List ℕ). Some (length b)) (sym h)
  total_cut (id ∷ ids) bytes h =
      let sum : h.0.entry.length + length (drop size bytes) ≡ length bytes = omega (arith, h.0.has_length, length-drop size bytes) in
      ap (λ (o : Option BlockEntry). plus_length o (total t ids)) h.0.listed ∙ ap (plus_length (Some h.0.entry)) (total_cut ids (drop size bytes) h.1) ∙ ap Some sum

  -- and have as many bytes together
  pub sized_cut : (ids bytes : List ℕ) → IsCut t held nodes size ids bytes → length bytes < 2 ^ 63 → is_length (total t ids) ≡ true
  sized_cut ids bytes h short =
      let below : ltb (length bytes) (2 ^ 63) ≡ true = grind (arith, nat_tests) in
      ap is_length (total_cut ids bytes h) ∙ below

-- these blocks are in the table
abbrev pub AreListed : (ℕ → Option BlockEntry) → List ℕ → Type 0
AreListed table ids = (k id : ℕ) → is_kth ids k id ≡ true → IsSome (table id)

some_kept : (o o' : Option BlockEntry) → ((entry : BlockEntry) → o ≡ Some entry → o' ≡ Some entry) → IsSome o → IsSome o'
some_kept None o' kept some = absurd (false≢true some)
some_kept (Some entry) o' kept some = ap is_some (kept entry refl)

-- one block more, which wasn't in the table
module _ (names : List ℕ → Option Entry) (t t' : ℕ → Option BlockEntry) (held held' : List ℕ → ℕ → List ℕ) (ids : List ℕ) (id : ℕ) (listed : AreListed t ids) (absent : t id ≡ None) where
  pub listed_more : KeepsBlocks t t' held held' → IsSome (t' id) → AreListed t' (ids ++ id ∷ [])
  listed_more kept now k b is =
      ⊎_elim
      (λ own. some_kept (t b) (t' b) (kept.table b) (listed k b own))
      (λ new. subst (λ (n : ℕ). IsSome (t' n)) (sym new.1) now)
      (kth_push_cases ids id k b is)

  other_block : (k b : ℕ) → is_kth ids k b ≡ true → b ≡ id → ⊥
  other_block k b own same = false≢true (sym (ap is_some (ap t same ∙ absent)) ∙ listed k b own)

  pub new_more : AreNew names ids → ((path : List ℕ) → is_sized t (names path) ≡ true) → AreNew names (ids ++ id ∷ [])
  new_more new sized = record {
    unused = λ path k n b here there.
        ⊎_elim
        (λ own. new.unused path k n b own there)
        (λ last. kth_absent t (names path) n b (sized path) (ap t last.1 ∙ absent) there)
        (kth_push_cases ids id k b here);
    distinct = λ k n b here there.
        ⊎_elim
        (λ own. ⊎_elim (λ own'. new.distinct k n b own own') (λ last. absurd (other_block k b own last.1)) (kth_push_cases ids id n b there))
        (λ last. ⊎_elim (λ own'. absurd (other_block n b own' last.1)) (λ last'. last.0 ∙ sym last'.0) (kth_push_cases ids id n b there))
        (kth_push_cases ids id k b here);
  }
