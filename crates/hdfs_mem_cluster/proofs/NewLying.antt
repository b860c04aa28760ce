-- A new file lies whole.
use Rattle.std.proofs.Common.{◌≡◌, ⊎_elim, ℕ, ◌+◌, ◌*◌, ◌<◌, ◌-◌, ◌^◌, zero, suc, min, Bool, cond, List, [], ◌∷◌, ◌++◌, length, take, drop, get_or, Option, Some, unwrap_or, refl, sym, ◌∙◌, ap, subst, arith, length-append}
use Rattle.std.proofs.lemmas.Bool.{cases_eq}
use Rattle.std.proofs.lemmas.List.{length-take, length-drop, drop-drop, get_or_append_left, get_or-append_right}
use Rattle.std.proofs.lemmas.List.Elements.{All-get_or}
use Rattle.std.proofs.lemmas.Slice.Eq.{bytes_eq-Decides}
use Rattle.hdfs_cluster.specs.declared.attributes.Attributes.{Attributes}
use Rattle.hdfs_cluster.specs.declared.picture.BlockEntry.{BlockEntry}
use Rattle.hdfs_cluster.specs.declared.picture.Entry.TheVariants as entries
use Rattle.hdfs_cluster.specs.declared.picture.FileEntry.{FileEntry}
use Rattle.hdfs_cluster.specs.declared.store.Line.{Line}
use Rattle.hdfs_cluster.specs.declared.store.Line.TheVariants as lines
use Rattle.hdfs_cluster.specs.Files.{Content, Files}
use Rattle.hdfs_cluster.specs.Loading.{AreLoaded, nodes_in}
use Rattle.hdfs_cluster.specs.Picture.{Picture}
use Rattle.hdfs_cluster.specs.Replicas.{HasReplicas, LieAs, LiesAs, block_bytes, left_of}
use Rattle.hdfs_cluster.specs.Shown.{Shown}
use Rattle.hdfs_mem_faults.specs.Series.{uuid_of}
use Rattle.hdfs_mem_datanodes.specs.Uuids.{lowest}
use Rattle.hdfs_mem_namenode.proofs.Placing.{uuid_injective}
use Rattle.hdfs_mem_cluster.specs.Cutting.{HoldsPiece, IsCut}
use Rattle.hdfs_mem_cluster.proofs.Numbered.{left_push}

pub lowest_length : (n : ℕ) → length (lowest n) ≡ n
lowest_length zero = refl
lowest_length (suc n) = omega (arith, lowest_length n, length-append (lowest n) (uuid_of n ∷ []))

pub lowest_at : (n d : ℕ) (none : List ℕ) → d < n → get_or (lowest n) d none ≡ uuid_of d
lowest_at zero d none below = absurd (omega (arith, below))
lowest_at (suc n) d none below =
    ⊎_elim
    (λ same. (let zero_behind : d - n ≡ 0 = omega (arith, same) in get_or-append_right (lowest n) (uuid_of n ∷ []) n d none (lowest_length n) (omega (arith, same)) ∙ ap (λ (i : ℕ). get_or (uuid_of n ∷ []) i none) zero_behind ∙ ap uuid_of (sym same)))
    (λ apart. get_or_append_left (lowest n) (uuid_of n ∷ []) none d (omega (arith, below, apart, lowest_length n)) ∙ lowest_at n d none (omega (arith, below, apart)))
    (cases_eq d n)

module _ (table : ℕ → Option BlockEntry) (held : List ℕ → ℕ → List ℕ) (nodes : List (List ℕ)) (size : ℕ) where
  drop_next : (k : ℕ) (bytes : List ℕ) → drop (suc k * size) bytes ≡ drop (k * size) (drop size bytes)
  drop_next k bytes = let next : suc k * size ≡ size + k * size = omega arith in ap (λ (n : ℕ). drop n bytes) next ∙ sym (drop-drop (k * size) size bytes)

  -- each block has its piece of the bytes
  pub pieces : (ids bytes : List ℕ) → IsCut table held nodes size ids bytes → (k : ℕ) → k < length ids → HoldsPiece table held nodes size (get_or ids k 0) (drop (k * size) bytes)
  pieces [] bytes h k below = absurd (omega (arith, below))
  pieces (id ∷ ids) bytes h zero below = let none : 0 ≡ zero * size = omega arith in subst (λ (n : ℕ). HoldsPiece table held nodes size id (drop n bytes)) none h.0
  pieces (id ∷ ids) bytes h (suc k) below = subst (HoldsPiece table held nodes size (get_or ids k 0)) (sym (drop_next k bytes)) (pieces ids (drop size bytes) h.1 k (omega (arith, below)))

  -- and there is no piece without a block
  pub past_pieces : (ids bytes : List ℕ) → IsCut table held nodes size ids bytes → (k : ℕ) → 0 < length (take size (drop (k * size) bytes)) → k < length ids
  past_pieces [] bytes h k some = absurd (omega (arith, some, length-take size (drop (k * size) bytes), length-drop (k * size) bytes, ap length h))
  past_pieces (id ∷ ids) bytes h zero some = omega arith
  past_pieces (id ∷ ids) bytes h (suc k) some =
      let before : k < length ids = past_pieces ids (drop size bytes) h.1 k (subst (λ (b : List ℕ). 0 < length (take size b)) (drop_next k bytes) some) in
      omega (arith, before)

-- a file that is stored lies whole on the lowest-numbered datanodes
module _ (count : ℕ) (few : count < 2 ^ 64) (loaded : List Line) (q : Picture) (path : List ℕ) (attributes : Attributes) (bytes : List ℕ) (file : FileEntry) (sized : 0 < attributes.block_size) (named : q.names path ≡ Some (entries.File file))
    (cut : IsCut q.table q.held (lowest (min attributes.replication count)) attributes.block_size file.blocks bytes) where
  abbrev content : Content
  content = record { bytes = bytes; attributes = attributes }

  abbrev more : List Line
  more = loaded ++ lines.File path attributes bytes ∷ []

  abbrev n : ℕ
  n = min attributes.replication count

  abbrev size : ℕ
  size = attributes.block_size

  whole_left : (k d whole : ℕ) → left_of more path k d whole ≡ whole
  whole_left k d whole =
      left_push path k d whole whole loaded (lines.File path attributes bytes) ∙ ap (λ (t : Bool). cond t whole (left_of loaded path k d whole)) ((bytes_eq-Decides path path).1 refl)

  new_replicas : (k id : ℕ) → HoldsPiece q.table q.held (lowest n) size id (drop (k * size) bytes) → HasReplicas count more q path content k id
  new_replicas k id piece =
      let long : length piece.entry.nodes ≡ n = ap length piece.on ∙ lowest_length n in
      let node : (d : ℕ) → d < length piece.entry.nodes → get_or piece.entry.nodes d [] ≡ uuid_of d = λ d below. ap (λ (l : List (List ℕ)). get_or l d []) piece.on ∙ lowest_at n d [] (omega (arith, below, long)) in
      record {
        entry = piece.entry;
        listed = piece.listed;
        has_length = piece.has_length ∙ sym (length-take size (drop (k * size) bytes));
        count = long;
        apart = λ d e low below same. uuid_injective d e (omega (arith, low, long, few)) (omega (arith, below, long, few)) (sym (node d low) ∙ same ∙ node e below);
        left = λ d below.
            (let holds = All-get_or (λ m. q.held m id ≡ take size (drop (k * size) bytes)) (lowest n) d [] (omega (arith, below, long, lowest_length n)) piece.holds in
            ap (λ (l : List (List ℕ)). length (q.held (get_or l d []) id)) piece.on ∙ ap length holds ∙ sym (whole_left k d (length (block_bytes content k))));
      }

  pub new_lies : LiesAs count more q path content
  new_lies = record {
    file = file;
    named = named;
    cut = λ k. (
      λ below. (let piece = pieces q.table q.held (lowest n) size file.blocks bytes cut k below in omega (arith, sized, piece.some, length-take size (drop (k * size) bytes))),
      past_pieces q.table q.held (lowest n) size file.blocks bytes cut k,
    );
    replicas = λ k below. new_replicas k (get_or file.blocks k 0) (pieces q.table q.held (lowest n) size file.blocks bytes cut k below);
  }

-- files that lie as these lines have left them lie as what was loaded says
pub loaded_more : (shown : Shown) (q : Picture) (files : Files) (count : ℕ) (loaded : List Line) → shown.picture ≡ Some q → shown.loaded.lines ≡ loaded → nodes_in shown.loaded ≡ count → LieAs count loaded q files → AreLoaded shown files
loaded_more shown q files count loaded is more nodes lie p told =
    let same : q ≡ p = ap (λ (o : Option Picture). unwrap_or o q) (sym is ∙ told) in
    let here = subst (λ (n : ℕ). LieAs n loaded q files) (sym nodes) lie in
    subst (λ (x : Picture). LieAs (nodes_in shown.loaded) shown.loaded.lines x files) same (subst (λ (ls : List Line). LieAs (nodes_in shown.loaded) ls q files) (sym more) here)
