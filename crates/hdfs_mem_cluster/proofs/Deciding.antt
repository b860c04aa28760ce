-- Which replicas can be cut, over files that lie as lines have left them.
use Rattle.std.proofs.Common.{◌≡◌, ⊎_elim, ℕ, ◌<◌, Bool, true, false, not, eqb, ltb, leb, cond, ◌&&◌, ◌||◌, List, [], length, get_or, Option, Some, None, unwrap_or, refl, sym, ◌∙◌, ap, subst, arith}
use Rattle.std.proofs.lemmas.Bool.{false≢true, ltb-true, leb-true, eqb-true, lt-ltb, le-leb, eq-eqb, ne_eqb, and_parts, and_from, or_cases, or_left, or_right, not_from_false, not-true, false_from_ne_true, both_ways}
use Rattle.std.proofs.lemmas.List.Folds.{list_any_at}
use Rattle.std.proofs.lemmas.Slice.Eq.{bytes_eq-Decides}
use Rattle.std.specs.Str.{bytes_eq}
use Rattle.hdfs_cluster.specs.declared.picture.BlockEntry.{BlockEntry}
use Rattle.hdfs_cluster.specs.declared.picture.Entry.{Entry}
use Rattle.hdfs_cluster.specs.declared.picture.Entry.TheVariants as entries
use Rattle.hdfs_cluster.specs.declared.picture.FileEntry.{FileEntry}
use Rattle.hdfs_cluster.specs.declared.store.Line.{Line}
use Rattle.hdfs_cluster.specs.Files.{Files, Content, Node, Dir, File, Writing}
use Rattle.hdfs_cluster.specs.Picture.{Picture}
use Rattle.hdfs_cluster.specs.Replicas.{HasReplicas, LieAs, block_bytes, can_cut, left_of, other_whole, replicas, takes_short}
use Rattle.hdfs_cluster.specs.Stores.{Agrees, AgreesAt}
use Rattle.hdfs_mem_namenode.specs.Adding.{Space}
use Rattle.hdfs_mem_cluster.specs.Shortening.{CanCut, IsShort, left_on}
use Rattle.hdfs_mem_cluster.proofs.Numbered.{any_at, below_at, below_from}

-- what is seen of the files in a picture
abbrev pub seen_in : Picture → Space
seen_in p = record { names = p.names; table = p.table; held = p.held }

abbrev file_or : FileEntry → Option Entry → FileEntry
file_or f None = f
file_or f (Some entries.Dir) = f
file_or f (Some (entries.File g)) = g

pub file_same : (f g : FileEntry) → Some (entries.File f) ≡ Some (entries.File g) → f ≡ g
file_same f g is = ap (file_or f) is

pub entry_same : (d e : BlockEntry) → Some d ≡ Some e → d ≡ e
entry_same d e is = ap (λ (o : Option BlockEntry). unwrap_or o d) is

-- a block of a file that lies as lines have left it
module _ (nodes : ℕ) (lines : List Line) (p : Picture) (path : List ℕ) (content : Content) (k id node len : ℕ) (has : HasReplicas nodes lines p path content k id) where
  abbrev count : ℕ
  count = replicas nodes content

  abbrev whole : ℕ
  whole = length (block_bytes content k)

  abbrev left : ℕ → ℕ
  left d = left_of lines path k d whole

  abbrev other : Bool
  other = other_whole lines path k node whole count

  module _ (uuid : List ℕ) (can : CanCut p.held has.entry id node len uuid) where
    stays_at : (d : ℕ) → d < length has.entry.nodes → (t : Bool) → (t ≡ true → get_or has.entry.nodes d [] ≡ uuid) → (get_or has.entry.nodes d [] ≡ uuid → t ≡ true)
        → cond t len (length (p.held (get_or has.entry.nodes d []) id)) ≡ whole → (eqb len whole || other) ≡ true
    stays_at d below true same from is = or_left (eqb len whole) other (eq-eqb len whole is)
    stays_at d below false same from is =
        let apart : d ≡ node → ⊥ = λ e. false≢true (from (ap (λ (n : ℕ). get_or has.entry.nodes n []) e ∙ can.at)) in
        let this : eqb (left d) whole ≡ true = eq-eqb (left d) whole (sym (has.left d below) ∙ is) in
        or_right (eqb len whole) other (below_from (λ e. not (eqb e node) && eqb (left e) whole) count d (omega (arith, below, has.count)) (and_from (not (eqb d node)) (eqb (left d) whole) (not_from_false (eqb d node) (ne_eqb d node apart)) this))

    -- a replica that the cluster can cut is one that the lines say can be
    pub can_from : 0 < whole → can_cut count lines path k node len whole ≡ true
    can_from some =
        let left_here : length (p.held uuid id) ≡ left node = ap (λ (u : List ℕ). length (p.held u id)) (sym can.at) ∙ has.left node can.below in
        let a = any_at (λ n. eqb (left_on p.held id uuid len n) has.entry.length) has.entry.nodes can.whole in
        let n = get_or has.entry.nodes a.0 [] in
        let is : left_on p.held id uuid len n ≡ whole = eqb-true (left_on p.held id uuid len n) has.entry.length a.2 ∙ has.has_length in
        let stays = stays_at a.0 a.1 (bytes_eq n uuid) (bytes_eq-Decides n uuid).0 (bytes_eq-Decides n uuid).1 is in
        let two = and_from (ltb 0 whole) (ltb node count) (lt-ltb 0 whole some) (lt-ltb node count (omega (arith, can.below, has.count))) in
        and_from (ltb 0 whole && ltb node count && leb len (left node)) (eqb len whole || other) (and_from (ltb 0 whole && ltb node count) (leb len (left node)) two (le-leb len (left node) (omega (arith, can.enough, left_here)))) stays

  abbrev here : List ℕ
  here = get_or has.entry.nodes node []

  whole_own : len ≡ whole → eqb (left_on p.held id here len here) has.entry.length ≡ true
  whole_own own = eq-eqb (left_on p.held id here len here) has.entry.length (ap (λ (t : Bool). cond t len (length (p.held here id))) ((bytes_eq-Decides here here).1 refl) ∙ own ∙ sym has.has_length)

  whole_other : (d : ℕ) → d < length has.entry.nodes → node < length has.entry.nodes → (d ≡ node → ⊥) → left d ≡ whole → eqb (left_on p.held id here len (get_or has.entry.nodes d [])) has.entry.length ≡ true
  whole_other d below node_below apart is =
      let n = get_or has.entry.nodes d [] in
      let off : bytes_eq n here ≡ false = false_from_ne_true (bytes_eq n here) (λ t. apart (has.apart d node below node_below ((bytes_eq-Decides n here).0 t))) in
      eq-eqb (left_on p.held id here len n) has.entry.length (ap (λ (t : Bool). cond t len (length (p.held n id))) off ∙ has.left d below ∙ is ∙ sym has.has_length)

  -- and one that the lines say can be cut is one that the cluster can cut
  pub can_to : can_cut count lines path k node len whole ≡ true → CanCut p.held has.entry id node len here
  can_to is =
      let all = and_parts (ltb 0 whole && ltb node count && leb len (left node)) (eqb len whole || other) is in
      let three = and_parts (ltb 0 whole && ltb node count) (leb len (left node)) all.0 in
      let two = and_parts (ltb 0 whole) (ltb node count) three.0 in
      let below : node < length has.entry.nodes = omega (arith, ltb-true node count two.1, has.count) in
      let test = λ (n : List ℕ). eqb (left_on p.held id here len n) has.entry.length in
      record {
        below = below;
        at = refl;
        enough = omega (arith, leb-true len (left node) three.1, has.left node below);
        whole = ⊎_elim
            (λ own. list_any_at test has.entry.nodes node [] below (whole_own (eqb-true len whole own)))
            (λ others.
            (let b = below_at (λ e. not (eqb e node) && eqb (left e) whole) count others in
            let parts = and_parts (not (eqb b.0 node)) (eqb (left b.0) whole) b.2 in
            let within : b.0 < length has.entry.nodes = omega (arith, b.1, has.count) in
            list_any_at test has.entry.nodes b.0 [] within (whole_other b.0 within below (λ e. both_ways (eqb b.0 node) (not-true (eqb b.0 node) parts.0) (eq-eqb b.0 node e)) (eqb-true (left b.0) whole parts.1))))
            (or_cases (eqb len whole) other all.1);
      }

some_from_test : (nodes : ℕ) (lines : List Line) (path : List ℕ) (content : Content) (k node len : ℕ) → can_cut (replicas nodes content) lines path k node len (length (block_bytes content k)) ≡ true → 0 < length (block_bytes content k)
some_from_test nodes lines path content k node len is =
    let whole = length (block_bytes content k) in
    let count = replicas nodes content in
    let left = left_of lines path k node whole in
    let all = and_parts (ltb 0 whole && ltb node count && leb len left) (eqb len whole || other_whole lines path k node whole count) is in
    let three = and_parts (ltb 0 whole && ltb node count) (leb len left) all.0 in
    ltb-true 0 whole (and_parts (ltb 0 whole) (ltb node count) three.0).0

closed_content : (p : Picture) (file : FileEntry) (o : Option Node) → AgreesAt p (Some (entries.File file)) o → file.is_open ≡ false → (content : Content) × (o ≡ Some (File content))
closed_content p file None h closed = absurd h
closed_content p file (Some Dir) h closed = absurd h
closed_content p file (Some (File content)) h closed = (content, refl)
closed_content p file (Some (Writing content)) h closed = absurd (false≢true (sym closed ∙ h.0))

closed_file : (p : Picture) (o : Option Entry) (content : Content) → AgreesAt p o (Some (File content)) → (file : FileEntry) → o ≡ Some (entries.File file) → file.is_open ≡ false
closed_file p None content h file is = absurd h
closed_file p (Some entries.Dir) content h file is = absurd h
closed_file p (Some (entries.File f)) content h file is = subst (λ (x : FileEntry). x.is_open ≡ false) (file_same f file is) h.0

-- A line with a short replica is taken exactly where the picture has such a replica that can be cut.
module _ (p : Picture) (files : Files) (agrees : Agrees (Some p) files) (nodes : ℕ) (lines : List Line) (lie : LieAs nodes lines p files) (path : List ℕ) (k node len : ℕ) where
  pub takes_from : (id : ℕ) (uuid : List ℕ) → IsShort (seen_in p) path k node len id uuid → takes_short nodes lines (files path) path k node len ≡ true
  takes_from id uuid short =
      let at : AgreesAt p (Some (entries.File short.block.file)) (files path) = subst (λ (o : Option Entry). AgreesAt p o (files path)) short.block.is (agrees path) in
      let content = closed_content p short.block.file (files path) at short.block.closed in
      let lies = lie path content.0 content.1 in
      let same : lies.file ≡ short.block.file = file_same lies.file short.block.file (sym lies.named ∙ short.block.is) in
      let below : k < length lies.file.blocks = subst (λ (f : FileEntry). k < length f.blocks) (sym same) short.block.below in
      let there : get_or lies.file.blocks k 0 ≡ id = ap (λ (f : FileEntry). get_or f.blocks k 0) same ∙ short.block.at in
      let has = subst (HasReplicas nodes lines p path content.0 k) there (lies.replicas k below) in
      let entry : short.entry ≡ has.entry = entry_same short.entry has.entry (sym short.listed ∙ has.listed) in
      let can = subst (λ (e : BlockEntry). CanCut p.held e id node len uuid) entry short.can in
      ap (λ (o : Option Node). takes_short nodes lines o path k node len) content.1 ∙ can_from nodes lines p path content.0 k id node len has uuid can ((lies.cut k).0 below)

  takes_to : (o : Option Node) → files path ≡ o → takes_short nodes lines o path k node len ≡ true → (id : ℕ) × (uuid : List ℕ) × IsShort (seen_in p) path k node len id uuid
  takes_to None is t = absurd (false≢true t)
  takes_to (Some Dir) is t = absurd (false≢true t)
  takes_to (Some (Writing content)) is t = absurd (false≢true t)
  takes_to (Some (File content)) is t =
      let lies = lie path content is in
      let below = (lies.cut k).1 (some_from_test nodes lines path content k node len t) in
      let has = lies.replicas k below in
      let id = get_or lies.file.blocks k 0 in
      let closed = closed_file p (p.names path) content (subst (AgreesAt p (p.names path)) is (agrees path)) lies.file lies.named in
      (id, get_or has.entry.nodes node [], record { block = record { file = lies.file; is = lies.named; closed = closed; below = below; at = refl }; entry = has.entry; listed = has.listed; can = can_to nodes lines p path content k id node len has t })

  pub takes_not : ((id : ℕ) (uuid : List ℕ) → IsShort (seen_in p) path k node len id uuid → ⊥) → takes_short nodes lines (files path) path k node len ≡ false
  takes_not none = false_from_ne_true (takes_short nodes lines (files path) path k node len) (λ t. (let s = takes_to (files path) refl t in none s.0 s.1 s.2))
