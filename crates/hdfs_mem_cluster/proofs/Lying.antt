-- How files lie behind one line more.
use Rattle.std.proofs.Common.{◌≡◌, ℕ, ◌<◌, Bool, true, false, eqb, cond, ◌&&◌, List, [], ◌∷◌, ◌++◌, length, take, get_or, Some, refl, sym, ◌∙◌, ap, subst}
use Rattle.std.proofs.lemmas.Bool.{false≢true, eqb-true, eq-eqb, and_parts, and_from}
use Rattle.std.proofs.lemmas.List.{length-take-le}
use Rattle.std.proofs.lemmas.Slice.Eq.{bytes_eq-Decides}
use Rattle.std.specs.Str.{bytes_eq}
use Rattle.hdfs_cluster.specs.declared.attributes.Attributes.{Attributes}
use Rattle.hdfs_cluster.specs.declared.picture.BlockEntry.{BlockEntry}
use Rattle.hdfs_cluster.specs.declared.picture.Entry.TheVariants as entries
use Rattle.hdfs_cluster.specs.declared.picture.FileEntry.{FileEntry}
use Rattle.hdfs_cluster.specs.declared.store.FaultLine.{FaultLine}
use Rattle.hdfs_cluster.specs.declared.store.Line.{Line}
use Rattle.hdfs_cluster.specs.declared.store.Line.TheVariants as lines
use Rattle.hdfs_cluster.specs.Files.{Files, Content, Dir, File, State}
use Rattle.hdfs_cluster.specs.Loading.{with_new}
use Rattle.hdfs_cluster.specs.Picture.{Picture}
use Rattle.hdfs_cluster.specs.Replicas.{HasReplicas, LieAs, LiesAs, block_bytes, left_of}
use Rattle.hdfs_cluster.specs.Sound.{IsSound}
use Rattle.hdfs_mem_datanodes.specs.Nodes.{is_here}
use Rattle.hdfs_mem_datanodes.proofs.Nodes.{here_false, here_true}
use Rattle.hdfs_mem_cluster.specs.Shortening.{IsShort}
use Rattle.hdfs_mem_cluster.proofs.Agreeing.{Extends}
use Rattle.hdfs_mem_cluster.proofs.Deciding.{entry_same, file_same, seen_in}
use Rattle.hdfs_mem_cluster.proofs.Numbered.{left_push}

module _ (nodes : ℕ) (loaded loaded' : List Line) (p q : Picture) (path : List ℕ) (content : Content) (ext : Extends p q)
    (left : (k d whole : ℕ) → left_of loaded' path k d whole ≡ left_of loaded path k d whole) where
  has_kept : (k id : ℕ) → HasReplicas nodes loaded p path content k id → HasReplicas nodes loaded' q path content k id
  has_kept k id h = record {
    entry = h.entry;
    listed = ext.table id h.entry h.listed;
    has_length = h.has_length;
    count = h.count;
    apart = h.apart;
    left = λ d below. ap length (ext.held id h.entry h.listed (get_or h.entry.nodes d [])) ∙ h.left d below ∙ sym (left k d (length (block_bytes content k)));
  }

  -- a file lies as it did, where its blocks are kept and the line cuts none of them
  pub lies_kept : q.names path ≡ p.names path → LiesAs nodes loaded p path content → LiesAs nodes loaded' q path content
  lies_kept names h = record { file = h.file; named = names ∙ h.named; cut = h.cut; replicas = λ k below. has_kept k (get_or h.file.blocks k 0) (h.replicas k below) }

module _ (nodes : ℕ) (loaded : List Line) (p q : Picture) (ext : Extends p q) where
  -- a fault cuts nothing
  pub lie_fault : (files : Files) (fault : FaultLine) → ((x : List ℕ) → q.names x ≡ p.names x) → LieAs nodes loaded p files → LieAs nodes (loaded ++ lines.Fault fault ∷ []) q files
  lie_fault files fault names lie x content is =
      lies_kept nodes loaded (loaded ++ lines.Fault fault ∷ []) p q x content ext (λ k d whole. left_push x k d whole whole loaded (lines.Fault fault)) (names x) (lie x content is)

  -- nor does a directory
  pub lie_dir : (state : State) (path : List ℕ) → ((x : List ℕ) → q.names x ≡ cond (bytes_eq path x) (Some entries.Dir) (p.names x)) → LieAs nodes loaded p state.files → LieAs nodes (loaded ++ lines.Dir path ∷ []) q (with_new state path Dir).files
  lie_dir state path names lie x content is = by_test (bytes_eq path x) (names x) is
    where
      by_test : (t : Bool) → q.names x ≡ cond t (Some entries.Dir) (p.names x) → cond t (Some Dir) (state.files x) ≡ Some (File content) → LiesAs nodes (loaded ++ lines.Dir path ∷ []) q x content
      by_test true named is = absurd (cc)
      by_test false named is =
          lies_kept nodes loaded (loaded ++ lines.Dir path ∷ []) p q x content ext (λ k d whole. left_push x k d whole whole loaded (lines.Dir path)) named (lie x content is)

  -- nor does another file
  module _ (state : State) (path : List ℕ) (attributes : Attributes) (bytes : List ℕ) (file : FileEntry) where
    abbrev new : Content
    new = record { bytes = bytes; attributes = attributes }

    abbrev with_file_line : List Line
    with_file_line = loaded ++ lines.File path attributes bytes ∷ []

    content_same : (c d : Content) → Some (File c) ≡ Some (File d) → c ≡ d
    content_same c d is = cc

    module _ (here : LiesAs nodes with_file_line q path new) (lie : LieAs nodes loaded p state.files) (x : List ℕ) (content : Content) where
      file_by_test : (t : Bool) → bytes_eq path x ≡ t → q.names x ≡ cond t (Some (entries.File file)) (p.names x) → cond t (Some (File new)) (state.files x) ≡ Some (File content) → LiesAs nodes with_file_line q x content
      file_by_test true same named is =
          subst (λ (c : Content). LiesAs nodes with_file_line q x c) (content_same new content is) (subst (λ (y : List ℕ). LiesAs nodes with_file_line q y new) ((bytes_eq-Decides path x).0 same) here)
      file_by_test false apart named is =
          lies_kept nodes loaded with_file_line p q x content ext (λ k d whole. left_push x k d whole whole loaded (lines.File path attributes bytes) ∙ ap (λ (t : Bool). cond t whole (left_of loaded x k d whole)) apart) named (lie x content is)

    pub lie_file : ((x : List ℕ) → q.names x ≡ cond (bytes_eq path x) (Some (entries.File file)) (p.names x)) → LiesAs nodes with_file_line q path new → LieAs nodes loaded p state.files → LieAs nodes with_file_line q (with_new state path (File new)).files
    lie_file names here lie x content is = file_by_test here lie x content (bytes_eq path x) refl (names x) is

-- a line that cuts a replica cuts no other
module _ (nodes : ℕ) (loaded : List Line) (p q : Picture) (path : List ℕ) (k node len id : ℕ) (uuid : List ℕ) (sound : IsSound p) (short : IsShort (seen_in p) path k node len id uuid)
    (held : (d : List ℕ) (b : ℕ) → q.held d b ≡ cond (is_here uuid id d b) (take len (p.held d b)) (p.held d b)) where
  abbrev more : List Line
  more = loaded ++ lines.Short path k node len ∷ []

  module _ (x : List ℕ) (content : Content) (h : LiesAs nodes loaded p x content) (j : ℕ) (below : j < length h.file.blocks) (d : ℕ) where
    abbrev b : ℕ
    b = get_or h.file.blocks j 0

    abbrev has : HasReplicas nodes loaded p x content j b
    has = h.replicas j below

    abbrev u : List ℕ
    u = get_or has.entry.nodes d []

    abbrev whole : ℕ
    whole = length (block_bytes content j)

    abbrev asked : Bool
    asked = bytes_eq path x && eqb k j && eqb node d

    -- it is the replica that the line names
    block_is : path ≡ x → k ≡ j → b ≡ id
    block_is px kj =
        let same : h.file ≡ short.block.file = file_same h.file short.block.file (sym h.named ∙ ap p.names (sym px) ∙ short.block.is) in
        ap (λ (f : FileEntry). get_or f.blocks j 0) same ∙ ap (λ (n : ℕ). get_or short.block.file.blocks n 0) (sym kj) ∙ short.block.at

    entry_is : b ≡ id → has.entry ≡ short.entry
    entry_is same = entry_same has.entry short.entry (sym has.listed ∙ ap p.table same ∙ short.listed)

    node_is : b ≡ id → node ≡ d → u ≡ uuid
    node_is same nd = ap (λ (e : BlockEntry). get_or e.nodes d []) (entry_is same) ∙ ap (λ (n : ℕ). get_or short.entry.nodes n []) (sym nd) ∙ short.can.at

    cut_there : asked ≡ true → length (q.held u b) ≡ len
    cut_there is =
        let all = and_parts (bytes_eq path x && eqb k j) (eqb node d) is in
        let two = and_parts (bytes_eq path x) (eqb k j) all.0 in
        let block = block_is ((bytes_eq-Decides path x).0 two.0) (eqb-true k j two.1) in
        let named = node_is block (eqb-true node d all.1) in
        ap (λ (n : List ℕ). length (q.held n b)) named ∙ ap (λ (n : ℕ). length (q.held uuid n)) block
        ∙ ap length (held uuid id ∙ ap (λ (t : Bool). cond t (take len (p.held uuid id)) (p.held uuid id)) (here_true uuid id))
        ∙ length-take-le len (p.held uuid id) short.can.enough

    -- another one is not cut
    other_one : d < length has.entry.nodes → asked ≡ false → u ≡ uuid → b ≡ id → ⊥
    other_one within is named block =
        let once = sound.once path x k j id (record { file = short.block.file; named = short.block.is; below = short.block.below; is = short.block.at }) (record { file = h.file; named = h.named; below = below; is = block }) in
        let entry = entry_is block in
        let node_within : node < length has.entry.nodes = subst (λ (e : BlockEntry). node < length e.nodes) (sym entry) short.can.below in
        let at : get_or has.entry.nodes node [] ≡ u = ap (λ (e : BlockEntry). get_or e.nodes node []) entry ∙ short.can.at ∙ sym named in
        let same_node : node ≡ d = has.apart node d node_within within at in
        let yes : asked ≡ true = and_from (bytes_eq path x && eqb k j) (eqb node d) (and_from (bytes_eq path x) (eqb k j) ((bytes_eq-Decides path x).1 once.0) (eq-eqb k j once.1)) (eq-eqb node d same_node) in
        false≢true (sym is ∙ yes)

    left_by_test : (t : Bool) → asked ≡ t → d < length has.entry.nodes → length (q.held u b) ≡ cond t len (left_of loaded x j d whole)
    left_by_test true is within = cut_there is
    left_by_test false is within =
        ap length (held u b ∙ ap (λ (t : Bool). cond t (take len (p.held u b)) (p.held u b)) (here_false uuid id u b (other_one within is))) ∙ has.left d within

    left_short : d < length has.entry.nodes → length (q.held u b) ≡ left_of more x j d whole
    left_short within = left_by_test asked refl within ∙ sym (left_push x j d whole whole loaded (lines.Short path k node len))

  pub lie_short : ((b : ℕ) → q.table b ≡ p.table b) → ((x : List ℕ) → q.names x ≡ p.names x) → (files : Files) → LieAs nodes loaded p files → LieAs nodes more q files
  lie_short table names files lie x content is =
      let h = lie x content is in
      record {
        file = h.file;
        named = names x ∙ h.named;
        cut = h.cut;
        replicas = λ j below. (let has = h.replicas j below in record {
          entry = has.entry;
          listed = table (get_or h.file.blocks j 0) ∙ has.listed;
          has_length = has.has_length;
          count = has.count;
          apart = has.apart;
          left = left_short x content h j below;
        });
      }
