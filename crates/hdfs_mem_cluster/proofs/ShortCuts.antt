-- What a cluster shows where one of its replicas is cut.
use Rattle.std.proofs.Common.{◌≡◌, ◌≢◌, ⊎_elim, ℕ, Bool, true, false, eqb, cond, List, [], length, take, min, get_or, Option, Some, None, unwrap_or, refl, sym, ◌∙◌, ap, subst, arith}
use Rattle.std.proofs.Math.Seq.{take-length}
use Rattle.std.proofs.lemmas.Bool.{false≢true, cases_eq, eqb-true}
use Rattle.std.proofs.lemmas.List.{length-take, length-take-le, take-take, take_min}
use Rattle.std.proofs.lemmas.List.Elements.{All-get_or, All-weaker}
use Rattle.std.proofs.lemmas.Slice.Eq.{bytes_eq-Decides}
use Rattle.std.specs.List.{All, Any}
use Rattle.std.specs.Str.{bytes_eq}
use Rattle.hdfs_cluster.specs.declared.mem_settings.MemSettings.{MemSettings}
use Rattle.hdfs_cluster.specs.declared.picture.BlockEntry.{BlockEntry}
use Rattle.hdfs_cluster.specs.declared.picture.Entry.{Entry}
use Rattle.hdfs_cluster.specs.Files.{Files}
use Rattle.hdfs_cluster.specs.Loading.{CutsAt}
use Rattle.hdfs_cluster.specs.Picture.{Picture}
use Rattle.hdfs_cluster.specs.Sending.{WritePlace}
use Rattle.hdfs_cluster.specs.Stores.{Agrees, AgreesAt, HoldsPrefix, StoresBlock}
use Rattle.hdfs_mem_namenode.specs.declared.namespace.Namespace.{Namespace}
use Rattle.hdfs_mem_datanodes.specs.declared.datanodes.Datanodes.{Datanodes}
use Rattle.hdfs_mem_datanodes.specs.Nodes.{is_here, undisturbed_in}
use Rattle.hdfs_mem_datanodes.proofs.Nodes.{here_false, here_true}
use Rattle.hdfs_mem_cluster.specs.declared.mem_links.MemLinks.{MemLinks}
use Rattle.hdfs_mem_cluster.specs.declared.write_link.MemWrite.{MemWrite}
use Rattle.hdfs_mem_cluster.specs.Links.{write_at, write_place}
use Rattle.hdfs_mem_cluster.specs.MemShown.{picture_at}
use Rattle.hdfs_mem_cluster.specs.Shortening.{CanCut, CutsReplica, left_on}
use Rattle.hdfs_mem_cluster.proofs.Agreeing.{agrees_by}
use Rattle.hdfs_mem_cluster.proofs.Deciding.{entry_same}
use Rattle.hdfs_mem_cluster.proofs.Numbered.{any_at, other_default}
use Rattle.hdfs_mem_cluster.proofs.Places.{place_same_for}

-- what is left of a prefix is one
prefix_cut : (len : ℕ) (held bytes : List ℕ) → held ≡ take (length held) bytes → take len held ≡ take (length (take len held)) bytes
prefix_cut len held bytes is =
    let n = min len (length held) in
    let front : take n held ≡ take n bytes = ap (take n) is ∙ take-take n (length held) bytes (omega arith) in
    sym (take_min len held) ∙ front ∙ ap (λ (m : ℕ). take m bytes) (sym (length-take len held))

prefix_by : (t : Bool) (len : ℕ) (held bytes : List ℕ) → held ≡ take (length held) bytes → cond t (take len held) held ≡ take (length (cond t (take len held) held)) bytes
prefix_by true len held bytes is = prefix_cut len held bytes is
prefix_by false len held bytes is = is

-- one replica holds so many bytes, and all others hold what they held
module _ (p q : Picture) (id len : ℕ) (uuid : List ℕ) (held : (d : List ℕ) (b : ℕ) → q.held d b ≡ cond (is_here uuid id d b) (take len (p.held d b)) (p.held d b)) where
  pub held_else : (d : List ℕ) (b : ℕ) → (d ≡ uuid → b ≡ id → ⊥) → q.held d b ≡ p.held d b
  held_else d b apart = held d b ∙ ap (λ (t : Bool). cond t (take len (p.held d b)) (p.held d b)) (here_false uuid id d b apart)

  pub held_here : q.held uuid id ≡ take len (p.held uuid id)
  held_here = held uuid id ∙ ap (λ (t : Bool). cond t (take len (p.held uuid id)) (p.held uuid id)) (here_true uuid id)

  keeps_prefix : (b : ℕ) (bytes d : List ℕ) → HoldsPrefix (λ n. p.held n b) bytes d → HoldsPrefix (λ n. q.held n b) bytes d
  keeps_prefix b bytes d was = subst (λ (h : List ℕ). h ≡ take (length h) bytes) (sym (held d b)) (prefix_by (is_here uuid id d b) len (p.held d b) bytes was)

  module _ (entry : BlockEntry) (listed : p.table id ≡ Some entry) (node : ℕ) (can : CanCut p.held entry id node len uuid) where
    left_by_test : (d : List ℕ) (t : Bool) → (t ≡ true → d ≡ uuid) → (d ≡ uuid → t ≡ true) → length (q.held d id) ≡ cond t len (length (p.held d id))
    left_by_test d true same from = ap (λ (u : List ℕ). length (q.held u id)) (same refl) ∙ ap length held_here ∙ length-take-le len (p.held uuid id) can.enough
    left_by_test d false same from = ap length (held_else d id (λ is b. false≢true (from is)))

    -- a datanode holds the block whole
    stays : (bytes : List ℕ) → length bytes ≡ entry.length → All (HoldsPrefix (λ n. q.held n id) bytes) entry.nodes → Any (λ n. q.held n id ≡ bytes) entry.nodes
    stays bytes count prefixes =
        let a = any_at (λ n. eqb (left_on p.held id uuid len n) entry.length) entry.nodes can.whole in
        let n = get_or entry.nodes a.0 [] in
        let left : length (q.held n id) ≡ left_on p.held id uuid len n = left_by_test n (bytes_eq n uuid) (bytes_eq-Decides n uuid).0 (bytes_eq-Decides n uuid).1 in
        let long : length (q.held n id) ≡ length bytes = left ∙ eqb-true (left_on p.held id uuid len n) entry.length a.2 ∙ sym count in
        let prefix : q.held n id ≡ take (length (q.held n id)) bytes = All-get_or (HoldsPrefix (λ m. q.held m id) bytes) entry.nodes a.0 [] a.1 prefixes in
        (a.0, n, a.1, other_default entry.nodes a.0 n [] a.1, prefix ∙ ap (λ (m : ℕ). take m bytes) long ∙ take-length bytes)

    -- each block stores what it stored
    stores : (b : ℕ) (e : BlockEntry) (bytes : List ℕ) → p.table b ≡ Some e → StoresBlock p b e bytes → StoresBlock q b e bytes
    stores b e bytes is h =
        let prefixes = All-weaker (HoldsPrefix (λ n. p.held n b) bytes) (HoldsPrefix (λ n. q.held n b) bytes) (keeps_prefix b bytes) e.nodes h.prefixes in
        record {
          length = h.length;
          prefixes = prefixes;
          whole = ⊎_elim
              (λ same.
              (let entry_is : e ≡ entry = entry_same e entry (sym is ∙ ap p.table same ∙ listed) in
              let here = subst (λ (x : BlockEntry). All (HoldsPrefix (λ n. q.held n id) bytes) x.nodes) entry_is (subst (λ (k : ℕ). All (HoldsPrefix (λ n. q.held n k) bytes) e.nodes) same prefixes) in
              subst (λ (k : ℕ). Any (λ n. q.held n k ≡ bytes) e.nodes) (sym same) (subst (λ (x : BlockEntry). Any (λ n. q.held n id ≡ bytes) x.nodes) (sym entry_is) (stays bytes (h.length ∙ ap (λ (x : BlockEntry). x.length) entry_is) here))))
              (λ apart. (h.whole.0, h.whole.1, h.whole.2, h.whole.3, held_else h.whole.1 b (λ d same. apart same) ∙ h.whole.4))
              (cases_eq b id);
        }

    -- and the cluster goes on to hold its files
    pub agrees_short : ((b : ℕ) → q.table b ≡ p.table b) → ((path : List ℕ) → q.names path ≡ p.names path) → (files : Files) → Agrees (Some p) files → Agrees (Some q) files
    agrees_short table names files was path =
        subst (λ (o : Option Entry). AgreesAt q o (files path)) (sym (names path)) (agrees_by p q (λ b e is. table b ∙ is) stores (p.names path) (files path) (was path))

-- a link that has another block is shown alike
pub writes_kept : (nodes nodes' : Datanodes) (uuid : List ℕ) (id len : ℕ) → CutsReplica nodes uuid id len nodes' → (l : ℕ) (slot : Option MemWrite) (place : WritePlace) → write_place nodes l slot ≡ Some place → place.block ≢ id → write_place nodes' l slot ≡ Some place
writes_kept nodes nodes' uuid id len cuts l None place is apart = is
writes_kept nodes nodes' uuid id len cuts l (Some write) place is apart =
    let b = write.setup.block.block_id in
    let block : b ≡ place.block = ap (λ (o : Option WritePlace). (unwrap_or o place).block) is in
    let same = λ (d : List ℕ). cuts.links d b l ∙ ap (λ (t : Bool). cond t false (undisturbed_in nodes d b l)) (here_false uuid id d b (λ node this. apart (sym block ∙ this))) in
    ap Some (place_same_for nodes nodes' l write same) ∙ is

-- in the picture the replica alone is cut
pub cuts_at : (space : Namespace) (nodes nodes' : Datanodes) (settings : MemSettings) (s : MemLinks) (uuid : List ℕ) (id len : ℕ) → CutsReplica nodes uuid id len nodes' → CutsAt len (picture_at space nodes settings s) (picture_at space nodes' settings s)
cuts_at space nodes nodes' settings s uuid id len cuts =
    let p = picture_at space nodes settings s in
    let q = picture_at space nodes' settings s in
    record {
      node = uuid;
      id = id;
      only = record {
        records = record { names = λ path. refl; table = λ b. refl; active = refl; defaults = refl; reads = λ link. refl };
        held = λ node other apart. held_else p q id len uuid cuts.held node other (λ same this. apart (sym this) (0, omega arith, sym same));
        writes = λ link place is other. writes_kept nodes nodes' uuid id len cuts link (write_at s link) place is other;
      };
      cut = held_here p q id len uuid cuts.held;
    }
