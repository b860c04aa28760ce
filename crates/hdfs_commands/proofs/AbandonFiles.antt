-- What is left of the files, once a session's first writers were given up.
use Rattle.std.proofs.Common.{◌≡◌, ◌≢◌, ◌⊎◌, inl, inr, ⊎_elim, ℕ, ◌+◌, ◌≤◌, Bool, true, false, List, Contains, Option, Some, None, String, string_bytes, string_cmp, refl, sym, ◌∙◌, ap, subst, arith}
use Rattle.std.proofs.lemmas.Slice.Eq.{bytes_eq-Decides}
use Rattle.std.specs.BTreeMap.{IsOrdered}
use Rattle.std.specs.Str.{bytes_eq}
use Rattle.std.specs.declared.alloc.Global.{Global}
use Rattle.hdfs_cluster.specs.declared.picture.FileEntry.{FileEntry}
use Rattle.hdfs_cluster.specs.Files.{State, Content, File, Writing}
use Rattle.hdfs_cluster.specs.Picture.{Picture, Told}
use Rattle.hdfs_cluster.specs.Shown.{Shown, Later, SameReads, SameReadPlaces}
use Rattle.hdfs_cluster.specs.Sound.{IsSound, IsFileAt}
use Rattle.hdfs_cluster.specs.Stores.{AgreesAt, AgreesBut}
use Rattle.hdfs_cluster.proofs.Frames.{later_refl, later_trans, same_reads_refl, same_reads_trans, told_before}
use Rattle.hdfs_cluster.specs.Writing.{SameRecords}
use Rattle.hdfs_block_reader.proofs.OnlyBlocks.{same_records_trans}
use Rattle.hdfs_file_writer.specs.OnlyFiles.{OnlyFile}
use Rattle.hdfs_file_writer.specs.Tails.{FileCarries}
use Rattle.hdfs_file_writer.specs.Writers as files
use Rattle.hdfs_file_writer.specs.declared.file_writer.FileWriter.{FileWriter}
use Rattle.hdfs_file_writer.proofs.Others.{agrees_others, carries_others, others_keep}
use Rattle.hdfs_commands.specs.Session.{CarriesFile, CarriesOpen, LeavesFiles, Stands}
use Rattle.hdfs_commands.specs.declared.session.Session.{Session}
use Rattle.hdfs_commands.proofs.Abandoning.{IsAt, found, keys_apart}
use Rattle.hdfs_commands.proofs.OneFile.{agrees_but_by_path, apart_by_test, open_agrees}

-- a writer keeps no link, or carries the file that a state has at its path
abbrev pub IsIdleOrCarries : Picture → State → List ℕ → FileWriter → Type 0
IsIdleOrCarries p state path writer = (files.link_of writer ≡ None) ⊎ CarriesFile p state path writer

-- The files are as they were, but for what datanodes hold of those that are being written, and the writers that are left carry what
-- they carried.
pub record LeftFiles (start now : Shown) (session : Session) (n : ℕ) : Type 0 where
  pub later : Later start now
  pub last : now.last ≡ start.last
  pub reads : SameReads start now
  pub leaves : (state : State) → CarriesOpen start session state → LeavesFiles start now state
  pub carries : (state : State) → CarriesOpen start session state → (p : Picture) → now.picture ≡ Some p
      → (i : ℕ) (key : String Global) (writer : FileWriter) → n ≤ i → IsAt session i key writer → IsIdleOrCarries p state (string_bytes key) writer

same_records_refl : (p : Picture) → SameRecords p p
same_records_refl p = record { names = λ path. refl; table = λ id. refl; active = refl; defaults = refl; reads = λ other. refl }

leaves_refl : (a : Shown) (state : State) → LeavesFiles a a state
leaves_refl a state = record {
  agrees = λ spared h. h;
  records = λ p q was is. (let same : p ≡ q = cc (was, is) in subst (SameRecords p) same (same_records_refl p));
  closed = λ p q was is path content closed file at id there node. (let same : p ≡ q = cc (was, is) in ap (λ (x : Picture). x.held node id) (sym same));
}

leaves_trans : (a b c : Shown) (state : State) → Told (SameReadPlaces b) b.picture c.picture → LeavesFiles a b state → LeavesFiles b c state → LeavesFiles a c state
leaves_trans a b c state told one two = record {
  agrees = λ spared h. two.agrees spared (one.agrees spared h);
  records = λ p r was is.
      (let q = told_before (SameReadPlaces b) b.picture c.picture r told is in
      same_records_trans p q.0 r (one.records p q.0 was q.1) (two.records q.0 r q.1 is));
  closed = λ p r was is path content closed file at id there node.
      (let q = told_before (SameReadPlaces b) b.picture c.picture r told is in
      let at' : IsFileAt q.0 path file = (one.records p q.0 was q.1).names path ∙ at in
      two.closed q.0 r q.1 is path content closed file at' id there node ∙ one.closed p q.0 was q.1 path content closed file at id there node);
}

-- what one writer's file carries another's leaves
carries_on : (path other : List ℕ) (p q : Picture) → IsSound p → OnlyFile path p q → other ≢ path → (state : State) (writer : FileWriter) → IsIdleOrCarries p state other writer → IsIdleOrCarries q state other writer
carries_on path other p q sound only apart state writer (inl idle) = inl idle
carries_on path other p q sound only apart state writer (inr c) = inr (record {
  content = c.content;
  named = c.named;
  carries = carries_others path p q sound only other (files.tail_of writer) c.content.bytes apart c.carries;
  replication = c.replication;
  block_size = c.block_size;
})

-- where the file of one writer is the same but for its blocks, the files agree as they did
agrees_on : (path : List ℕ) (p q : Picture) → IsSound p → (state : State) (writer : FileWriter) → CarriesFile p state path writer → OnlyFile path p q → SameRecords p q → (spared : List ℕ → Bool)
    → AgreesBut spared (Some p) state.files → (other : List ℕ) → spared other ≡ false → AgreesAt q (q.names other) (state.files other)
agrees_on path p q sound state writer c only same spared h other free = by_test (bytes_eq path other) refl
  where
    by_test : (b : Bool) → bytes_eq path other ≡ b → AgreesAt q (q.names other) (state.files other)
    by_test false is = agrees_others path p q sound only other (state.files other) (apart_by_test path other is) (h other free)
    by_test true is =
        let here : path ≡ other = (bytes_eq-Decides path other).0 is in
        let was : AgreesAt p (p.names path) (Some (Writing c.content)) =
        subst (AgreesAt p (p.names path)) c.named (subst (λ (x : List ℕ). AgreesAt p (p.names x) (state.files x)) (sym here) (h other free)) in
        let now = open_agrees p q path c.content (files.tail_of writer) c.content.bytes c.carries was c.content refl (λ file at. (file.blocks, same.names path ∙ at)) in
        subst (λ (x : List ℕ). AgreesAt q (q.names x) (state.files x)) here (subst (AgreesAt q (q.names path)) (sym c.named) now)

module _ (session : Session) (ordered : IsOrdered string_cmp session.writers) (start : Shown) (stands : Stands start session) where
  -- at first all writers are left
  pub files_start : LeftFiles start start session 0
  files_start = record {
    later = later_refl start;
    last = refl;
    reads = same_reads_refl start;
    leaves = λ state opened. leaves_refl start state;
    carries = λ state opened p told i key writer after is.
        (let here = found session ordered i key writer is in
        ⊎_elim (λ failed. inl ((stands.each (string_bytes key) writer here).0.idle failed)) (λ c. inr c) (opened.each p told (string_bytes key) writer here));
  }

  module _ (now next : Shown) (sound : (p : Picture) → now.picture ≡ Some p → IsSound p) (n : ℕ) (key : String Global) (writer : FileWriter) (left : LeftFiles start now session n) (is : IsAt session n key writer)
      (own : files.OnlyOwnLink now (files.link_of writer) next None) (idle : files.link_of writer ≡ None → next ≡ now) (last : next.last ≡ now.last) (leaves : files.LeavesFile now writer next) where
    abbrev path : List ℕ
    path = string_bytes key

    its_path : files.path_of writer ≡ path
    its_path = (stands.each path writer (found session ordered n key writer is)).1

    -- nothing changed, or its file alone
    changed : (state : State) → CarriesOpen start session state → (p : Picture) → now.picture ≡ Some p
        → (next ≡ now) ⊎ ((q : Picture) × (next.picture ≡ Some q) × CarriesFile p state path writer × OnlyFile path p q × SameRecords p q)
    changed state opened p told = ⊎_elim
        (λ none. inl (idle none))
        (λ c. inr (
        (let l = leaves p c.content.bytes told (subst (λ (x : List ℕ). FileCarries p x (files.tail_of writer) c.content.bytes) (sym its_path) c.carries) in
        (l.0, l.1, c, subst (λ (x : List ℕ). OnlyFile x p l.0) its_path l.2, l.3))))
        (left.carries state opened p told n key writer (omega arith) is)

    agrees_next : (state : State) → CarriesOpen start session state → (spared : List ℕ → Bool) → AgreesBut spared now.picture state.files → AgreesBut spared next.picture state.files
    agrees_next state opened spared h = by_picture now.picture refl h
      where
        by_picture : (o : Option Picture) → now.picture ≡ o → AgreesBut spared o state.files → AgreesBut spared next.picture state.files
        by_picture None told agrees = absurd agrees
        by_picture (Some p) told agrees = ⊎_elim
            (λ same. subst (λ (o : Option Picture). AgreesBut spared o state.files) (sym (ap (λ (x : Shown). x.picture) same ∙ told)) agrees)
            (λ c. agrees_but_by_path spared next.picture c.0 state.files c.1 (agrees_on path p c.0 (sound p told) state writer c.2 c.3 c.4 spared agrees))
            (changed state opened p told)

    -- a closed file isn't the writer's
    closed_next : (state : State) (p q : Picture) → IsSound p → CarriesFile p state path writer → OnlyFile path p q → (other : List ℕ) (content : Content) → state.files other ≡ Some (File content)
        → (file : FileEntry) → IsFileAt p other file → (id : ℕ) → Contains file.blocks id → (node : List ℕ) → q.held node id ≡ p.held node id
    closed_next state p q good c only other content closed file at id there node =
        let apart : other ≢ path = λ same. (let here = ap state.files same in cc (here, closed, c.named)) in
        (others_keep path p q good only other file apart at id there).1 node

    leaves_next : (state : State) → CarriesOpen start session state → LeavesFiles now next state
    leaves_next state opened = record {
      agrees = λ spared h. agrees_next state opened spared h;
      records = λ p q was told. ⊎_elim
          (λ same. (let there = ap (λ (x : Shown). x.picture) same in let one : p ≡ q = cc (there, was, told) in subst (SameRecords p) one (same_records_refl p)))
          (λ c. (let one : c.0 ≡ q = cc (c.1, told) in subst (SameRecords p) one c.4))
          (changed state opened p was);
      closed = λ p q was told other content closed file at id there node. ⊎_elim
          (λ same. (let here = ap (λ (x : Shown). x.picture) same in let one : p ≡ q = cc (here, was, told) in ap (λ (x : Picture). x.held node id) (sym one)))
          (λ c. (let one : c.0 ≡ q = cc (c.1, told) in ap (λ (x : Picture). x.held node id) (sym one) ∙ closed_next state p c.0 (sound p was) c.2 c.3 other content closed file at id there node))
          (changed state opened p was);
    }

    carries_next : (state : State) → CarriesOpen start session state → (q : Picture) → next.picture ≡ Some q
        → (i : ℕ) (key' : String Global) (writer' : FileWriter) → n + 1 ≤ i → IsAt session i key' writer' → IsIdleOrCarries q state (string_bytes key') writer'
    carries_next state opened q told i key' writer' after is' =
        let apart : string_bytes key' ≢ path = λ same. keys_apart session ordered n i key key' writer writer' (omega (arith, after)) is is' (sym same) in
        let before = told_before (SameReadPlaces now) now.picture next.picture q own.reads.places told in
        let p = before.0 in
        let kept = left.carries state opened p before.1 i key' writer' (omega (arith, after)) is' in
        ⊎_elim
        (λ same. (let there = ap (λ (x : Shown). x.picture) same in let one : p ≡ q = cc (there, before.1, told) in subst (λ (x : Picture). IsIdleOrCarries x state (string_bytes key') writer') one kept))
        (λ c. (let one : c.0 ≡ q = cc (c.1, told) in
        subst (λ (x : Picture). IsIdleOrCarries x state (string_bytes key') writer') one (carries_on path (string_bytes key') p c.0 (sound p before.1) c.3 apart state writer' kept)))
        (changed state opened p before.1)

    -- one more is given up
    pub files_next : LeftFiles start next session (n + 1)
    files_next = record {
      later = later_trans start now next left.later own.later;
      last = last ∙ left.last;
      reads = same_reads_trans start now next left.reads own.reads;
      leaves = λ state opened. leaves_trans start now next state own.reads.places (left.leaves state opened) (leaves_next state opened);
      carries = carries_next;
    }
