-- A file that was opened to be written: what agrees then, and what is carried.
use Rattle.std.proofs.Common.{◌≡◌, ◌≢◌, ⊎_elim, ℕ, Bool, true, false, cond, ◌&&◌, List, [], Option, Some, None, is_none, unwrap_or, IsSome, refl, sym, ◌∙◌, ap, subst}
use Rattle.std.proofs.lemmas.Bool.{false≢true}
use Rattle.std.proofs.lemmas.List.Elements.{All-contains}
use Rattle.std.proofs.lemmas.Slice.Eq.{bytes_eq-Decides}
use Rattle.std.specs.List.{Contains, list_any}
use Rattle.std.specs.Option.{option_map}
use Rattle.std.specs.Str.{bytes_eq}
use Rattle.hdfs_cluster.specs.declared.messages.LocatedBlock.{LocatedBlock}
use Rattle.hdfs_cluster.specs.declared.picture.BlockEntry.{BlockEntry}
use Rattle.hdfs_cluster.specs.declared.picture.Entry.{Entry}
use Rattle.hdfs_cluster.specs.declared.picture.Entry.TheVariants as entries
use Rattle.hdfs_cluster.specs.declared.picture.FileEntry.{FileEntry}
use Rattle.hdfs_cluster.specs.Effects.{Changes, Creates, Opens, blocks_at, with_block, with_entry}
use Rattle.hdfs_cluster.specs.Files.{State, IsState, Node, Dir, File, Writing, Content, Directory, ClosedFile, kind_of, kinds_of}
use Rattle.hdfs_names.specs.Paths.{ancestors, is_path}
use Rattle.hdfs_cluster.specs.Picture.{Picture}
use Rattle.hdfs_cluster.specs.Sound.{IsSound, IsFileAt}
use Rattle.hdfs_model.specs.Steps.{with_writing}
use Rattle.hdfs_cluster.specs.Stores.{AgreesAt, StoresBlocks}
use Rattle.hdfs_file_writer.specs.OnlyFiles.{OnlyFile}
use Rattle.hdfs_file_writer.specs.Tails.{FileCarries}
use Rattle.hdfs_file_writer.specs.declared.tails.Tail.{Tail}
use Rattle.hdfs_file_writer.specs.declared.tails.Tail.TheVariants.{Bare}
use Rattle.hdfs_file_writer.specs.Writers.{tail_opened}
use Rattle.hdfs_file_writer.proofs.Adding.{named_after}
use Rattle.hdfs_file_writer.proofs.Creating.{created_keeps, created_others}
use Rattle.hdfs_file_writer.proofs.Growing.{created_carries}
use Rattle.hdfs_file_writer.proofs.Others.{agrees_others, carries_others}
use Rattle.hdfs_file_writer.proofs.Placing.{at_id, at_path, contains_last}
use Rattle.hdfs_file_writer.proofs.Reopening.{opened_carries}
use Rattle.hdfs_file_writer.proofs.Storing.{stores_keeps}
use Rattle.hdfs_model.proofs.Planted.{any_contains}
use Rattle.hdfs_commands.proofs.WithWriting.{IsClear, clear_over, others_there, state_with_writing}

-- From one picture to the next a file with this content was opened at a path: the next agrees with the state in which it is being
-- written, it is carried by a writer with this tail, and what other writers carry they carry still.
pub record Begun (p q : Picture) (state : State) (path : List ℕ) (content : Content) (tail : Tail) : Type 0 where
  pub agrees : (r : List ℕ) → AgreesAt q (q.names r) ((with_writing state path content).files r)
  pub is_state : IsState (with_writing state path content)
  pub own : FileCarries q path tail content.bytes
  pub others : (r : List ℕ) (other : Tail) (bytes : List ℕ) → r ≢ path → FileCarries p r other bytes → FileCarries q r other bytes
  pub defaults : q.defaults ≡ p.defaults

module _ (p q : Picture) (sound : IsSound p) (state : State) (agrees : (r : List ℕ) → AgreesAt p (p.names r) (state.files r)) (path : List ℕ) (file : FileEntry) (content : Content) (attributes : file.attributes ≡ content.attributes) (creates : Creates path file p q) where
  stays_by : (r : List ℕ) (e : Option Entry) (node : Option Node) → r ≢ path → p.names r ≡ e → AgreesAt p e node → AgreesAt q e node
  stays_by r None None apart is h = tt
  stays_by r None (Some node) apart is h = absurd h
  stays_by r (Some entries.Dir) None apart is h = absurd h
  stays_by r (Some entries.Dir) (Some Dir) apart is h = tt
  stays_by r (Some entries.Dir) (Some (File c)) apart is h = absurd h
  stays_by r (Some entries.Dir) (Some (Writing c)) apart is h = absurd h
  stays_by r (Some (entries.File f)) None apart is h = absurd h
  stays_by r (Some (entries.File f)) (Some Dir) apart is h = absurd h
  stays_by r (Some (entries.File f)) (Some (File c)) apart is h = (h.0, h.1, stores_keeps p q f.blocks c.bytes (created_keeps p q sound path file creates r apart f is) h.2)
  stays_by r (Some (entries.File f)) (Some (Writing c)) apart is h = h

  none_of : (e : Entry) → AgreesAt q (Some e) None → ⊥
  none_of entries.Dir h = h
  none_of (entries.File f) h = h

  or_dir : (e : Option Entry) (n : Option Node) → AgreesAt q e n → AgreesAt q (Some (unwrap_or e entries.Dir)) (Some (unwrap_or n Dir))
  or_dir None None h = tt
  or_dir None (Some n) h = absurd h
  or_dir (Some e) None h = absurd (none_of e h)
  or_dir (Some e) (Some n) h = h

  elsewhere : (r : List ℕ) → r ≢ path → (a : Bool) → AgreesAt q (cond a (Some (unwrap_or (p.names r) entries.Dir)) (p.names r)) (cond a (Some (unwrap_or (state.files r) Dir)) (state.files r))
  elsewhere r apart true = or_dir (p.names r) (state.files r) (stays_by r (p.names r) (state.files r) apart refl (agrees r))
  elsewhere r apart false = stays_by r (p.names r) (state.files r) apart refl (agrees r)

  at_test : (r : List ℕ) (b : Bool) → (path ≡ r → b ≡ true)
      → AgreesAt q (cond b (Some (entries.File file)) (cond (list_any (bytes_eq r) (ancestors path)) (Some (unwrap_or (p.names r) entries.Dir)) (p.names r)))
      (cond b (Some (Writing content)) (cond (list_any (bytes_eq r) (ancestors path)) (Some (unwrap_or (state.files r) Dir)) (state.files r)))
  at_test r true back = (creates.is_open, attributes)
  at_test r false back = elsewhere r (λ same. false≢true (back (sym same))) (list_any (bytes_eq r) (ancestors path))

  create_agrees : (r : List ℕ) → AgreesAt q (q.names r) ((with_writing state path content).files r)
  create_agrees r = subst (λ (e : Option Entry). AgreesAt q e ((with_writing state path content).files r)) (sym (creates.changes.names r)) (at_test r (bytes_eq path r) (bytes_eq-Decides path r).1)

  -- what isn't touched agrees as it did
  pub create_spares : (r : List ℕ) → bytes_eq path r ≡ false → (is_none (state.files r) && list_any (bytes_eq r) (ancestors path)) ≡ false → AgreesAt q (q.names r) (state.files r)
  create_spares r apart there = subst (AgreesAt q (q.names r)) (others_there state path content r apart there) (create_agrees r)

  -- a file was created
  pub create_begun : IsState state → is_path path ≡ true → IsClear (kinds_of state.files) path → content.bytes ≡ [] → Begun p q state path content Bare
  create_begun is named clear none = record {
    agrees = create_agrees;
    is_state = state_with_writing state path content is named clear;
    own = subst (FileCarries q path Bare) (sym none) (created_carries p q path file creates);
    others = λ r other bytes apart carried. created_others p q sound path file creates r other bytes apart carried;
    defaults = creates.changes.bytes.defaults;
  }

-- A closed file stands at a path, in the picture and in the state.
pub record ClosedAt (p : Picture) (state : State) (path : List ℕ) (file : FileEntry) : Type 0 where
  pub content : Content
  pub filed : state.files path ≡ Some (File content)
  pub attributes : file.attributes ≡ content.attributes
  pub stored : StoresBlocks p file.blocks content.bytes

closed_node : (p : Picture) (state : State) (path : List ℕ) (file : FileEntry) (node : Option Node) → state.files path ≡ node → option_map kind_of node ≡ Some ClosedFile → AgreesAt p (Some (entries.File file)) node → ClosedAt p state path file
closed_node p state path file None is kind h = absurd h
closed_node p state path file (Some Dir) is kind h = absurd h
closed_node p state path file (Some (File content)) is kind h = record { content = content; filed = is; attributes = h.1; stored = h.2 }
closed_node p state path file (Some (Writing content)) is kind h = absurd (cc kind)

pub closed_at : (p : Picture) (state : State) (path : List ℕ) (file : FileEntry) → ((r : List ℕ) → AgreesAt p (p.names r) (state.files r)) → IsFileAt p path file → kinds_of state.files path ≡ Some ClosedFile → ClosedAt p state path file
closed_at p state path file agrees at kind =
    closed_node p state path file (state.files path) refl kind (subst (λ (e : Option Entry). AgreesAt p e (state.files path)) at (agrees path))

module _ (p q : Picture) (path : List ℕ) (file : FileEntry) (at : IsFileAt p path file) where
  own_blocks : (id : ℕ) → Contains file.blocks id → Contains (blocks_at (p.names path)) id
  own_blocks id there = subst (λ (e : Option Entry). Contains (blocks_at e) id) (sym at) there

  grown_by : (table : ℕ → Option BlockEntry) → Changes p q (with_entry p.names path (record file { is_open = true })) table → (id : ℕ) → Contains (blocks_at (q.names path)) id → Contains (blocks_at (p.names path)) id
  grown_by table changes id there =
      own_blocks id (subst (λ (e : Option Entry). Contains (blocks_at e) id) (named_after p q path (record file { is_open = true }) table changes) there)

  only_by : (table : ℕ → Option BlockEntry) → Changes p q (with_entry p.names path (record file { is_open = true })) table
      → ((id : ℕ) → (Contains file.blocks id → ⊥) → table id ≡ p.table id) → ((id : ℕ) → IsSome (p.table id) → IsSome (table id)) → OnlyFile path p q
  only_by table changes away listed = record {
    names = λ other apart. changes.names other ∙ ⊎_elim (λ here. absurd (apart (sym here.0))) (λ off. off.1) (at_path path other (Some (entries.File (record file { is_open = true }))) (p.names other));
    blocks = λ id some off. (changes.table id ∙ away id (λ there. off (own_blocks id there)), λ node. changes.bytes.held node id);
    writes = λ link place told some off. changes.bytes.writes link ∙ told;
    grown = λ id there some. grown_by table changes id there;
    listed = λ id some. subst IsSome (sym (changes.table id)) (listed id some);
    reads = changes.bytes.reads;
    defaults = changes.bytes.defaults;
  }

  -- a file that was opened touches no other
  pub opened_only : (block : Option LocatedBlock) → Opens path file block p q → OnlyFile path p q
  opened_only None opens = only_by p.table opens.1 (λ id off. refl) (λ id some. some)
  opened_only (Some block) opens =
      let last : Contains file.blocks opens.1 = subst (λ (ids : List ℕ). Contains ids opens.1) (sym opens.4) (contains_last opens.0 opens.1) in
      only_by (with_block p.table opens.1 opens.3) opens.6
      (λ id off. ⊎_elim (λ here. absurd (off (subst (Contains file.blocks) here.0 last))) (λ away. away.1) (at_id opens.1 id (Some opens.3) (p.table id)))
      (λ id some. ⊎_elim (λ here. subst IsSome (sym here.1) refl) (λ away. subst IsSome (sym away.1) some) (at_id opens.1 id (Some opens.3) (p.table id)))

  pub opened_named : (block : Option LocatedBlock) → Opens path file block p q → IsFileAt q path (record file { is_open = true })
  opened_named None opens = named_after p q path (record file { is_open = true }) p.table opens.1
  opened_named (Some block) opens = named_after p q path (record file { is_open = true }) (with_block p.table opens.1 opens.3) opens.6

module _ (p q : Picture) (sound : IsSound p) (state : State) (agrees : (r : List ℕ) → AgreesAt p (p.names r) (state.files r)) (path : List ℕ) (file : FileEntry) (block : Option LocatedBlock) (at : IsFileAt p path file) (opens : Opens path file block p q) where
  -- another path agrees as it did
  pub open_spares : (r : List ℕ) → r ≢ path → AgreesAt q (q.names r) (state.files r)
  open_spares r apart = agrees_others path p q sound (opened_only p q path file at block opens) r (state.files r) apart (agrees r)

  module _ (is : IsState state) (closed : ClosedAt p state path file) where
    kind_is : kinds_of state.files path ≡ Some ClosedFile
    kind_is = ap (option_map kind_of) closed.filed

    some_there : (r : List ℕ) → kinds_of state.files r ≡ Some Directory → is_none (state.files r) ≡ false
    some_there r dir = by_node (state.files r) dir
      where
        by_node : (o : Option Node) → option_map kind_of o ≡ Some Directory → is_none o ≡ false
        by_node None none = absurd (cc none)
        by_node (Some node) some = refl

    above_there : (r : List ℕ) → (is_none (state.files r) && list_any (bytes_eq r) (ancestors path)) ≡ false
    above_there r = by_test (list_any (bytes_eq r) (ancestors path)) (any_contains (ancestors path) r)
      where
        and_false : (a : Bool) → (a && false) ≡ false
        and_false true = refl
        and_false false = refl

        by_test : (a : Bool) → (a ≡ true → Contains (ancestors path) r) → (is_none (state.files r) && a) ≡ false
        by_test false there = and_false (is_none (state.files r))
        by_test true there =
            ap (λ (b : Bool). b && true) (some_there r (All-contains (λ a. kinds_of state.files a ≡ Some Directory) (ancestors path) r (is.tree.above path (subst IsSome (sym kind_is) refl)) (there refl)))

    apart_by : (r : List ℕ) (b : Bool) → bytes_eq path r ≡ b → (b ≡ true → path ≡ r) → AgreesAt q (q.names r) ((with_writing state path closed.content).files r)
    apart_by r true test same = subst (λ (x : List ℕ). AgreesAt q (q.names x) ((with_writing state path closed.content).files x)) (same refl)
        (subst (λ (e : Option Entry). AgreesAt q e ((with_writing state path closed.content).files path)) (sym (opened_named p q path file at block opens))
        (subst (AgreesAt q (Some (entries.File (record file { is_open = true })))) (sym here) (refl, closed.attributes)))
      where
        here : (with_writing state path closed.content).files path ≡ Some (Writing closed.content)
        here = ap (λ (b : Bool). cond b (Some (Writing closed.content)) (cond (list_any (bytes_eq path) (ancestors path)) (Some (unwrap_or (state.files path) Dir)) (state.files path))) ((bytes_eq-Decides path path).1 refl)
    apart_by r false test same =
        subst (AgreesAt q (q.names r)) (sym (others_there state path closed.content r test (above_there r)))
        (open_spares r (λ here. false≢true (sym test ∙ (bytes_eq-Decides path r).1 (sym here))))

    -- a closed file was opened
    pub open_begun : is_path path ≡ true → Begun p q state path closed.content (tail_opened block None)
    open_begun named = record {
      agrees = λ r. apart_by r (bytes_eq path r) refl (bytes_eq-Decides path r).0;
      is_state = state_with_writing state path closed.content is named (clear_over (kinds_of state.files) path ClosedFile is.tree kind_is (λ same. cc same));
      own = opened_carries p q sound path closed.content.bytes file at closed.stored block opens;
      others = λ r other bytes apart carried. carries_others path p q sound (opened_only p q path file at block opens) r other bytes apart carried;
      defaults = (opened_only p q path file at block opens).defaults;
    }
