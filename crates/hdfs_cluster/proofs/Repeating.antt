-- The rows of an ask may stand behind one another: one that is asked again has the effect of one.
use Rattle.std.proofs.Common.{◌≡◌, ◌≢◌, inl, inr, ⊎_elim, ℕ, Bool, true, false, cond, ◌==◌, List, [], ◌∷◌, ◌++◌, length, Option, Some, None, IsSome, refl, sym, ◌∙◌, ap, subst, arith}
use Rattle.std.proofs.Math.Path.{fun_ext}
use Rattle.std.proofs.lemmas.Bool.Decides.{nat_tests}
use Rattle.std.proofs.lemmas.List.Elements.{All-weaker, Contains-append_left, Contains-push}
use Rattle.std.proofs.lemmas.Slice.Eq.{bytes_eq-Decides}
use Rattle.std.specs.List.{Contains, list_any}
use Rattle.std.specs.Option.{option_map}
use Rattle.std.specs.Prelude.{unwrap_or}
use Rattle.std.specs.Str.{bytes_eq}
use Rattle.hdfs_cluster.specs.declared.asks.Ask.{Ask}
use Rattle.hdfs_cluster.specs.declared.asks.Ask.TheVariants as asks
use Rattle.hdfs_cluster.specs.Asks.{add_block_ask, additional_datanode_ask, complete_ask, create_ask, update_pipeline_ask}
use Rattle.hdfs_cluster.specs.declared.asks.Answer.{Answer}
use Rattle.hdfs_cluster.specs.declared.asks.Answer.TheVariants as answers
use Rattle.hdfs_cluster.specs.declared.messages.Block.{Block}
use Rattle.hdfs_cluster.specs.declared.messages.DatanodeId.{DatanodeId}
use Rattle.hdfs_cluster.specs.declared.messages.DatanodeInfo.{DatanodeInfo}
use Rattle.hdfs_cluster.specs.declared.messages.LocatedBlock.{LocatedBlock}
use Rattle.hdfs_cluster.specs.declared.messages.LocatedBlocks.{LocatedBlocks}
use Rattle.hdfs_cluster.specs.declared.picture.BlockEntry.{BlockEntry}
use Rattle.hdfs_cluster.specs.declared.picture.Entry.{Entry}
use Rattle.hdfs_cluster.specs.declared.picture.Entry.TheVariants as entries
use Rattle.hdfs_cluster.specs.declared.picture.FileEntry.{FileEntry}
use Rattle.hdfs_cluster.specs.Effects.{KeepsBytes, Changes, Creates, Opens, AddsBlock, AddsNew, GivesAgain, IsRetried, IsEntry, Completes, ClosesIf, NamesPipeline, IsLast, HasBlock, names_of, IsBeingWritten, with_entry, with_length, with_block, of_length, blocks_at, table_without}
use Rattle.hdfs_cluster.specs.Files.{Kind, OpenFile, NoFile, no_file}
use Rattle.hdfs_cluster.specs.Namenode.{Row, IsOwn, Locates, LocatesBlocks, overwrites, new_file}
use Rattle.hdfs_names.specs.Paths.{ancestors}
use Rattle.hdfs_cluster.specs.Picture.{Picture, SameButActive, entry_kind, kinds}
use Rattle.hdfs_cluster.specs.Refusals.{create_refusal, append_refusal, open_refusal, with_parents}
use Rattle.hdfs_cluster.specs.Sound.{IsFileAt}
use Rattle.hdfs_cluster.specs.Sending.{uuids}
use Rattle.hdfs_cluster.specs.Repeating.{Repeats}
use Rattle.hdfs_cluster.proofs.Relaying.{same_trans}

pub same_keeps : (p q : Picture) → SameButActive p q → KeepsBytes p q
same_keeps p q same = record { held = same.files.held; defaults = same.files.defaults; reads = same.reads; writes = same.writes }

pub keeps_trans : (p q r : Picture) → KeepsBytes p q → KeepsBytes q r → KeepsBytes p r
keeps_trans p q r f g = record {
  held = λ node id. g.held node id ∙ f.held node id;
  defaults = g.defaults ∙ f.defaults;
  reads = λ link. g.reads link ∙ f.reads link;
  writes = λ link. g.writes link ∙ f.writes link;
}

pub kinds_same : (p q : Picture) → SameButActive p q → kinds p ≡ kinds q
kinds_same p q same = fun_ext (λ r. ap (option_map entry_kind) (sym (same.files.names r)))

pub names_same : (p q : Picture) → SameButActive p q → q.names ≡ p.names
names_same p q same = fun_ext same.files.names

pub table_same : (p q : Picture) → SameButActive p q → q.table ≡ p.table
table_same p q same = fun_ext same.files.table

pub changes_left : (p q r : Picture) (n n' : List ℕ → Option Entry) (l l' : ℕ → Option BlockEntry) → SameButActive p q → n' ≡ n → l' ≡ l → Changes q r n' l' → Changes p r n l
changes_left p q r n n' l l' same names table c = record {
  names = λ y. c.names y ∙ ap (λ (f : List ℕ → Option Entry). f y) names;
  table = λ id. c.table id ∙ ap (λ (f : ℕ → Option BlockEntry). f id) table;
  bytes = keeps_trans p q r (same_keeps p q same) c.bytes;
}

pub changes_right : (p q r : Picture) (n : List ℕ → Option Entry) (l : ℕ → Option BlockEntry) → Changes p q n l → SameButActive q r → Changes p r n l
changes_right p q r n l c same = record {
  names = λ y. same.files.names y ∙ c.names y;
  table = λ id. same.files.table id ∙ c.table id;
  bytes = keeps_trans p q r c.bytes (same_keeps q r same);
}

pub changes_both : (p q r : Picture) (n m : List ℕ → Option Entry) (l t : ℕ → Option BlockEntry) → Changes p q n l → Changes q r m t → ((y : List ℕ) → m y ≡ n y) → ((id : ℕ) → t id ≡ l id) → Changes p r n l
changes_both p q r n m l t f g names table = record {
  names = λ y. g.names y ∙ names y;
  table = λ id. g.table id ∙ table id;
  bytes = keeps_trans p q r f.bytes g.bytes;
}

pub here_text : {X : Type 0} (path : List ℕ) (x y : X) → cond (bytes_eq path path) x y ≡ x
here_text path x y = ap (λ (b : Bool). cond b x y) ((bytes_eq-Decides path path).1 refl)

here_id : {X : Type 0} (n : ℕ) (x y : X) → cond (n == n) x y ≡ x
here_id n x y = ap (λ (b : Bool). cond b x y) (is n)
  where
    is : (n : ℕ) → (n == n) ≡ true
    is n = grind (arith, nat_tests)

some_not : (o : Option BlockEntry) → IsSome o → o ≡ None → ⊥
some_not None there none = absurd (cc there)
some_not (Some x) there none = absurd (cc none)

has_last : (o : Option Block) (blocks : List ℕ) → IsLast blocks o → HasBlock blocks o
has_last None blocks ends = tt
has_last (Some b) blocks ends = subst (λ (l : List ℕ). Contains l b.block_id) (sym ends.1) (Contains-push ends.0 b.block_id)

has_more : (o : Option Block) (blocks : List ℕ) (x : ℕ) → HasBlock blocks o → HasBlock (blocks ++ x ∷ []) o
has_more None blocks x has = tt
has_more (Some b) blocks x has = Contains-append_left blocks (x ∷ []) b.block_id has

-- asks that change nothing
pub quiet_repeats : (ask : Ask) (p : Picture) → ((q r : Picture) (a : Answer) → Row q ask a r → SameButActive q r)
    → ((q r : Picture) (a : Answer) → SameButActive p q → Row q ask a r → Row p ask a r) → ((q r : Picture) (a : Answer) → Row p ask a q → SameButActive q r → Row p ask a r)
    → ((q : Picture) → SameButActive p q → IsOwn q ask → ⊥) → Repeats ask p
quiet_repeats ask p quiet left right none = record {
  left = λ q r b same row. left q r b same row;
  twice = λ q r a b one two. inl (left q r b (quiet p q a one) two);
  right = λ q r a row same. right q r a row same;
  not_own = λ q done own. ⊎_elim (λ same. none q same own) (λ row. none q (quiet p q row.0 row.2) own) done;
}

pub defaults_repeats : (p : Picture) → Repeats asks.GetServerDefaults p
defaults_repeats p = quiet_repeats asks.GetServerDefaults p quiet left right (λ q same own. own)
  where
    quiet : (q r : Picture) (a : Answer) → Row q asks.GetServerDefaults a r → SameButActive q r
    quiet q r (answers.GetServerDefaults defaults) row = row.1
    quiet q r a row = absurd row

    left : (q r : Picture) (a : Answer) → SameButActive p q → Row q asks.GetServerDefaults a r → Row p asks.GetServerDefaults a r
    left q r (answers.GetServerDefaults defaults) same row = (row.0 ∙ same.files.defaults, same_trans p q r same row.1)
    left q r a same row = absurd row

    right : (q r : Picture) (a : Answer) → Row p asks.GetServerDefaults a q → SameButActive q r → Row p asks.GetServerDefaults a r
    right q r (answers.GetServerDefaults defaults) row same = (row.0, same_trans p q r row.1 same)
    right q r a row same = absurd row

-- create
module _ (src client : List ℕ) (masked flag : ℕ) (parents : Bool) (replication block_size : ℕ) (p : Picture) where
  abbrev creating : Ask
  creating = create_ask src masked client flag parents replication block_size

  abbrev made : FileEntry
  made = new_file masked replication block_size

  abbrev put_at : Bool → Bool → Option Entry → Option Entry
  put_at b1 b2 v = cond b1 (Some (entries.File made)) (cond b2 (Some (unwrap_or v entries.Dir)) v)

  put_twice : (b1 b2 : Bool) (v : Option Entry) → put_at b1 b2 (put_at b1 b2 v) ≡ put_at b1 b2 v
  put_twice true b2 v = refl
  put_twice false true v = refl
  put_twice false false v = refl

  create_left : (q r : Picture) (b : Answer) → SameButActive p q → Row q creating b r → Row p creating b r
  create_left q r (answers.Create status) same row = (
    ap (λ (k : List ℕ → Option Kind). create_refusal k src (overwrites flag) parents) (kinds_same p q same) ∙ row.0,
    row.1,
    record {
      none = row.2.none;
      is_open = row.2.is_open;
      changes = changes_left p q r _ _ _ _ same (ap (λ (n : List ℕ → Option Entry). with_parents n entries.Dir src (entries.File made)) (names_same p q same))
          (ap (λ (n : List ℕ → Option Entry). table_without q.table (blocks_at (n src))) (names_same p q same) ∙ ap (λ (t : ℕ → Option BlockEntry). table_without t (blocks_at (p.names src))) (table_same p q same)) row.2.changes;
    },
  )
  create_left q r b same row = absurd row

  create_right : (q r : Picture) (b : Answer) → Row p creating b q → SameButActive q r → Row p creating b r
  create_right q r (answers.Create status) row same = (row.0, row.1, record { none = row.2.none; is_open = row.2.is_open; changes = changes_right p q r _ _ row.2.changes same })
  create_right q r b row same = absurd row

  create_twice : (q r : Picture) → Creates src made p q → Creates src made q r → Creates src made p r
  create_twice q r one two = record {
    none = one.none;
    is_open = one.is_open;
    changes = changes_both p q r _ _ _ _ one.changes two.changes
        (λ y. ap (put_at (bytes_eq src y) (list_any (bytes_eq y) (ancestors src))) (one.changes.names y) ∙ put_twice (bytes_eq src y) (list_any (bytes_eq y) (ancestors src)) (p.names y))
        (λ id. ap (λ (e : Option Entry). table_without q.table (blocks_at e) id) (one.changes.names src ∙ here_text src (Some (entries.File made)) (cond (list_any (bytes_eq src) (ancestors src)) (Some (unwrap_or (p.names src) entries.Dir)) (p.names src))) ∙ one.changes.table id);
  }

  create_again : (q r : Picture) (a b : Answer) → Row p creating a q → Row q creating b r → Row p creating b r
  create_again q r (answers.Create one) (answers.Create two) first second = (first.0, second.1, create_twice q r first.2 second.2)
  create_again q r (answers.Create one) b first second = absurd second
  create_again q r a b first second = absurd first

  pub create_repeats : Repeats creating p
  create_repeats = record { left = create_left; twice = λ q r a b one two. inl (create_again q r a b one two); right = create_right; not_own = λ q done own. own }

-- complete, of a file whose last block is named
module _ (src client : List ℕ) (last : Option Block) (id : Option ℕ) (p : Picture) (file : FileEntry) (is : IsFileAt p src file) (ends : IsLast file.blocks last) where
  abbrev completing : Ask
  completing = complete_ask src client last id

  file_same : (f g : FileEntry) (e : Option Entry) → e ≡ Some (entries.File f) → e ≡ Some (entries.File g) → f ≡ g
  file_same f g e a b = cc (a, b)

  closes_left : (b : Bool) (f : FileEntry) (q r : Picture) → SameButActive p q → ClosesIf b src f last q r → ClosesIf b src f last p r
  closes_left true f q r same c = changes_left p q r _ _ _ _ same (ap (λ (n : List ℕ → Option Entry). with_entry n src (record f { is_open = false })) (names_same p q same)) (ap (λ (t : ℕ → Option BlockEntry). with_length t last) (table_same p q same)) c
  closes_left false f q r same c = changes_left p q r _ _ _ _ same (names_same p q same) (table_same p q same) c

  closes_right : (b : Bool) (f : FileEntry) (q r : Picture) → ClosesIf b src f last p q → SameButActive q r → ClosesIf b src f last p r
  closes_right true f q r c same = changes_right p q r _ _ c same
  closes_right false f q r c same = changes_right p q r _ _ c same

  complete_left : (q r : Picture) (b : Answer) → SameButActive p q → Row q completing b r → Row p completing b r
  complete_left q r (answers.Complete true) same row = (row.0, sym (same.files.names src) ∙ row.1, (row.2.0, closes_left row.0.is_open row.0 q r same row.2.1))
  complete_left q r (answers.Complete false) same row = absurd row
  complete_left q r b same row = absurd row

  complete_right : (q r : Picture) (b : Answer) → Row p completing b q → SameButActive q r → Row p completing b r
  complete_right q r (answers.Complete true) row same = (row.0, row.1, (row.2.0, closes_right row.0.is_open row.0 q r row.2.1 same))
  complete_right q r (answers.Complete false) row same = absurd row
  complete_right q r b row same = absurd row

  named_closed : (b : Bool) (f : FileEntry) (q : Picture) → IsFileAt p src f → f.is_open ≡ b → ClosesIf b src f last p q → (g : FileEntry) × IsFileAt q src g × (g.is_open ≡ false) × (g.blocks ≡ f.blocks)
  named_closed true f q at still c = (record f { is_open = false }, c.names src ∙ here_text src (Some (entries.File (record f { is_open = false }))) (p.names src), refl, refl)
  named_closed false f q at still c = (f, c.names src ∙ at, still, refl)

  complete_twice : (q r : Picture) (f g : FileEntry) → IsFileAt p src f → IsFileAt q src g → (b : Bool) → f.is_open ≡ b → ClosesIf b src f last p q → ClosesIf g.is_open src g last q r → ClosesIf b src f last p r
  complete_twice q r f g at at' b still one two =
      let h = named_closed b f q at still one in
      let closed : g.is_open ≡ false = ap (λ (x : FileEntry). x.is_open) (file_same g h.0 (q.names src) at' h.1) ∙ h.2 in
      by b one (subst (λ (x : Bool). ClosesIf x src g last q r) closed two)
    where
      by : (b : Bool) → ClosesIf b src f last p q → ClosesIf false src g last q r → ClosesIf b src f last p r
      by true c d = changes_both p q r _ _ _ _ c d c.names c.table
      by false c d = changes_both p q r _ _ _ _ c d c.names c.table

  complete_again : (q r : Picture) (a b : Answer) → Row p completing a q → Row q completing b r → Row p completing b r
  complete_again q r (answers.Complete true) (answers.Complete true) one two = (one.0, one.1, (one.2.0, complete_twice q r one.0 two.0 one.1 two.1 one.0.is_open refl one.2.1 two.2.1))
  complete_again q r (answers.Complete true) (answers.Complete false) one two = absurd two
  complete_again q r (answers.Complete true) b one two = absurd two
  complete_again q r (answers.Complete false) b one two = absurd one
  complete_again q r a b one two = absurd one

  row_true : (q : Picture) (a : Answer) → Row p completing a q → (f : FileEntry) × IsFileAt p src f × Completes src f last p q
  row_true q (answers.Complete true) row = row
  row_true q (answers.Complete false) row = absurd row
  row_true q a row = absurd row

  pub complete_repeats : Repeats completing p
  complete_repeats = record {
    left = complete_left;
    twice = λ q r a b one two. inl (complete_again q r a b one two);
    right = complete_right;
    not_own = λ q done own. ⊎_elim
        (λ same. own file (same.files.names src ∙ is) ends)
        (λ row. (let t = row_true q row.0 row.2 in
        let h = named_closed t.0.is_open t.0 q t.1 refl t.2.1 in
        own h.0 h.1 (subst (λ (l : List ℕ). IsLast l last) (sym h.3) t.2.0)))
        done;
  }

-- append: behind an effect no second answer comes
module _ (src client : List ℕ) (flag : ℕ) (p : Picture) where
  abbrev appending : Ask
  appending = asks.Append src client flag

  open_refuses : (q : Picture) → kinds q src ≡ Some OpenFile → append_refusal (kinds q) src ≡ None → ⊥
  open_refuses q is none = refuses (no_file (kinds q) src) (ap (λ (k : Option Kind). open_refusal (no_file (kinds q) src) k) (sym is) ∙ none)
    where
      refuses : (o : Option NoFile) → open_refusal o (Some OpenFile) ≡ None → ⊥
      refuses (Some why) none = absurd (cc none)
      refuses None none = absurd (cc none)

  named_open : (file : FileEntry) (block : Option LocatedBlock) (q : Picture) → Opens src file block p q → kinds q src ≡ Some OpenFile
  named_open file None q o = ap (option_map entry_kind) (o.1.names src ∙ here_text src (Some (entries.File (record file { is_open = true }))) (p.names src))
  named_open file (Some block) q o = ap (option_map entry_kind) (o.6.names src ∙ here_text src (Some (entries.File (record file { is_open = true }))) (p.names src))

  opens_left : (file : FileEntry) (block : Option LocatedBlock) (q r : Picture) → SameButActive p q → Opens src file block q r → Opens src file block p r
  opens_left file None q r same o = (o.0, changes_left p q r _ _ _ _ same (ap (λ (n : List ℕ → Option Entry). with_entry n src (record file { is_open = true })) (names_same p q same)) (table_same p q same) o.1)
  opens_left file (Some block) q r same o = (
    o.0,
    o.1,
    o.2,
    o.3,
    o.4,
    record {
      is = sym (same.files.table o.1) ∙ o.5.is;
      same_id = o.5.same_id;
      same_length = o.5.same_length;
      stamp = o.5.stamp;
      some = o.5.some;
      listed = o.5.listed;
      apart = o.5.apart;
      whole = All-weaker (λ node. length (q.held node o.1) ≡ o.2.length) (λ node. length (p.held node o.1) ≡ o.2.length) (λ node is. ap length (sym (same.files.held node o.1)) ∙ is) (uuids block.locs) o.5.whole;
      now = o.5.now;
    },
    changes_left p q r _ _ _ _ same (ap (λ (n : List ℕ → Option Entry). with_entry n src (record file { is_open = true })) (names_same p q same)) (ap (λ (t : ℕ → Option BlockEntry). with_block t o.1 o.3) (table_same p q same)) o.6,
  )

  opens_right : (file : FileEntry) (block : Option LocatedBlock) (q r : Picture) → Opens src file block p q → SameButActive q r → Opens src file block p r
  opens_right file None q r o same = (o.0, changes_right p q r _ _ o.1 same)
  opens_right file (Some block) q r o same = (o.0, o.1, o.2, o.3, o.4, o.5, changes_right p q r _ _ o.6 same)

  append_left : (q r : Picture) (b : Answer) → SameButActive p q → Row q appending b r → Row p appending b r
  append_left q r (answers.Append a) same row =
      (ap (λ (k : List ℕ → Option Kind). append_refusal k src) (kinds_same p q same) ∙ row.0, (row.1.0, sym (same.files.names src) ∙ row.1.1, row.1.2, opens_left row.1.0 a.block q r same row.1.3))
  append_left q r b same row = absurd row

  append_right : (q r : Picture) (b : Answer) → Row p appending b q → SameButActive q r → Row p appending b r
  append_right q r (answers.Append a) row same = (row.0, (row.1.0, row.1.1, row.1.2, opens_right row.1.0 a.block q r row.1.3 same))
  append_right q r b row same = absurd row

  append_again : (q r : Picture) (a b : Answer) → Row p appending a q → Row q appending b r → Row p appending b r
  append_again q r (answers.Append a) (answers.Append b) one two = absurd (open_refuses q (named_open one.1.0 a.block q one.1.3) two.0)
  append_again q r (answers.Append a) b one two = absurd two
  append_again q r a b one two = absurd one

  pub append_repeats : Repeats appending p
  append_repeats = record { left = append_left; twice = λ q r a b one two. inl (append_again q r a b one two); right = append_right; not_own = λ q done own. own }

-- a block has another pipeline
module _ (client : List ℕ) (block block' : Block) (nodes : List DatanodeId) (ids : List (List ℕ)) (p : Picture) (same_id : block.block_id ≡ block'.block_id) (listed : IsSome (p.table block.block_id)) where
  abbrev naming : Ask
  naming = update_pipeline_ask client block block' nodes ids

  abbrev renamed : ℕ → BlockEntry
  renamed n = record { length = n; stamp = block'.generation_stamp; nodes = names_of nodes }

  name_left : (q r : Picture) (b : Answer) → SameButActive p q → Row q naming b r → Row p naming b r
  name_left q r answers.UpdatePipeline same row = record {
    same_id = row.same_id;
    entry = row.entry;
    is = sym (same.files.table block.block_id) ∙ row.is;
    changes = changes_left p q r _ _ _ _ same (names_same p q same) (ap (λ (t : ℕ → Option BlockEntry). with_block t block.block_id (renamed row.entry.length)) (table_same p q same)) row.changes;
  }
  name_left q r b same row = absurd row

  name_right : (q r : Picture) (b : Answer) → Row p naming b q → SameButActive q r → Row p naming b r
  name_right q r answers.UpdatePipeline row same = record { same_id = row.same_id; entry = row.entry; is = row.is; changes = changes_right p q r _ _ row.changes same }
  name_right q r b row same = absurd row

  block_twice : (b : Bool) (e : Option BlockEntry) (x : BlockEntry) → cond b (Some x) (cond b (Some x) e) ≡ cond b (Some x) e
  block_twice true e x = refl
  block_twice false e x = refl

  some_same : (e : Option BlockEntry) (x y : BlockEntry) → e ≡ Some x → e ≡ Some y → x ≡ y
  some_same e x y a b = cc (a, b)

  named_so : (q : Picture) (row : NamesPipeline block block' nodes p q) → q.table block.block_id ≡ Some (renamed row.entry.length)
  named_so q row = row.changes.table block.block_id ∙ here_id block.block_id (Some (renamed row.entry.length)) (p.table block.block_id)

  name_again : (q r : Picture) (a b : Answer) → Row p naming a q → Row q naming b r → Row p naming b r
  name_again q r answers.UpdatePipeline answers.UpdatePipeline one two =
      let long : two.entry.length ≡ one.entry.length = ap (λ (e : BlockEntry). e.length) (some_same (q.table block.block_id) two.entry (renamed one.entry.length) two.is (named_so q one)) in
      record {
        same_id = one.same_id;
        entry = one.entry;
        is = one.is;
        changes = changes_both p q r _ _ _ _ one.changes two.changes one.changes.names
            (λ id. ap (λ (n : ℕ). cond (block.block_id == id) (Some (renamed n)) (q.table id)) long
            ∙ ap (λ (e : Option BlockEntry). cond (block.block_id == id) (Some (renamed one.entry.length)) e) (one.changes.table id) ∙ block_twice (block.block_id == id) (p.table id) (renamed one.entry.length));
      }
  name_again q r answers.UpdatePipeline b one two = absurd two
  name_again q r a b one two = absurd one

  stays_listed : (q : Picture) (a : Answer) → Row p naming a q → IsSome (q.table block.block_id)
  stays_listed q answers.UpdatePipeline row = subst IsSome (sym (named_so q row)) refl
  stays_listed q a row = absurd row

  pub name_repeats : Repeats naming p
  name_repeats = record {
    left = name_left;
    twice = λ q r a b one two. inl (name_again q r a b one two);
    right = name_right;
    not_own = λ q done own. own (same_id, ⊎_elim (λ same. subst IsSome (sym (same.files.table block.block_id)) listed) (λ row. stays_listed q row.0 row.2) done);
  }

-- a block more, behind the last block of an open file
module _ (src client : List ℕ) (previous : Option Block) (excludes : List DatanodeInfo) (file_id : Option ℕ) (p : Picture) (file : FileEntry) (is : IsFileAt p src file) (still : file.is_open ≡ true) (ends : IsLast file.blocks previous)
    (never : (last : ℕ) → IsRetried p.table file.blocks previous last → ⊥) (known : (b : Block) → previous ≡ Some b → IsSome (p.table b.block_id)) where
  abbrev adding : Ask
  adding = add_block_ask src client previous excludes file_id

  same_file : (f g : FileEntry) (e : Option Entry) → e ≡ Some (entries.File f) → e ≡ Some (entries.File g) → f ≡ g
  same_file f g e a b = cc (a, b)

  abbrev retried_from : (t t' : ℕ → Option BlockEntry) (blocks : List ℕ) (last : ℕ) → ((id : ℕ) → t' id ≡ t id) → IsRetried t blocks previous last → IsRetried t' blocks previous last
  retried_from t t' blocks last same g = record { front = g.front; last = g.last; behind = g.behind; entry = g.entry; is = same last ∙ g.is; empty = g.empty }

  length_same : (q : Picture) → SameButActive p q → with_length q.table previous ≡ with_length p.table previous
  length_same q same = ap (λ (t : ℕ → Option BlockEntry). with_length t previous) (table_same p q same)

  adds_left : (f : FileEntry) (found : LocatedBlock) (q r : Picture) → SameButActive p q → AddsBlock src f previous excludes found q r → AddsBlock src f previous excludes found p r
  adds_left f found q r same (inl again) = inl (record {
    id = again.id;
    retried = retried_from q.table p.table f.blocks again.id (λ id. sym (same.files.table id)) again.retried;
    answered = again.answered;
    changes = changes_left p q r _ _ _ _ same (names_same p q same) (length_same q same) again.changes;
  })
  adds_left f found q r same (inr fresh) = inr (record {
    id = fresh.id;
    entry = fresh.entry;
    first = λ last retried. fresh.first last (retried_from p.table q.table f.blocks last same.files.table retried);
    fresh = record {
      absent = sym (same.files.table fresh.id) ∙ fresh.fresh.absent;
      empty = fresh.fresh.empty;
      some = fresh.fresh.some;
      few = fresh.fresh.few;
      apart = fresh.fresh.apart;
      bare = All-weaker (λ node. q.held node fresh.id ≡ []) (λ node. p.held node fresh.id ≡ []) (λ node none. sym (same.files.held node fresh.id) ∙ none) fresh.entry.nodes fresh.fresh.bare;
      others = fresh.fresh.others;
    };
    answered = fresh.answered;
    changes = changes_left p q r _ _ _ _ same (ap (λ (n : List ℕ → Option Entry). with_entry n src (record f { blocks = f.blocks ++ fresh.id ∷ [] })) (names_same p q same))
        (ap (λ (t : ℕ → Option BlockEntry). with_block t fresh.id fresh.entry) (length_same q same)) fresh.changes;
  })

  adds_right : (f : FileEntry) (found : LocatedBlock) (q r : Picture) → AddsBlock src f previous excludes found p q → SameButActive q r → AddsBlock src f previous excludes found p r
  adds_right f found q r (inl again) same = inl (record { id = again.id; retried = again.retried; answered = again.answered; changes = changes_right p q r _ _ again.changes same })
  adds_right f found q r (inr fresh) same = inr (record { id = fresh.id; entry = fresh.entry; first = fresh.first; fresh = fresh.fresh; answered = fresh.answered; changes = changes_right p q r _ _ fresh.changes same })

  omap_twice : (n : ℕ) (e : Option BlockEntry) → option_map (of_length n) (option_map (of_length n) e) ≡ option_map (of_length n) e
  omap_twice n None = refl
  omap_twice n (Some e) = refl

  length_behind : (t1 t2 : Bool) (n : ℕ) (e : Option BlockEntry) (x : BlockEntry) → (t1 ≡ true → t2 ≡ true → ⊥)
      → cond t1 (option_map (of_length n) (cond t2 (Some x) (cond t1 (option_map (of_length n) e) e))) (cond t2 (Some x) (cond t1 (option_map (of_length n) e) e)) ≡ cond t2 (Some x) (cond t1 (option_map (of_length n) e) e)
  length_behind true true n e x apart = absurd (apart refl refl)
  length_behind true false n e x apart = omap_twice n e
  length_behind false true n e x apart = refl
  length_behind false false n e x apart = refl

  equal_ids : (x y : ℕ) → (x == y) ≡ true → x ≡ y
  equal_ids x y h = grind (arith, nat_tests, h)

  -- the length of the block before a new one may be set again
  length_again : (t : ℕ → Option BlockEntry) (o : Option Block) (new : ℕ) (entry : BlockEntry) (id : ℕ) → ((b : Block) → o ≡ Some b → b.block_id ≢ new)
      → with_length (with_block (with_length t o) new entry) o id ≡ with_block (with_length t o) new entry id
  length_again t None new entry id apart = refl
  length_again t (Some b) new entry id apart = length_behind (b.block_id == id) (new == id) b.num_bytes (t id) entry (λ one two. apart b refl (equal_ids b.block_id id one ∙ sym (equal_ids new id two)))

  length_at : (t t' : ℕ → Option BlockEntry) (o : Option Block) (id : ℕ) → t' id ≡ t id → with_length t' o id ≡ with_length t o id
  length_at t t' None id same = same
  length_at t t' (Some block) id same = ap (λ (e : Option BlockEntry). cond (block.block_id == id) (option_map (of_length block.num_bytes) e) e) same

  entry_same : (e : Option BlockEntry) (x y : BlockEntry) → e ≡ Some x → e ≡ Some y → x ≡ y
  entry_same e x y a b = cc (a, b)

  module _ (found : LocatedBlock) (q : Picture) (fresh : AddsNew src file previous excludes found p q) where
    abbrev grown : FileEntry
    grown = record file { blocks = file.blocks ++ fresh.id ∷ [] }

    named_grown : q.names src ≡ Some (entries.File grown)
    named_grown = fresh.changes.names src ∙ here_text src (Some (entries.File grown)) (p.names src)

    listed_new : q.table fresh.id ≡ Some fresh.entry
    listed_new = fresh.changes.table fresh.id ∙ here_id fresh.id (Some fresh.entry) (with_length p.table previous fresh.id)

    retried_now : IsRetried q.table grown.blocks previous fresh.id
    retried_now = record { front = file.blocks; last = refl; behind = ends; entry = fresh.entry; is = listed_new; empty = fresh.fresh.empty }

    -- asked again, it is the block of the first effect
    gives_again : (found' : LocatedBlock) (r : Picture) → GivesAgain src grown previous found' q r → AddsBlock src file previous excludes found' p r
    gives_again found' r again =
        let id : again.id ≡ fresh.id = push_same again.retried.front file.blocks again.id fresh.id (sym again.retried.last) in
        let entry : again.retried.entry ≡ fresh.entry = entry_same (q.table again.id) again.retried.entry fresh.entry again.retried.is (ap q.table id ∙ listed_new) in
        inr (record {
          id = fresh.id;
          entry = fresh.entry;
          first = never;
          fresh = fresh.fresh;
          answered = subst (IsEntry found' fresh.id) entry (subst (λ (i : ℕ). IsEntry found' i again.retried.entry) id again.answered);
          changes = changes_both p q r _ _ _ _ fresh.changes again.changes fresh.changes.names
              (λ i. length_at (with_block (with_length p.table previous) fresh.id fresh.entry) q.table previous i (fresh.changes.table i)
              ∙ length_again p.table previous fresh.id fresh.entry i (λ b named same. some_not (p.table b.block_id) (known b named) (ap p.table same ∙ fresh.fresh.absent)));
        })
      where
        push_same : (xs ys : List ℕ) (x y : ℕ) → xs ++ x ∷ [] ≡ ys ++ y ∷ [] → x ≡ y
        push_same [] [] x y same = cc same
        push_same [] (b ∷ []) x y same = absurd (cc same)
        push_same [] (b ∷ c ∷ ys) x y same = absurd (cc same)
        push_same (a ∷ []) [] x y same = absurd (cc same)
        push_same (a ∷ c ∷ xs) [] x y same = absurd (cc same)
        push_same (a ∷ xs) (b ∷ ys) x y same = push_same xs ys x y (cc same)

    adds_again : (found' : LocatedBlock) (r : Picture) (g : FileEntry) → IsFileAt q src g → AddsBlock src g previous excludes found' q r → AddsBlock src file previous excludes found' p r
    adds_again found' r g at h = by (subst (λ (x : FileEntry). AddsBlock src x previous excludes found' q r) (same_file g grown (q.names src) at named_grown) h)
      where
        by : AddsBlock src grown previous excludes found' q r → AddsBlock src file previous excludes found' p r
        by (inl again) = gives_again found' r again
        by (inr other) = absurd (other.first fresh.id retried_now)

  adds_twice : (found found' : LocatedBlock) (q r : Picture) (g : FileEntry) → AddsBlock src file previous excludes found p q → IsFileAt q src g → AddsBlock src g previous excludes found' q r → AddsBlock src file previous excludes found' p r
  adds_twice found found' q r g (inl again) at h = absurd (never again.id again.retried)
  adds_twice found found' q r g (inr fresh) at h = adds_again found q fresh found' r g at h

  own_file : (f : FileEntry) (found : LocatedBlock) (q : Picture) → IsFileAt p src f → AddsBlock src f previous excludes found p q → AddsBlock src file previous excludes found p q
  own_file f found q at h = subst (λ (x : FileEntry). AddsBlock src x previous excludes found p q) (same_file f file (p.names src) at is) h

  add_left : (q r : Picture) (b : Answer) → SameButActive p q → Row q adding b r → Row p adding b r
  add_left q r (answers.AddBlock found) same row = (row.0, sym (same.files.names src) ∙ row.1, adds_left row.0 found q r same row.2)
  add_left q r b same row = absurd row

  add_right : (q r : Picture) (b : Answer) → Row p adding b q → SameButActive q r → Row p adding b r
  add_right q r (answers.AddBlock found) row same = (row.0, row.1, adds_right row.0 found q r row.2 same)
  add_right q r b row same = absurd row

  add_again : (q r : Picture) (a b : Answer) → Row p adding a q → Row q adding b r → Row p adding b r
  add_again q r (answers.AddBlock one) (answers.AddBlock two) first second = (file, is, adds_twice one two q r second.0 (own_file first.0 one q first.1 first.2) second.1 second.2)
  add_again q r (answers.AddBlock one) b first second = absurd second
  add_again q r a b first second = absurd first

  -- the file stands open still, and has the named block
  open_then : (q : Picture) (a : Answer) → Row p adding a q → (g : FileEntry) × IsFileAt q src g × (g.is_open ≡ true) × HasBlock g.blocks previous
  open_then q (answers.AddBlock found) row = by (own_file row.0 found q row.1 row.2)
    where
      by : AddsBlock src file previous excludes found p q → (g : FileEntry) × IsFileAt q src g × (g.is_open ≡ true) × HasBlock g.blocks previous
      by (inl again) = absurd (never again.id again.retried)
      by (inr fresh) = (grown found q fresh, named_grown found q fresh, still, has_more previous file.blocks fresh.id (has_last previous file.blocks ends))
  open_then q a row = absurd row

  pub add_repeats : Repeats adding p
  add_repeats = record {
    left = add_left;
    twice = λ q r a b one two. inl (add_again q r a b one two);
    right = add_right;
    not_own = λ q done own. ⊎_elim
        (λ same. own file (same.files.names src ∙ is) still (has_last previous file.blocks ends))
        (λ row. (let g = open_then q row.0 row.2 in own g.0 g.1 g.2 g.3))
        done;
  }

-- a greater stamp for a listed block
pub stamp_repeats : (block : Block) (client : List ℕ) (p : Picture) → IsSome (p.table block.block_id) → Repeats (asks.UpdateBlockForPipeline block client) p
stamp_repeats block client p listed = quiet_repeats (asks.UpdateBlockForPipeline block client) p quiet left right (λ q same own. some_not (q.table block.block_id) (subst IsSome (sym (same.files.table block.block_id)) listed) own)
  where
    quiet : (q r : Picture) (a : Answer) → Row q (asks.UpdateBlockForPipeline block client) a r → SameButActive q r
    quiet q r (answers.UpdateBlockForPipeline located) row = row.1
    quiet q r a row = absurd row

    left : (q r : Picture) (a : Answer) → SameButActive p q → Row q (asks.UpdateBlockForPipeline block client) a r → Row p (asks.UpdateBlockForPipeline block client) a r
    left q r (answers.UpdateBlockForPipeline located) same row =
        (record { entry = row.0.entry; is = sym (same.files.table block.block_id) ∙ row.0.is; same_id = row.0.same_id; greater = row.0.greater }, same_trans p q r same row.1)
    left q r a same row = absurd row

    right : (q r : Picture) (a : Answer) → Row p (asks.UpdateBlockForPipeline block client) a q → SameButActive q r → Row p (asks.UpdateBlockForPipeline block client) a r
    right q r (answers.UpdateBlockForPipeline located) row same = (row.0, same_trans p q r row.1 same)
    right q r a row same = absurd row

-- a datanode more for a block of an open file
pub datanode_repeats : (src : List ℕ) (block : Block) (existing excludes : List DatanodeInfo) (count : ℕ) (client : List ℕ) (ids : List (List ℕ)) (p : Picture) → IsBeingWritten p src block
    → Repeats (additional_datanode_ask src block existing excludes count client ids) p
datanode_repeats src block existing excludes count client ids p written = quiet_repeats (additional_datanode_ask src block existing excludes count client ids) p quiet left right (λ q same own. own (there p q (λ y. same.files.names y) written))
  where
    there : (p q : Picture) → ((y : List ℕ) → q.names y ≡ p.names y) → IsBeingWritten p src block → IsBeingWritten q src block
    there p q same w = record { file = w.file; named = same src ∙ w.named; is_open = w.is_open; has = w.has }

    quiet : (q r : Picture) (a : Answer) → Row q (additional_datanode_ask src block existing excludes count client ids) a r → SameButActive q r
    quiet q r (answers.GetAdditionalDatanode located) row = row.2
    quiet q r a row = absurd row

    left : (q r : Picture) (a : Answer) → SameButActive p q → Row q (additional_datanode_ask src block existing excludes count client ids) a r → Row p (additional_datanode_ask src block existing excludes count client ids) a r
    left q r (answers.GetAdditionalDatanode located) same row = (there q p (λ y. sym (same.files.names y)) row.0, row.1, same_trans p q r same row.2)
    left q r a same row = absurd row

    right : (q r : Picture) (a : Answer) → Row p (additional_datanode_ask src block existing excludes count client ids) a q → SameButActive q r → Row p (additional_datanode_ask src block existing excludes count client ids) a r
    right q r (answers.GetAdditionalDatanode located) row same = (row.0, row.1, same_trans p q r row.2 same)
    right q r a row same = absurd row

-- the blocks of a file that nobody writes
pub locations_repeats : (src : List ℕ) (offset length : ℕ) (p : Picture) → (kinds p src ≡ Some OpenFile → ⊥) → Repeats (asks.GetBlockLocations src offset length) p
locations_repeats src offset length p closed = quiet_repeats (asks.GetBlockLocations src offset length) p quiet left right (λ q same own. closed (ap (λ (k : List ℕ → Option Kind). k src) (kinds_same p q same) ∙ own))
  where
    quiet : (q r : Picture) (a : Answer) → Row q (asks.GetBlockLocations src offset length) a r → SameButActive q r
    quiet q r (answers.GetBlockLocations None) row = row.1
    quiet q r (answers.GetBlockLocations (Some found)) row = row.2
    quiet q r a row = absurd row

    there : (q : Picture) → SameButActive p q → no_file (kinds q) src ≡ None → no_file (kinds p) src ≡ None
    there q same allowed = ap (λ (k : List ℕ → Option Kind). no_file k src) (kinds_same p q same) ∙ allowed

    located : (q : Picture) (found : LocatedBlocks) → SameButActive p q → Locates q src found → Locates p src found
    located q found same h = record {
      allowed = there q same h.allowed;
      file = h.file;
      named = sym (same.files.names src) ∙ h.named;
      encryption = h.encryption;
      blocks = subst (λ (t : ℕ → Option BlockEntry). LocatesBlocks t 0 found.file_length h.file.blocks found.blocks) (table_same p q same) h.blocks;
    }

    left : (q r : Picture) (a : Answer) → SameButActive p q → Row q (asks.GetBlockLocations src offset length) a r → Row p (asks.GetBlockLocations src offset length) a r
    left q r (answers.GetBlockLocations None) same row = ((row.0.0, ap (λ (k : List ℕ → Option Kind). no_file k src) (kinds_same p q same) ∙ row.0.1), same_trans p q r same row.1)
    left q r (answers.GetBlockLocations (Some found)) same row = (there q same row.0, λ whole. located q found same (row.1 whole), same_trans p q r same row.2)
    left q r a same row = absurd row

    right : (q r : Picture) (a : Answer) → Row p (asks.GetBlockLocations src offset length) a q → SameButActive q r → Row p (asks.GetBlockLocations src offset length) a r
    right q r (answers.GetBlockLocations None) row same = (row.0, same_trans p q r row.1 same)
    right q r (answers.GetBlockLocations (Some found)) row same = (row.0, row.1, same_trans p q r row.2 same)
    right q r a row same = absurd row
