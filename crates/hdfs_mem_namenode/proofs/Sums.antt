-- What changes of a namespace do to the totals that it keeps.
use Rattle.std.proofs.Common.{◌≡◌, ℕ, zero, suc, ◌+◌, ◌<◌, ◌^◌, Bool, true, false, cond, eqb, ltb, List, [], ◌∷◌, Option, Some, None, is_some, unwrap_or, String, refl, sym, ◌∙◌, ap, arith}
use Rattle.std.proofs.lemmas.Bool.{false≢true, eqb-true, eq-eqb}
use Rattle.std.proofs.lemmas.Bool.Decides.{nat_tests}
use Rattle.std.proofs.lemmas.Slice.Eq.{bytes_eq-Decides}
use Rattle.std.specs.List.{list_any}
use Rattle.std.specs.Option.{option_map}
use Rattle.std.specs.Str.{bytes_eq}
use Rattle.hdfs_cluster.specs.declared.messages.Block.{Block}
use Rattle.hdfs_cluster.specs.declared.picture.BlockEntry.{BlockEntry}
use Rattle.hdfs_cluster.specs.declared.picture.Entry.{Entry}
use Rattle.hdfs_cluster.specs.declared.picture.Entry.TheVariants as entries
use Rattle.hdfs_cluster.specs.declared.picture.FileEntry.{FileEntry}
use Rattle.hdfs_cluster.specs.Effects.{blocks_at, of_length, with_entry, with_length}
use Rattle.hdfs_cluster.specs.Listing.{plus_length, total}
use Rattle.hdfs_names.specs.Paths.{root, ancestors}
use Rattle.hdfs_cluster.specs.Refusals.{with_parents}
use Rattle.hdfs_mem_namenode.specs.Adding.{CanTake, HasNamed, Keeps, Names, with_directories}
use Rattle.hdfs_mem_namenode.specs.Memory.{is_bare, is_kth, is_kth_at, is_length, is_sized}
use Rattle.hdfs_mem_namenode.specs.Soundness.{kth_test, kth_parts, total_first}
use Rattle.hdfs_mem_namenode.specs.Totals.{is_counted, is_total, with_total}
use Rattle.hdfs_mem_namenode.proofs.Apart.{no_kth}
use Rattle.hdfs_mem_namenode.proofs.FileChanges.{apart_own, kth_contained, total_alike}
use Rattle.hdfs_mem_namenode.proofs.Naming.{Sound, look, bare_names}
use Rattle.hdfs_mem_namenode.proofs.NewFiles.{kth_first, kth_later, total_same}
use Rattle.hdfs_mem_namenode.proofs.Sizing.{total_kept}

-- a total that is kept is the sum
pub total_kept_is : (sums kept : Option ℕ) → is_total sums kept ≡ true → (n : ℕ) × (sums ≡ Some n) × (kept ≡ Some n)
total_kept_is None kept is = absurd (false≢true is)
total_kept_is (Some sum) None is = absurd (false≢true is)
total_kept_is (Some sum) (Some kept) is = (sum, refl, ap Some (sym (eqb-true sum kept is)))

-- a sum that is kept passes the test
pub total_test : (sums kept : Option ℕ) (n : ℕ) → sums ≡ Some n → kept ≡ Some n → is_total sums kept ≡ true
total_test sums kept n is same = ap (λ (o : Option ℕ). is_total o kept) is ∙ ap (is_total (Some n)) same ∙ eq-eqb n n refl

-- what is counted stays so where the table has the same of its blocks
pub counted_same : (t t' : ℕ → Option BlockEntry) (o : Option Entry) (kept : Option ℕ) → ((k id : ℕ) → is_kth (blocks_at o) k id ≡ true → t' id ≡ t id) → is_counted t o kept ≡ true → is_counted t' o kept ≡ true
counted_same t t' None kept same is = refl
counted_same t t' (Some entries.Dir) kept same is = refl
counted_same t t' (Some (entries.File file)) kept same is = ap (λ (sums : Option ℕ). is_total sums kept) (total_same t t' file.blocks same) ∙ is

-- it stays so where all blocks stay
pub counted_kept : (t t' : ℕ → Option BlockEntry) → Keeps t t' → (o : Option Entry) (kept : Option ℕ) → is_counted t o kept ≡ true → is_counted t' o kept ≡ true
counted_kept t t' stays None kept is = refl
counted_kept t t' stays (Some entries.Dir) kept is = refl
counted_kept t t' stays (Some (entries.File file)) kept is =
    let was = total_kept_is (total t file.blocks) kept is in
    total_test (total t' file.blocks) kept was.0 (total_kept t t' stays file.blocks was.0 was.1) was.2

-- it stays so where all lengths stay
pub counted_alike : (t t' : ℕ → Option BlockEntry) → ((b : ℕ) → option_map (λ e. e.length) (t' b) ≡ option_map (λ e. e.length) (t b)) → (o : Option Entry) (kept : Option ℕ) → is_counted t o kept ≡ true → is_counted t' o kept ≡ true
counted_alike t t' same None kept is = refl
counted_alike t t' same (Some entries.Dir) kept is = refl
counted_alike t t' same (Some (entries.File file)) kept is = ap (λ (sums : Option ℕ). is_total sums kept) (total_alike t t' same file.blocks) ∙ is

-- where a file stands its total is kept
pub kept_at : (names : List ℕ → Option Entry) (table : ℕ → Option BlockEntry) (totals : List ℕ → Option ℕ) → ((q : List ℕ) → is_counted table (names q) (totals q) ≡ true)
    → (path : List ℕ) (file : FileEntry) → names path ≡ Some (entries.File file) → (n : ℕ) × (total table file.blocks ≡ Some n) × (totals path ≡ Some n)
kept_at names table totals counted path file is =
    total_kept_is (total table file.blocks) (totals path) (sym (ap (λ (o : Option Entry). is_counted table o (totals path)) is) ∙ counted path)

-- so there is room for it
pub room_at : (names : List ℕ → Option Entry) (table : ℕ → Option BlockEntry) (totals : List ℕ → Option ℕ) → ((q : List ℕ) → is_counted table (names q) (totals q) ≡ true)
    → (path : List ℕ) (file : FileEntry) → names path ≡ Some (entries.File file) → is_some (totals path) ≡ true
room_at names table totals counted path file is = ap is_some (kept_at names table totals counted path file is).2

-- other paths differ
pub differ : (path q : List ℕ) → (path ≡ q → ⊥) → bytes_eq path q ≡ false
differ path q apart = by_test (bytes_eq path q) (bytes_eq-Decides path q).0
  where
    by_test : (b : Bool) → (b ≡ true → path ≡ q) → b ≡ false
    by_test true same = absurd (apart (same refl))
    by_test false same = refl

-- the total at a path is set, and the others stay
module _ (totals totals' : List ℕ → Option ℕ) (path : List ℕ) (sum : ℕ) (now : (q : List ℕ) → totals' q ≡ with_total totals path sum q) where
  pub set_here : totals' path ≡ Some sum
  set_here = now path ∙ ap (λ (b : Bool). cond b (Some sum) (totals path)) ((bytes_eq-Decides path path).1 refl)

  pub set_there : (q : List ℕ) → (path ≡ q → ⊥) → totals' q ≡ totals q
  set_there q apart = now q ∙ ap (λ (b : Bool). cond b (Some sum) (totals q)) (differ path q apart)

module _ (names : List ℕ → Option Entry) (table : ℕ → Option BlockEntry) (totals totals' : List ℕ → Option ℕ) (counted : (q : List ℕ) → is_counted table (names q) (totals q) ≡ true) where
  room_cases : (o : Option Entry) (kept kept' : Option ℕ) → (is_some kept ≡ true → kept' ≡ kept) → is_counted table o kept ≡ true → is_counted table o kept' ≡ true
  room_cases None kept kept' same is = refl
  room_cases (Some entries.Dir) kept kept' same is = refl
  room_cases (Some (entries.File file)) kept kept' same is =
      let was = total_kept_is (total table file.blocks) kept is in
      ap (is_total (total table file.blocks)) (same (ap is_some was.2)) ∙ is

  -- room for a total leaves those that are kept
  pub counted_room : ((q : List ℕ) → is_some (totals q) ≡ true → totals' q ≡ totals q) → (q : List ℕ) → is_counted table (names q) (totals' q) ≡ true
  counted_room same q = room_cases (names q) (totals q) (totals' q) (same q) (counted q)

  -- what is kept for a path at which nothing stands doesn't matter
  pub counted_absent : (path : List ℕ) → names path ≡ None → ((q : List ℕ) → (path ≡ q → ⊥) → totals' q ≡ totals q) → (q : List ℕ) → is_counted table (names q) (totals' q) ≡ true
  counted_absent path absent others q = by_test (bytes_eq path q) (bytes_eq-Decides path q).0 (bytes_eq-Decides path q).1
    where
      by_test : (b : Bool) → (b ≡ true → path ≡ q) → (path ≡ q → b ≡ true) → is_counted table (names q) (totals' q) ≡ true
      by_test true same there = ap (λ (o : Option Entry). is_counted table o (totals' q)) (sym (ap names (same refl)) ∙ absent)
      by_test false same there = ap (is_counted table (names q)) (others q (λ equal. false≢true (there equal))) ∙ counted q

-- something is put at a path with its total
pub counted_with : (names names' : List ℕ → Option Entry) (table : ℕ → Option BlockEntry) (totals : List ℕ → Option ℕ) (path : List ℕ) (entry : Entry) → Names names names' path entry
    → is_counted table (Some entry) (totals path) ≡ true → ((q : List ℕ) → is_counted table (names q) (totals q) ≡ true) → (q : List ℕ) → is_counted table (names' q) (totals q) ≡ true
counted_with names names' table totals path entry now here counted q = ap (λ (o : Option Entry). is_counted table o (totals q)) (now q) ∙ by_test (bytes_eq path q) (bytes_eq-Decides path q).0
  where
    by_test : (b : Bool) → (b ≡ true → path ≡ q) → is_counted table (cond b (Some entry) (names q)) (totals q) ≡ true
    by_test true same = ap (λ (p : List ℕ). is_counted table (Some entry) (totals p)) (sym (same refl)) ∙ here
    by_test false same = counted q

-- the root alone has no total
pub counted_bare : {A : Type 0} (es : List (String A × Entry)) (table : ℕ → Option BlockEntry) (totals : List ℕ → Option ℕ) → is_bare es ≡ true → (q : List ℕ) → is_counted table (look es q) (totals q) ≡ true
counted_bare es table totals bare q = ap (λ (o : Option Entry). is_counted table o (totals q)) (bare_names es bare q) ∙ by_test (bytes_eq root q)
  where
    by_test : (b : Bool) → is_counted table (cond b (Some entries.Dir) None) (totals q) ≡ true
    by_test true = refl
    by_test false = refl

-- a file has other blocks, or blocks of other lengths, and its total is set
module _ (names : List ℕ → Option Entry) (table table' : ℕ → Option BlockEntry) (totals totals' : List ℕ → Option ℕ) (path : List ℕ) (file' : FileEntry)
    (counted : (q : List ℕ) → is_counted table (names q) (totals q) ≡ true)
    (others : (q : List ℕ) (k id : ℕ) → (path ≡ q → ⊥) → is_kth_at names q k id ≡ true → table' id ≡ table id)
    (sum : ℕ) (sums : total table' file'.blocks ≡ Some sum) (here : totals' path ≡ Some sum) (there : (q : List ℕ) → (path ≡ q → ⊥) → totals' q ≡ totals q) where
  file_counted : (q : List ℕ) → path ≡ q → is_counted table' (Some (entries.File file')) (totals' q) ≡ true
  file_counted q same = total_test (total table' file'.blocks) (totals' q) sum sums (ap totals' (sym same) ∙ here)

  other_counted : (q : List ℕ) → (path ≡ q → ⊥) → is_counted table' (names q) (totals' q) ≡ true
  other_counted q apart = counted_same table table' (names q) (totals' q) (λ k id is. others q k id apart is) (ap (is_counted table (names q)) (there q apart) ∙ counted q)

  pub counted_changed : (q : List ℕ) → is_counted table' (with_entry names path file' q) (totals' q) ≡ true
  counted_changed q = by_test (bytes_eq path q) (bytes_eq-Decides path q).0 (bytes_eq-Decides path q).1
    where
      by_test : (b : Bool) → (b ≡ true → path ≡ q) → (path ≡ q → b ≡ true) → is_counted table' (cond b (Some (entries.File file')) (names q)) (totals' q) ≡ true
      by_test true same equal = file_counted q (same refl)
      by_test false same equal = other_counted q (λ is. false≢true (equal is))

  dir_counted : (a : Bool) (o : Option Entry) (kept : Option ℕ) → is_counted table' o kept ≡ true → is_counted table' (cond a (Some (unwrap_or o entries.Dir)) o) kept ≡ true
  dir_counted true None kept is = refl
  dir_counted true (Some entry) kept is = is
  dir_counted false o kept is = is

  -- the same, with directories that are made above it
  pub counted_put : (q : List ℕ) → is_counted table' (with_parents names entries.Dir path (entries.File file') q) (totals' q) ≡ true
  counted_put q = by_test (bytes_eq path q) (bytes_eq-Decides path q).0 (bytes_eq-Decides path q).1
    where
      by_test : (b : Bool) → (b ≡ true → path ≡ q) → (path ≡ q → b ≡ true) → is_counted table' (cond b (Some (entries.File file')) (with_directories names entries.Dir path q)) (totals' q) ≡ true
      by_test true same equal = file_counted q (same refl)
      by_test false same equal = dir_counted (list_any (bytes_eq q) (ancestors path)) (names q) (totals' q) (other_counted q (λ is. false≢true (equal is)))

-- the sum of blocks, each at one place, of which one gets another length
pub total_exchanged : (table : ℕ → Option BlockEntry) (block : Block) (ids : List ℕ) (k t : ℕ) (entry : BlockEntry) → is_kth ids k block.block_id ≡ true
    → ((k n id : ℕ) → is_kth ids k id ≡ true → is_kth ids n id ≡ true → k ≡ n) → table block.block_id ≡ Some entry → total table ids ≡ Some t
    → (n : ℕ) × (total (with_length table (Some block)) ids ≡ Some n) × (n + entry.length ≡ t + block.num_bytes)
total_exchanged table block [] k t entry here distinct is sums = absurd (no_kth k block.block_id here)
total_exchanged table block (first ∷ ids) zero t entry here distinct is sums =
    let same : first ≡ block.block_id = (kth_parts (first ∷ ids) 0 block.block_id here).1 in
    let parts = total_first (table first) (total table ids) t sums in
    let found : table first ≡ Some entry = ap table same ∙ is in
    let lengths : parts.0.length ≡ entry.length = same_length parts.0 (sym parts.1 ∙ found) in
    let own : with_length table (Some block) first ≡ Some (of_length block.num_bytes entry) =
    ap (λ (b : Bool). cond b (option_map (of_length block.num_bytes) (table first)) (table first)) (eq-eqb block.block_id first (sym same)) ∙ ap (option_map (of_length block.num_bytes)) found in
    let rest = total_same table (with_length table (Some block)) ids (λ n id there. other same n id there) ∙ parts.3 in
    (block.num_bytes + parts.2, ap (λ (o : Option BlockEntry). plus_length o (total (with_length table (Some block)) ids)) own ∙ ap (plus_length (Some (of_length block.num_bytes entry))) rest, omega (arith, parts.4, lengths))
  where
    same_length : (e : BlockEntry) → Some e ≡ Some entry → e.length ≡ entry.length
    same_length e equal = cc (equal)

    other : first ≡ block.block_id → (n id : ℕ) → is_kth ids n id ≡ true → with_length table (Some block) id ≡ table id
    other same n id there = by_test (eqb block.block_id id) (eqb-true block.block_id id)
      where
        by_test : (b : Bool) → (b ≡ true → block.block_id ≡ id) → cond b (option_map (of_length block.num_bytes) (table id)) (table id) ≡ table id
        by_test true equal =
            let place : 0 ≡ suc n = distinct 0 (suc n) id (ap (λ (f : ℕ). is_kth (f ∷ ids) 0 id) same ∙ ap (λ (b : ℕ). is_kth (block.block_id ∷ ids) 0 b) (sym (equal refl)) ∙ kth_first block.block_id ids) (kth_later first ids n id there) in
            absurd (omega (arith, place))
        by_test false equal = refl
total_exchanged table block (first ∷ ids) (suc k) t entry here distinct is sums =
    let at = kth_parts (first ∷ ids) (suc k) block.block_id here in
    let inner = kth_test ids k block.block_id (omega (arith, at.0)) at.1 in
    let parts = total_first (table first) (total table ids) t sums in
    let rest = total_exchanged table block ids k parts.2 entry inner
    (λ n m id a b. (let places : suc n ≡ suc m = distinct (suc n) (suc m) id (kth_later first ids n id a) (kth_later first ids m id b) in omega (arith, places))) is parts.3 in
    let own : with_length table (Some block) first ≡ Some parts.0 = other (eqb block.block_id first) (eqb-true block.block_id first) ∙ parts.1 in
    (parts.0.length + rest.0, ap (λ (o : Option BlockEntry). plus_length o (total (with_length table (Some block)) ids)) own ∙ ap (plus_length (Some parts.0)) rest.1, omega (arith, parts.4, rest.2))
  where
    other : (b : Bool) → (b ≡ true → block.block_id ≡ first) → cond b (option_map (of_length block.num_bytes) (table first)) (table first) ≡ table first
    other true equal =
        let place : 0 ≡ suc k = distinct 0 (suc k) block.block_id (ap (λ (f : ℕ). is_kth (f ∷ ids) 0 block.block_id) (sym (equal refl)) ∙ kth_first block.block_id ids) here in
        absurd (omega (arith, place))
    other false equal = refl

-- what a file can take, whose total is kept
module _ (names : List ℕ → Option Entry) (table : ℕ → Option BlockEntry) (totals : List ℕ → Option ℕ) (sound : Sound names table) (counted : (q : List ℕ) → is_counted table (names q) (totals q) ≡ true)
    (path : List ℕ) (sum : ℕ) (kept : totals path ≡ Some sum) where
  sums_at : (file : FileEntry) → names path ≡ Some (entries.File file) → total table file.blocks ≡ Some sum
  sums_at file is = let was = kept_at names table totals counted path file is in was.1 ∙ sym was.2 ∙ kept

  -- no block is named
  pub takes_none : HasNamed names path None → CanTake names table path None sum
  takes_none has =
      let same = total_same table (with_length table None) has.file.blocks (λ k id here. refl) in
      record {
        file = has.file;
        is = has.is;
        has = tt;
        sums = same ∙ sums_at has.file has.is;
        sized = ap is_length same ∙ sym (ap (is_sized table) has.is) ∙ sound.sized path;
      }

  -- one of its blocks is named
  pub takes_named : (block : Block) → HasNamed names path (Some block) → (entry : BlockEntry) → table block.block_id ≡ Some entry
      → (n : ℕ) → n + entry.length ≡ sum + block.num_bytes → n < 2 ^ 63 → CanTake names table path (Some block) n
  takes_named block has entry is n exchanged below =
      let at = kth_contained has.file.blocks block.block_id has.has in
      let now = total_exchanged table block has.file.blocks at.0 sum entry at.1 (apart_own names table table path has.file has.file sound has.is) is (sums_at has.file has.is) in
      let same : now.0 ≡ n = omega (arith, now.2, exchanged) in
      let test : ltb n (2 ^ 63) ≡ true = grind (arith, nat_tests) in
      record {
        file = has.file;
        is = has.is;
        has = has.has;
        sums = now.1 ∙ ap Some same;
        sized = ap is_length (now.1 ∙ ap Some same) ∙ test;
      }
