-- What a script's settings leave of a store.
use Rattle.std.proofs.Common.{◌≡◌, ℕ, ◌<◌, Bool, true, false, List, [], ◌∷◌, take, drop, Option, Some, None, if◌then◌else◌, refl, sym, ◌∙◌, ap, subst, arith}
use Rattle.std.proofs.lemmas.Bool.{false≢true}
use Rattle.std.proofs.lemmas.List.Elements.{All-weaker}
use Rattle.hdfs_cluster.specs.declared.mem_settings.MemSettings.{MemSettings}
use Rattle.hdfs_cluster.specs.declared.picture.BlockEntry.{BlockEntry}
use Rattle.hdfs_cluster.specs.declared.picture.Entry.{Entry}
use Rattle.hdfs_cluster.specs.declared.picture.Entry.TheVariants as entries
use Rattle.hdfs_cluster.specs.Counts.{SameCounts}
use Rattle.hdfs_cluster.specs.Files.{Files, Content, Node, Dir, File, Writing, State, only_root}
use Rattle.hdfs_cluster.specs.Loading.{AreLoaded, AreValid, Prepares, PreparesAt}
use Rattle.hdfs_names.specs.Paths as paths
use Rattle.hdfs_cluster.specs.Picture.{Picture, Told}
use Rattle.std.specs.Str.{bytes_eq}
use Rattle.hdfs_cluster.specs.Fitting.{Fits}
use Rattle.hdfs_model.specs.Sessions.{defaults_of}
use Rattle.hdfs_cluster.specs.Shown.{Shown}
use Rattle.hdfs_cluster.specs.Stores.{Agrees, AgreesAt, HoldsPrefix, StoresBlock, StoresBlocks}
use Rattle.hdfs_script.specs.declared.entry.ScriptSettings.{ScriptSettings}
use Rattle.hdfs_script.specs.Scripts.{defaults_in}
use Rattle.hdfs_top.specs.Inside.{IsBare, Readies}

module _ (settings : MemSettings) (p q : Picture) (same : PreparesAt settings p q) where
  stores_block : (id : ℕ) (entry : BlockEntry) (bytes : List ℕ) → StoresBlock p id entry bytes → StoresBlock q id entry bytes
  stores_block id entry bytes h = record {
    length = h.length;
    prefixes = All-weaker (HoldsPrefix (λ node. p.held node id) bytes) (HoldsPrefix (λ node. q.held node id) bytes) (λ node was. subst (λ (l : List ℕ). HoldsPrefix (λ _. l) bytes node) (sym (same.held node id)) was) entry.nodes h.prefixes;
    whole = (h.whole.0, h.whole.1, h.whole.2, h.whole.3, same.held h.whole.1 id ∙ h.whole.4);
  }

  stores_blocks : (ids bytes : List ℕ) → StoresBlocks p ids bytes → StoresBlocks q ids bytes
  stores_blocks [] bytes h = h
  stores_blocks (id ∷ ids) bytes h = (h.0, same.table id ∙ h.1, h.2, stores_block id h.0 (take h.0.length bytes) h.3, stores_blocks ids (drop h.0.length bytes) h.4)

  agrees_at : (entry : Option Entry) (node : Option Node) → AgreesAt p entry node → AgreesAt q entry node
  agrees_at None None h = h
  agrees_at (Some entries.Dir) (Some Dir) h = h
  agrees_at (Some (entries.File file)) (Some (File content)) h = (h.0, h.1, stores_blocks file.blocks content.bytes h.2)
  agrees_at (Some (entries.File file)) (Some (Writing content)) h = h
  agrees_at None (Some node) h = absurd h
  agrees_at (Some entry) None h = absurd h
  agrees_at (Some entries.Dir) (Some (File content)) h = absurd h
  agrees_at (Some entries.Dir) (Some (Writing content)) h = absurd h
  agrees_at (Some (entries.File file)) (Some Dir) h = absurd h

agrees_ready : (settings : MemSettings) (a b : Option Picture) (files : Files) → Told (PreparesAt settings) a b → Agrees a files → Agrees b files
agrees_ready settings (Some p) (Some q) files same h = λ path. subst (λ (entry : Option Entry). AgreesAt q entry (files path)) (sym (same.names path)) (agrees_at settings p q same (p.names path) (files path) (h path))
agrees_ready settings None b files same h = absurd h
agrees_ready settings (Some p) None files same h = absurd same

-- the files stay
pub readies_fits : (fresh : Bool) (old : Shown) (settings : MemSettings) (new : Shown) → Readies fresh old settings new → (state : State) → Fits old state → Fits new state
readies_fits true old settings new ready state fits = record { is_state = fits.is_state; agrees = agrees_ready settings old.picture new.picture state.files ready.picture fits.agrees }
readies_fits false old settings new same state fits = subst (λ (s : Shown). Fits s state) (sym same) fits

-- a picture that has the root alone has no file
no_file : (o : Option Picture) (files : Files) → Agrees o only_root → Agrees o files → (path : List ℕ) (content : Content) → files path ≡ Some (File content) → ⊥
no_file None files root h path content is = absurd h
no_file (Some p) files root h path content is = at (p.names path) (bytes_eq paths.root path) (files path) (root path) (h path) is
  where
    at : (entry : Option Entry) (b : Bool) (node : Option Node) → AgreesAt p entry (if b then Some Dir else None) → AgreesAt p entry node → node ≡ Some (File content) → ⊥
    at None b None root h is = cc (is)
    at None b (Some node) root h is = h
    at (Some entry) b None root h is = h
    at (Some entries.Dir) b (Some Dir) root h is = cc (is)
    at (Some entries.Dir) b (Some (File other)) root h is = h
    at (Some entries.Dir) b (Some (Writing other)) root h is = cc (is)
    at (Some (entries.File file)) true _ root h is = root
    at (Some (entries.File file)) false _ root h is = root

-- a fresh store that fits a state tells its picture
told_picture : (o : Option Picture) (files : Files) → Agrees o files → (p : Picture) × (o ≡ Some p)
told_picture None files h = absurd h
told_picture (Some p) files h = (p, refl)

-- so it has no line
pub bare_lines : (old : Shown) → IsBare old → (state : State) → Fits old state → old.loaded.lines ≡ []
bare_lines old bare state fits =
    let told = told_picture old.picture state.files fits.agrees in (bare told.0 told.1).0

-- and no file, so that its files lie as they were loaded
pub ready_loaded : (old : Shown) (settings : MemSettings) (new : Shown) → Prepares old settings new → IsBare old → (state : State) → Fits old state → AreLoaded new state.files
ready_loaded old settings new ready bare state fits p is path content there =
    let told = told_picture old.picture state.files fits.agrees in
    let root : Agrees old.picture only_root = subst (λ (o : Option Picture). Agrees o only_root) (sym told.1) (bare told.0 told.1).1 in
    absurd (no_file old.picture state.files root fits.agrees path content there)

-- no count rises
pub readies_counts : (fresh : Bool) (old : Shown) (settings : MemSettings) (new : Shown) → Readies fresh old settings new → SameCounts old.counts new.counts
readies_counts true old settings new ready = ready.counts
readies_counts false old settings new same = subst (λ (s : Shown). SameCounts old.counts s.counts) (sym same) (record { asks = λ i. refl; calls = λ i. refl; links = refl; nodes = λ d. refl })

-- there is still a namenode
pub readies_some : (fresh : Bool) (old : Shown) (settings : MemSettings) (new : Shown) → Readies fresh old settings new → AreValid settings → 0 < old.namenodes → 0 < new.namenodes
readies_some true old settings new ready valid some = omega (arith, ready.namenodes, valid.active)
readies_some false old settings new same valid some = omega (arith, ap (λ (s : Shown). s.namenodes) same, some)

-- nothing was loaded
pub readies_lines : (fresh : Bool) (old : Shown) (settings : MemSettings) (new : Shown) → Readies fresh old settings new → new.loaded.lines ≡ old.loaded.lines
readies_lines true old settings new ready = ap (λ l. l.lines) ready.loaded
readies_lines false old settings new same = ap (λ (s : Shown). s.loaded.lines) same

-- a fresh store has the settings
pub readies_settings : (fresh : Bool) (old : Shown) (settings : MemSettings) (new : Shown) → Readies fresh old settings new → fresh ≡ true → new.loaded.settings ≡ Some settings
readies_settings true old settings new ready is = ap (λ l. l.settings) ready.loaded
readies_settings false old settings new same is = absurd (false≢true is)

told_defaults : (settings : MemSettings) (a b : Option Picture) (files : Files) → Told (PreparesAt settings) a b → Agrees a files → defaults_of b ≡ settings.defaults
told_defaults settings (Some p) (Some q) files same h = same.defaults
told_defaults settings None b files same h = absurd h
told_defaults settings (Some p) None files same h = absurd same

-- the defaults are those of the script, or of a store that isn't fresh
pub readies_defaults : (fresh : Bool) (old : Shown) (given : ScriptSettings) (new : Shown) → Readies fresh old given.cluster new → (state : State) → Fits old state → defaults_of new.picture ≡ defaults_in fresh old given
readies_defaults true old given new ready state fits = told_defaults given.cluster old.picture new.picture state.files ready.picture fits.agrees
readies_defaults false old given new same state fits = ap (λ (s : Shown). defaults_of s.picture) same
