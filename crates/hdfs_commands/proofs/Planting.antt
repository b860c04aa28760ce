-- Where nothing refuses a file to be created, it has its place.
use Rattle.std.proofs.Common.{◌≡◌, ◌≢◌, ◌⊎◌, Bool, true, false, cond, not, ◌&&◌, ℕ, List, Option, Some, None, is_none, refl, sym, ◌∙◌, ap}
use Rattle.std.proofs.lemmas.Bool.{false≢true}
use Rattle.std.specs.List.{Contains, list_any}
use Rattle.hdfs_cluster.specs.Files.{Kind, Directory, is_file, NotDirectory, Missing}
use Rattle.hdfs_names.specs.Paths.{ancestors, parent_of}
use Rattle.hdfs_cluster.specs.Refusals.{create_refusal, is_in_the_way, Exists, Lacks}
use Rattle.hdfs_model.proofs.Planted.{kind_clear, none_is_file}

refusal_by : (way above missing : Bool) → cond way (Some Exists) (cond above (Some (Lacks NotDirectory)) (cond missing (Some (Lacks Missing)) None)) ≡ None → (way ≡ false) × (above ≡ false)
refusal_by true above missing is = absurd (cc is)
refusal_by false true missing is = absurd (cc is)
refusal_by false false missing is = (refl, refl)

-- where nothing refuses a file to be created, no file stands above, and no directory at the path
pub nothing_refuses : (kinds : List ℕ → Option Kind) (path : List ℕ) (overwrite parents : Bool) → create_refusal kinds path overwrite parents ≡ None
    → ((a : List ℕ) → Contains (ancestors path) a → (kinds a ≡ None) ⊎ (kinds a ≡ Some Directory)) × (kinds path ≢ Some Directory)
nothing_refuses kinds path overwrite parents is =
    let h = refusal_by (is_in_the_way overwrite (kinds path)) (list_any (λ a. is_file (kinds a)) (ancestors path)) (not parents && is_none (kinds (parent_of path))) is in (
      λ a there. kind_clear (kinds a) (none_is_file kinds (ancestors path) a h.1 there),
      λ dir. false≢true (sym h.0 ∙ ap (is_in_the_way overwrite) dir),
    )
