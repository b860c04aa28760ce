-- Mounts: which name service a path belongs to, and what it is called there.
use Rattle.std.specs.Prelude.{◌≡◌, ◌≢◌, ℕ, suc, Bool, true, ◌==◌, List, [], ◌∷◌, ◌++◌, length, drop, replicate, Option, Some, None, if◌then◌else◌, codes, nat_eq}
use Rattle.std.specs.List.{starts_with}
use Rattle.std.specs.Str.{bytes_eq}
use Rattle.hdfs_names.specs.declared.mounts.MountLink.{MountLink}
use Rattle.hdfs_names.specs.declared.mounts.Resolved.{Resolved}
use Rattle.hdfs_names.specs.Settings.{mount_home_key}

-- cut is the text without the slashes at its end
pub record IsWithoutEnd (text cut : List ℕ) : Type 0 where
  pub slashes : ℕ
  pub whole : text ≡ cut ++ replicate slashes 47
  pub all : (start : List ℕ) → cut ≢ start ++ 47 ∷ []

-- what a path is called behind a link: a path that is the link's own, or begins with it and a slash
abbrev pub resolved : List ℕ → List ℕ → List ℕ → Option (List ℕ)
resolved viewfs hdfs path =
    if bytes_eq path viewfs then Some hdfs
    else if starts_with nat_eq path (viewfs ++ 47 ∷ []) then Some (hdfs ++ drop (length viewfs) path)
    else None

-- the answer of this link, where it matches, and else the other
abbrev pub answer_or : ℕ → ℕ → Option (List ℕ) → Option Resolved → Option Resolved
answer_or link service (Some path) other = Some (record { link = link; service = service; path = path })
answer_or link service None other = other

-- the first of the links that matches, of which the first has this number; else the fallback
unfoldable pub first_match : MountLink → ℕ → List MountLink → List ℕ → Option Resolved
first_match fallback number [] path = answer_or number fallback.service (resolved fallback.viewfs_path fallback.hdfs_path path) None
first_match fallback number (link ∷ links) path =
    answer_or number link.service (resolved link.viewfs_path link.hdfs_path path) (first_match fallback (suc number) links path)

-- the setting that names the directory of home directories
abbrev pub home_prefix : (List ℕ → Option (List ℕ)) → List ℕ → Option (List ℕ) → Option (List ℕ)
home_prefix setting scheme None = if bytes_eq scheme (codes "hdfs") then setting (codes "dfs.user.home.dir.prefix") else None
home_prefix setting scheme (Some host) =
    if bytes_eq scheme (codes "hdfs") then setting (codes "dfs.user.home.dir.prefix")
    else if bytes_eq scheme (codes "viewfs") then setting (mount_home_key host)
    else None

-- the directory of home directories, `/user` where no setting names one
abbrev pub home_root : Option (List ℕ) → List ℕ
home_root None = codes "/user"
home_root (Some prefix) = prefix

-- the text is empty or begins with a slash
abbrev pub is_absolute_or_empty : List ℕ → Bool
is_absolute_or_empty [] = true
is_absolute_or_empty (c ∷ text) = c == 47
