-- What is mounted: links and their places, and that each leads to a service that is there.
use Rattle.std.proofs.Common.{◌≡◌, ◌≢◌, ◌⊎◌, IsErrAnd, ◌<◌, ◌+◌, ◌==◌, not, ℕ, zero, suc, Bool, true, false, List, [], ◌∷◌, ◌++◌, length, drop, replicate, get_or, map, codes, Option, Some, Result, Ok, Err, IfOk, inl, inr, refl, sym, ◌∙◌, ap, subst, if◌then◌else◌}
use Rattle.std.specs.Prelude.{IfErr, bytes_eq}
use Rattle.std.proofs.lemmas.Bool.{cases_Bool, false≢true}
use Rattle.std.proofs.lemmas.Bool.Decides.{Decides-eqb}
use Rattle.std.proofs.lemmas.List.{drop_more, drop-map}
use Rattle.rand_core.specs.Stream.{Stream}
use Rattle.hdfs_names.specs.Mounts.{IsWithoutEnd}
use Rattle.hdfs_names.specs.declared.mounts.MountLink.{MountLink}
use Rattle.hdfs_client.specs.Mounting.{link_to, mount_all, mount_url, Mounted, put_before, service_by, without_end}
use Rattle.hdfs_client.specs.Services.{Draws, service_of}
use Rattle.hdfs_client.specs.declared.build_error.BuildError.{BuildError}
use Rattle.hdfs_client.specs.declared.build_error.BuildError.TheVariants.{NoMemory, Scheme}
use Rattle.hdfs_client.specs.declared.service_plan.ServicePlan.{ServicePlan}

-- ---- texts without slashes at their ends

all_slashes : (n : ℕ) → without_end (replicate n 47) ≡ []
all_slashes zero = refl
all_slashes (suc n) = ap (put_before 47) (all_slashes n)

-- a character that isn't a slash stays
stays : (c : ℕ) → (c ≢ 47) → put_before c [] ≡ c ∷ []
stays c other = elim (cases_Bool (c == 47)) [
  | inl same ↦ absurd (other ((Decides-eqb c 47).0 same))
  | inr apart ↦ ap (λ (b : Bool). if b then [] else c ∷ []) apart
]

kept : (cut : List ℕ) (n : ℕ) → ((start : List ℕ) → cut ≢ start ++ 47 ∷ []) → without_end (cut ++ replicate n 47) ≡ cut
kept [] n all = all_slashes n
kept (c ∷ []) n all = ap (put_before c) (all_slashes n) ∙ stays c (λ e. all [] (ap (λ (x : ℕ). x ∷ []) e))
kept (c ∷ d ∷ cut) n all = ap (put_before c) (kept (d ∷ cut) n (λ start e. all (c ∷ start) (ap (λ (l : List ℕ). c ∷ l) e)))

is_cut : (text cut : List ℕ) → IsWithoutEnd text cut → cut ≡ without_end text
is_cut text cut is = sym (kept cut is.slashes is.all) ∙ ap without_end (sym is.whole)

pub link_is : (link : MountLink) (viewfs_path path : List ℕ) (service : ℕ) → IsWithoutEnd viewfs_path link.viewfs_path → IsWithoutEnd path link.hdfs_path
    → link.service ≡ service → link ≡ link_to viewfs_path path service
link_is link viewfs_path path service viewfs hdfs numbered =
    ap (λ (text : List ℕ). record link { viewfs_path = text }) (is_cut viewfs_path link.viewfs_path viewfs)
    ∙ ap (λ (text : List ℕ). record { viewfs_path = without_end viewfs_path; hdfs_path = text; service = link.service }) (is_cut path link.hdfs_path hdfs)
    ∙ ap (λ (k : ℕ). link_to viewfs_path path k) numbered

pub link_if : {E : Type 0} (viewfs_path path : List ℕ) (service : ℕ) (result : Result MountLink E) → IfOk result (λ link. IsWithoutEnd viewfs_path link.viewfs_path)
    → IfOk result (λ link. IsWithoutEnd path link.hdfs_path) → IfOk result (λ link. link.service ≡ service)
    → IfOk result (λ link. link ≡ link_to viewfs_path path service)
link_if viewfs_path path service (Ok link) viewfs hdfs numbered = link_is link viewfs_path path service viewfs hdfs numbered
link_if viewfs_path path service (Err error) viewfs hdfs numbered = tt

-- ---- a service at a host

is_true : (b : Bool) → not b ≡ false → b ≡ true
is_true true e = refl
is_true false e = absurd (false≢true (sym e))

pub is_hdfs : (text scheme : List ℕ) (other : Bool) → other ≡ not (bytes_eq text (codes "hdfs")) → other ≡ false → text ≡ scheme → bytes_eq scheme (codes "hdfs") ≡ true
is_hdfs text scheme other is none same =
    ap (λ (t : List ℕ). bytes_eq t (codes "hdfs")) (sym same) ∙ is_true (bytes_eq text (codes "hdfs")) (sym is ∙ none)

pub at_host : (setting : List ℕ → Option (List ℕ)) (scheme : List ℕ) (o : Option (List ℕ)) (host name : List ℕ) (port : Option ℕ) (stream : Stream)
    (result : Result ServicePlan BuildError) (left : Stream) → o ≡ Some host → bytes_eq scheme (codes "hdfs") ≡ true → name ≡ host
    → Draws (service_of setting name port stream) result left → Draws (service_by setting scheme o port stream) result left
at_host setting scheme o host name port stream result left is hdfs same draws =
    subst (λ (x : Option (List ℕ)). Draws (service_by setting scheme x port stream) result left) (sym is)
    (subst (λ (b : Bool). Draws (if b then service_of setting host port stream else Err Scheme) result left) (sym hdfs)
    (subst (λ (x : List ℕ). Draws (service_of setting x port stream) result left) same draws))

-- ---- mounts, one behind another

module _ (setting : List ℕ → Option (List ℕ)) where
  pub refused : (mounts : List (Option (List ℕ) × List ℕ)) (error : BuildError) → mount_all setting mounts (Err error) ≡ Err error
  refused [] error = refl
  refused (mount ∷ mounts) error = refl

  module _ {X : Type 0} (f : X → Option (List ℕ) × List ℕ) (xs : List X) (i : ℕ) (x : X) (low : i < length xs) (is : x ≡ get_or xs i x) where
    front : drop i (map f xs) ≡ f x ∷ drop (i + 1) (map f xs)
    front =
        drop-map f i xs ∙ ap (map f) (drop_more xs i x low ∙ ap (λ (y : X). y ∷ drop (i + 1) xs) (sym is))
        ∙ ap (λ (l : List (Option (List ℕ) × List ℕ)). f x ∷ l) (sym (drop-map f (i + 1) xs))

    -- one that was mounted
    pub one_more : (mounted more : Mounted) (url : List ℕ) (stream left : Stream) → url ≡ (f x).1 → mount_url setting mounted (f x).0 url stream ≡ Ok (more, left)
        → mount_all setting (drop i (map f xs)) (Ok (mounted, stream)) ≡ mount_all setting (drop (i + 1) (map f xs)) (Ok (more, left))
    one_more mounted more url stream left same was =
        ap (λ (l : List (Option (List ℕ) × List ℕ)). mount_all setting l (Ok (mounted, stream))) front
        ∙ ap (mount_all setting (drop (i + 1) (map f xs))) (ap (λ (u : List ℕ). mount_url setting mounted (f x).0 u stream) (sym same) ∙ was)

    -- one that was refused
    pub not_one_more : (mounted : Mounted) (url : List ℕ) (stream : Stream) (error : BuildError) → url ≡ (f x).1 → mount_url setting mounted (f x).0 url stream ≡ Err error
        → mount_all setting (drop i (map f xs)) (Ok (mounted, stream)) ≡ Err error
    not_one_more mounted url stream error same was =
        ap (λ (l : List (Option (List ℕ) × List ℕ)). mount_all setting l (Ok (mounted, stream))) front
        ∙ ap (mount_all setting (drop (i + 1) (map f xs))) (ap (λ (u : List ℕ). mount_url setting mounted (f x).0 u stream) (sym same) ∙ was)
        ∙ refused (drop (i + 1) (map f xs)) error

-- the caller has the error
pub refused_if : {T U : Type 0} (all : Result T BuildError) (result : Result U BuildError) (error : BuildError) → IsErrAnd result (λ e. e ≡ error)
    → (all ≡ Err error) ⊎ (error ≡ NoMemory) → IfErr result (λ e. (all ≡ Err e) ⊎ (e ≡ NoMemory))
refused_if all (Ok value) error is why = tt
refused_if {T} all (Err e) error is why = subst (λ (x : BuildError). (all ≡ Err x) ⊎ (x ≡ NoMemory)) (sym is) why
