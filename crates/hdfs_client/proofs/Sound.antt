-- What is mounted is sound: each link leads to a service that is there, the fallback matches each path, and each service has a namenode.
use Rattle.std.proofs.Common.{◌≡◌, ◌≤◌, ◌+◌, ◌&&◌, ℕ, zero, suc, Bool, true, false, List, [], ◌∷◌, ◌++◌, length, take, drop, codes, Option, Some, None, Result, Ok, Err, refl, sym, ◌∙◌, subst, arith, length-append, if◌then◌else◌}
use Rattle.std.specs.Prelude.{IfSome, bytes_eq, nat_lt}
use Rattle.std.specs.List.{filter_map, list_all}
use Rattle.std.proofs.lemmas.Bool.Decides.{Decides-ltb}
use Rattle.std.proofs.lemmas.List.Folds.{list_all-append}
use Rattle.rand_core.specs.Stream.{Stream}
use Rattle.hdfs_names.specs.Settings.{mount_of, provider_key}
use Rattle.hdfs_names.specs.declared.mounts.MountLink.{MountLink}
use Rattle.hdfs_names.specs.declared.mounts.NamenodeAddress.{NamenodeAddress}
use Rattle.hdfs_client.specs.Linked.{is_linked}
use Rattle.hdfs_client.specs.Mounting.{IsSound, Mounted, link_to, mount_all, mount_at, mount_url, mounts_at, mounts_of, nothing, or_fallback, place_in, put, put_found, service_by, slashes_in, with_fallback}
use Rattle.hdfs_client.specs.Places.{and_then, read}
use Rattle.hdfs_client.specs.Services.{has_namenode, namenodes_at, service_of, some_of}
use Rattle.hdfs_client.specs.declared.build_error.BuildError.{BuildError}
use Rattle.hdfs_client.specs.declared.build_error.BuildError.TheVariants.{Scheme}
use Rattle.hdfs_client.specs.declared.places.Place.{Place}
use Rattle.hdfs_client.specs.declared.service_plan.ServicePlan.{ServicePlan}

-- ---- links that lead to services

both : (a b : Bool) → a ≡ true → b ≡ true → (a && b) ≡ true
both true b x y = y
both false b x y = x

parts : (a b : Bool) → (a && b) ≡ true → (a ≡ true) × (b ≡ true)
parts true b is = (refl, is)
parts false b is = absurd (cc is)

-- among more services too
up : (k n m : ℕ) → n ≤ m → nat_lt k n ≡ true → nat_lt k m ≡ true
up k n m le is =
    let low = (Decides-ltb k n).0 is in
    (Decides-ltb k m).1 (omega arith)

all_up : (n m : ℕ) (links : List MountLink) → n ≤ m → list_all (is_linked n) links ≡ true → list_all (is_linked m) links ≡ true
all_up n m [] le all = refl
all_up n m (link ∷ links) le all =
    let two = parts (is_linked n link) (list_all (is_linked n) links) all in
    both (is_linked m link) (list_all (is_linked m) links) (up link.service n m le two.0) (all_up n m links le two.1)

fallen_up : (n m : ℕ) (fallback : Option MountLink) → n ≤ m → IfSome fallback (λ link. (link.viewfs_path ≡ []) × (is_linked n link ≡ true))
    → IfSome fallback (λ link. (link.viewfs_path ≡ []) × (is_linked m link ≡ true))
fallen_up n m None le is = tt
fallen_up n m (Some link) le is = (is.0, up link.service n m le is.1)

all_insert : {X : Type 0} (p : X → Bool) (xs : List X) (i : ℕ) (x : X) → p x ≡ true → list_all p xs ≡ true → list_all p (take i xs ++ x ∷ drop i xs) ≡ true
all_insert p xs zero x is all = both (p x) (list_all p xs) is all
all_insert p [] (suc i) x is all = both (p x) true is refl
all_insert p (y ∷ ys) (suc i) x is all =
    let two = parts (p y) (list_all p ys) all in
    both (p y) (list_all p (take i ys ++ x ∷ drop i ys)) two.0 (all_insert p ys i x is two.1)

all_push : {X : Type 0} (p : X → Bool) (xs : List X) (x : X) → p x ≡ true → list_all p xs ≡ true → list_all p (xs ++ x ∷ []) ≡ true
all_push p xs x is all = list_all-append p xs (x ∷ []) ∙ both (list_all p xs) (p x && true) all (both (p x) true is refl)

-- ---- one mount more

abbrev SoundIf : Result Mounted BuildError → Type 0
SoundIf (Ok mounted) = IsSound mounted
SoundIf (Err error) = Unit {0}

abbrev SoundWith : Result (Mounted × Stream) BuildError → Type 0
SoundWith (Ok (mounted, stream)) = IsSound mounted
SoundWith (Err error) = Unit {0}

abbrev SomeOf : Result (ServicePlan × Stream) BuildError → Type 0
SomeOf (Ok (service, stream)) = has_namenode service ≡ true
SomeOf (Err error) = Unit {0}

module _ (mounted : Mounted) (sound : IsSound mounted) (path : List ℕ) (service : ServicePlan) (has : has_namenode service ≡ true) where
  number : ℕ
  number = length mounted.services

  more : length (mounted.services ++ service ∷ []) ≡ length mounted.services + 1
  more = length-append mounted.services (service ∷ [])

  -- among one more
  among : (links : List MountLink) (fallback : Option MountLink) → list_all (is_linked (length mounted.services + 1)) links ≡ true
      → IfSome fallback (λ link. (link.viewfs_path ≡ []) × (is_linked (length mounted.services + 1) link ≡ true))
      → IsSound (record { links = links; fallback = fallback; services = mounted.services ++ service ∷ [] })
  among links fallback all fallen = record {
    linked = subst (λ (n : ℕ). list_all (is_linked n) links ≡ true) (sym more) all;
    fallen = subst (λ (n : ℕ). IfSome fallback (λ link. (link.viewfs_path ≡ []) × (is_linked n link ≡ true))) (sym more) fallen;
    some = all_push has_namenode mounted.services service has sound.some;
  }

  next : nat_lt (length mounted.services) (length mounted.services + 1) ≡ true
  next = (Decides-ltb (length mounted.services) (length mounted.services + 1)).1 (omega arith)

  or_sound : (fallback : Option MountLink) → SoundIf (with_fallback mounted service (or_fallback (link_to (codes "/") path (length mounted.services)) fallback))
  or_sound (Some other) = tt
  or_sound None =
      among mounted.links (Some (link_to (codes "/") path (length mounted.services)))
      (all_up (length mounted.services) (length mounted.services + 1) mounted.links (omega arith) sound.linked) (refl, next)

  put_sound : (viewfs_path : Option (List ℕ)) → SoundIf (put mounted viewfs_path path service)
  put_sound (Some viewfs_path) =
      let link = link_to viewfs_path path (length mounted.services) in
      among (take (place_in (slashes_in link.viewfs_path) mounted.links) mounted.links ++ link ∷ drop (place_in (slashes_in link.viewfs_path) mounted.links) mounted.links)
      mounted.fallback
      (all_insert (is_linked (length mounted.services + 1)) mounted.links (place_in (slashes_in link.viewfs_path) mounted.links) link next
      (all_up (length mounted.services) (length mounted.services + 1) mounted.links (omega arith) sound.linked))
      (fallen_up (length mounted.services) (length mounted.services + 1) mounted.fallback (omega arith) sound.fallen)
  put_sound None = or_sound mounted.fallback

with_stream : (stream : Stream) (result : Result Mounted BuildError) → SoundIf result → SoundWith (and_then result (λ more. Ok (more, stream)))
with_stream stream (Ok mounted) sound = sound
with_stream stream (Err error) sound = tt

found_sound : (mounted : Mounted) → IsSound mounted → (viewfs_path : Option (List ℕ)) (path : List ℕ) (found : Result (ServicePlan × Stream) BuildError) → SomeOf found
    → SoundWith (put_found mounted viewfs_path path found)
found_sound mounted sound viewfs_path path (Ok (service, stream)) has =
    with_stream stream (put mounted viewfs_path path service) (put_sound mounted sound path service has viewfs_path)
found_sound mounted sound viewfs_path path (Err error) has = tt

-- ---- services have a namenode

some_some : (provider : Option (List ℕ)) (found : Result (List NamenodeAddress × Stream) BuildError) → SomeOf (some_of provider found)
some_some provider (Err error) = tt
some_some provider (Ok ([], stream)) = tt
some_some provider (Ok (address ∷ addresses, stream)) = refl

if_some : (b : Bool) (found : Result (ServicePlan × Stream) BuildError) → SomeOf found → SomeOf (if b then found else Err Scheme)
if_some true found some = some
if_some false found some = tt

module _ (setting : List ℕ → Option (List ℕ)) where
  some_by : (scheme : List ℕ) (host : Option (List ℕ)) (port : Option ℕ) (stream : Stream) → SomeOf (service_by setting scheme host port stream)
  some_by scheme None port stream = tt
  some_by scheme (Some host) port stream =
      if_some (bytes_eq scheme (codes "hdfs")) (service_of setting host port stream) (some_some (setting (provider_key host)) (namenodes_at setting host port stream))

  -- ---- all mounts

  at_sound : (mounted : Mounted) → IsSound mounted → (viewfs_path : Option (List ℕ)) (path : List ℕ) (stream : Stream) (place : Place)
      → SoundWith (mount_at setting mounted viewfs_path path stream place)
  at_sound mounted sound viewfs_path path stream place =
      found_sound mounted sound viewfs_path path (service_by setting place.scheme place.host place.port stream) (some_by place.scheme place.host place.port stream)

  url_sound : (mounted : Mounted) → IsSound mounted → (viewfs_path : Option (List ℕ)) (stream : Stream) (place : Result Place BuildError)
      → SoundWith (and_then place (λ place. mount_at setting mounted viewfs_path place.path stream place))
  url_sound mounted sound viewfs_path stream (Ok place) = at_sound mounted sound viewfs_path place.path stream place
  url_sound mounted sound viewfs_path stream (Err error) = tt

  all_sound : (mounts : List (Option (List ℕ) × List ℕ)) (mounted : Result (Mounted × Stream) BuildError) → SoundWith mounted → SoundWith (mount_all setting mounts mounted)
  all_sound [] mounted sound = sound
  all_sound (mount ∷ mounts) (Ok (mounted, stream)) sound =
      all_sound mounts (mount_url setting mounted mount.0 mount.1 stream) (url_sound mounted sound mount.0 stream (read mount.1))
  all_sound (mount ∷ mounts) (Err error) sound = tt

  nothing_sound : IsSound nothing
  nothing_sound = record { linked = refl; fallen = tt; some = refl }

  of_sound : (entries : List (List ℕ × List ℕ)) (host : Option (List ℕ)) (stream : Stream) → SoundWith (mounts_of setting entries host stream)
  of_sound entries None stream = tt
  of_sound entries (Some host) stream = all_sound (filter_map (mount_of host) entries) (Ok (nothing, stream)) nothing_sound

  either : (b : Bool) (first second : Result (Mounted × Stream) BuildError) → SoundWith first → SoundWith second → SoundWith (if b then first else second)
  either true first second one two = one
  either false first second one two = two

  pub mounts_sound : (entries : List (List ℕ × List ℕ)) (stream left : Stream) (place : Place) (mounted : Mounted)
      → mounts_at setting entries stream place ≡ Ok (mounted, left) → IsSound mounted
  mounts_sound entries stream left place mounted is =
      subst SoundWith is (either (bytes_eq place.scheme (codes "viewfs")) (mounts_of setting entries place.host stream)
      (mount_at setting nothing None (codes "/") stream place) (of_sound entries place.host stream) (at_sound nothing nothing_sound None (codes "/") stream place))
