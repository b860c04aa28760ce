-- The mounts that the settings of a cluster name, and the services to which they lead.
use Rattle.std.specs.Prelude.{◌≡◌, ◌==◌, ℕ, suc, nat_lt, true, IfSome, List, [], ◌∷◌, ◌++◌, length, filter, codes, Option, Some, None, Result, Ok, Err, bytes_eq, if◌then◌else◌}
use Rattle.std.specs.List.{filter_map, insert, list_all}
use Rattle.rand_core.specs.Stream.{Stream}
use Rattle.hdfs_names.specs.Paths.{is_slash}
use Rattle.hdfs_names.specs.Settings.{mount_of}
use Rattle.hdfs_names.specs.declared.mounts.MountLink.{MountLink}
use Rattle.hdfs_client.specs.Places.{and_then, read}
use Rattle.hdfs_client.specs.Linked.{is_linked}
use Rattle.hdfs_client.specs.Services.{has_namenode, service_of}
use Rattle.hdfs_client.specs.declared.build_error.BuildError.{BuildError}
use Rattle.hdfs_client.specs.declared.build_error.BuildError.TheVariants.{Host, Mounts, Scheme}
use Rattle.hdfs_client.specs.declared.mounting.Mounting.{Mounting}
use Rattle.hdfs_client.specs.declared.places.Place.{Place}
use Rattle.hdfs_client.specs.declared.service_plan.ServicePlan.{ServicePlan}

-- what is mounted: links, those with the most slashes first; the fallback, once it was named; and the services, by the numbers that these
-- have for them
pub record Mounted : Type 0 where
  pub links : List MountLink
  pub fallback : Option MountLink
  pub services : List ServicePlan

-- no mount, and no service
abbrev pub nothing : Mounted
nothing = record { links = []; fallback = None; services = [] }

-- what is held so
abbrev pub held_by : Mounting → Mounted
held_by mounting = record { links = mounting.links.items; fallback = mounting.fallback; services = mounting.services.items }

-- ---- a link, and its place

-- a character, and behind it a text that doesn't end in slashes
abbrev pub put_before : ℕ → List ℕ → List ℕ
put_before c [] = if c == 47 then [] else c ∷ []
put_before c (d ∷ text) = c ∷ d ∷ text

-- the text without the slashes at its end
abbrev pub without_end : List ℕ → List ℕ
without_end [] = []
without_end (c ∷ text) = put_before c (without_end text)

-- a link between two paths, without the slashes at their ends, to the service of this number
abbrev pub link_to : List ℕ → List ℕ → ℕ → MountLink
link_to viewfs_path path service = record { viewfs_path = without_end viewfs_path; hdfs_path = without_end path; service = service }

-- how many slashes a text has
abbrev pub slashes_in : List ℕ → ℕ
slashes_in text = length (filter is_slash text)

-- the place of a path with so many slashes: behind the links whose paths have as many or more
abbrev pub place_in : ℕ → List MountLink → ℕ
place_in slashes [] = 0
place_in slashes (link ∷ links) = if nat_lt (slashes_in link.viewfs_path) slashes then 0 else suc (place_in slashes links)

-- the links with one more at its place
abbrev pub with_link : MountLink → List MountLink → List MountLink
with_link link links = insert links (place_in (slashes_in link.viewfs_path) links) link

-- ---- one mount more

-- the fallback, where there is none yet
abbrev pub or_fallback : MountLink → Option MountLink → Result (Option MountLink) BuildError
or_fallback link None = Ok (Some link)
or_fallback link (Some other) = Err Mounts

-- with this fallback, and this service more
abbrev pub with_fallback : Mounted → ServicePlan → Result (Option MountLink) BuildError → Result Mounted BuildError
with_fallback mounted service (Ok fallback) = Ok (record { links = mounted.links; fallback = fallback; services = mounted.services ++ service ∷ [] })
with_fallback mounted service (Err error) = Err error

-- a link, where there is a path for it, and else the fallback, to a service that has the next number
abbrev pub put : Mounted → Option (List ℕ) → List ℕ → ServicePlan → Result Mounted BuildError
put mounted (Some viewfs_path) path service = Ok (record {
  links = with_link (link_to viewfs_path path (length mounted.services)) mounted.links;
  fallback = mounted.fallback;
  services = mounted.services ++ service ∷ [];
})
put mounted None path service =
    with_fallback mounted service (or_fallback (link_to (codes "/") path (length mounted.services)) mounted.fallback)

-- the same of the service that was found, if there is one
abbrev pub put_found : Mounted → Option (List ℕ) → List ℕ → Result (ServicePlan × Stream) BuildError → Result (Mounted × Stream) BuildError
put_found mounted viewfs_path path (Ok (service, stream)) = and_then (put mounted viewfs_path path service) (λ more. Ok (more, stream))
put_found mounted viewfs_path path (Err error) = Err error

-- the service at a place, which needs a host, and the scheme `hdfs`
abbrev pub service_by : (List ℕ → Option (List ℕ)) → List ℕ → Option (List ℕ) → Option ℕ → Stream → Result (ServicePlan × Stream) BuildError
service_by setting scheme None port stream = Err Host
service_by setting scheme (Some host) port stream = if bytes_eq scheme (codes "hdfs") then service_of setting host port stream else Err Scheme

-- a mount to a path of the service at a place
abbrev pub mount_at : (List ℕ → Option (List ℕ)) → Mounted → Option (List ℕ) → List ℕ → Stream → Place → Result (Mounted × Stream) BuildError
mount_at setting mounted viewfs_path path stream place =
    put_found mounted viewfs_path path (service_by setting place.scheme place.host place.port stream)

-- a mount to a URL
abbrev pub mount_url : (List ℕ → Option (List ℕ)) → Mounted → Option (List ℕ) → List ℕ → Stream → Result (Mounted × Stream) BuildError
mount_url setting mounted viewfs_path url stream = and_then (read url) (λ place. mount_at setting mounted viewfs_path place.path stream place)

-- ---- all mounts of a client

-- these mounts in their order, behind what was mounted; the first that is refused gives the answer
abbrev pub mount_all : (List ℕ → Option (List ℕ)) → List (Option (List ℕ) × List ℕ) → Result (Mounted × Stream) BuildError
    → Result (Mounted × Stream) BuildError
mount_all setting [] mounted = mounted
mount_all setting (mount ∷ mounts) (Ok (mounted, stream)) = mount_all setting mounts (mount_url setting mounted mount.0 mount.1 stream)
mount_all setting (mount ∷ mounts) (Err error) = Err error

-- the mounts of a cluster, which its settings name, in the order of their keys
abbrev pub mounts_of : (List ℕ → Option (List ℕ)) → List (List ℕ × List ℕ) → Option (List ℕ) → Stream → Result (Mounted × Stream) BuildError
mounts_of setting entries None stream = Err Host
mounts_of setting entries (Some host) stream = mount_all setting (filter_map (mount_of host) entries) (Ok (nothing, stream))

-- the mounts of a client: those of a cluster, where the scheme is `viewfs`; else all paths are those of the one service
abbrev pub mounts_at : (List ℕ → Option (List ℕ)) → List (List ℕ × List ℕ) → Stream → Place → Result (Mounted × Stream) BuildError
mounts_at setting entries stream place =
    if bytes_eq place.scheme (codes "viewfs")
    then mounts_of setting entries place.host stream
    else mount_at setting nothing None (codes "/") stream place

-- What is mounted leads to services that are there, each of which has a namenode. The fallback matches each path.
pub record IsSound (mounted : Mounted) : Type 0 where
  pub linked : list_all (is_linked (length mounted.services)) mounted.links ≡ true
  pub fallen : IfSome mounted.fallback (λ link. (link.viewfs_path ≡ []) × (is_linked (length mounted.services) link ≡ true))
  pub some : list_all has_namenode mounted.services ≡ true
