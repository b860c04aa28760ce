-- How a client is built: what its settings come to, check by check, and what is made of that.
use Rattle.std.specs.Prelude.{◌≡◌, ◌⊎◌, ◌+◌, ℕ, List, [], ◌∷◌, ◌++◌, map, length, codes, Option, Some, None, Result, Ok, Err, bytes_eq, if◌then◌else◌}
use Rattle.std.specs.Cmp.Lexicographic.{slice_cmp}
use Rattle.std.specs.List.Sorted.{IsStrictlySortedBy}
use Rattle.std.specs.Map.{keys_of, lookup}
use Rattle.std.specs.Ordering.{nat_cmp}
use Rattle.rand_core.specs.Stream.{Stream, fill_bytes}
use Rattle.hdfs_cluster.specs.Shown.{Shown}
use Rattle.hdfs_leases.specs.Leases.{IsIdle, last_of}
use Rattle.hdfs_names.specs.Configurations.{pair_text, setting}
use Rattle.hdfs_names.specs.Mounts.{IsWithoutEnd, home_prefix, home_root, is_absolute_or_empty}
use Rattle.hdfs_names.specs.Replacements.{replacement}
use Rattle.hdfs_names.specs.Settings.{last_value}
use Rattle.hdfs_names.specs.Shown.{shown}
use Rattle.hdfs_names.specs.declared.mounts.MountLink.{MountLink}
use Rattle.hdfs_names.specs.declared.mounts.MountTable.{MountTable}
use Rattle.hdfs_names.specs.declared.mounts.NamenodeAddress.{NamenodeAddress}
use Rattle.hdfs_names.specs.declared.settings.Configuration.{Configuration}
use Rattle.hdfs_namenode.specs.Asked.{IsNew}
use Rattle.hdfs_namenode.specs.Clients.{client_name, defaults_of, key_of, leases_of, name_of, proxy_of}
use Rattle.hdfs_namenode.specs.declared.protocol.NamenodeProtocol.{NamenodeProtocol}
use Rattle.hdfs_client.specs.Clients.{IsClientOf, KeepsNone, addresses_of, mounts_of, replacement_of, services_of}
use Rattle.hdfs_client.specs.Places.{and_then, place_at}
use Rattle.hdfs_client.specs.Mounting.{Mounted, mounts_at}
use Rattle.hdfs_client.specs.declared.build_error.BuildError.{BuildError}
use Rattle.hdfs_client.specs.declared.build_error.BuildError.TheVariants.{NoMemory, Home, Mounts}
use Rattle.hdfs_client.specs.declared.builder.ClientBuilder.{ClientBuilder}
use Rattle.hdfs_client.specs.declared.client.Client.{Client}
use Rattle.hdfs_client.specs.declared.places.Place.{Place}
use Rattle.hdfs_client.specs.declared.service_plan.ServicePlan.{ServicePlan}

-- what a client is built of: a URL, the values of settings, and a user
pub record Given : Type 0 where
  pub url : Option (List ℕ)
  pub setting : List ℕ → Option (List ℕ)
  pub user : List ℕ

-- the user, or `user` where none is given
abbrev pub user_or : Option (List ℕ) → List ℕ
user_or None = codes "user"
user_or (Some user) = user

-- what is given by pairs of settings, of which the last one with a key holds
abbrev pub given_from : Option (List ℕ) → List (List ℕ × List ℕ) → Option (List ℕ) → Given
given_from url pairs user = record { url = url; setting = last_value pairs; user = user_or user }

-- what a builder is given
abbrev pub given_of : ClientBuilder → Given
given_of builder = given_from builder.url (map pair_text builder.config.items) builder.user

-- what is given by settings as they are held
abbrev pub given_by : Option (List ℕ) → Configuration → List ℕ → Given
given_by url config user = record { url = url; setting = setting config; user = user }

-- the settings in the order of their keys, each key once, with its value
pub record AreEntries (setting : List ℕ → Option (List ℕ)) (entries : List (List ℕ × List ℕ)) : Type 0 where
  pub rising : IsStrictlySortedBy (slice_cmp nat_cmp) (keys_of entries)
  pub finds : (key : List ℕ) → setting key ≡ lookup (bytes_eq key) entries

-- the directory of home directories of a user, where paths lead, and the services to which they do
pub record Plan : Type 0 where
  pub root : List ℕ
  pub links : List MountLink
  pub fallback : MountLink
  pub services : List ServicePlan

-- what home directories begin with at a place
abbrev pub root_of : Given → Place → List ℕ
root_of given place = home_root (home_prefix given.setting place.scheme place.host)

-- what is mounted, with its fallback, which there has to be
abbrev pub whole : List ℕ → Mounted → Option MountLink → Stream → Result (Plan × Stream) BuildError
whole root mounted None stream = Err Mounts
whole root mounted (Some fallback) stream =
    Ok (record { root = root; links = mounted.links; fallback = fallback; services = mounted.services }, stream)

-- the mounts, below this directory of home directories
abbrev pub with_root : List ℕ → Result (Mounted × Stream) BuildError → Result (Plan × Stream) BuildError
with_root root (Ok (mounted, stream)) = whole root mounted mounted.fallback stream
with_root root (Err error) = Err error

-- the home directory is looked at before the scheme, the mounts and their services
abbrev pub plan_at : Given → List (List ℕ × List ℕ) → Stream → Place → Result (Plan × Stream) BuildError
plan_at given entries stream place =
    if is_absolute_or_empty (root_of given place) then with_root (root_of given place) (mounts_at given.setting entries stream place) else Err Home

-- the checks in their order, of which the first that fails gives the answer
abbrev pub plan_of : Given → List (List ℕ × List ℕ) → Stream → Result (Plan × Stream) BuildError
plan_of given entries stream = and_then (place_at given.url (given.setting (codes "fs.defaultFS"))) (plan_at given entries stream)

-- the home directory of a user: this directory without the slashes at its end, a slash, and the user
pub record IsHome (root user home : List ℕ) : Type 0 where
  pub dir : List ℕ
  pub cut : IsWithoutEnd root dir
  pub is : home ≡ dir ++ 47 ∷ user

-- A service of the planned namenodes, of which the first has this number, that is asked in the name of these bytes. It holds no lease, and
-- nothing was asked of it yet: no lease was renewed, and neither defaults nor a key are known.
pub record IsServiceBy (first : ℕ) (plan : ServicePlan) (id : List ℕ) (namenode : NamenodeProtocol) : Type 0 where
  pub new : IsNew first (length plan.namenodes) plan.aligned plan.find_observer (proxy_of namenode)
  pub name : name_of namenode ≡ client_name id
  pub idle : IsIdle (leases_of namenode)
  pub unrenewed : last_of (leases_of namenode) ≡ None
  pub unknown : defaults_of namenode ≡ None
  pub keyless : key_of namenode ≡ None

-- the services are as planned: the first one's namenodes begin at this number, and each other one's where those of the one before end
abbrev pub AreServices : ℕ → List ℕ → List ServicePlan → List NamenodeProtocol → Type 0
AreServices first id [] [] = Unit {0}
AreServices first id (plan ∷ plans) (namenode ∷ namenodes) =
    IsServiceBy first plan id namenode × AreServices (first + length plan.namenodes) id plans namenodes
AreServices first id plans namenodes = ⊥

-- the addresses of the services, one service's behind another's
abbrev pub all_namenodes : List ServicePlan → List NamenodeAddress
all_namenodes [] = []
all_namenodes (plan ∷ plans) = plan.namenodes ++ all_namenodes plans

-- A client of these mounts, with services as planned. Each of them is called by the next sixteen bytes of the generator. No connection is
-- kept yet.
pub record IsMade (setting : List ℕ → Option (List ℕ)) (mounts : MountTable) (plans : List ServicePlan) (stream stream' : Stream)
    (client : Client) : Type 0 where
  pub its_mounts : mounts_of client ≡ mounts
  pub services : AreServices 0 (fill_bytes 16 stream).0 plans (services_of client)
  pub addresses : addresses_of client ≡ all_namenodes plans
  pub replaces : shown (replacement_of client) ≡ replacement setting
  pub unconnected : KeepsNone client
  pub left : stream' ≡ (fill_bytes 16 stream).1

-- it may ask any cluster that has as many namenodes as it has addresses
abbrev pub AsksAny : Client → Type 0
AsksAny client = (shown : Shown) → shown.namenodes ≡ length (addresses_of client) → IsClientOf client shown

-- it is made as planned, with the home directory of the user
pub record IsBuilt (given : Given) (plan : Plan) (stream : Stream) (client : Client) (stream' : Stream) : Type 0 where
  pub home : List ℕ
  pub is_home : IsHome plan.root given.user home
  pub made : IsMade given.setting (record { mounts = plan.links; fallback = plan.fallback; home_dir = home }) plan.services stream stream' client

-- it is built by a plan
abbrev pub IsBuiltBy : Given → Result (Plan × Stream) BuildError → Client → Stream → Type 0
IsBuiltBy given (Ok (plan, stream)) client stream' = IsBuilt given plan stream client stream'
IsBuiltBy given (Err error) client stream' = ⊥

-- what a plan comes to: the client, or the error of the first check that fails; or there was no memory
abbrev pub Comes : Given → Result (Plan × Stream) BuildError → Result Client BuildError → Stream → Type 0
Comes given plan (Ok client) stream = IsBuiltBy given plan client stream
Comes given plan (Err error) stream = (plan ≡ Err error) ⊎ (error ≡ NoMemory)

-- where the URL is refused nothing is drawn from the generator
abbrev pub Undrawn : Given → Stream → Stream → Type 0
Undrawn given stream stream' =
    (error : BuildError) → place_at given.url (given.setting (codes "fs.defaultFS")) ≡ Err error → stream' ≡ stream

-- What comes of building: by the settings in the order of their keys, what their plan comes to.
pub record BuildsBy (given : Given) (stream : Stream) (result : Result Client BuildError) (stream' : Stream) : Type 0 where
  pub entries : List (List ℕ × List ℕ)
  pub are : AreEntries given.setting entries
  pub comes : Comes given (plan_of given entries stream) result stream'
  pub undrawn : Undrawn given stream stream'

-- the same; or there was no memory to begin with, and nothing was drawn
abbrev pub Builds : Given → Stream → Result Client BuildError → Stream → Type 0
Builds given stream result stream' = BuildsBy given stream result stream' ⊎ ((result ≡ Err NoMemory) × (stream' ≡ stream))
