-- What the settings say of a name service: its namenodes, and how they are asked.
use Rattle.std.specs.Prelude.{◌≡◌, ◌⊎◌, ℕ, Bool, true, false, ◌||◌, List, [], ◌∷◌, ◌++◌, map, codes, Option, Some, None, Result, Ok, Err, bytes_eq, if◌then◌else◌}
use Rattle.std.specs.Fmt.{decimal}
use Rattle.rand.specs.Shuffle.{shuffled}
use Rattle.rand_core.specs.Stream.{Stream}
use Rattle.hdfs_names.specs.Settings.{addresses, boolean, provider_key, random_key, resolve_key}
use Rattle.hdfs_names.specs.declared.mounts.NamenodeAddress.{NamenodeAddress}
use Rattle.hdfs_client.specs.declared.build_error.BuildError.{BuildError}
use Rattle.hdfs_client.specs.declared.build_error.BuildError.TheVariants.{NoMemory, NoNamenode, ResolveNeeded}
use Rattle.hdfs_client.specs.declared.service_plan.ServicePlan.{ServicePlan}

-- the provider that reads from observers, and so brings namenodes into step before
abbrev pub observer_provider : List ℕ
observer_provider = codes "org.apache.hadoop.hdfs.server.namenode.ha.ObserverReadProxyProvider"

-- the provider that brings them into step alone
abbrev pub router_provider : List ℕ
router_provider = codes "org.apache.hadoop.hdfs.server.namenode.ha.RouterObserverReadConfiguredFailoverProxyProvider"

-- reads go to an observer first
abbrev pub finds_observer : Option (List ℕ) → Bool
finds_observer None = false
finds_observer (Some provider) = bytes_eq provider observer_provider

-- namenodes are brought into step
abbrev pub is_aligned : Option (List ℕ) → Bool
is_aligned None = false
is_aligned (Some provider) = bytes_eq provider observer_provider || bytes_eq provider router_provider

-- an address of a service
abbrev pub address_in : Option (List ℕ) → List ℕ → NamenodeAddress
address_in service address = record { address = address; service = service }

-- these namenodes, asked as the provider says
abbrev pub planned : Option (List ℕ) → List NamenodeAddress → ServicePlan
planned provider namenodes = record { namenodes = namenodes; aligned = is_aligned provider; find_observer = finds_observer provider }

-- the addresses of a service in order, or shuffled by the generator where that is set
abbrev pub drawn : (List ℕ → Option (List ℕ)) → List ℕ → Stream → List (List ℕ) × Stream
drawn setting service stream =
    if boolean (setting (random_key service)) false then shuffled (addresses setting service) 0 stream else (addresses setting service, stream)

-- the namenodes of the service of this name
abbrev pub named_namenodes : (List ℕ → Option (List ℕ)) → List ℕ → Stream → Result (List NamenodeAddress × Stream) BuildError
named_namenodes setting host stream =
    if boolean (setting (resolve_key host)) false then Err ResolveNeeded
    else Ok (map (address_in (Some host)) (drawn setting host stream).0, (drawn setting host stream).1)

-- a URL with a port names one namenode, of no service; one without names a service
abbrev pub namenodes_at : (List ℕ → Option (List ℕ)) → List ℕ → Option ℕ → Stream → Result (List NamenodeAddress × Stream) BuildError
namenodes_at setting host (Some port) stream = Ok (address_in None (host ++ (codes ":" ++ decimal port)) ∷ [], stream)
namenodes_at setting host None stream = named_namenodes setting host stream

-- there is one
abbrev pub is_some_namenode : List NamenodeAddress → Bool
is_some_namenode [] = false
is_some_namenode (address ∷ addresses) = true

-- a service has a namenode
abbrev pub has_namenode : ServicePlan → Bool
has_namenode plan = is_some_namenode plan.namenodes

-- there has to be one
abbrev pub some_of : Option (List ℕ) → Result (List NamenodeAddress × Stream) BuildError → Result (ServicePlan × Stream) BuildError
some_of provider (Err error) = Err error
some_of provider (Ok ([], stream)) = Err NoNamenode
some_of provider (Ok (address ∷ addresses, stream)) = Ok (planned provider (address ∷ addresses), stream)

-- the service at a host, or the one namenode at its port
abbrev pub service_of : (List ℕ → Option (List ℕ)) → List ℕ → Option ℕ → Stream → Result (ServicePlan × Stream) BuildError
service_of setting host port stream = some_of (setting (provider_key host)) (namenodes_at setting host port stream)

-- the result is what it is to be, and so is what is left of the generator's stream; or there was no memory
abbrev pub Draws : {T : Type 0} → Result (T × Stream) BuildError → Result T BuildError → Stream → Type 0
Draws expected (Ok value) stream = expected ≡ Ok (value, stream)
Draws expected (Err error) stream = (expected ≡ Err error) ⊎ (error ≡ NoMemory)
