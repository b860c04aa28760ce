-- Connections that are kept for the next read, by the addresses of their datanodes.
use Rattle.std.specs.Prelude.{◌≡◌, ℕ, ◌+◌, nat_le, Bool, List, [], ◌∷◌, Option, Some, None, if◌then◌else◌}
use Rattle.std.specs.BTreeMap.{get_by_text}
use Rattle.std.specs.Option.{option_map_or}
use Rattle.hdfs_connections.specs.declared.connection_cache.ConnectionCache.{ConnectionCache}
use Rattle.hdfs_connections.specs.declared.connection_cache.Kept.{Kept}

-- the connections that are kept to an address, in the order of their release
abbrev pub kept_at : ConnectionCache → List ℕ → List Kept
kept_at cache address = option_map_or (λ kept. kept.items) (get_by_text cache.kept address) []

-- a connection is fresh up to 2,999 milliseconds behind its release
abbrev pub is_fresh : ℕ → Kept → Bool
is_fresh moment kept = nat_le moment (kept.moment + 2999)

-- the first connection that is fresh, and those released behind it
unfoldable pub fresh : ℕ → List Kept → List Kept
fresh moment [] = []
fresh moment (kept ∷ behind) = if is_fresh moment kept then kept ∷ behind else fresh moment behind

-- the first of these connections is given, where there is one, and the others stay
abbrev pub Takes : List Kept → Option ℕ → List Kept → Type 0
Takes [] link left = (link ≡ None) × (left ≡ [])
Takes (kept ∷ behind) link left = (link ≡ Some kept.link) × (left ≡ behind)
