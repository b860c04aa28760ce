-- What a client is built by: the settings are held by their last values, in the order of their keys.
use Rattle.std.proofs.Common.{◌≡◌, ℕ, List, Option, Some, None, Result, Ok, Err, Bor, codes, inl, inr, refl, ◌∙◌, ap, subst}
use Rattle.std.specs.Option.{option_copied, option_map}
use Rattle.rand_core.specs.Stream.{Stream}
use Rattle.std.proofs.Math.Path.{fun_ext}
use Rattle.hdfs_names.specs.Configurations.{IsTable, entries_of, setting}
use Rattle.hdfs_names.specs.declared.settings.Configuration.{Configuration}
use Rattle.hdfs_client.specs.Building.{Builds, BuildsBy, Comes, Undrawn, given_by, plan_at, plan_of}
use Rattle.hdfs_client.specs.Places.{Answers, and_then, place_at}
use Rattle.hdfs_client.specs.declared.client.Client.{Client}
use Rattle.hdfs_client.specs.declared.places.Place.{Place}
use Rattle.hdfs_client.specs.declared.build_error.BuildError.{BuildError}

-- settings that have the same values are the same
pub by_values : (url : Option (List ℕ)) (config : Configuration) (setting' : List ℕ → Option (List ℕ)) (user : List ℕ) (stream : Stream) (result : Result Client BuildError)
    (left : Stream) → ((key : List ℕ) → setting config key ≡ setting' key) → IsTable config
    → Comes (given_by url config user) (plan_of (given_by url config user) (entries_of config) stream) result left
    → Undrawn (given_by url config user) stream left → Builds (record { url = url; setting = setting'; user = user }) stream result left
by_values url config setting' user stream result left same table comes undrawn =
    inl (subst (λ (s : List ℕ → Option (List ℕ)). BuildsBy (record { url = url; setting = s; user = user }) stream result left) (fun_ext same)
    (record { entries = entries_of config; are = record { rising = table.rising; finds = table.finds }; comes = comes; undrawn = undrawn }))

copied_is : (o : Option (Bor (List ℕ))) → option_copied o ≡ option_map (λ x. x.now) o
copied_is None = refl
copied_is (Some text) = refl

-- where a client begins is the place of the given URL or of the default one
pub at_place : (url url' : Option (List ℕ)) (o : Option (Bor (List ℕ))) (config : Configuration) (user named : List ℕ) (stream left : Stream) (place : Place)
    (result : Result Client BuildError) → url' ≡ url → option_map (λ x. x.now) o ≡ setting config (codes "fs.defaultFS") → named ≡ user
    → Answers (place_at url' (option_copied o)) (Ok place)
    → Comes (given_by url config named) (plan_at (given_by url config named) (entries_of config) stream place) result left
    → Comes (given_by url config user) (plan_of (given_by url config user) (entries_of config) stream) result left
at_place url url' o config user named stream left place result same set called (inr none) comes = absurd (cc none)
at_place url url' o config user named stream left place result same set called (inl is) comes =
    let found : Ok place ≡ place_at url (setting config (codes "fs.defaultFS")) =
    is ∙ ap (λ (u : Option (List ℕ)). place_at u (option_copied o)) same ∙ ap (place_at url) (copied_is o ∙ set) in
    subst (λ (p : Result Place BuildError). Comes (given_by url config user) (and_then p (plan_at (given_by url config user) (entries_of config) stream)) result left) found
    (subst (λ (u : List ℕ). Comes (given_by url config u) (plan_at (given_by url config u) (entries_of config) stream place) result left) called comes)

-- where a place was found the URL wasn't refused
pub drawn_at : (url url' : Option (List ℕ)) (o : Option (Bor (List ℕ))) (config : Configuration) (user : List ℕ) (stream left : Stream) (place : Place)
    → url' ≡ url → option_map (λ x. x.now) o ≡ setting config (codes "fs.defaultFS") → Answers (place_at url' (option_copied o)) (Ok place)
    → Undrawn (given_by url config user) stream left
drawn_at url url' o config user stream left place same set (inr none) error refused = absurd (cc none)
drawn_at url url' o config user stream left place same set (inl is) error refused =
    let found : Ok place ≡ place_at url (setting config (codes "fs.defaultFS")) =
    is ∙ ap (λ (u : Option (List ℕ)). place_at u (option_copied o)) same ∙ ap (place_at url) (copied_is o ∙ set) in
    let wrong : Ok place ≡ Err error = found ∙ refused in
    absurd (cc wrong)
