-- Where a client begins: the URL that it is given, or the default one.
use Rattle.std.specs.Prelude.{◌≡◌, ◌⊎◌, ℕ, Bool, true, ◌&&◌, List, Option, Some, None, is_some, option_map, Result, Ok, Err, bytes_eq, if◌then◌else◌}
use Rattle.url.specs.Host.{host_text}
use Rattle.url.specs.Parser.{parse_url}
use Rattle.url.specs.Parts.{Parts, nonempty_host}
use Rattle.url.specs.declared.error.ParseError.{ParseError}
use Rattle.hdfs_client.specs.declared.build_error.BuildError.{BuildError}
use Rattle.hdfs_client.specs.declared.build_error.BuildError.TheVariants.{NoMemory, UrlParse, NoDefaultFs, Host}
use Rattle.hdfs_client.specs.declared.places.Place.{Place}

-- the next step, unless this one is refused
abbrev pub and_then : {T U : Type 0} → Result T BuildError → (T → Result U BuildError) → Result U BuildError
and_then (Ok value) next = next value
and_then (Err error) next = Err error

-- the result is what it is to be, or there was no memory
abbrev pub Answers : {T : Type 0} → Result T BuildError → Result T BuildError → Type 0
Answers expected result = (result ≡ expected) ⊎ (result ≡ Err NoMemory)

-- what is read of a URL: its scheme, its host unless that is empty, its port and its path
abbrev pub place_of : Parts → Place
place_of url = record { scheme = url.scheme; host = option_map host_text (nonempty_host url); port = url.port; path = url.path }

-- the place of a URL, or why a text isn't one
abbrev pub seen : Result Parts ParseError → Result Place BuildError
seen (Ok url) = Ok (place_of url)
seen (Err error) = Err (UrlParse error)

-- a text as a URL
abbrev pub read : List ℕ → Result Place BuildError
read text = seen (parse_url None text)

-- the default URL, which a setting names
abbrev pub default_place : Option (List ℕ) → Result Place BuildError
default_place None = Err NoDefaultFs
default_place (Some text) = read text

-- the scheme is that of the given URL, where there is one
abbrev pub is_scheme : Option (List ℕ) → List ℕ → Bool
is_scheme None scheme = true
is_scheme (Some given) scheme = bytes_eq given scheme

-- the default URL is taken where it has a host and this scheme
abbrev pub taken : Option (List ℕ) → Place → Result Place BuildError
taken scheme place = if is_some place.host && is_scheme scheme place.scheme then Ok place else Err Host

-- the default URL in the place of one without host
abbrev pub or_default : Option (List ℕ) → Place → Result Place BuildError
or_default default place = if is_some place.host then Ok place else and_then (default_place default) (taken (Some place.scheme))

-- where a client begins that is given this URL, if any, and this default
abbrev pub place_at : Option (List ℕ) → Option (List ℕ) → Result Place BuildError
place_at None default = and_then (default_place default) (taken None)
place_at (Some url) default = and_then (read url) (or_default default)
