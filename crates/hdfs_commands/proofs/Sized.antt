-- What the writers of a session are made with, and what a session remembers of it.
use Rattle.std.proofs.Common.{◌≡◌, ℕ, ◌≤◌, true, ◌&&◌, nat_le, arith, Option, Some, refl, sym, ◌∙◌, ap, subst}
use Rattle.std.proofs.lemmas.Bool.Decides.{nat_tests}
use Rattle.std.specs.Prelude.{IfSome}
use Rattle.hdfs_model.specs.Limits.{are_settings, begins_with_slash, is_small}
use Rattle.hdfs_cluster.proofs.Loads.{and_parts}
use Rattle.hdfs_model.specs.declared.commands.Settings.{Settings}
use Rattle.hdfs_cluster.specs.declared.messages.ServerDefaults.{ServerDefaults}
use Rattle.hdfs_cluster.specs.Files.{State}
use Rattle.hdfs_model.specs.Sessions.{defaults_of}
use Rattle.hdfs_cluster.specs.Shown.{Shown}
use Rattle.hdfs_namenode.specs.Asked.{ReachesAll}
use Rattle.hdfs_namenode.specs.Clients.{SameClient, client_name, name_of, proxy_of}
use Rattle.hdfs_namenode.specs.declared.protocol.NamenodeProtocol.{NamenodeProtocol}
use Rattle.hdfs_namenode.proofs.Services.{reaches_same, same_service_refl}
use Rattle.hdfs_file_writer.specs.Writers.{sizes_of}
use Rattle.hdfs_file_writer.specs.declared.file_writer.FileWriter.{FileWriter}
use Rattle.hdfs_file_writer.specs.declared.sizes.WriteSizes.{WriteSizes}
use Rattle.hdfs_commands.specs.Preparing.{Remembers}
use Rattle.hdfs_file_writer.specs.Sizing.{sizes_by}
use Rattle.hdfs_commands.specs.Session.{Carried, IsSized, defaults_known, rebuilding_by, terms_of}
use Rattle.hdfs_commands.specs.declared.session.Session.{Session}

-- a session that is left as it is remembers what it is run with
pub remembers_refl : (session : Session) → Remembers session session
remembers_refl session = record { settings = refl; name = refl; service = same_service_refl (proxy_of session.namenode); known = λ defaults is. is }

-- so does one that asks on
pub remembers_asked : (session : Session) (protocol : NamenodeProtocol) → SameClient session.namenode protocol → Remembers session (record session { namenode = protocol })
remembers_asked session protocol same = record { settings = refl; name = same.name; service = same.service; known = λ defaults is. same.defaults ∙ is }

-- and one whose command has failed
pub remembers_failed : (a b : Session) → Remembers a b → Remembers a (record b { failed = true })
remembers_failed a b one = record { settings = one.settings; name = one.name; service = one.service; known = one.known }

le_from : (a b : ℕ) → nat_le a b ≡ true → a ≤ b
le_from a b is = grind (arith, nat_tests, is)

-- the window of the files that a session writes is in its limits
pub window_within : (settings : Settings) → are_settings settings ≡ true → (1 ≤ settings.window) × (settings.window ≤ 1000)
window_within set limited =
    let small = and_parts (begins_with_slash set.home && is_small set.rebuild_limit && is_small set.window) (nat_le set.setup_limit 100) limited in
    let window = and_parts (nat_le 1 set.window) (nat_le set.window 1000) (and_parts (begins_with_slash set.home && is_small set.rebuild_limit) (is_small set.window) small.0).1 in
    (le_from 1 set.window window.0, le_from set.window 1000 window.1)

-- with what a session writes a file that has this replication and block size
abbrev pub sizes_in : Session → ServerDefaults → ℕ → ℕ → WriteSizes
sizes_in session = sizes_by (terms_of session.settings).rebuilding (terms_of session.settings).setup_limit

module _ (session session' : Session) (remembers : Remembers session session') where
  -- it asks in the name of its client still
  pub named_still : name_of session.namenode ≡ client_name session.settings.client
      → name_of session'.namenode ≡ client_name session'.settings.client
  named_still is = remembers.name ∙ is ∙ ap (λ (s : Settings). client_name s.client) (sym remembers.settings)

  -- it asks all namenodes still
  pub reaches_still : (s t : Shown) → t.namenodes ≡ s.namenodes → ReachesAll (proxy_of session.namenode) s → ReachesAll (proxy_of session'.namenode) t
  reaches_still s t count reaches = reaches_same (proxy_of session.namenode) (proxy_of session'.namenode) s t remembers.service count reaches

  -- a writer that has the sizes of one of the session's writers is sized as that is
  pub sized_still : (writer writer' : FileWriter) → sizes_of writer' ≡ sizes_of writer → IsSized session writer → IsSized session' writer'
  sized_still writer writer' same sized = record {
    known = sized.known;
    is_known = remembers.known sized.known sized.is_known;
    rebuilding = ap (λ (s : WriteSizes). s.rebuilding) same ∙ sized.rebuilding ∙ ap rebuilding_by (sym remembers.settings);
    setups = ap (λ (s : WriteSizes). s.setup_limit) same ∙ sized.setups ∙ ap (λ (s : Settings). s.setup_limit) (sym remembers.settings);
    chunk = ap (λ (s : WriteSizes). s.chunk) same ∙ sized.chunk;
    packet_size = ap (λ (s : WriteSizes). s.packet_size) same ∙ sized.packet_size;
    encrypted = ap (λ (s : WriteSizes). s.encrypted) same ∙ sized.encrypted;
  }

  -- so is a new one, which was given them
  pub sized_by : (d : ServerDefaults) (writer : FileWriter) (replication block_size : ℕ)
      → sizes_of writer ≡ sizes_in session d replication block_size → defaults_known session' ≡ Some d → IsSized session' writer
  sized_by d writer replication block_size sizes knows = record {
    known = d;
    is_known = knows;
    rebuilding = ap (λ (s : WriteSizes). s.rebuilding) sizes ∙ ap rebuilding_by (sym remembers.settings);
    setups = ap (λ (s : WriteSizes). s.setup_limit) sizes ∙ ap (λ (s : Settings). s.setup_limit) (sym remembers.settings);
    chunk = ap (λ (s : WriteSizes). s.chunk) sizes;
    packet_size = ap (λ (s : WriteSizes). s.packet_size) sizes;
    encrypted = ap (λ (s : WriteSizes). s.encrypted) sizes;
  }

-- a writer goes by the cluster's defaults on whether data is to be encrypted
pub encrypted_is : (session : Session) (shown : Shown) (writer : FileWriter) → IsSized session writer → (state : State) → Carried shown session state
    → (sizes_of writer).encrypted ≡ (defaults_of shown.picture).encrypt_data_transfer
encrypted_is session shown writer sized state carried =
    sized.encrypted
    ∙ ap (λ (d : ServerDefaults). d.encrypt_data_transfer) (subst (λ (o : Option ServerDefaults). IfSome o (λ known. known ≡ defaults_of shown.picture)) sized.is_known carried.defaults)
