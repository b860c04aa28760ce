-- The key is given by the server defaults: where they were known, nothing changed before; else they were asked for.
use Rattle.std.proofs.Common.{◌≡◌, true, false, Some, None, refl, ◌∙◌}
use Rattle.std.proofs.lemmas.Result.{err_from_is_err_and}
use Rattle.std.specs.Prelude.{Ok, Err}
use Rattle.hdfs_namenode.specs.Clients.{defaults_of, key_of, proxy_of, through}
use Rattle.hdfs_namenode.specs.Keys.{AsksForKey, GivesCopy, IsDue, IsLasting}
use Rattle.hdfs_namenode.proofs.Services.{same_service_trans}
use Rattle.hdfs_namenode.proofs.Keyed.{by_known, gives_key, service_between}
use Rattle.hdfs_namenode.proofs.protocol.NamenodeProtocol.get_cached_data_encryption_key.Goals as goal

pub key_by-requires-clause-service : goal.key_by-requires-clause-service
key_by-requires-clause-service g c =
    let look = c.get_cached_server_defaults in
    service_between g.C.Cluster.shown g.C.Cluster.serves g.met.C.Cluster.serves_rows c.args.self.now look.new.self c.args.cluster.now look.new.cluster look.result
    (defaults_of c.args.self.now) look.ensures.known look.ensures.asked look.ensures.keeps.1 c.requires.service

pub returns-in_err-defaults-clause-first : goal.returns-in_err-defaults-clause-first
returns-in_err-defaults-clause-first g c = λ none.
    let look = c.get_cached_server_defaults in
    let h = c.in_err-defaults.ensures in
    let error = c.in_err-defaults.field-0.0 in
    let r = err_from_is_err_and c.from_residual.result c.from_residual.ensures.1 in
    rw (r.1, r.2) (record {
      defaults = Err error;
      between = through look.new.self look.new.cluster;
      asked = h.asked none;
      goes_on = (h.err, refl, h.held.0, refl);
    })

pub returns-clause-plain : goal.returns-clause-plain
returns-clause-plain g c =
    let look = c.get_cached_server_defaults in
    by_known (λ n k d. d.encrypt_data_transfer ≡ false → (c.key_by.result ≡ Ok None) × (c.key_by.new.self ≡ n) × (c.key_by.new.cluster ≡ k))
    c.args.self.now look.new.self c.args.cluster.now look.new.cluster look.result c.in_ok-defaults.defaults (defaults_of c.args.self.now) look.ensures.known c.in_ok-defaults.was
    c.key_by.ensures.plain

pub returns-clause-lasts : goal.returns-clause-lasts
returns-clause-lasts g c =
    let look = c.get_cached_server_defaults in
    by_known (λ n k d. d.encrypt_data_transfer ≡ true → IsLasting c.args.moment (key_of n) → GivesCopy (key_of n) c.key_by.result × (c.key_by.new.self ≡ n) × (c.key_by.new.cluster ≡ k))
    c.args.self.now look.new.self c.args.cluster.now look.new.cluster look.result c.in_ok-defaults.defaults (defaults_of c.args.self.now) look.ensures.known c.in_ok-defaults.was
    c.key_by.ensures.lasts

pub returns-clause-due : goal.returns-clause-due
returns-clause-due g c =
    let look = c.get_cached_server_defaults in
    by_known (λ n k d. d.encrypt_data_transfer ≡ true → IsDue c.args.moment (key_of n)
    → AsksForKey g.C.Cluster.serves (key_of n) (through n k) c.key_by.result (key_of c.key_by.new.self) (through c.key_by.new.self c.key_by.new.cluster)
    × (defaults_of c.key_by.new.self ≡ Some d))
    c.args.self.now look.new.self c.args.cluster.now look.new.cluster look.result c.in_ok-defaults.defaults (defaults_of c.args.self.now) look.ensures.known c.in_ok-defaults.was
    (λ yes due. (c.key_by.ensures.due yes due, c.key_by.ensures.defaults ∙ c.in_ok-defaults.ensures.kept))

pub returns-clause-first : goal.returns-clause-first
returns-clause-first g c = λ none.
    let look = c.get_cached_server_defaults in
    let h = c.in_ok-defaults.ensures in record {
      defaults = Ok c.in_ok-defaults.defaults;
      between = through look.new.self look.new.cluster;
      asked = h.asked none;
      goes_on = (
        c.key_by.ensures.defaults ∙ h.kept,
        gives_key g.C.Cluster.serves c.args.moment c.in_ok-defaults.defaults (key_of c.args.self.now) look.new.self c.key_by.new.self look.new.cluster c.key_by.new.cluster c.key_by.result
            h.held.0 c.key_by.ensures.plain c.key_by.ensures.lasts c.key_by.ensures.due,
      );
    }

pub returns-clause-keeps : goal.returns-clause-keeps
returns-clause-keeps g c =
    let look = c.get_cached_server_defaults in
    let keeps = c.key_by.ensures.keeps in record {
      service = same_service_trans (proxy_of c.args.self.now) (proxy_of look.new.self) (proxy_of c.key_by.new.self) look.ensures.keeps.1 keeps.service;
      name = keeps.name ∙ look.ensures.keeps.0;
      leases = keeps.leases ∙ look.ensures.held.1;
    }
