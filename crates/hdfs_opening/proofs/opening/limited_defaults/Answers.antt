-- The goals of limited_defaults.
use Rattle.std.proofs.Common.{inl, inr, refl, sym, ◌∙◌}
use Rattle.std.proofs.lemmas.Result.{err_from_is_err_and}
use Rattle.hdfs_namenode.specs.Clients.{defaults_of, proxy_of}
use Rattle.hdfs_namenode.specs.Views.{see, view_of}
use Rattle.hdfs_opening.proofs.Known.{is_known, known_as, unknown}
use Rattle.hdfs_opening.proofs.Quiet.{links_shown, quiet_by}
use Rattle.hdfs_opening.proofs.opening.limited_defaults.Goals as goal

pub returns-in_err-defaults-clause-picture : goal.returns-in_err-defaults-clause-picture
returns-in_err-defaults-clause-picture g c = λ view has. (quiet_by (c.get_cached_server_defaults.ensures.came view has)).picture

pub returns-then-not-are_limited-clause-picture : goal.returns-then-not-are_limited-clause-picture
returns-then-not-are_limited-clause-picture g c = λ view has. (quiet_by (c.get_cached_server_defaults.ensures.came view has)).picture

pub returns-clause-picture : goal.returns-clause-picture
returns-clause-picture g c = λ view has. (quiet_by (c.get_cached_server_defaults.ensures.came view has)).picture

pub returns-in_err-defaults-clause-keeps : goal.returns-in_err-defaults-clause-keeps
returns-in_err-defaults-clause-keeps g c =
    let view = view_of (proxy_of c.args.namenode.now) in
    let had = c.get_cached_server_defaults.ensures in (
      (record { service = had.keeps.1; name = had.keeps.0; key = had.held.0 }, had.held.1),
      links_shown view (quiet_by (had.came view (refl, refl))).links,
    )

pub returns-then-not-are_limited-clause-keeps : goal.returns-then-not-are_limited-clause-keeps
returns-then-not-are_limited-clause-keeps g c =
    let view = view_of (proxy_of c.args.namenode.now) in
    let had = c.get_cached_server_defaults.ensures in (
      (record { service = had.keeps.1; name = had.keeps.0; key = had.held.0 }, had.held.1),
      links_shown view (quiet_by (had.came view (refl, refl))).links,
    )

pub returns-clause-keeps : goal.returns-clause-keeps
returns-clause-keeps g c =
    let view = view_of (proxy_of c.args.namenode.now) in
    let had = c.get_cached_server_defaults.ensures in (
      (record { service = had.keeps.1; name = had.keeps.0; key = had.held.0 }, had.held.1),
      links_shown view (quiet_by (had.came view (refl, refl))).links,
    )

pub returns-in_err-defaults-clause-err : goal.returns-in_err-defaults-clause-err
returns-in_err-defaults-clause-err g c =
    let p = err_from_is_err_and c.from_residual.result c.from_residual.ensures.1 in
    let had = c.in_err-defaults.ensures in
    let none = unknown (defaults_of c.args.namenode.now) (see (view_of (proxy_of c.args.namenode.now)) (g.C.Cluster.shown c.args.cluster.now))
    (see (view_of (proxy_of c.args.namenode.now)) (g.C.Cluster.shown c.get_cached_server_defaults.new.cluster))
    c.in_err-defaults.field-0.0 (had.came (view_of (proxy_of c.args.namenode.now)) (refl, refl)) in
    rw (p.1, p.2) (inl (record { unknown = none; asked = had.asked none; still = had.err }))

pub returns-then-not-are_limited-clause-err : goal.returns-then-not-are_limited-clause-err
returns-then-not-are_limited-clause-err g c =
    let had = c.in_ok-defaults.ensures in
    inr (record {
      defaults = c.in_ok-defaults.defaults;
      has = record {
        known = known_as (defaults_of c.args.namenode.now) c.in_ok-defaults.defaults had.known;
        asked = had.asked;
        kept = had.kept;
        answered = is_known g.C.Cluster.may_answer c.args.namenode.now c.get_cached_server_defaults.new.self c.in_ok-defaults.defaults had.kept had.answered
            (λ kept is. (known_as (defaults_of c.args.namenode.now) c.in_ok-defaults.defaults had.known kept is).0);
      };
      unlimited = sym c.are_limited.ensures ∙ c.if-not-are_limited.true;
      is = refl;
    })

pub returns-clause-knows : goal.returns-clause-knows
returns-clause-knows g c =
    let had = c.in_ok-defaults.ensures in
    record {
      has = record {
        known = known_as (defaults_of c.args.namenode.now) c.in_ok-defaults.defaults had.known;
        asked = had.asked;
        kept = had.kept;
        answered = is_known g.C.Cluster.may_answer c.args.namenode.now c.get_cached_server_defaults.new.self c.in_ok-defaults.defaults had.kept had.answered
            (λ kept is. (known_as (defaults_of c.args.namenode.now) c.in_ok-defaults.defaults had.known kept is).0);
      };
      limited = sym c.are_limited.ensures ∙ c.if-not-are_limited.false;
    }
