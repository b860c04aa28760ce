-- The goals of Session::create: its service creates the file, or doesn't, and the session keeps the writer.
use Rattle.std.proofs.Common.{refl, sym, ◌∙◌, subst}
use Rattle.std.proofs.lemmas.Result.{err_from_is_err_and}
use Rattle.std.specs.String.{string_bytes}
use Rattle.hdfs_namenode.proofs.Services.{reaches_service}
use Rattle.hdfs_namenode.specs.Clients.{proxy_of}
use Rattle.hdfs_opening.specs.Opening.{CreatesBy}
use Rattle.hdfs_opening.specs.declared.opened_file.WriteTerms.{WriteTerms}
use Rattle.hdfs_commands.proofs.Beginning.{begins_file, goes_nowhere, options_executes, starved_executes}
use Rattle.hdfs_commands.proofs.Failing.{create_still}
use Rattle.hdfs_commands.proofs.Moved.{kept_by, put_by}
use Rattle.hdfs_commands.proofs.Served.{created_kept, created_unkept, uncreated, was_given}
use Rattle.hdfs_commands.proofs.Sized.{window_within}
use Rattle.hdfs_file_reader.proofs.Transfers.{only_asks_refl}
use Rattle.hdfs_commands.proofs.session.Session.create.Goals as goal

pub create_by-requires-clause-service : goal.create_by-requires-clause-service
create_by-requires-clause-service g c = reaches_service (proxy_of c.args.self.now.namenode) (g.C.Cluster.shown c.args.cluster.now) c.requires.stands.reaches

pub create_by-requires-clause-allowed : goal.create_by-requires-clause-allowed
create_by-requires-clause-allowed g c =
    let lets = c.requires.allowed (sym c.are_limited.ensures ∙ c.if-not-are_limited.false) in
    record {
      defaults = lets.defaults;
      creates = λ d known limited. lets.creates d (was_given g.C.Cluster.may_answer c.args.self.now.namenode d c.requires.answered.defaults known) limited;
      deletes = lets.deletes;
    }

pub create_by-requires-clause-limits : goal.create_by-requires-clause-limits
create_by-requires-clause-limits g c =
    let window = window_within c.args.self.now.settings c.requires.stands.limited in
    rw c.terms-terms.ensures (sym c.are_limited.ensures ∙ c.if-not-are_limited.false, window.0, window.1)

pub returns-then-not-are_limited : goal.returns-then-not-are_limited
returns-then-not-are_limited g c = λ name called.
    let begins = begins_file (create_still name c.args.options.now) tt (λ is. is) called c.requires.path c.requires.placed c.requires.stands c.requires.fine in
    options_executes begins c.requires.answered (sym c.are_limited.ensures ∙ c.if-not-are_limited.true)

pub returns-in_err-key : goal.returns-in_err-key
returns-in_err-key g c =
    let p = err_from_is_err_and c.from_residual.result c.from_residual.ensures.1 in
    rw (p.1, p.2) (λ name called.
    (let begins = begins_file (create_still name c.args.options.now) tt (λ is. is) called c.requires.path c.requires.placed c.requires.stands c.requires.fine in
    starved_executes begins (only_asks_refl (g.C.Cluster.shown c.args.cluster.now)) (goes_nowhere c.requires.answered)))

pub returns-in_err-opened : goal.returns-in_err-opened
returns-in_err-opened g c =
    let p = err_from_is_err_and c.from_residual-in_err-opened.result c.from_residual-in_err-opened.ensures.1 in
    rw (p.1, p.2) (λ name called.
    (let begins = begins_file (create_still name c.args.options.now) tt (λ is. is) called c.requires.path c.requires.placed c.requires.stands c.requires.fine in
    uncreated g.met.C.Cluster.serves_rows g.met.C.Cluster.active_below g.met.C.Cluster.sound begins c.requires.answered c.create_by.ensures.keeps.0.0 c.in_err-opened.ensures.err))

pub returns-in_err-keep : goal.returns-in_err-keep
returns-in_err-keep g c =
    let p = err_from_is_err_and c.from_residual-in_err-keep.result c.from_residual-in_err-keep.ensures.1 in
    rw (p.1, p.2) (λ name called.
    (let begins = begins_file (create_still name c.args.options.now) tt (λ is. is) called c.requires.path c.requires.placed c.requires.stands c.requires.fine in
    let created = subst (λ (t : WriteTerms). CreatesBy g.C.Cluster.may_answer g.C.Cluster.serves c.args.path c.args.options.now t c.args.self.now.namenode c.args.cluster.now
    c.in_ok-opened.opened.file c.in_ok-opened.opened.told c.create_by.new.namenode c.create_by.new.cluster) c.terms-terms.ensures c.in_ok-opened.ensures.created in
    created_unkept g.met.C.Cluster.serves_rows g.met.C.Cluster.active_below g.met.C.Cluster.sound begins c.requires.answered c.create_by.ensures.keeps.0.0 created
    c.keep.new.writers (kept_by c.args.self.now.writers c.keep.new.writers c.in_err-keep.ensures.err)))

pub returns : goal.returns
returns g c = λ name called.
    let begins = begins_file (create_still name c.args.options.now) tt (λ is. is) called c.requires.path c.requires.placed c.requires.stands c.requires.fine in
    let created = subst (λ (t : WriteTerms). CreatesBy g.C.Cluster.may_answer g.C.Cluster.serves c.args.path c.args.options.now t c.args.self.now.namenode c.args.cluster.now
    c.in_ok-opened.opened.file c.in_ok-opened.opened.told c.create_by.new.namenode c.create_by.new.cluster) c.terms-terms.ensures c.in_ok-opened.ensures.created in
    created_kept g.met.C.Cluster.serves_rows g.met.C.Cluster.active_below g.met.C.Cluster.sound begins c.requires.answered c.create_by.ensures.keeps.0.0 created
    c.keep.new.writers (sym c.are_limited.ensures ∙ c.if-not-are_limited.false)
    (put_by c.args.self.now.writers c.keep.new.writers c.args.self.now.writers (string_bytes c.in_ok-key.key) c.args.path c.in_ok-opened.opened.file refl
    (c.in_ok-key.ensures.ok ∙ c.as_str.ensures) c.in_ok-keep.ensures.put)
    c.in_ok-opened.ensures.stands.0 c.in_ok-opened.ensures.stands.1
