-- The goals of Session::append: its service opens the file, or doesn't, and the session keeps the writer.
use Rattle.std.proofs.Common.{ℕ, List, refl, ◌∙◌, subst}
use Rattle.std.proofs.lemmas.Result.{err_from_is_err_and}
use Rattle.std.specs.String.{string_bytes}
use Rattle.hdfs_namenode.proofs.Services.{reaches_service}
use Rattle.hdfs_namenode.specs.Clients.{proxy_of}
use Rattle.hdfs_opening.specs.Opening.{FailsToAppend, OpensBy}
use Rattle.hdfs_opening.specs.declared.opened_file.WriteTerms.{WriteTerms}
use Rattle.hdfs_commands.proofs.Beginning.{begins_file, goes_nowhere, starved_executes}
use Rattle.hdfs_commands.proofs.Failing.{append_still}
use Rattle.hdfs_commands.proofs.Moved.{kept_by, put_by}
use Rattle.hdfs_commands.proofs.Served.{opened_kept, opened_unkept, unopened}
use Rattle.hdfs_commands.proofs.Sized.{window_within}
use Rattle.hdfs_file_reader.proofs.Transfers.{only_asks_refl}
use Rattle.hdfs_commands.proofs.session.Session.append.Goals as goal

pub append_by-requires-clause-service : goal.append_by-requires-clause-service
append_by-requires-clause-service g c = reaches_service (proxy_of c.args.self.now.namenode) (g.C.Cluster.shown c.args.cluster.now) c.requires.stands.reaches

pub append_by-requires-clause-limits : goal.append_by-requires-clause-limits
append_by-requires-clause-limits g c =
    rw c.terms-terms.ensures (window_within c.args.self.now.settings c.requires.stands.limited)

pub returns-in_err-key : goal.returns-in_err-key
returns-in_err-key g c =
    let p = err_from_is_err_and c.from_residual.result c.from_residual.ensures.1 in
    rw (p.1, p.2) (λ called.
    (let begins = begins_file (append_still c.args.name.now) tt (λ is. is) called c.requires.path c.requires.placed c.requires.stands c.requires.fine in
    starved_executes begins (only_asks_refl (g.C.Cluster.shown c.args.cluster.now)) (goes_nowhere c.requires.answered)))

pub returns-in_err-opened : goal.returns-in_err-opened
returns-in_err-opened g c =
    let p = err_from_is_err_and c.from_residual-in_err-opened.result c.from_residual-in_err-opened.ensures.1 in
    rw (p.1, p.2) (λ called.
    (let begins = begins_file (append_still c.args.name.now) tt (λ is. is) called c.requires.path c.requires.placed c.requires.stands c.requires.fine in
    unopened g.met.C.Cluster.serves_rows g.met.C.Cluster.active_below g.met.C.Cluster.sound begins c.requires.answered c.append_by.ensures.keeps.0.0
    (subst (λ (called : List ℕ). FailsToAppend g.C.Cluster.shown g.C.Cluster.may_answer g.C.Cluster.serves c.args.path called c.args.self.now.namenode c.args.cluster.now
    c.in_err-opened.field-0.0 c.append_by.new.namenode c.append_by.new.cluster) c.as_str-2.ensures c.in_err-opened.ensures.err)))

pub returns-in_err-keep : goal.returns-in_err-keep
returns-in_err-keep g c =
    let p = err_from_is_err_and c.from_residual-in_err-keep.result c.from_residual-in_err-keep.ensures.1 in
    rw (p.1, p.2) (λ called.
    (let begins = begins_file (append_still c.args.name.now) tt (λ is. is) called c.requires.path c.requires.placed c.requires.stands c.requires.fine in
    let opened = subst (λ (t : WriteTerms). OpensBy g.C.Cluster.may_answer g.C.Cluster.serves c.args.path t c.args.self.now.namenode c.args.cluster.now
    c.in_ok-opened.opened.file c.in_ok-opened.opened.told c.append_by.new.namenode c.append_by.new.cluster) c.terms-terms.ensures c.in_ok-opened.ensures.opened in
    opened_unkept g.met.C.Cluster.serves_rows g.met.C.Cluster.active_below g.met.C.Cluster.sound begins c.requires.answered c.append_by.ensures.keeps.0.0 opened
    c.keep.new.writers (kept_by c.args.self.now.writers c.keep.new.writers c.in_err-keep.ensures.err)))

pub returns : goal.returns
returns g c = λ called.
    let begins = begins_file (append_still c.args.name.now) tt (λ is. is) called c.requires.path c.requires.placed c.requires.stands c.requires.fine in
    let opened = subst (λ (t : WriteTerms). OpensBy g.C.Cluster.may_answer g.C.Cluster.serves c.args.path t c.args.self.now.namenode c.args.cluster.now
    c.in_ok-opened.opened.file c.in_ok-opened.opened.told c.append_by.new.namenode c.append_by.new.cluster) c.terms-terms.ensures c.in_ok-opened.ensures.opened in
    opened_kept g.met.C.Cluster.serves_rows g.met.C.Cluster.active_below g.met.C.Cluster.sound begins c.requires.answered c.append_by.ensures.keeps.0.0 opened
    c.keep.new.writers
    (put_by c.args.self.now.writers c.keep.new.writers c.args.self.now.writers (string_bytes c.in_ok-key.key) c.args.path c.in_ok-opened.opened.file refl
    (c.in_ok-key.ensures.ok ∙ c.as_str.ensures) c.in_ok-keep.ensures.put)
    c.in_ok-opened.ensures.stands.0 c.in_ok-opened.ensures.stands.1
