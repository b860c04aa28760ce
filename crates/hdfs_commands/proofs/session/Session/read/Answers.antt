-- The blocks are looked up, an encrypted file is refused, and the range is read.
use Rattle.std.proofs.Common.{get_or, sym, subst}
use Rattle.std.proofs.lemmas.List.Elements.{Contains-get_or}
use Rattle.std.proofs.lemmas.Result.{err_from_is_err_and}
use Rattle.hdfs_namenode.specs.Clients.{proxy_of}
use Rattle.hdfs_namenode.specs.Views.{Whole}
use Rattle.hdfs_namenode.proofs.Services.{reaches_later, reaches_service}
use Rattle.hdfs_file_reader.specs.Files.{LetsReadBlocks}
use Rattle.hdfs_commands.proofs.LookedUp.{vain_called}
use Rattle.hdfs_commands.proofs.ReadActs.{is_encrypted, not_found, range_read, range_unread}
use Rattle.hdfs_commands.proofs.session.Session.read.Goals as goal

pub locate-requires-clause-allowed : goal.locate-requires-clause-allowed
locate-requires-clause-allowed g c = c.requires.allowed.locates

pub locate-requires-clause-service : goal.locate-requires-clause-service
locate-requires-clause-service g c = reaches_service (proxy_of c.args.self.now.namenode) (g.C.Cluster.shown c.args.cluster.now) c.requires.stands.reaches

pub read_range-requires-clause-service : goal.read_range-requires-clause-service
read_range-requires-clause-service g c =
    let h = c.in_ok-found.ensures in
    let s = g.C.Cluster.shown c.args.cluster.now in
    let m = g.C.Cluster.shown c.locate.new.cluster in
    reaches_service (proxy_of c.locate.new.namenode) m (reaches_later (proxy_of c.args.self.now.namenode) (proxy_of c.locate.new.namenode) s m h.client.service h.looks.later c.requires.stands.reaches)

pub read_range-requires-clause-defaults : goal.read_range-requires-clause-defaults
read_range-requires-clause-defaults g c = λ some within. c.requires.allowed.defaults some

pub read_range-requires-clause-blocks : goal.read_range-requires-clause-blocks
read_range-requires-clause-blocks g c =
    let found = c.in_ok-found.found in
    subst (LetsReadBlocks g.C.Cluster.allows) (sym c.in_ok-file.ensures.ok.0)
    (λ k other low. c.requires.allowed.reads (get_or found.blocks k other)
    (record { found = found; answered = c.in_ok-found.ensures.answered; among = Contains-get_or found.blocks k other low }))

pub returns-in_err-found : goal.returns-in_err-found
returns-in_err-found g c =
    let p = err_from_is_err_and c.from_residual.result c.from_residual.ensures.1 in
    let h = c.in_err-found.ensures in
    rw (p.1, p.2) (λ called. not_found g.C.Cluster.may_answer g.C.Cluster.shown c.args.cluster.now c.locate.new.cluster c.args.self.now c.locate.new.namenode c.args.name.now c.args.path.now c.args.offset c.args.len
    c.requires.path c.requires.placed called c.requires.fine c.requires.stands c.requires.answered h.looks h.client (h.files Whole c.requires.stands.reaches)
    c.in_err-found.field-0.0 h.answered (vain_called c.as_str.ensures (h.err Whole c.requires.stands.reaches)))

pub returns-in_err-file : goal.returns-in_err-file
returns-in_err-file g c =
    let p = err_from_is_err_and c.from_residual-in_err-file.result c.from_residual-in_err-file.ensures.1 in
    let h = c.in_ok-found.ensures in
    rw (p.1, p.2) (λ called. is_encrypted g.C.Cluster.may_answer g.C.Cluster.shown c.args.cluster.now c.locate.new.cluster c.args.self.now c.locate.new.namenode c.args.name.now c.args.path.now c.args.offset c.args.len
    c.requires.path c.requires.placed called c.requires.fine c.requires.stands c.requires.answered h.looks h.client (h.files Whole c.requires.stands.reaches)
    c.in_ok-found.found (h.found Whole c.requires.stands.reaches) h.answered c.in_err-file.field-0.0 c.in_err-file.ensures.err)

pub returns-in_err-bytes : goal.returns-in_err-bytes
returns-in_err-bytes g c =
    let p = err_from_is_err_and c.from_residual-in_err-bytes.result c.from_residual-in_err-bytes.ensures.1 in
    let h = c.in_ok-found.ensures in
    let range = c.in_err-bytes.ensures in
    rw (p.1, p.2) (λ called. range_unread g.C.Cluster.may_answer g.C.Cluster.shown c.args.cluster.now c.locate.new.cluster c.args.self.now c.locate.new.namenode c.args.name.now c.args.path.now c.args.offset c.args.len
    c.requires.path c.requires.placed called c.requires.fine c.requires.stands c.requires.answered h.looks h.client (h.files Whole c.requires.stands.reaches)
    c.in_ok-found.found (h.found Whole c.requires.stands.reaches) h.answered c.in_ok-file.file c.in_ok-file.ensures.ok c.read_range.new.cluster c.read_range.new.connections c.read_range.new.namenode
    range.leaves range.idle range.answered c.in_err-bytes.field-0.0 range.err range.range range.lost)

pub returns : goal.returns
returns g c =
    let h = c.in_ok-found.ensures in
    let range = c.in_ok-bytes.ensures in
    λ called. range_read g.C.Cluster.may_answer g.C.Cluster.shown c.args.cluster.now c.locate.new.cluster c.args.self.now c.locate.new.namenode c.args.name.now c.args.path.now c.args.offset c.args.len
    c.requires.path c.requires.placed called c.requires.fine c.requires.stands c.requires.answered h.looks h.client (h.files Whole c.requires.stands.reaches)
    c.in_ok-found.found (h.found Whole c.requires.stands.reaches) h.answered c.in_ok-file.file c.in_ok-file.ensures.ok c.read_range.new.cluster c.read_range.new.connections c.read_range.new.namenode
    range.leaves range.idle range.answered c.in_ok-bytes.bytes range.count.0 range.plain range.bytes
