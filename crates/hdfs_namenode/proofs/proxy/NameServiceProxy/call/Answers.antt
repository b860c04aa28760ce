-- The goals of NameServiceProxy::call.
use Rattle.std.proofs.Common.{◌≡◌, Ok, Option, sym, subst}
use Rattle.std.proofs.lemmas.Result.{err_from_is_err_and}
use Rattle.std.specs.Prelude.{Err, IfErr, Result, Some, None}
use Rattle.hdfs_cluster.proofs.Frames.{later_trans}
use Rattle.hdfs_cluster.specs.declared.asks.Answer.{Answer}
use Rattle.hdfs_cluster.specs.declared.errors.HdfsError.{HdfsError}
use Rattle.hdfs_cluster.specs.Shown.{Later, Shown}
use Rattle.hdfs_namenode.specs.Asked.{SameService, Through}
use Rattle.hdfs_namenode.specs.Observing.{InStep}
use Rattle.hdfs_namenode.proofs.Observers.{asked_behind, lacks_behind, lacks_for_memory, lacks_sync}
use Rattle.hdfs_namenode.proofs.Services.{same_service_trans, service_later}
use Rattle.hdfs_namenode.proofs.proxy.NameServiceProxy.call.Goals as goal

pub returns-in_err-sync-clause-cause : goal.returns-in_err-sync-clause-cause
returns-in_err-sync-clause-cause g c =
    let p = err_from_is_err_and c.from_residual.result c.from_residual.ensures.1 in
    let old : Through g.row.C.Denot = record { cluster = c.args.cluster.now; proxy = c.args.self.now } in
    rw (p.1, p.2) (lacks_sync g.C.Cluster.shown g.C.Cluster.serves c.args.ask.now old c.sync.new.cluster c.in_err-sync.field-0.0 c.in_err-sync.ensures.cause)

pub returns-in_err-answer-clause-asked : goal.returns-in_err-answer-clause-asked
returns-in_err-answer-clause-asked g c =
    let p = err_from_is_err_and c.from_residual-in_err-answer.result c.from_residual-in_err-answer.ensures.1 in
    let old : Through g.row.C.Denot = record { cluster = c.args.cluster.now; proxy = c.args.self.now } in
    let mid : Through g.row.C.Denot = record { cluster = c.sync.new.cluster; proxy = c.sync.new.self } in
    let new : Through g.row.C.Denot = record { cluster = c.ask_observer_first.new.cluster; proxy = c.ask_observer_first.new.self } in
    rw (p.1, p.2)
    (asked_behind g.C.Cluster.serves c.args.write c.args.ask.now old mid c.in_ok-sync.field-0 (Err c.in_err-answer.field-0.0) new c.in_ok-sync.ensures.syncs
    c.in_err-answer.ensures.asked)

pub returns-in_err-answer-clause-cause : goal.returns-in_err-answer-clause-cause
returns-in_err-answer-clause-cause g c =
    let p = err_from_is_err_and c.from_residual-in_err-answer.result c.from_residual-in_err-answer.ensures.1 in
    let old : Through g.row.C.Denot = record { cluster = c.args.cluster.now; proxy = c.args.self.now } in
    rw (p.1, p.2)
    (lacks_for_memory g.C.Cluster.shown g.C.Cluster.serves c.args.ask.now old c.ask_observer_first.new.cluster c.in_err-answer.field-0.0 c.in_err-answer.ensures.memory)

pub returns-in_err-answer-clause-keeps : goal.returns-in_err-answer-clause-keeps
returns-in_err-answer-clause-keeps g c =
    same_service_trans c.args.self.now c.sync.new.self c.ask_observer_first.new.self c.sync.ensures.keeps c.ask_observer_first.ensures.keeps

pub ask_all-requires-clause-service : goal.ask_all-requires-clause-service
ask_all-requires-clause-service g c =
    let s = g.C.Cluster.shown c.args.cluster.now in
    let m = g.C.Cluster.shown c.sync.new.cluster in
    service_later c.sync.new.self c.ask_observer_first.new.self m (g.C.Cluster.shown c.ask_observer_first.new.cluster) c.ask_observer_first.ensures.keeps
    c.ask_observer_first.ensures.later
    (service_later c.args.self.now c.sync.new.self s m c.sync.ensures.keeps c.sync.ensures.later
    c.requires.service)

pub returns-in-Some-clause-asked : goal.returns-in-Some-clause-asked
returns-in-Some-clause-asked g c =
    let old : Through g.row.C.Denot = record { cluster = c.args.cluster.now; proxy = c.args.self.now } in
    let mid : Through g.row.C.Denot = record { cluster = c.sync.new.cluster; proxy = c.sync.new.self } in
    let new : Through g.row.C.Denot = record { cluster = c.ask_observer_first.new.cluster; proxy = c.ask_observer_first.new.self } in
    asked_behind g.C.Cluster.serves c.args.write c.args.ask.now old mid c.in_ok-sync.field-0 (Ok c.in-Some.answer) new c.in_ok-sync.ensures.syncs
    (subst (λ (x : Option Answer). InStep g.C.Cluster.serves c.args.write c.args.ask.now mid (Ok x) new) c.in-Some.is c.in_ok-answer.ensures.asked)

pub returns-in-Some-clause-keeps : goal.returns-in-Some-clause-keeps
returns-in-Some-clause-keeps g c =
    same_service_trans c.args.self.now c.sync.new.self c.ask_observer_first.new.self c.sync.ensures.keeps c.ask_observer_first.ensures.keeps

pub returns-in-None-clause-asked : goal.returns-in-None-clause-asked
returns-in-None-clause-asked g c =
    let old : Through g.row.C.Denot = record { cluster = c.args.cluster.now; proxy = c.args.self.now } in
    let mid : Through g.row.C.Denot = record { cluster = c.sync.new.cluster; proxy = c.sync.new.self } in
    let behind : Through g.row.C.Denot = record { cluster = c.ask_observer_first.new.cluster; proxy = c.ask_observer_first.new.self } in
    let new : Through g.row.C.Denot = record { cluster = c.ask_all.new.cluster; proxy = c.ask_all.new.self } in
    let goes : InStep g.C.Cluster.serves c.args.write c.args.ask.now mid (Ok None) behind =
    subst (λ (x : Option Answer). InStep g.C.Cluster.serves c.args.write c.args.ask.now mid (Ok x) behind) c.in-None.is c.in_ok-answer.ensures.asked in
    asked_behind g.C.Cluster.serves c.args.write c.args.ask.now old mid c.in_ok-sync.field-0 c.ask_all.result new c.in_ok-sync.ensures.syncs
    (goes c.ask_all.result new c.ask_all.ensures.asked)

pub returns-in-None-clause-cause : goal.returns-in-None-clause-cause
returns-in-None-clause-cause g c =
    let old : Through g.row.C.Denot = record { cluster = c.args.cluster.now; proxy = c.args.self.now } in
    let behind : Through g.row.C.Denot = record { cluster = c.ask_observer_first.new.cluster; proxy = c.ask_observer_first.new.self } in
    let later = later_trans (g.C.Cluster.shown c.args.cluster.now) (g.C.Cluster.shown c.sync.new.cluster) (g.C.Cluster.shown c.ask_observer_first.new.cluster) c.sync.ensures.later
    c.ask_observer_first.ensures.later in
    lacks_behind g.C.Cluster.shown g.C.Cluster.serves c.args.ask.now old c.ask_all.new.cluster behind
    (same_service_trans c.args.self.now c.sync.new.self c.ask_observer_first.new.self c.sync.ensures.keeps c.ask_observer_first.ensures.keeps) later c.ask_all.result
    c.ask_all.ensures.cause

pub returns-in-None-clause-keeps : goal.returns-in-None-clause-keeps
returns-in-None-clause-keeps g c =
    same_service_trans c.args.self.now c.sync.new.self c.ask_all.new.self c.sync.ensures.keeps
    (same_service_trans c.sync.new.self c.ask_observer_first.new.self c.ask_all.new.self c.ask_observer_first.ensures.keeps c.ask_all.ensures.keeps)
