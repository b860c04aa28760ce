-- A late ask is done, and nothing else.
use Rattle.std.proofs.Common.{map, sym, subst}
use Rattle.hdfs_cluster.specs.declared.store.AskKind.{AskKind}
use Rattle.hdfs_mem_namenode.proofs.Answering.{same_picture}
use Rattle.hdfs_mem_cluster.specs.Lines.{line_of}
use Rattle.hdfs_mem_cluster.specs.MemShown.{picture_at}
use Rattle.hdfs_mem_cluster.specs.Responding.{DoesPlanned}
use Rattle.hdfs_mem_cluster.proofs.planned_asks.do_planned.Goals as goal

pub returns-in-Late-clause-does : goal.returns-in-Late-clause-does
returns-in-Late-clause-does c = λ links.
    let settings = c.args.known.now.config.now.settings in
    let r = c.respond-unheard in
    let p = picture_at c.args.space.now c.args.nodes.now settings links in
    let q = picture_at r.new.space r.new.nodes settings links in
    subst (λ (k : AskKind). DoesPlanned (map line_of c.args.known.now.loaded.now) c.args.nodes.now.count k p c.args.i c.args.ask.now q) (sym c.in-Late.is) (r.result, r.ensures.shape, r.ensures.responds links)

pub returns-in-Lost-clause-does : goal.returns-in-Lost-clause-does
returns-in-Lost-clause-does c = λ links.
    let p = picture_at c.args.space.now c.args.nodes.now c.args.known.now.config.now.settings links in
    subst (λ (k : AskKind). DoesPlanned (map line_of c.args.known.now.loaded.now) c.args.nodes.now.count k p c.args.i c.args.ask.now p) (sym c.in-Lost.is) (same_picture p)

pub returns-in-FalseAnswer-clause-does : goal.returns-in-FalseAnswer-clause-does
returns-in-FalseAnswer-clause-does c = λ links.
    let p = picture_at c.args.space.now c.args.nodes.now c.args.known.now.config.now.settings links in
    subst (λ (k : AskKind). DoesPlanned (map line_of c.args.known.now.loaded.now) c.args.nodes.now.count k p c.args.i c.args.ask.now p) (sym c.in-FalseAnswer.is) (same_picture p)

pub returns-in-Fatal-clause-does : goal.returns-in-Fatal-clause-does
returns-in-Fatal-clause-does c = λ links.
    let p = picture_at c.args.space.now c.args.nodes.now c.args.known.now.config.now.settings links in
    subst (λ (k : AskKind). DoesPlanned (map line_of c.args.known.now.loaded.now) c.args.nodes.now.count k p c.args.i c.args.ask.now p) (sym c.in-Fatal.is) (same_picture p)

pub returns-in-Exception-clause-does : goal.returns-in-Exception-clause-does
returns-in-Exception-clause-does c = λ links.
    let p = picture_at c.args.space.now c.args.nodes.now c.args.known.now.config.now.settings links in
    subst (λ (k : AskKind). DoesPlanned (map line_of c.args.known.now.loaded.now) c.args.nodes.now.count k p c.args.i c.args.ask.now p) (sym c.in-Exception.is) (same_picture p)
