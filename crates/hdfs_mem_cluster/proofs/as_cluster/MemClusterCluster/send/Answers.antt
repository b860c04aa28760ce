-- A packet is sent to all datanodes of a link, or the connection breaks.
use Rattle.std.proofs.Common.{Bool, Ok, Err, map, refl, sym, ◌∙◌, subst}
use Rattle.std.proofs.lemmas.Result.{err_from_is_err_and}
use Rattle.slab.specs.Slab.{with_value}
use Rattle.hdfs_cluster.specs.declared.asks.LinkFault.TheVariants as link_faults
use Rattle.hdfs_mem_cluster.specs.declared.mem_links.MemLinks.{MemLinks}
use Rattle.hdfs_mem_cluster.specs.Lines.{line_of}
use Rattle.hdfs_mem_cluster.specs.Links.{write_at, write_told, SendsOn, UnsentOn, among}
use Rattle.hdfs_mem_cluster.proofs.Asking.{asks_no_send, asks_send, sends_fall, sends_follow_on}
use Rattle.hdfs_mem_cluster.proofs.Counting.{falls_refl, falls_same}
use Rattle.hdfs_mem_cluster.proofs.Earlier.{later_earlier}
use Rattle.hdfs_mem_cluster.proofs.NothingLoaded.{on_err}
use Rattle.hdfs_mem_cluster.proofs.Places.{written_write}
use Rattle.hdfs_mem_cluster.proofs.Stills.{links_unsent, not_sent, still_picture}
use Rattle.hdfs_mem_cluster.proofs.Writing.{broke_on, sent_on}
use Rattle.hdfs_mem_cluster.proofs.as_cluster.MemClusterCluster.send.Goals as goal

pub invariant_of-self : goal.invariant_of-self
invariant_of-self c =
    let m = c.args.self.now in
    let v = c.in-Some.write.now in
    let w = c.send.new.self in
    let P = UnsentOn m.nodes c.send.new.nodes v w in
    record {
      counted = c.send.ensures.rest.count ∙ m.counted;
      unfailed = m.unfailed;
      follows = sends_follow_on P c.args.link c.args.packet.now c.send.result m.nodes c.send.new.nodes m.faults c.send.new.faults (map line_of m.loaded.items) v w c.send.ensures.ok c.send.ensures.err m.follows;
      earlier = later_earlier m.links m.faults c.send.new.faults (sends_fall P c.args.link c.args.packet.now c.send.result m.nodes c.send.new.nodes m.faults c.send.new.faults v w c.send.ensures.ok c.send.ensures.err) m.earlier;
    }

pub returns-in_err-send-clause-err : goal.returns-in_err-send-clause-err
returns-in_err-send-clause-err c =
    let m = c.args.self.now in
    let v = c.in-Some.write.now in
    let w = c.send.new.self in
    let s' : MemLinks = record m.links { writes = with_value m.links.writes c.args.link w } in
    let was = sym c.in-Some.ensures.value in
    let updates = written_write m.links c.args.link v w was in
    let e = c.in_err-send.ensures.err in
    let p = err_from_is_err_and c.from_residual.result c.from_residual.ensures.1 in
    rw (p.1, p.2) (not_sent m.space m.config.settings m.last m.calls (map line_of m.loaded.items) m.faults c.send.new.faults (falls_same m.faults c.send.new.faults e.1) m.nodes c.send.new.nodes m.links s' e.0.held (links_unsent m.nodes c.send.new.nodes m.links s' c.args.link v w was updates e.0) link_faults.NoMemory refl c.args.link c.args.packet.now)

pub returns-in_err-send-clause-asks : goal.returns-in_err-send-clause-asks
returns-in_err-send-clause-asks c =
    let m = c.args.self.now in
    let p = err_from_is_err_and c.from_residual.result c.from_residual.ensures.1 in
    rw (p.1, p.2) (asks_no_send m _ c.args.link (write_told (write_at m.links c.args.link)) (Err link_faults.NoMemory) c.send.ensures.rest c.in_err-send.ensures.err.1 refl refl)

pub returns-in_err-send-clause-unsent : goal.returns-in_err-send-clause-unsent
returns-in_err-send-clause-unsent c =
    let m = c.args.self.now in
    let v = c.in-Some.write.now in
    let w = c.send.new.self in
    let s' : MemLinks = record m.links { writes = with_value m.links.writes c.args.link w } in
    let was = sym c.in-Some.ensures.value in
    let updates = written_write m.links c.args.link v w was in
    let e = c.in_err-send.ensures.err in
    on_err c.from_residual.result (still_picture m.space m.config.settings m.last m.calls (map line_of m.loaded.items) m.faults c.send.new.faults (falls_same m.faults c.send.new.faults e.1) m.nodes c.send.new.nodes m.links s' e.0.held (links_unsent m.nodes c.send.new.nodes m.links s' c.args.link v w was updates e.0))

pub returns-then-branch-clause-unsent : goal.returns-then-branch-clause-unsent
returns-then-branch-clause-unsent c =
    let m = c.args.self.now in
    let v = c.in-Some.write.now in
    let w = c.send.new.self in
    let s' : MemLinks = record m.links { writes = with_value m.links.writes c.args.link w } in
    let was = sym c.in-Some.ensures.value in
    let updates = written_write m.links c.args.link v w was in
    let broke = subst (λ (b : Bool). SendsOn c.args.link c.args.packet.now b (among m.nodes m.faults v) (among c.send.new.nodes c.send.new.faults w)) c.if-branch.true c.in_ok-send.ensures.ok in
    still_picture m.space m.config.settings m.last m.calls (map line_of m.loaded.items) m.faults m.faults (falls_refl m.faults) m.nodes c.send.new.nodes m.links s' broke.0.held (links_unsent m.nodes c.send.new.nodes m.links s' c.args.link v w was updates broke.0)

pub returns-then-branch-clause-err : goal.returns-then-branch-clause-err
returns-then-branch-clause-err c =
    let m = c.args.self.now in
    let v = c.in-Some.write.now in
    let w = c.send.new.self in
    let s' : MemLinks = record m.links { writes = with_value m.links.writes c.args.link w } in
    let was = sym c.in-Some.ensures.value in
    let updates = written_write m.links c.args.link v w was in
    let broke = subst (λ (b : Bool). SendsOn c.args.link c.args.packet.now b (among m.nodes m.faults v) (among c.send.new.nodes c.send.new.faults w)) c.if-branch.true c.in_ok-send.ensures.ok in
    broke_on m.space m.config.settings m.last m.calls (map line_of m.loaded.items) m.faults c.send.new.faults m.nodes c.send.new.nodes m.links s' c.args.link c.args.packet.now v w was updates broke

pub returns-then-branch-clause-asks : goal.returns-then-branch-clause-asks
returns-then-branch-clause-asks c =
    let m = c.args.self.now in
    let v = c.in-Some.write.now in
    let w = c.send.new.self in
    let was = sym c.in-Some.ensures.value in
    asks_send m _ c.args.link c.args.packet.now c.in_ok-send.field-0 (Err link_faults.Broken) v w was c.in_ok-send.ensures.ok c.send.ensures.rest refl c.if-branch.true

pub returns-clause-ok : goal.returns-clause-ok
returns-clause-ok c =
    let m = c.args.self.now in
    let v = c.in-Some.write.now in
    let w = c.send.new.self in
    let s' : MemLinks = record m.links { writes = with_value m.links.writes c.args.link w } in
    let was = sym c.in-Some.ensures.value in
    let updates = written_write m.links c.args.link v w was in
    let sent = subst (λ (b : Bool). SendsOn c.args.link c.args.packet.now b (among m.nodes m.faults v) (among c.send.new.nodes c.send.new.faults w)) c.if-branch.false c.in_ok-send.ensures.ok in
    sent_on m.space m.config.settings m.last m.calls (map line_of m.loaded.items) m.faults c.send.new.faults m.nodes c.send.new.nodes m.links s' c.args.link c.args.packet.now v w was updates sent

pub returns-clause-asks : goal.returns-clause-asks
returns-clause-asks c =
    let m = c.args.self.now in
    let v = c.in-Some.write.now in
    let w = c.send.new.self in
    let was = sym c.in-Some.ensures.value in
    asks_send m _ c.args.link c.args.packet.now c.in_ok-send.field-0 (Ok tt) v w was c.in_ok-send.ensures.ok c.send.ensures.rest refl c.if-branch.false
