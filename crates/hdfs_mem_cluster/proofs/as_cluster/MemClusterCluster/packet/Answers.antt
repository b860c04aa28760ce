-- The next packet of a read comes as it is planned to, and only its datanode's count may rise.
use Rattle.std.proofs.Common.{map, sym}
use Rattle.slab.specs.Slab.{with_value}
use Rattle.hdfs_mem_cluster.specs.declared.mem_links.MemLinks.{MemLinks}
use Rattle.hdfs_mem_cluster.specs.Lines.{line_of}
use Rattle.hdfs_mem_datanodes.proofs.Pipelines.{same_nodes_refl}
use Rattle.hdfs_mem_cluster.proofs.Giving.{gives_earlier, gives_none, gives_packet}
use Rattle.hdfs_mem_cluster.proofs.Places.{written_read}
use Rattle.hdfs_mem_cluster.proofs.AskingReads.{asks_told, gives_follow, never_refuses}
use Rattle.hdfs_mem_cluster.proofs.as_cluster.MemClusterCluster.packet.Goals as goal

pub give-requires-clause-never : goal.give-requires-clause-never
give-requires-clause-never c = never_refuses c.args.self.now.faults (map line_of c.args.self.now.loaded.items) c.args.self.now.follows

pub invariant_of-self : goal.invariant_of-self
invariant_of-self c =
    let m = c.args.self.now in
    let v = c.in-Some.read.now in
    let w = c.give.new.self in
    let s' : MemLinks = record m.links { reads = with_value m.links.reads c.args.link w } in
    let was = sym c.in-Some.ensures.value in
    let updates = written_read m.links c.args.link v w was in
    record {
      counted = m.counted;
      unfailed = m.unfailed;
      follows = gives_follow m.faults c.give.new.faults (map line_of m.loaded.items) v w c.give.result c.give.ensures m.follows;
      earlier = gives_earlier m.space m.config.settings m.last m.calls (map line_of m.loaded.items) m.faults c.give.new.faults m.nodes m.links s' c.args.link v w was updates m.earlier c.give.result c.give.ensures;
    }

pub returns-clause-ok : goal.returns-clause-ok
returns-clause-ok c =
    let m = c.args.self.now in
    let v = c.in-Some.read.now in
    let w = c.give.new.self in
    let s' : MemLinks = record m.links { reads = with_value m.links.reads c.args.link w } in
    let was = sym c.in-Some.ensures.value in
    let updates = written_read m.links c.args.link v w was in
    gives_packet m.space m.config.settings m.last m.calls (map line_of m.loaded.items) m.faults c.give.new.faults m.nodes m.links s' c.args.link v w was updates m.earlier c.give.result c.give.ensures

pub returns-clause-err : goal.returns-clause-err
returns-clause-err c =
    let m = c.args.self.now in
    let v = c.in-Some.read.now in
    let w = c.give.new.self in
    let s' : MemLinks = record m.links { reads = with_value m.links.reads c.args.link w } in
    let was = sym c.in-Some.ensures.value in
    let updates = written_read m.links c.args.link v w was in
    gives_none m.space m.config.settings m.last m.calls (map line_of m.loaded.items) m.faults c.give.new.faults m.nodes m.links s' c.args.link v w was updates m.earlier c.give.result c.give.ensures

pub returns-clause-asks : goal.returns-clause-asks
returns-clause-asks c =
    let m = c.args.self.now in
    let v = c.in-Some.read.now in
    let w = c.give.new.self in
    let was = sym c.in-Some.ensures.value in
    asks_told m _ c.args.link v w was (same_nodes_refl m.nodes) c.give.result c.give.ensures
