-- A pipeline is set up in a slot that was vacant, or the set-up fails.
use Rattle.std.proofs.Common.{◌≡◌, ℕ, Some, None, map, refl, sym, ◌∙◌, ap, subst}
use Rattle.slab.specs.Slab as slab
use Rattle.slab.specs.Slab.{Slab, Updates}
use Rattle.hdfs_cluster.specs.Pipes.{WriteOpened}
use Rattle.hdfs_mem_cluster.specs.declared.mem_links.MemLinks.{MemLinks}
use Rattle.hdfs_mem_cluster.specs.declared.write_link.MemWrite.{MemWrite}
use Rattle.hdfs_mem_cluster.specs.Lines.{line_of}
use Rattle.hdfs_mem_cluster.specs.Links.{write_told}
use Rattle.hdfs_mem_cluster.specs.SettingUp.{blamed}
use Rattle.hdfs_mem_cluster.proofs.Earlier.{later_earlier}
use Rattle.hdfs_mem_cluster.proofs.Places.{changes_write}
use Rattle.hdfs_mem_cluster.proofs.SettingUp.{asks_failed, asks_opened, counts_fall, counts_follow, counts_rose}
use Rattle.hdfs_mem_cluster.proofs.Stills.{shown_at}
use Rattle.hdfs_mem_cluster.proofs.Writing.{opened_write, not_opened_write}
use Rattle.hdfs_mem_cluster.proofs.as_cluster.MemClusterCluster.open_write.Goals as goal

-- ---- it failed

pub invariant_of-self-in-Err-1 : goal.invariant_of-self-in-Err-1
invariant_of-self-in-Err-1 c =
    let m = c.args.self.now in
    let e = c.enter-entered in
    let counts = c.in-Err.ensures.counts in
    record {
      counted = e.ensures.rest.count ∙ m.counted;
      unfailed = m.unfailed;
      follows = counts_follow m.faults e.new.faults c.vacant_key-link.result (blamed c.args.setup) (Some c.in-Err.fault) counts (map line_of m.loaded.items) m.follows;
      earlier = later_earlier m.links m.faults e.new.faults (counts_fall m.faults e.new.faults c.vacant_key-link.result (blamed c.args.setup) (Some c.in-Err.fault) counts) m.earlier;
    }

pub returns-in-Err-clause-err : goal.returns-in-Err-clause-err
returns-in-Err-clause-err c =
    let m = c.args.self.now in
    let e = c.enter-entered in
    let counts = c.in-Err.ensures.counts in
    not_opened_write m.space m.config.settings m.last m.calls (map line_of m.loaded.items) m.faults e.new.faults m.nodes e.new.nodes m.links (record m.links { writes = e.new.writes }) c.vacant_key-link.result c.args.setup c.in-Err.fault
    (counts_fall m.faults e.new.faults c.vacant_key-link.result (blamed c.args.setup) (Some c.in-Err.fault) counts) c.vacant_key-link.ensures.vacant (record { reads = λ l. refl; writes = λ l. ap (λ s. slab.get s l) e.ensures.slots }) e.ensures.others e.ensures.bytes
    (counts_rose m.faults e.new.faults c.vacant_key-link.result (blamed c.args.setup) c.in-Err.fault counts)

pub returns-in-Err-clause-asks : goal.returns-in-Err-clause-asks
returns-in-Err-clause-asks c =
    asks_failed c.args.self.now _ c.args.setup c.vacant_key-link.result c.enter-entered.ensures.rest (ap write_told c.vacant_key-link.ensures.vacant) c.in-Err.fault c.in-Err.ensures.counts

-- ---- it didn't

pub invariant_of-self : goal.invariant_of-self
invariant_of-self c =
    let m = c.args.self.now in
    let e = c.enter-entered in
    let counts = c.in-Ok.ensures.counts in
    record {
      counted = e.ensures.rest.count ∙ m.counted;
      unfailed = m.unfailed;
      follows = counts_follow m.faults e.new.faults c.vacant_key-link.result (blamed c.args.setup) None counts (map line_of m.loaded.items) m.follows;
      earlier = later_earlier m.links m.faults e.new.faults (counts_fall m.faults e.new.faults c.vacant_key-link.result (blamed c.args.setup) None counts) m.earlier;
    }

pub returns-in-Ok-clause-ok : goal.returns-in-Ok-clause-ok
returns-in-Ok-clause-ok c =
    let m = c.args.self.now in
    let e = c.enter-entered in
    let w = c.new-write.result in
    let key = c.vacant_key-link.result in
    let same : key ≡ c.insert_reserved.result = c.vacant_key-link.ensures.value ∙ sym (c.insert_reserved.ensures.key ∙ ap (λ (s : Slab MemWrite). s.vacant_key) e.ensures.slots) in
    let reserved : Updates e.new.writes c.insert_reserved.new.self key (Some w) = subst (λ (l : ℕ). Updates e.new.writes c.insert_reserved.new.self l (Some w)) (sym same) c.insert_reserved.ensures.updates in
    let updates : Updates m.links.writes c.insert_reserved.new.self key (Some w) = record { changed = reserved.changed; others = λ l apart. reserved.others l apart ∙ ap (λ s. slab.get s l) e.ensures.slots } in
    let s' : MemLinks = record m.links { writes = c.insert_reserved.new.self } in
    subst (λ (l : ℕ). WriteOpened (shown_at m.space m.config.settings m.last m.calls (map line_of m.loaded.items) m.faults m.nodes m.links) c.args.setup l (shown_at m.space m.config.settings m.last m.calls (map line_of m.loaded.items) e.new.faults e.new.nodes s')) same
    (opened_write m.space m.config.settings m.last m.calls (map line_of m.loaded.items) m.faults e.new.faults (counts_fall m.faults e.new.faults key (blamed c.args.setup) None c.in-Ok.ensures.counts) m.nodes e.new.nodes m.links s' key w (changes_write m.links c.insert_reserved.new.self key (Some w) updates)
    c.args.setup c.vacant_key-link.ensures.vacant c.new-write.ensures.setup c.new-write.ensures.sent c.new-write.ensures.responses c.new-write.ensures.acknowledged
    (c.new-write.ensures.base ∙ c.in-Ok.ensures.base) c.in-Ok.ensures.entered e.ensures.others e.ensures.bytes)

pub returns-in-Ok-clause-asks : goal.returns-in-Ok-clause-asks
returns-in-Ok-clause-asks c =
    let m = c.args.self.now in
    let e = c.enter-entered in
    let same : c.insert_reserved.result ≡ c.vacant_key-link.result = c.insert_reserved.ensures.key ∙ ap (λ (s : Slab MemWrite). s.vacant_key) e.ensures.slots ∙ sym c.vacant_key-link.ensures.value in
    asks_opened m _ c.args.setup c.vacant_key-link.result e.ensures.rest (ap write_told c.vacant_key-link.ensures.vacant) c.insert_reserved.result same c.in-Ok.ensures.counts
