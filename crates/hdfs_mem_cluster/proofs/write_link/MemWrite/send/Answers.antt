-- A packet is sent to all datanodes, or the connection breaks and none of them has it.
use Rattle.std.proofs.Common.{◌≡◌, Bool, ◌&&◌, cond, eqb, List, ℕ, [], ◌∷◌, ◌++◌, refl, ◌∙◌, ap, subst, rules}
use Rattle.std.specs.List.{slice_index_or}
use Rattle.hdfs_wire.specs.Outgoing.{Outgoing}
use Rattle.hdfs_cluster.specs.declared.messages.DatanodeInfo.{DatanodeInfo}
use Rattle.hdfs_cluster.specs.Sending.{offset_of, uuids}
use Rattle.hdfs_mem_faults.specs.Plans.{Counts}
use Rattle.hdfs_mem_faults.specs.Series.{sends_to}
use Rattle.hdfs_mem_datanodes.specs.Nodes.{held_in, whole_in, undisturbed_in, is_named, is_on}
use Rattle.hdfs_mem_cluster.proofs.Puts.{puts_packet}
use Rattle.hdfs_mem_cluster.proofs.write_link.MemWrite.send.Goals as goal

pub returns-then-send-clause-ok : goal.returns-then-send-clause-ok
returns-then-send-clause-ok c =
    let faults = c.args.faults.now in
    let first = c.first.ensures ∙ ap (λ (xs : List DatanodeInfo). slice_index_or (uuids xs) 0 []) c.as_slice-locs.ensures in
    let counts = subst (λ (u : List ℕ). Counts faults (sends_to u) c.send.result c.send.new.self) first c.send.ensures in (
      record { same = record { setup = refl; base = refl; responses = refl; acknowledged = refl }; sent = c.reserve.ensures.items; held = c.offer_all.ensures.same },
      subst (λ (b : Bool). Counts faults (sends_to (slice_index_or (uuids c.args.self.now.setup.locs) 0 [])) b c.send.new.self) c.if-send.true counts,
    )

pub returns-clause-ok : goal.returns-clause-ok
returns-clause-ok c =
    let v = c.args.self.now in
    let faults = c.args.faults.now in
    let mid = c.offer_all.new.self in
    let new = c.take_all.new.self in
    let block = v.setup.block.block_id in
    let packet = c.args.packet.now in
    let locs = c.as_slice-locs.ensures in
    let is_at : c.offset_of-at.result ≡ offset_of packet.header.offset_in_block = search rules in
    let is_payload : c.in_ok-bytes.bytes ≡ packet.payload = search rules in
    let first = c.first.ensures ∙ ap (λ (xs : List DatanodeInfo). slice_index_or (uuids xs) 0 []) locs in
    let counts = subst (λ (u : List ℕ). Counts faults (sends_to u) c.send.result c.send.new.self) first c.send.ensures in
    let puts = puts_packet v.setup c.args.link packet c.args.nodes.now mid new c.offset_of-at.result c.in_ok-bytes.bytes is_at is_payload
    (λ d named. c.in_ok-offer_all.ensures.offered d (ap (λ (xs : List DatanodeInfo). is_named xs d) locs ∙ named)) c.offer_all.ensures.same
    (λ d b. c.take_all.ensures.bytes d b ∙ ap (λ (xs : List DatanodeInfo). cond (is_on xs block d b) (whole_in mid d b) (held_in mid d b)) locs)
    (λ d b other. c.take_all.ensures.links d b other
    ∙ ap (λ (xs : List DatanodeInfo). cond (is_on xs block d b) (undisturbed_in mid d b other && eqb c.args.link other) (undisturbed_in mid d b other)) locs) in (
      record {
        same = record { setup = refl; base = refl; responses = refl; acknowledged = refl };
        sent = c.push_reserved.ensures.items ∙ ap (λ (xs : List Outgoing). xs ++ c.of.result ∷ []) c.reserve.ensures.items ∙ ap (λ (x : Outgoing). v.sent.items ++ x ∷ []) c.of.ensures;
        puts = puts;
      },
      subst (λ (b : Bool). Counts faults (sends_to (slice_index_or (uuids v.setup.locs) 0 [])) b c.send.new.self) c.if-send.false counts,
    )
