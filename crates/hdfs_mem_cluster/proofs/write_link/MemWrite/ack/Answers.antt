-- All datanodes are told, and the packet that is due is acknowledged unless the acknowledgement is bad.
use Rattle.std.proofs.Common.{◌≡◌, ℕ, ℤ, List, [], ◌∷◌, ◌++◌, sym, ◌∙◌, ap, subst, rules, to_z-of_z, SFits, w64, of_z, to_z}
use Rattle.hdfs_wire.specs.declared.ack.Ack.{Ack}
use Rattle.hdfs_cluster.specs.declared.messages.DatanodeInfo.{DatanodeInfo}
use Rattle.hdfs_cluster.specs.Sending.{uuids}
use Rattle.hdfs_mem_faults.specs.Plans.{fails_at}
use Rattle.hdfs_mem_cluster.specs.Telling.{TellsAll}
use Rattle.hdfs_mem_cluster.proofs.write_link.MemWrite.ack.Goals as goal

-- an acknowledgement by its parts
abbrev ack_with : ℤ → List ℕ → Ack
ack_with seqno replies = record { seqno = seqno; replies = replies }

pub returns-clause-ok : goal.returns-clause-ok
returns-clause-ok c =
    let v = c.args.self.now in
    let faults = c.args.faults.now in
    let statuses = c.tell_all.new.statuses.items in
    let seqno = c.acknowledge-seqno.result in
    let took = c.acknowledge-seqno.ensures.seqno in
    let fits : SFits w64 seqno = search rules in
    let whole : to_z w64 (of_z w64 seqno) ≡ seqno = to_z-of_z fits in
    let kept : c.from_vec.result ≡ c.from_vec-2.result = c.from_vec.ensures ∙ c.copy_all.ensures ∙ c.deref.ensures.value ∙ sym c.from_vec-2.ensures in
    let told = subst (λ (xs : List DatanodeInfo). TellsAll (fails_at faults) faults (uuids xs) statuses c.tell_all.new.faults) c.as_slice-locs.ensures c.tell_all.ensures.tells in
    record {
      told = c.tell_all.new.faults;
      tells = subst (λ (ss : List ℕ). TellsAll (fails_at faults) faults (uuids v.setup.locs) ss c.tell_all.new.faults) (sym c.from_vec-2.ensures) told;
      goes_on = c.tell_all.ensures.goes_on;
      links = c.tell_all.ensures.links;
      bad = c.bad_ack.result;
      takes = c.bad_ack.ensures;
      seqno = record {
        setup = took.setup;
        base = took.base;
        sent = took.sent;
        taken = λ good. (λ d. whole ∙ (took.taken good).0 d, (took.taken good).1);
        left = λ bad. (λ d same. (took.left bad).0 d (sym whole ∙ same), (took.left bad).1);
      };
      responses = c.push_reserved.ensures.items
          ∙ ap (λ (xs : List Ack). xs ++ ack_with (to_z w64 (of_z w64 seqno)) c.from_vec.result ∷ []) (ap (λ rs. rs.items) c.acknowledge-seqno.ensures.responses ∙ c.reserve.ensures.items)
          ∙ ap (λ (rs : List ℕ). v.responses.items ++ ack_with (to_z w64 (of_z w64 seqno)) rs ∷ []) kept;
    }
