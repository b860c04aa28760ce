-- What the links show where a slot or a datanode changes.
use Rattle.std.proofs.Common.{◌≡◌, ◌≢◌, ⊎_elim, ℕ, ◌<◌, Bool, List, [], ◌∷◌, length, get_or, Option, Some, None, not, zero, suc, refl, sym, ◌∙◌, ap, subst, arith}
use Rattle.std.proofs.Math.Path.{fun_ext}
use Rattle.std.proofs.lemmas.Bool.{cases_eq}
use Rattle.std.proofs.lemmas.List.{get_or-set_same, get_or-set_other}
use Rattle.slab.specs.Slab as slab
use Rattle.slab.specs.Slab.{Slab, Updates, with_value}
use Rattle.hdfs_wire.specs.declared.ack.Ack.{Ack}
use Rattle.hdfs_wire.specs.Outgoing.{Outgoing}
use Rattle.hdfs_cluster.specs.Sending.{uuids}
use Rattle.hdfs_cluster.specs.declared.messages.Setup.{Setup}
use Rattle.hdfs_mem_datanodes.specs.declared.datanodes.Datanodes.{Datanodes}
use Rattle.hdfs_mem_datanodes.specs.Nodes.{undisturbed_in}
use Rattle.hdfs_mem_cluster.specs.declared.mem_links.MemLinks.{MemLinks}
use Rattle.hdfs_mem_cluster.specs.declared.read_link.MemRead.{MemRead}
use Rattle.hdfs_mem_cluster.specs.declared.write_link.MemWrite.{MemWrite}
use Rattle.hdfs_mem_cluster.specs.Links.{read_at, write_at, write_place, ChangesRead, ChangesWrite}
use Rattle.hdfs_mem_cluster.specs.Writes.{told_at, told_of, place_at, place_of, disturbed_at}

past_none : {X : Type 0} (slots : List (Option X)) (key : ℕ) (v : X) → get_or slots key None ≡ Some v → key < length slots
past_none [] key v is = absurd (cc)
past_none (slot ∷ slots) zero v is = omega arith
past_none (slot ∷ slots) (suc key) v is = omega (arith, past_none slots key v is)

-- a value written at a key that has one
updates_with : {X : Type 0} (s : Slab X) (key : ℕ) (v w : X) → slab.get s key ≡ Some v → Updates s (with_value s key w) key (Some w)
updates_with s key v w was =
    let within : key < length s.slots = past_none s.slots key v was in
    record { changed = get_or-set_same s.slots key (Some w) None within; others = λ other apart. get_or-set_other s.slots key other (Some w) None apart }

-- what is shown at a number whose link changes to one that shows the same, and at each other one, stays
pub link_stays : {X Y : Type 0} (f : ℕ → Option X → Y) (look after : ℕ → Option X) (link : ℕ) (v w : Option X) → look link ≡ v → after link ≡ w → ((l : ℕ) → l ≢ link → after l ≡ look l) → f link w ≡ f link v → (l : ℕ) → f l (after l) ≡ f l (look l)
link_stays {X} {Y} f look after link v w was now others same l =
    ⊎_elim
    (λ is. (let here : f link (after link) ≡ f link (look link) = ap (f link) now ∙ same ∙ sym (ap (f link) was) in
    subst (λ (k : ℕ). f k (after k) ≡ f k (look k)) (sym is) here))
    (λ apart. ap (f l) (others l apart))
    (cases_eq l link)

-- what stands at one key of the reads changes, and nothing else
pub changes_read : (links : MemLinks) (reads : Slab MemRead) (link : ℕ) (slot : Option MemRead) → Updates links.reads reads link slot → ChangesRead links (record links { reads = reads }) link slot
changes_read links reads link slot updates = record { changed = updates.changed; others = updates.others; writes = λ l. refl }

-- the same of writes
pub changes_write : (links : MemLinks) (writes : Slab MemWrite) (link : ℕ) (slot : Option MemWrite) → Updates links.writes writes link slot → ChangesWrite links (record links { writes = writes }) link slot
changes_write links writes link slot updates = record { changed = updates.changed; others = updates.others; reads = λ l. refl }

-- a read is written back at its key
pub written_read : (links : MemLinks) (link : ℕ) (v w : MemRead) → read_at links link ≡ Some v → ChangesRead links (record links { reads = with_value links.reads link w }) link (Some w)
written_read links link v w was = changes_read links (with_value links.reads link w) link (Some w) (updates_with links.reads link v w was)

-- so is a write
pub written_write : (links : MemLinks) (link : ℕ) (v w : MemWrite) → write_at links link ≡ Some v → ChangesWrite links (record links { writes = with_value links.writes link w }) link (Some w)
written_write links link v w was = changes_write links (with_value links.writes link w) link (Some w) (updates_with links.writes link v w was)

-- a write link is shown alike where it is disturbed at the same datanodes
pub place_same_for : (nodes nodes' : Datanodes) (l : ℕ) (write : MemWrite) → ((d : List ℕ) → undisturbed_in nodes' d write.setup.block.block_id l ≡ undisturbed_in nodes d write.setup.block.block_id l) → place_of nodes' l write ≡ place_of nodes l write
place_same_for nodes nodes' l write same =
    ap (λ (f : ℕ → Bool). place_at f write.setup write.base.items write.sent.items write.responses.items write.acknowledged) (fun_ext (λ i. ap not (same (get_or (uuids write.setup.locs) i []))))

pub place_same_at : (nodes nodes' : Datanodes) (l : ℕ) → ((d : List ℕ) (b : ℕ) → undisturbed_in nodes' d b l ≡ undisturbed_in nodes d b l) → (slot : Option MemWrite) → write_place nodes' l slot ≡ write_place nodes l slot
place_same_at nodes nodes' l same None = refl
place_same_at nodes nodes' l same (Some write) = ap Some (place_same_for nodes nodes' l write (λ d. same d write.setup.block.block_id))

pub place_same : (nodes nodes' : Datanodes) → ((d : List ℕ) (b link : ℕ) → undisturbed_in nodes' d b link ≡ undisturbed_in nodes d b link) → (l : ℕ) (slot : Option MemWrite) → write_place nodes' l slot ≡ write_place nodes l slot
place_same nodes nodes' same l = place_same_at nodes nodes' l (λ d b. same d b l)

-- nothing of a write link changed that is shown
module _ (v w : MemWrite) (setup : w.setup ≡ v.setup) (base : w.base ≡ v.base) (sent : w.sent.items ≡ v.sent.items) (responses : w.responses.items ≡ v.responses.items) (acknowledged : w.acknowledged ≡ v.acknowledged) where
  pub told_kept : told_of w ≡ told_of v
  told_kept =
      ap (λ (x : Setup). told_at x w.sent.items w.acknowledged) setup
      ∙ ap (λ (x : List Outgoing). told_at v.setup x w.acknowledged) sent
      ∙ ap (told_at v.setup v.sent.items) acknowledged

  pub place_kept : (nodes : Datanodes) (link : ℕ) → place_of nodes link w ≡ place_of nodes link v
  place_kept nodes link =
      ap (λ (x : Setup). place_at (λ i. disturbed_at nodes link x i) x w.base.items w.sent.items w.responses.items w.acknowledged) setup
      ∙ ap (λ b. place_at (λ i. disturbed_at nodes link v.setup i) v.setup b.items w.sent.items w.responses.items w.acknowledged) base
      ∙ ap (λ (x : List Outgoing). place_at (λ i. disturbed_at nodes link v.setup i) v.setup v.base.items x w.responses.items w.acknowledged) sent
      ∙ ap (λ (x : List Ack). place_at (λ i. disturbed_at nodes link v.setup i) v.setup v.base.items v.sent.items x w.acknowledged) responses
      ∙ ap (place_at (λ i. disturbed_at nodes link v.setup i) v.setup v.base.items v.sent.items v.responses.items) acknowledged
