-- The goals of FileWriter::refuse: no block is being written, so that no call touches a datanode.
use Rattle.std.proofs.Common.{[], refl, ap, sym, subst, ◌∙◌}
use Rattle.std.proofs.lemmas.Bool.{false≢true}
use Rattle.hdfs_cluster.specs.Shown.{SameNodes, Shown}
use Rattle.hdfs_namenode.specs.Clients.{proxy_of}
use Rattle.hdfs_namenode.specs.Views.{see, view_of}
use Rattle.hdfs_file_writer.specs.Tails.{HasRoom}
use Rattle.hdfs_file_writer.specs.declared.tails.Tail.TheVariants.{Reopened}
use Rattle.hdfs_file_writer.proofs.Joining.{keeps_refl, wrote_nothing, refused}
use Rattle.hdfs_file_writer.proofs.Standing.{encrypted_none, full_without_room}
use Rattle.hdfs_file_writer.proofs.Seeing.{adds_behind, fails_behind, keeps_behind, wrote_behind}
use Rattle.hdfs_file_writer.proofs.LastBlocks.{no_link, no_room}
use Rattle.hdfs_file_writer.proofs.file_writer.FileWriter.refuse.Goals as goal

pub returns-then-goes_on-clause-fails : goal.returns-then-goes_on-clause-fails
returns-then-goes_on-clause-fails g c = λ view has.
    let s = g.C.Cluster.shown c.args.cluster.now in
    let w = c.args.self.now in
    refused (see view s) (see view s) w w (wrote_nothing (see view s) w)
    (no_link w.tail (encrypted_none s w c.requires.may.stands c.requires.encrypted)) (λ d. refl) c.requires.encrypted

pub next_block-requires-clause-adds : goal.next_block-requires-clause-adds
next_block-requires-clause-adds g c =
    let s = g.C.Cluster.shown c.args.cluster.now in
    let w = c.args.self.now in
    let none : HasRoom w.tail → ⊥ = no_room w.tail (encrypted_none s w c.requires.may.stands c.requires.encrypted) in
    adds_behind g.C.Cluster.shown c.args.cluster.now c.finish_block.new.cluster c.finish_block.ensures.keeps.2
    refl c.in-Ok.ensures.wrote g.C.Cluster.allows g.C.Cluster.may_answer
    c.requires.may.service c.requires.may.allowed c.in-Ok.ensures.answered c.in-Ok.ensures.between.1 (full_without_room s w c.requires.may.stands c.requires.fine none (λ on. false≢true (sym c.if-goes_on.false ∙ c.goes_on.ensures.1 on)))

pub returns-in-Ok-next_block-clause-fails : goal.returns-in-Ok-next_block-clause-fails
returns-in-Ok-next_block-clause-fails g c = λ view has.
    let s = g.C.Cluster.shown c.args.cluster.now in
    let t = g.C.Cluster.shown c.next_block.new.cluster in
    let w = c.args.self.now in
    let y = record c.finish_block.new.self { tail = Reopened c.in-Ok-next_block.located } in
    let idle = encrypted_none s w c.requires.may.stands c.requires.encrypted in
    let unchanged = c.finish_block.ensures.idle idle in
    let adds = c.in-Ok-next_block.ensures.adds in
    refused (see view s) (see view t) w y
    (wrote_behind g.C.Cluster.shown c.args.cluster.now c.finish_block.new.cluster c.finish_block.ensures.keeps.2 refl c.in-Ok.ensures.wrote
    c.next_block.new.cluster [] y (λ view has. (adds view has).wrote) view has)
    refl
    (subst (λ (a : Shown). SameNodes a t) (ap g.C.Cluster.shown unchanged) (adds (view_of (proxy_of c.finish_block.new.namenode)) (refl, refl)).nodes)
    c.requires.encrypted

pub returns-in-Ok-next_block-clause-keeps : goal.returns-in-Ok-next_block-clause-keeps
returns-in-Ok-next_block-clause-keeps g c =
    keeps_behind g.C.Cluster.shown c.args.cluster.now c.finish_block.new.cluster c.finish_block.ensures.keeps.2
    refl c.in-Ok.ensures.wrote c.finish_block.new.self c.next_block.new.namenode
    (keeps_refl c.finish_block.new.self, c.next_block.ensures.client)

pub returns-in-Err-next_block-clause-fails : goal.returns-in-Err-next_block-clause-fails
returns-in-Err-next_block-clause-fails g c = λ view has.
    (fails_behind g.C.Cluster.shown c.args.cluster.now c.finish_block.new.cluster c.finish_block.ensures.keeps.2
    refl c.in-Ok.ensures.wrote c.next_block.new.cluster c.in-Err-next_block.error c.in-Err-next_block.ensures.err
    view has).fails

pub returns-in-Err-next_block-clause-keeps : goal.returns-in-Err-next_block-clause-keeps
returns-in-Err-next_block-clause-keeps g c =
    keeps_behind g.C.Cluster.shown c.args.cluster.now c.finish_block.new.cluster c.finish_block.ensures.keeps.2
    refl c.in-Ok.ensures.wrote c.finish_block.new.self c.next_block.new.namenode
    (keeps_refl c.finish_block.new.self, c.next_block.ensures.client)
