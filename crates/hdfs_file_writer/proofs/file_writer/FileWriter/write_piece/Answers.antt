-- The goals of FileWriter::write_piece.
use Rattle.std.proofs.Common.{◌≡◌, ℕ, List, ◌-◌, length, take, refl, subst, arith}
use Rattle.std.proofs.lemmas.Result.{err_from_is_err_and}
use Rattle.hdfs_cluster.specs.Sound.{IsSound}
use Rattle.hdfs_namenode.specs.Clients.{proxy_of, name_of}
use Rattle.hdfs_namenode.specs.Views.{see, view_of}
use Rattle.hdfs_block_writer.specs.BlockWriters.{length_of, size_of}
use Rattle.hdfs_block_writer.specs.Written.{GoesOnAnswered}
use Rattle.hdfs_file_writer.specs.Tails.{HasRoom}
use Rattle.hdfs_file_writer.specs.declared.tails.Tail.TheVariants.{Going}
use Rattle.hdfs_file_writer.proofs.Allowed.{may_go_on, answered_going, answered_pipe, answered_with}
use Rattle.hdfs_file_writer.proofs.Seeing.{block_seen, itself_seen, shows_seen, stands_seen, stands_shown, fails_behind, keeps_behind, service_behind, wrote_behind}
use Rattle.hdfs_file_writer.proofs.Standing.{more_stands, more_wrote, gave_up_fails, within_size, min_some}
use Rattle.hdfs_file_writer.proofs.file_writer.FileWriter.write_piece.Goals as goal

pub write-requires : goal.write-requires
write-requires g c =
    let client = c.make_room.ensures.keeps.1 in
    let goes = c.in_ok-make_room.ensures.goes.0 in
    let stands = goes.stands.going c.in-Going.block c.in-Going.is in
    record {
      service = service_behind g.C.Cluster.shown c.args.cluster.now c.make_room.new.cluster c.make_room.ensures.keeps.1 refl c.in_ok-make_room.ensures.wrote c.requires.may.service;
      allowed =
          may_go_on g.C.Cluster.may_answer (name_of c.args.namenode.now) (name_of c.make_room.new.namenode) c.in-Going.block c.args.self.now
          c.make_room.new.self client.name c.make_room.ensures.keeps.0 stands (answered_going c.make_room.new.self c.in-Going.is goes.answered)
          c.requires.may.allowed.blocks;
      stands = stands.stands;
    }

pub returns-clause-goes : goal.returns-clause-goes
returns-clause-goes g c =
    let m = g.C.Cluster.shown c.make_room.new.cluster in
    let t = g.C.Cluster.shown c.write.new.cluster in
    let w = c.make_room.new.self in
    let w' = record w { tail = Going c.write.new.self } in
    let block = c.in-Going.block in
    let goes = c.in_ok-make_room.ensures.goes.0 in
    let view = view_of (proxy_of c.make_room.new.namenode) in
    let wrote = c.in_ok-taken.ensures.wrote view (refl, refl) in
    record {
      stands =
          stands_shown view t
          (more_stands (see view m) (see view t) (shows_seen view IsSound m (g.met.C.Cluster.sound c.make_room.new.cluster))
          (shows_seen view IsSound t (g.met.C.Cluster.sound c.write.new.cluster)) w block c.in-Going.is w' c.write.new.self
          (take c.in_ok-taken.taken c.args.bytes.now) (stands_seen view m goes.stands) goes.fine goes.fine
          (record { path = refl; file_id = refl; sizes = refl }) refl wrote (itself_seen view t c.write.new.self c.in_ok-taken.ensures.stands));
      fine = goes.fine;
      answered =
          answered_with w w' c.write.new.self (record { path = refl; file_id = refl; sizes = refl }) refl goes.answered
          (answered_pipe g.C.Cluster.may_answer (name_of c.args.namenode.now) w.path w.file_id (see view m) (see view t) block c.write.new.self
          (goes.stands.is_open goes.fine block c.in-Going.is) wrote.stays
          (subst (λ (name : List ℕ). GoesOnAnswered g.C.Cluster.may_answer name block c.write.new.self) c.make_room.ensures.keeps.1.name
          c.in_ok-taken.ensures.answered)
          (answered_going w c.in-Going.is goes.answered));
    }

pub returns-clause-count : goal.returns-clause-count
returns-clause-count g c =
    let block = c.in-Going.block in
    let within = within_size (g.C.Cluster.shown c.make_room.new.cluster) block (c.in_ok-make_room.ensures.goes.0.stands.going block c.in-Going.is).stands (c.in_ok-make_room.ensures.goes.0.stands.is_open c.in_ok-make_room.ensures.goes.0.fine block c.in-Going.is) in
    let apart : (length_of block ≡ size_of block) → ⊥ = subst HasRoom c.in-Going.is c.in_ok-make_room.ensures.goes.1 in
    min_some c.in_ok-taken.taken (length c.args.bytes.now) (size_of block - length_of block) c.in_ok-taken.ensures.count c.requires.bytes (omega (arith, within, apart))

pub returns-clause-wrote : goal.returns-clause-wrote
returns-clause-wrote g c =
    let m = g.C.Cluster.shown c.make_room.new.cluster in
    let t = g.C.Cluster.shown c.write.new.cluster in
    let w' = record c.make_room.new.self { tail = Going c.write.new.self } in
    let more = take c.in_ok-taken.taken c.args.bytes.now in
    let goes = c.in_ok-make_room.ensures.goes.0 in
    wrote_behind g.C.Cluster.shown c.args.cluster.now c.make_room.new.cluster c.make_room.ensures.keeps.1 refl c.in_ok-make_room.ensures.wrote c.write.new.cluster more w'
    (λ view has. more_wrote (see view m) (see view t) (shows_seen view IsSound m (g.met.C.Cluster.sound c.make_room.new.cluster))
    (shows_seen view IsSound t (g.met.C.Cluster.sound c.write.new.cluster)) c.make_room.new.self c.in-Going.block c.in-Going.is w' c.write.new.self more
    (stands_seen view m goes.stands) goes.fine (record { path = refl; file_id = refl; sizes = refl }) refl (c.in_ok-taken.ensures.wrote view has)
    (itself_seen view t c.write.new.self c.in_ok-taken.ensures.stands))

pub returns-in_err-taken-clause-err : goal.returns-in_err-taken-clause-err
returns-in_err-taken-clause-err g c =
    let p = err_from_is_err_and c.from_residual-in_err-taken.result c.from_residual-in_err-taken.ensures.1 in
    rw (p.1, p.2) (λ view has.
    let s = g.C.Cluster.shown c.args.cluster.now in
    let m = g.C.Cluster.shown c.make_room.new.cluster in
    let t = g.C.Cluster.shown c.write.new.cluster in
    let block = c.in-Going.block in
    let goes = c.in_ok-make_room.ensures.goes.0 in
    fails_behind g.C.Cluster.shown c.args.cluster.now c.make_room.new.cluster c.make_room.ensures.keeps.1 refl c.in_ok-make_room.ensures.wrote c.write.new.cluster c.in_err-taken.field-0.0
    (λ view has. gave_up_fails (see view m) (see view t) (shows_seen view IsSound m (g.met.C.Cluster.sound c.make_room.new.cluster))
    (shows_seen view IsSound t (g.met.C.Cluster.sound c.write.new.cluster)) c.make_room.new.self block c.in-Going.is (goes.stands.is_open goes.fine block c.in-Going.is)
    (block_seen view m (goes.stands.going block c.in-Going.is)) c.in_err-taken.field-0.0 (c.in_err-taken.ensures.err view has).gave_up) view has)

pub returns-clause-keeps : goal.returns-clause-keeps
returns-clause-keeps g c =
    keeps_behind g.C.Cluster.shown c.args.cluster.now c.make_room.new.cluster c.make_room.ensures.keeps.1 refl c.in_ok-make_room.ensures.wrote
    (record c.make_room.new.self { tail = Going c.write.new.self }) c.write.new.namenode (record { path = refl; file_id = refl; sizes = refl }, c.write.ensures.client)

pub returns-in_err-taken-clause-keeps : goal.returns-in_err-taken-clause-keeps
returns-in_err-taken-clause-keeps g c =
    keeps_behind g.C.Cluster.shown c.args.cluster.now c.make_room.new.cluster c.make_room.ensures.keeps.1 refl c.in_ok-make_room.ensures.wrote
    (record c.make_room.new.self { tail = Going c.write.new.self }) c.write.new.namenode (record { path = refl; file_id = refl; sizes = refl }, c.write.ensures.client)
