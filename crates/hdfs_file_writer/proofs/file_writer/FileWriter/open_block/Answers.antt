-- The goals of FileWriter::open_block.
use Rattle.std.proofs.Common.{inl, refl, sym, subst, arith}
use Rattle.std.proofs.lemmas.Result.{err_from_is_err_and}
use Rattle.hdfs_namenode.specs.Clients.{name_of}
use Rattle.hdfs_block_writer.specs.Packing.{setup_of}
use Rattle.hdfs_rebuild.specs.declared.block_plan.BlockPlan.{BlockPlan}
use Rattle.hdfs_block_writer.specs.BlockWriters.{IsToBegin}
use Rattle.hdfs_block_writer.specs.Written.{BeginsWhole, IsNew}
use Rattle.hdfs_file_writer.specs.Tails.{HasRoom}
use Rattle.hdfs_file_writer.specs.declared.tails.Tail.TheVariants.{Reopened}
use Rattle.hdfs_file_writer.specs.Writers.{plan_of}
use Rattle.hdfs_file_writer.proofs.Standing.{begun_stands, opened_wrote}
use Rattle.hdfs_file_writer.proofs.Allowed.{answered_new, answered_with, first_setup}
use Rattle.hdfs_cluster.specs.Requests.{IsAnsweredLocated, IsFirstSetup}
use Rattle.hdfs_file_writer.proofs.file_writer.FileWriter.open_block.Goals as goal

pub replicated-requires-clause-allowed : goal.replicated-requires-clause-allowed
replicated-requires-clause-allowed g c =
    let plan = c.in_ok-plan.plan in
    let client = name_of c.args.namenode.now in
    c.requires.allowed (setup_of plan client)
    (subst (λ (x : BlockPlan). IsFirstSetup c.args.created c.args.located client (setup_of x client)) (sym c.in_ok-plan.ensures)
    (first_setup c.args.self.now c.args.located c.args.created client))

pub replicated-requires-clause-plan : goal.replicated-requires-clause-plan
replicated-requires-clause-plan g c =
    let w = c.args.self.now in
    let sizes = c.requires.begins.sizes in
    subst (λ (x : BlockPlan). IsToBegin x w.sizes.rebuilding (record { block_size = w.sizes.block_size; packet_size = w.sizes.packet_size })) (sym c.in_ok-plan.ensures)
    (record {
      block = c.requires.located.block;
      rebuilds = omega arith;
      packets = sizes.packets.packet;
      window = sizes.packets.window;
      size = (omega (arith, c.requires.located.room), sizes.limited.below);
    })

pub returns-clause-goes : goal.returns-clause-goes
returns-clause-goes g c =
    let w = c.args.self.now in
    let plan = c.in_ok-plan.plan in
    let block = c.in_ok-block.block in
    let created = c.args.created in
    let new : IsNew (plan_of w c.args.located created) w.sizes.rebuilding w.sizes.block_size w.sizes.packet_size block =
    subst (λ (x : BlockPlan). IsNew x w.sizes.rebuilding w.sizes.block_size w.sizes.packet_size block) c.in_ok-plan.ensures c.in_ok-block.ensures.new in
    let room = c.requires.located.room in
    let w' = record w { tail = c.set.new.self } in
    let client = name_of c.args.namenode.now in (
      record {
        stands = begun_stands (g.C.Cluster.shown c.replicated.new.cluster) (g.C.Cluster.shown c.args.cluster.now) w w' block c.args.located created
            (setup_of plan (name_of c.args.namenode.now)) c.requires.begins.sizes c.requires.begins.plain c.requires.begins.fine
            (record { path = refl; file_id = refl; sizes = refl }) c.set.ensures c.in_ok-block.ensures.stands new c.in_ok-block.ensures.opened;
        fine = c.requires.begins.fine;
        answered =
            answered_with w w' block (record { path = refl; file_id = refl; sizes = refl }) c.set.ensures c.requires.answered
            (answered_new g.C.Cluster.may_answer client w.path w.file_id plan block c.in_ok-block.ensures.new
            (subst (λ (x : BlockPlan). IsAnsweredLocated g.C.Cluster.may_answer client w.path w.file_id x.created x.block) (sym c.in_ok-plan.ensures)
            c.requires.located.answered));
      },
      subst HasRoom (sym c.set.ensures) (λ full. absurd (omega (arith, full, new.length, new.block_size, room))),
    )

pub returns-clause-wrote : goal.returns-clause-wrote
returns-clause-wrote g c =
    let s = g.C.Cluster.shown c.args.cluster.now in
    let t = g.C.Cluster.shown c.replicated.new.cluster in
    let w = c.args.self.now in
    let plan = c.in_ok-plan.plan in
    let block = c.in_ok-block.block in
    let created = c.args.created in
    opened_wrote s t (record w { tail = Reopened c.args.located }) c.args.located refl (record w { tail = c.set.new.self }) block created
    w.sizes.rebuilding w.sizes.block_size w.sizes.packet_size (setup_of plan (name_of c.args.namenode.now))
    (record { path = refl; file_id = refl; sizes = refl }) c.set.ensures
    (subst (λ (x : BlockPlan). IsNew x w.sizes.rebuilding w.sizes.block_size w.sizes.packet_size block) c.in_ok-plan.ensures c.in_ok-block.ensures.new)
    c.in_ok-block.ensures.opened
    (subst (λ (x : BlockPlan). BeginsWhole s x block t) c.in_ok-plan.ensures c.in_ok-block.ensures.begins)

pub returns-in_err-plan-clause-err : goal.returns-in_err-plan-clause-err
returns-in_err-plan-clause-err g c =
    let p = err_from_is_err_and c.from_residual.result c.from_residual.ensures.1 in
    rw (p.1, p.2) (let client = name_of c.args.namenode.now in (
      refl,
      record {
        setup = setup_of (plan_of c.args.self.now c.args.located c.args.created) client;
        first = first_setup c.args.self.now c.args.located c.args.created client;
        none = inl (refl, refl);
      },
    ))
