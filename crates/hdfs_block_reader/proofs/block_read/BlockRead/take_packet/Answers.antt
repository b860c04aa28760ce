-- The goals of BlockRead::take_packet.
use Rattle.std.proofs.Common.{◌≡◌, ◌≢◌, ℕ, List, Option, refl, subst, rules}
use Rattle.std.specs.Prelude.{IfSome}
use Rattle.hdfs_wire.specs.Checksums.{IsChecked}
use Rattle.hdfs_wire.specs.declared.checksums.ChecksumInfo.{ChecksumInfo}
use Rattle.hdfs_cluster.specs.declared.asks.LinkFault.TheVariants as faults
use Rattle.hdfs_cluster.specs.declared.picture.OpenRead.{OpenRead}
use Rattle.hdfs_block_reader.specs.declared.given_up.GivenUp.TheVariants as reasons
use Rattle.hdfs_block_reader.specs.Going.{Accepts}
use Rattle.hdfs_block_reader.proofs.Going.{still_goes, still_frame, not_given_goes, stopped_behind}
use Rattle.hdfs_block_reader.proofs.Taking.{given_frame, misplaced_goes, damaged_goes, goes_from-Accepts, part_from-Accepts}
use Rattle.hdfs_block_reader.proofs.Locations.{loses_one}
use Rattle.hdfs_block_reader.proofs.block_read.BlockRead.take_packet.Goals as goal

pub returns-in-Ok-accept-clause-goes : goal.returns-in-Ok-accept-clause-goes
returns-in-Ok-accept-clause-goes g c =
    goes_from-Accepts (g.C.Cluster.shown c.args.cluster.now) (g.C.Cluster.shown c.packet.new.self) c.args.self.now c.args.link c.in-Ok.packet c.requires.holds c.requires.link c.in-Ok.ensures.ok
    c.accept.new.self c.in-Some.start c.in-Some.end c.in-Ok-accept.step
    (subst (λ (payload : List ℕ). Accepts c.args.self.now c.in-Some.start c.in-Some.end payload c.in-Ok-accept.step c.accept.new.self) c.in-Ok-get_data.ensures.given c.in-Ok-accept.ensures.step)
    c.in-Some.ensures.start c.in-Some.ensures.end

pub returns-in-Ok-accept-clause-bytes : goal.returns-in-Ok-accept-clause-bytes
returns-in-Ok-accept-clause-bytes g c =
    let here = c.requires.holds.link c.args.link c.requires.link in
    let told : c.checksums-checksums.result ≡ here.1.checksums =
    subst (λ (o : Option OpenRead). IfSome o (λ read. c.checksums-checksums.result ≡ read.checksums)) here.2 c.checksums-checksums.ensures in
    let checked : IsChecked c.checksums-checksums.result c.in-Ok.packet = search rules in
    part_from-Accepts (g.C.Cluster.shown c.args.cluster.now) (g.C.Cluster.shown c.packet.new.self) c.args.self.now c.args.link c.in-Ok.packet c.requires.holds c.requires.link c.in-Ok.ensures.ok
    (subst (λ (info : Option ChecksumInfo). IsChecked info c.in-Ok.packet) told checked)
    c.accept.new.self c.in-Some.start c.in-Some.end c.in-Ok-accept.step
    (subst (λ (payload : List ℕ). Accepts c.args.self.now c.in-Some.start c.in-Some.end payload c.in-Ok-accept.step c.accept.new.self) c.in-Ok-get_data.ensures.given c.in-Ok-accept.ensures.step)
    c.in-Some.ensures.start c.in-Some.ensures.end c.in-Some.ensures.not_past

pub returns-clause-goes : goal.returns-clause-goes
returns-clause-goes g c =
    stopped_behind (g.C.Cluster.shown c.args.cluster.now) (g.C.Cluster.shown c.packet.new.self) (g.C.Cluster.shown c.stop.new.cluster) c.args.self.now c.accept.new.self c.stop.new.self c.requires.holds
    (given_frame (g.C.Cluster.shown c.args.cluster.now) (g.C.Cluster.shown c.packet.new.self) c.args.self.now c.args.link c.in-Ok.packet c.requires.holds c.requires.link c.in-Ok.ensures.ok)
    c.in-Err-accept.ensures.err c.stop.ensures.goes.frame c.stop.ensures.idle

pub returns-in-Err-NoMemory-clause-goes : goal.returns-in-Err-NoMemory-clause-goes
returns-in-Err-NoMemory-clause-goes g c =
    let kept = c.in-Err-NoMemory.ensures.err in
    still_goes (g.C.Cluster.shown c.args.cluster.now) (g.C.Cluster.shown c.packet.new.self) c.args.self.now c.requires.holds kept.later kept.last kept.reads kept.writes kept.picture

pub returns-in-Err-clause-goes : goal.returns-in-Err-clause-goes
returns-in-Err-clause-goes g c =
    let not_memory : c.in-Err.field-0 ≢ faults.NoMemory = search rules in
    not_given_goes (g.C.Cluster.shown c.args.cluster.now) (g.C.Cluster.shown c.packet.new.self) (g.C.Cluster.shown c.lose.new.cluster) c.args.self.now c.lose.new.self reasons.Broken c.args.link c.in-Err.field-0
    c.requires.holds c.requires.link c.in-Err.ensures.err not_memory c.lose.ensures.frame c.in_ok-lose-in-Err.ensures.lost

pub returns-in-Err-clause-step : goal.returns-in-Err-clause-step
returns-in-Err-clause-step g c =
    let here = c.requires.holds.link c.args.link c.requires.link in
    let one = loses_one c.args.self.now c.lose.new.self reasons.Broken here.0 c.in_ok-lose-in-Err.ensures.lost in
    (search rules, one)

pub returns-in_err-lose-in-Err-clause-goes : goal.returns-in_err-lose-in-Err-clause-goes
returns-in_err-lose-in-Err-clause-goes g c =
    let failed = c.in-Err.ensures.err in
    stopped_behind (g.C.Cluster.shown c.args.cluster.now) (g.C.Cluster.shown c.packet.new.self) (g.C.Cluster.shown c.lose.new.cluster) c.args.self.now c.args.self.now c.lose.new.self c.requires.holds
    (still_frame (g.C.Cluster.shown c.args.cluster.now) (g.C.Cluster.shown c.packet.new.self) c.args.self.now c.requires.holds failed.later failed.last failed.reads failed.writes failed.picture)
    refl c.lose.ensures.frame c.in_err-lose-in-Err.ensures.err

pub returns-in_default-clause-goes : goal.returns-in_default-clause-goes
returns-in_default-clause-goes g c =
    misplaced_goes (g.C.Cluster.shown c.args.cluster.now) (g.C.Cluster.shown c.packet.new.self) c.args.self.now c.args.link c.in-Ok.packet c.requires.holds c.requires.link c.in-Ok.ensures.ok
    (g.C.Cluster.shown c.give_up.new.cluster) c.give_up.new.self c.requires.more c.give_up.ensures.frame
    (λ start offset behind follows some. cc (c.in_default.ensures.none start offset behind follows some))
    c.in_ok-give_up.ensures.idle

pub returns-in_err-give_up-clause-goes : goal.returns-in_err-give_up-clause-goes
returns-in_err-give_up-clause-goes g c =
    stopped_behind (g.C.Cluster.shown c.args.cluster.now) (g.C.Cluster.shown c.packet.new.self) (g.C.Cluster.shown c.give_up.new.cluster) c.args.self.now c.args.self.now c.give_up.new.self c.requires.holds
    (given_frame (g.C.Cluster.shown c.args.cluster.now) (g.C.Cluster.shown c.packet.new.self) c.args.self.now c.args.link c.in-Ok.packet c.requires.holds c.requires.link c.in-Ok.ensures.ok)
    refl c.give_up.ensures.frame c.in_err-give_up.ensures.err

pub returns-in_default-get_data-clause-goes : goal.returns-in_default-get_data-clause-goes
returns-in_default-get_data-clause-goes g c =
    let here = c.requires.holds.link c.args.link c.requires.link in
    let told : c.checksums-checksums.result ≡ here.1.checksums =
    subst (λ (o : Option OpenRead). IfSome o (λ read. c.checksums-checksums.result ≡ read.checksums)) here.2 c.checksums-checksums.ensures in
    let never : (IsChecked c.checksums-checksums.result c.in-Ok.packet) → ⊥ = search rules in
    damaged_goes (g.C.Cluster.shown c.args.cluster.now) (g.C.Cluster.shown c.packet.new.self) c.args.self.now c.args.link c.in-Ok.packet c.requires.holds c.requires.link c.in-Ok.ensures.ok
    (g.C.Cluster.shown c.give_up-in_default-get_data.new.cluster) c.give_up-in_default-get_data.new.self c.requires.more c.give_up-in_default-get_data.ensures.frame
    (subst (λ (info : Option ChecksumInfo). (IsChecked info c.in-Ok.packet) → ⊥) told never)
    c.in_ok-give_up-2.ensures.idle

pub returns-in_err-give_up-2-clause-goes : goal.returns-in_err-give_up-2-clause-goes
returns-in_err-give_up-2-clause-goes g c =
    stopped_behind (g.C.Cluster.shown c.args.cluster.now) (g.C.Cluster.shown c.packet.new.self) (g.C.Cluster.shown c.give_up-in_default-get_data.new.cluster) c.args.self.now c.args.self.now c.give_up-in_default-get_data.new.self c.requires.holds
    (given_frame (g.C.Cluster.shown c.args.cluster.now) (g.C.Cluster.shown c.packet.new.self) c.args.self.now c.args.link c.in-Ok.packet c.requires.holds c.requires.link c.in-Ok.ensures.ok)
    refl c.give_up-in_default-get_data.ensures.frame c.in_err-give_up-2.ensures.err
