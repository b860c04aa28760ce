-- It begins at the place that was found.
use Rattle.std.proofs.Common.{refl}
use Rattle.std.specs.Option.{option_copied}
use Rattle.hdfs_client.specs.Building.{user_or}
use Rattle.hdfs_client.proofs.Building.{at_place, drawn_at}
use Rattle.hdfs_client.proofs.builder.build_with.Goals as goal

pub returns-in-Ok-clause-builds : goal.returns-in-Ok-clause-builds
returns-in-Ok-clause-builds g c =
    at_place c.args.url.now (option_copied c.text_of.result) c.get.result c.args.config.now (user_or c.args.user.now) c.user_or.result.now (g.G.Rng.stream c.args.rng.now)
    (g.G.Rng.stream c.build_at.new.rng) c.in-Ok.place c.build_at.result c.text_of.ensures.copied c.get.ensures c.user_or.ensures c.in-Ok.ensures
    (c.build_at.ensures.builds c.args.url.now)

pub returns-in-Ok-clause-undrawn : goal.returns-in-Ok-clause-undrawn
returns-in-Ok-clause-undrawn g c =
    drawn_at c.args.url.now (option_copied c.text_of.result) c.get.result c.args.config.now (user_or c.args.user.now) (g.G.Rng.stream c.args.rng.now)
    (g.G.Rng.stream c.build_at.new.rng) c.in-Ok.place c.text_of.ensures.copied c.get.ensures c.in-Ok.ensures

pub returns-in-Err-clause-undrawn : goal.returns-in-Err-clause-undrawn
returns-in-Err-clause-undrawn g c = λ error is. refl
