use Rattle.std.proofs.Common.{rules, ◌≡◌, ◌++◌, List, [], ℕ, ◌∙◌, ap, subst, sym}
use Rattle.hdfs_pipeline.specs.Places.{failed_from, ArePlaces}
use Rattle.hdfs_pipeline.proofs.Failing.{are_places}
use Rattle.hdfs_pipeline.proofs.pipeline_core.PipelineCore.fail.Goals as goal

pub invariant_of-self : goal.invariant_of-self
invariant_of-self c =
    let kept = c.self.invariant in
    let none : c.self.inside.failed.items ≡ [] = search rules in
    let items = c.put_failed.ensures.places ∙ ap (λ (xs : List ℕ). xs ++ failed_from 0 c.args.statuses.now) none in
    record {
      window = kept.window;
      nodes = kept.nodes;
      sent = kept.sent;
      one = kept.one;
      within = kept.within;
      few = kept.few;
      room = kept.room;
      places = search rules;
      heartbeats = kept.heartbeats;
      none_failed = search rules;
      some_failed = λ is. subst (ArePlaces c.self.inside.nodes) (sym items) (are_places c.self.inside.nodes c.args.statuses.now (rw (← c.self.view_is) at c.requires.each) c.requires.some);
    }
