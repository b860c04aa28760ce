-- The goals of NameServiceProxy::ask_in_order.
use Rattle.std.proofs.Common.{◌∷◌, ◌+◌, ◌-◌, sym, ◌∙◌, arith}
use Rattle.hdfs_cluster.specs.Failover.{numbers_but}
use Rattle.hdfs_namenode.specs.Asked.{order_of}
use Rattle.hdfs_namenode.proofs.Going.{going_next, going_same, numbers_skip, numbers_take}
use Rattle.hdfs_namenode.proofs.proxy.NameServiceProxy.ask_in_order.Goals as goal

pub others-preserved-then-i-self : goal.others-preserved-then-i-self
others-preserved-then-i-self g c =
    let o = c.others in
    let remembered = c.args.self.now.remembered in
    let end = c.end-end.result in record {
      going = going_same g.C.Cluster.serves c.args.ask.now (order_of c.args.self.now) (numbers_but remembered o.i (end - o.i)) (numbers_but remembered (o.i + 1) (end - (o.i + 1)))
          c.args.cluster.now o.cluster o.last o.given (numbers_skip remembered o.i end c.others-test.true c.if-i-self.true) o.invariant.going;
      shaped = o.invariant.shaped;
      answered = o.invariant.answered;
      from = o.invariant.from;
      below = o.invariant.below;
      namenodes = o.invariant.namenodes;
    }

pub others-preserved : goal.others-preserved
others-preserved g c =
    let o = c.others in
    let remembered = c.args.self.now.remembered in
    let end = c.end-end.result in
    let left = numbers_but remembered (o.i + 1) (end - (o.i + 1)) in
    let going = going_same g.C.Cluster.serves c.args.ask.now (order_of c.args.self.now) (numbers_but remembered o.i (end - o.i)) (o.i ∷ left)
    c.args.cluster.now o.cluster o.last o.given (numbers_take remembered o.i end c.others-test.true c.if-i-self.false) o.invariant.going in record {
      going = going_next g.C.Cluster.serves c.args.ask.now (order_of c.args.self.now) left c.args.cluster.now o.cluster c.ask_one-given-in-others.new.cluster o.last o.i o.given
          c.ask_one-given-in-others.result going (sym c.passes_on.ensures ∙ c.if-not-passes_on.false) c.ask_one-given-in-others.ensures.asks;
      shaped = c.ask_one-given-in-others.ensures.shaped;
      answered = c.ask_one-given-in-others.ensures.answered;
      from = o.auto.i;
      below = omega (arith, c.others-test.true, c.end-end.ensures);
      namenodes = c.ask_one-given-in-others.ensures.namenodes ∙ o.invariant.namenodes;
    }
