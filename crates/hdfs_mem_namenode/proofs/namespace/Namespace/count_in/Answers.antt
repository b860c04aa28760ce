-- Each name that is found is counted, until there is none.
use Rattle.hdfs_mem_namenode.proofs.Ranging.{along_child, along_first, along_none}
use Rattle.hdfs_mem_namenode.proofs.namespace.Namespace.count_in.Goals as goal

pub children-init : goal.children-init
children-init c = record { way = c.requires; along = λ last goes. along_first c.args.self.now.names c.args.front.now last c.args.rest goes }

pub children-preserved : goal.children-preserved
children-preserved c =
    let m = c.args.self.now.names in
    let front = c.args.front.now in
    let way = c.children.invariant.way in
    let one = rw c.in-Some.is at (c.in_ok-next_child.ensures.next way.last way.goes) in
    record {
      way = record { last = c.in-Some.field-0.name.now; goes = one.3 };
      along = λ last goes.
          let so_far = c.children.invariant.along last goes in
          let next = rw c.in-Some.is at (c.in_ok-next_child.ensures.next so_far.last so_far.goes) in
          along_child m front last c.children.count c.children.rest so_far c.in-Some.field-0.name.now c.next_child.new.rest next.2 next.3 c.in-Some-checked_add.more c.in-Some-checked_add.ensures.1;
    }

pub returns : goal.returns
returns c = λ last goes.
    let so_far = c.children.invariant.along last goes in
    along_none c.args.self.now.names c.args.front.now last c.children.count c.children.rest so_far (rw c.in_default.is at (c.in_ok-next_child.ensures.next so_far.last so_far.goes))
