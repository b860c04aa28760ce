-- Directories are made from the path upwards.
use Rattle.std.proofs.Common.{sym, ◌∙◌}
use Rattle.hdfs_plain.specs.declared.files.PlainFiles.{PlainFiles}
use Rattle.hdfs_plain.specs.declared.files.PlainNode.TheVariants as nodes
use Rattle.hdfs_plain.specs.Plain.{look_up}
use Rattle.hdfs_plain.proofs.Parents.{made_there, made_missing, unmapped_some, unmapped_none}
use Rattle.hdfs_plain.proofs.files.PlainFiles.+make_parents.Goals as goal

pub returns-then-not-is_absent : goal.returns-then-not-is_absent
returns-then-not-is_absent t c =
    let old : PlainFiles = c.args.self.now in
    let front = c.in-Some.front.now in
    let some = unmapped_some _ (look_up old front) (sym c.is_absent.ensures ∙ c.if-not-is_absent.true) in
    record {
      nodes = λ q. c.in_ok-make_parents.ensures.nodes q ∙ sym (made_there nodes.Dir (look_up old) c.args.path.now front c.in-Some.ensures some.0 some.1 q);
      opened = c.in_ok-make_parents.ensures.opened;
    }

pub returns : goal.returns
returns t c =
    let old : PlainFiles = c.args.self.now in
    let mid : PlainFiles = c.put.new.self in
    let front = c.in-Some.front.now in
    let none = unmapped_none _ (look_up old front) (sym c.is_absent.ensures ∙ c.if-not-is_absent.false) in
    record {
      nodes = λ q. c.in_ok-make_parents-2.ensures.nodes q ∙ made_missing nodes.Dir (look_up old) c.args.path.now front c.in-Some.ensures none (look_up mid) c.in_ok-put.ensures.nodes q;
      opened = c.in_ok-make_parents-2.ensures.opened ∙ c.in_ok-put.ensures.opened;
    }
