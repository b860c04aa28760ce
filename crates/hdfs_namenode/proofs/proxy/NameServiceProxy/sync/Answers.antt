-- The goals of NameServiceProxy::sync.
use Rattle.std.proofs.Common.{refl, sym, ◌∙◌}
use Rattle.std.proofs.lemmas.Bool.{false≢true}
use Rattle.hdfs_namenode.proofs.proxy.NameServiceProxy.sync.Goals as goal

pub returns-clause-syncs : goal.returns-clause-syncs
returns-clause-syncs g c = record {
  unneeded = λ off. absurd (false≢true (sym off ∙ sym c.needs_sync.ensures ∙ c.if-not-needs_sync.false));
  needed = λ on. record {
    behind = record { cluster = c.ask_all.new.cluster; proxy = c.ask_all.new.self };
    answer = c.in_ok-answer.answer;
    asked = c.in_ok-answer.ensures.asked;
    cluster = refl;
    synced = refl;
  };
}
