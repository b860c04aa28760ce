-- One turn for each sign of a group.
use Rattle.std.proofs.Common.{sym, map, add-one}
use Rattle.hdfs_globs.proofs.GroupsRead.{turn-character, turn-backslash, turn-opens, turn-closes, turn-slash, turn-comma, turn-ends}
use Rattle.hdfs_globs.proofs.group.Scan.pass.Goals as goal

pub returns-in_ok-push-in-Character-clause-passed : goal.returns-in_ok-push-in-Character-clause-passed
returns-in_ok-push-in-Character-clause-passed c = λ whole text left. turn-character _ (map (λ a. a.items) c.args.self.now.alternatives.items) c.args.self.now.current.items c.args.self.now.slash c.args.self.now.escaped c.args.self.now.depth c.args.c text left _ (sym c.in-Character.ensures) c.in_ok-push-in-Character.ensures.items

pub returns-in-Backslash-clause-passed : goal.returns-in-Backslash-clause-passed
returns-in-Backslash-clause-passed c = λ whole text left. turn-backslash _ (map (λ a. a.items) c.args.self.now.alternatives.items) c.args.self.now.current.items c.args.self.now.slash c.args.self.now.escaped c.args.self.now.depth c.args.c text left (sym c.in-Backslash.ensures)

pub returns-in_ok-push-in-Opens-clause-passed : goal.returns-in_ok-push-in-Opens-clause-passed
returns-in_ok-push-in-Opens-clause-passed c = λ whole text left. turn-opens _ (map (λ a. a.items) c.args.self.now.alternatives.items) c.args.self.now.current.items c.args.self.now.slash c.args.self.now.escaped c.args.self.now.depth c.args.c text left _ _ (sym c.in-Opens.ensures) c.in_ok-push-in-Opens.ensures.items (add-one c.args.self.now.depth)

pub returns-in_ok-push-in-Closes-clause-passed : goal.returns-in_ok-push-in-Closes-clause-passed
returns-in_ok-push-in-Closes-clause-passed c = λ whole text left. turn-closes _ (map (λ a. a.items) c.args.self.now.alternatives.items) c.args.self.now.current.items c.args.self.now.slash c.args.self.now.escaped c.args.self.now.depth c.args.c text left _ _ (sym c.in-Closes.ensures) c.in_ok-push-in-Closes.ensures.items c.saturating_sub-self.ensures

pub returns-in_ok-push-in-Slash-clause-passed : goal.returns-in_ok-push-in-Slash-clause-passed
returns-in_ok-push-in-Slash-clause-passed c = λ whole text left. turn-slash _ (map (λ a. a.items) c.args.self.now.alternatives.items) c.args.self.now.current.items c.args.self.now.slash c.args.self.now.escaped c.args.self.now.depth c.args.c text left _ (sym c.in-Slash.ensures) c.in_ok-push-in-Slash.ensures.items

pub returns-in_ok-end_alternative-in-Comma-clause-passed : goal.returns-in_ok-end_alternative-in-Comma-clause-passed
returns-in_ok-end_alternative-in-Comma-clause-passed c = λ whole text left. rw (c.in_ok-end_alternative-in-Comma.ensures.slash, c.in_ok-end_alternative-in-Comma.ensures.depth, c.in_ok-end_alternative-in-Comma.ensures.escaped) (turn-comma _ (map (λ a. a.items) c.args.self.now.alternatives.items) c.args.self.now.current.items c.args.self.now.slash c.args.self.now.escaped c.args.self.now.depth c.args.c text left _ _ (sym c.in-Comma.ensures) c.in_ok-end_alternative-in-Comma.ensures.alternatives c.in_ok-end_alternative-in-Comma.ensures.current)

pub returns-in_ok-end_alternative-in-Ends-clause-passed : goal.returns-in_ok-end_alternative-in-Ends-clause-passed
returns-in_ok-end_alternative-in-Ends-clause-passed c = λ whole text left. rw c.in_ok-end_alternative-in-Ends.ensures.slash (turn-ends _ (map (λ a. a.items) c.args.self.now.alternatives.items) c.args.self.now.current.items c.args.self.now.slash c.args.self.now.escaped c.args.self.now.depth c.args.c text left _ (sym c.in-Ends.ensures) c.in_ok-end_alternative-in-Ends.ensures.alternatives)
