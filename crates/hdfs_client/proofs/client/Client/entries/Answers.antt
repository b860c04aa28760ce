-- What the iterator gives stands behind what it gave before.
use Rattle.std.proofs.Common.{◌≡◌, ◌∙◌, ◌∷◌, ◌++◌, [], List, ℕ, None, Some, Ok, Result, ap, arith, subst, sym, vec_len, length-append}
use Rattle.std.specs.Result.{result_from_control_flow}
use Rattle.hdfs_cluster.specs.declared.errors.HdfsError.{HdfsError}
use Rattle.hdfs_names.specs.declared.mounts.MountTable.{MountTable}
use Rattle.hdfs_client.specs.Clients.{mounts_of}
use Rattle.hdfs_client.specs.Iterating.{Left, Turns, left_of}
use Rattle.hdfs_client.specs.Listing.{AreOnPages, LetsListAt}
use Rattle.hdfs_client.specs.declared.status.FileStatus.{FileStatus}
use Rattle.hdfs_client.proofs.Beside.{files_refl, files_trans}
use Rattle.hdfs_client.proofs.Gathered.{gathers_all, gathers_begun, gathers_more, gathers_on, not_listed, not_put, not_stored, same_turns, unlisted}
use Rattle.hdfs_client.proofs.Staying.{stays_refl, stays_trans}
use Rattle.hdfs_client.proofs.client.Client.entries.Goals as goal

pub entries-init : goal.entries-init
entries-init g c = record {
  client = c.requires.client;
  rest = stays_refl c.args.self.now;
  files = files_refl c.args.self.now (g.C.Cluster.shown c.args.cluster.now);
  path = ap (λ (l : Left). l.path) c.in_ok-dir.ensures;
  room = omega (arith, c.new-own.ensures.len);
  gathers = gathers_begun g.C.Cluster.may_answer (mounts_of c.args.self.now) c.args.path.now c.new-own.result.items (left_of c.in_ok-dir.dir)
      c.new-own.ensures.items c.in_ok-dir.ensures;
  told = subst (λ (l : Left). AreOnPages g.C.Cluster.may_answer (mounts_of c.args.self.now) l.path l.held) (sym c.in_ok-dir.ensures) tt;
}

pub next-requires-clause-allowed : goal.next-requires-clause-allowed
next-requires-clause-allowed g c =
    subst (λ (m : MountTable). LetsListAt g.C.Cluster.allows m c.entries.dir.path) (sym c.entries.invariant.rest.mounts)
    (subst (λ (p : List ℕ). LetsListAt g.C.Cluster.allows (mounts_of c.args.self.now) p) (sym c.entries.invariant.path) c.requires.allowed)

pub entries-preserved : goal.entries-preserved
entries-preserved g c =
    let is : c.in-Some.next ≡ Ok c.in_ok-next.field-0 = c.branch-next.ensures ∙ ap result_from_control_flow c.in_ok-next.is in
    let turns : Turns g.C.Cluster.may_answer (mounts_of c.args.self.now) (left_of c.entries.dir) (Some (Ok c.in_ok-next.field-0)) (left_of c.next.new.self) =
    subst (λ (r : Result FileStatus HdfsError). Turns g.C.Cluster.may_answer (mounts_of c.args.self.now) (left_of c.entries.dir) (Some r) (left_of c.next.new.self)) is
    (same_turns g.C.Cluster.may_answer (mounts_of c.args.self.now) (mounts_of c.entries.self) (left_of c.entries.dir) (left_of c.next.new.self) (Some c.in-Some.next)
    c.entries.invariant.rest.mounts c.in-Some.ensures.turns) in
    record {
      client = c.in-Some.ensures.client;
      rest = stays_trans c.entries.invariant.rest c.in-Some.ensures.rest;
      files = files_trans c.entries.invariant.files c.in-Some.ensures.files;
      path = turns.path ∙ c.entries.invariant.path;
      room = c.in_ok-put.ensures.count;
      gathers = gathers_on g.C.Cluster.may_answer (mounts_of c.args.self.now) c.args.path.now c.entries.own.items c.put.new.found.items c.in_ok-next.field-0
          (left_of c.entries.dir) (left_of c.next.new.self) c.in_ok-put.ensures.put turns c.entries.invariant.gathers;
      told = subst (λ (p : List ℕ). AreOnPages g.C.Cluster.may_answer (mounts_of c.args.self.now) p (left_of c.next.new.self).held) (sym turns.path)
          (turns.told c.entries.invariant.told);
    }

pub returns-in_err-next-clause-err : goal.returns-in_err-next-clause-err
returns-in_err-next-clause-err g c =
    not_listed g.C.Cluster.serves g.C.Cluster.may_answer (mounts_of c.args.self.now) c.args.path.now c.args.limit c.in_err-next.field-0.0
    c.from_residual-in_err-next.result
    (unlisted g.C.Cluster.serves g.C.Cluster.may_answer (mounts_of c.args.self.now) c.args.path.now (left_of c.entries.dir) c.entries.self c.next.new.client c.entries.cluster
    c.next.new.cluster c.in-Some.next c.in_err-next.field-0.0 (c.branch-next.ensures ∙ ap result_from_control_flow c.in_err-next.is)
    c.entries.invariant.path c.entries.invariant.told c.entries.invariant.rest.mounts c.in-Some.ensures.asked c.in-Some.ensures.quiet)
    c.from_residual-in_err-next.ensures.1

pub returns-in_err-dir-clause-err : goal.returns-in_err-dir-clause-err
returns-in_err-dir-clause-err g c =
    not_stored g.C.Cluster.serves g.C.Cluster.may_answer (mounts_of c.args.self.now) c.args.path.now c.args.limit c.from_residual.result
    c.from_residual.ensures.1

pub returns-in_err-put-clause-err : goal.returns-in_err-put-clause-err
returns-in_err-put-clause-err g c =
    let is : c.in-Some.next ≡ Ok c.in_ok-next.field-0 = c.branch-next.ensures ∙ ap result_from_control_flow c.in_ok-next.is in
    let turns : Turns g.C.Cluster.may_answer (mounts_of c.args.self.now) (left_of c.entries.dir) (Some (Ok c.in_ok-next.field-0)) (left_of c.next.new.self) =
    subst (λ (r : Result FileStatus HdfsError). Turns g.C.Cluster.may_answer (mounts_of c.args.self.now) (left_of c.entries.dir) (Some r) (left_of c.next.new.self)) is
    (same_turns g.C.Cluster.may_answer (mounts_of c.args.self.now) (mounts_of c.entries.self) (left_of c.entries.dir) (left_of c.next.new.self) (Some c.in-Some.next)
    c.entries.invariant.rest.mounts c.in-Some.ensures.turns) in
    not_put g.C.Cluster.serves g.C.Cluster.may_answer (mounts_of c.args.self.now) c.args.path.now c.args.limit (vec_len c.entries.own ≡ c.args.limit)
    (c.entries.own.items ++ c.in_ok-next.field-0 ∷ []) c.in_err-put.field-0.0 c.from_residual-in_err-put.result c.in_err-put.ensures.err
    (λ full. omega (arith, full, c.entries.own.ok.0, length-append c.entries.own.items (c.in_ok-next.field-0 ∷ [])))
    (gathers_more g.C.Cluster.may_answer (mounts_of c.args.self.now) c.args.path.now c.entries.own.items c.in_ok-next.field-0 (left_of c.entries.dir)
    (left_of c.next.new.self) turns c.entries.invariant.gathers) c.from_residual-in_err-put.ensures.1

pub returns-clause-all : goal.returns-clause-all
returns-clause-all g c =
    gathers_all g.C.Cluster.may_answer (mounts_of c.args.self.now) c.args.path.now c.entries.own.items (left_of c.entries.dir) (left_of c.next.new.self)
    (same_turns g.C.Cluster.may_answer (mounts_of c.args.self.now) (mounts_of c.entries.self) (left_of c.entries.dir) (left_of c.next.new.self) None
    c.entries.invariant.rest.mounts c.in_default.ensures.turns) c.entries.invariant.gathers

pub returns-in_err-dir-clause-rest : goal.returns-in_err-dir-clause-rest
returns-in_err-dir-clause-rest g c = stays_refl c.args.self.now

pub returns-in_err-dir-clause-files : goal.returns-in_err-dir-clause-files
returns-in_err-dir-clause-files g c = files_refl c.args.self.now (g.C.Cluster.shown c.args.cluster.now)

pub returns-in_err-next-clause-rest : goal.returns-in_err-next-clause-rest
returns-in_err-next-clause-rest g c = stays_trans c.entries.invariant.rest c.in-Some.ensures.rest

pub returns-in_err-next-clause-files : goal.returns-in_err-next-clause-files
returns-in_err-next-clause-files g c = files_trans c.entries.invariant.files c.in-Some.ensures.files

pub returns-in_err-put-clause-rest : goal.returns-in_err-put-clause-rest
returns-in_err-put-clause-rest g c = stays_trans c.entries.invariant.rest c.in-Some.ensures.rest

pub returns-in_err-put-clause-files : goal.returns-in_err-put-clause-files
returns-in_err-put-clause-files g c = files_trans c.entries.invariant.files c.in-Some.ensures.files

pub returns-clause-rest : goal.returns-clause-rest
returns-clause-rest g c = stays_trans c.entries.invariant.rest c.in_default.ensures.rest

pub returns-clause-files : goal.returns-clause-files
returns-clause-files g c = files_trans c.entries.invariant.files c.in_default.ensures.files
