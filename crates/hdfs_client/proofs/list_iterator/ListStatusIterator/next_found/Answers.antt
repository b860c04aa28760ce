-- A directory of which nothing is left is passed.
use Rattle.std.proofs.Common.{◌≡◌, ◌∷◌, [], List, None, Option, Result, Some, arith, length, true, map, refl, reverse, sym, ◌∙◌, ap, subst}
use Rattle.hdfs_cluster.specs.declared.errors.HdfsError.{HdfsError}
use Rattle.hdfs_cluster.specs.Shown.{Shown}
use Rattle.hdfs_names.specs.declared.mounts.MountTable.{MountTable}
use Rattle.hdfs_client.specs.Clients.{mounts_of}
use Rattle.hdfs_client.specs.Iterating.{Left, LetsWalk, Turns, asks_none, begun_by, left_of}
use Rattle.hdfs_client.specs.Told.{AreWhole, IsEndedIn, IsPageIn, TurnsIn, WhereTold}
use Rattle.hdfs_client.specs.Turning.{IsFoundIn, IsPassed}
use Rattle.hdfs_client.specs.declared.list_iterator.DirListingIterator.{DirListingIterator}
use Rattle.hdfs_client.specs.declared.status.FileStatus.{FileStatus}
use Rattle.hdfs_client.proofs.Beside.{files_refl, files_trans}
use Rattle.hdfs_client.proofs.Found.{around_is, fault_of, none_passed, nothing_left, over_gives, passes, quiet_behind, quiet_here}
use Rattle.hdfs_client.proofs.Staying.{stays_refl, stays_trans}
use Rattle.hdfs_client.proofs.ToldTurns.{told_found, told_none, told_passes, whole_later}
use Rattle.hdfs_client.proofs.list_iterator.ListStatusIterator.next_found.Goals as goal

-- there is none around
none_around : (outer : List DirListingIterator) → length outer ≡ 0 → map left_of (reverse outer) ≡ []
none_around [] none = refl
none_around (dir ∷ outer) none = absurd (omega (arith, none))

pub directories-init : goal.directories-init
directories-init g c = record {
  client = c.requires.client;
  rest = stays_refl c.args.client.now;
  files = files_refl c.args.client.now (g.C.Cluster.shown c.args.cluster.now);
  recursive = refl;
  lets = c.requires.allowed;
  passed = none_passed g.C.Cluster.may_answer (mounts_of c.args.client.now) (begun_by c.args.self.now);
  told = λ whole. (whole, told_none (g.C.Cluster.shown c.args.cluster.now) (mounts_of c.args.client.now) (begun_by c.args.self.now));
  quiet = λ quiet. (refl, refl, quiet);
}

pub directories-preserved : goal.directories-preserved
directories-preserved g c =
    let may = g.C.Cluster.may_answer in
    let mounts = mounts_of c.args.client.now in
    let inner : Left = left_of c.directories.self.inner in
    let dirs : List Left = left_of c.in-Some-pop.dir ∷ map left_of (reverse c.pop.new.self.items) in
    let around : map left_of (reverse c.directories.self.outer.items) ≡ dirs =
    around_is c.directories.self.outer.items c.pop.new.self.items c.in-Some-pop.dir c.in-Some-pop.ensures.items in
    let turns : Turns may mounts inner None (left_of c.next.new.self) =
    subst (λ (m : MountTable). Turns may m inner None (left_of c.next.new.self)) c.directories.invariant.rest.mounts c.in_default.ensures.turns in
    let all : begun_by c.directories.self ≡ inner ∷ dirs = ap (λ (ds : List Left). inner ∷ ds) around in
    record {
      client = c.in_default.ensures.client;
      rest = stays_trans c.directories.invariant.rest c.in_default.ensures.rest;
      files = files_trans c.directories.invariant.files c.in_default.ensures.files;
      recursive = c.directories.invariant.recursive;
      lets = subst (λ (ds : List Left). LetsWalk g.C.Cluster.allows may mounts c.args.self.now.recursive ds) around c.directories.invariant.lets.1;
      passed = passes may mounts (begun_by c.args.self.now) dirs inner (left_of c.next.new.self)
          (subst (λ (ds : List Left). IsPassed may mounts (begun_by c.args.self.now) ds) all c.directories.invariant.passed) turns;
      told = λ whole.
          let begin : Shown = g.C.Cluster.shown c.args.cluster.now in
          let s : Shown = g.C.Cluster.shown c.directories.cluster in
          let t : Shown = g.C.Cluster.shown c.next.new.cluster in
          let old : List Left = begun_by c.args.self.now in
          let so = c.directories.invariant.told whole in
          let mine : AreWhole c.directories.client s (inner ∷ dirs) = subst (λ (ds : List Left). AreWhole c.directories.client s ds) all so.0 in
          let was : WhereTold begin s (λ p. IsPassed (IsPageIn p) mounts old (inner ∷ dirs)) =
          subst (λ (ds : List Left). WhereTold begin s (λ p. IsPassed (IsPageIn p) mounts old ds)) all so.1 in
          let turn : WhereTold s t (λ p. TurnsIn p mounts s t inner None (left_of c.next.new.self)) =
          subst (λ (m : MountTable). WhereTold s t (λ p. TurnsIn p m s t inner None (left_of c.next.new.self))) c.directories.invariant.rest.mounts
          (c.in_default.ensures.told mine.0) in (
            whole_later c.directories.client c.next.new.client s t c.in_default.ensures.files.whole dirs mine.1,
            told_passes begin s t mounts old inner (left_of c.next.new.self) dirs was turn,
          );
      quiet = λ quiet.
          let so = c.directories.invariant.quiet quiet in
          let none : asks_none (inner ∷ dirs) ≡ true = ap (λ (ds : List Left). asks_none ds) (sym all) ∙ so.2 in
          let same = c.in_default.ensures.quiet (quiet_here may mounts inner dirs none) in
          (same.0 ∙ so.0, same.1 ∙ so.1, quiet_behind may mounts inner dirs (nothing_left may mounts inner (left_of c.next.new.self) turns) none);
    }

pub returns-in-Some-clause-found : goal.returns-in-Some-clause-found
returns-in-Some-clause-found g c =
    let may = g.C.Cluster.may_answer in
    let mounts = mounts_of c.args.client.now in
    let inner : Left = left_of c.directories.self.inner in
    let turns : Turns may mounts inner (Some c.in-Some.found) (left_of c.next.new.self) =
    subst (λ (m : MountTable). Turns may m inner (Some c.in-Some.found) (left_of c.next.new.self)) c.directories.invariant.rest.mounts c.in-Some.ensures.turns in
    record {
      dir = inner;
      around = map left_of (reverse c.directories.self.outer.items);
      passed = c.directories.invariant.passed;
      dir' = left_of c.next.new.self;
      is = refl;
      turns = turns;
      last = λ is. cc;
      over = over_gives may mounts inner (left_of c.next.new.self) c.in-Some.found turns (λ none. (c.in-Some.ensures.quiet none).2);
      fault = fault_of g.C.Cluster.serves inner c.directories.client c.next.new.client c.directories.cluster c.next.new.cluster c.in-Some.found
          c.in-Some.ensures.asked c.in-Some.ensures.quiet;
    }

pub returns-in-Some-clause-told : goal.returns-in-Some-clause-told
returns-in-Some-clause-told g c = λ whole.
    (let mounts = mounts_of c.args.client.now in
    let begin : Shown = g.C.Cluster.shown c.args.cluster.now in
    let s : Shown = g.C.Cluster.shown c.directories.cluster in
    let t : Shown = g.C.Cluster.shown c.next.new.cluster in
    let inner : Left = left_of c.directories.self.inner in
    let around : List Left = map left_of (reverse c.directories.self.outer.items) in
    let found : Option (Result FileStatus HdfsError) = Some c.in-Some.found in
    let so = c.directories.invariant.told whole in
    let turns : Turns g.C.Cluster.may_answer mounts inner found (left_of c.next.new.self) =
    subst (λ (m : MountTable). Turns g.C.Cluster.may_answer m inner found (left_of c.next.new.self)) c.directories.invariant.rest.mounts c.in-Some.ensures.turns in
    let turn : WhereTold s t (λ p. TurnsIn p mounts s t inner found (left_of c.next.new.self)) =
    subst (λ (m : MountTable). WhereTold s t (λ p. TurnsIn p m s t inner found (left_of c.next.new.self))) c.directories.invariant.rest.mounts
    (c.in-Some.ensures.told so.0.0) in
    told_found begin s t mounts (begun_by c.args.self.now) inner (left_of c.next.new.self) around so.1 found turn (λ is. cc)
    (over_gives g.C.Cluster.may_answer mounts inner (left_of c.next.new.self) c.in-Some.found turns (λ none. (c.in-Some.ensures.quiet none).2)))

pub returns-in-None-clause-told : goal.returns-in-None-clause-told
returns-in-None-clause-told g c = λ whole.
    (let mounts = mounts_of c.args.client.now in
    let begin : Shown = g.C.Cluster.shown c.args.cluster.now in
    let s : Shown = g.C.Cluster.shown c.directories.cluster in
    let t : Shown = g.C.Cluster.shown c.next.new.cluster in
    let old : List Left = begun_by c.args.self.now in
    let inner : Left = left_of c.directories.self.inner in
    let inner' : Left = left_of c.next.new.self in
    let so = c.directories.invariant.told whole in
    let was_none : map left_of (reverse c.directories.self.outer.items) ≡ [] =
    none_around c.directories.self.outer.items (omega (arith, c.in-None.ensures.cases.0, c.directories.self.outer.ok.0)) in
    let is_none : map left_of (reverse c.pop.new.self.items) ≡ [] =
    none_around c.pop.new.self.items (omega (arith, c.in-None.ensures.cases.1, c.pop.new.self.ok.0)) in
    let was : WhereTold begin s (λ p. IsPassed (IsPageIn p) mounts old (inner ∷ [])) =
    subst (λ (ds : List Left). WhereTold begin s (λ p. IsPassed (IsPageIn p) mounts old (inner ∷ ds))) was_none so.1 in
    let turn : WhereTold s t (λ p. TurnsIn p mounts s t inner None inner') =
    subst (λ (m : MountTable). WhereTold s t (λ p. TurnsIn p m s t inner None inner')) c.directories.invariant.rest.mounts
    (c.in_default.ensures.told so.0.0) in
    subst (λ (ds : List Left). WhereTold begin t (λ p. IsFoundIn (IsPageIn p) mounts (IsEndedIn p mounts begin t) old None (inner' ∷ ds))) (sym is_none)
    (told_found begin s t mounts old inner inner' [] was None turn (λ is. refl) (λ over. refl)))

pub returns-in-Some-clause-rest : goal.returns-in-Some-clause-rest
returns-in-Some-clause-rest g c = stays_trans c.directories.invariant.rest c.in-Some.ensures.rest

pub returns-in-Some-clause-files : goal.returns-in-Some-clause-files
returns-in-Some-clause-files g c = files_trans c.directories.invariant.files c.in-Some.ensures.files

pub returns-in-None-clause-rest : goal.returns-in-None-clause-rest
returns-in-None-clause-rest g c = stays_trans c.directories.invariant.rest c.in_default.ensures.rest

pub returns-in-None-clause-files : goal.returns-in-None-clause-files
returns-in-None-clause-files g c = files_trans c.directories.invariant.files c.in_default.ensures.files
