-- What the listing's walk gives stands behind what it gave before.
use Rattle.std.proofs.Common.{◌≡◌, ◌∙◌, List, None, Some, Ok, Err, Result, ap, arith, refl, subst, vec_len}
use Rattle.std.specs.Prelude.{Bool, Vec, ℕ}
use Rattle.std.specs.Result.{result_from_control_flow}
use Rattle.std.specs.declared.alloc.Global.{Global}
use Rattle.hdfs_cluster.specs.declared.errors.HdfsError.{HdfsError}
use Rattle.hdfs_cluster.specs.declared.errors.HdfsError.TheVariants as errors
use Rattle.hdfs_cluster.specs.Picture.{Picture}
use Rattle.hdfs_cluster.specs.Shown.{Shown}
use Rattle.hdfs_client.specs.Clients.{mounts_of}
use Rattle.hdfs_client.specs.Iterating.{IsDirFault, Left, Walks, begun_by}
use Rattle.hdfs_client.specs.Listing.{HasAll, Lists}
use Rattle.hdfs_client.specs.Told.{AreWhole, IsPageIn}
use Rattle.hdfs_client.specs.declared.client.Client.{Client}
use Rattle.hdfs_client.specs.declared.status.FileStatus.{FileStatus}
use Rattle.hdfs_client.proofs.Below.{begun_first, begun_on, ended_below, ended_for_want, not_listed, not_put}
use Rattle.hdfs_client.proofs.Beside.{files_refl, files_trans}
use Rattle.hdfs_client.proofs.Letting.{begun_lets}
use Rattle.hdfs_client.proofs.Listed.{all_listed, begins_all, begins_some, goes_all, goes_some, is_more, same_walk}
use Rattle.hdfs_client.proofs.Staying.{stays_refl, stays_trans}
use Rattle.hdfs_client.proofs.ToldLists.{begun_whole, same_told, told_all, told_begins, told_fails, told_not_put, told_on, told_unbegun}
use Rattle.hdfs_client.proofs.client.Client.list_status.Goals as goal

pub entries-init : goal.entries-init
entries-init g c =
    let may = g.C.Cluster.may_answer in
    let mounts = mounts_of c.args.self.now in
    let dirs : List Left = begun_by c.in_ok-listing.listing in
    record {
      client = c.requires.client;
      rest = stays_refl c.args.self.now;
      files = files_refl c.args.self.now (g.C.Cluster.shown c.args.cluster.now);
      recursive = c.in_ok-listing.ensures.0;
      room = omega (arith, c.new-found.ensures.len);
      lets = begun_lets g.C.Cluster.allows may mounts c.args.recursive c.in_ok-listing.listing.recursive c.args.path.now dirs c.in_ok-listing.ensures.0
          c.in_ok-listing.ensures.1 c.requires.allowed;
      all = begins_all may mounts c.args.recursive c.args.path.now c.new-found.result.items dirs c.new-found.ensures.items c.in_ok-listing.ensures.1;
      some = begins_some may mounts c.args.recursive c.args.path.now c.new-found.result.items dirs c.new-found.ensures.items c.in_ok-listing.ensures.1;
      begun = begun_first may mounts c.args.recursive c.args.path.now dirs c.in_ok-listing.ensures.1;
      told = λ whole. told_begins mounts c.args.recursive c.args.path.now (g.C.Cluster.shown c.args.cluster.now) c.new-found.result.items dirs
          c.new-found.ensures.items c.in_ok-listing.ensures.1;
    }

pub entries-preserved : goal.entries-preserved
entries-preserved g c =
    let may = g.C.Cluster.may_answer in
    let mounts = mounts_of c.args.self.now in
    let Why : HdfsError → Left → Type 0 = IsDirFault g.C.Cluster.serves c.next.new.client c.next.new.cluster in
    let old : List Left = begun_by c.entries.listing in
    let new : List Left = begun_by c.next.new.self in
    let is : c.in-Some.next ≡ Ok c.in_ok-next.field-0 =
    c.branch-next.ensures ∙ ap result_from_control_flow c.in_ok-next.is in
    let walks : Walks may mounts Why c.args.recursive old (Some (Ok c.in_ok-next.field-0)) new =
    subst (λ (r : Result FileStatus HdfsError). Walks may mounts Why c.args.recursive old (Some r) new) is
    (same_walk may mounts c.args.recursive c.args.path.now Why (mounts_of c.entries.self) c.entries.listing.recursive old new (Some c.in-Some.next)
    c.entries.invariant.rest.mounts c.entries.invariant.recursive c.in-Some.ensures.walks) in
    record {
      client = c.in-Some.ensures.client;
      rest = stays_trans c.entries.invariant.rest c.in-Some.ensures.rest;
      files = files_trans c.entries.invariant.files c.in-Some.ensures.files;
      recursive = c.in-Some.ensures.recursive ∙ c.entries.invariant.recursive;
      room = c.in_ok-put.ensures.count;
      lets = c.in-Some.ensures.allowed;
      all = goes_all may mounts c.args.recursive c.args.path.now Why c.entries.found.items c.put.new.found.items old new c.in_ok-next.field-0 c.in_ok-put.ensures.put walks
          c.entries.invariant.all;
      some = goes_some may mounts c.args.recursive c.args.path.now Why c.entries.found.items c.put.new.found.items old new c.in_ok-next.field-0 c.in_ok-put.ensures.put walks
          c.entries.invariant.some;
      begun = begun_on may mounts c.args.recursive c.args.path.now old new c.in_ok-next.field-0 walks.turn c.entries.invariant.begun;
      told = λ whole.
          let begin : Shown = g.C.Cluster.shown c.args.cluster.now in
          let s : Shown = g.C.Cluster.shown c.entries.cluster in
          let t : Shown = g.C.Cluster.shown c.next.new.cluster in
          let now : AreWhole c.entries.self s old =
          begun_whole may c.args.recursive c.args.path.now c.args.self.now c.entries.self begin s whole c.entries.invariant.files.whole old c.entries.invariant.begun in
          told_on mounts c.args.recursive c.args.path.now begin s t c.entries.found.items old new (c.entries.invariant.told whole) c.put.new.found.items
          c.in_ok-next.field-0 c.in_ok-put.ensures.put
          (same_told s t mounts (mounts_of c.entries.self) c.args.recursive c.entries.listing.recursive old new (Some (Ok c.in_ok-next.field-0)) (Some c.in-Some.next)
          c.entries.invariant.rest.mounts c.entries.invariant.recursive (ap (λ (r : Result FileStatus HdfsError). Some r) is) (c.in-Some.ensures.told now));
    }

pub returns-in_err-listing-clause-err : goal.returns-in_err-listing-clause-err
returns-in_err-listing-clause-err g c =
    let may = g.C.Cluster.may_answer in
    let mounts = mounts_of c.args.self.now in
    not_listed may mounts c.args.recursive c.args.path.now g.C.Cluster.serves c.args.self.now c.args.cluster.now c.args.limit errors.NoMemory
    c.from_residual.result (ended_for_want may mounts c.args.recursive c.args.path.now g.C.Cluster.serves c.args.self.now c.args.cluster.now)
    c.from_residual.ensures.1

pub returns-in_err-next-clause-err : goal.returns-in_err-next-clause-err
returns-in_err-next-clause-err g c =
    let may = g.C.Cluster.may_answer in
    let mounts = mounts_of c.args.self.now in
    let Why : HdfsError → Left → Type 0 = IsDirFault g.C.Cluster.serves c.next.new.client c.next.new.cluster in
    let old : List Left = begun_by c.entries.listing in
    let new : List Left = begun_by c.next.new.self in
    let is : c.in-Some.next ≡ Err c.in_err-next.field-0.0 =
    c.branch-next.ensures ∙ ap result_from_control_flow c.in_err-next.is in
    let walks : Walks may mounts Why c.args.recursive old (Some (Err c.in_err-next.field-0.0)) new =
    subst (λ (r : Result FileStatus HdfsError). Walks may mounts Why c.args.recursive old (Some r) new) is
    (same_walk may mounts c.args.recursive c.args.path.now Why (mounts_of c.entries.self) c.entries.listing.recursive old new (Some c.in-Some.next)
    c.entries.invariant.rest.mounts c.entries.invariant.recursive c.in-Some.ensures.walks) in
    not_listed may mounts c.args.recursive c.args.path.now g.C.Cluster.serves c.next.new.client c.next.new.cluster c.args.limit c.in_err-next.field-0.0
    c.from_residual-in_err-next.result
    (ended_below may mounts c.args.recursive c.args.path.now g.C.Cluster.serves c.next.new.client c.next.new.cluster old new c.in_err-next.field-0.0 walks.cut
    c.entries.invariant.begun) c.from_residual-in_err-next.ensures.1

pub returns-in_err-put-clause-err : goal.returns-in_err-put-clause-err
returns-in_err-put-clause-err g c =
    let may = g.C.Cluster.may_answer in
    let mounts = mounts_of c.args.self.now in
    let Why : HdfsError → Left → Type 0 = IsDirFault g.C.Cluster.serves c.next.new.client c.next.new.cluster in
    let old : List Left = begun_by c.entries.listing in
    let new : List Left = begun_by c.next.new.self in
    let is : c.in-Some.next ≡ Ok c.in_ok-next.field-0 =
    c.branch-next.ensures ∙ ap result_from_control_flow c.in_ok-next.is in
    let walks : Walks may mounts Why c.args.recursive old (Some (Ok c.in_ok-next.field-0)) new =
    subst (λ (r : Result FileStatus HdfsError). Walks may mounts Why c.args.recursive old (Some r) new) is
    (same_walk may mounts c.args.recursive c.args.path.now Why (mounts_of c.entries.self) c.entries.listing.recursive old new (Some c.in-Some.next)
    c.entries.invariant.rest.mounts c.entries.invariant.recursive c.in-Some.ensures.walks) in
    not_put may mounts c.args.recursive c.args.path.now g.C.Cluster.serves c.next.new.client c.next.new.cluster c.args.limit
    (vec_len c.entries.found ≡ c.args.limit) c.in_err-put.field-0.0 c.from_residual-in_err-put.result
    (λ full. is_more may mounts c.args.recursive c.args.path.now Why c.args.limit c.entries.found.items old new c.in_ok-next.field-0 c.entries.invariant.some walks
    (omega (arith, full, c.entries.found.ok.0))) c.in_err-put.ensures.err c.from_residual-in_err-put.ensures.1

-- the entries of a picture are those that were listed
abbrev IsDone : Client → Bool → List ℕ → Picture → Vec FileStatus Global → Type 0
IsDone client recursive path p found = Lists (HasAll (IsPageIn p) (mounts_of client)) recursive path found.items

pub returns-in_err-listing-clause-told : goal.returns-in_err-listing-clause-told
returns-in_err-listing-clause-told g c =
    λ whole. told_unbegun (mounts_of c.args.self.now) c.args.recursive c.args.path.now (IsDone c.args.self.now c.args.recursive c.args.path.now)
    (g.C.Cluster.shown c.args.cluster.now) c.args.limit c.from_residual.result c.from_residual.ensures.1

pub returns-in_err-next-clause-told : goal.returns-in_err-next-clause-told
returns-in_err-next-clause-told g c = λ whole.
    (let may = g.C.Cluster.may_answer in
    let mounts = mounts_of c.args.self.now in
    let begin : Shown = g.C.Cluster.shown c.args.cluster.now in
    let s : Shown = g.C.Cluster.shown c.entries.cluster in
    let t : Shown = g.C.Cluster.shown c.next.new.cluster in
    let old : List Left = begun_by c.entries.listing in
    let new : List Left = begun_by c.next.new.self in
    let is : c.in-Some.next ≡ Err c.in_err-next.field-0.0 =
    c.branch-next.ensures ∙ ap result_from_control_flow c.in_err-next.is in
    let now : AreWhole c.entries.self s old =
    begun_whole may c.args.recursive c.args.path.now c.args.self.now c.entries.self begin s whole c.entries.invariant.files.whole old c.entries.invariant.begun in
    told_fails mounts c.args.recursive c.args.path.now begin s t c.entries.found.items old new (c.entries.invariant.told whole)
    (IsDone c.args.self.now c.args.recursive c.args.path.now) c.args.limit c.from_residual-in_err-next.result c.in_err-next.field-0.0
    c.from_residual-in_err-next.ensures.1
    (same_told s t mounts (mounts_of c.entries.self) c.args.recursive c.entries.listing.recursive old new (Some (Err c.in_err-next.field-0.0)) (Some c.in-Some.next)
    c.entries.invariant.rest.mounts c.entries.invariant.recursive (ap (λ (r : Result FileStatus HdfsError). Some r) is) (c.in-Some.ensures.told now)))

pub returns-in_err-put-clause-told : goal.returns-in_err-put-clause-told
returns-in_err-put-clause-told g c = λ whole.
    (let may = g.C.Cluster.may_answer in
    let mounts = mounts_of c.args.self.now in
    let begin : Shown = g.C.Cluster.shown c.args.cluster.now in
    let s : Shown = g.C.Cluster.shown c.entries.cluster in
    let t : Shown = g.C.Cluster.shown c.next.new.cluster in
    let old : List Left = begun_by c.entries.listing in
    let new : List Left = begun_by c.next.new.self in
    let is : c.in-Some.next ≡ Ok c.in_ok-next.field-0 =
    c.branch-next.ensures ∙ ap result_from_control_flow c.in_ok-next.is in
    let now : AreWhole c.entries.self s old =
    begun_whole may c.args.recursive c.args.path.now c.args.self.now c.entries.self begin s whole c.entries.invariant.files.whole old c.entries.invariant.begun in
    told_not_put mounts c.args.recursive c.args.path.now begin s t c.entries.found.items old new (c.entries.invariant.told whole)
    (IsDone c.args.self.now c.args.recursive c.args.path.now) c.args.limit c.from_residual-in_err-put.result (vec_len c.entries.found ≡ c.args.limit)
    c.in_err-put.field-0.0 c.in_ok-next.field-0 c.from_residual-in_err-put.ensures.1 c.in_err-put.ensures.err
    (λ full. omega (arith, full, c.entries.found.ok.0))
    (same_told s t mounts (mounts_of c.entries.self) c.args.recursive c.entries.listing.recursive old new (Some (Ok c.in_ok-next.field-0)) (Some c.in-Some.next)
    c.entries.invariant.rest.mounts c.entries.invariant.recursive (ap (λ (r : Result FileStatus HdfsError). Some r) is) (c.in-Some.ensures.told now)))

pub returns-clause-told : goal.returns-clause-told
returns-clause-told g c = λ whole.
    (let may = g.C.Cluster.may_answer in
    let mounts = mounts_of c.args.self.now in
    let begin : Shown = g.C.Cluster.shown c.args.cluster.now in
    let s : Shown = g.C.Cluster.shown c.entries.cluster in
    let t : Shown = g.C.Cluster.shown c.next.new.cluster in
    let old : List Left = begun_by c.entries.listing in
    let new : List Left = begun_by c.next.new.self in
    let now : AreWhole c.entries.self s old =
    begun_whole may c.args.recursive c.args.path.now c.args.self.now c.entries.self begin s whole c.entries.invariant.files.whole old c.entries.invariant.begun in
    told_all mounts c.args.recursive c.args.path.now begin s t c.entries.found.items old new (c.entries.invariant.told whole)
    (same_told s t mounts (mounts_of c.entries.self) c.args.recursive c.entries.listing.recursive old new None None
    c.entries.invariant.rest.mounts c.entries.invariant.recursive refl (c.in_default.ensures.told now)))

pub returns-clause-listed : goal.returns-clause-listed
returns-clause-listed g c =
    let may = g.C.Cluster.may_answer in
    let mounts = mounts_of c.args.self.now in
    let Why : HdfsError → Left → Type 0 = IsDirFault g.C.Cluster.serves c.next.new.client c.next.new.cluster in
    let old : List Left = begun_by c.entries.listing in
    let new : List Left = begun_by c.next.new.self in
    all_listed may mounts c.args.recursive c.args.path.now Why c.entries.found.items old new c.entries.invariant.all
    (same_walk may mounts c.args.recursive c.args.path.now Why (mounts_of c.entries.self) c.entries.listing.recursive old new None
    c.entries.invariant.rest.mounts c.entries.invariant.recursive c.in_default.ensures.walks)

pub returns-in_err-listing-clause-rest : goal.returns-in_err-listing-clause-rest
returns-in_err-listing-clause-rest g c = stays_refl c.args.self.now

pub returns-in_err-listing-clause-files : goal.returns-in_err-listing-clause-files
returns-in_err-listing-clause-files g c = files_refl c.args.self.now (g.C.Cluster.shown c.args.cluster.now)

pub returns-in_err-next-clause-rest : goal.returns-in_err-next-clause-rest
returns-in_err-next-clause-rest g c = stays_trans c.entries.invariant.rest c.in-Some.ensures.rest

pub returns-in_err-next-clause-files : goal.returns-in_err-next-clause-files
returns-in_err-next-clause-files g c = files_trans c.entries.invariant.files c.in-Some.ensures.files

pub returns-in_err-put-clause-rest : goal.returns-in_err-put-clause-rest
returns-in_err-put-clause-rest g c = stays_trans c.entries.invariant.rest c.in-Some.ensures.rest

pub returns-in_err-put-clause-files : goal.returns-in_err-put-clause-files
returns-in_err-put-clause-files g c = files_trans c.entries.invariant.files c.in-Some.ensures.files

pub returns-clause-rest : goal.returns-clause-rest
returns-clause-rest g c = stays_trans c.entries.invariant.rest c.in_default.ensures.rest

pub returns-clause-files : goal.returns-clause-files
returns-clause-files g c = files_trans c.entries.invariant.files c.in_default.ensures.files
