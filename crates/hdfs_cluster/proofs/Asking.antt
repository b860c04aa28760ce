-- What an ask leaves as it was, whatever is answered.
use Rattle.std.proofs.Common.{inl, inr, ⊎_elim, ℕ, Bool, true, false, List, Option, Some, None, Result, Ok, Err}
use Rattle.hdfs_cluster.specs.declared.asks.Ask.{Ask}
use Rattle.hdfs_cluster.specs.declared.asks.Ask.TheVariants as asks
use Rattle.hdfs_cluster.specs.declared.asks.Answer.{Answer}
use Rattle.hdfs_cluster.specs.declared.asks.Answer.TheVariants as answers
use Rattle.hdfs_cluster.specs.declared.asks.AskFault.{AskFault}
use Rattle.hdfs_cluster.specs.declared.asks.AskFault.TheVariants as faults
use Rattle.hdfs_cluster.specs.declared.messages.Block.{Block}
use Rattle.hdfs_cluster.specs.declared.messages.DatanodeInfo.{DatanodeInfo}
use Rattle.hdfs_cluster.specs.declared.messages.LocatedBlock.{LocatedBlock}
use Rattle.hdfs_cluster.specs.declared.picture.FileEntry.{FileEntry}
use Rattle.hdfs_cluster.specs.Effects.{KeepsBytes, Opens, AddsBlock, Abandons, ClosesIf}
use Rattle.hdfs_cluster.specs.Picture.{Picture, SameButActive}
use Rattle.hdfs_cluster.specs.Namenode.{Row, IsOwnOf, MayBeDone, OwnKeeps, ServesTold, src_of}

keeps_same : (p q : Picture) → SameButActive p q → KeepsBytes p q
keeps_same p q same = record { held = same.files.held; defaults = same.files.defaults; reads = same.reads; writes = same.writes }

own_keeps : (src : Option (List ℕ)) (p q : Picture) → OwnKeeps src p q → KeepsBytes p q
own_keeps (Some path) p q keeps = record { held = keeps.held; defaults = keeps.defaults; reads = keeps.reads; writes = keeps.writes }
own_keeps None p q keeps = keeps

keeps_own : (ask : Ask) (p q : Picture) → IsOwnOf ask p q → KeepsBytes p q
keeps_own ask p q own = own_keeps (src_of ask) p q own.1

opens_keeps : (src : List ℕ) (file : FileEntry) (block : Option LocatedBlock) (p q : Picture) → Opens src file block p q → KeepsBytes p q
opens_keeps src file None p q opens = opens.1.bytes
opens_keeps src file (Some block) p q opens = opens.6.bytes

adds_keeps : (src : List ℕ) (file : FileEntry) (previous : Option Block) (excludes : List DatanodeInfo) (block : LocatedBlock) (p q : Picture)
    → AddsBlock src file previous excludes block p q → KeepsBytes p q
adds_keeps src file previous excludes block p q (inl again) = again.changes.bytes
adds_keeps src file previous excludes block p q (inr added) = added.changes.bytes

abandons_keeps : (src : List ℕ) (file : FileEntry) (block : Block) (p q : Picture) → Abandons src file block p q → KeepsBytes p q
abandons_keeps src file block p q (inl gone) = gone.changes.bytes
abandons_keeps src file block p q (inr kept) = kept.1.bytes

closes_keeps : (b : Bool) (src : List ℕ) (file : FileEntry) (last : Option Block) (p q : Picture) → ClosesIf b src file last p q → KeepsBytes p q
closes_keeps true src file last p q changes = changes.bytes
closes_keeps false src file last p q changes = changes.bytes

-- the effect of a row
pub row_keeps : (p q : Picture) (ask : Ask) (answer : Answer) → Row p ask answer q → KeepsBytes p q
row_keeps p q (asks.GetBlockLocations src offset length) (answers.GetBlockLocations None) row = keeps_same p q row.1
row_keeps p q (asks.GetBlockLocations src offset length) (answers.GetBlockLocations (Some found)) row = keeps_same p q row.2
row_keeps p q asks.GetServerDefaults (answers.GetServerDefaults defaults) row = keeps_same p q row.1
row_keeps p q (asks.Create ask) (answers.Create status) row = row.2.changes.bytes
row_keeps p q (asks.Append src client flag) (answers.Append appended) row = opens_keeps src row.1.0 appended.block p q row.1.3
row_keeps p q (asks.AddBlock ask) (answers.AddBlock block) row = adds_keeps ask.src row.0 ask.previous ask.excludes block p q row.2
row_keeps p q (asks.AbandonBlock ask) answers.AbandonBlock row = abandons_keeps ask.src row.0 ask.block p q row.3
row_keeps p q (asks.Complete ask) (answers.Complete true) row = closes_keeps row.0.is_open ask.src row.0 ask.last p q row.2.1
row_keeps p q (asks.UpdateBlockForPipeline block client) (answers.UpdateBlockForPipeline located) row = keeps_same p q row.1
row_keeps p q (asks.GetAdditionalDatanode ask) (answers.GetAdditionalDatanode located) row = keeps_same p q row.2
row_keeps p q (asks.UpdatePipeline ask) answers.UpdatePipeline row = row.changes.bytes
row_keeps p q (asks.GetFileInfo src) (answers.GetFileInfo status) row = keeps_same p q row.1
row_keeps p q (asks.GetListing src from located) (answers.GetListing page) row = keeps_same p q row.1
row_keeps p q (asks.Mkdirs src masked parents) (answers.Mkdirs true) row = row.1.bytes
row_keeps p q (asks.Delete src recursive) (answers.Delete true) row = row.1
row_keeps p q (asks.Delete src recursive) (answers.Delete false) row = keeps_same p q row.1
row_keeps p q (asks.RenewLease client namespaces) answers.RenewLease row = keeps_same p q row
row_keeps p q asks.Msync answers.Msync row = keeps_same p q row
row_keeps p q asks.GetHaServiceState (answers.GetHaServiceState state) row = keeps_same p q row
row_keeps p q ask answer row = absurd row

-- a missing answer
pub may_be_done_keeps : (ask : Ask) (p q : Picture) → MayBeDone ask p q → KeepsBytes p q
may_be_done_keeps ask p q (inl same) = keeps_same p q same
may_be_done_keeps ask p q (inr (inl row)) = row_keeps p q ask row.0 row.2
may_be_done_keeps ask p q (inr (inr own)) = keeps_own ask p q own

-- an ask changes neither what datanodes hold, nor the defaults, nor the links
pub served_keeps : (risen : Type 0) (p q : Picture) (i : ℕ) (ask : Ask) (result : Result Answer AskFault) → ServesTold risen p i ask result q → KeepsBytes p q
served_keeps risen p q i ask (Ok answer) h =
    ⊎_elim (λ given. ⊎_elim (row_keeps p q ask answer) (keeps_own ask p q) given.2) (λ no. may_be_done_keeps ask p q no.2) h
served_keeps risen p q i ask (Err faults.NoMemory) h = may_be_done_keeps ask p q h.1
served_keeps risen p q i ask (Err (faults.Exception class message)) h =
    ⊎_elim (λ standby. keeps_same p q standby.2.rest) (λ rest. ⊎_elim (λ refused. keeps_same p q refused.2.rest) (λ more. ⊎_elim (λ own. keeps_own ask p q own.2) (λ rose. may_be_done_keeps ask p q rose.1) more) rest) h
served_keeps risen p q i ask (Err faults.Broken) h = may_be_done_keeps ask p q h.1
served_keeps risen p q i ask (Err (faults.BadReply fault)) h = may_be_done_keeps ask p q h.1
served_keeps risen p q i ask (Err (faults.Fatal class message)) h = may_be_done_keeps ask p q h.1
