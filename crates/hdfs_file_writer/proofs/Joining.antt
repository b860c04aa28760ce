-- How the calls of a writer of a file join.
use Rattle.std.proofs.Common.{◌≡◌, ◌⊎◌, inl, inr, ℕ, true, List, [], ◌++◌, Some, None, refl, sym, ◌∙◌, ap, subst, append_assoc}
use Rattle.std.proofs.lemmas.List.{append-nil}
use Rattle.std.specs.Prelude.{Result, Ok, Err, IfOk, IfErr}
use Rattle.hdfs_cluster.specs.declared.attributes.Attributes.{Attributes}
use Rattle.hdfs_cluster.specs.declared.errors.HdfsError.{HdfsError}
use Rattle.hdfs_cluster.specs.declared.errors.HdfsError.TheVariants as errors
use Rattle.hdfs_cluster.specs.declared.errors.Feature.TheVariants as features
use Rattle.hdfs_cluster.specs.declared.errors.IoFault.TheVariants as io_faults
use Rattle.hdfs_cluster.specs.declared.errors.TransferFault.TheVariants as transfer
use Rattle.hdfs_cluster.specs.declared.picture.FileEntry.{FileEntry}
use Rattle.hdfs_cluster.specs.Failures.{CallsRose, ANamenode, TheLinks}
use Rattle.hdfs_cluster.specs.Lost.{PipelineFailed, SomeListedFailed}
use Rattle.hdfs_cluster.specs.Counts.{NeverFall, Rose}
use Rattle.hdfs_cluster.specs.Effects.{blocks_at}
use Rattle.hdfs_cluster.specs.Files.{File}
use Rattle.hdfs_cluster.specs.Picture.{Picture}
use Rattle.hdfs_cluster.specs.Shown.{SameNodes, Shown, Later}
use Rattle.hdfs_cluster.specs.Sound.{IsFileAt}
use Rattle.hdfs_cluster.specs.Stores.{AgreesAt}
use Rattle.hdfs_cluster.proofs.Failures.{each_rose, failed_since, means_since, one_rose, setups_since}
use Rattle.hdfs_cluster.proofs.Frames.{never_fall_refl}
use Rattle.hdfs_file_writer.specs.declared.file_writer.FileWriter.{FileWriter}
use Rattle.hdfs_file_writer.specs.declared.sizes.WriteSizes.{WriteSizes}
use Rattle.hdfs_file_writer.specs.Failing.{TellsWrite, TellsClose, CauseOfWrite, IsNoRefusal, IsOfClose, IsOfWrite}
use Rattle.hdfs_file_writer.specs.OnlyFiles.{OnlyFile}
use Rattle.hdfs_file_writer.specs.Tails.{FileCarries}
use Rattle.hdfs_file_writer.specs.WholeBlocks.{ClosesWhole}
use Rattle.hdfs_file_writer.specs.Writers.{blocks_in, link_of, tail_of, Keeps, OnlyOwnLink, Wrote, Fails, FailsOtherwise, FailsToClose, Closed, HasCause}
use Rattle.hdfs_file_writer.proofs.Moving.{own_link_refl, own_link_trans, only_file_trans}
use Rattle.hdfs_file_writer.proofs.Steps.{carries_nothing, carries_trans, touches_behind}
use Rattle.hdfs_file_writer.proofs.Tallying.{limit_behind, tallies_refl, tallies_trans}
use Rattle.hdfs_file_writer.proofs.WholeBlocks.{closes_trans}

-- what holds of what a call gave, where that is known of each thing that it may have given
pub when_ok : {T E : Type 0} (r : Result T E) (P : T → Type 0) → ((x : T) → r ≡ Ok x → P x) → IfOk r P
when_ok (Ok x) P holds = holds x refl
when_ok (Err e) P holds = tt

-- and of the error
pub when_err : {T E : Type 0} (r : Result T E) (P : E → Type 0) → ((e : E) → r ≡ Err e → P e) → IfErr r P
when_err (Ok x) P holds = tt
when_err (Err e) P holds = holds e refl

pub keeps_refl : (w : FileWriter) → Keeps w w
keeps_refl w = record { path = refl; file_id = refl; sizes = refl }

pub keeps_trans : (w x y : FileWriter) → Keeps w x → Keeps x y → Keeps w y
keeps_trans w x y one two = record { path = two.path ∙ one.path; file_id = two.file_id ∙ one.file_id; sizes = two.sizes ∙ one.sizes }

pub wrote_nothing : (a : Shown) (w : FileWriter) → Wrote a w [] a w
wrote_nothing a w = record {
  keeps = keeps_refl w;
  own = own_link_refl a (link_of w);
  tallies = tallies_refl a w;
  carries = carries_nothing a w;
}

pub wrote_trans : (a b c : Shown) (w x y : FileWriter) (one two : List ℕ) → Wrote a w one b x → Wrote b x two c y → Wrote a w (one ++ two) c y
wrote_trans a b c w x y one two first then = record {
  keeps = keeps_trans w x y first.keeps then.keeps;
  own = own_link_trans a b c (link_of w) (link_of x) (link_of y) first.own then.own;
  tallies = tallies_trans first then;
  carries = λ p bytes told carried.
      (let both = carries_trans a b c w x y one two first.keeps.path first.keeps.sizes first.carries then.carries p bytes told carried in
      (both.0, both.1, subst (FileCarries both.0 w.path (tail_of y)) (append_assoc bytes one two) both.2, both.3, both.4, both.5, both.6));
}

-- a namenode has failed since an earlier call
pub calls_since : (a b c : Shown) → Later a b → CallsRose b.counts c → CallsRose a.counts c
calls_since a b c later h = failed_since a b c ANamenode later.counts h

pub tells_since : (a b c : Shown) (e : HdfsError) → Later a b → TellsWrite b c e → TellsWrite a c e
tells_since a b c e later h = (h.0, means_since a b c e later.counts h.1)

-- an error of a write is one of a close, but for a refusal
of_close : (path : List ℕ) (e : HdfsError) → IsNoRefusal e → IsOfWrite e → IsOfClose path e
of_close path (errors.OperationFailed name) apart of = absurd of
of_close path (errors.UnsupportedFeature feature) apart of = apart tt
of_close path e apart of = of

pub tells_close : (path : List ℕ) (a b : Shown) (e : HdfsError) → IsNoRefusal e → TellsWrite a b e → TellsClose path a b e
tells_close path a b e apart h = (of_close path e apart h.0, h.1)

some_since : (path : List ℕ) (a b c : Shown) → Later a b → SomeListedFailed b.counts c path → SomeListedFailed a.counts c path
some_since path a b c later h =
    (h.0, one_rose a.counts b.counts c.counts c.counts h.0.entry.nodes later.counts (never_fall_refl c.counts) h.1)

all_since : (path : List ℕ) (a b c : Shown) → Later a b → PipelineFailed b.counts c path → PipelineFailed a.counts c path
all_since path a b c later h =
    (h.0, h.1, each_rose a.counts b.counts c.counts c.counts h.0.entry.nodes later.counts (never_fall_refl c.counts) h.2)

-- the links have failed, or a namenode
pub help_since : (a b c : Shown) → NeverFall a.counts b.counts → Rose b.counts.links c.counts.links ⊎ CallsRose b.counts c
    → Rose a.counts.links c.counts.links ⊎ CallsRose a.counts c
help_since a b c fall (inl links) = inl (failed_since a b c TheLinks fall links)
help_since a b c fall (inr calls) = inr (failed_since a b c ANamenode fall calls)

pub cause_since : (sizes : WriteSizes) (path : List ℕ) (a b c : Shown) (e : HdfsError) → Later a b → CauseOfWrite sizes path b c e
    → CauseOfWrite sizes path a c e
cause_since sizes path a b c (errors.IOError io_faults.Link) later h =
    setups_since sizes.setup_limit a.counts b.counts c.counts later.counts h
cause_since sizes path a b c (errors.DataTransferError transfer.Setup) later h =
    setups_since sizes.setup_limit a.counts b.counts c.counts later.counts h
cause_since sizes path a b c (errors.DataTransferError transfer.AllNodes) later h = all_since path a b c later h
cause_since sizes path a b c (errors.DataTransferError transfer.NoReplacement) later h =
    (h.0, help_since a b c later.counts h.1, some_since path a b c later h.2, h.3)
cause_since sizes path a b c (errors.DataTransferError (transfer.RebuildLimit rebuilds)) later h = (h.0, some_since path a b c later h.1)
cause_since sizes path a b c (errors.AlreadyExists message) later h = calls_since a b c later h
cause_since sizes path a b c (errors.RPCError class message) later h = calls_since a b c later h
cause_since sizes path a b c e later h = h

has_cause_behind : (a b c : Shown) (w x : FileWriter) (one : List ℕ) (e : HdfsError) → Wrote a w one b x → HasCause b x e c → HasCause a w e c
has_cause_behind a b c w x one e first then p bytes told carried =
    let f = first.carries p bytes told carried in
    let carried' = subst (λ (path : List ℕ). FileCarries f.0 path (tail_of x) (bytes ++ one)) (sym first.keeps.path) f.2 in
    cause_since w.sizes w.path a b c e first.own.later
    (subst (λ (s : WriteSizes). CauseOfWrite s w.path b c e) first.keeps.sizes
    (subst (λ (path : List ℕ). CauseOfWrite x.sizes path b c e) first.keeps.path
    (then f.0 (bytes ++ one) f.1 carried')))

-- a call that fails behind others
pub fails_after : (a b c : Shown) (w x : FileWriter) (one : List ℕ) (e : HdfsError) → Wrote a w one b x → FailsOtherwise b x e c → FailsOtherwise a w e c
fails_after a b c w x one e first then = record {
  fails = record {
    own = own_link_trans a b c (link_of w) (link_of x) None first.own then.fails.own;
    tells = tells_since a b c e first.own.later then.fails.tells;
    limit = limit_behind c e first then.fails.limit;
    refused = λ refusal. absurd (then.apart refusal);
    touches = touches_behind a b c w x one first.keeps.path first.carries then.fails.touches;
    cause = has_cause_behind a b c w x one e first then.fails.cause;
  };
  apart = then.apart;
}

-- bytes are refused for encryption behind what touched no datanode
pub refused : (a b : Shown) (w x : FileWriter) → Wrote a w [] b x → link_of x ≡ None → SameNodes a b → w.sizes.encrypted ≡ true
    → Fails a w (errors.UnsupportedFeature features.Encryption) b
refused a b w x wrote idle nodes encrypted = record {
  own = subst (OnlyOwnLink a (link_of w) b) idle wrote.own;
  tells = (tt, (tt, tt));
  limit = λ start n is fails. absurd (cc is);
  refused = λ refusal. nodes;
  touches = λ p bytes told carried. (let f = wrote.carries p bytes told carried in (f.0, f.1, f.3));
  cause = λ p bytes told carried. encrypted;
}

-- a close fails where the end of the last block does
pub fails_to_close : (a b : Shown) (w : FileWriter) (e : HdfsError) → FailsOtherwise a w e b → FailsToClose a w e b
fails_to_close a b w e failed = record {
  own = failed.fails.own;
  tells = tells_close w.path a b e failed.apart failed.fails.tells;
  limit = failed.fails.limit;
  touches = failed.fails.touches;
  cause = failed.fails.cause;
}

pub fails_to_close_after : (a b c : Shown) (w x : FileWriter) (one : List ℕ) (e : HdfsError) → Wrote a w one b x → FailsToClose b x e c → FailsToClose a w e c
fails_to_close_after a b c w x one e first then = record {
  own = own_link_trans a b c (link_of w) (link_of x) None first.own then.own;
  tells =
      let tells : TellsClose w.path b c e = subst (λ (path : List ℕ). TellsClose path b c e) first.keeps.path then.tells in
      (tells.0, means_since a b c e first.own.later.counts tells.1);
  limit = limit_behind c e first then.limit;
  touches = touches_behind a b c w x one first.keeps.path first.carries then.touches;
  cause = has_cause_behind a b c w x one e first then.cause;
}

attributes_same : (q : Picture) (path : List ℕ) (file mine : FileEntry) (blocks : List ℕ) → IsFileAt q path (record file { blocks = blocks }) → IsFileAt q path mine → mine.attributes ≡ file.attributes
attributes_same q path file mine blocks one two =
    let same : record file { blocks = blocks } ≡ mine = cc (one, two) in
    sym (ap (λ (f : FileEntry). f.attributes) same)

-- blocks are closed as they are for another writer of the same file
closes_as : (p q : Picture) (w x : FileWriter) → x.path ≡ w.path → x.sizes ≡ w.sizes
    → ClosesWhole x.sizes.block_size p (blocks_in p x) (tail_of x) q (blocks_in q x)
    → ClosesWhole w.sizes.block_size p (blocks_in p w) (tail_of x) q (blocks_in q w)
closes_as p q w x same sizes closed =
    subst (λ (path : List ℕ). ClosesWhole w.sizes.block_size p (blocks_at (p.names path)) (tail_of x) q (blocks_at (q.names path))) same
    (subst (λ (s : WriteSizes). ClosesWhole s.block_size p (blocks_in p x) (tail_of x) q (blocks_in q x)) sizes closed)

-- a close behind the end of the last block
pub closed_after : (a b c : Shown) (w x : FileWriter) → Wrote a w [] b x → Closed b x c → Closed a w c
closed_after a b c w x first then = record {
  own = own_link_trans a b c (link_of w) (link_of x) None first.own then.own;
  closes = λ p bytes told carried.
      (let f = first.carries p bytes told carried in
      let q = f.0 in
      let carried' : FileCarries q x.path (tail_of x) bytes = subst (FileCarries q x.path (tail_of x)) (append-nil bytes) (subst (λ (path : List ℕ). FileCarries q path (tail_of x) (bytes ++ [])) (sym first.keeps.path) f.2) in
      let t = then.closes q bytes f.1 carried' in
      let same = f.4 carried.file carried.named in
      let kept : carried'.file.attributes ≡ carried.file.attributes =
      attributes_same q w.path carried.file carried'.file same.0 same.1 (subst (λ (path : List ℕ). IsFileAt q path carried'.file) first.keeps.path carried'.named) in (
        t.0,
        t.1,
        only_file_trans w.path p q t.0 f.3 (subst (λ (path : List ℕ). OnlyFile path q t.0) first.keeps.path t.2),
        subst (λ (at : Attributes). AgreesAt t.0 (t.0.names w.path) (Some (File (record { bytes = bytes; attributes = at })))) kept
            (subst (λ (path : List ℕ). AgreesAt t.0 (t.0.names path) (Some (File (record { bytes = bytes; attributes = carried'.file.attributes })))) first.keeps.path t.3),
        closes_trans w.sizes.block_size p q t.0 (blocks_in p w) (blocks_in q w) (blocks_in t.0 w) (tail_of w) (tail_of x) (λ within. (f.5 within).0) f.6
            (closes_as q t.0 w x first.keeps.path first.keeps.sizes t.4),
      ));
}
