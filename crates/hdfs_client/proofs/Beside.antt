-- A call of a client leaves its writers as they were.
use Rattle.std.proofs.Common.{◌≡◌, ◌≢◌, ◌⊎◌, inl, inr, ⊎_elim, ℕ, ◌==◌, Bool, true, false, List, Option, Some, None, IsSome, Result, refl, sym, ◌∙◌, ap, subst}
use Rattle.std.proofs.lemmas.Bool.{cases_Bool, false≢true}
use Rattle.std.proofs.lemmas.Bool.Decides.{Decides-eqb}
use Rattle.hdfs_cluster.specs.declared.asks.Answer.{Answer}
use Rattle.hdfs_cluster.specs.declared.asks.Ask.{Ask}
use Rattle.hdfs_cluster.specs.declared.asks.AskFault.{AskFault}
use Rattle.hdfs_cluster.specs.declared.errors.HdfsError.{HdfsError}
use Rattle.hdfs_cluster.specs.Repeating.{Leaves}
use Rattle.hdfs_cluster.specs.Requests.{LetsClose, LetsWrite, Request}
use Rattle.hdfs_cluster.specs.Shown.{Served, Shown}
use Rattle.hdfs_file_reader.specs.declared.file_blocks.FileBlocks.{FileBlocks}
use Rattle.hdfs_file_writer.specs.Writers as files
use Rattle.hdfs_file_writer.specs.declared.file_writer.FileWriter as inner
use Rattle.hdfs_file_writer.proofs.Links.{link_is_open}
use Rattle.hdfs_file_writer.proofs.Moving.{own_link_refl}
use Rattle.hdfs_file_writer.proofs.Others.{stands_beside}
use Rattle.hdfs_namenode.specs.Asked.{ReachesAll, SameService}
use Rattle.hdfs_namenode.specs.Clients.{name_of, proxy_of, through}
use Rattle.hdfs_namenode.specs.declared.protocol.NamenodeProtocol.{NamenodeProtocol}
use Rattle.hdfs_namenode.proofs.Observers.{once_leaves}
use Rattle.hdfs_namenode.proofs.Services.{reaches_same, same_service_refl, same_service_trans}
use Rattle.hdfs_names.specs.Mounts.{first_match}
use Rattle.hdfs_names.specs.Paths.{absolute}
use Rattle.hdfs_names.specs.declared.mounts.MountTable.{MountTable}
use Rattle.hdfs_client.specs.Clients.{AsksAt, SameBut, leads_to, mounts_of, service_at}
use Rattle.hdfs_client.specs.Holding.{ChangesService, MayGive}
use Rattle.hdfs_client.specs.Readers.{ReadsBlocks, ReadsBy}
use Rattle.hdfs_client.specs.Readers as readers
use Rattle.hdfs_client.specs.Writing.{IsWriterOf, KeepsFiles, KeepsOthers, OfOpen, ReachesWhole, WritesWhole, link_in, link_of, open_of, service_of}
use Rattle.hdfs_client.specs.declared.client.Client.{Client}
use Rattle.hdfs_client.specs.declared.file_lease.FileLease.{FileLease}
use Rattle.hdfs_client.specs.declared.file_reader.FileReader.{FileReader}
use Rattle.hdfs_client.specs.declared.writing.FileWriter.{FileWriter}
use Rattle.hdfs_client.proofs.Asking.{same_some}
use Rattle.hdfs_opening.proofs.Written.{OwnLink}

-- a service asks the same namenodes in the same name
abbrev pub Keeps : NamenodeProtocol → NamenodeProtocol → Type 0
Keeps before after = SameService (proxy_of before) (proxy_of after) × (name_of after ≡ name_of before)

-- so does each, there is none more, and paths lead where they led
pub record KeepsServices (client client' : Client) : Type 0 where
  pub each : (k : ℕ) (before : NamenodeProtocol) → service_at client k ≡ Some before
      → (after : NamenodeProtocol) × (service_at client' k ≡ Some after) × Keeps before after
  pub none : (k : ℕ) → service_at client k ≡ None → service_at client' k ≡ None
  pub mounts : mounts_of client' ≡ mounts_of client

-- what is so of a file that is open, and of its service
module _ {client client' : Client} (services : KeepsServices client client') where
  pub of_kept : (P Q : NamenodeProtocol → inner.FileWriter → Type 0) (writer : FileWriter)
      → ((before after : NamenodeProtocol) (file : inner.FileWriter) → open_of writer ≡ Some file → Keeps before after → P before file → Q after file)
      → OfOpen P client writer → OfOpen Q client' writer
  of_kept P Q writer step of = λ file is.
      let at = of file is in
      let to = services.each (service_of writer) at.0 at.1 in
      (to.0, to.1, step at.0 to.0 file is to.2 at.2)

  -- of what speaks of its name alone
  pub of_named : (P : List ℕ → inner.FileWriter → Type 0) (writer : FileWriter) → OfOpen (λ namenode file. P (name_of namenode) file) client writer
      → OfOpen (λ namenode file. P (name_of namenode) file) client' writer
  of_named P writer =
      of_kept (λ namenode file. P (name_of namenode) file) (λ namenode file. P (name_of namenode) file) writer
      (λ before after file is keeps so. subst (λ (name : List ℕ). P name file) (sym keeps.1) so)

  -- a reader's service is there still
  pub still_reads : (reader : FileReader) → ReadsBy client reader → ReadsBy client' reader
  still_reads reader is = by (service_at client (readers.service_of reader)) refl
    where
      by : (o : Option NamenodeProtocol) → service_at client (readers.service_of reader) ≡ o → ReadsBy client' reader
      by None none = absurd (cc (is, none))
      by (Some before) some = subst IsSome (sym (services.each (readers.service_of reader) before some).1) refl

  module _ {s t : Shown} (count : t.namenodes ≡ s.namenodes) where
    -- a path that leads to a whole service does so still
    pub still_whole : (src : List ℕ) → ReachesWhole client src s → ReachesWhole client' src t
    still_whole src whole to namenode leads at = by (service_at client to.service) refl
      where
        by : (o : Option NamenodeProtocol) → service_at client to.service ≡ o → ReachesAll (proxy_of namenode) t
        by None none = absurd (cc (at, services.none to.service none))
        by (Some before) some =
            let next = services.each to.service before some in
            let led : leads_to client src ≡ Some to =
            sym (ap (λ (m : MountTable). first_match m.fallback 0 m.mounts (absolute m.home_dir src)) services.mounts) ∙ leads in
            subst (λ (n : NamenodeProtocol). ReachesAll (proxy_of n) t) (same_some namenode next.0 (service_at client' to.service) at next.1)
            (reaches_same (proxy_of before) (proxy_of next.0) s t next.2.0 count (whole to before led some))

    -- of a writer whose link stays
    pub of_standing : (writer : FileWriter)
        → ((file : inner.FileWriter) → open_of writer ≡ Some file → (link : ℕ) → files.link_of file ≡ Some link → t.writes link ≡ s.writes link)
        → IsWriterOf client s writer → IsWriterOf client' t writer
    of_standing writer links =
        of_kept (λ namenode file. files.Stands s file) (λ namenode file. files.Stands t file) writer
        (λ before after file is keeps so. stands_beside s t file (links file is) so)

    -- one that writes a file of a whole service does so still
    pub writes_whole : (writer : FileWriter) → WritesWhole client s writer → WritesWhole client' t writer
    writes_whole writer =
        of_kept (λ namenode file. ReachesAll (proxy_of namenode) s) (λ namenode file. ReachesAll (proxy_of namenode) t) writer
        (λ before after file is keeps so. reaches_same (proxy_of before) (proxy_of after) s t keeps.0 count so)

    -- readers and writers stay
    pub keeps_files : (allows : Request → Type 0) (may_answer : Ask → Answer → Type 0) → ((link : ℕ) → t.writes link ≡ s.writes link)
        → KeepsFiles allows may_answer client s client' t
    keeps_files allows may_answer links = record {
      whole = still_whole;
      readers = still_reads;
      wholes = writes_whole;
      stand = λ writer. of_standing writer (λ file is link named. links link);
      answered = of_named (λ name file. files.IsAnswered may_answer name file);
      write = of_named (λ name file. LetsWrite allows may_answer name (files.path_of file) (files.file_id_of file));
      close = of_named (λ name file. LetsClose allows may_answer name (files.path_of file) (files.file_id_of file));
    }

-- ---- beside a writer's own link

-- the link of a writer was ended, if it had one
pub own_left : {C : Type 0} (shown : C → Shown) (old new : C) (file : Option inner.FileWriter) → (file ≡ None → new ≡ old)
    → ((open_file : inner.FileWriter) → file ≡ Some open_file → files.OnlyOwnLink (shown old) (files.link_of open_file) (shown new) None)
    → files.OnlyOwnLink (shown old) (link_in file) (shown new) None
own_left {C} shown old new None shut left =
    subst (λ (c : C). files.OnlyOwnLink (shown old) None (shown c) None) (sym (shut refl)) (own_link_refl (shown old) None)
own_left {C} shown old new (Some file) shut left = left file refl

module _ {client client' : Client} (services : KeepsServices client client') {s t : Shown} {before after : Option ℕ} (own : OwnLink s before t after)
    (other : FileWriter) (apart : (link : ℕ) → before ≡ Some link → link_of other ≡ Some link → ⊥) (of : IsWriterOf client s other) where
  -- its link is open
  opened : (file : inner.FileWriter) → open_of other ≡ Some file → (link : ℕ) → files.link_of file ≡ Some link → IsSome (s.writes link)
  opened file is link named = link_is_open s file (of file is).2 link named

  -- another writer stays one
  pub stands_apart : IsWriterOf client' t other
  stands_apart =
      of_standing services own.namenodes other
      (λ file is link named. own.others link (opened file is link named) (λ same. apart link same (ap link_in is ∙ named))) of

  -- and has its link alone
  pub still_apart : (link : ℕ) → after ≡ Some link → link_of other ≡ Some link → ⊥
  still_apart link is named = by (open_of other) refl
    where
      by : (o : Option inner.FileWriter) → open_of other ≡ o → ⊥
      by None none = absurd (cc (named, none))
      by (Some file) some = ⊎_elim
          (λ was. apart link was named)
          (λ closed. absurd (cc (closed, opened file some link (sym (ap link_in some) ∙ named))))
          (own.fresh link is)

-- behind a call of a writer that writes over this link, and then over that one
pub keeps_others : (allows : Request → Type 0) (may_answer : Ask → Answer → Type 0) {client client' : Client} (services : KeepsServices client client')
    {s t : Shown} (writer writer' : FileWriter) → OwnLink s (link_of writer) t (link_of writer')
    → KeepsOthers allows may_answer client s writer client' t writer'
keeps_others allows may_answer services writer writer' own = record {
  whole = still_whole services own.namenodes;
  readers = still_reads services;
  wholes = writes_whole services own.namenodes;
  stand = λ other apart of. (stands_apart services own other apart of, still_apart services own other apart of);
  answered = of_named services (λ name file. files.IsAnswered may_answer name file);
  write = of_named services (λ name file. LetsWrite allows may_answer name (files.path_of file) (files.file_id_of file));
  close = of_named services (λ name file. LetsClose allows may_answer name (files.path_of file) (files.file_id_of file));
}

keeps_refl : (n : NamenodeProtocol) → Keeps n n
keeps_refl n = (same_service_refl (proxy_of n), refl)

-- where nothing is done they stay
pub files_refl : {allows : Request → Type 0} {may_answer : Ask → Answer → Type 0} (client : Client) (shown : Shown)
    → KeepsFiles allows may_answer client shown client shown
files_refl client shown = record { whole = λ src is. is; readers = λ reader is. is; wholes = λ writer is. is; stand = λ writer is. is; answered = λ writer is. is; write = λ writer is. is; close = λ writer is. is }

pub services_trans : {a b c : Client} → KeepsServices a b → KeepsServices b c → KeepsServices a c
services_trans one two = record {
  each = λ k before is.
      let mid = one.each k before is in
      let end = two.each k mid.0 mid.1 in
      (end.0, end.1, (same_service_trans (proxy_of before) (proxy_of mid.0) (proxy_of end.0) mid.2.0 end.2.0, end.2.1 ∙ mid.2.1));
  none = λ k is. two.none k (one.none k is);
  mounts = two.mounts ∙ one.mounts;
}

-- what two calls leave, one behind the other
pub files_trans : {allows : Request → Type 0} {may_answer : Ask → Answer → Type 0} {a b c : Client} {s m t : Shown}
    → KeepsFiles allows may_answer a s b m → KeepsFiles allows may_answer b m c t → KeepsFiles allows may_answer a s c t
files_trans one two = record {
  whole = λ src is. two.whole src (one.whole src is);
  readers = λ reader is. two.readers reader (one.readers reader is);
  wholes = λ writer is. two.wholes writer (one.wholes writer is);
  stand = λ writer is. two.stand writer (one.stand writer is);
  answered = λ writer is. two.answered writer (one.answered writer is);
  write = λ writer is. two.write writer (one.write writer is);
  close = λ writer is. two.close writer (one.close writer is);
}

-- one of them may have changed, and keeps its name and its namenodes
pub services_but : {k : ℕ} {client client' : Client} {before after : NamenodeProtocol} → service_at client k ≡ Some before → service_at client' k ≡ Some after
    → SameBut k client client' → Keeps before after → KeepsServices client client'
services_but {k} {client} {client'} {before} {after} was is others keeps = record {
  each = λ i found at. by i found at (cases_Bool (i == k));
  none = λ i at. missing i at (cases_Bool (i == k));
  mounts = others.mounts;
}
  where
    missing : (i : ℕ) → service_at client i ≡ None → ((i == k) ≡ true) ⊎ ((i == k) ≡ false) → service_at client' i ≡ None
    missing i at (inl here) =
        let same : i ≡ k = (Decides-eqb i k).0 here in
        absurd (cc (at, was, ap (λ (n : ℕ). service_at client n) same))
    missing i at (inr apart) = others.others i (λ e. false≢true (sym apart ∙ (Decides-eqb i k).1 e)) ∙ at

    by : (i : ℕ) (found : NamenodeProtocol) → service_at client i ≡ Some found → ((i == k) ≡ true) ⊎ ((i == k) ≡ false)
        → (next : NamenodeProtocol) × (service_at client' i ≡ Some next) × Keeps found next
    by i found at (inl here) =
        let same : i ≡ k = (Decides-eqb i k).0 here in (
          after,
          ap (λ (n : ℕ). service_at client' n) same ∙ is,
          subst (λ (n : NamenodeProtocol). Keeps n after)
              (same_some found before (service_at client k) (ap (λ (n : ℕ). service_at client n) (sym same) ∙ at) was) keeps,
        )
    by i found at (inr apart) =
        let other : i ≢ k = λ e. false≢true (sym apart ∙ (Decides-eqb i k).1 e) in
        (found, others.others i other ∙ at, keeps_refl found)

-- the same of one that was changed so that it keeps them
pub services_changed : {Changes : NamenodeProtocol → NamenodeProtocol → Type 0} {k : ℕ} {client client' : Client}
    → ((before after : NamenodeProtocol) → Changes before after → Keeps before after) → ChangesService Changes k client client' → KeepsServices client client'
services_changed {Changes} {k} {client} {client'} keeps changes = record {
  each = λ i found at. by i found at (cases_Bool (i == k));
  none = λ i at. missing i at (cases_Bool (i == k));
  mounts = changes.others.mounts;
}
  where
    missing : (i : ℕ) → service_at client i ≡ None → ((i == k) ≡ true) ⊎ ((i == k) ≡ false) → service_at client' i ≡ None
    missing i at (inl here) =
        let same : i ≡ k = (Decides-eqb i k).0 here in
        ap (λ (n : ℕ). service_at client' n) same ∙ changes.none (ap (λ (n : ℕ). service_at client n) (sym same) ∙ at)
    missing i at (inr apart) = changes.others.others i (λ e. false≢true (sym apart ∙ (Decides-eqb i k).1 e)) ∙ at

    by : (i : ℕ) (found : NamenodeProtocol) → service_at client i ≡ Some found → ((i == k) ≡ true) ⊎ ((i == k) ≡ false)
        → (next : NamenodeProtocol) × (service_at client' i ≡ Some next) × Keeps found next
    by i found at (inl here) =
        let same : i ≡ k = (Decides-eqb i k).0 here in
        let to = changes.service found (ap (λ (n : ℕ). service_at client n) (sym same) ∙ at) in
        (to.0, ap (λ (n : ℕ). service_at client' n) same ∙ to.1, keeps found to.0 to.2)
    by i found at (inr apart) =
        let other : i ≢ k = λ e. false≢true (sym apart ∙ (Decides-eqb i k).1 e) in
        (found, changes.others.others i other ∙ at, keeps_refl found)

-- one that gave a lease back, or didn't
pub keeps_given : (given : Bool) (lease : Option FileLease) (before after : NamenodeProtocol) → MayGive given lease before after → Keeps before after
keeps_given true lease before after gives = (gives.same.service, gives.same.name)
keeps_given false lease before after same = (same.service, same.name)

module _ {C : Type 0} (shown : C → Shown) (serves : C → ℕ → Ask → Result Answer AskFault → C → Type 0)
    (rows : (old new : C) (i : ℕ) (ask : Ask) (result : Result Answer AskFault) → serves old i ask result new → Served (shown old) i ask result (shown new))
    (allows : Request → Type 0) (may_answer : Ask → Answer → Type 0) where
  -- one ask leaves them
  pub files_asked : (write : Bool) (ask : List ℕ → Ask) (client client' : Client) (src : List ℕ) (old new : C) (outcome : Result Answer HdfsError)
      → AsksAt serves write ask client src old outcome client' new → KeepsFiles allows may_answer client (shown old) client' (shown new)
  files_asked write ask client client' src old new outcome at =
      let leaves : Leaves (shown old) (shown new) =
      once_leaves shown serves rows write (ask at.to.path) (through at.before old) outcome (through at.after new) at.asked in
      keeps_files (services_but at.was at.is at.others (at.keeps.service, at.keeps.name)) leaves.later.namenodes allows may_answer leaves.writes

-- so does a read of a range
pub files_read : (allows : Request → Type 0) (may_answer : Ask → Answer → Type 0) {old new : Shown} {client client' : Client} {file : FileBlocks}
    {service offset len : ℕ} {result : Result (List ℕ) HdfsError} → ReadsBlocks old client file service offset len result new client'
    → KeepsFiles allows may_answer client old client' new
files_read allows may_answer reads =
    keeps_files (services_but reads.was reads.is reads.others (reads.leaves.same.service, reads.leaves.same.name)) reads.leaves.later.namenodes allows may_answer
    reads.leaves.links.writes
