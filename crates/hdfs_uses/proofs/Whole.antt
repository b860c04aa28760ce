-- What a whole service sees is what the cluster shows.
use Rattle.std.proofs.Common.{◌≡◌, ℕ, List, false, Some}
use Rattle.hdfs_cluster.specs.declared.errors.HdfsError.{HdfsError}
use Rattle.hdfs_cluster.specs.Shown.{Shown}
use Rattle.hdfs_file_writer.specs.Writers as files
use Rattle.hdfs_file_writer.specs.declared.file_writer.FileWriter as inner
use Rattle.hdfs_namenode.specs.Clients.{through}
use Rattle.hdfs_namenode.specs.Views.{Seen, Whole}
use Rattle.hdfs_client.specs.Writing.{GoesOn, OpensAt, ReachesWhole, SeenBy, WritesWhole, open_of}
use Rattle.hdfs_client.specs.declared.client.Client.{Client}
use Rattle.hdfs_client.specs.declared.writing.FileWriter.{FileWriter}
use Rattle.hdfs_uses.specs.Writing.{CloseFails, WriteFails}

module _ {C : Type 0} (shown : C → Shown) (client : Client) (old new : C) where
  -- of a file that is opened by a whole service
  pub opens_whole : (IsSo : List ℕ → inner.FileWriter → Shown → Shown → Type 0) (client' : Client) (path : List ℕ) (writer : FileWriter)
      → ReachesWhole client path (shown old) → OpensAt (λ at before file lease after. Seen shown (through before old) new (IsSo at file)) client path writer client'
      → OpensAt (λ at before file lease after. IsSo at file (shown old) (shown new)) client path writer client'
  opens_whole IsSo client' path writer whole opened = record {
    to = opened.to;
    leads = opened.leads;
    before = opened.before;
    was = opened.was;
    after = opened.after;
    is = opened.is;
    file = opened.file;
    opened = opened.opened;
    lease = opened.lease;
    holds = opened.holds;
    service = opened.service;
    opens = opened.opens Whole (whole opened.to opened.before opened.leads opened.was);
    others = opened.others;
  }

  -- of a writer's file
  module _ (writer : FileWriter) (whole : WritesWhole client (shown old) writer) where
    pub seen_whole : (IsSo : Shown → Shown → Type 0) (file : inner.FileWriter) → open_of writer ≡ Some file → SeenBy shown client writer old new IsSo
        → IsSo (shown old) (shown new)
    seen_whole IsSo file is seen =
        let at = whole file is in
        seen at.0 at.1 Whole at.2

    pub wrote_whole : (bytes : List ℕ) (writer' : FileWriter)
        → GoesOn (λ file file'. SeenBy shown client writer old new (λ old new. files.Wrote old file bytes new file')) writer writer'
        → GoesOn (λ file file'. files.Wrote (shown old) file bytes (shown new) file') writer writer'
    wrote_whole bytes writer' on file is =
        let at = on file is in
        (at.0, at.1, seen_whole (λ old new. files.Wrote old file bytes new at.0) file is at.2)

    pub write_fails : (error : HdfsError) → ((file : inner.FileWriter) → open_of writer ≡ Some file → files.has_failed file ≡ false → files.AreLimited (files.sizes_of file)
        → SeenBy shown client writer old new (λ old new. files.Fails old file error new)) → WriteFails (shown old) writer error (shown new)
    write_fails error fails file is fine limited = seen_whole (λ old new. files.Fails old file error new) file is (fails file is fine limited)

    pub closed_whole : ((file : inner.FileWriter) → open_of writer ≡ Some file → SeenBy shown client writer old new (λ old new. files.Closed old file new))
        → (file : inner.FileWriter) → open_of writer ≡ Some file → files.Closed (shown old) file (shown new)
    closed_whole closed file is = seen_whole (λ old new. files.Closed old file new) file is (closed file is)

    pub close_fails : (error : HdfsError) → ((file : inner.FileWriter) → open_of writer ≡ Some file → files.has_failed file ≡ false
        → SeenBy shown client writer old new (λ old new. files.FailsToClose old file error new)) → CloseFails (shown old) writer error (shown new)
    close_fails error fails file is fine = seen_whole (λ old new. files.FailsToClose old file error new) file is (fails file is fine)
