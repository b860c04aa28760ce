-- A range of a file, from whether its bytes may be moved to the blocks that are read.
use Rattle.std.proofs.Common.{◌≡◌, inl, inr, ℕ, List, [], get_or, Option, refl, sym, ◌∙◌, ap, subst, arith}
use Rattle.hdfs_cluster.specs.declared.errors.HdfsError.{HdfsError}
use Rattle.hdfs_cluster.specs.declared.errors.HdfsError.TheVariants as errors
use Rattle.hdfs_cluster.specs.declared.errors.TransferFault.TheVariants as transfer
use Rattle.hdfs_cluster.specs.declared.messages.LocatedBlock.{LocatedBlock}
use Rattle.hdfs_cluster.specs.declared.messages.ServerDefaults.{ServerDefaults}
use Rattle.hdfs_cluster.specs.Failures.{IsOfAsk}
use Rattle.hdfs_cluster.specs.Lost.{AllFailed, ByteLost}
use Rattle.hdfs_cluster.specs.Picture.{Picture, SameButActive, SameFiles, Told}
use Rattle.hdfs_cluster.specs.Shown.{OnlyReads, SameLinks, Shown}
use Rattle.hdfs_cluster.proofs.Frames.{later_refl, later_trans, rose_since, same_files_refl, same_files_trans, same_links_refl, same_links_trans, told_after, told_refl, told_trans, told_weaker}
use Rattle.hdfs_namenode.specs.Asked.{ReachesAll}
use Rattle.hdfs_namenode.specs.Clients.{defaults_of, proxy_of}
use Rattle.hdfs_namenode.specs.Views.{Whole}
use Rattle.hdfs_namenode.specs.declared.protocol.NamenodeProtocol.{NamenodeProtocol}
use Rattle.hdfs_namenode.proofs.Services.{same_service_refl}
use Rattle.hdfs_file_reader.specs.Files.{LosesByte, OnlyReadsFile}
use Rattle.hdfs_file_reader.specs.Looking.{OnlyLooks}
use Rattle.hdfs_file_reader.specs.Ranges.{FailsAt, Stored}
use Rattle.hdfs_file_reader.specs.Transferring.{AreDefaultsOf, LacksTransfer, SameButKnown, StaysKnown}
use Rattle.hdfs_file_reader.proofs.Staying.{byte_lost, locates_blocks, stores_blocks}
use Rattle.hdfs_file_reader.proofs.Transfers.{known_still}

-- ---- the files stay

same_files_sym : (p q : Picture) → SameFiles p q → SameFiles q p
same_files_sym p q same = record {
  names = λ path. sym (same.names path);
  table = λ id. sym (same.table id);
  held = λ node id. sym (same.held node id);
  defaults = sym same.defaults;
}

told_joined : (s m t : Shown) → Told SameButActive s.picture m.picture → Told SameFiles m.picture t.picture → Told SameFiles s.picture t.picture
told_joined s m t one two =
    told_trans SameFiles s.picture m.picture t.picture same_files_trans (told_weaker SameButActive SameFiles s.picture m.picture (λ p q h. h.files) one) two

known_read : (s m t : Shown) (known known' : Option ServerDefaults) → Told SameButActive s.picture m.picture → Told SameFiles m.picture t.picture → StaysKnown s known m known'
    → StaysKnown s known t known'
known_read s m t known known' one two knows p r was now before =
    let mid = told_after SameButActive s.picture m.picture p one was in
    let last = told_after SameFiles m.picture t.picture mid.0 two mid.1 in
    let same : last.0 ≡ r = cc (last.1, now) in
    let still : r.defaults ≡ mid.0.defaults = ap (λ (x : Picture). x.defaults) (sym same) ∙ last.2.defaults in
    known_still m t mid.0 r known' still (knows p mid.0 was mid.1 before)

-- blocks that store a file store it as long as the files stay
pub stored_on : (s t : Shown) (blocks : List LocatedBlock) (content : List ℕ) → Told SameFiles s.picture t.picture → Stored s blocks content → Stored t blocks content
stored_on s t blocks content stay st =
    let to = told_after SameFiles s.picture t.picture st.picture stay st.told in
    record {
      picture = to.0;
      told = to.1;
      ids = st.ids;
      total = st.total;
      located = locates_blocks st.picture to.0 to.2 0 st.total st.ids blocks st.located;
      stored = stores_blocks st.picture to.0 to.2 st.ids content st.stored;
    }

-- a step that only looks, and then one that only reads blocks
pub leaves_read : (s m t : Shown) (n n' : NamenodeProtocol) → OnlyLooks s m → OnlyReads m t → SameLinks m t → SameButKnown n n'
    → (ReachesAll (proxy_of n) s → Told SameButActive s.picture m.picture) → (ReachesAll (proxy_of n) s → StaysKnown s (defaults_of n) m (defaults_of n'))
    → OnlyReadsFile s n t n'
leaves_read s m t n n' looks only links same picture known = record {
  later = later_trans s m t looks.later only.later;
  links = same_links_trans s m t looks.links links;
  same = same;
  files = λ reaches. told_joined s m t (picture reaches) only.files;
  known = λ reaches. known_read s m t (defaults_of n) (defaults_of n') (picture reaches) only.files (known reaches);
}

-- and nothing was read
pub leaves_looked : (s m : Shown) (n n' : NamenodeProtocol) → OnlyLooks s m → SameButKnown n n' → (ReachesAll (proxy_of n) s → Told SameButActive s.picture m.picture)
    → (ReachesAll (proxy_of n) s → StaysKnown s (defaults_of n) m (defaults_of n')) → OnlyReadsFile s n m n'
leaves_looked s m n n' looks same picture known = record {
  later = looks.later;
  links = looks.links;
  same = same;
  files = λ reaches. told_weaker SameButActive SameFiles s.picture m.picture (λ p q h. h.files) (picture reaches);
  known = known;
}

-- nothing was done
pub leaves_nothing : (s : Shown) (n : NamenodeProtocol) → OnlyReadsFile s n s n
leaves_nothing s n = record {
  later = later_refl s;
  links = same_links_refl s;
  same = record { service = same_service_refl (proxy_of n); name = refl; known = λ d is. is };
  files = λ reaches. told_refl SameFiles s.picture same_files_refl;
  known = λ reaches p q was now knows. (let same : p ≡ q = cc (was, now) in subst (λ (x : Picture). AreDefaultsOf x (defaults_of n)) same knows);
}

-- blocks that were read lose a byte since an earlier moment
pub loses_since : (s m t : Shown) (blocks : List LocatedBlock) (from end : ℕ) (e : HdfsError) → OnlyLooks s m → Told SameButActive s.picture m.picture
    → ((content : List ℕ) (st : Stored m blocks content) → FailsAt (ByteLost st.picture st.ids from end (AllFailed m.counts t.counts st.picture)) e) → LosesByte s blocks from end e t
unfolding stored_on
loses_since s m t blocks from end e looks picture h content stored byte is =
    let stay = told_weaker SameButActive SameFiles s.picture m.picture (λ p q same. same.files) picture in
    let on = stored_on s m blocks content stay stored in
    let to = told_after SameFiles s.picture m.picture stored.picture stay stored.told in
    let lost : ByteLost to.0 stored.ids from end (AllFailed m.counts t.counts to.0) byte
    = subst (FailsAt (ByteLost on.picture on.ids from end (AllFailed m.counts t.counts on.picture))) is (h content on) in
    let back = byte_lost to.0 stored.picture (same_files_sym stored.picture to.0 to.2) stored.ids from end m.counts t.counts byte lost in
    record {
      id = back.id;
      at = back.at;
      lies = back.lies;
      entry = back.entry;
      is = back.is;
      behind = back.behind;
      before = back.before;
      inside = back.inside;
      all_failed = λ k below whole.
          (let d = get_or back.entry.nodes k [] in
          rose_since (s.counts.nodes d) (m.counts.nodes d) (t.counts.nodes d) (t.counts.nodes d) (looks.later.counts.nodes d) (back.all_failed k below whole) (omega arith));
    }

-- ---- bytes that may not be moved

-- why they may not be names no byte
pub lacks_no_byte : (len : ℕ) (s t : Shown) (n n' : NamenodeProtocol) (e : HdfsError) → ReachesAll (proxy_of n) s → LacksTransfer len s n e t n'
    → (byte : ℕ) → e ≡ errors.DataTransferError (transfer.Read byte) → ⊥
lacks_no_byte len s t n n' e reaches (inl asked) byte is = subst IsOfAsk is (asked Whole reaches).0.0
lacks_no_byte len s t n n' e reaches (inr plain) byte is = absurd (cc)
