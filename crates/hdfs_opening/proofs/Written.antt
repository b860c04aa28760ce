-- Whatever comes of a write or a close, no namenode is lost, and no link changes but its own.
use Rattle.std.proofs.Common.{◌≡◌, ◌≢◌, ◌⊎◌, inl, inr, ⊎_elim, ℕ, ◌<◌, ◌≤◌, ◌^◌, Bool, true, false, List, [], ◌∷◌, Option, Some, None, IsSome, Result, Ok, Err, refl, sym, ◌∙◌, subst, arith}
use Rattle.std.specs.Prelude.{IfErr, OnErr, OnOk}
use Rattle.std.proofs.lemmas.Bool.{cases_lt}
use Rattle.hdfs_cluster.specs.declared.errors.HdfsError.{HdfsError}
use Rattle.hdfs_cluster.specs.declared.errors.HdfsError.TheVariants as errors
use Rattle.hdfs_cluster.specs.declared.picture.OpenWrite.{OpenWrite}
use Rattle.hdfs_cluster.specs.Shown.{Shown}
use Rattle.hdfs_file_writer.specs.Writers.{AreLimited, Closed, Fails, FailsToClose, IsIdle, OnlyOwnLink, Stands, Wrote, has_failed, link_of, sizes_of}
use Rattle.hdfs_file_writer.specs.declared.file_writer.FileWriter.{FileWriter}
use Rattle.hdfs_file_writer.specs.declared.sizes.WriteSizes.{WriteSizes}
use Rattle.hdfs_file_writer.proofs.Moving.{own_link_refl}
use Rattle.hdfs_namenode.specs.Clients.{proxy_of, through}
use Rattle.hdfs_namenode.specs.Views.{View, Seen, see, view_of}
use Rattle.hdfs_namenode.specs.declared.protocol.NamenodeProtocol.{NamenodeProtocol}

limited_or : (sizes : WriteSizes) → AreLimited sizes ⊎ (AreLimited sizes → ⊥)
limited_or sizes = ⊎_elim
    (λ (some : 0 < sizes.block_size). ⊎_elim
    (λ (below : sizes.block_size < 2 ^ 63). ⊎_elim
    (λ (one : 0 < sizes.replication). ⊎_elim
    (λ (few : sizes.replication < 65536). inl (record { block = some; below = below; replication = (omega (arith, one), omega (arith, few)) }))
    (λ (many : 65536 ≤ sizes.replication). inr (λ l. (let most = l.replication.1 in absurd (omega (arith, many, most)))))
    (cases_lt sizes.replication 65536))
    (λ (none : sizes.replication ≤ 0). inr (λ l. (let least = l.replication.0 in absurd (omega (arith, none, least)))))
    (cases_lt 0 sizes.replication))
    (λ (much : 2 ^ 63 ≤ sizes.block_size). inr (λ l. (let most = l.below in absurd (omega (arith, much, most)))))
    (cases_lt sizes.block_size (2 ^ 63)))
    (λ (none : sizes.block_size ≤ 0). inr (λ l. (let least = l.block in absurd (omega (arith, none, least)))))
    (cases_lt 0 sizes.block_size)

-- What stays behind calls in the name of one writer: the namenodes, and the links that were open and aren't its own; none is its own but the
-- one that it had, or one that wasn't open.
pub record OwnLink (s : Shown) (before : Option ℕ) (t : Shown) (after : Option ℕ) : Type 0 where
  pub namenodes : t.namenodes ≡ s.namenodes
  pub others : (link : ℕ) → IsSome (s.writes link) → before ≢ Some link → t.writes link ≡ s.writes link
  pub none : (link : ℕ) → (s.writes link ≡ None) ⊎ (before ≡ Some link) → after ≢ Some link → t.writes link ≡ None
  pub fresh : (link : ℕ) → after ≡ Some link → (before ≡ Some link) ⊎ (s.writes link ≡ None)

-- so it is where it is seen so
pub own_link-seen : (view : View) (s t : Shown) {before after : Option ℕ} → OnlyOwnLink (see view s) before (see view t) after → OwnLink s before t after
own_link-seen view s t own = record { namenodes = own.later.namenodes; others = own.others; none = own.none; fresh = own.fresh }

-- calls in the name of a writer without a link leave all links
pub own_nothing : {s t : Shown} → OwnLink s None t None → (link : ℕ) → t.writes link ≡ s.writes link
own_nothing {s} {t} own link = by (s.writes link) refl
  where
    by : (o : Option OpenWrite) → s.writes link ≡ o → t.writes link ≡ s.writes link
    by None closed = own.none link (inl closed) (λ is. absurd (cc is)) ∙ sym closed
    by (Some write) kept = own.others link (subst IsSome (sym kept) refl) (λ is. absurd (cc is))

module _ {C : Type 0} (shown : C → Shown) (old new : C) (writer : FileWriter) where
  own_same : (link : Option ℕ) → new ≡ old → OnlyOwnLink (shown old) link (shown new) link
  own_same link same = subst (λ (x : C). OnlyOwnLink (shown old) link (shown x) link) (sym same) (own_link_refl (shown old) link)

  fails_own : (bytes : List ℕ) (error : HdfsError) (writer' : FileWriter) → IsIdle writer bytes old (Err error) writer' new → link_of writer' ≡ None
      → (has_failed writer ≡ false → AreLimited (sizes_of writer) → Fails (shown old) writer error (shown new))
      → OnlyOwnLink (shown old) (link_of writer) (shown new) (link_of writer')
  fails_own bytes error writer' idle ended fails = by_failed (has_failed writer) refl
    where
      by_bytes : (given : List ℕ) → bytes ≡ given → has_failed writer ≡ false → OnlyOwnLink (shown old) (link_of writer) (shown new) (link_of writer')
      by_bytes [] is fine = absurd (cc (idle.empty fine is))
      by_bytes (b ∷ rest) is fine = ⊎_elim
          (λ limited. subst (λ (o : Option ℕ). OnlyOwnLink (shown old) (link_of writer) (shown new) o) (sym ended) (fails fine limited).own)
          (λ out. (let at = idle.options fine (λ none. absurd (cc (is, none))) out in
          subst (λ (o : Option ℕ). OnlyOwnLink (shown old) (link_of writer) (shown new) o) (at.1 ∙ sym ended) (own_same (link_of writer) at.2)))
          (limited_or (sizes_of writer))

      by_failed : (b : Bool) → has_failed writer ≡ b → OnlyOwnLink (shown old) (link_of writer) (shown new) (link_of writer')
      by_failed true is =
          let at = idle.failed is in
          subst (λ (w : FileWriter). OnlyOwnLink (shown old) (link_of writer) (shown new) (link_of w)) (sym at.1) (own_same (link_of writer) at.2)
      by_failed false is = by_bytes bytes refl is

  close_own : (result : Result (Unit {0}) HdfsError) → (has_failed writer ≡ true → link_of writer ≡ None) → (has_failed writer ≡ true → (result ≡ Err errors.Failed) × (new ≡ old))
      → OnOk result (Closed (shown old) writer (shown new)) → IfErr result (λ error. has_failed writer ≡ false → FailsToClose (shown old) writer error (shown new))
      → OnlyOwnLink (shown old) (link_of writer) (shown new) None
  close_own (Ok done) idle failed closed fails = closed.own
  close_own (Err error) idle failed closed fails = by_failed (has_failed writer) refl
    where
      by_failed : (b : Bool) → has_failed writer ≡ b → OnlyOwnLink (shown old) (link_of writer) (shown new) None
      by_failed true is =
          subst (λ (o : Option ℕ). OnlyOwnLink (shown old) o (shown new) None) (sym (idle is)) (own_same None (failed is).1)
      by_failed false is = (fails is).own

module _ {C : Type 0} (shown : C → Shown) (namenode : NamenodeProtocol) (old new : C) (writer : FileWriter) where
  abbrev view : View
  view = view_of (proxy_of namenode)

  -- a write by the service of a namenode
  pub write_link : (bytes : List ℕ) (result : Result ℕ HdfsError) (writer' : FileWriter) → IsIdle writer bytes old result writer' new
      → OnErr result (has_failed writer' ≡ true) → Stands (shown new) writer'
      → OnOk result (Seen shown (through namenode old) new (λ s t. Wrote s writer bytes t writer'))
      → IfErr result (λ error. Seen shown (through namenode old) new (λ s t. has_failed writer ≡ false → AreLimited (sizes_of writer) → Fails s writer error t))
      → OwnLink (shown old) (link_of writer) (shown new) (link_of writer')
  write_link bytes (Ok n) writer' idle failed stands wrote fails = own_link-seen view (shown old) (shown new) (wrote view (refl, refl)).own
  write_link bytes (Err error) writer' idle failed stands wrote fails =
      own_link-seen view (shown old) (shown new)
      (fails_own (λ (c : C). see view (shown c)) old new writer bytes error writer' idle (stands.idle failed) (fails view (refl, refl)))

  -- a close
  pub close_link : (result : Result (Unit {0}) HdfsError) → Stands (shown old) writer → (has_failed writer ≡ true → (result ≡ Err errors.Failed) × (new ≡ old))
      → OnOk result (Seen shown (through namenode old) new (λ s t. Closed s writer t))
      → IfErr result (λ error. Seen shown (through namenode old) new (λ s t. has_failed writer ≡ false → FailsToClose s writer error t))
      → OwnLink (shown old) (link_of writer) (shown new) None
  close_link (Ok done) stands failed closed fails = own_link-seen view (shown old) (shown new) (closed view (refl, refl)).own
  close_link (Err error) stands failed closed fails =
      own_link-seen view (shown old) (shown new)
      (close_own (λ (c : C). see view (shown c)) old new writer (Err error) stands.idle failed tt (fails view (refl, refl)))
