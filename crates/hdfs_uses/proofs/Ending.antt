-- The last bytes that a reader gives are the last ones that its file stores.
use Rattle.std.proofs.Common.{◌≡◌, ℕ, ◌+◌, ◌-◌, ◌≤◌, List, [], ◌∷◌, length, take, drop, Some, Result, Ok, ◌∙◌, ap, subst, arith}
use Rattle.std.proofs.lemmas.List.{length-drop, take_all}
use Rattle.hdfs_cluster.specs.declared.asks.Answer.{Answer}
use Rattle.hdfs_cluster.specs.declared.asks.Ask.{Ask}
use Rattle.hdfs_cluster.specs.declared.asks.AskFault.{AskFault}
use Rattle.hdfs_cluster.specs.declared.messages.LocatedBlock.{LocatedBlock}
use Rattle.hdfs_cluster.specs.Namenode.{Follow, LocatesBlocks}
use Rattle.hdfs_cluster.specs.Picture.{Picture}
use Rattle.hdfs_cluster.specs.Reading.{range_of}
use Rattle.hdfs_cluster.specs.Requests.{Request}
use Rattle.hdfs_cluster.specs.Shown.{Shown}
use Rattle.hdfs_cluster.specs.Stores.{StoresBlocks}
use Rattle.hdfs_file_reader.specs.Ranges.{Stored}
use Rattle.hdfs_names.specs.Mounts.{first_match}
use Rattle.hdfs_names.specs.Paths.{absolute}
use Rattle.hdfs_names.specs.declared.mounts.MountTable.{MountTable}
use Rattle.hdfs_names.specs.declared.mounts.Resolved.{Resolved}
use Rattle.hdfs_namenode.specs.Asked.{ReachesAll}
use Rattle.hdfs_namenode.specs.Clients.{proxy_of}
use Rattle.hdfs_client.specs.Clients.{leads_to, mounts_of, service_at}
use Rattle.hdfs_client.specs.Readers.{IsMadeFor, ReadsRange, ShowsFile, blocks_of, length_of}
use Rattle.hdfs_client.specs.Writing.{KeepsFiles}
use Rattle.hdfs_client.specs.declared.client.Client.{Client}
use Rattle.hdfs_client.specs.declared.file_reader.FileReader.{FileReader}
use Rattle.hdfs_uses.specs.Footers.{EndsFile, Looks, end_from, end_len, end_of}

-- a file's blocks store as many bytes as its length says
stored_length : (p : Picture) (at end total : ℕ) (ids : List ℕ) (blocks : List LocatedBlock) (bytes : List ℕ) → LocatesBlocks p.table at total ids blocks
    → StoresBlocks p ids bytes → Follow at end blocks → end ≡ at + length bytes
stored_length p at end total [] [] bytes located stored follow = follow ∙ omega (arith, ap (λ (bs : List ℕ). length bs) stored)
stored_length p at end total [] (block ∷ blocks) bytes located stored follow = absurd located
stored_length p at end total (id ∷ ids) [] bytes located stored follow = absurd located
stored_length p at end total (id ∷ ids) (block ∷ blocks) bytes located stored follow =
    let entry = located.0.0 in
    let same : entry ≡ stored.0 = cc (located.0.1, stored.1) in
    let long : block.b.num_bytes ≡ stored.0.length = located.0.2.length ∙ ap (λ (e : _). e.length) same in
    let rest = stored_length p (at + block.b.num_bytes) end total ids blocks (drop stored.0.length bytes) located.1 stored.4 follow.1 in
    omega (arith, rest, long, stored.2, length-drop stored.0.length bytes)

-- the range at the end of some bytes
end_is : (content : List ℕ) (n : ℕ) → n ≡ length content → range_of content (end_from n) (end_len n) ≡ end_of content
end_is content n is =
    let from : end_from n ≡ length content - 8 = omega (arith, is) in
    let long : length (drop (length content - 8) content) ≤ end_len n = omega (arith, is, length-drop (length content - 8) content) in
    ap (λ (k : ℕ). take (end_len n) (drop k content)) from ∙ take_all (end_len n) (drop (length content - 8) content) long

-- a path leads where it led while the mounts are the same
pub leads_same : (client client' : Client) (path : List ℕ) → mounts_of client' ≡ mounts_of client → leads_to client' path ≡ leads_to client path
leads_same client client' path same = ap (λ (m : MountTable). first_match m.fallback 0 m.mounts (absolute m.home_dir path)) same

module _ {C : Type 0} (shown : C → Shown) (serves : C → ℕ → Ask → Result Answer AskFault → C → Type 0) (client between client' : Client) (path : List ℕ)
    (old mid : C) (new : Shown) (reader : FileReader) (bytes : List ℕ) where
  pub ends_file : {allows : Request → Type 0} {may_answer : Ask → Answer → Type 0} → Looks shown serves client path old (Ok reader) between mid
      → ShowsFile client path (shown old) (shown mid) reader → IsMadeFor client path between reader
      → KeepsFiles allows may_answer client (shown old) between (shown mid)
      → ReadsRange (shown mid) between reader (end_from (length_of reader)) (end_len (length_of reader)) (Ok bytes) new client'
      → EndsFile client path (shown old) bytes
  ends_file looks shows made files reads to leads whole p told closed =
      let asks = looks.asks in
      let place : asks.to ≡ to = cc (asks.leads, leads) in
      let was : service_at client to.service ≡ Some asks.before = subst (λ (r : Resolved). service_at client r.service ≡ Some asks.before) place asks.was in
      let found = shows to leads asks.before was (whole to asks.before leads was) p told closed in (
        found.0,
        found.1,
        λ content stored.
            let there : Stored (shown mid) (blocks_of reader) content = found.2 content stored in
            let long : length_of reader ≡ length content =
            stored_length there.picture 0 (length_of reader) there.total there.ids (blocks_of reader) content there.located there.stored made.stands.whole.follow ∙ omega arith in
            let leads' = leads_same client between path asks.others.mounts ∙ leads in
            let was' : service_at between to.service ≡ Some reads.before = subst (λ (k : ℕ). service_at between k ≡ Some reads.before) (made.service to leads) reads.was in
            let reaches : ReachesAll (proxy_of reads.before) (shown mid) = files.whole path whole to reads.before leads' was' in
            reads.bytes reaches content there (omega (arith, long)) ∙ end_is content (length_of reader) long,
      )
