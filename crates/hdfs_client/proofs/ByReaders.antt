-- What a client reads: it stays a client of its cluster, and a reader stays one of its own.
use Rattle.std.proofs.Common.{◌≡◌, ◌≢◌, ◌⊎◌, ℕ, zero, suc, ◌<◌, ◌≤◌, ◌-◌, ◌^◌, ◌==◌, length, true, false, IsErrAnd, List, [], ◌∷◌, get_or, set, slice_get, Option, Some, None, Result, Ok, Err, inl, inr, refl, sym, ◌∙◌, ap, subst, arith}
use Rattle.std.specs.Prelude.{All, IfOk, IfErr, IsSome, is_some}
use Rattle.std.proofs.lemmas.Bool.{cases_Bool, false≢true}
use Rattle.std.proofs.lemmas.Bool.Decides.{Decides-eqb}
use Rattle.std.proofs.lemmas.List.Elements.{Contains-get_or}
use Rattle.hdfs_cluster.specs.declared.asks.Ask.{Ask}
use Rattle.hdfs_cluster.specs.declared.asks.Ask.TheVariants as asks
use Rattle.hdfs_cluster.specs.declared.asks.Answer.{Answer}
use Rattle.hdfs_cluster.specs.declared.asks.Answer.TheVariants as answers
use Rattle.hdfs_cluster.specs.declared.errors.HdfsError.{HdfsError}
use Rattle.hdfs_cluster.specs.declared.errors.HdfsError.TheVariants as errors
use Rattle.hdfs_cluster.specs.declared.messages.LocatedBlock.{LocatedBlock}
use Rattle.hdfs_cluster.specs.declared.messages.LocatedBlocks.{LocatedBlocks}
use Rattle.hdfs_cluster.specs.declared.picture.Entry.TheVariants as entries
use Rattle.hdfs_cluster.specs.Namenode.{LocatesBlocks}
use Rattle.hdfs_cluster.specs.Requests.{IsLocated}
use Rattle.hdfs_cluster.specs.Shown.{Later, Shown}
use Rattle.hdfs_names.specs.declared.mounts.Resolved.{Resolved}
use Rattle.hdfs_namenode.specs.Asked.{IsServiceOf, ReachesAll, SameService}
use Rattle.hdfs_namenode.specs.Clients.{proxy_of}
use Rattle.hdfs_namenode.specs.Views.{View, HasView, see}
use Rattle.hdfs_namenode.specs.declared.protocol.NamenodeProtocol.{NamenodeProtocol}
use Rattle.hdfs_namenode.proofs.Services.{same_service_refl, service_later}
use Rattle.hdfs_file_reader.specs.Looking.{AnswersLookUp, AreBlocksOf, FilesStay, GivesBlocks, IsClosed, LocatesFile, LooksInVain}
use Rattle.hdfs_file_reader.specs.Transferring.{Unsupported}
use Rattle.hdfs_file_reader.proofs.Looking.{vain_memory}
use Rattle.hdfs_file_reader.proofs.Staying.{locates_blocks, stores_blocks}
use Rattle.hdfs_client.specs.Clients.{IsClientOf, SameBut, addresses_of, leads_to, mounts_of, replacement_of, service_at, services_of}
use Rattle.hdfs_client.specs.Readers.{AreLocated, IsMadeFor, IsReaderOf, LacksReader, Opens, ReadsBy, ShowsFile, blocks_of, length_of, service_of}
use Rattle.hdfs_client.specs.declared.client.Client.{Client}
use Rattle.hdfs_client.specs.declared.file_reader.FileReader.{FileReader}
use Rattle.hdfs_client.proofs.Asking.{found_at, put_elsewhere, put_there, same_some}

-- want of memory
pub memory_is : {T : Type 0} (result : Result T HdfsError) → IsErrAnd result (λ error. error ≡ errors.NoMemory) → result ≡ Err errors.NoMemory
memory_is (Ok value) is = absurd is
memory_is (Err error) is = ap (λ (e : HdfsError). Err e) is

-- a client of which one service has changed is one of the cluster still
pub client_read : (client client' : Client) (k : ℕ) (before after : NamenodeProtocol) (s t : Shown) → IsClientOf client s → Later s t → SameService (proxy_of before) (proxy_of after)
    → service_at client k ≡ Some before → service_at client' k ≡ Some after → SameBut k client client' → IsClientOf client' t
client_read client client' k before after s t of later same was is others = record {
  many = later.namenodes ∙ of.many ∙ ap length (sym others.addresses);
  each = λ i namenode is. by i namenode is (cases_Bool (i == k));
}
  where
    by : (i : ℕ) (namenode : NamenodeProtocol) → service_at client' i ≡ Some namenode → ((i == k) ≡ true) ⊎ ((i == k) ≡ false) → IsServiceOf (proxy_of namenode) t
    by i namenode here (inl at) =
        let at_i : service_at client' i ≡ Some after = ap (λ (j : ℕ). service_at client' j) ((Decides-eqb i k).0 at) ∙ is in
        subst (λ (n : NamenodeProtocol). IsServiceOf (proxy_of n) t) (same_some namenode after (service_at client' i) here at_i)
        (service_later (proxy_of before) (proxy_of after) s t same later (of.each k before was))
    by i namenode here (inr apart) =
        let other : i ≢ k = λ e. false≢true (sym apart ∙ (Decides-eqb i k).1 e) in
        service_later (proxy_of namenode) (proxy_of namenode) s t (same_service_refl (proxy_of namenode)) later (of.each i namenode (sym (others.others i other) ∙ here))

-- ---- of what was looked up the caller has a reader

-- none, where there are no blocks
pub opens_failed : (given : List ℕ) (outcome : Result (Option LocatedBlocks) HdfsError) (error : HdfsError) → GivesBlocks given outcome (Err error)
    → Opens given outcome (Err error)
opens_failed given (Ok (Some located)) error gives = absurd (cc gives)
opens_failed given (Ok None) error (inl missing) = inl (let same : error ≡ errors.FileNotFound given = cc missing in ap (λ (e : HdfsError). Err e) same)
opens_failed given (Ok None) error (inr memory) = inr (let same : error ≡ errors.NoMemory = cc memory in ap (λ (e : HdfsError). Err e) same)
opens_failed given (Err other) error gives = (let same : error ≡ other = cc gives in ap (λ (e : HdfsError). Err e) same)

-- one of those blocks, or they are of an encrypted file
pub opens_found : (given : List ℕ) (outcome : Result (Option LocatedBlocks) HdfsError) (found : LocatedBlocks) (result : Result FileReader HdfsError)
    → GivesBlocks given outcome (Ok found) → IfOk result (IsReaderOf found) → IfErr result (λ error. Unsupported error × (is_some found.encryption ≡ true))
    → Opens given outcome result
opens_found given (Ok (Some located)) found result gives of refused =
    let same : found ≡ located = cc gives in
    subst (λ (l : LocatedBlocks). IfOk result (IsReaderOf l) × IfErr result (λ error. Unsupported error × (is_some l.encryption ≡ true))) same (of, refused)
opens_found given (Ok None) found result (inl missing) of refused = absurd (cc missing)
opens_found given (Ok None) found result (inr memory) of refused = absurd (cc memory)
opens_found given (Err error) found result gives of refused = absurd (cc gives)

-- ---- what comes of the look-up of a path that leads here, whatever it found

module _ (client : Client) (src : List ℕ) (to : Resolved) (leads : leads_to client src ≡ Some to) where
  -- another place to which the path leads
  same_place : (other : Resolved) → leads_to client src ≡ Some other → to ≡ other
  same_place other is = cc (leads, is)

  -- its service is this one
  same_service : (before : NamenodeProtocol) → service_at client to.service ≡ Some before → (other : Resolved) → leads_to client src ≡ Some other
      → (namenode : NamenodeProtocol) → service_at client other.service ≡ Some namenode → namenode ≡ before
  same_service before was other there namenode is =
      let here : service_at client to.service ≡ Some namenode = ap (λ (r : Resolved). service_at client r.service) (same_place other there) ∙ is in
      cc (was, here)

  module _ (found : LocatedBlocks) where
    is_made : (client' : Client) (after : NamenodeProtocol) (reader : FileReader) → service_at client' to.service ≡ Some after → AreBlocksOf found → IsReaderOf found reader
        → service_of reader ≡ to.service → IsMadeFor client src client' reader
    is_made client' after reader is blocks of numbered = record {
      stands = record {
        whole = record {
          below = subst (λ (n : ℕ). n < 2 ^ 63) (sym of.its_length) blocks.below;
          follow = rw (of.its_length, of.its_blocks) blocks.follow;
        };
        inside = subst (λ (n : ℕ). n ≤ length_of reader) (sym of.start) (omega arith);
      };
      by = subst (λ (o : Option NamenodeProtocol). IsSome o) (sym (ap (λ (k : ℕ). service_at client' k) numbered ∙ is)) refl;
      service = λ other there. numbered ∙ ap (λ (r : Resolved). r.service) (same_place other there);
    }

    are_located : (may_answer : Ask → Answer → Type 0) (reader : FileReader) → may_answer (asks.GetBlockLocations to.path 0 (2 ^ 63 - 1)) (answers.GetBlockLocations (Some found))
        → IsReaderOf found reader → AreLocated may_answer client src reader
    are_located may_answer reader answered of other there =
        subst (λ (r : Resolved). All (λ block. IsLocated may_answer r.path block) (blocks_of reader)) (same_place other there)
        (subst (λ (bs : List LocatedBlock). All (λ block. IsLocated may_answer to.path block) bs) (sym of.its_blocks)
        (λ k default low. record { found = found; answered = answered; among = Contains-get_or found.blocks k default low }))

    shows_file : (s t : Shown) (before : NamenodeProtocol) (reader : FileReader) → service_at client to.service ≡ Some before
        → (ReachesAll (proxy_of before) s → LocatesFile to.path s found × FilesStay to.path s t) → IsReaderOf found reader → ShowsFile client src s t reader
    shows_file s t before reader was looked of other there namenode is reaches p told closed =
        let place = same_place other there in
        let shut : IsClosed p to.path = subst (λ (r : Resolved). IsClosed p r.path) (sym place) closed in
        let seen = looked (subst (λ (n : NamenodeProtocol). ReachesAll (proxy_of n) s) (same_service before was other there namenode is) reaches) in
        let locates = seen.0 p told shut in
        let stay = seen.1 p told shut in (
          locates.file,
          subst (λ (r : Resolved). p.names r.path ≡ Some (entries.File locates.file)) place locates.named,
          λ content stores. record {
            picture = stay.0;
            told = stay.1;
            ids = locates.file.blocks;
            total = found.file_length;
            located = subst (λ (bs : List LocatedBlock). LocatesBlocks stay.0.table 0 found.file_length locates.file.blocks bs) (sym of.its_blocks)
                (locates_blocks p stay.0 stay.2 0 found.file_length locates.file.blocks found.blocks locates.blocks);
            stored = stores_blocks p stay.0 stay.2 locates.file.blocks content stores;
          },
        )

  module _ (path : List ℕ) (named : path ≡ to.path) where
    pub located_if : (may_answer : Ask → Answer → Type 0) (found : LocatedBlocks) (result : Result FileReader HdfsError) → AnswersLookUp may_answer path (Ok found)
        → IfOk result (IsReaderOf found) → IfOk result (AreLocated may_answer client src)
    located_if may_answer found (Err error) answered of = tt
    located_if may_answer found (Ok reader) answered of =
        are_located found may_answer reader
        (subst (λ (p : List ℕ). may_answer (asks.GetBlockLocations p 0 (2 ^ 63 - 1)) (answers.GetBlockLocations (Some found))) named answered) of

    pub shows_if : (found : LocatedBlocks) (result : Result FileReader HdfsError) (s t : Shown) (before : NamenodeProtocol) → service_at client to.service ≡ Some before
        → (ReachesAll (proxy_of before) s → LocatesFile path s found × FilesStay path s t) → IfOk result (IsReaderOf found) → IfOk result (ShowsFile client src s t)
    shows_if found (Err error) s t before was looked of = tt
    shows_if found (Ok reader) s t before was looked of =
        shows_file found s t before reader was (λ reaches. subst (λ (p : List ℕ). LocatesFile p s found × FilesStay p s t) named (looked reaches)) of

    -- there are no blocks, and why, as the service sees it
    pub lacks_looked : (s t : Shown) (before : NamenodeProtocol) (error : HdfsError) → service_at client to.service ≡ Some before
        → ((view : View) → HasView (proxy_of before) s view → LooksInVain src path (see view s) error (see view t)) → LacksReader client src s error t
    lacks_looked s t before error was vain = inr (λ other there namenode is view has.
        subst (λ (r : Resolved). LooksInVain src r.path (see view s) error (see view t)) (same_place other there)
        (subst (λ (p : List ℕ). LooksInVain src p (see view s) error (see view t)) named
        (vain view (subst (λ (n : NamenodeProtocol). HasView (proxy_of n) s view) (same_service before was other there namenode is) has))))

  pub made_if : (client' : Client) (after : NamenodeProtocol) (found : LocatedBlocks) (result : Result FileReader HdfsError) → service_at client' to.service ≡ Some after
      → AreBlocksOf found → IfOk result (IsReaderOf found) → IfOk result (λ reader. service_of reader ≡ to.service) → IfOk result (IsMadeFor client src client')
  made_if client' after found (Err error) is blocks of numbered = tt
  made_if client' after found (Ok reader) is blocks of numbered = is_made found client' after reader is blocks of numbered

-- there was no memory for the path
pub lacks_memory : (client : Client) (src : List ℕ) (s t : Shown) (result : Result FileReader HdfsError) → IsErrAnd result (λ error. error ≡ errors.NoMemory)
    → IfErr result (λ error. LacksReader client src s error t)
lacks_memory client src s t (Ok reader) is = absurd is
lacks_memory client src s t (Err error) is =
    subst (λ (e : HdfsError). LacksReader client src s e t) (sym is) (inr (λ to leads namenode there view has. vain_memory src to.path (see view s) (see view t)))

-- the file is encrypted
pub lacks_plain : (client : Client) (src : List ℕ) (s t : Shown) (found : LocatedBlocks) (result : Result FileReader HdfsError)
    → IfErr result (λ error. Unsupported error × (is_some found.encryption ≡ true)) → IfErr result (λ error. LacksReader client src s error t)
lacks_plain client src s t found (Ok reader) refused = tt
lacks_plain client src s t found (Err error) refused = inl refused.0

-- ---- one service that was used

some_within : (services : List NamenodeProtocol) (k : ℕ) → IsSome (slice_get services k) → k < length services
some_within [] k some = absurd (false≢true some)
some_within (n ∷ services) zero some = omega arith
some_within (n ∷ services) (suc k) some = (let more = some_within services k some in omega arith)

-- a reader's service is there
pub is_there : (client : Client) (reader : FileReader) → ReadsBy client reader → service_of reader < client.services.len
is_there client reader by = subst (λ (n : ℕ). service_of reader < n) (sym client.services.ok.0) (some_within (services_of client) (service_of reader) by)

-- and still is
pub reads_still : (client : Client) (reader : FileReader) (after : NamenodeProtocol) → service_at client (service_of reader) ≡ Some after → ReadsBy client reader
reads_still client reader after is = subst (λ (o : Option NamenodeProtocol). IsSome o) (sym is) refl

pub was_there : (client : Client) (k : ℕ) (before : NamenodeProtocol) → k < client.services.len → before ≡ get_or (services_of client) k before → service_at client k ≡ Some before
was_there client k before low is = found_at (services_of client) k before (subst (λ (n : ℕ). k < n) client.services.ok.0 low) is

pub is_then : (client : Client) (services : List NamenodeProtocol) (k : ℕ) (after : NamenodeProtocol) → k < client.services.len → services ≡ set (services_of client) k after
    → slice_get services k ≡ Some after
is_then client services k after low put =
    ap (λ (all : List NamenodeProtocol). slice_get all k) put ∙ put_there (services_of client) k after (subst (λ (n : ℕ). k < n) client.services.ok.0 low)

pub others_stay : (client client' : Client) (k : ℕ) (after : NamenodeProtocol) → services_of client' ≡ set (services_of client) k after
    → (mounts_of client' ≡ mounts_of client) × (addresses_of client' ≡ addresses_of client) × (replacement_of client' ≡ replacement_of client) → SameBut k client client'
others_stay client client' k after put rest = record {
  others = λ other apart. ap (λ (services : List NamenodeProtocol). slice_get services other) put ∙ put_elsewhere (services_of client) k other after apart;
  mounts = rest.0;
  addresses = rest.1;
  replacement = rest.2;
}
