-- A client that has a reader of a file reads a range by it as a session does.
use Rattle.std.proofs.Common.{◌≡◌, inl, inr, ℕ, ◌+◌, ◌<◌, ◌≤◌, ◌==◌, Bool, true, false, List, [], ◌∷◌, Option, Some, None, Ok, Err, refl, sym, ◌∙◌, ap, subst}
use Rattle.std.specs.Prelude.{◌≢◌, ◌⊎◌, IfErr, IfOk, OnOk, Result, length}
use Rattle.std.proofs.lemmas.Bool.{cases_Bool, false≢true}
use Rattle.std.proofs.lemmas.Bool.Decides.{Decides-eqb}
use Rattle.hdfs_cluster.specs.declared.asks.Answer.{Answer}
use Rattle.hdfs_cluster.specs.declared.asks.Answer.TheVariants as answers
use Rattle.hdfs_cluster.specs.declared.asks.Ask.{Ask}
use Rattle.hdfs_cluster.specs.declared.asks.AskFault.{AskFault}
use Rattle.hdfs_cluster.specs.declared.errors.HdfsError.{HdfsError}
use Rattle.hdfs_cluster.specs.declared.messages.LocatedBlock.{LocatedBlock}
use Rattle.hdfs_cluster.specs.declared.messages.LocatedBlocks.{LocatedBlocks}
use Rattle.hdfs_cluster.specs.declared.messages.ServerDefaults.{ServerDefaults}
use Rattle.hdfs_cluster.specs.Files.{State}
use Rattle.hdfs_cluster.specs.Namenode.{Locates}
use Rattle.hdfs_cluster.specs.Picture.{Picture}
use Rattle.hdfs_cluster.specs.Reading.{range_of}
use Rattle.hdfs_cluster.specs.Shown.{Served, SameLinks, Shown}
use Rattle.hdfs_cluster.proofs.Frames.{later_trans, same_links_trans}
use Rattle.hdfs_names.specs.Paths.{is_path}
use Rattle.hdfs_model.specs.declared.commands.Command.{Command}
use Rattle.hdfs_model.specs.declared.commands.Command.TheVariants as commands
use Rattle.hdfs_model.specs.declared.commands.Reply.TheVariants as replies
use Rattle.hdfs_model.specs.Causes.{Cause}
use Rattle.hdfs_model.specs.Scenes.{Ready}
use Rattle.hdfs_model.specs.Sessions.{defaults_of}
use Rattle.hdfs_model.specs.Steps.{World}
use Rattle.hdfs_namenode.specs.Asked.{ReachesAll, as_answer}
use Rattle.hdfs_namenode.specs.Clients.{SameClient, proxy_of, defaults_of as kept_by}
use Rattle.hdfs_namenode.specs.Relaying.{Came}
use Rattle.hdfs_namenode.specs.declared.protocol.NamenodeProtocol.{NamenodeProtocol}
use Rattle.hdfs_namenode.proofs.Services.{reaches_later}
use Rattle.hdfs_file_reader.specs.Files.{EndsBehind, LacksRange, LosesByte}
use Rattle.hdfs_file_reader.specs.Looking.{FilesStay, IsClosed, OnlyLooks}
use Rattle.hdfs_file_reader.specs.Ranges.{Stored}
use Rattle.hdfs_file_reader.proofs.Looking.{files_looked, found_looked, looks_from-Leaves}
use Rattle.hdfs_file_reader.specs.Transferring.{MayMove}
use Rattle.hdfs_client.specs.Calls.{Gives}
use Rattle.hdfs_client.specs.Clients.{AsksAt, SameBut, service_at}
use Rattle.hdfs_client.specs.Readers.{IsMadeFor, IsReaderOf, Opens, ReadsRange, blocks_of, length_of, service_of}
use Rattle.hdfs_client.specs.declared.client.Client.{Client}
use Rattle.hdfs_client.specs.declared.file_reader.FileReader.{FileReader}
use Rattle.hdfs_client.proofs.Coming.{came_at}
use Rattle.hdfs_commands.specs.Meeting.{KnowsDefaults, KnowsWorld, Meets}
use Rattle.hdfs_commands.proofs.Agreeing.{is_told}
use Rattle.hdfs_commands.proofs.Causing.{read_done}
use Rattle.hdfs_commands.proofs.Ranging.{agrees_then, asks_read, finds_plain, lacks_cause, range_ends, stay_read}
use Rattle.hdfs_commands.proofs.Stepping.{is_closed}
use Rattle.hdfs_client_steps.specs.OpenFiles.{ReadsAs}
use Rattle.hdfs_client_steps.specs.Steps.{Does, Knows, holding, replied}
use Rattle.hdfs_client_steps.proofs.ReadBack.{locating}
use Rattle.hdfs_client_steps.proofs.ReadMeets.{read_defaults, read_meets, read_refused, read_replied}

-- what a client knows that is the cluster's stays so where the defaults stay
knows_moved : (s t : Shown) → defaults_of t.picture ≡ defaults_of s.picture → (known : Option ServerDefaults) → KnowsDefaults s known → KnowsDefaults t known
knows_moved s t same None knows = tt
knows_moved s t same (Some d) knows = knows ∙ sym same

-- The blocks were found, and a range of them was read, by a service that is whole.
module _ (s m t : Shown) (mid client' : Client) (reader : FileReader) (path : List ℕ) (offset len : ℕ) (result : Result (List ℕ) HdfsError) (a : NamenodeProtocol)
    (found : LocatedBlocks) (came : Came s (locating path) (Ok (answers.GetBlockLocations (Some found))) m) (of : IsReaderOf found reader)
    (range : ReadsRange m mid reader offset len result t client') (keeps : SameClient a range.before) (reaches : ReachesAll (proxy_of a) s)
    (past : length_of reader < offset + len → IfErr result (EndsBehind offset len (length_of reader)) × (t ≡ m)) (within : OnOk result (offset + len ≤ length_of reader))
    (named : is_path path ≡ true) (opened : List ℕ → Bool) (placed : opened path ≡ true → ⊥) (world : World) (state : State)
    (ready : Ready world (holding opened s) state (commands.Read path offset len ∷ [])) (knows : KnowsWorld world s (kept_by a)) where
  abbrev reading : Command
  reading = commands.Read path offset len

  meets : Meets world s state path path
  meets = read_meets s path offset len named opened placed world state ready

  looks : OnlyLooks s m
  looks = looks_from-Leaves s m came.relays.leaves

  files : FilesStay path s m
  files = files_looked came

  located : (p : Picture) → s.picture ≡ Some p → IsClosed p path → Locates p path found
  located p told closed = found_looked came p told closed (refl, refl)

  still_reaches : ReachesAll (proxy_of range.before) m
  still_reaches = reaches_later (proxy_of a) (proxy_of range.before) s m keeps.service looks.later reaches

  links : SameLinks s t
  links = same_links_trans s m t looks.links range.leaves.links

  stay : FilesStay path s t
  stay = stay_read path s m t a range.before range.after files keeps looks reaches range.leaves

  -- what the service knows of the defaults then is the cluster's
  pub known_then : KnowsDefaults t (kept_by range.after)
  known_then =
      let told = is_told s.picture state.files meets.agrees in
      (asks_read path s m t a range.before range.after files keeps looks reaches range.leaves).told told.0 told.1 (is_closed world s state path path meets told.0 told.1) knows.knows

  pub defaults_then : defaults_of t.picture ≡ defaults_of s.picture
  defaults_then = read_defaults s path offset len named opened placed world state ready t links stay

  -- an error has its cause
  error_cause : (error : HdfsError) → result ≡ Err error → Cause world state reading s t error
  error_cause error is =
      lacks_cause path s m t a range.before range.after files keeps looks reaches range.leaves path offset len found located world state meets knows error (length_of reader) of.its_length
      (subst (λ (r : Result (List ℕ) HdfsError). IfErr r (λ e. LacksRange (length_of reader) offset len m range.before e t range.after)) is range.err)
      (λ short.
      let behind = past short in
      subst (λ (x : Shown). Cause world state reading s x error) (sym behind.1)
      (range_ends path path offset len found s m files located world state meets (length_of reader) error of.its_length
      (subst (λ (r : Result (List ℕ) HdfsError). IfErr r (EndsBehind offset len (length_of reader))) is behind.0) short))
      (subst (λ (bs : List LocatedBlock). LosesByte m bs offset (offset + len) error t) of.its_blocks
      (subst (λ (r : Result (List ℕ) HdfsError). IfErr r (λ e. ReachesAll (proxy_of range.before) m → LosesByte m (blocks_of reader) offset (offset + len) e t)) is range.lost still_reaches))

  -- the bytes are those of the step
  bytes_done : (bytes : List ℕ) → result ≡ Ok bytes → Does world state reading path opened s opened t (Ok (replies.Bytes bytes))
  bytes_done bytes is =
      let fits : offset + len ≤ length_of reader = subst (λ (r : Result (List ℕ) HdfsError). OnOk r (offset + len ≤ length_of reader)) is within in
      let moved : MayMove len range.after = subst (λ (r : Result (List ℕ) HdfsError). OnOk r (MayMove len range.after)) is range.plain in
      let gave = subst (λ (r : Result (List ℕ) HdfsError). IfOk r (λ out. ReachesAll (proxy_of range.before) m → (content : List ℕ) → Stored m (blocks_of reader) content
      → offset + len ≤ length content → out ≡ range_of content offset len)) is range.bytes in
      read_replied s path offset len named opened placed world state ready t links stay bytes
      (read_done world s m state path path offset len meets files found located bytes (subst (λ (n : ℕ). offset + len ≤ n) of.its_length fits)
      (λ content stored inside. gave still_reaches content (subst (λ (bs : List LocatedBlock). Stored m bs content) (sym of.its_blocks) stored) inside))
      (agrees_then path s m t a range.before range.after files keeps looks reaches range.leaves path offset len found located world state meets knows)
      (finds_plain path s m t a range.before range.after files keeps looks reaches range.leaves path offset len found located world state meets knows of.plain moved)

  -- the read came to what the session's comes to
  pub range_at : Does world state reading path opened s opened t (replied (λ bytes. replies.Bytes bytes) result)
  range_at = by result refl
    where
      by : (r : Result (List ℕ) HdfsError) → result ≡ r → Does world state reading path opened s opened t (replied (λ bytes. replies.Bytes bytes) r)
      by (Ok bytes) is = bytes_done bytes is
      by (Err error) is =
          read_refused s path offset len named opened placed world state ready t links stay (later_trans s m t looks.later range.leaves.later) error (error_cause error is)
          (agrees_then path s m t a range.before range.after files keeps looks reaches range.leaves path offset len found located world state meets knows)

-- ---- of each service of the client

-- what each service knows of the defaults, where one of them was used in two calls, one behind the other
knows_each : (client mid client' : Client) (k : ℕ) (s t : Shown) (after : NamenodeProtocol) → Knows client s → defaults_of t.picture ≡ defaults_of s.picture
    → SameBut k client mid → SameBut k mid client' → service_at client' k ≡ Some after → KnowsDefaults t (kept_by after) → Knows client' t
knows_each client mid client' k s t after knows same one two is there i namenode at = by (cases_Bool (i == k))
  where
    by : ((i == k) ≡ true) ⊎ ((i == k) ≡ false) → KnowsDefaults t (kept_by namenode)
    by (inl here) =
        let there_is : service_at client' i ≡ Some after = ap (λ (j : ℕ). service_at client' j) ((Decides-eqb i k).0 here) ∙ is in
        let equal : after ≡ namenode = cc (there_is, at) in
        subst (λ (n : NamenodeProtocol). KnowsDefaults t (kept_by n)) equal there
    by (inr apart) =
        let other : i ≢ k = λ e. false≢true (sym apart ∙ (Decides-eqb i k).1 e) in
        knows_moved s t same (kept_by namenode) (knows i namenode (sym (one.others i other) ∙ sym (two.others i other) ∙ at))

module _ {C : Type 0} {shown : C → Shown} {serves : C → ℕ → Ask → Result Answer AskFault → C → Type 0}
    (rows : (old new : C) (i : ℕ) (ask : Ask) (result : Result Answer AskFault) → serves old i ask result new → Served (shown old) i ask result (shown new))
    (below : (c : C) (p : Picture) → (shown c).picture ≡ Some p → p.active < (shown c).namenodes)
    (client mid client' : Client) (src : List ℕ) (offset len : ℕ) (old between new : C) (reader : FileReader) (result : Result (List ℕ) HdfsError)
    (range : ReadsRange (shown between) mid reader offset len result (shown new) client')
    (past : length_of reader < offset + len → IfErr result (EndsBehind offset len (length_of reader)) × (shown new ≡ shown between))
    (within : OnOk result (offset + len ≤ length_of reader)) where
  by_reader : (found : LocatedBlocks) → IsReaderOf found reader
      → AsksAt serves false locating client src old (Ok (answers.GetBlockLocations (Some found))) mid between → IsMadeFor client src mid reader
      → ReadsAs client src offset len (shown old) client' (shown new) result
  by_reader found of at made = λ knows reaches to leads named opened placed world state ready same.
      let led : at.to ≡ to = cc (at.leads, leads) in
      let number : service_of reader ≡ at.to.service = made.service at.to at.leads in
      let was : service_at mid at.to.service ≡ Some range.before = sym (ap (λ (k : ℕ). service_at mid k) number) ∙ range.was in
      let one : at.after ≡ range.before = cc (was, at.is) in
      let keeps : SameClient at.before range.before = subst (λ (n : NamenodeProtocol). SameClient at.before n) one at.keeps in
      let came : Came (shown old) (locating to.path) (Ok (answers.GetBlockLocations (Some found))) (shown between) = came_at rows below at reaches to leads in
      let whole : ReachesAll (proxy_of at.before) (shown old) = reaches at.to at.before at.leads at.was in
      let known : KnowsWorld world (shown old) (kept_by at.before) = record { defaults = same; knows = knows at.to.service at.before at.was } in
      let there = known_then (shown old) (shown between) (shown new) mid client' reader to.path offset len result at.before found came of range keeps whole past within named opened placed world state ready known in
      let still = defaults_then (shown old) (shown between) (shown new) mid client' reader to.path offset len result at.before found came of range keeps whole past within named opened placed world state ready known in (
        range_at (shown old) (shown between) (shown new) mid client' reader to.path offset len result at.before found came of range keeps whole past within named opened placed world state ready known,
        knows_each client mid client' (service_of reader) (shown old) (shown new) range.after knows still
            (subst (λ (k : ℕ). SameBut k client mid) (sym number) at.others) range.others range.is there,
      )

  -- A client that has a reader of the file, and reads a range by it, answers what the session does.
  pub read_does : Gives serves false locating answers.GetBlockLocations client src old mid between (λ found. Opens src found (Ok reader)) → IsMadeFor client src mid reader
      → ReadsAs client src offset len (shown old) client' (shown new) result
  read_does gives made = by gives.outcome gives.has gives.asks
    where
      by : (outcome : Result (Option LocatedBlocks) HdfsError) → Opens src outcome (Ok reader)
          → AsksAt serves false locating client src old (as_answer answers.GetBlockLocations outcome) mid between
          → ReadsAs client src offset len (shown old) client' (shown new) result
      by (Ok (Some found)) has at = by_reader found has.0 at made
      by (Ok None) (inl missing) at = absurd (cc missing)
      by (Ok None) (inr memory) at = absurd (cc memory)
      by (Err error) has at = absurd (cc has)
