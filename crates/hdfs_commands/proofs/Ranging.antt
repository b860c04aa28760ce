-- Whether a range may be read, from one call to the next.
use Rattle.std.proofs.Common.{◌≡◌, ◌⊎◌, inl, inr, ⊎_elim, ℕ, ◌+◌, ◌<◌, ◌≤◌, Bool, true, false, List, Option, Some, None, refl, sym, ◌∙◌, ap, subst}
use Rattle.std.specs.Prelude.{IsSomeAnd}
use Rattle.std.proofs.lemmas.Bool.{cases_lt, false≢true}
use Rattle.hdfs_model.specs.declared.commands.Command.TheVariants as commands
use Rattle.hdfs_cluster.specs.declared.errors.ArgFault.TheVariants as args
use Rattle.hdfs_cluster.specs.declared.errors.HdfsError.{HdfsError}
use Rattle.hdfs_cluster.specs.declared.errors.HdfsError.TheVariants as errors
use Rattle.hdfs_cluster.specs.declared.messages.LocatedBlocks.{LocatedBlocks}
use Rattle.hdfs_cluster.specs.declared.messages.ServerDefaults.{ServerDefaults}
use Rattle.hdfs_model.specs.Causes.{Cause, IsEarly, Tells}
use Rattle.hdfs_cluster.specs.Files.{State}
use Rattle.hdfs_cluster.specs.Namenode.{Locates}
use Rattle.hdfs_cluster.specs.Picture.{Picture, SameFiles}
use Rattle.hdfs_model.specs.Sessions.{MeetsNoEncryption, defaults_of}
use Rattle.hdfs_model.specs.Owing.{IsNotOwed}
use Rattle.hdfs_cluster.specs.Shown.{SameNodes, Shown}
use Rattle.hdfs_model.specs.Steps.{World}
use Rattle.hdfs_cluster.specs.Stores.{Agrees}
use Rattle.hdfs_cluster.proofs.Frames.{told_after}
use Rattle.hdfs_namenode.specs.Asked.{ReachesAll}
use Rattle.hdfs_namenode.specs.Clients.{SameClient, defaults_of as known_of, proxy_of}
use Rattle.hdfs_namenode.specs.declared.protocol.NamenodeProtocol.{NamenodeProtocol}
use Rattle.hdfs_namenode.proofs.Services.{reaches_later, same_service_trans}
use Rattle.hdfs_file_reader.specs.Files.{EndsBehind, LacksRange, LosesByte, OnlyReadsFile}
use Rattle.hdfs_file_reader.specs.Looking.{FilesStay, IsClosed, OnlyLooks}
use Rattle.hdfs_file_reader.specs.Transferring.{LacksTransfer, MayMove, SameButKnown, Unsupported}
use Rattle.hdfs_file_reader.proofs.Looking.{files_read}
use Rattle.hdfs_commands.specs.Meeting.{KnowsDefaults, KnowsWorld, Meets}
use Rattle.hdfs_commands.proofs.Agreeing.{is_told}
use Rattle.hdfs_commands.proofs.Causing.{agrees_read, blocks_cause, moves_cause, not_early, opens_plain, range_cause, tells_from-FailsAt}
use Rattle.hdfs_commands.proofs.Owing.{ask_not_owed, reader_not_owed}
use Rattle.hdfs_commands.proofs.Prepared.{known_told, told_known}
use Rattle.hdfs_commands.proofs.Refusing.{ask_tells, rose_cause}
use Rattle.hdfs_commands.proofs.Stepping.{is_closed}
use Rattle.hdfs_namenode.specs.Views.{Whole}

-- It is the same client but for the defaults that it knows; and where nobody writes the file at a path, and what it knew was the cluster's,
-- what it knows is so.
pub record AsksOn (path : List ℕ) (old : Shown) (namenode : NamenodeProtocol) (new : Shown) (namenode' : NamenodeProtocol) : Type 0 where
  pub same : SameButKnown namenode namenode'
  pub told : (p : Picture) → old.picture ≡ Some p → IsClosed p path → KnowsDefaults old (known_of namenode)
      → KnowsDefaults new (known_of namenode')

-- what is known stays known
same_known_trans : (a b c : NamenodeProtocol) → SameClient a b → SameButKnown b c → SameButKnown a c
same_known_trans a b c one two = record {
  service = same_service_trans (proxy_of a) (proxy_of b) (proxy_of c) one.service two.service;
  name = two.name ∙ one.name;
  known = λ defaults is. two.known defaults (one.defaults ∙ is);
}

-- what was known of the cluster's defaults is so where the files stayed
knows_moved : (s t : Shown) (p q : Picture) (known : Option ServerDefaults) → s.picture ≡ Some p → t.picture ≡ Some q → q.defaults ≡ p.defaults → KnowsDefaults s known → KnowsDefaults t known
knows_moved s t p q None was now same knows = tt
knows_moved s t p q (Some d) was now same knows = knows ∙ ap defaults_of was ∙ sym same ∙ sym (ap defaults_of now)

-- a client that has looked at the blocks alone
pub asks_looked : (path : List ℕ) (s t : Shown) (client client' : NamenodeProtocol) → FilesStay path s t → SameClient client client' → AsksOn path s client t client'
asks_looked path s t client client' stay same = record {
  same = record { service = same.service; name = same.name; known = λ d is. same.defaults ∙ is };
  told = λ p told closed knows.
      (let there = stay p told closed in
      subst (KnowsDefaults t) (sym same.defaults) (knows_moved s t p there.0 (known_of client) told there.1 there.2.defaults knows));
}

-- what the blocks were found to be, and what was read of them then
module _ (path : List ℕ) (s m t : Shown) (a b c : NamenodeProtocol) (stay : FilesStay path s m) (same : SameClient a b) (looks : OnlyLooks s m) (reaches : ReachesAll (proxy_of a) s)
    (leaves : OnlyReadsFile m b t c) where
  reaches_still : ReachesAll (proxy_of b) m
  reaches_still = reaches_later (proxy_of a) (proxy_of b) s m same.service looks.later reaches

  -- the files stay
  pub stay_read : FilesStay path s t
  stay_read = files_read s m t path stay (leaves.files reaches_still)

  -- what is known of the defaults stays so
  known_read : (p : Picture) → m.picture ≡ Some p → KnowsDefaults m (known_of b) → KnowsDefaults t (known_of c)
  known_read p told knows =
      let to = told_after SameFiles m.picture t.picture p (leaves.files reaches_still) told in
      known_told t to.0 (known_of c) to.1 (leaves.known reaches_still p to.0 told to.1 (told_known m p (known_of b) told knows))

  pub asks_read : AsksOn path s a t c
  asks_read = record {
    same = same_known_trans a b c same leaves.same;
    told = λ p told closed knows.
        (let there = stay p told closed in
        known_read there.0 there.1 ((asks_looked path s m a b stay same).told p told closed knows));
  }

  module _ (name : List ℕ) (offset len : ℕ) (found : LocatedBlocks) (located : (p : Picture) → s.picture ≡ Some p → IsClosed p path → Locates p path found)
      (w : World) (state : State) (meets : Meets w s state name path) (knows : KnowsWorld w s (known_of a)) where
    -- the defaults of the world are those that the client knows at the end
    in_world : (q : Picture) × (t.picture ≡ Some q) × KnowsDefaults t (known_of c) × (w.defaults ≡ defaults_of t.picture)
    in_world =
        let told = is_told s.picture state.files meets.agrees in
        let closed = is_closed w s state name path meets told.0 told.1 in
        let on = stay_read told.0 told.1 closed in
        (on.0, on.1, asks_read.told told.0 told.1 closed knows.knows, knows.defaults ∙ ap defaults_of told.1 ∙ sym on.2.defaults ∙ sym (ap defaults_of on.1))

    wants : (b : Bool) (known : Option ServerDefaults) → KnowsDefaults t known → IsSomeAnd known (λ d. d.encrypt_data_transfer ≡ b) → w.defaults.encrypt_data_transfer ≡ b
    wants b None is wanted = absurd wanted
    wants b (Some d) is wanted = ap (λ (x : ServerDefaults). x.encrypt_data_transfer) (in_world.3 ∙ sym is) ∙ wanted

    pub agrees_then : Agrees t.picture state.files
    agrees_then = agrees_read w s m state name path offset len meets stay found located t (leaves.files reaches_still)

    -- no encryption is met
    pub finds_plain : found.encryption ≡ None → MayMove len c → MeetsNoEncryption w state (commands.Read name offset len)
    finds_plain none may = record {
      bytes = λ moves. false≢true (sym (wants false (known_of c) in_world.2 (may moves.0)) ∙ moves.1);
      file = opens_plain w s m state name path offset len meets stay found located none;
    }

    -- bytes that may not be moved
    transfer_cause : offset + len ≤ found.file_length → (e : HdfsError) → LacksTransfer len m b e t c → Cause w state (commands.Read name offset len) s t e
    transfer_cause within e (inl asked) =
        let told = is_told s.picture state.files meets.agrees in
        let there = stay told.0 told.1 (is_closed w s state name path meets told.0 told.1) in
        let vain = asked Whole reaches_still in
        ⊎_elim (λ memory. subst (Cause w state (commands.Read name offset len) s t) (sym memory) (tt, tt))
        (λ rose. rose_cause w state (commands.Read name offset len) s m t e looks.later.counts vain.0 rose)
        (vain.1 there.0 there.1)
    transfer_cause within e (inr moves) =
        subst (Cause w state (commands.Read name offset len) s t) (sym moves.0)
        (moves_cause w s m state name path offset len meets stay found located within moves.1 (wants true (known_of c) in_world.2 moves.2))

    -- why a range isn't given
    pub lacks_cause : (e : HdfsError) → (length : ℕ) → length ≡ found.file_length → LacksRange length offset len m b e t c
        → (length < offset + len → Cause w state (commands.Read name offset len) s t e) → LosesByte m found.blocks offset (offset + len) e t → Cause w state (commands.Read name offset len) s t e
    lacks_cause e length is lacks past loses = by (cases_lt length (offset + len)) lacks
      where
        by : (length < offset + len) ⊎ (offset + len ≤ length) → LacksRange length offset len m b e t c → Cause w state (commands.Read name offset len) s t e
        by (inl short) lacks = past short
        by (inr fits) (inl behind) = past behind.1
        by (inr fits) (inr (inl lacking)) = transfer_cause (subst (λ (l : ℕ). offset + len ≤ l) is fits) e lacking.0
        by (inr fits) (inr (inr fails)) =
            blocks_cause w s m state name path offset len meets stay found located t looks.later (leaves.files reaches_still) (subst (λ (l : ℕ). offset + len ≤ l) is fits) e fails loses

-- a range that ends behind the file
module _ (name path : List ℕ) (offset len : ℕ) (found : LocatedBlocks) (s m : Shown) (stay : FilesStay path s m) (located : (p : Picture) → s.picture ≡ Some p → IsClosed p path → Locates p path found)
    (w : World) (state : State) (meets : Meets w s state name path) where
  pub range_ends : (length : ℕ) (e : HdfsError) → length ≡ found.file_length → EndsBehind offset len length e → length < offset + len → Cause w state (commands.Read name offset len) s m e
  range_ends length e is ends past =
      let ends' : e ≡ errors.InvalidArgument (args.Range offset len found.file_length) = ends ∙ ap (λ (l : ℕ). errors.InvalidArgument (args.Range offset len l)) is in
      subst (Cause w state (commands.Read name offset len) s m) (sym ends')
      (range_cause w s m state name path offset len meets stay found located (subst (λ (l : ℕ). l < offset + len) is past))

-- what an encrypted file's error tells
pub plain_tells : (name : List ℕ) (offset len : ℕ) (s t : Shown) (e : HdfsError) → Unsupported e → IsNotOwed e × Tells (commands.Read name offset len) s t e
plain_tells name offset len s t e is = subst (λ (x : HdfsError). IsNotOwed x × Tells (commands.Read name offset len) s t x) (sym is) (tt, (tt, (tt, tt)))

-- what an error of a range tells over any cluster
module _ (name : List ℕ) (offset len length : ℕ) (s m t : Shown) (b c : NamenodeProtocol) (looks : OnlyLooks s m) where
  pub lacks_tells : (e : HdfsError) → LacksRange length offset len m b e t c → ReachesAll (proxy_of b) m → IsNotOwed e × Tells (commands.Read name offset len) s t e
  lacks_tells e (inl behind) reaches =
      subst (λ (x : HdfsError). IsNotOwed x × Tells (commands.Read name offset len) s t x) (sym behind.0) (tt, (((refl, refl), behind.1), (tt, tt)))
  lacks_tells e (inr (inl (inl asked, nodes))) reaches =
      let vain = asked Whole reaches in (ask_not_owed m t e vain.0, ask_tells (commands.Read name offset len) s m t e looks.later.counts vain.0)
  lacks_tells e (inr (inl (inr moves, nodes))) reaches = plain_tells name offset len s t e moves.0
  lacks_tells e (inr (inr fails)) reaches = (reader_not_owed (λ byte. 0 < len) e fails, tells_from-FailsAt name offset len s t e fails)

  -- a refusal touches no datanode
  pub lacks_early : (e : HdfsError) → LacksRange length offset len m b e t c → (length < offset + len → SameNodes m t) → IsEarly (commands.Read name offset len) e → SameNodes m t
  lacks_early e (inl behind) still early = still behind.1
  lacks_early e (inr (inl lacking)) still early = lacking.1
  lacks_early e (inr (inr fails)) still early = absurd (not_early (commands.Read name offset len) (λ byte. 0 < len) e fails early)
