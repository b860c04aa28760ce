-- Why a read fails, and what it gives.
use Rattle.std.proofs.Common.{◌≡◌, ◌⊎◌, inl, inr, ⊎_elim, ℕ, ◌+◌, ◌<◌, ◌≤◌, Bool, true, false, cond, List, [], length, get_or, Option, Some, None, is_some, refl, sym, ◌∙◌, ap, subst, arith}
use Rattle.std.proofs.lemmas.Bool.{false≢true}
use Rattle.hdfs_cluster.specs.declared.messages.LocatedBlocks.{LocatedBlocks}
use Rattle.hdfs_model.specs.declared.commands.Command.{Command}
use Rattle.hdfs_model.specs.declared.commands.Command.TheVariants as commands
use Rattle.hdfs_model.specs.declared.commands.Reply.TheVariants as replies
use Rattle.hdfs_cluster.specs.declared.errors.HdfsError.{HdfsError}
use Rattle.hdfs_cluster.specs.declared.errors.HdfsError.TheVariants as errors
use Rattle.hdfs_cluster.specs.declared.errors.Feature.TheVariants as features
use Rattle.hdfs_cluster.specs.declared.errors.ArgFault.TheVariants as args
use Rattle.hdfs_cluster.specs.declared.errors.TransferFault.TheVariants as transfer
use Rattle.hdfs_cluster.specs.Files.{State, Content, NoFile, NotDirectory, Missing, NotFile}
use Rattle.hdfs_cluster.specs.Reading.{range_of}
use Rattle.hdfs_cluster.specs.Refusals.{Lacks}
use Rattle.hdfs_model.specs.Steps.{World, Done, content_of, step, target_of}
use Rattle.hdfs_cluster.specs.Picture.{Picture, SameFiles, Told, kinds}
use Rattle.hdfs_cluster.specs.Namenode.{Locates, IsNoFile, StandsForNoFile, class_for, is_taken}
use Rattle.hdfs_cluster.specs.Shown.{Shown, Later}
use Rattle.hdfs_cluster.specs.Stores.{Agrees}
use Rattle.hdfs_cluster.specs.Failures.{CallsRose}
use Rattle.hdfs_cluster.specs.Lost.{AllFailed, ByteLost, FileLost}
use Rattle.hdfs_model.specs.Causes.{HasLength, IsEncryptedAt, OpensEncrypted, Cause, Tells, IsEarly}
use Rattle.hdfs_cluster.proofs.Frames.{never_fall_refl, told_after, rose_since}
use Rattle.hdfs_namenode.specs.Asked.{exception_error}
use Rattle.hdfs_commands.specs.Meeting.{Meets}
use Rattle.hdfs_file_reader.specs.Looking.{IsClosed}
use Rattle.hdfs_file_reader.specs.Files.{LosesByte}
use Rattle.hdfs_file_reader.specs.Looking.{FilesStay, LacksBlocks}
use Rattle.hdfs_file_reader.specs.Ranges.{Stored, FailsAt}
use Rattle.hdfs_commands.proofs.Agreeing.{agrees_moved, agrees_files, is_told}
use Rattle.hdfs_file_reader.proofs.Staying.{byte_lost, locates_blocks, stores_blocks}
use Rattle.hdfs_commands.proofs.Refusing.{rose_cause}
use Rattle.hdfs_commands.proofs.Stepping.{Found, found_file, is_closed, refused_read, done_read, bad_range}

-- what holds of an error over any cluster
pub tells_from-FailsAt : (name : List ℕ) (offset len : ℕ) (old new : Shown) (e : HdfsError) → FailsAt (λ byte. 0 < len) e → Tells (commands.Read name offset len) old new e
tells_from-FailsAt name offset len old new errors.NoMemory h = (tt, (tt, tt))
tells_from-FailsAt name offset len old new (errors.DataTransferError (transfer.Read byte)) h = ((offset, len, (refl, refl), h), (tt, tt))
tells_from-FailsAt name offset len old new e h = absurd h

-- an error of datanodes is no refusal
pub not_early : (command : Command) (P : ℕ → Type 0) (e : HdfsError) → FailsAt P e → IsEarly command e → ⊥
not_early command P errors.NoMemory h early = early
not_early command P (errors.DataTransferError (transfer.Read byte)) h early = early
not_early command P e h early = absurd h

-- the exceptions that stand for a missing file don't say that something stands at the path
not_taken : (why : NoFile) → is_taken (class_for why) ≡ false
not_taken NotDirectory = refl
not_taken Missing = refl
not_taken NotFile = refl

module _ (w : World) (s s' : Shown) (state : State) (name path : List ℕ) (offset len : ℕ) (meets : Meets w s state name path) where
  abbrev command : Command
  command = commands.Read name offset len

  -- the picture in which the file is closed
  closed_there : (p : Picture) × (s.picture ≡ Some p) × IsClosed p path
  closed_there =
      let told = is_told s.picture state.files meets.agrees in
      (told.0, told.1, is_closed w s state name path meets told.0 told.1)

  -- a file that the namenode doesn't know isn't there
  missing_cause : IsNoFile closed_there.0 path → Cause w state command s s' (errors.FileNotFound name)
  missing_cause lacking =
      let t = closed_there in
      ((lacking.0, refused_read w s state name path meets t.0 t.1 offset len lacking.0 lacking.1), tt)

  exception_cause : (class message : List ℕ) → (p : Picture) → s.picture ≡ Some p → StandsForNoFile (kinds p) path class ⊎ CallsRose s.counts s' → Cause w state command s s' (exception_error class message)
  exception_cause class message p told h = by_test (is_taken class) refl
    where
      by_test : (b : Bool) → is_taken class ≡ b → Cause w state command s s' (cond b (errors.AlreadyExists message) (errors.RPCError class message))
      by_test true is = (⊎_elim (λ stands. absurd (false≢true (sym (not_taken stands.0) ∙ sym (ap is_taken stands.2) ∙ is))) (λ rose. inr rose) h, tt)
      by_test false is = (⊎_elim (λ stands. inl (Lacks stands.0, refused_read w s state name path meets p told offset len stands.0 stands.1, stands.2)) (λ rose. inr rose) h, tt)

  -- why the look-up fails
  pub looked_cause : (e : HdfsError) → ((p : Picture) → s.picture ≡ Some p → IsClosed p path → LacksBlocks p name path s e s') → Cause w state command s s' e
  looked_cause e why =
      let t = closed_there in
      ⊎_elim
      (λ missing. subst (Cause w state command s s') (sym missing.0) (missing_cause missing.1))
      (λ asked. ⊎_elim
      (λ memory. subst (Cause w state command s s') (sym memory) (tt, tt))
      (λ more. ⊎_elim
      (λ refused. subst (Cause w state command s s') (sym refused.3) (exception_cause refused.0 refused.1 t.0 t.1 (inl refused.2)))
      (λ rose. rose_cause w state command s s s' e (never_fall_refl s.counts) asked.0 rose)
      more)
      asked.1)
      (why t.0 t.1 t.2)

  module _ (files : FilesStay path s s') where
    -- the files agree behind the look-up
    pub agrees_looked : Agrees s'.picture state.files
    agrees_looked =
        let told = is_told s.picture state.files meets.agrees in
        let after = files told.0 told.1 (is_closed w s state name path meets told.0 told.1) in
        agrees_moved s.picture s'.picture told.0 after.0 state.files told.1 after.1 after.2 meets.agrees

    module _ (found : LocatedBlocks) (locates : (p : Picture) → s.picture ≡ Some p → IsClosed p path → Locates p path found) where
      here : (p : Picture) × (s.picture ≡ Some p) × Locates p path found × Found p state path found
      here =
          let told = is_told s.picture state.files meets.agrees in
          let there = locates told.0 told.1 (is_closed w s state name path meets told.0 told.1) in
          (told.0, told.1, there, found_file w s state name path meets told.0 told.1 found there)

      -- it is refused for that where the file is encrypted
      pub encrypted_cause : is_some found.encryption ≡ true → Cause w state command s s' (errors.UnsupportedFeature features.Encryption)
      encrypted_cause is = (inr (subst (λ (q : List ℕ). IsEncryptedAt state q) (sym meets.called) (here.3.content, here.3.filed, sym here.3.encryption ∙ is)), tt)

      -- and else no encrypted file is opened
      pub opens_plain : found.encryption ≡ None → OpensEncrypted state (target_of w command) command → ⊥
      opens_plain none opens =
          let there = subst (λ (q : List ℕ). IsEncryptedAt state q) meets.called opens in
          let same : there.0 ≡ here.3.content = cc (there.1, here.3.filed) in
          false≢true (sym (ap (λ (o : Option (List ℕ)). is_some o) none) ∙ here.3.encryption ∙ ap (λ (x : Content). x.attributes.encrypted) (sym same) ∙ there.2)

      -- bytes of it are to be encrypted on their way
      pub moves_cause : offset + len ≤ found.file_length → 0 < len → w.defaults.encrypt_data_transfer ≡ true → Cause w state command s s' (errors.UnsupportedFeature features.Encryption)
      moves_cause within some encrypts =
          let f = here.3 in
          let done = done_read w s state name path meets here.0 here.1 found here.2 f offset len (omega (arith, within, f.long)) in
          (inl ((replies.Bytes (range_of f.content.bytes offset len), state, done), (some, encrypts)), tt)

      pub range_cause : found.file_length < offset + len → Cause w state command s s' (errors.InvalidArgument (args.Range offset len found.file_length))
      range_cause past =
          let f = here.3 in
          let length_is : HasLength state path found.file_length = (f.content, ap content_of f.filed, f.long) in
          let bad = bad_range w s state name path meets here.0 here.1 found here.2 f offset len (omega (arith, past, f.long)) in
          ((bad, subst (λ (q : List ℕ). HasLength state q found.file_length) (sym meets.called) length_is), tt)

      -- the blocks that were found store the file, still
      after : (q : Picture) × (s'.picture ≡ Some q) × SameFiles here.0 q
      after = files here.0 here.1 (is_closed w s state name path meets here.0 here.1)

      stored : Stored s' found.blocks here.3.content.bytes
      stored =
          let f = here.3 in
          record {
            picture = after.0;
            told = after.1;
            ids = f.file.blocks;
            total = found.file_length;
            located = locates_blocks here.0 after.0 after.2 0 found.file_length f.file.blocks found.blocks f.located;
            stored = stores_blocks here.0 after.0 after.2 f.file.blocks f.content.bytes f.stored;
          }

      pub read_done : (out : List ℕ) → offset + len ≤ found.file_length → ((content : List ℕ) → Stored s' found.blocks content → offset + len ≤ length content → out ≡ range_of content offset len) → step w state command ≡ Done (replies.Bytes out) state
      read_done out within gives =
          let f = here.3 in
          let inside : offset + len ≤ length f.content.bytes = omega (arith, within, f.long) in
          let is : out ≡ range_of f.content.bytes offset len = gives f.content.bytes stored inside in
          done_read w s state name path meets here.0 here.1 found here.2 f offset len inside ∙ ap (λ (bytes : List ℕ). Done (replies.Bytes bytes) state) (sym is)

      module _ (u : Shown) (later : Later s s') (stay : Told SameFiles s'.picture u.picture) (within : offset + len ≤ found.file_length) where
        file_lost : (byte : ℕ) → ((content : List ℕ) (st : Stored s' found.blocks content) → ByteLost st.picture st.ids offset (offset + len) (AllFailed s'.counts u.counts st.picture) byte) → FileLost s.counts u path offset (offset + len) byte
        unfolding after stored here
        file_lost byte h =
            let f = here.3 in
            let last = told_after SameFiles s'.picture u.picture after.0 stay after.1 in
            let lost = byte_lost after.0 last.0 last.2 f.file.blocks offset (offset + len) s'.counts u.counts byte (h f.content.bytes stored) in
            record {
              picture = last.0;
              told = last.1;
              file = f.file;
              named = last.2.names path ∙ after.2.names path ∙ f.named;
              lost = record {
                id = lost.id;
                at = lost.at;
                lies = lost.lies;
                entry = lost.entry;
                is = lost.is;
                behind = lost.behind;
                before = lost.before;
                inside = lost.inside;
                all_failed = λ k below whole.
                    (let d = get_or lost.entry.nodes k [] in
                    rose_since (s.counts.nodes d) (s'.counts.nodes d) (u.counts.nodes d) (u.counts.nodes d) (later.counts.nodes d) (lost.all_failed k below whole) (omega arith));
              };
            }

        pub blocks_cause : (e : HdfsError) → FailsAt (λ byte. 0 < len) e → LosesByte s' found.blocks offset (offset + len) e u → Cause w state command s u e
        blocks_cause errors.NoMemory fails h = (tt, tt)
        blocks_cause (errors.DataTransferError (transfer.Read byte)) fails h =
            let f = here.3 in
            let done = done_read w s state name path meets here.0 here.1 found here.2 f offset len (omega (arith, within, f.long)) in
            let lost = subst (λ (q : List ℕ). FileLost s.counts u q offset (offset + len) byte) (sym meets.called) (file_lost byte (λ content st. h content st byte refl)) in
            (((replies.Bytes (range_of f.content.bytes offset len), state, done), lost), tt)
        blocks_cause e fails h = absurd fails

      pub agrees_read : (u : Shown) → Told SameFiles s'.picture u.picture → Agrees u.picture state.files
      agrees_read u stay = agrees_files s'.picture u.picture state.files stay agrees_looked
