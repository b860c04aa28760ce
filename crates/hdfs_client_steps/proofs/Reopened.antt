-- A client opens a file to go on with it as a session does.
use Rattle.std.proofs.Common.{◌≡◌, ⊎_elim, ◌⊎◌, inl, inr, ℕ, ◌<◌, Bool, true, false, List, [], ◌∷◌, ◌++◌, Option, Some, None, is_some, unwrap_or, Ok, Err, refl, sym, ◌∙◌, ap, subst, arith}
use Rattle.std.proofs.lemmas.Bool.{false_from_ne_true, false≢true}
use Rattle.std.specs.Prelude.{IfErr, IfOk, Result}
use Rattle.hdfs_cluster.specs.declared.asks.Answer.{Answer}
use Rattle.hdfs_cluster.specs.declared.asks.Answer.TheVariants as answers
use Rattle.hdfs_cluster.specs.declared.asks.Ask.{Ask}
use Rattle.hdfs_cluster.specs.declared.asks.AskFault.{AskFault}
use Rattle.hdfs_cluster.specs.declared.attributes.Attributes.{Attributes}
use Rattle.hdfs_cluster.specs.declared.errors.Feature.TheVariants as features
use Rattle.hdfs_cluster.specs.declared.errors.HdfsError.{HdfsError}
use Rattle.hdfs_cluster.specs.declared.errors.HdfsError.TheVariants as errors
use Rattle.hdfs_cluster.specs.declared.messages.Appended.{Appended}
use Rattle.hdfs_cluster.specs.declared.messages.FileStatusMsg.{FileStatusMsg}
use Rattle.hdfs_cluster.specs.declared.messages.LocatedBlock.{LocatedBlock}
use Rattle.hdfs_cluster.specs.declared.messages.ServerDefaults.{ServerDefaults}
use Rattle.hdfs_cluster.specs.Files.{Content, Kind, State, kinds_of}
use Rattle.hdfs_cluster.specs.Limits.{are_defaults}
use Rattle.hdfs_cluster.specs.Picture.{Picture}
use Rattle.hdfs_cluster.specs.Refusals.{append_refusal}
use Rattle.hdfs_cluster.specs.Shown.{Later, Served, Shown}
use Rattle.hdfs_cluster.specs.Sound.{IsSound}
use Rattle.hdfs_cluster.specs.Stores.{AgreesAt}
use Rattle.hdfs_cluster.proofs.Relaying.{Below}
use Rattle.hdfs_cluster.proofs.Repeating.{append_repeats}
use Rattle.hdfs_names.specs.Paths.{is_path}
use Rattle.hdfs_model.specs.declared.commands.Command.{Command}
use Rattle.hdfs_model.specs.declared.commands.Command.TheVariants as commands
use Rattle.hdfs_model.specs.declared.commands.Reply.TheVariants as replies
use Rattle.hdfs_model.specs.Causes.{Cause, IsEncryptedAt}
use Rattle.hdfs_model.specs.Opening.{appending, tells_encryption}
use Rattle.hdfs_model.specs.Scenes.{Ready}
use Rattle.hdfs_model.specs.Sessions.{defaults_of, is_before_asking}
use Rattle.hdfs_model.specs.Steps.{Done, World, append_file, is_opened, open_node, step, target_of, with_writing}
use Rattle.hdfs_namenode.specs.Asked.{AskedOnce, ReachesAll, remembers}
use Rattle.hdfs_namenode.specs.Clients.{defaults_of as kept_by, name_of, proxy_of, through}
use Rattle.hdfs_namenode.specs.Relaying.{Came}
use Rattle.hdfs_namenode.specs.Views.{Whole}
use Rattle.hdfs_namenode.specs.declared.protocol.NamenodeProtocol.{NamenodeProtocol}
use Rattle.hdfs_namenode.specs.declared.proxy.NameServiceProxy.{NameServiceProxy}
use Rattle.hdfs_namenode.proofs.Services.{asked_plain, reaches_later, reaches_service, same_service_refl, service_below}
use Rattle.hdfs_file_writer.specs.OnlyFiles.{OnlyFile}
use Rattle.hdfs_file_writer.specs.Tails.{FileCarries}
use Rattle.hdfs_file_writer.specs.declared.tails.Tail.{Tail}
use Rattle.hdfs_file_writer.specs.Writers.{TouchesFile, path_of, sizes_of, tail_of, tail_opened}
use Rattle.hdfs_file_writer.specs.declared.file_writer.FileWriter as inner
use Rattle.hdfs_file_writer.specs.declared.sizes.WriteSizes.{WriteSizes}
use Rattle.hdfs_file_writer.proofs.Others.{agrees_others, carries_others}
use Rattle.hdfs_opening.specs.Opening.{ClosesAgain, HasDefaults, LacksStatus, RefusesOpened, refusal}
use Rattle.hdfs_opening.specs.Opening as opening
use Rattle.hdfs_opening.specs.declared.opened_file.ToldFile.{ToldFile}
use Rattle.hdfs_opening.specs.declared.opened_file.WriteTerms.{WriteTerms}
use Rattle.hdfs_client.specs.Opening.{FailsToAppend, OpensBy}
use Rattle.hdfs_client.specs.Writing.{OpensAt, OpensNone, rebuilding_of}
use Rattle.hdfs_client.specs.declared.client.Client.{Client}
use Rattle.hdfs_client.specs.declared.writing.FileWriter.{FileWriter}
use Rattle.hdfs_opening.proofs.Coming.{came_once, reaches_between}
use Rattle.hdfs_commands.specs.Meeting.{KnowsDefaults}
use Rattle.hdfs_commands.proofs.Acted.{spares_but}
use Rattle.hdfs_commands.proofs.Begun.{Begun, ClosedAt, closed_at, open_begun, opened_only}
use Rattle.hdfs_commands.proofs.Failing.{append_still}
use Rattle.hdfs_commands.proofs.OneFile.{apart_by_test}
use Rattle.hdfs_commands.proofs.Opening.{Over, Reopened, append_over, may_be_reopened, was_reopened}
use Rattle.hdfs_commands.proofs.Refusing.{append_step, kinds_same}
use Rattle.hdfs_commands.proofs.Still.{file_stays}
use Rattle.hdfs_commands.proofs.WithWriting.{closed_to_append}
use Rattle.hdfs_cluster.specs.Namenode.{MayBeDone}
use Rattle.hdfs_client_steps.specs.OpenFiles.{OpensAs}
use Rattle.hdfs_client_steps.specs.Steps.{Does, KeepsParts, Knows, holding}
use Rattle.hdfs_client_steps.proofs.Applying.{absolute_path, failed_applied, same_defaults, told_of}
use Rattle.hdfs_client_steps.proofs.Opened.{Behind, OpensFile, agrees_behind, begins_file, behind_defaults, behind_none, carried_by, defaults_are, early_does, holds_opened, knows_behind, knows_kept, knows_opened, lacks_does, lacks_knows, late_does, parts_but, parts_none, refused_behind, where_ready}

abbrev append : List ℕ → Command
append at = commands.Append at

-- ---- over what is shown

-- a close, whatever came of it, has touched its file alone
closes_alone : {s t : Shown} {writer : inner.FileWriter} (result : Result (Unit {0}) HdfsError) → ClosesAgain s writer result t
    → Later s t × TouchesFile s writer t
closes_alone (Ok done) again =
    (again.closed.own.later, λ p bytes told carries. (let on = again.closed.closes p bytes told carries in (on.0, on.1, on.2)))
closes_alone (Err error) again = (again.failed.own.later, again.failed.touches)

-- what is answered of an encrypted file
abbrev IsRefusal : HdfsError → Type 0
IsRefusal error = (error ≡ errors.NoMemory) ⊎ (error ≡ errors.UnsupportedFeature features.Encryption)

is_refusal : (result : Result (Unit {0}) HdfsError) → IsRefusal (refusal result)
is_refusal (Ok done) = inr refl
is_refusal (Err errors.NoMemory) = inl refl
is_refusal (Err error) = inr refl

refused_late : (error : HdfsError) → IsRefusal error → is_before_asking error ≡ false
refused_late error (inl memory) = ap is_before_asking memory
refused_late error (inr unsupported) = ap is_before_asking unsupported

-- a path stands for itself
called : (path : List ℕ) → is_path path ≡ true → (world : World) → target_of world (append path) ≡ path
called path named world = absolute_path world.home path named

module _ (path : List ℕ) (named : is_path path ≡ true) {opened : List ℕ → Bool} (closed : opened path ≡ false) (world : World) (state : State) (s : Shown)
    (ready : Ready world (holding opened s) state (append path ∷ [])) where
  abbrev told : (p : Picture) × (s.picture ≡ Some p)
  told = told_of s world state (append path) ready

  -- want of memory for finding where the path leads
  memory_does : Does world state (append path) path opened s opened s (Err errors.NoMemory)
  memory_does =
      early_does world state (append path) (append_still path) path (called path named world) s ready s told.0 told.1 (behind_none s told.0 told.1)
      errors.NoMemory (tt, tt)

  -- behind the ask for the defaults
  module _ (m : Shown) (behind : Behind s told.0 m) (sound : IsSound behind.picture) (client : List ℕ) where
    abbrev ask : Ask
    ask = appending path client 4

    agrees : (r : List ℕ) → AgreesAt behind.picture (behind.picture.names r) (state.files r)
    agrees = agrees_behind world state (append path) (append_still path) path (called path named world) s ready m told.0 told.1 behind

    unopened : is_opened state path ≡ false
    unopened = ready.opened path ∙ closed

    -- such an ask leaves the cluster's defaults
    same : (x : Picture) → MayBeDone ask behind.picture x → x.defaults ≡ behind.picture.defaults
    same x may = ⊎_elim (λ still. still.files.defaults)
        (λ done. (opened_only behind.picture x path done.1.file done.1.at done.0.block done.1.opens).defaults)
        (may_be_reopened path client 4 behind.picture x may)

    over : Over behind.picture world state (append path) path ask
    over = append_over path client 4 behind.picture world state path sound agrees named unopened (called path named world)

    -- an error of the ask for the file
    unasked_does : (t : Shown) (error : HdfsError) → Came m ask (Err error) t → Does world state (append path) path opened s opened t (Err error)
    unasked_does t error came =
        refused_behind world state (append path) (append_still path) path (called path named world) s ready m told.0 told.1 behind ask over same t error came
        (append_repeats path client 4 behind.picture)

    module _ (t : Shown) (appended : Appended) (came : Came m ask (Ok (answers.Append appended)) t) where
      -- the picture behind it
      abbrev q : Picture
      q = (was_reopened path client 4 behind.picture m t appended behind.told came).0

      now : t.picture ≡ Some q
      now = (was_reopened path client 4 behind.picture m t appended behind.told came).1

      row : Reopened path client 4 behind.picture q appended
      row = (was_reopened path client 4 behind.picture m t appended behind.told came).2

      -- want of memory once the file was opened
      starved_does : Does world state (append path) path opened s opened t (Err errors.NoMemory)
      starved_does =
          late_does world state (append path) (append_still path) path (called path named world) s ready m told.0 told.1 behind ask over same t
          came.relays.leaves.later errors.NoMemory refl (tt, tt) q now (was_reopened path client 4 behind.picture m t appended behind.told came).3

      none : append_refusal (kinds_of state.files) path ≡ None
      none = ap (λ (k : List ℕ → Option Kind). append_refusal k path) (sym (kinds_same behind.picture state.files agrees)) ∙ row.none

      there : ClosedAt behind.picture state path row.file
      there = closed_at behind.picture state path row.file agrees row.at (closed_to_append (kinds_of state.files) path none)

      done : step world state (append path) ≡ Done replies.Appended (with_writing state path there.content)
      done =
          append_step world state path named unopened path (called path named world) ∙ ap (append_file state path) none ∙ ap (open_node state path) there.filed

      begun : Begun behind.picture q state path there.content (tail_opened appended.block None)
      begun =
          open_begun behind.picture q sound state agrees path row.file appended.block row.at row.opens ready.fits.is_state there named

      -- the file is encrypted where its status says so
      encryption : tells_encryption appended.stat ≡ there.content.attributes.encrypted
      encryption =
          ap tells_encryption row.status.is ∙ row.status.encryption ∙ ap (λ (x : Attributes). x.encrypted) there.attributes

      attributes_are : (stat : FileStatusMsg) → appended.stat ≡ Some stat
          → (unwrap_or stat.block_replication 0 ≡ there.content.attributes.replication) × (unwrap_or stat.blocksize 0 ≡ there.content.attributes.block_size)
      attributes_are stat is =
          let same : stat ≡ row.status.told = (let had = row.status.is in cc (is, had)) in (
            ap (λ (x : FileStatusMsg). unwrap_or x.block_replication 0) same ∙ ap (λ (o : Option ℕ). unwrap_or o 0) row.status.replication
                ∙ ap (λ (x : Attributes). x.replication) there.attributes,
            ap (λ (x : FileStatusMsg). unwrap_or x.blocksize 0) same ∙ ap (λ (o : Option ℕ). unwrap_or o 0) row.status.block_size
                ∙ ap (λ (x : Attributes). x.block_size) there.attributes,
          )

      -- no encrypted file was opened where the status says so
      not_encrypted : tells_encryption appended.stat ≡ false → IsEncryptedAt state (target_of world (append path)) → ⊥
      not_encrypted plain is =
          let here = subst (λ (x : List ℕ). IsEncryptedAt state x) (called path named world) is in
          let same : here.0 ≡ there.content = (let filed = there.filed in let was = here.1 in cc (filed, was)) in
          false≢true (sym plain ∙ encryption ∙ ap (λ (x : Content). x.attributes.encrypted) (sym same) ∙ here.2)

      -- the file was opened, to be gone on with
      begun_does : (d : ServerDefaults) → d ≡ told.0.defaults → d ≡ world.defaults → are_defaults d ≡ true → (stat : FileStatusMsg)
          → appended.stat ≡ Some stat → is_some stat.encryption ≡ false → (writer : inner.FileWriter) → tail_of writer ≡ tail_opened appended.block None
          → (sizes_of writer).replication ≡ unwrap_or stat.block_replication 0 → (sizes_of writer).block_size ≡ unwrap_or stat.blocksize 0
          → OpensFile world state (append path) path opened s t replies.Appended d writer
      begun_does d are of_world known stat is plain writer tail replication block_size =
          begins_file world state (append path) (append_still path) path (called path named world) s ready m told.0 told.1 behind t q now replies.Appended
          there.content writer (subst (Begun behind.picture q state path there.content) (sym tail) begun) done
          (record {
            numbers = ap are_defaults (sym of_world) ∙ known;
            attributes = tt;
            plain = record { bytes = λ moves. moves.0; file = not_encrypted (ap tells_encryption is ∙ plain) };
          })
          (replication ∙ (attributes_are stat is).0) (block_size ∙ (attributes_are stat is).1) d are

      -- an encrypted file was opened, and closed again
      module _ (u : Shown) (sound-t : (x : Picture) → t.picture ≡ Some x → IsSound x) (writer : inner.FileWriter) (at : path_of writer ≡ path)
          (tail : tail_of writer ≡ tail_opened appended.block None) (later : Later t u) (touches : TouchesFile t writer u) where
        closed_alone : (x : Picture) × (u.picture ≡ Some x) × OnlyFile path q x
        closed_alone =
            let own = subst (λ (r : List ℕ). FileCarries q r (tail_of writer) there.content.bytes) (sym at)
            (subst (λ (o : Tail). FileCarries q path o there.content.bytes) (sym tail) begun.own) in
            let on = touches q there.content.bytes now own in
            (on.0, on.1, subst (λ (r : List ℕ). OnlyFile r q on.0) at on.2)

        encrypted_cause : tells_encryption appended.stat ≡ true → (error : HdfsError) → IsRefusal error → Cause world state (append path) s u error
        encrypted_cause is error (inl memory) = subst (Cause world state (append path) s u) (sym memory) (tt, tt)
        encrypted_cause is error (inr unsupported) =
            subst (Cause world state (append path) s u) (sym unsupported)
            (inr (subst (λ (x : List ℕ). IsEncryptedAt state x) (sym (called path named world)) (there.content, there.filed, sym encryption ∙ is)), tt)

        encrypted_does : tells_encryption appended.stat ≡ true → (error : HdfsError) → IsRefusal error
            → Does world state (append path) path opened s opened u (Err error)
        encrypted_does is error refuses =
            let x = closed_alone.0 in
            let only = closed_alone.2 in
            let may = (was_reopened path client 4 behind.picture m t appended behind.told came).3 in
            record {
              applied = failed_applied world state (append path) s u (later.namenodes ∙ came.relays.leaves.later.namenodes ∙ behind.later.namenodes)
                  (λ byte lost. lost) error (
                    encrypted_cause is error refuses,
                    spares_but world state (append path) error path u.picture x (called path named world) (refused_late error refuses) closed_alone.1
                        (λ r free. agrees_others path q x (sound-t q now) only r (state.files r) (apart_by_test path r free) (over.spares q may r free))
                        (λ why refused r. absurd (let is_done = done in cc (refused, is_done))),
                  );
              others = carried_by opened path s u told.0 x told.1 closed_alone.1 (λ other opened_there apart its_tail bytes carries.
                  carries_others path q x (sound-t q now) only other its_tail bytes apart
                  (over.keeps q may other its_tail bytes (ready.opened other ∙ opened_there)
                  (file_stays told.0 behind.picture behind.same.files behind.same.writes other its_tail bytes carries)));
              defaults =
                  same_defaults s u told.0 x told.1 closed_alone.1 (only.defaults ∙ same q may ∙ behind.same.files.defaults);
            }

-- ---- by a service

last_below : (n : ℕ) (front : List ℕ) (last : ℕ) (left : List ℕ) → Below n (front ++ last ∷ left) → last < n
last_below n [] last left below = below.0
last_below n (i ∷ front) last left below = last_below n front last left below.1

remembers_whole : (last : ℕ) (given : Result Answer AskFault) (proxy : NameServiceProxy) (s : Shown) → last < s.namenodes → ReachesAll proxy s
    → ReachesAll (remembers true last given proxy) s
remembers_whole last (Ok answer) proxy s low reaches = record {
  first = reaches.first;
  all = reaches.all;
  below = omega (arith, low, reaches.all);
  plain = record { apart = reaches.plain.apart; unobserved = reaches.plain.unobserved; unknown = reaches.plain.unknown };
}
remembers_whole last (Err fault) proxy s low reaches = reaches

module _ {C : Type 0} (shown : C → Shown) {serves : C → ℕ → Ask → Result Answer AskFault → C → Type 0} where
  -- a service that is whole is so behind an ask that was answered
  whole_behind : (wanted : Ask) (answer : Answer) (n n' : NamenodeProtocol) (c c' : C) → ReachesAll (proxy_of n) (shown c) → Later (shown c) (shown c')
      → AskedOnce serves true wanted (through n c) (Ok answer) (through n' c') → ReachesAll (proxy_of n') (shown c')
  whole_behind wanted answer n n' c c' reaches later (inr nothing) = absurd (let is = nothing.is in cc is)
  whole_behind wanted answer n n' c c' reaches later (inl asked) =
      let made = asked_plain serves true wanted (through n c) (Ok answer) (through n' c') reaches.plain asked in
      let low = last_below (shown c).namenodes made.asks.front made.last made.asks.left
      (subst (Below (shown c).namenodes) made.asks.in_order (service_below (proxy_of n) (shown c) (reaches_service (proxy_of n) (shown c) reaches))) in
      let proxy = remembers true made.last made.given (proxy_of n) in
      subst (λ (x : NameServiceProxy). ReachesAll x (shown c')) (sym made.remembered)
      (reaches_later proxy proxy (shown c) (shown c') (same_service_refl proxy) later (remembers_whole made.last made.given (proxy_of n) (shown c) low reaches))

module _ {C : Type 0} {shown : C → Shown} {serves : C → ℕ → Ask → Result Answer AskFault → C → Type 0}
    (rows : (old new : C) (i : ℕ) (ask : Ask) (result : Result Answer AskFault) → serves old i ask result new → Served (shown old) i ask result (shown new))
    (below : (c : C) (p : Picture) → (shown c).picture ≡ Some p → p.active < (shown c).namenodes)
    (sound : (c : C) (p : Picture) → (shown c).picture ≡ Some p → IsSound p) where
  module _ (path : List ℕ) (named : is_path path ≡ true) {opened : List ℕ → Bool} (closed : opened path ≡ false) (world : World) (state : State) (old : C)
      (ready : Ready world (holding opened (shown old)) state (append path ∷ [])) where
    abbrev was : (p : Picture) × ((shown old).picture ≡ Some p)
    was = told_of (shown old) world state (append path) ready

    module _ {before : NamenodeProtocol} (reaches : ReachesAll (proxy_of before) (shown old)) (knows : KnowsDefaults (shown old) (kept_by before))
        (of_world : world.defaults ≡ defaults_of (shown old).picture) where
      -- behind the ask for the defaults
      module _ {may_answer : Ask → Answer → Type 0} {d : ServerDefaults} {between : NamenodeProtocol} {mid : C}
          (has : HasDefaults may_answer serves before old d between mid) where
        abbrev behind_it : Behind (shown old) was.0 (shown mid)
        behind_it = behind_defaults rows below reaches has was.0 was.1

        abbrev asked : Ask
        asked = appending path (name_of before) 4

        whole : ReachesAll (proxy_of between) (shown mid)
        whole = reaches_between rows below reaches has behind_it.later

        came_of : (namenode : NamenodeProtocol) {c : C} {outcome : Result Answer HdfsError}
            → AskedOnce serves true asked (through between mid) outcome (through namenode c) → Came (shown mid) asked outcome (shown c)
        came_of namenode {c} {outcome} once = came_once rows below true asked (through between mid) (through namenode c) outcome whole once

        -- the file was opened, and something went wrong behind that
        encrypted_none : {new : C} (error : HdfsError) → RefusesOpened shown may_answer serves path asked between mid error new
            → Does world state (append path) path opened (shown old) opened (shown new) (Err error)
        encrypted_none {new} error r =
            let came = came_of r.between r.asked in
            let whole_still = whole_behind shown asked (answers.Append r.appended) between r.between mid r.mid whole came.relays.leaves.later r.asked in
            let alone = closes_alone {s = shown r.mid} {t = shown new} {writer = r.writer} r.result (r.closes Whole whole_still) in
            encrypted_does path named closed world state (shown old) ready (shown mid) behind_it (sound mid behind_it.picture behind_it.told) (name_of before)
            (shown r.mid) r.appended came (shown new)
            (sound r.mid) r.writer r.at r.stands alone.0 alone.1 r.encrypted error (subst IsRefusal (sym r.is) (is_refusal r.result))

        starved_none : (after : NamenodeProtocol) {new : C} (error : HdfsError) → error ≡ errors.NoMemory → (appended : Appended)
            → AskedOnce serves true asked (through between mid) (Ok (answers.Append appended)) (through after new)
            → Does world state (append path) path opened (shown old) opened (shown new) (Err error)
        starved_none after {new} error memory appended once =
            subst (λ (e : HdfsError). Does world state (append path) path opened (shown old) opened (shown new) (Err e)) (sym memory)
            (starved_does path named closed world state (shown old) ready (shown mid) behind_it (sound mid behind_it.picture behind_it.told) (name_of before)
            (shown new) appended (came_of after once))

        -- over a told picture a status is told
        unstated_none : (after : NamenodeProtocol) {new : C} (block : Option LocatedBlock)
            → AskedOnce serves true asked (through between mid) (Ok (answers.Append (record { block = block; stat = None }))) (through after new) → ⊥
        unstated_none after {new} block once =
            let is = (was_reopened path (name_of before) 4 behind_it.picture (shown mid) (shown new) (record { block = block; stat = None }) behind_it.told
            (came_of after once)).2.status.is in
            cc is

        lacks_status : {after : NamenodeProtocol} {new : C} (name : List ℕ) (error : HdfsError) → (l : LacksStatus may_answer serves asked name between mid error after new)
            → Does world state (append path) path opened (shown old) opened (shown new) (Err error)
        lacks_status {after} name error l = absurd (unstated_none after l.block l.asked)

        why_none : {after : NamenodeProtocol} {new : C} (name : List ℕ) (error : HdfsError)
            → AskedOnce serves true asked (through between mid) (Err error) (through after new)
            ⊎ LacksStatus may_answer serves asked name between mid error after new
            ⊎ RefusesOpened shown may_answer serves path asked between mid error new
            → Does world state (append path) path opened (shown old) opened (shown new) (Err error)
        why_none {after} {new} name error (inl once) =
            unasked_does path named closed world state (shown old) ready (shown mid) behind_it (sound mid behind_it.picture behind_it.told) (name_of before)
            (shown new) error (came_of after once)
        why_none name error (inr (inl lacks)) = lacks_status name error lacks
        why_none name error (inr (inr refuses)) = encrypted_none error refuses

      -- What a service does that opens a file to go on with it is what the command does, and its writer has the file.
      pub opens_by : {may_answer : Ask → Answer → Type 0} {terms : WriteTerms} {writer : inner.FileWriter} {told : ToldFile} {after : NamenodeProtocol} {new : C}
          (o : opening.OpensBy may_answer serves path terms before old writer told after new)
          → OpensFile world state (append path) path opened (shown old) (shown new) replies.Appended o.defaults writer
      opens_by {may_answer} {terms} {writer} {told} {after} {new} o =
          let has = o.knows.has in
          let b = behind_it has in
          let are = defaults_are rows below reaches has knows was.0 was.1 in
          begun_does path named closed world state (shown old) ready (shown o.mid) b (sound o.mid b.picture b.told) (name_of before) (shown new)
          (record { block = o.block; stat = Some o.status }) (came_of has after o.asked) o.defaults are
          (are ∙ sym (of_world ∙ ap defaults_of was.1)) o.knows.limited o.status refl o.plain writer o.fresh.stands
          (ap (λ (x : WriteSizes). x.replication) o.fresh.with) (ap (λ (x : WriteSizes). x.block_size) o.fresh.with)

      -- And so is what one does that opens none.
      pub opens_none : {after : NamenodeProtocol} {new : C} {may_answer : Ask → Answer → Type 0} (name : List ℕ) (error : HdfsError)
          → FailsToAppend shown may_answer serves path name before old error after new
          → Does world state (append path) path opened (shown old) opened (shown new) (Err error)
      opens_none name error (inl (inl lacks)) =
          lacks_does rows below reaches world state (append path) (append_still path) path (called path named world) ready was.0 was.1 tt of_world knows
          error lacks
      opens_none name error (inl (inr fails)) = why_none fails.knows.has name error fails.why
      opens_none name error (inr lacks) =
          let o = lacks.opens in
          starved_none o.knows.has lacks.opened error lacks.is (record { block = o.block; stat = Some o.status }) o.asked

      -- what such a one knows of the defaults is the cluster's
      pub opens_knows : {after : NamenodeProtocol} {new : C} {may_answer : Ask → Answer → Type 0} (name : List ℕ) (error : HdfsError)
          → FailsToAppend shown may_answer serves path name before old error after new
          → defaults_of (shown new).picture ≡ defaults_of (shown old).picture → KnowsDefaults (shown new) (kept_by after)
      opens_knows name error (inl (inl lacks)) =
          lacks_knows rows below reaches world state (append path) (append_still path) path (called path named world) ready was.0 was.1 knows error lacks
      opens_knows {after} {new} name error (inl (inr fails)) =
          knows_kept (shown old) (shown new) after fails.kept (defaults_are rows below reaches fails.knows.has knows was.0 was.1) was.1
      opens_knows {after} {new} name error (inr lacks) =
          knows_kept (shown old) (shown new) after (lacks.alone.defaults ∙ lacks.opens.kept)
          (defaults_are rows below reaches lacks.opens.knows.has knows was.0 was.1) was.1

  -- ---- by a client

  module _ (client client' : Client) (src : List ℕ) (old new : C) where
    abbrev Appends : Result FileWriter HdfsError → Type 0
    Appends result = OpensAs client src append replies.Appended (shown old) client' (shown new) result

    appended_does : (may_answer : Ask → Answer → Type 0) (writer : FileWriter)
        → OpensAt (λ at before file lease after. OpensBy may_answer serves at (rebuilding_of client) before old file lease after new) client src writer client'
        → Appends (Ok writer)
    appended_does may_answer writer o knows = where_ready client src append (shown old) _ o.to o.leads (λ reaches named opened placed world state ready of.
        (let opens = opens_by o.to.path named (false_from_ne_true (opened o.to.path) placed) world state old ready
        (reaches o.to o.before o.leads o.was) (knows o.to.service o.before o.was) of.defaults o.opens.opens in
        (opens.does, knows_opened opens o.others o.is (o.opens.holds.alone.defaults ∙ o.opens.opens.kept) knows, holds_opened opens o.others o.opened o.opens.opens.fresh)))

    unappended : (may_answer : Ask → Answer → Type 0) (error : HdfsError)
        → OpensNone (λ e at before after. FailsToAppend shown may_answer serves at src before old e after new) client src old error client' new → Appends (Err error)
    unappended may_answer error (inl memory) knows = λ reaches to leads named opened placed world state ready of. (
      subst (λ (c : C). Does world state (append to.path) to.path opened (shown old) opened (shown c) (Err error)) (sym memory.2)
          (subst (λ (e : HdfsError). Does world state (append to.path) to.path opened (shown old) opened (shown old) (Err e)) (sym memory.0)
          (memory_does to.path named (false_from_ne_true (opened to.path) placed) world state (shown old) ready)),
      subst (λ (c : C). Knows client' (shown c)) (sym memory.2) (subst (λ (c : Client). Knows c (shown old)) (sym memory.1) knows),
      tt,
    )
    unappended may_answer error (inr f) knows = where_ready client src append (shown old) _ f.to f.leads (λ reaches named opened placed world state ready of.
        (let closed = false_from_ne_true (opened f.to.path) placed in
        let whole = reaches f.to f.before f.leads f.was in
        let does = opens_none f.to.path named closed world state old ready whole (knows f.to.service f.before f.was) of.defaults src error f.fails in (
          does,
          knows_behind client client' (shown old) (shown new) f.to.service f.after f.others f.is
              (opens_knows f.to.path named closed world state old ready whole (knows f.to.service f.before f.was) of.defaults src error f.fails does.defaults)
              does.defaults knows,
          tt,
        )))

    -- What `append` of a client ensures is what the command does. Over any cluster.
    pub append_does : (may_answer : Ask → Answer → Type 0) (result : Result FileWriter HdfsError)
        → IfOk result (λ writer. OpensAt (λ at before file lease after.
        OpensBy may_answer serves at (rebuilding_of client) before old file lease after new) client src writer client')
        → IfErr result (λ error. OpensNone (λ e at before after.
        FailsToAppend shown may_answer serves at src before old e after new) client src old error client' new)
        → Appends result
    append_does may_answer (Ok writer) opens fails = appended_does may_answer writer opens
    append_does may_answer (Err error) opens fails = unappended may_answer error fails

    -- And its mounts and its policy stay.
    pub append_parts : (may_answer : Ask → Answer → Type 0) (result : Result FileWriter HdfsError)
        → IfOk result (λ writer. OpensAt (λ at before file lease after.
        OpensBy may_answer serves at (rebuilding_of client) before old file lease after new) client src writer client')
        → IfErr result (λ error. OpensNone (λ e at before after.
        FailsToAppend shown may_answer serves at src before old e after new) client src old error client' new)
        → KeepsParts client client'
    append_parts may_answer (Ok writer) opens fails = parts_but opens.others
    append_parts may_answer (Err error) opens fails = parts_none (λ e at before after. FailsToAppend shown may_answer serves at src before old e after new) fails
