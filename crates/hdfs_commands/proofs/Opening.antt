-- What the asks do that open a file to be written: the one for a new file, and the one for a file that is gone on with.
use Rattle.std.proofs.Common.{◌≡◌, ◌≢◌, ◌⊎◌, inl, inr, ⊎_elim, ℕ, Bool, true, false, cond, ◌&&◌, ◌||◌, List, [], Option, Some, None, is_none, Ok, refl, sym, ◌∙◌, ap}
use Rattle.std.proofs.lemmas.Bool.{false≢true}
use Rattle.std.proofs.lemmas.Slice.Eq.{bytes_eq-Decides}
use Rattle.std.specs.List.{list_any}
use Rattle.std.specs.Str.{bytes_eq}
use Rattle.hdfs_cluster.specs.declared.asks.Answer.{Answer}
use Rattle.hdfs_cluster.specs.declared.asks.Answer.TheVariants as answers
use Rattle.hdfs_cluster.specs.declared.asks.Ask.{Ask}
use Rattle.hdfs_model.specs.declared.commands.Command.{Command}
use Rattle.hdfs_model.specs.declared.commands.Command.TheVariants as commands
use Rattle.hdfs_model.specs.declared.commands.WriteOptions.{WriteOptions}
use Rattle.hdfs_cluster.specs.declared.messages.Appended.{Appended}
use Rattle.hdfs_cluster.specs.declared.messages.FileStatusMsg.{FileStatusMsg}
use Rattle.hdfs_cluster.specs.declared.picture.FileEntry.{FileEntry}
use Rattle.hdfs_cluster.specs.Failures.{CallsRose}
use Rattle.hdfs_cluster.specs.Effects.{Creates, HasStatus, Opens}
use Rattle.hdfs_cluster.specs.Files.{State, Kind, kinds_of}
use Rattle.hdfs_cluster.specs.Namenode.{IsRefusal, MayBeDone, Row, StandsForAny, new_file, overwrites}
use Rattle.hdfs_names.specs.Paths.{ancestors, is_path}
use Rattle.hdfs_cluster.specs.Picture.{Picture, SameButActive, kinds}
use Rattle.hdfs_cluster.specs.Refusals.{Refusal, append_refusal, create_refusal}
use Rattle.hdfs_model.specs.Sessions.{touched}
use Rattle.hdfs_cluster.specs.Shown.{Shown}
use Rattle.hdfs_cluster.specs.Sound.{IsSound, IsFileAt}
use Rattle.hdfs_model.specs.Steps.{World, Refused, append_file, create_file, created, is_opened, open_node, step, target_of}
use Rattle.hdfs_cluster.specs.Stores.{AgreesAt}
use Rattle.hdfs_cluster.proofs.Repeating.{append_repeats, create_repeats}
use Rattle.hdfs_namenode.specs.Relaying.{Came}
use Rattle.hdfs_namenode.proofs.Relayed.{relayed_row}
use Rattle.hdfs_model.specs.Opening.{tells_encryption}
use Rattle.hdfs_model.specs.Opening.{appending, creating}
use Rattle.hdfs_commands.proofs.Agreeing.{agrees_files}
use Rattle.hdfs_file_writer.specs.Tails.{FileCarries}
use Rattle.hdfs_file_writer.specs.declared.tails.Tail.{Tail}
use Rattle.hdfs_file_writer.proofs.Creating.{created_others}
use Rattle.hdfs_file_writer.proofs.Others.{carries_others}
use Rattle.hdfs_commands.proofs.Still.{file_stays}
use Rattle.hdfs_commands.proofs.Begun.{closed_at, create_spares, open_spares, opened_only}
use Rattle.hdfs_commands.proofs.Refusing.{RefusesAs, append_step, create_step, kinds_same}
use Rattle.hdfs_commands.proofs.WithWriting.{closed_to_append}

-- An ask of a command at its path, over a picture that agrees with the files: its refusals are the command's, it changes nothing that
-- the command doesn't touch, and what the writers of files carry that the session has open they carry still.
pub record Over (p : Picture) (world : World) (state : State) (command : Command) (path : List ℕ) (ask : Ask) : Type 0 where
  pub refused : (class : List ℕ) → IsRefusal p ask class → RefusesAs world state command class
  pub spares : (q : Picture) → MayBeDone ask p q → (r : List ℕ) → touched state path command r ≡ false → AgreesAt q (q.names r) (state.files r)
  pub unchanged : (why : Refusal) → step world state command ≡ Refused why → (q : Picture) → MayBeDone ask p q → (r : List ℕ) → AgreesAt q (q.names r) (state.files r)
  pub keeps : (q : Picture) → MayBeDone ask p q → (r : List ℕ) (tail : Tail) (bytes : List ℕ) → is_opened state r ≡ true → FileCarries p r tail bytes → FileCarries q r tail bytes

-- a path that is open is another than one that isn't
pub open_apart : (state : State) (path r : List ℕ) → is_opened state path ≡ false → is_opened state r ≡ true → r ≢ path
open_apart state path r closed opened same = false≢true (sym closed ∙ ap (is_opened state) (sym same) ∙ opened)

flag_is : (overwrite : Bool) → overwrites (cond overwrite 3 1) ≡ overwrite
flag_is true = refl
flag_is false = refl

pub or_false : (a b : Bool) → (a || b) ≡ false → (a ≡ false) × (b ≡ false)
or_false true b is = absurd (false≢true (sym is))
or_false false b is = (refl, is)

apart_from : (path r : List ℕ) → bytes_eq path r ≡ false → r ≢ path
apart_from path r test same = false≢true (sym test ∙ (bytes_eq-Decides path r).1 (sym same))

module _ (path client : List ℕ) (options : WriteOptions) (replication block_size : ℕ) where
  abbrev making : Ask
  making = creating path client options replication block_size

  abbrev pub made : FileEntry
  made = new_file options.permission replication block_size

  module _ (p : Picture) where
    -- the row of it
    abbrev pub Made : Picture → Type 0
    Made q = (create_refusal (kinds p) path options.overwrite options.create_parent ≡ None) × Creates path made p q

    made_by : (q : Picture) (status : Option FileStatusMsg) → Row p making (answers.Create status) q → Made q
    made_by q status row = (ap (λ (b : Bool). create_refusal (kinds p) path b options.create_parent) (sym (flag_is options.overwrite)) ∙ row.0, row.2)

    made_of : (q : Picture) (answer : Answer) → Row p making answer q → Made q
    made_of q (answers.Create status) row = made_by q status row
    made_of q answer row = absurd row

    -- it was made, or nothing changed
    pub may_be_made : (q : Picture) → MayBeDone making p q → SameButActive p q ⊎ Made q
    may_be_made q (inl same) = inl same
    may_be_made q (inr (inl done)) = inr (made_of q done.0 done.2)
    may_be_made q (inr (inr own)) = absurd own.0

    -- a file that was answered to be created is
    pub was_made : (s t : Shown) (status : Option FileStatusMsg) → s.picture ≡ Some p → Came s making (Ok (answers.Create status)) t
        → (q : Picture) × (t.picture ≡ Some q) × Made q × MayBeDone making p q
    was_made s t status told came =
        let one = came.told p told (create_repeats path client options.permission (cond options.overwrite 3 1) options.create_parent replication block_size p) in
        let row : Row p making (answers.Create status) one.0 = relayed_row (CallsRose s.counts t) p making (answers.Create status) one.0 (λ is. absurd (cc is)) (λ is. absurd (cc is)) one.2 in
        (one.0, one.1, made_by one.0 status row, inr (inl (answers.Create status, tt, row)))

    -- and isn't encrypted
    pub was_plain : (s t : Shown) (status : Option FileStatusMsg) → s.picture ≡ Some p → Came s making (Ok (answers.Create status)) t → tells_encryption status ≡ false
    was_plain s t status told came =
        let one = came.told p told (create_repeats path client options.permission (cond options.overwrite 3 1) options.create_parent replication block_size p) in
        let row : Row p making (answers.Create status) one.0 = relayed_row (CallsRose s.counts t) p making (answers.Create status) one.0 (λ is. absurd (cc is)) (λ is. absurd (cc is)) one.2 in
        ap tells_encryption row.1.is ∙ row.1.encryption

    module _ (world : World) (state : State) (name : List ℕ) (sound : IsSound p) (agrees : (r : List ℕ) → AgreesAt p (p.names r) (state.files r)) (named : is_path path ≡ true) (closed : is_opened state path ≡ false)
        (called : target_of world (commands.Create name options) ≡ path) where
      refusal_same : create_refusal (kinds_of state.files) path options.overwrite options.create_parent ≡ create_refusal (kinds p) path (overwrites (cond options.overwrite 3 1)) options.create_parent
      refusal_same =
          ap (λ (k : List ℕ → Option Kind). create_refusal k path options.overwrite options.create_parent) (sym (kinds_same p state.files agrees))
          ∙ ap (λ (b : Bool). create_refusal (kinds p) path b options.create_parent) (sym (flag_is options.overwrite))

      spares_made : (q : Picture) → MayBeDone making p q → (r : List ℕ) → touched state path (commands.Create name options) r ≡ false → AgreesAt q (q.names r) (state.files r)
      spares_made q may r free =
          let parts = or_false (bytes_eq path r) (is_none (state.files r) && list_any (bytes_eq r) (ancestors path)) free in
          ⊎_elim
          (λ same. agrees_files (Some p) (Some q) state.files same.files agrees r)
          (λ done. create_spares p q sound state agrees path made (record { bytes = []; attributes = made.attributes }) refl done.1 r parts.0 parts.1)
          (may_be_made q may)

      -- a file that is made is one that nothing refuses
      steps_on : (why : Refusal) → step world state (commands.Create name options) ≡ Refused why → create_refusal (kinds p) path options.overwrite options.create_parent ≡ None → ⊥
      steps_on why is none =
          let done = create_step world state path named closed name options called
          ∙ ap (create_file state path (created world options)) (ap (λ (k : List ℕ → Option Kind). create_refusal k path options.overwrite options.create_parent) (sym (kinds_same p state.files agrees)) ∙ none) in
          absurd (cc (is, done))

      pub create_over : Over p world state (commands.Create name options) path making
      create_over = record {
        refused = λ class h.
            (let is : StandsForAny (kinds p path) (create_refusal (kinds p) path (overwrites (cond options.overwrite 3 1)) options.create_parent) class = h in
            (kinds p path, is.0, create_step world state path named closed name options called ∙ ap (create_file state path (created world options)) (refusal_same ∙ is.1), is.2));
        spares = spares_made;
        unchanged = λ why is q may. ⊎_elim
            (λ same. agrees_files (Some p) (Some q) state.files same.files agrees)
            (λ done. absurd (steps_on why is done.0))
            (may_be_made q may);
        keeps = λ q may r tail bytes opened c. ⊎_elim
            (λ same. file_stays p q same.files same.writes r tail bytes c)
            (λ done. created_others p q sound path made done.1 r tail bytes (open_apart state path r closed opened) c)
            (may_be_made q may);
      }

module _ (path client : List ℕ) (flag : ℕ) where
  abbrev reopening : Ask
  reopening = appending path client flag

  module _ (p : Picture) where
    -- the row of it
    pub record Reopened (q : Picture) (appended : Appended) : Type 0 where
      pub none : append_refusal (kinds p) path ≡ None
      pub file : FileEntry
      pub at : IsFileAt p path file
      pub status : HasStatus file appended.stat
      pub opens : Opens path file appended.block p q

    reopened_by : (q : Picture) (appended : Appended) → Row p reopening (answers.Append appended) q → Reopened q appended
    reopened_by q appended row = record { none = row.0; file = row.1.0; at = row.1.1; status = row.1.2; opens = row.1.3 }

    reopened_of : (q : Picture) (answer : Answer) → Row p reopening answer q → (appended : Appended) × Reopened q appended
    reopened_of q (answers.Append appended) row = (appended, reopened_by q appended row)
    reopened_of q answer row = absurd row

    -- it was opened, or nothing changed
    pub may_be_reopened : (q : Picture) → MayBeDone reopening p q → SameButActive p q ⊎ ((appended : Appended) × Reopened q appended)
    may_be_reopened q (inl same) = inl same
    may_be_reopened q (inr (inl done)) = inr (reopened_of q done.0 done.2)
    may_be_reopened q (inr (inr own)) = absurd own.0

    -- a file that was answered to be opened is
    pub was_reopened : (s t : Shown) (appended : Appended) → s.picture ≡ Some p → Came s reopening (Ok (answers.Append appended)) t
        → (q : Picture) × (t.picture ≡ Some q) × Reopened q appended × MayBeDone reopening p q
    was_reopened s t appended told came =
        let one = came.told p told (append_repeats path client flag p) in
        let row : Row p reopening (answers.Append appended) one.0 = relayed_row (CallsRose s.counts t) p reopening (answers.Append appended) one.0 (λ is. absurd (cc is)) (λ is. absurd (cc is)) one.2 in
        (one.0, one.1, reopened_by one.0 appended row, inr (inl (answers.Append appended, came.relays.shaped, row)))

    module _ (world : World) (state : State) (name : List ℕ) (sound : IsSound p) (agrees : (r : List ℕ) → AgreesAt p (p.names r) (state.files r)) (named : is_path path ≡ true) (closed : is_opened state path ≡ false)
        (called : target_of world (commands.Append name) ≡ path) where
      refusal_kept : append_refusal (kinds_of state.files) path ≡ append_refusal (kinds p) path
      refusal_kept = ap (λ (k : List ℕ → Option Kind). append_refusal k path) (sym (kinds_same p state.files agrees))

      -- a file that is opened is one that nothing refuses
      appends_on : (why : Refusal) → step world state (commands.Append name) ≡ Refused why → append_refusal (kinds p) path ≡ None → (file : FileEntry) → IsFileAt p path file → ⊥
      appends_on why is none file at =
          let free : append_refusal (kinds_of state.files) path ≡ None = refusal_kept ∙ none in
          let there = closed_at p state path file agrees at (closed_to_append (kinds_of state.files) path free) in
          let done = append_step world state path named closed name called ∙ ap (append_file state path) free ∙ ap (open_node state path) there.filed in
          absurd (cc (is, done))

      pub append_over : Over p world state (commands.Append name) path reopening
      append_over = record {
        refused = λ class h.
            (let is : StandsForAny (kinds p path) (append_refusal (kinds p) path) class = h in
            (kinds p path, is.0, append_step world state path named closed name called ∙ ap (append_file state path) (refusal_kept ∙ is.1), is.2));
        spares = λ q may r free. ⊎_elim
            (λ same. agrees_files (Some p) (Some q) state.files same.files agrees r)
            (λ done. open_spares p q sound state agrees path done.1.file done.0.block done.1.at done.1.opens r (apart_from path r free))
            (may_be_reopened q may);
        unchanged = λ why is q may. ⊎_elim
            (λ same. agrees_files (Some p) (Some q) state.files same.files agrees)
            (λ done. absurd (appends_on why is done.1.none done.1.file done.1.at))
            (may_be_reopened q may);
        keeps = λ q may r tail bytes opened c. ⊎_elim
            (λ same. file_stays p q same.files same.writes r tail bytes c)
            (λ done. carries_others path p q sound (opened_only p q path done.1.file done.1.at done.0.block done.1.opens) r tail bytes (open_apart state path r closed opened) c)
            (may_be_reopened q may);
      }
