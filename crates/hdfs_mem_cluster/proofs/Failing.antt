-- When a namenode of a cluster in memory has failed.
use Rattle.std.proofs.Common.{if◌then◌else◌, ◌≡◌, ◌≢◌, ⊎_elim, inl, inr, ℕ, ◌+◌, ◌-◌, ◌^◌, ◌≤◌, ◌==◌, min, nat_lt, Bool, true, false, not, List, [], ◌∷◌, ◌++◌, length, map, Option, Some, None, Result, Ok, Err, refl, sym, ◌∙◌, ap, subst, arith, eq-eqb, ne_eqb}
use Rattle.std.proofs.lemmas.Bool.{false≢true, or_parts}
use Rattle.std.proofs.lemmas.List.{map-append}
use Rattle.std.proofs.lemmas.List.Folds.{list_any-append}
use Rattle.std.specs.List.{list_any}
use Rattle.std.specs.Str.{bytes_eq}
use Rattle.hdfs_cluster.specs.declared.asks.Ask.{Ask}
use Rattle.hdfs_cluster.specs.declared.asks.Ask.TheVariants as asks
use Rattle.hdfs_cluster.specs.declared.asks.AddBlockAsk.{AddBlockAsk}
use Rattle.hdfs_cluster.specs.declared.asks.GetAdditionalDatanodeAsk.{GetAdditionalDatanodeAsk}
use Rattle.hdfs_cluster.specs.declared.asks.Answer.{Answer}
use Rattle.hdfs_cluster.specs.declared.asks.AskFault.{AskFault}
use Rattle.hdfs_cluster.specs.declared.asks.AskFault.TheVariants as faults
use Rattle.hdfs_cluster.specs.declared.messages.DatanodeInfo.{DatanodeInfo}
use Rattle.hdfs_cluster.specs.declared.mem_settings.MemSettings.{MemSettings}
use Rattle.hdfs_cluster.specs.declared.store.AskKind.{AskKind}
use Rattle.hdfs_cluster.specs.declared.store.Line.{Line}
use Rattle.hdfs_cluster.specs.Files.{Kind, Directory, ClosedFile, OpenFile, NoFile, NotDirectory, Missing, NotFile}
use Rattle.hdfs_cluster.specs.Namenode.{IsRefusal, StandsForAny, StandsForRefusal, class_for, class_in_the_way}
use Rattle.hdfs_cluster.specs.Picture.{Picture, SamePicture}
use Rattle.hdfs_cluster.specs.Refusals.{Refusal, BadPath, WrongState, Exists, Lacks, BadRange, NotEmpty, TooMany}
use Rattle.hdfs_mem_faults.specs.declared.fault_plan.FaultPlan.{FaultPlan}
use Rattle.hdfs_mem_faults.specs.Plans.{SameAskFaults, ask_faults_of}
use Rattle.hdfs_mem_faults.specs.Series.{AsksOf, ask_fault_count, is_fault}
use Rattle.hdfs_mem_faults.proofs.Bounds.{ask_faults-le, no_faults}
use Rattle.hdfs_mem_cluster.specs.declared.loaded.Kept.{Kept}
use Rattle.hdfs_mem_cluster.specs.declared.mem_cluster.MemCluster.{MemCluster}
use Rattle.hdfs_mem_namenode.specs.Answering.{Answers, AnswersAbout, space_in}
use Rattle.hdfs_mem_namenode.specs.Adding.{Space}
use Rattle.hdfs_mem_namenode.specs.Rows.{NamesRefusal}
use Rattle.hdfs_mem_namenode.specs.Pipelines.{AreBarred, IsOfOpen, LacksPlace, is_barred}
use Rattle.hdfs_mem_cluster.specs.Lines.{NeedsFault, line_of}
use Rattle.hdfs_mem_cluster.specs.Laws.{nil_from_test}
use Rattle.hdfs_mem_cluster.specs.MemShown.{failed_calls, is_fresh_of, namenode_faults, picture_of, shown_of}
use Rattle.hdfs_cluster.proofs.Loads.{and_parts}
use Rattle.hdfs_mem_namenode.specs.Memory.{is_nil}
use Rattle.hdfs_mem_cluster.specs.Responding.{AskComesTo, Fails, LacksDatanode, Responds, StandsForNone, failed_after, io_exception, is_failure, own_failure}

-- the class of an exception that stands for a refusal is another
class_for_no_file : (why : NoFile) → bytes_eq (class_for why) io_exception ≡ false
class_for_no_file NotDirectory = refl
class_for_no_file Missing = refl
class_for_no_file NotFile = refl

class_in_way : (kind : Option Kind) → bytes_eq (class_in_the_way kind) io_exception ≡ false
class_in_way None = refl
class_in_way (Some Directory) = refl
class_in_way (Some ClosedFile) = refl
class_in_way (Some OpenFile) = refl

same_class : (class other : List ℕ) → class ≡ other → bytes_eq other io_exception ≡ false → bytes_eq class io_exception ≡ false
same_class class other is apart = ap (λ (c : List ℕ). bytes_eq c io_exception) is ∙ apart

class_for_any : (kind : Option Kind) (refusal : Option Refusal) (class : List ℕ) → StandsForAny kind refusal class → bytes_eq class io_exception ≡ false
class_for_any kind refusal class h = by_why h.0 h.2
  where
    by_why : (why : Refusal) → StandsForRefusal kind why class → bytes_eq class io_exception ≡ false
    by_why Exists stands = same_class class (class_in_the_way kind) stands (class_in_way kind)
    by_why (Lacks lacking) stands = same_class class (class_for lacking) stands (class_for_no_file lacking)
    by_why BadPath stands = absurd stands
    by_why WrongState stands = absurd stands
    by_why BadRange stands = absurd stands
    by_why NotEmpty stands = same_class class _ stands refl
    by_why TooMany stands = absurd stands

class_for_refusal : (p : Picture) (ask : Ask) (class : List ℕ) → IsRefusal p ask class → bytes_eq class io_exception ≡ false
class_for_refusal p (asks.GetBlockLocations src offset length) class h = same_class class (class_for h.0) h.2 (class_for_no_file h.0)
class_for_refusal p (asks.Create ask) class h = class_for_any _ _ class h
class_for_refusal p (asks.Append src client flag) class h = class_for_any _ _ class h
class_for_refusal p (asks.GetFileInfo src) class h = class_for_any _ _ class h
class_for_refusal p (asks.GetListing src from located) class h = ⊎_elim (class_for_any _ _ class) (λ bad. same_class class _ bad.1 refl) h
class_for_refusal p (asks.Mkdirs src masked parents) class h = class_for_any (Some Directory) _ class h
class_for_refusal p (asks.Delete src recursive) class h = ⊎_elim (class_for_any _ _ class) (λ full. same_class class _ full.1 refl) h
class_for_refusal p ask class h = absurd h

-- what is answered by the picture is no failure
pub answers_fine : (p q : Picture) (i : ℕ) (ask : Ask) (result : Result Answer AskFault) → Answers p i ask result q → is_failure result ≡ false
answers_fine p q i ask (Ok answer) h = refl
answers_fine p q i ask (Err faults.NoMemory) h = refl
answers_fine p q i ask (Err (faults.Exception class message)) h =
    ⊎_elim
    (λ other. same_class class _ other.1 refl)
    (λ here. ⊎_elim (class_for_refusal p ask class) (λ stray. ⊎_elim (λ lost. same_class class _ lost.1 refl) (λ unknown. same_class class _ unknown.1 refl) stray) here.1)
    h.2
answers_fine p q i ask (Err faults.Broken) h = refl
answers_fine p q i ask (Err (faults.BadReply fault)) h = refl
answers_fine p q i ask (Err (faults.Fatal class message)) h = refl

-- nor is what is answered to an ask about names
class_for_names : (old : Space) (ask : Ask) (class : List ℕ) → NamesRefusal old ask class → bytes_eq class io_exception ≡ false
class_for_names old (asks.GetFileInfo src) class h = class_for_any _ _ class h
class_for_names old (asks.GetListing src from located) class h = ⊎_elim (class_for_any _ _ class) (λ bad. same_class class _ bad.1 refl) h
class_for_names old (asks.GetAclStatus src) class h = class_for_any _ _ class h
class_for_names old (asks.Mkdirs src masked parents) class h = class_for_any (Some Directory) _ class h
class_for_names old (asks.Delete src recursive) class h = ⊎_elim (class_for_any _ _ class) (λ full. same_class class _ full.1 refl) h
class_for_names old (asks.Rename src dst overwrite) class h = ⊎_elim (class_for_any _ _ class) (λ taken. class_for_any _ _ class taken.1) h
class_for_names old (asks.SetPermission src permission) class h = same_class class (class_for h.0) h.2 (class_for_no_file h.0)
class_for_names old (asks.SetReplication src replication) class h = class_for_any _ _ class h
class_for_names old (asks.GetContentSummary path) class h = class_for_any _ _ class h
class_for_names old ask class h = class_for_any _ _ class h.2

about_fine : (p q : Picture) (i : ℕ) (ask : Ask) (result : Result Answer AskFault) → AnswersAbout p i ask result q → is_failure result ≡ false
about_fine p q i ask (Ok answer) h = refl
about_fine p q i ask (Err faults.NoMemory) h = refl
about_fine p q i ask (Err (faults.Exception class message)) h = class_for_names (space_in p) ask class h.row.2
about_fine p q i ask (Err faults.Broken) h = refl
about_fine p q i ask (Err (faults.BadReply fault)) h = refl
about_fine p q i ask (Err (faults.Fatal class message)) h = refl

pub fails_so : (loaded : List Line) (count : ℕ) (p q : Picture) (i : ℕ) (ask : Ask) (result : Result Answer AskFault) → Fails loaded count p i ask result q → is_failure result ≡ true
fails_so loaded count p q i ask result h = ap is_failure h.is

module _ (loaded : List Line) (count : ℕ) (p q : Picture) (i : ℕ) (ask : Ask) (result : Result Answer AskFault) (responds : Responds loaded count p i ask result q) where
  pub fails_if : is_failure result ≡ true → Fails loaded count p i ask result q
  fails_if failed = ⊎_elim (λ answers. absurd (false≢true (sym (answers_fine p q i ask result answers) ∙ failed))) (λ more. ⊎_elim (λ fails. fails) (λ about. absurd (false≢true (sym (about_fine p q i ask result about) ∙ failed))) more) responds

-- each datanode is existing or excluded
pub lacks_datanode : (p : Picture) (ask : GetAdditionalDatanodeAsk) (text : List ℕ) → text ≡ ask.src → (count : ℕ) (olds outs : List DatanodeInfo) → olds ≡ ask.existings → outs ≡ ask.excludes
    → IsOfOpen p.names text ask.blk.block_id → AreBarred (is_barred olds outs) count → LacksDatanode count p (asks.GetAdditionalDatanode ask)
lacks_datanode p ask text is_text count olds outs is_olds is_outs of_file barred =
    let h = subst (λ (t : List ℕ). IsOfOpen p.names t ask.blk.block_id) is_text of_file in (
      record { file = h.file; named = h.is; is_open = h.is_open; has = h.has },
      subst (λ (l : List DatanodeInfo). AreBarred (is_barred ask.existings l) count) is_outs (subst (λ (l : List DatanodeInfo). AreBarred (is_barred l outs) count) is_olds barred),
    )

-- each is excluded, for a block more
pub lacks_place : (p : Picture) (ask : AddBlockAsk) (text : List ℕ) → text ≡ ask.src → (count : ℕ) (outs : List DatanodeInfo) → outs ≡ ask.excludes
    → LacksPlace (space_in p) count text ask.previous outs → LacksDatanode count p (asks.AddBlock ask)
lacks_place p ask text is_text count outs is_outs lacks =
    subst (λ (l : List DatanodeInfo). LacksPlace (space_in p) count ask.src ask.previous l) is_outs (subst (λ (t : List ℕ). LacksPlace (space_in p) count t ask.previous outs) is_text lacks)

-- what is answered then
pub responds_none : (loaded : List Line) (count : ℕ) (p q : Picture) (i : ℕ) (ask : Ask) → SamePicture p q → i ≡ p.active → LacksDatanode count p ask → (fault : AskFault) → StandsForNone loaded fault → Responds loaded count p i ask (Err fault) q
responds_none loaded count p q i ask same here lacks faults.NoMemory stands = inl same
responds_none loaded count p q i ask same here lacks (faults.Exception class message) stands = inr (inl (record { here = here; lacks = lacks; planned = stands.0; is = cc (stands.1, stands.2); same = same }))
responds_none loaded count p q i ask same here lacks faults.Broken stands = absurd stands
responds_none loaded count p q i ask same here lacks (faults.BadReply fault) stands = absurd stands
responds_none loaded count p q i ask same here lacks (faults.Fatal class message) stands = absurd stands

-- the count of the active namenode, and that of another one
at_active : (settings : MemSettings) (calls i : ℕ) → i ≡ settings.active → failed_calls settings calls i ≡ calls
at_active settings calls i here = ap (λ (b : Bool). if b then calls else 0) (eq-eqb i settings.active here)

at_other : (settings : MemSettings) (calls j : ℕ) → j ≢ settings.active → failed_calls settings calls j ≡ 0
at_other settings calls j apart = ap (λ (b : Bool). if b then calls else 0) (ne_eqb j settings.active apart)

pub no_calls : (settings : MemSettings) (calls : ℕ) → calls ≡ 0 → (i : ℕ) → failed_calls settings calls i ≡ 0
no_calls settings calls none i = by_test (i == settings.active)
  where
    by_test : (b : Bool) → (if b then calls else 0) ≡ 0
    by_test true = none
    by_test false = refl

-- none falls
pub failed_more : (settings : MemSettings) (calls calls' : ℕ) → calls ≤ calls' → (i : ℕ) → failed_calls settings calls i ≤ failed_calls settings calls' i
failed_more settings calls calls' more i = by_test (i == settings.active)
  where
    by_test : (b : Bool) → (if b then calls else 0) ≤ (if b then calls' else 0)
    by_test true = more
    by_test false = omega arith

-- that of the active namenode rises where it has failed beside what was planned
pub failed_own : (settings : MemSettings) (failed : Bool) (calls i : ℕ) → (failed ≡ true → i ≡ settings.active) → failed_calls settings (failed_after failed calls) i ≡ failed_after failed (failed_calls settings calls i)
failed_own settings true calls i here = at_active settings (failed_after true calls) i (here refl) ∙ sym (ap (failed_after true) (at_active settings calls i (here refl)))
failed_own settings false calls i here = refl

-- and that of another one doesn't
pub failed_others : (settings : MemSettings) (failed : Bool) (calls i : ℕ) → (failed ≡ true → i ≡ settings.active) → (j : ℕ) → j ≢ i → failed_calls settings (failed_after failed calls) j ≡ failed_calls settings calls j
failed_others settings true calls i here j apart =
    let away : j ≢ settings.active = λ is. apart (is ∙ sym (here refl)) in
    at_other settings (failed_after true calls) j away ∙ sym (at_other settings calls j away)
failed_others settings false calls i here j apart = refl

-- a line more
pub unfailed_same : (items items' : List Kept) (calls : ℕ) → items' ≡ items → NeedsFault (map line_of items) calls → NeedsFault (map line_of items') calls
unfailed_same items items' calls same = subst (λ (xs : List Kept). NeedsFault (map line_of xs) calls) (sym same)

pub unfailed_push : (items items' : List Kept) (kept : Kept) (calls : ℕ) → items' ≡ items ++ kept ∷ [] → NeedsFault (map line_of items) calls → NeedsFault (map line_of items') calls
unfailed_push items items' kept calls same was none =
    was (or_parts (list_any is_fault (map line_of items)) (list_any is_fault (line_of kept ∷ []))
    (sym (list_any-append is_fault (map line_of items) (line_of kept ∷ [])) ∙ ap (list_any is_fault) (sym (ap (map line_of) same ∙ map-append line_of items (kept ∷ []))) ∙ none)).0

-- an ask
pub unfailed_after : (loaded : List Line) (count : ℕ) (kind : Option AskKind) (p q : Picture) (i : ℕ) (ask : Ask) (result : Result Answer AskFault) → AskComesTo loaded count kind p i ask result q
    → (calls calls' : ℕ) → calls' ≡ failed_after (own_failure kind result) calls → NeedsFault loaded calls → NeedsFault loaded calls'
unfailed_after loaded count (Some kind) p q i ask result comes calls calls' counted was none = counted ∙ was none
unfailed_after loaded count None p q i ask result comes calls calls' counted was none =
    counted ∙ by_test (is_failure result) (λ failed. false≢true (sym none ∙ (fails_if loaded count p q i ask result comes failed).planned))
  where
    by_test : (b : Bool) → (b ≡ true → ⊥) → failed_after b calls ≡ 0
    by_test true never = absurd (never refl)
    by_test false never = was none

-- a namenode that has not failed as it was planned to, nor beside that
pub no_namenode_faults : (settings : MemSettings) (calls : ℕ) (plan : FaultPlan) (i : ℕ) → ask_faults_of plan i ≡ 0 → calls ≡ 0 → namenode_faults settings calls plan i ≡ 0
no_namenode_faults settings calls plan i unplanned none = by_test (nat_lt i settings.namenodes)
  where
    by_test : (b : Bool) → (if b then min (ask_faults_of plan i + failed_calls settings calls i) (2 ^ 64 - 1) else 0) ≡ 0
    by_test true = omega (arith, unplanned, no_calls settings calls none i)
    by_test false = refl

-- none has failed as it was planned to before a fault was loaded
none_planned : (m : MemCluster) → list_any is_fault (map line_of m.loaded.items) ≡ false → (i : ℕ) → ask_faults_of m.faults i ≡ 0
none_planned m none i = omega (arith, ask_faults-le m.faults (map line_of m.loaded.items) m.follows i, no_faults (map line_of m.loaded.items) (AsksOf i) none)

-- no namenode has failed before a fault was loaded
pub calls_planned : (m : MemCluster) (i : ℕ) → NeedsFault (shown_of m).loaded.lines ((shown_of m).counts.calls i)
calls_planned m i none = no_namenode_faults m.config.settings m.calls m.faults i (none_planned m none i) (m.unfailed none)

-- one that isn't active has failed no more often than lines are faults of its asks
pub asks_planned : (m : MemCluster) (i : ℕ) → i ≢ (picture_of m).active → (shown_of m).counts.calls i ≤ ask_fault_count (shown_of m).loaded.lines i
asks_planned m i apart = by_test (nat_lt i m.config.settings.namenodes)
  where
    by_test : (b : Bool) → (if b then min (ask_faults_of m.faults i + failed_calls m.config.settings m.calls i) (2 ^ 64 - 1) else 0) ≤ ask_fault_count (map line_of m.loaded.items) i
    by_test true = omega (arith, ask_faults-le m.faults (map line_of m.loaded.items) m.follows i, at_other m.config.settings m.calls i apart)
    by_test false = omega arith

-- so none has where nothing was loaded
pub fresh_calls : (m : MemCluster) → is_fresh_of m ≡ true → (settings : MemSettings) (plan : FaultPlan) → SameAskFaults m.faults plan → (i : ℕ) → namenode_faults settings m.calls plan i ≡ namenode_faults m.config.settings m.calls m.faults i
fresh_calls m fresh settings plan same i =
    let nil = nil_from_test (map line_of m.loaded.items) (and_parts (is_nil (map line_of m.loaded.items)) (not m.space.grown) fresh).0 in
    let unfaulted = ap (list_any is_fault) nil in
    let none : m.calls ≡ 0 = m.unfailed unfaulted in
    let before = none_planned m unfaulted i in
    no_namenode_faults settings m.calls plan i (same i ∙ before) none ∙ sym (no_namenode_faults m.config.settings m.calls m.faults i before none)
