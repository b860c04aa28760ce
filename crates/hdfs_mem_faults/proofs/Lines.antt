-- What the lines of a script plan of a series of calls.
use Rattle.std.proofs.Common.{◌≡◌, ◌≢◌, ◌⊎◌, inl, inr, ℕ, Bool, true, false, ◌&&◌, ◌||◌, eqb, cond, List, [], ◌∷◌, ◌++◌, Option, Some, None, is_some, refl, sym, ◌∙◌, ap, eqb-true, eq-eqb}
use Rattle.std.specs.Option.{option_or}
use Rattle.std.specs.Str.{bytes_eq}
use Rattle.std.proofs.lemmas.List.Folds.{list_any-append}
use Rattle.std.proofs.lemmas.Slice.Eq.{bytes_eq-Decides}
use Rattle.hdfs_cluster.specs.declared.store.Line.{Line}
use Rattle.hdfs_cluster.specs.declared.store.Line.TheVariants as lines
use Rattle.hdfs_cluster.specs.declared.store.FaultLine.TheVariants as faults
use Rattle.hdfs_cluster.specs.declared.store.ReadKind.TheVariants as read_kinds
use Rattle.hdfs_mem_faults.specs.declared.node_plan.NodeCall.{NodeCall}
use Rattle.hdfs_mem_faults.specs.declared.node_plan.NodeCall.TheVariants as calls
use Rattle.hdfs_mem_faults.specs.Series.{Series, SetUps, AsksOf, CallsOf, ask_kind_of, ask_kind_of_line, is_fault_at, is_fault, kind_of, kind_of_line, of_fault, packet_kind_of, packet_kind_of_line, plans, reads_of, same_call, same_series}

-- a test is not true and false
pub none_is : {P : Type 0} → true ≡ false → P
none_is is = absurd (cc)

-- ---- the series

-- kinds of calls that test the same are the same
same_call-is : (call other : NodeCall) → same_call call other ≡ true → call ≡ other
same_call-is calls.Ack calls.Ack is = refl
same_call-is calls.Send calls.Send is = refl
same_call-is calls.Read calls.Read is = refl
same_call-is calls.Open calls.Open is = refl
same_call-is calls.Ack calls.Send is = absurd (cc)
same_call-is calls.Ack calls.Read is = absurd (cc)
same_call-is calls.Ack calls.Open is = absurd (cc)
same_call-is calls.Send calls.Ack is = absurd (cc)
same_call-is calls.Send calls.Read is = absurd (cc)
same_call-is calls.Send calls.Open is = absurd (cc)
same_call-is calls.Read calls.Ack is = absurd (cc)
same_call-is calls.Read calls.Send is = absurd (cc)
same_call-is calls.Read calls.Open is = absurd (cc)
same_call-is calls.Open calls.Ack is = absurd (cc)
same_call-is calls.Open calls.Send is = absurd (cc)
same_call-is calls.Open calls.Read is = absurd (cc)

-- and each tests the same as itself
same_call-refl : (call : NodeCall) → same_call call call ≡ true
same_call-refl calls.Ack = refl
same_call-refl calls.Send = refl
same_call-refl calls.Read = refl
same_call-refl calls.Open = refl

-- both tests of a true pair are true
pub both : (a b : Bool) → (a && b) ≡ true → (a ≡ true) × (b ≡ true)
both true true is = (refl, refl)
both true false is = absurd (cc)
both false b is = absurd (cc)

-- and the pair of two true tests is
pub together : (a b : Bool) → a ≡ true → b ≡ true → (a && b) ≡ true
together true b first second = second
together false b first second = absurd (cc)

-- series that test the same are the same
pub same_series-is : (s t : Series) → same_series s t ≡ true → s ≡ t
same_series-is SetUps SetUps is = refl
same_series-is SetUps (AsksOf j) is = absurd (cc)
same_series-is SetUps (CallsOf call d) is = absurd (cc)
same_series-is (AsksOf i) SetUps is = absurd (cc)
same_series-is (AsksOf i) (AsksOf j) is = ap AsksOf (eqb-true i j is)
same_series-is (AsksOf i) (CallsOf call d) is = absurd (cc)
same_series-is (CallsOf call d) SetUps is = absurd (cc)
same_series-is (CallsOf call d) (AsksOf j) is = absurd (cc)
same_series-is (CallsOf call d) (CallsOf other e) is =
    let parts = both (same_call call other) (bytes_eq d e) is in
    ap (λ (c : NodeCall). CallsOf c d) (same_call-is call other parts.0) ∙ ap (CallsOf other) ((bytes_eq-Decides d e).0 parts.1)

-- and each tests the same as itself
pub same_series-refl : (s : Series) → same_series s s ≡ true
same_series-refl SetUps = refl
same_series-refl (AsksOf i) = eq-eqb i i refl
same_series-refl (CallsOf call d) = together (same_call call call) (bytes_eq d d) (same_call-refl call) ((bytes_eq-Decides d d).1 refl)

-- two series are the same or are not
pub series_cases : (s t : Series) → (s ≡ t) ⊎ (s ≢ t)
series_cases s t = by_test (same_series s t) refl
  where
    by_test : (b : Bool) → same_series s t ≡ b → (s ≡ t) ⊎ (s ≢ t)
    by_test true is = inl (same_series-is s t is)
    by_test false is = inr (λ same. none_is (sym (same_series-refl s) ∙ ap (same_series s) same ∙ is))

-- ---- the first that says something

-- the first of three
or_assoc : {X : Type 0} (a b c : Option X) → option_or a (option_or b c) ≡ option_or (option_or a b) c
or_assoc None b c = refl
or_assoc (Some x) b c = refl

-- one of two says something exactly where the first of them does
either : {X : Type 0} (a b : Option X) → (is_some a || is_some b) ≡ is_some (option_or a b)
either None b = refl
either (Some x) b = refl

-- something is there exactly where the test is true
some_cond : {X : Type 0} (b : Bool) (x : X) → b ≡ is_some (cond b (Some x) None)
some_cond true x = refl
some_cond false x = refl

-- ---- one more line

-- what one more line plans, the lines plan
pub plans_push : (loaded : List Line) (line : Line) (s : Series) (nth : ℕ) → plans (loaded ++ line ∷ []) s nth ≡ (plans loaded s nth || (of_fault (is_fault_at s nth) line || false))
plans_push loaded line s nth = list_any-append (of_fault (is_fault_at s nth)) loaded (line ∷ [])

-- the first line of a set-up stays the first
pub kind_push : (loaded more : List Line) (nth : ℕ) → kind_of (loaded ++ more) nth ≡ option_or (kind_of loaded nth) (kind_of more nth)
kind_push [] more nth = refl
kind_push (line ∷ loaded) more nth = ap (option_or (kind_of_line nth line)) (kind_push loaded more nth) ∙ or_assoc (kind_of_line nth line) (kind_of loaded nth) (kind_of more nth)

-- so does that of a packet
pub packet_push : (loaded more : List Line) (d : List ℕ) (nth : ℕ) → packet_kind_of (loaded ++ more) d nth ≡ option_or (packet_kind_of loaded d nth) (packet_kind_of more d nth)
packet_push [] more d nth = refl
packet_push (line ∷ loaded) more d nth = ap (option_or (packet_kind_of_line d nth line)) (packet_push loaded more d nth) ∙ or_assoc (packet_kind_of_line d nth line) (packet_kind_of loaded d nth) (packet_kind_of more d nth)

-- and that of an ask
pub ask_push : (loaded more : List Line) (i nth : ℕ) → ask_kind_of (loaded ++ more) i nth ≡ option_or (ask_kind_of loaded i nth) (ask_kind_of more i nth)
ask_push [] more i nth = refl
ask_push (line ∷ loaded) more i nth = ap (option_or (ask_kind_of_line i nth line)) (ask_push loaded more i nth) ∙ or_assoc (ask_kind_of_line i nth line) (ask_kind_of loaded i nth) (ask_kind_of more i nth)

-- a line that is no fault plans no call
pub nothing_of : (line : Line) (s : Series) (nth : ℕ) → is_fault line ≡ false → of_fault (is_fault_at s nth) line ≡ false
nothing_of (lines.Dir path) s nth is = refl
nothing_of (lines.File path attributes bytes) s nth is = refl
nothing_of (lines.Short path block node len) s nth is = refl
nothing_of (lines.Fault fault) s nth is = none_is is

-- ---- that a call fails, and how

-- a line plans a set-up exactly where it says how
line_plans : (line : Line) (nth : ℕ) → of_fault (is_fault_at SetUps nth) line ≡ is_some (kind_of_line nth line)
line_plans (lines.Dir path) nth = refl
line_plans (lines.File path attributes bytes) nth = refl
line_plans (lines.Short path block node len) nth = refl
line_plans (lines.Fault (faults.Ask i n kind)) nth = refl
line_plans (lines.Fault (faults.Link n kind)) nth = some_cond (eqb n nth) kind
line_plans (lines.Fault (faults.AckOf node n)) nth = refl
line_plans (lines.Fault (faults.SendTo node n)) nth = refl
line_plans (lines.Fault (faults.ReadOf node n read_kinds.Broken)) nth = refl
line_plans (lines.Fault (faults.ReadOf node n read_kinds.Damaged)) nth = refl
line_plans (lines.Fault (faults.ReadOf node n read_kinds.Gap)) nth = refl
line_plans (lines.Fault (faults.ReadOf node n read_kinds.Refused)) nth = refl

-- a set-up is planned to fail exactly where the lines say how
pub plans_kind : (loaded : List Line) (nth : ℕ) → plans loaded SetUps nth ≡ is_some (kind_of loaded nth)
plans_kind [] nth = refl
plans_kind (line ∷ loaded) nth =
    ap (λ (b : Bool). b || plans loaded SetUps nth) (line_plans line nth) ∙ ap (λ (b : Bool). is_some (kind_of_line nth line) || b) (plans_kind loaded nth)
    ∙ either (kind_of_line nth line) (kind_of loaded nth)

-- a line plans a packet exactly where it says how: one that refuses an opening is of no packet
line_plans_packet : (line : Line) (d : List ℕ) (nth : ℕ) → of_fault (is_fault_at (reads_of d) nth) line ≡ is_some (packet_kind_of_line d nth line)
line_plans_packet (lines.Dir path) d nth = refl
line_plans_packet (lines.File path attributes bytes) d nth = refl
line_plans_packet (lines.Short path block node len) d nth = refl
line_plans_packet (lines.Fault (faults.Ask i n kind)) d nth = refl
line_plans_packet (lines.Fault (faults.Link n kind)) d nth = refl
line_plans_packet (lines.Fault (faults.AckOf node n)) d nth = refl
line_plans_packet (lines.Fault (faults.SendTo node n)) d nth = refl
line_plans_packet (lines.Fault (faults.ReadOf node n kind)) d nth = some_cond (is_fault_at (reads_of d) nth (faults.ReadOf node n kind)) kind

-- a packet is planned to fail exactly where the lines say how
pub plans_packet : (loaded : List Line) (d : List ℕ) (nth : ℕ) → plans loaded (reads_of d) nth ≡ is_some (packet_kind_of loaded d nth)
plans_packet [] d nth = refl
plans_packet (line ∷ loaded) d nth =
    ap (λ (b : Bool). b || plans loaded (reads_of d) nth) (line_plans_packet line d nth) ∙ ap (λ (b : Bool). is_some (packet_kind_of_line d nth line) || b) (plans_packet loaded d nth)
    ∙ either (packet_kind_of_line d nth line) (packet_kind_of loaded d nth)

-- a line plans an ask exactly where it says how
line_plans_ask : (line : Line) (i nth : ℕ) → of_fault (is_fault_at (AsksOf i) nth) line ≡ is_some (ask_kind_of_line i nth line)
line_plans_ask (lines.Dir path) i nth = refl
line_plans_ask (lines.File path attributes bytes) i nth = refl
line_plans_ask (lines.Short path block node len) i nth = refl
line_plans_ask (lines.Fault (faults.Ask j n kind)) i nth = some_cond (is_fault_at (AsksOf i) nth (faults.Ask j n kind)) kind
line_plans_ask (lines.Fault (faults.Link n kind)) i nth = refl
line_plans_ask (lines.Fault (faults.AckOf node n)) i nth = refl
line_plans_ask (lines.Fault (faults.SendTo node n)) i nth = refl
line_plans_ask (lines.Fault (faults.ReadOf node n read_kinds.Broken)) i nth = refl
line_plans_ask (lines.Fault (faults.ReadOf node n read_kinds.Damaged)) i nth = refl
line_plans_ask (lines.Fault (faults.ReadOf node n read_kinds.Gap)) i nth = refl
line_plans_ask (lines.Fault (faults.ReadOf node n read_kinds.Refused)) i nth = refl

-- an ask is planned to fail exactly where the lines say how
pub plans_ask : (loaded : List Line) (i nth : ℕ) → plans loaded (AsksOf i) nth ≡ is_some (ask_kind_of loaded i nth)
plans_ask [] i nth = refl
plans_ask (line ∷ loaded) i nth =
    ap (λ (b : Bool). b || plans loaded (AsksOf i) nth) (line_plans_ask line i nth) ∙ ap (λ (b : Bool). is_some (ask_kind_of_line i nth line) || b) (plans_ask loaded i nth)
    ∙ either (ask_kind_of_line i nth line) (ask_kind_of loaded i nth)
