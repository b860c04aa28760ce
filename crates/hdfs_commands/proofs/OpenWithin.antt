-- Which paths lie within another, byte by byte, and whether one of those that a session has open does.
use Rattle.std.proofs.Common.{◌≡◌, ◌⊎◌, inl, inr, ⊎_elim, ℕ, zero, suc, ◌+◌, ◌<◌, ◌≤◌, ◌==◌, ◌||◌, Bool, true, false, List, [], ◌∷◌, ◌++◌, length, slice_get, Option, Some, None, is_some, String, string_bytes, refl, sym, ◌∙◌, ap, subst, arith}
use Rattle.std.proofs.lemmas.Bool.{false≢true}
use Rattle.std.proofs.lemmas.List.{append-nil}
use Rattle.std.proofs.lemmas.Slice.Eq.{bytes_eq-Decides}
use Rattle.std.proofs.lemmas.Map.Entries.{place_from_lookup}
use Rattle.std.proofs.lemmas.Map.Text.{is_eq-slice_cmp}
use Rattle.std.proofs.lemmas.Option.{slice_get_within}
use Rattle.std.specs.BTreeMap.{IsOrdered, is_at}
use Rattle.std.specs.Cmp.Lexicographic.{slice_cmp}
use Rattle.std.specs.Ordering.{nat_cmp}
use Rattle.std.specs.String.{string_cmp}
use Rattle.std.specs.Str.{bytes_eq}
use Rattle.std.specs.declared.alloc.Global.{Global}
use Rattle.hdfs_cluster.specs.Names.{is_below, is_within}
use Rattle.hdfs_file_writer.specs.declared.file_writer.FileWriter.{FileWriter}
use Rattle.hdfs_model.specs.Owing.{IsOpenWithin}
use Rattle.hdfs_model.proofs.Within.{below_cut, below_made}
use Rattle.hdfs_commands.specs.Session.{opened_of, writer_of}
use Rattle.hdfs_commands.specs.declared.session.Session.{Session}
use Rattle.hdfs_commands.proofs.Abandoning.{IsAt, found}

or_false : (a b : Bool) → (a ≡ true → ⊥) → (b ≡ true → ⊥) → (a || b) ≡ false
or_false true b one two = absurd (one refl)
or_false false true one two = absurd (two refl)
or_false false false one two = refl

or_right : (a b : Bool) → b ≡ true → (a || b) ≡ true
or_right true b is = refl
or_right false b is = is

-- a path that doesn't begin with another isn't within it
pub not_within : (top path : List ℕ) → ((rest : List ℕ) → path ≡ top ++ rest → ⊥) → is_within top path ≡ false
not_within top path never =
    or_false (bytes_eq top path) (is_below top path)
    (λ same. never [] (sym ((bytes_eq-Decides top path).0 same) ∙ sym (append-nil top)))
    (λ below. (let cut = below_cut top path below in never (47 ∷ cut.0) cut.1))

-- the path itself is
pub within_same : (top path : List ℕ) → path ≡ top ++ [] → is_within top path ≡ true
within_same top path is = ap (λ (b : Bool). b || is_below top path) ((bytes_eq-Decides top path).1 (sym (is ∙ append-nil top)))

front_same : (top a b : List ℕ) → top ++ a ≡ top ++ b → a ≡ b
front_same [] a b is = is
front_same (c ∷ top) a b is = front_same top a b (cc (is))

grows : (top : List ℕ) (c : ℕ) (rest : List ℕ) → top ≡ top ++ c ∷ rest → ⊥
grows [] c rest is = cc (is)
grows (d ∷ top) c rest is = grows top c rest (cc (is))

-- and one that goes on with a slash
pub within_goes : (top path : List ℕ) (c : ℕ) (rest : List ℕ) → path ≡ top ++ c ∷ rest → (c == 47) ≡ is_within top path
within_goes top path c rest is = by (c == 47) refl
  where
    first : (d : ℕ) (a b : List ℕ) → c ∷ a ≡ d ∷ b → c ≡ d
    first d a b same = cc (same)

    by : (b : Bool) → (c == 47) ≡ b → b ≡ is_within top path
    by true at =
        let slash : c ≡ 47 = grind (arith, at) in
        sym (or_right (bytes_eq top path) (is_below top path) (subst (λ (p : List ℕ). is_below top p ≡ true) (ap (λ (d : ℕ). top ++ d ∷ rest) (sym slash) ∙ sym is) (below_made top rest)))
    by false at =
        sym (or_false (bytes_eq top path) (is_below top path)
        (λ same. grows top c rest ((bytes_eq-Decides top path).0 same ∙ is))
        (λ below.
        (let cut = below_cut top path below in
        let slash : c ≡ 47 = first 47 rest cut.0 (front_same top (c ∷ rest) (47 ∷ cut.0) (sym is ∙ cut.1)) in
        grind (arith, at, slash))))

-- by the first byte of what follows, or that there is none
pub within_end : (top path rest bytes : List ℕ) → path ≡ top ++ rest → None ≡ slice_get bytes 0 → bytes ≡ rest → true ≡ is_within top path
within_end top path rest [] is none same = sym (within_same top path (is ∙ ap (λ (r : List ℕ). top ++ r) (sym same)))
within_end top path rest (c ∷ bytes) is none same = absurd (cc (none))

pub within_next : (top path rest bytes : List ℕ) (c : ℕ) → path ≡ top ++ rest → Some c ≡ slice_get bytes 0 → bytes ≡ rest → (c == 47) ≡ is_within top path
within_next top path rest [] c is some same = absurd (cc (some))
within_next top path rest (d ∷ bytes) c is some same =
    let first : d ≡ c = cc (some) in
    ap (λ (e : ℕ). e == 47) (sym first) ∙ within_goes top path d bytes (is ∙ ap (λ (r : List ℕ). top ++ r) (sym same))

-- none of a session's first paths is within a path
abbrev pub NoneWithin : Session → List ℕ → ℕ → Type 0
NoneWithin session path n = (i : ℕ) (key : String Global) (writer : FileWriter) → i < n → IsAt session i key writer → is_within path (string_bytes key) ≡ false

same_key : (a b : String Global × FileWriter) → Some a ≡ Some b → a.0 ≡ b.0
same_key a b is = (let same : a ≡ b = cc (is) in ap (λ (e : String Global × FileWriter). e.0) same)

-- one more isn't
pub none_more : (session : Session) (path : List ℕ) (n : ℕ) (key : String Global) (writer : FileWriter) → NoneWithin session path n → IsAt session n key writer → is_within path (string_bytes key) ≡ false
    → NoneWithin session path (n + 1)
none_more session path n key writer none is not i key' writer' below is' = ⊎_elim
    (λ before. none i key' writer' before is')
    (λ here.
    (let at : IsAt session n key' writer' = subst (λ (k : ℕ). IsAt session k key' writer') here is' in
    let same : key ≡ key' = same_key (key, writer) (key', writer') (sym is ∙ at) in
    subst (λ (k : String Global). is_within path (string_bytes k) ≡ false) same not))
    (cut i n (omega (arith, below)))
  where
    cut : (i n : ℕ) → i ≤ n → (i < n) ⊎ (i ≡ n)
    cut zero zero less = inr refl
    cut zero (suc n) less = inl (omega arith)
    cut (suc i) zero less = absurd (omega (arith, less))
    cut (suc i) (suc n) less = ⊎_elim (λ b. inl (omega (arith, b))) (λ h. inr (ap suc h)) (cut i n (omega (arith, less)))

module _ (session : Session) (ordered : IsOrdered string_cmp session.writers) (path : List ℕ) where
  -- an entry whose key is within the path is one that is open
  pub some_within : (i : ℕ) (key : String Global) (writer : FileWriter) → IsAt session i key writer → is_within path (string_bytes key) ≡ true → IsOpenWithin (opened_of session) path
  some_within i key writer is within = (string_bytes key, ap is_some (found session ordered i key writer is), within)

  -- where none of all entries has one, none is open
  pub none_within : NoneWithin session path (length session.writers.entries) → IsOpenWithin (opened_of session) path → ⊥
  none_within none open_one = at_writer (writer_of session open_one.0) refl open_one.1
    where
      at_writer : (o : Option FileWriter) → writer_of session open_one.0 ≡ o → is_some o ≡ true → ⊥
      at_writer None is some = false≢true some
      at_writer (Some writer) is some =
          let place = place_from_lookup (is_at (λ (k : String Global). slice_cmp nat_cmp open_one.0 (string_bytes k))) session.writers.entries writer is in
          let same : open_one.0 ≡ string_bytes place.1 = (bytes_eq-Decides open_one.0 (string_bytes place.1)).0 (sym (is_eq-slice_cmp open_one.0 (string_bytes place.1)) ∙ place.3) in
          let at : IsAt session place.0 place.1 writer = place.2 in
          false≢true (sym (none place.0 place.1 writer (slice_get_within session.writers.entries place.0 (place.1, writer) at) at) ∙ ap (is_within path) (sym same) ∙ open_one.2)
