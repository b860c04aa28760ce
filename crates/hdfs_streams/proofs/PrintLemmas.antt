-- How prints join.
use Rattle.std.proofs.Common.{suc, zero, ◌≡◌, ℕ, ◌+◌, ◌≤◌, List, [], ◌∷◌, ◌++◌, length, take, Option, Some, None, Result, Ok, Err, refl, sym, ◌∙◌, ap, subst, arith, append_assoc}
use Rattle.std.proofs.lemmas.List.{append-nil}
use Rattle.std.proofs.Math.Seq.{take-append-add}
use Rattle.hdfs_cluster.specs.Counts.{Rose}
use Rattle.hdfs_streams.specs.declared.streams.IoFailed.{IoFailed}
use Rattle.std.specs.Io.KnownBytes.{Appends, Keeps}
use Rattle.hdfs_streams.specs.Streams.{SinkShown, Wrote, WrotePart, Prints}

appends_none : (a : Option (List ℕ)) → Appends a a []
appends_none None = tt
appends_none (Some old) = sym (append-nil old)

-- nothing was written
pub wrote_none : (a : SinkShown) → Wrote a [] a
wrote_none a = appends_none a.written

appends_trans : (a b c : Option (List ℕ)) (x y : List ℕ) → Appends a b x → Appends b c y → Appends a c (x ++ y)
appends_trans None b c x y f g = tt
appends_trans (Some a) (Some b) (Some c) x y f g = g ∙ ap (λ xs. xs ++ y) f ∙ append_assoc a x y
appends_trans (Some a) (Some b) None x y f g = absurd g
appends_trans (Some a) None c x y f g = absurd f

appends_from-Keeps : (a b : Option (List ℕ)) → Keeps a b → Appends a b []
appends_from-Keeps None b h = tt
appends_from-Keeps (Some a) (Some b) h = h ∙ sym (append-nil a)
appends_from-Keeps (Some a) None h = absurd h

-- a failure writes nothing
pub wrote_from-Keeps : (a b : SinkShown) → Keeps a.written b.written → Wrote a [] b
wrote_from-Keeps a b h = appends_from-Keeps a.written b.written h

pub wrote_same : (a b : SinkShown) (x y : List ℕ) → x ≡ y → Wrote a x b → Wrote a y b
wrote_same a b x y e f = subst (λ (t : List ℕ). Wrote a t b) e f

-- a prefix of a piece is a prefix of the piece with what follows
part_of : (n : ℕ) (piece rest : List ℕ) → (m : ℕ) × (take n piece ≡ take m (piece ++ rest))
part_of zero piece rest = (0, refl)
part_of (suc n) [] rest = (0, refl)
part_of (suc n) (x ∷ xs) rest = let p = part_of n xs rest in (suc p.0, ap (λ t. x ∷ t) p.1)

-- a part of a text is written, no write failed, and the rest is left
pub record Printed (before : SinkShown) (text left : List ℕ) (after : SinkShown) : Type 0 where
  pub same : after.failures ≡ before.failures
  pub done : List ℕ
  pub whole : text ≡ done ++ left
  pub wrote : Wrote before done after

pub printed_start : (a : SinkShown) (text : List ℕ) → Printed a text text a
printed_start a text = record { same = refl; done = []; whole = refl; wrote = wrote_none a }

-- a piece more is written
pub printed_piece : (a b c : SinkShown) (text left piece rest : List ℕ) → left ≡ piece ++ rest → Printed a text left b → c.failures ≡ b.failures → Wrote b piece c → Printed a text rest c
printed_piece a b c text left piece rest is p same wrote = record {
  same = same ∙ p.same;
  done = p.done ++ piece;
  whole = p.whole ∙ ap (λ t. p.done ++ t) is ∙ sym (append_assoc p.done piece rest);
  wrote = appends_trans a.written b.written c.written p.done piece p.wrote wrote;
}

pub printed_then : {T : Type 0} (a b c : SinkShown) (text left piece rest : List ℕ) (r : Result T IoFailed) (x : T) → left ≡ piece ++ rest → Printed a text left b → Prints b piece r c → r ≡ Ok x → Printed a text rest c
printed_then a b c text left piece rest (Ok y) x is p prints ok = printed_piece a b c text left piece rest is p prints.fine prints.ok
printed_then a b c text left piece rest (Err e) x is p prints ok = absurd (cc)

-- a prefix of what is left is written
pub printed_part : (a b c : SinkShown) (text left : List ℕ) → Printed a text left b → (n : ℕ) → Wrote b (take n left) c → WrotePart a text c
printed_part a b c text left p n wrote =
    let all : p.done ++ take n left ≡ take (length p.done + n) text = sym (take-append-add p.done left n) ∙ ap (λ t. take (length p.done + n) t) (sym p.whole) in
    (length p.done + n, wrote_same a c (p.done ++ take n left) _ all (appends_trans a.written b.written c.written p.done (take n left) p.wrote wrote))

pub prints_failed : {T : Type 0} (a c : SinkShown) (text : List ℕ) (r : Result T IoFailed) (e : IoFailed) → r ≡ Err e → a.failures ≤ c.failures → Rose a.failures c.failures → WrotePart a text c → Prints a text r c
prints_failed a c text (Err d) e is later rose part = record { later = later; ok = tt; fine = tt; failed = rose; part = part }
prints_failed a c text (Ok x) e is later rose part = absurd (cc)

-- the sink failed at a piece
pub printed_stop : {T U : Type 0} (a b c : SinkShown) (text left piece rest : List ℕ) (r : Result T IoFailed) (s : Result U IoFailed) (d e : IoFailed) → left ≡ piece ++ rest → Printed a text left b → Prints b piece r c → r ≡ Err d → s ≡ Err e → Prints a text s c
printed_stop a b c text left piece rest (Ok x) s d e is p prints failed is_err = absurd (cc)
printed_stop a b c text left piece rest (Err k) s d e is p prints failed is_err =
    let front = part_of prints.part.0 piece rest in
    prints_failed a c text s e is_err (omega (arith, p.same, prints.later)) (omega (arith, p.same, prints.failed))
    (printed_part a b c text left p front.0 (wrote_same b c (take prints.part.0 piece) _ (front.1 ∙ ap (λ t. take front.0 t) (sym is)) prints.part.1))

-- nothing is left
pub printed_end : {T : Type 0} (a c : SinkShown) (text left : List ℕ) (r : Result T IoFailed) (x : T) → left ≡ [] → Printed a text left c → r ≡ Ok x → Prints a text r c
printed_end a c text left (Ok y) x none p is = record { later = omega (arith, p.same); ok = wrote_same a c p.done text (sym (p.whole ∙ ap (λ t. p.done ++ t) none ∙ append-nil p.done)) p.wrote; fine = p.same; failed = tt; part = tt }
printed_end a c text left (Err e) x none p is = absurd (cc)
