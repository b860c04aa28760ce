-- The fields of a header, written and read one by one.
use Rattle.std.proofs.Common.{◌≡◌, ℕ, ◌+◌, ◌<◌, ◌≤◌, List, [], ◌++◌, length, get_or, drop, Ok, Err, refl, sym, ap, ◌∙◌, append_assoc}
use Rattle.std.proofs.lemmas.List.{append-nil, drop_more, drop_all}
use Rattle.hdfs_wire.specs.declared.wire_fault.WireFault.{WireFault}
use Rattle.hdfs_wire.specs.declared.field.Field.{Field}
use Rattle.hdfs_wire.specs.declared.packet_header.PacketHeader.{PacketHeader}
use Rattle.hdfs_wire.specs.Reading.{◌>>=◌}
use Rattle.hdfs_wire.specs.Headers.{with_field, header_from}

pub five : (o0 o1 o2 o3 o4 a b c d e : List ℕ) → o1 ≡ o0 ++ a → o2 ≡ o1 ++ b → o3 ≡ o2 ++ c → o4 ≡ o3 ++ d → o4 ++ e ≡ o0 ++ (a ++ (b ++ (c ++ (d ++ e))))
five o0 o1 o2 o3 o4 a b c d e h1 h2 h3 h4 = rw (h4, h3, h2, h1) (simp append_assoc)

pub four : (o0 o1 o2 o3 o4 a b c d : List ℕ) → o1 ≡ o0 ++ a → o2 ≡ o1 ++ b → o3 ≡ o2 ++ c → o4 ≡ o3 ++ d → o4 ≡ o0 ++ (a ++ (b ++ (c ++ (d ++ []))))
four o0 o1 o2 o3 o4 a b c d h1 h2 h3 h4 = sym (append-nil o4) ∙ five o0 o1 o2 o3 o4 a b c d [] h1 h2 h3 h4

pub after_sync : (o0 o4 o5 a b c d e : List ℕ) → o5 ≡ o4 ++ e → o4 ++ e ≡ o0 ++ (a ++ (b ++ (c ++ (d ++ e)))) → o5 ≡ o0 ++ (a ++ (b ++ (c ++ (d ++ (e ++ [])))))
after_sync o0 o4 o5 a b c d e h k = h ∙ k ∙ ap (λ (t : List ℕ). o0 ++ (a ++ (b ++ (c ++ (d ++ t))))) (sym (append-nil e))

-- what was written of a number is what is written of a number that it equals
pub step : (f : ℕ → List ℕ) (old new : List ℕ) (x y : ℕ) → x ≡ y → new ≡ old ++ f x → new ≡ old ++ f y
step f old new x y e h = h ∙ ap (λ (z : ℕ). old ++ f z) e

at_field : (h : PacketHeader) (fs : List Field) (i : ℕ) (f : Field) → i < length fs → header_from h (drop i fs) ≡ with_field h (get_or fs i f) >>= λ g. header_from g (drop (i + 1) fs)
unfolding header_from
at_field h fs i f lt = ap (header_from h) (drop_more fs i f lt)

pub goes_on : (h g start : PacketHeader) (fs : List Field) (i : ℕ) (f : Field) → i < length fs → f ≡ get_or fs i f → with_field h f ≡ Ok g → header_from h (drop i fs) ≡ header_from start fs
    → header_from g (drop (i + 1) fs) ≡ header_from start fs
goes_on h g start fs i f lt is e so_far =
    let one : header_from h (drop i fs) ≡ header_from g (drop (i + 1) fs) = at_field h fs i f lt ∙ ap (λ (x : Field). with_field h x >>= λ k. header_from k (drop (i + 1) fs)) (sym is) ∙ rw e refl in
    sym one ∙ so_far

pub fault_at : (h start : PacketHeader) (fs : List Field) (i : ℕ) (f : Field) (d : WireFault) → i < length fs → f ≡ get_or fs i f → with_field h f ≡ Err d → header_from h (drop i fs) ≡ header_from start fs
    → header_from start fs ≡ Err d
fault_at h start fs i f d lt is e so_far =
    let one : header_from h (drop i fs) ≡ Err d = at_field h fs i f lt ∙ ap (λ (x : Field). with_field h x >>= λ k. header_from k (drop (i + 1) fs)) (sym is) ∙ rw e refl in
    sym so_far ∙ one

pub is_done : (h start : PacketHeader) (fs : List Field) (i : ℕ) → length fs ≤ i → header_from h (drop i fs) ≡ header_from start fs → header_from start fs ≡ Ok h
unfolding header_from
is_done h start fs i le so_far =
    let one : header_from h (drop i fs) ≡ Ok h = ap (header_from h) (drop_all i fs le) in
    sym so_far ∙ one
