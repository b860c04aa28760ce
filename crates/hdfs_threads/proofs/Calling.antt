-- What was sent and given, call by call.
use Rattle.std.proofs.Common.{◌≡◌, ℕ, ◌+◌, ◌<◌, List, [], ◌∷◌, ◌++◌, length, take, Option, Some, None, refl, sym, ◌∙◌, ap, arith, append_assoc}
use Rattle.std.specs.Prelude.{slice_index_or}
use Rattle.std.proofs.lemmas.List.{take_more, append-nil}
use Rattle.hdfs_wire.specs.Outgoing.{Outgoing}
use Rattle.hdfs_wire.specs.declared.ack.Ack.{Ack}
use Rattle.hdfs_threads.specs.Links.{OutShown, InShown, GoesOn, Took, Gave, GaveSo, count_some, count_none}

-- a list goes on with nothing, and then with more
pub stays : {X : Type 0} → (a : Option (List X)) → GoesOn a [] a
stays {X} a told is = is ∙ ap Some (sym (append-nil told))

pub goes_on : {X : Type 0} → (a b c : Option (List X)) (one two : List X) → GoesOn a one b → GoesOn b two c → GoesOn a (one ++ two) c
goes_on {X} a b c one two first second told is = second (told ++ one) (first told is) ∙ ap Some (append_assoc told one two)

pub took_none : (a b c : OutShown) (packets : List Outgoing) → Took a packets b → Took b [] c → Took a packets c
took_none a b c packets one two told is = two (told ++ packets) (one told is) ∙ ap Some (append-nil (told ++ packets))

-- one packet more was sent
pub took_next : (a b c : OutShown) (packets : List Outgoing) (k : ℕ) (packet : Outgoing) → k < length packets → packet ≡ slice_index_or packets k packet
    → Took a (take k packets) b → Took b (packet ∷ []) c → Took a (take (k + 1) packets) c
took_next a b c packets k packet left is one two told have =
    goes_on a.sent b.sent c.sent (take k packets) (packet ∷ []) one two told have
    ∙ ap (λ x. Some (told ++ (take k packets ++ x ∷ []))) is ∙ ap (λ xs. Some (told ++ xs)) (sym (take_more packets k packet left))

count_some-append : (one two : List (Option Ack)) → count_some (one ++ two) ≡ count_some one + count_some two
count_some-append [] two = omega arith
count_some-append (Some ack ∷ one) two = let more = count_some-append one two in omega (arith, more)
count_some-append (None ∷ one) two = count_some-append one two

count_none-append : (one two : List (Option Ack)) → count_none (one ++ two) ≡ count_none one + count_none two
count_none-append [] two = omega arith
count_none-append (Some ack ∷ one) two = count_none-append one two
count_none-append (None ∷ one) two = let more = count_none-append one two in omega (arith, more)

-- nothing was given so far
pub gave_nothing : (a : InShown) → GaveSo a 0 0 a
gave_nothing a = ([], stays a.given, refl, refl)

-- more was given, and counted
pub gave_more : (a b c : InShown) (one : List (Option Ack)) (acked failed acked' failed' : ℕ) → Gave b one c → acked' ≡ acked + count_some one → failed' ≡ failed + count_none one
    → GaveSo a acked failed b → GaveSo a acked' failed' c
gave_more a b c one acked failed acked' failed' gave some none so =
    let two = count_some-append so.0 one in
    let three = count_none-append so.0 one in
    (so.0 ++ one, goes_on a.given b.given c.given so.0 one so.1 gave, omega (arith, some, two, so.2), omega (arith, none, three, so.3))
