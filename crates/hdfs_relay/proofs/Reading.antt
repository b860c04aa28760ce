-- The words say one number of packets, and one window.
use Rattle.std.proofs.Common.{◌≡◌, ℕ, List, sym, ◌∙◌, ap}
use Rattle.std.specs.Str.Parse.{digits_value}
use Rattle.hdfs_relay.specs.Relays.{IsRelay, Writes}

one_number : (most : ℕ) (text other : List ℕ) (n m : ℕ) → text ≡ other → Writes most text n → Writes most other m → n ≡ m
one_number most text other n m same one two = one.value ∙ ap (digits_value 10) same ∙ sym two.value

pub one_relay : (words : List (List ℕ)) (packets window packets' window' : ℕ) → IsRelay words packets window → IsRelay words packets' window' → (packets ≡ packets') × (window ≡ window')
one_relay words packets window packets' window' one two =
    let whole = sym one.words_are ∙ two.words_are in
    let first : one.packets_text ≡ two.packets_text = cc in
    let second : one.window_text ≡ two.window_text = cc in
    (one_number 10000 one.packets_text two.packets_text packets packets' first one.packets_is two.packets_is, one_number 1000 one.window_text two.window_text window window' second one.window_is two.window_is)
