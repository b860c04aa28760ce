-- Connections that are kept to one address and to others, once the map changes at one.
use Rattle.std.proofs.Common.{◌≡◌, ◌≢◌, ℕ, Bool, true, false, List, [], Option, Some, Result, Ok, Err, cond, refl, sym, ◌∙◌, ap}
use Rattle.std.proofs.lemmas.Bool.{false_from_ne_true}
use Rattle.std.proofs.lemmas.Slice.Eq.{bytes_eq-Decides}
use Rattle.std.specs.Map.{update}
use Rattle.std.specs.Option.{option_map_or}
use Rattle.std.specs.Prelude.{OnErr}
use Rattle.std.specs.Str.{bytes_eq}
use Rattle.hdfs_connections.specs.declared.connection_cache.Kept.{Kept}

-- another address has what it had
pub apart_stays : {X : Type 0} (f : List ℕ → Option X) (address other : List ℕ) (new : Option X) → other ≢ address → update bytes_eq f address new other ≡ f other
apart_stays f address other new apart =
    ap (λ (b : Bool). cond b new (f other)) (false_from_ne_true (bytes_eq address other) (λ is. apart (sym ((bytes_eq-Decides address other).0 is))))

-- where the connections at the address are those that were there, so are all
pub all_stay : {X : Type 0} (items : X → List Kept) (f f' : List ℕ → Option X) (address : List ℕ) (old new : X) → f address ≡ Some old
    → ((other : List ℕ) → f' other ≡ update bytes_eq f address (Some new) other) → items new ≡ items old
    → (other : List ℕ) → option_map_or items (f' other) [] ≡ option_map_or items (f other) []
all_stay {X} items f f' address old new was now same other = ap (λ (o : Option X). option_map_or items o []) (now other) ∙ by_test (bytes_eq address other) (bytes_eq-Decides address other).0
  where
    by_test : (b : Bool) → (b ≡ true → address ≡ other) → option_map_or items (cond b (Some new) (f other)) [] ≡ option_map_or items (f other) []
    by_test true here = same ∙ ap (λ (o : Option X). option_map_or items o []) (sym was ∙ ap f (here refl))
    by_test false here = refl

-- what holds anyway holds on an error
pub on_err : {T E A : Type 0} (result : Result T E) → A → OnErr result A
on_err (Ok done) holds = tt
on_err (Err fault) holds = holds
