-- Which locations a reader gives up, and how often their datanodes have failed by then.
use Rattle.std.proofs.Common.{◌≡◌, ◌⊎◌, inl, inr, ⊎_elim, ℕ, ◌+◌, ◌<◌, ◌≤◌, Bool, true, false, List, [], ◌∷◌, ◌++◌, length, None, refl, sym, ◌∙◌, ap, subst, append_assoc, arith}
use Rattle.std.proofs.lemmas.Bool.{cases_Bool}
use Rattle.std.proofs.lemmas.List.{append_cancel_left, append-nil, length-append}
use Rattle.hdfs_cluster.specs.declared.messages.LocatedBlock.{LocatedBlock}
use Rattle.hdfs_cluster.specs.Counts.{NeverFall, Rose}
use Rattle.hdfs_cluster.specs.Shown.{Shown}
use Rattle.hdfs_block_reader.specs.Blocks.{node_at, node_count}
use Rattle.hdfs_block_reader.specs.Reader.{tried_of, is_of_connection, TriesAgain}
use Rattle.hdfs_block_reader.specs.Going.{RoseFor, StaysAt, MovesOn, count_at, tries_left, gives_up, Loses, LosesOne}
use Rattle.hdfs_block_reader.specs.declared.block_read.BlockRead.{BlockRead}
use Rattle.hdfs_block_reader.specs.declared.given_up.GivenUp.{GivenUp}

-- one reason more is one location more
pub one_more : (before : List GivenUp) (reason : GivenUp) → length (before ++ reason ∷ []) ≡ length before + 1
one_more before reason = omega (arith, length-append before (reason ∷ []))

-- nothing was given up, and what had moved still has
pub stays_same : (s t : Shown) (r r' : BlockRead) → r'.given_up ≡ r.given_up → (r.moved ≡ true → r'.moved ≡ true) → StaysAt s t r r'
stays_same s t r r' given_up moved = record { given_up = given_up; lost = λ was now. absurd (cc (moved was, now)) }

-- a count that rose as often as it has to, and may have risen once more before
rose_join : (x y : Bool) (a b c : ℕ) → a ≤ b → (x ≡ true → y ≡ false → Rose a b) → RoseFor y b c → RoseFor x a c
rose_join true true a b c le lost h = omega (arith, le, h)
rose_join true false a b c le lost h = omega (arith, lost refl refl, h)
rose_join false true a b c le lost h = omega (arith, le, h)
rose_join false false a b c le lost h = omega (arith, le, h)

-- and one that goes on rising
rose_later : (x : Bool) (a b c : ℕ) → RoseFor x a b → b ≤ c → RoseFor x a c
rose_later true a b c h le = omega (arith, h, le)
rose_later false a b c h le = omega (arith, h, le)

-- two calls, one behind the other
module _ (s t u : Shown) (q r w : BlockRead) (block : r.block ≡ q.block) (first : NeverFall s.counts t.counts) (later : NeverFall t.counts u.counts) where
  -- where nothing was given up the same datanode is tried
  same_node : r.given_up ≡ q.given_up → node_at r.block (tried_of r) ≡ node_at q.block (tried_of q)
  same_node same = ap (λ (b : LocatedBlock). node_at b (tried_of r)) block ∙ ap (λ (given : List GivenUp). node_at q.block (length given)) same

  -- neither gave a location up
  stay_both : StaysAt s t q r → StaysAt t u r w → StaysAt s u q w
  stay_both f g =
      let node = same_node f.given_up in
      record {
        given_up = g.given_up ∙ f.given_up;
        lost = λ was now. ⊎_elim
            (λ still. (let rose : Rose (count_at t q) (count_at u q) =
            subst (λ (n : List ℕ). Rose (t.counts.nodes n) (u.counts.nodes n)) node (g.lost still now) in
            omega (arith, rose, first.nodes (node_at q.block (tried_of q)))))
            (λ lost. omega (arith, f.lost was lost, later.nodes (node_at q.block (tried_of q))))
            (cases_Bool r.moved);
      }

  -- the second one did
  move_second : StaysAt s t q r → MovesOn t u r w → MovesOn s u q w
  move_second f g =
      let node = same_node f.given_up in
      record {
        reason = g.reason;
        more = g.more;
        given_up = g.given_up ∙ ap (λ (given : List GivenUp). given ++ g.reason ∷ g.more) f.given_up;
        rose = λ is. rose_join q.moved r.moved (count_at s q) (count_at t q) (count_at u q) (first.nodes (node_at q.block (tried_of q))) f.lost
            (subst (λ (n : List ℕ). RoseFor r.moved (t.counts.nodes n) (u.counts.nodes n)) node (g.rose is));
      }

  -- the first one did, and the list of reasons only grows
  move_first : MovesOn s t q r → (more : List GivenUp) → w.given_up ≡ r.given_up ++ more → MovesOn s u q w
  move_first f more grown = record {
    reason = f.reason;
    more = f.more ++ more;
    given_up = grown ∙ ap (λ (given : List GivenUp). given ++ more) f.given_up ∙ append_assoc q.given_up (f.reason ∷ f.more) more;
    rose = λ is. rose_later q.moved (count_at s q) (count_at t q) (count_at u q) (f.rose is) (later.nodes (node_at q.block (tried_of q)));
  }

  -- both together
  pub locations_trans : (StaysAt s t q r) ⊎ (MovesOn s t q r) → (StaysAt t u r w) ⊎ (MovesOn t u r w) → (StaysAt s u q w) ⊎ (MovesOn s u q w)
  locations_trans (inl f) (inl g) = inl (stay_both f g)
  locations_trans (inl f) (inr g) = inr (move_second f g)
  locations_trans (inr f) (inl g) = inr (move_first f [] (g.given_up ∙ sym (append-nil r.given_up)))
  locations_trans (inr f) (inr g) = inr (move_first f (g.reason ∷ g.more) g.given_up)

module _ (s t : Shown) (r r' : BlockRead) where
  -- the list of reasons only grows at its end
  pub grows : (StaysAt s t r r') ⊎ (MovesOn s t r r') → (more : List GivenUp) × (r'.given_up ≡ r.given_up ++ more)
  grows (inl f) = ([], f.given_up ∙ sym (append-nil r.given_up))
  grows (inr f) = (f.reason ∷ f.more, f.given_up)

  -- so no fewer locations are given up
  pub tried_grows : (StaysAt s t r r') ⊎ (MovesOn s t r r') → tried_of r ≤ tried_of r'
  tried_grows locations = let more = grows locations in omega (arith, ap (λ (given : List GivenUp). length given) more.1, length-append r.given_up more.0)

  -- a list isn't itself with one more reason
  not_longer : (more : List GivenUp) (reason : GivenUp) → r'.given_up ≡ r.given_up → r'.given_up ≡ r.given_up ++ reason ∷ more → ⊥
  not_longer more reason same grown = omega (arith, ap (λ (given : List GivenUp). length given) (sym same ∙ grown), length-append r.given_up (reason ∷ more))

  -- so a location that had moved the read on is tried once more
  pub tries_again : (StaysAt s t r r') ⊎ (MovesOn s t r r') → TriesAgain s t r r'
  tries_again (inl f) moved reason more grown is = absurd (not_longer more reason f.given_up grown)
  tries_again (inr f) moved reason more grown is =
      let same : f.reason ∷ f.more ≡ reason ∷ more = append_cancel_left r.given_up (f.reason ∷ f.more) (reason ∷ more) (sym f.given_up ∙ grown) in
      let first : f.reason ≡ reason = cc in
      subst (λ (b : Bool). RoseFor b (count_at s r) (count_at t r)) moved (f.rose (ap is_of_connection first ∙ is))

  -- the location that is tried was given up for another reason than its connection
  pub moves_on : (reason : GivenUp) → r' ≡ gives_up r reason → is_of_connection reason ≡ false → MovesOn s t r r'
  moves_on reason is other = record { reason = reason; more = []; given_up = ap (λ (x : BlockRead). x.given_up) is; rose = λ of_it. absurd (cc (other, of_it)) }

-- a location that is given up is one try fewer
pub gives_up_one : (r r' : BlockRead) (reason : GivenUp) → tried_of r < node_count r.block → r' ≡ gives_up r reason → LosesOne r r'
gives_up_one r r' reason left is =
    subst (λ (x : BlockRead). LosesOne r x) (sym is) (refl, fewer r.moved)
  where
    fewer : (moved : Bool) → tries_left (gives_up r reason) < tries_left (record r { moved = moved })
    fewer true = omega (arith, one_more r.given_up reason, left)
    fewer false = omega (arith, one_more r.given_up reason, left)

-- and so is one that is lost
pub loses_one : (r r' : BlockRead) (reason : GivenUp) → tried_of r < node_count r.block → Loses r reason r' → LosesOne r r'
loses_one r r' reason left (inl (moved, is)) = gives_up_one r r' reason left is
loses_one r r' reason left (inr (moved, is)) =
    subst (λ (x : BlockRead). LosesOne r x) (sym is) (refl, subst (λ (b : Bool). tries_left (record r { link = None; position = None; moved = false }) < tries_left (record r { moved = b })) (sym moved) (omega arith))
