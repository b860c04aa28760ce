-- How reads of a source join.
use Rattle.std.proofs.Common.{◌≡◌, ℕ, ◌+◌, ◌≤◌, List, [], ◌++◌, length, take, Option, Some, None, refl, sym, ◌∙◌, ap, arith, append_assoc, length-append}
use Rattle.std.proofs.lemmas.List.{append-nil, take_all}
use Rattle.std.proofs.Math.Seq.{take-append_seam}
use Rattle.std.specs.Io.KnownBytes.{Consumes, Keeps, IsAtEnd}
use Rattle.hdfs_streams.specs.Streams.{SourceShown, Took, TookAtMost, IsDry}

consumes_none : (a : Option (List ℕ)) → Consumes a a []
consumes_none None = tt
consumes_none (Some old) = refl

-- nothing was taken
pub took_none : (a : SourceShown) → Took a [] a
took_none a = consumes_none a.left

consumes_trans : (a b c : Option (List ℕ)) (x y : List ℕ) → Consumes a b x → Consumes b c y → Consumes a c (x ++ y)
consumes_trans None b c x y f g = tt
consumes_trans (Some a) (Some b) (Some c) x y f g = f ∙ ap (λ t. x ++ t) g ∙ sym (append_assoc x y c)
consumes_trans (Some a) (Some b) None x y f g = absurd g
consumes_trans (Some a) None c x y f g = absurd f

pub took_trans : (a b c : SourceShown) (x y : List ℕ) → Took a x b → Took b y c → Took a (x ++ y) c
took_trans a b c x y f g = consumes_trans a.left b.left c.left x y f g

consumes_from-Keeps : (a b : Option (List ℕ)) → Keeps a b → Consumes a b []
consumes_from-Keeps None b h = tt
consumes_from-Keeps (Some a) (Some b) h = sym h
consumes_from-Keeps (Some a) None h = absurd h

-- a failure takes nothing
pub took_from-Keeps : (a b : SourceShown) → Keeps a.left b.left → Took a [] b
took_from-Keeps a b h = consumes_from-Keeps a.left b.left h

-- what came before, and what was taken then
pub at_most_then : (room most : ℕ) (a b c : SourceShown) (x : List ℕ) → length x + room ≤ most → Took a x b → TookAtMost room b c → TookAtMost most a c
at_most_then room most a b c x short f g = (x ++ g.0, omega (arith, short, g.1, length-append x g.0), took_trans a b c x g.0 f g.2)

full_front : (most : ℕ) (a b : Option (List ℕ)) (x all : List ℕ) → length x ≡ most → Consumes a b x → a ≡ Some all → x ≡ take most all
full_front most None b x all full f is = absurd (cc)
full_front most (Some a) (Some b) x all full f is =
    let same : a ≡ all = cc in
    sym (ap (λ m. take m all) (sym full) ∙ ap (take (length x)) (sym same ∙ f) ∙ take-append_seam x b)
full_front most (Some a) None x all full f is = absurd f

-- as many bytes came as are wanted
pub front_from_full : (most : ℕ) (a b : SourceShown) (x all : List ℕ) → length x ≡ most → Took a x b → a.left ≡ Some all → x ≡ take most all
front_from_full most a b x all full f is = full_front most a.left b.left x all full f is

dry_front : (most : ℕ) (a b : Option (List ℕ)) (x all : List ℕ) → length x ≤ most → Consumes a b x → IsAtEnd b → a ≡ Some all → x ≡ take most all
dry_front most None b x all short f dry is = absurd (cc)
dry_front most (Some a) (Some b) x all short f dry is =
    let same : a ≡ all = cc in
    let whole : all ≡ x = sym same ∙ f ∙ ap (λ t. x ++ t) dry ∙ append-nil x in
    sym (ap (take most) whole ∙ take_all most x short)
dry_front most (Some a) None x all short f dry is = absurd f

-- the source has ended
pub front_from_dry : (most : ℕ) (a b : SourceShown) (x all : List ℕ) → length x ≤ most → Took a x b → IsDry b → a.left ≡ Some all → x ≡ take most all
front_from_dry most a b x all short f dry is = dry_front most a.left b.left x all short f dry is
