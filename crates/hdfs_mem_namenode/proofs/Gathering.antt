-- The paths that begin so are found one behind another, in order, and counted.
use Rattle.std.proofs.Common.{◌≡◌, ℕ, ◌+◌, ◌*◌, Bool, true, false, List, [], ◌∷◌, ◌++◌, Option, Some, IsSome, is_some, unwrap_or, Result, Ok, Err, append_assoc, refl, sym, ◌∙◌, ap, subst, arith}
use Rattle.std.proofs.lemmas.Bool.{false≢true}
use Rattle.std.proofs.lemmas.List.{append-nil}
use Rattle.std.proofs.lemmas.List.Elements.{All-nil, All-push, Contains-append_left, Contains-push}
use Rattle.std.proofs.lemmas.List.Sums.{sum_by_push}
use Rattle.std.specs.Prelude.{IfOk}
use Rattle.std.specs.List.{All, Contains, sum_by}
use Rattle.hdfs_cluster.specs.declared.messages.Summary.{Summary}
use Rattle.hdfs_cluster.specs.declared.picture.BlockEntry.{BlockEntry}
use Rattle.hdfs_cluster.specs.declared.picture.Entry.{Entry}
use Rattle.hdfs_cluster.specs.Names.{Rises, front_of, is_before}
use Rattle.hdfs_mem_namenode.specs.Counting.{ArePathsBehind, Counts, CountsOn, IsNamedBehind, bytes_at, directories_at, files_at, replicas_at, summary_of, told, with_one}
use Rattle.hdfs_mem_namenode.specs.Looking.{length_of}
use Rattle.hdfs_mem_namenode.proofs.Bytes.{before_from, before_neither, begins_so, zero_behind, zero_next}
use Rattle.hdfs_mem_namenode.proofs.Pages.{last_from, last_push, rises_append}

-- these are the paths that begin so, are longer, and stand before a text
pub record Gathers (names : List ℕ → Option Entry) (front start : List ℕ) (found : List (List ℕ)) : Type 0 where
  pub begins : (x : List ℕ) × (start ≡ front ++ x)
  pub rising : Rises front found
  pub ends : start ≡ last_from front found ++ 0 ∷ []
  pub there : All (IsNamedBehind names front) found
  pub all : (x : List ℕ) → IsSome (names (front ++ x)) → is_before front (front ++ x) ≡ true → is_before (front ++ x) start ≡ true → Contains found (front ++ x)

module _ (names : List ℕ → Option Entry) (front : List ℕ) where
  pub gathers_none : Gathers names front (front ++ 0 ∷ []) []
  gathers_none = record {
    begins = (0 ∷ [], refl);
    rising = tt;
    ends = refl;
    there = All-nil (IsNamedBehind names front);
    all = λ x some behind before. absurd (false≢true (sym (zero_next front (front ++ x) behind) ∙ before));
  }

  module _ (start : List ℕ) (found : List (List ℕ)) (gathers : Gathers names front start found) where
    -- there is none more
    pub gathers_all : ((q : List ℕ) → IsSome (names q) → is_before q start ≡ true) → ArePathsBehind names front found
    gathers_all none = record { rising = gathers.rising; there = gathers.there; all = λ x some behind. gathers.all x some behind (none (front ++ x) some) }

    module _ (path : List ℕ) (from : is_before path start ≡ false) (least : (q : List ℕ) → IsSome (names q) → is_before q start ≡ false → is_before q path ≡ false) where
      -- the first one left doesn't begin so
      pub gathers_outside : ((rest : List ℕ) → path ≡ front ++ rest → ⊥) → ArePathsBehind names front found
      gathers_outside outside = record { rising = gathers.rising; there = gathers.there; all = λ x some behind. by x some behind (is_before (front ++ x) start) refl }
        where
          by : (x : List ℕ) → IsSome (names (front ++ x)) → is_before front (front ++ x) ≡ true → (b : Bool) → is_before (front ++ x) start ≡ b → Contains found (front ++ x)
          by x some behind true before = gathers.all x some behind before
          by x some behind false late =
              let y = gathers.begins in
              let inside = begins_so front y.0 x path (ap (is_before path) (sym y.1) ∙ from) (least (front ++ x) some late) in
              absurd (outside inside.0 inside.1)

      -- it does
      pub gathers_more : (rest : List ℕ) → path ≡ front ++ rest → IsSome (names path) → Gathers names front (path ++ 0 ∷ []) (found ++ path ∷ [])
      gathers_more rest is some = record {
        begins = (rest ++ 0 ∷ [], ap (λ (p : List ℕ). p ++ 0 ∷ []) is ∙ append_assoc front rest (0 ∷ []));
        rising = rises_append front found (path ∷ []) gathers.rising (before_from (last_from front found) start path (ap (is_before (last_from front found)) gathers.ends ∙ zero_behind (last_from front found)) from, tt);
        ends = ap (λ (l : List ℕ). l ++ 0 ∷ []) (sym (last_push front found path));
        there = All-push (IsNamedBehind names front) found path gathers.there ((rest, is), some);
        all = λ x here behind before. by x here behind before (is_before (front ++ x) start) refl;
      }
        where
          by : (x : List ℕ) → IsSome (names (front ++ x)) → is_before front (front ++ x) ≡ true → is_before (front ++ x) (path ++ 0 ∷ []) ≡ true → (b : Bool) → is_before (front ++ x) start ≡ b → Contains (found ++ path ∷ []) (front ++ x)
          by x here behind before true early = Contains-append_left found (path ∷ []) (front ++ x) (gathers.all x here behind early)
          by x here behind before false late = subst (Contains (found ++ path ∷ [])) (before_neither path (front ++ x) (upto (is_before path (front ++ x)) refl) (least (front ++ x) here late)) (Contains-push found path)
            where
              upto : (b : Bool) → is_before path (front ++ x) ≡ b → b ≡ false
              upto true is_true = absurd (false≢true (sym (zero_next path (front ++ x) is_true) ∙ before))
              upto false is_false = refl

told_plus : (a b : ℕ) → told (a + b) ≡ told (told a + b)
told_plus a b = omega arith

told_both : (a b : ℕ) → told (a + b) ≡ told (told a + told b)
told_both a b = omega arith

abbrev made : ℕ → ℕ → ℕ → ℕ → Summary
made length files directories space = record { length = length; file_count = files; directory_count = directories; quota = 0; space_consumed = space; space_quota = 0 }

made_same : (a a' b b' c c' d d' : ℕ) → a ≡ a' → b ≡ b' → c ≡ c' → d ≡ d' → made a b c d ≡ made a' b' c' d'
made_same a a' b b' c c' d d' p q r s = ap (λ (n : ℕ). made n b c d) p ∙ ap (λ (n : ℕ). made a' n c d) q ∙ ap (λ (n : ℕ). made a' b' n d) r ∙ ap (λ (n : ℕ). made a' b' c' n) s

module _ (names : List ℕ → Option Entry) (table : ℕ → Option BlockEntry) where
  -- one path more
  pub summary_more : (paths : List (List ℕ)) (path : List ℕ) (entry : Entry) (bytes : ℕ) → names path ≡ Some entry → length_of table entry ≡ Some bytes
      → with_one (summary_of names table paths) entry bytes ≡ summary_of names table (paths ++ path ∷ [])
  summary_more paths path entry bytes is has = sym (made_same _ _ _ _ _ _ _ _
      (one (λ q. bytes_at table (names q)) bytes here)
      (one (λ q. files_at (names q)) (files_at (Some entry)) (ap files_at is))
      (one (λ q. directories_at (names q)) (directories_at (Some entry)) (ap directories_at is))
      (both (λ q. bytes_at table (names q) * replicas_at (names q)) (bytes * replicas_at (Some entry)) (ap (λ (n : ℕ). n * replicas_at (names path)) here ∙ ap (λ (o : Option Entry). bytes * replicas_at o) is)))
    where
      here : bytes_at table (names path) ≡ bytes
      here = ap (bytes_at table) is ∙ ap (λ (o : Option ℕ). unwrap_or o 0) has

      one : (f : List ℕ → ℕ) (n : ℕ) → f path ≡ n → told (sum_by f (paths ++ path ∷ [])) ≡ told (told (sum_by f paths) + n)
      one f n same = ap told (sum_by_push f paths path) ∙ told_plus (sum_by f paths) (f path) ∙ ap (λ (m : ℕ). told (told (sum_by f paths) + m)) same

      both : (f : List ℕ → ℕ) (n : ℕ) → f path ≡ n → told (sum_by f (paths ++ path ∷ [])) ≡ told (told (sum_by f paths) + told n)
      both f n same = ap told (sum_by_push f paths path) ∙ told_both (sum_by f paths) (f path) ∙ ap (λ (m : ℕ). told (told (sum_by f paths) + told m)) same

  -- so far these were counted
  pub record Counted (front start : List ℕ) (first counted : Summary) : Type 0 where
    pub found : List (List ℕ)
    pub gathers : Gathers names front start found
    pub on : (paths : List (List ℕ)) → first ≡ summary_of names table paths → counted ≡ summary_of names table (paths ++ found)

  pub counted_none : (front : List ℕ) (first : Summary) → Counted front (front ++ 0 ∷ []) first first
  counted_none front first = record { found = []; gathers = gathers_none names front; on = λ paths is. is ∙ ap (summary_of names table) (sym (append-nil paths)) }

  module _ (front start : List ℕ) (first counted : Summary) (so_far : Counted front start first counted) where
    pub counted_all : ((q : List ℕ) → IsSome (names q) → is_before q start ≡ true) → CountsOn names table front first counted
    counted_all none = record { behind = so_far.found; are = gathers_all names front start so_far.found so_far.gathers none; on = so_far.on }

    module _ (path : List ℕ) (from : is_before path start ≡ false) (least : (q : List ℕ) → IsSome (names q) → is_before q start ≡ false → is_before q path ≡ false) where
      pub counted_outside : ((rest : List ℕ) → path ≡ front ++ rest → ⊥) → CountsOn names table front first counted
      counted_outside outside = record { behind = so_far.found; are = gathers_outside names front start so_far.found so_far.gathers path from least outside; on = so_far.on }

      pub counted_more : (rest : List ℕ) → path ≡ front ++ rest → (entry : Entry) (bytes : ℕ) → names path ≡ Some entry → length_of table entry ≡ Some bytes
          → (counted' : Summary) → counted' ≡ with_one counted entry bytes → Counted front (path ++ 0 ∷ []) first counted'
      counted_more rest begins entry bytes is has counted' now = record {
        found = so_far.found ++ path ∷ [];
        gathers = gathers_more names front start so_far.found so_far.gathers path from least rest begins (ap is_some is);
        on = λ paths same. now ∙ ap (λ (s : Summary). with_one s entry bytes) (so_far.on paths same) ∙ summary_more (paths ++ so_far.found) path entry bytes is has
            ∙ ap (summary_of names table) (append_assoc paths so_far.found (path ∷ []));
      }

  -- the path is counted first, and then what is below it
  pub counts_of : {E : Type 0} → (path front : List ℕ) → front ≡ front_of path → (entry : Entry) (bytes : ℕ) → names path ≡ Some entry → length_of table entry ≡ Some bytes
      → (first : Summary) → first ≡ with_one (made 0 0 0 0) entry bytes → (result : Result Summary E) → IfOk result (CountsOn names table front first) → IfOk result (Counts names table path)
  counts_of path front same entry bytes is has first now (Ok summary) on = record {
    there = ap is_some is;
    below = on.behind;
    are = subst (λ (f : List ℕ). ArePathsBehind names f on.behind) same on.are;
    counted = on.on (path ∷ []) (now ∙ summary_more [] path entry bytes is has);
  }
  counts_of path front same entry bytes is has first now (Err e) on = tt
