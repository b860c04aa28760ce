-- Names in a directory that were found one behind another: they are those up to the last one.
use Rattle.std.proofs.Common.{◌≡◌, ℕ, ◌+◌, ◌<◌, ◌≤◌, Bool, true, false, List, [], ◌∷◌, ◌++◌, length, map, Option, length-append, refl, sym, ◌∙◌, ap, subst, arith}
use Rattle.std.proofs.lemmas.Bool.{false≢true}
use Rattle.std.proofs.lemmas.List.{append-nil, map_push}
use Rattle.std.proofs.lemmas.List.Elements.{All-append, All-cons, All-nil, Contains-append_left, Contains-append_right, Contains-push}
use Rattle.std.specs.List.{All, Contains}
use Rattle.hdfs_cluster.specs.declared.messages.FileStatusMsg.{FileStatusMsg}
use Rattle.hdfs_cluster.specs.declared.picture.BlockEntry.{BlockEntry}
use Rattle.hdfs_cluster.specs.declared.picture.Entry.{Entry}
use Rattle.hdfs_cluster.specs.Names.{AreNamesBehind, IsNameIn, Rises, front_of, is_before}
use Rattle.hdfs_mem_namenode.specs.Listing.{CountsBehind, IsNext, IsPage, NoneBehind}
use Rattle.hdfs_mem_namenode.specs.Looking.{TellsOf}
use Rattle.hdfs_mem_namenode.proofs.Bytes.{before_neither}

-- the last of some texts, or the one from which they rise
abbrev pub last_from : List ℕ → List (List ℕ) → List ℕ
last_from from [] = from
last_from from (text ∷ texts) = last_from text texts

pub rises_append : (from : List ℕ) (a b : List (List ℕ)) → Rises from a → Rises (last_from from a) b → Rises from (a ++ b)
rises_append from [] b f g = g
rises_append from (x ∷ a) b f g = (f.0, rises_append x a b f.1 g)

pub last_push : (from : List ℕ) (a : List (List ℕ)) (x : List ℕ) → last_from from (a ++ x ∷ []) ≡ x
last_push from [] x = refl
last_push from (y ∷ a) x = last_push y a x

-- the names in a directory behind a text, up to the last that was found
pub record UpTo (names : List ℕ → Option Entry) (front from : List ℕ) (found : List (List ℕ)) (last : List ℕ) : Type 0 where
  pub rising : Rises from found
  pub ends : last_from from found ≡ last
  pub there : All (IsNameIn names front) found
  pub all : (name : List ℕ) → IsNameIn names front name → is_before from name ≡ true → is_before last name ≡ false → Contains found name

module _ (names : List ℕ → Option Entry) (front from : List ℕ) where
  pub none_found : UpTo names front from [] from
  none_found = record { rising = tt; ends = refl; there = All-nil (IsNameIn names front); all = λ name named behind upto. absurd (false≢true (sym upto ∙ behind)) }

  module _ (found : List (List ℕ)) (last : List ℕ) (upto : UpTo names front from found last) where
    pub one_more : (name : List ℕ) → IsNext names front last name → UpTo names front from (found ++ name ∷ []) name
    one_more name next = record {
      rising = rises_append from found (name ∷ []) upto.rising (ap (λ (l : List ℕ). is_before l name) upto.ends ∙ next.behind, tt);
      ends = last_push from found name;
      there = All-append (IsNameIn names front) found (name ∷ []) upto.there (All-cons (IsNameIn names front) name [] next.there (All-nil (IsNameIn names front)));
      all = λ other named behind within. by other named behind within (is_before last other) refl;
    }
      where
        by : (other : List ℕ) → IsNameIn names front other → is_before from other ≡ true → is_before name other ≡ false → (b : Bool) → is_before last other ≡ b → Contains (found ++ name ∷ []) other
        by other named behind within true is = subst (Contains (found ++ name ∷ [])) (before_neither name other within (next.first other named is)) (Contains-push found name)
        by other named behind within false is = Contains-append_left found (name ∷ []) other (upto.all other named behind is)

    -- what is behind the last name is the rest
    pub with_rest : (rest : List (List ℕ)) → AreNamesBehind names front last rest → AreNamesBehind names front from (found ++ rest)
    with_rest rest are = record {
      rising = rises_append from found rest upto.rising (subst (λ (l : List ℕ). Rises l rest) (sym upto.ends) are.rising);
      there = All-append (IsNameIn names front) found rest upto.there are.there;
      all = λ name named behind. by name named behind (is_before last name) refl;
    }
      where
        by : (name : List ℕ) → IsNameIn names front name → is_before from name ≡ true → (b : Bool) → is_before last name ≡ b → Contains (found ++ rest) name
        by name named behind true is = Contains-append_right found rest name (are.all name named is)
        by name named behind false is = Contains-append_left found rest name (upto.all name named behind is)

    pub none_left : NoneBehind names front last → AreNamesBehind names front last []
    none_left none = record { rising = tt; there = All-nil (IsNameIn names front); all = λ name named behind. absurd (none name named behind) }

    pub all_found : NoneBehind names front last → AreNamesBehind names front from found
    all_found none = subst (AreNamesBehind names front from) (append-nil found) (with_rest [] (none_left none))

-- so many names were found up to this one
pub record CountsTo (names : List ℕ → Option Entry) (front from : List ℕ) (count : ℕ) (last : List ℕ) : Type 0 where
  pub found : List (List ℕ)
  pub are : UpTo names front from found last
  pub counted : count ≡ length found

module _ (names : List ℕ → Option Entry) (front from : List ℕ) where
  pub none_counted : CountsTo names front from 0 from
  none_counted = record { found = []; are = none_found names front from; counted = refl }

  module _ (count : ℕ) (last : List ℕ) (counts : CountsTo names front from count last) where
    pub counted_more : (name : List ℕ) → IsNext names front last name → CountsTo names front from (count + 1) name
    counted_more name next = record {
      found = counts.found ++ name ∷ [];
      are = one_more names front from counts.found last counts.are name next;
      counted = (let n = counts.counted in omega (arith, length-append counts.found (name ∷ []), n));
    }

    pub counted_all : NoneBehind names front last → CountsBehind names front from count
    counted_all none = record { rest = counts.found; are = all_found names front from counts.found last counts.are none; counted = counts.counted }

module _ (names : List ℕ → Option Entry) (table : ℕ → Option BlockEntry) (front from : List ℕ) where
  -- what was listed of a directory so far, up to a name
  pub record Listed (listing : List FileStatusMsg) (last : List ℕ) : Type 0 where
    pub upto : UpTo names front from (map (λ status. status.path) listing) last
    pub told : All (λ status. TellsOf names table (front ++ status.path) status.path status) listing

  pub none_listed : Listed [] from
  none_listed = record { upto = none_found names front from; told = All-nil (λ status. TellsOf names table (front ++ status.path) status.path status) }

  module _ (listing : List FileStatusMsg) (last : List ℕ) (listed : Listed listing last) where
    pub listed_more : (status : FileStatusMsg) (path name : List ℕ) → path ≡ front ++ name → TellsOf names table path name status → IsNext names front last name → Listed (listing ++ status ∷ []) name
    listed_more status path name is tells next = record {
      upto = subst (λ (l : List (List ℕ)). UpTo names front from l name) (sym (map_push (λ (s : FileStatusMsg). s.path) listing status ∙ ap (λ (n : List ℕ). map (λ (s : FileStatusMsg). s.path) listing ++ n ∷ []) tells.told.named))
          (one_more names front from (map (λ (s : FileStatusMsg). s.path) listing) last listed.upto name next);
      told = All-append (λ s. TellsOf names table (front ++ s.path) s.path s) listing (status ∷ []) listed.told
          (All-cons (λ s. TellsOf names table (front ++ s.path) s.path s) status [] here (All-nil (λ s. TellsOf names table (front ++ s.path) s.path s)));
    }
      where
        here : TellsOf names table (front ++ status.path) status.path status
        here = subst (λ (n : List ℕ). TellsOf names table (front ++ n) n status) (sym tells.told.named) (subst (λ (p : List ℕ). TellsOf names table p name status) is tells)

    module _ (dir : List ℕ) (same : front ≡ front_of dir) (few : length listing ≤ 1000) where
      pub page_last : NoneBehind names front last → IsPage names table dir from (record { partial_listing = listing; remaining_entries = 0 })
      page_last none = record {
        rest = [];
        are = subst (λ (f : List ℕ). AreNamesBehind names f from (map (λ status. status.path) listing ++ [])) same
            (with_rest names front from (map (λ status. status.path) listing) last listed.upto [] (none_left names front from (map (λ status. status.path) listing) last listed.upto none));
        told = subst (λ (f : List ℕ). All (λ status. TellsOf names table (f ++ status.path) status.path status) listing) same listed.told;
        remaining = refl;
        few = few;
        full = λ less. refl;
      }

      pub page_rest : (count : ℕ) → (length listing < 1000 → ⊥) → CountsBehind names front last count → IsPage names table dir from (record { partial_listing = listing; remaining_entries = count })
      page_rest count full counts = record {
        rest = counts.rest;
        are = subst (λ (f : List ℕ). AreNamesBehind names f from (map (λ status. status.path) listing ++ counts.rest)) same
            (with_rest names front from (map (λ status. status.path) listing) last listed.upto counts.rest counts.are);
        told = subst (λ (f : List ℕ). All (λ status. TellsOf names table (f ++ status.path) status.path status) listing) same listed.told;
        remaining = counts.counted;
        few = few;
        full = λ less. absurd (full less);
      }
