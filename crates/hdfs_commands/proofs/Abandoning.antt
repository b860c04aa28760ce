-- Giving up the files of a session, one writer after another.
use Rattle.std.proofs.Common.{Less, ◌≡◌, ◌≢◌, ◌⊎◌, inl, inr, ⊎_elim, ℕ, ◌+◌, ◌<◌, ◌≤◌, List, length, get_or, slice_get, Option, Some, None, IsSome, option_map, String, string_bytes, string_cmp, refl, sym, ◌∙◌, ap, subst, arith}
use Rattle.std.proofs.lemmas.Bool.{cases_lt}
use Rattle.std.proofs.lemmas.Map.Entries.{btree_map_get_place, place_from_lookup}
use Rattle.std.proofs.lemmas.Map.Keys.{Less-from_sorted}
use Rattle.std.proofs.lemmas.Option.{slice_get-map, slice_get-get_or, slice_get_within}
use Rattle.std.specs.BTreeMap.{IsOrdered, is_at, keys}
use Rattle.std.specs.Cmp.Lexicographic.{slice_cmp}
use Rattle.std.specs.Ordering.{nat_cmp, ordering_reverse}
use Rattle.std.specs.String.{string_cmp_total}
use Rattle.std.specs.declared.alloc.Global.{Global}
use Rattle.hdfs_cluster.specs.declared.picture.OpenWrite.{OpenWrite}
use Rattle.hdfs_cluster.specs.Shown.{Shown}
use Rattle.hdfs_file_writer.specs.Writers as files
use Rattle.hdfs_file_writer.specs.declared.file_writer.FileWriter.{FileWriter}
use Rattle.hdfs_commands.specs.Session.{Stands, HasLink, writer_of}
use Rattle.hdfs_commands.specs.declared.session.Session.{Session}
use Rattle.hdfs_file_writer.proofs.Others.{stands_beside}

-- the entry of a session's writers at an index
abbrev pub IsAt : Session → ℕ → String Global → FileWriter → Type 0
IsAt session i key writer = slice_get session.writers.entries i ≡ Some (key, writer)

-- one of the writers from an index on keeps this write link
abbrev pub IsLeft : Session → ℕ → ℕ → Type 0
IsLeft session n link = (i : ℕ) × (key : String Global) × (writer : FileWriter) × (n ≤ i) × IsAt session i key writer × (files.link_of writer ≡ Some link)

-- What a cluster shows once a session's first writers were given up.
pub record Left (start now : Shown) (session : Session) (n : ℕ) : Type 0 where
  pub others : (link : ℕ) → (HasLink session link → ⊥) → now.writes link ≡ start.writes link
  pub none : (link : ℕ) → start.writes link ≡ None → now.writes link ≡ None
  pub ended : (link : ℕ) → HasLink session link → (now.writes link ≡ None) ⊎ IsLeft session n link
  pub stands : (i : ℕ) (key : String Global) (writer : FileWriter) → n ≤ i → IsAt session i key writer → files.Stands now writer

-- equal entries have equal writers
entry_writer : (a b : String Global × FileWriter) → Some a ≡ Some b → a.1 ≡ b.1
entry_writer a b is =
    let same : a ≡ b = cc is in
    ap (λ (e : String Global × FileWriter). e.1) same

module _ (session : Session) (ordered : IsOrdered string_cmp session.writers) where
  -- an entry is what is found at its key
  pub found : (i : ℕ) (key : String Global) (writer : FileWriter) → IsAt session i key writer → writer_of session (string_bytes key) ≡ Some writer
  found i key writer is = btree_map_get_place string_cmp_total session.writers i key writer ordered is

  -- what is found at a path is an entry
  entry_of : (path : List ℕ) (writer : FileWriter) → writer_of session path ≡ Some writer → (i : ℕ) × (key : String Global) × IsAt session i key writer
  entry_of path writer is =
      let place = place_from_lookup (is_at (λ (k : String Global). slice_cmp nat_cmp path (string_bytes k))) session.writers.entries writer is in
      (place.0, place.1, place.2)

  key_at : (i : ℕ) (key : String Global) (writer : FileWriter) → IsAt session i key writer → get_or (keys session.writers) i key ≡ key
  key_at i key writer is =
      let here : slice_get (keys session.writers) i ≡ Some key = slice_get-map (λ (e : String Global × FileWriter). e.0) session.writers.entries i ∙ ap (option_map (λ (e : String Global × FileWriter). e.0)) is in
      let there = slice_get-get_or (keys session.writers) i key (slice_get_within (keys session.writers) i key here) in
      cc (here, there)

  -- two entries have different keys
  pub keys_apart : (i j : ℕ) (key key' : String Global) (writer writer' : FileWriter) → i < j → IsAt session i key writer → IsAt session j key' writer' → string_bytes key ≢ string_bytes key'
  keys_apart i j key key' writer writer' before is is' same =
      let ks = keys session.writers in
      let there : slice_get ks j ≡ Some key' = slice_get-map (λ (e : String Global × FileWriter). e.0) session.writers.entries j ∙ ap (option_map (λ (e : String Global × FileWriter). e.0)) is' in
      let within : j < length ks = slice_get_within ks j key' there in
      let at_j : get_or ks j key ≡ key' = cc (there, slice_get-get_or ks j key within) in
      let less : string_cmp (get_or ks i key) (get_or ks j key) ≡ Less = Less-from_sorted string_cmp ks i j key ordered before within in
      let below : string_cmp key key' ≡ Less = ap (λ (k : String Global). string_cmp key k) (sym at_j) ∙ ap (λ (k : String Global). string_cmp k (get_or ks j key)) (sym (key_at i key writer is)) ∙ less in
      let flipped : string_cmp key' key ≡ string_cmp key key' =
      ap (λ (b : List ℕ). slice_cmp nat_cmp (string_bytes key') b) same ∙ ap (λ (b : List ℕ). slice_cmp nat_cmp b (string_bytes key')) (sym same) in
      let turned : Less ≡ ordering_reverse Less = sym below ∙ string_cmp_total.antisymm key key' ∙ ap ordering_reverse (flipped ∙ below) in
      absurd (cc turned)

  module _ (start : Shown) (stands : Stands start session) where
    -- at first all writers are left
    pub left_start : Left start start session 0
    left_start = record {
      others = λ link has. refl;
      none = λ link is. is;
      ended = λ link has.
          (let entry = entry_of has.0 has.1 has.2 in
          inr (entry.0, entry.1, has.1, omega arith, entry.2, has.3));
      stands = λ i key writer after is. (stands.each (string_bytes key) writer (found i key writer is)).0;
    }

    module _ (now next : Shown) (n : ℕ) (key : String Global) (writer : FileWriter) (left : Left start now session n) (is : IsAt session n key writer) (own : files.OnlyOwnLink now (files.link_of writer) next None) where
      -- a link that isn't this writer's stays
      stays : (link : ℕ) → files.link_of writer ≢ Some link → next.writes link ≡ now.writes link
      stays link apart = by_now (now.writes link) refl
        where
          by_now : (o : Option OpenWrite) → now.writes link ≡ o → next.writes link ≡ now.writes link
          by_now None none = own.none link (inl none) (λ its. absurd (cc its)) ∙ sym none
          by_now (Some write) some = own.others link (subst IsSome (sym some) refl) apart

      ended_next : (link : ℕ) → IsLeft session n link → (next.writes link ≡ None) ⊎ IsLeft session (n + 1) link
      ended_next link some =
          ⊎_elim
          (λ (later : n < some.0). inr (some.0, some.1, some.2, omega (arith, later), some.4, some.5))
          (λ (here : n ≡ some.0). inl (own.none link (inr (same_writer here)) (λ its. absurd (cc its))))
          (later_or_here some.0 some.3)
        where
          later_or_here : (i : ℕ) → n ≤ i → (n < i) ⊎ (n ≡ i)
          later_or_here i le = ⊎_elim (λ before. inl before) (λ behind. inr (omega (arith, le, behind))) (cases_lt n i)

          same_writer : n ≡ some.0 → files.link_of writer ≡ Some link
          same_writer here =
              ap files.link_of (entry_writer (key, writer) (some.1, some.2) (sym is ∙ ap (slice_get session.writers.entries) here ∙ some.4)) ∙ some.5

      -- one more is given up
      pub left_next : Left start next session (n + 1)
      left_next = record {
        others = λ link lacks. stays link (λ its. lacks (string_bytes key, writer, found n key writer is, its)) ∙ left.others link lacks;
        none = λ link none. own.none link (inl (left.none link none)) (λ its. absurd (cc its));
        ended = λ link has. ⊎_elim (λ none. inl (own.none link (inl none) (λ its. absurd (cc its)))) (λ some. ended_next link some) (left.ended link has);
        stands = λ i key' writer' after is'.
            stands_beside now next writer'
            (λ link has. stays link
            (λ its. stands.apart (string_bytes key) (string_bytes key') writer writer' (found n key writer is) (found i key' writer' is') (keys_apart n i key key' writer writer' (omega (arith, after)) is is') link its has))
            (left.stands i key' writer' (omega (arith, after)) is');
      }

    -- at last none is left
    pub left_end : (now : Shown) (n : ℕ) → length session.writers.entries ≤ n → Left start now session n → (link : ℕ) → (start.writes link ≡ None) ⊎ HasLink session link → now.writes link ≡ None
    left_end now n past left link h =
        ⊎_elim (left.none link)
        (λ has. ⊎_elim (λ none. none) (λ some. absurd (omega (arith, past, some.3, slice_get_within session.writers.entries some.0 (some.1, some.2) some.4))) (left.ended link has))
        h
