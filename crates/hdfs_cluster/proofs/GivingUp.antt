-- A block may be given up again: it is gone already.
use Rattle.std.proofs.Common.{◌≡◌, inl, inr, ⊎_elim, ℕ, true, List, [], ◌∷◌, ◌++◌, Option, Some, sym, ◌∙◌, ap, subst}
use Rattle.std.proofs.lemmas.List.Elements.{Contains-push}
use Rattle.std.specs.List.{Contains}
use Rattle.hdfs_cluster.specs.declared.asks.Ask.{Ask}
use Rattle.hdfs_cluster.specs.Asks.{abandon_block_ask}
use Rattle.hdfs_cluster.specs.declared.asks.Answer.{Answer}
use Rattle.hdfs_cluster.specs.declared.asks.Answer.TheVariants as answers
use Rattle.hdfs_cluster.specs.declared.messages.Block.{Block}
use Rattle.hdfs_cluster.specs.declared.picture.BlockEntry.{BlockEntry}
use Rattle.hdfs_cluster.specs.declared.picture.Entry.{Entry}
use Rattle.hdfs_cluster.specs.declared.picture.Entry.TheVariants as entries
use Rattle.hdfs_cluster.specs.declared.picture.FileEntry.{FileEntry}
use Rattle.hdfs_cluster.specs.Effects.{Abandons, GivesUp, IsEmptyLast, table_without, with_entry}
use Rattle.hdfs_cluster.specs.Namenode.{IsOwn, Row}
use Rattle.hdfs_cluster.specs.Picture.{Picture, SameButActive}
use Rattle.hdfs_cluster.specs.Repeating.{DoneOrNot, Repeats}
use Rattle.hdfs_cluster.specs.Sound.{IsFileAt}
use Rattle.hdfs_cluster.proofs.Repeating.{changes_both, changes_left, changes_right, here_text, names_same, table_same}

-- the last block of an open file, which is empty, and stands in it once
module _ (block : Block) (src client : List ℕ) (file_id : Option ℕ) (p : Picture) (file : FileEntry) (is : IsFileAt p src file)
    (still : file.is_open ≡ true) (empty : IsEmptyLast p.table file.blocks block)
    (once : (front : List ℕ) → file.blocks ≡ front ++ block.block_id ∷ [] → Contains front block.block_id → ⊥) where
  abbrev giving : Ask
  giving = abandon_block_ask block src client file_id

  file_is : (f g : FileEntry) (e : Option Entry) → e ≡ Some (entries.File f) → e ≡ Some (entries.File g) → f ≡ g
  file_is f g e a b = cc (a, b)

  abandons_left : (f : FileEntry) (q r : Picture) → SameButActive p q → Abandons src f block q r → Abandons src f block p r
  abandons_left f q r same (inl given) = inl (record {
    gone = record {
      front = given.gone.front;
      last = given.gone.last;
      entry = given.gone.entry;
      is = sym (same.files.table block.block_id) ∙ given.gone.is;
      empty = given.gone.empty;
    };
    changes = changes_left p q r _ _ _ _ same
        (ap (λ (n : List ℕ → Option Entry). with_entry n src (record f { blocks = given.gone.front })) (names_same p q same))
        (ap (λ (t : ℕ → Option BlockEntry). table_without t (block.block_id ∷ [])) (table_same p q same)) given.changes;
  })
  abandons_left f q r same (inr kept) = inr (kept.0, changes_left p q r _ _ _ _ same (names_same p q same) (table_same p q same) kept.1)

  abandons_right : (f : FileEntry) (q r : Picture) → Abandons src f block p q → SameButActive q r → Abandons src f block p r
  abandons_right f q r (inl given) same = inl (record { gone = given.gone; changes = changes_right p q r _ _ given.changes same })
  abandons_right f q r (inr kept) same = inr (kept.0, changes_right p q r _ _ kept.1 same)

  give_left : (q r : Picture) (b : Answer) → SameButActive p q → Row q giving b r → Row p giving b r
  give_left q r answers.AbandonBlock same row = (row.0, sym (same.files.names src) ∙ row.1, row.2, abandons_left row.0 q r same row.3)
  give_left q r b same row = absurd row

  give_right : (q r : Picture) (b : Answer) → Row p giving b q → SameButActive q r → Row p giving b r
  give_right q r answers.AbandonBlock row same = (row.0, row.1, row.2, abandons_right row.0 q r row.3 same)
  give_right q r b row same = absurd row

  has_it : Contains file.blocks block.block_id
  has_it = subst (λ (l : List ℕ). Contains l block.block_id) (sym empty.last) (Contains-push empty.front block.block_id)

  own_file : (f : FileEntry) (q : Picture) → IsFileAt p src f → Abandons src f block p q → Abandons src file block p q
  own_file f q at h = subst (λ (x : FileEntry). Abandons src x block p q) (file_is f file (p.names src) at is) h

  module _ (q : Picture) (given : GivesUp src file block p q) where
    abbrev shorter : FileEntry
    shorter = record file { blocks = given.gone.front }

    named_shorter : q.names src ≡ Some (entries.File shorter)
    named_shorter = given.changes.names src ∙ here_text src (Some (entries.File shorter)) (p.names src)

    lacks_it : Contains given.gone.front block.block_id → ⊥
    lacks_it has = once given.gone.front given.gone.last has

    given_again : (r : Picture) (g : FileEntry) → IsFileAt q src g → Abandons src g block q r → Abandons src file block p r
    given_again r g at h = by (subst (λ (x : FileEntry). Abandons src x block q r) (file_is g shorter (q.names src) at named_shorter) h)
      where
        by : Abandons src shorter block q r → Abandons src file block p r
        by (inl more) =
            absurd (lacks_it (subst (λ (l : List ℕ). Contains l block.block_id) (sym more.gone.last) (Contains-push more.gone.front block.block_id)))
        by (inr kept) =
            inl (record { gone = given.gone; changes = changes_both p q r _ _ _ _ given.changes kept.1 given.changes.names given.changes.table })

  abandons_twice : (q r : Picture) (g : FileEntry) → Abandons src file block p q → IsFileAt q src g → Abandons src g block q r → Abandons src file block p r
  abandons_twice q r g (inl given) at h = given_again q given r g at h
  abandons_twice q r g (inr kept) at h = absurd (kept.0 has_it)

  give_again : (q r : Picture) (a b : Answer) → Row p giving a q → Row q giving b r → Row p giving b r
  give_again q r answers.AbandonBlock answers.AbandonBlock first second =
      (file, is, still, abandons_twice q r second.0 (own_file first.0 q first.1 first.3) second.1 second.3)
  give_again q r answers.AbandonBlock b first second = absurd second
  give_again q r a b first second = absurd first

  -- the file stands open still, and has the block no more
  lacks_then : (q : Picture) (a : Answer) → Row p giving a q → (g : FileEntry) × IsFileAt q src g × (g.is_open ≡ true) × (Contains g.blocks block.block_id → ⊥)
  lacks_then q answers.AbandonBlock row = by (own_file row.0 q row.1 row.3)
    where
      by : Abandons src file block p q → (g : FileEntry) × IsFileAt q src g × (g.is_open ≡ true) × (Contains g.blocks block.block_id → ⊥)
      by (inl given) = (shorter q given, named_shorter q given, still, lacks_it q given)
      by (inr kept) = absurd (kept.0 has_it)
  lacks_then q a row = absurd row

  not_own : (q : Picture) → DoneOrNot giving p q → IsOwn q giving → ⊥
  not_own q done own = ⊎_elim
      (λ same. own file (same.files.names src ∙ is) still (inl (record {
        front = empty.front;
        last = empty.last;
        entry = empty.entry;
        is = same.files.table block.block_id ∙ empty.is;
        empty = empty.empty;
      })))
      (λ row. (let g = lacks_then q row.0 row.2 in own g.0 g.1 g.2 (inr g.3)))
      done

  pub give_up_repeats : Repeats giving p
  give_up_repeats = record {
    left = give_left;
    twice = λ q r a b one two. inl (give_again q r a b one two);
    right = give_right;
    not_own = not_own;
  }
