-- A picture agrees with the next state of the files where only the file at one path changed.
use Rattle.std.proofs.Common.{◌≡◌, ◌≢◌, ℕ, Bool, true, false, cond, List, Option, Some, refl, sym, ◌∙◌, subst}
use Rattle.std.proofs.lemmas.Bool.{false≢true, false_from_ne_true}
use Rattle.std.proofs.lemmas.Slice.Eq.{bytes_eq-Decides}
use Rattle.std.specs.Str.{bytes_eq}
use Rattle.hdfs_cluster.specs.declared.picture.Entry.{Entry}
use Rattle.hdfs_cluster.specs.Files.{Files, Node, Writing, Content}
use Rattle.hdfs_cluster.specs.Picture.{Picture}
use Rattle.hdfs_cluster.specs.Sound.{IsSound}
use Rattle.hdfs_cluster.specs.Stores.{Agrees, AgreesAt, AgreesBut}
use Rattle.hdfs_file_writer.specs.OnlyFiles.{OnlyFile, SameFile}
use Rattle.hdfs_file_writer.specs.Tails.{FileCarries}
use Rattle.hdfs_file_writer.specs.declared.tails.Tail.{Tail}
use Rattle.hdfs_file_writer.proofs.Others.{agrees_others}

-- what agrees at each path agrees
pub agrees_by_path : (o : Option Picture) (q : Picture) (files : Files) → o ≡ Some q → ((path : List ℕ) → AgreesAt q (q.names path) (files path)) → Agrees o files
agrees_by_path o q files is each = subst (λ (x : Option Picture). Agrees x files) (sym is) each

-- what agrees at each path but the spared ones agrees but there
pub agrees_but_by_path : (spared : List ℕ → Bool) (o : Option Picture) (q : Picture) (files : Files) → o ≡ Some q → ((path : List ℕ) → spared path ≡ false → AgreesAt q (q.names path) (files path)) → AgreesBut spared o files
agrees_but_by_path spared o q files is each = subst (λ (x : Option Picture). AgreesBut spared x files) (sym is) each

-- a path that the test tells from another is another
pub apart_by_test : (path other : List ℕ) → bytes_eq path other ≡ false → other ≢ path
apart_by_test path other is = λ same. false≢true (sym is ∙ (bytes_eq-Decides path other).1 (sym same))

-- the test of another path is false
pub not_same : (path other : List ℕ) → other ≢ path → bytes_eq path other ≡ false
not_same path other apart = false_from_ne_true (bytes_eq path other) (λ is. apart (sym ((bytes_eq-Decides path other).0 is)))

-- and that of the path itself true
pub same_test : (path : List ℕ) → bytes_eq path path ≡ true
same_test path = (bytes_eq-Decides path path).1 refl

module _ (path : List ℕ) (p q : Picture) (sound : IsSound p) (only : OnlyFile path p q) (files : Files) (agrees : (other : List ℕ) → AgreesAt p (p.names other) (files other)) where
  -- at the other paths it agrees still
  pub agrees_elsewhere : (other : List ℕ) → other ≢ path → AgreesAt q (q.names other) (files other)
  agrees_elsewhere other apart = agrees_others path p q sound only other (files other) apart (agrees other)

  -- and with what stands at the path now it agrees everywhere
  pub agrees_with : (node : Node) → AgreesAt q (q.names path) (Some node) → (other : List ℕ) → AgreesAt q (q.names other) (cond (bytes_eq path other) (Some node) (files other))
  agrees_with node here other = by_test (bytes_eq path other) refl
    where
      by_test : (b : Bool) → bytes_eq path other ≡ b → AgreesAt q (q.names other) (cond b (Some node) (files other))
      by_test true is = subst (λ (o : List ℕ). AgreesAt q (q.names o) (Some node)) ((bytes_eq-Decides path other).0 is) here
      by_test false is = agrees_elsewhere other (apart_by_test path other is)

module _ (p q : Picture) (path : List ℕ) (content : Content) (tail : Tail) (bytes : List ℕ) (carries : FileCarries p path tail bytes) (agrees : AgreesAt p (p.names path) (Some (Writing content))) where
  -- the file that is being written has the attributes that the state says
  pub open_attributes : carries.file.attributes ≡ content.attributes
  open_attributes = (subst (λ (e : Option Entry). AgreesAt p e (Some (Writing content))) carries.named agrees).1

  -- where it is the same but for its blocks it agrees still, whatever bytes were written
  pub open_agrees : (content' : Content) → content'.attributes ≡ content.attributes → SameFile path p q → AgreesAt q (q.names path) (Some (Writing content'))
  open_agrees content' kept same =
      let moved = same carries.file carries.named in
      subst (λ (e : Option Entry). AgreesAt q e (Some (Writing content'))) (sym moved.1) (carries.being_written, open_attributes ∙ sym kept)
