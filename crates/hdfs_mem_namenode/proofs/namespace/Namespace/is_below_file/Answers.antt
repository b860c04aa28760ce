-- What stands above a path is what stands above its front, and the front.
use Rattle.std.proofs.Common.{◌≡◌, ℕ, ◌<◌, Bool, true, false, ◌||◌, List, [], ◌∷◌, ◌++◌, length, refl, sym, ◌∙◌, ap, arith, length-append, rules}
use Rattle.std.specs.List.{list_any}
use Rattle.hdfs_names.specs.Paths.{ancestors}
use Rattle.hdfs_cluster.specs.Files.{is_file}
use Rattle.hdfs_cluster.specs.Picture.{kinds_in}
use Rattle.std.specs.BTreeMap.{get_by_text}
use Rattle.std.proofs.lemmas.List.Folds.{list_any-append}
use Rattle.hdfs_mem_namenode.proofs.namespace.Namespace.is_below_file.Goals as goal

or_end : (a b : Bool) → (a || (b || false)) ≡ (b || a)
or_end true true = refl
or_end true false = refl
or_end false true = refl
or_end false false = refl

any_above : (test : List ℕ → Bool) (path front : List ℕ) (b : Bool) → ancestors path ≡ ancestors front ++ front ∷ [] → test front ≡ b → list_any test (ancestors path) ≡ (b || list_any test (ancestors front))
any_above test path front b above is =
    ap (list_any test) above ∙ list_any-append test (ancestors front) (front ∷ []) ∙ or_end (list_any test (ancestors front)) (test front) ∙ ap (λ (x : Bool). x || list_any test (ancestors front)) is

fewer_above : (path front : List ℕ) → ancestors path ≡ ancestors front ++ front ∷ [] → length (ancestors front) < length (ancestors path)
fewer_above path front above = omega (arith, ap length above, length-append (ancestors front) (front ∷ []))

pub returns-then-is_file : goal.returns-then-is_file
returns-then-is_file c =
    let test = λ (a : List ℕ). is_file (kinds_in (get_by_text c.args.self.now.names) a) in
    sym (any_above test c.loop-front.path.now c.in-Some.front.now true c.in-Some.ensures (sym c.is_file.ensures ∙ c.if-is_file.true)) ∙ c.loop-front.invariant.same

pub loop-front-smaller : goal.loop-front-smaller
loop-front-smaller c = fewer_above c.loop-front.path.now c.in-Some.front.now c.in-Some.ensures

pub loop-front-preserved : goal.loop-front-preserved
loop-front-preserved c =
    let test = λ (a : List ℕ). is_file (kinds_in (get_by_text c.args.self.now.names) a) in
    record {
      utf8 = search rules;
      same = sym (any_above test c.loop-front.path.now c.in-Some.front.now false c.in-Some.ensures (sym c.is_file.ensures ∙ c.if-is_file.false)) ∙ c.loop-front.invariant.same;
    }

pub returns : goal.returns
returns c =
    let test = λ (a : List ℕ). is_file (kinds_in (get_by_text c.args.self.now.names) a) in
    sym (ap (list_any test) c.in_default.ensures) ∙ c.loop-front.invariant.same
