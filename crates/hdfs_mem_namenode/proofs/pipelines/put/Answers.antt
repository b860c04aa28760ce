-- What is put in is there, and so is what was.
use Rattle.std.proofs.Common.{◌≡◌, ◌||◌, Bool, true, false, cond, refl, ◌∙◌, ap}
use Rattle.std.proofs.lemmas.Map.Text.{btree_set_updates_text}
use Rattle.std.specs.BTreeSet.{contains_text}
use Rattle.std.specs.Str.{bytes_eq}
use Rattle.std.specs.String.{string_bytes}
use Rattle.hdfs_mem_namenode.proofs.Naming.{bytes_eq_flip}
use Rattle.hdfs_mem_namenode.proofs.pipelines.put.Goals as goal

put_in : (a b was : Bool) → a ≡ b → cond a true was ≡ (b || was)
put_in true true was same = refl
put_in true false was same = absurd (cc)
put_in false true was same = absurd (cc)
put_in false false was same = refl

pub returns : goal.returns
returns c = λ other.
    let key = string_bytes c.in_ok-from_str.field-0 in
    let text = c.args.text.now in
    btree_set_updates_text key c.args.set.now c.insert.new.self true c.in_ok-insert.ensures.updates other
    ∙ put_in (bytes_eq key other) (bytes_eq other text) (contains_text c.args.set.now other)
    (bytes_eq_flip key other ∙ ap (bytes_eq other) (c.in_ok-from_str.ensures.ok ∙ c.as_str.ensures))
