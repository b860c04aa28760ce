-- The path goes behind those that come before it.
use Rattle.std.proofs.Common.{◌≡◌, ◌<◌, ◌≤◌, ◌++◌, ◌∷◌, [], ℕ, List, true, false, length, get_or, take, drop, sym, ◌∙◌, ap, arith}
use Rattle.std.specs.Str.{bytes_eq}
use Rattle.hdfs_model.specs.Walks.{comes_before, put_path}
use Rattle.hdfs_plain.proofs.Walked.{put_here, put_last, put_same, put_skip}
use Rattle.hdfs_plain.proofs.names.put_in_order.Goals as goal

pub places-preserved : goal.places-preserved
places-preserved c =
    let xs = c.places.found.items in
    let k = c.places.at in
    let x = c.index.result.now in
    let path = c.args.path.now in
    let same = c.places.invariant.same in
    let lt : k < length xs = omega (arith, c.places-test.true, ap length same, c.len-at-end.ensures) in
    let other : c.as_bytes-in-places.result.now ≡ get_or xs k x = c.as_bytes-in-places.ensures.value ∙ c.as_str-other.ensures ∙ c.index.ensures in
    let before : comes_before path (get_or xs k x) ≡ false = sym (c.if-comes_before.ensures ∙ ap (λ (a : List ℕ). comes_before a c.as_bytes-in-places.result.now) c.as_bytes.ensures.value ∙ ap (comes_before path) other) in
    let apart : bytes_eq path (get_or xs k x) ≡ false = sym (c.if-eq.ensures ∙ ap (bytes_eq path) (c.as_str-other.ensures ∙ c.index.ensures)) in
    record { same = same; put = put_skip path xs k x lt before apart c.places.invariant.put }

pub returns-then-comes_before : goal.returns-then-comes_before
returns-then-comes_before c =
    let xs = c.places.found.items in
    let k = c.places.at in
    let x = c.index.result.now in
    let path = c.args.path.now in
    let same = c.places.invariant.same in
    let lt : k < length xs = omega (arith, c.places-test.true, ap length same, c.len-at-end.ensures) in
    let other : c.as_bytes-in-places.result.now ≡ get_or xs k x = c.as_bytes-in-places.ensures.value ∙ c.as_str-other.ensures ∙ c.index.ensures in
    let before : comes_before path (get_or xs k x) ≡ true = sym (c.if-comes_before.ensures ∙ ap (λ (a : List ℕ). comes_before a c.as_bytes-in-places.result.now) c.as_bytes.ensures.value ∙ ap (comes_before path) other) in
    c.in_ok-insert.ensures.items ∙ ap (λ (v : List ℕ). take k xs ++ v ∷ drop k xs) c.in_ok-from_str.ensures
    ∙ sym (put_here path xs k x lt before c.places.invariant.put) ∙ ap (put_path path) same

pub returns-then-eq : goal.returns-then-eq
returns-then-eq c =
    let xs = c.places.found.items in
    let k = c.places.at in
    let x = c.index.result.now in
    let path = c.args.path.now in
    let same = c.places.invariant.same in
    let lt : k < length xs = omega (arith, c.places-test.true, ap length same, c.len-at-end.ensures) in
    let other : c.as_bytes-in-places.result.now ≡ get_or xs k x = c.as_bytes-in-places.ensures.value ∙ c.as_str-other.ensures ∙ c.index.ensures in
    let before : comes_before path (get_or xs k x) ≡ false = sym (c.if-comes_before.ensures ∙ ap (λ (a : List ℕ). comes_before a c.as_bytes-in-places.result.now) c.as_bytes.ensures.value ∙ ap (comes_before path) other) in
    let is : bytes_eq path (get_or xs k x) ≡ true = sym (c.if-eq.ensures ∙ ap (bytes_eq path) (c.as_str-other.ensures ∙ c.index.ensures)) in
    sym (put_same path xs k x lt before is c.places.invariant.put) ∙ ap (put_path path) same

pub returns : goal.returns
returns c =
    let xs = c.places.found.items in
    let k = c.places.at in
    let path = c.args.path.now in
    let same = c.places.invariant.same in
    let all : length xs ≤ k = omega (arith, c.places-test.false, ap length same, c.len-at-end.ensures) in
    c.in_ok-push.ensures.items ∙ ap (λ (v : List ℕ). xs ++ v ∷ []) c.in_ok-from_str-2.ensures
    ∙ sym (put_last path xs k all c.places.invariant.put) ∙ ap (put_path path) same
