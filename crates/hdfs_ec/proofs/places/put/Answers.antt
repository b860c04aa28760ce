use Rattle.std.proofs.Common.{◌≡◌, ℕ, ◌<◌, length, sym, ap, subst, ◌∙◌, arith}
use Rattle.std.specs.Slice.Iter.{iter_rest}
use Rattle.std.specs.Vec.Iter.{into_iter_items, into_iter_len}
use Rattle.std.specs.Iterator.Adapters.{zip_first, zip_second}
use Rattle.std.proofs.lemmas.Iterator.{YieldsList-from_zip, YieldsList-from_slice}
use Rattle.std.proofs.lemmas.Iterator.Adapters.{YieldsList-from_vec}
use Rattle.std.proofs.lemmas.Iterator.Consumers.{YieldsList-turn, YieldsList-end}
use Rattle.std.proofs.lemmas.Slice.Zip.{length-zip}
use Rattle.std.proofs.lemmas.List.{length_push}
use Rattle.hdfs_ec.specs.Places.{ArePut}
use Rattle.hdfs_ec.proofs.Occupancy.{put_none, put_more, pair_at}
use Rattle.hdfs_ec.proofs.places.put.Goals as goal

pub loop-i-init : goal.loop-i-init
loop-i-init c = put_none c.args.numbers.now c.args.shards.items c.args.places.now

pub loop-i-preserved : goal.loop-i-preserved
loop-i-preserved c =
    let z = c.into_iter-i-iterator.result in
    let same = c.into_iter-i-iterator.ensures.into_iter_gives in
    let second = c.zip-i-items.ensures.second in
    let numbers = YieldsList-from_slice {s = zip_first z} c.args.numbers.now (ap (λ z. iter_rest (zip_first z)) same ∙ ap iter_rest c.zip-i-items.ensures.first ∙ c.iter.ensures.rest) in
    let shards = YieldsList-from_vec {s = zip_second z} c.args.shards.items (ap (λ z. into_iter_items (zip_second z)) same ∙ second.0) (ap (λ z. into_iter_len (zip_second z)) same ∙ second.1 ∙ c.args.shards.ok.0) in
    let t = YieldsList-turn (YieldsList-from_zip {s = z} numbers shards) c.loop-i.yielded c.loop-i.i-iterator c.loop-i.yielded_by c.next.result c.next.new.self (c.in-Some.i, c.in-Some.shard) c.in-Some.is c.next.ensures.steps in
    let n = length c.loop-i.yielded in
    let pair = pair_at c.args.numbers.now c.args.shards.items n c.in-Some.i.now c.in-Some.shard t.0 t.1 in
    let more = put_more c.args.numbers.now c.args.shards.items c.args.places.now n c.in-Some.i.now c.in-Some.shard c.loop-i.places c.loop-i.invariant c.requires.rising pair.within pair.number pair.item
    (subst (λ (x : ℕ). x < length c.args.places.now) (sym pair.number) (c.requires.within n 0 pair.within)) in
    rw (c.put_one.ensures, length_push c.loop-i.yielded (c.in-Some.i, c.in-Some.shard)) more

pub put_one-requires : goal.put_one-requires
put_one-requires c =
    let z = c.into_iter-i-iterator.result in
    let same = c.into_iter-i-iterator.ensures.into_iter_gives in
    let second = c.zip-i-items.ensures.second in
    let numbers = YieldsList-from_slice {s = zip_first z} c.args.numbers.now (ap (λ z. iter_rest (zip_first z)) same ∙ ap iter_rest c.zip-i-items.ensures.first ∙ c.iter.ensures.rest) in
    let shards = YieldsList-from_vec {s = zip_second z} c.args.shards.items (ap (λ z. into_iter_items (zip_second z)) same ∙ second.0) (ap (λ z. into_iter_len (zip_second z)) same ∙ second.1 ∙ c.args.shards.ok.0) in
    let t = YieldsList-turn (YieldsList-from_zip {s = z} numbers shards) c.loop-i.yielded c.loop-i.i-iterator c.loop-i.yielded_by c.next.result c.next.new.self (c.in-Some.i, c.in-Some.shard) c.in-Some.is c.next.ensures.steps in
    let n = length c.loop-i.yielded in
    let pair = pair_at c.args.numbers.now c.args.shards.items n c.in-Some.i.now c.in-Some.shard t.0 t.1 in
    let count = c.loop-i.invariant.count in
    let lt = subst (λ (x : ℕ). x < length c.args.places.now) (sym pair.number) (c.requires.within n 0 pair.within) in
    subst (λ (x : ℕ). c.in-Some.i.now < x) (sym count) lt

pub returns : goal.returns
returns c =
    let z = c.into_iter-i-iterator.result in
    let same = c.into_iter-i-iterator.ensures.into_iter_gives in
    let second = c.zip-i-items.ensures.second in
    let numbers = YieldsList-from_slice {s = zip_first z} c.args.numbers.now (ap (λ z. iter_rest (zip_first z)) same ∙ ap iter_rest c.zip-i-items.ensures.first ∙ c.iter.ensures.rest) in
    let shards = YieldsList-from_vec {s = zip_second z} c.args.shards.items (ap (λ z. into_iter_items (zip_second z)) same ∙ second.0) (ap (λ z. into_iter_len (zip_second z)) same ∙ second.1 ∙ c.args.shards.ok.0) in
    let t = YieldsList-end (YieldsList-from_zip {s = z} numbers shards) c.loop-i.yielded c.loop-i.i-iterator c.loop-i.yielded_by c.next.result c.next.new.self c.in-None.is c.next.ensures.steps in
    let size = length-zip c.args.numbers.now c.args.shards.items in
    let count = c.requires.count in
    let last = t.1 in
    let all : length c.loop-i.yielded ≡ length c.args.numbers.now = omega arith in
    subst (λ (n : ℕ). ArePut n c.args.numbers.now c.args.shards.items c.args.places.now c.loop-i.places) all c.loop-i.invariant
