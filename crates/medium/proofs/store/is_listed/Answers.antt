use Rattle.std.proofs.Common.{◌≡◌, ◌≢◌, min, length, take, drop, refl, arith, rules, get_or}
use Rattle.std.specs.List.{between}
use Rattle.std.proofs.lemmas.Slice.{first_rest}
use Rattle.medium.proofs.Listing.{left_found, left_none, left_one}
use Rattle.medium.proofs.store.is_listed.Goals as goal

pub returns-then-eq : goal.returns-then-eq
returns-then-eq c heard is =
    let rest = c.loop-rest.rest.now in
    let others = between 1 (length rest) rest in
    let same : take (min (length others) (get_or rest 0 0)) others ≡ c.args.bytes.now = search rules in
    (λ _. left_found c.args.stored.now rest c.args.bytes.now (get_or rest 0 0) others (first_rest _ 0 (search rules)) same c.loop-rest.invariant heard is, λ _. refl)

pub loop-rest-preserved : goal.loop-rest-preserved
loop-rest-preserved c =
    let rest = c.loop-rest.rest.now in
    let others = between 1 (length rest) rest in
    let other : take (min (length others) (get_or rest 0 0)) others ≢ c.args.bytes.now = search rules in
    let back : drop (min (length others) (get_or rest 0 0)) others ≡ c.split_at.result.1.now = search rules in
    rw (← back) (left_one c.args.stored.now rest c.args.bytes.now (get_or rest 0 0) others (first_rest _ 0 (search rules)) other c.loop-rest.invariant)

pub returns : goal.returns
returns c heard is = (λ e. cc, λ x. absurd (left_none c.args.stored.now c.loop-rest.rest.now c.args.bytes.now (omega arith) c.loop-rest.invariant heard is x))
