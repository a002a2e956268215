-- A relay and an enemy carry any messages that they have space for all together.
use Rattle.std.specs.Prelude.{◌≡◌, ℕ, ◌+◌, ◌≤◌, min, Contains, List, [], ◌∷◌, ◌++◌, drop, length, sum_by, IfOk, Result, Ok, Err}
use Rattle.std.specs.Borrow.{MutBor}
use Rattle.std.proofs.Common.{sym, refl, ap, subst, ◌∙◌, inr, arith}
use Rattle.std.proofs.lemmas.List.{length-append, length-drop}
use Rattle.std.proofs.lemmas.List.Elements.{Contains-append_right}
use Rattle.std.proofs.lemmas.List.Sums.{sum_by-append}
use Rattle.medium.specs.declared.enemy.Enemy.{Enemy}
use Rattle.medium.specs.declared.relay.Relay.{Relay}
use Rattle.medium.specs.Enemies as enemies
use Rattle.medium.specs.Enemies.{analysing}
use Rattle.medium.specs.Marks.{row_marks}
use Rattle.medium.specs.Relays as relays
use Rattle.medium.specs.Relays.{relayed}
use Rattle.medium.specs.Store.{capacity, cost, counted, laid}
use Rattle.medium.proofs.Open.{length-row}
use Rattle.message.specs.Generates.{known}
use Rattle.message.specs.Message.{Msg}
use Rattle.model.specs.Sheet.{Sheet}
use Rattle.honest_contact.specs.Contact.{Carries, bytes_for_both, exchanged}

-- the last that was heard is among what was heard
last_heard : (heard before : List Msg) (m : Msg) → heard ≡ before ++ (m ∷ []) → Contains heard m
last_heard heard before m e = subst (λ (l : List Msg). Contains l m) (sym e) (Contains-append_right before (m ∷ []) m (0, omega arith, refl))

-- what fitted still fits after the first
still_fits : (heard before : List Msg) (m : Msg) (ms : List Msg) (space : ℕ) → heard ≡ before ++ (m ∷ []) → sum_by cost before + sum_by cost (m ∷ ms) ≤ space
    → sum_by cost heard + sum_by cost ms ≤ space
still_fits heard before m ms space e fits =
    let more : sum_by cost heard ≡ sum_by cost before + sum_by cost (m ∷ []) = ap (sum_by cost) e ∙ sum_by-append cost before (m ∷ []) in
    let first : sum_by cost (m ∷ ms) ≡ sum_by cost (m ∷ []) + sum_by cost ms = sum_by-append cost (m ∷ []) ms in
    omega (arith, more, first, fits)

first_fits : (before : List Msg) (m : Msg) (ms : List Msg) (space : ℕ) → sum_by cost before + sum_by cost (m ∷ ms) ≤ space → sum_by cost before + cost m ≤ space
first_fits before m ms space fits =
    let one : sum_by cost (m ∷ []) ≡ cost m = omega arith in
    let first : sum_by cost (m ∷ ms) ≡ sum_by cost (m ∷ []) + sum_by cost ms = sum_by-append cost (m ∷ []) ms in
    omega (arith, one, first, fits)

-- an area is as long as it was, or longer
long_still : (front after before : List ℕ) (n : ℕ) → length front ≡ n → after ≡ front ++ drop n before → length before ≤ length after
long_still front after before n long e = omega (arith, long, ap length e, length-append front (drop n before), length-drop n before)

pub relay_carries : (ms : List Msg) (r : Relay) → sum_by cost (relays.heard r) + sum_by cost ms ≤ capacity r.area.now → Carries relayed relays.Takes r ms
unfolding Carries
relay_carries [] r fits = tt
relay_carries (m ∷ ms) r fits = (
  first_fits (relays.heard r) m ms (capacity r.area.now) fits,
  λ t taken. (
    last_heard (relays.heard t) (relays.heard r) m taken.hears.heard,
    relay_carries ms t
        (let longer = long_still (laid (relays.heard t)) t.area.now r.area.now _ refl taken.area in
        let still = still_fits (relays.heard t) (relays.heard r) m ms (capacity r.area.now) taken.hears.heard fits in
        omega (arith, longer, still)),
  ),
)

pub enemy_carries : (ms : List Msg) (e : Enemy) → sum_by cost (enemies.heard e) + sum_by cost ms ≤ counted (min (length e.area.now) (length e.marks.now)) → Carries analysing enemies.Takes e ms
unfolding Carries
enemy_carries [] e fits = tt
enemy_carries (m ∷ ms) e fits = (
  first_fits (enemies.heard e) m ms (counted (min (length e.area.now) (length e.marks.now))) fits,
  λ t taken. (
    known (inr (last_heard (enemies.heard t) (enemies.heard e) m taken.hears.heard)),
    enemy_carries ms t
        (let longer = long_still (laid (enemies.heard t)) t.area.now e.area.now _ refl taken.area in
        let (keys, known-keys, marks-are) = taken.marks in
        let longer-marks = long_still (row_marks keys (enemies.heard t)) t.marks.now e.marks.now _ (length-row keys (enemies.heard t)) marks-are in
        let still = still_fits (enemies.heard t) (enemies.heard e) m ms (counted (min (length e.area.now) (length e.marks.now))) taken.hears.heard fits in
        omega (arith, longer, longer-marks, still)),
  ),
)

-- with nothing heard
none_heard : (heard ms : List Msg) (n : ℕ) → heard ≡ [] → sum_by cost ms ≤ n → sum_by cost heard + sum_by cost ms ≤ n
none_heard heard ms n e fits = let none : sum_by cost heard ≡ 0 = ap (sum_by cost) e in omega (arith, none, fits)

counted_fits : (len n : ℕ) → len ≡ 22 → len ≤ n → len ≤ counted n
counted_fits len n is fits = omega (arith, is, fits)

both_fit : (a b : ℕ) → bytes_for_both ≤ a → bytes_for_both ≤ b → bytes_for_both ≤ min a b
both_fit a b p q = omega (arith, p, q)

pub new_relay_carries : {sheet : Sheet} {area : MutBor (List ℕ)} {r : Relay} → relays.New sheet area r → bytes_for_both ≤ length area.now → Carries relayed relays.Takes r exchanged
new_relay_carries {area = area} {r = r} new long =
    let same : length r.area.now ≡ length area.now = ap length new.area in
    relay_carries exchanged r (none_heard (relays.heard r) exchanged _ new.silent (counted_fits bytes_for_both (length r.area.now) refl (subst (λ n. bytes_for_both ≤ n) (sym same) long)))

pub new_enemy_carries : {sheet : Sheet} {area marks : MutBor (List ℕ)} {e : Enemy} → enemies.New sheet area marks e → bytes_for_both ≤ length area.now → bytes_for_both ≤ length marks.now
    → Carries analysing enemies.Takes e exchanged
new_enemy_carries {area = area} {marks = marks} {e = e} new long marks-long =
    let fits = both_fit (length e.area.now) (length e.marks.now) (subst (λ n. bytes_for_both ≤ n) (sym (ap length new.area-is)) long) (subst (λ n. bytes_for_both ≤ n) (sym (ap length new.marks-are)) marks-long) in
    enemy_carries exchanged e (none_heard (enemies.heard e) exchanged _ new.silent (counted_fits bytes_for_both (min (length e.area.now) (length e.marks.now)) refl fits))

-- the same of an enemy that may be wanting
pub made_enemy_carries : {E : Type 0} (sheet : Sheet) (area marks : MutBor (List ℕ)) (r : Result Enemy E) → IfOk r (λ e. enemies.New sheet area marks e)
    → IfOk r (λ e. bytes_for_both ≤ length area.now → bytes_for_both ≤ length marks.now → Carries analysing enemies.Takes e exchanged)
made_enemy_carries sheet area marks (Ok e) new = λ long marks-long. new_enemy_carries new long marks-long
made_enemy_carries sheet area marks (Err e) new = new
