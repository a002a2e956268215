-- The claim so far, line by line: its two signals are not the same, and so no event is both.
use Rattle.std.proofs.Common.{◌≡◌, ℕ, ◌+◌, Bool, true, false, cond, not, ◌&&◌, ◌==◌, nat_lt, List, [], ◌∷◌, is_some, Some, None, Option, sym, refl, ap, ◌∙◌, subst}
use Rattle.std.proofs.lemmas.Bool.{false≢true}
use Rattle.std.proofs.lemmas.Bool.Decides.{Decides-eqb}
use Rattle.std.proofs.lemmas.Option.{none-some, same_Some}
use Rattle.std.proofs.lemmas.Slice.Eq.{bytes_eq-Decides}
use Rattle.std.specs.Option.{option_map}
use Rattle.std.specs.Str.{bytes_eq}
use Rattle.message.specs.declared.Atom.{Atom}
use Rattle.message.specs.declared.Kind.{Kind}
use Rattle.message.specs.declared.Kind.TheVariants as kind
use Rattle.message.specs.Message.{atom, size}
use Rattle.model.specs.declared.node.Field.{Field}
use Rattle.model.specs.declared.node.Field.TheVariants as field
use Rattle.model.specs.Sheet as model
use Rattle.instances.specs.Actions.{Event, atoms_under, event}
use Rattle.instances.specs.Substitution.{both, names_alone, value}
use Rattle.lexer.specs.declared.Rule.TheVariants as rule
use Rattle.lexer.specs.Text.{LineAt, word_at}
use Rattle.draft.specs.Drafts.{Cast, Draft, named_scope}
use Rattle.draft.specs.Reading.{claim_line, claim_shape, needs_at}
use Rattle.terms.specs.Same.{same_field, same_fields, same_kind, same_signal}
use Rattle.terms.specs.Terms.{read_signal}
use Rattle.sheet_laws.specs.Claims.{ClaimsOfTwoEvents, OfTwoEvents}
use Rattle.sheet_laws.proofs.Passing as passing
use Rattle.sheet_laws.proofs.Passing.{Gives, found, given, next, passed}
use Rattle.sheet_laws.proofs.Steps as steps
use Rattle.sheet_laws.proofs.Steps.{ReadsOn, read-so, throughout}

-- ---- signals of one event are the same

both_true : (a b : Bool) → a ≡ true → b ≡ true → (a && b) ≡ true
both_true a b p q = ap (λ x. x && b) p ∙ q

-- two that are put together are there
both_there : {A B C : Type 0} (f : A → B → C) (o : Option A) (p : Option B) (z : C) → both f o p ≡ Some z → (x : A) × (y : B) × (o ≡ Some x) × (p ≡ Some y) × (f x y ≡ z)
both_there f None p z e = absurd (none-some z e)
both_there f (Some x) None z e = absurd (none-some z e)
both_there f (Some x) (Some y) z e = (x, y, refl, refl, same_Some (f x y) z e)

map_there : {A B : Type 0} (f : A → B) (o : Option A) (z : B) → option_map f o ≡ Some z → (x : A) × (o ≡ Some x) × (f x ≡ z)
map_there f None z e = absurd (none-some z e)
map_there f (Some x) z e = (x, refl, same_Some (f x) z e)

if_there : {A : Type 0} (b : Bool) (x y : A) → cond b (Some x) None ≡ Some y → x ≡ y
if_there true x y e = same_Some x y e
if_there false x y e = absurd (none-some y e)

same_numbers : (k l : Kind) (m n : ℕ) → atom k m ≡ atom l n → (same_kind k l && m == n) ≡ true
same_numbers kind.Agent kind.Agent m n e = (Decides-eqb m n).1 cc
same_numbers kind.Agent kind.Nonce m n e = cc
same_numbers kind.Agent kind.Text m n e = cc
same_numbers kind.Nonce kind.Agent m n e = cc
same_numbers kind.Nonce kind.Nonce m n e = (Decides-eqb m n).1 cc
same_numbers kind.Nonce kind.Text m n e = cc
same_numbers kind.Text kind.Agent m n e = cc
same_numbers kind.Text kind.Nonce m n e = cc
same_numbers kind.Text kind.Text m n e = (Decides-eqb m n).1 cc

one_field : (f g : Field) (x : Atom) → value names_alone f ≡ Some x → value names_alone g ≡ Some x → same_field f g ≡ true
one_field field.Player g x e h = absurd (none-some x e)
one_field (field.Variable i) g x e h = absurd (none-some x e)
one_field (field.Named k m) field.Player x e h = absurd (none-some x h)
one_field (field.Named k m) (field.Variable j) x e h = absurd (none-some x h)
one_field (field.Named k m) (field.Named l n) x e h =
    same_numbers k l m n (if_there (nat_lt m (size k)) (atom k m) x e ∙ sym (if_there (nat_lt n (size l)) (atom l n) x h))

one_row : (fs gs : List Field) (xs : List Atom) → atoms_under names_alone fs ≡ Some xs → atoms_under names_alone gs ≡ Some xs → same_fields fs gs ≡ true
one_row [] [] xs e h = refl
one_row [] (g ∷ gs) xs e h =
    let (y, ys, p, q, r) = both_there (λ z zs. z ∷ zs) (value names_alone g) (atoms_under names_alone gs) xs h in
    let no : [] ≡ y ∷ ys = same_Some _ _ e ∙ sym r in
    cc
one_row (f ∷ fs) [] xs e h =
    let (y, ys, p, q, r) = both_there (λ z zs. z ∷ zs) (value names_alone f) (atoms_under names_alone fs) xs e in
    let no : [] ≡ y ∷ ys = same_Some _ _ h ∙ sym r in
    cc
one_row (f ∷ fs) (g ∷ gs) xs e h =
    let (x, ys, p, q, r) = both_there (λ z zs. z ∷ zs) (value names_alone f) (atoms_under names_alone fs) xs e in
    let (y, zs, s, t, u) = both_there (λ z zs. z ∷ zs) (value names_alone g) (atoms_under names_alone gs) xs h in
    let same : y ∷ zs ≡ x ∷ ys = u ∙ sym r in
    let first : y ≡ x = cc in
    let rest : zs ≡ ys = cc in
    both_true (same_field f g) (same_fields fs gs) (one_field f g x p (s ∙ ap Some first)) (one_row fs gs ys q (t ∙ ap Some rest))

one_event : (s t : model.Signal) (e : Event) → event names_alone s ≡ Some e → event names_alone t ≡ Some e → same_signal s t ≡ true
one_event s t e p q =
    let (xs, a, b) = map_there (λ xs. record { word = s.word; atoms = xs }) (atoms_under names_alone s.fields) e p in
    let (ys, c, d) = map_there (λ ys. record { word = t.word; atoms = ys }) (atoms_under names_alone t.fields) e q in
    let same : xs ≡ ys = ap (λ (x : Event). x.atoms) (b ∙ sym d) in
    both_true (bytes_eq s.word t.word) (same_fields s.fields t.fields)
    ((bytes_eq-Decides s.word t.word).1 (ap (λ (x : Event). x.word) (b ∙ sym d)))
    (one_row s.fields t.fields xs a (c ∙ ap Some (sym same)))

not_true : (b : Bool) → not b ≡ true → b ≡ true → ⊥
not_true true e h = false≢true e
not_true false e h = false≢true h

-- ---- every line

-- a claim that is read is of two events
claim_read : (c : Cast) (l : LineAt) (claim : Option model.Claim) → Gives OfTwoEvents (claim_line c claim l)
claim_read c l claim =
    passed (claim_shape l (needs_at l)) _ _ (λ _.
    passed (not (is_some claim)) _ _ (λ _.
    found (needs_at l) rule.Line l.place _ (λ n _.
    next (read_signal (named_scope c) (word_at l 1) _) _ (λ x _.
    next (read_signal (named_scope c) (word_at l (n + 3)) _) _ (λ y _.
    passed (not (same_signal x y)) _ _ (λ apart.
    passing.value (λ e p q. not_true (same_signal x y) apart (one_event x y e p q))))))))

-- The claim, if there is one, is of two events.
abbrev Claimed : Option model.Claim → Type 0
Claimed None = Unit {0}
Claimed (Some c) = OfTwoEvents c

-- one line more
more : {d e : Draft} {n : ℕ} {l : LineAt} → Claimed d.claim → ReadsOn d n l e → Claimed e.claim
more h (steps.heading p w) = h
more h (steps.section o) = h
more h (steps.agent p w e) = h
more h (steps.text p w e) = h
more h (steps.first-role p w s e) = h
more h (steps.next-role r w s f e) = h
more h (steps.variable p x) = h
more h (steps.step p a) = h
more h (steps.nonces r w) = h
more h (steps.nonce p w e) = h
more h (steps.know p w e) = h
more {d} {l = l} h (steps.holds {x} p w e) = given (claim_read d.cast l d.claim) e
more h (steps.free p w e) = h
more h (steps.rank p w e) = h
more h (steps.seal p w e) = h
more h (steps.mark p w e) = h
more h (steps.back p w e) = h

-- the claim of a sheet that is read
pub claims_of_two_events : ClaimsOfTwoEvents
claims_of_two_events text m e =
    let r = read-so text e in
    let h = throughout (λ _ d. Claimed d.claim) (λ _ _ _ _ h s. more h s) tt r.lines r.reads in
    let claim = subst Claimed r.claimed h in
    rw r.whole claim
