-- A session's values extend to an instance of its role, and what it did stays so as it gets more of them.
use Rattle.std.specs.Prelude.{◌≡◌, ℕ, zero, suc, Bool, true, false, cond, List, [], ◌∷◌, Some, None, Option, slice_index_or}
use Rattle.std.specs.List.{slice_get}
use Rattle.std.specs.Option.{option_map}
use Rattle.std.proofs.Common.{sym, refl, ap, subst, ◌∙◌, ⊎_elim, arith}
use Rattle.std.proofs.lemmas.Option.{none-some, same_Some}
use Rattle.message.specs.declared.Atom.{Atom}
use Rattle.message.specs.declared.Kind.{Kind}
use Rattle.message.specs.declared.Kind.TheVariants as kind
use Rattle.message.specs.Message as messages
use Rattle.message.specs.Message.{Key, Msg, atom, key_of, single}
use Rattle.model.specs.declared.node.Field.{Field}
use Rattle.model.specs.declared.node.Field.TheVariants as field
use Rattle.model.specs.declared.node.Sort.{Sort}
use Rattle.model.specs.declared.node.Sort.TheVariants.{Fresh, Plain}
use Rattle.model.specs.Sheet.{Role, Sheet, Signal, Step, Variable, receive, send, signal}
use Rattle.model.specs.Trees.{Term, key, leaf, pair, seal}
use Rattle.instances.specs.Actions.{atoms_under, does, done_at, event, receives, sends, signals}
use Rattle.instances.specs.Instances.{Allowed, Honest, Instance, MayPlay, Of, played}
use Rattle.instances.specs.Substitution.{Values, agent_number, both, key_under, message, value}
use Rattle.rehearsals.specs.Boards.{Binds, Bound, New, Session, awaited}

-- What the first has, the second has.
abbrev pub Less : {A : Type 0} → Option A → Option A → Type 0
Less {A} o p = (x : A) → o ≡ Some x → p ≡ Some x

abbrev pub More : List (Option Atom) → List (Option Atom) → Type 0
More vs ws = (i : ℕ) → Less (slice_index_or vs i None) (slice_index_or ws i None)

pub both_less : {A B C : Type 0} (f : A → B → C) (a p : Option A) (b q : Option B) → Less a p → Less b q → Less (both f a b) (both f p q)
both_less f None p b q h k x e = absurd (none-some x e)
both_less f (Some a) p None q h k x e = absurd (none-some x e)
both_less f (Some a) p (Some b) q h k x e = (λ i. both f (h a refl i) (k b refl i)) ∙ e

map_less : {A B : Type 0} (f : A → B) (a p : Option A) → Less a p → Less (option_map f a) (option_map f p)
map_less f None p h x e = absurd (none-some x e)
map_less f (Some a) p h x e = ap (option_map f) (h a refl) ∙ e

number_less : (o p : Option Atom) → Less o p → Less (agent_number o) (agent_number p)
number_less None p h x e = absurd (none-some x e)
number_less (Some m) p h x e = ap agent_number (h m refl) ∙ e

module _ (me : Option ℕ) (vs ws : List (Option Atom)) (more : More vs ws) where
  abbrev before : Values
  before = record { player = me; variables = vs }

  abbrev after : Values
  after = record { player = me; variables = ws }

  pub value_less : (f : Field) → Less (value before f) (value after f)
  value_less field.Player x e = e
  value_less (field.Variable i) x e = more i x e
  value_less (field.Named k n) x e = e

  pub key_less : (f g : Field) → Less (key_under before f g) (key_under after f g)
  key_less f g = both_less key_of _ _ _ _ (number_less _ _ (value_less f)) (number_less _ _ (value_less g))

  pub message_less : (t : Term) → Less (message before t) (message after t)
  message_less (leaf f) = map_less single _ _ (value_less f)
  message_less (pair l r) = both_less messages.pair _ _ _ _ (message_less l) (message_less r)
  message_less (key f g) = map_less messages.key _ _ (key_less f g)
  message_less (seal f g t) = both_less messages.seal _ _ _ _ (key_less f g) (message_less t)

  atoms_less : (fs : List Field) → Less (atoms_under before fs) (atoms_under after fs)
  atoms_less [] x e = e
  atoms_less (f ∷ fs) x e = both_less (λ y ys. y ∷ ys) _ _ _ _ (value_less f) (atoms_less fs) x e

  event_less : (s : Signal) → Less (event before s) (event after s)
  event_less s = map_less (λ xs. record { word = s.word; atoms = xs }) _ _ (atoms_less s.fields)

  done_less : (s : Option Step) → Less (done_at before s) (done_at after s)
  done_less None x e = e
  done_less (Some (send t)) x e = map_less sends _ _ (message_less t) x e
  done_less (Some (receive t)) x e = map_less receives _ _ (message_less t) x e
  done_less (Some (signal s)) x e = map_less signals _ _ (event_less s) x e

pub does_less : (role : Role) (a : ℕ) (vs ws : List (Option Atom)) → More vs ws → (k : ℕ) → Less (does role (played a vs) k) (does role (played a ws) k)
does_less role a vs ws more k = done_less (Some a) vs ws more (slice_get role.steps k)

-- ---- values that are part of an instance

pub record Begun (sheet : Sheet) (r : ℕ) (role : Role) (a : ℕ) (vars : List (Option Atom)) : Type 0 where
  pub is-honest : Honest sheet a
  pub plays : MayPlay sheet role a
  pub allowed : (i : ℕ) (x : Atom) → slice_index_or vars i None ≡ Some x → (v : Variable) × (slice_get role.variables i ≡ Some v) × Allowed sheet r a i v.sort x
  pub fresh-has : (i : ℕ) (v : Variable) → slice_get role.variables i ≡ Some v → v.sort ≡ Fresh → (x : Atom) × (slice_index_or vars i None ≡ Some x)

abbrev or_first : Sort → Option Atom → Atom
or_first s (Some x) = x
or_first Fresh None = atom kind.Nonce 0
or_first (Plain k) None = atom k 0

-- The values, with the first atom of its kind for each variable that has none.
pub filled : List Variable → List (Option Atom) → List (Option Atom)
filled [] os = []
filled (v ∷ vs) [] = Some (or_first v.sort None) ∷ filled vs []
filled (v ∷ vs) (o ∷ os) = Some (or_first v.sort o) ∷ filled vs os

filled_at : (vs : List Variable) (os : List (Option Atom)) (i : ℕ) (v : Variable) → slice_get vs i ≡ Some v
    → slice_index_or (filled vs os) i None ≡ Some (or_first v.sort (slice_index_or os i None))
unfolding filled
filled_at [] os i v e = absurd (none-some v e)
filled_at (w ∷ vs) [] zero v e = ap (λ (z : Variable). Some (or_first z.sort None)) (same_Some w v e)
filled_at (w ∷ vs) [] (suc i) v e = filled_at vs [] i v e
filled_at (w ∷ vs) (o ∷ os) zero v e = ap (λ (z : Variable). Some (or_first z.sort o)) (same_Some w v e)
filled_at (w ∷ vs) (o ∷ os) (suc i) v e = filled_at vs os i v e

filled_declared : (vs : List Variable) (os : List (Option Atom)) (i : ℕ) (x : Atom) → slice_index_or (filled vs os) i None ≡ Some x
    → (v : Variable) × (slice_get vs i ≡ Some v)
unfolding filled
filled_declared [] os i x e = absurd (none-some x e)
filled_declared (w ∷ vs) [] zero x e = (w, refl)
filled_declared (w ∷ vs) [] (suc i) x e = filled_declared vs [] i x e
filled_declared (w ∷ vs) (o ∷ os) zero x e = (w, refl)
filled_declared (w ∷ vs) (o ∷ os) (suc i) x e = filled_declared vs os i x e

some_of : (k : Kind) → Of k (atom k 0)
some_of kind.Agent = (0, omega arith, refl)
some_of kind.Nonce = (0, omega arith, refl)
some_of kind.Text = (0, omega arith, refl)

module _ (sheet : Sheet) (r : ℕ) (role : Role) (a : ℕ) (vars : List (Option Atom)) (b : Begun sheet r role a vars) where
  pub filled_more : More vars (filled role.variables vars)
  filled_more i x e =
      let (v, is, ok) = b.allowed i x e in
      filled_at role.variables vars i v is ∙ ap (λ (o : Option Atom). Some (or_first v.sort o)) e

  filled_sort : (i : ℕ) (s : Sort) → (s ≡ Fresh → (x : Atom) × (slice_index_or vars i None ≡ Some x)) → slice_index_or vars i None ≡ None
      → Allowed sheet r a i s (or_first s None)
  filled_sort i Fresh has none = let (x, e) = has refl in absurd (none-some x (sym none ∙ e))
  filled_sort i (Plain k) has none = some_of k

  filled_allowed : (i : ℕ) (v : Variable) → slice_get role.variables i ≡ Some v → (o : Option Atom) → slice_index_or vars i None ≡ o
      → Allowed sheet r a i v.sort (or_first v.sort o)
  filled_allowed i v is (Some x) e =
      let (w, at, ok) = b.allowed i x e in
      subst (λ (z : Variable). Allowed sheet r a i z.sort x) (same_Some w v (sym at ∙ is)) ok
  filled_allowed i v is None e = filled_sort i v.sort (b.fresh-has i v is) e

  pub filled_instance : Instance sheet r role a (filled role.variables vars)
  filled_instance = record {
    is-honest = b.is-honest;
    plays = b.plays;
    whole = λ i v is. (or_first v.sort (slice_index_or vars i None), filled_at role.variables vars i v is, filled_allowed i v is (slice_index_or vars i None) refl);
    declared = λ i x e. filled_declared role.variables vars i x e;
  }

  bound_allowed : (k i : ℕ) (x : Atom) → Bound role k i x → (v : Variable) × (slice_get role.variables i ≡ Some v) × Allowed sheet r a i v.sort x
  bound_allowed k i x h = (h.variable, h.is-variable, subst (λ (s : Sort). Allowed sheet r a i s x) (sym h.not-fresh) h.of-kind)

  pub bound_begun : (k : ℕ) (ws : List (Option Atom)) → Binds role k vars ws → Begun sheet r role a ws
  bound_begun k ws h = record {
    is-honest = b.is-honest;
    plays = b.plays;
    allowed = λ i x e. ⊎_elim (λ old. b.allowed i x old) (λ new. bound_allowed k i x new) (h.bound i x e);
    fresh-has = λ i v is fresh. let (x, e) = b.fresh-has i v is fresh in (x, h.kept i x e);
  }

-- a fresh variable is not awaited
fresh_not_awaited : (role : Role) (i : ℕ) (v : Variable) → slice_get role.variables i ≡ Some v → v.sort ≡ Fresh → awaited role i ≡ false
fresh_not_awaited role i v is fresh = rw is (rw fresh refl)

-- what is there at the start is an instance's value
from_whole : (w : Bool) (o : Option Atom) (x : Atom) → cond w None o ≡ Some x → o ≡ Some x
from_whole true o x e = absurd (none-some x e)
from_whole false o x e = e

module _ (sheet : Sheet) (s : Session) (n : New sheet s) where
  pub new_begun : Begun sheet s.role n.role s.agent s.variables
  new_begun = record {
    is-honest = n.is-instance.is-honest;
    plays = n.is-instance.plays;
    allowed = λ i x e. from i x (from_whole (awaited n.role i) (slice_index_or n.whole i None) x (sym (n.values i) ∙ e));
    fresh-has = λ i v is fresh.
        let (x, e, ok) = n.is-instance.whole i v is in
        (x, n.values i ∙ ap (λ (w : Bool). cond w None (slice_index_or n.whole i None)) (fresh_not_awaited n.role i v is fresh) ∙ e);
  }
    where
      from : (i : ℕ) (x : Atom) → slice_index_or n.whole i None ≡ Some x → (v : Variable) × (slice_get n.role.variables i ≡ Some v) × Allowed sheet s.role s.agent i v.sort x
      from i x e =
          let (v, is) = n.is-instance.declared i x e in
          let (y, f, ok) = n.is-instance.whole i v is in
          (v, is, subst (λ (z : Atom). Allowed sheet s.role s.agent i v.sort z) (same_Some y x (sym f ∙ e)) ok)
