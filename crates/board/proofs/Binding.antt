-- One field: what it binds, and that it then stands for the atom.
use Rattle.std.specs.Prelude.{◌≡◌, ℕ, zero, suc, ◌<◌, ◌≤◌, min, max, ◌≢◌, ◌⊎◌, Bool, true, false, cond, List, [], ◌∷◌, length, Some, None, Option, ◌==◌, slice_index_or, slice_set}
use Rattle.std.specs.List.{slice_get}
use Rattle.std.proofs.Common.{sym, refl, ap, subst, ◌∙◌, inl, inr, ⊎_elim, arith, eq-eqb}
use Rattle.std.proofs.lemmas.Bool.{cond-true, cond-false, false≢true}
use Rattle.std.proofs.Math.Dec.{eqb}
use Rattle.std.proofs.lemmas.Bool.Decides.{eqb_tells}
use Rattle.std.proofs.lemmas.List.{get_or-set_same, length-set}
use Rattle.std.proofs.lemmas.Option.{none-some, same_Some, slice_get-get_or, slice_get_within}
use Rattle.message.specs.declared.Atom.{Atom}
use Rattle.message.specs.declared.Atom.TheVariants.{Agent, Nonce, Text}
use Rattle.message.specs.Message.{Fits, KeyFits, key_of, shared, single}
use Rattle.model.specs.declared.node.Field.{Field}
use Rattle.model.specs.declared.node.Field.TheVariants as field
use Rattle.model.specs.Sheet as model
use Rattle.model.specs.Variables.{is_variable}
use Rattle.instances.specs.Instances.{played}
use Rattle.instances.specs.Substitution.{agent_number, both, key_under, value}
use Rattle.instances.proofs.Parts.{of-both}
use Rattle.ranks.specs.Matching.{is_atom, same}
use Rattle.ranks.proofs.Settling.{name_said, said_name, same_is, same_self}
use Rattle.rehearsals.proofs.Sessions.{More}
use Rattle.board.specs.Matching.{bound, bound_key, bound_owner, bound_slot, is_player, kept, may_be_bound, other_owner}

-- ---- places

set_here : {A : Type 0} (os : List (Option A)) (i : ℕ) (o p : Option A) → slice_get os i ≡ Some p → slice_index_or (slice_set os i o) i None ≡ o
set_here os i o p e = get_or-set_same os i o None (slice_get_within os i p e)

set_elsewhere : {A : Type 0} (os : List (Option A)) (i j : ℕ) (o : Option A) (y : A) → slice_index_or (slice_set os i o) j None ≡ Some y
    → (slice_index_or os j None ≡ Some y) ⊎ ((j ≡ i) × (o ≡ Some y))
set_elsewhere [] i j o y e = inl e
set_elsewhere (x ∷ os) zero zero o y e = inr (refl, e)
set_elsewhere (x ∷ os) zero (suc j) o y e = inl e
set_elsewhere (x ∷ os) (suc i) zero o y e = inl e
set_elsewhere (x ∷ os) (suc i) (suc j) o y e = ⊎_elim (λ h. inl h) (λ h. inr (ap suc h.0, h.1)) (set_elsewhere os i j o y e)

set_keeps : {A : Type 0} (os : List (Option A)) (i j : ℕ) (o : Option A) (y : A) → slice_get os i ≡ Some None → slice_index_or os j None ≡ Some y → slice_index_or (slice_set os i o) j None ≡ Some y
set_keeps [] i j o y e h = h
set_keeps (x ∷ os) zero zero o y e h = absurd (none-some y (sym (same_Some x None e) ∙ h))
set_keeps (x ∷ os) zero (suc j) o y e h = h
set_keeps (x ∷ os) (suc i) zero o y e h = h
set_keeps (x ∷ os) (suc i) (suc j) o y e h = set_keeps os i j o y e h

got : {A : Type 0} (os : List (Option A)) (i : ℕ) (p : Option A) → slice_get os i ≡ Some p → slice_index_or os i None ≡ p
got os i p e = same_Some _ p (sym (slice_get-get_or os i None (slice_get_within os i p e)) ∙ e)

-- ---- what is bound on the way

-- From os to ws each value is kept, and a new one is that of a variable that passes the test, which may be bound to it.
pub record Grows (vs : List model.Variable) (test : ℕ → Bool) (os ws : List (Option Atom)) : Type 0 where
  pub more : More os ws
  pub slots : length ws ≡ length os
  pub bound : (i : ℕ) (y : Atom) → slice_index_or ws i None ≡ Some y → (slice_index_or os i None ≡ Some y) ⊎ ((test i ≡ true) × (may_be_bound vs i y ≡ true) × Fits (single y))

pub grows_not : (vs : List model.Variable) (test : ℕ → Bool) (os ws : List (Option Atom)) → os ≡ ws → Grows vs test os ws
grows_not vs test os ws e = subst (Grows vs test os) e (record { more = λ i x h. h; slots = refl; bound = λ i y h. inl h })

pub grows_on : (vs : List model.Variable) (s t u : ℕ → Bool) → ((i : ℕ) → s i ≡ true → u i ≡ true) → ((i : ℕ) → t i ≡ true → u i ≡ true)
    → (os ws xs : List (Option Atom)) → Grows vs s os ws → Grows vs t ws xs → Grows vs u os xs
grows_on vs s t u p q os ws xs g h = record {
  more = λ i x e. h.more i x (g.more i x e);
  slots = h.slots ∙ g.slots;
  bound = λ i y e. ⊎_elim (λ old. ⊎_elim (λ first. inl first) (λ new. inr (p i new.0, new.1, new.2)) (g.bound i y old)) (λ new. inr (q i new.0, new.1, new.2)) (h.bound i y e);
}

kept_is : (b : Bool) (os ws : List (Option Atom)) → kept b os ≡ Some ws → (b ≡ true) × (os ≡ ws)
kept_is true os ws e = (refl, same_Some os ws e)
kept_is false os ws e = absurd (none-some ws e)

if_open : (b : Bool) (os ws : List (Option Atom)) → cond b (Some os) None ≡ Some ws → (b ≡ true) × (os ≡ ws)
if_open true os ws e = (refl, same_Some os ws e)
if_open false os ws e = absurd (none-some ws e)

module _ (me : ℕ) (vs : List model.Variable) where
  -- what a variable is bound to
  slot_sound : (os ws : List (Option Atom)) (i : ℕ) (x : Atom) → Fits (single x) → (o : Option (Option Atom)) → slice_get os i ≡ o → bound_slot me vs os i x o ≡ Some ws
      → (slice_index_or ws i None ≡ Some x) × Grows vs (λ j. j == i) os ws
  slot_sound os ws i x fits None at e = absurd (none-some ws e)
  slot_sound os ws i x fits (Some None) at e =
      let (may, is) = if_open (may_be_bound vs i x) (slice_set os i (Some x)) ws e in
      subst (λ (l : List (Option Atom)). (slice_index_or l i None ≡ Some x) × Grows vs (λ j. j == i) os l) is (
        set_here os i (Some x) None at,
        record {
          more = λ j y h. set_keeps os i j (Some x) y at h;
          slots = length-set os i (Some x);
          bound = λ j y h. ⊎_elim (λ old. inl old)
              (λ new. inr (eq-eqb j i new.0, new_may j y new.0 (same_Some x y new.1) may, subst (λ (z : Atom). Fits (single z)) (same_Some x y new.1) fits))
              (set_elsewhere os i j (Some x) y h);
        },
      )
    where
      new_may : (j : ℕ) (y : Atom) → j ≡ i → x ≡ y → may_be_bound vs i x ≡ true → may_be_bound vs j y ≡ true
      new_may j y p q m = subst (λ (k : ℕ). may_be_bound vs k y ≡ true) (sym p) (subst (λ (z : Atom). may_be_bound vs i z ≡ true) q m)
  slot_sound os ws i x fits (Some (Some y)) at e =
      let (same, is) = kept_is (same y x) os ws e in
      (ap (λ l. slice_index_or l i None) (sym is) ∙ got os i (Some y) at ∙ ap Some (same_is y x same), grows_not vs _ os ws is)

  -- what a field binds
  pub bound_sound : (os ws : List (Option Atom)) (f : Field) (x : Atom) → Fits (single x) → bound me vs os f x ≡ Some ws
      → (value (played me ws) f ≡ Some x) × Grows vs (λ i. is_variable i f) os ws
  bound_sound os ws field.Player x fits e = let (s, is) = kept_is (same x (Agent me)) os ws e in (ap Some (sym (same_is x (Agent me) s)), grows_not vs _ os ws is)
  bound_sound os ws (field.Variable i) x fits e = slot_sound os ws i x fits (slice_get os i) refl e
  bound_sound os ws (field.Named k n) x fits e = let (s, is) = kept_is (is_atom k n x) os ws e in (said_name k n x s, grows_not vs _ os ws is)

  -- a field that stands for the atom under more values can be bound to it
  abbrev pub Openly : List (Option Atom) → List (Option Atom) → (ℕ → Bool) → Type 0
  Openly os after test = (i : ℕ) (y : Atom) → test i ≡ true → slice_index_or after i None ≡ Some y → (slice_index_or os i None ≡ Some y) ⊎ (may_be_bound vs i y ≡ true)

  -- Something is bound, to what it is under more values.
  pub record Made (os after : List (Option Atom)) (o : Option (List (Option Atom))) : Type 0 where
    pub ws : List (Option Atom)
    pub is : o ≡ Some ws
    pub below : More ws after
    pub above : More os ws
    pub slots : length ws ≡ length os

  made_same : (os after : List (Option Atom)) (o : Option (List (Option Atom))) → o ≡ Some os → More os after → Made os after o
  made_same os after o e more = record { ws = os; is = e; below = more; above = λ i x h. h; slots = refl }

  slot_made : (os after : List (Option Atom)) (i : ℕ) (x : Atom) → More os after → length after ≡ length os
      → (slice_index_or os i None ≡ Some x) ⊎ (may_be_bound vs i x ≡ true) → slice_index_or after i None ≡ Some x
      → (o : Option (Option Atom)) → slice_get os i ≡ o → Made os after (bound_slot me vs os i x o)
  slot_made os after i x more slots may is None at = absurd (no_slot os after i x slots at is)
    where
      no_slot : (os after : List (Option Atom)) (i : ℕ) (x : Atom) → length after ≡ length os → slice_get os i ≡ None → slice_index_or after i None ≡ Some x → ⊥
      no_slot os [] i x l e h = none-some x h
      no_slot [] (y ∷ after) i x l e h = omega (arith, l)
      no_slot (z ∷ os) (y ∷ after) zero x l e h = none-some z (sym e)
      no_slot (z ∷ os) (y ∷ after) (suc i) x l e h = no_slot os after i x (omega (arith, l)) e h
  slot_made os after i x more slots may is (Some None) at =
      let free : may_be_bound vs i x ≡ true = ⊎_elim (λ old. absurd (none-some x (sym (got os i None at) ∙ old))) (λ m. m) may in
      record {
        ws = slice_set os i (Some x);
        is = cond-true (may_be_bound vs i x) _ None free;
        below = λ j y h. ⊎_elim (λ old. more j y old) (λ new. ap (λ k. slice_index_or after k None) new.0 ∙ is ∙ new.1) (set_elsewhere os i j (Some x) y h);
        above = λ j y h. set_keeps os i j (Some x) y at h;
        slots = length-set os i (Some x);
      }
  slot_made os after i x more slots may is (Some (Some y)) at =
      let agrees : y ≡ x = same_Some y x (sym (more i y (got os i (Some y) at)) ∙ is) in
      made_same os after _ (cond-true (same y x) (Some os) None (subst (λ (z : Atom). same y z ≡ true) agrees (same_self y))) more

  pub bound_made : (os after : List (Option Atom)) (f : Field) (x : Atom) → More os after → length after ≡ length os → Openly os after (λ i. is_variable i f)
      → value (played me after) f ≡ Some x → Made os after (bound me vs os f x)
  bound_made os after field.Player x more slots free is = made_same os after _ (cond-true (same x (Agent me)) (Some os) None (subst (λ (z : Atom). same z (Agent me) ≡ true) (same_Some (Agent me) x is) (same_self (Agent me)))) more
  bound_made os after (field.Variable i) x more slots free is = slot_made os after i x more slots (free i x (eq-eqb i i refl) is) is (slice_get os i) refl
  bound_made os after (field.Named k n) x more slots free is = made_same os after _ (cond-true (is_atom k n x) (Some os) None (name_said k n x is)) more

  -- ---- keys

  first_agent : (o : Option Atom) (a : ℕ) → o ≡ Some (Agent a) → agent_number o ≡ Some a
  first_agent o a e = ap agent_number e

  agent_is : (o : Option Atom) (a : ℕ) → agent_number o ≡ Some a → o ≡ Some (Agent a)
  agent_is None a e = absurd (none-some a e)
  agent_is (Some (Agent b)) a e = ap (λ n. Some (Agent n)) (same_Some b a e)
  agent_is (Some (Nonce b)) a e = absurd (none-some a e)
  agent_is (Some (Text b)) a e = absurd (none-some a e)

  owner_sound : (a b c : ℕ) → a ≤ b → other_owner me a b ≡ Some c → (key_of me c ≡ shared a b) × ((c ≡ a) ⊎ (c ≡ b))
  owner_sound a b c le e = ⊎_elim first later (eqb_tells a me)
    where
      as_key : min me c ≡ a → max me c ≡ b → key_of me c ≡ shared a b
      as_key p q = λ i. shared (p i) (q i)

      first : (eqb a me ≡ true) × (a ≡ me) → (key_of me c ≡ shared a b) × ((c ≡ a) ⊎ (c ≡ b))
      first h =
          let is : b ≡ c = same_Some b c (sym (cond-true (a == me) (Some b) (cond (b == me) (Some a) None) h.0) ∙ e) in
          let mine = h.1 in
          (as_key (omega arith) (omega arith), inr (sym is))

      other : cond (b == me) (Some a) None ≡ Some c → (eqb b me ≡ true) × (b ≡ me) → (key_of me c ≡ shared a b) × ((c ≡ a) ⊎ (c ≡ b))
      other k h =
          let is : a ≡ c = same_Some a c (sym (cond-true (b == me) (Some a) None h.0) ∙ k) in
          let mine = h.1 in
          (as_key (omega arith) (omega arith), inl (sym is))

      later : (eqb a me ≡ false) × (a ≢ me) → (key_of me c ≡ shared a b) × ((c ≡ a) ⊎ (c ≡ b))
      later h =
          let k = sym (cond-false (a == me) (Some b) (cond (b == me) (Some a) None) h.0) ∙ e in
          ⊎_elim (other k) (λ n. absurd (none-some c (sym (cond-false (b == me) (Some a) None n.0) ∙ k))) (eqb_tells b me)

  owner_made : (a b c : ℕ) → key_of me c ≡ shared a b → other_owner me a b ≡ Some c
  owner_made a b c e = ⊎_elim first later (eqb_tells a me)
    where
      low : min me c ≡ a
      low = cc

      high : max me c ≡ b
      high = cc

      first : (eqb a me ≡ true) × (a ≡ me) → other_owner me a b ≡ Some c
      first h =
          let mine = h.1 in
          let is : b ≡ c = omega (arith, low, high) in
          cond-true (a == me) (Some b) (cond (b == me) (Some a) None) h.0 ∙ ap Some is

      later : (eqb a me ≡ false) × (a ≢ me) → other_owner me a b ≡ Some c
      later h =
          let not = h.1 in
          let mine : b ≡ me = omega (arith, low, high) in
          let is : a ≡ c = omega (arith, low, high) in
          cond-false (a == me) (Some b) (cond (b == me) (Some a) None) h.0 ∙ cond-true (b == me) (Some a) None (eq-eqb b me mine) ∙ ap Some is

  pub key_sound : (os ws : List (Option Atom)) (f g : Field) (a b : ℕ) → KeyFits (shared a b) → bound_key me vs os f g a b ≡ Some ws
      → (key_under (played me ws) f g ≡ Some (shared a b)) × Grows vs (λ i. is_variable i g) os ws
  key_sound os ws field.Player g a b fits e = go (other_owner me a b) refl e
    where
      go : (o : Option ℕ) → other_owner me a b ≡ o → bound_owner me vs os g o ≡ Some ws → (key_under (played me ws) field.Player g ≡ Some (shared a b)) × Grows vs (λ i. is_variable i g) os ws
      go None at e = absurd (none-some ws e)
      go (Some c) at e =
          let (key, one) = owner_sound a b c fits.0 at in
          let small : c < 256 = ⊎_elim (λ h. omega (arith, h, fits.0, fits.1)) (λ h. omega (arith, h, fits.1)) one in
          let (is, grows) = bound_sound os ws g (Agent c) small e in
          (ap (both key_of (Some me)) (ap agent_number is) ∙ ap Some key, grows)
  key_sound os ws (field.Variable i) g a b fits e = absurd (none-some ws e)
  key_sound os ws (field.Named k n) g a b fits e = absurd (none-some ws e)

  pub key_made : (os after : List (Option Atom)) (f g : Field) (a b : ℕ) → is_player f ≡ true → More os after → length after ≡ length os → Openly os after (λ i. is_variable i g)
      → key_under (played me after) f g ≡ Some (shared a b) → Made os after (bound_key me vs os f g a b)
  key_made os after field.Player g a b first more slots free is =
      let (x, c, mine, theirs, key) = of-both {f = key_of} (Some me) (agent_number (value (played me after) g)) is in
      let me-is : key_of me c ≡ shared a b = ap (λ n. key_of n c) (same_Some me x mine) ∙ sym key in
      let made = bound_made os after g (Agent c) more slots free (agent_is _ c theirs) in
      subst (Made os after) (sym (ap (bound_owner me vs os g) (owner_made a b c me-is))) made
  key_made os after (field.Variable i) g a b first more slots free is = absurd (false≢true first)
  key_made os after (field.Named k n) g a b first more slots free is = absurd (false≢true first)
