-- What a reading that succeeds tells of its tests and of the readings in it.
use Rattle.std.proofs.Common.{◌≡◌, ℕ, Bool, true, false, cond, Some, None, Ok, Err, Option, Result, refl, subst}
use Rattle.lexer.specs.declared.Fault.{Fault}
use Rattle.lexer.specs.declared.Rule.{Rule}
use Rattle.std.specs.Option.{option_map}
use Rattle.terms.specs.Terms.{and_then, or_else, or_fault, passing}

-- What is read, if anything is, has the property.
pub data Gives {X : Type 0} (P : X → Type 0) : Result X Fault → Type 0 where
  value : {x : X} → P x → Gives P (Ok x)
  broken : {f : Fault} → Gives P (Err f)

module _ {X : Type 0} {P : X → Type 0} where
  -- it has it
  held : {x : X} → Gives P (Ok x) → P x
  held (value p) = p

  -- what is read has it
  pub given : {r : Result X Fault} {x : X} → Gives P r → r ≡ Ok x → P x
  given g e = held (subst (Gives P) e g)

  -- a test has passed
  pub passed : (b : Bool) (go : Result X Fault) (f : Fault) → (b ≡ true → Gives P go) → Gives P (cond b go (Err f))
  passed true go f h = h refl
  passed false go f h = broken

  -- one way or the other was taken
  pub either : (b : Bool) (r s : Result X Fault) → (b ≡ true → Gives P r) → (b ≡ false → Gives P s) → Gives P (cond b r s)
  either true r s h k = h refl
  either false r s h k = k refl

  -- what is so of whatever is read
  pub if-read : (r : Result X Fault) → ((x : X) → r ≡ Ok x → P x) → Gives P r
  if-read (Ok x) h = value (h x refl)
  if-read (Err f) h = broken

  -- what follows from it
  pub so : {Q : X → Type 0} {r : Result X Fault} → Gives Q r → ((x : X) → Q x → P x) → Gives P r
  so (value {x} q) h = value (h x q)
  so broken h = broken

  -- what comes first was read, and then the rest
  pub next : {Y : Type 0} (r : Result Y Fault) (go : Y → Result X Fault) → ((y : Y) → r ≡ Ok y → Gives P (go y)) → Gives P (and_then r go)
  next (Ok y) go h = h y refl
  next (Err f) go h = broken

  -- what is asked for is there, and then the rest
  pub found : {Y : Type 0} (o : Option Y) (r : Rule) (at : ℕ) (go : Y → Result X Fault) → ((y : Y) → o ≡ Some y → Gives P (go y)) → Gives P (and_then (or_fault o r at) go)
  found None r at go h = broken
  found (Some y) r at go h = h y refl

-- What is found, if anything is, has the property.
pub data Finds {X : Type 0} (P : X → Type 0) : Option X → Type 0 where
  one : {x : X} → P x → Finds P (Some x)
  none : Finds P None

module _ {X : Type 0} {P : X → Type 0} where
  -- the first of two that is there
  pub first_of : {a b : Option X} → Finds P a → (a ≡ None → Finds P b) → Finds P (or_else a b)
  first_of (one p) h = one p
  first_of none h = h refl

  -- one or the other, by a test
  pub by-test : (b : Bool) {o p : Option X} → (b ≡ true → Finds P o) → (b ≡ false → Finds P p) → Finds P (cond b o p)
  by-test true h k = h refl
  by-test false h k = k refl

  -- what is made of what is there
  pub made_of : {Y : Type 0} (f : Y → X) (o : Option Y) → ((y : Y) → o ≡ Some y → P (f y)) → Finds P (option_map f o)
  made_of f None h = none
  made_of f (Some y) h = one (h y refl)

  -- what is there and passes
  pub if-passing : (t : X → Bool) (o : Option X) → ((x : X) → o ≡ Some x → t x ≡ true → P x) → Finds P (passing t o)
  if-passing t None h = none
  if-passing t (Some x) h = by-test (t x) (λ e. one (h x refl e)) (λ _. none)

  -- it has it
  there : {x : X} → Finds P (Some x) → P x
  there (one p) = p

  -- what is found has it
  pub has-it : {o : Option X} {x : X} → Finds P o → o ≡ Some x → P x
  has-it f e = there (subst (Finds P) e f)
