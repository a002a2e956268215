-- A reading whose fault, if it has one, lies within so many bytes: how such readings are put together.
use Rattle.std.proofs.Common.{◌≡◌, ℕ, ◌≤◌, Bool, true, false, cond, Some, None, Ok, Err, Option, Result, arith}
use Rattle.lexer.specs.declared.Fault.{Fault}
use Rattle.lexer.specs.declared.Rule.{Rule}
use Rattle.terms.specs.Terms.{and_then, or_fault}

-- a reading gives something of which P holds, or has a fault within n bytes or at their end
pub data Within {X : Type 0} (n : ℕ) (P : X → Type 0) : Result X Fault → Type 0 where
  gives : {x : X} → P x → Within n P (Ok x)
  faults : {f : Fault} → f.place ≤ n → Within n P (Err f)

-- nothing is said of what a reading gives
abbrev pub Any : {X : Type 0} → X → Type 0
Any x = Unit {0}

-- the fault of such a reading
pub its-fault : {X : Type 0} {n : ℕ} {P : X → Type 0} {r : Result X Fault} → Within n P r → (f : Fault) → r ≡ Err f → f.place ≤ n
its-fault (gives p) f e = let z : ◌≡◌ {A = ℕ} 0 1 = cc in absurd (omega arith)
its-fault (faults {f = g} h) f e = let same : g ≡ f = cc in rw same at h

-- one reading or another, by a test
pub either : {X : Type 0} {n : ℕ} {P : X → Type 0} {r s : Result X Fault} (b : Bool) → Within n P r → Within n P s → Within n P (cond b r s)
either true p q = p
either false p q = q

-- a reading of what has to be there
pub found : {X : Type 0} {n at : ℕ} (o : Option X) (r : Rule) → at ≤ n → Within n Any (or_fault o r at)
found None r h = faults h
found (Some x) r h = gives tt

-- a reading after another, of which something is known
pub next_of : {X Y : Type 0} {n : ℕ} {P : X → Type 0} {Q : Y → Type 0} {r : Result X Fault} {go : X → Result Y Fault} → Within n P r → ((x : X) → P x → Within n Q (go x)) → Within n Q (and_then r go)
next_of (gives {x} p) q = q x p
next_of (faults h) q = faults h

-- a reading after another, of which nothing is known
pub next : {X Y : Type 0} {n : ℕ} {Q : Y → Type 0} {r : Result X Fault} {go : X → Result Y Fault} → Within n Any r → ((x : X) → Within n Q (go x)) → Within n Q (and_then r go)
next p q = next_of p (λ x _. q x)

-- how a reading is put together
pub ruleset readings = (gives, faults, either, found, next)
