-- How the first bad step of a role and its least instance are found: by the least instance in which a step below a bound is bad, again and again.
use Rattle.std.specs.Prelude.{◌≡◌, ℕ, ◌<◌, List, ◌∷◌, Some, None, Ok, Option}
use Rattle.message.specs.declared.Atom.{Atom}
use Rattle.model.specs.Sheet.{Sheet}
use Rattle.scale.specs.Scales.{Scale}
use Rattle.search.specs.Rows.{Less}
use Rattle.sheet.specs.Sheets.{reading}
use Rattle.checker.specs.declared.roles.BadInstance.{BadInstance}
use Rattle.checker.specs.Verdicts.{BadStep, numbers}

-- The sheet was read from some text.
abbrev pub WasRead : Sheet → Type 0
WasRead sheet = (text : List ℕ) × (reading text ≡ Ok sheet)

-- The least instance of agent a in which a step below the bound is bad, and its first such step.
pub record LeastFor (scale : Scale) (sheet : Sheet) (r bound a k : ℕ) (values : List (Option Atom)) : Type 0 where
  pub within : k < bound
  pub is : BadStep scale sheet r k a values
  pub first : (j : ℕ) → j < k → BadStep scale sheet r j a values → ⊥
  pub least : (j : ℕ) (others : List (Option Atom)) → j < bound → BadStep scale sheet r j a others → Less (numbers others) (numbers values) → ⊥

abbrev pub FoundFor : Scale → Sheet → (r bound a : ℕ) → Option BadInstance → Type 0
FoundFor scale sheet r bound a None = (k : ℕ) (values : List (Option Atom)) → k < bound → BadStep scale sheet r k a values → ⊥
FoundFor scale sheet r bound a (Some b) = (b.agent ≡ a) × LeastFor scale sheet r bound a b.step b.values.items

-- The same for all agents.
pub record LeastBelow (scale : Scale) (sheet : Sheet) (r bound k a : ℕ) (values : List (Option Atom)) : Type 0 where
  pub within : k < bound
  pub is : BadStep scale sheet r k a values
  pub least : (j b : ℕ) (others : List (Option Atom)) → j < bound → BadStep scale sheet r j b others → Less (b ∷ numbers others) (a ∷ numbers values) → ⊥

abbrev pub FoundBelow : Scale → Sheet → (r bound : ℕ) → Option BadInstance → Type 0
FoundBelow scale sheet r bound None = (k a : ℕ) (values : List (Option Atom)) → k < bound → BadStep scale sheet r k a values → ⊥
FoundBelow scale sheet r bound (Some b) = LeastBelow scale sheet r bound b.step b.agent b.values.items

-- The first bad step of a role, and the least instance in which it is bad.
pub record LeastIn (scale : Scale) (sheet : Sheet) (r k a : ℕ) (values : List (Option Atom)) : Type 0 where
  pub is : BadStep scale sheet r k a values
  pub first-step : (j b : ℕ) (others : List (Option Atom)) → j < k → BadStep scale sheet r j b others → ⊥
  pub least : (b : ℕ) (others : List (Option Atom)) → BadStep scale sheet r k b others → Less (b ∷ numbers others) (a ∷ numbers values) → ⊥

abbrev pub FoundIn : Scale → Sheet → ℕ → Option BadInstance → Type 0
FoundIn scale sheet r None = (k a : ℕ) (values : List (Option Atom)) → BadStep scale sheet r k a values → ⊥
FoundIn scale sheet r (Some b) = LeastIn scale sheet r b.step b.agent b.values.items

-- The first role with a bad step, its first bad step, and the least instance in which it is bad.
pub record FirstRole (scale : Scale) (sheet : Sheet) (r k a : ℕ) (values : List (Option Atom)) : Type 0 where
  pub least : LeastIn scale sheet r k a values
  pub none-before : (q j b : ℕ) (others : List (Option Atom)) → q < r → BadStep scale sheet q j b others → ⊥

abbrev pub FoundRole : Scale → Sheet → Option (ℕ × BadInstance) → Type 0
FoundRole scale sheet None = (r k a : ℕ) (values : List (Option Atom)) → BadStep scale sheet r k a values → ⊥
FoundRole scale sheet (Some p) = FirstRole scale sheet p.0 p.1.step p.1.agent p.1.values.items
