-- What the search for a least breaking instance tries rows of numbers for.
use Rattle.std.specs.Prelude.{◌≡◌, ℕ, List, Some, None, Option}
use Rattle.message.specs.declared.Atom.{Atom}
use Rattle.message.specs.declared.Kind.{Kind}
use Rattle.model.specs.Sheet.{Sheet, Step}
use Rattle.instances.specs.Instances.{played}
use Rattle.scale.specs.Scales.{Scale}
use Rattle.checker.specs.declared.steps.Break.{Break}
use Rattle.checker.specs.Rows.{fitted}
use Rattle.checker.specs.Trying.{Breaks, done}
use Rattle.checker.specs.Verdicts.{FirstOf}

-- ---- a role's steps

-- A row that, as values of a role's variables where agent a plays it, makes the step of number k break the fourth condition.
pub record RowBreaks (scale : Scale) (sheet : Sheet) (a : ℕ) (slots : List (Option Kind)) (steps : List Step) (row : List ℕ) (k : ℕ) : Type 0 where
  pub values : List (Option Atom)
  pub is-values : fitted slots row ≡ Some values
  pub breaks : Breaks scale sheet (done (played a values) steps) k

-- The first step that breaks it, and the values.
abbrev pub RowBreak : Scale → Sheet → ℕ → List (Option Kind) → List Step → List ℕ → Option Break → Type 0
RowBreak scale sheet a slots steps row None = (k : ℕ) → RowBreaks scale sheet a slots steps row k → ⊥
RowBreak scale sheet a slots steps row (Some b) = FirstOf (RowBreaks scale sheet a slots steps row) b.step × (fitted slots row ≡ Some b.values.items)
