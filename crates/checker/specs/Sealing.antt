-- What is found of the `seal` lines.
use Rattle.std.specs.Prelude.{◌≡◌, ℕ, ◌<◌, Bool, true, false, not, List, Some, None, Option, Vec}
use Rattle.std.specs.declared.alloc.Global.{Global}
use Rattle.std.specs.List.{slice_get}
use Rattle.message.specs.declared.Atom.{Atom}
use Rattle.message.specs.declared.Kind.{Kind}
use Rattle.model.specs.Sheet.{Ranked, Sheet}
use Rattle.model.specs.Trees.{Term}
use Rattle.scale.specs.Scales.{Scale}
use Rattle.ranks.specs.Ranks.{GivesBytes}
use Rattle.search.specs.Rows.{Less}
use Rattle.checker.specs.declared.seals.BadLine.{BadLine}
use Rattle.checker.specs.Rows.{fitted}
use Rattle.checker.specs.Trying.{Unlike}
use Rattle.checker.specs.Verdicts.{BadSeal, numbers}

-- The line of number j gives the message that the bytes are.
abbrev pub GivenAt : Sheet → List ℕ → ℕ → Type 0
GivenAt sheet bytes j = (l : Ranked Term) × (slice_get sheet.seals j ≡ Some l) × GivesBytes sheet.free l.what bytes

-- A line before that of number i does.
abbrev pub GivenBefore : Sheet → ℕ → List ℕ → Type 0
GivenBefore sheet i bytes = (j : ℕ) × (j < i) × GivenAt sheet bytes j

-- the key is positive, and line and content are not alike positive
abbrev pub disagree : Option Bool → Option Bool → Bool → Bool
disagree None content line = false
disagree (Some false) content line = false
disagree (Some true) None line = false
disagree (Some true) (Some true) line = not line
disagree (Some true) (Some false) line = line

-- A row that, as values of the free variables that stand in the line, makes it bad.
pub record RowUnlike (scale : Scale) (sheet : Sheet) (i : ℕ) (line : Ranked Term) (slots : List (Option Kind)) (row : List ℕ) : Type 0 where
  pub values : List (Option Atom)
  pub is-values : fitted slots row ≡ Some values
  pub unlike : Unlike scale sheet i line values

-- The least values for which the line of number i is bad.
pub record LeastAt (scale : Scale) (sheet : Sheet) (i : ℕ) (values : List (Option Atom)) : Type 0 where
  pub is : BadSeal scale sheet i values
  pub least : (others : List (Option Atom)) → BadSeal scale sheet i others → Less (numbers others) (numbers values) → ⊥

abbrev pub FoundAt : Scale → Sheet → ℕ → Option (Vec (Option Atom) Global) → Type 0
FoundAt scale sheet i None = (values : List (Option Atom)) → BadSeal scale sheet i values → ⊥
FoundAt scale sheet i (Some v) = LeastAt scale sheet i v.items

-- The same of the first line that is bad for some values.
pub record FirstLine (scale : Scale) (sheet : Sheet) (i : ℕ) (values : List (Option Atom)) : Type 0 where
  pub least : LeastAt scale sheet i values
  pub none-before : (j : ℕ) (others : List (Option Atom)) → j < i → BadSeal scale sheet j others → ⊥

abbrev pub FoundLine : Scale → Sheet → Option BadLine → Type 0
FoundLine scale sheet None = (i : ℕ) (values : List (Option Atom)) → BadSeal scale sheet i values → ⊥
FoundLine scale sheet (Some b) = FirstLine scale sheet b.line b.values.items
