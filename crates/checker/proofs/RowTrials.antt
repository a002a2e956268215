-- What a row of numbers shows is what its values show.
use Rattle.std.proofs.Common.{◌≡◌, ℕ, ◌↔◌, IsTrue, List, Some, None, Option, sym, refl, subst, ◌∙◌}
use Rattle.std.proofs.lemmas.Bool.{false≢true}
use Rattle.std.proofs.lemmas.Option.{none-some, same_Some}
use Rattle.std.specs.Option.{is_some}
use Rattle.message.specs.declared.Atom.{Atom}
use Rattle.message.specs.declared.Kind.{Kind}
use Rattle.model.specs.Sheet.{Sheet, Step}
use Rattle.instances.specs.Instances.{played}
use Rattle.scale.specs.Scales.{Scale}
use Rattle.checker.specs.declared.steps.Break.{Break}
use Rattle.checker.specs.Rows.{fitted}
use Rattle.checker.specs.Tests.{RowBreak, RowBreaks}
use Rattle.checker.specs.Trying.{Breaks, done}
use Rattle.checker.specs.Verdicts.{FirstOf}

module _ (scale : Scale) (sheet : Sheet) (a : ℕ) (slots : List (Option Kind)) (steps : List Step) (row : List ℕ) where
  -- the values of the row
  module _ (os : List (Option Atom)) (is : fitted slots row ≡ Some os) where
    row_breaks : (k : ℕ) → RowBreaks scale sheet a slots steps row k → Breaks scale sheet (done (played a os) steps) k
    row_breaks k b = subst (λ (l : List (Option Atom)). Breaks scale sheet (done (played a l) steps) k) (same_Some b.values os (sym b.is-values ∙ is)) b.breaks

    pub row_none : ((k : ℕ) → Breaks scale sheet (done (played a os) steps) k → ⊥) → (k : ℕ) → RowBreaks scale sheet a slots steps row k → ⊥
    row_none none k b = none k (row_breaks k b)

    pub row_first : (k : ℕ) → FirstOf (Breaks scale sheet (done (played a os) steps)) k → FirstOf (RowBreaks scale sheet a slots steps row) k
    row_first k first = record {
      is = record { values = os; is-values = is; breaks = first.is };
      none-before = λ j lt b. first.none-before j lt (row_breaks j b);
    }

  -- No row that is not filled in breaks it.
  pub row_unfit : fitted slots row ≡ None → (k : ℕ) → RowBreaks scale sheet a slots steps row k → ⊥
  row_unfit none k b = none-some b.values (sym none ∙ b.is-values)

  pub row_decides : (found : Option Break) → RowBreak scale sheet a slots steps row found → IsTrue (is_some found) ↔ ((k : ℕ) × RowBreaks scale sheet a slots steps row k)
  row_decides None none = (λ e. absurd (false≢true e), λ b. absurd (none b.0 b.1))
  row_decides (Some b) found = (λ e. (b.step, found.0.is), λ w. refl)
