-- When the marks of an enemy's two rows are those of all that it knows.
use Rattle.std.specs.Prelude.{◌≡◌, ℕ, ◌≤◌, Bool, true, not, ◌&&◌, ◌||◌, ◌==◌, min, All, List, [], ◌∷◌, ◌++◌, length, slice_index, take}
use Rattle.std.specs.Coded.{le_prop}
use Rattle.std.proofs.Props.{props}
use mathlib.Core.HLevel.{is_prop→PathP}
use Rattle.model.specs.Sheet.{Sheet}
use Rattle.medium.specs.Marks.{row_marks, told_by}
use Rattle.medium.specs.Rounds.{keys_at}
use Rattle.medium.specs.Single.{holds_prop, one_held, whole_prop}
use Rattle.medium.specs.Spreading.{Marked}
use Rattle.medium.specs.Store.{Holds, IsWhole, counted, laid}
use Rattle.message.specs.Message.{Msg}

-- Each byte that the first marks mark is marked by the second.
abbrev pub covered : List ℕ → List ℕ → Bool
covered [] marks = true
covered (x ∷ xs) [] = not (x == 1) && covered xs []
covered (x ∷ xs) (y ∷ ys) = (not (x == 1) || y == 1) && covered xs ys

-- After so many rounds, all that is marked in both rows is known.
abbrev pub sound_at : Sheet → List Msg → (marks told_marks : List ℕ) → ℕ → Bool
sound_at sheet heard marks told_marks n = covered marks (row_marks (keys_at sheet (told_by sheet ++ heard) n) heard) && covered told_marks (row_marks (keys_at sheet (told_by sheet ++ heard) n) (told_by sheet))

-- The marks of the messages heard, and those of the `know` lines in a row of their own, mark what is known and nothing else.
pub record Settled (sheet : Sheet) (heard : List Msg) (marks told told_marks : List ℕ) : Type 0 where
  pub long : length marks ≡ length (laid heard)
  pub small : (k : ℕ) → slice_index marks k ≤ 1
  pub told-is : told ≡ laid (told_by sheet)
  pub told-whole : All IsWhole (told_by sheet)
  pub told-long : length told_marks ≡ length told
  pub marked : (n k : ℕ) → slice_index (row_marks (keys_at sheet (told_by sheet ++ heard) n) heard) k ≡ 1 → Marked marks k
  pub told-marked : (n k : ℕ) → slice_index (row_marks (keys_at sheet (told_by sheet ++ heard) n) (told_by sheet)) k ≡ 1 → Marked told_marks k
  pub sound : ∥ ((n : ℕ) × (sound_at sheet heard marks told_marks n ≡ true)) ∥₁

-- An enemy's areas hold messages within their capacity, with their marks.
abbrev pub Analysed : Sheet → ℕ → (area marks told told_marks : List ℕ) → Type 0
Analysed sheet used area marks told told_marks = (used ≤ counted (min (length area) (length marks))) × ((heard : List Msg) × Holds used area heard × Settled sheet heard (take used marks) told told_marks)

settled_prop : (sheet : Sheet) (heard : List Msg) (marks told told_marks : List ℕ) → IsProp (Settled sheet heard marks told told_marks)
settled_prop sheet heard marks told told_marks = hlevel (props, whole_prop)

pub analysed_prop : (sheet : Sheet) (used : ℕ) (area marks told told_marks : List ℕ) → IsProp (Analysed sheet used area marks told told_marks)
analysed_prop sheet used area marks told told_marks x y =
    let a = x.1 in
    let b = y.1 in
    let same = one_held used area a.0 b.0 a.1 b.1 in
    λ i. (
      le_prop x.0 y.0 i,
      (
        same i,
        is_prop→PathP (λ j. Holds used area (same j)) (λ j. holds_prop used area (same j)) a.1 b.1 i,
        is_prop→PathP (λ j. Settled sheet (same j) (take used marks) told told_marks) (λ j. settled_prop sheet (same j) (take used marks) told told_marks) a.2 b.2 i,
      ),
    )
