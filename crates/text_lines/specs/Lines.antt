-- A text's first line and what follows it.
use Rattle.std.specs.Prelude.{◌≡◌, ℕ, ◌<◌, ◌⊎◌, List, [], ◌∷◌, ◌++◌, length, Some, None, Option, ◌≢◌, slice_index}
use Rattle.std.specs.Borrow.{Bor}

-- The first line holds no LF (10). It ends at the first LF, after which the rest comes, or with the text.
pub record FirstLine (text line rest : List ℕ) : Type 0 where
  pub unbroken : (k : ℕ) → k < length line → slice_index line k ≢ 10
  pub splits : (text ≡ line ++ (10 ∷ rest)) ⊎ ((text ≡ line) × (rest ≡ []))

-- A step over the lines of a text gives the first and leaves the rest; it gives none where nothing is left.
abbrev pub NextLine : List ℕ → Option (Bor (List ℕ)) → List ℕ → Type 0
NextLine text None rest = (text ≡ []) × (rest ≡ [])
NextLine text (Some line) rest = (text ≢ []) × FirstLine text line.now rest
