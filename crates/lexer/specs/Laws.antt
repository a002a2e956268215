-- A law of texts, on the contract of a call of its own.
use Rattle.std.specs.Prelude.{◌≡◌, ℕ, ◌-◌, ◌≤◌, ◌⊎◌, List, [], ◌∷◌, length, Ok, slice_index_or}
use Rattle.lexer.specs.Text.{LineAt, lexed}

-- a byte of a line, or the end of one
abbrev pub Shown : ℕ → Type 0
Shown b = (b ≡ 10) ⊎ ((32 ≤ b) × (b ≤ 126))

abbrev pub AllShown : List ℕ → Type 0
AllShown [] = Unit {0}
AllShown (b ∷ bs) = Shown b × AllShown bs

-- A text that has lines has 1 to 8,192 bytes, each printable or the end of a line, and ends a line.
pub record Printable (text : List ℕ) : Type 0 where
  pub some : 1 ≤ length text
  pub few : length text ≤ 8192
  pub ended : slice_index_or text (length text - 1) 0 ≡ 10
  pub shown : AllShown text

abbrev pub PrintableTexts : Type 0
PrintableTexts = (text : List ℕ) (ls : List LineAt) → lexed text ≡ Ok ls → Printable text
