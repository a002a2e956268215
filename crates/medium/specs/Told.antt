-- The messages of a sheet's `know` lines in a row, each marked where it begins.
use Rattle.std.specs.Prelude.{◌≡◌, ℕ, ◌-◌, All, List, [], ◌∷◌, ◌++◌, length, replicate}
use Rattle.medium.specs.Store.{IsWhole, laid}
use Rattle.message.specs.Message.{Msg, wire}

-- One mark for each message, where it begins.
abbrev pub first_marks : List Msg → List ℕ
first_marks [] = []
first_marks (m ∷ ms) = 0 ∷ 1 ∷ replicate (length (wire m) - 1) 0 ++ first_marks ms

-- The messages in a row with those marks.
pub record Tells (ms : List Msg) (bytes marks : List ℕ) : Type 0 where
  pub whole : All IsWhole ms
  pub bytes-are : bytes ≡ laid ms
  pub marks-are : marks ≡ first_marks ms
