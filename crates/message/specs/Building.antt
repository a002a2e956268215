-- What a message's constructors answer and leave in the buffer in which it is built.
use Rattle.std.specs.Prelude.{◌≡◌, ℕ, ◌+◌, ◌<◌, ◌≤◌, List, ◌++◌, length, Ok, Err, Result}
use Rattle.message.specs.declared.NotMessage.{NotMessage}

-- A constructor puts its piece behind what was written. It is declined, and the buffer is then the same,
-- where its numbers are out of range or 96 bytes would be passed.
abbrev pub Adds : Type 0 → List ℕ → List ℕ → List ℕ → Result (Unit {0}) NotMessage → Type 0
Adds fits piece before after (Ok done) = fits × (length before + length piece ≤ 96) × (after ≡ before ++ piece)
Adds fits piece before after (Err e) = (fits → 96 < length before + length piece) × (after ≡ before)
