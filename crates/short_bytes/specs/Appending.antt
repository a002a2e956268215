-- What putting a piece behind a few bytes answers and leaves.
use Rattle.std.specs.Prelude.{◌≡◌, ℕ, ◌+◌, ◌<◌, ◌≤◌, List, ◌++◌, length, Ok, Err, Result}
use Rattle.short_bytes.specs.declared.Full.{Full}

-- A piece is put behind the bytes, or it would pass the size and nothing changes.
abbrev pub Appends : ℕ → List ℕ → List ℕ → List ℕ → Result (Unit {0}) Full → Type 0
Appends most piece before after (Ok done) = (length before + length piece ≤ most) × (after ≡ before ++ piece)
Appends most piece before after (Err e) = (most < length before + length piece) × (after ≡ before)
