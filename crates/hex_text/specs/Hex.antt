-- Bytes and the text that stands for them: two hexadecimal digits for each byte, one space between two bytes.
use Rattle.std.specs.Prelude.{◌≡◌, ℕ, ◌+◌, ◌-◌, ◌/◌, ◌%◌, ◌<◌, ◌≤◌, ◌⊎◌, List, [], ◌∷◌, Ok, Err, vec_items, Result, Vec}
use Rattle.std.specs.declared.alloc.Global.{Global}
use Rattle.hex_text.specs.declared.HexError.{HexError}
use Rattle.hex_text.specs.declared.HexError.TheVariants.{NotBytes, NoMemory}

-- The character with this code is a hexadecimal digit of value v. The digits 0 to 9 have the codes from 48 on; those
-- of the values 10 to 15 are A to F, with the codes from 65 on, or a to f, with the codes from 97 on.
abbrev pub Digit : ℕ → ℕ → Type 0
Digit code v = ((v < 10) × (code ≡ 48 + v)) ⊎ ((10 ≤ v) × (v < 16) × ((code ≡ 65 + (v - 10)) ⊎ (code ≡ 97 + (v - 10))))

-- The character is no hexadecimal digit.
abbrev pub NoDigit : ℕ → Type 0
NoDigit code = (v : ℕ) → Digit code v → ⊥

-- The two characters are the digits of the byte b. Two digits suffice for it, so b is below 256.
abbrev pub Pair : ℕ → ℕ → ℕ → Type 0
Pair high low b = Digit high (b / 16) × Digit low (b % 16)

-- The line is the text of these bytes: of no bytes the empty line, of one byte its two digits, and of more bytes the
-- digits of the first, a space, and the text of the others.
abbrev pub Spells : List ℕ → List ℕ → Type 0
Spells [] line = line ≡ []
Spells (b ∷ []) line = (high : ℕ) × (low : ℕ) × Pair high low b × (line ≡ high ∷ low ∷ [])
Spells (b ∷ c ∷ bs) line = (high : ℕ) × (low : ℕ) × (rest : List ℕ) × Pair high low b × (line ≡ high ∷ low ∷ 32 ∷ rest) × Spells (c ∷ bs) rest

-- What came of a line: the bytes whose text it is, or that it is the text of none. Memory may be wanting at any line.
abbrev pub Reads : List ℕ → Result (Vec ℕ Global) HexError → Type 0
Reads line (Ok bytes) = Spells (vec_items bytes) line
Reads line (Err NotBytes) = (bytes : List ℕ) → Spells bytes line → ⊥
Reads line (Err NoMemory) = Unit {0}

-- A line is the text of at most one list of bytes.
abbrev pub UniqueReading : Type 0
UniqueReading = (line xs ys : List ℕ) → Spells xs line → Spells ys line → xs ≡ ys
