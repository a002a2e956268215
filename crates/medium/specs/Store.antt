-- What an area holds: messages one after another, each with its length in the byte before it.
use Rattle.std.specs.Prelude.{◌≡◌, ℕ, ◌+◌, ◌-◌, ◌≤◌, min, All, Contains, List, [], ◌∷◌, ◌++◌, drop, length, replicate, sum_by, take}
use Rattle.message.specs.Message.{Msg, Reads, wire}

-- What a message costs.
abbrev pub cost : Msg → ℕ
cost m = length (wire m) + 1

-- The messages one after another, each with its length in the byte before it.
abbrev pub laid : List Msg → List ℕ
laid [] = []
laid (m ∷ ms) = length (wire m) ∷ wire m ++ laid ms

-- How many bytes of an area of this length count.
abbrev pub counted : ℕ → ℕ
counted len = min len 16384

abbrev pub capacity : List ℕ → ℕ
capacity area = counted (length area)

-- In so many bytes there is space for m beside the messages.
abbrev pub Room : ℕ → List Msg → Msg → Type 0
Room space heard m = sum_by cost heard + cost m ≤ space

-- The tree has a form of at most 96 bytes, with every number in range.
abbrev pub IsWhole : Msg → Type 0
IsWhole m = Reads (wire m) m

-- The messages stand at the front of the area, in so many bytes.
pub record Holds (used : ℕ) (area : List ℕ) (heard : List Msg) : Type 0 where
  pub whole : All IsWhole heard
  pub long : length (laid heard) ≡ used
  pub front : area ≡ laid heard ++ drop used area

-- The area holds messages in so many bytes, within its capacity.
abbrev pub Filled : ℕ → List ℕ → Type 0
Filled used area = (used ≤ capacity area) × (heard : List Msg) × Holds used area heard

-- The area has these messages at its front, and what it had before behind them.
abbrev pub Lies : List Msg → List ℕ → List ℕ → Type 0
Lies heard before after = after ≡ laid heard ++ drop (length (laid heard)) before

-- The bytes, after their length, stand in the area behind those used; the others are as before.
abbrev pub Put : ℕ → List ℕ → List ℕ → List ℕ → Type 0
Put used bytes before after = after ≡ take used before ++ (length bytes ∷ bytes ++ drop (used + length bytes + 1) before)

-- The bytes of a part are 0; the others are as before.
abbrev pub Cleared : (from to : ℕ) → List ℕ → List ℕ → Type 0
Cleared from to before after = after ≡ take from before ++ (replicate (to - from) 0 ++ drop to before)

-- The bytes are those of one of the messages.
abbrev pub Listed : List Msg → List ℕ → Type 0
Listed heard bytes = (m : Msg) × Contains heard m × (wire m ≡ bytes)

-- The bytes are a message that fits into so many bytes behind those used.
abbrev pub Admits : ℕ → ℕ → List ℕ → Type 0
Admits space used bytes = (m : Msg) × Reads bytes m × (used + cost m ≤ space)
