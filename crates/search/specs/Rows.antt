-- Rows of numbers, one for each place: which are allowed, and which is the least.
use Rattle.std.specs.Prelude.{◌≡◌, ℕ, ◌<◌, ◌≤◌, true, ◌⊎◌, List, [], ◌∷◌, Some, None, Option, Vec, slice_get}
use Rattle.message.specs.declared.Kind.{Kind}
use Rattle.message.specs.declared.Kind.TheVariants.{Agent, Nonce, Text}
use Rattle.message.specs.Message.{size}
use Rattle.search.specs.declared.place.Counts.{Counts}
use Rattle.search.specs.declared.place.Place.{Place}

abbrev pub count : Counts → Kind → ℕ
count c Agent = c.agents
count c Nonce = c.nonces
count c Text = c.texts

-- The number has a name, and the place lets it in.
abbrev pub Named : Counts → Place → ℕ → Type 0
Named named p n = (n < count named p.kind) × (slice_get p.named.now n ≡ Some true)

-- The number has no name, and the place lets such numbers in.
abbrev pub Unnamed : Counts → Place → ℕ → Type 0
Unnamed named p n = (count named p.kind ≤ n) × (p.strangers ≡ true)

-- A number of the place's kind that may stand there.
abbrev pub Fits : Counts → Place → ℕ → Type 0
Fits named p n = (n < size p.kind) × (Named named p n ⊎ Unnamed named p n)

-- At each place stands a number that may.
abbrev pub Allowed : Counts → List Place → List ℕ → Type 0
Allowed named [] [] = Unit {0}
Allowed named [] (x ∷ xs) = ⊥
Allowed named (p ∷ ps) [] = ⊥
Allowed named (p ∷ ps) (x ∷ xs) = Fits named p x × Allowed named ps xs

-- The order of rows: by the first place at which they differ.
abbrev pub Less : List ℕ → List ℕ → Type 0
Less [] [] = ⊥
Less [] (y ∷ ys) = Unit {0}
Less (x ∷ xs) [] = ⊥
Less (x ∷ xs) (y ∷ ys) = (x < y) ⊎ ((x ≡ y) × Less xs ys)

-- An allowed row that breaks the test.
abbrev pub Breaking : Counts → List Place → (List ℕ → Type 0) → List ℕ → Type 0
Breaking named ps broken xs = Allowed named ps xs × broken xs

-- The row is one of these, and none of these is less.
pub record Least (these : List ℕ → Type 0) (xs : List ℕ) : Type 0 where
  pub is : these xs
  pub least : (ys : List ℕ) → these ys → Less ys xs → ⊥

-- There are none of these.
pub record Empty (these : List ℕ → Type 0) : Type 0 where
  pub none : (ys : List ℕ) → these ys → ⊥

-- What is found is the least of these, and nothing only where there are none.
abbrev pub Finds : {Z : Type 0} → (List ℕ → Type 0) → Option (Vec ℕ Z) → Type 0
Finds these None = Empty these
Finds these (Some row) = Least these row.items
