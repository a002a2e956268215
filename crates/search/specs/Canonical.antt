-- Canonical rows: at each place stands at most the first number of its kind that is not used before.
use Rattle.std.specs.Prelude.{◌≡◌, ℕ, max, ◌+◌, ◌≤◌, Bool, true, false, List, [], ◌∷◌, ◌++◌}
use Rattle.message.specs.declared.Kind.{Kind}
use Rattle.message.specs.declared.Kind.TheVariants.{Agent, Nonce, Text}
use Rattle.search.specs.declared.place.Counts.{Counts}
use Rattle.search.specs.declared.place.Place.{Place}
use Rattle.search.specs.Rows.{Allowed, Empty, Least, count}

-- the counts once a number of the kind is used
abbrev pub past : Counts → Kind → ℕ → Counts
past c Agent n = record c { agents = max c.agents (n + 1) }
past c Nonce n = record c { nonces = max c.nonces (n + 1) }
past c Text n = record c { texts = max c.texts (n + 1) }

-- No number is above the first one of its kind that is not used before it. `next` has these first ones.
abbrev pub Canonical : Counts → List Place → List ℕ → Type 0
Canonical next [] xs = Unit {0}
Canonical next (p ∷ ps) [] = Unit {0}
Canonical next (p ∷ ps) (x ∷ xs) = (x ≤ count next p.kind) × Canonical (past next p.kind x) ps xs

-- A row that the search tries, and that breaks the test.
abbrev pub Tried : Counts → Counts → List Place → (List ℕ → Type 0) → List ℕ → Type 0
Tried named next ps broken xs = Allowed named ps xs × Canonical next ps xs × broken xs

-- If found, the row has become longer by the least of these ends; else there are none, and it is as before.
abbrev pub Extends : Bool → (List ℕ → Type 0) → List ℕ → List ℕ → Type 0
Extends true these before after = (end : List ℕ) × (after ≡ before ++ end) × Least these end
Extends false these before after = (after ≡ before) × Empty these
