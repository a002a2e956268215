-- The kinds for which a row has numbers.
use Rattle.std.specs.Prelude.{List, [], ◌∷◌, Some, None, Option}
use Rattle.message.specs.declared.Kind.{Kind}

-- The kinds of the slots that have one, in order: a row has a number for each.
abbrev pub kinds : List (Option Kind) → List Kind
kinds [] = []
kinds (None ∷ slots) = kinds slots
kinds (Some k ∷ slots) = k ∷ kinds slots
