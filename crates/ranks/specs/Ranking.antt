-- Computing ranks: the first line that passes, and the ranks that wait while a message is read from its end.
use Rattle.std.specs.Prelude.{ℕ, Bool, List, [], ◌∷◌, ℤ, Some, None, Option}
use Rattle.std.specs.List.{find}
use Rattle.std.specs.Option.{option_map, unwrap_or}
use Rattle.message.specs.declared.Atom.{Atom}
use Rattle.model.specs.Sheet.{Ranked, Sheet}
use Rattle.model.specs.Trees.{prefix}
use Rattle.ranks.specs.declared.piece.Piece.{Piece}
use Rattle.ranks.specs.declared.piece.Piece.TheVariants as piece
use Rattle.ranks.specs.Matching.{is_event, solves}
use Rattle.scale.specs.Scales.{Scale}

-- the rank of the first line that passes
abbrev pub first_rank : {A : Type 0} → (A → Bool) → List (Ranked A) → Option ℤ
first_rank p ls = option_map (λ l. l.rank) (find (λ l. p l.what) ls)

-- the rank of the atom, and that of the seal if a line gives it, at the front
abbrev pub atom_rank : Scale → Sheet → List Piece → ℤ
atom_rank scale sheet ps = unwrap_or (first_rank (λ t. solves [] [] (prefix t) ps) sheet.atoms) scale.fixed

abbrev pub seal_rank : Sheet → List Piece → Option ℤ
seal_rank sheet ps = first_rank (λ t. solves sheet.free [] (prefix t) ps) sheet.seals

-- ---- the ranks that wait, the last one first

abbrev pub rest_of : List ℤ → List ℤ
rest_of [] = []
rest_of (v ∷ s) = s

-- a pair's rank in place of those of its halves
abbrev pub joined_top : Scale → List ℤ → List ℤ
joined_top scale [] = []
joined_top scale (v ∷ []) = []
joined_top scale (u ∷ v ∷ s) = scale.joined u v ∷ s

-- a seal's rank, where a line gives it, in place of its content's
abbrev pub sealed_top : Option ℤ → List ℤ → List ℤ
sealed_top None s = s
sealed_top (Some v) s = v ∷ rest_of s

-- one piece more, at the front of the pieces
abbrev pub ranked_on : Scale → Sheet → List Piece → List ℤ → List ℤ
ranked_on scale sheet [] s = s
ranked_on scale sheet (piece.Single x ∷ ps) s = atom_rank scale sheet (piece.Single x ∷ ps) ∷ s
ranked_on scale sheet (piece.Pair ∷ ps) s = joined_top scale s
ranked_on scale sheet (piece.Key a b ∷ ps) s = atom_rank scale sheet (piece.Key a b ∷ ps) ∷ s
ranked_on scale sheet (piece.Seal a b ∷ ps) s = sealed_top (seal_rank sheet (piece.Seal a b ∷ ps)) s

-- The ranks of the messages that the pieces are, the first one first.
abbrev pub stacked : Scale → Sheet → List Piece → List ℤ
stacked scale sheet [] = []
stacked scale sheet (p ∷ ps) = ranked_on scale sheet (p ∷ ps) (stacked scale sheet ps)

-- ---- events

-- the rank of the event of this word and these atoms
abbrev pub mark_rank : Scale → Sheet → List ℕ → List Atom → ℤ
mark_rank scale sheet word atoms = unwrap_or (first_rank (λ s. is_event s word atoms) sheet.marks) scale.fixed
