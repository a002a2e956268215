-- The first line that passes, of lines as they are kept.
use Rattle.std.specs.Prelude.{◌≡◌, Bool, true, false, cond, List, [], ◌∷◌, map, Some}
use Rattle.std.specs.List.{find}
use Rattle.std.specs.Option.{option_map}
use Rattle.std.proofs.Common.{refl}
use Rattle.model.specs.declared.stored.Ranked as stored
use Rattle.model.specs.declared.node.Node.{Node}
use Rattle.model.specs.Stored.{ranked_of}
use Rattle.model.specs.Trees.{Term, tree}
use Rattle.sheet.specs.Sheets.{atom_of}
use Rattle.ranks.specs.Ranking.{first_rank}

pub first_kept : {X M : Type 0} (of : X → M) (p : M → Bool) (xs : List (stored.Ranked X)) → first_rank p (map (ranked_of of) xs) ≡ option_map (λ x. x.rank) (find (λ x. p (of x.what)) xs)
first_kept of p [] = refl
first_kept of p (x ∷ xs) = elim (p (of x.what)) as (λ t. option_map (λ l. l.rank) (cond t (Some (ranked_of of x)) (find (λ l. p l.what) (map (ranked_of of) xs))) ≡ option_map (λ l. l.rank) (cond t (Some x) (find (λ y. p (of y.what)) xs))) [ true ↦ refl | false ↦ first_kept of p xs ]

pub first_atom_kept : (p : Term → Bool) (xs : List (stored.Ranked Node))
    → first_rank p (map atom_of (map (ranked_of (λ n. n)) xs)) ≡ option_map (λ x. x.rank) (find (λ x. p (tree (x.what ∷ []))) xs)
first_atom_kept p [] = refl
first_atom_kept p (x ∷ xs) =
    elim (p (tree (x.what ∷ []))) as
    (λ t.
    option_map (λ l. l.rank) (cond t (Some (atom_of (ranked_of (λ n. n) x))) (find (λ l. p l.what) (map atom_of (map (ranked_of (λ n. n)) xs))))
    ≡ option_map (λ l. l.rank) (cond t (Some x) (find (λ y. p (tree (y.what ∷ []))) xs))) [ true ↦ refl | false ↦ first_atom_kept p xs ]
