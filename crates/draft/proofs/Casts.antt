-- What the lists of the cast stand for.
use Rattle.std.proofs.Common.{◌≡◌, ℕ, ◌||◌, List, [], ◌∷◌, map, refl, ap}
use Rattle.std.specs.List.{list_any}
use Rattle.model.specs.declared.stored.Role.{Role}
use Rattle.draft.specs.Drafts.{variable_above}
use Rattle.model.specs.Stored.{role_of}
use Rattle.terms.specs.Terms.{has, variable_names}

-- some role has a variable of this name exactly if some role of the code has
pub any-above : (rs : List Role) (w : List ℕ) → list_any (λ r. has (variable_names (role_of r).variables) w) rs ≡ variable_above (map role_of rs) w
any-above [] w = refl
any-above (r ∷ rs) w = ap (λ b. has (variable_names (role_of r).variables) w || b) (any-above rs w)
