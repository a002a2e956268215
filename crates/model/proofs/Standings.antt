-- Where a variable stands in a term and in the steps of a script.
use Rattle.std.proofs.Common.{◌≡◌, ℕ, Bool, true, false, cond, ◌||◌, List, [], ◌∷◌, ◌++◌, map, Some, None, Option, MatchOption, Bor, sym, refl, ap, ◌∙◌}
use Rattle.std.specs.Option.{option_map}
use Rattle.std.specs.List.{find}
use Rattle.model.specs.declared.stored.Step.{Step}
use Rattle.model.specs.declared.node.Node.{Node}
use Rattle.model.specs.Stored.{step_of}
use Rattle.model.specs.Trees.{Term, leaf, pair, key, seal, prefix}
use Rattle.model.specs.Variables.{is_variable, received, receives, stands_at, stands_at_some, stands_in, stands_in_step}

or-none : (b : Bool) → b ≡ (b || false)
or-none true = refl
or-none false = refl

or_assoc : (a b c : Bool) → (a || (b || c)) ≡ ((a || b) || c)
or_assoc true b c = refl
or_assoc false b c = refl

-- a variable stands in a term where it stands at some of its nodes
some-append : (i : ℕ) (ms ns : List Node) → stands_at_some i (ms ++ ns) ≡ (stands_at_some i ms || stands_at_some i ns)
some-append i [] ns = refl
some-append i (m ∷ ms) ns = ap (λ b. stands_at i m || b) (some-append i ms ns) ∙ or_assoc (stands_at i m) (stands_at_some i ms) (stands_at_some i ns)

pub stands_by_nodes : (i : ℕ) (t : Term) → stands_in i t ≡ stands_at_some i (prefix t)
stands_by_nodes i (leaf f) = or-none (is_variable i f)
stands_by_nodes i (pair l r) = ap (λ b. b || stands_in i r) (stands_by_nodes i l) ∙ ap (λ b. stands_at_some i (prefix l) || b) (stands_by_nodes i r) ∙ sym (some-append i (prefix l) (prefix r))
stands_by_nodes i (key f g) = or-none (is_variable i f || is_variable i g)
stands_by_nodes i (seal f g t) = ap (λ b. is_variable i f || (is_variable i g || b)) (stands_by_nodes i t) ∙ or_assoc (is_variable i f) (is_variable i g) (stands_at_some i (prefix t))

-- Where a search for the first step in which a variable stands came to r, the variable is received exactly if that step receives.
pub received-found : (v : ℕ) (ss : List Step) (r : Option (Bor Step)) (b : Bool) → option_map (λ s. s.now) r ≡ find (λ s. stands_in_step v (step_of s)) ss → MatchOption r (b ≡ false) (λ s. b ≡ receives (step_of s.now)) → b ≡ received v (map step_of ss)
received-found v [] None b e is = is
received-found v [] (Some x) b e is = cc
received-found v (s ∷ ss) r b e is = by (stands_in_step v (step_of s)) e (λ later. received-found v ss r b later is)
  where
    by : (stands : Bool) → option_map (λ s. s.now) r ≡ cond stands (Some s) (find (λ s. stands_in_step v (step_of s)) ss) → (option_map (λ s. s.now) r ≡ find (λ s. stands_in_step v (step_of s)) ss → b ≡ received v (map step_of ss)) → b ≡ cond stands (receives (step_of s)) (received v (map step_of ss))
    by true e rest = here r e is
      where
        here : (r : Option (Bor Step)) → option_map (λ s. s.now) r ≡ Some s → MatchOption r (b ≡ false) (λ s. b ≡ receives (step_of s.now)) → b ≡ receives (step_of s)
        here None e is = cc
        here (Some x) e is = let same : x.now ≡ s = cc in is ∙ ap (λ s. receives (step_of s)) same
    by false e rest = rest e
