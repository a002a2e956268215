-- What is ranked already.
use Rattle.std.proofs.Common.{◌≡◌, ◌||◌, List, [], ◌∷◌, map, refl, ap}
use Rattle.std.specs.List.{list_any}
use Rattle.model.specs.declared.stored.Ranked.{Ranked}
use Rattle.model.specs.declared.stored.Signal.{Signal}
use Rattle.model.specs.declared.node.Node.{Node}
use Rattle.draft.specs.Reading.{atom_ranked, signal_ranked}
use Rattle.terms.specs.Same.{same_atom, same_signal}
use Rattle.model.specs.Sheet as model
use Rattle.model.specs.Stored.{ranked_of, signal_of}

-- an atom or an event is ranked exactly if some line of the code ranks it
pub any-atom : (rs : List (Ranked Node)) (a : Node) → list_any (λ r. same_atom r.what a) rs ≡ atom_ranked (map (ranked_of (λ n. n)) rs) a
any-atom [] a = refl
any-atom (r ∷ rs) a = ap (λ b. same_atom r.what a || b) (any-atom rs a)

pub any-signal : (rs : List (Ranked Signal)) (s : model.Signal) → list_any (λ r. same_signal (signal_of r.what) s) rs ≡ signal_ranked (map (ranked_of signal_of) rs) s
any-signal [] s = refl
any-signal (r ∷ rs) s = ap (λ b. same_signal (signal_of r.what) s || b) (any-signal rs s)
