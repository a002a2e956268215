-- Rows of numbers and the values that they are: what the search for the least breaking instance goes over.
use Rattle.std.specs.Prelude.{ℕ, ◌+◌, Bool, true, cond, List, [], ◌∷◌, map, length, replicate, Some, None, Option, nat_le}
use Rattle.std.specs.Option.{option_map}
use Rattle.message.specs.declared.Atom.{Atom}
use Rattle.message.specs.declared.Kind.{Kind}
use Rattle.message.specs.declared.Kind.TheVariants as kind
use Rattle.message.specs.Message.{atom}
use Rattle.instances.specs.Substitution.{atom_at, both}
use Rattle.model.specs.declared.node.Sort.{Sort}
use Rattle.model.specs.declared.node.Sort.TheVariants.{Fresh, Plain}
use Rattle.model.specs.Sheet.{Sheet, Variable, is_for, named}
use Rattle.model.specs.Trees.{Term}
use Rattle.model.specs.Variables.{stands_in}
use Rattle.ranks.specs.Ranks.{kind_of}
use Rattle.search.specs.declared.place.Counts.{Counts}
use Rattle.search.specs.declared.place.Place.{Place}

-- A slot for each variable: the kind of what it stands for, or none where it is to stand for nothing.

-- all of a role's variables
abbrev pub role_slots : List Variable → List (Option Kind)
role_slots vs = map (λ v. Some (kind_of v.sort)) vs

-- the free variables, from that of number i on, that stand in a `seal` line's term
abbrev pub seal_slots : Term → ℕ → List Variable → List (Option Kind)
seal_slots t i [] = []
seal_slots t i (v ∷ vs) = cond (stands_in i t) (Some (kind_of v.sort)) None ∷ seal_slots t (i + 1) vs

-- The values that a row of numbers is: each slot with a kind takes the next number.
abbrev pub filled : List (Option Kind) → List ℕ → List (Option Atom)
filled [] xs = []
filled (None ∷ ks) xs = None ∷ filled ks xs
filled (Some k ∷ ks) [] = None ∷ filled ks []
filled (Some k ∷ ks) (x ∷ xs) = Some (atom k x) ∷ filled ks xs

-- The same, where the row has just as many numbers, each of its kind; else none.
abbrev pub filling : List (Option Kind) → List ℕ → Option (List (Option Atom))
filling [] [] = Some []
filling [] (x ∷ xs) = None
filling (None ∷ ks) xs = option_map (λ os. None ∷ os) (filling ks xs)
filling (Some k ∷ ks) [] = None
filling (Some k ∷ ks) (x ∷ xs) = both (λ a os. Some a ∷ os) (atom_at k x) (filling ks xs)

-- The same, where there are no more slots than a role has variables, or than there are free ones.
abbrev pub fitted : List (Option Kind) → List ℕ → Option (List (Option Atom))
fitted ks xs = cond (nat_le (length ks) 5) (filling ks xs) None

-- how many numbers of each kind have a name
abbrev pub counts : Sheet → Counts
counts m = record { agents = length m.agents; nonces = length m.nonces; texts = length m.texts }

-- ---- what may stand in the slots

-- For a slot with a kind: that kind, a flag for each of its numbers with a name, and one for the others.
pub record Choice : Type 0 where
  pub kind : Kind
  pub named : List Bool
  pub strangers : Bool

-- any number of the kind
abbrev pub any_of : Sheet → Kind → Choice
any_of m k = record { kind = k; named = replicate (named m k) true; strangers = true }

-- a nonce without a name, or one that is named for variable i of role r where agent a plays it
abbrev pub own_nonce : Sheet → (r a i : ℕ) → Choice
own_nonce m r a i = record { kind = kind.Nonce; named = map (is_for r a i) m.nonces; strangers = true }

-- for variable i of role r where agent a plays it
abbrev pub choice : Sheet → (r a i : ℕ) → Sort → Choice
choice m r a i Fresh = own_nonce m r a i
choice m r a i (Plain k) = any_of m k

-- for a role's variables, from that of number i on, where agent a plays it
abbrev pub role_choices : Sheet → (r a i : ℕ) → List Variable → List Choice
role_choices m r a i [] = []
role_choices m r a i (v ∷ vs) = choice m r a i v.sort ∷ role_choices m r a (i + 1) vs

-- for each slot that has a kind, any number of it
abbrev pub open_choices : Sheet → List (Option Kind) → List Choice
open_choices m [] = []
open_choices m (None ∷ ks) = open_choices m ks
open_choices m (Some k ∷ ks) = any_of m k ∷ open_choices m ks

-- the choice that a place of the search leaves
abbrev pub choice_at : Place → Choice
choice_at p = record { kind = p.kind; named = p.named.now; strangers = p.strangers }
