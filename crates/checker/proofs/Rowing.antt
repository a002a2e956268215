-- How slots, choices and values are made one after another.
use Rattle.std.proofs.Common.{◌≡◌, ℕ, List, map, take, Some, Option, sym, ap, ◌∙◌}
use Rattle.std.proofs.lemmas.Simd.{map-map}
use Rattle.message.specs.declared.Kind.{Kind}
use Rattle.model.specs.declared.stored.Nonce.{Nonce}
use Rattle.model.specs.Sheet as model
use Rattle.model.specs.declared.stored.Variable.{Variable}
use Rattle.model.specs.Stored.{nonce_of, step_of, variable_of}
use Rattle.ranks.specs.Ranks.{kind_of}
use Rattle.std.proofs.lemmas.List.{take-map}
use Rattle.model.specs.declared.stored.Step.{Step}
use Rattle.model.specs.Sheet.{Sheet, is_for}
use Rattle.model.specs.Trees.{Term}
use Rattle.search.specs.declared.place.Place.{Place}
use Rattle.checker.specs.declared.rows.Choice as stored
use Rattle.checker.specs.Kept.{choice_of}
use Rattle.checker.specs.Rows.{Choice, choice_at, open_choices, role_choices, role_slots, seal_slots}

-- a role's slots by its variables as they are kept
pub slots_stored : (vs : List Variable) → role_slots (map variable_of vs) ≡ map (λ v. Some (kind_of v.sort)) vs
slots_stored vs = map-map (λ v. Some (kind_of v.sort)) variable_of vs

-- the flags of nonces by the nonces as they are kept
pub flags_stored : (r a i : ℕ) (ns : List Nonce) (ms : List model.Nonce) → map nonce_of ns ≡ ms → map (λ n. is_for r a i (nonce_of n)) ns ≡ map (is_for r a i) ms
flags_stored r a i ns ms is = sym (map-map (is_for r a i) nonce_of ns) ∙ ap (map (is_for r a i)) is

-- ---- pieces of a test, as they are handed on

pub made_slots : (vs lent : List Variable) (ks handed : List (Option Kind)) → lent ≡ vs → ks ≡ map (λ v. Some (kind_of v.sort)) lent → handed ≡ ks → handed ≡ role_slots (map variable_of vs)
made_slots vs lent ks handed same made is = is ∙ made ∙ ap (map (λ (v : Variable). Some (kind_of v.sort))) same ∙ sym (slots_stored vs)

pub made_steps : (n : ℕ) (xs lent : List Step) → lent ≡ xs → map step_of (take n lent) ≡ take n (map step_of xs)
made_steps n xs lent same = ap (λ (l : List Step). map step_of (take n l)) same ∙ sym (take-map step_of n xs)

pub made_places : (cs lent : List stored.Choice) (ps handed : List Place) (all : List Choice) → map choice_of cs ≡ all → lent ≡ cs → map choice_at ps ≡ map choice_of lent → handed ≡ ps → map choice_at handed ≡ all
made_places cs lent ps handed all made same placed is = ap (map choice_at) is ∙ placed ∙ ap (map choice_of) same ∙ made

pub made_choices : (m : Sheet) (r a b : ℕ) (vs lent : List Variable) (cs : List Choice) → b ≡ a → lent ≡ vs → cs ≡ role_choices m r b 0 (map variable_of lent) → cs ≡ role_choices m r a 0 (map variable_of vs)
made_choices m r a b vs lent cs agent same made = made ∙ ap (λ n. role_choices m r n 0 (map variable_of lent)) agent ∙ ap (λ (l : List Variable). role_choices m r a 0 (map variable_of l)) same

-- the same for a `seal` line
module _ (t : Term) (m : Sheet) (free : List Variable) (free-is : map variable_of free ≡ m.free) where
  pub made_seal_slots : (ks handed : List (Option Kind)) → handed ≡ ks → ks ≡ seal_slots t 0 (map variable_of free) → handed ≡ seal_slots t 0 m.free
  made_seal_slots ks handed is made = is ∙ made ∙ ap (seal_slots t 0) free-is

  pub made_open_places : (ks lent : List (Option Kind)) → lent ≡ ks → ks ≡ seal_slots t 0 (map variable_of free)
      → (cs lent-cs : List stored.Choice) (ps handed : List Place) → map choice_of cs ≡ open_choices m lent → lent-cs ≡ cs → map choice_at ps ≡ map choice_of lent-cs → handed ≡ ps
      → map choice_at handed ≡ open_choices m (seal_slots t 0 m.free)
  made_open_places ks lent is made cs lent-cs ps handed chosen same placed there =
      made_places cs lent-cs ps handed (open_choices m (seal_slots t 0 m.free)) (chosen ∙ ap (open_choices m) (made_seal_slots ks lent is made)) same placed there
