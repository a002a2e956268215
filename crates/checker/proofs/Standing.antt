-- What a term is depends only on the variables that stand in it.
use Rattle.std.proofs.Common.{◌≡◌, ℕ, Bool, true, false, ◌||◌, eq-eqb, List, [], ◌∷◌, Some, None, Option, refl, ap}
use Rattle.std.specs.Prelude.{slice_index_or}
use Rattle.std.specs.Option.{option_map}
use Rattle.message.specs.declared.Atom.{Atom}
use Rattle.message.specs.declared.Atom.TheVariants.{Agent}
use Rattle.message.specs.Message as messages
use Rattle.message.specs.Message.{key_of, single}
use Rattle.model.specs.declared.node.Field.{Field}
use Rattle.model.specs.declared.node.Field.TheVariants.{Player, Variable, Named}
use Rattle.model.specs.Sheet.{Step, send, receive, signal}
use Rattle.model.specs.Trees.{Term, key, leaf, pair, seal}
use Rattle.model.specs.Variables.{is_variable, stands_in}
use Rattle.instances.specs.Actions.{action, atoms_under, done_at, receives, sends, signals}
use Rattle.instances.specs.Substitution.{Values, agent_number, both, key_under, message, value}

or-left : (a b : Bool) → a ≡ true → (a || b) ≡ true
or-left true b e = refl
or-left false b e = let z : false ≡ true = e in cc

or-right : (a b : Bool) → b ≡ true → (a || b) ≡ true
or-right true b e = refl
or-right false b e = e

itself : (i : ℕ) → is_variable i (Variable i) ≡ true
itself i = eq-eqb i i refl

both-same : {A B C : Type 0} (f : A → B → C) (a c : Option A) (b d : Option B) → a ≡ c → b ≡ d → both f a b ≡ both f c d
both-same f a c b d p q = λ i. both f (p i) (q i)

-- The two stand for the same at the variables of which P holds.
pub record SameWhere (P : ℕ → Type 0) (v w : Values) : Type 0 where
  pub player : v.player ≡ w.player
  pub variables : (i : ℕ) → P i → slice_index_or v.variables i None ≡ slice_index_or w.variables i None

narrower : {P : ℕ → Type 0} {v w : Values} → SameWhere P v w → (Q : ℕ → Type 0) → ((i : ℕ) → Q i → P i) → SameWhere Q v w
narrower s Q h = record { player = s.player; variables = λ i q. s.variables i (h i q) }

module _ (v w : Values) where
  value_same : (f : Field) → SameWhere (λ i. is_variable i f ≡ true) v w → value v f ≡ value w f
  value_same Player s = ap (option_map Agent) s.player
  value_same (Variable i) s = s.variables i (itself i)
  value_same (Named k n) s = refl

  key_same : (f g : Field) → SameWhere (λ i. is_variable i f ≡ true) v w → SameWhere (λ i. is_variable i g ≡ true) v w → key_under v f g ≡ key_under w f g
  key_same f g s t = both-same key_of _ _ _ _ (ap agent_number (value_same f s)) (ap agent_number (value_same g t))

  pub message_same : (t : Term) → SameWhere (λ i. stands_in i t ≡ true) v w → message v t ≡ message w t
  message_same (leaf f) s = ap (option_map single) (value_same f s)
  message_same (pair l r) s =
      both-same messages.pair _ _ _ _
      (message_same l (narrower s (λ i. stands_in i l ≡ true) (λ i. or-left _ _)))
      (message_same r (narrower s (λ i. stands_in i r ≡ true) (λ i. or-right _ _)))
  message_same (key f g) s =
      ap (option_map messages.key) (key_same f g (narrower s (λ i. is_variable i f ≡ true) (λ i. or-left _ _)) (narrower s (λ i. is_variable i g ≡ true) (λ i. or-right _ _)))
  message_same (seal f g t) s =
      both-same messages.seal _ _ _ _
      (key_same f g (narrower s (λ i. is_variable i f ≡ true) (λ i. or-left _ _)) (narrower s (λ i. is_variable i g ≡ true) (λ i e. or-right (is_variable i f) _ (or-left (is_variable i g) (stands_in i t) e))))
      (message_same t (narrower s (λ i. stands_in i t ≡ true) (λ i e. or-right (is_variable i f) _ (or-right (is_variable i g) (stands_in i t) e))))

  -- where they stand for the same everywhere
  module _ (s : SameWhere (λ i. Unit {0}) v w) where
    any_value : (f : Field) → value v f ≡ value w f
    any_value f = value_same f (narrower s (λ i. is_variable i f ≡ true) (λ i e. tt))

    any_message : (t : Term) → message v t ≡ message w t
    any_message t = message_same t (narrower s (λ i. stands_in i t ≡ true) (λ i e. tt))

    any_atoms : (fs : List Field) → atoms_under v fs ≡ atoms_under w fs
    any_atoms [] = refl
    any_atoms (f ∷ fs) = both-same (λ (x : Atom) (xs : List Atom). x ∷ xs) _ _ _ _ (any_value f) (any_atoms fs)

    any_action : (d : Step) → action v d ≡ action w d
    any_action (send t) = ap (option_map sends) (any_message t)
    any_action (receive t) = ap (option_map receives) (any_message t)
    any_action (signal e) = ap (λ o. option_map signals (option_map (λ xs. record { word = e.word; atoms = xs }) o)) (any_atoms e.fields)

    pub any_done : (o : Option Step) → done_at v o ≡ done_at w o
    any_done None = refl
    any_done (Some d) = any_action d
