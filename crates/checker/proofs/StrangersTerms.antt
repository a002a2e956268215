-- What terms, signals and steps are where two strangers are exchanged: the same, exchanged.
use Rattle.std.proofs.Common.{◌≡◌, ℕ, zero, suc, ◌<◌, ◌≤◌, nat_lt, List, [], ◌∷◌, map, Some, None, Option, slice_index_or, sym, refl, ap, ◌∙◌, arith}
use Rattle.std.proofs.lemmas.Bool.{cond_both}
use Rattle.std.specs.List.{slice_get, AllByRecursion}
use Rattle.std.specs.Option.{option_map}
use Rattle.message.specs.declared.Atom.{Atom}
use Rattle.message.specs.declared.Atom.TheVariants as atoms
use Rattle.message.specs.declared.Kind.{Kind}
use Rattle.message.specs.declared.Kind.TheVariants as kind
use Rattle.message.specs.Message as messages
use Rattle.message.specs.Message.{Key, Msg, atom, key_of, single, size}
use Rattle.model.specs.declared.node.Field.{Field}
use Rattle.model.specs.declared.node.Field.TheVariants as field
use Rattle.model.specs.Sheet.{Role, Sheet, Signal, Step, named, receive, send, signal}
use Rattle.model.specs.Trees.{Term, key, leaf, pair, seal}
use Rattle.instances.specs.Actions.{Event, action, atoms_under, does, done_at, event, receives, sends, signals}
use Rattle.instances.specs.Substitution.{Values, agent_number, atom_at, both, key_under, message, value}
use Rattle.sheet_laws.specs.References.{Place, Refers, RefersFirst, RefersToAgent, StepRefers, TermRefers, by_name, in_role, in_seals}
use Rattle.checker.proofs.Strangers.{Exchange, Strangers, atom_swapped, key_swapped, number_kept, single_swapped, swapped_action, swapped_atom, swapped_event, swapped_key, swapped_message, swapped_number, swapped_value, swapped_values}

-- The values with the two exchanged.
abbrev pub swapped_under : Exchange → Values → Values
swapped_under e v = record { player = option_map (swapped_number e kind.Agent) v.player; variables = swapped_values e v.variables }

pub variable_swapped : (e : Exchange) (os : List (Option Atom)) (i : ℕ) → slice_index_or (swapped_values e os) i None ≡ swapped_value e (slice_index_or os i None)
variable_swapped e [] i = refl
variable_swapped e (o ∷ os) zero = refl
variable_swapped e (o ∷ os) (suc i) = variable_swapped e os i

agent_swapped : (e : Exchange) (o : Option Atom) → agent_number (swapped_value e o) ≡ option_map (swapped_number e kind.Agent) (agent_number o)
agent_swapped e None = refl
agent_swapped e (Some (atoms.Agent n)) = refl
agent_swapped e (Some (atoms.Nonce n)) = refl
agent_swapped e (Some (atoms.Text n)) = refl

-- Exchanged before or after, it is the same.
mapped : {A B C D : Type 0} (f : A → B) (g : B → D) (h : A → C) (k : C → D) → ((x : A) → g (f x) ≡ k (h x)) → (o : Option A) → option_map g (option_map f o) ≡ option_map k (option_map h o)
mapped f g h k same None = refl
mapped f g h k same (Some x) = ap Some (same x)

both_mapped : {A B C : Type 0} (f : A → A) (g : B → B) (h : C → C) (join : A → B → C) → ((a : A) (b : B) → join (f a) (g b) ≡ h (join a b)) → (o : Option A) (p : Option B) → both join (option_map f o) (option_map g p) ≡ option_map h (both join o p)
both_mapped f g h join same None p = refl
both_mapped f g h join same (Some a) None = refl
both_mapped f g h join same (Some a) (Some b) = ap Some (same a b)

abbrev as_event : Signal → List Atom → Event
as_event s xs = record { word = s.word; atoms = xs }

-- No more names stand in the place than the sheet has.
abbrev pub FewNamed : Sheet → Place → Type 0
FewNamed sheet p = (j : Kind) → p.named j ≤ named sheet j

pub few_by_name : (sheet : Sheet) → FewNamed sheet (by_name sheet)
few_by_name sheet j = omega arith

pub few_in_seals : (sheet : Sheet) → FewNamed sheet (in_seals sheet)
few_in_seals sheet j = omega arith

pub few_in_role : (sheet : Sheet) (r : Role) → FewNamed sheet (in_role sheet r)
few_in_role sheet r kind.Agent = omega arith
few_in_role sheet r kind.Nonce = omega arith
few_in_role sheet r kind.Text = omega arith

module _ (sheet : Sheet) (e : Exchange) (strangers : Strangers sheet e) (p : Place) (few : FewNamed sheet p) (v : Values) where
  named_kept : (j : Kind) (n : ℕ) → n < p.named j → atom_at j n ≡ swapped_value e (atom_at j n)
  named_kept j n h =
      cond_both (nat_lt n (size j)) (Some (atom j n)) None (λ o. o ≡ swapped_value e o)
      (λ in-range. ap Some (sym (atom_swapped e j n ∙ ap (atom j) (number_kept sheet e strangers j n (omega (arith, few j))))))
      (λ not. refl)

  value_swapped : (f : Field) → Refers p f → value (swapped_under e v) f ≡ swapped_value e (value v f)
  value_swapped field.Player h = mapped (swapped_number e kind.Agent) atoms.Agent atoms.Agent (swapped_atom e) (λ n. refl) v.player
  value_swapped (field.Variable i) h = variable_swapped e v.variables i
  value_swapped (field.Named j n) h = named_kept j n h

  agent_refers : (f : Field) → RefersToAgent p f → value (swapped_under e v) f ≡ swapped_value e (value v f)
  agent_refers field.Player h = value_swapped field.Player h
  agent_refers (field.Variable i) h = variable_swapped e v.variables i
  agent_refers (field.Named kind.Agent n) h = named_kept kind.Agent n h
  agent_refers (field.Named kind.Nonce n) h = absurd h
  agent_refers (field.Named kind.Text n) h = absurd h

  first_refers : (f : Field) → RefersFirst p f → value (swapped_under e v) f ≡ swapped_value e (value v f)
  first_refers field.Player h = value_swapped field.Player h
  first_refers (field.Variable i) h = absurd h
  first_refers (field.Named j n) h = agent_refers (field.Named j n) h.1

  key_under_swapped : (f g : Field) → RefersFirst p f → RefersToAgent p g → key_under (swapped_under e v) f g ≡ option_map (swapped_key e) (key_under v f g)
  key_under_swapped f g first second =
      let a = ap agent_number (first_refers f first) ∙ agent_swapped e (value v f) in
      let b = ap agent_number (agent_refers g second) ∙ agent_swapped e (value v g) in
      (λ i. both key_of (a i) (b i)) ∙ both_mapped (swapped_number e kind.Agent) (swapped_number e kind.Agent) (swapped_key e) key_of (λ x y. sym (key_swapped e x y)) (agent_number (value v f)) (agent_number (value v g))

  -- A term is the same message, exchanged.
  pub message_swapped : (t : Term) → TermRefers p t → message (swapped_under e v) t ≡ option_map (swapped_message e) (message v t)
  message_swapped (leaf f) h = ap (option_map single) (value_swapped f h) ∙ mapped (swapped_atom e) single single (swapped_message e) (single_swapped e) (value v f)
  message_swapped (pair l r) h =
      let a = message_swapped l h.0 in
      let b = message_swapped r h.1 in
      (λ i. both messages.pair (a i) (b i)) ∙ both_mapped (swapped_message e) (swapped_message e) (swapped_message e) messages.pair (λ x y. refl) (message v l) (message v r)
  message_swapped (key f g) h = ap (option_map messages.key) (key_under_swapped f g h.0 h.1) ∙ mapped (swapped_key e) messages.key messages.key (swapped_message e) (λ k. refl) (key_under v f g)
  message_swapped (seal f g t) h =
      let a = key_under_swapped f g h.0 h.1 in
      let b = message_swapped t h.2 in
      (λ i. both messages.seal (a i) (b i)) ∙ both_mapped (swapped_key e) (swapped_message e) (swapped_message e) messages.seal (λ k m. refl) (key_under v f g) (message v t)

  atoms_swapped : (fs : List Field) → AllByRecursion (Refers p) fs → atoms_under (swapped_under e v) fs ≡ option_map (map (swapped_atom e)) (atoms_under v fs)
  atoms_swapped [] h = refl
  atoms_swapped (f ∷ fs) h =
      let a = value_swapped f h.0 in
      let b = atoms_swapped fs h.1 in
      (λ i. both (λ x xs. x ∷ xs) (a i) (b i)) ∙ both_mapped (swapped_atom e) (map (swapped_atom e)) (map (swapped_atom e)) (λ x xs. x ∷ xs) (λ x xs. refl) (value v f) (atoms_under v fs)

  -- A signal is the same event, exchanged.
  pub event_swapped : (s : Signal) → AllByRecursion (Refers p) s.fields → event (swapped_under e v) s ≡ option_map (swapped_event e) (event v s)
  event_swapped s h = ap (option_map (as_event s)) (atoms_swapped s.fields h) ∙ mapped (map (swapped_atom e)) (as_event s) (as_event s) (swapped_event e) (λ xs. refl) (atoms_under v s.fields)

  -- A step does the same, exchanged.
  pub action_swapped : (s : Step) → StepRefers p s → action (swapped_under e v) s ≡ option_map (swapped_action e) (action v s)
  action_swapped (send t) h = ap (option_map sends) (message_swapped t h) ∙ mapped (swapped_message e) sends sends (swapped_action e) (λ x. refl) (message v t)
  action_swapped (receive t) h = ap (option_map receives) (message_swapped t h) ∙ mapped (swapped_message e) receives receives (swapped_action e) (λ x. refl) (message v t)
  action_swapped (signal s) h = ap (option_map signals) (event_swapped s h) ∙ mapped (swapped_event e) signals signals (swapped_action e) (λ x. refl) (event v s)

  done_swapped : (ss : List Step) (i : ℕ) → AllByRecursion (StepRefers p) ss → done_at (swapped_under e v) (slice_get ss i) ≡ option_map (swapped_action e) (done_at v (slice_get ss i))
  done_swapped [] i h = refl
  done_swapped (s ∷ ss) zero h = action_swapped s h.0
  done_swapped (s ∷ ss) (suc i) h = done_swapped ss i h.1

  pub does_swapped : (role : Role) (i : ℕ) → AllByRecursion (StepRefers p) role.steps → does role (swapped_under e v) i ≡ option_map (swapped_action e) (does role v i)
  does_swapped role i h = done_swapped role.steps i h
