-- The exchange of two numbers of a kind wherever they stand, and what it keeps.
use Rattle.std.proofs.Common.{◌≡◌, ℕ, ◌<◌, ◌≤◌, min, max, Bool, true, false, cond, nat_le, List, [], ◌∷◌, map, Some, None, Option, refl, ap, ◌∙◌, ⊎_elim, arith}
use Rattle.std.proofs.lemmas.Bool.{cases_lt, cond-false, cond-true, cond_both, le-leb}
use Rattle.std.proofs.lemmas.Bool.Decides.{nat_tests}
use Rattle.std.specs.Option.{option_map}
use Rattle.message.specs.declared.Atom.{Atom}
use Rattle.message.specs.declared.Atom.TheVariants as atoms
use Rattle.message.specs.declared.Kind.{Kind}
use Rattle.message.specs.declared.Kind.TheVariants.{Agent, Nonce, Text}
use Rattle.message.specs.Message.{Key, Msg, agent, atom, key, key_of, nonce, pair, seal, shared, single, size, text}
use Rattle.model.specs.Sheet.{Sheet, named}
use Rattle.instances.specs.Actions.{Action, Event, receives, sends, signals}
use Rattle.instances.specs.Instances.{Of}
use Rattle.search.specs.Exchange.{same_kind, swap}
use Rattle.search.proofs.Exchanged.{swap-below}

-- ---- what is exchanged

-- Two numbers of a kind, each to be put for the other.
pub record Exchange : Type 0 where
  pub kind : Kind
  pub one : ℕ
  pub other : ℕ

abbrev pub swapped_number : Exchange → Kind → ℕ → ℕ
swapped_number e j n = cond (same_kind j e.kind) (swap e.one e.other n) n

abbrev pub swapped_atom : Exchange → Atom → Atom
swapped_atom e (atoms.Agent n) = atoms.Agent (swapped_number e Agent n)
swapped_atom e (atoms.Nonce n) = atoms.Nonce (swapped_number e Nonce n)
swapped_atom e (atoms.Text n) = atoms.Text (swapped_number e Text n)

-- The lesser agent comes first again. What is not so written is no key, and stays.
abbrev pub swapped_key : Exchange → Key → Key
swapped_key e (shared a b) = cond (nat_le a b) (key_of (swapped_number e Agent a) (swapped_number e Agent b)) (shared a b)

abbrev pub swapped_message : Exchange → Msg → Msg
swapped_message e (agent n) = agent (swapped_number e Agent n)
swapped_message e (nonce n) = nonce (swapped_number e Nonce n)
swapped_message e (text n) = text (swapped_number e Text n)
swapped_message e (key k) = key (swapped_key e k)
swapped_message e (pair l r) = pair (swapped_message e l) (swapped_message e r)
swapped_message e (seal k m) = seal (swapped_key e k) (swapped_message e m)

abbrev pub swapped_value : Exchange → Option Atom → Option Atom
swapped_value e o = option_map (swapped_atom e) o

abbrev pub swapped_values : Exchange → List (Option Atom) → List (Option Atom)
swapped_values e os = map (swapped_value e) os

abbrev pub swapped_event : Exchange → Event → Event
swapped_event e x = record { word = x.word; atoms = map (swapped_atom e) x.atoms }

abbrev pub swapped_action : Exchange → Action → Action
swapped_action e (sends m) = sends (swapped_message e m)
swapped_action e (receives m) = receives (swapped_message e m)
swapped_action e (signals x) = signals (swapped_event e x)

-- ---- twice is nothing

swap_back : (u w n : ℕ) → swap u w (swap u w n) ≡ n
swap_back u w n = grind (arith, nat_tests)

pub number_back : (e : Exchange) (j : Kind) (n : ℕ) → swapped_number e j (swapped_number e j n) ≡ n
number_back e j n =
    elim (same_kind j e.kind) as (λ t. cond t (swap e.one e.other (cond t (swap e.one e.other n) n)) (cond t (swap e.one e.other n) n) ≡ n) [
      | true ↦ swap_back e.one e.other n
      | false ↦ refl
    ]

pub atom_back : (e : Exchange) (x : Atom) → swapped_atom e (swapped_atom e x) ≡ x
atom_back e (atoms.Agent n) = ap atoms.Agent (number_back e Agent n)
atom_back e (atoms.Nonce n) = ap atoms.Nonce (number_back e Nonce n)
atom_back e (atoms.Text n) = ap atoms.Text (number_back e Text n)

-- the order of two agents does not matter
either_order : (f : ℕ → ℕ) (a b : ℕ) → key_of (f (min a b)) (f (max a b)) ≡ key_of (f a) (f b)
either_order f a b =
    ⊎_elim
    (λ lt. let low : min a b ≡ a = omega arith in let high : max a b ≡ b = omega arith in λ i. key_of (f (low i)) (f (high i)))
    (λ le.
    let low : min a b ≡ b = omega arith in
    let high : max a b ≡ a = omega arith in
    let least : min (f b) (f a) ≡ min (f a) (f b) = omega arith in
    let most : max (f b) (f a) ≡ max (f a) (f b) = omega arith in
    (λ i. key_of (f (low i)) (f (high i))) ∙ (λ i. shared (least i) (most i)))
    (cases_lt a b)

pub key_swapped : (e : Exchange) (a b : ℕ) → swapped_key e (key_of a b) ≡ key_of (swapped_number e Agent a) (swapped_number e Agent b)
key_swapped e a b =
    cond-true (nat_le (min a b) (max a b)) (key_of (swapped_number e Agent (min a b)) (swapped_number e Agent (max a b))) (shared (min a b) (max a b)) (le-leb (min a b) (max a b) (omega arith))
    ∙ either_order (swapped_number e Agent) a b

pub key_back : (e : Exchange) (k : Key) → swapped_key e (swapped_key e k) ≡ k
key_back e (shared a b) =
    cond_both (nat_le a b) (key_of (swapped_number e Agent a) (swapped_number e Agent b)) (shared a b) (λ k. swapped_key e k ≡ shared a b) ordered (λ not. cond-false (nat_le a b) (key_of (swapped_number e Agent a) (swapped_number e Agent b)) (shared a b) not)
  where
    ordered : nat_le a b ≡ true → swapped_key e (key_of (swapped_number e Agent a) (swapped_number e Agent b)) ≡ shared a b
    ordered is =
        let low : min a b ≡ a = grind (arith, nat_tests) in
        let high : max a b ≡ b = grind (arith, nat_tests) in
        key_swapped e (swapped_number e Agent a) (swapped_number e Agent b)
        ∙ (λ i. key_of (number_back e Agent a i) (number_back e Agent b i))
        ∙ (λ i. shared (low i) (high i))

pub message_back : (e : Exchange) (m : Msg) → swapped_message e (swapped_message e m) ≡ m
message_back e (agent n) = ap agent (number_back e Agent n)
message_back e (nonce n) = ap nonce (number_back e Nonce n)
message_back e (text n) = ap text (number_back e Text n)
message_back e (key k) = ap key (key_back e k)
message_back e (pair l r) = λ i. pair (message_back e l i) (message_back e r i)
message_back e (seal k m) = λ i. seal (key_back e k i) (message_back e m i)

pub value_back : (e : Exchange) (o : Option Atom) → swapped_value e (swapped_value e o) ≡ o
value_back e None = refl
value_back e (Some x) = ap Some (atom_back e x)

pub values_back : (e : Exchange) (os : List (Option Atom)) → swapped_values e (swapped_values e os) ≡ os
values_back e [] = refl
values_back e (o ∷ os) = λ i. value_back e o i ∷ values_back e os i

atoms_back : (e : Exchange) (xs : List Atom) → map (swapped_atom e) (map (swapped_atom e) xs) ≡ xs
atoms_back e [] = refl
atoms_back e (x ∷ xs) = λ i. atom_back e x i ∷ atoms_back e xs i

pub event_back : (e : Exchange) (x : Event) → swapped_event e (swapped_event e x) ≡ x
event_back e x = λ i. record { word = x.word; atoms = atoms_back e x.atoms i }

-- ---- strangers

-- Neither of the two has a name in the sheet.
pub record Strangers (sheet : Sheet) (e : Exchange) : Type 0 where
  pub one-low : named sheet e.kind ≤ e.one
  pub one-high : e.one < size e.kind
  pub other-low : named sheet e.kind ≤ e.other
  pub other-high : e.other < size e.kind

by_kind : (j k : Kind) (P : Bool → Type 0) → (k ≡ j → P true) → P false → P (same_kind j k)
by_kind Agent Agent P same other = same refl
by_kind Agent Nonce P same other = other
by_kind Agent Text P same other = other
by_kind Nonce Agent P same other = other
by_kind Nonce Nonce P same other = same refl
by_kind Nonce Text P same other = other
by_kind Text Agent P same other = other
by_kind Text Nonce P same other = other
by_kind Text Text P same other = same refl

swap_least : (u w n least : ℕ) → least ≤ u → least ≤ w → least ≤ n → least ≤ swap u w n
swap_least u w n least hu hw hn = grind (arith, nat_tests)

swap_most : (u w n most : ℕ) → u < most → w < most → n < most → swap u w n < most
swap_most u w n most hu hw hn = grind (arith, nat_tests)

module _ (sheet : Sheet) (e : Exchange) (strangers : Strangers sheet e) where
  -- what has a name stays
  pub number_kept : (j : Kind) (n : ℕ) → n < named sheet j → swapped_number e j n ≡ n
  number_kept j n h =
      by_kind j e.kind (λ t. cond t (swap e.one e.other n) n ≡ n)
      (λ is. let same : named sheet e.kind ≡ named sheet j = ap (named sheet) is in
      swap-below e.one e.other n (omega (arith, strangers.one-low)) (omega (arith, strangers.other-low)))
      refl

  -- what has none, gets none
  pub number_unnamed : (j : Kind) (n : ℕ) → named sheet j ≤ n → named sheet j ≤ swapped_number e j n
  number_unnamed j n h =
      by_kind j e.kind (λ t. named sheet j ≤ cond t (swap e.one e.other n) n)
      (λ is. let same : named sheet e.kind ≡ named sheet j = ap (named sheet) is in
      swap_least e.one e.other n (named sheet j) (omega (arith, strangers.one-low)) (omega (arith, strangers.other-low)) h)
      h

  -- a number of the kind stays one
  pub number_below : (j : Kind) (n : ℕ) → n < size j → swapped_number e j n < size j
  number_below j n h =
      by_kind j e.kind (λ t. cond t (swap e.one e.other n) n < size j)
      (λ is. let same : size e.kind ≡ size j = ap size is in
      swap_most e.one e.other n (size j) (omega (arith, strangers.one-high)) (omega (arith, strangers.other-high)) h)
      h

pub atom_swapped : (e : Exchange) (j : Kind) (n : ℕ) → swapped_atom e (atom j n) ≡ atom j (swapped_number e j n)
atom_swapped e Agent n = refl
atom_swapped e Nonce n = refl
atom_swapped e Text n = refl

pub single_swapped : (e : Exchange) (x : Atom) → single (swapped_atom e x) ≡ swapped_message e (single x)
single_swapped e (atoms.Agent n) = refl
single_swapped e (atoms.Nonce n) = refl
single_swapped e (atoms.Text n) = refl

pub of_swapped : (sheet : Sheet) (e : Exchange) → Strangers sheet e → (j : Kind) (x : Atom) → Of j x → Of j (swapped_atom e x)
of_swapped sheet e strangers j x (n, below, is) = (swapped_number e j n, number_below sheet e strangers j n below, ap (swapped_atom e) is ∙ atom_swapped e j n)
