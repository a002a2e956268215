-- Whether a line lists something, and whether some values of the free variables turn it into a message, is decided.
use Rattle.std.specs.Prelude.{◌≡◌, ℕ, zero, suc, ◌<◌, List, [], ◌∷◌, Some, None, Option}
use Rattle.std.proofs.Common.{refl, ap, subst, ◌∙◌, arith}
use Rattle.std.proofs.Math.Decide.{ℕ_discrete}
use Rattle.std.proofs.lemmas.Option.{none-some, same_Some}
use Rattle.message.specs.declared.Atom.{Atom}
use Rattle.message.specs.declared.Atom.TheVariants.{Agent, Nonce, Text}
use Rattle.message.specs.Message.{Msg, single, atom, size, key_discrete, msg_discrete}
use Rattle.model.specs.Sheet.{Signal, Variable}
use Rattle.model.specs.Trees.{Term}
use Rattle.instances.specs.Actions.{Event, event}
use Rattle.instances.specs.Substitution.{message, names_alone}
use Rattle.ranks.specs.Ranks.{EachOf, Gives, ListsEvent, ListsMessage, free_values, kind_of}

pub dec_by : {A B : Type 0} → (A → B) → (B → A) → Dec A → Dec B
dec_by f g (yes a) = yes (f a)
dec_by f g (no n) = no (λ b. n (g b))

pub same_message : Discrete Msg
same_message = msg_discrete ℕ_discrete (key_discrete ℕ_discrete)

-- an atom is told apart from others as a message
single_inj : (x y : Atom) → single x ≡ single y → x ≡ y
single_inj (Agent m) (Agent n) e = let h : m ≡ n = cc in ap Agent h
single_inj (Agent m) (Nonce n) e = cc
single_inj (Agent m) (Text n) e = cc
single_inj (Nonce m) (Agent n) e = cc
single_inj (Nonce m) (Nonce n) e = let h : m ≡ n = cc in ap Nonce h
single_inj (Nonce m) (Text n) e = cc
single_inj (Text m) (Agent n) e = cc
single_inj (Text m) (Nonce n) e = cc
single_inj (Text m) (Text n) e = let h : m ≡ n = cc in ap Text h

same_atom : Discrete Atom
same_atom x y = dec_by (single_inj x y) (λ e. ap single e) (same_message (single x) (single y))

same_list : {A : Type 0} → Discrete A → Discrete (List A)
same_list d [] [] = yes refl
same_list d [] (y ∷ ys) = no (λ e. cc)
same_list d (x ∷ xs) [] = no (λ e. cc)
same_list d (x ∷ xs) (y ∷ ys) = both (d x y) (same_list d xs ys)
  where
    both : Dec (x ≡ y) → Dec (xs ≡ ys) → Dec (x ∷ xs ≡ y ∷ ys)
    both (yes p) (yes q) = yes cc
    both (yes p) (no n) = no (λ e. n cc)
    both (no n) q = no (λ e. n cc)

same_event : Discrete Event
same_event e f = both (same_list ℕ_discrete e.word f.word) (same_list same_atom e.atoms f.atoms)
  where
    both : Dec (e.word ≡ f.word) → Dec (e.atoms ≡ f.atoms) → Dec (e ≡ f)
    both (yes p) (yes q) = yes (λ i. record { word = p i; atoms = q i })
    both (yes p) (no n) = no (λ x. n (ap (λ (d : Event). d.atoms) x))
    both (no n) q = no (λ x. n (ap (λ (d : Event). d.word) x))

is_some_of : {A : Type 0} → Discrete A → (o : Option A) (x : A) → Dec (o ≡ Some x)
is_some_of d None x = no (none-some x)
is_some_of d (Some y) x = dec_by (λ e. ap Some e) (same_Some y x) (d y x)

pub lists_message : (m : Msg) (t : Term) → Dec (ListsMessage t m)
lists_message m t = is_some_of same_message (message names_alone t) m

pub lists_event : (e : Event) (s : Signal) → Dec (ListsEvent s e)
lists_event e s = is_some_of same_event (event names_alone s) e

module _ (P : ℕ → Type 0) (d : (i : ℕ) → Dec (P i)) where
  one_more : (n : ℕ) → Dec (P n) → Dec ((i : ℕ) × (i < n) × P i) → Dec ((i : ℕ) × (i < suc n) × P i)
  one_more n (yes p) r = yes (n, omega arith, p)
  one_more n (no q) (yes x) = yes (x.0, omega (arith, x.1), x.2)
  one_more n (no q) (no s) = no (λ x. at x (ℕ_discrete x.0 n))
    where
      at : (x : (i : ℕ) × (i < suc n) × P i) → Dec (x.0 ≡ n) → ⊥
      at x (yes e) = q (subst P e x.2)
      at x (no ne) = s (x.0, omega (arith, x.1), x.2)

  some_below : (n : ℕ) → Dec ((i : ℕ) × (i < n) × P i)
  some_below zero = no (λ x. let h : x.0 < 0 = x.1 in omega arith)
  some_below (suc n) = one_more n (d n) (some_below n)

-- the values that are each of the free variables', by the first of them
first_value : (v : Variable) (vs : List Variable) (P : List (Option Atom) → Type 0) (os : List (Option Atom)) → EachOf (v ∷ vs) os → P os
    → (n : ℕ) × (n < size (kind_of v.sort)) × ((ws : List (Option Atom)) × EachOf vs ws × P (Some (atom (kind_of v.sort) n) ∷ ws))
first_value v vs P [] f p = absurd f
first_value v vs P (o ∷ os) f p =
    let (x, e, n, lt, a) = flat in
    (n, lt, (os, f.1, subst (λ (y : Option Atom). P (y ∷ os)) (e ∙ ap Some a) p))
  where
    flat : (x : Atom) × (o ≡ Some x) × (n : ℕ) × (n < size (kind_of v.sort)) × (x ≡ atom (kind_of v.sort) n)
    flat = (f.0.0, f.0.1, f.0.2.0, f.0.2.1, f.0.2.2)

no_value : (P : List (Option Atom) → Type 0) (os : List (Option Atom)) → EachOf [] os → P os → P []
no_value P [] f p = p
no_value P (o ∷ os) f p = absurd f

some_values : (vs : List Variable) (P : List (Option Atom) → Type 0) → ((os : List (Option Atom)) → Dec (P os)) → Dec ((os : List (Option Atom)) × EachOf vs os × P os)
some_values [] P d = dec_by (λ p. ([], tt, p)) (λ x. no_value P x.0 x.1 x.2) (d [])
some_values (v ∷ vs) P d =
    let k = kind_of v.sort in
    dec_by
    (λ x. (Some (atom k x.0) ∷ x.2.0, ((atom k x.0, refl, (x.0, x.1, refl)), x.2.1), x.2.2))
    (λ x. first_value v vs P x.0 x.1 x.2)
    (some_below
    (λ (n : ℕ). (ws : List (Option Atom)) × EachOf vs ws × P (Some (atom k n) ∷ ws))
    (λ n. some_values vs (λ ws. P (Some (atom k n) ∷ ws)) (λ ws. d (Some (atom k n) ∷ ws)))
    (size k))

pub gives : (free : List Variable) (m : Msg) (t : Term) → Dec (Gives free t m)
gives free m t = some_values free (λ os. message (free_values os) t ≡ Some m) (λ os. is_some_of same_message (message (free_values os) t) m)
