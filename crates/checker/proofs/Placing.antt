-- Rows of numbers that may stand at the places, and the values that may be tried: each is the other.
use Rattle.std.proofs.Common.{◌≡◌, ℕ, zero, suc, ◌+◌, ◌<◌, ◌≤◌, Bool, true, false, cond, ◌&&◌, nat_eq, ◌⊎◌, List, [], ◌∷◌, map, length, replicate, Some, None, Option, inl, inr, sym, refl, ap, subst, ◌∙◌, arith, eq-eqb}
use Rattle.std.specs.Prelude.{MatchBool}
use Rattle.std.specs.List.{slice_get}
use Rattle.std.specs.Option.{option_map}
use Rattle.std.proofs.lemmas.Bool.{cases_lt, eqb-true, false≢true, lt-ltb}
use Rattle.std.proofs.lemmas.Option.{none-some, same_Some, slice_get_within}
use Rattle.std.proofs.lemmas.Simd.{map-map}
use Rattle.message.specs.declared.Atom.{Atom}
use Rattle.message.specs.declared.Kind.{Kind}
use Rattle.message.specs.declared.Kind.TheVariants as kind
use Rattle.message.specs.Message.{atom, size}
use Rattle.model.specs.declared.node.Sort.{Sort}
use Rattle.model.specs.declared.node.Sort.TheVariants.{Fresh, Plain}
use Rattle.model.specs.Sheet.{Nonce, Sheet, Variable, is_for, named}
use Rattle.model.specs.Trees.{Term}
use Rattle.model.specs.Variables.{stands_in}
use Rattle.instances.specs.Instances as instances
use Rattle.instances.specs.Instances.{NamedFor, Of}
use Rattle.instances.specs.Substitution.{atom_at, both}
use Rattle.ranks.specs.Ranks.{kind_of}
use Rattle.search.specs.declared.place.Place.{Place}
use Rattle.search.specs.Rows.{Allowed, Fits, count}
use Rattle.checker.specs.Rows.{Choice, any_of, choice, choice_at, counts, filled, filling, open_choices, own_nonce, role_choices, role_slots, seal_slots}
use Rattle.checker.specs.Verdicts.{EachStanding, number, numbers}
use Rattle.checker.proofs.BadSteps.{Each}
use Rattle.checker.proofs.Filling.{kinds}

-- ---- choices in the place of places

-- a number that the choice leaves
abbrev pub FitsIn : Sheet → Choice → ℕ → Type 0
FitsIn m c n = (n < size c.kind) × ((n < named m c.kind) × (slice_get c.named n ≡ Some true) ⊎ (named m c.kind ≤ n) × (c.strangers ≡ true))

abbrev pub AllowedIn : Sheet → List Choice → List ℕ → Type 0
AllowedIn m [] [] = Unit {0}
AllowedIn m [] (x ∷ xs) = ⊥
AllowedIn m (c ∷ cs) [] = ⊥
AllowedIn m (c ∷ cs) (x ∷ xs) = FitsIn m c x × AllowedIn m cs xs

pub count_named : (m : Sheet) (k : Kind) → count (counts m) k ≡ named m k
count_named m kind.Agent = refl
count_named m kind.Nonce = refl
count_named m kind.Text = refl

fits_in : (m : Sheet) (p : Place) (x : ℕ) → Fits (counts m) p x → FitsIn m (choice_at p) x
fits_in m p x (fit, inl (lt, flag)) = (fit, inl (omega (arith, count_named m p.kind), flag))
fits_in m p x (fit, inr (le, let-in)) = (fit, inr (omega (arith, count_named m p.kind), let-in))

in_fits : (m : Sheet) (p : Place) (x : ℕ) → FitsIn m (choice_at p) x → Fits (counts m) p x
in_fits m p x (fit, inl (lt, flag)) = (fit, inl (omega (arith, count_named m p.kind), flag))
in_fits m p x (fit, inr (le, let-in)) = (fit, inr (omega (arith, count_named m p.kind), let-in))

allowed_there : (m : Sheet) (ps : List Place) (xs : List ℕ) → Allowed (counts m) ps xs → AllowedIn m (map choice_at ps) xs
allowed_there m [] [] h = tt
allowed_there m [] (x ∷ xs) h = h
allowed_there m (p ∷ ps) [] h = h
allowed_there m (p ∷ ps) (x ∷ xs) h = (fits_in m p x h.0, allowed_there m ps xs h.1)

there_allowed : (m : Sheet) (ps : List Place) (xs : List ℕ) → AllowedIn m (map choice_at ps) xs → Allowed (counts m) ps xs
there_allowed m [] [] h = tt
there_allowed m [] (x ∷ xs) h = h
there_allowed m (p ∷ ps) [] h = h
there_allowed m (p ∷ ps) (x ∷ xs) h = (in_fits m p x h.0, there_allowed m ps xs h.1)

module _ (m : Sheet) (ps : List Place) (cs : List Choice) (same : map choice_at ps ≡ cs) (xs : List ℕ) where
  pub allowed_in : Allowed (counts m) ps xs → AllowedIn m cs xs
  allowed_in h = subst (λ (l : List Choice). AllowedIn m l xs) same (allowed_there m ps xs h)

  pub in_allowed : AllowedIn m cs xs → Allowed (counts m) ps xs
  in_allowed h = there_allowed m ps xs (subst (λ (l : List Choice). AllowedIn m l xs) (sym same) h)

-- The kinds at the places are those of the choices.
pub kinds_at : (ps : List Place) (cs : List Choice) → map choice_at ps ≡ cs → map (λ p. p.kind) ps ≡ map (λ c. c.kind) cs
kinds_at ps cs same = sym (map-map (λ (c : Choice). c.kind) choice_at ps) ∙ ap (map (λ (c : Choice). c.kind)) same

-- ---- flags

map_at : {A B : Type 0} (f : A → B) (xs : List A) (n : ℕ) → slice_get (map f xs) n ≡ option_map f (slice_get xs n)
map_at f [] n = refl
map_at f (x ∷ xs) zero = refl
map_at f (x ∷ xs) (suc n) = map_at f xs n

all_at : (many n : ℕ) → n < many → slice_get (replicate many true) n ≡ Some true
all_at zero n lt = absurd (omega arith)
all_at (suc many) zero lt = refl
all_at (suc many) (suc n) lt = all_at many n (omega arith)

both_true : (a b : Bool) → (a && b) ≡ true → (a ≡ true) × (b ≡ true)
both_true true b e = (refl, e)
both_true false b e = absurd (false≢true e)

module _ (m : Sheet) (r a i : ℕ) where
  for_named : (n : ℕ) (o : Option Nonce) → slice_get m.nonces n ≡ o → option_map (is_for r a i) o ≡ Some true → NamedFor m r a i n
  for_named n None is e = absurd (none-some true e)
  for_named n (Some l) is e =
      let (agent, rest) = both_true (nat_eq l.agent a) (nat_eq l.role r && nat_eq l.variable i) (same_Some _ _ e) in
      let (role, variable) = both_true (nat_eq l.role r) (nat_eq l.variable i) rest in
      record { line = l; is-line = is; agent = eqb-true _ _ agent; role = eqb-true _ _ role; variable = eqb-true _ _ variable }

  named_for : (n : ℕ) → NamedFor m r a i n → slice_get (map (is_for r a i) m.nonces) n ≡ Some true
  named_for n l =
      map_at (is_for r a i) m.nonces n ∙ ap (option_map (is_for r a i)) l.is-line
      ∙ ap Some (rw (eq-eqb l.line.agent a l.agent, eq-eqb l.line.role r l.role, eq-eqb l.line.variable i l.variable) refl)

  -- ---- one variable of a role

  fits_allowed : (s : Sort) (x : ℕ) → FitsIn m (choice m r a i s) x → instances.Allowed m r a i s (atom (kind_of s) x)
  fits_allowed Fresh x (fit, inl (lt, flag)) = (x, fit, refl, inr (for_named x (slice_get m.nonces x) refl (sym (map_at (is_for r a i) m.nonces x) ∙ flag)))
  fits_allowed Fresh x (fit, inr (le, let-in)) = (x, fit, refl, inl le)
  fits_allowed (Plain k) x (fit, w) = (x, fit, refl)

  number_is : (k : Kind) (n : ℕ) → number (atom k n) ≡ n
  number_is kind.Agent n = refl
  number_is kind.Nonce n = refl
  number_is kind.Text n = refl

  any_fits : (k : Kind) (n : ℕ) → n < size k → FitsIn m (any_of m k) n
  any_fits k n fit = (fit, elim (cases_lt n (named m k)) [ inl l ↦ inl (l, all_at (named m k) n l) | inr l ↦ inr (l, refl) ])

  allowed_fits : (s : Sort) (y : Atom) → instances.Allowed m r a i s y → FitsIn m (choice m r a i s) (number y)
  allowed_fits Fresh y (n, fit, is, inl le) = subst (FitsIn m (own_nonce m r a i)) (sym (ap number is ∙ number_is kind.Nonce n)) (fit, inr (le, refl))
  allowed_fits Fresh y (n, fit, is, inr l) =
      subst (FitsIn m (own_nonce m r a i)) (sym (ap number is ∙ number_is kind.Nonce n))
      (fit, inl (slice_get_within m.nonces n l.line l.is-line, named_for n l))
  allowed_fits (Plain k) y (n, fit, is) = subst (FitsIn m (any_of m k)) (sym (ap number is ∙ number_is k n)) (any_fits k n fit)

-- ---- a role's variables

module _ (m : Sheet) (r a : ℕ) where
  abbrev May : (ℕ → ℕ) → ℕ → Sort → Atom → Type 0
  May at j s x = instances.Allowed m r a (at j) s x

  at_next : (at : ℕ → ℕ) (i : ℕ) → ((j : ℕ) → at j ≡ i + j) → (j : ℕ) → at (suc j) ≡ (i + 1) + j
  at_next at i is j = let e : at (suc j) ≡ i + suc j = is (suc j) in omega (arith, e)

  at_first : (at : ℕ → ℕ) (i : ℕ) → ((j : ℕ) → at j ≡ i + j) → at 0 ≡ i
  at_first at i is = let e : at 0 ≡ i + 0 = is 0 in omega (arith, e)

  allowed_each : (at : ℕ → ℕ) (i : ℕ) → ((j : ℕ) → at j ≡ i + j) → (vs : List Variable) (xs : List ℕ) → AllowedIn m (role_choices m r a i vs) xs → Each (May at) vs (filled (role_slots vs) xs)
  allowed_each at i is [] [] h = tt
  allowed_each at i is [] (x ∷ xs) h = tt
  allowed_each at i is (v ∷ vs) [] h = absurd h
  allowed_each at i is (v ∷ vs) (x ∷ xs) h = (
    (
      atom (kind_of v.sort) x,
      refl,
      subst (λ (n : ℕ). instances.Allowed m r a n v.sort (atom (kind_of v.sort) x)) (sym (at_first at i is)) (fits_allowed m r a i v.sort x h.0),
    ),
    allowed_each (λ j. at (suc j)) (i + 1) (at_next at i is) vs xs h.1,
  )

  each_allowed : (at : ℕ → ℕ) (i : ℕ) → ((j : ℕ) → at j ≡ i + j) → (vs : List Variable) (os : List (Option Atom)) → Each (May at) vs os → AllowedIn m (role_choices m r a i vs) (numbers os)
  each_allowed at i is [] [] h = tt
  each_allowed at i is [] (o ∷ os) h = absurd h
  each_allowed at i is (v ∷ vs) [] h = absurd h
  each_allowed at i is (v ∷ vs) (None ∷ os) h = absurd (none-some h.0.0 h.0.1)
  each_allowed at i is (v ∷ vs) (Some x ∷ os) h = (
    allowed_fits m r a i v.sort x
        (subst (λ (n : ℕ). instances.Allowed m r a n v.sort x) (at_first at i is) (subst (instances.Allowed m r a (at 0) v.sort) (sym (same_Some x h.0.0 h.0.1)) h.0.2)),
    each_allowed (λ j. at (suc j)) (i + 1) (at_next at i is) vs os h.1,
  )

  atom_number : (k : Kind) (x : Atom) → Of k x → atom k (number x) ≡ x
  atom_number k x (n, fit, is) = ap (λ (y : Atom). atom k (number y)) is ∙ ap (atom k) (number_is m r a 0 k n) ∙ sym is

  may_of : (i : ℕ) (s : Sort) (x : Atom) → instances.Allowed m r a i s x → Of (kind_of s) x
  may_of i Fresh x h = (h.0, h.1, h.2)
  may_of i (Plain k) x h = h

  each_filled : (at : ℕ → ℕ) (vs : List Variable) (os : List (Option Atom)) → Each (May at) vs os → filled (role_slots vs) (numbers os) ≡ os
  each_filled at [] [] h = refl
  each_filled at [] (o ∷ os) h = absurd h
  each_filled at (v ∷ vs) [] h = absurd h
  each_filled at (v ∷ vs) (None ∷ os) h = absurd (none-some h.0.0 h.0.1)
  each_filled at (v ∷ vs) (Some x ∷ os) h =
      let of : Of (kind_of v.sort) x = may_of (at 0) v.sort x (subst (instances.Allowed m r a (at 0) v.sort) (sym (same_Some x h.0.0 h.0.1)) h.0.2) in
      ap (λ (y : Atom). Some y ∷ filled (role_slots vs) (numbers os)) (atom_number (kind_of v.sort) x of)
      ∙ ap (λ (l : List (Option Atom)). Some x ∷ l) (each_filled (λ j. at (suc j)) vs os h.1)

  -- for all of the variables, counted from 0
  pub row_each : (vs : List Variable) (xs : List ℕ) → AllowedIn m (role_choices m r a 0 vs) xs → Each (instances.Allowed m r a) vs (filled (role_slots vs) xs)
  row_each vs xs h = allowed_each (λ j. j) 0 (λ j. omega arith) vs xs h

  pub each_row : (vs : List Variable) (os : List (Option Atom)) → Each (instances.Allowed m r a) vs os → AllowedIn m (role_choices m r a 0 vs) (numbers os)
  each_row vs os h = each_allowed (λ j. j) 0 (λ j. omega arith) vs os h

  pub each_same : (vs : List Variable) (os : List (Option Atom)) → Each (instances.Allowed m r a) vs os → filled (role_slots vs) (numbers os) ≡ os
  each_same vs os h = each_filled (λ j. j) vs os h

  kind_chosen : (i : ℕ) (s : Sort) → (choice m r a i s).kind ≡ kind_of s
  kind_chosen i Fresh = refl
  kind_chosen i (Plain k) = refl

  pub role_kinds : (i : ℕ) (vs : List Variable) → map (λ c. c.kind) (role_choices m r a i vs) ≡ kinds (role_slots vs)
  role_kinds i [] = refl
  role_kinds i (v ∷ vs) = ap (λ (k : Kind). k ∷ map (λ c. c.kind) (role_choices m r a (i + 1) vs)) (kind_chosen i v.sort) ∙ ap (λ (ks : List Kind). kind_of v.sort ∷ ks) (role_kinds (i + 1) vs)

-- ---- the variables that stand in a seal

module _ (m : Sheet) where
  pub open_kinds : (ks : List (Option Kind)) → map (λ c. c.kind) (open_choices m ks) ≡ kinds ks
  open_kinds [] = refl
  open_kinds (None ∷ ks) = open_kinds ks
  open_kinds (Some k ∷ ks) = ap (λ (js : List Kind). k ∷ js) (open_kinds ks)

  -- the values of a first variable and of the rest
  abbrev Begins : Term → ℕ → List Variable → Bool → Kind → List (Option Atom) → Type 0
  Begins t i vs b k [] = ⊥
  Begins t i vs b k (o ∷ os) = MatchBool b ((x : Atom) × (o ≡ Some x) × Of k x) (o ≡ None) × EachStanding t i vs os

  pub row_standing : (t : Term) (i : ℕ) (vs : List Variable) (xs : List ℕ) → AllowedIn m (open_choices m (seal_slots t i vs)) xs → EachStanding t i vs (filled (seal_slots t i vs) xs)
  row_standing t i [] xs h = tt
  row_standing t i (v ∷ vs) xs h = head (λ ys. row_standing t (i + 1) vs ys) (stands_in i t) xs h
    where
      head : ((ys : List ℕ) → AllowedIn m (open_choices m (seal_slots t (i + 1) vs)) ys → EachStanding t (i + 1) vs (filled (seal_slots t (i + 1) vs) ys))
          → (b : Bool) (xs : List ℕ) → AllowedIn m (open_choices m (cond b (Some (kind_of v.sort)) None ∷ seal_slots t (i + 1) vs)) xs
          → Begins t (i + 1) vs b (kind_of v.sort) (filled (cond b (Some (kind_of v.sort)) None ∷ seal_slots t (i + 1) vs) xs)
      head rest true [] h = absurd h
      head rest true (x ∷ xs) h = ((atom (kind_of v.sort) x, refl, (x, h.0.0, refl)), rest xs h.1)
      head rest false xs h = (refl, rest xs h)

  pub standing_row : (t : Term) (i : ℕ) (vs : List Variable) (os : List (Option Atom)) → EachStanding t i vs os → AllowedIn m (open_choices m (seal_slots t i vs)) (numbers os)
  standing_row t i [] [] h = tt
  standing_row t i [] (o ∷ os) h = absurd h
  standing_row t i (v ∷ vs) [] h = absurd h
  standing_row t i (v ∷ vs) (o ∷ os) h = head (standing_row t (i + 1) vs os h.1) (stands_in i t) o h.0
    where
      head : AllowedIn m (open_choices m (seal_slots t (i + 1) vs)) (numbers os) → (b : Bool) (o : Option Atom) → MatchBool b ((x : Atom) × (o ≡ Some x) × Of (kind_of v.sort) x) (o ≡ None)
          → AllowedIn m (open_choices m (cond b (Some (kind_of v.sort)) None ∷ seal_slots t (i + 1) vs)) (numbers (o ∷ os))
      head rest true None w = absurd (none-some w.0 w.1)
      head rest true (Some x) w = (
        allowed_fits m 0 0 0 (Plain (kind_of v.sort)) x (subst (Of (kind_of v.sort)) (sym (same_Some x w.0 w.1)) w.2),
        rest,
      )
      head rest false None w = rest
      head rest false (Some x) w = absurd (none-some x (sym w))

  pub standing_same : (t : Term) (i : ℕ) (vs : List Variable) (os : List (Option Atom)) → EachStanding t i vs os → filled (seal_slots t i vs) (numbers os) ≡ os
  standing_same t i [] [] h = refl
  standing_same t i [] (o ∷ os) h = absurd h
  standing_same t i (v ∷ vs) [] h = absurd h
  standing_same t i (v ∷ vs) (o ∷ os) h = head (standing_same t (i + 1) vs os h.1) (stands_in i t) o h.0
    where
      head : filled (seal_slots t (i + 1) vs) (numbers os) ≡ os → (b : Bool) (o : Option Atom) → MatchBool b ((x : Atom) × (o ≡ Some x) × Of (kind_of v.sort) x) (o ≡ None)
          → filled (cond b (Some (kind_of v.sort)) None ∷ seal_slots t (i + 1) vs) (numbers (o ∷ os)) ≡ o ∷ os
      head rest true None w = absurd (none-some w.0 w.1)
      head rest true (Some x) w =
          let of : Of (kind_of v.sort) x = subst (Of (kind_of v.sort)) (sym (same_Some x w.0 w.1)) w.2 in
          ap (λ (y : Atom). Some y ∷ filled (seal_slots t (i + 1) vs) (numbers os)) (atom_number m 0 0 (kind_of v.sort) x of)
          ∙ ap (λ (l : List (Option Atom)). Some x ∷ l) rest
      head rest false None w = ap (λ (l : List (Option Atom)). None ∷ l) rest
      head rest false (Some x) w = absurd (none-some x (sym w))

-- ---- how many

module _ (m : Sheet) where
  -- An allowed row has just as many numbers as there are slots with a kind.
  pub allowed_length : (cs : List Choice) (ks : List Kind) (xs : List ℕ) → map (λ c. c.kind) cs ≡ ks → AllowedIn m cs xs → length xs ≡ length ks
  allowed_length [] [] [] e h = refl
  allowed_length [] (k ∷ ks) xs e h = cc
  allowed_length [] [] (x ∷ xs) e h = absurd h
  allowed_length (c ∷ cs) ks [] e h = absurd h
  allowed_length (c ∷ cs) [] (x ∷ xs) e h = cc
  allowed_length (c ∷ cs) (k ∷ ks) (x ∷ xs) e h =
      let rest : map (λ (d : Choice). d.kind) cs ≡ ks = cc in
      ap suc (allowed_length cs ks xs rest h.1)

  at_kind : (k : Kind) (x : ℕ) → x < size k → atom_at k x ≡ Some (atom k x)
  at_kind k x lt = ap (λ (b : Bool). cond b (Some (atom k x)) None) (lt-ltb x (size k) lt)

  -- And it is filled in.
  pub allowed_filling : (cs : List Choice) (slots : List (Option Kind)) (xs : List ℕ) → map (λ c. c.kind) cs ≡ kinds slots → AllowedIn m cs xs → filling slots xs ≡ Some (filled slots xs)
  allowed_filling [] [] [] e h = refl
  allowed_filling [] [] (x ∷ xs) e h = absurd h
  allowed_filling (c ∷ cs) [] xs e h = cc
  allowed_filling cs (None ∷ slots) xs e h = ap (option_map (λ (os : List (Option Atom)). None ∷ os)) (allowed_filling cs slots xs e h)
  allowed_filling [] (Some k ∷ slots) xs e h = cc
  allowed_filling (c ∷ cs) (Some k ∷ slots) [] e h = absurd h
  allowed_filling (c ∷ cs) (Some k ∷ slots) (x ∷ xs) e h =
      let is : c.kind ≡ k = cc in
      let rest : map (λ (d : Choice). d.kind) cs ≡ kinds slots = cc in
      ap (λ (o : Option Atom). both (λ a os. Some a ∷ os) o (filling slots xs)) (at_kind k x (subst (λ (j : Kind). x < size j) is h.0.0))
      ∙ ap (λ (o : Option (List (Option Atom))). both (λ a os. Some a ∷ os) (Some (atom k x)) o) (allowed_filling cs slots xs rest h.1)
