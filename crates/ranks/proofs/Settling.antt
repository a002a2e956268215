-- A field may stand for an atom exactly where some values say so that also say what is settled.
use Rattle.std.specs.Prelude.{◌≡◌, ℕ, zero, suc, ◌<◌, Bool, true, false, not, ◌&&◌, ◌||◌, List, [], ◌∷◌, Some, None, Option, ◌==◌, nat_lt, slice_index_or}
use Rattle.std.proofs.Common.{sym, refl, ap, subst, ◌∙◌, arith, eq-eqb, eqb-true}
use Rattle.std.proofs.Math.Decide.{ℕ_discrete}
use Rattle.std.proofs.lemmas.Bool.{cond-true}
use Rattle.std.proofs.lemmas.Option.{none-some, same_Some, cond_some}
use Rattle.message.specs.declared.Atom.{Atom}
use Rattle.message.specs.declared.Atom.TheVariants.{Agent, Nonce, Text}
use Rattle.message.specs.declared.Kind.{Kind}
use Rattle.message.specs.declared.Kind.TheVariants as kind
use Rattle.message.specs.Message.{Fits, atom, single, size}
use Rattle.model.specs.declared.node.Field.{Field}
use Rattle.model.specs.declared.node.Field.TheVariants.{Player, Variable, Named}
use Rattle.model.specs.Sheet as model
use Rattle.instances.specs.Instances.{Of}
use Rattle.instances.specs.Substitution.{Values, atom_at, value}
use Rattle.ranks.specs.Matching.{Stands, allows, is_atom, is_kind, is_variable, kind_of_free, may_stand, same, stands}
use Rattle.ranks.specs.Ranks.{EachOf, free_values, kind_of}

-- the settled fields stand for what they do
abbrev pub Settles : Values → List Stands → Type 0
Settles v [] = Unit {0}
Settles v (s ∷ ss) = (value v s.field ≡ Some s.atom) × Settles v ss

-- some values of the free variables under which they do
abbrev pub Solvable : List model.Variable → List Stands → Type 0
Solvable free ss = (vars : List (Option Atom)) × EachOf free vars × Settles (free_values vars) ss

-- ---- the tests

pub both_true : (a b : Bool) → a ≡ true → b ≡ true → (a && b) ≡ true
both_true a b p q = (λ i. p i && q i)

pub first_true : (a b : Bool) → (a && b) ≡ true → a ≡ true
first_true true b e = refl
first_true false b e = e

pub second_true : (a b : Bool) → (a && b) ≡ true → b ≡ true
second_true true b e = e
second_true false b e = let z : false ≡ true = e in cc

pub same_self : (x : Atom) → same x x ≡ true
same_self (Agent n) = eq-eqb n n refl
same_self (Nonce n) = eq-eqb n n refl
same_self (Text n) = eq-eqb n n refl

pub kind_self : (k : Kind) (n : ℕ) → is_kind k (atom k n) ≡ true
kind_self kind.Agent n = refl
kind_self kind.Nonce n = refl
kind_self kind.Text n = refl

pub same_is : (x y : Atom) → same x y ≡ true → x ≡ y
same_is (Agent m) (Agent n) e = ap Agent (eqb-true m n e)
same_is (Agent m) (Nonce n) e = cc
same_is (Agent m) (Text n) e = cc
same_is (Nonce m) (Agent n) e = cc
same_is (Nonce m) (Nonce n) e = ap Nonce (eqb-true m n e)
same_is (Nonce m) (Text n) e = cc
same_is (Text m) (Agent n) e = cc
same_is (Text m) (Nonce n) e = cc
same_is (Text m) (Text n) e = ap Text (eqb-true m n e)

-- an atom that passes is the one of the kind and number, which is one of the kind's
pub atom_is : (k : Kind) (n : ℕ) (x : Atom) → is_atom k n x ≡ true → (nat_lt n (size k) ≡ true) × (atom k n ≡ x)
atom_is k n x e = (first_true _ _ e, same_is (atom k n) x (second_true (nat_lt n (size k)) _ e))

-- what a name stands for
pub name_said : (k : Kind) (n : ℕ) (x : Atom) → atom_at k n ≡ Some x → is_atom k n x ≡ true
name_said k n x e =
    let (lt, is) = cond_some _ _ _ e in
    subst (λ (z : Atom). is_atom k n z ≡ true) is (both_true _ _ lt (same_self (atom k n)))

pub said_name : (k : Kind) (n : ℕ) (x : Atom) → is_atom k n x ≡ true → atom_at k n ≡ Some x
said_name k n x e =
    let (lt, is) = atom_is k n x e in
    cond-true (nat_lt n (size k)) (Some (atom k n)) None lt ∙ ap Some is

pub kind_is : (k : Kind) (x : Atom) → Fits (single x) → is_kind k x ≡ true → Of k x
kind_is kind.Agent (Agent m) h e = (m, h, refl)
kind_is kind.Agent (Nonce m) h e = cc
kind_is kind.Agent (Text m) h e = cc
kind_is kind.Nonce (Agent m) h e = cc
kind_is kind.Nonce (Nonce m) h e = (m, h, refl)
kind_is kind.Nonce (Text m) h e = cc
kind_is kind.Text (Agent m) h e = cc
kind_is kind.Text (Nonce m) h e = cc
kind_is kind.Text (Text m) h e = (m, h, refl)

-- ---- values of the free variables

-- each stands for an atom of its kind
each_at : (free : List model.Variable) (vars : List (Option Atom)) → EachOf free vars → (i : ℕ) (x : Atom) → slice_index_or vars i None ≡ Some x → kind_of_free free i x ≡ true
each_at [] [] each i x e = absurd (none-some x e)
each_at [] (o ∷ os) each i x e = absurd each
each_at (v ∷ vs) [] each i x e = absurd each
each_at (v ∷ vs) (o ∷ os) each zero x e =
    let (y, is, n, lt, y-is) = flat in
    let same : x ≡ atom (kind_of v.sort) n = same_Some x y (sym e ∙ is) ∙ y-is in
    subst (λ (z : Atom). is_kind (kind_of v.sort) z ≡ true) (sym same) (kind_self (kind_of v.sort) n)
  where
    flat : (y : Atom) × (o ≡ Some y) × (n : ℕ) × (n < size (kind_of v.sort)) × (y ≡ atom (kind_of v.sort) n)
    flat = (each.0.0, each.0.1, each.0.2.0, each.0.2.1, each.0.2.2)
each_at (v ∷ vs) (o ∷ os) each (suc i) x e = each_at vs os each.1 i x e

-- some values that they may have
pub any_values : (free : List model.Variable) → (vars : List (Option Atom)) × EachOf free vars
any_values [] = ([], tt)
any_values (v ∷ vs) =
    let rest = any_values vs in
    (Some (atom (kind_of v.sort) 0) ∷ rest.0, ((atom (kind_of v.sort) 0, refl, (0, some_of (kind_of v.sort), refl)), rest.1))
  where
    some_of : (k : Kind) → 0 < size k
    some_of kind.Agent = omega arith
    some_of kind.Nonce = omega arith
    some_of kind.Text = omega arith

-- the values with another one at a number
put : List (Option Atom) → ℕ → Atom → List (Option Atom)
put [] i x = []
put (o ∷ os) zero x = Some x ∷ os
put (o ∷ os) (suc i) x = o ∷ put os i x

put_each : (free : List model.Variable) (vars : List (Option Atom)) → EachOf free vars → (i : ℕ) (x : Atom) → Fits (single x) → kind_of_free free i x ≡ true
    → EachOf free (put vars i x) × (slice_index_or (put vars i x) i None ≡ Some x)
unfolding put
put_each [] [] each i x h e = let z : false ≡ true = e in cc
put_each [] (o ∷ os) each i x h e = absurd each
put_each (v ∷ vs) [] each i x h e = absurd each
put_each (v ∷ vs) (o ∷ os) each zero x h e = (((x, refl, kind_is (kind_of v.sort) x h e), each.1), refl)
put_each (v ∷ vs) (o ∷ os) each (suc i) x h e = let rest = put_each vs os each.1 i x h e in ((each.0, rest.0), rest.1)

put_other : (vars : List (Option Atom)) (i j : ℕ) (x : Atom) → (j ≡ i → ⊥) → slice_index_or (put vars i x) j None ≡ slice_index_or vars j None
unfolding put
put_other [] i j x ne = refl
put_other (o ∷ os) zero zero x ne = absurd (ne refl)
put_other (o ∷ os) zero (suc j) x ne = refl
put_other (o ∷ os) (suc i) zero x ne = refl
put_other (o ∷ os) (suc i) (suc j) x ne = put_other os i j x (λ e. ne (ap suc e))

-- ---- what is settled

-- what is settled agrees with what values say
allows_said : (v : Values) (ss : List Stands) → Settles v ss → (i : ℕ) (x : Atom) → value v (Variable i) ≡ Some x → allows ss i x ≡ true
allows_said v [] all i x e = refl
allows_said v (s ∷ ss) all i x e = both_true (not (is_variable s.field i) || same s.atom x) (allows ss i x) (here s.field all.0) (allows_said v ss all.1 i x e)
  where
    here : (f : Field) → value v f ≡ Some s.atom → (not (is_variable f i) || same s.atom x) ≡ true
    here Player is = refl
    here (Named k n) is = refl
    here (Variable j) is = at (j == i) (λ t. eqb-true j i t)
      where
        at : (t : Bool) → (t ≡ true → j ≡ i) → (not t || same s.atom x) ≡ true
        at false h = refl
        at true h =
            let there : s.atom ≡ x = same_Some s.atom x (sym is ∙ ap (λ k. value v (Variable k)) (h refl) ∙ e) in
            subst (λ (z : Atom). same s.atom z ≡ true) there (same_self s.atom)

-- a variable that is settled anew leaves what is settled as it is
settled_still : (vars : List (Option Atom)) (i : ℕ) (x : Atom) → slice_index_or (put vars i x) i None ≡ Some x
    → (ss : List Stands) → allows ss i x ≡ true → Settles (free_values vars) ss → Settles (free_values (put vars i x)) ss
settled_still vars i x new [] ok all = tt
settled_still vars i x new (s ∷ ss) ok all =
    (here s.field all.0 (first_true _ _ ok), settled_still vars i x new ss (second_true (not (is_variable s.field i) || same s.atom x) _ ok) all.1)
  where
    here : (f : Field) → value (free_values vars) f ≡ Some s.atom → (not (is_variable f i) || same s.atom x) ≡ true → value (free_values (put vars i x)) f ≡ Some s.atom
    here Player is t = is
    here (Named k n) is t = is
    here (Variable j) is t = at (ℕ_discrete j i)
      where
        at : Dec (j ≡ i) → slice_index_or (put vars i x) j None ≡ Some s.atom
        at (no ne) = put_other vars i j x ne ∙ is
        at (yes e) =
            let said : same s.atom x ≡ true = subst (λ (b : Bool). (not b || same s.atom x) ≡ true) (eq-eqb j i e) t in
            ap (λ k. slice_index_or (put vars i x) k None) e ∙ new ∙ ap Some (sym (same_is s.atom x said))

-- ---- fields

-- what values say of a field may be
pub may_said : (free : List model.Variable) (vars : List (Option Atom)) → EachOf free vars → (ss : List Stands) → Settles (free_values vars) ss
    → (f : Field) (x : Atom) → value (free_values vars) f ≡ Some x → may_stand free ss f x ≡ true
may_said free vars each ss all Player x e = absurd (none-some x e)
may_said free vars each ss all (Variable i) x e = both_true _ _ (each_at free vars each i x e) (allows_said (free_values vars) ss all i x e)
may_said free vars each ss all (Named k n) x e = name_said k n x e

-- what may be is said by some values
pub may_be_said : (free : List model.Variable) (ss : List Stands) (f : Field) (x : Atom) → Fits (single x) → may_stand free ss f x ≡ true → Solvable free ss → Solvable free (stands f x ∷ ss)
may_be_said free ss Player x h e s = let z : false ≡ true = e in cc
may_be_said free ss (Variable i) x h e (vars, each, all) =
    let (new, at) = put_each free vars each i x h (first_true _ _ e) in
    (put vars i x, new, (at, settled_still vars i x at ss (second_true (kind_of_free free i x) _ e) all))
may_be_said free ss (Named k n) x h e (vars, each, all) = (vars, each, (said_name k n x e, all))
