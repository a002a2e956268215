-- Whether values are an instance of a role, with one for each variable, is decided.
use Rattle.std.proofs.Common.{◌≡◌, ℕ, suc, ◌<◌, ◌≤◌, true, ◌⊎◌, List, [], ◌∷◌, length, Some, Option, sym, refl, ap, subst, ◌∙◌}
use Rattle.std.specs.List.{slice_get}
use Rattle.std.proofs.Math.Decide.{ℕ_discrete}
use Rattle.message.specs.declared.Atom.{Atom}
use Rattle.message.specs.declared.Atom.TheVariants as atoms
use Rattle.message.specs.declared.Kind.{Kind}
use Rattle.message.specs.declared.Kind.TheVariants as kind
use Rattle.message.specs.Message.{atom, size}
use Rattle.model.specs.declared.node.Sort.{Sort}
use Rattle.model.specs.declared.node.Sort.TheVariants.{Fresh, Plain}
use Rattle.model.specs.Sheet.{Nonce, Role, Sheet, Variable, honest, may_play, named}
use Rattle.instances.specs.Instances.{Allowed, Instance, NamedFor, Of}
use Rattle.ranks.proofs.Finding.{dec_by}
use Rattle.checker.specs.Verdicts.{number}
use Rattle.checker.proofs.BadSteps.{Each, each_declared, each_from, each_length, each_whole}
use Rattle.checker.proofs.Deciding.{at_most_decided, below_decided, both_decided, either_decided, there_decided, true_decided}
use Rattle.checker.proofs.Slots.{number_atom}

numbered_decided : (k : Kind) (n : ℕ) → Dec (Of k (atom k n))
numbered_decided k n =
    dec_by
    (λ l. (n, l, refl))
    (λ o. let same : o.0 ≡ n = sym (number_atom k o.0) ∙ ap number (sym o.2) ∙ number_atom k n in subst (λ (m : ℕ). m < size k) same o.1)
    (below_decided n (size k))

of_decided : (k : Kind) (x : Atom) → Dec (Of k x)
of_decided kind.Agent (atoms.Agent n) = numbered_decided kind.Agent n
of_decided kind.Agent (atoms.Nonce n) = no (λ o. let e : atoms.Nonce n ≡ atoms.Agent o.0 = o.2 in cc)
of_decided kind.Agent (atoms.Text n) = no (λ o. let e : atoms.Text n ≡ atoms.Agent o.0 = o.2 in cc)
of_decided kind.Nonce (atoms.Agent n) = no (λ o. let e : atoms.Agent n ≡ atoms.Nonce o.0 = o.2 in cc)
of_decided kind.Nonce (atoms.Nonce n) = numbered_decided kind.Nonce n
of_decided kind.Nonce (atoms.Text n) = no (λ o. let e : atoms.Text n ≡ atoms.Nonce o.0 = o.2 in cc)
of_decided kind.Text (atoms.Agent n) = no (λ o. let e : atoms.Agent n ≡ atoms.Text o.0 = o.2 in cc)
of_decided kind.Text (atoms.Nonce n) = no (λ o. let e : atoms.Nonce n ≡ atoms.Text o.0 = o.2 in cc)
of_decided kind.Text (atoms.Text n) = numbered_decided kind.Text n

module _ (sheet : Sheet) (r a : ℕ) where
  named_decided : (i n : ℕ) → Dec (NamedFor sheet r a i n)
  named_decided i n =
      dec_by
      (λ (x : (l : Nonce) × (slice_get sheet.nonces n ≡ Some l) × ((l.agent ≡ a) × ((l.role ≡ r) × (l.variable ≡ i)))). record { line = x.0; is-line = x.1; agent = x.2.0; role = x.2.1.0; variable = x.2.1.1 })
      (λ x. (x.line, x.is-line, (x.agent, (x.role, x.variable))))
      (there_decided (λ (l : Nonce). (l.agent ≡ a) × ((l.role ≡ r) × (l.variable ≡ i))) (λ l. both_decided (ℕ_discrete l.agent a) (both_decided (ℕ_discrete l.role r) (ℕ_discrete l.variable i))) (slice_get sheet.nonces n))

  -- a fresh variable may stand for the nonce of this number
  abbrev Free : ℕ → ℕ → Type 0
  Free i n = (named sheet kind.Nonce ≤ n) ⊎ NamedFor sheet r a i n

  fresh_decided : (i : ℕ) (x : Atom) → Dec (Of kind.Nonce x) → Dec (Allowed sheet r a i Fresh x)
  fresh_decided i x (yes o) = dec_by (λ f. (o.0, o.1, o.2, f)) other (either_decided (at_most_decided (named sheet kind.Nonce) o.0) (named_decided i o.0))
    where
      other : Allowed sheet r a i Fresh x → Free i o.0
      other h =
          let e : atoms.Nonce h.0 ≡ atoms.Nonce o.0 = sym h.2 ∙ o.2 in
          let same : h.0 ≡ o.0 = cc in
          subst (Free i) same h.3
  fresh_decided i x (no none) = no (λ h. none (h.0, h.1, h.2))

  allowed_decided : (i : ℕ) (s : Sort) (x : Atom) → Dec (Allowed sheet r a i s x)
  allowed_decided i Fresh x = fresh_decided i x (of_decided kind.Nonce x)
  allowed_decided i (Plain k) x = of_decided k x

each_decided : (May : ℕ → Sort → Atom → Type 0) → ((i : ℕ) (s : Sort) (x : Atom) → Dec (May i s x)) → (vs : List Variable) (os : List (Option Atom)) → Dec (Each May vs os)
each_decided May decided [] [] = yes tt
each_decided May decided [] (o ∷ os) = no (λ e. e)
each_decided May decided (v ∷ vs) [] = no (λ e. e)
each_decided May decided (v ∷ vs) (o ∷ os) = both_decided (there_decided (May 0 v.sort) (decided 0 v.sort) o) (each_decided (λ i. May (suc i)) (λ i. decided (suc i)) vs os)

-- An instance with one value for each variable.
pub record Sole (sheet : Sheet) (r : ℕ) (role : Role) (a : ℕ) (values : List (Option Atom)) : Type 0 where
  pub is-instance : Instance sheet r role a values
  pub one-each : length values ≡ length role.variables

module _ (sheet : Sheet) (r a : ℕ) (role : Role) (values : List (Option Atom)) where
  abbrev Parts : Type 0
  Parts = (honest (slice_get sheet.agents a) ≡ true) × ((may_play sheet.agents role.player a ≡ true) × Each (Allowed sheet r a) role.variables values)

  sole-parts : Sole sheet r role a values → Parts
  sole-parts s = (s.is-instance.is-honest, (s.is-instance.plays, each_from (Allowed sheet r a) role.variables values s.one-each s.is-instance.whole))

  parts-sole : Parts → Sole sheet r role a values
  parts-sole p = record {
    is-instance = record {
      is-honest = p.0;
      plays = p.1.0;
      whole = each_whole (Allowed sheet r a) role.variables values p.1.1;
      declared = each_declared (Allowed sheet r a) role.variables values p.1.1;
    };
    one-each = each_length (Allowed sheet r a) role.variables values p.1.1;
  }

  pub sole_decided : Dec (Sole sheet r role a values)
  sole_decided =
      dec_by parts-sole sole-parts
      (both_decided (true_decided (honest (slice_get sheet.agents a)))
      (both_decided (true_decided (may_play sheet.agents role.player a)) (each_decided (Allowed sheet r a) (allowed_decided sheet r a) role.variables values)))
