-- Where the fourth condition fails, a step of a role is bad in an instance, and the other way round.
use Rattle.std.proofs.Common.{◌≡◌, ℕ, zero, suc, List, [], ◌∷◌, length, Some, None, Option, inl, inr, sym, refl, ap, subst, ◌∙◌, arith}
use Rattle.std.specs.Prelude.{slice_index_or}
use Rattle.std.specs.List.{slice_get}
use Rattle.std.proofs.lemmas.Bool.{cases_order}
use Rattle.std.proofs.lemmas.Option.{none-some, same_Some}
use Rattle.message.specs.declared.Atom.{Atom}
use Rattle.model.specs.declared.node.Sort.{Sort}
use Rattle.model.specs.declared.node.Sort.TheVariants.{Fresh, Plain}
use Rattle.model.specs.Sheet.{Role, Sheet, Variable}
use Rattle.instances.specs.Actions.{does}
use Rattle.instances.specs.Instances.{Allowed, Instance, Of, played}
use Rattle.scale.specs.Scales.{Scale}
use Rattle.ranks.specs.Conditions.{RolesMaintain}
use Rattle.ranks.specs.Ranks.{kind_of}
use Rattle.checker.specs.Rows.{role_slots}
use Rattle.checker.specs.Verdicts.{BadStep, LeastStep, acted}
use Rattle.checker.proofs.Deciding.{maintains_decided, stable}
use Rattle.checker.proofs.Slots.{Fills, fills_order}
use Rattle.checker.proofs.Standing.{any_done}

-- ---- one value for each variable

-- values without those past the variables
abbrev cut : List Variable → List (Option Atom) → List (Option Atom)
cut [] os = []
cut (v ∷ vs) [] = []
cut (v ∷ vs) (o ∷ os) = o ∷ cut vs os

cut-length : (vs : List Variable) (os : List (Option Atom)) → ((i : ℕ) (v : Variable) → slice_get vs i ≡ Some v → (x : Atom) × (slice_index_or os i None ≡ Some x)) → length (cut vs os) ≡ length vs
cut-length [] os each = refl
cut-length (v ∷ vs) [] each = let x = each 0 v refl in absurd (none-some x.0 x.1)
cut-length (v ∷ vs) (o ∷ os) each = ap suc (cut-length vs os (λ i w is. each (suc i) w is))

cut-at : (vs : List Variable) (os : List (Option Atom)) → ((i : ℕ) (x : Atom) → slice_index_or os i None ≡ Some x → (v : Variable) × (slice_get vs i ≡ Some v)) → (i : ℕ) → slice_index_or (cut vs os) i None ≡ slice_index_or os i None
cut-at [] os declared i = past (slice_index_or os i None) refl
  where
    past : (o : Option Atom) → slice_index_or os i None ≡ o → None ≡ slice_index_or os i None
    past None e = sym e
    past (Some x) e = let v = declared i x e in absurd (none-some v.0 v.1)
cut-at (v ∷ vs) [] declared i = refl
cut-at (v ∷ vs) (o ∷ os) declared zero = refl
cut-at (v ∷ vs) (o ∷ os) declared (suc i) = cut-at vs os (λ j x e. declared (suc j) x e) i

-- Each of the variables, in order, stands for an atom that it may stand for by its number and sort, and nothing else does.
abbrev pub Each : (ℕ → Sort → Atom → Type 0) → List Variable → List (Option Atom) → Type 0
Each May [] [] = Unit {0}
Each May [] (o ∷ os) = ⊥
Each May (v ∷ vs) [] = ⊥
Each May (v ∷ vs) (o ∷ os) = ((x : Atom) × (o ≡ Some x) × May 0 v.sort x) × Each (λ i. May (suc i)) vs os

pub each_from : (May : ℕ → Sort → Atom → Type 0) (vs : List Variable) (os : List (Option Atom)) → length os ≡ length vs
    → ((i : ℕ) (v : Variable) → slice_get vs i ≡ Some v → (x : Atom) × (slice_index_or os i None ≡ Some x) × May i v.sort x) → Each May vs os
each_from May [] [] same whole = tt
each_from May [] (o ∷ os) same whole = absurd (omega arith)
each_from May (v ∷ vs) [] same whole = absurd (omega arith)
each_from May (v ∷ vs) (o ∷ os) same whole = (whole 0 v refl, each_from (λ i. May (suc i)) vs os (omega arith) (λ i w is. whole (suc i) w is))

pub each_length : (May : ℕ → Sort → Atom → Type 0) (vs : List Variable) (os : List (Option Atom)) → Each May vs os → length os ≡ length vs
each_length May [] [] e = refl
each_length May [] (o ∷ os) e = absurd e
each_length May (v ∷ vs) [] e = absurd e
each_length May (v ∷ vs) (o ∷ os) e = ap suc (each_length (λ i. May (suc i)) vs os e.1)

pub each_whole : (May : ℕ → Sort → Atom → Type 0) (vs : List Variable) (os : List (Option Atom)) → Each May vs os
    → (i : ℕ) (v : Variable) → slice_get vs i ≡ Some v → (x : Atom) × (slice_index_or os i None ≡ Some x) × May i v.sort x
each_whole May [] os e i v is = absurd (none-some v is)
each_whole May (w ∷ vs) [] e i v is = absurd e
each_whole May (w ∷ vs) (o ∷ os) e zero v is = (e.0.0, e.0.1, subst (λ (u : Variable). May 0 u.sort e.0.0) (same_Some w v is) e.0.2)
each_whole May (w ∷ vs) (o ∷ os) e (suc i) v is = each_whole (λ j. May (suc j)) vs os e.1 i v is

pub each_declared : (May : ℕ → Sort → Atom → Type 0) (vs : List Variable) (os : List (Option Atom)) → Each May vs os
    → (i : ℕ) (x : Atom) → slice_index_or os i None ≡ Some x → (v : Variable) × (slice_get vs i ≡ Some v)
each_declared May vs [] e i x is = absurd (none-some x is)
each_declared May [] (o ∷ os) e i x is = absurd e
each_declared May (v ∷ vs) (o ∷ os) e zero x is = (v, refl)
each_declared May (v ∷ vs) (o ∷ os) e (suc i) x is = each_declared (λ j. May (suc j)) vs os e.1 i x is

each-fills : (May : ℕ → Sort → Atom → Type 0) → ((i : ℕ) (s : Sort) (x : Atom) → May i s x → Of (kind_of s) x) → (vs : List Variable) (os : List (Option Atom)) → Each May vs os → Fills (role_slots vs) os
each-fills May of [] [] e = tt
each-fills May of [] (o ∷ os) e = absurd e
each-fills May of (v ∷ vs) [] e = absurd e
each-fills May of (v ∷ vs) (o ∷ os) e = ((e.0.0, e.0.1, of 0 v.sort e.0.0 e.0.2), each-fills (λ i. May (suc i)) (λ i. of (suc i)) vs os e.1)

module _ (sheet : Sheet) (r a : ℕ) where
  allowed-of : (i : ℕ) (s : Sort) (x : Atom) → Allowed sheet r a i s x → Of (kind_of s) x
  allowed-of i Fresh x h = (h.0, h.1, h.2)
  allowed-of i (Plain k) x h = h

  pub instance_fills : (role : Role) (values : List (Option Atom)) → Instance sheet r role a values → length values ≡ length role.variables → Fills (role_slots role.variables) values
  instance_fills role values inst same =
      each-fills (Allowed sheet r a) allowed-of role.variables values (each_from (Allowed sheet r a) role.variables values same inst.whole)

  -- an instance with one value for each variable
  module _ (role : Role) (values : List (Option Atom)) (inst : Instance sheet r role a values) where
    cut-same : (i : ℕ) → slice_index_or (cut role.variables values) i None ≡ slice_index_or values i None
    cut-same = cut-at role.variables values inst.declared

    cut-instance : Instance sheet r role a (cut role.variables values)
    cut-instance = record {
      is-honest = inst.is-honest;
      plays = inst.plays;
      whole = λ i v is. let x = inst.whole i v is in (x.0, cut-same i ∙ x.1, x.2);
      declared = λ i x e. inst.declared i x (sym (cut-same i) ∙ e);
    }

    cut-one-each : length (cut role.variables values) ≡ length role.variables
    cut-one-each = cut-length role.variables values (λ i v is. let x = inst.whole i v is in (x.0, x.1))

    cut-does : (k : ℕ) → does role (played a values) k ≡ does role (played a (cut role.variables values)) k
    cut-does k = any_done (played a values) (played a (cut role.variables values)) (record { player = refl; variables = λ i u. sym (cut-same i) }) (slice_get role.steps k)

-- ---- the fourth condition

module _ (scale : Scale) (sheet : Sheet) where
  -- Under the fourth condition no step is bad.
  pub maintain_none : RolesMaintain scale sheet → (r k a : ℕ) (values : List (Option Atom)) → BadStep scale sheet r k a values → ⊥
  maintain_none maintain r k a values bad =
      bad.fails
      (maintain r bad.role bad.is-role a values bad.is-instance k bad.action bad.is-action (λ j e l. bad.not-needed j e (omega arith)) bad.all-received)

  -- Where no step is bad the fourth condition holds.
  pub none_maintain : ((r k a : ℕ) (values : List (Option Atom)) → BadStep scale sheet r k a values → ⊥) → RolesMaintain scale sheet
  none_maintain none r role is a vars inst k d is-action needed received =
      let same = cut-does sheet r a role vars inst in
      stable (maintains_decided scale sheet d)
      (λ fails. none r k a (cut role.variables vars) (record {
        role = role;
        is-role = is;
        is-instance = cut-instance sheet r a role vars inst;
        one-each = cut-one-each sheet r a role vars inst;
        action = d;
        is-action = sym (same k) ∙ is-action;
        not-needed = λ j e l h. needed j e (omega arith) (same j ∙ h);
        all-received = λ j m l h. received j m l (same j ∙ h);
        fails = fails;
      }))

  -- ---- the least

  step_fills : (r k a : ℕ) (role : Role) → slice_get sheet.roles r ≡ Some role → (values : List (Option Atom)) → BadStep scale sheet r k a values → Fills (role_slots role.variables) values
  step_fills r k a role is values bad =
      subst (λ (x : Role). Fills (role_slots x.variables) values) (same_Some bad.role role (sym bad.is-role ∙ is)) (instance_fills sheet r a bad.role values bad.is-instance bad.one-each)

  same-role : (r k a q j b : ℕ) (xs ys : List (Option Atom)) → LeastStep scale sheet r k a xs → LeastStep scale sheet q j b ys → r ≡ q
  same-role r k a q j b xs ys f g =
      elim (cases_order r q) [
        | inl e ↦ e
        | inr (inl l) ↦ absurd (g.first-role r k a xs l f.is)
        | inr (inr l) ↦ absurd (f.first-role q j b ys l g.is)
      ]

  same-step : (r k a j b : ℕ) (xs ys : List (Option Atom)) → LeastStep scale sheet r k a xs → LeastStep scale sheet r j b ys → k ≡ j
  same-step r k a j b xs ys f g =
      elim (cases_order k j) [
        | inl e ↦ e
        | inr (inl l) ↦ absurd (g.first-step k a xs l f.is)
        | inr (inr l) ↦ absurd (f.first-step j b ys l g.is)
      ]

  same-agent : (r k a b : ℕ) (xs ys : List (Option Atom)) → LeastStep scale sheet r k a xs → LeastStep scale sheet r k b ys → a ≡ b
  same-agent r k a b xs ys f g =
      elim (cases_order a b) [
        | inl e ↦ e
        | inr (inl l) ↦ absurd (g.least a xs f.is (inl l))
        | inr (inr l) ↦ absurd (f.least b ys g.is (inl l))
      ]

  same-values : (r k a : ℕ) (xs ys : List (Option Atom)) → LeastStep scale sheet r k a xs → LeastStep scale sheet r k a ys → xs ≡ ys
  same-values r k a xs ys f g =
      elim (fills_order (role_slots f.is.role.variables) xs ys (step_fills r k a f.is.role f.is.is-role xs f.is) (step_fills r k a f.is.role f.is.is-role ys g.is)) [
        | inl e ↦ e
        | inr (inl l) ↦ absurd (g.least a xs f.is (inr (refl, l)))
        | inr (inr l) ↦ absurd (f.least a ys g.is (inr (refl, l)))
      ]

  -- There is one least bad step and instance.
  pub one_least_step : (r k a q j b : ℕ) (xs ys : List (Option Atom)) → LeastStep scale sheet r k a xs → LeastStep scale sheet q j b ys → acted r k a xs ≡ acted q j b ys
  one_least_step r k a q j b xs ys f g =
      let er = same-role r k a q j b xs ys f g in
      let g1 : LeastStep scale sheet r j b ys = subst (λ (n : ℕ). LeastStep scale sheet n j b ys) (sym er) g in
      let ek = same-step r k a j b xs ys f g1 in
      let g2 : LeastStep scale sheet r k b ys = subst (λ (n : ℕ). LeastStep scale sheet r n b ys) (sym ek) g1 in
      let ea = same-agent r k a b xs ys f g2 in
      let g3 : LeastStep scale sheet r k a ys = subst (λ (n : ℕ). LeastStep scale sheet r k n ys) (sym ea) g2 in
      let ev = same-values r k a xs ys f g3 in
      λ i. acted (er i) (ek i) (ea i) (ev i)
