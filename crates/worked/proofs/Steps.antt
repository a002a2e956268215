-- The steps of the worked sheets' roles, and which of them are bad, and for which values.
use Rattle.std.proofs.Common.{◌≡◌, ℕ, zero, suc, ◌+◌, ◌<◌, max, List, [], ◌∷◌, Some, Option, sym, refl, ap, subst, ◌∙◌, arith}
use Rattle.std.specs.Prelude.{ℤ, codes}
use Rattle.std.specs.List.{slice_get}
use Rattle.std.proofs.lemmas.Bool.Decides.{nat_tests}
use Rattle.std.proofs.lemmas.Option.{none-some, same_Some}
use Rattle.message.specs.declared.Atom.{Atom}
use Rattle.message.specs.declared.Atom.TheVariants.{Agent, Nonce, Text}
use Rattle.message.specs.declared.Kind.{Kind}
use Rattle.message.specs.declared.Kind.TheVariants as kind
use Rattle.message.specs.Message.{Msg, agent, atom, key_of, nonce, pair, seal, shared, text}
use Rattle.model.specs.Sheet.{Ranked, Role, Sheet, Step}
use Rattle.model.specs.Trees.{Term}
use Rattle.instances.specs.Actions.{Action, Event, does, receives, sends, signals}
use Rattle.instances.specs.Instances.{MayPlay, played}
use Rattle.scale.specs.Scales.{whole}
use Rattle.ranks.specs.Conditions.{Maintains}
use Rattle.ranks.specs.Ranks.{ListsEvent, Positive}
use Rattle.ranks.proofs.Finding.{lists_event, same_message}
use Rattle.checker.specs.Verdicts.{BadStep}
use Rattle.checker.proofs.BadSteps.{instance_fills}
use Rattle.checker.specs.Rows.{role_slots}
use Rattle.checker.proofs.Slots.{Fills}
use Rattle.worked.specs.Silence.{answer_lines, bus, ground, ground_doing, hasty, is_set, is_told, silence_with}
use Rattle.worked.proofs.Positive.{answer_message, asking_positive, other_answer_positive, other_event_positive}

-- ---- values of the variables, by their kinds

fills_none : (os : List (Option Atom)) → Fills [] os → os ≡ []
fills_none [] f = refl
fills_none (o ∷ os) f = absurd f

fills_some : (k : Kind) (ss : List (Option Kind)) (os : List (Option Atom)) → Fills (Some k ∷ ss) os → (n : ℕ) × (ws : List (Option Atom)) × Fills ss ws × (os ≡ Some (atom k n) ∷ ws)
fills_some k ss [] f = absurd f
fills_some k ss (o ∷ os) f = (f.0.2.0, os, f.1, ap (λ (x : Option Atom). x ∷ os) (f.0.1 ∙ ap Some f.0.2.2))

fills_two : (k l : Kind) (os : List (Option Atom)) → Fills (Some k ∷ Some l ∷ []) os → (m : ℕ) × (n : ℕ) × (os ≡ Some (atom k m) ∷ Some (atom l n) ∷ [])
fills_two k l os f =
    let (m, ms, f1, e1) = fills_some k (Some l ∷ []) os f in
    let (n, ns, f2, e2) = fills_some l [] ms f1 in
    (m, n, e1 ∙ ap (λ (xs : List (Option Atom)). Some (atom k m) ∷ xs) (e2 ∙ ap (λ (xs : List (Option Atom)). Some (atom l n) ∷ xs) (fills_none ns f2)))

fills_three : (k l h : Kind) (os : List (Option Atom)) → Fills (Some k ∷ Some l ∷ Some h ∷ []) os
    → (m : ℕ) × (n : ℕ) × (p : ℕ) × (os ≡ Some (atom k m) ∷ Some (atom l n) ∷ Some (atom h p) ∷ [])
fills_three k l h os f =
    let (m, ms, f1, e1) = fills_some k (Some l ∷ Some h ∷ []) os f in
    let (n, p, e2) = fills_two l h ms f1 in
    (m, n, p, e1 ∙ ap (λ (xs : List (Option Atom)). Some (atom k m) ∷ xs) e2)

-- ---- a bad step of a role that is known

-- Of this role, where a plays it with these values, the step breaks the fourth condition.
pub record Fails (sheet : Sheet) (role : Role) (a : ℕ) (values : List (Option Atom)) (k : ℕ) : Type 0 where
  pub action : Action
  pub is-action : does role (played a values) k ≡ Some action
  pub not-needed : (j : ℕ) (e : Event) → j < k + 1 → does role (played a values) j ≡ Some (signals e) → ListsEvent sheet.claim.needed e → ⊥
  pub all-received : (j : ℕ) (m : Msg) → j < k → does role (played a values) j ≡ Some (receives m) → Positive whole sheet m
  pub fails : Maintains whole sheet action → ⊥

module _ (sheet : Sheet) (r : ℕ) (role : Role) (is : slice_get sheet.roles r ≡ Some role) (k a : ℕ) (values : List (Option Atom)) (bad : BadStep whole sheet r k a values) where
  same_role : bad.role ≡ role
  same_role = same_Some bad.role role (sym bad.is-role ∙ is)

  plays_it : MayPlay sheet role a
  plays_it = subst (λ (x : Role). MayPlay sheet x a) same_role bad.is-instance.plays

  fills_it : Fills (role_slots role.variables) values
  fills_it = subst (λ (x : Role). Fills (role_slots x.variables) values) same_role (instance_fills sheet r a bad.role values bad.is-instance bad.one-each)

  fails_it : Fails sheet role a values k
  fails_it =
      subst (λ (x : Role). Fails sheet x a values k) same_role
      (record { action = bad.action; is-action = bad.is-action; not-needed = bad.not-needed; all-received = bad.all-received; fails = bad.fails })

-- ---- the bus

abbrev pub of_bus : ℕ → ℕ → List (Option Atom)
of_bus t n = Some (Text t) ∷ Some (Nonce n) ∷ []

abbrev pub setting : ℕ → ℕ → Event
setting t n = record { word = is_set.word; atoms = Agent 1 ∷ Agent 0 ∷ Nonce n ∷ Text t ∷ [] }

module _ (second : Role) (known : List Term) (key_rank : ℤ) (seals : List (Ranked Term)) (mark : ℤ) where
  abbrev S : Sheet
  S = silence_with second known key_rank seals mark

  -- The bus does nothing bad but signal the completion.
  pub bus_steps : (t n k : ℕ) → Fails S bus 1 (of_bus t n) k → (k ≡ 2) × (t ≡ 0) × (n ≡ 0)
  bus_steps t n zero f =
      let e : sends (pair (agent 1) (nonce n)) ≡ f.action = same_Some _ _ f.is-action in
      absurd (f.fails (subst (Maintains whole S) e (asking_positive second known key_rank seals mark 1 n)))
  bus_steps t n (suc zero) f =
      let e : receives (seal (shared 0 1) (pair (agent 0) (pair (nonce n) (text t)))) ≡ f.action = same_Some _ _ f.is-action in
      absurd (f.fails (subst (Maintains whole S) e tt))
  bus_steps t n (suc (suc zero)) f = signalled (lists_event (setting t n) is_set)
    where
      signalled : Dec (ListsEvent is_set (setting t n)) → (suc (suc zero) ≡ 2) × (t ≡ 0) × (n ≡ 0)
      signalled (no other) =
          let e : signals (setting t n) ≡ f.action = same_Some _ _ f.is-action in
          absurd (f.fails (subst (Maintains whole S) e (other_event_positive second known key_rank seals mark (setting t n) other)))
      signalled (yes same) =
          let atoms : Agent 1 ∷ Agent 0 ∷ Nonce 0 ∷ Text 0 ∷ [] ≡ Agent 1 ∷ Agent 0 ∷ Nonce n ∷ Text t ∷ [] = ap (λ (x : Event). x.atoms) (same_Some (setting 0 0) (setting t n) same) in
          let is-t : t ≡ 0 = cc in
          let is-n : n ≡ 0 = cc in
          (refl, is-t, is-n)
  bus_steps t n (suc (suc (suc k))) f = absurd (none-some f.action f.is-action)

  pub bus_bad : (k a : ℕ) (values : List (Option Atom)) → BadStep whole S 0 k a values → (t : ℕ) × (n : ℕ) × (a ≡ 1) × (values ≡ of_bus t n) × Fails S bus 1 (of_bus t n) k
  bus_bad k a values bad =
      let (t, n, is) = fills_two kind.Text kind.Nonce values (fills_it S 0 bus refl k a values bad) in
      let plays : MayPlay S bus a = plays_it S 0 bus refl k a values bad in
      let is-a : a ≡ 1 = grind (arith, nat_tests, plays) in (
        t,
        n,
        is-a,
        is,
        subst (λ (b : ℕ). Fails S bus b (of_bus t n) k) is-a (subst (λ (xs : List (Option Atom)). Fails S bus a xs k) is (fails_it S 0 bus refl k a values bad)),
      )

-- ---- the ground

abbrev pub of_ground : ℕ → ℕ → ℕ → List (Option Atom)
of_ground j c t = Some (Agent j) ∷ Some (Nonce c) ∷ Some (Text t) ∷ []

abbrev pub told : ℕ → ℕ → ℕ → Event
told j c t = record { word = is_told.word; atoms = Agent 0 ∷ Agent j ∷ Nonce c ∷ Text t ∷ [] }

abbrev pub answered : ℕ → ℕ → ℕ → Msg
answered j c t = seal (key_of 0 j) (pair (agent 0) (pair (nonce c) (text t)))

told_not_set : (j c t : ℕ) → ListsEvent is_set (told j c t) → ⊥
told_not_set j c t e =
    let w : codes "set" ≡ codes "told" = ap (λ (x : Event). x.word) (same_Some (setting 0 0) (told j c t) e) in
    let z : ◌≡◌ {A = ℕ} 115 116 = cc in
    omega arith

-- values for which the answer is the one that the `seal` line lists
listed_values : (j c t : ℕ) → answer_message ≡ answered j c t → (j ≡ 1) × (c ≡ 0) × (t ≡ 0)
listed_values j c t same =
    let high : 1 ≡ max 0 j = cc in
    let is-j : j ≡ 1 = omega arith in
    let is-c : c ≡ 0 = cc in
    let is-t : t ≡ 0 = cc in
    (is-j, is-c, is-t)

module _ (second : Role) (known : List Term) (key_rank : ℤ) (mark : ℤ) where
  abbrev W : Sheet
  W = silence_with second known key_rank answer_lines mark

  -- What the ground is asked, what it signals and what it sends, as long as this is no listed answer, is positive.
  ground_asked : (j c t : ℕ) (d : Action) → Some (receives (pair (agent j) (nonce c))) ≡ Some d → (Maintains whole W d → ⊥) → ⊥
  ground_asked j c t d is fails = fails (subst (Maintains whole W) (same_Some _ d is) tt)

  ground_tells : (j c t : ℕ) (d : Action) → Some (signals (told j c t)) ≡ Some d → (Maintains whole W d → ⊥) → ⊥
  ground_tells j c t d is fails =
      fails (subst (Maintains whole W) (same_Some _ d is) (other_event_positive second known key_rank answer_lines mark (told j c t) (told_not_set j c t)))

  ground_answers : (j c t : ℕ) (d : Action) → Some (sends (answered j c t)) ≡ Some d → (Maintains whole W d → ⊥) → (j ≡ 1) × (c ≡ 0) × (t ≡ 0)
  ground_answers j c t d is fails = sent (same_message answer_message (answered j c t))
    where
      sent : Dec (answer_message ≡ answered j c t) → (j ≡ 1) × (c ≡ 0) × (t ≡ 0)
      sent (no other) = absurd (fails (subst (Maintains whole W) (same_Some _ d is) (other_answer_positive second known key_rank mark j c t other)))
      sent (yes same) = listed_values j c t same

  pub ground_steps : (j c t k : ℕ) → Fails W ground 0 (of_ground j c t) k → ⊥
  ground_steps j c t zero f = ground_asked j c t f.action f.is-action f.fails
  ground_steps j c t (suc zero) f = ground_tells j c t f.action f.is-action f.fails
  ground_steps j c t (suc (suc zero)) f =
      let (is-j, is-c, is-t) = ground_answers j c t f.action f.is-action f.fails in
      f.not-needed 1 (told j c t) (omega arith) refl (sym (λ i. Some (told (is-j i) (is-c i) (is-t i))))
  ground_steps j c t (suc (suc (suc k))) f = none-some f.action f.is-action

  pub hasty_steps : (j c t k : ℕ) → Fails W hasty 0 (of_ground j c t) k → (k ≡ 1) × (j ≡ 1) × (c ≡ 0) × (t ≡ 0)
  hasty_steps j c t zero f = absurd (ground_asked j c t f.action f.is-action f.fails)
  hasty_steps j c t (suc zero) f = let (is-j, is-c, is-t) = ground_answers j c t f.action f.is-action f.fails in (refl, is-j, is-c, is-t)
  hasty_steps j c t (suc (suc zero)) f = absurd (ground_tells j c t f.action f.is-action f.fails)
  hasty_steps j c t (suc (suc (suc k))) f = absurd (none-some f.action f.is-action)

-- the ground in a bad step
abbrev pub GroundFails : Sheet → Role → ℕ → ℕ → List (Option Atom) → Type 0
GroundFails sheet role k a values = (j : ℕ) × (c : ℕ) × (t : ℕ) × (a ≡ 0) × (values ≡ of_ground j c t) × Fails sheet role 0 (of_ground j c t) k

module _ (known : List Term) (key_rank : ℤ) (mark : ℤ) (steps : List Step) where
  abbrev V : Sheet
  V = silence_with (ground_doing steps) known key_rank answer_lines mark

  pub ground_bad : (k a : ℕ) (values : List (Option Atom)) → BadStep whole V 1 k a values → GroundFails V (ground_doing steps) k a values
  ground_bad k a values bad =
      let role = ground_doing steps in
      let (j, c, t, is) = fills_three kind.Agent kind.Nonce kind.Text values (fills_it V 1 role refl k a values bad) in
      let plays : MayPlay V role a = plays_it V 1 role refl k a values bad in
      let is-a : a ≡ 0 = grind (arith, nat_tests, plays) in (
        j,
        c,
        t,
        is-a,
        is,
        subst (λ (b : ℕ). Fails V role b (of_ground j c t) k) is-a (subst (λ (xs : List (Option Atom)). Fails V role a xs k) is (fails_it V 1 role refl k a values bad)),
      )
