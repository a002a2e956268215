-- The bound falls to the first bad step of a role.
use Rattle.std.proofs.Common.{◌≡◌, ℕ, ◌+◌, ◌<◌, ◌≤◌, min, true, false, ◌&&◌, List, ◌∷◌, length, Some, None, Option, inl, inr, sym, refl, subst, ◌∙◌, arith, below_more}
use Rattle.std.specs.List.{slice_get}
use Rattle.std.proofs.lemmas.Bool.{false≢true}
use Rattle.std.proofs.lemmas.Option.{none-some, same_Some, slice_get_within}
use Rattle.message.specs.declared.Atom.{Atom}
use Rattle.model.specs.Sheet.{Agent, Role, Sheet, Step, honest, may_play}
use Rattle.instances.specs.Actions.{Action, does, done_at}
use Rattle.instances.specs.Instances.{played}
use Rattle.instances.specs.Substitution.{Values}
use Rattle.sheet_laws.proofs.Counting.{in_range}
use Rattle.std.specs.Option.{is_some}
use Rattle.scale.specs.Scales.{Scale}
use Rattle.search.specs.Rows.{Less}
use Rattle.checker.specs.declared.roles.BadInstance.{BadInstance}
use Rattle.checker.specs.Narrowing.{FoundBelow, FoundFor, FoundIn, LeastBelow, LeastFor, LeastIn, WasRead}
use Rattle.checker.specs.Verdicts.{BadStep, numbers}

honest_named : (agents : List Agent) (a : ℕ) → honest (slice_get agents a) ≡ true → a < length agents
honest_named agents a h = at (slice_get agents a) refl h
  where
    at : (o : Option Agent) → slice_get agents a ≡ o → honest o ≡ true → a < length agents
    at None e h = absurd (false≢true h)
    at (Some x) e h = slice_get_within agents a x e

done_named : (role : Role) (v : Values) (k : ℕ) (d : Action) → does role v k ≡ Some d → k < length role.steps
done_named role v k d h = at (slice_get role.steps k) refl h
  where
    at : (o : Option Step) → slice_get role.steps k ≡ o → done_at v o ≡ Some d → k < length role.steps
    at None e h = absurd (none-some d h)
    at (Some s) e h = slice_get_within role.steps k s e

-- ---- agent after agent

pub record NoneBefore (scale : Scale) (sheet : Sheet) (r bound a : ℕ) : Type 0 where
  pub none : (b : ℕ) → b < a → (k : ℕ) (values : List (Option Atom)) → k < bound → BadStep scale sheet r k b values → ⊥

module _ (scale : Scale) (sheet : Sheet) (r bound a : ℕ) (before : NoneBefore scale sheet r bound a) where
  pub none_more : ((k : ℕ) (values : List (Option Atom)) → k < bound → BadStep scale sheet r k a values → ⊥) → NoneBefore scale sheet r bound (a + 1)
  none_more here = record { none = below_more (λ b. (k : ℕ) (values : List (Option Atom)) → k < bound → BadStep scale sheet r k b values → ⊥) a before.none here }

  -- The least of the first agent that has one is the least of all.
  pub least_below : (k : ℕ) (values : List (Option Atom)) → LeastFor scale sheet r bound a k values → LeastBelow scale sheet r bound k a values
  least_below k values l = record { within = l.within; is = l.is; least = least }
    where
      least : (j b : ℕ) (others : List (Option Atom)) → j < bound → BadStep scale sheet r j b others → Less (b ∷ numbers others) (a ∷ numbers values) → ⊥
      least j b others lt bad (inl less) = before.none b less j others lt bad
      least j b others lt bad (inr less) = l.least j others lt (subst (λ (x : ℕ). BadStep scale sheet r j x others) less.0 bad) less.1

module _ (scale : Scale) (sheet : Sheet) (r bound a : ℕ) where
  -- What is found for the first agent for whom something is, is the least of all.
  pub found_first : NoneBefore scale sheet r bound a → (found : Option BadInstance) → is_some found ≡ true → FoundFor scale sheet r bound a found → FoundBelow scale sheet r bound found
  found_first before None is for = absurd (false≢true is)
  found_first before (Some i) is (agent, l) = subst (λ (x : ℕ). LeastBelow scale sheet r bound i.step x i.values.items) (sym agent) (least_below scale sheet r bound a before i.step i.values.items l)

  pub found_none : NoneBefore scale sheet r bound a → (found : Option BadInstance) → is_some found ≡ false → FoundFor scale sheet r bound a found → NoneBefore scale sheet r bound (a + 1)
  found_none before None is for = none_more scale sheet r bound a before for
  found_none before (Some i) is for = absurd (false≢true (sym is))

  -- An agent that may not play the role has no instance.
  pub not_playing : NoneBefore scale sheet r bound a → (role : Role) → slice_get sheet.roles r ≡ Some role → (honest (slice_get sheet.agents a) && may_play sheet.agents role.player a) ≡ false → NoneBefore scale sheet r bound (a + 1)
  not_playing before role is-role not = none_more scale sheet r bound a before (λ k values lt bad. false≢true (sym not ∙ both k values bad))
    where
      both : (k : ℕ) (values : List (Option Atom)) → BadStep scale sheet r k a values → (honest (slice_get sheet.agents a) && may_play sheet.agents role.player a) ≡ true
      both k values bad =
          let player : may_play sheet.agents role.player a ≡ true = subst (λ (x : Role). may_play sheet.agents x.player a ≡ true) (same_Some bad.role role (sym bad.is-role ∙ is-role)) bad.is-instance.plays in
          rw (bad.is-instance.is-honest, player) refl

-- Where more agents than have a name are passed, none has a bad step.
pub all_passed : (scale : Scale) (sheet : Sheet) (r bound a : ℕ) → NoneBefore scale sheet r bound a → length sheet.agents ≤ a → (k b : ℕ) (values : List (Option Atom)) → k < bound → BadStep scale sheet r k b values → ⊥
all_passed scale sheet r bound a before many k b values lt bad =
    let named : b < length sheet.agents = honest_named sheet.agents b bad.is-instance.is-honest in
    before.none b (omega arith) k values lt bad

few_agents : (sheet : Sheet) → WasRead sheet → length sheet.agents ≤ 6
few_agents sheet (text, is) = (in_range text sheet is).agents.1

pub every_agent : (scale : Scale) (sheet : Sheet) (r bound a : ℕ) → WasRead sheet → NoneBefore scale sheet r bound a → min (length sheet.agents) 255 ≤ a → (k b : ℕ) (values : List (Option Atom)) → k < bound → BadStep scale sheet r k b values → ⊥
every_agent scale sheet r bound a read before many = all_passed scale sheet r bound a before (omega (arith, few_agents sheet read))

-- ---- bound after bound

abbrev pub Narrowed : Scale → Sheet → (r many bound : ℕ) → Option BadInstance → Type 0
Narrowed scale sheet r many bound None = bound ≡ many
Narrowed scale sheet r many bound (Some i) = (i.step ≡ bound) × (bound ≤ many) × BadStep scale sheet r i.step i.agent i.values.items
    × ((b : ℕ) (others : List (Option Atom)) → BadStep scale sheet r i.step b others → Less (b ∷ numbers others) (i.agent ∷ numbers i.values.items) → ⊥)

module _ (scale : Scale) (sheet : Sheet) (r many bound : ℕ) where
  pub narrowed_within : (found : Option BadInstance) → Narrowed scale sheet r many bound found → bound ≤ many
  narrowed_within None is = omega arith
  narrowed_within (Some i) is = is.1

  pub narrowed_more : (found : Option BadInstance) → Narrowed scale sheet r many bound found → (i : BadInstance) → LeastBelow scale sheet r bound i.step i.agent i.values.items → Narrowed scale sheet r many i.step (Some i)
  narrowed_more found before i l =
      let within : bound ≤ many = narrowed_within found before in
      (refl, omega (arith, l.within), l.is, λ b others bad less. l.least i.step b others l.within bad less)

  -- Where no step below the bound is bad, the step at the bound is the first.
  pub narrowed_last : (role : Role) → slice_get sheet.roles r ≡ Some role → many ≡ length role.steps → (found : Option BadInstance) → Narrowed scale sheet r many bound found
      → ((k a : ℕ) (values : List (Option Atom)) → k < bound → BadStep scale sheet r k a values → ⊥) → FoundIn scale sheet r found
  narrowed_last role is-role all None is none = λ k a values bad.
      let within : k < length role.steps = subst (λ (x : Role). k < length x.steps) (same_Some bad.role role (sym bad.is-role ∙ is-role)) (done_named bad.role (played a values) k bad.action bad.is-action) in
      let below : k < bound = omega (arith, is, all, within) in
      none k a values below bad
  narrowed_last role is-role all (Some i) is none = last is.0 is.2 is.3
    where
      last : i.step ≡ bound → BadStep scale sheet r i.step i.agent i.values.items → ((b : ℕ) (others : List (Option Atom)) → BadStep scale sheet r i.step b others → Less (b ∷ numbers others) (i.agent ∷ numbers i.values.items) → ⊥)
          → LeastIn scale sheet r i.step i.agent i.values.items
      last at bad least = record {
        is = bad;
        first-step = λ j b others lt earlier. none j b others (omega arith) earlier;
        least = least;
      }
