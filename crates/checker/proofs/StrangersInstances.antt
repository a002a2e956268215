-- The exchange of two strangers keeps instances, and where a condition fails.
use Rattle.std.proofs.Common.{◌≡◌, ℕ, ◌+◌, ◌≤◌, ◌⊎◌, Bool, true, false, MatchBool, List, [], ◌∷◌, length, Some, None, Option, slice_index_or, inl, inr, sym, ap, subst, ◌∙◌, ⊎_elim}
use Rattle.std.proofs.lemmas.Bool.{cases_lt, false≢true}
use Rattle.std.proofs.lemmas.List.{length-map}
use Rattle.std.proofs.lemmas.Option.{slice_get_past, slice_get_within}
use Rattle.std.specs.List.{slice_get, AllByRecursion}
use Rattle.std.specs.Option.{option_map}
use Rattle.message.specs.declared.Atom.{Atom}
use Rattle.message.specs.declared.Kind.{Kind}
use Rattle.message.specs.declared.Kind.TheVariants as kind
use Rattle.message.specs.Message.{key, seal}
use Rattle.model.specs.declared.node.Sort.{Sort}
use Rattle.model.specs.declared.node.Sort.TheVariants.{Fresh, Plain}
use Rattle.model.specs.Sheet.{Ranked, Role, Sheet, Variable, honest, named}
use Rattle.model.specs.Trees.{Term}
use Rattle.model.specs.Variables.{stands_in}
use Rattle.instances.specs.Actions.{Action, does, receives, sends, signals}
use Rattle.instances.specs.Substitution.{message}
use Rattle.instances.specs.Instances.{Allowed, Instance, NamedFor, Of, played}
use Rattle.scale.specs.Scales.{Scale}
use Rattle.ranks.specs.Conditions.{Maintains}
use Rattle.ranks.specs.Ranks.{kind_of}
use Rattle.sheet_laws.specs.References.{Referring, RoleRefers, SealRefers, StepRefers, TermRefers, in_role, in_seals}
use Rattle.sheet_laws.proofs.Messaging.{each_at}
use Rattle.checker.specs.Verdicts.{BadSeal, BadStep, EachStanding}
use Rattle.checker.proofs.Strangers.{Exchange, Strangers, atom_swapped, number_below, number_kept, number_unnamed, of_swapped, swapped_action, swapped_atom, swapped_event, swapped_key, swapped_message, swapped_number, swapped_value, swapped_values, value_back, values_back}
use Rattle.checker.proofs.StrangersRanks.{free_message, gives_both, lists_event_both, positive_both, positive_event_both, seal_term}
use Rattle.checker.proofs.StrangersTerms.{does_swapped, few_in_role, message_swapped, swapped_under, variable_swapped}

-- what is there after the exchange was there before
there_before : (e : Exchange) (o : Option Atom) (x : Atom) → swapped_value e o ≡ Some x → o ≡ Some (swapped_atom e x)
there_before e o x is = sym (value_back e o) ∙ ap (swapped_value e) is

module _ (sheet : Sheet) (e : Exchange) (strangers : Strangers sheet e) where
  -- an honest agent has a name, and so is kept
  agent_kept : (a : ℕ) → honest (slice_get sheet.agents a) ≡ true → swapped_number e kind.Agent a ≡ a
  agent_kept a h =
      ⊎_elim
      (λ lt. number_kept sheet e strangers kind.Agent a lt)
      (λ past. absurd (false≢true (sym (ap honest (slice_get_past sheet.agents a past)) ∙ h)))
      (cases_lt a (length sheet.agents))

  pub played_swapped : (a : ℕ) (os : List (Option Atom)) → honest (slice_get sheet.agents a) ≡ true → swapped_under e (played a os) ≡ played a (swapped_values e os)
  played_swapped a os h = ap (λ n. played n (swapped_values e os)) (agent_kept a h)

  -- A term of a role is the same message, exchanged.
  pub role_message : (role : Role) (a : ℕ) (os : List (Option Atom)) (t : Term) → honest (slice_get sheet.agents a) ≡ true → TermRefers (in_role sheet role) t → message (played a (swapped_values e os)) t ≡ option_map (swapped_message e) (message (played a os) t)
  role_message role a os t h refers =
      ap (λ v. message v t) (sym (played_swapped a os h))
      ∙ message_swapped sheet e strangers (in_role sheet role) (few_in_role sheet role) (played a os) t refers

  module _ (r a i : ℕ) where
    nonce_swapped : (n : ℕ) → (named sheet kind.Nonce ≤ n) ⊎ NamedFor sheet r a i n → (named sheet kind.Nonce ≤ swapped_number e kind.Nonce n) ⊎ NamedFor sheet r a i (swapped_number e kind.Nonce n)
    nonce_swapped n (inl unnamed) = inl (number_unnamed sheet e strangers kind.Nonce n unnamed)
    nonce_swapped n (inr line) = inr (subst (NamedFor sheet r a i) (sym (number_kept sheet e strangers kind.Nonce n (slice_get_within sheet.nonces n line.line line.is-line))) line)

    -- A variable may stand for the exchanged too.
    allowed_swapped : (s : Sort) (x : Atom) → Allowed sheet r a i s x → Allowed sheet r a i s (swapped_atom e x)
    allowed_swapped Fresh x h = (
      swapped_number e kind.Nonce h.0,
      number_below sheet e strangers kind.Nonce h.0 h.1,
      ap (swapped_atom e) h.2 ∙ atom_swapped e kind.Nonce h.0,
      nonce_swapped h.0 h.3,
    )
    allowed_swapped (Plain k) x h = of_swapped sheet e strangers k x h

  pub instance_swapped : (r : ℕ) (role : Role) (a : ℕ) (os : List (Option Atom)) → Instance sheet r role a os → Instance sheet r role a (swapped_values e os)
  instance_swapped r role a os h = record {
    is-honest = h.is-honest;
    plays = h.plays;
    whole = λ i v is-v.
        let (x, is, allowed) = h.whole i v is-v in
        (swapped_atom e x, variable_swapped e os i ∙ ap (swapped_value e) is, allowed_swapped r a i v.sort x allowed);
    declared = λ i x is. h.declared i (swapped_atom e x) (there_before e (slice_index_or os i None) x (sym (variable_swapped e os i) ∙ is));
  }

  -- ---- a `seal` line

  standing : (b : Bool) (k : Kind) (o : Option Atom) → MatchBool b ((x : Atom) × (o ≡ Some x) × Of k x) (o ≡ None) → MatchBool b ((x : Atom) × (swapped_value e o ≡ Some x) × Of k x) (swapped_value e o ≡ None)
  standing true k o h = (swapped_atom e h.0, ap (swapped_value e) h.1, of_swapped sheet e strangers k h.0 h.2)
  standing false k o h = ap (swapped_value e) h

  each_standing : (t : Term) (i : ℕ) (vs : List Variable) (os : List (Option Atom)) → EachStanding t i vs os → EachStanding t i vs (swapped_values e os)
  each_standing t i [] [] h = h
  each_standing t i [] (o ∷ os) h = absurd h
  each_standing t i (v ∷ vs) [] h = absurd h
  each_standing t i (v ∷ vs) (o ∷ os) h = (standing (stands_in i t) (kind_of v.sort) o h.0, each_standing t (i + 1) vs os h.1)

  module _ (scale : Scale) (referring : Referring sheet) where
    seal_refers : (i : ℕ) (l : Ranked Term) → slice_get sheet.seals i ≡ Some l → TermRefers (in_seals sheet) l.what
    seal_refers i l is = seal_term sheet l.what (each_at (λ s. SealRefers sheet s.what) sheet.seals i l referring.seals is)

    pub bad_seal_swapped : (i : ℕ) (os : List (Option Atom)) → BadSeal scale sheet i os → BadSeal scale sheet i (swapped_values e os)
    bad_seal_swapped i os h = record {
      line = h.line;
      is-line = h.is-line;
      each = each_standing h.line.what 0 sheet.free os h.each;
      under = swapped_key e h.under;
      content = swapped_message e h.content;
      is-seal = free_message sheet e strangers os h.line.what (seal_refers i h.line h.is-line) ∙ ap (option_map (swapped_message e)) h.is-seal;
      first = λ j l lt is gives. h.first j l lt is ((gives_both sheet e strangers l.what (seal_refers j l is) (seal h.under h.content)).1 gives);
      key-positive = (positive_both sheet e strangers scale referring (key h.under)).0 h.key-positive;
      unlike = λ same.
          let content = positive_both sheet e strangers scale referring h.content in
          h.unlike ((λ up. content.1 (same.0 up)), (λ p. same.1 (content.0 p)));
    }

    -- ---- a step

    role_refers : (r : ℕ) (role : Role) → slice_get sheet.roles r ≡ Some role → AllByRecursion (StepRefers (in_role sheet role)) role.steps
    role_refers r role is = (each_at (RoleRefers sheet) sheet.roles r role referring.roles is).steps

    module _ (role : Role) (a : ℕ) (is-honest : honest (slice_get sheet.agents a) ≡ true) (refers : AllByRecursion (StepRefers (in_role sheet role)) role.steps) where
      -- A step of an instance does the same, exchanged.
      pub does_exchanged : (os : List (Option Atom)) (j : ℕ) → does role (played a (swapped_values e os)) j ≡ option_map (swapped_action e) (does role (played a os) j)
      does_exchanged os j =
          ap (λ v. does role v j) (sym (played_swapped a os is-honest))
          ∙ does_swapped sheet e strangers (in_role sheet role) (few_in_role sheet role) (played a os) role j refers

      -- What it does after the exchange it did before, exchanged.
      did : (os : List (Option Atom)) (j : ℕ) (d : Action) → does role (played a (swapped_values e os)) j ≡ Some d → does role (played a os) j ≡ Some (swapped_action e d)
      did os j d is =
          ap (λ xs. does role (played a xs) j) (sym (values_back e os))
          ∙ does_exchanged (swapped_values e os) j
          ∙ ap (option_map (swapped_action e)) is

    maintains_before : (d : Action) → Maintains scale sheet (swapped_action e d) → Maintains scale sheet d
    maintains_before (sends m) h = (positive_both sheet e strangers scale referring m).1 h
    maintains_before (receives m) h = h
    maintains_before (signals x) h = (positive_event_both sheet e strangers scale referring x).1 h

    pub bad_step_swapped : (r k a : ℕ) (os : List (Option Atom)) → BadStep scale sheet r k a os → BadStep scale sheet r k a (swapped_values e os)
    bad_step_swapped r k a os h =
        let refers = role_refers r h.role h.is-role in
        let did = did h.role a h.is-instance.is-honest refers os in
        record {
          role = h.role;
          is-role = h.is-role;
          is-instance = instance_swapped r h.role a os h.is-instance;
          one-each = length-map os (swapped_value e) ∙ h.one-each;
          action = swapped_action e h.action;
          is-action = does_exchanged h.role a h.is-instance.is-honest refers os k ∙ ap (option_map (swapped_action e)) h.is-action;
          not-needed = λ j x lt is lists. h.not-needed j (swapped_event e x) lt (did j (signals x) is) ((lists_event_both sheet e strangers sheet.claim.needed referring.needed x).0 lists);
          all-received = λ j m lt is. (positive_both sheet e strangers scale referring m).1 (h.all-received j (swapped_message e m) lt (did j (receives m) is));
          fails = λ keeps. h.fails (maintains_before h.action keeps);
        }
