-- The exchange of two strangers changes no rank.
use Rattle.std.proofs.Common.{◌≡◌, ◌↔◌, List, [], ◌∷◌, ℤ, Option, inl, inr, ap, subst, ◌∙◌}
use Rattle.std.specs.List.{AllByRecursion}
use Rattle.std.specs.Option.{option_map}
use Rattle.message.specs.declared.Atom.{Atom}
use Rattle.message.specs.Message.{Msg, agent, key, nonce, pair, seal, text}
use Rattle.model.specs.declared.node.Field.{Field}
use Rattle.model.specs.declared.node.Field.TheVariants as field
use Rattle.model.specs.Sheet.{Ranked, Sheet, Signal, Variable}
use Rattle.model.specs.Trees.{Term}
use Rattle.instances.specs.Actions.{Event, event}
use Rattle.instances.specs.Substitution.{message, names_alone}
use Rattle.scale.specs.Scales.{Scale}
use Rattle.ranks.specs.Ranks.{AtomRank, EachOf, EventRank, First, Gives, ListsEvent, ListsMessage, Positive, PositiveEvent, Rank, free_values, kind_of}
use Rattle.sheet_laws.specs.References.{AtomRefers, Referring, RefersFirst, RefersToAgent, SealRefers, SignalRefers, TermRefers, by_name, in_seals, sealed}
use Rattle.sheet_laws.specs.References as references
use Rattle.checker.proofs.Strangers.{Exchange, Strangers, event_back, message_back, of_swapped, swapped_atom, swapped_event, swapped_message, swapped_value, swapped_values}
use Rattle.checker.proofs.StrangersTerms.{event_swapped, few_by_name, few_in_seals, message_swapped}

-- Of each line the one holds exactly where the other does.
abbrev Alike : {A : Type 0} → (A → Type 0) → (A → Type 0) → List (Ranked A) → Type 0
Alike P Q ls = AllByRecursion (λ l. P l.what ↔ Q l.what) ls

first_alike : {A : Type 0} (P Q : A → Type 0) (Else Other : ℤ → Type 0) (ls : List (Ranked A)) → Alike P Q ls → ((v : ℤ) → Else v → Other v) → (v : ℤ) → First P Else ls v → First Q Other ls v
first_alike P Q Else Other [] same other v h = other v h
first_alike P Q Else Other (l ∷ ls) same other v (inl h) = inl (same.0.0 h.0, h.1)
first_alike P Q Else Other (l ∷ ls) same other v (inr h) = inr ((λ q. h.0 (same.0.1 q)), first_alike P Q Else Other ls same.1 other v h.1)

each_alike : {A : Type 0} (R P Q : A → Type 0) → ((a : A) → R a → P a ↔ Q a) → (ls : List (Ranked A)) → AllByRecursion (λ l. R l.what) ls → Alike P Q ls
each_alike R P Q same [] h = tt
each_alike R P Q same (l ∷ ls) h = (same l.what h.0, each_alike R P Q same ls h.1)

-- The first agent of a key is an agent.
first_agent : (sheet : Sheet) (f : Field) → RefersFirst (by_name sheet) f → RefersToAgent (by_name sheet) f
first_agent sheet field.Player h = h
first_agent sheet (field.Variable i) h = absurd h
first_agent sheet (field.Named k n) h = h.1

-- what a `rank` line ranks refers
atom_term : (sheet : Sheet) (t : Term) → AtomRefers sheet t → TermRefers (by_name sheet) t
atom_term sheet t (references.nonce h) = h
atom_term sheet t (references.text h) = h
atom_term sheet t (references.agents {f = f} {g = g} first second) = (first, first_agent sheet g second)

pub seal_term : (sheet : Sheet) (t : Term) → SealRefers sheet t → TermRefers (in_seals sheet) t
seal_term sheet t (sealed h) = h

module _ (sheet : Sheet) (e : Exchange) (strangers : Strangers sheet e) where
  -- Under names alone a term does not change.
  pub names_message : (t : Term) → TermRefers (by_name sheet) t → message names_alone t ≡ option_map (swapped_message e) (message names_alone t)
  names_message t refers = message_swapped sheet e strangers (by_name sheet) (few_by_name sheet) names_alone t refers

  pub names_event : (s : Signal) → SignalRefers (by_name sheet) s → event names_alone s ≡ option_map (swapped_event e) (event names_alone s)
  names_event s refers = event_swapped sheet e strangers (by_name sheet) (few_by_name sheet) names_alone s refers

  -- What holds of the exchanged holds of the one before.
  message_both : (P : Msg → Type 0) → ((m : Msg) → P m → P (swapped_message e m)) → (m : Msg) → P m ↔ P (swapped_message e m)
  message_both P there m = (there m, λ h. subst P (message_back e m) (there (swapped_message e m) h))

  event_both : (P : Event → Type 0) → ((x : Event) → P x → P (swapped_event e x)) → (x : Event) → P x ↔ P (swapped_event e x)
  event_both P there x = (there x, λ h. subst P (event_back e x) (there (swapped_event e x) h))

  -- A line lists both or neither.
  pub lists_message_both : (t : Term) → TermRefers (by_name sheet) t → (m : Msg) → ListsMessage t m ↔ ListsMessage t (swapped_message e m)
  lists_message_both t refers = message_both (ListsMessage t) (λ m is. names_message t refers ∙ ap (option_map (swapped_message e)) is)

  pub lists_event_both : (s : Signal) → SignalRefers (by_name sheet) s → (x : Event) → ListsEvent s x ↔ ListsEvent s (swapped_event e x)
  lists_event_both s refers = event_both (ListsEvent s) (λ x is. names_event s refers ∙ ap (option_map (swapped_event e)) is)

  each_swapped : (vs : List Variable) (os : List (Option Atom)) → EachOf vs os → EachOf vs (swapped_values e os)
  each_swapped [] [] h = h
  each_swapped [] (o ∷ os) h = absurd h
  each_swapped (v ∷ vs) [] h = absurd h
  each_swapped (v ∷ vs) (o ∷ os) h = (
    (swapped_atom e h.0.0, ap (swapped_value e) h.0.1, of_swapped sheet e strangers (kind_of v.sort) h.0.0 h.0.2),
    each_swapped vs os h.1,
  )

  -- the message of a `seal` line's term
  pub free_message : (os : List (Option Atom)) (t : Term) → TermRefers (in_seals sheet) t → message (free_values (swapped_values e os)) t ≡ option_map (swapped_message e) (message (free_values os) t)
  free_message os t refers = message_swapped sheet e strangers (in_seals sheet) (few_in_seals sheet) (free_values os) t refers

  -- A `seal` line gives both or neither.
  pub gives_both : (t : Term) → TermRefers (in_seals sheet) t → (m : Msg) → Gives sheet.free t m ↔ Gives sheet.free t (swapped_message e m)
  gives_both t refers = message_both (Gives sheet.free t) (λ m h. (swapped_values e h.0, each_swapped sheet.free h.0 h.1, free_message h.0 t refers ∙ ap (option_map (swapped_message e)) h.2))

  module _ (scale : Scale) (referring : Referring sheet) where
    atom_rank : (m : Msg) (v : ℤ) → AtomRank scale sheet m v → AtomRank scale sheet (swapped_message e m) v
    atom_rank m v h =
        first_alike (λ t. ListsMessage t m) (λ t. ListsMessage t (swapped_message e m)) (λ u. u ≡ scale.fixed) (λ u. u ≡ scale.fixed) sheet.atoms
        (each_alike (AtomRefers sheet) (λ t. ListsMessage t m) (λ t. ListsMessage t (swapped_message e m)) (λ t refers. lists_message_both t (atom_term sheet t refers) m) sheet.atoms referring.atoms)
        (λ u is. is) v h

    -- A rank of a message is one of the exchanged.
    pub rank_swapped : (m : Msg) (v : ℤ) → Rank scale sheet m v → Rank scale sheet (swapped_message e m) v
    rank_swapped (agent n) v h = atom_rank (agent n) v h
    rank_swapped (nonce n) v h = atom_rank (nonce n) v h
    rank_swapped (text n) v h = atom_rank (text n) v h
    rank_swapped (key k) v h = atom_rank (key k) v h
    rank_swapped (pair l r) v h = (h.0, h.1, rank_swapped l h.0 h.2, rank_swapped r h.1 h.3, h.4)
    rank_swapped (seal k m) v h =
        first_alike (λ t. Gives sheet.free t (seal k m)) (λ t. Gives sheet.free t (swapped_message e (seal k m))) (λ u. Rank scale sheet m u) (λ u. Rank scale sheet (swapped_message e m) u) sheet.seals
        (each_alike (SealRefers sheet) (λ t. Gives sheet.free t (seal k m)) (λ t. Gives sheet.free t (swapped_message e (seal k m))) (λ t refers. gives_both t (seal_term sheet t refers) (seal k m)) sheet.seals referring.seals)
        (λ u r. rank_swapped m u r) v h

    pub event_rank_swapped : (x : Event) (v : ℤ) → EventRank scale sheet x v → EventRank scale sheet (swapped_event e x) v
    event_rank_swapped x v h =
        first_alike (λ s. ListsEvent s x) (λ s. ListsEvent s (swapped_event e x)) (λ u. u ≡ scale.fixed) (λ u. u ≡ scale.fixed) sheet.marks
        (each_alike (SignalRefers (by_name sheet)) (λ s. ListsEvent s x) (λ s. ListsEvent s (swapped_event e x)) (λ s refers. lists_event_both s refers x) sheet.marks referring.marks)
        (λ u is. is) v h

    -- Both are positive, or neither is.
    pub positive_both : (m : Msg) → Positive scale sheet m ↔ Positive scale sheet (swapped_message e m)
    positive_both = message_both (Positive scale sheet) (λ m h. (h.0, rank_swapped m h.0 h.1, h.2))

    pub positive_event_both : (x : Event) → PositiveEvent scale sheet x ↔ PositiveEvent scale sheet (swapped_event e x)
    positive_event_both = event_both (PositiveEvent scale sheet) (λ x h. (h.0, event_rank_swapped x h.0 h.1, h.2))
