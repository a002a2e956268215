-- What the names in one line refer to.
use Rattle.std.proofs.Common.{◌≡◌, ℕ, ◌<◌, Bool, true, not, eqb, ltb, List, [], ◌∷◌, length, drop, Some, None, codes, Option, refl, arith}
use Rattle.std.specs.List.{slice_get}
use Rattle.message.specs.declared.Kind.TheVariants as kind
use Rattle.lexer.specs.declared.Rule.TheVariants as rule
use Rattle.lexer.specs.Text.{LineAt, WordAt, is, word_at}
use Rattle.model.specs.declared.node.Field.{Field}
use Rattle.model.specs.declared.node.Field.TheVariants as field
use Rattle.model.specs.declared.node.Sort.TheVariants.{Fresh}
use Rattle.model.specs.Names.{index_of}
use Rattle.model.specs.Sheet as model
use Rattle.model.specs.Sheet.{honest, may_play}
use Rattle.model.specs.Trees.{Term, leaf, tree}
use Rattle.terms.specs.Terms.{agent_names, field_of, first_agent, passing, value_of}
use Rattle.draft.specs.Drafts.{Cast, Draft, free_scope, named_scope, new_name, script_scope}
use Rattle.draft.specs.Reading.{atom_ranked, fresh_in, fresh_variable, know_line, nonce_line, numbered, playable, player_of, plays, rank_line, rank_shape, ranked_atom, title_line}
use Rattle.draft.specs.Sections.{role_read}
use Rattle.sheet_laws.specs.References.{AtomRefers, NonceRefers, PlayerRefers, Refers, SealRefers, SignalRefers, StepRefers, TermRefers, agents, by_name, in_role, in_seals, nonce, sealed, text}
use Rattle.sheet_laws.proofs.Finding.{Kept, found_among, kept-all, kept-length}
use Rattle.sheet_laws.proofs.Passing.{Gives, either, found, given, has-it, if-passing, next, passed, value}
use Rattle.sheet_laws.proofs.Readings as readings
use Rattle.sheet_laws.proofs.Readings.{SealRead, SignalRead, StepRead, received, sent, signalled}
use Rattle.sheet_laws.proofs.ReferencesTerms.{Covers, atom, first, second, signal, term}

-- What is named so far, and what is free, the sheet has under the same numbers.
pub record Within (m : model.Sheet) (c : Cast) (vs : List model.Variable) : Type 0 where
  pub agents : Kept c.agents m.agents
  pub texts : Kept c.texts m.texts
  pub roles : Kept c.roles m.roles
  pub nonces : Kept c.nonces m.nonces
  pub free : Kept vs m.free

-- ---- agents and roles

module _ {old new : List model.Agent} (h : Kept old new) where
  -- an honest agent, and one that may play a role
  still-honest : (a : ℕ) (o : Option model.Agent) → slice_get old a ≡ o → honest o ≡ true → honest (slice_get new a) ≡ true
  still-honest a None e t = grind arith
  still-honest a (Some x) e t = rw (h.at a x e) t

  still-plays : (p : Option ℕ) (a : ℕ) → may_play old p a ≡ true → may_play new p a ≡ true
  still-plays None a t = still-honest a _ refl t
  still-plays (Some p) a t = t

-- what is there and passes has passed
has-passed : {X : Type 0} (t : X → Bool) (o : Option X) {x : X} → passing t o ≡ Some x → t x ≡ true
has-passed t o e = has-it (if-passing t o (λ _ _ r. r)) e

-- a role begins, with its player
pub title-line : (m : model.Sheet) (c : Cast) (l : LineAt) → Kept c.agents m.agents → Gives (λ t. PlayerRefers m t.player) (title_line c l)
title-line m c l h =
    passed (new_name c (word_at l 1).text) _ _ (λ _.
    either (eqb (length l.words) 2) _ _ (λ _. value tt) (λ _.
    found (player_of c (word_at l 2).text) rule.Word (word_at l 2).place _ (λ a e. value (still-honest h a _ refl (has-passed (λ x. honest (slice_get c.agents x)) _ e)))))

-- a variable that is fresh
is-fresh : (o : Option model.Variable) → fresh_variable o ≡ true → (v : model.Variable) × (o ≡ Some v) × (v.sort ≡ Fresh)
is-fresh None t = grind arith
is-fresh (Some v) t = (v, refl, grind arith)

-- a numbered atom is a named nonce or text
is-numbered : {m : model.Sheet} (f : Field) → Refers (by_name m) f → numbered f ≡ true → AtomRefers m (leaf f)
is-numbered field.Player r t = grind arith
is-numbered (field.Variable i) r t = grind arith
is-numbered (field.Named kind.Agent n) r t = grind arith
is-numbered (field.Named kind.Nonce n) r t = nonce r
is-numbered (field.Named kind.Text n) r t = text r

module _ (d : Draft) {m : model.Sheet} (h : Within m d.cast d.table.free) where
  -- what is read in each place may stand there
  script-covers : Covers (script_scope d.cast d.script) (in_role m (role_read d.script))
  script-covers = record { script = refl; variables = kept-all; agents = kept-length _ _ h.agents; texts = kept-length _ _ h.texts; nonces = omega arith }

  named-covers : Covers (named_scope d.cast) (by_name m)
  named-covers = record { script = refl; variables = kept-all; agents = kept-length _ _ h.agents; texts = kept-length _ _ h.texts; nonces = kept-length _ _ h.nonces }

  free-covers : Covers (free_scope d.cast d.table) (in_seals m)
  free-covers = record { script = refl; variables = h.free; agents = kept-length _ _ h.agents; texts = kept-length _ _ h.texts; nonces = kept-length _ _ h.nonces }

  -- an agent that may play the role, and a fresh variable there
  nonce-in : (name w : List ℕ) (a r v : ℕ) (o : Option model.Role) → a < length m.agents → slice_get d.cast.roles r ≡ o → plays d.cast a o ≡ true → fresh_in o w ≡ Some v → NonceRefers m (record { name = name; agent = a; role = r; variable = v })
  nonce-in name w a r v None k e p f = grind arith
  nonce-in name w a r v (Some x) k e p f =
      let new = is-fresh (slice_get x.variables v) (has-passed (λ i. fresh_variable (slice_get x.variables i)) _ f) in
      record { role = x; variable = new.0; agent = k; at-role = h.roles.at r x e; plays = still-plays h.agents x.player a p; at-variable = new.1; fresh = new.2 }

  -- a step
  pub step : {l : LineAt} {x : model.Step} {ws : List WordAt} {receiving : Bool} → StepRead d.cast d.script l x ws receiving → StepRefers (in_role m (role_read d.script)) x
  step (sent e) = given (term script-covers _ _) e
  step (received e) = given (term script-covers _ _) e
  step (signalled r) = signal script-covers r

  -- a signal of the claim or of a mark
  pub signal-by_name : {ws : List WordAt} {x : model.Signal} → SignalRead (named_scope d.cast) ws x → SignalRefers (by_name m) x
  signal-by_name r = signal named-covers r

  -- a seal
  pub seal : {l : LineAt} {t : Term} → SealRead d.cast d.table l t → SealRefers m t
  seal (readings.sealed many e k r) = sealed (has-it (first free-covers _) e, has-it (second free-covers _) k, given (term free-covers _ _) r)

  module _ (l : LineAt) where
    -- a named nonce
    pub nonce-line : Gives (NonceRefers m) (nonce_line d.cast l)
    nonce-line =
        passed (eqb (length l.words) 5) _ _ (λ _.
        passed (ltb (length d.cast.nonces) 6) _ _ (λ _.
        passed (new_name d.cast (word_at l 1).text) _ _ (λ _.
        found (index_of (agent_names d.cast.agents) (word_at l 2).text) rule.Word (word_at l 2).place _ (λ a ea.
        found (playable d.cast a (word_at l 3).text) rule.Word (word_at l 3).place _ (λ r er.
        found (fresh_in (slice_get d.cast.roles r) (word_at l 4).text) rule.Word (word_at l 4).place _ (λ v ev.
        value (nonce-in (word_at l 1).text (word_at l 4).text a r v _ (omega (arith, found_among (λ x. x.name) d.cast.agents (word_at l 2).text a ea, kept-length d.cast.agents m.agents h.agents)) refl (has-passed (λ x. plays d.cast a (slice_get d.cast.roles x)) _ er) ev)))))))

    -- what the enemy knows
    pub know-line : Gives (TermRefers (by_name m)) (know_line d.cast d.known l)
    know-line = passed (ltb (length d.known) 8) _ _ (λ _. term named-covers l.place (drop 1 l.words))

    -- the rank of an atom
    ranked-atom : Gives (λ a. AtomRefers m (tree (a ∷ []))) (ranked_atom d.cast l)
    ranked-atom =
        either (is l 2 (codes "key")) _ _
        (λ _.
        found (first_agent (named_scope d.cast) (word_at l 3).text) rule.Word (word_at l 3).place _ (λ f e.
        found (first_agent (named_scope d.cast) (word_at l 4).text) rule.Word (word_at l 4).place _ (λ g k.
        value (agents (has-it (first named-covers _) e) (has-it (first named-covers _) k)))))
        (λ _.
        found (passing numbered (field_of (named_scope d.cast) (word_at l 2).text)) rule.Word (word_at l 2).place _ (λ f e.
        value (has-it (if-passing numbered (field_of (named_scope d.cast) (word_at l 2).text) (λ x r t. is-numbered {m = m} x (has-it (atom named-covers _) r) t)) e)))

    pub rank-line : Gives (λ r. AtomRefers m (tree (r.what ∷ []))) (rank_line d.cast d.table l)
    rank-line =
        passed (rank_shape l) _ _ (λ _.
        passed (ltb (length d.table.atoms) 12) _ _ (λ _.
        found (value_of (word_at l 1).text) rule.Value (word_at l 1).place _ (λ v _.
        next (ranked_atom d.cast l) _ (λ a e.
        passed (not (atom_ranked d.table.atoms a)) _ _ (λ _.
        value (given ranked-atom e))))))
