-- What a line that is read has passed: there was room for one more, and its name is new.
use Rattle.std.proofs.Common.{◌≡◌, ℕ, ◌<◌, Bool, true, cond, ltb, List, length, Ok, Err, Result, arith}
use Rattle.std.proofs.lemmas.Bool.{ltb-true}
use Rattle.std.proofs.lemmas.Bool.Decides.{nat_tests}
use Rattle.lexer.specs.declared.Fault.{Fault}
use Rattle.lexer.specs.Text.{LineAt, WordAt}
use Rattle.draft.specs.Drafts.{Cast, Draft, Table, Title, new_free, new_name, new_variable}
use Rattle.draft.specs.Reading.{agent_line, free_line, know_line, mark_line, nonce_line, rank_line, rank_shape, seal_line, text_line, title_line}
use Rattle.model.specs.Sheet as model
use Rattle.model.specs.declared.node.Node.{Node}
use Rattle.model.specs.Trees.{Term}
use Rattle.sheet_laws.proofs.Steps.{Acts, Declares, fresh, recv, send, sig, var}

-- the second of two tests has passed
second : {X : Type 0} (a b : Bool) (f g : Fault) (go : Result X Fault) {x : X} → cond a (cond b go (Err g)) (Err f) ≡ Ok x → b ≡ true
second a b f g go e = grind arith

module _ (c : Cast) (l : LineAt) where
  -- a named one of each sort
  pub agent-line : {a : model.Agent} → agent_line c l ≡ Ok a → (length c.agents < 6) × (new_name c a.name ≡ true)
  agent-line e = grind (arith, nat_tests)

  pub text-line : {t : List ℕ} → text_line c l ≡ Ok t → (length c.texts < 6) × (new_name c t ≡ true)
  text-line e = grind (arith, nat_tests)

  pub title-line : {t : Title} → title_line c l ≡ Ok t → new_name c t.name ≡ true
  title-line e = grind arith

  pub nonce-line : {x : model.Nonce} → nonce_line c l ≡ Ok x → (length c.nonces < 6) × (new_name c x.name ≡ true)
  nonce-line e = grind (arith, nat_tests)

  pub know-line : (ts : List Term) {t : Term} → know_line c ts l ≡ Ok t → length ts < 8
  know-line ts e = grind (arith, nat_tests)

  module _ (t : Table) where
    -- a line of the ranks
    pub free-line : {v : model.Variable} → free_line c t l ≡ Ok v → (length t.free < 5) × (new_free c t v.name ≡ true)
    free-line e = grind (arith, nat_tests)

    pub rank-line : {r : model.Ranked Node} → rank_line c t l ≡ Ok r → length t.atoms < 12
    rank-line e = ltb-true _ _ (second (rank_shape l) (ltb (length t.atoms) 12) _ _ _ e)

    pub seal-line : {r : model.Ranked Term} → seal_line c t l ≡ Ok r → length t.seals < 12
    seal-line e = grind (arith, nat_tests)

    pub mark-line : {r : model.Ranked model.Signal} → mark_line c t l ≡ Ok r → length t.marks < 6
    mark-line e = grind (arith, nat_tests)

module _ {d : Draft} {l : LineAt} where
  -- a line of a role's script
  pub variable-line : {v : model.Variable} → Declares d l v → (length d.script.variables < 5) × (new_variable d.cast d.script v.name ≡ true)
  variable-line (var w e) = grind (arith, nat_tests)
  variable-line (fresh w e) = grind (arith, nat_tests)

  pub step_line : {x : model.Step} {ws : List WordAt} {received : Bool} → Acts d l x ws received → length d.script.steps < 8
  step_line (send w e) = grind (arith, nat_tests)
  step_line (recv w e) = grind (arith, nat_tests)
  step_line (sig w e) = grind (arith, nat_tests)
