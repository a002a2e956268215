-- The terms and signals of a line that is read, and the words from which they are read.
use Rattle.std.proofs.Common.{◌≡◌, ℕ, ◌+◌, ◌-◌, ◌≤◌, Bool, true, false, not, ltb, leb, List, [], map, length, take, drop, is_some, Some, Ok, codes, Option, sym, ap, ◌∙◌, subst, arith, length-drop}
use lib.ListN.{length-map}
use Rattle.std.proofs.lemmas.List.{length-take-le}
use Rattle.std.proofs.lemmas.Bool.{and_parts, leb-true}
use Rattle.lexer.specs.declared.Rule.TheVariants as rule
use Rattle.lexer.specs.Text.{LineAt, WordAt, word_at}
use Rattle.model.specs.declared.node.Field.{Field}
use Rattle.model.specs.Names.{is_name}
use Rattle.model.specs.Sheet as model
use Rattle.model.specs.Trees.{Term, are_terms, prefix, seal, word_count}
use Rattle.model.proofs.Trees.{prefix_tree}
use Rattle.terms.specs.Same.{same_signal}
use Rattle.terms.specs.Terms.{Scope, fields_from, first_agent, read_nodes, read_signal, read_term, second_agent, value_of}
use Rattle.terms.proofs.TermShape.{shaped}
use Rattle.draft.specs.Drafts.{Cast, Draft, Script, Table, free_scope, named_scope, script_scope}
use Rattle.draft.specs.Reading.{claim_line, claim_shape, few_atoms, mark_line, needs_at, recv_line, seal_line, send_line, sig_line, signal_ranked, term_line}
use Rattle.sheet_laws.proofs.Finding.{found_below}
use Rattle.sheet_laws.proofs.Passing.{Gives, found, given, if-read, next, passed, value}
use Rattle.sheet_laws.proofs.Steps as steps
use Rattle.sheet_laws.proofs.Steps.{Acts}

-- A signal is a name and one to four atoms, which are read from these words.
pub record SignalRead (s : Scope) (ws : List WordAt) (x : model.Signal) : Type 0 where
  pub named : is_name x.word ≡ true
  pub few : few_atoms (length ws) ≡ true
  pub atoms : fields_from s [] ws ≡ Ok x.fields

-- A step is read from the words after its first, or after its signal word.
pub data StepRead (c : Cast) (s : Script) (l : LineAt) : model.Step → List WordAt → Bool → Type 0 where
  sent : {t : Term} → read_term (script_scope c s) l.place (drop 1 l.words) ≡ Ok t → StepRead c s l (model.send t) (drop 1 l.words) false
  received : {t : Term} → read_term (script_scope c s) l.place (drop 1 l.words) ≡ Ok t → StepRead c s l (model.receive t) (drop 1 l.words) true
  signalled : {x : model.Signal} → SignalRead (script_scope c s) (drop 2 l.words) x → StepRead c s l (model.signal x) (drop 2 l.words) false

-- The claim's signals are read from the words on either side of `needs`.
pub record ClaimRead (c : Cast) (l : LineAt) (x : model.Claim) : Type 0 where
  pub at : ℕ
  pub completion : SignalRead (named_scope c) (take at (drop 2 l.words)) x.completion
  pub needed : SignalRead (named_scope c) (drop (at + 4) l.words) x.needed

-- A seal is read from two agents and the words of its content.
pub data SealRead (c : Cast) (t : Table) (l : LineAt) : Term → Type 0 where
  sealed : {f g : Field} {x : Term} → 4 ≤ length l.words → first_agent (free_scope c t) (word_at l 2).text ≡ Some f → second_agent (free_scope c t) (word_at l 3).text ≡ Some g → read_term (free_scope c t) l.place (drop 4 l.words) ≡ Ok x → SealRead c t l (seal f g x)

-- the nodes that are read are those of the term
pub nodes-read : (s : Scope) (at : ℕ) (ws : List WordAt) → Gives (λ t. read_nodes s at ws ≡ Ok (prefix t)) (read_term s at ws)
unfolding read_term
nodes-read s at ws = next (read_nodes s at ws) _ (λ ns e. value (e ∙ ap Ok (sym (prefix_tree ns (and_parts (are_terms 1 ns) (leb (word_count ns) 32) (shaped s at ws ns e)).0))))

-- a signal
signal-read : (s : Scope) (w : WordAt) (ws : List WordAt) → few_atoms (length ws) ≡ true → Gives (SignalRead s ws) (read_signal s w ws)
unfolding read_signal
signal-read s w ws few = passed (is_name w.text) _ _ (λ name. next (fields_from s [] ws) _ (λ fs e. value (record { named = name; few = few; atoms = e })))

module _ (c : Cast) (l : LineAt) where
  -- a step
  module _ (s : Script) where
    term-read : Gives (λ t. read_term (script_scope c s) l.place (drop 1 l.words) ≡ Ok t) (term_line c s l)
    term-read = passed (ltb (length s.steps) 8) _ _ (λ _. if-read _ (λ t e. e))

    send-read : Gives (λ x. StepRead c s l x (drop 1 l.words) false) (send_line c s l)
    send-read = next (term_line c s l) _ (λ t e. value (sent (given term-read e)))

    recv-read : Gives (λ x. StepRead c s l x (drop 1 l.words) true) (recv_line c s l)
    recv-read = next (term_line c s l) _ (λ t e. value (received (given term-read e)))

    sig-read : Gives (λ x. StepRead c s l x (drop 2 l.words) false) (sig_line c s l)
    sig-read =
        passed (few_atoms (length l.words - 2)) _ _ (λ few.
        passed (ltb (length s.steps) 8) _ _ (λ _.
        next (read_signal (script_scope c s) (word_at l 1) (drop 2 l.words)) _ (λ x e.
        value (signalled (given (signal-read _ _ _ (rw length-drop few)) e)))))

  -- the claim, whose first signal ends where `needs` stands
  pub claim-read : (claim : Option model.Claim) → Gives (ClaimRead c l) (claim_line c claim l)
  claim-read claim =
      passed (claim_shape l (needs_at l)) _ _ (λ shape.
      passed (not (is_some claim)) _ _ (λ _.
      found (needs_at l) rule.Line l.place _ (λ n here.
      let few = and_parts (few_atoms n) (few_atoms (length l.words - (n + 4))) (subst (λ o. claim_shape l o ≡ true) here shape) in
      let within : n ≤ length (drop 2 l.words) = omega (arith, found_below (map (λ w. w.text) (drop 2 l.words)) (codes "needs") n here, length-map (drop 2 l.words) (λ w. w.text)) in
      next (read_signal (named_scope c) (word_at l 1) (take n (drop 2 l.words))) _ (λ x e.
      next (read_signal (named_scope c) (word_at l (n + 3)) (drop (n + 4) l.words)) _ (λ y f.
      passed (not (same_signal x y)) _ _ (λ _.
      value (record {
        at = n;
        completion = given (signal-read _ _ _ (rw (length-take-le n (drop 2 l.words) within) few.0)) e;
        needed = given (signal-read _ _ _ (rw length-drop few.1)) f;
      })))))))

  module _ (t : Table) where
    -- a seal
    pub seal-read : Gives (λ r. SealRead c t l r.what) (seal_line c t l)
    seal-read =
        passed (leb 4 (length l.words)) _ _ (λ many.
        passed (ltb (length t.seals) 12) _ _ (λ _.
        found (value_of (word_at l 1).text) rule.Value (word_at l 1).place _ (λ v _.
        found (first_agent (free_scope c t) (word_at l 2).text) rule.Word (word_at l 2).place _ (λ f e.
        found (second_agent (free_scope c t) (word_at l 3).text) rule.Word (word_at l 3).place _ (λ g k.
        next (read_term (free_scope c t) l.place (drop 4 l.words)) _ (λ x r.
        value (sealed (leb-true 4 (length l.words) many) e k r)))))))

    -- a mark
    pub mark-read : Gives (λ r. SignalRead (named_scope c) (drop 3 l.words) r.what) (mark_line c t l)
    mark-read =
        passed (few_atoms (length l.words - 3)) _ _ (λ few.
        passed (ltb (length t.marks) 6) _ _ (λ _.
        found (value_of (word_at l 1).text) rule.Value (word_at l 1).place _ (λ v _.
        next (read_signal (named_scope c) (word_at l 2) (drop 3 l.words)) _ (λ x e.
        passed (not (signal_ranked t.marks x)) _ _ (λ _.
        value (given (signal-read _ _ _ (rw length-drop few)) e))))))

-- a step of each sort
pub step-read : {d : Draft} {l : LineAt} {x : model.Step} {ws : List WordAt} {receiving : Bool} → Acts d l x ws receiving → StepRead d.cast d.script l x ws receiving
step-read {d} {l} (steps.send w e) = given (send-read d.cast l d.script) e
step-read {d} {l} (steps.recv w e) = given (recv-read d.cast l d.script) e
step-read {d} {l} (steps.sig w e) = given (sig-read d.cast l d.script) e
