-- What stands in a term or signal that is read refers to something.
use Rattle.std.proofs.Common.{◌≡◌, ℕ, ◌+◌, ◌-◌, ◌≤◌, true, ◌&&◌, ◌||◌, eqb, List, [], ◌∷◌, ◌++◌, length, Some, None, codes, Option, sym, refl, ◌∙◌, arith}
use lib.ListN.{length-map}
use Rattle.std.proofs.ByRecursion.{All-push}
use Rattle.std.proofs.lemmas.Bool.{and_parts}
use Rattle.std.specs.List.{slice_get, AllByRecursion}
use Rattle.std.specs.Option.{option_map}
use Rattle.std.specs.Str.{bytes_eq}
use Rattle.message.specs.declared.Kind.{Kind}
use Rattle.message.specs.declared.Kind.TheVariants as kind
use Rattle.lexer.specs.declared.Rule.TheVariants as rule
use Rattle.lexer.specs.Text.{WordAt}
use Rattle.model.specs.declared.node.Field.{Field}
use Rattle.model.specs.declared.node.Field.TheVariants as field
use Rattle.model.specs.declared.node.Node.{Node}
use Rattle.model.specs.declared.node.Node.TheVariants as node
use Rattle.model.specs.Names.{index_of}
use Rattle.model.specs.Sheet as model
use Rattle.model.specs.Trees.{Term, key, leaf, pair, prefix, seal}
use Rattle.terms.specs.declared.expect.Expect.{Expect}
use Rattle.terms.specs.declared.expect.Expect.TheVariants as expect
use Rattle.terms.specs.declared.expect.Opening.{Opening}
use Rattle.terms.specs.declared.expect.Opening.TheVariants as opening
use Rattle.terms.specs.Terms.{Progress, Scope, agent_field, agent_names, agent_variable, closed, complete, field_of, fields_from, first_agent, nonce_names, reached, read_nodes, read_term, second_agent, term_from, variable_names, word_on}
use Rattle.sheet_laws.specs.References.{Place, Refers, RefersFirst, RefersToAgent, SignalRefers, TermRefers}
use Rattle.sheet_laws.proofs.Finding.{Kept, found_among, found_below, kept-length}
use Rattle.sheet_laws.proofs.Passing.{Finds, Gives, broken, by-test, either, first_of, found, given, has-it, if-passing, made_of, next, none, one, passed, so, value}
use Rattle.sheet_laws.proofs.Readings.{SignalRead, nodes-read}

-- What the scope has may stand in the place.
pub record Covers (s : Scope) (p : Place) : Type 0 where
  pub script : s.script ≡ p.script
  pub variables : Kept s.variables p.variables
  pub agents : length s.agents ≤ p.named kind.Agent
  pub texts : length s.texts ≤ p.named kind.Text
  pub nonces : length s.nonces ≤ p.named kind.Nonce

-- ---- the nodes of a term

abbrev NodeRefers : Place → Node → Type 0
NodeRefers p (node.Leaf f) = Refers p f
NodeRefers p node.Pair = Unit {0}
NodeRefers p (node.Key f g) = RefersFirst p f × RefersToAgent p g
NodeRefers p (node.Seal f g) = RefersFirst p f × RefersToAgent p g

-- the first agent of a node that is begun
abbrev BegunRefers : Place → Expect → Type 0
BegunRefers p expect.Term = Unit {0}
BegunRefers p (expect.First o) = Unit {0}
BegunRefers p (expect.Second o f) = RefersFirst p f

-- All in a term as far as it is read refers to something.
record ProgressRefers (p : Place) (q : Progress) : Type 0 where
  nodes : AllByRecursion (NodeRefers p) q.done
  begun : BegunRefers p q.expect

-- a property of all is one of the first and of the last
all-parts : {A : Type 0} (P : A → Type 0) (xs ys : List A) → AllByRecursion P (xs ++ ys) → AllByRecursion P xs × AllByRecursion P ys
all-parts P [] ys h = (tt, h)
all-parts P (x ∷ xs) ys h = let r = all-parts P xs ys h.1 in ((h.0, r.0), r.1)

-- where its nodes refer to something, a term does
by-nodes : (p : Place) (t : Term) → AllByRecursion (NodeRefers p) (prefix t) → TermRefers p t
by-nodes p (leaf f) h = h.0
by-nodes p (pair l r) h = let q = all-parts (NodeRefers p) (prefix l) (prefix r) h.1 in (by-nodes p l q.0, by-nodes p r q.1)
by-nodes p (key f g) h = h.0
by-nodes p (seal f g t) h = (h.0.0, h.0.1, by-nodes p t h.1)

-- ---- reading

module _ {s : Scope} {p : Place} (h : Covers s p) where
  -- a named one
  named : (k : Kind) (names : List (List ℕ)) (w : List ℕ) → length names ≤ p.named k → Finds (Refers p) (option_map (field.Named k) (index_of names w))
  named k names w few = made_of (field.Named k) (index_of names w) (λ n e. omega (arith, found_below names w n e))

  -- what a word stands for
  pub atom : (w : List ℕ) → Finds (Refers p) (field_of s w)
  atom w =
      first_of (by-test (s.script && bytes_eq w (codes "self")) (λ t. one (sym h.script ∙ (and_parts s.script (bytes_eq w (codes "self")) t).0)) (λ _. none)) (λ _.
      first_of (made_of field.Variable (index_of (variable_names s.variables) w) (λ i e. omega (arith, found_among (λ v. v.name) s.variables w i e, kept-length _ _ h.variables))) (λ _.
      first_of (named kind.Agent (agent_names s.agents) w (omega (arith, length-map s.agents (λ a. a.name)))) (λ _.
      first_of (named kind.Text s.texts w h.texts) (λ _.
      named kind.Nonce (nonce_names s.nonces) w (omega (arith, length-map s.nonces (λ n. n.name)))))))

  -- an agent
  variable-agent : (i : ℕ) (o : Option model.Variable) → slice_get s.variables i ≡ o → agent_variable o ≡ true → RefersToAgent p (field.Variable i)
  variable-agent i None e t = grind arith
  variable-agent i (Some v) e t = (v, h.variables.at i v e, grind arith)

  is-agent : (f : Field) → Refers p f → agent_field s f ≡ true → RefersToAgent p f
  is-agent field.Player r t = r
  is-agent (field.Variable i) r t = variable-agent i _ refl t
  is-agent (field.Named kind.Agent n) r t = r
  is-agent (field.Named kind.Nonce n) r t = grind arith
  is-agent (field.Named kind.Text n) r t = grind arith

  pub second : (w : List ℕ) → Finds (RefersToAgent p) (second_agent s w)
  second w = if-passing (agent_field s) (field_of s w) (λ f e t. is-agent f (has-it (atom w) e) t)

  -- the first agent of a key or seal
  pub first : (w : List ℕ) → Finds (RefersFirst p) (first_agent s w)
  first w =
      by-test s.script (λ t. by-test (bytes_eq w (codes "self")) (λ _. one (sym h.script ∙ t)) (λ _. none))
      (λ t. made_of (field.Named kind.Agent) (index_of (agent_names s.agents) w) (λ n e. (sym h.script ∙ t, omega (arith, found_among (λ a. a.name) s.agents w n e))))

  -- one node more
  with-node : {q : Progress} (k : ℕ) (x : Node) → ProgressRefers p q → NodeRefers p x → ProgressRefers p (reached expect.Term k (q.done ++ (x ∷ [])))
  with-node {q} k x g r = record { nodes = All-push (NodeRefers p) q.done x g.nodes r; begun = tt }

  -- the second agent, which ends a node
  ended : {q : Progress} (o : Opening) (f g : Field) (n : ℕ) → ProgressRefers p q → RefersFirst p f → RefersToAgent p g → ProgressRefers p (closed o f g n q.done)
  ended opening.Key f g n k r t = with-node (n - 1) (node.Key f g) k (r, t)
  ended opening.Seal f g n k r t = with-node n (node.Seal f g) k (r, t)

  -- one word more
  word : (e : Expect) (n : ℕ) (done : List Node) (w : WordAt) → ProgressRefers p (reached e n done) → Gives (ProgressRefers p) (word_on s e n done w)
  word expect.Term n done w g =
      either (bytes_eq w.text (codes "pair")) _ _ (λ _. value (with-node (n + 1) node.Pair g tt)) (λ _.
      either (bytes_eq w.text (codes "key")) _ _ (λ _. value (record { nodes = g.nodes; begun = tt })) (λ _.
      either (bytes_eq w.text (codes "seal")) _ _ (λ _. value (record { nodes = g.nodes; begun = tt })) (λ _.
      found (field_of s w.text) rule.Word w.place _ (λ f e. value (with-node (n - 1) (node.Leaf f) g (has-it (atom w.text) e))))))
  word (expect.First o) n done w g = found (first_agent s w.text) rule.Word w.place _ (λ f e. value (record { nodes = g.nodes; begun = has-it (first w.text) e }))
  word (expect.Second o f) n done w g = found (second_agent s w.text) rule.Word w.place _ (λ a e. value (ended o f a n g g.begun (has-it (second w.text) e)))

  -- the words of a term
  nodes : (at : ℕ) (q : Progress) (room : ℕ) (ws : List WordAt) → ProgressRefers p q → Gives (AllByRecursion (NodeRefers p)) (term_from s at q room ws)
  nodes at q room [] g = passed (complete q) _ _ (λ _. value g.nodes)
  nodes at q room (w ∷ ws) g =
      either (complete q || eqb room 0) _ _ (λ _. broken) (λ _.
      next (word_on s q.expect q.wanted q.done w) _ (λ x e. nodes at x (room - 1) ws (given (word q.expect q.wanted q.done w g) e)))

  -- a term
  pub term : (at : ℕ) (ws : List WordAt) → Gives (TermRefers p) (read_term s at ws)
  unfolding read_nodes
  term at ws = so (nodes-read s at ws) (λ t e. by-nodes p t (given (nodes at (reached expect.Term 1 []) 32 ws (record { nodes = tt; begun = tt })) e))

  -- the atoms of a signal
  atoms : (done : List Field) (ws : List WordAt) → AllByRecursion (Refers p) done → Gives (AllByRecursion (Refers p)) (fields_from s done ws)
  atoms done [] g = value g
  atoms done (w ∷ ws) g = found (field_of s w.text) rule.Word w.place _ (λ f e. atoms (done ++ (f ∷ [])) ws (All-push (Refers p) done f g (has-it (atom w.text) e)))

  -- a signal
  pub signal : {ws : List WordAt} {x : model.Signal} → SignalRead s ws x → SignalRefers p x
  signal {ws} r = given (atoms [] ws tt) r.atoms
