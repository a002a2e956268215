-- A variable stands in what is read exactly where its name stands among the words.
use Rattle.std.proofs.Common.{◌≡◌, ℕ, ◌-◌, Bool, true, false, not, ◌&&◌, ◌||◌, eqb, List, [], ◌∷◌, ◌++◌, is_some, Some, codes, sym, refl, ap, ◌∙◌, subst, ⊎_elim, arith}
use Rattle.std.proofs.lemmas.Slice.Eq.{bytes_eq-Decides}
use Rattle.std.proofs.lemmas.Bool.{and_parts, both_ways, cases_Bool, not-true}
use Rattle.std.proofs.lemmas.Bool.Decides.{Decides-eqb, Decides-like, same_from_decides}
use Rattle.std.specs.Str.{bytes_eq}
use Rattle.message.specs.declared.Kind.TheVariants as kind
use Rattle.lexer.specs.declared.Rule.TheVariants as rule
use Rattle.lexer.specs.Text.{WordAt}
use Rattle.model.specs.declared.node.Field.{Field}
use Rattle.model.specs.declared.node.Field.TheVariants as field
use Rattle.model.specs.declared.node.Node.{Node}
use Rattle.model.specs.declared.node.Node.TheVariants as node
use Rattle.model.specs.Names.{among, index_of, is_name, reserved, spelled}
use Rattle.model.specs.Sheet as model
use Rattle.model.specs.Variables.{is_variable, stands_among, stands_at, stands_at_some, stands_in}
use Rattle.model.proofs.Standings.{stands_by_nodes}
use Rattle.terms.specs.declared.expect.Expect.{Expect}
use Rattle.terms.specs.declared.expect.Expect.TheVariants as expect
use Rattle.terms.specs.declared.expect.Opening.{Opening}
use Rattle.terms.specs.declared.expect.Opening.TheVariants as opening
use Rattle.terms.specs.Terms.{Progress, Scope, agent_field, agent_names, closed, complete, field_of, fields_from, first_agent, has, nonce_names, reached, read_nodes, read_term, second_agent, term_from, variable_names, word_on}
use Rattle.terms.specs.Usages.{place_of}
use Rattle.sheet_laws.proofs.Finding.{found_at}
use Rattle.sheet_laws.proofs.Passing.{Finds, Gives, broken, by-test, either, first_of, found, given, has-it, if-passing, made_of, next, none, one, passed, so, value}
use Rattle.sheet_laws.proofs.Readings.{SignalRead, nodes-read}

-- ---- one at the end

-- a test of some, by recursion over a list, with one more at the end
pub or_push : {A : Type 0} (t : A → Bool) (f : List A → Bool) → f [] ≡ false → ((x : A) (xs : List A) → f (x ∷ xs) ≡ (t x || f xs)) → (xs : List A) (x : A) → f (xs ++ (x ∷ [])) ≡ (f xs || t x)
or_push t f e h [] x = grind (arith, e, h x [])
or_push t f e h (y ∷ xs) x = grind (arith, h y xs, h y (xs ++ (x ∷ [])), or_push t f e h xs x)

-- ---- words

-- The name is one of the words.
abbrev pub says : List WordAt → List ℕ → Bool
says ws w = is_some (place_of ws w)

-- it is the first, or another
pub says_first : (x : WordAt) (ws : List WordAt) (w : List ℕ) → says (x ∷ ws) w ≡ (bytes_eq x.text w || says ws w)
says_first x ws w = grind arith

-- what stands with one word more and then with the others stands with all
says-more : {all with : Bool} (before : Bool) (x : WordAt) (ws : List WordAt) (w : List ℕ) → all ≡ (with || says ws w) → with ≡ (before || bytes_eq x.text w) → all ≡ (before || says (x ∷ ws) w)
says-more before x ws w k e = grind (arith, says_first x ws w)

-- words that differ are not the same
not_same : (x w : List ℕ) → (x ≡ w → ⊥) → false ≡ bytes_eq x w
not_same x w apart = ⊎_elim (λ t. absurd (apart ((bytes_eq-Decides x w).0 t))) (λ f. sym f) (cases_Bool (bytes_eq x w))

-- a test that fails tells nothing more
or_no : (a b : Bool) → false ≡ b → a ≡ (a || b)
or_no true b e = refl
or_no false b e = e

-- ---- terms as far as they are read

-- The variable stands in a node that is begun; and in what is read of a term.
abbrev stands_begun : ℕ → Expect → Bool
stands_begun i expect.Term = false
stands_begun i (expect.First o) = false
stands_begun i (expect.Second o f) = is_variable i f

abbrev stands_so_far : ℕ → Progress → Bool
stands_so_far i q = stands_at_some i q.done || stands_begun i q.expect

-- with one node more
node-more : (i : ℕ) (ns : List Node) (x : Node) → stands_at_some i (ns ++ (x ∷ [])) ≡ (stands_at_some i ns || stands_at i x)
node-more i = or_push (stands_at i) (stands_at_some i) refl (λ _ _. refl)

tidy : (a b : Bool) → ((a || b) || false) ≡ ((a || false) || b)
tidy true b = refl
tidy false true = refl
tidy false false = refl

begun-said : (a b : Bool) → (a || b) ≡ ((a || false) || b)
begun-said true b = refl
begun-said false b = refl

node-said : (i : ℕ) (ns : List Node) (x : Node) (b : Bool) → stands_at i x ≡ b → (stands_at_some i (ns ++ (x ∷ [])) || false) ≡ ((stands_at_some i ns || false) || b)
node-said i ns x b e = ap (λ t. t || false) (node-more i ns x) ∙ tidy (stands_at_some i ns) (stands_at i x) ∙ ap (λ t. (stands_at_some i ns || false) || t) e

-- with the second agent, which ends a node
ended : (i : ℕ) (o : Opening) (f g : Field) (n : ℕ) (done : List Node) → stands_so_far i (closed o f g n done) ≡ (stands_so_far i (reached (expect.Second o f) n done) || is_variable i g)
ended i opening.Key f g n done = grind (arith, node-more i done (node.Key f g))
ended i opening.Seal f g n done = grind (arith, node-more i done (node.Seal f g))

-- ---- what a word stands for

-- In the scope, the variable of this number has this name, which no agent has.
pub record Called (s : Scope) (i : ℕ) (w : List ℕ) : Type 0 where
  pub name : is_name w ≡ true
  pub at : index_of (variable_names s.variables) w ≡ Some i
  pub no-agent : has (agent_names s.agents) w ≡ false

module _ {s : Scope} {i : ℕ} {w : List ℕ} (h : Called s i w) where
  -- The variable stands where the word is its name.
  abbrev AsSaid : List ℕ → Field → Type 0
  AsSaid x f = is_variable i f ≡ bytes_eq x w

  -- a word of the format is not its name
  no_word : (x y : List ℕ) → among reserved y ≡ true → bytes_eq x y ≡ true → false ≡ bytes_eq x w
  no_word x y r t =
      not_same x w (λ e.
      let named = and_parts (spelled w) (not (among reserved w)) h.name in
      both_ways (among reserved w) (not-true (among reserved w) named.1) (subst (λ z. among reserved z ≡ true) (sym ((bytes_eq-Decides x y).0 t) ∙ e) r))

  -- a variable
  variable : (x : List ℕ) (j : ℕ) → index_of (variable_names s.variables) x ≡ Some j → AsSaid x (field.Variable j)
  variable x j e =
      let here = has-it (found_at (variable_names s.variables) w) h.at in
      let there = has-it (found_at (variable_names s.variables) x) e in
      same_from_decides _ _ (Decides-eqb i j) (Decides-like (bytes_eq x w) (λ q. grind (arith, h.at)) (λ q. grind arith) (bytes_eq-Decides x w))

  -- what a word stands for
  atom : (x : List ℕ) → Finds (AsSaid x) (field_of s x)
  atom x =
      let names = index_of (variable_names s.variables) x in
      first_of (by-test (s.script && bytes_eq x (codes "self")) (λ t. one (no_word x (codes "self") refl (and_parts s.script (bytes_eq x (codes "self")) t).1)) (λ _. none)) (λ _.
      first_of (made_of field.Variable names (variable x)) (λ absent.
      let other : false ≡ bytes_eq x w = not_same x w (λ e. grind (arith, h.at)) in
      first_of (made_of (field.Named kind.Agent) (index_of (agent_names s.agents) x) (λ n e. other)) (λ _.
      first_of (made_of (field.Named kind.Text) (index_of s.texts x) (λ n e. other)) (λ _.
      made_of (field.Named kind.Nonce) (index_of (nonce_names s.nonces) x) (λ n e. other)))))

  -- the agents of a key or seal
  pub first : (x : List ℕ) → Finds (AsSaid x) (first_agent s x)
  first x =
      by-test s.script (λ _. by-test (bytes_eq x (codes "self")) (λ t. one (no_word x (codes "self") refl t)) (λ _. none))
      (λ _. made_of (field.Named kind.Agent) (index_of (agent_names s.agents) x) (λ n e. not_same x w (λ q. grind (arith, h.no-agent))))

  pub second : (x : List ℕ) → Finds (AsSaid x) (second_agent s x)
  second x = if-passing (agent_field s) (field_of s x) (λ f e _. has-it (atom x) e)

  -- one word more of a term
  word : (e : Expect) (n : ℕ) (done : List Node) (x : WordAt) → Gives (λ q. stands_so_far i q ≡ (stands_so_far i (reached e n done) || bytes_eq x.text w)) (word_on s e n done x)
  word expect.Term n done x =
      either (bytes_eq x.text (codes "pair")) _ _ (λ t. value (node-said i done node.Pair _ (no_word x.text (codes "pair") refl t))) (λ _.
      either (bytes_eq x.text (codes "key")) _ _ (λ t. value (or_no _ _ (no_word x.text (codes "key") refl t))) (λ _.
      either (bytes_eq x.text (codes "seal")) _ _ (λ t. value (or_no _ _ (no_word x.text (codes "seal") refl t))) (λ _.
      found (field_of s x.text) rule.Word x.place _ (λ f e. value (node-said i done (node.Leaf f) _ (has-it (atom x.text) e))))))
  word (expect.First o) n done x = found (first_agent s x.text) rule.Word x.place _ (λ f e. value (begun-said (stands_at_some i done) _ ∙ ap (λ t. (stands_at_some i done || false) || t) (has-it (first x.text) e)))
  word (expect.Second o f) n done x = found (second_agent s x.text) rule.Word x.place _ (λ g e. value (ended i o f g n done ∙ ap (λ t. (stands_at_some i done || is_variable i f) || t) (has-it (second x.text) e)))

  -- the words of a term
  nodes : (at : ℕ) (q : Progress) (room : ℕ) (ws : List WordAt) → Gives (λ ns. stands_at_some i ns ≡ (stands_so_far i q || says ws w)) (term_from s at q room ws)
  nodes at q room [] = passed (complete q) _ _ (λ t. value (grind arith))
  nodes at q room (x ∷ ws) =
      either (complete q || eqb room 0) _ _ (λ _. broken) (λ _.
      next (word_on s q.expect q.wanted q.done x) _ (λ r e.
      so (nodes at r (room - 1) ws) (λ ns k. says-more (stands_so_far i q) x ws w k (given (word q.expect q.wanted q.done x) e))))

  -- a term
  pub term : (at : ℕ) (ws : List WordAt) → Gives (λ t. stands_in i t ≡ says ws w) (read_term s at ws)
  unfolding read_nodes
  term at ws = so (nodes-read s at ws) (λ t e. stands_by_nodes i t ∙ given (nodes at (reached expect.Term 1 []) 32 ws) e)

  -- the atoms of a signal
  atoms : (done : List Field) (ws : List WordAt) → Gives (λ fs. stands_among i fs ≡ (stands_among i done || says ws w)) (fields_from s done ws)
  atoms done [] = value (grind arith)
  atoms done (x ∷ ws) =
      found (field_of s x.text) rule.Word x.place _ (λ f e.
      so (atoms (done ++ (f ∷ [])) ws) (λ fs k. says-more (stands_among i done) x ws w k (or_push (is_variable i) (stands_among i) refl (λ _ _. refl) done f ∙ ap (λ t. stands_among i done || t) (has-it (atom x.text) e))))

  -- a signal
  pub signal : {ws : List WordAt} {x : model.Signal} → SignalRead s ws x → stands_among i x.fields ≡ says ws w
  signal {ws} r = given (atoms [] ws) r.atoms
