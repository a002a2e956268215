-- The nodes that are read from words are one term, of at most 32 words.
use Rattle.std.proofs.Common.{◌≡◌, ℕ, ◌+◌, ◌-◌, ◌≤◌, Bool, true, false, cond, ◌||◌, eqb, List, [], ◌∷◌, ◌++◌, Some, None, Ok, Err, codes, Option, Result, sym, refl, ap, ◌∙◌, subst, ⊎_elim, append_assoc, arith}
use Rattle.std.proofs.lemmas.List.{append-nil}
use Rattle.std.proofs.lemmas.Bool.{and_cases, and_from, and_parts, eqb-false, le-leb, or_parts, true≢false}
use Rattle.std.specs.Str.{bytes_eq}
use Rattle.lexer.specs.declared.Fault.{Fault}
use Rattle.lexer.specs.declared.Rule.{Rule}
use Rattle.lexer.specs.declared.Rule.TheVariants as rule
use Rattle.lexer.specs.Text.{WordAt}
use Rattle.terms.specs.declared.expect.Expect.{Expect}
use Rattle.terms.specs.declared.expect.Expect.TheVariants as expect
use Rattle.model.specs.declared.node.Field.{Field}
use Rattle.model.specs.declared.node.Node.{Node}
use Rattle.model.specs.declared.node.Node.TheVariants as node
use Rattle.terms.specs.declared.expect.Opening.{Opening}
use Rattle.terms.specs.declared.expect.Opening.TheVariants as opening
use Rattle.terms.specs.Terms.{Progress, Scope, and_then, closed, complete, expects_term, field_of, first_agent, or_fault, reached, read_nodes, second_agent, term_from, word_on}
use Rattle.model.specs.Trees.{are_terms, arity, is_term, word_count, words_at}
use Rattle.model.proofs.Trees.{after-node}

-- how many words of an unfinished node are read
abbrev pending : Expect → ℕ
pending expect.Term = 0
pending (expect.First o) = 1
pending (expect.Second o f) = 2

-- As far as a term is read, its nodes want as many terms more as are said to be wanted, and have the words that were read.
record Shaped (p : Progress) (room : ℕ) : Type 0 where
  pub terms : (rest : List Node) → are_terms 1 (p.done ++ rest) ≡ are_terms p.wanted rest
  pub words : word_count p.done + pending p.expect + room ≡ 32
  pub some : expects_term p.expect ≡ false → 1 ≤ p.wanted

-- it is so of the same progress
shift : (p q : Progress) (room : ℕ) → Shaped p room → ◌≡◌ {A = Result Progress Fault} (Ok p) (Ok q) → Shaped q room
shift p q room h e = let same : p ≡ q = cc in subst (λ x. Shaped x room) same h

fault-no-progress : (f : Fault) (q : Progress) → ◌≡◌ {A = Result Progress Fault} (Err f) (Ok q) → ⊥
fault-no-progress f q e = let z : ◌≡◌ {A = ℕ} 0 1 = cc in omega arith

-- where what is asked for is there, and the progress with it is so
shift-asked : {A : Type 0} (o : Option A) (r : Rule) (at : ℕ) (to : A → Progress) (q : Progress) (room : ℕ) → ((a : A) → Shaped (to a) room) → and_then (or_fault o r at) (λ a. Ok (to a)) ≡ Ok q → Shaped q room
shift-asked None r at to q room h e = absurd (fault-no-progress _ q e)
shift-asked (Some a) r at to q room h e = shift (to a) q room (h a) e

count-push : (ns : List Node) (x : Node) → word_count (ns ++ (x ∷ [])) ≡ word_count ns + words_at x
count-push [] x = omega arith
count-push (y ∷ ns) x = omega (arith, count-push ns x)

module _ (n room : ℕ) (done : List Node) (some : 1 ≤ n) (more : 1 ≤ room) where
  -- one node more, of so many words
  with-node : (x : Node) (k words : ℕ) → ((rest : List Node) → are_terms 1 (done ++ rest) ≡ are_terms n rest) → k ≡ n - 1 + arity x → word_count done + words + room ≡ 32 → words_at x ≡ words + 1 → Shaped (reached expect.Term k (done ++ (x ∷ []))) (room - 1)
  with-node x k words h e all here = record {
    terms = λ rest. ap (are_terms 1) (append_assoc done (x ∷ []) rest) ∙ h (x ∷ rest) ∙ after-node x n k rest some e;
    words = omega (arith, count-push done x);
    some = λ never. absurd (true≢false never);
  }

  -- one word more of an unfinished node
  with_part : (x y : Expect) → pending y ≡ pending x + 1 → Shaped (reached x n done) room → Shaped (reached y n done) (room - 1)
  with_part x y e h = record { terms = h.terms; words = omega (arith, h.words); some = λ _. some }

  -- the first word of a term
  begun : (a b c : Bool) (o : Option Field) (r : Rule) (at : ℕ) (q : Progress) → Shaped (reached expect.Term n done) room
      → cond a (Ok (reached expect.Term (n + 1) (done ++ (node.Pair ∷ [])))) (cond b (Ok (reached (expect.First opening.Key) n done)) (cond c (Ok (reached (expect.First opening.Seal) n done)) (and_then (or_fault o r at) (λ f. Ok (reached expect.Term (n - 1) (done ++ (node.Leaf f ∷ []))))))) ≡ Ok q
      → Shaped q (room - 1)
  begun true b c o r at q h e = shift _ q (room - 1) (with-node node.Pair (n + 1) 0 h.terms (omega arith) h.words refl) e
  begun false true c o r at q h e = shift _ q (room - 1) (with_part expect.Term (expect.First opening.Key) refl h) e
  begun false false true o r at q h e = shift _ q (room - 1) (with_part expect.Term (expect.First opening.Seal) refl h) e
  begun false false false o r at q h e =
      shift-asked o r at (λ f. reached expect.Term (n - 1) (done ++ (node.Leaf f ∷ []))) q (room - 1) (λ f. with-node (node.Leaf f) (n - 1) 0 h.terms (omega arith) h.words refl) e

  -- the second agent, which ends a node
  ended : (o : Opening) (f g : Field) → Shaped (reached (expect.Second o f) n done) room → Shaped (closed o f g n done) (room - 1)
  ended opening.Key f g h = with-node (node.Key f g) (n - 1) 2 h.terms (omega arith) h.words refl
  ended opening.Seal f g h = with-node (node.Seal f g) n 2 h.terms (omega arith) h.words refl

  -- one word more
  with-word : (s : Scope) (x : Expect) (w : WordAt) (q : Progress) → Shaped (reached x n done) room → word_on s x n done w ≡ Ok q → Shaped q (room - 1)
  with-word s expect.Term w q h e = begun (bytes_eq w.text (codes "pair")) (bytes_eq w.text (codes "key")) (bytes_eq w.text (codes "seal")) (field_of s w.text) rule.Word w.place q h e
  with-word s (expect.First o) w q h e =
      shift-asked (first_agent s w.text) _ _ (λ f. reached (expect.Second o f) n done) q (room - 1) (λ f. with_part (expect.First o) (expect.Second o f) refl h) e
  with-word s (expect.Second o f) w q h e =
      shift-asked (second_agent s w.text) _ _ (λ g. closed o f g n done) q (room - 1) (λ g. ended o f g h) e

-- a test that has to pass has passed, and one that must not has not
passed : {X : Type 0} (b : Bool) (x y : X) (f : Fault) → ◌≡◌ {A = Result X Fault} (cond b (Ok x) (Err f)) (Ok y) → (b ≡ true) × (x ≡ y)
passed true x y f e = (refl, cc)
passed false x y f e = let z : ◌≡◌ {A = ℕ} 0 1 = cc in absurd (omega arith)

not_stopped : {X : Type 0} (b : Bool) (f : Fault) (r : Result X Fault) (y : X) → cond b (Err f) r ≡ Ok y → (b ≡ false) × (r ≡ Ok y)
not_stopped true f r y e = let z : ◌≡◌ {A = ℕ} 0 1 = cc in absurd (omega arith)
not_stopped false f r y e = (refl, e)

-- what came first, where all went well
then_ok : {X Y : Type 0} (r : Result X Fault) (f : X → Result Y Fault) (y : Y) → and_then r f ≡ Ok y → (x : X) × (r ≡ Ok x) × (f x ≡ Ok y)
then_ok (Ok x) f y e = (x, refl, e)
then_ok (Err g) f y e = let z : ◌≡◌ {A = ℕ} 0 1 = cc in absurd (omega arith)

-- a term that is not complete wants at least one more
wants-some : (p : Progress) (room : ℕ) → Shaped p room → complete p ≡ false → 1 ≤ p.wanted
wants-some p room h e = ⊎_elim h.some (λ n. omega (arith, eqb-false p.wanted 0 n)) (and_cases (expects_term p.expect) (eqb p.wanted 0) e)

-- the rest of the words make it one term
from-words : (s : Scope) (at : ℕ) (p : Progress) (room : ℕ) (ws : List WordAt) (ns : List Node) → Shaped p room → term_from s at p room ws ≡ Ok ns → is_term ns ≡ true
from-words s at p room [] ns h e =
    let done = passed (complete p) p.done ns _ e in
    let none = and_parts (expects_term p.expect) (eqb p.wanted 0) done.0 in
    let whole : are_terms 1 p.done ≡ true = ap (are_terms 1) (sym (append-nil p.done)) ∙ h.terms [] ∙ none.1 in
    subst (λ l. is_term l ≡ true) done.1 (and_from _ _ whole (le-leb (word_count p.done) 32 (omega (arith, h.words))))
from-words s at p room (w ∷ ws) ns h e =
    let on = not_stopped (complete p || eqb room 0) _ _ ns e in
    let unfinished = or_parts (complete p) (eqb room 0) on.0 in
    let next = then_ok (word_on s p.expect p.wanted p.done w) _ ns on.1 in
    from-words s at next.0 (room - 1) ws ns
    (with-word p.wanted room p.done (wants-some p room h unfinished.0) (omega (arith, eqb-false room 0 unfinished.1)) s p.expect w next.0 h next.1)
    next.2

-- so the nodes that are read from words are a term
pub shaped : (s : Scope) (at : ℕ) (ws : List WordAt) (ns : List Node) → read_nodes s at ws ≡ Ok ns → is_term ns ≡ true
unfolding read_nodes
shaped s at ws ns e = from-words s at (reached expect.Term 1 []) 32 ws ns (record { terms = λ rest. refl; words = refl; some = λ never. absurd (true≢false never) }) e
