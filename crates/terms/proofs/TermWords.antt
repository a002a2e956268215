-- Reading words one by one: what is read so far, carried on over the rest, is the whole reading.
use Rattle.std.proofs.Common.{◌≡◌, ℕ, ◌+◌, ◌-◌, ◌<◌, ◌≤◌, Bool, false, cond, ◌||◌, eqb, List, [], length, get_or, drop, Ok, Result, sym, ap, ◌∙◌, arith}
use Rattle.std.proofs.lemmas.List.{at_drop_more}
use Rattle.lexer.specs.declared.Fault.{Fault}
use Rattle.lexer.specs.declared.Rule.TheVariants as rule
use Rattle.lexer.specs.declared.Word.{Word}
use Rattle.lexer.specs.Text.{WordAt, word_of, words_of}
use Rattle.terms.specs.declared.expect.Expect.{Expect}
use Rattle.model.specs.declared.node.Field.{Field}
use Rattle.model.specs.declared.node.Node.{Node}
use Rattle.terms.specs.Terms.{Progress, Scope, and_then, complete, fault, fields_from, read_nodes, term_from, word_on}

-- the atoms so far, with those of the rest, are the atoms of all the words
pub record FieldsSofar (s : Scope) (ws : List Word) (done : List Field) (i : ℕ) : Type 0 where
  pub rest : fields_from s [] (words_of ws) ≡ fields_from s done (words_of (drop i ws))

-- a word raises the number of terms to come by at most one
wanted-more : (s : Scope) (x : Expect) (n : ℕ) (done : List Node) (w : WordAt) (q : Progress) → word_on s x n done w ≡ Ok q → q.wanted ≤ n + 1
wanted-more s x n done w q e = grind arith

-- the term as far as it is read, carried on over the rest of the words, is the term; and each word so far brought at most one term to come
pub record TermSofar (s : Scope) (at : ℕ) (ws : List Word) (p : Progress) (i : ℕ) : Type 0 where
  pub rest : read_nodes s at (words_of ws) ≡ term_from s at p (32 - i) (words_of (drop i ws))
  pub few : p.wanted ≤ i + 1

module _ {s : Scope} {at : ℕ} {ws : List Word} {p : Progress} {i : ℕ} (h : TermSofar s at ws p i) where
  module _ (d : Word) (lt : i < length ws) where
    -- the next word, and then the rest
    abbrev here : Result Progress Fault
    here = word_on s p.expect p.wanted p.done (word_of (get_or ws i d))

    abbrev term_on : Result Progress Fault → Result (List Node) Fault
    term_on r = and_then r (λ q. term_from s at q (32 - i - 1) (words_of (drop (i + 1) ws)))

    -- the next word is read, unless the term is full
    by : (b : Bool) → b ≡ (complete p || eqb (32 - i) 0) → read_nodes s at (words_of ws) ≡ cond b (fault rule.Length (get_or ws i d).place) (term_on here)
    by b is = h.rest ∙ at_drop_more (λ r. term_from s at p (32 - i) (words_of r)) ws i d lt ∙ ap (λ b. cond b (fault rule.Length (get_or ws i d).place) (term_on here)) (sym is)

    -- a word that is read takes the term further
    pub term-more : false ≡ (complete p || eqb (32 - i) 0) → (q : Progress) → here ≡ Ok q → TermSofar s at ws q (i + 1)
    term-more is q e = record {
      rest = by false is ∙ ap term_on e ∙ ap (λ room. term_from s at q room (words_of (drop (i + 1) ws))) (omega arith);
      few = omega (arith, h.few, wanted-more s p.expect p.wanted p.done (word_of (get_or ws i d)) q e);
    }
