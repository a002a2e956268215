-- Whether nodes are one term of at most 32 words, one node at a time.
use Rattle.std.proofs.Common.{◌≡◌, ℕ, ◌+◌, ◌-◌, ◌<◌, ◌≤◌, Bool, true, false, ◌&&◌, eqb, leb, List, ◌∷◌, length, get_or, drop, sym, refl, ap, ◌∙◌, arith}
use Rattle.std.proofs.lemmas.List.{at_drop_all, at_drop_more}
use Rattle.std.proofs.lemmas.Bool.{and_left, and_right, le-leb, lt-leb}
use Rattle.model.specs.declared.node.Node.{Node}
use Rattle.model.specs.declared.node.Node.TheVariants as node
use Rattle.model.specs.Trees.{are_terms, arity, is_term, word_count, words_at}

-- the nodes are so many terms, and have few words with those before them
abbrev fit : ℕ → ℕ → List Node → Bool
fit wanted words ns = are_terms wanted ns && leb (words + word_count ns) 32

-- The nodes are a term exactly if those from i on fit what came before; and no node brings more terms than words.
pub record Counted (ns : List Node) (i wanted words : ℕ) : Type 0 where
  pub rest : is_term ns ≡ fit wanted words (drop i ns)
  pub few : words ≤ 32
  pub fewer : wanted ≤ words + 1

pub counted_none : (ns : List Node) → Counted ns 0 1 0
counted_none ns = record { rest = ap (λ n. are_terms 1 ns && leb n 32) (omega arith); few = omega arith; fewer = omega arith }

-- no node brings more terms than it has words, but for one
arity-few : (x : Node) → (arity x ≤ words_at x + 1) × (words_at x ≤ 3)
arity-few (node.Leaf f) = (omega arith, omega arith)
arity-few node.Pair = (omega arith, omega arith)
arity-few (node.Key f g) = (omega arith, omega arith)
arity-few (node.Seal f g) = (omega arith, omega arith)

-- a passed test beside another tells nothing more
and-passed : (b t : Bool) → t ≡ true → (b && t) ≡ b
and-passed true t e = e
and-passed false t e = refl

module _ (ns : List Node) (i wanted words : ℕ) (h : Counted ns i wanted words) where
  pub counted-all : length ns ≤ i → eqb wanted 0 ≡ is_term ns
  counted-all e =
      sym (h.rest ∙ at_drop_all (fit wanted words) ns i e ∙ and-passed (eqb wanted 0) _ (le-leb (words + 0) 32 (omega (arith, h.few))))

  module _ (d : Node) (lt : i < length ns) where
    -- this node, and those after it
    here : is_term ns ≡ fit wanted words (get_or ns i d ∷ drop (i + 1) ns)
    here = h.rest ∙ at_drop_more (fit wanted words) ns i d lt

    pub none-wanted : wanted ≡ 0 → false ≡ is_term ns
    none-wanted e = sym (here ∙ and_left _ _ (and_left _ _ (lt-leb 1 wanted (omega arith))))

    module _ (k : ℕ) (words-is : k ≡ words_at (get_or ns i d)) where
      pub too_many : 32 < words + k → false ≡ is_term ns
      too_many e = sym (here ∙ and_right _ _ (lt-leb (words + (words_at (get_or ns i d) + word_count (drop (i + 1) ns))) 32 (omega arith)))

      pub counted-more : (a : ℕ) → a ≡ arity (get_or ns i d) → (wanted ≡ 0 → ⊥) → words + k ≤ 32 → Counted ns (i + 1) (wanted - 1 + a) (words + k)
      counted-more a arity-is some few = record {
        rest = here ∙ ap (λ b. (b && are_terms (wanted - 1 + arity (get_or ns i d)) (drop (i + 1) ns)) && leb (words + (words_at (get_or ns i d) + word_count (drop (i + 1) ns))) 32) (le-leb 1 wanted (omega arith)) ∙ ap (λ x. are_terms (wanted - 1 + x) (drop (i + 1) ns) && leb (words + (words_at (get_or ns i d) + word_count (drop (i + 1) ns))) 32) (sym arity-is) ∙ ap (λ n. are_terms (wanted - 1 + a) (drop (i + 1) ns) && leb n 32) (omega arith);
        few = few;
        fewer = omega (arith, h.fewer, arity-few (get_or ns i d));
      }
