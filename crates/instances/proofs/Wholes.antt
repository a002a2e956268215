-- A whole term is written, or it is no message.
use Rattle.std.proofs.Common.{◌≡◌, ℕ, ◌≤◌, List, [], ◌++◌, length, Some, None, Option, sym, refl, ap, ◌∙◌, arith}
use Rattle.std.proofs.lemmas.List.{append-nil}
use Rattle.message.specs.Message.{Msg, Reads, wire}
use Rattle.model.specs.declared.node.Node.{Node}
use Rattle.model.specs.Trees.{Term, prefix, tree, word_count}
use Rattle.model.specs.Codes.{tree_prefix}
use Rattle.instances.specs.Substitution.{Values, message}
use Rattle.instances.specs.Writing.{Declined, Written}
use Rattle.instances.proofs.Sizes.{substitution_is_short}

-- what is nothing else is none
pub is_none : {X : Type 0} (o : Option X) → ((x : X) → o ≡ Some x → ⊥) → o ≡ None
is_none None not = refl
is_none (Some x) not = absurd (not x refl)

-- some values, and a term of at most 32 words with its nodes
module _ (v : Values) (t : Term) (ns : List Node) (order : ns ≡ prefix t) (few : word_count ns ≤ 32) where
  -- the nodes are the term's
  same : tree ns ≡ t
  same = ap (λ ms. tree ms) order ∙ tree_prefix t

  -- the term's message does not pass 96 bytes
  short : (m : Msg) → message v t ≡ Some m → length (wire m) ≤ 96
  short m is = substitution_is_short v t m (rw order at few) is

  -- what is written is the term's message
  pub term_written : {before after : List ℕ} {rest : List Node} → before ≡ [] → Written v ns before after rest → (m : Msg) × (message v t ≡ Some m) × Reads after m
  term_written start w =
      let is = ap (message v) (sym same) ∙ w.is in
      let form = w.bytes ∙ ap (λ x. x ++ wire w.msg) start in
      (w.msg, is, record { fits = w.fits; form = sym form; short = rw form (short w.msg is) })

  -- what is declined is no message
  pub term_declined : {before : List ℕ} → before ≡ [] → Declined v ns before → message v t ≡ None
  term_declined start declined =
      is_none (message v t) (λ m is. let long = declined [] m (append-nil _ ∙ ap prefix same ∙ sym order) (ap (message v) same ∙ is) in omega (arith, short m is, ap length start))
