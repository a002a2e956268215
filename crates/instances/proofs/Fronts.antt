-- A key alone, and a seal of a content of at most 32 words, are written whole.
use Rattle.std.proofs.Common.{◌≡◌, ℕ, ◌≤◌, List, [], ◌++◌, length, Some, None, sym, refl, ap, ◌∙◌, arith, length-append}
use Rattle.std.proofs.lemmas.List.{append-nil}
use Rattle.message.specs.Message as messages
use Rattle.message.specs.Message.{KeyFits, Msg, key_bytes, wire}
use Rattle.model.specs.declared.node.Field.{Field}
use Rattle.model.specs.declared.node.Node.{Node}
use Rattle.model.specs.Trees.{Term, key, prefix, seal, tree, word_count}
use Rattle.model.specs.Codes.{tree_prefix}
use Rattle.instances.specs.Substitution.{Values, key_under, message}
use Rattle.instances.specs.Writing.{Declined, Put, Substitutes, Withheld, Written, seal_bytes}
use Rattle.instances.proofs.Parts.{of-both, of_one}
use Rattle.instances.proofs.Sizes.{key-bytes, two-each}
use Rattle.instances.proofs.Wholes.{is_none}

module _ (v : Values) (f g : Field) (before : List ℕ) (start : before ≡ []) where
  pub key_whole : {after : List ℕ} → Put KeyFits key_bytes (key_under v f g) before after → Substitutes v (key f g) (Some after)
  key_whole {after} (k, is, fits, bytes) =
      let form : after ≡ key_bytes k = bytes ∙ ap (λ x. x ++ key_bytes k) start in
      (messages.key k, rw is refl, record { fits = fits; form = sym form; short = omega (arith, ap length form, key-bytes k) })

  pub key_none : Withheld key_bytes (key_under v f g) before → message v (key f g) ≡ None
  key_none withheld =
      is_none (message v (key f g)) (λ m e. let (k, is, key-is) = of_one (key_under v f g) e in omega (arith, withheld k is, key-bytes k, ap length start))

  module _ (t : Term) where
    pub seal_front_none : Withheld seal_bytes (key_under v f g) before → message v (seal f g t) ≡ None
    seal_front_none withheld =
        is_none (message v (seal f g t)) (λ m e. let (k, x, is, content, seal-is) = of-both (key_under v f g) (message v t) e in omega (arith, withheld k is, key-bytes k, ap length start))

    module _ (ns : List Node) (order : ns ≡ prefix t) (few : word_count ns ≤ 32) (front : List ℕ) (put : Put KeyFits seal_bytes (key_under v f g) before front) where
      same : tree ns ≡ t
      same = ap (λ ms. tree ms) order ∙ tree_prefix t

      -- the content has at most 65 bytes
      content_short : (m : Msg) → message v t ≡ Some m → length (wire m) ≤ 65
      content_short m is = let words : word_count (prefix t) ≤ 32 = rw order at few in omega (arith, two-each v t m is)

      front_length : length front ≡ 4
      front_length = let (k, is, fits, bytes) = put in omega (arith, ap length bytes, length-append before (seal_bytes k), key-bytes k, ap length start)

      pub seal_none : Declined v ns front → message v (seal f g t) ≡ None
      seal_none declined =
          is_none (message v (seal f g t)) (λ m e.
          let (k, x, is, content, seal-is) = of-both (key_under v f g) (message v t) e in
          let long = declined [] x (append-nil _ ∙ ap prefix same ∙ sym order) (ap (message v) same ∙ content) in
          omega (arith, long, content_short x content, front_length))

      pub seal_whole : {after : List ℕ} {rest : List Node} → Written v ns front after rest → Substitutes v (seal f g t) (Some after)
      seal_whole {after} w =
          let (k, is, fits, bytes) = put in
          let content : message v t ≡ Some w.msg = ap (message v) (sym same) ∙ w.is in
          let form : after ≡ seal_bytes k ++ wire w.msg = w.bytes ∙ ap (λ x. x ++ wire w.msg) (bytes ∙ ap (λ x. x ++ seal_bytes k) start) in (
            messages.seal k w.msg,
            rw (is, content) refl,
            record {
              fits = (fits, w.fits);
              form = sym form;
              short = omega (arith, ap length form, length-append (seal_bytes k) (wire w.msg), key-bytes k, content_short w.msg content);
            },
          )
