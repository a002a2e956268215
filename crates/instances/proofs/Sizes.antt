-- How many bytes the message of a term has.
use Rattle.std.proofs.Common.{◌≡◌, ◌+◌, ◌*◌, ◌≤◌, List, [], ◌∷◌, ◌++◌, length, Some, refl, arith, length-append}
use Rattle.message.specs.declared.Atom.{Atom}
use Rattle.message.specs.declared.Atom.TheVariants.{Agent, Nonce, Text}
use Rattle.message.specs.Message.{Key, Msg, key_bytes, shared, single, wire}
use Rattle.model.specs.declared.node.Node.{Node}
use Rattle.model.specs.Trees.{Term, leaf, pair, key, seal, prefix, word_count}
use Rattle.instances.specs.Laws.{SubstitutionIsShort}
use Rattle.instances.specs.Substitution.{Values, key_under, message, value}
use Rattle.instances.proofs.Parts.{of-both, of_one}

-- the words of nodes one after another
words_append : (ns ms : List Node) → word_count (ns ++ ms) ≡ word_count ns + word_count ms
words_append [] ms = omega arith
words_append (x ∷ ns) ms = omega (arith, words_append ns ms)

-- an atom has at most three bytes
atom-short : (a : Atom) → length (wire (single a)) ≤ 3
atom-short (Agent n) = omega arith
atom-short (Nonce n) = omega arith
atom-short (Text n) = omega arith

-- a key has three bytes
pub key-bytes : (k : Key) → length (key_bytes k) ≡ 3
key-bytes (shared a b) = refl

-- a message has at most three bytes for each word of its term
three-each : (v : Values) (t : Term) (m : Msg) → message v t ≡ Some m → length (wire m) ≤ 3 * word_count (prefix t)
three-each v (leaf f) m e = let (a, _, is) = of_one (value v f) e in rw is (omega (arith, atom-short a))
three-each v (pair l r) m e =
    let (x, y, left, right, is) = of-both (message v l) (message v r) e in
    rw is (omega (arith, three-each v l x left, three-each v r y right, length-append (wire x) (wire y), words_append (prefix l) (prefix r)))
three-each v (key f g) m e = let (k, _, is) = of_one (key_under v f g) e in rw is (omega (arith, key-bytes k))
three-each v (seal f g t) m e =
    let (k, x, _, content, is) = of-both (key_under v f g) (message v t) e in
    rw is (omega (arith, three-each v t x content, length-append (key_bytes k) (wire x), key-bytes k))

-- 32 words make at most 96 bytes
pub substitution_is_short : SubstitutionIsShort
substitution_is_short v t m few e = omega (arith, three-each v t m e)

-- a message has at most two bytes for each word of its term, and one more
pub two-each : (v : Values) (t : Term) (m : Msg) → message v t ≡ Some m → length (wire m) ≤ 2 * word_count (prefix t) + 1
two-each v (leaf f) m e = let (a, _, is) = of_one (value v f) e in rw is (omega (arith, atom-short a))
two-each v (pair l r) m e =
    let (x, y, left, right, is) = of-both (message v l) (message v r) e in
    rw is (omega (arith, two-each v l x left, two-each v r y right, length-append (wire x) (wire y), words_append (prefix l) (prefix r)))
two-each v (key f g) m e = let (k, _, is) = of_one (key_under v f g) e in rw is (omega (arith, key-bytes k))
two-each v (seal f g t) m e =
    let (k, x, _, content, is) = of-both (key_under v f g) (message v t) e in
    rw is (omega (arith, two-each v t x content, length-append (key_bytes k) (wire x), key-bytes k))
