-- The fault of a term or a signal lies at its line or at one of its words.
use Rattle.std.proofs.Common.{ℕ, ◌-◌, ◌≤◌, List, [], ◌∷◌, ◌++◌}
use Rattle.std.specs.List.{AllByRecursion}
use Rattle.lexer.specs.declared.Rule.TheVariants as rule
use Rattle.lexer.specs.Text.{WordAt}
use Rattle.terms.specs.declared.expect.Expect.{Expect}
use Rattle.terms.specs.declared.expect.Expect.TheVariants as expect
use Rattle.model.specs.declared.node.Field.{Field}
use Rattle.model.specs.declared.node.Node.{Node}
use Rattle.terms.specs.Terms.{Progress, Scope, field_of, fields_from, reached, read_nodes, read_signal, read_term, term_from, word_on}
use Rattle.sheet_laws.proofs.PlacesLexed.{WordWithin}
use Rattle.sheet_laws.proofs.PlacesWithin.{Any, Within, either, faults, found, gives, next, readings}

-- a word of a term
word-within : {n : ℕ} (s : Scope) (e : Expect) (wanted : ℕ) (done : List Node) (w : WordAt) → w.place ≤ n → Within n Any (word_on s e wanted done w)
word-within s expect.Term wanted done w h = search readings depth 6
word-within s (expect.First o) wanted done w h = search readings
word-within s (expect.Second o f) wanted done w h = search readings

-- the words of a term
term-from : {n at : ℕ} (s : Scope) (p : Progress) (room : ℕ) (ws : List WordAt) → at ≤ n → AllByRecursion (WordWithin n) ws → Within n Any (term_from s at p room ws)
term-from s p room [] h hs = either _ (gives tt) (faults h)
term-from s p room (w ∷ ws) h hs = either _ (faults hs.0) (next (word-within s p.expect p.wanted p.done w hs.0) (λ q. term-from s q (room - 1) ws h hs.1))

-- a term
pub term : {n at : ℕ} (s : Scope) (ws : List WordAt) → at ≤ n → AllByRecursion (WordWithin n) ws → Within n Any (read_term s at ws)
unfolding read_term read_nodes
term s ws h hs = next (term-from s (reached expect.Term 1 []) 32 ws h hs) (λ ns. gives tt)

-- the atoms of a signal
fields-from : {n : ℕ} (s : Scope) (done : List Field) (ws : List WordAt) → AllByRecursion (WordWithin n) ws → Within n Any (fields_from s done ws)
fields-from s done [] hs = gives tt
fields-from s done (w ∷ ws) hs = next (found (field_of s w.text) rule.Word hs.0) (λ f. fields-from s (done ++ (f ∷ [])) ws hs.1)

-- a signal
pub signal : {n : ℕ} (s : Scope) (w : WordAt) (ws : List WordAt) → w.place ≤ n → AllByRecursion (WordWithin n) ws → Within n Any (read_signal s w ws)
unfolding read_signal
signal s w ws h hs = search (readings, fields-from)
