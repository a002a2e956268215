-- How the words of a line are read: what a name stands for in its place, terms, the atoms of a signal, values.
use Rattle.std.specs.Prelude.{ℕ, ◌+◌, ◌-◌, ◌*◌, Bool, true, false, cond, not, ◌&&◌, ◌||◌, List, [], ◌∷◌, ◌++◌, map, length, drop, ℤ, pos, negsuc, is_some, Some, None, Ok, Err, codes, Option, Result, ◌==◌, nat_le, slice_index}
use Rattle.std.specs.List.{list_all, slice_get}
use Rattle.std.specs.Option.{option_map}
use Rattle.std.specs.Char.{is_ascii_digit}
use Rattle.std.specs.Str.{bytes_eq}
use Rattle.message.specs.declared.Kind.{Kind}
use Rattle.message.specs.declared.Kind.TheVariants as kind
use Rattle.lexer.specs.declared.Fault.{Fault}
use Rattle.lexer.specs.declared.Rule.{Rule}
use Rattle.lexer.specs.declared.Rule.TheVariants as rule
use Rattle.lexer.specs.Text.{WordAt}
use Rattle.terms.specs.declared.expect.Expect.{Expect}
use Rattle.terms.specs.declared.expect.Expect.TheVariants as expect
use Rattle.model.specs.declared.node.Field.{Field}
use Rattle.model.specs.declared.node.Field.TheVariants.{Player, Variable, Named}
use Rattle.model.specs.declared.node.Node.{Node}
use Rattle.model.specs.declared.node.Node.TheVariants as node
use Rattle.terms.specs.declared.expect.Opening.{Opening}
use Rattle.terms.specs.declared.expect.Opening.TheVariants as opening
use Rattle.model.specs.declared.node.Sort.{Sort}
use Rattle.model.specs.declared.node.Sort.TheVariants.{Fresh, Plain}
use Rattle.model.specs.Names.{index_of, is_name}
use Rattle.model.specs.Sheet as model
use Rattle.model.specs.Trees.{Term, tree}

-- a broken rule and where; and going on with what came
abbrev pub fault : {X : Type 0} → Rule → ℕ → Result X Fault
fault r at = Err (record { rule = r; place = at })

abbrev pub and_then : {X Y : Type 0} → Result X Fault → (X → Result Y Fault) → Result Y Fault
and_then (Ok x) f = f x
and_then (Err e) f = Err e

-- what is there, or the fault
abbrev pub or_fault : {X : Type 0} → Option X → Rule → ℕ → Result X Fault
or_fault None r at = fault r at
or_fault (Some x) r at = Ok x

-- the first of two that is there; and what is there, if it passes
abbrev pub or_else : {X : Type 0} → Option X → Option X → Option X
or_else None b = b
or_else (Some a) b = Some a

abbrev pub passing : {X : Type 0} → (X → Bool) → Option X → Option X
passing p None = None
passing p (Some x) = cond (p x) (Some x) None

-- What a word may stand for where it stands: in a role's script `self` and the role's variables, in the ranks the free variables; and the named ones.
pub record Scope : Type 0 where
  pub script : Bool
  pub variables : List model.Variable
  pub agents : List model.Agent
  pub texts : List (List ℕ)
  pub nonces : List model.Nonce

abbrev pub variable_names : List model.Variable → List (List ℕ)
variable_names vs = map (λ v. v.name) vs

abbrev pub agent_names : List model.Agent → List (List ℕ)
agent_names agents = map (λ a. a.name) agents

abbrev pub nonce_names : List model.Nonce → List (List ℕ)
nonce_names ns = map (λ n. n.name) ns

abbrev pub role_names : List model.Role → List (List ℕ)
role_names rs = map (λ r. r.name) rs

-- whether one of them has this name
abbrev pub has : List (List ℕ) → List ℕ → Bool
has names w = is_some (index_of names w)

abbrev pub field_of : Scope → List ℕ → Option Field
field_of s w =
    or_else (cond (s.script && bytes_eq w (codes "self")) (Some Player) None)
    (or_else (option_map Variable (index_of (variable_names s.variables) w))
    (or_else (option_map (Named kind.Agent) (index_of (agent_names s.agents) w))
    (or_else (option_map (Named kind.Text) (index_of s.texts w))
    (option_map (Named kind.Nonce) (index_of (nonce_names s.nonces) w)))))

-- whether a field is an agent
abbrev pub agent_kind : Kind → Bool
agent_kind kind.Agent = true
agent_kind kind.Nonce = false
agent_kind kind.Text = false

abbrev pub agent_sort : Sort → Bool
agent_sort Fresh = false
agent_sort (Plain k) = agent_kind k

abbrev pub agent_variable : Option model.Variable → Bool
agent_variable None = false
agent_variable (Some v) = agent_sort v.sort

abbrev pub agent_field : Scope → Field → Bool
agent_field s Player = true
agent_field s (Variable i) = agent_variable (slice_get s.variables i)
agent_field s (Named k n) = agent_kind k

-- The first agent of a key or seal: `self` in a script, else a named one. The second: any agent.
abbrev pub first_agent : Scope → List ℕ → Option Field
first_agent s w = cond s.script (cond (bytes_eq w (codes "self")) (Some Player) None) (option_map (Named kind.Agent) (index_of (agent_names s.agents) w))

abbrev pub second_agent : Scope → List ℕ → Option Field
second_agent s w = passing (agent_field s) (field_of s w)

-- A term as far as it is read: what comes next, how many terms are still to come, and the nodes so far.
pub record Progress : Type 0 where
  pub expect : Expect
  pub wanted : ℕ
  pub done : List Node

abbrev pub expects_term : Expect → Bool
expects_term expect.Term = true
expects_term (expect.First o) = false
expects_term (expect.Second o f) = false

abbrev pub complete : Progress → Bool
complete p = expects_term p.expect && p.wanted == 0

abbrev pub reached : Expect → ℕ → List Node → Progress
reached e n done = record { expect = e; wanted = n; done = done }

-- one word more of a term
abbrev pub closed : Opening → Field → Field → ℕ → List Node → Progress
closed opening.Key f g n done = reached expect.Term (n - 1) (done ++ (node.Key f g ∷ []))
closed opening.Seal f g n done = reached expect.Term n (done ++ (node.Seal f g ∷ []))

abbrev pub term_word : Scope → ℕ → List Node → WordAt → Result Progress Fault
term_word s n done w =
    cond (bytes_eq w.text (codes "pair")) (Ok (reached expect.Term (n + 1) (done ++ (node.Pair ∷ []))))
    (cond (bytes_eq w.text (codes "key")) (Ok (reached (expect.First opening.Key) n done))
    (cond (bytes_eq w.text (codes "seal")) (Ok (reached (expect.First opening.Seal) n done))
    (and_then (or_fault (field_of s w.text) rule.Word w.place) (λ f. Ok (reached expect.Term (n - 1) (done ++ (node.Leaf f ∷ [])))))))

abbrev pub word_on : Scope → Expect → ℕ → List Node → WordAt → Result Progress Fault
word_on s expect.Term n done w = term_word s n done w
word_on s (expect.First o) n done w = and_then (or_fault (first_agent s w.text) rule.Word w.place) (λ f. Ok (reached (expect.Second o f) n done))
word_on s (expect.Second o f) n done w = and_then (or_fault (second_agent s w.text) rule.Word w.place) (λ g. Ok (closed o f g n done))

-- The nodes of a term from its words, of which there may be so many more. A term cut short lies at its line, one too long at the first word past it.
abbrev pub term_from : Scope → ℕ → Progress → ℕ → List WordAt → Result (List Node) Fault
term_from s at p room [] = cond (complete p) (Ok p.done) (fault rule.Length at)
term_from s at p room (w ∷ ws) =
    cond (complete p || room == 0) (fault rule.Length w.place)
    (and_then (word_on s p.expect p.wanted p.done w) (λ q. term_from s at q (room - 1) ws))

unfoldable pub read_nodes : Scope → ℕ → List WordAt → Result (List Node) Fault
read_nodes s at ws = term_from s at (reached expect.Term 1 []) 32 ws

unfoldable pub read_term : Scope → ℕ → List WordAt → Result Term Fault
read_term s at ws = and_then (read_nodes s at ws) (λ ns. Ok (tree ns))

-- the atoms of a signal
abbrev pub fields_from : Scope → List Field → List WordAt → Result (List Field) Fault
fields_from s done [] = Ok done
fields_from s done (w ∷ ws) = and_then (or_fault (field_of s w.text) rule.Word w.place) (λ f. fields_from s (done ++ (f ∷ [])) ws)

-- a signal word and its atoms
unfoldable pub read_signal : Scope → WordAt → List WordAt → Result model.Signal Fault
read_signal s w ws =
    cond (is_name w.text) (and_then (fields_from s [] ws) (λ fs. Ok (record { word = w.text; fields = fs }))) (fault rule.NewName w.place)

-- A whole number without leading zeros, from its digits.
abbrev pub digits : List ℕ → Bool
digits cs = list_all is_ascii_digit cs

abbrev pub number : ℕ → List ℕ → ℕ
number n [] = n
number n (c ∷ cs) = number (n * 10 + (c - 48)) cs

-- one or more, and no 0 before another
abbrev pub unpadded : List ℕ → Bool
unpadded cs = nat_le 1 (length cs) && (length cs == 1 || not (slice_index cs 0 == 48))

abbrev pub plain_digits : List ℕ → Bool
plain_digits cs = digits cs && unpadded cs

-- a number of at most 32,768
abbrev pub magnitude : List ℕ → Option ℕ
magnitude cs = cond (plain_digits cs && nat_le (number 0 cs) 32768) (Some (number 0 cs)) None

abbrev pub negative : Option ℕ → Option ℤ
negative None = None
negative (Some n) = cond (n == 0) None (Some (negsuc (n - 1)))

abbrev pub positive : Option ℕ → Option ℤ
positive None = None
positive (Some n) = cond (nat_le n 32767) (Some (pos n)) None

-- The value that a text writes, from -32,768 to 32,767, without leading zeros and without `-0`.
abbrev pub value_of : List ℕ → Option ℤ
value_of w = cond (slice_index w 0 == 45) (negative (magnitude (drop 1 w))) (positive (magnitude w))
