-- Reading a sheet, line by line: what each line adds, or the first rule that it breaks and where.
use Rattle.std.specs.Prelude.{ℕ, ◌+◌, ◌-◌, Bool, true, false, cond, not, ◌&&◌, ◌||◌, List, [], ◌∷◌, map, length, take, drop, is_some, Some, None, Ok, codes, decimal, Option, Result, ◌==◌, nat_le, nat_lt}
use Rattle.std.specs.List.{slice_get}
use Rattle.std.specs.Str.{bytes_eq}
use Rattle.message.specs.declared.Kind.{Kind}
use Rattle.message.specs.declared.Kind.TheVariants as kind
use Rattle.lexer.specs.declared.Fault.{Fault}
use Rattle.lexer.specs.declared.Rule.{Rule}
use Rattle.lexer.specs.declared.Rule.TheVariants as rule
use Rattle.lexer.specs.Text.{LineAt, is, word_at}
use Rattle.model.specs.declared.node.Field.{Field}
use Rattle.model.specs.declared.node.Field.TheVariants.{Player, Variable, Named}
use Rattle.model.specs.declared.node.Node.{Node}
use Rattle.model.specs.declared.node.Node.TheVariants as node
use Rattle.model.specs.declared.node.Sort.{Sort}
use Rattle.model.specs.declared.node.Sort.TheVariants.{Fresh, Plain}
use Rattle.model.specs.Names.{index_of}
use Rattle.model.specs.Sheet as model
use Rattle.model.specs.Sheet.{honest, may_play}
use Rattle.model.specs.Trees.{Term, seal}
use Rattle.terms.specs.Same.{same_atom, same_signal}
use Rattle.terms.specs.Terms.{agent_names, and_then, fault, field_of, first_agent, or_fault, passing, read_signal, read_term, second_agent, value_of, variable_names}
use Rattle.draft.specs.Drafts.{Cast, Draft, Script, Table, Title, free_scope, named_scope, new_free, new_name, new_variable, script_scope}
use Rattle.terms.specs.Usages.{check_usages}
use Rattle.terms.specs.Terms.{role_names}

-- a test that has to pass
abbrev pub unless : {X : Type 0} → Bool → Rule → ℕ → Result X Fault → Result X Fault
unless ok r at go = cond ok go (fault r at)

-- ---- what one line says

-- `agent NAME` or `agent NAME enemy`, of which there are at most six
abbrev pub agent_shape : LineAt → Bool
agent_shape l = length l.words == 2 || (length l.words == 3 && is l 2 (codes "enemy"))

abbrev pub agent_line : Cast → LineAt → Result model.Agent Fault
agent_line c l =
    unless (agent_shape l) rule.Line l.place
    (unless (nat_lt (length c.agents) 6) rule.Count l.place
    (unless (new_name c (word_at l 1).text) rule.NewName (word_at l 1).place
    (Ok (record { name = (word_at l 1).text; enemy = (length l.words == 3) }))))

-- `text NAME`, at most six
abbrev pub text_line : Cast → LineAt → Result (List ℕ) Fault
text_line c l =
    unless (length l.words == 2) rule.Line l.place
    (unless (nat_lt (length c.texts) 6) rule.Count l.place
    (unless (new_name c (word_at l 1).text) rule.NewName (word_at l 1).place
    (Ok (word_at l 1).text)))

-- an honest agent of this name
abbrev pub player_of : Cast → List ℕ → Option ℕ
player_of c w = passing (λ a. honest (slice_get c.agents a)) (index_of (agent_names c.agents) w)

-- `role NAME` or `role NAME PLAYER`
abbrev pub role_shape : LineAt → Bool
role_shape l = length l.words == 2 || length l.words == 3

abbrev pub title_line : Cast → LineAt → Result Title Fault
title_line c l =
    unless (new_name c (word_at l 1).text) rule.NewName (word_at l 1).place
    (cond (length l.words == 2)
    (Ok (record { name = (word_at l 1).text; player = None }))
    (and_then (or_fault (player_of c (word_at l 2).text) rule.Word (word_at l 2).place) (λ a. Ok (record { name = (word_at l 1).text; player = Some a }))))

abbrev pub kind_of : List ℕ → Option Kind
kind_of w =
    cond (bytes_eq w (codes "agent")) (Some kind.Agent)
    (cond (bytes_eq w (codes "nonce")) (Some kind.Nonce)
    (cond (bytes_eq w (codes "text")) (Some kind.Text) None))

-- `var NAME KIND` or `free NAME KIND`, where so many are declared already, and whether the name is new
abbrev pub plain_line : ℕ → Bool → LineAt → Result model.Variable Fault
plain_line declared new l =
    unless (length l.words == 3) rule.Line l.place
    (unless (nat_lt declared 5) rule.Count l.place
    (unless new rule.NewName (word_at l 1).place
    (and_then (or_fault (kind_of (word_at l 2).text) rule.Word (word_at l 2).place) (λ k. Ok (record { name = (word_at l 1).text; sort = Plain k })))))

-- `var NAME KIND` and `fresh NAME`, at most five in a role
abbrev pub var_line : Cast → Script → LineAt → Result model.Variable Fault
var_line c s l = plain_line (length s.variables) (new_variable c s (word_at l 1).text) l

abbrev pub fresh_line : Cast → Script → LineAt → Result model.Variable Fault
fresh_line c s l =
    unless (length l.words == 2) rule.Line l.place
    (unless (nat_lt (length s.variables) 5) rule.Count l.place
    (unless (new_variable c s (word_at l 1).text) rule.NewName (word_at l 1).place
    (Ok (record { name = (word_at l 1).text; sort = Fresh }))))

-- `send TERM`, `recv TERM` and `sig WORD ATOMS`, at most eight in a role
abbrev pub term_line : Cast → Script → LineAt → Result Term Fault
term_line c s l =
    unless (nat_lt (length s.steps) 8) rule.Count l.place
    (read_term (script_scope c s) l.place (drop 1 l.words))

abbrev pub send_line : Cast → Script → LineAt → Result model.Step Fault
send_line c s l = and_then (term_line c s l) (λ t. Ok (model.send t))

abbrev pub recv_line : Cast → Script → LineAt → Result model.Step Fault
recv_line c s l = and_then (term_line c s l) (λ t. Ok (model.receive t))

abbrev pub few_atoms : ℕ → Bool
few_atoms n = nat_le 1 n && nat_le n 4

abbrev pub sig_line : Cast → Script → LineAt → Result model.Step Fault
sig_line c s l =
    unless (few_atoms (length l.words - 2)) rule.Line l.place
    (unless (nat_lt (length s.steps) 8) rule.Count l.place
    (and_then (read_signal (script_scope c s) (word_at l 1) (drop 2 l.words)) (λ x. Ok (model.signal x))))

-- `nonce NAME AGENT ROLE FRESH`, at most six: an agent that may play the role, and a fresh variable there
abbrev pub plays : Cast → ℕ → Option model.Role → Bool
plays c a None = false
plays c a (Some r) = may_play c.agents r.player a

abbrev pub playable : Cast → ℕ → List ℕ → Option ℕ
playable c a w = passing (λ r. plays c a (slice_get c.roles r)) (index_of (role_names c.roles) w)

abbrev pub fresh_sort : Sort → Bool
fresh_sort Fresh = true
fresh_sort (Plain k) = false

abbrev pub fresh_variable : Option model.Variable → Bool
fresh_variable None = false
fresh_variable (Some v) = fresh_sort v.sort

abbrev pub fresh_among : List model.Variable → List ℕ → Option ℕ
fresh_among vs w = passing (λ i. fresh_variable (slice_get vs i)) (index_of (variable_names vs) w)

abbrev pub fresh_in : Option model.Role → List ℕ → Option ℕ
fresh_in None w = None
fresh_in (Some r) w = fresh_among r.variables w

abbrev pub nonce_line : Cast → LineAt → Result model.Nonce Fault
nonce_line c l =
    unless (length l.words == 5) rule.Line l.place
    (unless (nat_lt (length c.nonces) 6) rule.Count l.place
    (unless (new_name c (word_at l 1).text) rule.NewName (word_at l 1).place
    (and_then (or_fault (index_of (agent_names c.agents) (word_at l 2).text) rule.Word (word_at l 2).place) (λ a.
    and_then (or_fault (playable c a (word_at l 3).text) rule.Word (word_at l 3).place) (λ r.
    and_then (or_fault (fresh_in (slice_get c.roles r) (word_at l 4).text) rule.Word (word_at l 4).place) (λ v.
    Ok (record { name = (word_at l 1).text; agent = a; role = r; variable = v })))))))

-- `know TERM`, at most eight
abbrev pub know_line : Cast → List Term → LineAt → Result Term Fault
know_line c known l =
    unless (nat_lt (length known) 8) rule.Count l.place
    (read_term (named_scope c) l.place (drop 1 l.words))

-- `holds WORD ATOMS needs WORD ATOMS`, once. The atoms run to the first `needs` after the first of them.
abbrev pub needs_at : LineAt → Option ℕ
needs_at l = index_of (map (λ w. w.text) (drop 2 l.words)) (codes "needs")

abbrev pub claim_shape : LineAt → Option ℕ → Bool
claim_shape l None = false
claim_shape l (Some n) = few_atoms n && few_atoms (length l.words - (n + 4))

abbrev pub claim_at : Cast → LineAt → ℕ → Result model.Claim Fault
claim_at c l n =
    and_then (read_signal (named_scope c) (word_at l 1) (take n (drop 2 l.words))) (λ completion.
    and_then (read_signal (named_scope c) (word_at l (n + 3)) (drop (n + 4) l.words)) (λ needed.
    unless (not (same_signal completion needed)) rule.Twice l.place
    (Ok (record { completion = completion; needed = needed }))))

abbrev pub claim_line : Cast → Option model.Claim → LineAt → Result model.Claim Fault
claim_line c claim l =
    unless (claim_shape l (needs_at l)) rule.Line l.place
    (unless (not (is_some claim)) rule.Count l.place
    (and_then (or_fault (needs_at l) rule.Line l.place) (λ n. claim_at c l n)))

-- `free NAME KIND`, at most five
abbrev pub free_line : Cast → Table → LineAt → Result model.Variable Fault
free_line c t l = plain_line (length t.free) (new_free c t (word_at l 1).text) l

-- `rank V ATOM`, at most twelve: a named nonce or text, or the key of two named agents
abbrev pub rank_shape : LineAt → Bool
rank_shape l = cond (is l 2 (codes "key")) (length l.words == 5) (length l.words == 3)

abbrev pub numbered : Field → Bool
numbered Player = false
numbered (Variable i) = false
numbered (Named kind.Agent n) = false
numbered (Named kind.Nonce n) = true
numbered (Named kind.Text n) = true

abbrev pub ranked_atom : Cast → LineAt → Result Node Fault
ranked_atom c l =
    cond (is l 2 (codes "key"))
    (and_then (or_fault (first_agent (named_scope c) (word_at l 3).text) rule.Word (word_at l 3).place) (λ f.
    and_then (or_fault (first_agent (named_scope c) (word_at l 4).text) rule.Word (word_at l 4).place) (λ g.
    Ok (node.Key f g))))
    (and_then (or_fault (passing numbered (field_of (named_scope c) (word_at l 2).text)) rule.Word (word_at l 2).place) (λ f. Ok (node.Leaf f)))

abbrev pub atom_ranked : List (model.Ranked Node) → Node → Bool
atom_ranked [] a = false
atom_ranked (r ∷ rs) a = same_atom r.what a || atom_ranked rs a

abbrev pub rank_line : Cast → Table → LineAt → Result (model.Ranked Node) Fault
rank_line c t l =
    unless (rank_shape l) rule.Line l.place
    (unless (nat_lt (length t.atoms) 12) rule.Count l.place
    (and_then (or_fault (value_of (word_at l 1).text) rule.Value (word_at l 1).place) (λ v.
    and_then (ranked_atom c l) (λ a.
    unless (not (atom_ranked t.atoms a)) rule.Twice l.place
    (Ok (record { rank = v; what = a }))))))

-- `seal V AGENT AGENT TERM`, at most twelve
abbrev pub seal_line : Cast → Table → LineAt → Result (model.Ranked Term) Fault
seal_line c t l =
    unless (nat_le 4 (length l.words)) rule.Line l.place
    (unless (nat_lt (length t.seals) 12) rule.Count l.place
    (and_then (or_fault (value_of (word_at l 1).text) rule.Value (word_at l 1).place) (λ v.
    and_then (or_fault (first_agent (free_scope c t) (word_at l 2).text) rule.Word (word_at l 2).place) (λ f.
    and_then (or_fault (second_agent (free_scope c t) (word_at l 3).text) rule.Word (word_at l 3).place) (λ g.
    and_then (read_term (free_scope c t) l.place (drop 4 l.words)) (λ x.
    Ok (record { rank = v; what = seal f g x })))))))

-- `mark V WORD ATOMS`, at most six
abbrev pub signal_ranked : List (model.Ranked model.Signal) → model.Signal → Bool
signal_ranked [] s = false
signal_ranked (r ∷ rs) s = same_signal r.what s || signal_ranked rs s

abbrev pub mark_line : Cast → Table → LineAt → Result (model.Ranked model.Signal) Fault
mark_line c t l =
    unless (few_atoms (length l.words - 3)) rule.Line l.place
    (unless (nat_lt (length t.marks) 6) rule.Count l.place
    (and_then (or_fault (value_of (word_at l 1).text) rule.Value (word_at l 1).place) (λ v.
    and_then (read_signal (named_scope c) (word_at l 2) (drop 3 l.words)) (λ s.
    unless (not (signal_ranked t.marks s)) rule.Twice l.place
    (Ok (record { rank = v; what = s }))))))

-- `back` and the seven line numbers
abbrev pub says_all : LineAt → ℕ → List ℕ → Bool
says_all l i [] = true
says_all l i (n ∷ ns) = is l i (decimal n) && says_all l (i + 1) ns

abbrev pub back_line : Draft → LineAt → Result (Unit {0}) Fault
back_line d l =
    unless (length l.words == 8) rule.Line l.place
    (and_then (check_usages d.table.free d.table.usages) (λ _.
    unless (says_all l 1 d.sections) rule.Back l.place (Ok tt)))
