-- Where variables first stand, and what that has to be.
use Rattle.std.specs.Prelude.{ℕ, Bool, true, false, cond, not, ◌&&◌, List, [], ◌∷◌, ◌++◌, vec_items, Some, None, Ok, Option, Result}
use Rattle.std.specs.Str.{bytes_eq}
use Rattle.message.specs.declared.Kind.TheVariants as kind
use Rattle.lexer.specs.declared.Fault.{Fault}
use Rattle.lexer.specs.declared.Rule.TheVariants as rule
use Rattle.lexer.specs.Text.{WordAt}
use Rattle.model.specs.declared.node.Sort.{Sort}
use Rattle.model.specs.declared.node.Sort.TheVariants.{Fresh, Plain}
use Rattle.terms.specs.declared.usages.First.{First}
use Rattle.terms.specs.declared.usages.Usage.{Usage}
use Rattle.terms.specs.declared.usages.Variables.{Variables}
use Rattle.model.specs.Sheet.{Variable}
use Rattle.model.specs.Stored.{items, variable_of}
use Rattle.terms.specs.Terms.{and_then, fault}

-- the place of the first of these words that is this name
abbrev pub place_of : List WordAt → List ℕ → Option ℕ
place_of [] name = None
place_of (w ∷ ws) name = cond (bytes_eq w.text name) (Some w.place) (place_of ws name)

abbrev pub first_at : Option ℕ → Bool → Option First
first_at None received = None
first_at (Some p) received = Some (record { place = p; received = received })

abbrev pub still_first : Option First → Option First → Option First
still_first None new = new
still_first (Some f) new = Some f

abbrev pub noted : Usage → List ℕ → List WordAt → Bool → Usage
noted u name ws received = record { declared = u.declared; first = still_first u.first (first_at (place_of ws name) received) }

-- the words of one more line, which receives or does not
abbrev pub note_all : List Variable → List Usage → List WordAt → Bool → List Usage
note_all [] us ws received = us
note_all (v ∷ vs) [] ws received = []
note_all (v ∷ vs) (u ∷ us) ws received = noted u v.name ws received ∷ note_all vs us ws received

-- a nonce that is not the session's own
abbrev pub foreign_nonce : Sort → Bool
foreign_nonce Fresh = false
foreign_nonce (Plain kind.Agent) = false
foreign_nonce (Plain kind.Nonce) = true
foreign_nonce (Plain kind.Text) = false

-- Each variable stands somewhere, and a nonce that is not the session's own is first received.
abbrev pub check_first : Sort → ℕ → Option First → Result (Unit {0}) Fault
check_first sort declared None = fault rule.Variable declared
check_first sort declared (Some f) = cond (foreign_nonce sort && not f.received) (fault rule.Variable f.place) (Ok tt)

abbrev pub check_usages : List Variable → List Usage → Result (Unit {0}) Fault
check_usages [] us = Ok tt
check_usages (v ∷ vs) [] = Ok tt
check_usages (v ∷ vs) (u ∷ us) = and_then (check_first v.sort u.declared u.first) (λ _. check_usages vs us)

-- Variables in the order in which they are declared, and how each is used; and what the code keeps of that.
pub record Declared : Type 0 where
  pub variables : List Variable
  pub usages : List Usage

abbrev pub declared_of : Variables → Declared
declared_of v = record { variables = items variable_of v.list; usages = vec_items v.usages }

abbrev pub undeclared : Declared
undeclared = record { variables = []; usages = [] }

-- one variable more, declared at this place, which stands nowhere yet
abbrev pub one_more : Declared → ℕ → Variable → Declared
one_more d at v = record { variables = d.variables ++ (v ∷ []); usages = d.usages ++ (record { declared = at; first = None } ∷ []) }

-- one line more, which receives or does not
abbrev pub noted_in : Declared → List WordAt → Bool → Declared
noted_in d ws received = record { variables = d.variables; usages = note_all d.variables d.usages ws received }
