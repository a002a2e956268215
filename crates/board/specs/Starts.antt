-- What `start` answers and leaves.
use Rattle.std.specs.Prelude.{◌≡◌, ℕ, Bool, true, cond, List, length, Some, None, Option, Result, Ok, Err, ◌==◌}
use Rattle.std.specs.List.{slice_get}
use Rattle.std.specs.Option.{option_map}
use Rattle.instances.specs.Substitution.{atom_at}
use Rattle.message.specs.declared.Atom.{Atom}
use Rattle.message.specs.declared.Kind.TheVariants as kind
use Rattle.model.specs.declared.node.Sort.{Sort}
use Rattle.model.specs.declared.node.Sort.TheVariants.{Fresh, Plain}
use Rattle.model.specs.Sheet.{Nonce, Role, Sheet, Variable, is_for, plays}
use Rattle.rehearsals.specs.Boards.{awaited}
use Rattle.tables.specs.Entries.{entries, entries_pushed, full, table_of, table_pushed}
use Rattle.board.specs.declared.board.Board.{Board}
use Rattle.board.specs.declared.records.Session.{Session}
use Rattle.board.specs.declared.refusal.Refusal.{Refusal}
use Rattle.board.specs.declared.refusal.Refusal.TheVariants.{NoRole, NotPlayer, NotAllowed, SessionsFull}
use Rattle.board.specs.Boards.{Stays}
use Rattle.board.specs.Placing.{each}

-- A nonce that has no name, or is named for variable i of role r where agent a plays it.
abbrev pub is_own : (r a i : ℕ) → Option Nonce → Bool
is_own r a i None = true
is_own r a i (Some line) = is_for r a i line

-- A variable stands for nothing at the start, and its number is 0.
abbrev pub nothing : ℕ → Option (Option Atom)
nothing n = cond (n == 0) (Some None) None

module _ (sheet : Sheet) (r a i : ℕ) where
  -- what a variable of this sort stands for; none where it may not stand for the atom of this number
  abbrev pub chosen : Sort → ℕ → Option (Option Atom)
  chosen Fresh n = cond (is_own r a i (slice_get sheet.nonces n)) (option_map Some (atom_at kind.Nonce n)) None
  chosen (Plain k) n = option_map Some (atom_at k n)

  abbrev pub chosen_for : Option Variable → ℕ → Option (Option Atom)
  chosen_for None n = nothing n
  chosen_for (Some v) n = chosen v.sort n

-- What variable i of role r stands for as agent a starts, by the number that is given for it. A variable that is to be received, or that the role
-- does not have, stands for nothing.
abbrev pub slot_of : Sheet → ℕ → ℕ → Role → ℕ → ℕ → Option (Option Atom)
slot_of sheet r a role i n = cond (awaited role i) (nothing n) (chosen_for sheet r a i (slice_get role.variables i) n)

module _ (r a : ℕ) (numbers : List ℕ) where
  abbrev pub with_values : Option (List (Option Atom)) → Result Session Refusal
  with_values None = Err NotAllowed
  with_values (Some values) = Ok (record { role = r; agent = a; next = 0; values = values })

  abbrev pub in_role : Sheet → Option Role → Result Session Refusal
  in_role sheet None = Err NoRole
  in_role sheet (Some role) = cond (plays sheet.agents role.player a) (with_values (each (slot_of sheet r a role) 0 numbers)) (Err NotPlayer)

  -- The session that starts, or why none does.
  abbrev pub to_start : Option Sheet → Result Session Refusal
  to_start None = Err NoRole
  to_start (Some sheet) = in_role sheet (slice_get sheet.roles r)

module _ (b : Board) where
  abbrev pub start_answer : Result Session Refusal → Result ℕ Refusal
  start_answer (Err e) = Err e
  start_answer (Ok s) = cond (full b.sessions) (Err SessionsFull) (Ok (length (entries b.sessions)))

  abbrev pub sessions_started : Result Session Refusal → List Session
  sessions_started (Err e) = entries b.sessions
  sessions_started (Ok s) = entries_pushed b.sessions s

  abbrev pub sessions_table_started : Result Session Refusal → List Session
  sessions_table_started (Err e) = table_of b.sessions
  sessions_table_started (Ok s) = table_pushed b.sessions s

-- Agent a starts in role r with these numbers.
pub record Starts (r a : ℕ) (numbers : List ℕ) (b c : Board) (result : Result ℕ Refusal) : Type 0 where
  pub answer : result ≡ start_answer b (to_start r a numbers b.sheet.now)
  pub sessions : entries c.sessions ≡ sessions_started b (to_start r a numbers b.sheet.now)
  pub sessions_table : table_of c.sessions ≡ sessions_table_started b (to_start r a numbers b.sheet.now)
  pub log : c.log ≡ b.log
  pub same : Stays b c
