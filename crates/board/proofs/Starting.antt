-- A session that starts is new: what its variables stand for is part of an instance.
use Rattle.std.specs.Prelude.{◌≡◌, ℕ, zero, suc, ◌<◌, ◌≤◌, ◌⊎◌, Bool, true, false, cond, List, [], ◌∷◌, ◌++◌, map, length, Some, None, Option, Result, Ok, Err, ◌==◌, nat_lt, slice_index_or}
use Rattle.std.specs.List.{slice_get}
use Rattle.std.specs.Option.{option_map}
use Rattle.std.proofs.Common.{sym, refl, ap, subst, ◌∙◌, inl, inr, arith, eqb-true}
use Rattle.std.proofs.lemmas.Bool.{cond-true, cond-false, false≢true}
use Rattle.std.proofs.lemmas.Bool.Decides.{nat_tests}
use Rattle.std.proofs.lemmas.List.{map_push}
use Rattle.std.proofs.lemmas.Option.{none-some, same_Some, cond_some, slice_get_within}
use Rattle.message.specs.declared.Atom.{Atom}
use Rattle.message.specs.declared.Kind.{Kind}
use Rattle.message.specs.declared.Kind.TheVariants as kind
use Rattle.message.specs.Message.{atom, size}
use Rattle.model.specs.declared.node.Sort.{Sort}
use Rattle.model.specs.declared.node.Sort.TheVariants.{Fresh, Plain}
use Rattle.model.specs.Sheet.{Nonce, Role, Sheet, Variable, honest, named, plays}
use Rattle.instances.specs.Instances.{Allowed, NamedFor}
use Rattle.instances.specs.Substitution.{atom_at}
use Rattle.ranks.proofs.Settling.{first_true, second_true}
use Rattle.rehearsals.specs.Boards as boards
use Rattle.rehearsals.specs.Boards.{New, awaited}
use Rattle.rehearsals.proofs.Sessions.{Begun, filled, filled_instance, filled_more}
use Rattle.sheet_laws.specs.Counts.{CountsInRange, ScriptCounted}
use Rattle.tables.specs.Entries.{entries, full}
use Rattle.sheet_laws.proofs.Messaging.{each_at}
use Rattle.board.specs.declared.board.Board.{Board}
use Rattle.board.specs.declared.records.Session.{Session}
use Rattle.board.specs.declared.refusal.Refusal.{Refusal}
use Rattle.board.specs.declared.refusal.Refusal.TheVariants.{NotPlayer}
use Rattle.board.specs.Calls.{Apart, CalledApart, declined, started}
use Rattle.board.specs.Placing.{each}
use Rattle.board.specs.Records.{board_of, event_of, session_of}
use Rattle.board.specs.Starts.{Starts, chosen, chosen_for, in_role, is_own, nothing, sessions_started, slot_of, to_start, with_values}
use Rattle.board.specs.Steps.{Read, WasRead}
use Rattle.board.proofs.Calling.{err_ok, ok_ok, same_board}
use Rattle.board.proofs.Placing.{each_gives, each_length}

-- ---- what one variable stands for

nothing_is : (n : ℕ) (o : Option Atom) → nothing n ≡ Some o → o ≡ None
nothing_is n o e = sym ((cond_some _ _ _ e).1)

atom_some : (k : Kind) (n : ℕ) (o : Option Atom) → option_map Some (atom_at k n) ≡ Some o → (n < size k) × (o ≡ Some (atom k n))
atom_some k n o e = go (nat_lt n (size k)) refl e
  where
    go : (t : Bool) → nat_lt n (size k) ≡ t → option_map Some (cond t (Some (atom k n)) None) ≡ Some o → (n < size k) × (o ≡ Some (atom k n))
    go true at h = (within, sym (same_Some _ _ h))
      where
        within : n < size k
        within = grind (arith, nat_tests)
    go false at h = absurd (none-some o h)

module _ (sheet : Sheet) (r a i : ℕ) where
  own_is : (n : ℕ) → is_own r a i (slice_get sheet.nonces n) ≡ true → (named sheet kind.Nonce ≤ n) ⊎ NamedFor sheet r a i n
  own_is n e = go (slice_get sheet.nonces n) refl e
    where
      go : (o : Option Nonce) → slice_get sheet.nonces n ≡ o → is_own r a i o ≡ true → (named sheet kind.Nonce ≤ n) ⊎ NamedFor sheet r a i n
      go None at h = inl (past sheet.nonces n at)
        where
          past : {A : Type 0} (xs : List A) (n : ℕ) → slice_get xs n ≡ None → length xs ≤ n
          past [] n e = omega arith
          past (x ∷ xs) zero e = absurd (none-some x (sym e))
          past (x ∷ xs) (suc n) e = let h = past xs n e in omega (arith, h)
      go (Some line) at h =
          let rest = second_true (line.agent == a) _ h in
          inr (record {
            line = line;
            is-line = at;
            agent = eqb-true line.agent a (first_true _ _ h);
            role = eqb-true line.role r (first_true _ _ rest);
            variable = eqb-true line.variable i (second_true (line.role == r) _ rest);
          })

  chosen_is : (s : Sort) (n : ℕ) (o : Option Atom) → chosen sheet r a i s n ≡ Some o → (x : Atom) × (o ≡ Some x) × Allowed sheet r a i s x
  chosen_is Fresh n o e =
      let (own, inner) = if_own (is_own r a i (slice_get sheet.nonces n)) (option_map Some (atom_at kind.Nonce n)) o e in
      let (small, is) = atom_some kind.Nonce n o inner in
      (atom kind.Nonce n, is, (n, small, refl, own_is n own))
    where
      if_own : (t : Bool) (p : Option (Option Atom)) (o : Option Atom) → cond t p None ≡ Some o → (t ≡ true) × (p ≡ Some o)
      if_own true p o e = (refl, e)
      if_own false p o e = absurd (none-some o e)
  chosen_is (Plain k) n o e = let (small, is) = atom_some k n o e in (atom k n, is, (n, small, refl))

  slot_awaited : (role : Role) (n : ℕ) (o : Option Atom) → awaited role i ≡ true → slot_of sheet r a role i n ≡ Some o → o ≡ None
  slot_awaited role n o w e = nothing_is n o (sym (cond-true (awaited role i) (nothing n) _ w) ∙ e)

  slot_chosen : (role : Role) (v : Variable) (n : ℕ) (o : Option Atom) → awaited role i ≡ false → slice_get role.variables i ≡ Some v → slot_of sheet r a role i n ≡ Some o
      → (x : Atom) × (o ≡ Some x) × Allowed sheet r a i v.sort x
  slot_chosen role v n o w at e = chosen_is v.sort n o (sym (cond-false (awaited role i) (nothing n) _ w ∙ ap (λ u. chosen_for sheet r a i u n) at) ∙ e)

  slot_beyond : (role : Role) (n : ℕ) (o : Option Atom) → awaited role i ≡ false → slice_get role.variables i ≡ None → slot_of sheet r a role i n ≡ Some o → o ≡ None
  slot_beyond role n o w at e = nothing_is n o (sym (cond-false (awaited role i) (nothing n) _ w ∙ ap (λ u. chosen_for sheet r a i u n) at) ∙ e)

-- ---- all of them

got : {A : Type 0} (os : List (Option A)) (i : ℕ) (x : A) → slice_index_or os i None ≡ Some x → slice_get os i ≡ Some (Some x)
got [] i x e = absurd (none-some x e)
got (o ∷ os) zero x e = ap Some e
got (o ∷ os) (suc i) x e = got os i x e

there_is : {A : Type 0} (os : List (Option A)) (i : ℕ) → i < length os → slice_get os i ≡ Some (slice_index_or os i None)
there_is [] i h = absurd (omega arith)
there_is (o ∷ os) zero h = refl
there_is (o ∷ os) (suc i) h = there_is os i (omega arith)

fresh_not : (role : Role) (i : ℕ) (v : Variable) → slice_get role.variables i ≡ Some v → v.sort ≡ Fresh → awaited role i ≡ false
fresh_not role i v is fresh = rw is (rw fresh refl)

module _ (sheet : Sheet) (r a : ℕ) (role : Role) (numbers : List ℕ) (values : List (Option Atom)) where
  module _ (all : each (slot_of sheet r a role) 0 numbers ≡ Some values) where
    slot_at : (i : ℕ) (o : Option Atom) → slice_get values i ≡ Some o → (n : ℕ) × (slot_of sheet r a role i n ≡ Some o)
    slot_at i o e = let (n, is, s) = each_gives (slot_of sheet r a role) i numbers values o all e in (n, s)

    value_allowed : (i : ℕ) (x : Atom) → slice_index_or values i None ≡ Some x → (awaited role i ≡ false) × ((v : Variable) × (slice_get role.variables i ≡ Some v) × Allowed sheet r a i v.sort x)
    value_allowed i x e = go (awaited role i) refl
      where
        slot : (n : ℕ) × (slot_of sheet r a role i n ≡ Some (Some x))
        slot = slot_at i (Some x) (got values i x e)

        with_variable : (o : Option Variable) → slice_get role.variables i ≡ o → awaited role i ≡ false → (v : Variable) × (slice_get role.variables i ≡ Some v) × Allowed sheet r a i v.sort x
        with_variable None at w = absurd (none-some x (sym (slot_beyond sheet r a i role slot.0 (Some x) w at slot.1)))
        with_variable (Some v) at w =
            let (y, is, ok) = slot_chosen sheet r a i role v slot.0 (Some x) w at slot.1 in
            (v, at, subst (λ (z : Atom). Allowed sheet r a i v.sort z) (sym (same_Some x y is)) ok)

        go : (t : Bool) → awaited role i ≡ t → (awaited role i ≡ false) × ((v : Variable) × (slice_get role.variables i ≡ Some v) × Allowed sheet r a i v.sort x)
        go true w = absurd (none-some x (sym (slot_awaited sheet r a i role slot.0 (Some x) w slot.1)))
        go false w = (w, with_variable (slice_get role.variables i) refl w)

    -- a variable of the role that is not awaited has a value
    module _ (enough : length role.variables ≤ length values) where
      has_value : (i : ℕ) (v : Variable) → slice_get role.variables i ≡ Some v → awaited role i ≡ false → (x : Atom) × (slice_index_or values i None ≡ Some x)
      has_value i v at w =
          let within : i < length values = omega (arith, slice_get_within role.variables i v at, enough) in
          let slot = slot_at i (slice_index_or values i None) (there_is values i within) in
          let (x, is, ok) = slot_chosen sheet r a i role v slot.0 (slice_index_or values i None) w at slot.1 in
          (x, is)

      module _ (is-role : slice_get sheet.roles r ≡ Some role) (may : plays sheet.agents role.player a ≡ true) where
        begun : Begun sheet r role a values
        begun = record {
          is-honest = first_true _ _ may;
          plays = second_true (honest (slice_get sheet.agents a)) _ may;
          allowed = λ i x e. (value_allowed i x e).1;
          fresh-has = λ i v at fresh. has_value i v at (fresh_not role i v at fresh);
        }

        abbrev whole : List (Option Atom)
        whole = filled role.variables values

        values_are : (i : ℕ) → slice_index_or values i None ≡ cond (awaited role i) None (slice_index_or whole i None)
        values_are i = go (awaited role i) refl (slice_index_or values i None) refl
          where
            beyond : awaited role i ≡ false → slice_index_or values i None ≡ None → (o : Option Atom) → slice_index_or whole i None ≡ o → None ≡ slice_index_or whole i None
            beyond w none None e = sym e
            beyond w none (Some x) e =
                let (v, at) = (filled_instance sheet r role a values begun).declared i x e in
                let (y, has) = has_value i v at w in
                absurd (none-some y (sym none ∙ has))

            go : (t : Bool) → awaited role i ≡ t → (o : Option Atom) → slice_index_or values i None ≡ o → slice_index_or values i None ≡ cond (awaited role i) None (slice_index_or whole i None)
            go true w (Some x) e = absurd (false≢true (sym (value_allowed i x e).0 ∙ w))
            go true w None e = e ∙ sym (cond-true (awaited role i) None (slice_index_or whole i None) w)
            go false w (Some x) e = e ∙ sym (cond-false (awaited role i) None (slice_index_or whole i None) w ∙ filled_more sheet r role a values begun i x e)
            go false w None e = e ∙ beyond w e (slice_index_or whole i None) refl ∙ sym (cond-false (awaited role i) None (slice_index_or whole i None) w)

        pub new : New sheet (record { role = r; agent = a; next = 0; variables = values })
        new = record {
          role = role;
          is-role = is-role;
          whole = whole;
          is-instance = filled_instance sheet r role a values begun;
          values = values_are;
          at-first = refl;
        }

-- what is to start is new
new_started : CountsInRange → (sheet : Sheet) → WasRead (Some sheet) → (r a : ℕ) (numbers : List ℕ) → length numbers ≡ 5 → (s : Session) → to_start r a numbers (Some sheet) ≡ Ok s → New sheet (session_of s)
new_started law sheet read r a numbers five s e = go (slice_get sheet.roles r) refl e
  where
    by_values : (role : Role) → slice_get sheet.roles r ≡ Some role → plays sheet.agents role.player a ≡ true → (o : Option (List (Option Atom))) → each (slot_of sheet r a role) 0 numbers ≡ o
        → with_values r a numbers o ≡ Ok s → New sheet (session_of s)
    by_values role at may None all h = err_ok h
    by_values role at may (Some values) all h =
        let counted = each_at ScriptCounted sheet.roles r role (law read.0 sheet read.1).scripts at in
        let many = each_length (slot_of sheet r a role) 0 numbers values all in
        subst (λ (z : Session). New sheet (session_of z)) (ok_ok h) (new sheet r a role numbers values all (omega (arith, counted.0, many, five)) at may)

    by_player : (role : Role) → slice_get sheet.roles r ≡ Some role → (t : Bool) → plays sheet.agents role.player a ≡ t
        → cond t (with_values r a numbers (each (slot_of sheet r a role) 0 numbers)) (Err NotPlayer) ≡ Ok s → New sheet (session_of s)
    by_player role at true may h = by_values role at may (each (slot_of sheet r a role) 0 numbers) refl h
    by_player role at false may h = err_ok h

    go : (o : Option Role) → slice_get sheet.roles r ≡ o → in_role r a numbers sheet o ≡ Ok s → New sheet (session_of s)
    go None at h = err_ok h
    go (Some role) at h = by_player role at (plays sheet.agents role.player a) refl h

pub starts_apart : CountsInRange → (r a : ℕ) (numbers : List ℕ) → length numbers ≡ 5 → (b c : Board) (result : Result ℕ Refusal) → Read b.sheet.now → Starts r a numbers b c result → CalledApart b c
starts_apart law r a numbers five b c result read h sheet on = go (to_start r a numbers b.sheet.now) refl
  where
    log : entries c.log ≡ entries b.log
    log = ap (λ l. entries l) h.log

    unchanged : entries c.sessions ≡ entries b.sessions → Apart sheet (board_of b) (board_of c)
    unchanged p = subst (Apart sheet (board_of b)) (sym (same_board b c p log)) declined

    put : (s : Session) → to_start r a numbers b.sheet.now ≡ Ok s → (t : Bool) → full b.sessions ≡ t
        → entries c.sessions ≡ cond t (entries b.sessions) (entries b.sessions ++ (s ∷ [])) → Apart sheet (board_of b) (board_of c)
    put s is true fills p = unchanged p
    put s is false fills p =
        let is-new = new_started law sheet (subst Read on read) r a numbers five s (subst (λ (o : Option Sheet). to_start r a numbers o ≡ Ok s) on is) in
        let sessions = ap (map session_of) p ∙ map_push session_of (entries b.sessions) s in
        subst (Apart sheet (board_of b)) (λ j. boards.board_of (sym sessions j) (map event_of (sym log j))) (started (session_of s) is-new)

    go : (q : Result Session Refusal) → to_start r a numbers b.sheet.now ≡ q → Apart sheet (board_of b) (board_of c)
    go (Err e) is = unchanged (h.sessions ∙ ap (sessions_started b) is)
    go (Ok s) is = put s is (full b.sessions) refl (h.sessions ∙ ap (sessions_started b) is)
