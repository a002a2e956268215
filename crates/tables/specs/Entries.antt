-- What a list over a lent table holds, and what its calls answer and leave. `Row` is a list of the logic.
use Rattle.std.specs.Prelude.{ℕ, Bool, cond, List as Row, [], ◌∷◌, ◌++◌, length, take, slice_set, nat_lt, nat_le, Result, Ok, Err}
use Rattle.tables.specs.Capacity.{capacity_of}
use Rattle.tables.specs.declared.list.List.{List}
use Rattle.tables.specs.declared.list.Full.{Full}

module _ {T : Type 0} where
  -- what the whole table holds
  abbrev pub table_of : List T → Row T
  table_of l = l.table.now

  -- the entries: the front of the table
  abbrev pub entries : List T → Row T
  entries l = take l.len (table_of l)

  abbrev pub capacity : List T → ℕ
  capacity l = capacity_of (table_of l)

  -- whether there is no room for one more entry
  abbrev pub full : List T → Bool
  full l = nat_le (capacity l) (length (entries l))

  -- whether there is an entry at an index
  abbrev pub has : List T → ℕ → Bool
  has l i = nat_lt i (length (entries l))

  -- what a push answers, and what it leaves as the entries and in the whole table
  abbrev pub push_answer : List T → Result (Unit {0}) Full
  push_answer l = cond (full l) (Err (record {})) (Ok (record {}))

  abbrev pub entries_pushed : List T → T → Row T
  entries_pushed l entry = cond (full l) (entries l) (entries l ++ entry ∷ [])

  abbrev pub table_pushed : List T → T → Row T
  table_pushed l entry = cond (full l) (table_of l) (slice_set (table_of l) (length (entries l)) entry)

  -- what is left where the entry at an index is changed; where there is none, `slice_set` changes nothing, nor does the table
  abbrev pub entries_set : List T → ℕ → T → Row T
  entries_set l i entry = slice_set (entries l) i entry

  abbrev pub table_set : List T → ℕ → T → Row T
  table_set l i entry = cond (has l i) (slice_set (table_of l) i entry) (table_of l)
