-- What is counted of the lines.
use Rattle.std.specs.Prelude.{ℕ, ◌+◌, ◌-◌, ◌^◌, min, Ok, Err, Result, String}
use Rattle.std.specs.declared.alloc.Global.{Global}
use Rattle.linkmsg.specs.declared.explain.Unanswered.{Unanswered}
use Rattle.linkmsg.specs.declared.explain.Unanswered.TheVariants.{NotBytes, NotMessage, NoMemory}
use Rattle.linkmsg.specs.declared.tally.Tally.{Tally}

-- one more, up to the largest number of 64 bits
abbrev pub more : ℕ → ℕ
more n = min (n + 1) (2 ^ 64 - 1)

abbrev pub none : Tally
none = record { lines = 0; messages = 0; refused = 0; unreadable = 0 }

-- one line more, and one more of those that came to this answer; nothing where memory was wanting for the answer
abbrev pub counted : Tally → Result (String Global) Unanswered → Tally
counted t (Ok told) = record { lines = more t.lines; messages = more t.messages; refused = t.refused; unreadable = t.unreadable }
counted t (Err NotMessage) = record { lines = more t.lines; messages = t.messages; refused = more t.refused; unreadable = t.unreadable }
counted t (Err NotBytes) = record { lines = more t.lines; messages = t.messages; refused = t.refused; unreadable = more t.unreadable }
counted t (Err NoMemory) = t
