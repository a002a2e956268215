-- What the code answers, by what the definitions give.
use Rattle.std.specs.Prelude.{◌≡◌, Some, None, Ok, Err, Option, Result}
use Rattle.lexer.specs.declared.Declined.{Declined}
use Rattle.lexer.specs.declared.Declined.TheVariants as declined
use Rattle.lexer.specs.declared.Fault.{Fault}

-- The code's answer is what the definition gives; want of memory may come at any time.
abbrev pub Reads : {X M : Type 0} → (X → M) → Result M Fault → Result X Declined → Type 0
Reads of s (Ok x) = s ≡ Ok (of x)
Reads of s (Err (declined.Fault f)) = s ≡ Err f
Reads of s (Err declined.Memory) = Unit {0}

-- The same of a call that changes something: what it holds after the call is what the definition gives.
abbrev pub Becomes : {X M : Type 0} → (X → M) → Result M Fault → X → Result (Unit {0}) Declined → Type 0
Becomes of s after (Ok done) = s ≡ Ok (of after)
Becomes of s after (Err (declined.Fault f)) = s ≡ Err f
Becomes of s after (Err declined.Memory) = Unit {0}

-- What a reading answers, and what the sheet is after it: the one that the definition gives, or empty.
abbrev pub Sheeted : {M : Type 0} → Result M Fault → Option M → Result (Unit {0}) Declined → Type 0
Sheeted {M} s after (Ok done) = (m : M) × (s ≡ Ok m) × (after ≡ Some m)
Sheeted s after (Err (declined.Fault f)) = (s ≡ Err f) × (after ≡ None)
Sheeted s after (Err declined.Memory) = after ≡ None
