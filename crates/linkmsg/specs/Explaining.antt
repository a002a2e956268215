-- What is said of one line of hexadecimal bytes.
use Rattle.std.specs.Prelude.{◌≡◌, ℕ, List, Ok, Err, string_bytes, Result, String}
use Rattle.std.specs.declared.alloc.Global.{Global}
use Rattle.hex_text.specs.declared.HexError.{HexError}
use Rattle.hex_text.specs.declared.HexError.TheVariants as hex
use Rattle.hex_text.specs.Hex.{Spells}
use Rattle.message.specs.declared.tell.WordsError.{WordsError}
use Rattle.message.specs.declared.tell.WordsError.TheVariants as told
use Rattle.message.specs.Message.{Msg, Reads, IsMessage}
use Rattle.message.specs.Words.{words}
use Rattle.linkmsg.specs.declared.explain.Unanswered.{Unanswered}
use Rattle.linkmsg.specs.declared.explain.Unanswered.TheVariants.{NotBytes, NotMessage, NoMemory}

-- Why a line that was not read has no words, and why bytes whose words are not told have none.
abbrev pub unread : HexError → Unanswered
unread hex.NotBytes = NotBytes
unread hex.NoMemory = NoMemory

abbrev pub untold : WordsError → Unanswered
untold told.NoMessage = NotMessage
untold told.NoMemory = NoMemory

-- The words of the message whose bytes the line spells, that its bytes are no message, or that it spells no bytes.
-- Nothing but want of memory keeps the answer back.
abbrev pub Explains : List ℕ → Result (String Global) Unanswered → Type 0
Explains line (Ok told) = (bytes : List ℕ) × Spells bytes line × ((m : Msg) × Reads bytes m × (string_bytes told ≡ words m))
Explains line (Err NotMessage) = (bytes : List ℕ) × Spells bytes line × (IsMessage bytes → ⊥)
Explains line (Err NotBytes) = (bytes : List ℕ) → Spells bytes line → ⊥
Explains line (Err NoMemory) = Unit {0}
