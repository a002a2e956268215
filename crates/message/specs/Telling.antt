-- What the calls that tell a message in words answer and leave.
use Rattle.std.specs.Prelude.{◌≡◌, ℕ, List, ◌++◌, Ok, Err, string_bytes, codes, Result, String, ◌≢◌}
use Rattle.std.specs.declared.alloc.Global.{Global}
use Rattle.message.specs.declared.tell.WordsError.{WordsError}
use Rattle.message.specs.declared.tell.WordsError.TheVariants.{NoMessage, NoMemory}
use Rattle.message.specs.Message.{Key, key_bytes, Msg, Reads, IsMessage}
use Rattle.message.specs.Words.{owners, words}

-- Why no words are told: the bytes are no message, or memory is wanting, which may be at any message.
abbrev pub Refuses : List ℕ → WordsError → Type 0
Refuses bytes NoMessage = IsMessage bytes → ⊥
Refuses bytes NoMemory = Unit {0}

-- The words of the message that the bytes are.
abbrev pub Tells : List ℕ → Result (String Global) WordsError → Type 0
Tells bytes (Ok told) = (m : Msg) × Reads bytes m × (string_bytes told ≡ words m)
Tells bytes (Err e) = Refuses bytes e

-- The same, behind a text.
abbrev pub Pushes : List ℕ → List ℕ → List ℕ → Result (Unit {0}) WordsError → Type 0
Pushes bytes before after (Ok done) = (m : Msg) × Reads bytes m × (after ≡ before ++ words m)
Pushes bytes before after (Err e) = Refuses bytes e

-- What comes before a seal's content, from the bytes of its key.
abbrev pub SealPushes : List ℕ → List ℕ → List ℕ → Result (Unit {0}) WordsError → Type 0
SealPushes bytes before after (Ok done) = (k : Key) → key_bytes k ≡ bytes → after ≡ before ++ (codes "seal " ++ (owners k ++ codes " "))
SealPushes bytes before after (Err NoMessage) = (k : Key) → key_bytes k ≢ bytes
SealPushes bytes before after (Err NoMemory) = Unit {0}
