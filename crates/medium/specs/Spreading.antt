-- What the messages at marked bytes of a row give, and which marks are made from others.
use Rattle.std.specs.Prelude.{◌≡◌, ℕ, ◌+◌, ◌<◌, ◌≤◌, ◌⊎◌, Bool, true, false, cond, List, [], ◌∷◌, ◌++◌, ◌==◌, drop, length, set, slice_index}
use Rattle.instances.specs.Start.{Own}
use Rattle.message.specs.Message.{Key, Msg, Reads, key_bytes, pair, seal, wire}
use Rattle.message.specs.Reading.{Shows}
use Rattle.message.specs.declared.read.Parts.{Parts}
use Rattle.model.specs.Sheet.{Sheet}
use Rattle.medium.specs.Store.{IsWhole}

-- The bytes of m begin at byte k.
pub record Stands (bytes : List ℕ) (k : ℕ) (m : Msg) : Type 0 where
  pub whole : IsWhole m
  pub rest : List ℕ
  pub splits : drop k bytes ≡ wire m ++ rest

-- Byte k is marked.
abbrev pub Marked : List ℕ → ℕ → Type 0
Marked marks k = slice_index marks k ≡ 1

-- These bytes begin at a marked byte.
pub record Seen (bytes marks wanted : List ℕ) : Type 0 where
  pub at : ℕ
  pub marked : Marked marks at
  pub rest : List ℕ
  pub splits : drop at bytes ≡ wanted ++ rest

-- The bytes are a message that is known without any other.
abbrev pub Owned : Sheet → List ℕ → Type 0
Owned sheet bytes = (m : Msg) × Reads bytes m × Own sheet m

-- The bytes are known without any other, or begin at a marked byte of one of two rows.
abbrev pub Knows : Sheet → (bytes marks other other_marks wanted : List ℕ) → Type 0
Knows sheet bytes marks other other_marks wanted = Owned sheet wanted ⊎ (Seen bytes marks wanted ⊎ Seen other other_marks wanted)

-- What the message at byte i gives, where these keys are known: both halves of a pair, and the content of a seal under such a key.
pub data Gives (bytes : List ℕ) (keys : List ℕ → Type 0) (i : ℕ) : ℕ → Type 0 where
  gives_first : (l r : Msg) → Stands bytes i (pair l r) → Gives bytes keys i (i + 1)
  gives_second : (l r : Msg) → Stands bytes i (pair l r) → Gives bytes keys i (i + 1 + length (wire l))
  gives_content : (x : Key) (m : Msg) → Stands bytes i (seal x m) → keys (key_bytes x) → Gives bytes keys i (i + 4)

-- The marks after those before, of which each more is given by a message at a marked byte.
pub data Grows (sheet : Sheet) (bytes other other_marks before : List ℕ) : List ℕ → Type 0 where
  same : Grows sheet bytes other other_marks before before
  more : {marks : List ℕ} (i k : ℕ) → Grows sheet bytes other other_marks before marks → Marked marks i → Gives bytes (Knows sheet bytes marks other other_marks) i k → Grows sheet bytes other other_marks before (set marks k 1)

-- No key is known from the marks after that was not known from those before.
abbrev pub Quiet : Sheet → (bytes other other_marks before after : List ℕ) → Type 0
Quiet sheet bytes other other_marks before after = (x : Key) → Knows sheet bytes after other other_marks (key_bytes x) → Knows sheet bytes before other other_marks (key_bytes x)

-- How many bytes have no mark.
abbrev pub unmarked : List ℕ → ℕ
unmarked [] = 0
unmarked (x ∷ xs) = cond (x == 1) 0 1 + unmarked xs

-- What marking byte k does, and whether a key became known by it.
pub record Marks (sheet : Sheet) (bytes other other_marks : List ℕ) (k : ℕ) (before after : List ℕ) (fresh : Bool) : Type 0 where
  pub is : after ≡ set before k 1
  pub quiet : fresh ≡ false → Quiet sheet bytes other other_marks before after
  pub new : fresh ≡ true → Marked before k → ⊥

-- What taking apart the message at byte i does.
pub record Visits (sheet : Sheet) (bytes other other_marks : List ℕ) (i : ℕ) (before after : List ℕ) (fresh : Bool) : Type 0 where
  pub grows : Grows sheet bytes other other_marks before after
  pub done : (k : ℕ) → Gives bytes (Knows sheet bytes before other other_marks) i k → Marked after k
  pub below : (k : ℕ) → k ≤ i → slice_index after k ≡ slice_index before k
  pub quiet : fresh ≡ false → Quiet sheet bytes other other_marks before after
  pub new : fresh ≡ true → unmarked after < unmarked before

-- What taking apart all that is marked from a byte on does.
pub record Spreads (sheet : Sheet) (bytes other other_marks : List ℕ) (from : ℕ) (before after : List ℕ) (fresh : Bool) : Type 0 where
  pub grows : Grows sheet bytes other other_marks before after
  pub done : (i k : ℕ) → from ≤ i → Marked after i → Gives bytes (Knows sheet bytes before other other_marks) i k → Marked after k
  pub below : (k : ℕ) → k < from → slice_index after k ≡ slice_index before k
  pub quiet : fresh ≡ false → Quiet sheet bytes other other_marks before after
  pub new : fresh ≡ true → unmarked after < unmarked before

-- The parts of the message at the front of the bytes, or that none stands there.
abbrev pub Fronted : List ℕ → Parts → Type 0
Fronted bytes p = (m : Msg) × Stands bytes 0 m × Shows p m

-- The marks of two rows after those before, each row's with the other's.
pub data Both (sheet : Sheet) (bytes told marks told_marks : List ℕ) : List ℕ → List ℕ → Type 0 where
  both_same : Both sheet bytes told marks told_marks marks told_marks
  both_heard : (m n t : List ℕ) → Both sheet bytes told marks told_marks m t → Grows sheet bytes told t m n → Both sheet bytes told marks told_marks n t
  both_told : (m t u : List ℕ) → Both sheet bytes told marks told_marks m t → Grows sheet told bytes m t u → Both sheet bytes told marks told_marks m u

-- A row is taken apart: what its marked messages give is marked.
abbrev pub RowApart : Sheet → (bytes marks other other_marks : List ℕ) → Type 0
RowApart sheet bytes marks other other_marks = (i k : ℕ) → Marked marks i → Gives bytes (Knows sheet bytes marks other other_marks) i k → Marked marks k

-- Both rows are.
pub record Apart (sheet : Sheet) (bytes marks told told_marks : List ℕ) : Type 0 where
  pub heard-apart : RowApart sheet bytes marks told told_marks
  pub told-apart : RowApart sheet told told_marks bytes marks

-- The row is taken apart before byte `at`, and has no mark from there on; the other row is taken apart.
pub record ApartBefore (sheet : Sheet) (bytes marks told told_marks : List ℕ) (at : ℕ) : Type 0 where
  pub before : (i k : ℕ) → i < at → Marked marks i → Gives bytes (Knows sheet bytes marks told told_marks) i k → Marked marks k
  pub clear : (i : ℕ) → at ≤ i → Marked marks i → ⊥
  pub told-apart : RowApart sheet told told_marks bytes marks

-- What taking both rows apart does.
pub record Settles (sheet : Sheet) (bytes told marks told_marks after told_after : List ℕ) (fresh : Bool) : Type 0 where
  pub grows : Both sheet bytes told marks told_marks after told_after
  pub apart : (fresh ≡ false → Apart sheet bytes marks told told_marks) → Apart sheet bytes after told told_after

-- What hearing the message at byte `at` does.
pub record Learns (sheet : Sheet) (bytes told marks told_marks after told_after : List ℕ) (at : ℕ) : Type 0 where
  pub grows : Both sheet bytes told (set marks at 1) told_marks after told_after
  pub apart : ApartBefore sheet bytes marks told told_marks at → Apart sheet bytes after told told_after
