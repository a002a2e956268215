-- The marks of messages that stand in a row: 1 at each byte where a message begins that is known.
use Rattle.std.specs.Prelude.{ℕ, Bool, cond, filter_map, List, [], ◌∷◌, ◌++◌, length, replicate}
use Rattle.instances.specs.Substitution.{message, names_alone}
use Rattle.message.specs.Message.{Key, Msg, agent, key, nonce, pair, seal, text, wire}
use Rattle.model.specs.Sheet.{Sheet}

-- The marks of a known message's bytes, where these keys are known: the halves of a known pair are known,
-- and so is the content of a known seal under such a key.
abbrev pub marks_in : (Key → Bool) → Msg → List ℕ
marks_in keys (agent n) = 1 ∷ 0 ∷ []
marks_in keys (nonce n) = 1 ∷ 0 ∷ 0 ∷ []
marks_in keys (text n) = 1 ∷ 0 ∷ 0 ∷ []
marks_in keys (key k) = 1 ∷ 0 ∷ 0 ∷ []
marks_in keys (pair l r) = 1 ∷ marks_in keys l ++ marks_in keys r
marks_in keys (seal k m) = 1 ∷ 0 ∷ 0 ∷ 0 ∷ cond (keys k) (marks_in keys m) (replicate (length (wire m)) 0)

-- The marks of messages one after another; the byte with a length has none.
abbrev pub row_marks : (Key → Bool) → List Msg → List ℕ
row_marks keys [] = []
row_marks keys (m ∷ ms) = 0 ∷ marks_in keys m ++ row_marks keys ms

-- The messages that a sheet's `know` lines say.
abbrev pub told_by : Sheet → List Msg
told_by sheet = filter_map (message names_alone) sheet.known
