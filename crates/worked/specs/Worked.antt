-- What the check has to answer of the sheet of examples/silence.sheet and of others that differ from it in one thing, and what the enemy can
-- make there. The scale is that of all values.
use Rattle.std.specs.Prelude.{◌≡◌, ℕ, ◌⊎◌, List, [], ◌∷◌, Some, Ok, Contains}
use Rattle.message.specs.declared.Atom.TheVariants.{Agent, Nonce, Text}
use Rattle.message.specs.Generates.{Generates}
use Rattle.message.specs.Message.{Msg, key, nonce, seal, shared}
use Rattle.model.specs.Sheet.{Sheet}
use Rattle.instances.specs.Start.{Start}
use Rattle.scale.specs.Scales.{whole}
use Rattle.sheet.specs.Sheets.{reading}
use Rattle.checker.specs.Verdicts.{Judges, Verdict, accepted, acted, completed, known, sealed}
use Rattle.worked.specs.Silence.{answered_early, completion_positive, key_known, key_positive, silence, without_seal}
use Rattle.worked.specs.Texts.{answered_early_lines, completion_positive_lines, key_known_lines, key_positive_lines, silence_lines, text_of, without_seal_lines}

-- what the enemy knows on that sheet when it has heard these messages
abbrev pub Hearing : List Msg → Msg → Type 0
Hearing heard m = Start silence m ⊎ Contains heard m

-- the nonce sealed for the two agents
abbrev pub sealed_nonce : Msg
sealed_nonce = seal (shared 0 1) (nonce 0)

-- their key sealed for agent 0 and an agent of the enemy's
abbrev pub sealed_key : Msg
sealed_key = seal (shared 0 7) (key (shared 0 1))

-- The text is read as this sheet, and this is the right verdict on it.
pub record Case (lines : List (List ℕ)) (sheet : Sheet) (verdict : Verdict) : Type 0 where
  pub reads : reading (text_of lines) ≡ Ok sheet
  pub judges : Judges whole sheet verdict

pub record WorkedCases : Type 0 where
  pub as-it-stands : Case silence_lines silence accepted
  -- The ground answers before it signals: its second step breaks the fourth condition, where B asks with nonce 0 for text 0.
  pub answered-early : Case answered_early_lines answered_early (acted 1 1 0 (Some (Agent 1) ∷ Some (Nonce 0) ∷ Some (Text 0) ∷ []))
  -- The key is positive: the `seal` line, which has no variables, breaks the second.
  pub key-positive : Case key_positive_lines key_positive (sealed 0 [])
  -- The completion is positive, against the third.
  pub completion-positive : Case completion_positive_lines completion_positive completed
  -- There is no `seal` line: the bus's third step breaks the fourth, where it is told text 0 for nonce 0.
  pub without-seal : Case without_seal_lines without_seal (acted 0 2 1 (Some (Text 0) ∷ Some (Nonce 0) ∷ []))
  -- The key is known, against the first.
  pub key-known : Case key_known_lines key_known (known 0)
  -- From what it knows at the start the enemy makes a nonce without a name and a key of its own, not the named nonce and the key of the two agents.
  pub stranger-made : Generates (Start silence) (nonce 1)
  pub own-key-made : Generates (Start silence) (key (shared 0 7))
  pub nonce-not-made : Generates (Start silence) (nonce 0) → ⊥
  pub key-not-made : Generates (Start silence) (key (shared 0 1)) → ⊥
  -- The sealed nonce alone does not give it the nonce, and with the sealed key it does.
  pub nonce-still-not-made : Generates (Hearing (sealed_nonce ∷ [])) (nonce 0) → ⊥
  pub nonce-made : Generates (Hearing (sealed_nonce ∷ sealed_key ∷ [])) (nonce 0)
