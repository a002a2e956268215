-- Acts one after another, and what holds of the log after them.
use Rattle.std.specs.Prelude.{◌≡◌, ℕ, ◌+◌, List, [], ◌∷◌, ◌++◌, map, Some, Result, Ok, Err}
use Rattle.checker.specs.declared.verdict.Verdict.TheVariants.{Accepted}
use Rattle.checker.specs.Checking.{Checks}
use Rattle.medium.specs.Media.{Meaning}
use Rattle.message.specs.Message.{Msg}
use Rattle.model.specs.Sheet.{Sheet}
use Rattle.rehearsals.specs.Rehearsals.{Precedes}
use Rattle.scale.specs.Scales.{Scale}
use Rattle.tables.specs.Entries.{entries}
use Rattle.board.specs.declared.board.Board.{Board}
use Rattle.board.specs.declared.refusal.Refusal.{Refusal}
use Rattle.board.specs.declared.acts.Act.{Act}
use Rattle.board.specs.declared.acts.Act.TheVariants as act
use Rattle.board.specs.Deliveries.{Delivers}
use Rattle.board.specs.Records.{event_of}
use Rattle.board.specs.Sends.{Sends}
use Rattle.board.specs.Signals.{Signals}
use Rattle.board.specs.Starts.{Starts}

-- Whether the call was declined, of whatever else it answers.
abbrev pub without : {A : Type 0} → Result A Refusal → Result (Unit {0}) Refusal
without (Err e) = Err e
without (Ok x) = Ok (record {})

abbrev pub declined_by : Result (Unit {0}) Refusal → ℕ
declined_by (Err e) = 1
declined_by (Ok done) = 0

module _ {X : Type 0} (meaning : X → Meaning) (takes : X → Msg → X → Type 0) where
  -- What an act does.
  abbrev pub Does : Act → Board → X → Board → X → Result (Unit {0}) Refusal → Type 0
  Does (act.Start role agent values) b x c y result = (r : Result ℕ Refusal) × (result ≡ without r) × Starts role agent values b c r × (y ≡ x)
  Does (act.Send i) b x c y result = (r : Result (List ℕ) Refusal) × (result ≡ without r) × Sends meaning takes i b x c y r
  Does (act.Deliver i bytes) b x c y result = Delivers i (meaning x) bytes.now b c result × (y ≡ x)
  Does (act.Signal i) b x c y result = Signals i b c result × (y ≡ x)

  -- What acts do one after another, and how many of them are declined.
  pub data Plays (b : Board) (x : X) : List Act → Board → X → ℕ → Type 0 where
    none : Plays b x [] b x 0
    further : {acts : List Act} {c d : Board} {y z : X} {declined : ℕ} (a : Act) (result : Result (Unit {0}) Refusal)
        → Plays b x acts c y declined → Does a c y d z result → Plays b x (acts ++ (a ∷ [])) d z (declined + declined_by result)

-- No session has started, and the log is empty.
pub record IsNew (b : Board) : Type 0 where
  pub no-session : entries b.sessions ≡ []
  pub no-event : entries b.log ≡ []

-- On a sheet that the check accepts on the scale: if the board was new, and the medium, on the same sheet, had heard nothing, then each entry of the
-- log that is the claim's completion has the needed event before it.
abbrev pub Guards : Scale → {X : Type 0} → (X → Meaning) → Board → X → Board → Type 0
Guards scale meaning b x c =
    (sheet : Sheet) → b.sheet.now ≡ Some sheet → Checks scale (Some sheet) (Ok Accepted) → IsNew b → (meaning x).sheet ≡ sheet → (meaning x).heard ≡ []
    → Precedes sheet.claim.needed sheet.claim.completion (map event_of (entries c.log))
