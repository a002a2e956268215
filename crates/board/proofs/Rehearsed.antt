-- The calls that are made one after another are a rehearsal.
use Rattle.std.specs.Prelude.{◌≡◌, ℕ, suc, ◌+◌, true, false, List, [], ◌∷◌, ◌++◌, map, take, Some, Result, Ok, Err}
use Rattle.std.specs.List.{slice_get}
use Rattle.std.proofs.Common.{get_or, sym, refl, ap, subst, ◌∙◌, add-one}
use Rattle.std.specs.Result.{is_err}
use Rattle.std.proofs.lemmas.Bool.{false≢true}
use Rattle.std.proofs.lemmas.Option.{same_Some, slice_get-get_or, slice_get_within}
use Rattle.std.proofs.Math.Seq.{take-suc}
use Rattle.medium.specs.Media.{Meaning}
use Rattle.message.specs.Message.{Msg}
use Rattle.model.specs.Sheet.{Sheet}
use Rattle.rehearsals.specs.Boards as boards
use Rattle.rehearsals.specs.Boards.{Call}
use Rattle.rehearsals.specs.Rehearsals as rehearsals
use Rattle.rehearsals.specs.Rehearsals.{Guarded, Precedes, Rehearsal}
use Rattle.scale.specs.Scales.{Scale}
use Rattle.sheet_laws.specs.Claims.{ClaimsOfTwoEvents}
use Rattle.board.specs.declared.acts.Act.{Act}
use Rattle.board.specs.declared.board.Board.{Board}
use Rattle.board.specs.declared.refusal.Refusal.{Refusal}
use Rattle.board.specs.Calls.{Apart, Called, CalledApart, declined, signalled, started}
use Rattle.board.specs.Records.{board_of, event_of, session_of}
use Rattle.board.specs.Rehearsing as acts
use Rattle.board.specs.Rehearsing.{Does, Guards, IsNew, Plays, declined_by}
use Rattle.board.specs.Steps.{Read}

module _ {X : Type 0} (meaning : X → Meaning) where
  apart_is : {sheet : Sheet} {b c : boards.Board} (x : X) → Apart sheet b c → Call sheet meaning b x c x
  apart_is x (started s n) = boards.started s n
  apart_is x (signalled i s e r) = boards.signalled i s e r
  apart_is x declined = boards.declined

  -- a call that has nothing to do with a medium is one over any
  pub apart_called : (b c : Board) (x : X) → CalledApart b c → Called meaning b x c x
  apart_called b c x h sheet on = apart_is x (h sheet on)

  -- From a board that was new, and a medium on its sheet that had heard nothing, a rehearsal leads here.
  abbrev pub Leads : Board → X → Board → X → Type 0
  Leads b x c y = (sheet : Sheet) → b.sheet.now ≡ Some sheet → IsNew b → (meaning x).sheet ≡ sheet → (meaning x).heard ≡ [] → Rehearsal sheet meaning (board_of c) y

  pub leads_first : (b : Board) (x : X) → Leads b x b x
  leads_first b x sheet on new same silent =
      subst (λ (z : boards.Board). Rehearsal sheet meaning z x) (λ j. boards.board_of (map session_of (sym new.no-session j)) (map event_of (sym new.no-event j))) (rehearsals.opening same silent)

  pub leads_further : (b c d : Board) (x y z : X) → Leads b x c y → c.sheet.now ≡ b.sheet.now → Called meaning c y d z → Leads b x d z
  leads_further b c d x y z h on call sheet at new same silent = rehearsals.further (h sheet at new same silent) (call sheet (on ∙ at))

  -- and so the log is guarded
  pub leads_guarded : (scale : Scale) → Guarded scale meaning → ClaimsOfTwoEvents → (b c : Board) (x y : X) → Read b.sheet.now → Leads b x c y → Guards scale meaning b x c
  leads_guarded scale law two b c x y read h sheet on accepted new same silent =
      let was = subst Read on read in
      law sheet accepted.0 accepted.1 (two was.0 sheet was.1) (board_of c) y (h sheet on new same silent)

  module _ (takes : X → Msg → X → Type 0) where
    take_last : {A : Type 0} (xs : List A) (i : ℕ) (x : A) → slice_get xs i ≡ Some x → take (suc i) xs ≡ take i xs ++ (x ∷ [])
    take_last xs i x e =
        let within = slice_get_within xs i x e in
        take-suc xs i x within ∙ ap (λ z. take i xs ++ (z ∷ [])) (same_Some (get_or xs i x) x (sym (slice_get-get_or xs i x within) ∙ e))

    -- one act more
    pub plays_further : (b c d : Board) (x y z : X) (all : List Act) (i n : ℕ) (a : Act) (result : Result (Unit {0}) Refusal) → slice_get all i ≡ Some a
        → Plays meaning takes b x (take i all) c y n → Does meaning takes a c y d z result → Plays meaning takes b x (take (i + 1) all) d z (n + declined_by result)
    plays_further b c d x y z all i n a result at h does =
        rw add-one (subst (λ (l : List Act). Plays meaning takes b x l d z (n + declined_by result)) (sym (take_last all i a at)) (acts.further a result h does))

pub one_declined : (r : Result (Unit {0}) Refusal) → is_err r ≡ true → declined_by r ≡ 1
one_declined (Err e) h = refl
one_declined (Ok u) h = absurd (false≢true h)

pub none_declined : (r : Result (Unit {0}) Refusal) → is_err r ≡ false → declined_by r ≡ 0
none_declined (Err e) h = absurd (false≢true (sym h))
none_declined (Ok u) h = refl
