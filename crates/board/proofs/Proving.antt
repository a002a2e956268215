-- The guarantee, of a sheet that the check accepts.
use Rattle.std.proofs.Common.{Option, subst}
use Rattle.medium.specs.Media.{Meaning}
use Rattle.model.specs.Sheet.{Sheet}
use Rattle.rehearsals.specs.Rehearsals.{Guarded}
use Rattle.scale.specs.Scales.{Scale}
use Rattle.sheet_laws.specs.Claims.{ClaimsOfTwoEvents}
use Rattle.board.specs.Proving.{ProvedIfAccepted}
use Rattle.board.specs.Steps.{Read}
use Rattle.checker.specs.declared.verdict.Verdict.TheVariants.{Accepted}
use Rattle.checker.specs.Checking.{Checks}
use Rattle.std.specs.Prelude.{Ok}

pub accepted_proved : (scale : Scale) {X : Type 0} (meaning : X → Meaning) → Guarded scale meaning → ClaimsOfTwoEvents → (o : Option Sheet) → Read o → ProvedIfAccepted scale meaning o
accepted_proved scale meaning law two o read accepted sheet on b x rehearsal =
    let was = subst Read on read in
    let right = subst (λ (z : Option Sheet). Checks scale z (Ok Accepted)) on accepted in
    law sheet right.0 right.1 (two was.0 sheet was.1) b x rehearsal
