-- Laws of what the check answers, each on the contract of a call of its own.
use Rattle.std.specs.Prelude.{◌≡◌}
use Rattle.model.specs.Sheet.{Sheet}
use Rattle.scale.specs.Scales.{Scale}
use Rattle.checker.specs.Verdicts.{Judges, Verdict}

-- At most one verdict of a sheet is right.
abbrev pub OneVerdict : Scale → Type 0
OneVerdict scale = (sheet : Sheet) (v w : Verdict) → Judges scale sheet v → Judges scale sheet w → v ≡ w

-- Some verdict of every sheet is right.
abbrev pub SomeVerdict : Scale → Type 0
SomeVerdict scale = (sheet : Sheet) → (v : Verdict) × Judges scale sheet v
