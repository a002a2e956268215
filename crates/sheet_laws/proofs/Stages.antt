-- How far a sheet has come.
use Rattle.std.proofs.Common.{◌≡◌, ℕ, arith}
use Rattle.draft.specs.declared.draft.Part.{Part}
use Rattle.draft.specs.declared.draft.Part.TheVariants as part
use Rattle.sheet_laws.proofs.Steps.{InRole, UpToMarks}

-- The agents come first, then the texts, the scripts of the roles, what follows the roles, and the ranks.
abbrev pub stage : Part → ℕ
stage part.Start = 0
stage part.Opening = 0
stage part.Agents = 0
stage part.Texts = 1
stage part.Roles = 1
stage part.Variables = 2
stage part.Steps = 2
stage part.Nonces = 3
stage part.Known = 3
stage part.Claim = 3
stage part.Free = 4
stage part.Ranks = 4
stage part.Seals = 4
stage part.Marks = 4
stage part.End = 4

-- a role's script is read
pub role-stage : {p : Part} → InRole p → stage p ≡ 2
role-stage h = grind arith

-- the ranks are read
pub ranks-stage : {p : Part} → UpToMarks p → stage p ≡ 4
ranks-stage h = grind arith
