-- Where the variables of a sheet stand.
use Rattle.std.specs.Prelude.{◌≡◌, ℕ, Bool, true, false, ◌||◌, List, [], ◌∷◌, Some, Ok}
use Rattle.std.specs.List.{slice_get, AllByRecursion}
use Rattle.message.specs.declared.Kind.TheVariants as kind
use Rattle.model.specs.declared.node.Sort.{Sort}
use Rattle.model.specs.declared.node.Sort.TheVariants.{Plain}
use Rattle.model.specs.Sheet.{Role, Sheet, Step, Variable}
use Rattle.model.specs.Variables.{received, stands_in, stands_in_step}
use Rattle.sheet.specs.Sheets.{reading}

-- One of these passes the test.
abbrev pub some : {A : Type 0} → (A → Bool) → List A → Bool
some t [] = false
some t (x ∷ xs) = t x || some t xs

-- A role's variable of this number and sort stands in some step, and one that is a nonce but not fresh is received first.
pub record VariableUsed (steps : List Step) (i : ℕ) (sort : Sort) : Type 0 where
  pub stands : some (stands_in_step i) steps ≡ true
  pub is-received : sort ≡ Plain kind.Nonce → received i steps ≡ true

abbrev pub RoleUsed : Role → Type 0
RoleUsed r = (i : ℕ) (v : Variable) → slice_get r.variables i ≡ Some v → VariableUsed r.steps i v.sort

-- So are the variables of every role, and every free variable stands in some `seal` line.
pub record Used (m : Sheet) : Type 0 where
  pub roles : AllByRecursion RoleUsed m.roles
  pub free : (i : ℕ) (v : Variable) → slice_get m.free i ≡ Some v → some (λ s. stands_in i s.what) m.seals ≡ true

-- The variables of a sheet that is read are used.
abbrev pub VariablesAreUsed : Type 0
VariablesAreUsed = (text : List ℕ) (m : Sheet) → reading text ≡ Ok m → Used m
