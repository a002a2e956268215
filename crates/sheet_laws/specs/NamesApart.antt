-- The names of a sheet: each has a name's form, and no two are the same.
use Rattle.std.specs.Prelude.{◌≡◌, ℕ, true, false, List, [], ◌∷◌, ◌++◌, Ok}
use Rattle.std.specs.List.{AllByRecursion}
use Rattle.sheet.specs.Sheets.{reading}
use Rattle.model.specs.Names.{is_name}
use Rattle.model.specs.Sheet.{Sheet}
use Rattle.terms.specs.Terms.{agent_names, has, nonce_names, role_names, variable_names}

-- Each is a name in form, and no two are the same.
abbrev pub Apart : List (List ℕ) → Type 0
Apart [] = Unit {0}
Apart (n ∷ ns) = (is_name n ≡ true) × (has ns n ≡ false) × Apart ns

-- agents, texts, roles and nonces share one space of names
abbrev pub names : Sheet → List (List ℕ)
names m = agent_names m.agents ++ (m.texts ++ (role_names m.roles ++ nonce_names m.nonces))

-- The names of a sheet are apart. So are a role's variables from these and from each other, and the free variables likewise.
pub record NamedApart (m : Sheet) : Type 0 where
  pub all : Apart (names m)
  pub variables : AllByRecursion (λ r. Apart (variable_names r.variables ++ names m)) m.roles
  pub free : Apart (variable_names m.free ++ names m)

-- The names of a sheet that is read are apart.
abbrev pub NamesAreApart : Type 0
NamesAreApart = (text : List ℕ) (m : Sheet) → reading text ≡ Ok m → NamedApart m
