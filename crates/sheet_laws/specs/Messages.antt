-- What the terms of a sheet stand for: messages.
use Rattle.std.specs.Prelude.{◌≡◌, ℕ, List, Some, Ok, Option}
use Rattle.std.specs.List.{slice_get, AllByRecursion}
use Rattle.message.specs.declared.Atom.{Atom}
use Rattle.message.specs.Message.{Msg, Reads, wire}
use Rattle.model.specs.declared.node.Field.{Field}
use Rattle.model.specs.Sheet.{Role, Sheet, Step, receive, send, signal}
use Rattle.model.specs.Trees.{Term}
use Rattle.instances.specs.Instances.{Instance, played}
use Rattle.instances.specs.Start.{Start}
use Rattle.instances.specs.Substitution.{Values, message, names_alone, value}
use Rattle.sheet.specs.Sheets.{reading}

-- The term is a message, in range and of at most 96 bytes.
abbrev pub Means : Values → Term → Type 0
Means v t = (m : Msg) × (message v t ≡ Some m) × Reads (wire m) m

-- The field stands for an atom.
abbrev pub Stands : Values → Field → Type 0
Stands v f = (x : Atom) × (value v f ≡ Some x)

-- What a step sends or receives is a message, and each atom that it signals stands for something.
abbrev pub StepMeans : Values → Step → Type 0
StepMeans v (send t) = Means v t
StepMeans v (receive t) = Means v t
StepMeans v (signal s) = AllByRecursion (Stands v) s.fields

-- In every instance of a role of a sheet that is read, each of its steps is so.
abbrev pub InstancesAreMessages : Type 0
InstancesAreMessages =
    (text : List ℕ) (sheet : Sheet) → reading text ≡ Ok sheet
    → (r : ℕ) (role : Role) → slice_get sheet.roles r ≡ Some role
    → (a : ℕ) (xs : List (Option Atom)) → Instance sheet r role a xs
    → AllByRecursion (StepMeans (played a xs)) role.steps

-- Each `know` line of a sheet that is read is a message, and so is everything that the enemy knows at the start.
abbrev pub StartIsMessages : Type 0
StartIsMessages =
    (text : List ℕ) (sheet : Sheet) → reading text ≡ Ok sheet
    → AllByRecursion (Means names_alone) sheet.known × ((m : Msg) → Start sheet m → Reads (wire m) m)
