-- The link sheet of examples/silence.sheet, and the same with one thing changed.
use Rattle.std.specs.Prelude.{false, List, [], ◌∷◌, ℤ, pos, Some, codes}
use Rattle.message.specs.declared.Kind.TheVariants as kind
use Rattle.model.specs.declared.node.Field.{Field}
use Rattle.model.specs.declared.node.Field.TheVariants as field
use Rattle.model.specs.declared.node.Sort.TheVariants.{Fresh, Plain}
use Rattle.model.specs.Sheet.{Ranked, Role, Sheet, Signal, Step, receive, send, signal}
use Rattle.model.specs.Trees.{Term, key, leaf, pair, seal}

-- ---- names

-- the agents
abbrev pub G : Field
G = field.Named kind.Agent 0

abbrev pub B : Field
B = field.Named kind.Agent 1

-- the nonce and the text
abbrev pub na : Field
na = field.Named kind.Nonce 0

abbrev pub date : Field
date = field.Named kind.Text 0

-- ---- the roles

abbrev pub bus : Role
bus = record {
  name = codes "bus";
  player = Some 1;
  variables = record { name = codes "t"; sort = Plain kind.Text } ∷ record { name = codes "n"; sort = Fresh } ∷ [];
  steps =
      send (pair (leaf field.Player) (leaf (field.Variable 1)))
      ∷ receive (seal field.Player G (pair (leaf G) (pair (leaf (field.Variable 1)) (leaf (field.Variable 0)))))
      ∷ signal (record { word = codes "set"; fields = field.Player ∷ G ∷ field.Variable 1 ∷ field.Variable 0 ∷ [] })
      ∷ [];
}

-- what the ground does with an agent j, a nonce c and a text t: it is asked, it signals that it has told, and it answers
abbrev pub asked : Step
asked = receive (pair (leaf (field.Variable 0)) (leaf (field.Variable 1)))

abbrev pub telling : Step
telling = signal (record { word = codes "told"; fields = field.Player ∷ field.Variable 0 ∷ field.Variable 1 ∷ field.Variable 2 ∷ [] })

abbrev pub answers : Step
answers = send (seal field.Player (field.Variable 0) (pair (leaf field.Player) (pair (leaf (field.Variable 1)) (leaf (field.Variable 2)))))

abbrev pub ground_doing : List Step → Role
ground_doing steps = record {
  name = codes "ground";
  player = Some 0;
  variables =
      record { name = codes "j"; sort = Plain kind.Agent }
      ∷ record { name = codes "c"; sort = Plain kind.Nonce }
      ∷ record { name = codes "t"; sort = Plain kind.Text }
      ∷ [];
  steps = steps;
}

abbrev pub ground : Role
ground = ground_doing (asked ∷ telling ∷ answers ∷ [])

-- It answers before it signals.
abbrev pub hasty : Role
hasty = ground_doing (asked ∷ answers ∷ telling ∷ [])

-- ---- the claim and the ranks

abbrev pub is_set : Signal
is_set = record { word = codes "set"; fields = B ∷ G ∷ na ∷ date ∷ [] }

abbrev pub is_told : Signal
is_told = record { word = codes "told"; fields = G ∷ B ∷ na ∷ date ∷ [] }

abbrev pub answer : Term
answer = seal G B (pair (leaf G) (pair (leaf na) (leaf date)))

-- the `seal` line of the sheet
abbrev pub answer_lines : List (Ranked Term)
answer_lines = record { rank = pos 0; what = answer } ∷ []

-- ---- the sheets

-- The sheet with this second role, these known messages, this rank of the key, these `seal` lines and this rank of the completion.
abbrev pub silence_with : Role → List Term → ℤ → List (Ranked Term) → ℤ → Sheet
silence_with second known key_rank seals mark = record {
  agents = record { name = codes "G"; enemy = false } ∷ record { name = codes "B"; enemy = false } ∷ [];
  texts = codes "date" ∷ [];
  roles = bus ∷ second ∷ [];
  nonces = record { name = codes "na"; agent = 1; role = 0; variable = 1 } ∷ [];
  known = known;
  claim = record { completion = is_set; needed = is_told };
  free = [];
  atoms = record { rank = key_rank; what = key G B } ∷ [];
  seals = seals;
  marks = record { rank = mark; what = is_set } ∷ [];
}

abbrev pub silence : Sheet
silence = silence_with ground [] (pos 0) answer_lines (pos 0)

-- with the ground's last two steps exchanged
abbrev pub answered_early : Sheet
answered_early = silence_with hasty [] (pos 0) answer_lines (pos 0)

-- with the rank 1 for the key
abbrev pub key_positive : Sheet
key_positive = silence_with ground [] (pos 1) answer_lines (pos 0)

-- with the rank 1 for the completion
abbrev pub completion_positive : Sheet
completion_positive = silence_with ground [] (pos 0) answer_lines (pos 1)

-- without the `seal` line
abbrev pub without_seal : Sheet
without_seal = silence_with ground [] (pos 0) [] (pos 0)

-- with the key known beforehand
abbrev pub key_known : Sheet
key_known = silence_with ground (key G B ∷ []) (pos 0) answer_lines (pos 0)
