-- Laws of ranks, each on the contract of a call of its own.
use Rattle.std.specs.Prelude.{◌≡◌, ◌⊎◌, ◌↔◌, ℤ}
use Rattle.message.specs.Generates.{Generates}
use Rattle.message.specs.Message.{Msg}
use Rattle.model.specs.Sheet.{Sheet}
use Rattle.instances.specs.Actions.{Event}
use Rattle.instances.specs.Start.{Start}
use Rattle.scale.specs.Scales.{Scale}
use Rattle.ranks.specs.Conditions.{KnowledgePositive, SealsAgree}
use Rattle.ranks.specs.Ranks.{EventRank, Positive, Rank, Valued}

abbrev pub JustOne : (ℤ → Type 0) → Type 0
JustOne P = (v : ℤ) × P v × ((u : ℤ) → P u → u ≡ v)

-- Every message has exactly one rank, and so has every event.
abbrev pub RanksAreSingle : Scale → Type 0
RanksAreSingle scale = (sheet : Sheet) → ((m : Msg) → JustOne (Rank scale sheet m)) × ((e : Event) → JustOne (EventRank scale sheet e))

-- Whatever is generated from positive messages is positive.
abbrev pub GenerationKeepsPositive : Scale → Sheet → Type 0
GenerationKeepsPositive scale sheet = (m : Msg) → Generates (Positive scale sheet) m → Positive scale sheet m

-- Where the lines give values of the scale, the second condition holds exactly where whatever is generated from positive messages is positive.
abbrev pub SecondConditionIsExact : Scale → Type 0
SecondConditionIsExact scale = (sheet : Sheet) → Valued scale sheet → SealsAgree scale sheet ↔ GenerationKeepsPositive scale sheet

-- Under the first two conditions whatever is generated from what the enemy knows at the start and from positive messages is positive.
abbrev pub EnemyStaysPositive : Scale → Type 0
EnemyStaysPositive scale =
    (sheet : Sheet) → Valued scale sheet → KnowledgePositive scale sheet → SealsAgree scale sheet
    → (m : Msg) → Generates (λ x. Start sheet x ⊎ Positive scale sheet x) m → Positive scale sheet m
