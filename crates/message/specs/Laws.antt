-- Laws of messages, each on the contract of a call of its own.
use Rattle.std.specs.Prelude.{◌≡◌, ℕ, ◌≤◌, Bool, T, List, ◌++◌, length, Ok, Err, Result}
use Rattle.message.specs.declared.NotMessage.{NotMessage}
use Rattle.message.specs.declared.read.Front.{Front}
use Rattle.message.specs.declared.read.Parts.{Parts}
use Rattle.message.specs.declared.read.Parts.TheVariants.{Agent, Nonce, Text, Key, Pair, Seal}
use Rattle.message.specs.Generates.{Generates, Builds, Closed}
use Rattle.message.specs.Message.{Msg, wire, Fits, IsMessage}
use Rattle.message.specs.Reading.{Fronts, Splits}
use Rattle.message.specs.Words.{words}

-- Reading is unique: bytes are the form of at most one tree, and a form at the front determines the rest.
abbrev pub UniqueReading : Type 0
UniqueReading = (m k : Msg) (r s : List ℕ) → wire m ++ r ≡ wire k ++ s → (m ≡ k) × (r ≡ s)

abbrev pub Found : List ℕ → List ℕ → Result Front NotMessage → Type 0
Found front rest (Ok f) = (f.message.now ≡ front) × (f.rest.now ≡ rest)
Found front rest (Err e) = ⊥

-- Every tree in range, within 96 bytes, is read back from its form, whatever comes after it.
abbrev pub ReadBack : Type 0
ReadBack = (m : Msg) (rest : List ℕ) → Fits m → length (wire m) ≤ 96 → (r : Result Front NotMessage) → Fronts (wire m ++ rest) r → Found (wire m) rest r

abbrev pub WholeParts : Parts → Type 0
WholeParts (Agent n) = Unit {0}
WholeParts (Nonce n) = Unit {0}
WholeParts (Text n) = Unit {0}
WholeParts (Key a b) = Unit {0}
WholeParts (Pair first second) = IsMessage first.now × IsMessage second.now
WholeParts (Seal k content) = IsMessage k.now × IsMessage content.now

-- The parts of a message are messages.
abbrev pub PartsAreMessages : Type 0
PartsAreMessages = (bytes : List ℕ) (p : Parts) → Splits bytes (Ok p) → WholeParts p

-- From a set that taking apart does not leave, exactly that is generated which is built by pairing and sealing alone.
-- (The set is given by its test: a clause speaks of no larger collection.)
abbrev pub BuildingSuffices : Type 0
BuildingSuffices = (has : Msg → Bool) → Closed (λ m. T (has m)) → (m : Msg) → (Generates (λ x. T (has x)) m → Builds (λ x. T (has x)) m) × (Builds (λ x. T (has x)) m → Generates (λ x. T (has x)) m)

-- The words tell messages apart.
abbrev pub TellingWords : Type 0
TellingWords = (m k : Msg) → Fits m → Fits k → words m ≡ words k → m ≡ k
