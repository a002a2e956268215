-- What an enemy means.
use Rattle.std.specs.Prelude.{◌≡◌, ℕ, Bool, Decides, List, [], ◌++◌, drop, length, min}
use Rattle.std.specs.Borrow.{MutBor}
use Rattle.medium.specs.declared.enemy.Enemy.{Enemy}
use Rattle.medium.specs.Marks.{row_marks}
use Rattle.medium.specs.Media.{Hears, Known, Meaning, Sound}
use Rattle.medium.specs.Store.{Lies, Room, counted, laid}
use Rattle.message.specs.Generates.{Generates}
use Rattle.message.specs.Message.{Key, Msg, key}
use Rattle.model.specs.Sheet.{Sheet}
use Rattle.sheet.specs.Kept.{contents_of}

-- What an enemy has heard.
unfoldable pub heard : Enemy → List Msg
heard e = e.analysed.1.0

-- An enemy offers exactly what is generated from the sheet's start knowledge and what it heard. It has space while its shorter area has.
abbrev pub analysing : Enemy → Meaning
analysing e = record {
  sheet = contents_of e.sheet.now;
  heard = heard e;
  offered = Generates (Known (contents_of e.sheet.now) (heard e));
  space = Room (counted (min (length e.area.now) (length e.marks.now))) (heard e);
}

pub enemy_sound : (e : Enemy) → Sound (analysing e)
enemy_sound e = record { made = λ m h. h }

-- The marks of the messages heard, where exactly the generated keys are known, and what was there before behind them.
abbrev pub MarksLie : Sheet → List Msg → List ℕ → List ℕ → Type 0
MarksLie sheet heard before after = (keys : Key → Bool) × ((x : Key) → Decides (keys x) (Generates (Known sheet heard) (key x))) × (after ≡ row_marks keys heard ++ drop (length (laid heard)) before)

-- An enemy that is made on a sheet over two areas lent to it: it has heard nothing, and the areas are as they were.
pub record New (sheet : Sheet) (area marks : MutBor (List ℕ)) (e : Enemy) : Type 0 where
  pub on : contents_of e.sheet.now ≡ sheet
  pub silent : heard e ≡ []
  pub area-is : e.area.now ≡ area.now
  pub same-area : e.area.ghost_name ≡ area.ghost_name
  pub marks-are : e.marks.now ≡ marks.now
  pub same-marks : e.marks.ghost_name ≡ marks.ghost_name

-- An enemy takes m: it hears it, and has what it heard at the front of the same area, and its marks at the front of the other.
pub record Takes (s : Enemy) (m : Msg) (t : Enemy) : Type 0 where
  pub hears : Hears (analysing s) (analysing t) m
  pub area : Lies (heard t) s.area.now t.area.now
  pub marks : MarksLie (contents_of t.sheet.now) (heard t) s.marks.now t.marks.now
  pub same-area : t.area.ghost_name ≡ s.area.ghost_name
  pub same-marks : t.marks.ghost_name ≡ s.marks.ghost_name
