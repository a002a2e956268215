-- Words that are names are kept whole.
use Rattle.std.proofs.Common.{◌≡◌, ℕ, true, not, ◌&&◌, leb, List, length, take, sym}
use Rattle.std.proofs.lemmas.List.{take_all}
use Rattle.std.proofs.lemmas.Bool.{and_parts, leb-true}
use Rattle.model.specs.Names.{alphanumeric, among, begins_with_letter, is_name, reserved, spelled}

-- a word that is a name has at most eight letters, so it is not cut short
pub name-short : (w : List ℕ) → true ≡ is_name w → take 8 w ≡ w
name-short w h =
    let form = (and_parts (spelled w) (not (among reserved w)) (sym h)).0 in
    take_all 8 w (leb-true (length w) 8 (and_parts (alphanumeric w && begins_with_letter w) (leb (length w) 8) form).1)
