-- The texts of the worked cases are read as their sheets: reading computes.
use Rattle.std.proofs.Common.{◌≡◌, Ok, refl}
use Rattle.std.specs.Fmt.{digits}
use Rattle.terms.specs.Terms.{read_nodes, read_signal, read_term}
use Rattle.draft.specs.Drafts.{new_name, new_variable, taken}
use Rattle.sheet.specs.Sheets.{reading}
use Rattle.worked.specs.Silence.{answered_early, completion_positive, key_known, key_positive, silence, without_seal}
use Rattle.worked.specs.Texts.{answered_early_lines, completion_positive_lines, key_known_lines, key_positive_lines, silence_lines, text_of, without_seal_lines}

pub silence_read : reading (text_of silence_lines) ≡ Ok silence
unfolding taken new_name new_variable read_nodes read_term read_signal digits
silence_read = refl

pub answered_early_read : reading (text_of answered_early_lines) ≡ Ok answered_early
unfolding taken new_name new_variable read_nodes read_term read_signal digits
answered_early_read = refl

pub key_positive_read : reading (text_of key_positive_lines) ≡ Ok key_positive
unfolding taken new_name new_variable read_nodes read_term read_signal digits
key_positive_read = refl

pub completion_positive_read : reading (text_of completion_positive_lines) ≡ Ok completion_positive
unfolding taken new_name new_variable read_nodes read_term read_signal digits
completion_positive_read = refl

pub without_seal_read : reading (text_of without_seal_lines) ≡ Ok without_seal
unfolding taken new_name new_variable read_nodes read_term read_signal digits
without_seal_read = refl

pub key_known_read : reading (text_of key_known_lines) ≡ Ok key_known
unfolding taken new_name new_variable read_nodes read_term read_signal digits
key_known_read = refl
