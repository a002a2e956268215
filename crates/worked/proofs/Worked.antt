-- The worked cases hold.
use Rattle.worked.specs.Worked.{WorkedCases}
use Rattle.worked.proofs.Enemy.{key_not_made, nonce_made, nonce_not_made, nonce_still_not_made, own_key_made, stranger_made}
use Rattle.worked.proofs.Readings.{answered_early_read, completion_positive_read, key_known_read, key_positive_read, silence_read, without_seal_read}
use Rattle.worked.proofs.Verdicts.{answered_early_judged, as_it_stands, completion_positive_judged, key_known_judged, key_positive_judged, without_seal_judged}

pub worked_cases : WorkedCases
worked_cases = record {
  as-it-stands = record { reads = silence_read; judges = as_it_stands };
  answered-early = record { reads = answered_early_read; judges = answered_early_judged };
  key-positive = record { reads = key_positive_read; judges = key_positive_judged };
  completion-positive = record { reads = completion_positive_read; judges = completion_positive_judged };
  without-seal = record { reads = without_seal_read; judges = without_seal_judged };
  key-known = record { reads = key_known_read; judges = key_known_judged };
  stranger-made = stranger_made;
  own-key-made = own_key_made;
  nonce-not-made = nonce_not_made;
  key-not-made = key_not_made;
  nonce-still-not-made = nonce_still_not_made;
  nonce-made = nonce_made;
}
