use Rattle.message.proofs.Spoken.{halved, opened, pair-told, seal-told}
use Rattle.message.proofs.tell.+push_words.Goals as goal

pub returns-in_ok-push_words-in-Pair-2 : goal.returns-in_ok-push_words-in-Pair-2
returns-in_ok-push_words-in-Pair-2 t c =
    pair-told _ _ _ (halved _ _ _ _ c.in_ok-number.ensures c.in-Pair.is) _ _ _ _ _ c.in_ok-push_str-in-Pair.ensures.bytes c.in_ok-push_words-in-Pair.ensures c.in_ok-push_str-in-Pair-2.ensures.bytes c.in_ok-push_words-in-Pair-2.ensures

pub returns-in_ok-push_words-in-Seal : goal.returns-in_ok-push_words-in-Seal
returns-in_ok-push_words-in-Seal t c =
    seal-told _ _ _ (opened _ _ _ _ c.in_ok-number.ensures c.in-Seal.is) _ _ _ c.in_ok-push_seal-in-Seal.ensures c.in_ok-push_words-in-Seal.ensures
