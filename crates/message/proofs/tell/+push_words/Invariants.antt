use Rattle.std.proofs.Common.{length}
use Rattle.message.proofs.tell.+push_words.Given as goal

abbrev pub decreases-push_words : goal.decreases-push_words
decreases-push_words l = length l.bytes.now
