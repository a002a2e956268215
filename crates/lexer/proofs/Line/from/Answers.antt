use Rattle.std.proofs.Common.{drop, ap, ◌∙◌}
use Rattle.lexer.specs.Text.{words_of}
use Rattle.lexer.proofs.Lines.{words_from}
use Rattle.lexer.proofs.Line.from.Goals as goal

pub returns : goal.returns
returns c = words_from _ _ c.args.i c.get.result c.unwrap_or_default.ensures c.get.ensures.lookup ∙ ap (λ ws. drop c.args.i (words_of ws)) c.deref.ensures.value
