-- What the code's scope, and a term that it has begun to read, stand for.
use Rattle.std.specs.Prelude.{map, vec_items}
use Rattle.terms.specs.declared.scope.Scope.{Scope}
use Rattle.terms.specs.declared.reader.Progress.{Progress}
use Rattle.model.specs.Names.{letters}
use Rattle.model.specs.Stored.{agent_of, nonce_of, variable_of}
use Rattle.terms.specs.Terms as terms

abbrev pub scope_of : Scope → terms.Scope
scope_of s = record {
  script = s.script;
  variables = map variable_of s.variables.now;
  agents = map agent_of s.agents.now;
  texts = map letters s.texts.now;
  nonces = map nonce_of s.nonces.now;
}

abbrev pub progress_of : Progress → terms.Progress
progress_of p = record { expect = p.expect; wanted = p.wanted; done = vec_items p.done }
