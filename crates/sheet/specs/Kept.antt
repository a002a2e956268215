-- What the code's sheet stands for.
use Rattle.std.specs.Prelude.{map}
use Rattle.sheet.specs.declared.contents.Contents.{Contents}
use Rattle.model.specs.Sheet as model
use Rattle.sheet.specs.Sheets.{atom_of}
use Rattle.model.specs.Names.{letters}
use Rattle.model.specs.Stored.{agent_of, claim_of, items, nonce_of, ranked_of, role_of, sealed_of, signal_of, term_of, variable_of}

abbrev pub contents_of : Contents → model.Sheet
contents_of c = record {
  agents = items agent_of c.agents;
  texts = items letters c.texts;
  roles = items role_of c.roles;
  nonces = items nonce_of c.nonces;
  known = items term_of c.known;
  claim = claim_of c.claim;
  free = items variable_of c.free;
  atoms = map atom_of (items (ranked_of (λ n. n)) c.atoms);
  seals = items (ranked_of sealed_of) c.seals;
  marks = items (ranked_of signal_of) c.marks;
}
