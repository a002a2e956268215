-- What the code's draft of a sheet stands for.
use Rattle.std.specs.Prelude.{◌≡◌, Bool, true, false, Ok, Err, vec_items, Result}
use Rattle.lexer.specs.declared.Declined.{Declined}
use Rattle.lexer.specs.declared.Declined.TheVariants as declined
use Rattle.lexer.specs.declared.Rule.TheVariants as rule
use Rattle.lexer.specs.Text.{WordAt}
use Rattle.model.specs.declared.name.Name.{Name}
use Rattle.draft.specs.declared.cast.Cast.{Cast}
use Rattle.draft.specs.declared.cast.Title.{Title}
use Rattle.std.specs.Option.{option_map}
use Rattle.draft.specs.declared.draft.Draft.{Draft}
use Rattle.draft.specs.declared.script.Script.{Script}
use Rattle.draft.specs.declared.table.Table.{Table}
use Rattle.draft.specs.Drafts as drafts
use Rattle.model.specs.Names.{letters}
use Rattle.terms.specs.Usages.{declared_of}
use Rattle.model.specs.Stored.{agent_of, claim_of, items, nonce_of, ranked_of, role_of, sealed_of, signal_of, step_of, term_of}

abbrev pub title_of : Title → drafts.Title
title_of t = record { name = letters t.name; player = t.player }

unfoldable pub cast_of : Cast → drafts.Cast
cast_of c = record { agents = items agent_of c.agents; texts = items letters c.texts; roles = items role_of c.roles; nonces = items nonce_of c.nonces }

unfoldable pub script_of : Script → drafts.Script
script_of s = record { title = title_of s.title; variables = (declared_of s.variables).variables; usages = (declared_of s.variables).usages; steps = items step_of s.steps }

unfoldable pub table_of : Table → drafts.Table
table_of t = record { free = (declared_of t.free).variables; usages = (declared_of t.free).usages; atoms = items (ranked_of (λ n. n)) t.atoms; seals = items (ranked_of sealed_of) t.seals; marks = items (ranked_of signal_of) t.marks }

abbrev pub draft_of : Draft → drafts.Draft
draft_of d = record { part = d.part; sections = vec_items d.sections; cast = cast_of d.cast; script = script_of d.script; known = items term_of d.known; claim = option_map claim_of d.claim; table = table_of d.table }

-- a word that has to be a new name gives that name, or the fault
abbrev pub Names : Bool → WordAt → Result Name Declined → Type 0
Names new w (Ok n) = (new ≡ true) × (letters n ≡ w.text)
Names new w (Err e) = (new ≡ false) × (e ≡ declined.Fault (record { rule = rule.NewName; place = w.place }))
