-- A role's variables are declared before its steps, and the free variables before the `seal` lines.
use Rattle.std.proofs.Common.{◌≡◌, ℕ, ◌≤◌, ◌⊎◌, [], inl, arith}
use Rattle.lexer.specs.Text.{LineAt}
use Rattle.draft.specs.declared.draft.Part.TheVariants as part
use Rattle.draft.specs.Drafts.{Draft}
use Rattle.draft.specs.Sections.{blank}
use Rattle.sheet_laws.proofs.Stages.{stage, role-stage, ranks-stage}
use Rattle.sheet_laws.proofs.Steps as steps
use Rattle.sheet_laws.proofs.Steps.{ReadsOn}

-- While variables may be declared, there is no step, and no `seal` line, in which they could stand.
pub record DeclaredFirst (d : Draft) : Type 0 where
  pub steps : d.part ≡ part.Variables → d.script.steps ≡ []
  pub seals : (stage d.part ≤ 3) ⊎ (d.part ≡ part.Free) → d.table.seals ≡ []

-- one line more
pub more : {d e : Draft} {n : ℕ} {l : LineAt} → DeclaredFirst d → ReadsOn d n l e → DeclaredFirst e
more h (steps.heading p w) = grind arith
more h (steps.section (steps.agents p w)) = grind arith
more h (steps.section (steps.texts p w s)) = grind arith
more h (steps.section (steps.roles p w)) = grind arith
more h (steps.section (steps.known p w)) = grind arith
more h (steps.section (steps.claim p w)) = grind arith
more h (steps.section (steps.ranks p w s)) = grind arith
more h (steps.agent p w e) = grind arith
more h (steps.text p w e) = grind arith
more h (steps.first-role p w s e) = grind arith
more h (steps.next-role r w s f e) = grind (arith, role-stage r.within)
more h (steps.variable p v) = grind arith
more h (steps.step p x) = grind (arith, role-stage p)
more h (steps.nonces r w) = grind (arith, role-stage r.within)
more h (steps.nonce p w e) = grind arith
more h (steps.know p w e) = grind arith
more h (steps.holds p w e) = grind arith
more h (steps.free p w e) = grind arith
more h (steps.rank p w e) = grind (arith, ranks-stage (inl (inl p)))
more h (steps.seal p w e) = grind arith
more h (steps.mark p w e) = grind (arith, ranks-stage p)
more h (steps.back p w e) = grind (arith, ranks-stage p)

-- nothing is declared yet
pub none : DeclaredFirst blank
none = grind arith
