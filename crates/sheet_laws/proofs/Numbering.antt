-- The lines so far, by their numbers.
use Rattle.std.proofs.Common.{◌≡◌, ℕ, ◌+◌, ◌<◌, ◌≤◌, List, [], ◌∷◌, ◌++◌, length, take, Some, None, Ok, codes, Option, sym, refl, subst, arith, length-append}
use lib.ListN.{length-map}
use Rattle.std.proofs.lemmas.Bool.Decides.{nat_tests}
use Rattle.lexer.specs.Text.{LineAt}
use Rattle.draft.specs.declared.draft.Part.{Part}
use Rattle.draft.specs.declared.draft.Part.TheVariants as part
use Rattle.draft.specs.Drafts.{Cast, Draft, Script}
use Rattle.draft.specs.Reading as reading
use Rattle.draft.specs.Sections.{blank, opened, role_read}
use Rattle.sheet.specs.Sheets.{atom_of, sheet_from}
use Rattle.model.specs.LineNumbers.{back_line, know_line, rank_line, role_lines, seal_line, section_lines}
use Rattle.model.specs.Sheet as model
use Rattle.sheet_laws.specs.Numbering.{LineIs, LinesAre, LinesBegin, LinesNumbered, Numbered, SaysBack, section_words}
use Rattle.sheet_laws.proofs.NumberingLines.{are-more, are-stay, back-line, begin-more, begin-stay, line-comes}
use Rattle.sheet_laws.proofs.Passing.{given}
use Rattle.sheet_laws.proofs.Steps as steps
use Rattle.sheet_laws.proofs.Steps.{InRole, Opens, ReadsOn, read-so, throughout}

-- ---- how far a sheet has come

-- The parts in order: by how many section words are read, and in the ranks by the sort of lines.
abbrev order : Part → ℕ
order part.Start = 0
order part.Opening = 0
order part.Agents = 1
order part.Texts = 2
order part.Roles = 3
order part.Variables = 3
order part.Steps = 3
order part.Nonces = 4
order part.Known = 5
order part.Claim = 6
order part.Free = 7
order part.Ranks = 8
order part.Seals = 9
order part.Marks = 10
order part.End = 11

-- ---- how many lines are read

-- The lines of the claim, and of the role that is being read.
abbrev claims : Option model.Claim → ℕ
claims None = 0
claims (Some x) = 1

abbrev script_lines : Script → ℕ
script_lines s = role_lines (role_read s ∷ [])

-- The lines that no list of the sheet counts: the heading, the lines of the role that is being read, and `back`.
abbrev others : Part → ℕ → ℕ
others part.Start n = 0
others part.Opening n = 1
others part.Agents n = 1
others part.Texts n = 1
others part.Roles n = 1
others part.Variables n = 1 + n
others part.Steps n = 1 + n
others part.Nonces n = 1
others part.Known n = 1
others part.Claim n = 1
others part.Free n = 1
others part.Ranks n = 1
others part.Seals n = 1
others part.Marks n = 1
others part.End n = 2

-- The lines of a draft.
abbrev lines : Draft → ℕ
lines d =
    others d.part (script_lines d.script) + length d.sections + length d.cast.agents + length d.cast.texts + role_lines d.cast.roles + length d.cast.nonces
    + length d.known + claims d.claim + length d.table.free + length d.table.atoms + length d.table.seals + length d.table.marks

-- a role's script is read
in-role : {p : Part} (n : ℕ) → InRole p → (order p ≡ order part.Steps) × (others p n ≡ 1 + n)
in-role n h = grind arith

-- the claim comes once
claim-line : (c : Cast) (l : LineAt) (o : Option model.Claim) {x : model.Claim} → reading.claim_line c o l ≡ Ok x → claims o ≡ 0
claim-line c l o e = grind (arith, nat_tests)

-- one role more
role-more : (rs : List model.Role) (r : model.Role) → role_lines (rs ++ (r ∷ [])) ≡ role_lines rs + role_lines (r ∷ [])
role-more [] r = omega arith
role-more (x ∷ rs) r = omega (arith, role-more rs r)

-- ---- every line

-- With a claim, whatever it is, a draft can be taken for a sheet.
module _ (claim : model.Claim) where
  abbrev sheet : Draft → model.Sheet
  sheet d = sheet_from d claim

  -- What is read stands in the lines that are computed for it.
  record Standing (ls : List LineAt) (d : Draft) : Type 0 where
    sections : LinesAre ls d.sections section_words
    know : LinesBegin ls (know_line (sheet d)) (length d.known) (codes "know")
    rank : LinesBegin ls (rank_line (sheet d)) (length d.table.atoms) (codes "rank")
    seal : LinesBegin ls (seal_line (sheet d)) (length d.table.seals) (codes "seal")

  -- Nothing is read before its part comes, and so the lines that are read give the numbers of the sections. The last line says them.
  record SoFar (ls : List LineAt) (d : Draft) : Type 0 where
    no-agents : order d.part < order part.Agents → length d.cast.agents ≡ 0
    no-texts : order d.part < order part.Texts → length d.cast.texts ≡ 0
    no-roles : order d.part < order part.Roles → role_lines d.cast.roles ≡ 0
    no-nonces : order d.part < order part.Nonces → length d.cast.nonces ≡ 0
    no-known : order d.part < order part.Known → length d.known ≡ 0
    no-claim : order d.part < order part.Claim → d.claim ≡ None
    one-claim : order part.Free ≤ order d.part → claims d.claim ≡ 1
    no-free : order d.part < order part.Free → length d.table.free ≡ 0
    no-atoms : order d.part < order part.Ranks → length d.table.atoms ≡ 0
    no-seals : order d.part < order part.Seals → length d.table.seals ≡ 0
    no-marks : order d.part < order part.Marks → length d.table.marks ≡ 0
    count : length ls ≡ lines d
    numbers : d.sections ≡ take (order d.part) (section_lines (sheet d))
    stands : Standing ls d
    back : d.part ≡ part.End → LineIs ls (length ls) (SaysBack d.sections)

  -- it stays there when a line comes
  stay : {ls : List LineAt} {d : Draft} (l : LineAt) → Standing ls d → Standing (ls ++ (l ∷ [])) d
  stay {ls} {d} l h = record {
    sections = are-stay ls l d.sections section_words h.sections;
    know = begin-stay ls l _ _ _ h.know;
    rank = begin-stay ls l _ _ _ h.rank;
    seal = begin-stay ls l _ _ _ h.seal;
  }

  -- a section begins
  begins : {ls : List LineAt} {l : LineAt} {d : Draft} {p : Part} → SoFar ls d → Standing (ls ++ (l ∷ [])) d → Opens d l p → SoFar (ls ++ (l ∷ [])) (opened d p (length ls + 1))
  begins {ls} {l} {d} h k (steps.agents p w) = grind (arith, are-more ls l d.sections section_words (codes "agents"), length-append)
  begins {ls} {l} {d} h k (steps.texts p w s) = grind (arith, are-more ls l d.sections section_words (codes "texts"), length-append)
  begins {ls} {l} {d} h k (steps.roles p w) = grind (arith, are-more ls l d.sections section_words (codes "roles"), length-append)
  begins {ls} {l} {d} h k (steps.known p w) = grind (arith, are-more ls l d.sections section_words (codes "known"), length-append)
  begins {ls} {l} {d} h k (steps.claim p w) = grind (arith, are-more ls l d.sections section_words (codes "claim"), length-append)
  begins {ls} {l} {d} h k (steps.ranks p w s) = grind (arith, are-more ls l d.sections section_words (codes "ranks"), length-append)

  -- one line more
  more : {ls : List LineAt} {l : LineAt} {d e : Draft} → SoFar ls d → Standing (ls ++ (l ∷ [])) d → ReadsOn d (length ls + 1) l e → SoFar (ls ++ (l ∷ [])) e
  more h k (steps.heading p w) = grind (arith, length-append)
  more h k (steps.section o) = begins h k o
  more h k (steps.agent p w _) = grind (arith, length-append)
  more h k (steps.text p w _) = grind (arith, length-append)
  more h k (steps.first-role p w s _) = grind (arith, length-append)
  more {d = d} h k (steps.next-role r w s f _) = grind (arith, in-role (script_lines d.script) r.within, role-more d.cast.roles (role_read d.script), length-append)
  more h k (steps.variable p v) = grind (arith, length-append)
  more h k (steps.step p x) = grind (arith, length-append)
  more {ls} {l} {d} h k (steps.nonces r w) = grind (arith, in-role (script_lines d.script) r.within, are-more ls l d.sections section_words (codes "nonces"), role-more d.cast.roles (role_read d.script), length-append)
  more h k (steps.nonce p w _) = grind (arith, length-append)
  more {ls} {l} {d} h k (steps.know p w _) = grind (arith, begin-more ls l (know_line (sheet d)) (length d.known) (codes "know") h.stands.know, length-append)
  more {l = l} {d} h k (steps.holds p w c) = grind (arith, claim-line d.cast l d.claim c, length-append)
  more h k (steps.free p w _) = grind (arith, length-append)
  more {ls} {l} {d} h k (steps.rank p w _) = grind (arith, begin-more ls l (rank_line (sheet d)) (length d.table.atoms) (codes "rank") h.stands.rank, length-append)
  more {ls} {l} {d} h k (steps.seal p w _) = grind (arith, begin-more ls l (seal_line (sheet d)) (length d.table.seals) (codes "seal") h.stands.seal, length-map, length-append)
  more h k (steps.mark p w _) = grind (arith, length-append)
  more {ls} {l} {d} h k (steps.back p w c) =
      let seven : length d.sections ≡ 7 = grind arith in
      let last = line-comes ls l (length ls + 1) (SaysBack d.sections) refl (given (back-line l d w seven) c) in
      grind (arith, last, length-append)

  -- no line is read yet
  none : SoFar [] blank
  none = grind arith

  -- all lines are read
  all : {ls : List LineAt} {d : Draft} → SoFar ls d → d.part ≡ part.End → Numbered ls (sheet d)
  all {ls} {d} h ended =
      let numbers : d.sections ≡ section_lines (sheet d) = rw ended at h.numbers in
      let last : length ls ≡ back_line (sheet d) = grind (arith, length-map d.table.atoms atom_of) in
      record {
        sections = rw numbers at h.stands.sections;
        know = h.stands.know;
        rank = rw (length-map d.table.atoms atom_of) h.stands.rank;
        seal = h.stands.seal;
        last = last;
        back = rw (numbers, last) at (h.back ended);
      }

-- the lines of a text that is read
pub lines_numbered : LinesNumbered
lines_numbered text m e =
    let r = read-so text e in
    let h = throughout (SoFar r.claim) (λ _ l _ _ h s. more r.claim h (stay r.claim l h.stands) s) (none r.claim) r.lines r.reads in
    (r.lines, r.lexes, subst (Numbered r.lines) (sym r.whole) (all r.claim h r.ended))
