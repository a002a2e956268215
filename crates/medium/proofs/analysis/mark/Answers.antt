use Rattle.std.proofs.Common.{◌≡◌, true, refl, rules}
use Rattle.sheet.specs.Kept.{contents_of}
use Rattle.medium.proofs.Growing.{key_begins, known_key, marks_quiet}
use Rattle.medium.proofs.analysis.mark.Goals as goal
use Rattle.medium.proofs.analysis.mark.Goals.{then-key-eq75, else-key-eq75}

pub returns : goal.returns
returns c =
    let sheet = contents_of c.args.sheet.now in
    record {
      is = refl;
      quiet = λ e. marks_quiet sheet c.args.bytes.now c.args.other.bytes.now c.args.other.marks.now c.args.marks.now c.args.at (λ x rest f. elim c.if-key-eq75.branch [
        | then-key-eq75 w ↦
            let yes : w.is_known.result ≡ true = search rules in
            known_key sheet c.args.bytes.now c.args.other.bytes.now c.args.other.marks.now c.args.marks.now c.args.at c.min.result w.is_known.result c.min.ensures w.is_known.ensures.0 yes x rest f
        | else-key-eq75 w ↦ absurd (w.if-key-eq75.false (key_begins c.args.bytes.now c.args.at c.min.result x rest c.min.ensures f))
      ]);
      new = λ _. c.if-marks-at-eq1.false;
    }
