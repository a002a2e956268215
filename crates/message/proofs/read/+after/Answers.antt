use Rattle.std.proofs.Common.{◌≡◌, None, length, get_or, refl, ap, ⊎_elim, arith, rules, ltb-true}
use Rattle.std.proofs.lemmas.Slice.{first_rest}
use Rattle.message.specs.Message.{nonce, text}
use Rattle.message.proofs.Forms.{small, tagged, first_two, keyed, agent-front, number-front, key-front, at-agent, at-nonce, at-text, at_key, at-seal, halves, at_other, at-empty, pair-leaves, seal-leaves}
use Rattle.message.proofs.read.+after.Goals as goal
use Rattle.message.proofs.read.+after.Goals.{in_default-2-via-in-65+then-body-lt1, in_default-2-via-in-78+then-this-lt2, in_default-2-via-in-75+then-this-lt2-2, in_default-2-via-in-K-len2-up+else-lesser-greater, in_default-2-via-in-69+then-this-lt3, in_default-2-via-in-E-len3-up+then-key-eq75+else-lesser-greater-2, in_default-2-via-in-E-len3-up+else-key-eq75, in_default-2-via-in_default}

pub returns-in_default : goal.returns-in_default
returns-in_default t c rest b = at-empty _ _ (search rules) b

pub returns-in-A-len1-up : goal.returns-in-A-len1-up
returns-in-A-len1-up t c = agent-front c.args.bytes.now _ _ _ (tagged _ 65 (search rules) (search rules)) (first_rest _ 0 (search rules)) (small _ c.type_inv.bytes)

pub returns-in-N-len2-up : goal.returns-in-N-len2-up
returns-in-N-len2-up t c =
    ⊎_elim
    (λ is. number-front 78 nonce (λ _. refl) (λ _ h. h) c.args.bytes.now _ _ _ _ (tagged _ 78 is (search rules)) (first_two _ (search rules)) (small _ c.type_inv.bytes))
    (λ is. number-front 84 text (λ _. refl) (λ _ h. h) c.args.bytes.now _ _ _ _ (tagged _ 84 is (search rules)) (first_two _ (search rules)) (small _ c.type_inv.bytes))
    c.in-N-len2-up.is-0

pub returns-in-K-len2-up : goal.returns-in-K-len2-up
returns-in-K-len2-up t c = key-front c.args.bytes.now _ _ _ _ (tagged _ 75 c.in-K-len2-up.is-0 (search rules)) (first_two _ (search rules)) c.if-lesser-greater.true (small _ c.type_inv.bytes)

pub returns-in_err-after-in-P-default : goal.returns-in_err-after-in-P-default
returns-in_err-after-in-P-default t c =
    let e : c.from_residual.result ≡ None = search rules in
    rw e (λ rest b.
    let (second, p, q) = halves _ _ _ (tagged _ 80 c.in-P-default.is-0 (search rules)) b in
    c.in_err-after-in-P-default.ensures second p)

pub returns-in_ok-after-in-P-default : goal.returns-in_ok-after-in-P-default
returns-in_ok-after-in-P-default t c = pair-leaves _ _ _ _ (tagged _ 80 c.in-P-default.is-0 (search rules)) c.in_ok-after-in-P-default.ensures c.after-in-P-default.ensures

pub returns-in-E-len3-up : goal.returns-in-E-len3-up
returns-in-E-len3-up t c =
    seal-leaves _ c.args.bytes.now _ _ _ _ (tagged _ 69 c.in-E-len3-up.is-0 (search rules)) (keyed _ 75 c.if-key-eq75.true (search rules)) c.if-lesser-greater-2.true (small _ c.type_inv.bytes) c.after-in-E-len3-up.ensures

pub returns-in_default-2 : goal.returns-in_default-2
returns-in_default-2 t c rest b =
    elim c.in_default-2.branch [
      | in_default-2-via-in-65+then-body-lt1 w ↦
          let (n, is, e) = at-agent _ _ _ (tagged _ 65 (search rules) (search rules)) b in
          omega (arith, ltb-true, ap length e)
      | in_default-2-via-in-78+then-this-lt2 w ↦
          ⊎_elim
          (λ is. let (n, also, e) = at-nonce _ _ _ (tagged _ 78 is (search rules)) b in omega (arith, ltb-true, ap length e))
          (λ is. let (n, also, e) = at-text _ _ _ (tagged _ 84 is (search rules)) b in omega (arith, ltb-true, ap length e))
          (search rules)
      | in_default-2-via-in-75+then-this-lt2-2 w ↦
          let (x, y, is, order, e) = at_key _ _ _ (tagged _ 75 (search rules) (search rules)) b in
          omega (arith, ltb-true, ap length e)
      | in_default-2-via-in-K-len2-up+else-lesser-greater w ↦
          let (x, y, is, order, e) = at_key _ _ _ (tagged _ 75 w.in-K-len2-up.is-0 (search rules)) b in
          omega (arith, ap (λ l. get_or l 0 0) e, ap (λ l. get_or l 1 0) e, w.if-lesser-greater.false)
      | in_default-2-via-in-69+then-this-lt3 w ↦
          let (x, y, m, is, fits, e) = at-seal _ _ _ (tagged _ 69 (search rules) (search rules)) b in
          omega (arith, ltb-true, ap length e)
      | in_default-2-via-in-E-len3-up+then-key-eq75+else-lesser-greater-2 w ↦
          let (x, y, m, is, fits, e) = at-seal _ _ _ (tagged _ 69 w.in-E-len3-up.is-0 (search rules)) b in
          omega (arith, ap (λ l. get_or l 1 0) e, ap (λ l. get_or l 2 0) e, w.if-lesser-greater-2.false)
      | in_default-2-via-in-E-len3-up+else-key-eq75 w ↦
          let (x, y, m, is, fits, e) = at-seal _ _ _ (tagged _ 69 w.in-E-len3-up.is-0 (search rules)) b in
          w.if-key-eq75.false (ap (λ l. get_or l 0 0) e)
      | in_default-2-via-in_default w ↦ at_other _ _ (search rules) (search rules) (search rules) (search rules) (search rules) (search rules) b
    ]
