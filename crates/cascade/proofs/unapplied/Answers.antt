-- One law for each answer, in the order of the tests.
use Rattle.std.proofs.Common.{◌≡◌, ◌≤◌, false, length, sym, ap, refl, arith, rules, Err}
use denote.Enum.Bare.{sameb, same_true, same_false}
use Rattle.transducer.specs.contracts.Refusal.{the_type}
use Rattle.transducer.specs.Answer.{Refusal, number, written}
use Rattle.transducer.proofs.Numbered.{number_some}
use Rattle.explore.proofs.Refused.{refused_with}
use Rattle.cascade.specs.Entry.{CascadeSays, cascade_refusal}
use Rattle.cascade.proofs.CascadeSays.{says_left, says_right, says_string, says_table, says_origins, says_states, says_large}
use Rattle.cascade.proofs.unapplied.Goals as goal

-- The string's refusal alone is 9.
string_alone : (e : Refusal) → number e ≡ 9 → e ≡ Refusal.Symbols
string_alone Refusal.Symbols is = refl
string_alone e is = absurd (omega arith)

other : (e : Refusal) → false ≡ sameb the_type e Refusal.Symbols → number e ≡ 9 → ⊥
other e not_string is = same_false the_type e Refusal.Symbols (sym not_string) (string_alone e is)

pub returns-then-number : goal.returns-then-number
returns-then-number c = λ left string u. says_left _ _ _ _ _ _ _ u (omega arith) _ refl

pub returns-in_err-ensure_accepted : goal.returns-in_err-ensure_accepted
returns-in_err-ensure_accepted c =
    λ left string u.
    let x = c.args in
    let e = c.in_err-ensure_accepted.field-0.0 in
    let is : c.from_residual.result ≡ Err e = search rules in
    let behind : 9 ≤ number x.refusal = omega arith in
    let says : CascadeSays left x.right.now string
    (cascade_refusal left x.right.now string (length x.table.now) (length x.origins.now) (length x.states.now))
    (written (Err e)) x.table.now x.table.now x.origins.now x.origins.now x.states.now x.states.now =
    says_right _ _ _ _ _ _ _ u behind _ c.in_err-ensure_accepted.ensures (number_some e) _ refl in
    rw is says

pub returns-then-eq : goal.returns-then-eq
returns-then-eq c =
    λ left string u.
    let nine : number c.args.refusal ≡ 9 =
    ap number (same_true the_type (search rules) c.args.refusal Refusal.Symbols (sym c.if-eq.ensures)) in
    says_string _ _ _ _ _ _ _ u (omega arith) (sym c.in_ok-ensure_accepted.ensures) nine _ refl

pub returns-then-table-lt-MAX_BYTES : goal.returns-then-table-lt-MAX_BYTES
returns-then-table-lt-MAX_BYTES c =
    λ left string u.
    says_table _ _ _ _ _ _ _ u (omega arith) (sym c.in_ok-ensure_accepted.ensures) (other _ c.if-eq.ensures) c.if-table-lt-MAX_BYTES.true _ refl

pub returns-then-origins-lt-MAX_ORIGINS : goal.returns-then-origins-lt-MAX_ORIGINS
returns-then-origins-lt-MAX_ORIGINS c =
    λ left string u.
    says_origins _ _ _ _ _ _ _ u (omega arith) (sym c.in_ok-ensure_accepted.ensures) (other _ c.if-eq.ensures)
    c.if-table-lt-MAX_BYTES.false c.if-origins-lt-MAX_ORIGINS.true _ refl

pub returns-then-states-lt-MAX_STATES : goal.returns-then-states-lt-MAX_STATES
returns-then-states-lt-MAX_STATES c =
    λ left string u.
    says_states _ _ _ _ _ _ _ u (omega arith) (sym c.in_ok-ensure_accepted.ensures) (other _ c.if-eq.ensures)
    c.if-table-lt-MAX_BYTES.false c.if-origins-lt-MAX_ORIGINS.false c.if-states-lt-MAX_STATES.true _ refl

pub returns : goal.returns
returns c =
    λ left string u.
    says_large _ _ _ _ _ _ _ u (omega arith) (sym c.in_ok-ensure_accepted.ensures) (other _ c.if-eq.ensures)
    c.if-table-lt-MAX_BYTES.false c.if-origins-lt-MAX_ORIGINS.false c.if-states-lt-MAX_STATES.false _ _ _ _ (refused_with c.refuse.ensures.answer c.refuse.ensures.zeros)
