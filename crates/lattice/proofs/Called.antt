-- What a call of `apply` leaves behind where it is not refused: the bytes of the lattice, the origins of its arcs, and the transducer in those bytes; and
-- the number that refuses it where enough is lent. Assumes nothing.
use mathlib.Core.Path.{◌≡◌, refl, sym, ap, ◌∙◌}
use mathlib.Core.Bool.{true, cond}
use mathlib.Core.List.{List, []}
use Prim.Native.Nat.{ℕ, ◌≤◌}
use native.Mathlib.Omega.{arith}
use borrow.Author.Tests.{le-ltb}
use lib.ListN.{length, length-take, replicate, length-replicate}
use Rattle.wire.specs.Bytes.{filled}
use Rattle.wire.proofs.Bool.{passed_last}
use Rattle.wire.proofs.Places.{take_told}
use Rattle.transducer.specs.Answer.{Written}
use Rattle.transducer.specs.Format.{max_states, max_arcs, max_bytes, Transducer, Good, refusal, decode}
use Rattle.transducer.specs.Encode.{encode}
use Rattle.transducer.specs.Path.{accepts}
use Rattle.transducer.specs.Each.{path_fits}
use Rattle.transducer.specs.Entry.{or_else, unless}
use Rattle.transducer.proofs.Answers.{or_else_none, unless_none}
use Rattle.transducer.proofs.RoundTrip.{accepted_good}
use Rattle.explore.specs.Explore.{built_refusal, left_behind}
use Rattle.explore.proofs.LeftBehind.{behind_written}
use Rattle.trim.specs.Trim.{through}
use Rattle.lattice.specs.Apply.{string_good, applied}
use Rattle.lattice.specs.Lattice.{lattice, lattice_origins, ReadsAs, ReadsOneToOne}
use Rattle.lattice.specs.Application.{Application, lattice_bytes, Answered, ApplicationClaim}
use Rattle.lattice.specs.ApplyEntry.{apply_room, apply_refusal, application_refusal, ApplySays}
use Rattle.lattice.proofs.LatticeGood.{lattice_good, refusal_lattice, decode_lattice}
use Rattle.lattice.proofs.LatticeLaw.{through_filled, lattice_one_to_one}

-- The number

-- The string is good, and the lattice before trimming is within the bounds.
pub record Appliable (cs : List ℕ) (t : Transducer) : Type 0 where
  pub string : string_good cs ≡ true
  pub fine : built_refusal (applied cs t).result ≡ 0

pub unrefused_appliable : (cs : List ℕ) (t : Transducer) → application_refusal cs t ≡ 0 → Appliable cs t
unfolding application_refusal
unrefused_appliable cs t none =
    let both = or_else_none (cond (string_good cs) 0 9) (built_refusal (applied cs t).result) none in
    record { string = passed_last (string_good cs) 8 both.0; fine = both.1 }

module _ (cs bs : List ℕ) (a b c : ℕ) where
  pub apply_number : refusal bs ≡ 0 → max_bytes ≤ a → max_arcs ≤ b → max_states ≤ c → apply_refusal cs bs a b c ≡ application_refusal cs (decode bs)
  unfolding apply_refusal apply_room application_refusal or_else
  apply_number ok la lb lc = rw (ok, le-ltb a max_bytes la, le-ltb b max_arcs lb, le-ltb c max_states lc)

  none_appliable : apply_refusal cs bs a b c ≡ 0 → (refusal bs ≡ 0) × Appliable cs (decode bs)
  unfolding apply_refusal application_refusal
  none_appliable none =
      let last : ℕ = built_refusal (applied cs (decode bs)).result in
      let one = or_else_none (refusal bs) (or_else (cond (string_good cs) 0 9) (or_else (apply_room a b c) last)) none in
      let two = or_else_none (cond (string_good cs) 0 9) (or_else (apply_room a b c) last) one.1 in
      let three = or_else_none (apply_room a b c) last two.1 in
      (one.0, record { string = passed_last (string_good cs) 8 two.0; fine = three.1 })

-- A call that was lent enough, refused or not.
pub record AppliedCall (cs bs : List ℕ) (r : Written) (a a' b b' c c' : List ℕ) : Type 0 where
  pub lattice_room : max_bytes ≤ length a
  pub origins_room : max_arcs ≤ length b
  pub pairs_room : max_states ≤ length c
  pub says : ApplySays cs bs (apply_refusal cs bs (length a) (length b) (length c)) r a a' b b' c c'

-- Arrays of zeros that are as long as the call asks.
pub applied_in_arrays : (cs bs : List ℕ) {r : Written} {a' b' c' : List ℕ}
    → let a : List ℕ = replicate max_bytes 0 in
    let b : List ℕ = replicate max_arcs 0 in
    let c : List ℕ = replicate max_states 0 in
    ApplySays cs bs (apply_refusal cs bs (length a) (length b) (length c)) r a a' b b' c c' → AppliedCall cs bs r a a' b b' c c'
applied_in_arrays cs bs says =
    record {
      lattice_room = omega (arith, length-replicate {A = ℕ} max_bytes 0);
      origins_room = omega (arith, length-replicate {A = ℕ} max_arcs 0);
      pairs_room = omega (arith, length-replicate {A = ℕ} max_states 0);
      says = says;
    }

module _ {cs bs : List ℕ} {r : Written} {a a' b b' c c' : List ℕ} (x : AppliedCall cs bs r a a' b b' c c') where
  pub applied_number : refusal bs ≡ 0 → r.refusal ≡ application_refusal cs (decode bs)
  applied_number ok =
      x.says.refusal_is ∙ apply_number cs bs (length a) (length b) (length c) ok x.lattice_room x.origins_room x.pairs_room

  abbrev pub application_of : r.refusal ≡ 0 → Application cs bs
  application_of well =
      record {
        answer = r;
        lattice = a;
        lattice_left = a';
        origins = b;
        origins_left = b';
        pairs = c;
        pairs_left = c';
        says = x.says;
        well = well;
      }

-- What it leaves

module _ {cs bs : List ℕ} (x : Application cs bs) where
  abbrev number : ℕ
  number = apply_refusal cs bs (length x.lattice) (length x.origins) (length x.pairs)

  none : number ≡ 0
  none = sym x.says.refusal_is ∙ x.well

  pub table_good : refusal bs ≡ 0
  table_good = (none_appliable cs bs (length x.lattice) (length x.origins) (length x.pairs) none).0

  pub appliable : Appliable cs (decode bs)
  appliable = (none_appliable cs bs (length x.lattice) (length x.origins) (length x.pairs) none).1

  len_told : x.answer.len ≡ length (encode (lattice cs (decode bs)))
  len_told = x.says.len_is ∙ unless_none number (length (encode (lattice cs (decode bs)))) none

  pub lattice_bytes_are : lattice_bytes x ≡ encode (lattice cs (decode bs))
  lattice_bytes_are =
      take_told x.answer.len (length x.lattice) (encode (lattice cs (decode bs))) x.lattice_left len_told
      (x.says.table ∙ behind_written x.lattice (encode (lattice cs (decode bs))) number none)

  -- What is handed on lies within the buffer.
  pub applied_fits : x.answer.len ≤ length x.lattice_left
  applied_fits = omega (arith, length-take x.answer.len x.lattice_left, ap length lattice_bytes_are, len_told)

  pub lattice_origins_are : x.origins_left ≡ filled (length x.origins) (lattice_origins cs (decode bs))
  lattice_origins_are = x.says.origins ∙ behind_written x.origins (lattice_origins cs (decode bs)) number none

-- Zeros behind the origins lead nowhere else.
reads_filled : (cs : List ℕ) (z w : Transducer) (ls ls' : List ℕ) (room : ℕ) → ls' ≡ filled room ls → ReadsOneToOne cs z w ls → ReadsOneToOne cs z w ls'
reads_filled cs z w ls ls' room is one = record { leads = leads; never_two = never_two; every = every }
  where
    same : (p : List ℕ) → through ls' p ≡ through ls p
    same p = ap (λ (o : List ℕ). through o p) is ∙ through_filled room ls p

    leads : (p : List ℕ) → accepts w p ≡ true → ReadsAs cs z w p (through ls' p)
    leads p h = rw (same p) (one.leads p h)

    never_two : (p q : List ℕ) → accepts w p ≡ true → accepts w q ≡ true → through ls' p ≡ through ls' q → p ≡ q
    never_two p q h k e = one.never_two p q h k (sym (same p) ∙ e ∙ same q)

    every : (x : List ℕ) → accepts z x ≡ true → path_fits z cs x ≡ true → (p : List ℕ) × (accepts w p ≡ true) × (through ls' p ≡ x)
    every x h e = let r = one.every x h e in (r.0, r.1, same r.0 ∙ r.2)

-- The transducer in what is handed on.
module _ {cs bs : List ℕ} (good : Good (decode bs)) (x : Application cs bs) where
  pub applied_read : decode (lattice_bytes x) ≡ lattice cs (decode bs)
  applied_read = ap decode (lattice_bytes_are x) ∙ decode_lattice cs (decode bs) good (appliable x).string (appliable x).fine

  pub applied_good : Good (decode (lattice_bytes x))
  applied_good = rw applied_read (lattice_good cs (decode bs) good (appliable x).string (appliable x).fine)

  pub applied_accepted : refusal (lattice_bytes x) ≡ 0
  applied_accepted = rw (lattice_bytes_are x) (refusal_lattice cs (decode bs) good (appliable x).string (appliable x).fine)

  pub applied_reads : ReadsOneToOne cs (decode bs) (decode (lattice_bytes x)) x.origins_left
  applied_reads =
      reads_filled cs (decode bs) (decode (lattice_bytes x)) (lattice_origins cs (decode bs)) x.origins_left (length x.origins)
      (lattice_origins_are x) (rw applied_read (lattice_one_to_one cs (decode bs) good (appliable x).string (appliable x).fine))

pub application_claimed : {string table : List ℕ} (x : Answered string table) → ApplicationClaim x
application_claimed {string} {table} x = applied_reads (accepted_good table x.bytes (table_good x.call)) x.call

-- There are such calls: whatever is lent, if it is long enough.
module _ (t o s : List ℕ) (long_t : max_bytes ≤ length t) (long_o : max_arcs ≤ length o) (long_s : max_states ≤ length s) where
  pub some_application : (cs bs : List ℕ) → refusal bs ≡ 0 → application_refusal cs (decode bs) ≡ 0 → Application cs bs
  unfolding unless
  some_application cs bs ok none =
      record {
        answer = record { refusal = 0; len = length (encode (lattice cs (decode bs))) };
        lattice = t;
        lattice_left = left_behind 0 t (encode (lattice cs (decode bs)));
        origins = o;
        origins_left = left_behind 0 o (lattice_origins cs (decode bs));
        pairs = s;
        pairs_left = left_behind 0 s [];
        says =
            rw (apply_number cs bs (length t) (length o) (length s) ok long_t long_o long_s, none)
            (record { refusal_is = refl; len_is = refl; table = refl; origins = refl; work = refl });
        well = refl;
      }
