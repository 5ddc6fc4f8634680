-- The limits of paper 01, and the tests of numbers against them. Assumes nothing: these are definitions.
use Rattle.std.specs.Prelude.{Bool, ◌&&◌, not, cond, ℕ, ◌+◌, ◌*◌, ◌-◌, ltb, leb, eqb, ℤ, pos, negsuc}
use Rattle.std.specs.Int.Signed.{le_z}

-- The limits of paper 01.
abbrev pub max_states : ℕ
max_states = 1024

abbrev pub max_arcs : ℕ
max_arcs = 3072

-- An index by state has one entry more than there are states.
abbrev pub index_long : ℕ
index_long = max_states + 1

-- How far a weight may be from zero.
abbrev pub weight_limit : ℕ
weight_limit = 1000000

abbrev pub max_weight : ℤ
max_weight = pos weight_limit

-- Of this size below zero: `negsuc n` is -(n + 1).
abbrev pub min_weight : ℤ
min_weight = negsuc (weight_limit - 1)

-- The longest string, the longest accepting path where there are finitely many, and where counting stops.
abbrev pub max_symbols : ℕ
max_symbols = 64

abbrev pub max_path : ℕ
max_path = max_states - 1

abbrev pub max_count : ℕ
max_count = 99

-- Four fields to an arc, and two origins to a composed arc.
abbrev pub max_fields : ℕ
max_fields = 4 * max_arcs

abbrev pub max_origins : ℕ
max_origins = 2 * max_arcs

-- The bytes of a head's, a final's and an arc's record, and where the arcs begin behind a number of finals.
abbrev pub head_bytes : ℕ
head_bytes = 12

abbrev pub final_bytes : ℕ
final_bytes = 10

abbrev pub arc_bytes : ℕ
arc_bytes = 16

abbrev pub arcs_at : (finals : ℕ) → ℕ
arcs_at f = head_bytes + final_bytes * f

-- The length of the largest transducer.
abbrev pub max_bytes : ℕ
max_bytes = arcs_at max_states + arc_bytes * max_arcs

-- No symbol: strings may not hold it.
abbrev pub barred : ℕ
barred = 65535

-- As an input it fits any symbol that no arc of its state names, as an output it passes on the symbol read (paper 02, Points 5 and 6).
abbrev pub any : ℕ
any = barred

-- 3: the head's numbers are in range
unfoldable pub head_good : (states arcs finals start : ℕ) → Bool
head_good n m f s = (leb 1 n && leb n max_states) && (leb m max_arcs && (leb f n && ltb s n))

-- 7: whether an arc may bear these two labels, of 16 bits: only one that reads any symbol passes it on.
unfoldable pub labels_good : (input output : ℕ) → Bool
labels_good input output = cond (eqb input any) (leb output any) (ltb input any && ltb output any)

-- 8: whether a weight is in range.
unfoldable pub weight_good : ℤ → Bool
weight_good w = le_z min_weight w && le_z w max_weight

-- The first of four tests that fails, as refusal 5, 6, 7 or 8; 0 where none does.
unfoldable pub first_of : (states order labels weights : Bool) → ℕ
first_of a b c d = cond (not a) 5 (cond (not b) 6 (cond (not c) 7 (cond (not d) 8 0)))
