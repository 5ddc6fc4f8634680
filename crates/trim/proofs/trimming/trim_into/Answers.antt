-- The head, the new numbers, and either the start alone or what is kept: each call says what it leaves, and the laws of `TrimSays` put it together.
use Rattle.std.proofs.Common.{◌≡◌, ℕ, ◌<◌, ◌≤◌, List, length, refl, ◌∙◌, arith, Fits, w8, get_or}
use Rattle.wire.specs.Bytes.{cleared}
use Rattle.transducer.specs.Format.{max_states, max_arcs, decode, refusal}
use Rattle.transducer.specs.declared.Head.{Head}
use Rattle.transducer.specs.Accepted.{head_in}
use Rattle.transducer.proofs.Headed.{Headed, headed, headed_opened, head_inside}
use Rattle.reach.proofs.Sized.{slice_bytes}
use Rattle.trim.specs.Trim.{arc_useful, moved, kept_arcs, kept_finals}
use Rattle.trim.proofs.Passing.{passing_few}
use Rattle.trim.proofs.Running.{index_no, index_yes}
use Rattle.trim.proofs.TrimSays.{length_kept_finals, index_at, trims_lone, trims_kept}
use Rattle.trim.proofs.trimming.trim_into.Goals as goal

-- What the head of accepted bytes says.
of_head : {bs : List ℕ} {h : Head} → ((i : ℕ) → Fits w8 (get_or bs i 0)) → refusal bs ≡ 0 → h ≡ head_in bs → Headed bs h
of_head {bs} {h} fits ok e = headed bs (slice_bytes bs fits) ok h e

start_below : {bs : List ℕ} {h : Head} → Headed bs h → h.start < (decode bs).states
start_below k = omega (arith, k.start_inside, k.states_are)

-- No more is kept than there was, so it fits.
few_finals : {bs : List ℕ} {h : Head} (f : ℕ) → Headed bs h → f ≡ length (kept_finals (decode bs) (decode bs).finals) → f ≤ max_states
few_finals {bs} f k e = omega (arith, e, length_kept_finals (decode bs) (decode bs).finals, k.finals_long, k.few_finals)

few_arcs : {bs : List ℕ} {h : Head} (m : ℕ) → Headed bs h → m ≡ length (kept_arcs (decode bs) (decode bs).arcs) → m ≤ max_arcs
few_arcs {bs} m k e = omega (arith, e, passing_few (arc_useful (decode bs)) (moved (decode bs)) (decode bs).arcs, k.arcs_are, k.few_arcs)

pub header-head-requires : goal.header-head-requires
header-head-requires c = head_inside c.args.table.now (slice_bytes _ c.type_inv.table) c.requires.0

pub arcs_at-first-requires : goal.arcs_at-first-requires
arcs_at-first-requires c =
    let k = of_head c.type_inv.table c.requires.0 c.header-head.ensures in
    omega (arith, k.few_finals)

pub renumber-index-requires : goal.renumber-index-requires
renumber-index-requires c =
    let k = of_head c.type_inv.table c.requires.0 c.header-head.ensures in
    (headed_opened _ _ _ k c.arcs_at-first.ensures, k.states_are, k.arcs_are, k.finals_are, k.start_is, k.few_states, c.requires.3)

pub bounds-index-start : goal.bounds-index-start
bounds-index-start c =
    let k = of_head c.type_inv.table c.requires.0 c.header-head.ensures in
    omega (arith, k.start_below)

pub bounds-index-start-2 : goal.bounds-index-start-2
bounds-index-start-2 c =
    let k = of_head c.type_inv.table c.requires.0 c.header-head.ensures in
    omega (arith, k.start_below)

pub returns-then-index-start : goal.returns-then-index-start
unfolding cleared
returns-then-index-start c =
    let k = of_head c.type_inv.table c.requires.0 c.header-head.ensures in
    let h = c.header-head.result in
    trims_lone (decode c.args.table.now) c.args.out.now c.args.origins.now h.start _ k.start_is
    (index_no c.renumber-index.ensures h.start (start_below k) c.if-index-start.true) refl
    (omega (arith, c.requires.1)) c.put_head.ensures c.clear.ensures c.clear-then-index-start.ensures

pub put_finals-finals-requires : goal.put_finals-finals-requires
put_finals-finals-requires c =
    let k = of_head c.type_inv.table c.requires.0 c.header-head.ensures in
    (c.requires.0, k.finals_are, c.renumber-index.ensures, omega (arith, k.few_finals, c.requires.1))

pub arcs_at-at-requires : goal.arcs_at-at-requires
arcs_at-at-requires c =
    let k = of_head c.type_inv.table c.requires.0 c.header-head.ensures in
    omega (arith, few_finals _ k c.put_finals-finals.ensures.0)

pub put_arcs-arcs-requires : goal.put_arcs-arcs-requires
put_arcs-arcs-requires c =
    let k = of_head c.type_inv.table c.requires.0 c.header-head.ensures in
    let few = few_finals _ k c.put_finals-finals.ensures.0 in (
      headed_opened _ _ _ k c.arcs_at-first.ensures,
      k.arcs_are,
      c.renumber-index.ensures,
      omega (arith, few, k.few_arcs, c.arcs_at-at.ensures, c.requires.1, c.put_finals-finals.auto.out),
      omega (arith, k.few_arcs, c.requires.2),
    )

pub overflow_mul-end : goal.overflow_mul-end
overflow_mul-end c =
    let k = of_head c.type_inv.table c.requires.0 c.header-head.ensures in
    omega (arith, few_arcs _ k c.put_arcs-arcs.ensures.count_is)

pub overflow_add-end : goal.overflow_add-end
overflow_add-end c =
    let k = of_head c.type_inv.table c.requires.0 c.header-head.ensures in
    let few = few_finals _ k c.put_finals-finals.ensures.0 in
    omega (arith, few, few_arcs _ k c.put_arcs-arcs.ensures.count_is, c.arcs_at-at.ensures)

pub bounds-index-n : goal.bounds-index-n
bounds-index-n c =
    let k = of_head c.type_inv.table c.requires.0 c.header-head.ensures in
    omega (arith, k.few_states)

pub overflow_cast-arcs : goal.overflow_cast-arcs
overflow_cast-arcs c =
    let k = of_head c.type_inv.table c.requires.0 c.header-head.ensures in
    omega (arith, few_arcs _ k c.put_arcs-arcs.ensures.count_is)

pub overflow_cast-finals : goal.overflow_cast-finals
overflow_cast-finals c =
    let k = of_head c.type_inv.table c.requires.0 c.header-head.ensures in
    omega (arith, few_finals _ k c.put_finals-finals.ensures.0)

pub clear-requires-2 : goal.clear-requires-2
clear-requires-2 c =
    let k = of_head c.type_inv.table c.requires.0 c.header-head.ensures in
    let few = few_finals _ k c.put_finals-finals.ensures.0 in
    let arcs = few_arcs _ k c.put_arcs-arcs.ensures.count_is in
    omega (arith, few, arcs, c.arcs_at-at.ensures, c.requires.1, c.put_finals-finals.auto.out, c.put_arcs-arcs.auto.out, c.put_head-2.auto.out)

pub clear-requires-3 : goal.clear-requires-3
clear-requires-3 c =
    let k = of_head c.type_inv.table c.requires.0 c.header-head.ensures in
    omega (arith, few_arcs _ k c.put_arcs-arcs.ensures.count_is, c.requires.2, c.put_arcs-arcs.auto.origins)

pub returns : goal.returns
unfolding cleared
returns c =
    let k = of_head c.type_inv.table c.requires.0 c.header-head.ensures in
    let t = decode c.args.table.now in
    let h = c.header-head.result in
    let index = c.renumber-index.ensures in
    let few = few_finals _ k c.put_finals-finals.ensures.0 in
    let arcs = few_arcs _ k c.put_arcs-arcs.ensures.count_is in
    let start_under : t.start ≤ t.states = omega (arith, k.start_is, start_below k) in
    trims_kept t c.args.out.now c.args.origins.now h.start _ _ _ _ _ k.start_is
    (index_yes index h.start (start_below k) c.if-index-start.false)
    (index_at index h.states t.states k.states_are (omega arith))
    (c.new_number.ensures ∙ index_at index h.start t.start k.start_is start_under)
    c.put_finals-finals.ensures.0 c.arcs_at-at.ensures (omega (arith, few, arcs, c.arcs_at-at.ensures, c.requires.1)) (omega (arith, arcs, c.requires.2))
    c.put_finals-finals.ensures.1 c.put_arcs-arcs.ensures c.put_head-2.ensures c.clear-2.ensures c.clear-3.ensures
