-- One call after the other, each answer with its law in `CountString`.
use Rattle.std.proofs.Common.{◌≡◌, ◌∙◌, true, sym, refl, rules, Err, length-take-le}
use Rattle.wire.specs.Bytes.{Bytes}
use Rattle.transducer.specs.Format.{decode}
use Rattle.transducer.proofs.Numbered.{number_some}
use Rattle.lattice.specs.Apply.{string_good}
use Rattle.lookup.specs.Answer.{count_of}
use Rattle.lookup.specs.Lookup.{CountStringSays}
use Rattle.lookup.proofs.CountString.{bad_string_says, unbuilt_says, put_fits, put_accepted, endless_says, counted_says}
use Rattle.lookup.proofs.count_string.Goals as goal

pub returns-then-not-string_ok : goal.returns-then-not-string_ok
returns-then-not-string_ok c =
    bad_string_says c.args.string.now (decode c.args.table.now) (sym c.if-not-string_ok.true ∙ c.string_ok.ensures) _ refl c.args.lattice.now

pub returns-in_err-len : goal.returns-in_err-len
returns-in_err-len c =
    let x = c.args in
    let bytes : Bytes x.table.now = λ i. (c.type_inv.table i).fits in
    let good : true ≡ string_good x.string.now = sym c.if-not-string_ok.false ∙ c.string_ok.ensures in
    let e = c.in_err-len.field-0.0 in
    let is : c.from_residual.result ≡ Err e = search rules in
    let says : CountStringSays x.string.now (decode x.table.now) (count_of (Err e)) c.apply_into.new.lattice =
    unbuilt_says _ _ bytes c.requires.table.accepted good _ _ _ _ _ _ _ c.in_err-len.ensures (number_some e) _ refl in
    rw is says

pub slice_bounds-count_accepted-end : goal.slice_bounds-count_accepted-end
slice_bounds-count_accepted-end c =
    let bytes : Bytes c.args.table.now = λ i. (c.type_inv.table i).fits in
    let good : true ≡ string_good c.args.string.now = sym c.if-not-string_ok.false ∙ c.string_ok.ensures in
    put_fits _ _ bytes c.requires.table.accepted good _ _ _ _ _ _ _ c.in_ok-len.ensures refl

pub slice_bounds-count_accepted-end-2 : goal.slice_bounds-count_accepted-end-2
slice_bounds-count_accepted-end-2 c =
    let bytes : Bytes c.args.table.now = λ i. (c.type_inv.table i).fits in
    let good : true ≡ string_good c.args.string.now = sym c.if-not-string_ok.false ∙ c.string_ok.ensures in
    sym (length-take-le _ _ (put_fits _ _ bytes c.requires.table.accepted good _ _ _ _ _ _ _ c.in_ok-len.ensures refl))

pub count_accepted-requires : goal.count_accepted-requires
count_accepted-requires c =
    let bytes : Bytes c.args.table.now = λ i. (c.type_inv.table i).fits in
    let good : true ≡ string_good c.args.string.now = sym c.if-not-string_ok.false ∙ c.string_ok.ensures in
    put_accepted _ _ bytes c.requires.table.accepted good _ _ _ _ _ _ _ c.in_ok-len.ensures refl

pub returns-in_err-count : goal.returns-in_err-count
returns-in_err-count c =
    let x = c.args in
    let bytes : Bytes x.table.now = λ i. (c.type_inv.table i).fits in
    let good : true ≡ string_good x.string.now = sym c.if-not-string_ok.false ∙ c.string_ok.ensures in
    let e = c.in_err-count.field-0.0 in
    let is : c.from_residual-in_err-count.result ≡ Err e = search rules in
    let says : CountStringSays x.string.now (decode x.table.now) (count_of (Err e)) c.apply_into.new.lattice =
    endless_says _ _ bytes c.requires.table.accepted good _ _ _ _ _ _ _ c.in_ok-len.ensures refl _ c.in_err-count.ensures (number_some e) _ refl in
    rw is says

pub returns : goal.returns
returns c =
    let bytes : Bytes c.args.table.now = λ i. (c.type_inv.table i).fits in
    let good : true ≡ string_good c.args.string.now = sym c.if-not-string_ok.false ∙ c.string_ok.ensures in
    counted_says _ _ bytes c.requires.table.accepted good _ _ _ _ _ _ _ c.in_ok-len.ensures refl _ c.in_ok-count.ensures refl
