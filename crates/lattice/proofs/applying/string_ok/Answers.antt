-- The test of each symbol in the words of the library, which `string_tested` shows to be that of the string.
use Rattle.std.proofs.Common.{rules, tests, ◌≡◌, length}
use Rattle.std.specs.List.{list_all}
use Rattle.std.proofs.lemmas.Iterator.{YieldsList-from_slice}
use Rattle.std.proofs.lemmas.Iterator.Search.{all_from_yields_List}
use borrow.Author.Tests.{le-leb, lt-leb}
use Rattle.transducer.specs.Format.{max_symbols}
use Rattle.lattice.proofs.Symbols.{symbol_good, string_tested}
use Rattle.lattice.proofs.applying.string_ok.Goals as goal

pub returns-then-string-le-MAX_SYMBOLS : goal.returns-then-string-le-MAX_SYMBOLS
returns-then-string-le-MAX_SYMBOLS c =
    let string = c.args.string.now in
    let each : c.all.result ≡ list_all symbol_good string =
    all_from_yields_List symbol_good _ _ _ c.all.ensures.ran (YieldsList-from_slice string cc) (λ x b q k. search (rules, tests)) in
    rw (string_tested string, le-leb (length string) max_symbols c.if-string-le-MAX_SYMBOLS.true) each

pub returns-else-string-le-MAX_SYMBOLS : goal.returns-else-string-le-MAX_SYMBOLS
returns-else-string-le-MAX_SYMBOLS c =
    let string = c.args.string.now in
    rw (string_tested string, lt-leb (length string) max_symbols c.if-string-le-MAX_SYMBOLS.false)
