use Rattle.std.proofs.Common.{false, refl, sym, ◌∙◌, length, arith}
use borrow.Author.Tests.{eq-eqb, ne_eqb}
use Rattle.octets.specs.Sizes.{table_size}
use Rattle.inspect.proofs.TableTest.{count_fits, by_tests}
use Rattle.inspect.proofs.fits.table_fits.Goals as goal

pub returns-then-t-ne-TABLE_SIZE : goal.returns-then-t-ne-TABLE_SIZE
returns-then-t-ne-TABLE_SIZE c =
    let t = c.args.t.now in
    by_tests t _ refl (λ i. (c.type_inv.t i).fits) false (rw (ne_eqb (length t) table_size (λ e. omega (arith, c.if-t-ne-TABLE_SIZE.true))))

pub returns-then-not-header_fits : goal.returns-then-not-header_fits
returns-then-not-header_fits c =
    let same = c.in-Some.ensures.cases.same in
    by_tests c.args.t.now c.load_record-r.result (rw same at c.load_record-r.ensures) (λ i. (c.type_inv.t i).fits) false
    (rw (eq-eqb _ _ c.if-t-ne-TABLE_SIZE.false, ← c.header_fits.ensures, c.if-not-header_fits.true))

pub records_fit-requires : goal.records_fit-requires
records_fit-requires c =
    let same = c.in-Some.ensures.cases.same in
    rw (c.header_in-h.ensures, ← c.load_record-r.ensures)
    (count_fits c.args.t.now c.load_record-r.result (rw same at c.load_record-r.ensures) c.if-t-ne-TABLE_SIZE.false
    (sym c.header_fits.ensures ∙ c.if-not-header_fits.false))

pub returns : goal.returns
returns c =
    let same = c.in-Some.ensures.cases.same in
    by_tests c.args.t.now c.load_record-r.result (rw same at c.load_record-r.ensures) (λ i. (c.type_inv.t i).fits) _
    (rw (eq-eqb _ _ c.if-t-ne-TABLE_SIZE.false, ← c.header_fits.ensures, c.if-not-header_fits.false)
    (rw (c.header_in-h.ensures, ← c.load_record-r.ensures, same) at c.records_fit.ensures))
