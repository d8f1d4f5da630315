use Rattle.std.proofs.Common.{Ok, Err, refl, arith, ◌∙◌, rules}
use Rattle.std.specs.Prelude.{FitsSigned}
use Rattle.std.specs.Int.{w32}
use Rattle.std.proofs.lemmas.Int.{to_z-of_z}
use Rattle.tool_base.proofs.Walking.{ran_err}
use Rattle.pts_tool.specs.declared.listing.TheConstants.{MOST_PAGES}
use Rattle.pts_tool.proofs.Paged.{page_last, page_next, page_short, page_stop, pages_all}
use Rattle.pts_tool.proofs.listing.list_pages.Goals as goal

pub returns-in_err-page : goal.returns-in_err-page
returns-in_err-page g c =
    ran_err c.in_err-page.field-0.0 c.from_residual.result c.from_residual.ensures.1
    (page_stop _ MOST_PAGES c.loop.counter c.args.kinds _ c.loop.text _ _ _ _ _ _ c.in_err-page.field-0.0 _ c.loop-test.true
    c.loop.invariant c.in_err-page.ensures (search rules))

pub returns-in_err-text : goal.returns-in_err-text
returns-in_err-text g c =
    ran_err _ c.from_residual-in_err-text.result c.from_residual-in_err-text.ensures.1
    (page_short _ MOST_PAGES c.loop.counter c.args.kinds _ c.loop.text _ _ _ _ _ _ c.in_ok-page.page _ c.loop-test.true c.loop.invariant
    c.in_ok-page.ensures (search rules))

pub returns-then-as_slice : goal.returns-then-as_slice
returns-then-as_slice g c =
    page_last _ MOST_PAGES c.loop.counter c.args.kinds _ c.loop.text _ _ _ _ _ _ _ c.in_ok-page.page _ c.loop-test.true
    (rw c.as_slice-in-loop.ensures at c.if-as_slice.true)
    (rw c.as_slice.ensures at c.in_ok-text.ensures) c.loop.invariant c.in_ok-page.ensures (search rules)

pub loop-preserved : goal.loop-preserved
loop-preserved g c =
    let fits : FitsSigned w32 c.last_id-after.result = search rules in
    page_next _ MOST_PAGES c.loop.counter c.args.kinds _ _ c.loop.text _ _ _ _ _ _ _ c.in_ok-page.page _ c.loop-test.true
    (rw c.as_slice-in-loop.ensures at c.if-as_slice.false) (rw c.as_slice.ensures at c.in_ok-text.ensures)
    (to_z-of_z w32 c.last_id-after.result fits
    ∙ (rw c.as_slice-in-loop-2.ensures at c.last_id-after.ensures)) c.loop.invariant c.in_ok-page.ensures (search rules)

pub returns : goal.returns
returns g c =
    pages_all _ MOST_PAGES c.loop.counter c.args.kinds _ c.loop.text _ _ _ _ (omega arith) c.loop.invariant
