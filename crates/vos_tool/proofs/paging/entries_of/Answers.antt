use Rattle.std.proofs.Common.{◌++◌, List, arith, ◌∙◌}
use Rattle.vldb_entries.specs.declared.entries.VlEntry.{VlEntry}
use Rattle.vos_tool.specs.Listing.{pages}
use Rattle.vos_tool.specs.declared.paging.TheConstants.{MOST_PAGES}
use Rattle.vos_tool.proofs.Args.{ran_arg}
use Rattle.vos_tool.proofs.Paged.{page_lacks, page_last, page_next, page_stops, pages_all}
use Rattle.vos_tool.proofs.paging.entries_of.Goals as goal

pub returns-in_err-page : goal.returns-in_err-page
returns-in_err-page g c =
    ran_arg (λ (xs : List VlEntry). pages MOST_PAGES c.args.filter 0 xs) _ _ c.new-found.ensures.items
    (page_stops (pages MOST_PAGES c.args.filter 0 c.new-found.result.items) c.args.filter _ _ _ _ _ _ c.loop.after c.loop.found.items
    MOST_PAGES c.loop.counter c.in_err-page.field-0.0 c.from_residual.result c.loop-test.true c.loop.invariant c.in_err-page.ensures.ran
    c.from_residual.ensures.1)

pub returns-in_err-add_page : goal.returns-in_err-add_page
returns-in_err-add_page g c =
    ran_arg (λ (xs : List VlEntry). pages MOST_PAGES c.args.filter 0 xs) _ _ c.new-found.ensures.items
    (page_lacks (pages MOST_PAGES c.args.filter 0 c.new-found.result.items) c.args.filter _ _ _ _ _ _ c.loop.after c.loop.found.items
    MOST_PAGES c.loop.counter c.in_ok-page.page c.from_residual-in_err-add_page.result c.loop-test.true c.loop.invariant
    c.in_ok-page.ensures.ran c.from_residual-in_err-add_page.ensures.1)

pub returns-then-count : goal.returns-then-count
returns-then-count g c =
    ran_arg (λ (xs : List VlEntry). pages MOST_PAGES c.args.filter 0 xs) _ _ c.new-found.ensures.items
    (page_last (pages MOST_PAGES c.args.filter 0 c.new-found.result.items) c.args.filter _ _ _ _ _ _ c.loop.after c.loop.found.items
    MOST_PAGES c.loop.counter c.in_ok-page.page _ c.loop-test.true c.loop.invariant c.in_ok-page.ensures.ran
    (rw c.as_slice-listed.ensures at c.if-count.true) (c.new.ensures ∙ c.in_ok-add_page.ensures))

pub loop-preserved : goal.loop-preserved
loop-preserved g c =
    page_next (pages MOST_PAGES c.args.filter 0 c.new-found.result.items) c.args.filter _ _ _ _ _ _ c.loop.after c.last_id-last.result
    c.loop.found.items MOST_PAGES c.loop.counter c.in_ok-page.page _ c.loop-test.true c.loop.invariant c.in_ok-page.ensures.ran
    (rw c.as_slice-listed.ensures at c.if-count.false) (rw c.as_slice-listed.ensures at c.last_id-last.ensures) c.in_ok-add_page.ensures

pub returns : goal.returns
returns g c =
    ran_arg (λ (xs : List VlEntry). pages MOST_PAGES c.args.filter 0 xs) _ _ c.new-found.ensures.items
    (rw c.new-2.ensures (pages_all
    (pages MOST_PAGES c.args.filter 0 c.new-found.result.items) c.args.filter _ _ _ _ c.loop.after c.loop.found.items MOST_PAGES
    c.loop.counter (omega arith) c.loop.invariant))
