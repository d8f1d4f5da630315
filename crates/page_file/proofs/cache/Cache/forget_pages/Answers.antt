use Rattle.std.proofs.Common.{◌+◌, ◌||◌, ◌∙◌, ℕ, List, nat_lt, nat_le, ap, sym}
use Rattle.std.specs.List.{filter}
use Rattle.page_file.specs.Kept.{Cached}
use Rattle.page_file.proofs.Keeping.{outside_all, outside_more}
use Rattle.page_file.proofs.cache.Cache.forget_pages.Goals as goal

pub loop-page-init : goal.loop-page-init
loop-page-init c =
    let left : ℕ = c.args.self.now.left_out in
    ap (λ (es : List (ℕ × List ℕ)). record { pages = es; left_out = left }) (sym (outside_all c.args.first c.args.self.now.pages))

pub loop-page-preserved : goal.loop-page-preserved
loop-page-preserved c =
    let left : ℕ = c.args.self.now.left_out in
    let page : ℕ = c.loop-page.page in
    c.forget_page.ensures
    ∙ ap (λ (s : Cached).
    record { pages = filter (λ other. nat_lt other.0 page || nat_le (page + 1) other.0) s.pages; left_out = s.left_out })
    c.loop-page.invariant
    ∙ ap (λ (es : List (ℕ × List ℕ)). record { pages = es; left_out = left })
    (outside_more c.args.first page c.args.self.now.pages c.loop-page.auto.page)
