use Rattle.std.proofs.Common.{◌∙◌, ℕ, List, ap, sym}
use Rattle.page_file.proofs.Keeping.{apart_pages, apart_none}
use Rattle.page_file.proofs.cache.Cache.forget.Goals as goal

pub returns-then-from-to : goal.returns-then-from-to
returns-then-from-to c =
    let left : ℕ = c.args.self.now.left_out in
    c.forget_pages.ensures
    ∙ ap (λ (es : List (ℕ × List ℕ)). record { pages = es; left_out = left })
    (apart_pages c.args.from c.args.to c.args.self.now.pages c.if-from-to.true)

pub returns-else-from-to : goal.returns-else-from-to
returns-else-from-to c =
    let left : ℕ = c.args.self.now.left_out in
    ap (λ (es : List (ℕ × List ℕ)). record { pages = es; left_out = left })
    (sym (apart_none c.args.from c.args.to c.args.self.now.pages c.if-from-to.false))
