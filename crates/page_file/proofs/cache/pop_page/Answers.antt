use Rattle.std.proofs.Common.{◌∙◌, ℕ, List, ap, sym}
use Rattle.lru.specs.LruCache.{lru_cache}
use Rattle.page_file.proofs.Keeping.{removed, none_left}
use Rattle.page_file.proofs.cache.pop_page.Goals as goal

pub returns-then-len-eq0 : goal.returns-then-len-eq0
returns-then-len-eq0 c =
    let cap : ℕ = c.args.pages.now.cap in
    ap (λ (es : List (ℕ × List ℕ)). lru_cache es cap)
    (sym (none_left _ c.args.pages.now.entries (sym c.len.ensures.len ∙ c.if-len-eq0.true)))

pub returns : goal.returns
returns c =
    let cap : ℕ = c.args.pages.now.cap in
    c.pop.ensures.entries
    ∙ ap (λ (es : List (ℕ × List ℕ)). lru_cache es cap) (removed c.args.page c.args.pages.now.entries c.len.ensures.valid.0)
