use Rattle.std.proofs.Common.{◌∷◌, ◌-◌, ◌∙◌, ℕ, List, take, ap}
use Rattle.lru.specs.LruCache.{lru_cache}
use Rattle.page_file.proofs.Keeping.{put_new}
use Rattle.page_file.proofs.cache.put_page.Goals as goal

pub returns-in-Ok-clause-put : goal.returns-in-Ok-clause-put
returns-in-Ok-clause-put c =
    let old = c.args.pages.now in
    c.in-Ok.ensures.entries
    ∙ ap (λ (es : List (ℕ × List ℕ)). lru_cache es old.cap)
    (put_new old.entries old.cap c.args.page c.args.bytes c.requires.new
    ∙ ap (λ (n : ℕ). (c.args.page, c.args.bytes) ∷ take (n - 1) old.entries) c.requires.limit)
