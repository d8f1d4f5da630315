use Rattle.std.proofs.Common.{◌≡◌, ◌∙◌, Option, IfSome, List, ℕ, length, take, drop, ap, sym, subst, arith}
use Rattle.std.specs.Option.{is_some}
use Rattle.lru.specs.LruCache.{lru_cache}
use Rattle.page_file.proofs.Keeping.{in_front, not_brought}
use Rattle.page_file.proofs.cache.copy_page.Goals as goal

pub returns-in-Some-clause-found : goal.returns-in-Some-clause-found
returns-in-Some-clause-found c =
    let first = in_front c.args.pages.now.entries c.args.page c.in-Some.bytes.now c.in-Some.ensures in
    sym (ap is_some first.found)

pub returns-in-Some-clause-bytes : goal.returns-in-Some-clause-bytes
returns-in-Some-clause-bytes c =
    let first = in_front c.args.pages.now.entries c.args.page c.in-Some.bytes.now c.in-Some.ensures in
    subst (λ (o : Option (List ℕ)). IfSome o
    (λ bytes. c.copy_from_slice.new.self ≡ take (length c.args.out.now) (drop c.args.from bytes))) (sym first.found)
    (c.copy_from_slice.ensures.after ∙ ap (λ (n : ℕ). take n (drop c.args.from c.in-Some.bytes.now)) (omega arith))

pub returns-in-Some-clause-front : goal.returns-in-Some-clause-front
returns-in-Some-clause-front c =
    let first = in_front c.args.pages.now.entries c.args.page c.in-Some.bytes.now c.in-Some.ensures in
    λ _. sym (ap (λ (es : List (ℕ × List ℕ)). lru_cache es c.args.pages.now.cap) first.front)

pub returns-in-None-clause-same : goal.returns-in-None-clause-same
returns-in-None-clause-same c =
    let stays = not_brought c.args.page c.args.pages.now.entries (sym c.in-None.ensures.value) in
    λ _. c.get.follows.holds-at-none ∙ ap (λ (es : List (ℕ × List ℕ)). lru_cache es c.args.pages.now.cap) stays
