use Rattle.std.proofs.Common.{◌≡◌, ◌||◌, nat_lt, nat_le}
use Rattle.std.specs.List.{filter}
use Rattle.page_file.proofs.cache.Cache.forget_pages.Given as goal

abbrev pub invariant-loop-page : goal.invariant-loop-page
invariant-loop-page l =
    l.self ≡ record {
      pages = filter
          (λ page. nat_lt page.0 l.first || nat_le l.page page.0) l.initial.self.pages;
      left_out = l.initial.self.left_out;
    }
