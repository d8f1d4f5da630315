-- How what the code keeps stands for what pages know.
use Rattle.std.specs.Prelude.{◌≡◌, IfSome, []}
use Rattle.std.specs.Option.{option_map_or}
use Rattle.page_file.specs.Kept.{Cached}
use Rattle.page_file.specs.Pages.{Known}
use Rattle.page_file.specs.declared.cache.TheConstants.{KEPT_PAGES}
use Rattle.page_file.specs.declared.cache.Cache.TheInside as cache
use Rattle.page_file.specs.declared.pages.Pages.TheInside.{Inside}

abbrev pub known_of : Inside → Known
known_of pages = record { version = pages.version; len = pages.len; cache = pages.cache }

abbrev pub cached_of : cache.Inside → Cached
cached_of it = record { pages = option_map_or (λ pages. pages.entries) it.pages []; left_out = it.left_out }

abbrev pub HasLimit : cache.Inside → Type 0
HasLimit it = IfSome it.pages (λ pages. pages.cap ≡ KEPT_PAGES)
