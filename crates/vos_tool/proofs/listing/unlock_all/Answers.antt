use Rattle.std.proofs.Common.{List, Ok, length, refl, ap, ◌∙◌}
use Rattle.tool_base.specs.Course.{◌>>=◌, gives}
use Rattle.tool_base.proofs.Walking.{ran_broken, ran_is, ran_lacks, ran_then}
use Rattle.vldb_entries.specs.declared.entries.VlEntry.{VlEntry}
use Rattle.vos_tool.specs.Listing.{released_text, releases_each, unlockvldb_text}
use Rattle.vos_tool.proofs.Args.{ran_arg}
use Rattle.vos_tool.proofs.listing.unlock_all.Goals as goal

pub returns-in_err-entries : goal.returns-in_err-entries
unfolding unlockvldb_text
returns-in_err-entries g c =
    ran_broken (λ (es : List VlEntry). releases_each es >>= λ (done : Unit {0}). gives (released_text (length es)))
    c.in_err-entries.field-0.0 c.from_residual.result c.from_residual.ensures.1 refl c.in_err-entries.ensures

pub returns-in_err-release_each : goal.returns-in_err-release_each
unfolding unlockvldb_text
returns-in_err-release_each g c =
    let es = c.as_slice-found.result.now in
    ran_then (λ (es : List VlEntry). releases_each es >>= λ (done : Unit {0}). gives (released_text (length es))) c.in_ok-entries.entries
    refl c.in_ok-entries.ensures
    (ran_arg (λ (es : List VlEntry). releases_each es >>= λ (done : Unit {0}). gives (released_text (length es))) _ _
    c.as_slice-found.ensures
    (ran_broken (λ (done : Unit {0}). gives (released_text (length es))) c.in_err-release_each.field-0.0
    c.from_residual-in_err-release_each.result c.from_residual-in_err-release_each.ensures.1 refl c.in_err-release_each.ensures))

pub returns-in_err-text : goal.returns-in_err-text
unfolding unlockvldb_text
returns-in_err-text g c =
    let es = c.as_slice-found.result.now in
    ran_then (λ (es : List VlEntry). releases_each es >>= λ (done : Unit {0}). gives (released_text (length es))) c.in_ok-entries.entries
    refl c.in_ok-entries.ensures
    (ran_arg (λ (es : List VlEntry). releases_each es >>= λ (done : Unit {0}). gives (released_text (length es))) _ _
    c.as_slice-found.ensures
    (ran_lacks (λ (done : Unit {0}). gives (released_text (length es))) tt c.from_residual-in_err-text.result
    c.from_residual-in_err-text.ensures.1 refl c.in_ok-release_each.ensures))

pub returns : goal.returns
unfolding unlockvldb_text
returns g c =
    let es = c.as_slice-found.result.now in
    ran_then (λ (es : List VlEntry). releases_each es >>= λ (done : Unit {0}). gives (released_text (length es))) c.in_ok-entries.entries
    refl c.in_ok-entries.ensures
    (ran_arg (λ (es : List VlEntry). releases_each es >>= λ (done : Unit {0}). gives (released_text (length es))) _ _
    c.as_slice-found.ensures
    (ran_then (λ (done : Unit {0}). gives (released_text (length es))) tt refl c.in_ok-release_each.ensures
    (ran_is _ _ (Ok (released_text (length es))) _ tt (ap Ok c.in_ok-text.ensures))))
