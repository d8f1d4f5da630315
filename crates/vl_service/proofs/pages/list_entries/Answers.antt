use Rattle.std.proofs.Common.{sym, ◌∙◌, refl}
use Rattle.std.proofs.lemmas.Int.{to_z-of_z}
use Rattle.vl_service.proofs.Paged.{page_meant, page_refused, small_texts}
use Rattle.vl_service.proofs.pages.list_entries.Goals as goal

pub returns-then-not-is_partition-clause-meant : goal.returns-then-not-is_partition-clause-meant
returns-then-not-is_partition-clause-meant g c =
    let fits = c.ranges.partition in
    let test = sym c.is_partition.ensures ∙ c.if-not-is_partition.true in
    page_refused c.args.d.now.bytes c.args.after c.args.host c.args.partition c.args.locked _ (simp to_z-of_z at test) refl

pub tell-requires : goal.tell-requires
tell-requires g c = (c.in_ok-entries.ensures.count, small_texts c.in_ok-entries.entries c.in_ok-entries.ensures.small)

pub returns-clause-meant : goal.returns-clause-meant
returns-clause-meant g c =
    let fits = c.ranges.partition in
    let test = sym c.is_partition.ensures ∙ c.if-not-is_partition.false in
    let found = c.in_ok-entries.ensures.found in
    let here = rw c.listing_of.ensures at found in
    page_meant c.args.d.now.bytes c.args.after c.args.host c.args.partition c.args.locked c.in_ok-entries.entries c.in_ok-end.end
    (simp to_z-of_z at test)
    (simp to_z-of_z at here) c.in_ok-end.ensures.told
