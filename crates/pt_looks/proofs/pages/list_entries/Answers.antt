use Rattle.std.proofs.Common.{sym, ◌∙◌, refl}
use Rattle.std.proofs.lemmas.Int.{to_z-of_z}
use Rattle.pt_looks.proofs.Ended.{page_ends, page_refused}
use Rattle.pt_looks.proofs.Spelled.{entries_len, entries_text}
use Rattle.pt_looks.proofs.pages.list_entries.Goals as goal

pub returns-then-not-are_kinds-clause-meant : goal.returns-then-not-are_kinds-clause-meant
returns-then-not-are_kinds-clause-meant g c =
    page_refused c.args.d.now.bytes c.args.kinds c.args.after _ (sym c.are_kinds.ensures ∙ c.if-not-are_kinds.true) refl

pub tell-requires : goal.tell-requires
tell-requires g c =
    let short = c.in_ok-entries.ensures.short in
    record {
      spelled = (c.in_ok-entries.ensures.count, entries_text c.in_ok-entries.entries short);
      short = entries_len c.in_ok-entries.entries short c.in_ok-entries.ensures.count;
    }

pub returns-clause-meant : goal.returns-clause-meant
returns-clause-meant g c =
    let fits = c.ranges.after in
    let found = c.in_ok-entries.ensures.found in
    page_ends c.args.d.now.bytes c.args.kinds c.args.after c.in_ok-entries.entries c.in_ok-end.end
    (sym c.are_kinds.ensures ∙ c.if-not-are_kinds.false)
    (simp to_z-of_z at found) c.in_ok-end.ensures.told
