use Rattle.std.proofs.Common.{List, map, string_bytes, subst}
use Rattle.std.proofs.lemmas.Option.{slice_get_within}
use Rattle.ubik_types.specs.Hosts.{IsCell}
use Rattle.ubik_types.specs.declared.hosts.Host.{Host}
use Rattle.server_texts.proofs.Cells.{not_listed, one_more, read_whole}
use Rattle.server_texts.proofs.words.read_end.Goals as goal

pub returns-in_default-clause-meaning : goal.returns-in_default-clause-meaning
returns-in_default-clause-meaning c = λ hosts same.
    not_listed c.args.database c.args.own hosts c.args.cell (map string_bytes c.args.words.now) same
    (λ i at. let none = c.index.ensures.only i at in cc)

pub returns-in-empty-clause-meaning : goal.returns-in-empty-clause-meaning
returns-in-empty-clause-meaning c = λ hosts same.
    read_whole string_bytes c.args.database c.args.own hosts c.args.cell c.args.words.now c.in-Some.me c.in-empty.len_below (let P : List Host → Type 0 = λ xs. IsCell xs in subst P c.cell.view_is c.cell.invariant) same
    c.in-Some.ensures.found

pub returns-in-empty-clause-me : goal.returns-in-empty-clause-me
returns-in-empty-clause-me c = slice_get_within c.args.cell c.in-Some.me c.args.own c.in-Some.ensures.found

pub returns-in-len1-up-clause-meaning : goal.returns-in-len1-up-clause-meaning
returns-in-len1-up-clause-meaning c = λ hosts same.
    one_more string_bytes c.args.database c.args.own hosts c.args.cell c.args.words.now c.in-Some.me c.in-len1-up.len_at_least same
    c.in-Some.ensures.found
