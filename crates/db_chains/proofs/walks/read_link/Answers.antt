use Rattle.std.proofs.Common.{◌≡◌, false, sym, ◌∙◌}
use Rattle.std.proofs.lemmas.Result.{err_from_is_err_and}
use Rattle.db_chains.proofs.Words.{is_link, not_marked, not_named, some_of}
use Rattle.db_chains.proofs.Results.{of_image}
use Rattle.db_chains.specs.Links.{block_of, is_right, names_block}
use Rattle.db_chains.proofs.walks.read_link.Goals as goal

pub returns-in_default-clause-fault : goal.returns-in_default-clause-fault
returns-in_default-clause-fault g c =
    not_named c.args.d.now.bytes c.args.links c.args.d.now.len c.args.count c.args.word c.args.place c.requires.told c.requires.count
    (sym c.block_of.ensures ∙ c.in_default.is)

pub returns-then-word_at-links-clause-fault : goal.returns-then-word_at-links-clause-fault
returns-then-word_at-links-clause-fault g c =
    let named = some_of (names_block c.args.links c.args.count c.args.word) (block_of c.args.links c.args.word) c.in-Some.number
    c.in-Some.ensures in
    not_marked c.args.d.now.bytes c.args.links c.args.word c.args.place c.in-Some.number c.word_at.result c.in_ok-block.block
    named.1 c.in_ok-block.ensures.block c.word_at.ensures c.if-word_at-links.true

pub returns-clause-link : goal.returns-clause-link
returns-clause-link g c =
    is_link c.args.d.now.bytes c.args.links c.args.d.now.len c.args.count c.args.word c.args.place c.in-Some.number c.word_at.result
    c.in_ok-block.block c.requires.told c.requires.count c.requires.word c.in-Some.ensures c.in_ok-block.ensures.block c.word_at.ensures
    c.if-word_at-links.false

pub returns-in_err-block-clause-fault : goal.returns-in_err-block-clause-fault
returns-in_err-block-clause-fault g c =
    let p = err_from_is_err_and c.from_residual.result c.from_residual.ensures.1 in
    rw (p.1, p.2) (of_image c.args.d.now.bytes (λ image bad. (bad ≡ c.args.place) × (is_right c.args.links image c.args.word ≡ false))
    c.in_err-block.field-0.0 c.in_err-block.ensures.fault)
