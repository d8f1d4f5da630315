use Rattle.std.proofs.Common.{◌++◌, ap, ◌∙◌, subst, sym}
use Rattle.ubik_log.specs.LogGrammar.{field}
use Rattle.ubik_log.proofs.OneReading.{BeginsWithNone}
use Rattle.ubik_log.proofs.Fronts.{none_as, no_put_no_change, no_cut_no_change}
use Rattle.ubik_log.proofs.readers.edit_at.Goals as goal

pub returns-in-103-clause-none : goal.returns-in-103-clause-none
returns-in-103-clause-none c =
    let fields = c.in_ok-opcode.fields.now in
    let there = ap (λ n. field n ++ fields) (sym c.in-103.is) ∙ sym c.in_ok-opcode.ensures.found in
    none_as c.lay_at.result (λ none. subst BeginsWithNone there (no_put_no_change fields none)) c.lay_at.ensures.none

pub returns-in-104-clause-none : goal.returns-in-104-clause-none
returns-in-104-clause-none c =
    let fields = c.in_ok-opcode.fields.now in
    let there = ap (λ n. field n ++ fields) (sym c.in-104.is) ∙ sym c.in_ok-opcode.ensures.found in
    none_as c.keep_at.result (λ none. subst BeginsWithNone there (no_cut_no_change fields none)) c.keep_at.ensures.none
