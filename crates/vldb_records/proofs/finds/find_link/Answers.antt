use Rattle.std.proofs.Common.{◌≡◌, ℕ, ◌+◌, ◌*◌, List, IfSome, length, refl, sym, ◌∙◌, arith}
use Rattle.std.proofs.lemmas.Result.{err_from_is_err_and}
use Rattle.db_chains.specs.Chains.{HasChain}
use Rattle.db_chains.specs.Ends.{CostsAtMost, HasSome}
use Rattle.db_chains.specs.Walks.{IsBad}
use Rattle.db_chains.proofs.Ended.{bad_cause, bad_count}
use Rattle.vldb_records.specs.Sought.{is_sought}
use Rattle.vldb_records.proofs.HeadTold.{bad_whole, cause_whole, err_bad_whole, err_cause_whole, told_whole}
use Rattle.vldb_records.proofs.Lookups.{costs_free, empty_ended, empty_none, none_exact, ok_ended, ok_exact, ok_in_chain, ok_number, ok_within}
use Rattle.vldb_records.proofs.finds.find_link.Goals as goal

pub returns-then-len-eq0-clause-found : goal.returns-then-len-eq0-clause-found
returns-then-len-eq0-clause-found g c =
    empty_none c.args.d.now.bytes c.len.result c.args.links (is_sought c.args.sought) c.args.at (rw c.len.ensures.size c.len.ensures.told)
    c.if-len-eq0.true c.requires.head

pub returns-then-len-eq0-clause-exact : goal.returns-then-len-eq0-clause-exact
returns-then-len-eq0-clause-exact g c = none_exact c.args.d.now.bytes

pub returns-then-len-eq0-clause-cost : goal.returns-then-len-eq0-clause-cost
returns-then-len-eq0-clause-cost g c =
    costs_free g.I.ImageRead c.args.d.now.bytes c.args.links c.args.at 4 c.args.d.now c.args.d.now refl

pub returns-in_err-block_count-clause-bad : goal.returns-in_err-block_count-clause-bad
returns-in_err-block_count-clause-bad g c =
    let p = err_from_is_err_and c.from_residual.result c.from_residual.ensures.1 in
    let told : IfSome c.args.d.now.bytes (λ image. length image ≡ c.len-2.result) = rw c.len-2.ensures.size c.len-2.ensures.told in
    rw (p.1, p.2) (bad_whole c.args.d.now.bytes c.len-2.result (IsBad c.args.links (is_sought c.args.sought) c.args.at)
    c.in_err-block_count.field-0.0 told (omega arith)
    (bad_count c.args.d.now.bytes c.args.links (is_sought c.args.sought) c.args.at c.len-2.result c.in_err-block_count.field-0.0
    c.in_err-block_count.ensures.fault.0 told c.in_err-block_count.ensures.fault.1))

pub returns-in_err-block_count-clause-fault : goal.returns-in_err-block_count-clause-fault
returns-in_err-block_count-clause-fault g c =
    let p = err_from_is_err_and c.from_residual.result c.from_residual.ensures.1 in
    let told : IfSome c.args.d.now.bytes (λ image. length image ≡ c.len-2.result) = rw c.len-2.ensures.size c.len-2.ensures.told in
    rw (p.1, p.2) (cause_whole c.args.d.now.bytes c.len-2.result (HasSome c.args.links c.args.at)
    c.in_err-block_count.field-0.0 told (omega arith)
    (bad_cause c.args.d.now.bytes c.args.links (is_sought c.args.sought) c.args.at c.in_err-block_count.field-0.0 c.requires.links.step
    (bad_count c.args.d.now.bytes c.args.links (is_sought c.args.sought) c.args.at c.len-2.result c.in_err-block_count.field-0.0
    c.in_err-block_count.ensures.fault.0 told c.in_err-block_count.ensures.fault.1)))

pub returns-in_err-block_count-clause-cost : goal.returns-in_err-block_count-clause-cost
returns-in_err-block_count-clause-cost g c =
    costs_free g.I.ImageRead c.args.d.now.bytes c.args.links c.args.at 4 c.args.d.now c.args.d.now refl

pub returns-clause-found : goal.returns-clause-found
returns-clause-found g c =
    ok_in_chain c.find.result c.args.d.now.bytes c.args.links (is_sought c.args.sought) c.args.at c.len.result
    (rw c.len.ensures.size c.len.ensures.told) (omega arith)
    c.find.ensures.exact c.find.ensures.found

pub returns-clause-exact : goal.returns-clause-exact
returns-clause-exact g c =
    ok_exact c.find.result c.args.d.now.bytes c.args.links (is_sought c.args.sought) c.args.at c.len.result
    (rw c.len.ensures.size c.len.ensures.told) (omega arith) c.find.ensures.exact

pub returns-clause-number : goal.returns-clause-number
returns-clause-number g c =
    ok_number c.find.result c.args.links c.args.d.now.len c.in_ok-block_count.field-0 c.requires.links c.requires.head
    (sym c.len-2.ensures.size ∙ c.in_ok-block_count.ensures.count) c.find.ensures.placed

pub returns-clause-within : goal.returns-clause-within
returns-clause-within g c = ok_within c.find.result c.args.links _ c.requires.head c.find.ensures.placed

pub returns-clause-bad : goal.returns-clause-bad
returns-clause-bad g c =
    err_bad_whole c.find.result c.args.d.now.bytes c.len.result (IsBad c.args.links (is_sought c.args.sought) c.args.at)
    (rw c.len.ensures.size c.len.ensures.told)
    (omega arith) c.find.ensures.bad

pub returns-clause-fault : goal.returns-clause-fault
returns-clause-fault g c =
    err_cause_whole c.find.result c.args.d.now.bytes c.len.result (HasSome c.args.links c.args.at)
    (rw c.len.ensures.size c.len.ensures.told) (omega arith)
    c.find.ensures.fault

pub returns-clause-cost : goal.returns-clause-cost
returns-clause-cost g c =
    told_whole c.args.d.now.bytes c.len.result
    (λ (image : List ℕ). (ws : List ℕ) → HasChain c.args.links image c.args.at ws
    → CostsAtMost g.I.ImageRead (4 + 192 * length ws) c.args.d.now c.find.new.d)
    (rw c.len.ensures.size c.len.ensures.told) (omega arith) c.find.ensures.cost

pub returns-then-len-eq0-clause-ended : goal.returns-then-len-eq0-clause-ended
returns-then-len-eq0-clause-ended g c = λ none.
    empty_ended c.args.d.now.bytes c.len.result c.args.links (is_sought c.args.sought) c.args.at (rw c.len.ensures.size c.len.ensures.told)
    c.if-len-eq0.true c.requires.head c.requires.behind c.requires.at

pub returns-clause-ended : goal.returns-clause-ended
returns-clause-ended g c =
    ok_ended c.find.result c.args.d.now.bytes c.args.links (is_sought c.args.sought) c.args.at c.len.result
    (rw c.len.ensures.size c.len.ensures.told) (omega arith) c.find.ensures.exact
