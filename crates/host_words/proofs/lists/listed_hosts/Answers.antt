use Rattle.std.proofs.Common.{◌≡◌, ◌==◌, ℕ, false, List, Option, None, map, sym, ap, ◌∙◌, rules}
use Rattle.std.specs.Prelude.{is_some}
use Rattle.std.specs.List.{list_all}
use Rattle.std.proofs.lemmas.Iterator.Consumers.{YieldsList-end, YieldsList-turn}
use Rattle.std.proofs.lemmas.List.Folds.{list_all_at}
use Rattle.std.proofs.lemmas.Iterator.Splits.{YieldsList-from_slice_split}
use borrow.Author.Tests.{tests}
use Rattle.host_words.specs.Hosts.{address_of, is_address, named_host}
use Rattle.host_words.proofs.lists.listed_hosts.Goals as goal

no_address : (word part : List ℕ) (r : Option ℕ) → word ≡ part → r ≡ address_of word → r ≡ None → is_address part ≡ false
no_address word part r same is none = ap is_address (sym same) ∙ ap is_some (sym is ∙ none)

pub returns-in_default-clause-addresses : goal.returns-in_default-clause-addresses
returns-in_default-clause-addresses c =
    let turn = YieldsList-turn
    (YieldsList-from_slice_split _ (λ (byte : ℕ). byte == 44) c.args.text.now (cc) (cc) (cc) (λ x b q k. search (rules, tests)))
    c.loop-part.yielded _ c.loop-part.yielded_by _ _ _ c.in-Some.is c.next.ensures.steps in
    sym (list_all_at is_address _ _ _ turn.0 (no_address _ _ _ turn.1 c.address.ensures c.in_default.is))

pub returns-clause-addresses : goal.returns-clause-addresses
returns-clause-addresses c =
    let pieces = YieldsList-end
    (YieldsList-from_slice_split _ (λ (byte : ℕ). byte == 44) c.args.text.now (cc) (cc) (cc) (λ x b q k. search (rules, tests)))
    c.loop-part.yielded _ c.loop-part.yielded_by _ _ c.in-None.is c.next.ensures.steps in
    sym (ap (list_all is_address) (sym pieces.0) ∙ c.loop-part.invariant.1)

pub returns-clause-hosts : goal.returns-clause-hosts
returns-clause-hosts c =
    let pieces = YieldsList-end
    (YieldsList-from_slice_split _ (λ (byte : ℕ). byte == 44) c.args.text.now (cc) (cc) (cc) (λ x b q k. search (rules, tests)))
    c.loop-part.yielded _ c.loop-part.yielded_by _ _ c.in-None.is c.next.ensures.steps in
    c.loop-part.invariant.0 ∙ ap (map named_host) pieces.0
