use Rattle.std.proofs.Common.{sym, ◌∙◌}
use Rattle.pt_turns.proofs.Shared.{shares_new, shares_none, shares_taken}
use Rattle.pt_turns.proofs.deciding.shares_one.Goals as goal

pub returns-then-eq-clause-found : goal.returns-then-eq-clause-found
returns-then-eq-clause-found g c =
    let front = c.front_of.ensures in
    let named = c.in_ok-after.ensures in
    let text = c.as_slice.ensures.value in
    let test = sym c.eq.ensures ∙ c.if-eq.true in
    shares_new c.args.d.now.bytes c.args.new.now c.args.name.now c.in_ok-after.after.items (rw front at named) (rw text at test)

pub returns-then-eq-2-clause-found : goal.returns-then-eq-2-clause-found
returns-then-eq-2-clause-found g c =
    let front = c.front_of.ensures in
    let named = c.in_ok-after.ensures in
    let text = c.as_slice.ensures.value in
    let test = sym c.eq.ensures ∙ c.if-eq.false in
    let again = c.as_slice-2.ensures.value in
    let stays = sym c.eq-2.ensures ∙ c.if-eq-2.true in
    shares_none c.args.d.now.bytes c.args.new.now c.args.name.now c.in_ok-after.after.items (rw front at named) (rw text at test)
    (rw again at stays)

pub returns-clause-found : goal.returns-clause-found
returns-clause-found g c =
    let front = c.front_of.ensures in
    let named = c.in_ok-after.ensures in
    let text = c.as_slice.ensures.value in
    let test = sym c.eq.ensures ∙ c.if-eq.false in
    let again = c.as_slice-2.ensures.value in
    let stays = sym c.eq-2.ensures ∙ c.if-eq-2.false in
    let value = c.deref.ensures.value in
    let found = c.has_name.ensures.found in
    shares_taken c.has_name.result c.args.d.now.bytes c.args.new.now c.args.name.now c.in_ok-after.after.items (rw front at named)
    (rw text at test) (rw again at stays) (rw value at found)
