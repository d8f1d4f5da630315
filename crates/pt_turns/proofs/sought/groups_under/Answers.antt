use Rattle.pt_turns.proofs.Looked.{groups_so}
use Rattle.pt_turns.proofs.sought.groups_under.Goals as goal

pub returns-clause-found : goal.returns-clause-found
returns-clause-found g c =
    let value = c.deref.ensures.value in
    let read = c.entries_of.ensures.found in
    groups_so c.entries_of.result (λ es. es.items) c.args.d.now.bytes c.ids_under.new.d.bytes c.args.whole.now c.in_ok-ids.ids.items
    c.in_ok-ids.ensures.found c.ids_under.ensures.frame.same.bytes (rw value at read)
