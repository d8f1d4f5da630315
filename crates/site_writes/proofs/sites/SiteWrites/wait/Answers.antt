use Rattle.std.proofs.Common.{◌≡◌, ◌∷◌, ◌++◌, ◌<◌, ℕ, List, [], length, ap, arith}
use Rattle.circular_buffer.specs.Buffer.{Buffer}
use Rattle.lock_table.specs.Table.{Table}
use Rattle.lock_table.specs.declared.tables.TheConstants.{MAX_WAITING}
use Rattle.cell_model.specs.Node.{Waiting}
use Rattle.site_writes.specs.Site.{SiteRecord}
use Rattle.site_writes.proofs.Lines.{as_many, on_ok}
use Rattle.site_writes.proofs.sites.SiteWrites.wait.Goals as goal

pub returns-then-waiting-ge-MAX_WAITING-clause-room : goal.returns-then-waiting-ge-MAX_WAITING-clause-room
returns-then-waiting-ge-MAX_WAITING-clause-room c = λ below.
    let as_many : length c.args.self.now.waiting ≡ length c.self.inside.table.line = rw (← c.self.view_is) (as_many c.self.inside.table.line c.self.inside.calls.items c.self.invariant.line) in
    absurd (omega (arith, as_many, below))

pub returns-in_err-call-clause-full : goal.returns-in_err-call-clause-full
returns-in_err-call-clause-full c = λ full.
    let as_many : length c.args.self.now.waiting ≡ length c.self.inside.table.line = rw (← c.self.view_is) (as_many c.self.inside.table.line c.self.inside.calls.items c.self.invariant.line) in
    absurd (omega (arith, as_many, full))

pub returns-clause-full : goal.returns-clause-full
returns-clause-full c = λ full.
    let as_many : length c.args.self.now.waiting ≡ length c.self.inside.table.line = rw (← c.self.view_is) (as_many c.self.inside.table.line c.self.inside.calls.items c.self.invariant.line) in
    omega (arith, as_many, full)

pub returns-clause-ok : goal.returns-clause-ok
returns-clause-ok c =
    let long = as_many c.self.inside.table.line c.self.inside.calls.items c.self.invariant.line in
    let room : length c.self.inside.calls.items < c.self.inside.calls.capacity = omega (arith, long) in
    let calls : c.try_push_back.new.self.items ≡ c.self.inside.calls.items ++ record { id = c.args.id; call = c.in_ok-call.call } ∷ [] = ap (λ (buffer : Buffer Waiting). buffer.items) (on_ok c.try_push_back.result (c.try_push_back.ensures.variant.1 room) c.try_push_back.ensures.ok) in
    rw (← c.self.view_is)
    (ap (λ (those : List Waiting). let site : SiteRecord = record { held = c.self.inside.held; own = c.self.inside.own; waiting = those } in site) (rw (← c.in_ok-call.ensures) calls))
