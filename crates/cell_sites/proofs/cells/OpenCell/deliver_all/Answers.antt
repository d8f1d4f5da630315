use Rattle.std.proofs.Common.{◌≡◌, ◌-◌, ◌+◌, ◌∙◌, Err, [], length, refl, sym, ap, subst, arith}
use Rattle.std.proofs.lemmas.Result.{err_from_is_err_and}
use Rattle.std.specs.String.{string_bytes}
use Rattle.cell_runs.specs.declared.endings.Ending.TheVariants as ending
use Rattle.cell_runs.specs.declared.limits.TheConstants.{MAX_PACKETS}
use Rattle.cell_runs.specs.ScriptDatabase.{script_database}
use Rattle.cell_runs.specs.Script.{first_waiting}
use Rattle.cell_sites.specs.declared.faults.LineFault.TheVariants as fault
use Rattle.cell_sites.specs.Sites.{helds}
use Rattle.cell_sites.specs.Sound.{IsSound}
use Rattle.cell_sites.specs.Traffic.{Traffic}
use Rattle.cell_sites.proofs.Delivering.{with_packets}
use Rattle.cell_sites.proofs.Following.{Follows, all_followed, follows_more, follows_none, fuel_followed, is_waiting, limit_there, rises_both, short_there}
use Rattle.cell_sites.proofs.Settling.{sound_settled}
use Rattle.cell_sites.proofs.cells.OpenCell.deliver_all.Goals as goal

pub loop-init : goal.loop-init
loop-init g c =
    follows_none g.D.Disk (script_database g.V.DraftService.standing.database g.V.DraftWords.words) MAX_PACKETS
    (MAX_PACKETS - 0) c.args.self.now
    (string_bytes c.args.text.now) (omega arith)

pub deliver_sent-requires-clause-some : goal.deliver_sent-requires-clause-some
deliver_sent-requires-clause-some g c =
    let w = is_waiting 1 c.loop.self.packets.handed c.in-Some.number (sym c.in-Some.ensures.first) in omega (arith, w.0)

pub deliver_sent-requires-clause-sent : goal.deliver_sent-requires-clause-sent
deliver_sent-requires-clause-sent g c =
    let w = is_waiting 1 c.loop.self.packets.handed c.in-Some.number (sym c.in-Some.ensures.first) in
    let sent : length c.first_waiting.new.self.sent ≡ length c.loop.self.packets.sent = ap
    (λ (t : Traffic). length t.sent) c.first_waiting.ensures.same in
    omega (arith, w.1, c.first_waiting.ensures.each, sent)

pub returns-in_default-clause-told : goal.returns-in_default-clause-told
returns-in_default-clause-told g c = λ ok given cell stands.
    let db = script_database g.V.DraftService.standing.database g.V.DraftWords.words in
    let now = with_packets c.loop.self c.first_waiting.new.self in
    all_followed g.D.Disk db MAX_PACKETS (MAX_PACKETS - c.loop.counter) c.args.self.now now (string_bytes c.args.text.now)
    (string_bytes c.loop.text)
    (subst (λ (p : Traffic). Follows g.D.Disk db MAX_PACKETS (MAX_PACKETS - c.loop.counter) c.args.self.now
    (with_packets c.loop.self p) (string_bytes c.args.text.now) (string_bytes c.loop.text))
    (sym c.first_waiting.ensures.same) c.loop.invariant)
    refl (ap (λ (p : Traffic). first_waiting 1 p.handed) c.first_waiting.ensures.same ∙ sym c.in_default.ensures.first) given cell stands

pub returns-in_default-clause-sound : goal.returns-in_default-clause-sound
returns-in_default-clause-sound g c = λ is bounds still.
    subst (λ (p : Traffic). IsSound g.D.Disk g.V.DraftService.standing.database bounds (with_packets c.loop.self p))
    (sym c.first_waiting.ensures.same)
    (c.loop.invariant.sound bounds still)

pub returns-in_err-deliver_sent-clause-limit : goal.returns-in_err-deliver_sent-clause-limit
returns-in_err-deliver_sent-clause-limit g c = λ which is given cell stands.
    let db = script_database g.V.DraftService.standing.database g.V.DraftWords.words in
    let now = with_packets c.loop.self c.first_waiting.new.self in
    let p = err_from_is_err_and c.from_residual.result c.from_residual.ensures.1 in
    let e : c.in_err-deliver_sent.field-0.0 ≡ fault.Limit which = let from = p.2 in let left = p.1 in cc (from, left, is) in
    limit_there g.D.Disk db MAX_PACKETS (MAX_PACKETS - c.loop.counter) (MAX_PACKETS - (c.loop.counter + 1)) c.requires.0 c.args.self.now now
    c.deliver_sent.new.self
    (string_bytes c.args.text.now) (string_bytes c.loop.text) (string_bytes c.deliver_sent.new.text)
    (subst (λ (p : Traffic). Follows g.D.Disk db MAX_PACKETS (MAX_PACKETS - c.loop.counter) c.args.self.now
    (with_packets c.loop.self p) (string_bytes c.args.text.now) (string_bytes c.loop.text))
    (sym c.first_waiting.ensures.same) c.loop.invariant)
    (omega (arith, c.loop-test.true)) c.requires.1 c.in-Some.number
    (ap (λ (p : Traffic). first_waiting 1 p.handed) c.first_waiting.ensures.same ∙ sym c.in-Some.ensures.first)
    refl given cell stands (ending.Limit which) (c.in_err-deliver_sent.ensures.limit which (ap Err e) given)

pub returns-in_err-deliver_sent-clause-short : goal.returns-in_err-deliver_sent-clause-short
returns-in_err-deliver_sent-clause-short g c = λ is given cell stands.
    let db = script_database g.V.DraftService.standing.database g.V.DraftWords.words in
    let now = with_packets c.loop.self c.first_waiting.new.self in
    short_there g.D.Disk db MAX_PACKETS (MAX_PACKETS - c.loop.counter) c.args.self.now now c.deliver_sent.new.self
    (string_bytes c.args.text.now) (string_bytes c.loop.text)
    (subst (λ (p : Traffic). Follows g.D.Disk db MAX_PACKETS (MAX_PACKETS - c.loop.counter) c.args.self.now
    (with_packets c.loop.self p) (string_bytes c.args.text.now) (string_bytes c.loop.text))
    (sym c.first_waiting.ensures.same) c.loop.invariant)
    c.in-Some.number (ap (λ (p : Traffic). first_waiting 1 p.handed) c.first_waiting.ensures.same ∙ sym c.in-Some.ensures.first)
    c.in_err-deliver_sent.ensures.never_falls
    (c.in_err-deliver_sent.ensures.short
    (ap Err (let p = err_from_is_err_and c.from_residual.result c.from_residual.ensures.1 in let from = p.2 in let left = p.1 in cc
    (from, left, is))))
    given cell stands

pub returns-in_err-deliver_sent-clause-never_falls : goal.returns-in_err-deliver_sent-clause-never_falls
returns-in_err-deliver_sent-clause-never_falls g c =
    rises_both 0 [] [] (helds g.D.Disk c.args.self.now) (helds g.D.Disk c.loop.self)
    (helds g.D.Disk c.deliver_sent.new.self) c.loop.invariant.rises
    c.in_err-deliver_sent.ensures.never_falls

pub loop-preserved : goal.loop-preserved
loop-preserved g c =
    let db = script_database g.V.DraftService.standing.database g.V.DraftWords.words in
    let now = with_packets c.loop.self c.first_waiting.new.self in
    follows_more g.D.Disk db MAX_PACKETS (MAX_PACKETS - c.loop.counter)
    (MAX_PACKETS - (c.loop.counter + 1)) c.requires.0 c.args.self.now now
    c.deliver_sent.new.self
    (string_bytes c.args.text.now) (string_bytes c.loop.text) (string_bytes c.deliver_sent.new.text)
    (subst (λ (p : Traffic). Follows g.D.Disk db MAX_PACKETS (MAX_PACKETS - c.loop.counter) c.args.self.now
    (with_packets c.loop.self p) (string_bytes c.args.text.now) (string_bytes c.loop.text))
    (sym c.first_waiting.ensures.same) c.loop.invariant)
    (omega (arith, c.loop-test.true)) c.requires.1 c.in-Some.number
    (ap (λ (p : Traffic). first_waiting 1 p.handed) c.first_waiting.ensures.same ∙ sym c.in-Some.ensures.first)
    (c.in_ok-deliver_sent.ensures.told refl) (c.in_ok-deliver_sent.ensures.sound refl) c.in_ok-deliver_sent.ensures.never_falls
    c.in_ok-deliver_sent.ensures.same

pub returns-clause-told : goal.returns-clause-told
returns-clause-told g c = λ ok given cell stands.
    let db = script_database g.V.DraftService.standing.database g.V.DraftWords.words in
    fuel_followed g.D.Disk db MAX_PACKETS (MAX_PACKETS - c.loop.counter) c.args.self.now c.loop.self (string_bytes c.args.text.now)
    (string_bytes c.loop.text)
    c.loop.invariant
    refl (omega (arith, c.loop-test.false)) given cell stands

pub returns-in_default-clause-settled : goal.returns-in_default-clause-settled
returns-in_default-clause-settled g c =
    sound_settled g.D.Disk c.requires.0.clock c.loop.self (c.loop.invariant.sound c.requires.0 c.requires.1).steady

pub returns-clause-settled : goal.returns-clause-settled
returns-clause-settled g c =
    sound_settled g.D.Disk c.requires.0.clock c.loop.self (c.loop.invariant.sound c.requires.0 c.requires.1).steady
