use Rattle.std.proofs.Common.{◌≡◌, ◌≤◌, ◌==◌, ◌-◌, ◌∙◌, inl, true, List, Some, None, length, set, arith, refl, sym, ap, subst}
use Rattle.std.specs.Prelude.{IsSome, slice_get}
use Rattle.std.specs.String.{string_bytes}
use Rattle.std.proofs.lemmas.Bool.{false≢true}
use Rattle.std.proofs.lemmas.List.Quantifiers.{position-Some}
use Rattle.ubik_types.specs.declared.hosts.Host.{Host}
use Rattle.cell_model.specs.NodeRule.{place_of}
use Rattle.write_laws.specs.Keeping.{IsCellPacket}
use Rattle.cell_model.specs.World.{Delivery}
use Rattle.cell_runs.specs.ScriptDatabase.{script_database}
use Rattle.cell_sites.specs.Sent.{packet_under}
use Rattle.cell_sites.specs.Traffic.{Traffic}
use Rattle.cell_sites.proofs.AtPlace.{rises_same}
use Rattle.cell_sites.proofs.Delivering.{all_at, handed_cell, keeps_with, lost, short_before, sound_with, told_before, under, with_handed, with_packets}
use Rattle.cell_sites.proofs.Reading.{nothing_done}
use Rattle.cell_sites.proofs.Behind.{delivered_on, handed_on}
use Rattle.cell_sites.proofs.Soundly.{host_count}
use Rattle.cell_sites.proofs.Settling.{sound_settled}
use Rattle.cell_sites.proofs.cells.OpenCell.deliver_sent.Goals as goal

pub is_up-requires : goal.is_up-requires
is_up-requires g c =
    let to = c.packet.result.now.to in
    let place : place_of c.args.self.now.hosts.items to ≡ Some c.in-Some.k = sym
    (c.place_of.ensures ∙ ap (λ (h : List Host). place_of h to) c.deref.ensures.value) ∙ c.in-Some.is in
    let lt = (position-Some (λ (other : Host). other.0 == to.0) c.args.self.now.hosts.items c.in-Some.k (record { 0 = 0 }) place).0 in
    let count = host_count g.D.Disk c.requires.sound.0.clock c.args.self.now c.requires.sound.1.steady in
    omega (arith, lt, count)

pub unreachable-requires : goal.unreachable-requires
unreachable-requires g c =
    let hosts = c.args.self.now.hosts.items in
    let to = c.packet.result.now.to in
    let sent = sym (ap (λ (t : Traffic). slice_get t.sent (c.args.number - 1)) c.hand_over.ensures) ∙ c.packet.ensures in
    let packet = all_at (IsCellPacket hosts) c.args.self.now.packets.sent
    (c.args.number - 1) c.packet.result.now c.requires.sound.1.keeps.packets sent in
    let none : place_of hosts to ≡ None = sym (c.place_of.ensures ∙ ap (λ (h : List Host). place_of h to) c.deref.ensures.value)
    ∙ c.in_default.is in
    false≢true (subst IsSome none packet.receiver)

pub step-requires-clause-sound : goal.step-requires-clause-sound
step-requires-clause-sound g c =
    let b = c.requires.sound.0 in
    let p = c.hand_over.new.self in (
      b,
      record {
        steady = sound_with g.D.Disk b.clock c.args.self.now p c.requires.sound.1.steady;
        keeps = keeps_with g.V.DraftService.standing.database c.args.self.now p c.requires.sound.1.keeps
            (ap (λ (t : Traffic). t.sent) c.hand_over.ensures);
        calls = c.requires.sound.1.calls;
        run = handed_on g.D.Disk (script_database g.V.DraftService.standing.database g.V.DraftWords.words) b.asks c.args.self.now p
            c.args.number c.law_cells_go_on.ensures c.requires.some c.requires.sent c.hand_over.ensures c.requires.sound.1.run;
        blocks = c.requires.sound.1.blocks;
      },
    )

pub step-requires-clause-there : goal.step-requires-clause-there
step-requires-clause-there g c =
    (c.requires.some, subst (λ (t : Traffic). c.args.number ≤ length t.sent) (sym c.hand_over.ensures) c.requires.sent)

pub step-requires-clause-brought : goal.step-requires-clause-brought
step-requires-clause-brought g c =
    let hosts = c.args.self.now.hosts.items in
    let sent = sym (ap (λ (t : Traffic). slice_get t.sent (c.args.number - 1)) c.hand_over.ensures) ∙ c.packet.ensures in
    subst (IsCellPacket hosts) (sym (under c.hand_over.new.self.sent c.args.number c.packet.result.now c.packet.ensures))
    (all_at (IsCellPacket hosts) c.args.self.now.packets.sent (c.args.number - 1) c.packet.result.now c.requires.sound.1.keeps.packets sent)

pub returns-then-is_up-clause-told : goal.returns-then-is_up-clause-told
returns-then-is_up-clause-told g c = λ ok given cell stands.
    let db = script_database g.V.DraftService.standing.database g.V.DraftWords.words in
    let to = c.packet.result.now.to in
    let p = c.hand_over.new.self in
    let place : place_of c.args.self.now.hosts.items to ≡ Some c.in-Some.k = sym
    (c.place_of.ensures ∙ ap (λ (h : List Host). place_of h to) c.deref.ensures.value) ∙ c.in-Some.is in
    let h = handed_cell c.args.self.now cell p c.args.number c.in-Some.k c.packet.result.now stands c.hand_over.ensures c.requires.some
    c.packet.ensures place in
    told_before g.D.Disk db c.args.self.now c.step.new.self p _ _ _ _
    (c.step.ensures.told ok given (with_handed cell (set cell.handed (c.args.number - 1) true)) (Delivery c.args.number) h.stands h.goes)

pub returns-then-is_up-clause-limit : goal.returns-then-is_up-clause-limit
returns-then-is_up-clause-limit g c = λ which is given cell stands.
    let db = script_database g.V.DraftService.standing.database g.V.DraftWords.words in
    let to = c.packet.result.now.to in
    let p = c.hand_over.new.self in
    let place : place_of c.args.self.now.hosts.items to ≡ Some c.in-Some.k = sym
    (c.place_of.ensures ∙ ap (λ (h : List Host). place_of h to) c.deref.ensures.value) ∙ c.in-Some.is in
    let h = handed_cell c.args.self.now cell p c.args.number c.in-Some.k c.packet.result.now stands c.hand_over.ensures c.requires.some
    c.packet.ensures place in
    told_before g.D.Disk db c.args.self.now c.step.new.self p _ _ _ _
    (c.step.ensures.limit which is given (with_handed cell (set cell.handed (c.args.number - 1) true))
    (Delivery c.args.number) h.stands h.goes)

pub returns-then-is_up-clause-short : goal.returns-then-is_up-clause-short
returns-then-is_up-clause-short g c = λ is given cell stands.
    let to = c.packet.result.now.to in
    let p = c.hand_over.new.self in
    let place : place_of c.args.self.now.hosts.items to ≡ Some c.in-Some.k = sym
    (c.place_of.ensures ∙ ap (λ (h : List Host). place_of h to) c.deref.ensures.value) ∙ c.in-Some.is in
    let h = handed_cell c.args.self.now cell p c.args.number c.in-Some.k c.packet.result.now stands c.hand_over.ensures c.requires.some
    c.packet.ensures place in
    short_before g.D.Disk c.args.self.now c.step.new.self p _ cell (set cell.handed (c.args.number - 1) true)
    (c.step.ensures.short is given (with_handed cell (set cell.handed (c.args.number - 1) true)) (Delivery c.args.number) h.stands h.goes)

pub returns-then-is_up-clause-sound : goal.returns-then-is_up-clause-sound
returns-then-is_up-clause-sound g c = λ ok bounds still. record {
  steady = c.step.ensures.steady ok bounds.clock (sound_with g.D.Disk bounds.clock c.args.self.now c.hand_over.new.self still.steady);
  keeps = c.step.ensures.keeps ok;
  calls = ap length c.step.ensures.calls ∙ still.calls;
  run = delivered_on g.D.Disk (script_database g.V.DraftService.standing.database g.V.DraftWords.words) bounds.asks c.args.self.now
      c.step.new.self c.args.number (string_bytes c.args.text.now)
      (string_bytes c.step.new.text) c.law_cells_go_on.ensures c.requires.some c.requires.sent
      still.run (returns-then-is_up-clause-told g c ok still.run.given still.run.cell still.run.stands);
  blocks = still.blocks;
}

pub returns-in_err-tell_mark-clause-short : goal.returns-in_err-tell_mark-clause-short
returns-in_err-tell_mark-clause-short g c =
    λ is given cell stands. inl (nothing_done g.D.Disk g.V.DraftService.standing.database given c.args.self.now cell stands)

pub returns-in_err-tell_mark-clause-never_falls : goal.returns-in_err-tell_mark-clause-never_falls
returns-in_err-tell_mark-clause-never_falls g c = rises_same _ _ refl

pub returns-clause-never_falls : goal.returns-clause-never_falls
returns-clause-never_falls g c = rises_same _ _ refl

pub returns-clause-told : goal.returns-clause-told
returns-clause-told g c = λ ok given cell stands.
    let db = script_database g.V.DraftService.standing.database g.V.DraftWords.words in
    let to = c.packet.result.now.to in
    let p = c.hand_over.new.self in
    let place : place_of c.args.self.now.hosts.items to ≡ Some c.in-Some.k = sym
    (c.place_of.ensures ∙ ap (λ (h : List Host). place_of h to) c.deref.ensures.value) ∙ c.in-Some.is in
    let h = handed_cell c.args.self.now cell p c.args.number c.in-Some.k c.packet.result.now stands c.hand_over.ensures c.requires.some
    c.packet.ensures place in
    told_before g.D.Disk db c.args.self.now (with_packets c.args.self.now p) p _ _ _ _
    (lost g.D.Disk db (with_packets c.args.self.now p)
    (with_handed cell (set cell.handed (c.args.number - 1) true)) c.args.number c.in-Some.k
    (packet_under p.sent c.args.number) (string_bytes c.args.text.now) (string_bytes c.tell_mark.new.text)
    h.stands c.if-is_up.ensures h.goes c.in_ok-tell_mark.ensures)

pub returns-clause-sound : goal.returns-clause-sound
returns-clause-sound g c = λ ok bounds still. record {
  steady = sound_with g.D.Disk bounds.clock c.args.self.now c.hand_over.new.self still.steady;
  keeps =
      keeps_with g.V.DraftService.standing.database c.args.self.now c.hand_over.new.self still.keeps
      (ap (λ (t : Traffic). t.sent) c.hand_over.ensures);
  calls = still.calls;
  run = delivered_on g.D.Disk (script_database g.V.DraftService.standing.database g.V.DraftWords.words) bounds.asks c.args.self.now
      (with_packets c.args.self.now c.hand_over.new.self) c.args.number (string_bytes c.args.text.now) (string_bytes c.tell_mark.new.text)
      c.law_cells_go_on.ensures c.requires.some c.requires.sent still.run
      (returns-clause-told g c ok still.run.given still.run.cell still.run.stands);
  blocks = still.blocks;
}

pub returns-in_err-tell_mark-clause-settled : goal.returns-in_err-tell_mark-clause-settled
returns-in_err-tell_mark-clause-settled g c = sound_settled g.D.Disk c.requires.sound.0.clock c.args.self.now c.requires.sound.1.steady

pub returns-clause-settled : goal.returns-clause-settled
returns-clause-settled g c = sound_settled g.D.Disk c.requires.sound.0.clock c.args.self.now c.requires.sound.1.steady
