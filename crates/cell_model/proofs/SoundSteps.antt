-- Each step of a server is sound, whatever the event.
use Rattle.std.proofs.Common.{ℕ, Bool, List}
use Rattle.std.proofs.lemmas.Bool.{cond_both}
use Rattle.std.specs.Prelude.{nat_lt, Option, Some, None, ◌+◌}
use Rattle.ubik_types.specs.declared.hosts.Host.{Host}
use Rattle.ubik_types.specs.declared.limits.TheConstants.{SMALLTIME}
use Rattle.ubik_calls.specs.declared.packets.Packet.{Packet}
use Rattle.ubik_calls.specs.declared.packets.Body.{Body}
use Rattle.ubik_calls.specs.declared.packets.Body.TheVariants as body
use Rattle.db_image.specs.Database.{Database}
use Rattle.cell_model.specs.declared.events.NodeEvent.{NodeEvent}
use Rattle.cell_model.specs.declared.events.NodeEvent.TheVariants as event
use Rattle.cell_model.specs.Evaluating.{always}
use Rattle.cell_model.specs.Lapse.{write_lapsed, lapsed}
use Rattle.cell_model.specs.Node.{Server, Flight}
use Rattle.cell_model.specs.NodeRule.{received_from, received_packet, place_of, handled, step_of, step_by}
use Rattle.cell_model.specs.Step.{Member, Stepped, leased, short_after}
use Rattle.cell_model.proofs.Sound.{IsSound, state_of, follows}
use Rattle.cell_model.proofs.SoundReceiver.{lapsed_is, beacon_turn_is, beacon_received_is, vote_received_is, quiet_is, tells_is, version_set_is, piece_taken_is, write_kept_is, write_piece_is, write_committed_is, write_dropped_is, piece_asked_is}
use Rattle.cell_model.proofs.SoundRecovery.{recovery_turn_is, piece_kept_is, piece_received_is, version_told_is, version_kept_is}
use Rattle.cell_model.proofs.SoundWrites.{AllStand, asked_is}

-- the call that the event asks stands under its id
abbrev pub AskStands : (ℕ → List ℕ → Type 0) → NodeEvent → Type 0
AskStands Stands (event.Ask id call) = Stands id call
AskStands Stands _ = Unit {0}

module _ (db : Database) (now : ℕ) (Stands : ℕ → List ℕ → Type 0) where
  received_is : (m : Member) (s : Server) (host : Host) (k : ℕ) (b : Body) (short : List Bool) → AllStand Stands s.waiting → IsSound db now Stands short (state_of s) (received_from (always db) m s now host k b short)
  received_is m s host k (body.Beacon start claim ready version) short all = beacon_received_is db now Stands m s now host k start claim ready version short
  received_is m s host k (body.Vote start granted) short all = vote_received_is db now Stands m s k start granted short
  received_is m s host k (body.GetVersion poll) short all = tells_is db now Stands m host poll s short
  received_is m s host k (body.VersionIs poll version) short all = version_told_is db now Stands m s host k poll version short s.phase all
  received_is m s host k (body.GetPiece poll version offset) short all = piece_asked_is db now Stands m s host poll version offset short
  received_is m s host k (body.Piece poll version total offset bytes) short all = piece_received_is db now Stands m s now k poll version total offset bytes s.phase short
  received_is m s host k (body.SendPiece poll version total offset bytes) short all = piece_taken_is db now Stands m s host k poll version total offset bytes short
  received_is m s host k (body.PieceKept poll version next) short all = piece_kept_is db now Stands m s host version next s.phase short
  received_is m s host k (body.SetVersion poll old new) short all = version_set_is db now Stands m s host poll old new short
  received_is m s host k (body.Begin old new pieces len) short all = write_kept_is db now Stands s old new pieces len short
  received_is m s host k (body.PutPiece new number bytes) short all = write_piece_is db now Stands s new number bytes short
  received_is m s host k (body.Commit old new) short all = write_committed_is db now Stands m s host old new short
  received_is m s host k (body.Abort new) short all = write_dropped_is db now Stands s new short
  received_is m s host k (body.VersionKept version) short all = version_kept_is db now Stands m s k version short s.phase all

  packet_is : (m : Member) (s : Server) (p : Packet) (short : List Bool) (place : Option ℕ) → AllStand Stands s.waiting → IsSound db now Stands short (state_of s) (received_packet (always db) m s now p short place)
  packet_is m s p short None all = quiet_is db now Stands short s
  packet_is m s p short (Some k) all = received_is m s p.from k p.body short all

  handled_is : (m : Member) (s : Server) (e : NodeEvent) (short : List Bool) → AllStand Stands s.waiting → AskStands Stands e → IsSound db now Stands short (state_of s) (handled (always db) m s now e short)
  handled_is m s (event.Packet p) short all asks = packet_is m s p short (place_of m.hosts p.from) all
  handled_is m s event.BeaconTurn short all asks = beacon_turn_is db now Stands m s now short
  handled_is m s event.RecoverTurn short all asks = recovery_turn_is db now Stands m s now short
  handled_is m s (event.Ask id call) short all asks = asked_is db now Stands m s id call short asks

  -- the lapse leaves those that wait, or none
  lapsed_waits : (m : Member) (s : Server) → AllStand Stands s.waiting → AllStand Stands (lapsed m s now).server.waiting
  lapsed_waits m s all = cond_both (leased m s now) _ _ (λ (t : Stepped). AllStand Stands t.server.waiting) (λ _. flight s.flight) (λ _. tt)
    where
      flight : (f : Option Flight) → AllStand Stands (write_lapsed m s now f).server.waiting
      flight None = all
      flight (Some f) = cond_both (nat_lt (f.began + SMALLTIME) now) _ _ (λ (t : Stepped). AllStand Stands t.server.waiting) (λ _. tt) (λ _. all)

  pub step_is : (m : Member) (s : Server) (e : NodeEvent) (short : List Bool) → AllStand Stands s.waiting → AskStands Stands e → IsSound db now Stands short (state_of s) (step_of db m s now e short)
  unfolding step_by
  step_is m s e short all asks =
      let t = lapsed m s now in
      follows db now Stands t (λ after. handled (always db) m after now e (short_after t.shown short)) (lapsed_is db now Stands m s now short)
      (handled_is m t.server e _ (lapsed_waits m s all) asks)
