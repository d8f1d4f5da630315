-- Schedules of a server: those that fit are computed, and where one does not.
use Rattle.std.proofs.Common.{Bool, true≢false, ◌≡◌, ◌≤◌, ℕ, zero, suc, List, [], ◌∷◌, ◌++◌, length, drop, get_or, refl, sym, ap, subst, arith}
use Rattle.std.specs.Prelude.{Option, Some, None}
use Rattle.ubik_types.specs.declared.versions.Version.{Version}
use Rattle.xdr_base.specs.Reading.{opaque_at, count_at}
use Rattle.db_image.specs.declared.services.CallReply.TheVariants as call_reply
use Rattle.db_image.specs.Database.{Outcome}
use Rattle.db_image.specs.Standing.{Standing}
use Rattle.ubik_calls.specs.declared.packets.Packet.{Packet}
use Rattle.cell_model.specs.declared.events.NodeEvent.{NodeEvent}
use Rattle.cell_model.specs.declared.events.NodeEvent.TheVariants as event
use Rattle.cell_model.specs.Durable.{Durable, durable}
use Rattle.cell_model.specs.Evaluating.{KeepsStates, MayAllCome, MayCome, Told}
use Rattle.cell_model.specs.NodeRule.{step_by}
use Rattle.cell_model.specs.World.{World, Trigger, Delivery, Beacon_turn, Recover_turn, Asking, occasion}
use Rattle.journal_model.specs.Schedules.{ScheduleEntry, Open, Fits, entered, scheduled}
use Rattle.cell_examples.specs.Register.{one_byte, register}
use Rattle.cell_examples.specs.Running.{CheatsDoNotFit, ServersRun, ToldServersRun, asked_told, evaluated, leads, one, serves, turns_beacon}
use Rattle.cell_examples.specs.Showing.{version}

pub servers_run : ServersRun
unfolding step_by opaque_at count_at
servers_run = record {
  fits = ((refl, tt), (((refl, record { up = refl; moment = refl }), record { item_of = record { halted = tt; short = refl; may = tt }; new = refl }), (((refl, record { up = refl; moment = refl }), record { item_of = record { halted = tt; short = refl; may = tt }; new = refl }), (((refl, record { up = refl; moment = refl }), record { item_of = record { halted = tt; short = refl; may = tt }; new = refl }), (((refl, record { up = refl; moment = refl }), record { item_of = record { halted = tt; short = refl; may = tt }; new = refl }), (((refl, record { up = refl; moment = refl }), record { item_of = record { halted = tt; short = refl; may = tt }; new = refl }), (((refl, record { up = refl; moment = refl }), record { item_of = record { halted = tt; short = refl; may = tt }; new = refl }), ((refl, tt), ((record { moment = refl; disk = refl }, tt), ((refl, tt), (((refl, record { up = refl; moment = refl }), record { item_of = record { halted = tt; short = refl; may = tt }; new = refl }), (((refl, record { up = refl; moment = refl }), record { item_of = record { halted = tt; short = refl; may = tt }; new = refl }), (((refl, record { up = refl; moment = refl }), record { item_of = record { halted = tt; short = refl; may = tt }; new = refl }), tt)))))))))))));
  halted = refl;
  again = refl;
}

-- the rest of a schedule that fits, behind its front
behind : (d : Standing) (w : World) (front rest : List ScheduleEntry) → Fits d w (front ++ rest) → Fits d (scheduled d.database w front) rest
behind d w [] rest fits = fits
behind d w (entry ∷ front) rest fits = behind d (entered d.database w entry) front rest fits.1

abbrev event_in : NodeEvent → Option (ℕ × NodeEvent) → NodeEvent
event_in e None = e
event_in e (Some o) = o.1

-- in a world without packets none is brought
unsent : (trigger : Trigger) (p : Packet) → occasion one trigger ≡ Some (0, event.Packet p) → ⊥
unsent (Delivery zero) p is = absurd (cc)
unsent (Delivery (suc number)) p is = absurd (cc)
unsent (Beacon_turn server) p is = let same : event.BeaconTurn ≡ event.Packet p = ap (event_in event.BeaconTurn) is in absurd (cc)
unsent (Recover_turn server) p is = let same : event.RecoverTurn ≡ event.Packet p = ap (event_in event.BeaconTurn) is in absurd (cc)
unsent (Asking server id call) p is = let same : event.Ask id call ≡ event.Packet p = ap (event_in event.BeaconTurn) is in absurd (cc)

other_image : (v : Version) → durable v (8 ∷ []) ≡ durable v (9 ∷ []) → ⊥
other_image v is = let byte : 8 ≡ 9 = ap (λ (d : Durable). get_or d.image 0 0) is in omega (arith, byte)

one_more : (n : ℕ) → suc n ≡ n → ⊥
one_more n is = omega (arith, is)

two_more : (n : ℕ) → suc (suc n) ≡ n → ⊥
two_more n is = omega (arith, is)

many : (s : List ℕ) → 8 ∷ 9 ∷ [] ≡ s → length s ≤ 1 → ⊥
many s is few = let two : 2 ≡ length s = ap length is in omega (arith, two, few)

-- over an image that stands for a state: what the database has
written_may : MayCome one_byte (record { image = []; moment = 176; call = 7 ∷ []; outcome = record { reply = call_reply.Done []; image = 7 ∷ [] } })
written_may = record {
  meant = λ s stands. refl;
  grammar = refl;
  rests = λ no. absurd (no refl);
  short = omega arith;
  longer = omega arith;
}

-- over one that stands for none
stateless_may : MayCome one_byte
    (record { image = 8 ∷ 9 ∷ []; moment = 176; call = []; outcome = record { reply = call_reply.Rule 5; image = 8 ∷ 9 ∷ [] } })
stateless_may = record {
  meant = λ s stands. absurd (many s stands.0 stands.1);
  grammar = refl;
  rests = λ no. refl;
  short = tt;
  longer = omega arith;
}

keeps_states : KeepsStates one_byte
keeps_states image s now [] stands = (s, stands)
keeps_states image s now (byte ∷ call) stands = by image (subst (λ (i : List ℕ). length i ≤ 1) (sym stands.0) stands.1)
  where
    by : (image : List ℕ) → length image ≤ 1 → (after : List ℕ) × one_byte.StandsFor (byte ∷ drop 1 image) after
    by [] few = (byte ∷ [], (refl, omega arith))
    by (first ∷ []) few = (byte ∷ [], (refl, omega arith))
    by (first ∷ second ∷ image) few = absurd (omega (arith, few))

other_reply : record { reply = call_reply.Rule 5; image = 7 ∷ [] } ≡ register.call [] 176 (7 ∷ []) → ⊥
other_reply is = let same : call_reply.Rule 5 ≡ call_reply.Done [] = ap (λ (o : Outcome). o.reply) is in absurd (cc)

other_after : record { reply = call_reply.Done []; image = 8 ∷ [] } ≡ register.call [] 176 (7 ∷ []) → ⊥
other_after is = let byte : 8 ≡ 7 = ap (λ (o : Outcome). get_or o.image 0 0) is in omega (arith, byte)

rests_not : (let after : List ℕ = 7 ∷ 7 ∷ [] in after ≡ 8 ∷ 9 ∷ []) → ⊥
rests_not is = let byte : 7 ≡ 8 = ap (λ (bytes : List ℕ). get_or bytes 0 0) is in omega (arith, byte)

of_some : {a b : Bool} → Some a ≡ Some b → a ≡ b
of_some is = cc

-- what is told of the ask behind these may have come
told_may : (told : Told) (call : List ℕ) → Fits one_byte one (leads ++ asked_told told 176 1 call ∷ []) → MayAllCome one_byte told
told_may told call fits = (behind one_byte one leads (asked_told told 176 1 call ∷ []) fits).0.1.item_of.may

pub told_servers_run : ToldServersRun
unfolding step_by opaque_at count_at
told_servers_run = record {
  states = keeps_states;
  fits = ((refl, tt), (((refl, record { up = refl; moment = refl }), record { item_of = record { halted = tt; short = refl; may = tt }; new = refl }), (((refl, record { up = refl; moment = refl }), record { item_of = record { halted = tt; short = refl; may = tt }; new = refl }), (((refl, record { up = refl; moment = refl }), record { item_of = record { halted = tt; short = refl; may = (written_may, tt) }; new = refl }), (((refl, record { up = refl; moment = refl }), record { item_of = record { halted = tt; short = refl; may = (stateless_may, tt) }; new = refl }), tt)))));
  outputs = refl;
}

pub cheats_do_not_fit : CheatsDoNotFit
unfolding step_by opaque_at count_at
cheats_do_not_fit = record {
  packet = λ trigger p progress fits. unsent trigger p fits.0.0.0;
  disk = λ fits. other_image (version 176 3) (behind one_byte one serves (Open 0 176 (durable (version 176 3) (8 ∷ [])) ∷ []) fits).0.0.disk;
  moment = λ fits. one_more 176 (behind one_byte one serves (Open 0 177 (durable (version 176 3) (9 ∷ [])) ∷ []) fits).0.0.moment;
  clock = λ fits. one_more 100 fits.0.0.1.moment;
  id = λ fits. true≢false (sym fits.1.0.1.new);
  short = λ fits. two_more 0 fits.0.1.item_of.short;
  reply = λ fits. other_reply ((told_may (evaluated [] (7 ∷ []) (call_reply.Rule 5) (7 ∷ [])) (7 ∷ []) fits).0.meant [] (refl, omega arith));
  image = λ fits. other_after ((told_may (evaluated [] (7 ∷ []) (call_reply.Done []) (8 ∷ [])) (7 ∷ []) fits).0.meant [] (refl, omega arith));
  rests = λ fits.
      rests_not ((told_may (evaluated (8 ∷ 9 ∷ []) [] (call_reply.Done []) (7 ∷ 7 ∷ [])) [] fits).0.rests (λ is. true≢false (sym (of_some is))));
  halted = λ fits. true≢false (sym (behind one_byte one serves (turns_beacon 176 ∷ []) fits).0.1.item_of.halted);
  tick = λ fits. true≢false (sym fits.0.0);
}
