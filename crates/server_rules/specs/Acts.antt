-- What an act comes to, and what a decision keeps to.
use Rattle.std.specs.Prelude.{◌≡◌, ◌≤◌, ◌+◌, ◌++◌, ◌==◌, ℕ, Bool, true, false, None, Option, Some, List, length}
use Rattle.ubik_types.specs.declared.limits.TheConstants.{MAX_IMAGE}
use Rattle.ubik_types.specs.declared.versions.Version.{Version}
use Rattle.ubik_types.specs.Logged.{too_large}
use Rattle.ubik_types.specs.Version.{IsVersion, version_lt}
use Rattle.ubik_types.specs.Phase as phases
use Rattle.ubik_calls.specs.declared.packets.Body.{Body}
use Rattle.ubik_calls.specs.declared.packets.Body.TheVariants as body
use Rattle.cell_model.specs.Evaluating.{Databases}
use Rattle.cell_model.specs.declared.events.Output.{Output}
use Rattle.cell_model.specs.Node.{ReceivedText, Server, halted_from}
use Rattle.cell_model.specs.Pieces.{piece_from}
use Rattle.cell_model.specs.Receiver.{answers_version_kept, committed_by, relabelled_by}
use Rattle.cell_model.specs.Recovery.{installed, relabelled_to, sent_piece, text_with}
use Rattle.cell_model.specs.Step.{Member, Shown, Stepped, followed, outputs_of, quiet, sends_to, showing, with_phase}
use Rattle.cell_model.specs.Writes.{settled, settled_with_turns}
use Rattle.ubik_recovery.specs.declared.texts.TextSource.{TextSource}
use Rattle.ubik_recovery.specs.Record.{RecoveryRecord, is_fetch, polled_of}
use Rattle.ubik_recovery.specs.Text.{IsNext, received_bytes, with_piece}
use Rattle.server_state.specs.declared.state.State.{State}
use Rattle.server_state.specs.Plain.{IsPlainBody}
use Rattle.server_state.specs.Recovering.{IsOfCell, IsServing}
use Rattle.server_state.specs.State.{Keeps, server_of}
use Rattle.server_rules.specs.declared.acts.Act.{Act}
use Rattle.server_rules.specs.declared.acts.Act.TheVariants as act
use Rattle.server_rules.specs.declared.acts.TextEnd.{TextEnd}
use Rattle.server_rules.specs.declared.acts.TextEnd.TheVariants as text_end

-- a piece of the own image, that was asked for or is to be taken
abbrev pub own_piece : Server → ℕ → ℕ → (asked : Bool) → Body
own_piece s poll at true = body.Piece poll s.version (length s.image) at (piece_from s.image at)
own_piece s poll at false = sent_piece s poll at

-- what follows once another server's whole image is installed
abbrev pub then_ended : Member → TextEnd → Server → Stepped
then_ended m (text_end.Told host) s = answers_version_kept m host s
then_ended m (text_end.Waits next) s = quiet (with_phase s (phases.Relabel (polled_of next)))
then_ended m (text_end.Relabelled next new) s = followed (relabelled_to m s (polled_of next) new) (settled m)

-- the step of the rules that an act comes to
abbrev pub stepped_by : Databases → Member → ℕ → List Bool → Server → Act → Stepped
stepped_by dbs m now short s act.Rest = quiet s
stepped_by dbs m now short s (act.Send host b) = showing s (sends_to m host b)
stepped_by dbs m now short s (act.SendPiece host poll at asked) = showing s (sends_to m host (own_piece s poll at asked))
stepped_by dbs m now short s (act.TakeVersion host new) = followed (relabelled_by s new) (answers_version_kept m host)
stepped_by dbs m now short s (act.TakeWrite host new changes) = followed (committed_by s new changes) (answers_version_kept m host)
stepped_by dbs m now short s (act.EndText end source at bytes) =
    followed (installed s source.version (with_piece source at bytes.now s.received).bytes) (then_ended m end)
stepped_by dbs m now short s (act.Relabel next new) = followed (relabelled_to m s (polled_of next) new) (settled m)
stepped_by dbs m now short s act.Settle = settled_with_turns dbs m s now short

-- another version may be taken over
pub record MayTake (st : State) (new : Version) : Type 0 where
  pub rests : ¬ IsServing st.recovery
  pub version : IsVersion new
  pub newer : version_lt st.version new ≡ true

-- a recovery has its place in the cell, and asks for no image
pub record IsOver (st : State) (next : RecoveryRecord) : Type 0 where
  pub of_cell : IsOfCell (length st.cell) next
  pub phase : is_fetch next.phase ≡ false

-- what may follow once an image of this version is installed
abbrev pub CanFollow : State → Version → TextEnd → Type 0
CanFollow st version (text_end.Told host) = Unit {0}
CanFollow st version (text_end.Waits next) = IsOver st next
CanFollow st version (text_end.Relabelled next new) = IsOver st next × IsVersion new × (version_lt version new ≡ true)

-- whether a piece at 0 may begin a text: one that is fetched, while no byte of it is there
abbrev pub begins_text : TextEnd → Option ReceivedText → Bool
begins_text (text_end.Told host) text = true
begins_text _ text = length (received_bytes text) == 0

-- a piece is the last one of an image
pub record EndsText (may_begin : Bool) (text : Option ReceivedText) (source : TextSource) (at : ℕ) (bytes : List ℕ) : Type 0 where
  pub takes : text_with may_begin source.server source.version source.total at bytes text ≡ Some (with_piece source at bytes text)
  pub next : IsNext at text
  pub whole : at + length bytes ≡ source.total
  pub fits : source.total ≤ MAX_IMAGE

-- what an act asks for: what the disk is to do can be done, and a packet has a spelling
abbrev pub CanAct : State → Act → Type 0
CanAct st act.Rest = Unit {0}
CanAct st (act.Send host b) = IsPlainBody b
CanAct st (act.SendPiece host poll at asked) = at ≤ length st.image
CanAct st (act.TakeVersion host new) = MayTake st new
CanAct st (act.TakeWrite host new changes) = MayTake st new × (too_large 0 (length st.image) changes ≡ None)
CanAct st (act.EndText end source at bytes) =
    MayTake st source.version × CanFollow st source.version end × EndsText (begins_text end st.recovery.text) st.recovery.text source at bytes.now
CanAct st (act.Relabel next new) = MayTake st new × IsOfCell (length st.cell) next
CanAct st act.Settle = Unit {0}

-- what an act needs of the disk: 1, that it tells its files where there is another server; 2, that it tells them; 3, that too, and calls that
-- wait may have their turns
abbrev pub act_need : Act → ℕ
act_need act.Rest = 0
act_need (act.Send host b) = 0
act_need (act.TakeVersion host new) = 0
act_need (act.Relabel next new) = 1
act_need act.Settle = 3
act_need _ = 2

-- behind so many outputs there is room for what it puts out
abbrev pub HasRoom : Act → ℕ → Type 0
HasRoom act.Rest outputs = Unit {0}
HasRoom (act.Send host b) outputs = outputs ≤ 120
HasRoom (act.Relabel next new) outputs = outputs ≤ 120
HasRoom _ outputs = outputs ≤ 100

-- memory may run out in it
abbrev pub MayEndShort : Act → Type 0
MayEndShort act.Rest = ⊥
MayEndShort (act.Send host b) = ⊥
MayEndShort act.Settle = ⊥
MayEndShort _ = Unit {0}

-- the disk may fail in it
abbrev pub MayFail : Act → Type 0
MayFail act.Rest = ⊥
MayFail (act.Send host b) = ⊥
MayFail _ = Unit {0}

-- How a decision leaves the state. The act can be done. Place, version and image stay. Where the disk may fail in the act, a halted server
-- would tell the same as before; where memory may run out in it, nothing changed.
pub record Leaves (old new : State) (act : Act) : Type 0 where
  pub can : CanAct new act
  pub kept : Keeps old new
  pub halts : MayFail act → halted_from (server_of new) ≡ halted_from (server_of old)
  pub stays : MayEndShort act → server_of new ≡ server_of old

-- A decision has put this out, and its act does the rest of the step.
pub record GoesOn (t u : Stepped) (before after : List Output) : Type 0 where
  pub shown : List Shown
  pub outputs : after ≡ before ++ outputs_of shown
  pub step : t ≡ record { server = u.server; calls = u.calls; shown = shown ++ u.shown }
