-- What becomes of a call.
use Rattle.std.specs.Prelude.{◌≡◌, ◌≤◌, ◌+◌, ℕ, Bool, List, [], ◌∷◌, length, IfSome, IsSome, Result, Ok, Err}
use Rattle.disk_base.specs.declared.disks.Disk.{Ghosts}
use Rattle.disk_base.specs.Runs.{OnlyReads}
use Rattle.ubik_calls.specs.declared.replies.Reply.{Reply}
use Rattle.ubik_calls.specs.declared.replies.Reply.TheVariants as reply
use Rattle.ubik_store.specs.declared.faults.StoreFault.{StoreFault}
use Rattle.db_image.specs.Database.{Database}
use Rattle.db_image.specs.Standing.{Standing}
use Rattle.cell_model.specs.declared.events.Output.{Output}
use Rattle.cell_model.specs.declared.events.Output.TheVariants as output
use Rattle.cell_model.specs.Asks.{put_into_line, read, read_reply}
use Rattle.cell_model.specs.Node.{Server}
use Rattle.cell_model.specs.Step.{Basis, Evaluation, Member, Stepped, is_short, refusing, showing}
use Rattle.cell_model.specs.Writes.{announced_image, write_turn}
use Rattle.ubik_node.specs.declared.evaluations.Evaluation as code
use Rattle.ubik_node.specs.declared.serving.Turn.{Turn}
use Rattle.ubik_node.specs.declared.serving.Turn.TheVariants as turn
use Rattle.ubik_node.specs.Choices.{Choices, dbs_of}
use Rattle.ubik_node.specs.Node.{Ends, Held}
use Rattle.server_state.specs.Plain.{IsPlainReply}

-- what a call leads to
abbrev pub TurnsTo : Database → Member → Server → ℕ → ℕ → List ℕ → Bool → Turn → Stepped → Type 0
TurnsTo db m s now id call short (turn.Refuse r) t = t ≡ showing s (refusing id r ∷ [])
TurnsTo db m s now id call short turn.Read t = (basis : Basis) × (t ≡ read db s now id call (announced_image s) basis short)
TurnsTo db m s now id call short turn.ReadOwn t = (basis : Basis) × (t ≡ read db s now id call s.image basis short)
TurnsTo db m s now id call short turn.Wait t = IfSome s.flight (λ f. t ≡ put_into_line s id call short f)
TurnsTo db m s now id call short turn.Write t = t ≡ write_turn db m s now id call short

-- a refusal has a spelling
abbrev pub IsPlainTurn : Turn → Type 0
IsPlainTurn (turn.Refuse r) = IsPlainReply r
IsPlainTurn _ = Unit {0}

-- the call is evaluated
abbrev pub IsEvaluation : Turn → Type 0
IsEvaluation turn.Read = Unit {0}
IsEvaluation turn.ReadOwn = Unit {0}
IsEvaluation turn.Write = Unit {0}
IsEvaluation _ = ⊥

abbrev pub IsWait : Turn → Type 0
IsWait turn.Wait = Unit {0}
IsWait _ = ⊥

abbrev pub IsWrite : Turn → Type 0
IsWrite turn.Write = Unit {0}
IsWrite _ = ⊥

-- a call that reads an image was answered, or found no memory; or the disk failed in it
abbrev pub ReadsFrom : {D : Type 0} → Ghosts D → Standing → (old new : Held D) → (image : List ℕ) → (now id : ℕ) → List ℕ → (before after : List Output)
    → Result (Unit {0}) StoreFault → Type 0
ReadsFrom g d old new image now id call before after r =
    (o : Choices d)
    × ((basis : Basis) → Ends g (IsSome (g.files old.store.disk)) (read (dbs_of o 0) old.server now id call image basis (is_short o.short)) before after old new r)

-- a call was only replied to, and nothing changed
pub record IsRepliedTo {D : Type 0} (g : Ghosts D) (before after : List Output) (old new : Held D) : Type 0 where
  pub server : new.server ≡ old.server
  pub reads : OnlyReads g old.store.disk new.store.disk ⊥
  pub few : length after ≤ length before + 1

-- the reply to a call that reads, given what the database made of it
abbrev pub IsReadReply : Result code.Evaluation StoreFault → Reply → Type 0
IsReadReply (Ok made) r = (id : ℕ) (e : Evaluation) → (read_reply id e made.reply).output ≡ output.Reply id r
IsReadReply (Err why) r = r ≡ reply.NoMemory
