-- What a verdict on a writing call comes to.
use Rattle.std.specs.Prelude.{◌≡◌, ◌<◌, ◌≤◌, ℕ, None, List, [], ◌∷◌, length}
use Rattle.ubik_types.specs.declared.images.Change.{Change}
use Rattle.ubik_types.specs.declared.limits.TheConstants.{MAX_IMAGE}
use Rattle.ubik_types.specs.declared.versions.TheConstants.{MAX_COUNTER}
use Rattle.ubik_types.specs.Image.{effect}
use Rattle.ubik_types.specs.Logged.{logged, too_large}
use Rattle.db_image.specs.Blocks.{PutSome}
use Rattle.db_image.specs.Database.{Database}
use Rattle.db_image.specs.declared.services.CallReply.{CallReply}
use Rattle.cell_model.specs.declared.events.Output.{Output}
use Rattle.cell_model.specs.declared.events.Output.TheVariants as output
use Rattle.cell_model.specs.Durable.{Made}
use Rattle.cell_model.specs.Node.{Server}
use Rattle.cell_model.specs.Step.{Member, Stepped, outputs_of}
use Rattle.cell_model.specs.Writes.{last_counter, turned, written_in}
use Rattle.state_laws.specs.Over.{over}
use Rattle.ubik_store.specs.Gaps.{CutsNoPut}
use Rattle.server_state.specs.Plain.{IsAnswer, IsPlainReply}
use Rattle.ubik_node.specs.declared.verdicts.Verdict.{Verdict}
use Rattle.ubik_node.specs.declared.verdicts.Verdict.TheVariants as verdict

-- a step leads to this server, puts this out, and makes these durable calls
pub record Leads (t : Stepped) (after : Server) (out : List Output) (made : List Made) : Type 0 where
  pub server : t.server ≡ after
  pub outputs : outputs_of t.shown ≡ out
  pub calls : t.calls ≡ made

-- what may be committed over an image: changes within the limits, which lead to the new image
pub record IsWritten (old new : List ℕ) (changes : List Change) : Type 0 where
  pub leads : effect old changes ≡ new
  pub kept : logged (length old) changes ≡ changes
  pub within : too_large 0 (length old) changes ≡ None
  pub fits : length new ≤ MAX_IMAGE
  pub puts : CutsNoPut changes

-- A reply has a spelling. Changes are to be made only where there is a next counter, within the limits, whatever they lead to; each puts some
-- bytes, and so their text is short.
abbrev pub CanBeMade : Server → Verdict → Type 0
CanBeMade s (verdict.Reply r) = IsPlainReply r
CanBeMade s verdict.NewPoll = Unit {0}
CanBeMade s (verdict.Commit answer changes) =
    (s.version.counter < MAX_COUNTER) × (too_large 0 (length s.image) changes ≡ None) × IsAnswer answer × PutSome changes

-- the step at a turn, given the verdict on its call, which leads to this image
abbrev pub Judges : Member → Server → (now id : ℕ) → (call image : List ℕ) → Verdict → Stepped → Type 0
Judges m s now id call image (verdict.Reply told) t = Leads t s (output.Reply id told ∷ []) []
Judges m s now id call image verdict.NewPoll t = t ≡ last_counter m s now id
Judges m s now id call image (verdict.Commit answer changes) t =
    IsWritten s.image image changes × (t ≡ written_in m s now id call answer image changes s.phase)

-- So over an image that is not told: a reply is one over each image of its length, and what else is done is so over some image of it.
abbrev pub JudgesSome : Database → Member → Server → (now id : ℕ) → (call : List ℕ) → CallReply → Verdict → Type 0
JudgesSome db m s now id call given (verdict.Reply told) =
    (old : List ℕ) → length old ≡ length s.image → (image : List ℕ) × (length old ≤ length image)
    × Leads (turned db m (over s old) now id call image given) (over s old) (output.Reply id told ∷ []) []
JudgesSome db m s now id call given v =
    (old image : List ℕ) × (length old ≡ length s.image) × (length old ≤ length image)
    × Judges m (over s old) now id call image v (turned db m (over s old) now id call image given)
