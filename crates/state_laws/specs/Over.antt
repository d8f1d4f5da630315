-- What the steps of a server have of the bytes of its image: nothing but what evaluations and changes have (own).
use Rattle.std.specs.Prelude.{◌≡◌, ◌<◌, ◌≤◌, ◌⊎◌, ◌^◌, ℕ, Bool, false, None, List, [], length, count_by}
use Rattle.ubik_types.specs.declared.images.Change.{Change}
use Rattle.ubik_types.specs.declared.limits.TheConstants.{MAX_IMAGE}
use Rattle.ubik_types.specs.Logged.{too_large}
use Rattle.xdr_base.specs.ChangeText.{text_of}
use Rattle.db_image.specs.Blocks.{PutSome, changes_between}
use Rattle.db_image.specs.Database.{Database}
use Rattle.cell_model.specs.Lapse.{lapsed}
use Rattle.cell_model.specs.Node.{Server}
use Rattle.cell_model.specs.Step.{Member, Shown, Stepped, cell_size, is_reply}
use Rattle.cell_model.specs.Writes.{is_free, settled, write_turn}

-- the server with another image
abbrev pub over : Server → List ℕ → Server
over s image = record s { image = image }

-- a step that leads to it
abbrev pub stepped_over : List ℕ → Stepped → Stepped
stepped_over image t = record t { server = over t.server image }

-- the lapse, and what holders lead to, are the same over each image
pub record ReadsNoImage : Type 0 where
  pub lapse : (m : Member) (s : Server) (now : ℕ) (image : List ℕ) → lapsed m (over s image) now ≡ stepped_over image (lapsed m s now)
  pub holders : (m : Member) (s : Server) (image : List ℕ) → settled m (over s image) ≡ stepped_over image (settled m s)

-- Changes to an image of one length, of the places and lengths that changes to another image have: to as long an image, and too large or none
-- where those are.
pub record IsLikeChanges (head block : ℕ) (old new other : List ℕ) : Type 0 where
  pub image : List ℕ
  pub len : length image ≡ length new
  pub large : (sum size : ℕ) → too_large sum size (changes_between head block other image) ≡ too_large sum size (changes_between head block old new)
  pub none : changes_between head block old new ≡ [] → changes_between head block other image ≡ []

-- each image has such changes
abbrev pub HasLikeChanges : Type 0
HasLikeChanges = (head block : ℕ) (old new other : List ℕ) → length other ≡ length old → IsLikeChanges head block old new other

-- Changes that pass no limit lead to no image that is longer than one may be; where each puts some bytes, their text is short.
pub record ChangesFit : Type 0 where
  pub image : (head block : ℕ) (old new : List ℕ) → 0 < block → length old ≤ MAX_IMAGE → too_large 0 (length old) (changes_between head block old new) ≡ None
      → length new ≤ MAX_IMAGE
  pub text : (len : ℕ) (changes : List Change) → PutSome changes → too_large 0 len changes ≡ None → length (text_of changes) < 2 ^ 32

-- how many replies these are
abbrev pub replies : List Shown → ℕ
replies shown = count_by (λ (one : Shown). is_reply one.output) shown

-- after a turn no write can begin; or its call was replied to, and nothing changed
abbrev pub IsTurn : Server → Stepped → Type 0
IsTurn s t = (is_free t.server ≡ false) ⊎ ((t.server ≡ s) × (t.calls ≡ []) × (replies t.shown ≡ 1))

-- so is each turn of a writing call at a server with others
abbrev pub TurnsReply : Type 0
TurnsReply =
    (m : Member) (s : Server) (now id : ℕ) (call : List ℕ) → 1 < cell_size m → (db : Database) (short : Bool) → IsTurn s (write_turn db m s now id call short)
