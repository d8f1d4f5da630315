-- The text that a server receives of another one's image.
use Rattle.std.specs.Option.{ForSome}
use Rattle.std.specs.Prelude.{ℕ, ◌≤◌, List, length}
use Rattle.ubik_types.specs.declared.limits.TheConstants.{MAX_IMAGE}
use Rattle.ubik_types.specs.declared.versions.Version.{Version}
use Rattle.ubik_types.specs.Phase.{Polled}
use Rattle.cell_model.specs.Node.{Server}
use Rattle.cell_model.specs.Recovery.{fetch_installed, relabelled}
use Rattle.cell_model.specs.Step.{Member, Stepped, followed}
use Rattle.ubik_recovery.specs.declared.texts.TextBefore.{TextBefore}
use Rattle.ubik_recovery.specs.declared.texts.TextBefore.TheVariants.{Other, Shorter}
use Rattle.ubik_recovery.specs.Text.{received_bytes}
use Rattle.server_state.specs.declared.state.State.{State}

-- the fetched image is whole: it is installed where its version is still above the own one, and then the own database is relabelled
abbrev pub fetched : Member → Server → ℕ → Polled → Version → List ℕ → Stepped
fetched m s now poll best image = followed (fetch_installed s best image) (λ after. relabelled m after poll now)

-- what has come of another server's image
abbrev pub received_in : State → List ℕ
received_in st = received_bytes st.recovery.text

-- the text that a piece took the place of was no longer than an image
abbrev pub IsShortBefore : TextBefore → Type 0
IsShortBefore (Other text) = ForSome text (λ own. length own.text ≤ MAX_IMAGE)
IsShortBefore (Shorter source len) = Unit {0}
