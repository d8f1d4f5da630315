-- Files stand for one version and one image at most.
use Rattle.std.proofs.Common.{◌≡◌, ℕ, List, Some, sym, ◌∙◌}
use Rattle.disk_base.specs.Files.{Files}
use Rattle.ubik_types.specs.declared.versions.Version.{Version}
use Rattle.incoming_file.specs.Incoming.{IsIncoming}
use Rattle.incoming_file.proofs.Opens.{open_once}
use Rattle.ubik_store.specs.Files.{StandsFor}
use Rattle.ubik_store.specs.Files.StandsFor.{by_incoming, by_log, by_label}
use Rattle.ubik_store.proofs.Opened.{stands_by_log_once, stands_by_label_once}

-- with an open incoming file the files stand for its version and its image
pub open_stands_once : (fs : Files) (v w : Version) (a b : List ℕ) → IsIncoming fs.incoming v a → StandsFor fs w b → (v ≡ w) × (a ≡ b)
open_stands_once fs v w a b opens (by_incoming _ _ _ other fits) = open_once fs.incoming v w a b opens other
open_stands_once fs v w a b opens (by_log _ _ _ is fits) = absurd (is.ignored v a opens)
open_stands_once fs v w a b opens (by_label _ _ ignored discarded labelled) = absurd (ignored v a opens)

-- and any files for one version and one image
pub stands_once : (fs : Files) (v w : Version) (a b : List ℕ) → StandsFor fs v a → StandsFor fs w b → (v ≡ w) × (a ≡ b)
stands_once fs v w a b (by_incoming _ _ _ opens fits) two = open_stands_once fs v w a b opens two
stands_once fs v w a b (by_log _ changes _ is fits) two =
    let same = stands_by_log_once fs w v b changes is two in
    (sym same.0, sym same.1)
stands_once fs v w a b (by_label _ _ ignored discarded labelled) two =
    let same = stands_by_label_once fs w b ignored discarded two in
    let versions : Some v ≡ Some w = sym labelled ∙ same.0 in
    (cc, sym same.1)
