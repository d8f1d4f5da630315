-- Files that stand for no database.
use Rattle.std.proofs.Common.{◌≡◌, ℕ, List, refl, ap, ◌∙◌}
use Rattle.disk_base.specs.Files.{no_files}
use Rattle.page_file.specs.Label.{version_of_database}
use Rattle.ubik_types.specs.declared.versions.Version.{Version}
use Rattle.ubik_store.proofs.Once.{stands_once}
use Rattle.ubik_store.proofs.Rests.{at_rest_stands}
use Rattle.cell_model.specs.Durable.{Durable, durable, no_database}
use Rattle.ubik_node.specs.Disk.{StandsAs}

-- empty files stand for no database
pub fresh_stands : StandsAs no_database no_files
unfolding version_of_database
fresh_stands =
    at_rest_stands no_files no_database.version no_database.image (record { incoming = refl; log = refl; label = refl; content = refl })

pub fresh_is : (d : Durable) → StandsAs d no_files → d ≡ no_database
fresh_is d stands =
    let same = stands_once no_files d.version no_database.version d.image no_database.image stands fresh_stands in
    ap (λ (v : Version). durable v d.image) same.0 ∙ ap (λ (i : List ℕ). durable no_database.version i) same.1
